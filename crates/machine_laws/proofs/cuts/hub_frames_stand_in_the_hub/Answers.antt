use Rattle.machine_laws.proofs.StandingMachines.{hub-duties-stand, frames-stand}
use Rattle.machine_laws.proofs.cuts.hub_frames_stand_in_the_hub.Goals as goal

pub returns-clause-duties : goal.returns-clause-duties
returns-clause-duties c = hub-duties-stand

pub returns-clause-frames : goal.returns-clause-frames
returns-clause-frames c = frames-stand
