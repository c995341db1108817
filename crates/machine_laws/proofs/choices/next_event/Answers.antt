use Rattle.machine_laws.proofs.Choosing.{none-in-frames, begins-tell, own-first, hub-last, hub-in-phase}
use Rattle.machine_laws.proofs.Others.{others-come}
use Rattle.machine_laws.proofs.choices.next_event.Goals as goal

pub returns-clause-frames : goal.returns-clause-frames
returns-clause-frames c = none-in-frames

pub returns-clause-others : goal.returns-clause-others
returns-clause-others c = others-come

pub returns-clause-begins : goal.returns-clause-begins
returns-clause-begins c = begins-tell

pub returns-clause-own : goal.returns-clause-own
returns-clause-own c = own-first

pub returns-clause-hub : goal.returns-clause-hub
returns-clause-hub c = hub-last

pub returns-clause-phase : goal.returns-clause-phase
returns-clause-phase c = hub-in-phase
