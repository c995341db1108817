use Rattle.machine_laws.proofs.KeptValues.{new-keep-theirs, keep-until-they-finish, finished-keep-none}
use Rattle.machine_laws.proofs.runs.functions_keep_their_value.Goals as goal

pub returns-clause-new : goal.returns-clause-new
returns-clause-new c = new-keep-theirs

pub returns-clause-kept : goal.returns-clause-kept
returns-clause-kept c = keep-until-they-finish

pub returns-clause-finished : goal.returns-clause-finished
returns-clause-finished c = finished-keep-none
