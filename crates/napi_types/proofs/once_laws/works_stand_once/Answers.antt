use Rattle.napi_types.proofs.all_runs.SingleWorks.{works-stand-once}
use Rattle.napi_types.proofs.once_laws.works_stand_once.Goals as goal

pub returns : goal.returns
returns c = works-stand-once
