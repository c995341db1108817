use Rattle.napi_types.proofs.runs.LoopEnds.{loops-end-for-the-reason, loops-end-idle-or-quiet}
use Rattle.napi_types.proofs.hub_laws.loops_end_for_the_reason.Goals as goal

pub returns-clause-reason : goal.returns-clause-reason
returns-clause-reason c = loops-end-for-the-reason

pub returns-clause-quiet : goal.returns-clause-quiet
returns-clause-quiet c = loops-end-idle-or-quiet
