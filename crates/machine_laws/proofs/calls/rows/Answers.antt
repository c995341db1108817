use Rattle.std.proofs.Common.{refl}
use Rattle.napi_types.specs.declared.call.Call.TheVariants as call
use Rattle.machine_laws.specs.CallLaws.{EveryCallHasARow}
use Rattle.machine_laws.proofs.calls.rows.Goals as goal

by-call : EveryCallHasARow
by-call e (call.CallFunction receiver f args) n = refl
by-call e c n = refl

pub returns-clause-one : goal.returns-clause-one
returns-clause-one c = by-call
