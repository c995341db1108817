-- What is known of a call by itself.
use Rattle.std.proofs.Common.{◌≤◌, arith}
use Rattle.napi_types.specs.declared.call.Call.{Call}
use Rattle.napi_types.specs.declared.call.Call.TheVariants as call
use Rattle.napi_types.specs.plain.Room.{need}

-- each call needs a place for its entry
pub needs-place : (c : Call) → 1 ≤ need c
needs-place (call.CallFunction receiver f args) = omega arith
needs-place c = omega arith
