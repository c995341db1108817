-- Which calls make a duty.
use Rattle.std.specs.Prelude.{Bool, false, is_some}
use Rattle.napi_types.specs.declared.call.Call.{Call}
use Rattle.napi_types.specs.declared.call.Call.TheVariants as call
use Rattle.napi_types.specs.plain.Guards.{is_registering}

-- a call that registers makes a duty where it is accepted, but for two: a work makes its duty as it is queued, and a thread-safe function one where it has a
-- finalizer
abbrev pub makes_duty : Call → Bool
makes_duty (call.CreateAsyncWork _ _ _) = false
makes_duty (call.CreateThreadsafeFunction _ _ _ _ finalizer _) = is_some finalizer
makes_duty c = is_registering c
