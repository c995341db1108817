-- The pending exception and the last status.
use Rattle.std.specs.Prelude.{ℕ, Option, None}
use Rattle.napi_types.specs.declared.status.Status.{Status}
use Rattle.napi_types.specs.declared.status.Status.TheVariants as status

-- the number in the store of the value that is the pending exception, where one is pending, and the status of the last call
pub record ExceptionState : Type 0 where
  pub pending : Option ℕ
  pub last : Status

-- no exception is pending, and no call was made
abbrev pub no_exception : ExceptionState
no_exception = record { pending = None; last = status.Ok }
