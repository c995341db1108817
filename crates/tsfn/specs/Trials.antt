-- What a call of a function comes out as.
use Rattle.std.specs.Prelude.{ℕ, Option, Some, None}
use Rattle.napi_types.specs.declared.status.Status.{Status}
use Rattle.napi_types.specs.declared.status.Status.TheVariants as status
use Rattle.tsfn.specs.declared.function.Tried.{Tried}
use Rattle.tsfn.specs.declared.function.Tried.TheVariants.{Answer, Wait}

-- a call with this status, none where it waits: it tells the number that its item has, exactly where that was accepted
abbrev pub tried_of : Option Status → ℕ → Tried
tried_of None number = Wait
tried_of (Some status.Ok) number = Answer status.Ok (Some number)
tried_of (Some s) number = Answer s None
