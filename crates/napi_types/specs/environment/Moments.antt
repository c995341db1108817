-- A call at a wrong moment: while an exception is pending, or in the teardown.
use Rattle.std.specs.Prelude.{ℕ, Bool, true, false, ◌&&◌, ◌||◌, cond, Option, is_some}
use Rattle.std.specs.Option.{option_or}
use Rattle.napi_types.specs.declared.call.Call.{Call}
use Rattle.napi_types.specs.declared.entry.Phase.{Phase}
use Rattle.napi_types.specs.declared.status.Status.{Status}
use Rattle.napi_types.specs.declared.entry.Phase.TheVariants as phase
use Rattle.napi_types.specs.declared.status.Status.TheVariants as status
use Rattle.napi_types.specs.plain.Guards.{is_guarded, is_registering}
use Rattle.napi_types.specs.plain.Lists.{when}
use Rattle.napi_types.specs.plain.Numbers.{is_ten_or_later}
use Rattle.napi_types.specs.environment.Environment.{Environment}

-- A CALL AT A WRONG MOMENT
-- from the start of the teardown on
abbrev pub is_tearing : Phase → Bool
is_tearing phase.Hooks = true
is_tearing phase.Drain = true
is_tearing phase.Finals = true
is_tearing phase.Gone = true
is_tearing _ = false

-- why a guarded call is refused in the teardown: from version 10 on since no JavaScript can run, at version 9 as if an exception were pending
abbrev pub tearing_status : ℕ → Status
tearing_status version = cond (is_ten_or_later version) status.CannotRunJs status.PendingException

-- why a guarded call is refused: a pending exception comes first
abbrev pub guard_status : Environment → Status
guard_status e = cond (is_some e.pending) status.PendingException (tearing_status e.version)

-- a guarded call is refused while an exception is pending, and in the teardown
abbrev pub guard_refusal : Environment → Call → Option Status
guard_refusal e c = when (is_guarded c && (is_some e.pending || is_tearing e.phase)) (guard_status e)

-- a call that registers is refused in the teardown
abbrev pub registering_refusal : Environment → Call → Option Status
registering_refusal e c = when (is_registering c && is_tearing e.phase) status.GenericFailure

-- the first of both that applies
abbrev pub refusal_by_moment : Environment → Call → Option Status
refusal_by_moment e c = option_or (guard_refusal e c) (registering_refusal e c)
