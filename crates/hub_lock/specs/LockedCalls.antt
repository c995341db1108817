-- What a call of a thread at the lock leaves of its pass.
use Rattle.std.specs.Prelude.{ℕ, Bool, true, false, MatchBool}
use Rattle.napi_types.specs.declared.call.Call.{Call}
use Rattle.napi_types.specs.declared.entry.Reply.{Reply}
use Rattle.napi_types.specs.declared.status.Status.{Status}
use Rattle.napi_types.specs.declared.status.Status.TheVariants as status
use Rattle.turn_lock.specs.Passes.{PassState}
use Rattle.shared_hub.specs.declared.naming.Numbers.{Numbers}
use Rattle.shared_hub.specs.declared.tries.ThreadTried.{ThreadTried}
use Rattle.shared_hub.specs.declared.tries.ThreadTried.TheVariants as tried
use Rattle.shared_hub.specs.SharedTries.{thread_entry}
use Rattle.hub_lock.specs.LockedTurns.{StopsFor}
use Rattle.hub_lock.specs.SeenTurns.{thread_of, Looked, Anything, Added}

-- one turn of it: the pass added the call's entry, or saw that it waits, or why it stops
abbrev pub AfterTry : Numbers → PassState → ℕ → Call → ThreadTried → PassState → Type 0
AfterTry n old k c (tried.Reply r) new = Added n old new (thread_entry (thread_of old.number) k c r)
AfterTry n old k c tried.Wait new = Looked n old new Anything
AfterTry n old k c (tried.Stop s) new = Looked n old new (StopsFor n (thread_of old.number) c s)

-- the statuses of a call that stops
abbrev pub is_stop : Status → Bool
is_stop status.NoMemory = true
is_stop status.TraceFull = true
is_stop _ = false

-- all of it. A call that stops leaves no entry, and the history that was seen shows why it stops
abbrev pub CalledAtLock : Numbers → PassState → ℕ → Call → Reply → PassState → Type 0
CalledAtLock n old k c r new =
    MatchBool (is_stop r.status) (Looked n old new (StopsFor n (thread_of old.number) c r.status)) (Added n old new (thread_entry (thread_of old.number) k c r))
