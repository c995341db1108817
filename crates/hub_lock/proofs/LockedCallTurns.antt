-- Turns of a thread's call.
use Rattle.std.proofs.Common.{◌≡◌, ℕ, ◌+◌, ◌-◌, ◌<◌, List, sym, subst, arith, true, MatchBool}
use mathlib.Core.List.{IsPrefix}
use Rattle.napi_types.specs.declared.call.Call.{Call}
use Rattle.napi_types.specs.declared.entry.Out.TheVariants as out
use Rattle.napi_types.specs.declared.entry.Reply.{Reply}
use Rattle.napi_types.specs.declared.status.Status.{Status}
use Rattle.napi_types.specs.declared.status.Status.TheVariants as status
use Rattle.napi_types.specs.plain.Replies.{plain}
use Rattle.napi_types.specs.hub.HubCalls.{is_thread_call}
use Rattle.hub_lock.proofs.NoStops.{added-no-stop}
use Rattle.turn_lock.specs.declared.told.Row.{Row}
use Rattle.turn_lock.specs.Passes.{PassState}
use Rattle.turn_lock.specs.Rows.{GoesOn}
use Rattle.shared_hub.specs.declared.naming.Numbers.{Numbers}
use Rattle.shared_hub.specs.declared.tries.ThreadTried.{ThreadTried}
use Rattle.shared_hub.specs.declared.tries.ThreadTried.TheVariants as tried
use Rattle.shared_hub.specs.HubRows.{rows_of}
use Rattle.shared_hub.specs.HubStates.{HubSeen}
use Rattle.shared_hub.specs.KeptHubs.{IsLedHub}
use Rattle.shared_hub.specs.SharedTries.{thread_entry}
use Rattle.hub_lock.specs.LockedTurns.{StopsFor, AfterCall}
use Rattle.hub_lock.specs.SeenTurns.{Anything, Looked, HasLooked, Added}
use Rattle.hub_lock.specs.LockedCalls.{AfterTry, CalledAtLock}
use Rattle.hub_lock.proofs.LookingTurns.{back, goes-on-none, goes-on-one, looked, added, looks, adds}

again : (m number : ℕ) → 0 < m → m ≡ number → 1 + (m - 1) ≡ number
again m number some is = omega (arith, some, is)

-- the rows go on with the pass's own
pub call-goes-on : (n : Numbers) (m k : ℕ) (c : Call) (s0 s1 : HubSeen) (r : ThreadTried) → AfterCall n (m - 1) k c s0 r s1 → (number : ℕ) → 0 < m → m ≡ number
    → GoesOn number (rows_of n.threads s0.history) (rows_of n.threads s1.history)
call-goes-on n m k c s0 s1 (tried.Reply r) a number some is = goes-on-one number n.threads s0 s1 (thread_entry (m - 1) k c r) (again m number some is) a.history
call-goes-on n m k c s0 s1 tried.Wait a number some is = goes-on-none number n.threads s0 s1 a
call-goes-on n m k c s0 s1 (tried.Stop s) a number some is = goes-on-none number n.threads s0 s1 a.0

-- what the turn leaves of the pass
pub call-turn : (n : Numbers) (old new h : PassState) (taken : List Row) (s0 s1 : HubSeen) (m k : ℕ) (c : Call) (r : ThreadTried) → AfterCall n (m - 1) k c s0 r s1 → m ≡ old.number
    → h ≡ record old { holds = true } → taken ≡ rows_of n.threads s0.history → IsPrefix old.seen (rows_of n.threads s0.history) → IsLedHub n s1
    → new ≡ back h taken (rows_of n.threads s1.history) → AfterTry n old k c r new
call-turn n old new h taken s0 s1 m k c (tried.Reply r) a e is taken_is p led back_is =
    subst (λ t. Added n old new (thread_entry (t - 1) k c r)) e (added n old new h taken s0 s1 is taken_is p led back_is (thread_entry (m - 1) k c r) a.history)
call-turn n old new h taken s0 s1 m k c tried.Wait a e is taken_is p led back_is = looked n old new h taken s0 s1 is taken_is p led back_is Anything a tt
call-turn n old new h taken s0 s1 m k c (tried.Stop s) a e is taken_is p led back_is =
    looked n old new h taken s0 s1 is taken_is p led back_is (StopsFor n (old.number - 1) c s) a.0
    (subst (λ (t : HubSeen). StopsFor n (old.number - 1) c s t) (sym a.0) (subst (λ t. StopsFor n (t - 1) c s s0) e a.1))

-- turns before it that looked
pub reply-at-last : (n : Numbers) (a b new : PassState) (k : ℕ) (c : Call) (r : Reply) → is_thread_call c ≡ true → HasLooked n a b → AfterTry n b k c (tried.Reply r) new → CalledAtLock n a k c r new
reply-at-last n a b new k c r kind has x =
    let all : Added n a new (thread_entry (a.number - 1) k c r) =
    subst (λ t. Added n a new (thread_entry (t - 1) k c r)) has.same.number (adds n a b new (thread_entry (b.number - 1) k c r) has x) in
    subst (λ s. MatchBool s (Looked n a new (StopsFor n (a.number - 1) c r.status)) (Added n a new (thread_entry (a.number - 1) k c r))) (sym (added-no-stop n a new (a.number - 1) k c r kind all)) all

pub stop-at-last : (n : Numbers) (a b new : PassState) (k : ℕ) (c : Call) (s : Status) → HasLooked n a b → AfterTry n b k c (tried.Stop s) new → CalledAtLock n a k c (plain s out.Nothing) new
stop-at-last n a b new k c s has x = by s x
  where
    all : (s : Status) → AfterTry n b k c (tried.Stop s) new → Looked n a new (StopsFor n (a.number - 1) c s)
    all s x = subst (λ t. Looked n a new (StopsFor n (t - 1) c s)) has.same.number (looks n a b new (StopsFor n (b.number - 1) c s) has x)

    by : (s : Status) → AfterTry n b k c (tried.Stop s) new → CalledAtLock n a k c (plain s out.Nothing) new
    by status.TraceFull x = all status.TraceFull x
    by status.NoMemory x = all status.NoMemory x
    by _ x = absurd x.shows
