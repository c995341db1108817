-- A thread none of whose rows is its end is left.
use Rattle.std.proofs.Common.{◌≡◌, ◌∙◌, ℕ, ◌+◌, ◌-◌, ◌<◌, ◌≤◌, ◌==◌, Bool, true, false, not, cond, List, [], ◌∷◌, IsTrue, refl, ap, sym, subst, arith, Option, Some, is_none}
use Rattle.std.proofs.lemmas.List.Elements.{All-head, All-tail}
use Rattle.napi_types.specs.declared.call.Call.{Call}
use Rattle.napi_types.specs.declared.entry.Actor.{Actor}
use Rattle.napi_types.specs.declared.entry.Actor.TheVariants as actor
use Rattle.napi_types.specs.declared.entry.Entry.{Entry}
use Rattle.napi_types.specs.declared.entry.HostStep.TheVariants as host
use Rattle.napi_types.specs.declared.entry.What.{What}
use Rattle.napi_types.specs.declared.entry.What.TheVariants as what
use Rattle.napi_types.specs.plain.Lists.{has_number}
use Rattle.napi_types.specs.hub.Actors.{is_thread, left_after, left_along}
use Rattle.napi_types.specs.hub.Hub.{Hub, new_hub, threads_left}
use Rattle.napi_types.specs.hub.HubSteps.{hub_step, hub_step_of, hub_along}
use Rattle.napi_types.specs.hub.Replays.{HubReplays}
use Rattle.napi_types.specs.hub.ThreadSteps.{thread_step}
use Rattle.napi_types.proofs.hub.ThreadEnds.{step-threads, ended-threads-left}
use Rattle.napi_types.proofs.hub.WhoIsLeft.{left-unless}
use Rattle.turn_lock.specs.declared.told.Row.{Row}
use Rattle.turn_lock.specs.Rows.{own_rows}
use Rattle.shared_hub.specs.declared.naming.Numbers.{Numbers}
use Rattle.shared_hub.specs.HubRows.{pass_of, row_of, rows_of}
use Rattle.shared_hub.specs.HubStates.{HubSeen}
use Rattle.shared_hub.specs.KeptHubs.{IsLedHub}
use Rattle.hub_lock.specs.SeenTurns.{is_actor_end, HasNoEnd}
use Rattle.std.proofs.lemmas.Bool.Decides.{nat_tests}
use Rattle.napi_types.specs.plain.Lists.{tail}

-- THE FRONT ROW, AND THOSE BEHIND IT
no-end-behind : (b : Bool) (r : Row) (rows : List Row) → HasNoEnd (cond b (r ∷ rows) rows) → HasNoEnd rows
no-end-behind true r rows none = All-tail (λ (q : Row). is_actor_end q.entry.what ≡ false) r rows none
no-end-behind false r rows none = none

no-end-in-front : (b : Bool) (r : Row) (rows : List Row) → b ≡ true → HasNoEnd (cond b (r ∷ rows) rows) → is_actor_end r.entry.what ≡ false
no-end-in-front true r rows is none = All-head (λ (q : Row). is_actor_end q.entry.what ≡ false) r rows none
no-end-in-front false r rows is none = cc

-- ONE ENTRY
thread-next : (h : Hub) (u : ℕ) (x : Entry) (calls : List Call) (it : What) → IsTrue (thread_step h u x it).may → is_actor_end it ≡ false
    → (l : List Call) × (left_after (Some calls) it ≡ Some l)
thread-next h u x calls (what.Call c) may none = (tail calls, refl)
thread-next h u x calls (what.Host host.ActorEnd) may none = cc
thread-next h u x calls (what.Host _) may none = cc

either-next : (b : Bool) (calls : List Call) (later : Option (List Call)) → (b ≡ true → (l : List Call) × (later ≡ Some l))
    → (l : List Call) × (cond b later (Some calls) ≡ Some l)
either-next true calls later there = there refl
either-next false calls later there = (calls, refl)

next-left : (h : Hub) (threads t : ℕ) (x : Entry) (calls : List Call) → IsTrue (hub_step h x).may
    → ((pass_of threads x.actor == 1 + t) ≡ true → is_actor_end x.what ≡ false)
    → (l : List Call) × (cond (is_thread t x.actor) (left_after (Some calls) x.what) (Some calls) ≡ Some l)
next-left h threads t x calls may none = by x.actor may none
  where
    same : (u : ℕ) → (u == t) ≡ true → (1 + u == 1 + t) ≡ true
    same u e = grind (arith, nat_tests)

    by : (who : Actor) → IsTrue (hub_step_of h x who).may → ((pass_of threads who == 1 + t) ≡ true → is_actor_end x.what ≡ false)
        → (l : List Call) × (cond (is_thread t who) (left_after (Some calls) x.what) (Some calls) ≡ Some l)
    by actor.Env may none = (calls, refl)
    by (actor.Worker w) may none = (calls, refl)
    by (actor.Thread u) may none = either-next (u == t) calls (left_after (Some calls) x.what) (λ e. thread-next h u x calls x.what may (none (same u e)))

-- ALONG A HISTORY
still-left : (limit threads t : ℕ) (h : Hub) (k : ℕ) (calls : List Call) (xs : List Entry) → HubReplays limit h k xs → HasNoEnd (own_rows (1 + t) (rows_of threads xs))
    → is_none (left_along t (Some calls) xs) ≡ false
still-left limit threads t h k calls [] replays none = refl
still-left limit threads t h k calls (x ∷ xs) replays none =
    let b : Bool = pass_of threads x.actor == 1 + t in
    let next = next-left h threads t x calls replays.0.may (λ e. no-end-in-front b (row_of threads x) (own_rows (1 + t) (rows_of threads xs)) e none) in
    ap (λ l. is_none (left_along t l xs)) next.1
    ∙ still-left limit threads t (hub_step h x).after (k + 1) next.0 xs replays.2 (no-end-behind b (row_of threads x) (own_rows (1 + t) (rows_of threads xs)) none)

-- there are as many threads as at first
threads-stay : (limit k : ℕ) (h : Hub) (xs : List Entry) → HubReplays limit h k xs → h.threads ≡ (hub_along h xs).threads
threads-stay limit k h [] replays = refl
threads-stay limit k h (x ∷ xs) replays = sym (step-threads h x replays.0.may) ∙ threads-stay limit (k + 1) (hub_step h x).after xs replays.2

pub thread-is-left : (n : Numbers) (s : HubSeen) (number : ℕ) (own : List Row) → IsLedHub n s → 0 < number → number ≤ n.threads
    → own ≡ own_rows number (rows_of n.threads s.history) → HasNoEnd own → has_number (number - 1) (threads_left s.hub) ≡ true
thread-is-left n s number own k some within is none = left-unless s.hub.threads (number - 1) s.hub.ended_threads (below number s.hub.threads count some within) ∙ ap not unended
  where
    count : s.hub.threads ≡ n.threads
    count = ap (λ (h : Hub). h.threads) (sym k.led.hub) ∙ sym (threads-stay n.limits.history 0 (new_hub n.threads n.workers) s.history k.led.replays)

    below : (m all : ℕ) → all ≡ n.threads → 0 < m → m ≤ n.threads → m - 1 < all
    below m all same some within = omega (arith, same, some, within)

    again : (m : ℕ) → 0 < m → m ≡ 1 + (m - 1)
    again m some = omega (arith, some)

    none_there : HasNoEnd (own_rows (1 + (number - 1)) (rows_of n.threads s.history))
    none_there = subst (λ m. HasNoEnd (own_rows m (rows_of n.threads s.history))) (again number some) (subst HasNoEnd is none)

    unended : has_number (number - 1) s.hub.ended_threads ≡ false
    unended = sym (ended-threads-left n.limits.history n.threads n.workers (number - 1) [] s.history s.hub k.led)
        ∙ still-left n.limits.history n.threads (number - 1) (new_hub n.threads n.workers) 0 [] s.history k.led.replays none_there
