-- Turns of workers, and turns in which an actor ends.
use Rattle.std.proofs.Common.{◌≡◌, ◌∙◌, ℕ, ◌+◌, ◌-◌, ◌<◌, ◌≤◌, ◌⊎◌, inl, inr, Bool, true, false, cond, nat_lt, List, map, refl, ap, sym, subst, arith, Option, Some}
use Rattle.std.proofs.lemmas.Bool.Decides.{nat_tests}
use mathlib.Core.List.{IsPrefix}
use Rattle.napi_types.specs.declared.entry.Actor.{Actor}
use Rattle.napi_types.specs.declared.entry.Actor.TheVariants as actor
use Rattle.napi_types.specs.declared.entry.Why.{Why}
use Rattle.napi_types.specs.parts.Jobs.{job_value}
use Rattle.napi_types.specs.hub.Actors.{Free, worker_along}
use Rattle.napi_types.specs.hub.Hub.{Hub, threads_left}
use Rattle.napi_types.specs.hub.ThreadSteps.{is_gone_on}
use Rattle.napi_types.specs.plain.Lists.{has_number}
use Rattle.napi_types.proofs.plain.Conditions.{and-both}
use Rattle.turn_lock.specs.declared.told.Row.{Row}
use Rattle.turn_lock.specs.Passes.{PassState}
use Rattle.turn_lock.specs.Rows.{own_rows, GoesOn}
use Rattle.async_work.specs.declared.pool.Picked.{Picked}
use Rattle.async_work.specs.declared.pool.Picked.TheVariants as picked
use Rattle.shared_hub.specs.declared.naming.Numbers.{Numbers}
use Rattle.shared_hub.specs.HubRows.{pass_of, rows_of}
use Rattle.shared_hub.specs.HubStates.{HubSeen, AddsEntry, hub_seen, led_by}
use Rattle.shared_hub.specs.KeptHubs.{IsLedHub}
use Rattle.shared_hub.specs.SharedTries.{MayEnd}
use Rattle.hub_lock.specs.SeenTurns.{HasNoEnd, Anything, Looked, HasLooked, Added}
use Rattle.hub_lock.specs.Working.{worker_of, HasSeenThat, Executes, start_entry, finish_entry, IsClosing, AfterStart, TriedStart}
use Rattle.hub_lock.specs.LockedEnds.{actor_of, actor_end_entry, pass_end_entry, MayEndBy, AfterEnd, TriedEnd}
use Rattle.hub_lock.proofs.LookingTurns.{back, goes-on-none, goes-on-one, looked, added, adds}
use Rattle.hub_lock.proofs.ThreadsLeft.{thread-is-left}
use Rattle.hub_lock.proofs.LockedWorkers.{worker-is-free, still-closing}

-- the pass of a worker, by the worker's number
pub worker-pass : (n : Numbers) (number w : ℕ) → n.threads < number → w ≡ worker_of n number → 1 + n.threads + w ≡ number
worker-pass n number w more is = omega (arith, more, is)

-- THE ROWS GO ON
pub start-goes-on : {J : Type 0} → (n : Numbers) (number w : ℕ) (s0 s1 : HubSeen) (r : Picked J) → AfterStart w s0 r s1 → 1 + n.threads + w ≡ number
    → GoesOn number (rows_of n.threads s0.history) (rows_of n.threads s1.history)
start-goes-on n number w s0 s1 (picked.Job t) a is = goes-on-one number n.threads s0 s1 (start_entry w t.number) is a.0.history
start-goes-on n number w s0 s1 picked.Nothing a is = goes-on-none number n.threads s0 s1 a
start-goes-on n number w s0 s1 picked.Closing a is = goes-on-none number n.threads s0 s1 a.0

pub finish-goes-on : (n : Numbers) (number w value : ℕ) (s0 s1 : HubSeen) → AddsEntry s0 (finish_entry w value) s1 → 1 + n.threads + w ≡ number
    → GoesOn number (rows_of n.threads s0.history) (rows_of n.threads s1.history)
finish-goes-on n number w value s0 s1 a is = goes-on-one number n.threads s0 s1 (finish_entry w value) is a.history

pub pass-of-actor : (n : Numbers) (number : ℕ) → 0 < number → pass_of n.threads (actor_of n number) ≡ number
pass-of-actor n number some = by (nat_lt n.threads number) refl
  where
    by : (b : Bool) → nat_lt n.threads number ≡ b → pass_of n.threads (cond b (actor.Worker (worker_of n number)) (actor.Thread (number - 1))) ≡ number
    by true is = worker-pass n number (worker_of n number) (grind (arith, nat_tests)) refl
    by false is = again number some
      where
        again : (m : ℕ) → 0 < m → 1 + (m - 1) ≡ m
        again m some = omega (arith, some)

pub end-goes-on : (n : Numbers) (number : ℕ) (who : Actor) (cut : Option Why) (s0 s1 : HubSeen) (b : Bool) → AfterEnd who cut s0 b s1 → pass_of n.threads who ≡ number
    → GoesOn number (rows_of n.threads s0.history) (rows_of n.threads s1.history)
end-goes-on n number who cut s0 s1 true a is = goes-on-one number n.threads s0 s1 (actor_end_entry who cut) is a.history
end-goes-on n number who cut s0 s1 false a is = goes-on-none number n.threads s0 s1 a

-- WHAT TURNS LEAVE OF THE PASS
module _ (n : Numbers) (old new h : PassState) (taken : List Row) (s0 s1 : HubSeen) (is : h ≡ record old { holds = true }) (taken_is : taken ≡ rows_of n.threads s0.history)
    (p : IsPrefix old.seen (rows_of n.threads s0.history)) (k : IsLedHub n s1) (e : new ≡ back h taken (rows_of n.threads s1.history)) where
  same_number : old.number ≡ new.number
  same_number = sym (ap (λ (q : PassState). q.number) e ∙ ap (λ (q : PassState). q.number) is)

  pub start-turn : {J : Type 0} → (w : ℕ) (r : Picked J) → AfterStart w s0 r s1 → w ≡ worker_of n old.number → TriedStart n old r new
  start-turn w (picked.Job t) a w_is = (
    subst (λ v. Added n old new (start_entry v t.number)) w_is (added n old new h taken s0 s1 is taken_is p k e (start_entry w t.number) a.0.history),
    record {
      history = s1.history;
      rows = ap (λ (q : PassState). q.seen) e;
      shows = subst (λ v. Executes v t.number (job_value t.spec) (led_by n s1.history)) (w_is ∙ ap (worker_of n) same_number) (subst (λ (g : Hub). Executes w t.number (job_value t.spec) g) (sym k.led.hub) a.1);
    },
  )
  start-turn w picked.Nothing a w_is = looked n old new h taken s0 s1 is taken_is p k e Anything a tt
  start-turn w picked.Closing a w_is = looked n old new h taken s0 s1 is taken_is p k e IsClosing a.0 a.1

  pub finish-turn : (w value : ℕ) → AddsEntry s0 (finish_entry w value) s1 → w ≡ worker_of n old.number → Added n old new (finish_entry (worker_of n old.number) value)
  finish-turn w value a w_is = subst (λ v. Added n old new (finish_entry v value)) w_is (added n old new h taken s0 s1 is taken_is p k e (finish_entry w value) a.history)

  pub end-turn : (who : Actor) (cut : Option Why) (b : Bool) → AfterEnd who cut s0 b s1 → who ≡ actor_of n old.number → TriedEnd n old cut b new
  end-turn who cut true a who_is = subst (λ v. Added n old new (actor_end_entry v cut)) who_is (added n old new h taken s0 s1 is taken_is p k e (actor_end_entry who cut) a.history)
  end-turn who cut false a who_is = looked n old new h taken s0 s1 is taken_is p k e Anything a tt

-- turns before it that looked
module _ (n : Numbers) (a b new : PassState) (has : HasLooked n a b) where
  pub ended-at-last : (cut : Option Why) → TriedEnd n b cut true new → Added n a new (pass_end_entry n a.number cut)
  ended-at-last cut x = subst (λ m. Added n a new (pass_end_entry n m cut)) has.same.number (adds n a b new (pass_end_entry n b.number cut) has x)

-- WHO MAY END
pub may-end-at : (n : Numbers) (p : PassState) (s : HubSeen) (cut : Option Why) → IsLedHub n s → IsPrefix p.seen (rows_of n.threads s.history)
    → p.own ≡ own_rows p.number (rows_of n.threads s.history) → MayEndBy n p cut → is_gone_on s.hub.stage ≡ true → MayEnd s.hub (actor_of n p.number) cut
may-end-at n p s cut k before own (inl may) live = by (nat_lt n.threads p.number) refl
  where
    by : (b : Bool) → nat_lt n.threads p.number ≡ b → MayEnd s.hub (cond b (actor.Worker (worker_of n p.number)) (actor.Thread (p.number - 1))) cut
    by true is = absurd (grind (arith, nat_tests, may.0.1))
    by false is = (and-both (is_gone_on s.hub.stage) (has_number (p.number - 1) (threads_left s.hub)) live (thread-is-left n s p.number p.own k may.0.0 may.0.1 own may.1), may.2)
may-end-at n p s cut k before own (inr may) live = by (nat_lt n.threads p.number) refl
  where
    by : (b : Bool) → nat_lt n.threads p.number ≡ b → MayEnd s.hub (cond b (actor.Worker (worker_of n p.number)) (actor.Thread (p.number - 1))) cut
    by false is = absurd (grind (arith, nat_tests, may.0.0))
    by true is =
        let free = worker-is-free n s p.number p.own k may.0.0 may.0.1 own may.1 in
        (free.0, still-closing n p s k.led before.0 (sym before.1) may.2.history may.2.rows may.2.shows, free.1, may.3)

pub some-pass : (n : Numbers) (p : PassState) (cut : Option Why) → MayEndBy n p cut → 0 < p.number
some-pass n p cut (inl may) = may.0.0
some-pass n p cut (inr may) = more p.number may.0.0
  where
    more : (m : ℕ) → n.threads < m → 0 < m
    more m less = omega (arith, less)

-- who may end still may, after turns that looked
pub may-end-still : (n : Numbers) (a b : PassState) (cut : Option Why) → HasLooked n a b → MayEndBy n a cut → MayEndBy n b cut
may-end-still n a b cut has (inl may) = inl (
  (subst (λ m. 0 < m) (sym has.same.number) may.0.0, subst (λ m. m ≤ n.threads) (sym has.same.number) may.0.1),
  subst HasNoEnd (sym has.own) may.1,
  may.2,
)
may-end-still n a b cut has (inr may) = inr (
  (subst (λ m. n.threads < m) (sym has.same.number) may.0.0, subst (λ m. m ≤ n.threads + n.workers) (sym has.same.number) may.0.1),
  subst (λ rs. worker_along (worker_of n b.number) (Some Free) (map (λ (r : Row). r.entry) rs) ≡ Some Free) (sym has.own)
      (subst (λ m. worker_along (worker_of n m) (Some Free) (map (λ (r : Row). r.entry) a.own) ≡ Some Free) (sym has.same.number) may.1),
  by has.turns,
  may.3,
)
  where
    by : (b ≡ a) ⊎ Looked n a b Anything → HasSeenThat n b (λ (h : Hub). h.pool.closing ≡ true)
    by (inl same) = subst (λ (p : PassState). HasSeenThat n p (λ (h : Hub). h.pool.closing ≡ true)) (sym same) may.2
    by (inr x) = record {
      history = x.history;
      rows = x.seen.rows;
      shows =
          still-closing n a (hub_seen n x.history) (record { replays = x.seen.replays; hub = refl }) x.before.0 (sym x.seen.rows ∙ sym x.before.1) may.2.history may.2.rows may.2.shows;
    }
