-- When a thread or a worker has ended, by the hub; and that not all wait.
use Rattle.std.proofs.Common.{◌≡◌, ◌∙◌, ◌⊎◌, inl, inr, ℕ, ◌+◌, ◌<◌, Bool, true, false, not, cond, ◌&&◌, nat_lt, List, [], ◌∷◌, map, drop, Option, Some, None, is_none, is_some, IsTrue, refl, ap, sym, subst, arith, true≢false}
use Rattle.std.specs.List.{All}
use Rattle.std.proofs.lemmas.List.Elements.{All-get_or, All-map, All-weaker, All-nil, All-cons, All-head, All-tail}
use Rattle.std.proofs.lemmas.Bool.Decides.{nat_tests}
use Rattle.napi_types.specs.declared.call.Call.{Call}
use Rattle.napi_types.specs.declared.entry.Actor.{Actor}
use Rattle.napi_types.specs.declared.entry.Actor.TheVariants as actor
use Rattle.napi_types.specs.declared.entry.Duty.{Duty}
use Rattle.napi_types.specs.declared.entry.Duty.TheVariants as duty
use Rattle.napi_types.specs.declared.entry.Entry.{Entry}
use Rattle.napi_types.specs.declared.entry.Out.{Out}
use Rattle.napi_types.specs.plain.Lists.{has_number, is_empty}
use Rattle.napi_types.specs.plain.Room.{Room}
use Rattle.napi_types.specs.parts.Pool.{executed_by}
use Rattle.napi_types.specs.hub.Actors.{WorkerState, Free, Working, Over, thread_calls}
use Rattle.napi_types.specs.hub.Hub.{Hub, threads_left, workers_left, left_of, new_hub}
use Rattle.napi_types.specs.hub.HubSteps.{hub_step, hub_along}
use Rattle.napi_types.specs.hub.Replays.{HubReplays}
use Rattle.napi_types.specs.hub.HubMoves.{is_spent, without_duty}
use Rattle.napi_types.specs.hub.ThreadSteps.{is_gone_on}
use Rattle.napi_types.specs.hub.Waits.{waits_at, worker_waits, ThreadGoesOn, WorkerGoesOn, SomebodyGoesOn}
use Rattle.napi_types.specs.hub.WorkerSteps.{is_worker_there}
use Rattle.napi_types.proofs.plain.Conditions.{and-left, and-right}
use Rattle.napi_types.proofs.hub.HubCases.{HubCase, hub-case, delivers}
use Rattle.napi_types.proofs.hub.ThreadEnds.{ended-threads-left}
use Rattle.napi_types.proofs.hub.WhoIsLeft.{left-tells, left-unless}
use Rattle.shared_hub.specs.HubStates.{HubSeen, hub_room}
use Rattle.shared_hub.specs.KeptHubs.{IsLedHub}
use Rattle.shared_hub.specs.declared.naming.Numbers.{Numbers}
use Rattle.env_loop.specs.ActorRuns.{calls_left, NextWaits, ThreadBlocked, HeldWork, NoWork, Started, Executed, held_state}
use Rattle.env_loop.specs.ActorTurns.{actor_of, is_over, IsActorOf, IsBlocked}
use Rattle.env_loop.specs.declared.actor.ActorRun.{ActorRun}
use Rattle.env_loop.specs.declared.actor.ActorRun.TheVariants as run
use Rattle.env_loop.proofs.ThreadEntries.{along-threads}
use Rattle.napi_types.proofs.all_runs.WorkersStand.{workers-stand-as-the-hub-says}
use Rattle.env_loop.proofs.ThreadEntries.{along-threads}
use Rattle.stepper.specs.TakingPart.{actors_of}
use Rattle.stepper.proofs.ActorPlaces.{IsOther, at-thread, at-worker, actors-length}

-- BY THE HUB
-- an actor that is left: it has not ended
abbrev pub is_unended : Hub → Actor → Bool
is_unended h actor.Env = true
is_unended h (actor.Thread t) = has_number t (threads_left h)
is_unended h (actor.Worker w) = has_number w (workers_left h)

over-left : (b : Bool) (calls : List Call) (has : Bool) → is_none (cond b None (Some calls)) ≡ has → not has ≡ not b
over-left true calls has is = ap not (sym is)
over-left false calls has is = ap not (sym is)

state-left : (b : Bool) (held : HeldWork) (there : Bool) (executes : Bool) → cond b Over (held_state held) ≡ cond there (cond executes Working Free) Over → there ≡ not b
state-left true held true true is = cc
state-left true held true false is = cc
state-left true held false executes is = refl
state-left false held true executes is = refl
state-left false NoWork false executes is = cc
state-left false (Started s) false executes is = cc
state-left false (Executed s) false executes is = cc

some-same : (s u : WorkerState) → Some s ≡ Some u → s ≡ u
some-same s u is = cc

none-in : (w : ℕ) (ns : List ℕ) → is_empty ns ≡ true → has_number w ns ≡ false
none-in w [] none = refl
none-in w (m ∷ ns) none = cc

left-below : (count w : ℕ) (ended : List ℕ) → has_number w (left_of count ended) ≡ true → w < count
left-below count w ended left = under (nat_lt w count) (not (has_number w ended)) refl (sym (left-tells count w ended) ∙ left)
  where
    below : (w count : ℕ) → nat_lt w count ≡ true → w < count
    below w count is = grind (arith, nat_tests)

    under : (b c : Bool) → nat_lt w count ≡ b → (b && c) ≡ true → w < count
    under true c is both = below w count is
    under false c is both = cc

duty-workers : (d : Duty) (h : Hub) → (without_duty d h).workers ≡ h.workers
duty-workers (duty.Work n) h = refl
duty-workers _ h = refl

case-workers : (h : Hub) (x : Entry) (told : Out) (n : Hub) → HubCase h x told n → n.workers ≡ h.workers
case-workers h x told _ (delivers d is next alone) = duty-workers d.duty h
case-workers h x told _ _ = refl

step-workers : (h : Hub) (x : Entry) → IsTrue (hub_step h x).may → (hub_step h x).after.workers ≡ h.workers
step-workers h x may = case-workers h x _ _ (hub-case h x may)

along-workers : (limit n : ℕ) (h : Hub) (xs : List Entry) → HubReplays limit h n xs → (hub_along h xs).workers ≡ h.workers
along-workers limit n h [] replays = refl
along-workers limit n h (x ∷ xs) replays = along-workers limit (n + 1) (hub_step h x).after xs replays.2 ∙ step-workers h x replays.0.may

-- it has ended, or it waits
module _ {J : Type 0} where
  abbrev pub IsStillAt : Numbers → HubSeen → ActorRun J → Type 0
  IsStillAt n s a = (is_over a ≡ true) ⊎ IsBlocked n s a

still-left : (b left : Bool) → left ≡ not b → b ≡ true → left ≡ true → ⊥
still-left true left is over there = cc
still-left false left is over there = cc

-- no such actor goes on
abbrev StaysStill : Hub → Actor → Type 0
StaysStill h actor.Env = Unit {0}
StaysStill h (actor.Thread t) = ThreadGoesOn h t → ⊥
StaysStill h (actor.Worker w) = WorkerGoesOn h w → ⊥

next-waits : (r : Room) (h : Hub) (t : ℕ) (o : Option (List Call)) → NextWaits r h t o → ((c : Call) → waits_at h t c ≡ false) → ⊥
next-waits r h t None waits answered = absurd waits
next-waits r h t (Some []) waits answered = absurd waits
next-waits r h t (Some (c ∷ later)) waits answered = true≢false (sym waits.1 ∙ answered c)

none-left : (h : Hub) (a : Actor) → is_spent h ≡ true → IsOther a → is_unended h a ≡ false
none-left h actor.Env spent other = absurd other
none-left h (actor.Thread t) spent other =
    none-in t (threads_left h) (and-left (is_empty (threads_left h)) (is_empty (workers_left h)) (and-left (is_empty (threads_left h) && is_empty (workers_left h)) (is_empty h.pool.executions) spent))
none-left h (actor.Worker w) spent other =
    none-in w (workers_left h) (and-right (is_empty (threads_left h)) (is_empty (workers_left h)) (and-left (is_empty (threads_left h) && is_empty (workers_left h)) (is_empty h.pool.executions) spent))

module _ {J : Type 0} (n : Numbers) (s : HubSeen) (k : IsLedHub n s) where
  -- exactly those are left that have not ended
  pub left-unended : (a : ActorRun J) → IsActorOf n s a → is_unended s.hub (actor_of a) ≡ not (is_over a)
  left-unended (run.OfThread t) of =
      left-unless s.hub.threads t.number s.hub.ended_threads (subst (λ c. t.number < c) (sym count) of.there)
      ∙ over-left t.over (drop t.made (thread_calls t.operations)) (has_number t.number s.hub.ended_threads)
      (sym (ap is_none of.stands.left_is) ∙ ended-threads-left n.limits.history n.threads n.workers t.number (thread_calls t.operations) s.history s.hub k.led)
    where
      count : s.hub.threads ≡ n.threads
      count = ap (λ (h : Hub). h.threads) (sym k.led.hub) ∙ along-threads n.limits.history 0 (new_hub n.threads n.workers) s.history k.led.replays
  left-unended (run.OfWorker w) of =
      state-left w.over w.held (is_worker_there s.hub w.number) (is_some (executed_by s.hub.pool w.number))
      (some-same _ _ (sym of.stands ∙ workers-stand-as-the-hub-says n.limits.history n.threads n.workers w.number s.history s.hub k.led of.there))

  other-name : (a : ActorRun J) → IsOther (actor_of a)
  other-name (run.OfThread t) = tt
  other-name (run.OfWorker w) = tt

  -- where the hub is spent all have ended
  pub spent-over : (actors : List (ActorRun J)) → is_spent s.hub ≡ true → All (IsActorOf n s) actors → All (λ a. is_over a ≡ true) actors
  spent-over actors spent stand =
      All-weaker (IsActorOf n s) (λ a. is_over a ≡ true)
      (λ a of. ended (is_over a) (sym (left-unended a of) ∙ none-left s.hub (actor_of a) spent (other-name a))) actors stand
    where
      ended : (b : Bool) → not b ≡ false → b ≡ true
      ended true is = refl
      ended false is = cc

  -- WHO GOES ON
  still-stays : (a : ActorRun J) → IsActorOf n s a → IsStillAt n s a → StaysStill s.hub (actor_of a)
  still-stays (run.OfThread t) of still = λ on. thread still on
    where
      thread : (t.over ≡ true) ⊎ ThreadBlocked (hub_room n s) s.hub t → ThreadGoesOn s.hub t.number → ⊥
      thread (inl over) on =
          still-left t.over (has_number t.number (threads_left s.hub)) (left-unended (run.OfThread t) of) over
          (and-right (is_gone_on s.hub.stage) (has_number t.number (threads_left s.hub)) on.there)
      thread (inr (inl before)) on =
          true≢false (sym (and-left (is_gone_on s.hub.stage) (has_number t.number (threads_left s.hub)) on.there) ∙ before)
      thread (inr (inr waits)) on = next-waits (hub_room n s) s.hub t.number (calls_left t) waits on.answered
  still-stays (run.OfWorker w) of still = λ on. worker still on
    where
      worker : (w.over ≡ true) ⊎ (worker_waits s.hub w.number ≡ true) → WorkerGoesOn s.hub w.number → ⊥
      worker (inl over) on = still-left w.over (is_worker_there s.hub w.number) (left-unended (run.OfWorker w) of) over on.there
      worker (inr waits) on = true≢false (sym waits ∙ on.busy)

  -- where each of the actors has ended or waits nobody goes on
  pub nobody-goes-on : (actors : List (ActorRun J)) → map actor_of actors ≡ actors_of n → All (IsActorOf n s) actors → All (IsStillAt n s) actors → SomebodyGoesOn s.hub → ⊥
  nobody-goes-on actors order stand still on = by on
    where
      both : (xs : List (ActorRun J)) → All (IsActorOf n s) xs → All (IsStillAt n s) xs → All (λ a. StaysStill s.hub (actor_of a)) xs
      both [] p q = All-nil (λ a. StaysStill s.hub (actor_of a))
      both (x ∷ xs) p q =
          All-cons (λ a. StaysStill s.hub (actor_of a)) x xs (still-stays x (All-head (IsActorOf n s) x xs p) (All-head (IsStillAt n s) x xs q))
          (both xs (All-tail (IsActorOf n s) x xs p) (All-tail (IsStillAt n s) x xs q))

      all : All (StaysStill s.hub) (actors_of n)
      all = subst (All (StaysStill s.hub)) order (All-map (StaysStill s.hub) actor_of actors (both actors stand still))

      threads-count : s.hub.threads ≡ n.threads
      threads-count = ap (λ (h : Hub). h.threads) (sym k.led.hub) ∙ along-threads n.limits.history 0 (new_hub n.threads n.workers) s.history k.led.replays

      workers-count : s.hub.workers ≡ n.workers
      workers-count = ap (λ (h : Hub). h.workers) (sym k.led.hub) ∙ along-workers n.limits.history 0 (new_hub n.threads n.workers) s.history k.led.replays

      by : SomebodyGoesOn s.hub → ⊥
      by (inl there) =
          let t : ℕ = there.0 in
          let below : t < n.threads = subst (λ c. t < c) threads-count
          (left-below s.hub.threads t s.hub.ended_threads (and-right (is_gone_on s.hub.stage) (has_number t (threads_left s.hub)) there.1.there)) in
          let stays : ThreadGoesOn s.hub t → ⊥ = subst (StaysStill s.hub) (at-thread n t below)
          (All-get_or (StaysStill s.hub) (actors_of n) t actor.Env (omega (arith, below, actors-length n)) all) in
          stays there.1
      by (inr there) =
          let w : ℕ = there.0 in
          let below : w < n.workers = subst (λ c. w < c) workers-count (left-below s.hub.workers w s.hub.ended_workers there.1.there) in
          let stays : WorkerGoesOn s.hub w → ⊥ = subst (StaysStill s.hub) (at-worker n w below)
          (All-get_or (StaysStill s.hub) (actors_of n) (n.threads + w) actor.Env (omega (arith, below, actors-length n)) all) in
          stays there.1
