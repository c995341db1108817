-- Where workers stand at the hub, by their own rows and by what they have seen.
use Rattle.std.proofs.Common.{◌≡◌, ◌≢◌, ◌∙◌, ℕ, ◌+◌, ◌-◌, ◌<◌, ◌≤◌, ◌==◌, Bool, true, false, cond, List, [], ◌∷◌, ◌++◌, length, length-append, map, IsTrue, refl, ap, sym, subst, arith, Option, Some, None, is_some, option_map}
use Rattle.std.specs.Option.{option_and_then, option_map_or}
use Rattle.std.specs.List.{All}
use Rattle.std.proofs.lemmas.List.Elements.{All-nil, All-cons, All-head, All-tail}
use Rattle.std.proofs.lemmas.Bool.Decides.{nat_tests}
use mathlib.Core.List.{IsPrefix}
use Rattle.napi_types.specs.declared.entry.Actor.{Actor}
use Rattle.napi_types.specs.declared.entry.Actor.TheVariants as actor
use Rattle.napi_types.specs.declared.entry.Duty.{Duty}
use Rattle.napi_types.specs.declared.entry.Duty.TheVariants as duty
use Rattle.napi_types.specs.declared.entry.Entry.{Entry}
use Rattle.napi_types.specs.declared.entry.Out.{Out}
use Rattle.napi_types.specs.plain.Lists.{head, singleton}
use Rattle.napi_types.specs.plain.Room.{fits_in}
use Rattle.napi_types.specs.hub.HistoryRoom.{history_room}
use Rattle.napi_types.specs.parts.Jobs.{job_value}
use Rattle.napi_types.specs.parts.Pool.{WorkPool, executed_by, value_of_work, work_numbered, started_from, number_of_work}
use Rattle.napi_types.specs.parts.Works.{Work}
use Rattle.napi_types.specs.hub.ActorLaws.{worker_at}
use Rattle.napi_types.specs.hub.Actors.{WorkerState, Free, Working, Over, is_worker, worker_after, does_next, worker_along}
use Rattle.napi_types.specs.hub.HistoryLaws.{LeadsTo, StaysRunning, GoesOnBehind}
use Rattle.napi_types.specs.hub.Hub.{Hub, new_hub}
use Rattle.napi_types.specs.hub.HubMoves.{without_duty}
use Rattle.napi_types.specs.hub.HubStep.{HubStep}
use Rattle.napi_types.specs.hub.HubSteps.{hub_step, hub_along}
use Rattle.napi_types.specs.hub.Replays.{HubReplays}
use Rattle.napi_types.specs.hub.WorkerSteps.{is_worker_there, start_step}
use Rattle.napi_types.proofs.plain.Found.{same-self}
use Rattle.napi_types.proofs.hub.ClosingPools.{cancelled-closing, started-closing, finished-closing}
use Rattle.napi_types.proofs.hub.GrowingHistories.{along-more, replays-more, prefixes-replay}
use Rattle.napi_types.proofs.hub.HubCases.{HubCase, cancels_work, drains, delivers, starts, finishes_work, hub-case}
use Rattle.napi_types.proofs.hub.RunningWorks.{running-stays-running}
use Rattle.napi_types.proofs.hub.WorkerTurns.{started-executes}
use Rattle.napi_types.proofs.all_runs.WorkersStand.{workers-stand-as-the-hub-says}
use Rattle.turn_lock.specs.declared.told.Row.{Row}
use Rattle.turn_lock.specs.Passes.{PassState}
use Rattle.turn_lock.specs.Rows.{own_rows}
use Rattle.turn_lock.proofs.Histories.{others_only}
use Rattle.async_work.specs.Executing.{StartedWork}
use Rattle.async_work.specs.Picking.{work_to_start, first_to_start, picked_work, is_closing}
use Rattle.async_work.specs.declared.pool.Picked.{Picked}
use Rattle.async_work.specs.declared.pool.Picked.TheVariants as picked
use Rattle.shared_hub.specs.declared.naming.Numbers.{Numbers}
use Rattle.shared_hub.specs.HubRows.{pass_of, row_of, rows_of}
use Rattle.shared_hub.specs.HubStates.{HubSeen, AddsEntry, led_by}
use Rattle.shared_hub.specs.HubTries.{AddsStart}
use Rattle.shared_hub.specs.KeptHubs.{IsLedHub}
use Rattle.shared_hub.proofs.RowsOfHistories.{histories-go-on}
use Rattle.hub_lock.specs.Working.{worker_of, Executes, start_entry, AfterStart}

-- BY ITS OWN ROWS
does-none : (w : ℕ) (x : Entry) (s : Option WorkerState) → is_worker w x.actor ≡ false → does_next w x s ≡ s
does-none w x None other = refl
does-none w x (Some s) other = ap (λ b. cond b (worker_after s x.what) (Some s)) other

other-pass : (threads w : ℕ) (who : Actor) → (pass_of threads who == 1 + threads + w) ≡ false → is_worker w who ≡ false
other-pass threads w actor.Env other = refl
other-pass threads w (actor.Thread t) other = refl
other-pass threads w (actor.Worker v) other = by (v == w) refl
  where
    by : (b : Bool) → (v == w) ≡ b → b ≡ false
    by false is = refl
    by true is = let same : (1 + threads + v == 1 + threads + w) ≡ true = grind (arith, nat_tests) in cc

own-along : (threads w : ℕ) (s : Option WorkerState) (xs : List Entry)
    → worker_along w s (map (λ (r : Row). r.entry) (own_rows (1 + threads + w) (rows_of threads xs))) ≡ worker_along w s xs
own-along threads w s [] = refl
own-along threads w s (x ∷ xs) = by (pass_of threads x.actor == 1 + threads + w) refl (λ t. own-along threads w t xs)
  where
    rows : List Row
    rows = own_rows (1 + threads + w) (rows_of threads xs)

    by : (b : Bool) → (pass_of threads x.actor == 1 + threads + w) ≡ b
        → ((t : Option WorkerState) → worker_along w t (map (λ (r : Row). r.entry) rows) ≡ worker_along w t xs)
        → worker_along w s (map (λ (r : Row). r.entry) (cond b (row_of threads x ∷ rows) rows)) ≡ worker_along w (does_next w x s) xs
    by true is later = later (does_next w x s)
    by false is later = later s ∙ ap (λ t. worker_along w t xs) (sym (does-none w x s (other-pass threads w x.actor is)))

there-by : (b : Bool) (o : Option ℕ) → cond b (cond (is_some o) Working Free) Over ≡ Free → (b ≡ true) × (o ≡ None)
there-by true None is = (refl, refl)
there-by true (Some n) is = cc
there-by false o is = cc

number-again : (n : Numbers) (m : ℕ) → n.threads < m → m ≡ 1 + n.threads + (m - (1 + n.threads))
number-again n m more = omega (arith, more)

-- a worker that is free by its own rows is there, and executes nothing
pub worker-is-free : (n : Numbers) (s : HubSeen) (number : ℕ) (own : List Row) → IsLedHub n s → n.threads < number → number ≤ n.threads + n.workers
    → own ≡ own_rows number (rows_of n.threads s.history) → worker_along (worker_of n number) (Some Free) (map (λ r. r.entry) own) ≡ Some Free
    → (is_worker_there s.hub (worker_of n number) ≡ true) × (executed_by s.hub.pool (worker_of n number) ≡ None)
worker-is-free n s number own k more within is stands = there-by (is_worker_there s.hub w) (executed_by s.hub.pool w) at
  where
    w : ℕ
    w = worker_of n number

    below : (m t u : ℕ) → t < m → m ≤ t + u → m - (1 + t) < u
    below m t u more within = omega (arith, more, within)

    own_is : own ≡ own_rows (1 + n.threads + w) (rows_of n.threads s.history)
    own_is = is ∙ ap (λ m. own_rows m (rows_of n.threads s.history)) (number-again n number more)

    at : worker_at s.hub w ≡ Free
    at =
        let both : Some (worker_at s.hub w) ≡ Some Free =
        sym (workers-stand-as-the-hub-says n.limits.history n.threads n.workers w s.history s.hub k.led (below number n.threads n.workers more within))
        ∙ sym (own-along n.threads w (Some Free) s.history) ∙ ap (λ rs. worker_along w (Some Free) (map (λ (r : Row). r.entry) rs)) (sym own_is) ∙ stands in
        cc

-- A START
-- the worker executes the work that it started
pub start-executes : (s new : HubSeen) (w : ℕ) (t : StartedWork) → Some t ≡ first_to_start s.hub.pool → AddsEntry s (start_entry w t.number) new
    → Executes w t.number (job_value t.spec) new.hub
start-executes s new w t first adds = subst (λ (h : Hub). Executes w t.number (job_value t.spec) h) (sym adds.hub) (by s.hub.pool.queued refl first)
  where
    told : (m : ℕ) (o : Option Work) → work_numbered s.hub.pool m ≡ o → Some t ≡ option_map (λ (v : Work). record { number = m; spec = v.spec }) o
        → (m ≡ t.number) × (job_value t.spec ≡ value_of_work s.hub.pool m)
    told m None numbered is = cc
    told m (Some v) numbered is =
        let same : t ≡ record { number = m; spec = v.spec } = cc in (
          sym (ap (λ (u : StartedWork). u.number) same),
          ap (λ (u : StartedWork). job_value u.spec) same ∙ sym (ap (λ o. option_map_or (λ (u : Work). job_value u.spec) o 0) numbered),
        )

    by : (queued : List ℕ) → s.hub.pool.queued ≡ queued → Some t ≡ option_and_then (work_to_start s.hub.pool) (head queued)
        → Executes w t.number (job_value t.spec) (hub_step s.hub (start_entry w t.number)).after
    by [] waits is = cc
    by (m ∷ later) waits is =
        let work : (m ≡ t.number) × (job_value t.spec ≡ value_of_work s.hub.pool m) = told m (work_numbered s.hub.pool m) refl is in
        subst (λ (u : HubStep). Executes w t.number (job_value t.spec) u.after) (sym (ap (start_step s.hub w (start_entry w t.number)) waits))
        (subst (λ (p : WorkPool). (executed_by p w ≡ Some t.number) × (job_value t.spec ≡ value_of_work p t.number)) (sym (ap (λ ns. started_from ns w s.hub.pool) waits)) (
          started-executes w m w (record (s.hub.pool) { queued = later }) ∙ ap (λ b. cond b (Some m) (executed_by s.hub.pool w)) (same-self w) ∙ ap (λ k. Some k) work.0,
          work.1 ∙ ap (value_of_work s.hub.pool) work.0,
        ))

pub start_after : {J : Type 0} → (w : ℕ) (old new : HubSeen) (r : Picked J) → AddsStart w old r new → picked_work r ≡ first_to_start old.hub.pool → is_closing r ≡ old.hub.pool.closing
    → AfterStart w old r new
start_after w old new (picked.Job t) adds job closing = (adds, start-executes old new w t job adds)
start_after w old new picked.Nothing adds job closing = adds
start_after w old new picked.Closing adds job closing = (adds, ap (λ (s : HubSeen). s.hub.pool.closing) adds ∙ sym closing)

-- AS OTHERS GO ON
-- a work that a worker executes stays so
along-running : (limit threads workers w m : ℕ) (history rest : List Entry) (h : Hub) → LeadsTo limit threads workers history h → HubReplays limit h (length history) rest
    → All (λ (x : Entry). is_worker w x.actor ≡ false) rest → executed_by h.pool w ≡ Some m
    → (executed_by (hub_along h rest).pool w ≡ Some m) × (value_of_work (hub_along h rest).pool m ≡ value_of_work h.pool m)
along-running limit threads workers w m history [] h led replays others runs = (runs, refl)
along-running limit threads workers w m history (x ∷ rest) h led replays others runs =
    let stays : StaysRunning w m h (hub_step h x).after =
    running-stays-running limit threads workers w m history h x led replays.0 (All-head (λ (y : Entry). is_worker w y.actor ≡ false) x rest others) runs in
    let fits = subst (λ (g : Hub). HubReplays limit g (length history) (x ∷ rest)) (sym led.hub) replays in
    let grown : LeadsTo limit threads workers (history ++ singleton x) (hub_step h x).after = record {
      replays = replays-more limit (new_hub threads workers) 0 history x led.replays fits.0
          (subst (λ k. IsTrue (fits_in (history_room (hub_along (new_hub threads workers) history) k limit) x.what)) (zero-more (length history)) fits.1);
      hub = along-more (new_hub threads workers) history x ∙ ap (λ (g : Hub). (hub_step g x).after) led.hub;
    } in
    let later = along-running limit threads workers w m (history ++ singleton x) rest (hub_step h x).after grown
    (subst (λ k. HubReplays limit (hub_step h x).after k rest) (one-longer history x) replays.2)
    (All-tail (λ (y : Entry). is_worker w y.actor ≡ false) x rest others) stays.executed in
    (later.0, later.1 ∙ stays.value)
  where
    zero-more : (k : ℕ) → k ≡ 0 + k
    zero-more k = omega arith

    one-longer : (xs : List Entry) (y : Entry) → length xs + 1 ≡ length (xs ++ singleton y)
    one-longer xs y = sym (length-append xs (singleton y))

duty-closing : (d : Duty) (h : Hub) → h.pool.closing ≡ true → (without_duty d h).pool.closing ≡ true
duty-closing (duty.Ticket t) h s = s
duty-closing (duty.Work n) h s = s
duty-closing (duty.Item f n) h s = s
duty-closing (duty.Function f) h s = s

case-closing : (h : Hub) (x : Entry) (told : Out) (n : Hub) → h.pool.closing ≡ true → HubCase h x told n → n.pool.closing ≡ true
case-closing h x told _ s (cancels_work w is none) = cancelled-closing (number_of_work h.pool w.0) h.pool ∙ s
case-closing h x told _ s (drains is may) = refl
case-closing h x told _ s (delivers d is next alone) = duty-closing d.duty h s
case-closing h x told _ s (starts w n later is waits free) = started-closing h.pool.queued w h.pool ∙ s
case-closing h x told _ s (finishes_work w n is runs) = finished-closing w (executed_by h.pool w) h.pool ∙ s
case-closing h x told _ s _ = s

-- a pool that is closing stays so
along-closing : (limit k : ℕ) (h : Hub) (xs : List Entry) → HubReplays limit h k xs → h.pool.closing ≡ true → (hub_along h xs).pool.closing ≡ true
along-closing limit k h [] replays s = s
along-closing limit k h (x ∷ xs) replays s = along-closing limit (k + 1) (hub_step h x).after xs replays.2 (case-closing h x _ _ s (hub-case h x replays.0.may))

module _ (n : Numbers) (p : PassState) (s : HubSeen) (led : LeadsTo n.limits.history n.threads n.workers s.history s.hub) (rest : List Row)
    (goes : rows_of n.threads s.history ≡ p.seen ++ rest) (history : List Entry) (rows : p.seen ≡ rows_of n.threads history) where
  -- the history goes on behind what was seen
  behind : (more : List Entry) × (s.history ≡ history ++ more) × (rows_of n.threads more ≡ rest)
  behind = histories-go-on n.threads history s.history rest (goes ∙ ap (λ l. l ++ rest) rows)

  parts : GoesOnBehind n.limits.history n.threads n.workers history behind.0 s.hub
  parts = prefixes-replay n.limits.history n.threads n.workers history behind.0 s.hub
      (subst (λ l. LeadsTo n.limits.history n.threads n.workers l s.hub) behind.1 led)

  pub still-closing : (led_by n history).pool.closing ≡ true → s.hub.pool.closing ≡ true
  still-closing closing =
      subst (λ (h : Hub). h.pool.closing ≡ true) parts.hub (along-closing n.limits.history (length history) (led_by n history) behind.0 parts.replays closing)

  pub goes-on-executing : (number value : ℕ) → n.threads < p.number → All (λ (r : Row). r.pass ≢ p.number) rest
      → Executes (worker_of n p.number) number value (led_by n history) → Executes (worker_of n p.number) number value s.hub
  goes-on-executing number value more only executes =
      let stays = along-running n.limits.history n.threads n.workers w number history behind.0 (led_by n history) parts.leads parts.replays
      (others behind.0 (subst (All (λ (r : Row). r.pass ≢ p.number)) (sym behind.2) only)) executes.0 in
      subst (λ (h : Hub). Executes w number value h) parts.hub (stays.0, executes.1 ∙ sym stays.1)
    where
      w : ℕ
      w = worker_of n p.number

      other : (who : Actor) → pass_of n.threads who ≢ p.number → is_worker w who ≡ false
      other actor.Env ne = refl
      other (actor.Thread t) ne = refl
      other (actor.Worker v) ne = by (v == w) refl
        where
          by : (b : Bool) → (v == w) ≡ b → b ≡ false
          by false is = refl
          by true is = absurd (ne (same v is))
            where
              same : (u : ℕ) → (u == w) ≡ true → 1 + n.threads + u ≡ p.number
              same u e = let m : u ≡ w = grind (arith, nat_tests) in ap (λ j. 1 + n.threads + j) m ∙ sym (number-again n p.number more)

      others : (xs : List Entry) → All (λ (r : Row). r.pass ≢ p.number) (rows_of n.threads xs) → All (λ (x : Entry). is_worker w x.actor ≡ false) xs
      others [] all = All-nil (λ (x : Entry). is_worker w x.actor ≡ false)
      others (x ∷ xs) all =
          All-cons (λ (y : Entry). is_worker w y.actor ≡ false) x xs (other x.actor (All-head (λ (r : Row). r.pass ≢ p.number) (row_of n.threads x) (rows_of n.threads xs) all))
          (others xs (All-tail (λ (r : Row). r.pass ≢ p.number) (row_of n.threads x) (rows_of n.threads xs) all))

pub still-executes : (n : Numbers) (p : PassState) (s : HubSeen) → IsLedHub n s → IsPrefix p.seen (rows_of n.threads s.history) → (history : List Entry) → p.seen ≡ rows_of n.threads history
    → (number value : ℕ) → n.threads < p.number → p.own ≡ own_rows p.number p.seen → p.own ≡ own_rows p.number (rows_of n.threads s.history)
    → Executes (worker_of n p.number) number value (led_by n history) → Executes (worker_of n p.number) number value s.hub
still-executes n p s k before history rows number value more known own executes =
    let only : (rest : List Row) × (rows_of n.threads s.history ≡ p.seen ++ rest) × All (λ r. r.pass ≢ p.number) rest =
    others_only p.number (rows_of n.threads s.history) p.seen p.own known before own in
    goes-on-executing n p s k.led only.0 only.1 history rows number value more only.2 executes
