-- Over every history that replays a worker starts and finishes works by turns, and then ends. No entry of another actor changes what it executes.
use Rattle.std.proofs.Common.{◌≡◌, ◌∙◌, ℕ, ◌+◌, ◌==◌, Bool, true, false, not, cond, ◌||◌, List, [], ◌∷◌, filter, IsTrue, refl, ap, sym, subst, Option, Some, None, is_some, is_none, option_map}
use Rattle.std.specs.List.{range_with_len}
use Rattle.napi_types.specs.declared.entry.Actor.{Actor}
use Rattle.napi_types.specs.declared.entry.Actor.TheVariants as actor
use Rattle.napi_types.specs.declared.entry.Duty.{Duty}
use Rattle.napi_types.specs.declared.entry.Duty.TheVariants as duty
use Rattle.napi_types.specs.declared.entry.Entry.{Entry}
use Rattle.napi_types.specs.declared.entry.HostStep.TheVariants as host
use Rattle.napi_types.specs.declared.entry.Out.{Out}
use Rattle.napi_types.specs.declared.entry.What.{What}
use Rattle.napi_types.specs.declared.entry.What.TheVariants as what
use Rattle.napi_types.specs.plain.Lists.{found, has_number, with_number}
use Rattle.napi_types.specs.parts.Pool.{WorkPool, executed_by, number_of_work, cancelled_at, with_execution, started_from, finished_at}
use Rattle.napi_types.specs.parts.Works.{Execution}
use Rattle.napi_types.specs.hub.Actors.{is_worker, WorkerState, Free, Working, Over, worker_after, does_next, worker_along}
use Rattle.napi_types.specs.hub.HistoryLaws.{WorkersTakeTurns}
use Rattle.napi_types.specs.hub.Hub.{Hub, new_hub, left_of, workers_left}
use Rattle.napi_types.specs.hub.HubMoves.{without_duty}
use Rattle.napi_types.specs.hub.ThreadSteps.{thread_step}
use Rattle.napi_types.specs.hub.WorkerSteps.{is_worker_there, worker_step, start_step, work_end_step}
use Rattle.napi_types.specs.hub.HubSteps.{hub_step, hub_step_of, environment_step}
use Rattle.napi_types.specs.hub.Replays.{HubReplays}
use Rattle.napi_types.proofs.plain.Conditions.{and-left, and-right}
use Rattle.napi_types.proofs.plain.Found.{same-tells, same-self, found-filter, found-with_record, turned}
use Rattle.napi_types.proofs.hub.HubCases.{HubCase, cancels_work, delivers, worker_ends, starts, finishes_work, hub-case}
use Rattle.napi_types.proofs.hub.HubRooms.{left-without}

-- WHAT WORKERS EXECUTE
pub started-executes : (v n w : ℕ) (p : WorkPool) → executed_by (with_execution v n p) w ≡ cond (v == w) (Some n) (executed_by p w)
started-executes v n w p =
    ap (λ o. option_map (λ (e : Execution). e.work) o) (found-with_record (λ (e : Execution). e.worker) w (record { worker = v; work = n }) p.executions)
    ∙ by (v == w)
  where
    by : (b : Bool)
        → option_map (λ (e : Execution). e.work) (cond b (Some (record { worker = v; work = n })) (found (λ (e : Execution). e.worker) w p.executions))
        ≡ cond b (Some n) (executed_by p w)
    by true = refl
    by false = refl

pub finished-executes : (v n w : ℕ) (p : WorkPool) → executed_by (finished_at v (Some n) p) w ≡ cond (v == w) None (executed_by p w)
finished-executes v n w p =
    ap (λ o. option_map (λ (e : Execution). e.work) o) (found-filter (λ (e : Execution). e.worker) (λ m. not (m == v)) w p.executions)
    ∙ ap (λ b. option_map (λ (e : Execution). e.work) (cond (not b) (found (λ (e : Execution). e.worker) w p.executions) None)) (turned w v)
    ∙ by (v == w)
  where
    by : (b : Bool)
        → option_map (λ (e : Execution). e.work) (cond (not b) (found (λ (e : Execution). e.worker) w p.executions) None) ≡ cond b None (executed_by p w)
    by true = refl
    by false = refl

pub cancelled-executes : (o : Option ℕ) (w : ℕ) (p : WorkPool) → executed_by (cancelled_at o p) w ≡ executed_by p w
cancelled-executes None w p = refl
cancelled-executes (Some n) w p = refl

-- WHO IS LEFT
-- a number that is not in a list is in no part of it
absent-filter : (p : ℕ → Bool) (w : ℕ) (ms : List ℕ) → has_number w ms ≡ false → has_number w (filter p ms) ≡ false
absent-filter p w [] absent = refl
absent-filter p w (m ∷ ms) absent = by (m == w) (p m) refl absent (absent-filter p w ms)
  where
    by : (a b : Bool) → (m == w) ≡ a → (a || has_number w ms) ≡ false → (has_number w ms ≡ false → has_number w (filter p ms) ≡ false)
        → has_number w (cond b (m ∷ filter p ms) (filter p ms)) ≡ false
    by true b is absent rest = let no : true ≡ false = absent in cc
    by false true is absent rest = ap (λ c. c || has_number w (filter p ms)) is ∙ rest absent
    by false false is absent rest = rest absent

-- and none is left of itself where it is left out
left-out : (w : ℕ) (ms : List ℕ) → has_number w (filter (λ k. not (k == w)) ms) ≡ false
left-out w [] = refl
left-out w (m ∷ ms) = by (m == w) refl (left-out w ms)
  where
    by : (a : Bool) → (m == w) ≡ a → has_number w (filter (λ k. not (k == w)) ms) ≡ false
        → has_number w (cond (not a) (m ∷ filter (λ k. not (k == w)) ms) (filter (λ k. not (k == w)) ms)) ≡ false
    by true is rest = rest
    by false is rest = ap (λ c. c || has_number w (filter (λ k. not (k == w)) ms)) is ∙ rest

pub ended-without : (v w count : ℕ) (ended : List ℕ)
    → has_number w (left_of count (with_number v ended)) ≡ has_number w (filter (λ k. not (k == v)) (left_of count ended))
ended-without v w count ended = ap (has_number w) (left-without v ended (range_with_len 0 count))

-- WHAT OTHERS LEAVE OF A WORKER
-- it executes what it did, and does not come back once it has ended
pub record LeavesWorker (w : ℕ) (old new : Hub) : Type 0 where
  pub executed : executed_by new.pool w ≡ executed_by old.pool w
  pub gone : has_number w (workers_left old) ≡ false → has_number w (workers_left new) ≡ false

-- what only workers do, and threads in their way
abbrev pub is_event_of_others : What → Bool
is_event_of_others (what.Host host.Start) = true
is_event_of_others (what.Host host.Finish) = true
is_event_of_others (what.Host host.ActorEnd) = true
is_event_of_others _ = false

duty-leaves : (w : ℕ) (d : Duty) (h : Hub) → LeavesWorker w h (without_duty d h)
duty-leaves w (duty.Work n) h = record { executed = refl; gone = λ g. g }
duty-leaves w _ h = record { executed = refl; gone = λ g. g }

-- an entry that is none of these is not this one of these
pub not-theirs : (x : Entry) (it : What) → x.what ≡ it → is_event_of_others it ≡ true → is_event_of_others x.what ≡ false → ⊥
not-theirs x it is theirs other = let no : true ≡ false = sym theirs ∙ sym (ap is_event_of_others is) ∙ other in cc

case-leaves : (w : ℕ) (h : Hub) (x : Entry) (told : Out) (n : Hub) → is_event_of_others x.what ≡ false → HubCase h x told n → LeavesWorker w h n
case-leaves w h x told _ other (cancels_work v is none) = record { executed = cancelled-executes (number_of_work h.pool v.0) w h.pool; gone = λ g. g }
case-leaves w h x told _ other (delivers d is next alone) =
    let k : LeavesWorker w h (without_duty d.duty h) = duty-leaves w d.duty h in
    record { executed = k.executed; gone = k.gone }
case-leaves w h x told _ other (worker_ends v is there) = absurd (not-theirs x (what.Host host.ActorEnd) is refl other)
case-leaves w h x told _ other (starts v n later is waits free) = absurd (not-theirs x (what.Host host.Start) is refl other)
case-leaves w h x told _ other (finishes_work v n is runs) = absurd (not-theirs x (what.Host host.Finish) is refl other)
case-leaves w h x told _ other _ = record { executed = refl; gone = λ g. g }

-- the environment and threads
environment-leaves : (w : ℕ) (h : Hub) (x : Entry) (it : What) → x.what ≡ it → IsTrue (environment_step h x it).may
    → HubCase h x (environment_step h x it).entry.reply.out (environment_step h x it).after
    → LeavesWorker w h (environment_step h x it).after
environment-leaves w h x (what.Call c) is may it = case-leaves w h x _ _ (ap is_event_of_others is) it
environment-leaves w h x (what.Host host.Start) is may it = cc
environment-leaves w h x (what.Host host.Finish) is may it = cc
environment-leaves w h x (what.Host host.ActorEnd) is may it = cc
environment-leaves w h x (what.Host event) is may it = case-leaves w h x _ _ (ap is_event_of_others is) it

thread-leaves : (w : ℕ) (h : Hub) (t : ℕ) (x : Entry) (it : What) → x.what ≡ it → IsTrue (thread_step h t x it).may → HubCase h x (thread_step h t x it).entry.reply.out (thread_step h t x it).after
    → LeavesWorker w h (thread_step h t x it).after
thread-leaves w h t x (what.Call c) is may it = case-leaves w h x _ _ (ap is_event_of_others is) it
thread-leaves w h t x (what.Host host.ActorEnd) is may it = record { executed = refl; gone = λ g. g }
thread-leaves w h t x (what.Host event) is may it = cc

-- another worker
start-leaves : (w : ℕ) (h : Hub) (v : ℕ) (x : Entry) (queued : List ℕ) → h.pool.queued ≡ queued → (v == w) ≡ false
    → LeavesWorker w h (start_step h v x queued).after
start-leaves w h v x [] waits apart = record { executed = refl; gone = λ g. g }
start-leaves w h v x (n ∷ later) waits apart = record {
  executed = ap (λ ns. executed_by (started_from ns v h.pool) w) waits ∙ started-executes v n w (record (h.pool) { queued = later })
      ∙ ap (λ b. cond b (Some n) (executed_by h.pool w)) apart;
  gone = λ g. g;
}

end-leaves : (w : ℕ) (h : Hub) (v : ℕ) (x : Entry) (o : Option ℕ) → executed_by h.pool v ≡ o → (v == w) ≡ false → LeavesWorker w h (work_end_step h v x o).after
end-leaves w h v x None runs apart = record { executed = refl; gone = λ g. g }
end-leaves w h v x (Some n) runs apart = record {
  executed = ap (λ o. executed_by (finished_at v o h.pool) w) runs ∙ finished-executes v n w h.pool ∙ ap (λ b. cond b None (executed_by h.pool w)) apart;
  gone = λ g. g;
}

worker-leaves : (w : ℕ) (h : Hub) (v : ℕ) (x : Entry) (it : What) → (v == w) ≡ false → IsTrue (worker_step h v x it).may
    → LeavesWorker w h (worker_step h v x it).after
worker-leaves w h v x (what.Call c) apart may = cc
worker-leaves w h v x (what.Host host.Start) apart may = start-leaves w h v x h.pool.queued refl apart
worker-leaves w h v x (what.Host host.Finish) apart may = end-leaves w h v x (executed_by h.pool v) refl apart
worker-leaves w h v x (what.Host host.ActorEnd) apart may =
    record { executed = refl; gone = λ g. ended-without v w h.workers h.ended_workers ∙ absent-filter (λ k. not (k == v)) w (workers_left h) g }
worker-leaves w h v x (what.Host event) apart may = cc

pub others-leave : (w : ℕ) (h : Hub) (x : Entry) → is_worker w x.actor ≡ false → IsTrue (hub_step h x).may → LeavesWorker w h (hub_step h x).after
others-leave w h x other may = by x.actor other may (hub-case h x may)
  where
    by : (who : Actor) → is_worker w who ≡ false → IsTrue (hub_step_of h x who).may → HubCase h x (hub_step_of h x who).entry.reply.out (hub_step_of h x who).after
        → LeavesWorker w h (hub_step_of h x who).after
    by actor.Env other may it = environment-leaves w h x x.what refl may it
    by (actor.Thread t) other may it = thread-leaves w h t x x.what refl may it
    by (actor.Worker v) other may it = worker-leaves w h v x x.what other may

-- WHERE A WORKER STANDS
-- a free one executes nothing, one that has a work executes it, and one that is over has ended
abbrev pub WorkerStands : ℕ → Hub → WorkerState → Type 0
WorkerStands w h Free = executed_by h.pool w ≡ None
WorkerStands w h Working = is_some (executed_by h.pool w) ≡ true
WorkerStands w h Over = has_number w (workers_left h) ≡ false

abbrev pub StandsSo : ℕ → Hub → Option WorkerState → Type 0
StandsSo w h None = ⊥
StandsSo w h (Some s) = WorkerStands w h s

leaves-stands : (w : ℕ) (old new : Hub) (s : WorkerState) → LeavesWorker w old new → WorkerStands w old s → WorkerStands w new s
leaves-stands w old new Free k stands = k.executed ∙ stands
leaves-stands w old new Working k stands = ap is_some k.executed ∙ stands
leaves-stands w old new Over k stands = k.gone stands

-- ITS OWN ENTRIES
-- none comes of one that has ended, and none that is out of turn
over : (w : ℕ) (h : Hub) → is_worker_there h w ≡ true → has_number w (workers_left h) ≡ false → ⊥
over w h there gone = let no : true ≡ false = sym there ∙ gone in cc

idle : (o : Option ℕ) → is_none o ≡ true → is_some o ≡ true → ⊥
idle None none some = cc
idle (Some n) none some = cc

own-start : (w : ℕ) (h : Hub) (x : Entry) (queued : List ℕ) (s : WorkerState) → h.pool.queued ≡ queued → WorkerStands w h s → IsTrue (start_step h w x queued).may
    → StandsSo w (start_step h w x queued).after (worker_after s (what.Host host.Start))
own-start w h x [] s waits stands may = cc
own-start w h x (n ∷ later) Free waits stands may =
    ap (λ ns. is_some (executed_by (started_from ns w h.pool) w)) waits ∙ ap is_some (started-executes w n w (record (h.pool) { queued = later }))
    ∙ ap (λ b. is_some (cond b (Some n) (executed_by h.pool w))) (same-self w)
own-start w h x (n ∷ later) Working waits stands may = idle (executed_by h.pool w) (and-right _ (is_none (executed_by h.pool w)) may) stands
own-start w h x (n ∷ later) Over waits stands may =
    over w h (and-left (is_worker_there h w) (not h.pool.closing) (and-left _ (is_none (executed_by h.pool w)) may)) stands

own-finish : (w : ℕ) (h : Hub) (x : Entry) (o : Option ℕ) (s : WorkerState) → executed_by h.pool w ≡ o → WorkerStands w h s → IsTrue (work_end_step h w x o).may
    → StandsSo w (work_end_step h w x o).after (worker_after s (what.Host host.Finish))
own-finish w h x None s runs stands may = cc
own-finish w h x (Some n) Free runs stands may = let no : Some n ≡ None = sym runs ∙ stands in cc
own-finish w h x (Some n) Working runs stands may =
    ap (λ o. executed_by (finished_at w o h.pool) w) runs ∙ finished-executes w n w h.pool ∙ ap (λ b. cond b None (executed_by h.pool w)) (same-self w)
own-finish w h x (Some n) Over runs stands may = over w h may stands

own-end : (w : ℕ) (h : Hub) (x : Entry) (s : WorkerState) → WorkerStands w h s → IsTrue (worker_step h w x (what.Host host.ActorEnd)).may
    → StandsSo w (worker_step h w x (what.Host host.ActorEnd)).after (worker_after s (what.Host host.ActorEnd))
own-end w h x Free stands may = ended-without w w h.workers h.ended_workers ∙ left-out w (workers_left h)
own-end w h x Working stands may = idle (executed_by h.pool w) (and-right _ (is_none (executed_by h.pool w)) may) stands
own-end w h x Over stands may = over w h (and-left (is_worker_there h w) h.pool.closing (and-left _ (is_none (executed_by h.pool w)) may)) stands

own-stands : (w : ℕ) (h : Hub) (x : Entry) (it : What) (s : WorkerState) → WorkerStands w h s → IsTrue (worker_step h w x it).may
    → StandsSo w (worker_step h w x it).after (worker_after s it)
own-stands w h x (what.Call c) s stands may = cc
own-stands w h x (what.Host host.Start) s stands may = own-start w h x h.pool.queued s refl stands may
own-stands w h x (what.Host host.Finish) s stands may = own-finish w h x (executed_by h.pool w) s refl stands may
own-stands w h x (what.Host host.ActorEnd) s stands may = own-end w h x s stands may
own-stands w h x (what.Host event) s stands may = cc

-- EACH ENTRY
pub next-stands : (w : ℕ) (h : Hub) (x : Entry) (s : WorkerState) → WorkerStands w h s → IsTrue (hub_step h x).may
    → StandsSo w (hub_step h x).after (does_next w x (Some s))
next-stands w h x s stands may = by (is_worker w x.actor) refl
  where
    own : (who : Actor) → is_worker w who ≡ true → IsTrue (hub_step_of h x who).may → StandsSo w (hub_step_of h x who).after (worker_after s x.what)
    own actor.Env its may = cc
    own (actor.Thread t) its may = cc
    own (actor.Worker v) its may =
        subst (λ u. IsTrue (worker_step h u x x.what).may → StandsSo w (worker_step h u x x.what).after (worker_after s x.what)) (sym (same-tells v w its))
        (own-stands w h x x.what s stands) may

    by : (b : Bool) → is_worker w x.actor ≡ b → StandsSo w (hub_step h x).after (cond b (worker_after s x.what) (Some s))
    by true its = own x.actor its may
    by false other = leaves-stands w h (hub_step h x).after s (others-leave w h x other may) stands

along : (limit w n : ℕ) (h : Hub) (s : WorkerState) (xs : List Entry) → WorkerStands w h s → HubReplays limit h n xs → is_some (worker_along w (Some s) xs) ≡ true
along limit w n h s [] stands replays = refl
along limit w n h s (x ∷ xs) stands replays =
    by (does_next w x (Some s)) (next-stands w h x s stands replays.0.may) (λ t there. along limit w (n + 1) (hub_step h x).after t xs there replays.2)
  where
    by : (o : Option WorkerState) → StandsSo w (hub_step h x).after o
        → ((t : WorkerState) → WorkerStands w (hub_step h x).after t → is_some (worker_along w (Some t) xs) ≡ true)
        → is_some (worker_along w o xs) ≡ true
    by None there rest = absurd there
    by (Some t) there rest = rest t there

pub workers-take-turns : WorkersTakeTurns
workers-take-turns limit threads workers w xs replays = along limit w 0 (new_hub threads workers) Free xs refl replays
