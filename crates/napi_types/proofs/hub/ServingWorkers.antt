-- A worker that executes a work has not ended.
use Rattle.std.proofs.Common.{◌≡◌, ◌∙◌, ℕ, ◌+◌, ◌==◌, Bool, true, false, not, cond, ◌||◌, List, [], ◌∷◌, filter, IsTrue, refl, ap, sym, subst, Option, Some, None, is_some, is_none}
use Rattle.napi_types.specs.declared.entry.Actor.{Actor}
use Rattle.napi_types.specs.declared.entry.Actor.TheVariants as actor
use Rattle.napi_types.specs.declared.entry.Duty.{Duty}
use Rattle.napi_types.specs.declared.entry.Duty.TheVariants as duty
use Rattle.napi_types.specs.declared.entry.Entry.{Entry}
use Rattle.napi_types.specs.declared.entry.HostStep.TheVariants as host
use Rattle.napi_types.specs.declared.entry.Out.{Out}
use Rattle.napi_types.specs.declared.entry.What.{What}
use Rattle.napi_types.specs.declared.entry.What.TheVariants as what
use Rattle.napi_types.specs.plain.Lists.{has_number}
use Rattle.napi_types.specs.parts.Pool.{executed_by, number_of_work, started_from, finished_at}
use Rattle.napi_types.specs.hub.HistoryLaws.{ExecutingWorkersAreThere}
use Rattle.napi_types.specs.hub.Hub.{Hub, new_hub, workers_left}
use Rattle.napi_types.specs.hub.HubMoves.{without_duty}
use Rattle.napi_types.specs.hub.HubSteps.{hub_step, hub_step_of, hub_along, environment_step}
use Rattle.napi_types.specs.hub.Replays.{HubReplays}
use Rattle.napi_types.specs.hub.ThreadSteps.{thread_step}
use Rattle.napi_types.specs.hub.WorkerSteps.{is_worker_there, worker_step, start_step, work_end_step}
use Rattle.napi_types.proofs.plain.Conditions.{and-left, and-right}
use Rattle.napi_types.proofs.plain.Found.{same-tells}
use Rattle.napi_types.proofs.hub.HubCases.{HubCase, cancels_work, delivers, worker_ends, starts, finishes_work, hub-case}
use Rattle.napi_types.proofs.hub.WorkerTurns.{is_event_of_others, not-theirs, started-executes, finished-executes, cancelled-executes, ended-without}

-- it has not ended where it executes a work
abbrev pub IsServing : ℕ → Hub → Type 0
IsServing w h = is_some (executed_by h.pool w) ≡ true → is_worker_there h w ≡ true

-- WHAT NO WORKER DOES
duty-serves : (w : ℕ) (d : Duty) (h : Hub) → IsServing w h → IsServing w (without_duty d h)
duty-serves w (duty.Work n) h serves = serves
duty-serves w _ h serves = serves

case-serves : (w : ℕ) (h : Hub) (x : Entry) (told : Out) (n : Hub) → is_event_of_others x.what ≡ false → HubCase h x told n → IsServing w h → IsServing w n
case-serves w h x told _ other (cancels_work v is none) serves = λ runs. serves (ap is_some (sym (cancelled-executes (number_of_work h.pool v.0) w h.pool)) ∙ runs)
case-serves w h x told _ other (delivers d is next alone) serves = duty-serves w d.duty h serves
case-serves w h x told _ other (worker_ends v is there) serves = absurd (not-theirs x (what.Host host.ActorEnd) is refl other)
case-serves w h x told _ other (starts v n later is waits free) serves = absurd (not-theirs x (what.Host host.Start) is refl other)
case-serves w h x told _ other (finishes_work v n is runs) serves = absurd (not-theirs x (what.Host host.Finish) is refl other)
case-serves w h x told _ other _ serves = serves

environment-serves : (w : ℕ) (h : Hub) (x : Entry) (it : What) → x.what ≡ it → IsTrue (environment_step h x it).may
    → HubCase h x (environment_step h x it).entry.reply.out (environment_step h x it).after → IsServing w h → IsServing w (environment_step h x it).after
environment-serves w h x (what.Host host.Start) is may case serves = cc
environment-serves w h x (what.Host host.Finish) is may case serves = cc
environment-serves w h x (what.Host host.ActorEnd) is may case serves = cc
environment-serves w h x it is may case serves = case-serves w h x _ _ (ap is_event_of_others is) case serves

thread-serves : (w : ℕ) (h : Hub) (t : ℕ) (x : Entry) (it : What) → x.what ≡ it → IsTrue (thread_step h t x it).may
    → HubCase h x (thread_step h t x it).entry.reply.out (thread_step h t x it).after → IsServing w h → IsServing w (thread_step h t x it).after
thread-serves w h t x (what.Call c) is may case serves = case-serves w h x _ _ (ap is_event_of_others is) case serves
thread-serves w h t x (what.Host host.ActorEnd) is may case serves = serves
thread-serves w h t x (what.Host _) is may case serves = cc

-- WHAT A WORKER DOES
start-serves : (w : ℕ) (h : Hub) (v : ℕ) (x : Entry) (queued : List ℕ) → h.pool.queued ≡ queued → IsTrue (start_step h v x queued).may → IsServing w h
    → IsServing w (start_step h v x queued).after
start-serves w h v x [] waits may serves = cc
start-serves w h v x (n ∷ later) waits may serves = λ runs. by (v == w) refl (sym (ap is_some executes) ∙ runs)
  where
    executes : executed_by (started_from h.pool.queued v h.pool) w ≡ cond (v == w) (Some n) (executed_by h.pool w)
    executes = ap (λ ns. executed_by (started_from ns v h.pool) w) waits ∙ started-executes v n w (record (h.pool) { queued = later })

    by : (b : Bool) → (v == w) ≡ b → is_some (cond b (Some n) (executed_by h.pool w)) ≡ true → is_worker_there h w ≡ true
    by true is runs =
        subst (λ k. is_worker_there h k ≡ true) (same-tells v w is)
        (and-left (is_worker_there h v) (not h.pool.closing) (and-left _ (is_none (executed_by h.pool v)) may))
    by false is runs = serves runs

finish-serves : (w : ℕ) (h : Hub) (v : ℕ) (x : Entry) (o : Option ℕ) → executed_by h.pool v ≡ o → IsTrue (work_end_step h v x o).may → IsServing w h
    → IsServing w (work_end_step h v x o).after
finish-serves w h v x None executes may serves = cc
finish-serves w h v x (Some n) executes may serves = λ runs. by (v == w) (sym (ap is_some left) ∙ runs)
  where
    left : executed_by (finished_at v (executed_by h.pool v) h.pool) w ≡ cond (v == w) None (executed_by h.pool w)
    left = ap (λ o. executed_by (finished_at v o h.pool) w) executes ∙ finished-executes v n w h.pool

    by : (b : Bool) → is_some (cond b None (executed_by h.pool w)) ≡ true → is_worker_there h w ≡ true
    by true runs = cc
    by false runs = serves runs

-- another number is left as it was where one is left out
left-in : (v w : ℕ) → (v == w) ≡ false → (ms : List ℕ) → has_number w (filter (λ k. not (k == v)) ms) ≡ has_number w ms
left-in v w apart [] = refl
left-in v w apart (m ∷ ms) = by (m == v) refl (left-in v w apart ms)
  where
    by : (b : Bool) → (m == v) ≡ b → has_number w (filter (λ k. not (k == v)) ms) ≡ has_number w ms
        → has_number w (cond (not b) (m ∷ filter (λ k. not (k == v)) ms) (filter (λ k. not (k == v)) ms)) ≡ ((m == w) || has_number w ms)
    by true is rest = rest ∙ sym (ap (λ b. b || has_number w ms) (ap (λ k. k == w) (same-tells m v is) ∙ apart))
    by false is rest = ap (λ b. (m == w) || b) rest

end-serves : (w : ℕ) (h : Hub) (v : ℕ) (x : Entry) → IsTrue (worker_step h v x (what.Host host.ActorEnd)).may → IsServing w h
    → IsServing w (worker_step h v x (what.Host host.ActorEnd)).after
end-serves w h v x may serves = λ runs. by (v == w) refl runs
  where
    free : (o : Option ℕ) → is_none o ≡ true → is_some o ≡ true → ⊥
    free None none some = cc
    free (Some n) none some = cc

    by : (b : Bool) → (v == w) ≡ b → is_some (executed_by h.pool w) ≡ true → is_worker_there (worker_step h v x (what.Host host.ActorEnd)).after w ≡ true
    by true is runs =
        absurd (free (executed_by h.pool v) (and-right _ (is_none (executed_by h.pool v)) may) (ap (λ k. is_some (executed_by h.pool k)) (same-tells v w is) ∙ runs))
    by false is runs = ended-without v w h.workers h.ended_workers ∙ left-in v w is (workers_left h) ∙ serves runs

worker-serves : (w : ℕ) (h : Hub) (v : ℕ) (x : Entry) (it : What) → IsTrue (worker_step h v x it).may → IsServing w h → IsServing w (worker_step h v x it).after
worker-serves w h v x (what.Call c) may serves = cc
worker-serves w h v x (what.Host host.Start) may serves = start-serves w h v x h.pool.queued refl may serves
worker-serves w h v x (what.Host host.Finish) may serves = finish-serves w h v x (executed_by h.pool v) refl may serves
worker-serves w h v x (what.Host host.ActorEnd) may serves = end-serves w h v x may serves
worker-serves w h v x (what.Host _) may serves = cc

-- EACH ENTRY
pub step-serves : (w : ℕ) (h : Hub) (x : Entry) → IsTrue (hub_step h x).may → IsServing w h → IsServing w (hub_step h x).after
step-serves w h x may serves = by x.actor may (hub-case h x may)
  where
    by : (who : Actor) → IsTrue (hub_step_of h x who).may → HubCase h x (hub_step_of h x who).entry.reply.out (hub_step_of h x who).after
        → IsServing w (hub_step_of h x who).after
    by actor.Env may case = environment-serves w h x x.what refl may case serves
    by (actor.Thread t) may case = thread-serves w h t x x.what refl may case serves
    by (actor.Worker v) may case = worker-serves w h v x x.what may serves

-- ALONG A HISTORY
along-serves : (limit n w : ℕ) (h : Hub) (xs : List Entry) → IsServing w h → HubReplays limit h n xs → IsServing w (hub_along h xs)
along-serves limit n w h [] serves replays = serves
along-serves limit n w h (x ∷ xs) serves replays = along-serves limit (n + 1) w (hub_step h x).after xs (step-serves w h x replays.0.may serves) replays.2

pub executing-workers-are-there : ExecutingWorkersAreThere
executing-workers-are-there limit threads workers w history h led =
    subst (IsServing w) led.hub (along-serves limit 0 w (new_hub threads workers) history (λ runs. let no : false ≡ true = runs in cc) led.replays)
