-- What may come of threads and workers, and that nothing does where there are none.
use Rattle.std.proofs.Common.{◌≡◌, ◌∙◌, ℕ, true, false, not, ◌&&◌, List, [], ◌∷◌, IsTrue, refl, sym, subst, Option, Some, None, is_none}
use Rattle.napi_types.specs.declared.call.Ask.{Ask}
use Rattle.napi_types.specs.declared.entry.Actor.{Actor}
use Rattle.napi_types.specs.declared.entry.Actor.TheVariants as actor
use Rattle.napi_types.specs.declared.entry.Entry.{Entry}
use Rattle.napi_types.specs.declared.entry.HostStep.{HostStep}
use Rattle.napi_types.specs.declared.entry.HostStep.TheVariants as host
use Rattle.napi_types.specs.declared.entry.What.{What}
use Rattle.napi_types.specs.declared.entry.What.TheVariants as what
use Rattle.napi_types.specs.plain.Lists.{has_number}
use Rattle.napi_types.specs.parts.Pool.{executed_by}
use Rattle.napi_types.specs.hub.Hub.{Hub, left_of}
use Rattle.napi_types.specs.hub.HubCalls.{hub_answer, is_thread_call}
use Rattle.napi_types.specs.hub.ThreadSteps.{is_gone_on, is_thread_there, nothing_given, is_thread_end, thread_step, thread_event}
use Rattle.napi_types.specs.hub.WorkerSteps.{is_worker_there, worker_step, worker_event, start_step, work_end_step}
use Rattle.napi_types.specs.hub.HubSteps.{hub_step, hub_step_of}
use Rattle.napi_types.specs.runs.Machine.{Machine}
use Rattle.napi_types.specs.runs.Run.{IsNext}
use Rattle.napi_types.specs.runs.Step.{has_room, step_of}
use Rattle.napi_types.proofs.plain.Conditions.{and-left, and-right}
use Rattle.napi_types.proofs.hub.HubKeeps.{answered-may}
use Rattle.machine_laws.specs.Choices.{is_of_threads, is_of_workers, IsOfOther, OthersComeWhereTheyAre}
use Rattle.machine_laws.specs.Cuts.{IsOnlyNext, IsOnlyOfEnvironment}

-- THREADS
abbrev OfThread : Hub → ℕ → What → Type 0
OfThread h t w = (is_thread_there h t ≡ true) × (is_of_threads w ≡ true)

thread_event-of : (h : Hub) (t : ℕ) (x : Entry) (event : HostStep) → IsTrue (thread_event h t x event).may → OfThread h t (what.Host event)
thread_event-of h t x host.ActorEnd may = (and-left (is_thread_there h t) (is_thread_end x.reply.out) may, refl)
thread_event-of h t x _ may = cc

thread-of : (h : Hub) (t : ℕ) (x : Entry) (w : What) → IsTrue (thread_step h t x w).may → OfThread h t w
thread-of h t x (what.Call c) may =
    let both : IsTrue (is_thread_there h t && is_thread_call c) =
    answered-may h (record x { depth = 0; given = None }) (is_thread_there h t && is_thread_call c) (hub_answer h (actor.Thread t) nothing_given c 0) may in
    (and-left (is_thread_there h t) (is_thread_call c) both, and-right (is_thread_there h t) (is_thread_call c) both)
thread-of h t x (what.Host event) may = thread_event-of h t x event may

-- WORKERS
abbrev OfWorker : Hub → ℕ → What → Type 0
OfWorker h w it = (is_worker_there h w ≡ true) × (is_of_workers it ≡ true)

start-of : (h : Hub) (w : ℕ) (x : Entry) (queued : List ℕ) → IsTrue (start_step h w x queued).may → is_worker_there h w ≡ true
start-of h w x [] may = cc
start-of h w x (n ∷ later) may =
    and-left (is_worker_there h w) (not h.pool.closing) (and-left (is_worker_there h w && not h.pool.closing) (is_none (executed_by h.pool w)) may)

finish-of : (h : Hub) (w : ℕ) (x : Entry) (n : Option ℕ) → IsTrue (work_end_step h w x n).may → is_worker_there h w ≡ true
finish-of h w x None may = cc
finish-of h w x (Some n) may = may

worker_event-of : (h : Hub) (w : ℕ) (x : Entry) (event : HostStep) → IsTrue (worker_event h w x event).may → OfWorker h w (what.Host event)
worker_event-of h w x host.Start may = (start-of h w x h.pool.queued may, refl)
worker_event-of h w x host.Finish may = (finish-of h w x (executed_by h.pool w) may, refl)
worker_event-of h w x host.ActorEnd may =
    (and-left (is_worker_there h w) h.pool.closing (and-left (is_worker_there h w && h.pool.closing) (is_none (executed_by h.pool w)) may), refl)
worker_event-of h w x _ may = cc

worker-of : (h : Hub) (w : ℕ) (x : Entry) (it : What) → IsTrue (worker_step h w x it).may → OfWorker h w it
worker-of h w x (what.Call c) may = cc
worker-of h w x (what.Host event) may = worker_event-of h w x event may

-- BOTH
of-other : (m : Machine) (a : Ask) (x : Entry) (who : Actor) → x.actor ≡ who → IsTrue (step_of m a x who).may → IsOfOther m.hub who x.what
of-other m a x actor.Env is may = tt
of-other m a x (actor.Thread t) is may =
    let it : IsTrue (hub_step m.hub x).may = and-right (has_room m x.what) (hub_step m.hub x).may may in
    thread-of m.hub t x x.what (subst (λ who. IsTrue (hub_step_of m.hub x who).may) is it)
of-other m a x (actor.Worker w) is may =
    let it : IsTrue (hub_step m.hub x).may = and-right (has_room m x.what) (hub_step m.hub x).may may in
    worker-of m.hub w x x.what (subst (λ who. IsTrue (hub_step_of m.hub x who).may) is it)

pub others-come : OthersComeWhereTheyAre
others-come m a x next = of-other m a x x.actor refl next.1

-- where there are none the environment alone makes entries
none-left : (n k : ℕ) (ended : List ℕ) → n ≡ 0 → has_number k (left_of n ended) ≡ false
none-left n k ended none = rw none refl

pub by-env-alone : (m : Machine) (a : Ask) (x : Entry) → m.hub.threads ≡ 0 → m.hub.workers ≡ 0 → IsNext m a x → x.actor ≡ actor.Env
by-env-alone m a x no_threads no_workers next = by x.actor (others-come m a x next)
  where
    by : (who : Actor) → IsOfOther m.hub who x.what → who ≡ actor.Env
    by actor.Env of = refl
    by (actor.Thread t) of =
        let there : has_number t (left_of m.hub.threads m.hub.ended_threads) ≡ true =
        and-right (is_gone_on m.hub.stage) (has_number t (left_of m.hub.threads m.hub.ended_threads)) of.0 in
        let no : false ≡ true = sym (none-left m.hub.threads t m.hub.ended_threads no_threads) ∙ there in
        absurd cc
    by (actor.Worker w) of =
        let no : false ≡ true = sym (none-left m.hub.workers w m.hub.ended_workers no_workers) ∙ of.0 in
        absurd cc

pub only-alone : (m : Machine) (a : Ask) (x : Entry) → m.hub.threads ≡ 0 → m.hub.workers ≡ 0 → IsOnlyOfEnvironment m a x → IsOnlyNext m a x
only-alone m a x no_threads no_workers only = (only.0, λ y next. only.1 y (by-env-alone m a y no_threads no_workers next) next)
