-- No entry of a thread or a worker lowers the sum of the history's entries and reserved places.
use Rattle.std.proofs.Common.{◌≡◌, ◌∙◌, ℕ, suc, ◌+◌, ◌*◌, ◌≤◌, Bool, true, false, List, ◌∷◌, ◌++◌, length, refl, ap, sym, subst, arith, length-append, Option, Some, is_some, is_none, IsTrue}
use Rattle.std.specs.List.{sum_by}
use Rattle.napi_types.specs.declared.call.Call.{Call}
use Rattle.napi_types.specs.declared.call.Release.{Release}
use Rattle.napi_types.specs.declared.call.Release.TheVariants as release
use Rattle.napi_types.specs.declared.entry.Actor.{Actor}
use Rattle.napi_types.specs.declared.entry.Actor.TheVariants as actor
use Rattle.napi_types.specs.declared.entry.Entry.{Entry}
use Rattle.napi_types.specs.declared.entry.Out.{Out}
use Rattle.napi_types.specs.declared.entry.HostStep.{HostStep}
use Rattle.napi_types.specs.declared.entry.HostStep.TheVariants as host
use Rattle.napi_types.specs.declared.entry.TsfnState.{TsfnState}
use Rattle.napi_types.specs.declared.entry.TsfnState.TheVariants.{Open}
use Rattle.napi_types.specs.declared.entry.What.{What}
use Rattle.napi_types.specs.declared.entry.What.TheVariants as what
use Rattle.napi_types.specs.declared.status.Status.{Status}
use Rattle.napi_types.specs.declared.status.Status.TheVariants as status
use Rattle.napi_types.specs.plain.Entries.{is_environment}
use Rattle.napi_types.specs.plain.Lists.{with_number, with_record, singleton}
use Rattle.napi_types.specs.plain.Room.{one_if}
use Rattle.napi_types.specs.parts.Functions.{FunctionState, called, acquire_status, acquired, release_status, closed_state, released}
use Rattle.napi_types.specs.parts.Pool.{WorkPool, executed_by, with_started, started_from, with_finished, finished_at}
use Rattle.napi_types.specs.parts.Works.{Execution}
use Rattle.napi_types.specs.hub.HistoryLaws.{OthersLowerNothing}
use Rattle.napi_types.specs.hub.HistoryRoom.{state_places, work_places, function_places, reserved_history}
use Rattle.napi_types.specs.hub.Hub.{stage_places, Hub, left_of, threads_left, workers_left, is_past_drain}
use Rattle.napi_types.specs.hub.HubCalls.{is_thread_call}
use Rattle.napi_types.specs.hub.HubMoves.{in_tsfn}
use Rattle.napi_types.specs.hub.ThreadSteps.{thread_step, thread_event}
use Rattle.napi_types.specs.hub.WorkerSteps.{worker_step, worker_event}
use Rattle.napi_types.specs.hub.HubSteps.{IsHubNext, hub_step, hub_step_of}
use Rattle.napi_types.proofs.hub.Executions.{loses-one, wins-one, left-one}
use Rattle.napi_types.proofs.hub.HubCases.{HubCase, hub-case, asks, creates_work, deletes_work, cancels_work, queues_work, creates_function, alters, goes, ends_loop, drains, comes_to_finals, delivers, closes, finishes, ends, thread_ends, worker_ends, starts, finishes_work, Alters, calls, acquires, releases, abandons}
use Rattle.napi_types.proofs.hub.HubHolds.{HubSound, led-sound}
use Rattle.napi_types.proofs.hub.HubFunctions.{IsAmong, found-among}
use Rattle.napi_types.proofs.hub.HubKeeps.{other-calls}
use Rattle.napi_types.proofs.hub.HubPools.{executes-none}

-- WHAT OTHERS DO
-- the events of threads and workers
abbrev is_other_event : HostStep → Bool
is_other_event host.Start = true
is_other_event host.Finish = true
is_other_event host.ActorEnd = true
is_other_event _ = false

thread_event-other : (h : Hub) (t : ℕ) (x : Entry) (event : HostStep) → IsTrue (thread_event h t x event).may → is_other_event event ≡ true
thread_event-other h t x host.ActorEnd may = refl
thread_event-other h t x _ may = cc

worker_event-other : (h : Hub) (w : ℕ) (x : Entry) (event : HostStep) → IsTrue (worker_event h w x event).may → is_other_event event ≡ true
worker_event-other h w x host.Start may = refl
worker_event-other h w x host.Finish may = refl
worker_event-other h w x host.ActorEnd may = refl
worker_event-other h w x _ may = cc

thread-other : (h : Hub) (t : ℕ) (x : Entry) (it : What) (event : HostStep) → it ≡ what.Host event → IsTrue (thread_step h t x it).may
    → is_other_event event ≡ true
thread-other h t x (what.Call c) event is may = cc
thread-other h t x (what.Host e) event is may = let same : e ≡ event = cc in ap is_other_event (sym same) ∙ thread_event-other h t x e may

worker-other : (h : Hub) (w : ℕ) (x : Entry) (it : What) (event : HostStep) → it ≡ what.Host event → IsTrue (worker_step h w x it).may
    → is_other_event event ≡ true
worker-other h w x (what.Call c) event is may = cc
worker-other h w x (what.Host e) event is may = let same : e ≡ event = cc in ap is_other_event (sym same) ∙ worker_event-other h w x e may

event-other : (h : Hub) (x : Entry) (who : Actor) (event : HostStep) → is_environment who ≡ false → x.what ≡ what.Host event
    → IsTrue (hub_step_of h x who).may → is_other_event event ≡ true
event-other h x actor.Env event other is may = cc
event-other h x (actor.Thread t) event other is may = thread-other h t x x.what event is may
event-other h x (actor.Worker w) event other is may = worker-other h w x x.what event is may

-- THE HUB
-- the reserved places with an entry more are no fewer
abbrev LowersNothing : Hub → Hub → Type 0
LowersNothing h n = reserved_history h ≤ reserved_history n + 1

pool-lowers-nothing : (h : Hub) (p : WorkPool) → work_places h.pool ≤ work_places p + 1 → LowersNothing h (record h { pool = p })
pool-lowers-nothing h p fits =
    by (stage_places h.stage + length (threads_left h) + length (workers_left h)) (work_places h.pool) (work_places p) (sum_by function_places h.functions)
    (one_if (is_some h.standing)) fits
  where
    by : (s p q f o : ℕ) → p ≤ q + 1 → s + p + f + o ≤ s + q + f + o + 1
    by s p q f o fits = omega (arith, fits)

functions-lowers-nothing : (h : Hub) (fs : List FunctionState) → sum_by function_places h.functions ≤ sum_by function_places fs + 1
    → LowersNothing h (record h { functions = fs })
functions-lowers-nothing h fs fits =
    by (stage_places h.stage + length (threads_left h) + length (workers_left h) + work_places h.pool) (sum_by function_places h.functions)
    (sum_by function_places fs) (one_if (is_some h.standing)) fits
  where
    by : (s p q o : ℕ) → p ≤ q + 1 → s + p + o ≤ s + q + o + 1
    by s p q o fits = omega (arith, fits)

same-lowers-nothing : (h : Hub) → LowersNothing h h
same-lowers-nothing h = by (reserved_history h)
  where
    by : (r : ℕ) → r ≤ r + 1
    by r = omega arith

-- A FUNCTION
closed-state-lowers-nothing : (finalizer : Option ℕ) (s : TsfnState) → state_places finalizer s ≤ state_places finalizer (closed_state s) + 1
closed-state-lowers-nothing finalizer Open = omega arith
closed-state-lowers-nothing finalizer _ = omega arith

item-lowers-nothing : (p n m : ℕ) → m ≡ n + 1 → p + 2 * n ≤ p + 2 * m + 1
item-lowers-nothing p n m e = omega (arith, e)

called-lowers-nothing : (f : FunctionState) (payload : ℕ) (s : Status) → function_places f ≤ function_places (called (Some s) payload f) + 1
called-lowers-nothing f payload status.Ok =
    item-lowers-nothing (state_places f.finalizer f.state) (length f.items) (length (f.items ++ singleton payload)) (length-append f.items (singleton payload))
called-lowers-nothing f payload status.Closing = omega arith
called-lowers-nothing f payload _ = omega arith

acquired-lowers-nothing : (f : FunctionState) (s : Status) → function_places f ≤ function_places (acquired s f) + 1
acquired-lowers-nothing f status.Ok = omega arith
acquired-lowers-nothing f _ = omega arith

released-lowers-nothing : (f : FunctionState) (s : Status) (m : Release) → function_places f ≤ function_places (released s m f) + 1
released-lowers-nothing f status.Ok release.Release = omega arith
released-lowers-nothing f status.Ok release.Abort = omega (arith, closed-state-lowers-nothing f.finalizer f.state)
released-lowers-nothing f _ m = omega arith

alters-lowers-nothing : (f : FunctionState) (c : Call) (change : FunctionState → FunctionState) → Alters f c change
    → function_places f ≤ function_places (change f) + 1
alters-lowers-nothing f _ _ (calls n payload m who s tells) = called-lowers-nothing f payload s
alters-lowers-nothing f _ _ (acquires n) = acquired-lowers-nothing f (acquire_status f)
alters-lowers-nothing f _ _ (releases n m) = released-lowers-nothing f (release_status f) m
alters-lowers-nothing f _ _ _ = omega arith

function-lowers-nothing : (late : Bool) (h : Hub) (f : FunctionState) (change : FunctionState → FunctionState) → IsAmong late 1 h.functions f
    → function_places f ≤ function_places (change f) + 1 → LowersNothing h (in_tsfn f.id change h)
function-lowers-nothing late h f change among fits =
    functions-lowers-nothing h (in_tsfn f.id change h).functions
    (by (sum_by function_places h.functions) (sum_by function_places (in_tsfn f.id change h).functions) (function_places f)
    (function_places (change f)) (among.places change) fits)
  where
    by : (s t p q : ℕ) → t + p ≡ s + q → p ≤ q + 1 → s ≤ t + 1
    by s t p q same fits = omega (arith, same, fits)

-- THE POOL
started-lowers-nothing : (q e f q' e' : ℕ) → q ≡ suc q' → e + 1 ≤ e' → 4 * q + 3 * e + 2 * f ≤ 4 * q' + 3 * e' + 2 * f + 1
started-lowers-nothing q e f q' e' less more = omega (arith, less, more)

starts-lowers-nothing : (p : WorkPool) (w n : ℕ) (later : List ℕ) → p.queued ≡ n ∷ later → is_none (executed_by p w) ≡ true
    → work_places p ≤ work_places (with_started w p) + 1
starts-lowers-nothing p w n later waits free =
    subst (λ ns. work_places p ≤ work_places (started_from ns w p) + 1) (sym waits)
    (started-lowers-nothing (length p.queued) (length p.executions) (length p.finished) (length later)
    (length (with_record (λ (x : Execution). x.worker) (record { worker = w; work = n }) p.executions)) (ap length waits)
    (wins-one (λ (x : Execution). x.worker) (record { worker = w; work = n }) p.executions (executes-none p w free)))

finished-lowers-nothing : (q e f e' f' : ℕ) → e ≤ e' + 1 → f' ≡ f + 1 → 4 * q + 3 * e + 2 * f ≤ 4 * q + 3 * e' + 2 * f' + 1
finished-lowers-nothing q e f e' f' less more = omega (arith, less, more)

finishes-lowers-nothing : (h : Hub) (w n : ℕ) → HubSound h → executed_by h.pool w ≡ Some n → work_places h.pool ≤ work_places (with_finished w h.pool) + 1
finishes-lowers-nothing h w n holds runs =
    subst (λ o. work_places h.pool ≤ work_places (finished_at w o h.pool) + 1) (sym runs)
    (finished-lowers-nothing (length h.pool.queued) (length h.pool.executions) (length h.pool.finished) (length (finished_at w (Some n) h.pool).executions)
    (length (finished_at w (Some n) h.pool).finished) (loses-one (λ (x : Execution). x.worker) w h.pool.executions holds.pool.executes)
    (length-append h.pool.finished (singleton _)))

-- AN ACTOR ENDS
thread-lowers-nothing : (h : Hub) (t : ℕ) → LowersNothing h (record h { ended_threads = with_number t h.ended_threads })
thread-lowers-nothing h t =
    by (stage_places h.stage) (length (threads_left h)) (length (left_of h.threads (with_number t h.ended_threads))) (length (workers_left h))
    (work_places h.pool) (sum_by function_places h.functions) (one_if (is_some h.standing)) (left-one h.threads t h.ended_threads)
  where
    by : (s t t' w p f o : ℕ) → t ≤ t' + 1 → s + t + w + p + f + o ≤ s + t' + w + p + f + o + 1
    by s t t' w p f o less = omega (arith, less)

worker-lowers-nothing : (h : Hub) (w : ℕ) → LowersNothing h (record h { ended_workers = with_number w h.ended_workers })
worker-lowers-nothing h w =
    by (stage_places h.stage + length (threads_left h)) (length (workers_left h)) (length (left_of h.workers (with_number w h.ended_workers)))
    (work_places h.pool) (sum_by function_places h.functions) (one_if (is_some h.standing)) (left-one h.workers w h.ended_workers)
  where
    by : (s w w' p f o : ℕ) → w ≤ w' + 1 → s + w + p + f + o ≤ s + w' + p + f + o + 1
    by s w w' p f o less = omega (arith, less)

-- EACH ENTRY OF OTHERS
not-true : false ≡ true → ⊥
not-true is = cc

case-lowers-nothing : (h : Hub) (x : Entry) (told : Out) (n : Hub) → HubSound h → ((c : Call) → x.what ≡ what.Call c → is_thread_call c ≡ true)
    → ((event : HostStep) → x.what ≡ what.Host event → is_other_event event ≡ true) → HubCase h x told n → LowersNothing h n
case-lowers-nothing h x told _ holds asked happens (asks c is shared) = same-lowers-nothing h
case-lowers-nothing h x told _ holds asked happens (creates_work job entry payload addon is fresh tells) = absurd (not-true (asked _ is))
case-lowers-nothing h x told _ holds asked happens (deletes_work w is none) = absurd (not-true (asked _ is))
case-lowers-nothing h x told _ holds asked happens (cancels_work w is none) = absurd (not-true (asked _ is))
case-lowers-nothing h x told _ holds asked happens (queues_work w is none early) = absurd (not-true (asked _ is))
case-lowers-nothing h x told _ holds asked happens (creates_function f entry maximum count finalizer context addon target is early) =
    absurd (not-true (asked _ is))
case-lowers-nothing h x told _ holds asked happens (alters c k f change is there how) =
    function-lowers-nothing (is_past_drain h.stage) h f change (found-among (is_past_drain h.stage) 1 k h.functions f holds.functions there)
    (alters-lowers-nothing f c change how)
case-lowers-nothing h x told _ holds asked happens (goes is may) = absurd (not-true (happens _ is))
case-lowers-nothing h x told _ holds asked happens (abandons is may still) = absurd (not-true (happens _ is))
case-lowers-nothing h x told _ holds asked happens (ends_loop is may) = absurd (not-true (happens _ is))
case-lowers-nothing h x told _ holds asked happens (drains is may) = absurd (not-true (happens _ is))
case-lowers-nothing h x told _ holds asked happens (comes_to_finals is may) = absurd (not-true (happens _ is))
case-lowers-nothing h x told _ holds asked happens (delivers d is next alone) = absurd (not-true (happens _ is))
case-lowers-nothing h x told _ holds asked happens (closes n is next) = absurd (not-true (happens _ is))
case-lowers-nothing h x told _ holds asked happens (finishes n is next) = absurd (not-true (happens _ is))
case-lowers-nothing h x told _ holds asked happens (ends d is stands) = absurd (not-true (happens _ is))
case-lowers-nothing h x told _ holds asked happens (thread_ends t is there) = thread-lowers-nothing h t
case-lowers-nothing h x told _ holds asked happens (worker_ends w is there) = worker-lowers-nothing h w
case-lowers-nothing h x told _ holds asked happens (starts w n later is waits free) =
    pool-lowers-nothing h (with_started w h.pool) (starts-lowers-nothing h.pool w n later waits free)
case-lowers-nothing h x told _ holds asked happens (finishes_work w n is runs) =
    pool-lowers-nothing h (with_finished w h.pool) (finishes-lowers-nothing h w n holds runs)

step-lowers-nothing : (h : Hub) (x : Entry) → HubSound h → is_environment x.actor ≡ false → IsHubNext h x → LowersNothing h (hub_step h x).after
step-lowers-nothing h x holds other next =
    case-lowers-nothing h x (hub_step h x).entry.reply.out (hub_step h x).after holds (λ c is. other-calls h x c other is next.may)
    (λ event is. event-other h x x.actor event other is next.may) (hub-case h x next.may)

pub others-lower-nothing : OthersLowerNothing
others-lower-nothing limit threads workers history h x led other next = step-lowers-nothing h x (led-sound limit threads workers history h led) other next
