-- What each step of the hub is that may come: one of these cases.
use Rattle.std.proofs.Common.{◌≡◌, ◌∙◌, ℕ, Bool, true, false, not, ◌&&◌, ◌||◌, List, [], ◌∷◌, IsTrue, refl, ap, sym, Option, Some, None, is_some, is_none, IfSome, option_map}
use Rattle.napi_types.specs.declared.call.Call.{Call}
use Rattle.napi_types.specs.declared.call.Call.TheVariants as call
use Rattle.napi_types.specs.declared.call.JobSpec.{JobSpec}
use Rattle.napi_types.specs.declared.call.Mode.{Mode}
use Rattle.napi_types.specs.declared.call.Release.{Release}
use Rattle.napi_types.specs.declared.duties.DueInfo.{DueInfo}
use Rattle.napi_types.specs.declared.entry.Actor.{Actor}
use Rattle.napi_types.specs.declared.entry.Actor.TheVariants as actor
use Rattle.napi_types.specs.declared.entry.Entry.{Entry}
use Rattle.napi_types.specs.declared.entry.Given.{Given}
use Rattle.napi_types.specs.declared.entry.HostStep.{HostStep}
use Rattle.napi_types.specs.declared.entry.HostStep.TheVariants as host
use Rattle.napi_types.specs.declared.entry.Out.{Out}
use Rattle.napi_types.specs.declared.entry.Out.TheVariants as out
use Rattle.napi_types.specs.declared.entry.Target.{Target}
use Rattle.napi_types.specs.declared.entry.What.{What}
use Rattle.napi_types.specs.declared.entry.What.TheVariants as what
use Rattle.napi_types.specs.declared.ids.HandleId.{HandleId}
use Rattle.napi_types.specs.declared.ids.TsfnId.{TsfnId}
use Rattle.napi_types.specs.declared.ids.WorkId.{WorkId}
use Rattle.napi_types.specs.declared.status.Status.{Status}
use Rattle.napi_types.specs.plain.Guards.{is_shared, is_registering}
use Rattle.napi_types.specs.plain.Lists.{has_number, with_number}
use Rattle.napi_types.specs.plain.Replies.{Answer}
use Rattle.napi_types.specs.parts.Functions.{FunctionState, call_status, called, acquire_status, acquired, release_status, released, with_referenced, closed, finished}
use Rattle.napi_types.specs.parts.Pool.{with_work, without_work, with_cancelled, with_queued, with_started, with_finished, executed_by, work_refusal}
use Rattle.napi_types.specs.parts.Works.{is_created, is_queued, is_deletable}
use Rattle.napi_types.specs.hub.Hub.{Hub, stage_after, threads_left, workers_left}
use Rattle.napi_types.specs.hub.HubCalls.{unless_refused, on_function, tsfn_at, call_answer, called_answer, with_function, hub_answer, is_thread_call}
use Rattle.napi_types.specs.hub.HubMoves.{HubMove, Delivers, Closes, Finishes, hub_move, in_pool, in_tsfn, with_delivered}
use Rattle.napi_types.specs.hub.HubStep.{HubStep, answered_step}
use Rattle.napi_types.specs.hub.GivenSteps.{has_loop_ended, is_failure, fits_stage, is_fresh_work, work_number, answer_unless_given, given_step}
use Rattle.napi_types.specs.hub.HubEvents.{environment_event, staged, drained_hub, loop_end_step, begin_step, close_step, finish_step, frame_end_step, abandon_step, is_still}
use Rattle.napi_types.specs.hub.ThreadSteps.{is_thread_there, nothing_given, thread_step, thread_event}
use Rattle.napi_types.specs.hub.WorkerSteps.{worker_step, worker_event, start_step, work_end_step}
use Rattle.napi_types.specs.hub.HubSteps.{hub_step, hub_step_of, environment_step}
use Rattle.napi_types.proofs.plain.Conditions.{and-left, and-right}

-- how a call changes the function that it names
pub data Alters (f : FunctionState) : Call → (FunctionState → FunctionState) → Type 0 where
  calls : (n : TsfnId) (payload : ℕ) (m : Mode) (who : Actor) (s : Status) → call_status who m f ≡ Some s → Alters f (call.CallThreadsafeFunction n payload m) (called (Some s) payload)
  acquires : (n : TsfnId) → Alters f (call.AcquireThreadsafeFunction n) (acquired (acquire_status f))
  releases : (n : TsfnId) (m : Release) → Alters f (call.ReleaseThreadsafeFunction n m) (released (release_status f) m)
  references : (n : TsfnId) → Alters f (call.RefThreadsafeFunction n) (with_referenced true)
  unreferences : (n : TsfnId) → Alters f (call.UnrefThreadsafeFunction n) (with_referenced false)

-- the hub after an entry that may come, where the entry that must stand tells this
pub data HubCase (h : Hub) (x : Entry) (told : Out) : Hub → Type 0 where
  -- CALLS
  -- a shared call that is refused, or asks for the context, changes nothing
  asks : (c : Call) → x.what ≡ what.Call c → is_shared c ≡ true → HubCase h x told h
  -- one on works
  creates_work : (job : JobSpec) (entry payload addon : ℕ) → x.what ≡ what.Call (call.CreateAsyncWork job entry payload) → is_fresh_work h x.reply.out ≡ true
      → told ≡ out.Work (record { 0 = work_number x.reply.out }) → HubCase h x told (in_pool (with_work (work_number x.reply.out) job addon entry payload) h)
  deletes_work : (w : WorkId) → x.what ≡ what.Call (call.DeleteAsyncWork w) → work_refusal is_deletable h.pool w.0 ≡ None → HubCase h x told (in_pool (without_work w.0) h)
  cancels_work : (w : WorkId) → x.what ≡ what.Call (call.CancelAsyncWork w) → work_refusal is_queued h.pool w.0 ≡ None → HubCase h x told (in_pool (with_cancelled w.0) h)
  queues_work : (w : WorkId) → x.what ≡ what.Call (call.QueueAsyncWork w) → work_refusal is_created h.pool w.0 ≡ None → has_loop_ended h.stage ≡ false
      → HubCase h x told (in_pool (with_queued w.0) h)
  -- and one on functions
  creates_function : (f : Option HandleId) (entry : Option ℕ) (maximum count : ℕ) (finalizer : Option ℕ) (context addon : ℕ) (target : Target)
      → x.what ≡ what.Call (call.CreateThreadsafeFunction f entry maximum count finalizer context) → has_loop_ended h.stage ≡ false
      → HubCase h x told (with_function addon target maximum count finalizer context h)
  alters : (c : Call) (n : ℕ) (f : FunctionState) (change : FunctionState → FunctionState) → x.what ≡ what.Call c → tsfn_at h n ≡ Some f → Alters f c change
      → HubCase h x told (in_tsfn f.id change h)
  -- EVENTS OF THE ENVIRONMENT
  -- the great ones
  goes : x.what ≡ what.Host host.Go → is_some (stage_after h.stage host.Go) && is_none h.standing ≡ true → HubCase h x told (staged host.Go h)
  ends_loop : x.what ≡ what.Host host.LoopEnd → is_some (stage_after h.stage host.LoopEnd) && is_none h.standing ≡ true → HubCase h x told (staged host.LoopEnd h)
  abandons : x.what ≡ what.Host host.Abandon → is_some (stage_after h.stage host.Abandon) && is_none h.standing ≡ true → is_still h ≡ true
      → HubCase h x told (staged host.Abandon h)
  drains : x.what ≡ what.Host host.Drain → is_some (stage_after h.stage host.Drain) && is_none h.standing ≡ true → HubCase h x told (staged host.Drain (drained_hub h))
  comes_to_finals : x.what ≡ what.Host host.Finals → is_some (stage_after h.stage host.Finals) && is_none h.standing ≡ true → HubCase h x told (staged host.Finals h)
  -- the moves of the hub, and the end of a frame of its own
  delivers : (d : DueInfo) → x.what ≡ what.Host host.Begin → hub_move h ≡ Some (Delivers d) → is_none h.standing ≡ true → HubCase h x told (with_delivered d h)
  closes : (n : ℕ) → x.what ≡ what.Host host.CloseTsfn → hub_move h ≡ Some (Closes n) → HubCase h x told (in_tsfn n closed h)
  finishes : (n : ℕ) → x.what ≡ what.Host host.FinishTsfn → hub_move h ≡ Some (Finishes n) → HubCase h x told (in_tsfn n finished h)
  ends : (d : DueInfo) → x.what ≡ what.Host host.End → h.standing ≡ Some d → HubCase h x told (record h { standing = None })
  -- EVENTS OF OTHERS
  thread_ends : (t : ℕ) → x.what ≡ what.Host host.ActorEnd → has_number t (threads_left h) ≡ true → HubCase h x told (record h { ended_threads = with_number t h.ended_threads })
  worker_ends : (w : ℕ) → x.what ≡ what.Host host.ActorEnd → has_number w (workers_left h) ≡ true → HubCase h x told (record h { ended_workers = with_number w h.ended_workers })
  starts : (w n : ℕ) (later : List ℕ) → x.what ≡ what.Host host.Start → h.pool.queued ≡ n ∷ later → is_none (executed_by h.pool w) ≡ true → HubCase h x told (in_pool (with_started w) h)
  finishes_work : (w n : ℕ) → x.what ≡ what.Host host.Finish → executed_by h.pool w ≡ Some n → HubCase h x told (in_pool (with_finished w) h)

abbrev StepsTo : Hub → Entry → HubStep → Type 0
StepsTo h x s = IsTrue s.may → HubCase h x s.entry.reply.out s.after

-- CALLS
abbrev AnswersWell : Hub → Entry → Option (Answer Hub) → Type 0
AnswersWell h x o = IfSome o (λ a. HubCase h x a.reply.out a.after)

answered-case : (h : Hub) (x y : Entry) (may : Bool) (o : Option (Answer Hub)) → (IsTrue may → AnswersWell h x o) → StepsTo h x (answered_step h y may o)
answered-case h x y may None well m = cc
answered-case h x y may (Some a) well m = well m

unless-case : (h : Hub) (x : Entry) (s : Option Status) (refusal : Option Status) (a : Answer Hub) (c : Call) → x.what ≡ what.Call c → is_shared c ≡ true → refusal ≡ s
    → (refusal ≡ None → HubCase h x a.reply.out a.after) → HubCase h x (unless_refused h s a).reply.out (unless_refused h s a).after
unless-case h x None refusal a c is shared same case = case same
unless-case h x (Some s) refusal a c is shared same case = asks c is shared

alters-case : (h : Hub) (x : Entry) (n : ℕ) (c : Call) (answer : FunctionState → Answer Hub) (o : Option FunctionState) → x.what ≡ what.Call c
    → is_shared c ≡ true → tsfn_at h n ≡ o
    → ((f : FunctionState) → tsfn_at h n ≡ Some f → HubCase h x (answer f).reply.out (answer f).after)
    → HubCase h x (on_function h answer o).reply.out (on_function h answer o).after
alters-case h x n c answer None is shared there case = asks c is shared
alters-case h x n c answer (Some f) is shared there case = case f there

calls-case : (h : Hub) (x : Entry) (n : TsfnId) (payload : ℕ) (m : Mode) (who : Actor) (o : Option FunctionState) → x.what ≡ what.Call (call.CallThreadsafeFunction n payload m)
    → tsfn_at h n.0 ≡ o → AnswersWell h x (call_answer h who payload m o)
calls-case h x n payload m who None is there = asks (call.CallThreadsafeFunction n payload m) is refl
calls-case h x n payload m who (Some f) is there = by (call_status who m f) refl
  where
    by : (s : Option Status) → call_status who m f ≡ s → AnswersWell h x (option_map (called_answer h payload f) s)
    by None tells = tt
    by (Some s) tells = alters (call.CallThreadsafeFunction n payload m) n.0 f (called (Some s) payload) is there (calls n payload m who s tells)

-- what the answer to a call leaves; works and functions are made only before the loop ends
answer-case : (h : Hub) (x : Entry) (who : Actor) (g : Given) (c : Call) → x.what ≡ what.Call c → is_fresh_work h x.reply.out ≡ true
    → (is_thread_call c ≡ false → is_registering c ≡ true → has_loop_ended h.stage ≡ false) → AnswersWell h x (hub_answer h who g c (work_number x.reply.out))
answer-case h x who g (call.CreateAsyncWork job entry payload) is fresh early = creates_work job entry payload g.addon is fresh refl
answer-case h x who g (call.DeleteAsyncWork w) is fresh early =
    unless-case h x (work_refusal is_deletable h.pool w.0) _ _ (call.DeleteAsyncWork w) is refl refl (λ none. deletes_work w is none)
answer-case h x who g (call.CancelAsyncWork w) is fresh early =
    unless-case h x (work_refusal is_queued h.pool w.0) _ _ (call.CancelAsyncWork w) is refl refl (λ none. cancels_work w is none)
answer-case h x who g (call.QueueAsyncWork w) is fresh early =
    unless-case h x (work_refusal is_created h.pool w.0) _ _ (call.QueueAsyncWork w) is refl refl (λ none. queues_work w is none (early refl refl))
answer-case h x who g (call.CreateThreadsafeFunction f entry maximum count finalizer context) is fresh early =
    creates_function f entry maximum count finalizer context g.addon _ is (early refl refl)
answer-case h x who g (call.CallThreadsafeFunction f payload m) is fresh early = calls-case h x f payload m who (tsfn_at h f.0) is refl
answer-case h x who g (call.AcquireThreadsafeFunction f) is fresh early =
    alters-case h x f.0 (call.AcquireThreadsafeFunction f) _ (tsfn_at h f.0) is refl refl
    (λ y there. alters (call.AcquireThreadsafeFunction f) f.0 y _ is there (acquires f))
answer-case h x who g (call.ReleaseThreadsafeFunction f m) is fresh early =
    alters-case h x f.0 (call.ReleaseThreadsafeFunction f m) _ (tsfn_at h f.0) is refl refl
    (λ y there. alters (call.ReleaseThreadsafeFunction f m) f.0 y _ is there (releases f m))
answer-case h x who g (call.RefThreadsafeFunction f) is fresh early =
    alters-case h x f.0 (call.RefThreadsafeFunction f) _ (tsfn_at h f.0) is refl refl
    (λ y there. alters (call.RefThreadsafeFunction f) f.0 y _ is there (references f))
answer-case h x who g (call.UnrefThreadsafeFunction f) is fresh early =
    alters-case h x f.0 (call.UnrefThreadsafeFunction f) _ (tsfn_at h f.0) is refl refl
    (λ y there. alters (call.UnrefThreadsafeFunction f) f.0 y _ is there (unreferences f))
answer-case h x who g (call.GetThreadsafeFunctionContext f) is fresh early =
    alters-case h x f.0 (call.GetThreadsafeFunctionContext f) _ (tsfn_at h f.0) is refl refl (λ y there. asks (call.GetThreadsafeFunctionContext f) is refl)
answer-case h x who g _ is fresh early = tt

-- EVENTS OF THE ENVIRONMENT
given-case : (h : Hub) (x : Entry) (c : Call) (g : Option Given) → x.what ≡ what.Call c → StepsTo h x (given_step h x c g)
given-case h x c None is = λ may. cc
given-case h x c (Some g) is =
    answered-case h x x _ (answer_unless_given h g c (work_number x.reply.out) g.refused)
    (λ may. by (is_shared c) (fits_stage h.stage c g.refused) (is_fresh_work h x.reply.out) refl refl refl may g.refused refl)
  where
    timely : (looped registering : Bool) → IsTrue (not (looped && registering) || false) → registering ≡ true → looped ≡ false
    timely false registering t r = refl
    timely true true t r = cc
    timely true false t r = cc

    by : (s t f : Bool) → is_shared c ≡ s → fits_stage h.stage c g.refused ≡ t → is_fresh_work h x.reply.out ≡ f → IsTrue (s && t && f)
        → (refused : Option Status) → g.refused ≡ refused → AnswersWell h x (answer_unless_given h g c (work_number x.reply.out) refused)
    by true true true shared t fresh may (Some s) told = asks c is shared
    by true true true shared t fresh may None told =
        answer-case h x actor.Env g c is fresh
        (λ thread registers. timely (has_loop_ended h.stage) (is_registering c) (sym (ap (λ o. not (has_loop_ended h.stage && is_registering c) || is_failure o) told) ∙ t) registers)
    by false t f shared t' fresh may refused told = cc
    by true false f shared t' fresh may refused told = cc
    by true true false shared t' fresh may refused told = cc

loop_end-case : (h : Hub) (x : Entry) (o : Out) → x.what ≡ what.Host host.LoopEnd → StepsTo h x (loop_end_step h x o)
loop_end-case h x (out.Ended w) is may = ends_loop is may
loop_end-case h x _ is may = cc

abandon-case : (h : Hub) (x : Entry) (o : Out) → x.what ≡ what.Host host.Abandon → StepsTo h x (abandon_step h x o)
abandon-case h x (out.Unsigned n) is may = abandons is (and-left _ (is_still h) may) (and-right _ (is_still h) may)
abandon-case h x _ is may = cc

begin-case : (h : Hub) (x : Entry) (o : Option HubMove) → hub_move h ≡ o → x.what ≡ what.Host host.Begin → StepsTo h x (begin_step h x o)
begin-case h x (Some (Delivers d)) next is may = delivers d is next (and-right _ (is_none h.standing) may)
begin-case h x _ next is may = cc

close-case : (h : Hub) (x : Entry) (o : Option HubMove) → hub_move h ≡ o → x.what ≡ what.Host host.CloseTsfn → StepsTo h x (close_step h x o)
close-case h x (Some (Closes n)) next is may = closes n is next
close-case h x _ next is may = cc

finish-case : (h : Hub) (x : Entry) (o : Option HubMove) → hub_move h ≡ o → x.what ≡ what.Host host.FinishTsfn → StepsTo h x (finish_step h x o)
finish-case h x (Some (Finishes n)) next is may = finishes n is next
finish-case h x _ next is may = cc

frame_end-case : (h : Hub) (x : Entry) (o : Option DueInfo) → h.standing ≡ o → x.what ≡ what.Host host.End → StepsTo h x (frame_end_step h x o)
frame_end-case h x None stands is may = cc
frame_end-case h x (Some d) stands is may = ends d is stands

event-case : (h : Hub) (x : Entry) (event : HostStep) → x.what ≡ what.Host event → StepsTo h x (environment_event h x event)
event-case h x host.Go is may = goes is may
event-case h x host.LoopEnd is may = loop_end-case h x x.reply.out is may
event-case h x host.Abandon is may = abandon-case h x x.reply.out is may
event-case h x host.Drain is may = drains is may
event-case h x host.Finals is may = comes_to_finals is may
event-case h x host.Begin is may = begin-case h x (hub_move h) refl is may
event-case h x host.CloseTsfn is may = close-case h x (hub_move h) refl is may
event-case h x host.FinishTsfn is may = finish-case h x (hub_move h) refl is may
event-case h x host.End is may = frame_end-case h x h.standing refl is may
event-case h x _ is may = cc

environment-case : (h : Hub) (x : Entry) (w : What) → x.what ≡ w → StepsTo h x (environment_step h x w)
environment-case h x (what.Call c) is may = given-case h x c x.given is may
environment-case h x (what.Host event) is may = event-case h x event is may

-- EVENTS OF OTHERS
thread_event-case : (h : Hub) (t : ℕ) (x : Entry) (event : HostStep) → x.what ≡ what.Host event → StepsTo h x (thread_event h t x event)
thread_event-case h t x host.ActorEnd is may = thread_ends t is (and-right _ (has_number t (threads_left h)) (and-left (is_thread_there h t) _ may))
thread_event-case h t x _ is may = cc

thread-case : (h : Hub) (t : ℕ) (x : Entry) (w : What) → x.what ≡ w → StepsTo h x (thread_step h t x w)
thread-case h t x (what.Call c) is =
    answered-case h x (record x { depth = 0; given = None }) (is_thread_there h t && is_thread_call c) (hub_answer h (actor.Thread t) nothing_given c 0)
    (λ may. by c is (and-right (is_thread_there h t) (is_thread_call c) may))
  where
    by : (c : Call) → x.what ≡ what.Call c → is_thread_call c ≡ true → AnswersWell h x (hub_answer h (actor.Thread t) nothing_given c 0)
    by (call.CallThreadsafeFunction f payload m) is thread = calls-case h x f payload m (actor.Thread t) (tsfn_at h f.0) is refl
    by (call.AcquireThreadsafeFunction f) is thread =
        alters-case h x f.0 (call.AcquireThreadsafeFunction f) _ (tsfn_at h f.0) is refl refl
        (λ y there. alters (call.AcquireThreadsafeFunction f) f.0 y _ is there (acquires f))
    by (call.ReleaseThreadsafeFunction f m) is thread =
        alters-case h x f.0 (call.ReleaseThreadsafeFunction f m) _ (tsfn_at h f.0) is refl refl
        (λ y there. alters (call.ReleaseThreadsafeFunction f m) f.0 y _ is there (releases f m))
    by _ is thread = cc
thread-case h t x (what.Host event) is = thread_event-case h t x event is

start-case : (h : Hub) (w : ℕ) (x : Entry) (queued : List ℕ) → h.pool.queued ≡ queued → x.what ≡ what.Host host.Start → StepsTo h x (start_step h w x queued)
start-case h w x [] waits is may = cc
start-case h w x (n ∷ later) waits is may = starts w n later is waits (and-right _ (is_none (executed_by h.pool w)) may)

work_end-case : (h : Hub) (w : ℕ) (x : Entry) (o : Option ℕ) → executed_by h.pool w ≡ o → x.what ≡ what.Host host.Finish → StepsTo h x (work_end_step h w x o)
work_end-case h w x None runs is may = cc
work_end-case h w x (Some n) runs is may = finishes_work w n is runs

worker_event-case : (h : Hub) (w : ℕ) (x : Entry) (event : HostStep) → x.what ≡ what.Host event → StepsTo h x (worker_event h w x event)
worker_event-case h w x host.Start is may = start-case h w x h.pool.queued refl is may
worker_event-case h w x host.Finish is may = work_end-case h w x (executed_by h.pool w) refl is may
worker_event-case h w x host.ActorEnd is may = worker_ends w is (and-left (has_number w (workers_left h)) h.pool.closing (and-left _ (is_none (executed_by h.pool w)) may))
worker_event-case h w x _ is may = cc

worker-case : (h : Hub) (w : ℕ) (x : Entry) (it : What) → x.what ≡ it → StepsTo h x (worker_step h w x it)
worker-case h w x (what.Call c) is may = cc
worker-case h w x (what.Host event) is may = worker_event-case h w x event is may

pub hub-case : (h : Hub) (x : Entry) → IsTrue (hub_step h x).may → HubCase h x (hub_step h x).entry.reply.out (hub_step h x).after
hub-case h x = by x.actor
  where
    by : (who : Actor) → StepsTo h x (hub_step_of h x who)
    by actor.Env = environment-case h x x.what refl
    by (actor.Thread t) = thread-case h t x x.what refl
    by (actor.Worker w) = worker-case h w x x.what refl
