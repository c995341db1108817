-- What the steps of the hub keep of how far it is, of its frame, and of how many threads and workers there are; and what their entries are.
use Rattle.std.proofs.Common.{◌≡◌, ℕ, Bool, true, false, ◌&&◌, List, [], ◌∷◌, IsTrue, refl, sym, ap, ◌∙◌, Option, Some, None, IfSome, option_map}
use Rattle.napi_types.specs.declared.call.Call.{Call}
use Rattle.napi_types.specs.declared.call.Call.TheVariants as call
use Rattle.napi_types.specs.declared.call.Mode.{Mode}
use Rattle.napi_types.specs.declared.duties.DueInfo.{DueInfo}
use Rattle.napi_types.specs.declared.entry.Actor.{Actor}
use Rattle.napi_types.specs.declared.entry.Actor.TheVariants as actor
use Rattle.napi_types.specs.declared.entry.Entry.{Entry}
use Rattle.napi_types.specs.declared.entry.Given.{Given}
use Rattle.napi_types.specs.declared.entry.HostStep.{HostStep}
use Rattle.napi_types.specs.declared.entry.HostStep.TheVariants as host
use Rattle.napi_types.specs.declared.entry.Out.{Out}
use Rattle.napi_types.specs.declared.entry.Out.TheVariants as out
use Rattle.napi_types.specs.declared.entry.What.{What}
use Rattle.napi_types.specs.declared.entry.What.TheVariants as what
use Rattle.napi_types.specs.declared.status.Status.{Status}
use Rattle.napi_types.specs.plain.Entries.{is_environment}
use Rattle.napi_types.specs.plain.Replies.{Answer}
use Rattle.napi_types.specs.parts.Functions.{FunctionState, call_status}
use Rattle.napi_types.specs.parts.Pool.{work_refusal, executed_by}
use Rattle.napi_types.specs.parts.Works.{is_created, is_queued, is_deletable}
use Rattle.napi_types.specs.hub.HistoryLaws.{KeepsStanding}
use Rattle.napi_types.specs.hub.Hub.{Hub}
use Rattle.napi_types.specs.hub.HubCalls.{is_thread_call, hub_answer, unless_refused, on_function, tsfn_at, call_answer, called_answer}
use Rattle.napi_types.specs.hub.HubMoves.{HubMove, Delivers, Closes, Finishes, hub_move}
use Rattle.napi_types.specs.hub.HubStep.{answered_step}
use Rattle.napi_types.specs.hub.GivenSteps.{given_step, work_number, answer_unless_given}
use Rattle.napi_types.specs.hub.HubEvents.{environment_event, loop_end_step, begin_step, close_step, finish_step, frame_end_step, abandon_step}
use Rattle.napi_types.specs.hub.ThreadSteps.{is_thread_there, nothing_given, thread_step, thread_event}
use Rattle.napi_types.specs.hub.WorkerSteps.{worker_step, worker_event, start_step, work_end_step}
use Rattle.napi_types.specs.hub.HubSteps.{hub_step, hub_step_of, environment_step}
use Rattle.napi_types.specs.plain.Guards.{is_shared}
use Rattle.napi_types.proofs.plain.Conditions.{and-right}

abbrev AnswerKeeps : Hub → Option (Answer Hub) → Type 0
AnswerKeeps h o = IfSome o (λ a. KeepsStanding h a.after)

-- A CALL
unless-keeps : (h : Hub) (s : Option Status) (a : Answer Hub) → KeepsStanding h a.after → KeepsStanding h (unless_refused h s a).after
unless-keeps h None a k = k
unless-keeps h (Some s) a k = record { stage = refl; standing = refl; threads = refl; workers = refl }

on-keeps : (h : Hub) (answer : FunctionState → Answer Hub) (f : Option FunctionState) → ((x : FunctionState) → KeepsStanding h (answer x).after)
    → KeepsStanding h (on_function h answer f).after
on-keeps h answer None k = record { stage = refl; standing = refl; threads = refl; workers = refl }
on-keeps h answer (Some x) k = k x

called-keeps : (h : Hub) (who : Actor) (payload : ℕ) (m : Mode) (f : Option FunctionState) → AnswerKeeps h (call_answer h who payload m f)
called-keeps h who payload m None = record { stage = refl; standing = refl; threads = refl; workers = refl }
called-keeps h who payload m (Some f) = by (call_status who m f)
  where
    by : (s : Option Status) → AnswerKeeps h (option_map (called_answer h payload f) s)
    by None = tt
    by (Some s) = record { stage = refl; standing = refl; threads = refl; workers = refl }

pub answer-keeps : (h : Hub) (who : Actor) (g : Given) (c : Call) (n : ℕ) → AnswerKeeps h (hub_answer h who g c n)
answer-keeps h who g (call.CreateAsyncWork job entry payload) n = record { stage = refl; standing = refl; threads = refl; workers = refl }
answer-keeps h who g (call.DeleteAsyncWork w) n =
    unless-keeps h (work_refusal is_deletable h.pool w.0) _ (record { stage = refl; standing = refl; threads = refl; workers = refl })
answer-keeps h who g (call.CancelAsyncWork w) n = unless-keeps h (work_refusal is_queued h.pool w.0) _ (record { stage = refl; standing = refl; threads = refl; workers = refl })
answer-keeps h who g (call.QueueAsyncWork w) n = unless-keeps h (work_refusal is_created h.pool w.0) _ (record { stage = refl; standing = refl; threads = refl; workers = refl })
answer-keeps h who g (call.CreateThreadsafeFunction f entry maximum count finalizer context) n = record { stage = refl; standing = refl; threads = refl; workers = refl }
answer-keeps h who g (call.CallThreadsafeFunction f payload m) n = called-keeps h who payload m (tsfn_at h f.0)
answer-keeps h who g (call.AcquireThreadsafeFunction f) n =
    on-keeps h _ (tsfn_at h f.0) (λ x. record { stage = refl; standing = refl; threads = refl; workers = refl })
answer-keeps h who g (call.ReleaseThreadsafeFunction f m) n =
    on-keeps h _ (tsfn_at h f.0) (λ x. record { stage = refl; standing = refl; threads = refl; workers = refl })
answer-keeps h who g (call.RefThreadsafeFunction f) n =
    on-keeps h _ (tsfn_at h f.0) (λ x. record { stage = refl; standing = refl; threads = refl; workers = refl })
answer-keeps h who g (call.UnrefThreadsafeFunction f) n =
    on-keeps h _ (tsfn_at h f.0) (λ x. record { stage = refl; standing = refl; threads = refl; workers = refl })
answer-keeps h who g (call.GetThreadsafeFunctionContext f) n =
    on-keeps h _ (tsfn_at h f.0) (λ x. record { stage = refl; standing = refl; threads = refl; workers = refl })
answer-keeps h who g _ n = tt

pub answered-keeps : (h : Hub) (x : Entry) (may : Bool) (o : Option (Answer Hub)) → AnswerKeeps h o → KeepsStanding h (answered_step h x may o).after
answered-keeps h x may None k = record { stage = refl; standing = refl; threads = refl; workers = refl }
answered-keeps h x may (Some a) k = k

-- a shared call of the environment, given what it handed over
pub given-keeps : (h : Hub) (x : Entry) (c : Call) (g : Option Given) → KeepsStanding h (given_step h x c g).after
given-keeps h x c None = record { stage = refl; standing = refl; threads = refl; workers = refl }
given-keeps h x c (Some g) = answered-keeps h x _ (answer_unless_given h g c (work_number x.reply.out) g.refused) (by (work_number x.reply.out) g.refused)
  where
    by : (n : ℕ) (s : Option Status) → AnswerKeeps h (answer_unless_given h g c n s)
    by n None = answer-keeps h actor.Env g c n
    by n (Some s) = record { stage = refl; standing = refl; threads = refl; workers = refl }

-- AN ENTRY OF A THREAD OR A WORKER
thread_event-keeps : (h : Hub) (t : ℕ) (x : Entry) (event : HostStep) → KeepsStanding h (thread_event h t x event).after
thread_event-keeps h t x host.ActorEnd = record { stage = refl; standing = refl; threads = refl; workers = refl }
thread_event-keeps h t x _ = record { stage = refl; standing = refl; threads = refl; workers = refl }

thread-keeps : (h : Hub) (t : ℕ) (x : Entry) (w : What) → KeepsStanding h (thread_step h t x w).after
thread-keeps h t x (what.Call c) =
    answered-keeps h (record x { depth = 0; given = None }) (is_thread_there h t && is_thread_call c) (hub_answer h (actor.Thread t) nothing_given c 0)
    (answer-keeps h (actor.Thread t) nothing_given c 0)
thread-keeps h t x (what.Host event) = thread_event-keeps h t x event

start-keeps : (h : Hub) (w : ℕ) (x : Entry) (queued : List ℕ) → KeepsStanding h (start_step h w x queued).after
start-keeps h w x [] = record { stage = refl; standing = refl; threads = refl; workers = refl }
start-keeps h w x (n ∷ later) = record { stage = refl; standing = refl; threads = refl; workers = refl }

end-keeps : (h : Hub) (w : ℕ) (x : Entry) (n : Option ℕ) → KeepsStanding h (work_end_step h w x n).after
end-keeps h w x None = record { stage = refl; standing = refl; threads = refl; workers = refl }
end-keeps h w x (Some n) = record { stage = refl; standing = refl; threads = refl; workers = refl }

worker_event-keeps : (h : Hub) (w : ℕ) (x : Entry) (event : HostStep) → KeepsStanding h (worker_event h w x event).after
worker_event-keeps h w x host.Start = start-keeps h w x h.pool.queued
worker_event-keeps h w x host.Finish = end-keeps h w x (executed_by h.pool w)
worker_event-keeps h w x host.ActorEnd = record { stage = refl; standing = refl; threads = refl; workers = refl }
worker_event-keeps h w x _ = record { stage = refl; standing = refl; threads = refl; workers = refl }

worker-keeps : (h : Hub) (w : ℕ) (x : Entry) (it : What) → KeepsStanding h (worker_step h w x it).after
worker-keeps h w x (what.Call c) = record { stage = refl; standing = refl; threads = refl; workers = refl }
worker-keeps h w x (what.Host event) = worker_event-keeps h w x event

other-of : (h : Hub) (x : Entry) (who : Actor) → is_environment who ≡ false → KeepsStanding h (hub_step_of h x who).after
other-of h x actor.Env other = cc
other-of h x (actor.Thread t) other = thread-keeps h t x x.what
other-of h x (actor.Worker w) other = worker-keeps h w x x.what

pub other-keeps : (h : Hub) (x : Entry) → is_environment x.actor ≡ false → KeepsStanding h (hub_step h x).after
other-keeps h x other = other-of h x x.actor other

-- WHAT THE ENTRY IS
-- the entry that must stand is what the entry is
loop_end-what : (h : Hub) (x : Entry) (o : Out) → x.what ≡ what.Host host.LoopEnd → (loop_end_step h x o).entry.what ≡ x.what
loop_end-what h x (out.Ended w) is = sym is
loop_end-what h x _ is = refl

begin-what : (h : Hub) (x : Entry) (o : Option HubMove) → x.what ≡ what.Host host.Begin → (begin_step h x o).entry.what ≡ x.what
begin-what h x (Some (Delivers d)) is = sym is
begin-what h x _ is = refl

close-what : (h : Hub) (x : Entry) (o : Option HubMove) → x.what ≡ what.Host host.CloseTsfn → (close_step h x o).entry.what ≡ x.what
close-what h x (Some (Closes n)) is = sym is
close-what h x _ is = refl

finish-what : (h : Hub) (x : Entry) (o : Option HubMove) → x.what ≡ what.Host host.FinishTsfn → (finish_step h x o).entry.what ≡ x.what
finish-what h x (Some (Finishes n)) is = sym is
finish-what h x _ is = refl

frame_end-what : (h : Hub) (x : Entry) (d : Option DueInfo) → x.what ≡ what.Host host.End → (frame_end_step h x d).entry.what ≡ x.what
frame_end-what h x None is = refl
frame_end-what h x (Some d) is = sym is

abandon-what : (h : Hub) (x : Entry) (o : Out) → x.what ≡ what.Host host.Abandon → (abandon_step h x o).entry.what ≡ x.what
abandon-what h x (out.Unsigned n) is = sym is
abandon-what h x _ is = refl

event-what : (h : Hub) (x : Entry) (event : HostStep) → x.what ≡ what.Host event → (environment_event h x event).entry.what ≡ x.what
event-what h x host.Go is = sym is
event-what h x host.LoopEnd is = loop_end-what h x x.reply.out is
event-what h x host.Abandon is = abandon-what h x x.reply.out is
event-what h x host.Drain is = sym is
event-what h x host.Finals is = sym is
event-what h x host.Begin is = begin-what h x (hub_move h) is
event-what h x host.CloseTsfn is = close-what h x (hub_move h) is
event-what h x host.FinishTsfn is = finish-what h x (hub_move h) is
event-what h x host.End is = frame_end-what h x h.standing is
event-what h x _ is = refl

answered-what : (h : Hub) (x : Entry) (may : Bool) (o : Option (Answer Hub)) → (answered_step h x may o).entry.what ≡ x.what
answered-what h x may None = refl
answered-what h x may (Some a) = refl

given-what : (h : Hub) (x : Entry) (c : Call) (g : Option Given) → (given_step h x c g).entry.what ≡ x.what
given-what h x c None = refl
given-what h x c (Some g) = answered-what h x _ (answer_unless_given h g c (work_number x.reply.out) g.refused)

environment-what : (h : Hub) (x : Entry) (w : What) → x.what ≡ w → (environment_step h x w).entry.what ≡ x.what
environment-what h x (what.Call c) is = given-what h x c x.given
environment-what h x (what.Host event) is = event-what h x event is

thread_event-what : (h : Hub) (t : ℕ) (x : Entry) (event : HostStep) → x.what ≡ what.Host event → (thread_event h t x event).entry.what ≡ x.what
thread_event-what h t x host.ActorEnd is = sym is
thread_event-what h t x _ is = refl

thread-what : (h : Hub) (t : ℕ) (x : Entry) (w : What) → x.what ≡ w → (thread_step h t x w).entry.what ≡ x.what
thread-what h t x (what.Call c) is =
    answered-what h (record x { depth = 0; given = None }) (is_thread_there h t && is_thread_call c) (hub_answer h (actor.Thread t) nothing_given c 0)
thread-what h t x (what.Host event) is = thread_event-what h t x event is

start-what : (h : Hub) (w : ℕ) (x : Entry) (queued : List ℕ) → x.what ≡ what.Host host.Start → (start_step h w x queued).entry.what ≡ x.what
start-what h w x [] is = refl
start-what h w x (n ∷ later) is = sym is

end-what : (h : Hub) (w : ℕ) (x : Entry) (n : Option ℕ) → x.what ≡ what.Host host.Finish → (work_end_step h w x n).entry.what ≡ x.what
end-what h w x None is = refl
end-what h w x (Some n) is = sym is

worker_event-what : (h : Hub) (w : ℕ) (x : Entry) (event : HostStep) → x.what ≡ what.Host event → (worker_event h w x event).entry.what ≡ x.what
worker_event-what h w x host.Start is = start-what h w x h.pool.queued is
worker_event-what h w x host.Finish is = end-what h w x (executed_by h.pool w) is
worker_event-what h w x host.ActorEnd is = sym is
worker_event-what h w x _ is = refl

worker-what : (h : Hub) (w : ℕ) (x : Entry) (it : What) → x.what ≡ it → (worker_step h w x it).entry.what ≡ x.what
worker-what h w x (what.Call c) is = refl
worker-what h w x (what.Host event) is = worker_event-what h w x event is

pub hub_step-what : (h : Hub) (x : Entry) → (hub_step h x).entry.what ≡ x.what
hub_step-what h x = by x.actor
  where
    by : (who : Actor) → (hub_step_of h x who).entry.what ≡ x.what
    by actor.Env = environment-what h x x.what refl
    by (actor.Thread t) = thread-what h t x x.what refl
    by (actor.Worker w) = worker-what h w x x.what refl

-- WHAT OTHERS CALL
-- a thread's calls are shared
pub thread-shared : (c : Call) → is_thread_call c ≡ true → is_shared c ≡ true
thread-shared (call.CallThreadsafeFunction f payload m) is = refl
thread-shared (call.AcquireThreadsafeFunction f) is = refl
thread-shared (call.ReleaseThreadsafeFunction f m) is = refl
thread-shared _ is = cc

pub answered-may : (h : Hub) (x : Entry) (may : Bool) (o : Option (Answer Hub)) → IsTrue (answered_step h x may o).may → IsTrue may
answered-may h x may None m = cc
answered-may h x may (Some a) m = m

pub thread-calls : (h : Hub) (t : ℕ) (x : Entry) (w : What) (c : Call) → w ≡ what.Call c → IsTrue (thread_step h t x w).may → is_thread_call c ≡ true
thread-calls h t x (what.Call d) c is may =
    let same : d ≡ c = cc in
    ap is_thread_call (sym same)
    ∙ and-right (is_thread_there h t) (is_thread_call d)
    (answered-may h (record x { depth = 0; given = None }) (is_thread_there h t && is_thread_call d) (hub_answer h (actor.Thread t) nothing_given d 0) may)
thread-calls h t x (what.Host event) c is may = cc

worker-calls : (h : Hub) (w : ℕ) (x : Entry) (it : What) (c : Call) → it ≡ what.Call c → IsTrue (worker_step h w x it).may → is_thread_call c ≡ true
worker-calls h w x (what.Call d) c is may = cc
worker-calls h w x (what.Host event) c is may = cc

other-calls-of : (h : Hub) (x : Entry) (who : Actor) (c : Call) → is_environment who ≡ false → x.what ≡ what.Call c → IsTrue (hub_step_of h x who).may → is_thread_call c ≡ true
other-calls-of h x actor.Env c other is may = cc
other-calls-of h x (actor.Thread t) c other is may = thread-calls h t x x.what c is may
other-calls-of h x (actor.Worker w) c other is may = worker-calls h w x x.what c is may

-- a thread calls, acquires and releases, and a worker calls nothing
pub other-calls : (h : Hub) (x : Entry) (c : Call) → is_environment x.actor ≡ false → x.what ≡ what.Call c → IsTrue (hub_step h x).may → is_thread_call c ≡ true
other-calls h x c other is may = other-calls-of h x x.actor c other is may
