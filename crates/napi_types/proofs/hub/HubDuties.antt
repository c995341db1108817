-- What the entries of the hub make, withdraw and begin: no ticket.
use Rattle.std.proofs.Common.{◌≡◌, ℕ, Bool, true, ◌&&◌, List, [], ◌∷◌, IsTrue, refl, Option, Some, None, IfSome, option_map, ◌≢◌, ◌==◌, false, cond, subst}
use Rattle.std.specs.Option.{option_or, option_and_then}
use Rattle.napi_types.specs.declared.call.Call.{Call}
use Rattle.napi_types.specs.declared.call.Call.TheVariants as call
use Rattle.napi_types.specs.declared.call.Mode.{Mode}
use Rattle.napi_types.specs.declared.duties.DueInfo.{DueInfo}
use Rattle.napi_types.specs.declared.entry.Actor.{Actor}
use Rattle.napi_types.specs.declared.entry.Actor.TheVariants as actor
use Rattle.napi_types.specs.declared.entry.Cause.TheVariants as cause
use Rattle.napi_types.specs.declared.entry.Duty.{Duty}
use Rattle.napi_types.specs.declared.entry.Entry.{Entry}
use Rattle.napi_types.specs.declared.entry.Given.{Given}
use Rattle.napi_types.specs.declared.entry.HostStep.{HostStep}
use Rattle.napi_types.specs.declared.entry.HostStep.TheVariants as host
use Rattle.napi_types.specs.declared.entry.Out.{Out}
use Rattle.napi_types.specs.declared.entry.Out.TheVariants as out
use Rattle.napi_types.specs.declared.entry.Reply.{Reply}
use Rattle.napi_types.specs.declared.entry.TsfnState.{TsfnState}
use Rattle.napi_types.specs.declared.entry.TsfnState.TheVariants.{Open, Closing, Finished, Done}
use Rattle.napi_types.specs.declared.entry.What.{What}
use Rattle.napi_types.specs.declared.entry.What.TheVariants as what
use Rattle.napi_types.specs.declared.status.Status.{Status}
use Rattle.napi_types.specs.declared.status.Status.TheVariants as status
use Rattle.napi_types.specs.plain.Entries.{begun_duty}
use Rattle.napi_types.specs.plain.Lists.{head}
use Rattle.napi_types.specs.plain.Replies.{Answer}
use Rattle.napi_types.specs.parts.Frames.{is_hub_duty}
use Rattle.napi_types.specs.parts.Functions.{FunctionState, call_status}
use Rattle.napi_types.specs.parts.Pool.{work_refusal, executed_by, WorkPool, completion_info, first_completion, work_numbered}
use Rattle.napi_types.specs.parts.Works.{is_created, is_queued, is_deletable, Work, Outcome}
use Rattle.napi_types.specs.hub.Hub.{Hub}
use Rattle.napi_types.specs.hub.HubCalls.{is_thread_call, hub_answer, unless_refused, on_function, tsfn_at, item_made, call_answer, called_answer, finalizer_duty, new_function_number}
use Rattle.napi_types.specs.hub.HubMoves.{HubMove, Delivers, Closes, Finishes, hub_move, tsfn_move, tsfn_move_in, first_move}
use Rattle.napi_types.specs.hub.HubStep.{answered_step}
use Rattle.napi_types.specs.hub.GivenSteps.{given_step, work_number, answer_unless_given}
use Rattle.napi_types.specs.hub.HubEvents.{environment_event, loop_end_step, begin_step, close_step, finish_step, frame_end_step, abandon_step}
use Rattle.napi_types.specs.hub.ThreadSteps.{is_thread_there, nothing_given, thread_step, thread_event}
use Rattle.napi_types.specs.hub.WorkerSteps.{worker_step, worker_event, start_step, work_end_step}
use Rattle.napi_types.specs.hub.HubSteps.{hub_step, hub_step_of, environment_step}

-- WHAT A MOVE DELIVERS
-- a duty of the hub, and never a ticket: neither a call nor a hook begins its frame
pub record IsDutyOfHub (d : DueInfo) : Type 0 where
  pub ours : is_hub_duty (Some d.duty) ≡ true
  pub uncalled : d.cause ≢ cause.Call
  pub no_hook : d.cause ≢ cause.Hook

abbrev DeliversOfHub : HubMove → Type 0
DeliversOfHub (Delivers d) = IsDutyOfHub d
DeliversOfHub _ = Unit {0}

completion-of_hub : (p : WorkPool) → IfSome (first_completion p) IsDutyOfHub
completion-of_hub p = by (head p.finished)
  where
    told : (o : Outcome) (w : Option Work) → IfSome (option_map (λ w. completion_info w o) w) IsDutyOfHub
    told o None = tt
    told o (Some w) = record { ours = refl; uncalled = λ z. cc; no_hook = λ z. cc }

    by : (o : Option Outcome) → IfSome (option_and_then (λ (o : Outcome). option_map (λ w. completion_info w o) (work_numbered p o.work)) o) IsDutyOfHub
    by None = tt
    by (Some o) = told o (work_numbered p o.work)

function-of_hub : (f : FunctionState) (s : TsfnState) (items : List ℕ) → IfSome (tsfn_move_in f s items) DeliversOfHub
function-of_hub f Open [] = by (f.count == 0)
  where
    by : (b : Bool) → IfSome (cond b (Some (Closes f.id)) None) DeliversOfHub
    by true = tt
    by false = tt
function-of_hub f Open (payload ∷ later) = record { ours = refl; uncalled = λ z. cc; no_hook = λ z. cc }
function-of_hub f Closing [] = tt
function-of_hub f Closing (payload ∷ later) = record { ours = refl; uncalled = λ z. cc; no_hook = λ z. cc }
function-of_hub f Finished items = record { ours = refl; uncalled = λ z. cc; no_hook = λ z. cc }
function-of_hub f Done items = tt

first-of_hub : (fs : List FunctionState) → IfSome (first_move fs) DeliversOfHub
first-of_hub [] = tt
first-of_hub (f ∷ fs) = by (tsfn_move f) (function-of_hub f f.state f.items) (first-of_hub fs)
  where
    by : (o : Option HubMove) → IfSome o DeliversOfHub → IfSome (first_move fs) DeliversOfHub → IfSome (option_or o (first_move fs)) DeliversOfHub
    by None here later = later
    by (Some move) here later = here

pub move-of_hub : (h : Hub) → IfSome (hub_move h) DeliversOfHub
move-of_hub h = by (first_completion h.pool) (completion-of_hub h.pool)
  where
    by : (o : Option DueInfo) → IfSome o IsDutyOfHub → IfSome (option_or (option_map Delivers o) (first_move h.functions)) DeliversOfHub
    by None here = first-of_hub h.functions
    by (Some d) here = here

pub delivery-of_hub : (h : Hub) (d : DueInfo) → hub_move h ≡ Some (Delivers d) → IsDutyOfHub d
delivery-of_hub h d next = subst (λ o. IfSome o DeliversOfHub) next (move-of_hub h)

-- a duty that is there is the hub's
abbrev pub OfHub : Option Duty → Type 0
OfHub o = IfSome o (λ d. is_hub_duty (Some d) ≡ true)

-- a reply withdraws nothing, and what it makes is a work, an item or a function
record ReplySparesTickets (r : Reply) : Type 0 where
  pub dropped : r.dropped ≡ None
  pub made : OfHub r.made

-- the same of an entry, and of the duty whose frame begins with it
pub record SparesTickets (x : Entry) : Type 0 where
  pub dropped : x.reply.dropped ≡ None
  pub made : OfHub x.reply.made
  pub begun : OfHub (begun_duty x.what x.reply.out)

-- CALLS
unless-spares : (h : Hub) (s : Option Status) (a : Answer Hub) → ReplySparesTickets a.reply → ReplySparesTickets (unless_refused h s a).reply
unless-spares h None a k = k
unless-spares h (Some s) a k = record { dropped = refl; made = tt }

on-spares : (h : Hub) (answer : FunctionState → Answer Hub) (f : Option FunctionState) → ((x : FunctionState) → ReplySparesTickets (answer x).reply)
    → ReplySparesTickets (on_function h answer f).reply
on-spares h answer None k = record { dropped = refl; made = tt }
on-spares h answer (Some x) k = k x

item-of_hub : (s : Status) (f : FunctionState) → OfHub (item_made s f)
item-of_hub status.Ok f = refl
item-of_hub _ f = tt

finalizer-of_hub : (n : ℕ) (entry : Option ℕ) → OfHub (finalizer_duty n entry)
finalizer-of_hub n None = tt
finalizer-of_hub n (Some entry) = refl

abbrev AnswerSparesTickets : Option (Answer Hub) → Type 0
AnswerSparesTickets o = IfSome o (λ a. ReplySparesTickets a.reply)

called-spares : (h : Hub) (who : Actor) (payload : ℕ) (m : Mode) (f : Option FunctionState) → AnswerSparesTickets (call_answer h who payload m f)
called-spares h who payload m None = record { dropped = refl; made = tt }
called-spares h who payload m (Some f) = by (call_status who m f)
  where
    by : (s : Option Status) → AnswerSparesTickets (option_map (called_answer h payload f) s)
    by None = tt
    by (Some s) = record { dropped = refl; made = item-of_hub s f }

answer-spares : (h : Hub) (who : Actor) (g : Given) (c : Call) (n : ℕ) → AnswerSparesTickets (hub_answer h who g c n)
answer-spares h who g (call.CreateAsyncWork job entry payload) n = record { dropped = refl; made = tt }
answer-spares h who g (call.DeleteAsyncWork w) n = unless-spares h (work_refusal is_deletable h.pool w.0) _ (record { dropped = refl; made = tt })
answer-spares h who g (call.CancelAsyncWork w) n = unless-spares h (work_refusal is_queued h.pool w.0) _ (record { dropped = refl; made = tt })
answer-spares h who g (call.QueueAsyncWork w) n = unless-spares h (work_refusal is_created h.pool w.0) _ (record { dropped = refl; made = refl })
answer-spares h who g (call.CreateThreadsafeFunction f entry maximum count finalizer context) n =
    record { dropped = refl; made = finalizer-of_hub (new_function_number h) finalizer }
answer-spares h who g (call.CallThreadsafeFunction f payload m) n = called-spares h who payload m (tsfn_at h f.0)
answer-spares h who g (call.AcquireThreadsafeFunction f) n = on-spares h _ (tsfn_at h f.0) (λ x. record { dropped = refl; made = tt })
answer-spares h who g (call.ReleaseThreadsafeFunction f m) n = on-spares h _ (tsfn_at h f.0) (λ x. record { dropped = refl; made = tt })
answer-spares h who g (call.RefThreadsafeFunction f) n = on-spares h _ (tsfn_at h f.0) (λ x. record { dropped = refl; made = tt })
answer-spares h who g (call.UnrefThreadsafeFunction f) n = on-spares h _ (tsfn_at h f.0) (λ x. record { dropped = refl; made = tt })
answer-spares h who g (call.GetThreadsafeFunctionContext f) n = on-spares h _ (tsfn_at h f.0) (λ x. record { dropped = refl; made = tt })
answer-spares h who g _ n = tt

-- the entry of a call, with the answer
answered-spares : (h : Hub) (x : Entry) (c : Call) (may : Bool) (o : Option (Answer Hub)) → x.what ≡ what.Call c → AnswerSparesTickets o
    → IsTrue (answered_step h x may o).may → SparesTickets (answered_step h x may o).entry
answered-spares h x c may None is k ok = cc
answered-spares h x c may (Some a) is k ok = record { dropped = k.dropped; made = k.made; begun = rw is tt }

given-spares : (h : Hub) (x : Entry) (c : Call) (g : Option Given) → x.what ≡ what.Call c → IsTrue (given_step h x c g).may
    → SparesTickets (given_step h x c g).entry
given-spares h x c None is ok = cc
given-spares h x c (Some g) is ok =
    answered-spares h x c _ (answer_unless_given h g c (work_number x.reply.out) g.refused) is (by (work_number x.reply.out) g.refused) ok
  where
    by : (n : ℕ) (s : Option Status) → AnswerSparesTickets (answer_unless_given h g c n s)
    by n None = answer-spares h actor.Env g c n
    by n (Some s) = record { dropped = refl; made = tt }

-- EVENTS
loop_end-spares : (h : Hub) (x : Entry) (o : Out) → IsTrue (loop_end_step h x o).may → SparesTickets (loop_end_step h x o).entry
loop_end-spares h x (out.Ended w) ok = record { dropped = refl; made = tt; begun = tt }
loop_end-spares h x _ ok = cc

-- the duty whose frame begins is the hub's
begin-spares : (h : Hub) (x : Entry) (o : Option HubMove) → hub_move h ≡ o → IsTrue (begin_step h x o).may → SparesTickets (begin_step h x o).entry
begin-spares h x (Some (Delivers d)) next ok = record { dropped = refl; made = tt; begun = (delivery-of_hub h d next).ours }
begin-spares h x _ next ok = cc

close-spares : (h : Hub) (x : Entry) (o : Option HubMove) → IsTrue (close_step h x o).may → SparesTickets (close_step h x o).entry
close-spares h x (Some (Closes n)) ok = record { dropped = refl; made = tt; begun = tt }
close-spares h x _ ok = cc

finish-spares : (h : Hub) (x : Entry) (o : Option HubMove) → IsTrue (finish_step h x o).may → SparesTickets (finish_step h x o).entry
finish-spares h x (Some (Finishes n)) ok = record { dropped = refl; made = tt; begun = tt }
finish-spares h x _ ok = cc

frame_end-spares : (h : Hub) (x : Entry) (d : Option DueInfo) → IsTrue (frame_end_step h x d).may → SparesTickets (frame_end_step h x d).entry
frame_end-spares h x None ok = cc
frame_end-spares h x (Some d) ok = record { dropped = refl; made = tt; begun = tt }

abandon-spares : (h : Hub) (x : Entry) (o : Out) → IsTrue (abandon_step h x o).may → SparesTickets (abandon_step h x o).entry
abandon-spares h x (out.Unsigned n) ok = record { dropped = refl; made = tt; begun = tt }
abandon-spares h x _ ok = cc

event-spares : (h : Hub) (x : Entry) (event : HostStep) → IsTrue (environment_event h x event).may → SparesTickets (environment_event h x event).entry
event-spares h x host.Go ok = record { dropped = refl; made = tt; begun = tt }
event-spares h x host.LoopEnd ok = loop_end-spares h x x.reply.out ok
event-spares h x host.Abandon ok = abandon-spares h x x.reply.out ok
event-spares h x host.Drain ok = record { dropped = refl; made = tt; begun = tt }
event-spares h x host.Finals ok = record { dropped = refl; made = tt; begun = tt }
event-spares h x host.Begin ok = begin-spares h x (hub_move h) refl ok
event-spares h x host.CloseTsfn ok = close-spares h x (hub_move h) ok
event-spares h x host.FinishTsfn ok = finish-spares h x (hub_move h) ok
event-spares h x host.End ok = frame_end-spares h x h.standing ok
event-spares h x _ ok = cc

environment-spares : (h : Hub) (x : Entry) (w : What) → x.what ≡ w → IsTrue (environment_step h x w).may → SparesTickets (environment_step h x w).entry
environment-spares h x (what.Call c) is ok = given-spares h x c x.given is ok
environment-spares h x (what.Host event) is ok = event-spares h x event ok

-- OTHERS
thread_event-spares : (h : Hub) (t : ℕ) (x : Entry) (event : HostStep) → IsTrue (thread_event h t x event).may → SparesTickets (thread_event h t x event).entry
thread_event-spares h t x host.ActorEnd ok = record { dropped = refl; made = tt; begun = tt }
thread_event-spares h t x _ ok = cc

thread-spares : (h : Hub) (t : ℕ) (x : Entry) (w : What) → x.what ≡ w → IsTrue (thread_step h t x w).may → SparesTickets (thread_step h t x w).entry
thread-spares h t x (what.Call c) is ok =
    answered-spares h (record x { depth = 0; given = None }) c (is_thread_there h t && is_thread_call c) (hub_answer h (actor.Thread t) nothing_given c 0) is
    (answer-spares h (actor.Thread t) nothing_given c 0) ok
thread-spares h t x (what.Host event) is ok = thread_event-spares h t x event ok

start-spares : (h : Hub) (w : ℕ) (x : Entry) (queued : List ℕ) → IsTrue (start_step h w x queued).may → SparesTickets (start_step h w x queued).entry
start-spares h w x [] ok = cc
start-spares h w x (n ∷ later) ok = record { dropped = refl; made = tt; begun = tt }

end-spares : (h : Hub) (w : ℕ) (x : Entry) (n : Option ℕ) → IsTrue (work_end_step h w x n).may → SparesTickets (work_end_step h w x n).entry
end-spares h w x None ok = cc
end-spares h w x (Some n) ok = record { dropped = refl; made = tt; begun = tt }

worker_event-spares : (h : Hub) (w : ℕ) (x : Entry) (event : HostStep) → IsTrue (worker_event h w x event).may → SparesTickets (worker_event h w x event).entry
worker_event-spares h w x host.Start ok = start-spares h w x h.pool.queued ok
worker_event-spares h w x host.Finish ok = end-spares h w x (executed_by h.pool w) ok
worker_event-spares h w x host.ActorEnd ok = record { dropped = refl; made = tt; begun = tt }
worker_event-spares h w x _ ok = cc

worker-spares : (h : Hub) (w : ℕ) (x : Entry) (it : What) → IsTrue (worker_step h w x it).may → SparesTickets (worker_step h w x it).entry
worker-spares h w x (what.Call c) ok = cc
worker-spares h w x (what.Host event) ok = worker_event-spares h w x event ok

-- EACH ENTRY
-- where it may come
pub hub_step-spares : (h : Hub) (x : Entry) → IsTrue (hub_step h x).may → SparesTickets (hub_step h x).entry
hub_step-spares h x = by x.actor
  where
    by : (who : Actor) → IsTrue (hub_step_of h x who).may → SparesTickets (hub_step_of h x who).entry
    by actor.Env ok = environment-spares h x x.what refl ok
    by (actor.Thread t) ok = thread-spares h t x x.what refl ok
    by (actor.Worker w) ok = worker-spares h w x x.what ok
