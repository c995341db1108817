-- The addons of frames, functions, tickets, works and thread-safe functions are those of the script, over every run.
use Rattle.std.proofs.Common.{◌≡◌, ◌<◌, ℕ, ◌+◌, ◌==◌, Bool, true, false, cond, ◌&&◌, List, [], ◌∷◌, map, IsTrue, refl, sym, subst, Option, Some, None, IfSome, option_map, is_some}
use Rattle.std.specs.List.{All, find}
use Rattle.std.specs.Option.{option_or, option_and_then, unwrap_or}
use Rattle.std.proofs.lemmas.List.Elements.{All-head, All-tail, All-push, All-filter, All-map, All-weaker}
use Rattle.napi_types.specs.declared.call.Call.{Call}
use Rattle.napi_types.specs.declared.call.Call.TheVariants as call
use Rattle.napi_types.specs.declared.call.JobSpec.{JobSpec}
use Rattle.napi_types.specs.declared.call.Mode.{Mode}
use Rattle.napi_types.specs.declared.call.Release.{Release}
use Rattle.napi_types.specs.declared.call.Release.TheVariants as release
use Rattle.napi_types.specs.declared.duties.DueInfo.{DueInfo}
use Rattle.napi_types.specs.declared.entry.Actor.{Actor}
use Rattle.napi_types.specs.declared.entry.Actor.TheVariants as actor
use Rattle.napi_types.specs.declared.entry.Duty.{Duty}
use Rattle.napi_types.specs.declared.entry.Duty.TheVariants as duty
use Rattle.napi_types.specs.declared.entry.Entry.{Entry}
use Rattle.napi_types.specs.declared.entry.Given.{Given}
use Rattle.napi_types.specs.declared.entry.HostStep.{HostStep}
use Rattle.napi_types.specs.declared.entry.HostStep.TheVariants as host
use Rattle.napi_types.specs.declared.entry.Out.{Out}
use Rattle.napi_types.specs.declared.entry.Out.TheVariants as out
use Rattle.napi_types.specs.declared.entry.Target.{Target}
use Rattle.napi_types.specs.declared.entry.TsfnState.{TsfnState}
use Rattle.napi_types.specs.declared.entry.TsfnState.TheVariants.{Open, Closing, Finished, Done}
use Rattle.napi_types.specs.declared.entry.What.{What}
use Rattle.napi_types.specs.declared.entry.What.TheVariants as what
use Rattle.napi_types.specs.declared.status.Status.{Status}
use Rattle.napi_types.specs.declared.status.Status.TheVariants as status
use Rattle.napi_types.specs.plain.Entries.{is_environment}
use Rattle.napi_types.specs.plain.Lists.{head}
use Rattle.napi_types.specs.plain.Replies.{Answer}
use Rattle.napi_types.specs.parts.Functions.{FunctionState, first_taken, with_item_taken, closed, finished, done, called, acquired, acquire_status, released, release_status, with_referenced, call_status}
use Rattle.napi_types.specs.parts.Pool.{WorkPool, work_refusal, with_work, with_queued, cancelled_at, number_of_work, started_from, finished_at, executed_by, work_numbered, first_completion, completion_info}
use Rattle.napi_types.specs.parts.Works.{Work, Outcome, has_work_number, is_created, is_queued, is_deletable}
use Rattle.napi_types.specs.hub.Hub.{Hub}
use Rattle.napi_types.specs.hub.HubCalls.{hub_answer, unless_refused, on_function, tsfn_at, call_answer, called_answer, no_target, is_thread_call}
use Rattle.napi_types.specs.hub.HubMoves.{HubMove, Delivers, Closes, Finishes, tsfn_move_in, first_move, hub_move, in_tsfn, without_duty}
use Rattle.napi_types.specs.hub.HubOwners.{IsFunctionOf, IsOwnedHub}
use Rattle.napi_types.specs.hub.HubStep.{answered_step}
use Rattle.napi_types.specs.hub.GivenSteps.{given_step, answer_unless_given, work_number}
use Rattle.napi_types.specs.hub.HubEvents.{begin_step, close_step, finish_step, frame_end_step, loop_end_step, environment_event, abandon_step}
use Rattle.napi_types.specs.hub.ThreadSteps.{is_thread_there, nothing_given, thread_call_step, thread_event, thread_step}
use Rattle.napi_types.specs.hub.WorkerSteps.{start_step, work_end_step, worker_step}
use Rattle.napi_types.specs.hub.HubSteps.{hub_step_of, hub_step}
use Rattle.napi_types.proofs.plain.Conditions.{and-right}
use Rattle.napi_types.proofs.plain.Maps.{All-with_record}
use Rattle.napi_types.proofs.hub.HubKeeps.{answered-may}

-- a work of one of these addons
abbrev Made : ℕ → Work → Type 0
Made n w = w.addon < n

abbrev AreMade : ℕ → WorkPool → Type 0
AreMade n p = All (Made n) p.works

abbrev IsOurFunction : ℕ → FunctionState → Type 0
IsOurFunction n f = IsFunctionOf n f

-- THE POOL
created-owned : (n id : ℕ) (job : JobSpec) (addon entry payload : ℕ) (p : WorkPool) → addon < n → AreMade n p → AreMade n (with_work id job addon entry payload p)
created-owned n id job addon entry payload p there all = All-with_record (λ (w : Work). w.id) _ (Made n) p.works there all

queued-owned : (n id : ℕ) (p : WorkPool) → AreMade n p → AreMade n (with_queued id p)
queued-owned n id p all = All-map (Made n) _ p.works (All-weaker (Made n) (λ (w : Work). Made n (cond (w.id == id) (record w { number = Some (p.numbered + 1) }) w)) by p.works all)
  where
    at : (b : Bool) (w : Work) → Made n w → Made n (cond b (record w { number = Some (p.numbered + 1) }) w)
    at true w h = h
    at false w h = h

    by : (w : Work) → Made n w → Made n (cond (w.id == id) (record w { number = Some (p.numbered + 1) }) w)
    by w h = at (w.id == id) w h

cancelled-owned : (n : ℕ) (o : Option ℕ) (p : WorkPool) → AreMade n p → AreMade n (cancelled_at o p)
cancelled-owned n None p all = all
cancelled-owned n (Some k) p all = all

started-owned : (n : ℕ) (queued : List ℕ) (worker : ℕ) (p : WorkPool) → AreMade n p → AreMade n (started_from queued worker p)
started-owned n [] worker p all = all
started-owned n (k ∷ ks) worker p all = all

finished-owned : (n worker : ℕ) (o : Option ℕ) (p : WorkPool) → AreMade n p → AreMade n (finished_at worker o p)
finished-owned n worker None p all = all
finished-owned n worker (Some k) p all = all

-- A FUNCTION
-- a change of a function that keeps whose it is
abbrev KeepsOwner : (FunctionState → FunctionState) → Type 0
KeepsOwner change = (n : ℕ) (f : FunctionState) → IsOurFunction n f → IsOurFunction n (change f)

changed-owned : (n k : ℕ) (change : FunctionState → FunctionState) (fs : List FunctionState) → KeepsOwner change → All (IsOurFunction n) fs
    → All (IsOurFunction n) (map (λ (f : FunctionState). cond (f.id == k) (change f) f) fs)
changed-owned n k change fs keeps all = All-map (IsOurFunction n) _ fs (All-weaker (IsOurFunction n) (λ (f : FunctionState). IsOurFunction n (cond (f.id == k) (change f) f)) by fs all)
  where
    at : (b : Bool) (f : FunctionState) → IsOurFunction n f → IsOurFunction n (cond b (change f) f)
    at true f h = keeps n f h
    at false f h = h

    by : (f : FunctionState) → IsOurFunction n f → IsOurFunction n (cond (f.id == k) (change f) f)
    by f h = at (f.id == k) f h

function-owned : (n k : ℕ) (change : FunctionState → FunctionState) (h : Hub) → KeepsOwner change → IsOwnedHub n h → IsOwnedHub n (in_tsfn k change h)
function-owned n k change h keeps o = record { works = o.works; functions = changed-owned n k change h.functions keeps o.functions }

keeps-called : (s : Status) (payload : ℕ) → KeepsOwner (called (Some s) payload)
keeps-called status.Ok payload n f h = record { creator = h.creator; target = h.target }
keeps-called status.Closing payload n f h = record { creator = h.creator; target = h.target }
keeps-called s payload n f h = h

keeps-acquired : (s : Status) → KeepsOwner (acquired s)
keeps-acquired status.Ok n f h = record { creator = h.creator; target = h.target }
keeps-acquired s n f h = h

keeps-released : (s : Status) (m : Release) → KeepsOwner (released s m)
keeps-released status.Ok release.Abort n f h = record { creator = h.creator; target = h.target }
keeps-released status.Ok release.Release n f h = record { creator = h.creator; target = h.target }
keeps-released s m n f h = h

keeps-taken : KeepsOwner first_taken
keeps-taken n f h = by (is_some (head f.items))
  where
    by : (b : Bool) → IsOurFunction n (cond b (with_item_taken f) f)
    by true = record { creator = h.creator; target = h.target }
    by false = h

keeps-plainly : (n : ℕ) (f g : FunctionState) → g.addon ≡ f.addon → g.target ≡ f.target → IsOurFunction n f → IsOurFunction n g
keeps-plainly n f g creator target h = record { creator = subst (λ a. a < n) (sym creator) h.creator; target = subst (λ (t : Target). t.addon < n) (sym target) h.target }

-- A CALL
abbrev AnswerOwned : ℕ → Option (Answer Hub) → Type 0
AnswerOwned n o = IfSome o (λ a. IsOwnedHub n a.after)

unless-owned : (n : ℕ) (h : Hub) (s : Option Status) (a : Answer Hub) → IsOwnedHub n h → IsOwnedHub n a.after → IsOwnedHub n (unless_refused h s a).after
unless-owned n h None a o k = k
unless-owned n h (Some s) a o k = o

on-owned : (n : ℕ) (h : Hub) (answer : FunctionState → Answer Hub) (f : Option FunctionState) → IsOwnedHub n h → ((x : FunctionState) → IsOwnedHub n (answer x).after)
    → IsOwnedHub n (on_function h answer f).after
on-owned n h answer None o k = o
on-owned n h answer (Some x) o k = k x

called-owned : (n : ℕ) (h : Hub) (who : Actor) (payload : ℕ) (m : Mode) (f : Option FunctionState) → IsOwnedHub n h → AnswerOwned n (call_answer h who payload m f)
called-owned n h who payload m None o = o
called-owned n h who payload m (Some f) o = by (call_status who m f)
  where
    by : (s : Option Status) → AnswerOwned n (option_map (called_answer h payload f) s)
    by None = tt
    by (Some s) = function-owned n f.id (called (Some s) payload) h (keeps-called s payload) o

-- the calls that create a work or a thread-safe function
abbrev pub is_creating_call : Call → Bool
is_creating_call (call.CreateAsyncWork _ _ _) = true
is_creating_call (call.CreateThreadsafeFunction _ _ _ _ _ _) = true
is_creating_call _ = false

-- what the environment hands over names addons that are there, and a target where a thread-safe function is created
pub record GivesOwned (n : ℕ) (c : Call) (g : Given) : Type 0 where
  pub addon : g.addon < n
  pub target : (unwrap_or g.target no_target).addon < n

answer-owned : (n : ℕ) (h : Hub) (who : Actor) (g : Given) (c : Call) (k : ℕ) → (is_creating_call c ≡ true → GivesOwned n c g) → IsOwnedHub n h → AnswerOwned n (hub_answer h who g c k)
answer-owned n h who g (call.CreateAsyncWork job entry payload) k gives o =
    record { works = created-owned n k job g.addon entry payload h.pool (gives refl).addon o.works; functions = o.functions }
answer-owned n h who g (call.DeleteAsyncWork w) k gives o =
    unless-owned n h (work_refusal is_deletable h.pool w.0) _ o (record { works = All-filter _ (Made n) h.pool.works o.works; functions = o.functions })
answer-owned n h who g (call.CancelAsyncWork w) k gives o =
    unless-owned n h (work_refusal is_queued h.pool w.0) _ o (record { works = cancelled-owned n (number_of_work h.pool w.0) h.pool o.works; functions = o.functions })
answer-owned n h who g (call.QueueAsyncWork w) k gives o =
    unless-owned n h (work_refusal is_created h.pool w.0) _ o (record { works = queued-owned n w.0 h.pool o.works; functions = o.functions })
answer-owned n h who g (call.CreateThreadsafeFunction f entry maximum count finalizer context) k gives o =
    record { works = o.works; functions = All-push (IsOurFunction n) h.functions _ o.functions (record { creator = (gives refl).addon; target = (gives refl).target }) }
answer-owned n h who g (call.CallThreadsafeFunction f payload m) k gives o = called-owned n h who payload m (tsfn_at h f.0) o
answer-owned n h who g (call.AcquireThreadsafeFunction f) k gives o =
    on-owned n h _ (tsfn_at h f.0) o (λ x. function-owned n x.id (acquired (acquire_status x)) h (keeps-acquired (acquire_status x)) o)
answer-owned n h who g (call.ReleaseThreadsafeFunction f m) k gives o =
    on-owned n h _ (tsfn_at h f.0) o (λ x. function-owned n x.id (released (release_status x) m) h (keeps-released (release_status x) m) o)
answer-owned n h who g (call.RefThreadsafeFunction f) k gives o =
    on-owned n h _ (tsfn_at h f.0) o (λ x. function-owned n x.id (with_referenced true) h (λ i y here. keeps-plainly i y _ refl refl here) o)
answer-owned n h who g (call.UnrefThreadsafeFunction f) k gives o =
    on-owned n h _ (tsfn_at h f.0) o (λ x. function-owned n x.id (with_referenced false) h (λ i y here. keeps-plainly i y _ refl refl here) o)
answer-owned n h who g (call.GetThreadsafeFunctionContext f) k gives o = on-owned n h _ (tsfn_at h f.0) o (λ x. o)
answer-owned n h who g _ k gives o = tt

-- EACH STEP OF THE HUB
answered-owned : (n : ℕ) (h : Hub) (x : Entry) (may : Bool) (o : Option (Answer Hub)) → IsOwnedHub n h → AnswerOwned n o → IsOwnedHub n (answered_step h x may o).after
answered-owned n h x may None o k = o
answered-owned n h x may (Some a) o k = k

-- a shared call of the environment that hands over what is owned
pub given-owned : (n : ℕ) (h : Hub) (x : Entry) (c : Call) (g : Given) → (g.refused ≡ None → is_creating_call c ≡ true → GivesOwned n c g) → IsOwnedHub n h
    → IsOwnedHub n (given_step h x c (Some g)).after
given-owned n h x c g gives o = answered-owned n h x _ (answer_unless_given h g c (work_number x.reply.out) g.refused) o (by (work_number x.reply.out) g.refused refl)
  where
    by : (k : ℕ) (s : Option Status) → g.refused ≡ s → AnswerOwned n (answer_unless_given h g c k s)
    by k None is = answer-owned n h actor.Env g c k (gives is) o
    by k (Some s) is = o

-- no thread creates anything
thread-creates-none : (c : Call) → is_thread_call c ≡ true → is_creating_call c ≡ true → ⊥
thread-creates-none (call.CreateAsyncWork job entry payload) calls creates = cc
thread-creates-none (call.CreateThreadsafeFunction f entry maximum count finalizer context) calls creates = cc
thread-creates-none c calls creates = cc

thread_call-owned : (n : ℕ) (h : Hub) (t : ℕ) (x : Entry) (c : Call) (b : Bool) → is_thread_call c ≡ b → IsTrue (thread_call_step h t x c).may → IsOwnedHub n h
    → IsOwnedHub n (thread_call_step h t x c).after
thread_call-owned n h t x c true is may o =
    let y : Entry = record x { depth = 0; given = None } in
    answered-owned n h y (is_thread_there h t && is_thread_call c) (hub_answer h (actor.Thread t) nothing_given c 0) o
    (answer-owned n h (actor.Thread t) nothing_given c 0 (λ creates. absurd (thread-creates-none c is creates)) o)
thread_call-owned n h t x c false is may o =
    let y : Entry = record x { depth = 0; given = None } in
    let calls : is_thread_call c ≡ true =
    and-right (is_thread_there h t) (is_thread_call c) (answered-may h y (is_thread_there h t && is_thread_call c) (hub_answer h (actor.Thread t) nothing_given c 0) may) in
    let no : ⊥ = cc in
    absurd no

pub thread_event-owned : (n : ℕ) (h : Hub) (t : ℕ) (x : Entry) (event : HostStep) → IsOwnedHub n h → IsOwnedHub n (thread_event h t x event).after
thread_event-owned n h t x host.ActorEnd o = record { works = o.works; functions = o.functions }
thread_event-owned n h t x event o = o

thread-owned : (n : ℕ) (h : Hub) (t : ℕ) (x : Entry) (w : What) → IsTrue (thread_step h t x w).may → IsOwnedHub n h → IsOwnedHub n (thread_step h t x w).after
thread-owned n h t x (what.Call c) may o = thread_call-owned n h t x c (is_thread_call c) refl may o
thread-owned n h t x (what.Host event) may o = thread_event-owned n h t x event o

start-owned : (n : ℕ) (h : Hub) (w : ℕ) (x : Entry) (queued : List ℕ) → IsOwnedHub n h → IsOwnedHub n (start_step h w x queued).after
start-owned n h w x [] o = o
start-owned n h w x (k ∷ ks) o = record { works = started-owned n h.pool.queued w h.pool o.works; functions = o.functions }

end-owned : (n : ℕ) (h : Hub) (w : ℕ) (x : Entry) (k : Option ℕ) → IsOwnedHub n h → IsOwnedHub n (work_end_step h w x k).after
end-owned n h w x None o = o
end-owned n h w x (Some k) o = record { works = finished-owned n w (executed_by h.pool w) h.pool o.works; functions = o.functions }

pub worker-owned : (n : ℕ) (h : Hub) (w : ℕ) (x : Entry) (it : What) → IsOwnedHub n h → IsOwnedHub n (worker_step h w x it).after
worker-owned n h w x (what.Call c) o = o
worker-owned n h w x (what.Host host.Start) o = start-owned n h w x h.pool.queued o
worker-owned n h w x (what.Host host.Finish) o = end-owned n h w x (executed_by h.pool w) o
worker-owned n h w x (what.Host host.ActorEnd) o = record { works = o.works; functions = o.functions }
worker-owned n h w x (what.Host event) o = o

other-owned-of : (n : ℕ) (h : Hub) (x : Entry) (who : Actor) → is_environment who ≡ false → IsTrue (hub_step_of h x who).may → IsOwnedHub n h → IsOwnedHub n (hub_step_of h x who).after
other-owned-of n h x actor.Env other may o = cc
other-owned-of n h x (actor.Thread t) other may o = thread-owned n h t x x.what may o
other-owned-of n h x (actor.Worker w) other may o = worker-owned n h w x x.what o

-- an entry of a thread or a worker
pub others-owned : (n : ℕ) (h : Hub) (x : Entry) → is_environment x.actor ≡ false → IsTrue (hub_step h x).may → IsOwnedHub n h → IsOwnedHub n (hub_step h x).after
others-owned n h x other may o = other-owned-of n h x x.actor other may o

-- EVENTS
-- a duty leaves its place
left-owned : (n : ℕ) (d : Duty) (h : Hub) → IsOwnedHub n h → IsOwnedHub n (without_duty d h)
left-owned n (duty.Work k) h o = record { works = o.works; functions = o.functions }
left-owned n (duty.Item f k) h o = function-owned n f.0 first_taken h keeps-taken o
left-owned n (duty.Function f) h o = function-owned n f.0 done h (λ i y here. keeps-plainly i y _ refl refl here) o
left-owned n (duty.Ticket t) h o = o

begin-owned : (n : ℕ) (h : Hub) (x : Entry) (o : Option HubMove) → IsOwnedHub n h → IsOwnedHub n (begin_step h x o).after
begin-owned n h x (Some (Delivers d)) k = let l : IsOwnedHub n (without_duty d.duty h) = left-owned n d.duty h k in record { works = l.works; functions = l.functions }
begin-owned n h x _ k = k

close-owned : (n : ℕ) (h : Hub) (x : Entry) (o : Option HubMove) → IsOwnedHub n h → IsOwnedHub n (close_step h x o).after
close-owned n h x (Some (Closes m)) k = function-owned n m closed h (λ i y here. keeps-plainly i y _ refl refl here) k
close-owned n h x _ k = k

finish-owned : (n : ℕ) (h : Hub) (x : Entry) (o : Option HubMove) → IsOwnedHub n h → IsOwnedHub n (finish_step h x o).after
finish-owned n h x (Some (Finishes m)) k = function-owned n m finished h (λ i y here. keeps-plainly i y _ refl refl here) k
finish-owned n h x _ k = k

frame_end-owned : (n : ℕ) (h : Hub) (x : Entry) (d : Option DueInfo) → IsOwnedHub n h → IsOwnedHub n (frame_end_step h x d).after
frame_end-owned n h x None k = k
frame_end-owned n h x (Some d) k = record { works = k.works; functions = k.functions }

loop_end-owned : (n : ℕ) (h : Hub) (x : Entry) (o : Out) → IsOwnedHub n h → IsOwnedHub n (loop_end_step h x o).after
loop_end-owned n h x (out.Ended w) k = record { works = k.works; functions = k.functions }
loop_end-owned n h x o k = k

abandon-owned : (n : ℕ) (h : Hub) (x : Entry) (o : Out) → IsOwnedHub n h → IsOwnedHub n (abandon_step h x o).after
abandon-owned n h x (out.Unsigned k) owned = record { works = owned.works; functions = owned.functions }
abandon-owned n h x _ owned = owned

pub event-owned : (n : ℕ) (h : Hub) (x : Entry) (event : HostStep) → IsOwnedHub n h → IsOwnedHub n (environment_event h x event).after
event-owned n h x host.Go k = record { works = k.works; functions = k.functions }
event-owned n h x host.LoopEnd k = loop_end-owned n h x x.reply.out k
event-owned n h x host.Abandon k = abandon-owned n h x x.reply.out k
event-owned n h x host.Drain k =
    record { works = k.works; functions = All-map (IsOurFunction n) closed h.functions (All-weaker (IsOurFunction n) (λ f. IsOurFunction n (closed f)) (λ f here. keeps-plainly n f _ refl refl here) h.functions k.functions) }
event-owned n h x host.Finals k = record { works = k.works; functions = k.functions }
event-owned n h x host.Begin k = begin-owned n h x (hub_move h) k
event-owned n h x host.CloseTsfn k = close-owned n h x (hub_move h) k
event-owned n h x host.FinishTsfn k = finish-owned n h x (hub_move h) k
event-owned n h x host.End k = frame_end-owned n h x h.standing k
event-owned n h x event k = k

-- WHAT IS DELIVERED
-- the duty that begins next runs an addon that is there
abbrev pub MoveOwned : ℕ → Option HubMove → Type 0
MoveOwned n (Some (Delivers d)) = d.addon < n
MoveOwned n _ = Unit {0}

completion-owned : (n : ℕ) (o : Option Outcome) (p : WorkPool) → AreMade n p
    → MoveOwned n (option_map Delivers (option_and_then (λ k. option_map (λ w. completion_info w k) (work_numbered p k.work)) o))
completion-owned n None p all = tt
completion-owned n (Some k) p all = by p.works all
  where
    told : Option Work → Option HubMove
    told o = option_map Delivers (option_map (λ w. completion_info w k) o)

    at : (w : Work) (ws : List Work) (b : Bool) → Made n w → MoveOwned n (told (find (has_work_number k.work) ws)) → MoveOwned n (told (cond b (Some w) (find (has_work_number k.work) ws)))
    at w ws true here later = here
    at w ws false here later = later

    by : (ws : List Work) → All (Made n) ws → MoveOwned n (told (find (has_work_number k.work) ws))
    by [] all = tt
    by (w ∷ ws) all = at w ws (has_work_number k.work w) (All-head (Made n) w ws all) (by ws (All-tail (Made n) w ws all))

tsfn_move-owned : (n : ℕ) (f : FunctionState) (s : TsfnState) (items : List ℕ) → IsOurFunction n f → MoveOwned n (tsfn_move_in f s items)
tsfn_move-owned n f Open [] o = by (f.count == 0)
  where
    by : (b : Bool) → MoveOwned n (cond b (Some (Closes f.id)) None)
    by true = tt
    by false = tt
tsfn_move-owned n f Open (p ∷ ps) o = o.target
tsfn_move-owned n f Closing [] o = tt
tsfn_move-owned n f Closing (p ∷ ps) o = o.target
tsfn_move-owned n f Finished items o = o.creator
tsfn_move-owned n f Done items o = tt

either-owned : (n : ℕ) (a b : Option HubMove) → MoveOwned n a → MoveOwned n b → MoveOwned n (option_or a b)
either-owned n None b h k = k
either-owned n (Some m) b h k = h

first-owned : (n : ℕ) (fs : List FunctionState) → All (IsOurFunction n) fs → MoveOwned n (first_move fs)
first-owned n [] all = tt
first-owned n (f ∷ fs) all =
    either-owned n (tsfn_move_in f f.state f.items) (first_move fs) (tsfn_move-owned n f f.state f.items (All-head (IsOurFunction n) f fs all))
    (first-owned n fs (All-tail (IsOurFunction n) f fs all))

pub move-owned : (n : ℕ) (h : Hub) → IsOwnedHub n h → MoveOwned n (hub_move h)
move-owned n h o =
    either-owned n (option_map Delivers (first_completion h.pool)) (first_move h.functions) (completion-owned n (head h.pool.finished) h.pool o.works) (first-owned n h.functions o.functions)
