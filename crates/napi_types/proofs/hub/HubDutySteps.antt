-- What an entry of the hub makes, begins and starts, and what it leaves: one of these ways.
use Rattle.std.proofs.Common.{◌≡◌, ◌∙◌, ℕ, suc, ◌+◌, ◌≤◌, ◌==◌, Bool, true, false, cond, ◌&&◌, List, [], ◌∷◌, map, IsTrue, refl, ap, sym, subst, arith, Option, Some, None, is_none, IfSome, option_map, inl, inr}
use Rattle.std.specs.Option.{option_or, option_and_then}
use Rattle.napi_types.specs.declared.call.Call.{Call}
use Rattle.napi_types.specs.declared.call.Call.TheVariants as call
use Rattle.napi_types.specs.declared.call.Mode.{Mode}
use Rattle.napi_types.specs.declared.call.Release.{Release}
use Rattle.napi_types.specs.declared.duties.DueInfo.{DueInfo}
use Rattle.napi_types.specs.declared.entry.Actor.{Actor}
use Rattle.napi_types.specs.declared.entry.Actor.TheVariants as actor
use Rattle.napi_types.specs.declared.entry.Duty.{Duty}
use Rattle.napi_types.specs.declared.entry.Duty.TheVariants as duty
use Rattle.napi_types.specs.declared.entry.Entry.{Entry}
use Rattle.napi_types.specs.declared.entry.Given.{Given}
use Rattle.napi_types.specs.declared.entry.HostStep.{HostStep}
use Rattle.napi_types.specs.declared.entry.HostStep.TheVariants as host
use Rattle.napi_types.specs.declared.entry.Out.{Out}
use Rattle.napi_types.specs.declared.entry.Out.TheVariants as out
use Rattle.napi_types.specs.declared.entry.Target.{Target}
use Rattle.napi_types.specs.declared.entry.TsfnState.{TsfnState}
use Rattle.napi_types.specs.declared.entry.TsfnState.TheVariants.{Open, Closing, Finished, Done}
use Rattle.napi_types.specs.declared.entry.What.{What}
use Rattle.napi_types.specs.declared.entry.What.TheVariants as what
use Rattle.napi_types.specs.declared.status.Status.{Status}
use Rattle.napi_types.specs.declared.status.Status.TheVariants as status
use Rattle.napi_types.specs.plain.Entries.{begun_duty, started_duty}
use Rattle.napi_types.specs.plain.Lists.{found, has_number, head}
use Rattle.napi_types.specs.plain.Replies.{Answer}
use Rattle.napi_types.specs.parts.Functions.{FunctionState, call_status, called, acquire_status, acquired, release_status, released, with_referenced, closed, first_taken, finished, done, item_info, torn_info, function_info}
use Rattle.napi_types.specs.parts.Pool.{number_of_work, work_numbered, completion_info, first_completion, new_number, with_queued, cancelled_at, with_cancelled, with_started, with_finished, with_completed, drained, executed_by, work_refusal}
use Rattle.napi_types.specs.parts.Works.{Work, Outcome, is_created, is_queued, is_deletable}
use Rattle.napi_types.specs.hub.GivenSteps.{answer_unless_given, work_number, given_step}
use Rattle.napi_types.specs.hub.Hub.{Hub}
use Rattle.napi_types.specs.hub.HubCalls.{unless_refused, on_function, tsfn_at, item_made, call_answer, called_answer, finalizer_duty, new_function_number, with_function, hub_answer, is_thread_call}
use Rattle.napi_types.specs.hub.HubEvents.{environment_event, loop_end_step, begin_step, close_step, finish_step, frame_end_step, abandon_step}
use Rattle.napi_types.specs.hub.HubMoves.{HubMove, Delivers, Closes, Finishes, tsfn_move_in, tsfn_move, first_move, hub_move, in_pool, in_tsfn, with_delivered}
use Rattle.napi_types.specs.hub.HubStep.{HubStep, answered_step}
use Rattle.napi_types.specs.hub.HubSteps.{hub_step, hub_step_of, environment_step}
use Rattle.napi_types.specs.hub.ThreadSteps.{is_thread_there, nothing_given, thread_step, thread_event}
use Rattle.napi_types.specs.hub.WorkerSteps.{worker_step, worker_event, start_step, work_end_step}
use Rattle.napi_types.proofs.plain.Conditions.{and-right}
use Rattle.napi_types.proofs.plain.Found.{same-self, apart-below, found-number}
use Rattle.napi_types.proofs.hub.HubFunctions.{AreSoundFrom, function_changed_at}
use Rattle.napi_types.proofs.hub.HubRooms.{IsWork, not-refused, WorkWaits, queued-waits, WhatMoves, what-moves, move-of_function}

-- THE WAYS
-- nothing changes in which duties stand
pub record KeepsDuties (h n : Hub) : Type 0 where
  pub functions : n.functions ≡ h.functions
  pub numbered : n.pool.numbered ≡ h.pool.numbered
  pub queued : n.pool.queued ≡ h.pool.queued
  pub executions : n.pool.executions ≡ h.pool.executions
  pub finished : n.pool.finished ≡ h.pool.finished

-- how a function changes, and which duty is made or begins with that
pub data ChangesFunction (f : FunctionState) : (FunctionState → FunctionState) → Option Duty → Option Duty → Type 0 where
  calls : (payload : ℕ) (s : Status) → ChangesFunction f (called (Some s) payload) (item_made s f) None
  acquires : (s : Status) → ChangesFunction f (acquired s) None None
  releases : (s : Status) (m : Release) → ChangesFunction f (released s m) None None
  refers : (b : Bool) → ChangesFunction f (with_referenced b) None None
  closes : ChangesFunction f closed None None
  finishes : f.state ≡ Closing → ChangesFunction f finished None None
  delivers : (payload : ℕ) (later : List ℕ) → f.items ≡ payload ∷ later → ChangesFunction f first_taken None (Some (duty.Item (record { 0 = f.id }) (f.taken + 1)))
  owes : f.state ≡ Finished → ChangesFunction f done None (Some (duty.Function (record { 0 = f.id })))

-- the duty that is made, the one whose frame begins, the one whose work starts, the status, and the hub after it
pub data HubDutyStep (h : Hub) : Option Duty → Option Duty → Option Duty → Status → Hub → Type 0 where
  keeps : (s : Status) (n : Hub) → KeepsDuties h n → HubDutyStep h None None None s n
  queues : (s : Status) (id : ℕ) → HubDutyStep h (Some (duty.Work (new_number h.pool))) None None s (in_pool (with_queued id) h)
  cancels : (s : Status) (k : ℕ) (n : Hub) → has_number k h.pool.queued ≡ true → n ≡ in_pool (cancelled_at (Some k)) h → HubDutyStep h None None None s n
  starts : (s : Status) (w k : ℕ) (later : List ℕ) → h.pool.queued ≡ k ∷ later → is_none (executed_by h.pool w) ≡ true
      → HubDutyStep h None None (Some (duty.Work k)) s (in_pool (with_started w) h)
  works : (s : Status) (w k : ℕ) → executed_by h.pool w ≡ Some k → HubDutyStep h None None None s (in_pool (with_finished w) h)
  drains : (s : Status) (n : Hub) → n.pool ≡ drained h.pool → n.functions ≡ map closed h.functions → HubDutyStep h None None None s n
  creates : (s : Status) (addon : ℕ) (target : Target) (maximum count : ℕ) (finalizer : Option ℕ) (context : ℕ)
      → HubDutyStep h (finalizer_duty (new_function_number h) finalizer) None None s (with_function addon target maximum count finalizer context h)
  changes : (s : Status) (f : FunctionState) (change : FunctionState → FunctionState) (made begun : Option Duty) (n : Hub) → tsfn_at h f.id ≡ Some f
      → ChangesFunction f change made begun → n.pool ≡ h.pool → n.functions ≡ function_changed_at f.id change h.functions → HubDutyStep h made begun None s n
  completes : (o : Outcome) (os : List Outcome) (n : Hub) → h.pool.finished ≡ o ∷ os → n.pool ≡ with_completed h.pool → n.functions ≡ h.functions
      → HubDutyStep h None (Some (duty.Work o.work)) None o.status n

same-duties : (h : Hub) → KeepsDuties h h
same-duties h = record { functions = refl; numbered = refl; queued = refl; executions = refl; finished = refl }

-- that of an entry
abbrev pub EntryHubDuties : Hub → Entry → Hub → Type 0
EntryHubDuties h x n = HubDutyStep h x.reply.made (begun_duty x.what x.reply.out) (started_duty x.what x.reply.out) x.reply.status n

abbrev StepDuties : Hub → HubStep → Type 0
StepDuties h s = IsTrue s.may → EntryHubDuties h s.entry s.after

-- CALLS
abbrev AnswerDuties : Hub → Option (Answer Hub) → Type 0
AnswerDuties h o = IfSome o (λ a. HubDutyStep h a.reply.made None None a.reply.status a.after)

answered-duties : (h : Hub) (x : Entry) (c : Call) (may : Bool) (o : Option (Answer Hub)) → x.what ≡ what.Call c → AnswerDuties h o
    → StepDuties h (answered_step h x may o)
answered-duties h x c may None is k ok = cc
answered-duties h x c may (Some a) is k ok =
    subst (λ w. HubDutyStep h a.reply.made (begun_duty w a.reply.out) (started_duty w a.reply.out) a.reply.status a.after) (sym is) k

unless-duties : (h : Hub) (s refusal : Option Status) (a : Answer Hub) → refusal ≡ s
    → (refusal ≡ None → HubDutyStep h a.reply.made None None a.reply.status a.after)
    → (let b : Answer Hub = unless_refused h s a in HubDutyStep h b.reply.made None None b.reply.status b.after)
unless-duties h None refusal a same k = k same
unless-duties h (Some s) refusal a same k = keeps s h (same-duties h)

-- of the function that is there
found-there : (h : Hub) (n : ℕ) (f : FunctionState) → tsfn_at h n ≡ Some f → tsfn_at h f.id ≡ Some f
found-there h n f there = ap (tsfn_at h) (found-number (λ (g : FunctionState). g.id) n h.functions f there) ∙ there

on-duties : (h : Hub) (n : ℕ) (answer : FunctionState → Answer Hub) (o : Option FunctionState) → tsfn_at h n ≡ o
    → ((f : FunctionState) → tsfn_at h f.id ≡ Some f → HubDutyStep h (answer f).reply.made None None (answer f).reply.status (answer f).after)
    → (let b : Answer Hub = on_function h answer o in HubDutyStep h b.reply.made None None b.reply.status b.after)
on-duties h n answer None there k = keeps status.InvalidArg h (same-duties h)
on-duties h n answer (Some f) there k = k f (found-there h n f there)

changed : (h : Hub) (s : Status) (f : FunctionState) (change : FunctionState → FunctionState) (made begun : Option Duty) → tsfn_at h f.id ≡ Some f
    → ChangesFunction f change made begun → HubDutyStep h made begun None s (in_tsfn f.id change h)
changed h s f change made begun there how = changes s f change made begun (in_tsfn f.id change h) there how refl refl

called-duties : (h : Hub) (n : ℕ) (payload : ℕ) (m : Mode) (who : Actor) (o : Option FunctionState) → tsfn_at h n ≡ o
    → AnswerDuties h (call_answer h who payload m o)
called-duties h n payload m who None there = keeps status.InvalidArg h (same-duties h)
called-duties h n payload m who (Some f) there = by (call_status who m f)
  where
    by : (s : Option Status) → AnswerDuties h (option_map (called_answer h payload f) s)
    by None = tt
    by (Some s) = changed h s f (called (Some s) payload) (item_made s f) None (found-there h n f there) (calls payload s)

cancelled-duties : (h : Hub) (id : ℕ) → work_refusal is_queued h.pool id ≡ None → HubDutyStep h None None None status.Ok (in_pool (with_cancelled id) h)
cancelled-duties h id none =
    let w : IsWork is_queued h.pool id = not-refused is_queued h.pool id none in
    let k : WorkWaits h.pool w.work = queued-waits h.pool w.work w.state in
    let number : number_of_work h.pool id ≡ Some k.number = ap (λ o. option_and_then (λ (v : Work). v.number) o) w.there ∙ k.is in
    cancels status.Ok k.number (in_pool (with_cancelled id) h) k.waits (ap (λ o. in_pool (cancelled_at o) h) number)

answer-duties : (h : Hub) (who : Actor) (g : Given) (c : Call) (n : ℕ) → AnswerDuties h (hub_answer h who g c n)
answer-duties h who g (call.CreateAsyncWork job entry payload) n =
    keeps status.Ok _ (record { functions = refl; numbered = refl; queued = refl; executions = refl; finished = refl })
answer-duties h who g (call.DeleteAsyncWork w) n =
    unless-duties h (work_refusal is_deletable h.pool w.0) _ _ refl
    (λ none. keeps status.Ok _ (record { functions = refl; numbered = refl; queued = refl; executions = refl; finished = refl }))
answer-duties h who g (call.CancelAsyncWork w) n = unless-duties h (work_refusal is_queued h.pool w.0) _ _ refl (λ none. cancelled-duties h w.0 none)
answer-duties h who g (call.QueueAsyncWork w) n = unless-duties h (work_refusal is_created h.pool w.0) _ _ refl (λ none. queues status.Ok w.0)
answer-duties h who g (call.CreateThreadsafeFunction f entry maximum count finalizer context) n = creates status.Ok g.addon _ maximum count finalizer context
answer-duties h who g (call.CallThreadsafeFunction f payload m) n = called-duties h f.0 payload m who (tsfn_at h f.0) refl
answer-duties h who g (call.AcquireThreadsafeFunction f) n =
    on-duties h f.0 _ (tsfn_at h f.0) refl (λ x there. changed h (acquire_status x) x _ None None there (acquires (acquire_status x)))
answer-duties h who g (call.ReleaseThreadsafeFunction f m) n =
    on-duties h f.0 _ (tsfn_at h f.0) refl (λ x there. changed h (release_status x) x _ None None there (releases (release_status x) m))
answer-duties h who g (call.RefThreadsafeFunction f) n =
    on-duties h f.0 _ (tsfn_at h f.0) refl (λ x there. changed h status.Ok x _ None None there (refers true))
answer-duties h who g (call.UnrefThreadsafeFunction f) n =
    on-duties h f.0 _ (tsfn_at h f.0) refl (λ x there. changed h status.Ok x _ None None there (refers false))
answer-duties h who g (call.GetThreadsafeFunctionContext f) n = on-duties h f.0 _ (tsfn_at h f.0) refl (λ x there. keeps status.Ok h (same-duties h))
answer-duties h who g _ n = tt

given-duties : (h : Hub) (x : Entry) (c : Call) (g : Option Given) → x.what ≡ what.Call c → StepDuties h (given_step h x c g)
given-duties h x c None is = λ ok. cc
given-duties h x c (Some g) is =
    answered-duties h x c _ (answer_unless_given h g c (work_number x.reply.out) g.refused) is (by (work_number x.reply.out) g.refused)
  where
    by : (n : ℕ) (s : Option Status) → AnswerDuties h (answer_unless_given h g c n s)
    by n None = answer-duties h actor.Env g c n
    by n (Some s) = keeps s h (same-duties h)

-- MOVES
-- the function whose move it is
record MoveOf (k : ℕ) (fs : List FunctionState) (move : HubMove) : Type 0 where
  pub function : FunctionState
  pub above : k ≤ function.id
  pub there : found (λ (f : FunctionState). f.id) function.id fs ≡ Some function
  pub moves : tsfn_move function ≡ Some move

move-of : (late : Bool) (k : ℕ) (fs : List FunctionState) (move : HubMove) → AreSoundFrom late k fs → first_move fs ≡ Some move → MoveOf k fs move
move-of late k [] move sound next = let no : ⊥ = cc in absurd no
move-of late k (f ∷ fs) move sound next = by (tsfn_move f) refl next (move-of late (suc k) fs move sound.2)
  where
    by : (o : Option HubMove) → tsfn_move f ≡ o → option_or o (first_move fs) ≡ Some move → (first_move fs ≡ Some move → MoveOf (suc k) fs move)
        → MoveOf k (f ∷ fs) move
    by (Some this) is next rest =
        let same : this ≡ move = cc in
        record {
          function = f;
          above = omega (arith, sound.0);
          there = ap (λ b. cond b (Some f) (found (λ (g : FunctionState). g.id) f.id fs)) (same-self f.id);
          moves = is ∙ ap Some same;
        }
    by None is next rest =
        let later : MoveOf (suc k) fs move = rest next in
        record {
          function = later.function;
          above = omega (arith, later.above);
          there = ap (λ b. cond b (Some f) (found (λ (g : FunctionState). g.id) later.function.id fs)) (apart-below f.id later.function.id (omega (arith, sound.0, later.above))) ∙ later.there;
          moves = later.moves;
        }

abbrev MoveDuties : Hub → HubMove → Type 0
MoveDuties h (Delivers d) = HubDutyStep h None (Some d.duty) None d.status (with_delivered d h)
MoveDuties h (Closes n) = HubDutyStep h None None None status.Ok (in_tsfn n closed h)
MoveDuties h (Finishes n) = HubDutyStep h None None None status.Ok (in_tsfn n finished h)

function-duties : (h : Hub) (f : FunctionState) (s : TsfnState) (items : List ℕ) → tsfn_at h f.id ≡ Some f → f.state ≡ s → f.items ≡ items
    → IfSome (tsfn_move_in f s items) (MoveDuties h)
function-duties h f Open [] there is items = by (f.count == 0)
  where
    by : (b : Bool) → IfSome (cond b (Some (Closes f.id)) None) (MoveDuties h)
    by true = changed h status.Ok f closed None None there closes
    by false = tt
function-duties h f Open (payload ∷ later) there is items =
    changes status.Ok f first_taken None _ (with_delivered (item_info f payload) h) there (delivers payload later items) refl refl
function-duties h f Closing [] there is items = changed h status.Ok f finished None None there (finishes is)
function-duties h f Closing (payload ∷ later) there is items =
    changes status.Ok f first_taken None _ (with_delivered (torn_info f payload) h) there (delivers payload later items) refl refl
function-duties h f Finished items there is same = changes status.Ok f done None _ (with_delivered (function_info f) h) there (owes is) refl refl
function-duties h f Done items there is same = tt

moved-duties : (late : Bool) (h : Hub) (move : HubMove) → AreSoundFrom late 1 h.functions → first_move h.functions ≡ Some move → MoveDuties h move
moved-duties late h move sound next =
    let k : MoveOf 1 h.functions move = move-of late 1 h.functions move sound next in
    subst (λ o. IfSome o (MoveDuties h)) k.moves (function-duties h k.function k.function.state k.function.items k.there refl refl)

completion-duties : (h : Hub) (d : DueInfo) (os : List Outcome) → h.pool.finished ≡ os
    → option_and_then (λ (o : Outcome). option_map (λ w. completion_info w o) (work_numbered h.pool o.work)) (head os) ≡ Some d → MoveDuties h (Delivers d)
completion-duties h d [] is first = let no : ⊥ = cc in absurd no
completion-duties h d (o ∷ os) is first = by (work_numbered h.pool o.work) first
  where
    by : (w : Option Work) → option_map (λ v. completion_info v o) w ≡ Some d → MoveDuties h (Delivers d)
    by None first = let no : ⊥ = cc in absurd no
    by (Some w) first =
        let same : completion_info w o ≡ d = cc in
        subst (λ (e : DueInfo). MoveDuties h (Delivers e)) same (completes o os (with_delivered (completion_info w o) h) is refl refl)

delivered-duties : (late : Bool) (h : Hub) (d : DueInfo) → AreSoundFrom late 1 h.functions → hub_move h ≡ Some (Delivers d) → MoveDuties h (Delivers d)
delivered-duties late h d sound next = by (what-moves h d next)
  where
    by : WhatMoves h d → MoveDuties h (Delivers d)
    by (inl first) = completion-duties h d h.pool.finished refl first
    by (inr first) = moved-duties late h (Delivers d) sound first

-- EVENTS OF THE ENVIRONMENT
loop_end-duties : (h : Hub) (x : Entry) (o : Out) → StepDuties h (loop_end_step h x o)
loop_end-duties h x (out.Ended w) ok = keeps status.Ok _ (record { functions = refl; numbered = refl; queued = refl; executions = refl; finished = refl })
loop_end-duties h x _ ok = cc

begin-duties : (late : Bool) (h : Hub) (x : Entry) (o : Option HubMove) → AreSoundFrom late 1 h.functions → hub_move h ≡ o → StepDuties h (begin_step h x o)
begin-duties late h x (Some (Delivers d)) sound next ok = delivered-duties late h d sound next
begin-duties late h x None sound next ok = cc
begin-duties late h x (Some (Closes n)) sound next ok = cc
begin-duties late h x (Some (Finishes n)) sound next ok = cc

close-duties : (late : Bool) (h : Hub) (x : Entry) (o : Option HubMove) → AreSoundFrom late 1 h.functions → hub_move h ≡ o → StepDuties h (close_step h x o)
close-duties late h x (Some (Closes n)) sound next ok =
    moved-duties late h (Closes n) sound (move-of_function h (first_completion h.pool) (Closes n) refl next (λ d first is. cc))
close-duties late h x None sound next ok = cc
close-duties late h x (Some (Delivers d)) sound next ok = cc
close-duties late h x (Some (Finishes n)) sound next ok = cc

finish-duties : (late : Bool) (h : Hub) (x : Entry) (o : Option HubMove) → AreSoundFrom late 1 h.functions → hub_move h ≡ o → StepDuties h (finish_step h x o)
finish-duties late h x (Some (Finishes n)) sound next ok =
    moved-duties late h (Finishes n) sound (move-of_function h (first_completion h.pool) (Finishes n) refl next (λ d first is. cc))
finish-duties late h x None sound next ok = cc
finish-duties late h x (Some (Delivers d)) sound next ok = cc
finish-duties late h x (Some (Closes n)) sound next ok = cc

frame_end-duties : (h : Hub) (x : Entry) (o : Option DueInfo) → StepDuties h (frame_end_step h x o)
frame_end-duties h x None ok = cc
frame_end-duties h x (Some d) ok = keeps status.Ok _ (record { functions = refl; numbered = refl; queued = refl; executions = refl; finished = refl })

abandon-duties : (h : Hub) (x : Entry) (o : Out) → StepDuties h (abandon_step h x o)
abandon-duties h x (out.Unsigned n) ok = keeps status.Ok _ (record { functions = refl; numbered = refl; queued = refl; executions = refl; finished = refl })
abandon-duties h x _ ok = cc

event-duties : (late : Bool) (h : Hub) (x : Entry) (event : HostStep) → AreSoundFrom late 1 h.functions → StepDuties h (environment_event h x event)
event-duties late h x host.Go sound ok = keeps status.Ok _ (record { functions = refl; numbered = refl; queued = refl; executions = refl; finished = refl })
event-duties late h x host.LoopEnd sound ok = loop_end-duties h x x.reply.out ok
event-duties late h x host.Abandon sound ok = abandon-duties h x x.reply.out ok
event-duties late h x host.Drain sound ok = drains status.Ok _ refl refl
event-duties late h x host.Finals sound ok = keeps status.Ok _ (record { functions = refl; numbered = refl; queued = refl; executions = refl; finished = refl })
event-duties late h x host.Begin sound ok = begin-duties late h x (hub_move h) sound refl ok
event-duties late h x host.CloseTsfn sound ok = close-duties late h x (hub_move h) sound refl ok
event-duties late h x host.FinishTsfn sound ok = finish-duties late h x (hub_move h) sound refl ok
event-duties late h x host.End sound ok = frame_end-duties h x h.standing ok
event-duties late h x _ sound ok = cc

environment-duties : (late : Bool) (h : Hub) (x : Entry) (w : What) → AreSoundFrom late 1 h.functions → x.what ≡ w → StepDuties h (environment_step h x w)
environment-duties late h x (what.Call c) sound is = given-duties h x c x.given is
environment-duties late h x (what.Host event) sound is = event-duties late h x event sound

-- EVENTS OF OTHERS
thread_event-duties : (h : Hub) (t : ℕ) (x : Entry) (event : HostStep) → StepDuties h (thread_event h t x event)
thread_event-duties h t x host.ActorEnd ok = keeps status.Ok _ (record { functions = refl; numbered = refl; queued = refl; executions = refl; finished = refl })
thread_event-duties h t x _ ok = cc

thread-duties : (h : Hub) (t : ℕ) (x : Entry) (w : What) → x.what ≡ w → StepDuties h (thread_step h t x w)
thread-duties h t x (what.Call c) is =
    answered-duties h (record x { depth = 0; given = None }) c (is_thread_there h t && is_thread_call c) (hub_answer h (actor.Thread t) nothing_given c 0) is
    (answer-duties h (actor.Thread t) nothing_given c 0)
thread-duties h t x (what.Host event) is = thread_event-duties h t x event

start-duties : (h : Hub) (w : ℕ) (x : Entry) (queued : List ℕ) → h.pool.queued ≡ queued → StepDuties h (start_step h w x queued)
start-duties h w x [] waits ok = cc
start-duties h w x (n ∷ later) waits ok = starts status.Ok w n later waits (and-right _ (is_none (executed_by h.pool w)) ok)

work_end-duties : (h : Hub) (w : ℕ) (x : Entry) (o : Option ℕ) → executed_by h.pool w ≡ o → StepDuties h (work_end_step h w x o)
work_end-duties h w x None runs ok = cc
work_end-duties h w x (Some n) runs ok = works status.Ok w n runs

worker_event-duties : (h : Hub) (w : ℕ) (x : Entry) (event : HostStep) → StepDuties h (worker_event h w x event)
worker_event-duties h w x host.Start ok = start-duties h w x h.pool.queued refl ok
worker_event-duties h w x host.Finish ok = work_end-duties h w x (executed_by h.pool w) refl ok
worker_event-duties h w x host.ActorEnd ok = keeps status.Ok _ (record { functions = refl; numbered = refl; queued = refl; executions = refl; finished = refl })
worker_event-duties h w x _ ok = cc

worker-duties : (h : Hub) (w : ℕ) (x : Entry) (it : What) → StepDuties h (worker_step h w x it)
worker-duties h w x (what.Call c) ok = cc
worker-duties h w x (what.Host event) ok = worker_event-duties h w x event ok

-- EACH ENTRY
pub hub-duties : (late : Bool) (h : Hub) (x : Entry) → AreSoundFrom late 1 h.functions → IsTrue (hub_step h x).may
    → EntryHubDuties h (hub_step h x).entry (hub_step h x).after
hub-duties late h x sound = by x.actor
  where
    by : (who : Actor) → StepDuties h (hub_step_of h x who)
    by actor.Env = environment-duties late h x x.what sound refl
    by (actor.Thread t) = thread-duties h t x x.what refl
    by (actor.Worker w) = worker-duties h w x x.what
