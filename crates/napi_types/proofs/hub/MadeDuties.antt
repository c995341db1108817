-- The hub's answer to a call makes the call's duty where it accepts it.
use Rattle.std.proofs.Common.{◌≡◌, ◌≢◌, ◌∙◌, ℕ, ◌+◌, Bool, true, false, refl, ap, subst, Option, Some, None, option_map, IfSome}
use Rattle.napi_types.specs.declared.call.Call.{Call}
use Rattle.napi_types.specs.declared.call.Call.TheVariants as call
use Rattle.napi_types.specs.declared.call.Mode.{Mode}
use Rattle.napi_types.specs.declared.entry.Actor.{Actor}
use Rattle.napi_types.specs.declared.entry.Duty.{Duty}
use Rattle.napi_types.specs.declared.entry.Duty.TheVariants as duty
use Rattle.napi_types.specs.declared.entry.Given.{Given}
use Rattle.napi_types.specs.declared.status.Status.{Status}
use Rattle.napi_types.specs.declared.status.Status.TheVariants as status
use Rattle.napi_types.specs.plain.Lists.{unless}
use Rattle.napi_types.specs.plain.Replies.{Answer, refuses}
use Rattle.napi_types.specs.parts.Functions.{FunctionState, call_status, accepted_items}
use Rattle.napi_types.specs.parts.Pool.{WorkPool, work_at, work_refusal, state_refusal, work_state}
use Rattle.napi_types.specs.parts.Works.{Work, WorkState, is_deletable, is_queued, is_created}
use Rattle.napi_types.specs.hub.Hub.{Hub}
use Rattle.napi_types.specs.hub.HubCalls.{unless_refused, on_function, tsfn_at, called_answer, item_made, hub_answer, call_answer}
use Rattle.napi_types.specs.hub.MadeDuties.{MakesAsAnswered, duty_of_call, AnswersMakeTheirDuty, NoWorkRefusalAccepts}

-- REFUSALS
unless-other : (b : Bool) → unless b status.GenericFailure ≢ Some status.Ok
unless-other true = λ same. cc
unless-other false = λ same. cc

state-other : (test : WorkState → Bool) (p : WorkPool) (o : Option Work) → state_refusal test p o ≢ Some status.Ok
state-other test p None = λ same. cc
state-other test p (Some w) = unless-other (test (work_state p w))

pub no-work-refusal : NoWorkRefusalAccepts
no-work-refusal test p id = state-other test p (work_at p id)

-- ANSWERS
-- one that makes none
makes-none : (h : Hub) (c : Call) (a : Answer Hub) → a.reply.made ≡ None → (a.reply.status ≡ status.Ok → None ≡ duty_of_call h c) → MakesAsAnswered h c a
makes-none h c a none same = record { accepted = λ ok. none ∙ same ok; refused = λ not. none }

-- one that is accepted
makes-it : (h : Hub) (c : Call) (a : Answer Hub) → a.reply.status ≡ status.Ok → a.reply.made ≡ duty_of_call h c → MakesAsAnswered h c a
makes-it h c a ok made = record { accepted = λ z. made; refused = λ not. absurd (not ok) }

-- of works
unless-makes : (h : Hub) (c : Call) (test : WorkState → Bool) (id : ℕ) (o : Option Status) (a : Answer Hub) → work_refusal test h.pool id ≡ o → MakesAsAnswered h c a
    → MakesAsAnswered h c (unless_refused h o a)
unless-makes h c test id None a is makes = makes
unless-makes h c test id (Some s) a is makes =
    makes-none h c (refuses s h) refl (λ ok. absurd (no-work-refusal test h.pool id (is ∙ ap (λ t. Some t) ok)))

-- of functions
function-makes : (h : Hub) (c : Call) (answer : FunctionState → Answer Hub) (o : Option FunctionState) → ((f : FunctionState) → MakesAsAnswered h c (answer f))
    → MakesAsAnswered h c (on_function h answer o)
function-makes h c answer None makes = makes-none h c (refuses status.InvalidArg h) refl (λ ok. cc)
function-makes h c answer (Some f) makes = makes f

pub item-made : (s : Status) (f : FunctionState) → s ≡ status.Ok → item_made s f ≡ Some (duty.Item (record { 0 = f.id }) (accepted_items f + 1))
item-made s f ok = ap (λ t. item_made t f) ok

no-item : (s : Status) (f : FunctionState) → s ≢ status.Ok → item_made s f ≡ None
no-item status.Ok f not = absurd (not refl)
no-item _ f not = refl

called-makes : (h : Hub) (who : Actor) (k payload : ℕ) (m : Mode) (o : Option FunctionState) (d : Option Duty)
    → option_map (λ (g : FunctionState). duty.Item (record { 0 = g.id }) (accepted_items g + 1)) o ≡ d
    → IfSome (call_answer h who payload m o) (λ a. (a.reply.status ≡ status.Ok → a.reply.made ≡ d) × (a.reply.status ≢ status.Ok → a.reply.made ≡ None))
called-makes h who k payload m None d same = ((λ ok. cc), (λ not. refl))
called-makes h who k payload m (Some f) d same = by (call_status who m f)
  where
    by : (s : Option Status) → IfSome (option_map (called_answer h payload f) s) (λ a. (a.reply.status ≡ status.Ok → a.reply.made ≡ d) × (a.reply.status ≢ status.Ok → a.reply.made ≡ None))
    by None = tt
    by (Some s) = ((λ ok. item-made s f ok ∙ same), (λ not. no-item s f not))

pub answers-make : (h : Hub) (who : Actor) (g : Given) (c : Call) (n : ℕ) → IfSome (hub_answer h who g c n) (MakesAsAnswered h c)
answers-make h who g (call.CreateAsyncWork job entry payload) n = makes-it h (call.CreateAsyncWork job entry payload) _ refl refl
answers-make h who g (call.DeleteAsyncWork w) n =
    unless-makes h (call.DeleteAsyncWork w) is_deletable w.0 (work_refusal is_deletable h.pool w.0) _ refl (makes-it h (call.DeleteAsyncWork w) _ refl refl)
answers-make h who g (call.CancelAsyncWork w) n =
    unless-makes h (call.CancelAsyncWork w) is_queued w.0 (work_refusal is_queued h.pool w.0) _ refl (makes-it h (call.CancelAsyncWork w) _ refl refl)
answers-make h who g (call.QueueAsyncWork w) n =
    unless-makes h (call.QueueAsyncWork w) is_created w.0 (work_refusal is_created h.pool w.0) _ refl (makes-it h (call.QueueAsyncWork w) _ refl refl)
answers-make h who g (call.CreateThreadsafeFunction f entry maximum count finalizer context) n =
    makes-it h (call.CreateThreadsafeFunction f entry maximum count finalizer context) _ refl refl
answers-make h who g (call.CallThreadsafeFunction f payload m) n =
    by (call_answer h who payload m (tsfn_at h f.0))
    (called-makes h who f.0 payload m (tsfn_at h f.0) (duty_of_call h (call.CallThreadsafeFunction f payload m)) refl)
  where
    by : (o : Option (Answer Hub))
        → IfSome o (λ a. (a.reply.status ≡ status.Ok → a.reply.made ≡ duty_of_call h (call.CallThreadsafeFunction f payload m)) × (a.reply.status ≢ status.Ok → a.reply.made ≡ None))
        → IfSome o (MakesAsAnswered h (call.CallThreadsafeFunction f payload m))
    by None tells = tt
    by (Some a) tells = record { accepted = tells.0; refused = tells.1 }
answers-make h who g (call.AcquireThreadsafeFunction f) n =
    function-makes h (call.AcquireThreadsafeFunction f) _ (tsfn_at h f.0) (λ x. makes-none h (call.AcquireThreadsafeFunction f) _ refl (λ ok. refl))
answers-make h who g (call.ReleaseThreadsafeFunction f m) n =
    function-makes h (call.ReleaseThreadsafeFunction f m) _ (tsfn_at h f.0) (λ x. makes-none h (call.ReleaseThreadsafeFunction f m) _ refl (λ ok. refl))
answers-make h who g (call.RefThreadsafeFunction f) n =
    function-makes h (call.RefThreadsafeFunction f) _ (tsfn_at h f.0) (λ x. makes-none h (call.RefThreadsafeFunction f) _ refl (λ ok. refl))
answers-make h who g (call.UnrefThreadsafeFunction f) n =
    function-makes h (call.UnrefThreadsafeFunction f) _ (tsfn_at h f.0) (λ x. makes-none h (call.UnrefThreadsafeFunction f) _ refl (λ ok. refl))
answers-make h who g (call.GetThreadsafeFunctionContext f) n =
    function-makes h (call.GetThreadsafeFunctionContext f) _ (tsfn_at h f.0) (λ x. makes-none h (call.GetThreadsafeFunctionContext f) _ refl (λ ok. refl))
answers-make h who g _ n = tt

pub answers-make-their-duty : AnswersMakeTheirDuty
answers-make-their-duty h who g c n a told = subst (λ o. IfSome o (MakesAsAnswered h c)) told (answers-make h who g c n)
