-- An accepted call that registers tells its duty, in every run.
use Rattle.std.proofs.Common.{◌≡◌, ◌∙◌, ℕ, Bool, true, false, not, ◌&&◌, IsTrue, refl, ap, sym, subst, Option, Some, None, is_some, option_map, IfSome}
use Rattle.std.specs.List.{All}
use Rattle.std.specs.Option.{option_or}
use Rattle.std.proofs.lemmas.List.Elements.{All-nil, All-cons}
use Rattle.napi_types.specs.declared.call.Call.{Call}
use Rattle.napi_types.specs.declared.call.Call.TheVariants as call
use Rattle.napi_types.specs.declared.call.Mode.{Mode}
use Rattle.napi_types.specs.declared.entry.Actor.{Actor}
use Rattle.napi_types.specs.declared.entry.Actor.TheVariants as actor
use Rattle.napi_types.specs.declared.entry.Entry.{Entry}
use Rattle.napi_types.specs.declared.entry.Given.{Given}
use Rattle.napi_types.specs.declared.entry.HostStep.{HostStep}
use Rattle.napi_types.specs.declared.entry.HostStep.TheVariants as host
use Rattle.napi_types.specs.declared.entry.What.{What}
use Rattle.napi_types.specs.declared.entry.What.TheVariants as what
use Rattle.napi_types.specs.declared.status.Status.{Status}
use Rattle.napi_types.specs.declared.status.Status.TheVariants as status
use Rattle.napi_types.specs.plain.DutyCalls.{makes_duty}
use Rattle.napi_types.specs.plain.Entries.{is_environment}
use Rattle.napi_types.specs.plain.Guards.{is_shared}
use Rattle.napi_types.specs.plain.Replies.{Answer}
use Rattle.napi_types.specs.plain.Room.{is_full}
use Rattle.napi_types.specs.parts.Functions.{FunctionState, call_status}
use Rattle.napi_types.specs.parts.Pool.{work_refusal}
use Rattle.napi_types.specs.parts.Works.{is_created}
use Rattle.napi_types.specs.environment.Calls.{answer_unless_deep}
use Rattle.napi_types.specs.environment.Changes.{issued_number, may_call, call_change}
use Rattle.napi_types.specs.environment.Ends.{end_change}
use Rattle.napi_types.specs.environment.Entering.{asked_change, enter_change}
use Rattle.napi_types.specs.environment.Environment.{Environment}
use Rattle.napi_types.specs.environment.Refusals.{refusal, refusal_before_depth, depth_refusal}
use Rattle.napi_types.specs.environment.SharedCalls.{given_of, shared_entry}
use Rattle.napi_types.specs.hub.GivenSteps.{answer_unless_given, work_number, fits_stage, is_fresh_work}
use Rattle.napi_types.specs.hub.Hub.{Hub}
use Rattle.napi_types.specs.hub.HubCalls.{call_answer, called_answer, tsfn_at, hub_answer, is_thread_call, unless_refused}
use Rattle.napi_types.specs.hub.HubStep.{answered_step}
use Rattle.napi_types.specs.hub.HubSteps.{hub_step, hub_step_of}
use Rattle.napi_types.specs.hub.ThreadSteps.{is_thread_there, thread_step, nothing_given}
use Rattle.napi_types.specs.hub.WorkerSteps.{worker_step}
use Rattle.napi_types.specs.runs.CallRoom.{room_of}
use Rattle.napi_types.specs.runs.Machine.{Machine}
use Rattle.napi_types.specs.runs.Setting.{opening_of}
use Rattle.napi_types.specs.runs.Step.{Step, event_step, end_step_on, has_room, step}
use Rattle.napi_types.specs.all_runs.AcceptedCalls.{TellsItsDuty, AcceptedCallsTellTheirDuty}
use Rattle.napi_types.proofs.plain.Conditions.{and-right}
use Rattle.napi_types.proofs.all_runs.AcceptedCancels.{called-what}
use Rattle.napi_types.proofs.environment.Cases.{asked-by}
use Rattle.napi_types.proofs.environment.MadeTickets.{unrefused-makes}
use Rattle.napi_types.proofs.hub.HubKeeps.{hub_step-what}
use Rattle.napi_types.proofs.hub.MadeDuties.{no-work-refusal, item-made}
use Rattle.napi_types.proofs.runs.Forms as form
use Rattle.napi_types.proofs.runs.Forms.{Form, form-of, ended-what, event_what, event-what}
use Rattle.napi_types.proofs.runs.Runs.{along-entries}
use Rattle.napi_types.proofs.all_runs.NoRefusals.{no-refusal-accepts}

-- what is no call tells none
event-tells : (x : Entry) (event : HostStep) → x.what ≡ what.Host event → TellsItsDuty x
event-tells x event is c called = let no : what.Host event ≡ what.Call c = sym is ∙ called in cc

-- CALLS OF THE ENVIRONMENT
refused-status : (e : Environment) (c : Call) (n : ℕ) (s : Status) (early deep : Option Status) → option_or early deep ≡ Some s
    → (answer_unless_deep e c n early deep).reply.status ≡ s
refused-status e c n s None None told = cc
refused-status e c n s (Some t) None told = cc
refused-status e c n s (Some t) (Some u) told = cc
refused-status e c n s None (Some t) told = cc

call-tells : (e : Environment) (c : Call) (n : ℕ) → is_shared c ≡ false → TellsItsDuty (call_change e c n).entry
call-tells e c n local d called makes ok = by (refusal e c) refl
  where
    same : c ≡ d
    same = called-what c d called

    by : (o : Option Status) → refusal e c ≡ o → is_some (call_change e c n).entry.reply.made ≡ true
    by None told = ap is_some (unrefused-makes e c n (ap makes_duty same ∙ makes) local told)
    by (Some s) told =
        let zero : s ≡ status.Ok = sym (refused-status e c n s (refusal_before_depth e c) (depth_refusal e.frames c) told) ∙ ok in
        absurd (no-refusal-accepts e c (told ∙ ap (λ t. Some t) zero))

asked-tells : (e : Environment) (c : Call) (n : ℕ) → is_shared c ≡ false → TellsItsDuty (asked_change e c n).entry
asked-tells e c n local = asked-by e c n (λ d. TellsItsDuty d.entry) (call-tells e c n local) (λ receiver f args accepted. event-tells (enter_change receiver f args e).entry host.Begin refl)

-- ANSWERS OF THE HUB
record Tells (a : Answer Hub) : Type 0 where
  pub so : a.reply.status ≡ status.Ok → is_some a.reply.made ≡ true

queued-tells : (h : Hub) (id : ℕ) (o : Option Status) (a : Answer Hub) → work_refusal is_created h.pool id ≡ o → is_some a.reply.made ≡ true → Tells (unless_refused h o a)
queued-tells h id None a is made = record { so = λ ok. made }
queued-tells h id (Some s) a is made = record { so = λ ok. absurd (no-work-refusal is_created h.pool id (is ∙ ap (λ t. Some t) ok)) }

item-tells : (h : Hub) (who : Actor) (payload : ℕ) (m : Mode) (o : Option FunctionState) → IfSome (call_answer h who payload m o) Tells
item-tells h who payload m None = record { so = λ ok. cc }
item-tells h who payload m (Some f) = by (call_status who m f)
  where
    by : (s : Option Status) → IfSome (option_map (called_answer h payload f) s) Tells
    by None = tt
    by (Some s) = record { so = λ ok. ap is_some (item-made s f ok) }

hub-tells : (h : Hub) (who : Actor) (g : Given) (c : Call) (n : ℕ) → makes_duty c ≡ true → IfSome (hub_answer h who g c n) Tells
hub-tells h who g (call.CreateAsyncWork job entry payload) n makes = cc
hub-tells h who g (call.DeleteAsyncWork w) n makes = cc
hub-tells h who g (call.CancelAsyncWork w) n makes = cc
hub-tells h who g (call.QueueAsyncWork w) n makes = queued-tells h w.0 (work_refusal is_created h.pool w.0) _ refl refl
hub-tells h who g (call.CreateThreadsafeFunction f entry maximum count None context) n makes = cc
hub-tells h who g (call.CreateThreadsafeFunction f entry maximum count (Some finalizer) context) n makes = record { so = λ ok. refl }
hub-tells h who g (call.CallThreadsafeFunction f payload m) n makes = item-tells h who payload m (tsfn_at h f.0)
hub-tells h who g (call.AcquireThreadsafeFunction f) n makes = cc
hub-tells h who g (call.ReleaseThreadsafeFunction f m) n makes = cc
hub-tells h who g (call.RefThreadsafeFunction f) n makes = cc
hub-tells h who g (call.UnrefThreadsafeFunction f) n makes = cc
hub-tells h who g (call.GetThreadsafeFunctionContext f) n makes = cc
hub-tells h who g _ n makes = tt

answered-tells : (h : Hub) (x : Entry) (may : Bool) (c : Call) (o : Option (Answer Hub)) → x.what ≡ what.Call c → (makes_duty c ≡ true → IfSome o Tells)
    → IsTrue (answered_step h x may o).may → TellsItsDuty (answered_step h x may o).entry
answered-tells h x may c None is tells comes d called makes ok = cc
answered-tells h x may c (Some a) is tells comes d called makes ok =
    (tells (ap makes_duty (called-what c d (sym is ∙ called)) ∙ makes)).so ok

given-tells : (h : Hub) (g : Given) (c : Call) (n : ℕ) (s : Option Status) → (s ≡ Some status.Ok → ⊥) → makes_duty c ≡ true → IfSome (answer_unless_given h g c n s) Tells
given-tells h g c n None never makes = hub-tells h actor.Env g c n makes
given-tells h g c n (Some s) never makes = record { so = λ ok. absurd (never (ap (λ t. Some t) ok)) }

-- EACH STEP
other-called : (h : Hub) (x : Entry) (c : Call) (who : Actor) → is_environment who ≡ false → x.what ≡ what.Call c → IsTrue (hub_step_of h x who).may
    → TellsItsDuty (hub_step_of h x who).entry
other-called h x c actor.Env other is may = cc
other-called h x c (actor.Thread t) other is may =
    subst (λ (v : What). IsTrue (thread_step h t x v).may → TellsItsDuty (thread_step h t x v).entry) (sym is)
    (answered-tells h (record x { depth = 0; given = None }) (is_thread_there h t && is_thread_call c) c (hub_answer h (actor.Thread t) nothing_given c 0) is
    (hub-tells h (actor.Thread t) nothing_given c 0)) may
other-called h x c (actor.Worker v) other is may = let no : IsTrue false = subst (λ (it : What). IsTrue (worker_step h v x it).may) is may in cc

other-tells : (h : Hub) (x : Entry) → is_environment x.actor ≡ false → IsTrue (hub_step h x).may → TellsItsDuty (hub_step h x).entry
other-tells h x other may = by x.what refl
  where
    by : (w : What) → x.what ≡ w → TellsItsDuty (hub_step h x).entry
    by (what.Call c) is = other-called h x c x.actor other is may
    by (what.Host event) is = event-tells (hub_step h x).entry event (hub_step-what h x ∙ is)

form-tells : (m : Machine) (t : Step) → Form m t → IsTrue t.may → TellsItsDuty t.entry
form-tells m _ (form.calls f fs stands c o local) may = asked-tells m.env c (issued_number o) local
form-tells m _ (form.shares f fs stands c o shared answers) may =
    let x : Entry = shared_entry m.env c o in
    answered-tells m.hub x (is_shared c && fits_stage m.hub.stage c (refusal m.env c) && is_fresh_work m.hub o) c
    (answer_unless_given m.hub (given_of m.env c) c (work_number x.reply.out) (refusal m.env c)) refl
    (given-tells m.hub (given_of m.env c) c (work_number x.reply.out) (refusal m.env c) (no-refusal-accepts m.env c))
    (and-right (may_call m.env && not (is_full (room_of m c) c)) (hub_step m.hub x).may may)
form-tells m _ (form.ends f fs stands v cut b ours is) may = event-tells (end_step_on ours m (end_change v cut m.env) b).entry host.End (ended-what m v cut b ours)
form-tells m _ (form.happens alone event next) may = event-tells (event_step m event).entry (event_what event) (event-what m event may)
form-tells m _ (form.others x other same) may = other-tells m.hub x other (and-right (has_room m x.what) (hub_step m.hub x).may may)

pub accepted-calls-tell : AcceptedCallsTellTheirDuty
accepted-calls-tell s bs xs run =
    along-entries (λ m bs xs. All TellsItsDuty xs) (λ m. All-nil TellsItsDuty)
    (λ m a bs x xs next rest. All-cons TellsItsDuty x xs (subst TellsItsDuty (sym next.0) (form-tells m (step m a x) (form-of m a x next) next.1)) rest) (opening_of s) bs xs run
