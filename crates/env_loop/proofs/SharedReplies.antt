-- What the hub replies to a call that was handed over, and the step of its entry.
use Rattle.std.proofs.Common.{◌≡◌, ◌&&◌, not, ℕ, Bool, true, false, IsTrue, List, ◌∷◌, refl, ap, sym, ◌∙◌, Option, Some, None, IfSome, option_map}
use Rattle.napi_types.specs.declared.call.Ask.TheVariants as ask
use Rattle.napi_types.specs.declared.call.Call.{Call}
use Rattle.napi_types.specs.declared.call.Call.TheVariants as call
use Rattle.napi_types.specs.declared.call.Mode.{Mode}
use Rattle.napi_types.specs.declared.entry.Actor.TheVariants as actor
use Rattle.napi_types.specs.declared.entry.Entry.{Entry}
use Rattle.napi_types.specs.declared.entry.Given.{Given}
use Rattle.napi_types.specs.declared.entry.Out.{Out}
use Rattle.napi_types.specs.declared.entry.Reply.{Reply}
use Rattle.napi_types.specs.declared.entry.SharedCall.{SharedCall}
use Rattle.napi_types.specs.declared.status.Status.{Status}
use Rattle.napi_types.specs.declared.status.Status.TheVariants as status
use Rattle.napi_types.specs.plain.Entries.{cut_of}
use Rattle.napi_types.specs.plain.Guards.{is_shared}
use Rattle.napi_types.specs.plain.Replies.{Answer, plain}
use Rattle.napi_types.specs.plain.Room.{is_full}
use Rattle.napi_types.specs.parts.Frames.{Frame}
use Rattle.napi_types.specs.parts.Functions.{FunctionState, call_status}
use Rattle.napi_types.specs.parts.Pool.{work_refusal}
use Rattle.napi_types.specs.parts.Works.{is_created, is_queued, is_deletable}
use Rattle.napi_types.specs.environment.Changes.{may_call}
use Rattle.napi_types.specs.environment.Environment.{Environment}
use Rattle.napi_types.specs.environment.SharedCalls.{shared_call_of, handed_entry, after_shared}
use Rattle.napi_types.specs.hub.GivenSteps.{fits_stage, is_fresh_work, work_number, answer_unless_given}
use Rattle.napi_types.specs.hub.Hub.{Hub}
use Rattle.napi_types.specs.hub.HubCalls.{hub_answer, unless_refused, on_function, tsfn_at, call_answer, called_answer}
use Rattle.napi_types.specs.hub.HubStep.{HubStep, answered_step}
use Rattle.napi_types.specs.hub.HubSteps.{IsHubNext, hub_step}
use Rattle.napi_types.specs.runs.CallRoom.{room_of}
use Rattle.napi_types.specs.runs.Machine.{Machine}
use Rattle.napi_types.specs.runs.Step.{Step, shared, answered_by, env_step, frame_step, call_step_on}
use Rattle.napi_types.proofs.environment.Told.{tells_frame}
use Rattle.shared_hub.specs.SharedTries.{given_by}
use Rattle.env_loop.specs.RecordedRuns.{IsAwaited}
use Rattle.env_loop.specs.SharedEntries.{shared_step}
use Rattle.env_loop.proofs.TurnSteps.{two_may}

-- WHAT THE HUB ANSWERS
-- no answer tells of a frame
abbrev Unframed : Option (Answer Hub) → Type 0
Unframed o = IfSome o (λ a. tells_frame a.reply.out ≡ false)

unless-unframed : (h : Hub) (s : Option Status) (a : Answer Hub) → tells_frame a.reply.out ≡ false → tells_frame (unless_refused h s a).reply.out ≡ false
unless-unframed h None a told = told
unless-unframed h (Some s) a told = refl

on-unframed : (h : Hub) (answer : FunctionState → Answer Hub) (f : Option FunctionState) → ((x : FunctionState) → tells_frame (answer x).reply.out ≡ false)
    → tells_frame (on_function h answer f).reply.out ≡ false
on-unframed h answer None told = refl
on-unframed h answer (Some x) told = told x

called-unframed : (h : Hub) (payload : ℕ) (m : Mode) (f : Option FunctionState) → Unframed (call_answer h actor.Env payload m f)
called-unframed h payload m None = refl
called-unframed h payload m (Some f) = by (call_status actor.Env m f)
  where
    by : (s : Option Status) → Unframed (option_map (called_answer h payload f) s)
    by None = tt
    by (Some s) = refl

answer-unframed : (h : Hub) (g : Given) (c : Call) (n : ℕ) → Unframed (hub_answer h actor.Env g c n)
answer-unframed h g (call.CreateAsyncWork job entry payload) n = refl
answer-unframed h g (call.DeleteAsyncWork w) n = unless-unframed h (work_refusal is_deletable h.pool w.0) _ refl
answer-unframed h g (call.CancelAsyncWork w) n = unless-unframed h (work_refusal is_queued h.pool w.0) _ refl
answer-unframed h g (call.QueueAsyncWork w) n = unless-unframed h (work_refusal is_created h.pool w.0) _ refl
answer-unframed h g (call.CreateThreadsafeFunction f entry maximum count finalizer context) n = refl
answer-unframed h g (call.CallThreadsafeFunction f payload m) n = called-unframed h payload m (tsfn_at h f.0)
answer-unframed h g (call.AcquireThreadsafeFunction f) n = on-unframed h _ (tsfn_at h f.0) (λ x. refl)
answer-unframed h g (call.ReleaseThreadsafeFunction f m) n = on-unframed h _ (tsfn_at h f.0) (λ x. refl)
answer-unframed h g (call.RefThreadsafeFunction f) n = on-unframed h _ (tsfn_at h f.0) (λ x. refl)
answer-unframed h g (call.UnrefThreadsafeFunction f) n = on-unframed h _ (tsfn_at h f.0) (λ x. refl)
answer-unframed h g (call.GetThreadsafeFunctionContext f) n = on-unframed h _ (tsfn_at h f.0) (λ x. refl)
answer-unframed h g _ n = tt

unless-given-unframed : (h : Hub) (g : Given) (c : Call) (n : ℕ) (s : Option Status) → Unframed (answer_unless_given h g c n s)
unless-given-unframed h g c n None = answer-unframed h g c n
unless-given-unframed h g c n (Some s) = refl

-- what the hub answers to a call that was handed over, and whether it may stand there
abbrev answer_to : Hub → SharedCall → Out → Option (Answer Hub)
answer_to h s o = answer_unless_given h (given_by s) s.call (work_number o) s.refused

abbrev handed_may : Hub → SharedCall → Out → Bool
handed_may h s o = is_shared s.call && fits_stage h.stage s.call s.refused && is_fresh_work h o

pub reply-unframed : (h : Hub) (s : SharedCall) (r : Reply) → IsHubNext h (handed_entry s r) → tells_frame r.out ≡ false
reply-unframed h s r next = by (answer_to h s r.out) (unless-given-unframed h (given_by s) s.call (work_number r.out) s.refused) next.entry next.may
  where
    by : (o : Option (Answer Hub)) → Unframed o → handed_entry s r ≡ (answered_step h (handed_entry s r) (handed_may h s r.out) o).entry
        → IsTrue (answered_step h (handed_entry s r) (handed_may h s r.out) o).may → tells_frame r.out ≡ false
    by None told is may = cc
    by (Some a) told is may = ap (λ (x : Entry). tells_frame x.reply.out) is ∙ told

-- of the entry that the environment hands over only the result is read
same-answer : (h : Hub) (s : SharedCall) (q r : Reply) (may : Bool) (o : Option (Answer Hub)) → IsTrue (answered_step h (handed_entry s r) may o).may
    → answered_step h (handed_entry s q) may o ≡ answered_step h (handed_entry s r) may o
same-answer h s q r may None can = cc
same-answer h s q r may (Some a) can = refl

same-step : (h : Hub) (s : SharedCall) (r : Reply) → IsHubNext h (handed_entry s r)
    → hub_step h (handed_entry s (plain status.Ok r.out)) ≡ hub_step h (handed_entry s r)
same-step h s r next = same-answer h s (plain status.Ok r.out) r (handed_may h s r.out) (answer_to h s r.out) next.may

-- THE STEP
-- an entry that may come next at the hub is the step at which it must stand
pub taken-step : (m : Machine) (x : Entry) (e : Entry → Environment) (may : Bool) → may ≡ true → IsHubNext m.hub x
    → shared m (hub_step m.hub x) (e (hub_step m.hub x).entry) may ≡ shared_step m x (hub_step m.hub x).after (e x)
taken-step m x e may is next =
    let s : HubStep = hub_step m.hub x in
    let at : Entry → Bool → Step = λ y b. record (shared_step m y s.after (e y)) { may = b } in
    ap (λ y. at y (may && s.may)) (sym next.entry) ∙ ap (at x) (two_may may s.may is next.may)

pub answered-next : (m : Machine) (c : SharedCall) (r : Reply) (f : Frame) (fs : List Frame) → m.env.frames ≡ f ∷ fs → IsAwaited m.env c
    → IsHubNext m.hub (handed_entry c r)
    → cut_of r.out ≡ None → may_call m.env ≡ true → is_full (room_of m c.call) c.call ≡ false
    → env_step m (ask.Do c.call) r.out m.env.frames ≡ shared_step m (handed_entry c r) (hub_step m.hub (handed_entry c r)).after (after_shared c.call r m.env)
answered-next m c r f fs stands w next uncut may fits =
    let e : Entry → Environment = λ x. after_shared c.call x.reply m.env in
    let free : Bool = may_call m.env && not (is_full (room_of m c.call) c.call) in
    let handed : hub_step m.hub (handed_entry (shared_call_of m.env c.call) (plain status.Ok r.out)) ≡ hub_step m.hub (handed_entry c (plain status.Ok r.out)) =
    ap (λ (s : SharedCall). hub_step m.hub (handed_entry s (plain status.Ok r.out))) (sym w.handed) in
    ap (env_step m (ask.Do c.call) r.out) stands
    ∙ ap (frame_step m (ask.Do c.call) r.out) uncut
    ∙ ap (λ b. call_step_on b m c.call r.out) w.shared
    ∙ ap (answered_by m c.call) (handed ∙ same-step m.hub c r next)
    ∙ taken-step m (handed_entry c r) e free (free-may (may_call m.env) (is_full (room_of m c.call) c.call) may fits) next
  where
    free-may : (a b : Bool) → a ≡ true → b ≡ false → (a && not b) ≡ true
    free-may a b p q = rw (p, q) refl
