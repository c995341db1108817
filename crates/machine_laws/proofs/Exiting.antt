-- What asks to exit, and what comes of it in a run.
use Rattle.std.proofs.Common.{◌≡◌, ◌∙◌, ℕ, Bool, true, false, not, ◌||◌, List, IsTrue, refl, ap, sym, subst, Option, Some, None, ◌⊎◌, inl, inr}
use Rattle.std.proofs.Math.Bool.{or-false}
use Rattle.napi_types.specs.declared.call.Ask.{Ask}
use Rattle.napi_types.specs.declared.call.Call.{Call}
use Rattle.napi_types.specs.declared.call.Call.TheVariants as call
use Rattle.napi_types.specs.declared.entry.Entry.{Entry}
use Rattle.napi_types.specs.declared.entry.HostStep.TheVariants as host
use Rattle.napi_types.specs.declared.entry.LoopEnd.{LoopEnd}
use Rattle.napi_types.specs.declared.entry.LoopEnd.TheVariants as loop_end
use Rattle.napi_types.specs.declared.entry.Out.{Out}
use Rattle.napi_types.specs.declared.entry.Out.TheVariants as out
use Rattle.napi_types.specs.declared.entry.Phase.{Phase}
use Rattle.napi_types.specs.declared.entry.Phase.TheVariants as phase
use Rattle.napi_types.specs.declared.entry.What.{What}
use Rattle.napi_types.specs.declared.entry.What.TheVariants as what
use Rattle.napi_types.specs.declared.entry.Why.{Why}
use Rattle.napi_types.specs.declared.ids.HandleId.{HandleId}
use Rattle.napi_types.specs.plain.CallKinds.{is_exiting}
use Rattle.napi_types.specs.plain.Entries.{host_entry}
use Rattle.napi_types.specs.plain.Guards.{is_shared}
use Rattle.napi_types.specs.parts.Book.{lowest_due}
use Rattle.napi_types.specs.environment.Calls.{answer}
use Rattle.napi_types.specs.environment.Ends.{end_change}
use Rattle.napi_types.specs.environment.Entering.{asked_change}
use Rattle.napi_types.specs.environment.Environment.{Environment}
use Rattle.napi_types.specs.environment.SharedCalls.{shared_entry}
use Rattle.napi_types.specs.hub.Hub.{IsStageOf, Stage, Live, is_of_hooks}
use Rattle.napi_types.specs.hub.HubMoves.{HubMove, Delivers, Closes, Finishes, hub_move, is_idle, is_quiet}
use Rattle.napi_types.specs.hub.HubEvents.{delivery_entry}
use Rattle.napi_types.specs.hub.HubSteps.{hub_step}
use Rattle.napi_types.specs.runs.Choice.{choice, waiting_hooks}
use Rattle.napi_types.specs.runs.Loop.{Event, Moves, EndsLoop}
use Rattle.napi_types.specs.runs.Machine.{Machine}
use Rattle.napi_types.specs.runs.Run.{IsRunBy, after, final}
use Rattle.napi_types.specs.runs.Setting.{opening_of, final_of}
use Rattle.napi_types.specs.runs.Step.{Step, locally, shared, move_step, event_step, answered_by, has_room, step}
use Rattle.napi_types.proofs.environment.Changed.{Ignores, changed-keeps, answer-changed}
use Rattle.napi_types.proofs.plain.Conditions.{and-right}
use Rattle.napi_types.proofs.environment.FrameEnds.{ended-ends}
use Rattle.napi_types.proofs.environment.Cases.{asked-by, ended-by}
use Rattle.napi_types.proofs.hub.HubKeeps.{hub_step-what}
use Rattle.napi_types.proofs.runs.Forms.{event_what}
use Rattle.napi_types.proofs.runs.SharedSteps.{is_of_others, others-told, after_shared-alone}
use Rattle.napi_types.proofs.runs.StepCases.{StepCase, calls, ends, shares, leaves, passes, moves, others, event_before, InPhase}
use Rattle.napi_types.proofs.runs.Chosen.{OwnChoice, exits, NoChoice, waits, no-choice, HubChoice, idles, quiets, chosen-in-phase}
use Rattle.napi_types.proofs.all_runs.Orderly.{Orderly, orderly-opens, along-orderly}
use Rattle.machine_laws.specs.Choices.{begins_due_tickets_in, is_of_frames, BeginsLowest, BeginsLastHook, DeliversNow, BeginsOfHub}
use Rattle.machine_laws.specs.ExitLaws.{asks_exit, has_exit, reason_of, ExitIsAskedByItsCall, EndsByReason, TheLoopEndsByItsReason, TheLoopEndsByExitOrIdle, DeliversBehindLoop, WhatIsDueWaitsForFinalsOnceExitWasAsked}
use Rattle.machine_laws.proofs.Bare.{IsBare, bare-run, bare-idle}
use Rattle.machine_laws.proofs.BeginningFrames.{tickets-begin}
use Rattle.machine_laws.proofs.Choosing.{Happens, happens-next, happens-what, hub-in-phase, hooks-phase, none-left, drained-phase}

-- WHAT ASKS IT
-- no part of an answer changes whether exit was asked, ..
asked-ignored : Ignores (λ (e : Environment). e.exit_asked)
asked-ignored = record {
  heap = λ d x. refl;
  frames = λ d x. refl;
  references = λ d x. refl;
  attachments = λ d x. refl;
  book = λ d x. refl;
  hooks = λ d x. refl;
  async_hooks = λ d x. refl;
  promises = λ d x. refl;
  buffers = λ d x. refl;
  instances = λ d x. refl;
  pending = λ d x. refl;
  last = λ d x. refl;
}

-- .. so no call but `exit` does
at-asked : (e : Environment) (c : Call) (n : ℕ) → is_exiting c ≡ false → (answer e c n).after.exit_asked ≡ e.exit_asked
at-asked e c n other =
    changed-keeps (λ (d : Environment). d.exit_asked) c e (answer e c n).after asked-ignored
    (λ is g. let no : true ≡ false = sym (ap is_exiting is) ∙ other in cc) (answer-changed e c n)

answer-asked : (e : Environment) (c : Call) (n : ℕ) → (answer e c n).after.exit_asked ≡ (is_exiting c || e.exit_asked)
answer-asked e call.Exit n = refl
answer-asked e c n = at-asked e c n refl

-- STEPS
-- after the step exit was asked where it was before, or where the entry of the step asks it
abbrev Notes : Machine → Step → Type 0
Notes m t = t.after.env.exit_asked ≡ (asks_exit t.entry.what || m.env.exit_asked)

ended-notes : (m : Machine) (v : Option HandleId) (cut : Option Why) → Notes m (locally m (end_change v cut m.env) true)
ended-notes m v cut = ended-by v cut m.env (λ why d. Notes m (locally m d true)) (λ w. refl) (λ p. refl) refl refl

asked-notes : (m : Machine) (c : Call) (n : ℕ) → Notes m (locally m (asked_change m.env c n) true)
asked-notes m c n = asked-by m.env c n (λ d. Notes m (locally m d true)) (answer-asked m.env c n) (λ receiver f args none. refl)

-- a shared call is none that asks it, and changes nothing of it
shared-exits : (c : Call) → is_shared c ≡ true → is_exiting c ≡ false
shared-exits call.Exit shared = cc
shared-exits c shared = refl

shares-notes : (m : Machine) (c : Call) (o : Out) → is_shared c ≡ true → Notes m (answered_by m c (hub_step m.hub (shared_entry m.env c o)))
shares-notes m c o shared =
    let x : Entry = shared_entry m.env c o in
    ap (λ (e : Environment). e.exit_asked) (after_shared-alone c (hub_step m.hub x).entry.reply m.env)
    ∙ sym (ap (λ w. asks_exit w || m.env.exit_asked) (hub_step-what m.hub x) ∙ ap (λ b. b || m.env.exit_asked) (shared-exits c shared))

-- nor does what others do, the end of a frame of the hub, or another event of it
none-notes : (m : Machine) (t : Step) (w : What) → t.after.env.exit_asked ≡ m.env.exit_asked → t.entry.what ≡ w → asks_exit w ≡ false → Notes m t
none-notes m t w same is none = same ∙ sym (ap (λ v. asks_exit v || m.env.exit_asked) is ∙ ap (λ b. b || m.env.exit_asked) none)

leaves-notes : (m : Machine) (v : Option HandleId) (cut : Option Why) (may : Bool) → Notes m (shared m (hub_step m.hub (end_change v cut m.env).entry) (end_change v cut m.env).after may)
leaves-notes m v cut may =
    let x : Entry = (end_change v cut m.env).entry in
    let is : x.what ≡ what.Host host.End = (ended-ends v cut m.env).is in
    let same : (end_change v cut m.env).after.exit_asked ≡ m.env.exit_asked =
    ended-notes m v cut ∙ ap (λ w. asks_exit w || m.env.exit_asked) is in
    none-notes m (shared m (hub_step m.hub x) (end_change v cut m.env).after may) (what.Host host.End) same (hub_step-what m.hub x ∙ is) refl

move-notes : (m : Machine) (move : HubMove) → Notes m (move_step m move)
move-notes m (Delivers d) = none-notes m (move_step m (Delivers d)) (what.Host host.Begin) refl (hub_step-what m.hub (delivery_entry d)) refl
move-notes m (Closes n) =
    none-notes m (move_step m (Closes n)) (what.Host host.CloseTsfn) refl (hub_step-what m.hub (host_entry host.CloseTsfn (out.Function (record { 0 = n })))) refl
move-notes m (Finishes n) =
    none-notes m (move_step m (Finishes n)) (what.Host host.FinishTsfn) refl (hub_step-what m.hub (host_entry host.FinishTsfn (out.Function (record { 0 = n })))) refl

others-exit : (w : What) → is_of_others w ≡ true → asks_exit w ≡ false
others-exit (what.Call call.Exit) theirs = cc
others-exit (what.Call c) theirs = refl
others-exit (what.Host s) theirs = refl

step-notes : (m : Machine) (s : Step) → StepCase m s → IsTrue s.may → Notes m s
step-notes m _ (calls c n may alone) comes = asked-notes m c n
step-notes m _ (ends v cut may alone) comes = ended-notes m v cut
step-notes m _ (shares c o shared answers) comes = shares-notes m c o shared
step-notes m _ (leaves v cut may ours) comes = leaves-notes m v cut may
step-notes m s (passes p o q) comes = none-notes m s (what.Host (event_before p)) refl (ap (λ (y : Entry). y.what) q.entry) refl
step-notes m _ (moves move next moving alone) comes = move-notes m move
step-notes m s (others x other) comes =
    none-notes m s x.what refl (hub_step-what m.hub x)
    (others-exit x.what (others-told m.hub x other (and-right (has_room m x.what) (hub_step m.hub x).may comes)))
step-notes m _ _ comes = refl

-- RUNS
turned : (a b c : Bool) → (a || (b || c)) ≡ ((b || a) || c)
turned true true c = refl
turned true false c = refl
turned false true c = refl
turned false false c = refl

run-notes : (m : Machine) (bs : List Ask) (xs : List Entry) → Orderly m → IsRunBy m bs xs → (final m bs xs).env.exit_asked ≡ (has_exit xs || m.env.exit_asked)
run-notes = along-orderly (λ m bs xs. (final m bs xs).env.exit_asked ≡ (has_exit xs || m.env.exit_asked)) (λ m. refl)
    (λ m a bs x xs h next s k rest.
    let here : (after m a x).env.exit_asked ≡ (asks_exit x.what || m.env.exit_asked) =
    step-notes m (step m a x) s next.1 ∙ sym (ap (λ (y : Entry). asks_exit y.what || m.env.exit_asked) next.0) in
    rest ∙ ap (λ b. has_exit xs || b) here ∙ turned (has_exit xs) (asks_exit x.what) m.env.exit_asked)

pub exit-by-call : ExitIsAskedByItsCall
exit-by-call s bs xs run = run-notes (opening_of s) bs xs (orderly-opens s) run ∙ or-false (has_exit xs)

-- THE END OF THE LOOP
-- it tells its reason
is-loop_end : (v : Event) → event_what v ≡ host.LoopEnd → (reason : LoopEnd) × (v ≡ EndsLoop reason)
is-loop_end (EndsLoop reason) is = (reason, refl)
is-loop_end (Moves (Delivers d)) is = cc
is-loop_end _ is = cc

-- why it was chosen: exit was asked, or it was not, no ticket is due and the hub is idle or quiet
record IsReason (m : Machine) (exit : Bool) (reason : LoopEnd) : Type 0 where
  pub is : reason ≡ reason_of exit (is_idle m.hub)
  pub none_due : exit ≡ false → lowest_due m.env.book ≡ None
  pub unmoved : exit ≡ false → hub_move m.hub ≡ None
  pub quiet : exit ≡ false → is_idle m.hub ≡ false → is_quiet m.hub ≡ true

by-exit : (m : Machine) (exit : Bool) → exit ≡ true → IsReason m exit loop_end.Exit
by-exit m true asked = record { is = refl; none_due = λ z. cc; unmoved = λ z. cc; quiet = λ z. cc }
by-exit m false asked = cc

own-reason : (m : Machine) (p : Phase) (reason : LoopEnd) → OwnChoice m.env p (EndsLoop reason) → IsReason m m.env.exit_asked reason
own-reason m _ _ (exits asked) = by-exit m m.env.exit_asked asked

-- where the hub ends the loop the environment is in it, and decided nothing
hub-reason : (m : Machine) (p : Phase) (s : Stage) (reason : LoopEnd) → IsStageOf p s
    → HubChoice m.hub (waiting_hooks m.env) s (EndsLoop reason) → NoChoice m.env p → IsReason m m.env.exit_asked reason
hub-reason m _ _ _ shown (idles unmoved idle) (waits unasked lowest) = record {
  is = sym (ap (λ b. reason_of b (is_idle m.hub)) unasked ∙ ap (reason_of false) idle);
  none_due = λ z. lowest;
  unmoved = λ z. unmoved;
  quiet = λ z busy. let no : true ≡ false = sym idle ∙ busy in cc;
}
hub-reason m _ _ _ shown (quiets unmoved busy quiet) (waits unasked lowest) = record {
  is = sym (ap (λ b. reason_of b (is_idle m.hub)) unasked ∙ ap (reason_of false) busy);
  none_due = λ z. lowest;
  unmoved = λ z. unmoved;
  quiet = λ z idle. quiet;
}
hub-reason m _ _ _ shown _ _ = cc

chosen-reason : (m : Machine) (reason : LoopEnd) → InPhase m → choice m ≡ Some (EndsLoop reason) → IsReason m m.env.exit_asked reason
chosen-reason m reason far is = by (chosen-in-phase m (EndsLoop reason) is)
  where
    by : OwnChoice m.env m.env.phase (EndsLoop reason) ⊎ NoChoice m.env m.env.phase × HubChoice m.hub (waiting_hooks m.env) m.hub.stage (EndsLoop reason)
        → IsReason m m.env.exit_asked reason
    by (inl mine) = own-reason m m.env.phase reason mine
    by (inr its) = hub-reason m m.env.phase m.hub.stage reason far its.1 its.0

-- the entry tells the reason
told-reason : (m : Machine) (x : Entry) → x.what ≡ what.Host host.LoopEnd → InPhase m → Happens m x → EndsByReason m m.env.exit_asked x
told-reason m x is far h =
    let end : (reason : LoopEnd) × (h.event ≡ EndsLoop reason) = is-loop_end h.event (happens-what m x host.LoopEnd is h) in
    let why : IsReason m m.env.exit_asked end.0 = chosen-reason m end.0 far (h.next ∙ ap Some end.1) in
    let told : x.reply.out ≡ out.Ended end.0 = ap (λ (y : Entry). y.reply.out) h.entry ∙ ap (λ v. (event_step m v).entry.reply.out) end.1 in
    record { reason = told ∙ ap out.Ended why.is; none_due = why.none_due; unmoved = why.unmoved; quiet = why.quiet }

pub ends-by-reason : TheLoopEndsByItsReason
ends-by-reason s bs xs a x run next is =
    let m : Machine = final_of s bs xs in
    let h : Happens m x = happens-next m a x (ap is_of_others is) (ap (λ w. is_of_frames w x.reply.out) is) next in
    subst (λ exit. EndsByReason m exit x) (exit-by-call s bs xs run) (told-reason m x is (hub-in-phase s bs xs run) h)

pub ends-by-exit-or-idle : TheLoopEndsByExitOrIdle
ends-by-exit-or-idle s bs xs a x run none next is =
    let m : Machine = final_of s bs xs in
    let bare : IsBare m.hub = bare-run s bs xs run none in
    (ends-by-reason s bs xs a x run next is).reason ∙ ap (λ idle. out.Ended (reason_of (has_exit xs) idle)) (bare-idle m.hub bare)

-- TICKETS
late : (e : Environment) (p : Phase) → e.exit_asked ≡ true → begins_due_tickets_in e p ≡ true → p ≡ phase.Finals
late e phase.Live asked moment = let z : false ≡ true = ap not (sym asked) ∙ moment in cc
late e phase.Finals asked moment = refl
late e _ asked moment = cc

live-phase : (p : Phase) → IsStageOf p Live → p ≡ phase.Live
live-phase phase.Live far = refl
live-phase _ far = cc

-- it delivers nothing in the loop once exit was asked
not-in-loop : (e : Environment) (p : Phase) → p ≡ phase.Live → e.exit_asked ≡ true → NoChoice e p → ⊥
not-in-loop e _ here asked (waits unasked lowest) = let z : true ≡ false = sym asked ∙ unasked in cc
not-in-loop e _ here asked _ = cc

delivers-behind : (m : Machine) → InPhase m → m.env.exit_asked ≡ true → NoChoice m.env m.env.phase → DeliversNow m → DeliversBehindLoop m
delivers-behind m far asked quiet (inl live) =
    absurd (not-in-loop m.env m.env.phase (live-phase m.env.phase (subst (IsStageOf m.env.phase) live far)) asked quiet)
delivers-behind m far asked quiet (inr (inl drained)) = inl (drained-phase m.env.phase (subst (IsStageOf m.env.phase) drained far))
delivers-behind m far asked quiet (inr (inr waiting)) =
    let here : m.env.phase ≡ phase.Hooks = hooks-phase m.env.phase m.hub.stage far (ap is_of_hooks waiting.0) in
    inr (here, none-left m.env m.env.phase here quiet, waiting.1)

pub due-waits : WhatIsDueWaitsForFinalsOnceExitWasAsked
due-waits s bs xs a x c addon entry d run asked next is told = by (tickets-begin m a x c addon entry d next is told)
  where
    m : Machine
    m = final_of s bs xs

    known : m.env.exit_asked ≡ true
    known = exit-by-call s bs xs run ∙ asked

    by : BeginsLowest m d ⊎ BeginsLastHook m d ⊎ BeginsOfHub m d x → (m.env.phase ≡ phase.Finals) ⊎ BeginsLastHook m d ⊎ DeliversBehindLoop m × BeginsOfHub m d x
    by (inl due) = inl (late m.env m.env.phase known due.moment)
    by (inr (inl hook)) = inr (inl hook)
    by (inr (inr hub)) =
        inr (inr (delivers-behind m (hub-in-phase s bs xs run) known (no-choice m.env m.env.phase hub.waits) hub.moment, hub))
