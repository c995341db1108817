-- What each step tells of promises may be told, and what was told is what the environment then holds.
use Rattle.std.proofs.Common.{◌≡◌, ◌≢◌, ◌∙◌, ℕ, ◌+◌, Bool, true, false, IsTrue, List, [], ◌∷◌, Option, Some, None, option_map, refl, ap, sym, subst}
use Rattle.std.specs.Option.{unwrap_or}
use Rattle.napi_types.specs.declared.call.Args.{Args}
use Rattle.napi_types.specs.declared.call.Call.{Call}
use Rattle.napi_types.specs.declared.call.Call.TheVariants as call
use Rattle.napi_types.specs.declared.entry.Cause.{Cause}
use Rattle.napi_types.specs.declared.entry.Cause.TheVariants as cause
use Rattle.napi_types.specs.declared.entry.Duty.{Duty}
use Rattle.napi_types.specs.declared.entry.Duty.TheVariants as duty
use Rattle.napi_types.specs.declared.entry.Entry.{Entry}
use Rattle.napi_types.specs.declared.entry.HostStep.TheVariants as host
use Rattle.napi_types.specs.declared.entry.Out.{Out}
use Rattle.napi_types.specs.declared.entry.Out.TheVariants as out
use Rattle.napi_types.specs.declared.entry.Phase.{Phase}
use Rattle.napi_types.specs.declared.entry.Phase.TheVariants as phase
use Rattle.napi_types.specs.declared.entry.What.{What}
use Rattle.napi_types.specs.declared.entry.What.TheVariants as what
use Rattle.napi_types.specs.declared.entry.Why.{Why}
use Rattle.napi_types.specs.declared.ids.HandleId.{HandleId}
use Rattle.napi_types.specs.plain.Entries.{host_entry}
use Rattle.napi_types.specs.plain.Guards.{is_shared}
use Rattle.napi_types.specs.plain.Phases.{next_phase}
use Rattle.napi_types.specs.plain.Weave.{Journal}
use Rattle.napi_types.specs.parts.Book.{Registration, is_owed, is_at, registration_at, due_info}
use Rattle.napi_types.specs.parts.Frames.{Frame, cause_of, duty_of, ticket_of, is_hub_duty}
use Rattle.napi_types.specs.environment.Changes.{in_phase}
use Rattle.napi_types.specs.environment.Ends.{end_change}
use Rattle.napi_types.specs.environment.Entering.{enter_change, asked_change}
use Rattle.napi_types.specs.environment.Environment.{Environment}
use Rattle.napi_types.specs.environment.Hooked.{is_from_finals_on}
use Rattle.napi_types.specs.environment.SharedCalls.{shared_entry}
use Rattle.napi_types.specs.hub.HubEvents.{begin_step, delivery_entry}
use Rattle.napi_types.specs.hub.HubMoves.{HubMove, Delivers, Closes, Finishes, hub_move}
use Rattle.napi_types.specs.hub.HubSteps.{hub_step}
use Rattle.napi_types.specs.runs.Choice.{waiting_hooks}
use Rattle.napi_types.specs.runs.Machine.{Machine}
use Rattle.napi_types.specs.runs.Step.{Step, move_step, has_room}
use Rattle.napi_types.specs.all_runs.SettledPromises as told
use Rattle.napi_types.specs.all_runs.SettledPromises.{PromiseFact, told_begun, told_by, told_of, state_given}
use Rattle.napi_types.proofs.plain.Conditions.{and-right}
use Rattle.napi_types.proofs.environment.AnswersKeep.{course-parts}
use Rattle.napi_types.proofs.environment.Cases.{asked-by}
use Rattle.napi_types.proofs.environment.FrameChanges.{book_left, promises_after, KeepsButFrame, ended-keeps, left-parts}
use Rattle.napi_types.proofs.environment.FrameEnds.{ended-ends}
use Rattle.napi_types.proofs.environment.HookedSteps.{GivesNew}
use Rattle.napi_types.proofs.hub.HubDuties.{delivery-of_hub}
use Rattle.napi_types.proofs.hub.HubKeeps.{hub_step-what}
use Rattle.napi_types.proofs.runs.Forms as form
use Rattle.napi_types.proofs.runs.Forms.{Form, event-what}
use Rattle.napi_types.proofs.runs.NewNumbers.{IsNewIn}
use Rattle.napi_types.proofs.runs.SharedSteps.{after_shared-alone, is_of_others, others-told}
use Rattle.napi_types.proofs.runs.StepCases.{StepCase, calls, ends, opens, inits, begins, vanishes, shares, leaves, passes, moves, others, abandons, event_before}
use Rattle.napi_types.proofs.all_runs.HeldHandles.{HandlesFit, scopes-stand}
use Rattle.napi_types.proofs.all_runs.Orderly.{Orderly}
use Rattle.napi_types.proofs.all_runs.PromiseBegins.{ticket-begins}
use Rattle.napi_types.proofs.all_runs.PromiseBooks.{end-same}
use Rattle.napi_types.proofs.all_runs.PromiseHistory as past
use Rattle.napi_types.proofs.all_runs.PromiseHistory.{history, history-finals}
use Rattle.napi_types.proofs.all_runs.PromiseReactions.{kept-phase, kept-finals, kept-ended}
use Rattle.napi_types.proofs.all_runs.PromiseStates.{view, IsHistoryOf}
use Rattle.napi_types.proofs.all_runs.PromiseTells.{Keeps, tells_one, tells_none, none-told, if-none, call-tells}
use Rattle.napi_types.proofs.all_runs.SpentFrames.{StandsSpent, innermost-spent}

-- WHAT HOLDS
-- what was told, and the environment
pub record Sound (ts : List PromiseFact) (e : Environment) : Type 0 where
  pub kept : IsHistoryOf (history ts) (view e)
  pub spent : StandsSpent e
  pub fits : HandlesFit e

-- whether an entry is that of a call
abbrev pub is_entry_of_call : What → Bool
is_entry_of_call (what.Call c) = true
is_entry_of_call (what.Host event) = false

-- a call in the journal is made where a frame stands
abbrev pub StandsAtCall : Machine → Step → Type 0
StandsAtCall m s = s.side ≡ Journal → is_entry_of_call s.entry.what ≡ true → m.env.frames ≢ []

some-frames : (f : Frame) (fs gs : List Frame) → gs ≡ f ∷ fs → gs ≢ []
some-frames f fs gs is none = let no : f ∷ fs ≡ [] = sym is ∙ none in cc

pub stands-at-call : (m : Machine) (s : Step) → Form m s → IsTrue s.may → StandsAtCall m s
stands-at-call m _ (form.calls f fs stands c o local) may ours is = some-frames f fs m.env.frames stands
stands-at-call m _ (form.shares f fs stands c o shared answers) may ours is = some-frames f fs m.env.frames stands
stands-at-call m _ (form.ends f fs stands v cut b hubs its) may ours is = some-frames f fs m.env.frames stands
stands-at-call m _ (form.happens alone event next) may ours is = let no : true ≡ false = sym is ∙ ap is_entry_of_call (event-what m event may) in cc
stands-at-call m _ (form.others x other same) may ours is = let no : ⊥ = cc in absurd no

-- NOTHING IS TOLD
abbrev TellsNone : What → Type 0
TellsNone w = (m n : Machine) (x : Entry) → told_by m x n w ≡ []

tells-none : (m n : Machine) (x : Entry) (w : What) → x.what ≡ w → TellsNone w → told_of m x n ≡ []
tells-none m n x w is none = ap (told_by m x n) is ∙ none m n x

shared-none : (c : Call) → is_shared c ≡ true → TellsNone (what.Call c)
shared-none call.CreatePromise shared m n x = cc
shared-none (call.ResolveDeferred d v) shared m n x = cc
shared-none (call.RejectDeferred d v) shared m n x = cc
shared-none (call.AddReaction h entry payload) shared m n x = cc
shared-none call.GetReactionValue shared m n x = cc
shared-none c shared m n x = if-none x.reply.status

others-none : (w : What) → is_of_others w ≡ true → TellsNone w
others-none (what.Call call.CreatePromise) its m n x = cc
others-none (what.Call (call.ResolveDeferred d v)) its m n x = cc
others-none (what.Call (call.RejectDeferred d v)) its m n x = cc
others-none (what.Call (call.AddReaction h entry payload)) its m n x = cc
others-none (what.Call call.GetReactionValue) its m n x = cc
others-none (what.Call c) its m n x = if-none x.reply.status
others-none (what.Host host.Begin) its m n x = cc
others-none (what.Host host.Finals) its m n x = cc
others-none (what.Host _) its m n x = refl

-- a duty of the hub is no ticket
hub-none : (state : ℕ) (c : Cause) (addon entry : ℕ) (d : Duty) → is_hub_duty (Some d) ≡ true → told_begun state (out.Begin c addon entry (Some d)) ≡ []
hub-none state cause.Reaction addon entry (duty.Ticket t) ours = cc
hub-none state cause.Reaction addon entry _ ours = refl
hub-none state _ addon entry d ours = refl

move-none : (m n : Machine) (move : HubMove) → hub_move m.hub ≡ Some move → told_of m (move_step m move).entry n ≡ []
move-none m n (Delivers d) next =
    let same : (move_step m (Delivers d)).entry ≡ delivery_entry d = ap (λ o. (begin_step m.hub (delivery_entry d) o).entry) next in
    ap (λ x. told_of m x n) same ∙ hub-none _ d.cause d.addon d.entry d.duty (delivery-of_hub m.hub d next).ours
move-none m n (Closes k) next =
    tells-none m n (move_step m (Closes k)).entry (what.Host host.CloseTsfn) (hub_step-what m.hub (host_entry host.CloseTsfn (out.Function (record { 0 = k })))) (λ m n x. refl)
move-none m n (Finishes k) next =
    tells-none m n (move_step m (Finishes k)).entry (what.Host host.FinishTsfn) (hub_step-what m.hub (host_entry host.FinishTsfn (out.Function (record { 0 = k })))) (λ m n x. refl)

move-view : (m : Machine) (move : HubMove) → view (move_step m move).after.env ≡ view m.env
move-view m (Delivers d) = refl
move-view m (Closes n) = refl
move-view m (Finishes n) = refl

enter-view : (receiver : Option HandleId) (f : HandleId) (args : Args) (e : Environment) → view (enter_change receiver f args e).after ≡ view e
enter-view None f args e = refl
enter-view (Some r) f args e = refl

-- THE END OF A FRAME
ended-view : (v : Option HandleId) (cut : Option Why) (e : Environment)
    → view (end_change v cut e).after ≡ record (view e) {
      promises = promises_after (cause_of e.frames) (duty_of e.frames) e.promises;
      book = book_left (cause_of e.frames) (duty_of e.frames) e.book;
    }
ended-view v cut e =
    let new : Environment = (end_change v cut e).after in
    let k : KeepsButFrame e new = ended-keeps v cut e in
    let r = left-parts e new k in
    rw ((course-parts e new k.course).phase, k.made, k.values, r.promises, r.book) refl

kept-left : (ts : List PromiseFact) (e : Environment) → IsHistoryOf (history ts) (view e) → (c : Cause) (d : Option Duty)
    → ((t : ℕ) → ticket_of d ≡ Some t → is_at is_owed e.book t ≡ false)
    → IsHistoryOf (history ts) (record (view e) { promises = promises_after c d e.promises; book = book_left c d e.book })
kept-left ts e k cause.Call d spent = k
kept-left ts e k _ (Some (duty.Ticket t)) spent = kept-ended (history ts) (view e) t.0 _ (spent t.0 refl) (end-same t.0 e.book) k
kept-left ts e k _ _ spent = k

ended-tells : (ts : List PromiseFact) (m n : Machine) (v : Option HandleId) (cut : Option Why) (x : Entry) → Sound ts m.env → x.what ≡ what.Host host.End
    → Keeps ts (told_of m x n) (view (end_change v cut m.env).after)
ended-tells ts m n v cut x sound is =
    none-told ts _ _ _ (tells-none m n x (what.Host host.End) is (λ m n x. refl)) (ended-view v cut m.env)
    (kept-left ts m.env sound.kept (cause_of m.env.frames) (duty_of m.env.frames) (λ t its. innermost-spent m.env.frames m.env.book t sound.spent its))

-- CALLS
asked-tells : (ts : List PromiseFact) (m : Machine) (c : Call) (n : ℕ) → Orderly m → Sound ts m.env
    → (is_entry_of_call (asked_change m.env c n).entry.what ≡ true → m.env.frames ≢ []) → GivesNew m.env (asked_change m.env c n).entry
    → Keeps ts (told_of m (asked_change m.env c n).entry (record m { env = (asked_change m.env c n).after; journal_length = m.journal_length + 1 }))
    (view (asked_change m.env c n).after)
asked-tells ts m c n h sound =
    asked-by m.env c n (λ d. (is_entry_of_call d.entry.what ≡ true → m.env.frames ≢ []) → GivesNew m.env d.entry
    → Keeps ts (told_of m d.entry (record m { env = d.after; journal_length = m.journal_length + 1 })) (view d.after))
    (λ stands fresh.
    call-tells ts m sound.kept h.hooked sound.fits.heap (scopes-stand m.env sound.fits (stands refl))
    (λ t is. innermost-spent m.env.frames m.env.book t sound.spent is) c n fresh)
    (λ receiver f args none stands fresh. none-told ts _ (view m.env) _ refl (enter-view receiver f args m.env) sound.kept)

-- PHASES
passed-tells : (ts : List PromiseFact) (m n : Machine) (x : Entry) (p : Phase) (o : Out) → x ≡ host_entry (event_before p) o → next_phase m.env.phase ≡ Some p
    → p ≢ phase.Gone → Sound ts m.env → Keeps ts (told_of m x n) (view (in_phase p m.env))
passed-tells ts m n x p o is next never sound = subst (λ y. Keeps ts (told_of m y n) (view (in_phase p m.env))) (sym is) (by p next never m.env.phase refl)
  where
    early : (q : Phase) → next_phase q ≡ Some phase.Finals → is_from_finals_on q ≡ false
    early phase.Init next = refl
    early phase.Live next = refl
    early phase.Hooks next = refl
    early phase.Drain next = refl
    early phase.Finals next = cc
    early phase.Gone next = cc

    sooner : (q p : Phase) → next_phase q ≡ Some p → is_from_finals_on p ≡ false → is_from_finals_on p ≡ is_from_finals_on q
    sooner phase.Finals p next is = let same : phase.Gone ≡ p = cc in let no : true ≡ false = ap is_from_finals_on same ∙ is in cc
    sooner phase.Gone p next is = cc
    sooner _ p next is = is

    by : (p : Phase) → next_phase m.env.phase ≡ Some p → p ≢ phase.Gone → (q : Phase) → m.env.phase ≡ q
        → Keeps ts (told_of m (host_entry (event_before p) o) n) (view (in_phase p m.env))
    by phase.Finals next never q here =
        let e : is_from_finals_on m.env.phase ≡ false = early m.env.phase next in
        tells_one told.FinalsCome (view (in_phase phase.Finals m.env)) (told.comes (sym sound.kept.late ∙ e))
        (subst (λ (g : past.History). IsHistoryOf g (view (in_phase phase.Finals m.env))) (sym (history-finals ts)) (kept-finals (history ts) (view m.env) e sound.kept))
    by phase.Gone next never q here = absurd (never refl)
    by phase.Init next never q here = tells_none (view (in_phase phase.Init m.env)) (kept-phase (history ts) (view m.env) phase.Init (sooner m.env.phase phase.Init next refl) sound.kept)
    by phase.Live next never q here = tells_none (view (in_phase phase.Live m.env)) (kept-phase (history ts) (view m.env) phase.Live (sooner m.env.phase phase.Live next refl) sound.kept)
    by phase.Hooks next never q here = tells_none (view (in_phase phase.Hooks m.env)) (kept-phase (history ts) (view m.env) phase.Hooks (sooner m.env.phase phase.Hooks next refl) sound.kept)
    by phase.Drain next never q here = tells_none (view (in_phase phase.Drain m.env)) (kept-phase (history ts) (view m.env) phase.Drain (sooner m.env.phase phase.Drain next refl) sound.kept)

-- the hint of a ticket is the state that its frame is given
hint-given : (n : ℕ) (r : Registration) (o : Option Registration) → o ≡ Some r → unwrap_or (option_map state_given (option_map (due_info n) o)) 0 ≡ r.hint
hint-given n r None is = let no : ⊥ = cc in absurd no
hint-given n r (Some q) is = let same : q ≡ r = cc in ap (λ (q : Registration). q.hint) same

-- EACH STEP
pub promise-step : (ts : List PromiseFact) (m : Machine) (s : Step) → Orderly m → IsNewIn m s → StepCase m s → IsTrue s.may → StandsAtCall m s → Sound ts m.env
    → Keeps ts (told_of m s.entry s.after) (view s.after.env)
promise-step ts m _ h new (calls c n may alone) ok stands sound = asked-tells ts m c n h sound (stands refl) (new refl)
promise-step ts m s h new (ends v cut may alone) ok stands sound = ended-tells ts m s.after v cut s.entry sound (ended-ends v cut m.env).is
promise-step ts m _ h new opens ok stands sound = none-told ts _ (view m.env) _ refl refl sound.kept
promise-step ts m _ h new (inits n) ok stands sound = none-told ts _ (view m.env) _ refl refl sound.kept
promise-step ts m _ h new (begins n r there next may) ok stands sound =
    ticket-begins ts m.env n r _ sound.kept h.hooked there next may (hint-given n r (registration_at m.env.book n) there)
promise-step ts m _ h new (vanishes last) ok stands sound =
    none-told ts _ (record (view m.env) { phase = phase.Gone }) _ refl refl
    (kept-phase (history ts) (view m.env) phase.Gone (sym (ap is_from_finals_on last)) sound.kept)
promise-step ts m s h new (shares c o shared answers) ok stands sound =
    none-told ts _ (view m.env) _ (tells-none m s.after s.entry (what.Call c) (hub_step-what m.hub (shared_entry m.env c o)) (shared-none c shared))
    (ap view (after_shared-alone c s.entry.reply m.env)) sound.kept
promise-step ts m s h new (leaves v cut may ours) ok stands sound =
    ended-tells ts m s.after v cut s.entry sound (hub_step-what m.hub (end_change v cut m.env).entry ∙ (ended-ends v cut m.env).is)
promise-step ts m s h new (passes p o q) ok stands sound = passed-tells ts m s.after s.entry p o q.entry q.next q.never sound
promise-step ts m s h new (abandons here far none alone) ok stands sound =
    none-told ts _ (view m.env) _
    (tells-none m s.after s.entry (what.Host host.Abandon) (hub_step-what m.hub (host_entry host.Abandon (out.Unsigned (waiting_hooks m.env)))) (λ m n x. refl)) refl sound.kept
promise-step ts m s h new (moves move next moving alone) ok stands sound = none-told ts _ (view m.env) _ (move-none m s.after move next) (move-view m move) sound.kept
promise-step ts m s h new (others x other) ok stands sound =
    none-told ts _ (view m.env) _
    (tells-none m s.after s.entry x.what (hub_step-what m.hub x)
    (others-none x.what (others-told m.hub x other (and-right (has_room m x.what) (hub_step m.hub x).may ok)))) refl sound.kept
