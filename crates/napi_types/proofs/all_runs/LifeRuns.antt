-- What a run tells of the lives of buffers may be told where it is.
use Rattle.std.proofs.Common.{◌≡◌, ◌≢◌, ◌∙◌, ◌<◌, ◌≤◌, ℕ, ◌+◌, ◌==◌, Bool, true, false, IsTrue, cond, List, [], ◌∷◌, ◌++◌, Option, Some, None, ◌⊎◌, inl, inr, IfSome, refl, ap, sym, subst, arith}
use Rattle.std.specs.List.{All}
use Rattle.std.proofs.lemmas.List.{append-nil, append_assoc}
use Rattle.std.proofs.lemmas.List.Elements.{All-nil}
use Rattle.std.proofs.lemmas.Option.{same_Some}
use Rattle.napi_types.specs.declared.call.Args.{Args}
use Rattle.napi_types.specs.declared.call.Ask.{Ask}
use Rattle.napi_types.specs.declared.call.Call.{Call}
use Rattle.napi_types.specs.declared.call.Call.TheVariants as call
use Rattle.napi_types.specs.declared.entry.Cause.{Cause}
use Rattle.napi_types.specs.declared.entry.Cause.TheVariants as cause
use Rattle.napi_types.specs.declared.entry.Duty.{Duty}
use Rattle.napi_types.specs.declared.entry.Duty.TheVariants as duty
use Rattle.napi_types.specs.declared.entry.Entry.{Entry}
use Rattle.napi_types.specs.declared.entry.HostStep.TheVariants as host
use Rattle.napi_types.specs.declared.entry.Out.{Out}
use Rattle.napi_types.specs.declared.entry.Out.TheVariants as out
use Rattle.napi_types.specs.declared.entry.Phase.{Phase}
use Rattle.napi_types.specs.declared.entry.Phase.TheVariants as phase
use Rattle.napi_types.specs.declared.entry.What.{What}
use Rattle.napi_types.specs.declared.entry.What.TheVariants as what
use Rattle.napi_types.specs.declared.entry.Why.{Why}
use Rattle.napi_types.specs.declared.ids.HandleId.{HandleId}
use Rattle.napi_types.specs.plain.Entries.{host_entry}
use Rattle.napi_types.specs.plain.Guards.{is_shared}
use Rattle.napi_types.specs.plain.Lists.{found}
use Rattle.napi_types.specs.plain.Phases.{next_phase}
use Rattle.napi_types.specs.parts.Book.{Book, Registration, TicketState, Due, is_due, made_begun, made_due_and_begun, made_ended, moved, moved_at, begun_in, may_begin_in, registration_at, ticket_duty, cause_at}
use Rattle.napi_types.specs.parts.Frames.{cause_of, duty_of, is_hub_duty}
use Rattle.napi_types.specs.parts.Hooks.{Hook}
use Rattle.napi_types.specs.parts.Promises.{Promises}
use Rattle.napi_types.specs.parts.Values.{starting_values, value_at}
use Rattle.napi_types.specs.environment.Changes.{in_phase}
use Rattle.napi_types.specs.environment.Ends.{end_change, reaction_ended}
use Rattle.napi_types.specs.environment.Entering.{enter_change, asked_change}
use Rattle.napi_types.specs.environment.Environment.{Environment, OpenedWith, new_environment}
use Rattle.napi_types.specs.environment.Hooked.{IsHooked, StandsIn, is_from_finals_on}
use Rattle.napi_types.specs.environment.SharedCalls.{shared_entry}
use Rattle.napi_types.specs.environment.Tickets.{next_ticket, ticket_in}
use Rattle.napi_types.specs.hub.HubEvents.{begin_step, delivery_entry}
use Rattle.napi_types.specs.hub.HubMoves.{HubMove, Delivers, Closes, Finishes, hub_move}
use Rattle.napi_types.specs.hub.HubSteps.{hub_step}
use Rattle.napi_types.specs.runs.Choice.{waiting_hooks}
use Rattle.napi_types.specs.runs.Machine.{Machine}
use Rattle.napi_types.specs.runs.Run.{IsRunBy, after, final}
use Rattle.napi_types.specs.runs.Setting.{Setting, opens_with, opening_of}
use Rattle.napi_types.specs.runs.Step.{Step, move_step, has_room, step}
use Rattle.napi_types.specs.all_runs.BufferLives as told
use Rattle.napi_types.specs.all_runs.BufferLives.{LifeFact, ExternalBuffer, ViewOfBuffer, told_finalizer, lives_told_by, lives_told_along, all_external, HasNoBufferLeft, FollowsLives, BuffersOutliveViews}
use Rattle.napi_types.proofs.plain.Conditions.{and-right}
use Rattle.napi_types.proofs.plain.Found.{apart-below, found-All, found-number}
use Rattle.napi_types.proofs.parts.Moved.{at-cause}
use Rattle.napi_types.proofs.environment.AnswersKeep.{course-parts}
use Rattle.napi_types.proofs.environment.Cases.{asked-by}
use Rattle.napi_types.proofs.environment.FrameChanges.{book_left, promises_after, KeepsButFrame, ended-keeps, left-parts}
use Rattle.napi_types.proofs.environment.FrameEnds.{ended-ends}
use Rattle.napi_types.proofs.environment.Registrations.{left-kept}
use Rattle.napi_types.proofs.hub.HubDuties.{delivery-of_hub}
use Rattle.napi_types.proofs.hub.HubKeeps.{hub_step-what}
use Rattle.napi_types.proofs.runs.Forms.{form-of}
use Rattle.napi_types.proofs.runs.SharedSteps.{after_shared-alone, is_of_others, others-told}
use Rattle.napi_types.proofs.runs.StepCases.{StepCase, calls, ends, opens, inits, begins, vanishes, shares, leaves, passes, moves, others, abandons, event_before}
use Rattle.napi_types.proofs.all_runs.HeldHandles.{HandlesFit, opening-fits, fits-step, scopes-stand}
use Rattle.napi_types.proofs.all_runs.LifeHistory.{LifeHistory, life_history, past-finals, past-begun}
use Rattle.napi_types.proofs.all_runs.LifeKept.{LifeView, life_view, IsWaiting, IsLifeOf, NoneFalls, none-falls, changed-falls, ended-due, begun-due, both-due, QuietLife, life-quiet, life-finals}
use Rattle.napi_types.proofs.all_runs.LifeTells.{KeepsLives, lives_none, lives_one, no-lives-told, call-keeps-lives}
use Rattle.napi_types.proofs.all_runs.Orderly.{Orderly, along-orderly, orderly-opens}
use Rattle.napi_types.proofs.all_runs.PromiseBegins.{due-only, hooks-begin}
use Rattle.napi_types.proofs.all_runs.PromiseBooks.{same-links}
use Rattle.napi_types.proofs.all_runs.PromiseSteps.{is_entry_of_call, StandsAtCall, stands-at-call}
use Rattle.napi_types.proofs.all_runs.PromiseTells.{if-none}

-- WHAT HOLDS
record SoundLives (ts : List LifeFact) (e : Environment) : Type 0 where
  pub kept : IsLifeOf (life_history ts) (life_view e)
  pub fits : HandlesFit e

abbrev lives_told_of : Machine → Entry → Machine → List LifeFact
lives_told_of m x n = lives_told_by m x n x.what

-- NOTHING IS TOLD
abbrev TellsNoLives : What → Type 0
TellsNoLives w = (m n : Machine) (x : Entry) → lives_told_by m x n w ≡ []

no-lives : (m n : Machine) (x : Entry) (w : What) → x.what ≡ w → TellsNoLives w → lives_told_of m x n ≡ []
no-lives m n x w is none = ap (lives_told_by m x n) is ∙ none m n x

shared-no-lives : (c : Call) → is_shared c ≡ true → TellsNoLives (what.Call c)
shared-no-lives (call.CreateArraybuffer size) shared m n x = cc
shared-no-lives (call.CreateExternalArraybuffer size payload entry hint) shared m n x = cc
shared-no-lives (call.CreateTypedarray kind h offset count) shared m n x = cc
shared-no-lives call.Collect shared m n x = cc
shared-no-lives c shared m n x = if-none x.reply.status

others-no-lives : (w : What) → is_of_others w ≡ true → TellsNoLives w
others-no-lives (what.Call (call.CreateArraybuffer size)) its m n x = cc
others-no-lives (what.Call (call.CreateExternalArraybuffer size payload entry hint)) its m n x = cc
others-no-lives (what.Call (call.CreateTypedarray kind h offset count)) its m n x = cc
others-no-lives (what.Call call.Collect) its m n x = cc
others-no-lives (what.Call c) its m n x = if-none x.reply.status
others-no-lives (what.Host host.Begin) its m n x = cc
others-no-lives (what.Host host.Finals) its m n x = cc
others-no-lives (what.Host _) its m n x = refl

-- a duty of the hub is no ticket
hub-no-lives : (c : Cause) (addon entry : ℕ) (d : Duty) → is_hub_duty (Some d) ≡ true → told_finalizer (out.Begin c addon entry (Some d)) ≡ []
hub-no-lives cause.Finalize addon entry (duty.Ticket t) ours = cc
hub-no-lives cause.Finalize addon entry _ ours = refl
hub-no-lives _ addon entry d ours = refl

move-no-lives : (m n : Machine) (move : HubMove) → hub_move m.hub ≡ Some move → lives_told_of m (move_step m move).entry n ≡ []
move-no-lives m n (Delivers d) next =
    let same : (move_step m (Delivers d)).entry ≡ delivery_entry d = ap (λ o. (begin_step m.hub (delivery_entry d) o).entry) next in
    ap (λ x. lives_told_of m x n) same ∙ hub-no-lives d.cause d.addon d.entry d.duty (delivery-of_hub m.hub d next).ours
move-no-lives m n (Closes k) next =
    no-lives m n (move_step m (Closes k)).entry (what.Host host.CloseTsfn) (hub_step-what m.hub (host_entry host.CloseTsfn (out.Function (record { 0 = k })))) (λ m n x. refl)
move-no-lives m n (Finishes k) next =
    no-lives m n (move_step m (Finishes k)).entry (what.Host host.FinishTsfn) (hub_step-what m.hub (host_entry host.FinishTsfn (out.Function (record { 0 = k })))) (λ m n x. refl)

move-life : (m : Machine) (move : HubMove) → life_view (move_step m move).after.env ≡ life_view m.env
move-life m (Delivers d) = refl
move-life m (Closes n) = refl
move-life m (Finishes n) = refl

-- the book and the phase alone change
quiet-book-life : (e : Environment) (p : Phase) (book : Book) → is_from_finals_on p ≡ is_from_finals_on e.phase → NoneFalls e.book book
    → QuietLife (life_view e) (record (life_view e) { phase = p; book = book })
quiet-book-life e p book late none = record {
  late = late;
  grows = omega arith;
  links = same-links e.heap.values;
  above = λ n far none. none;
  book = none;
  owns = λ xs given o. o;
  buffers = refl;
  deferreds = refl;
}

-- THE END OF A FRAME
left-deferreds : (c : Cause) (d : Option Duty) (p : Promises) → (promises_after c d p).deferreds ≡ p.deferreds
left-deferreds cause.Call d p = refl
left-deferreds _ (Some (duty.Ticket t)) p = refl
left-deferreds _ _ p = refl

ended-lives : (ts : List LifeFact) (m n : Machine) (v : Option HandleId) (cut : Option Why) (x : Entry) → SoundLives ts m.env → x.what ≡ what.Host host.End
    → KeepsLives ts (lives_told_of m x n) (life_view (end_change v cut m.env).after)
ended-lives ts m n v cut x sound is =
    let e : Environment = m.env in
    let new : Environment = (end_change v cut e).after in
    let k : KeepsButFrame e new = ended-keeps v cut e in
    let r = left-parts e new k in
    let book : Book = book_left (cause_of e.frames) (duty_of e.frames) e.book in
    let none : NoneFalls e.book book =
    left-kept (NoneFalls e.book) e.book (λ t. changed-falls (moved made_ended) (λ r. refl) (λ j. j == t) e.book (λ j r there why its is. ended-due r.state is))
    (cause_of e.frames) (duty_of e.frames) (none-falls e.book) in
    no-lives-told ts _ (record (life_view e) { book = book }) (life_view new) (no-lives m n x (what.Host host.End) is (λ m n x. refl))
    (rw (
      (course-parts e new k.course).phase,
      k.made,
      k.values,
      r.book,
      r.attachments,
      ap (λ b. b.buffers) r.buffers,
      ap (λ (q : Promises). q.deferreds) r.promises,
      left-deferreds (cause_of e.frames) (duty_of e.frames) e.promises,
    ) refl)
    (life-quiet (life_history ts) (life_view e) _ (quiet-book-life e e.phase book refl none) sound.kept)

-- CALLS
asked-keeps-lives : (ts : List LifeFact) (m : Machine) (c : Call) (n : ℕ) → Orderly m → SoundLives ts m.env
    → (is_entry_of_call (asked_change m.env c n).entry.what ≡ true → m.env.frames ≢ [])
    → KeepsLives ts (lives_told_of m (asked_change m.env c n).entry (record m { env = (asked_change m.env c n).after; journal_length = m.journal_length + 1 }))
    (life_view (asked_change m.env c n).after)
asked-keeps-lives ts m c n h sound =
    asked-by m.env c n (λ d. (is_entry_of_call d.entry.what ≡ true → m.env.frames ≢ [])
    → KeepsLives ts (lives_told_of m d.entry (record m { env = d.after; journal_length = m.journal_length + 1 })) (life_view d.after))
    (λ stands. call-keeps-lives ts m sound.kept h.hooked sound.fits.heap (scopes-stand m.env sound.fits (stands refl)) c n)
    (λ receiver f args none stands. no-lives-told ts _ (life_view m.env) _ refl (entered receiver f args m.env) sound.kept)
  where
    entered : (receiver : Option HandleId) (f : HandleId) (args : Args) (e : Environment) → life_view (enter_change receiver f args e).after ≡ life_view e
    entered None f args e = refl
    entered (Some r) f args e = refl

-- A TICKET BEGINS
begun-falls : (p : Phase) (n : ℕ) (b : Book) → NoneFalls b (moved_at (begun_in p) n b)
begun-falls phase.Hooks n b = changed-falls (moved made_due_and_begun) (λ r. refl) (λ j. j == n) b (λ j r there why its is. both-due r.state is)
begun-falls _ n b = changed-falls (moved made_begun) (λ r. refl) (λ j. j == n) b (λ j r there why its is. begun-due r.state is)

-- in Hooks only hooks begin
finalizer-due : (e : Environment) (n : ℕ) (r : Registration) (p : Phase) → IsHooked e → registration_at e.book n ≡ Some r → r.cause ≡ cause.Finalize → ticket_in e p ≡ Some n
    → may_begin_in p r.state ≡ true → r.state ≡ Due
finalizer-due e n r phase.Hooks h there why next may =
    let no : cause.Finalize ≡ cause.Hook = same_Some cause.Finalize cause.Hook (sym (at-cause e.book n r there ∙ ap Some why) ∙ hooks-begin e n h next) in
    absurd (let z : ⊥ = cc in z)
finalizer-due e n r _ h there why next may = due-only r.state may

finalizer-or : (c : Cause) → (c ≡ cause.Finalize) ⊎ (c ≢ cause.Finalize)
finalizer-or cause.Finalize = inl refl
finalizer-or _ = inr (λ is. cc)

told-no-finalizer : (c : Cause) → c ≢ cause.Finalize → (addon entry : ℕ) (d : Option Duty) → told_finalizer (out.Begin c addon entry d) ≡ []
told-no-finalizer cause.Finalize other addon entry d = absurd (other refl)
told-no-finalizer _ other addon entry d = refl

ticket-begins-lives : (ts : List LifeFact) (e : Environment) (n : ℕ) (r : Registration) → IsLifeOf (life_history ts) (life_view e) → IsHooked e
    → registration_at e.book n ≡ Some r → next_ticket e ≡ Some n → may_begin_in e.phase r.state ≡ true
    → KeepsLives ts (told_finalizer (out.Begin r.cause r.addon r.entry (Some (ticket_duty n)))) (record (life_view e) { book = moved_at (begun_in e.phase) n e.book })
ticket-begins-lives ts e n r k hooked there next may = by (finalizer-or r.cause)
  where
    now : LifeView
    now = record (life_view e) { book = moved_at (begun_in e.phase) n e.book }

    kept : IsLifeOf (life_history ts) now
    kept = life-quiet (life_history ts) (life_view e) now (quiet-book-life e e.phase (moved_at (begun_in e.phase) n e.book) refl (begun-falls e.phase n e.book)) k

    left : r.cause ≡ cause.Finalize → (o : Option ExternalBuffer) → found (λ (x : ExternalBuffer). x.ticket) n (all_external ts) ≡ o → IfSome o (HasNoBufferLeft ts)
    left why None is = tt
    left why (Some x) is =
        let its : IsWaiting (life_history ts) e.heap.made e.book x =
        found-All (λ (x : ExternalBuffer). x.ticket) (IsWaiting (life_history ts) e.heap.made e.book) n (all_external ts) x k.waiting is in
        let same : its.registration ≡ r =
        same_Some its.registration r (sym its.there ∙ ap (registration_at e.book) (found-number (λ (x : ExternalBuffer). x.ticket) n (all_external ts) x is) ∙ there) in
        its.due (ap (λ (q : Registration). q.state) same ∙ finalizer-due e n r e.phase hooked there why next may)

    by : (r.cause ≡ cause.Finalize) ⊎ (r.cause ≢ cause.Finalize) → KeepsLives ts (told_finalizer (out.Begin r.cause r.addon r.entry (Some (ticket_duty n)))) now
    by (inl why) =
        subst (λ c. KeepsLives ts (told_finalizer (out.Begin c r.addon r.entry (Some (ticket_duty n)))) now) (sym why)
        (lives_one (told.Finalizes n) now (told.finalizes_late n (left why (found (λ (x : ExternalBuffer). x.ticket) n (all_external ts)) refl))
        (subst (λ g. IsLifeOf g now) (sym (past-begun ts n)) kept))
    by (inr other) = no-lives-told ts _ now now (told-no-finalizer r.cause other r.addon r.entry (Some (ticket_duty n))) refl kept

-- PHASES
passed-lives : (ts : List LifeFact) (m n : Machine) (x : Entry) (p : Phase) (o : Out) → x ≡ host_entry (event_before p) o → next_phase m.env.phase ≡ Some p → p ≢ phase.Gone
    → SoundLives ts m.env → KeepsLives ts (lives_told_of m x n) (life_view (in_phase p m.env))
passed-lives ts m n x p o is next never sound = subst (λ y. KeepsLives ts (lives_told_of m y n) (life_view (in_phase p m.env))) (sym is) (by p next never)
  where
    sooner : (q p : Phase) → next_phase q ≡ Some p → is_from_finals_on p ≡ false → is_from_finals_on p ≡ is_from_finals_on q
    sooner phase.Finals p next is = let same : phase.Gone ≡ p = cc in let no : true ≡ false = ap is_from_finals_on same ∙ is in cc
    sooner phase.Gone p next is = cc
    sooner _ p next is = is

    earlier : (p : Phase) → is_from_finals_on p ≡ false → next_phase m.env.phase ≡ Some p → IsLifeOf (life_history ts) (record (life_view m.env) { phase = p })
    earlier p early next =
        life-quiet (life_history ts) (life_view m.env) _ (quiet-book-life m.env p m.env.book (sooner m.env.phase p next early) (none-falls m.env.book)) sound.kept

    by : (p : Phase) → next_phase m.env.phase ≡ Some p → p ≢ phase.Gone → KeepsLives ts (lives_told_of m (host_entry (event_before p) o) n) (life_view (in_phase p m.env))
    by phase.Finals next never =
        lives_one told.ComesToFinals (life_view (in_phase phase.Finals m.env)) told.comes_to_finals
        (subst (λ g. IsLifeOf g (life_view (in_phase phase.Finals m.env))) (sym (past-finals ts)) (life-finals (life_history ts) (life_view m.env) sound.kept))
    by phase.Gone next never = absurd (never refl)
    by phase.Init next never = lives_none _ (earlier phase.Init refl next)
    by phase.Live next never = lives_none _ (earlier phase.Live refl next)
    by phase.Hooks next never = lives_none _ (earlier phase.Hooks refl next)
    by phase.Drain next never = lives_none _ (earlier phase.Drain refl next)

-- EACH STEP
lives-step : (ts : List LifeFact) (m : Machine) (s : Step) → Orderly m → StepCase m s → IsTrue s.may → StandsAtCall m s → SoundLives ts m.env
    → KeepsLives ts (lives_told_of m s.entry s.after) (life_view s.after.env)
lives-step ts m _ h (calls c n may alone) ok stands sound = asked-keeps-lives ts m c n h sound (stands refl)
lives-step ts m s h (ends v cut may alone) ok stands sound = ended-lives ts m s.after v cut s.entry sound (ended-ends v cut m.env).is
lives-step ts m _ h opens ok stands sound = no-lives-told ts _ (life_view m.env) _ refl refl sound.kept
lives-step ts m _ h (inits n) ok stands sound = no-lives-told ts _ (life_view m.env) _ refl refl sound.kept
lives-step ts m _ h (begins n r there next may) ok stands sound = ticket-begins-lives ts m.env n r sound.kept h.hooked there next may
lives-step ts m _ h (vanishes last) ok stands sound =
    no-lives-told ts _ (record (life_view m.env) { phase = phase.Gone }) _ refl refl
    (life-quiet (life_history ts) (life_view m.env) _ (quiet-book-life m.env phase.Gone m.env.book (sym (ap is_from_finals_on last)) (none-falls m.env.book)) sound.kept)
lives-step ts m s h (shares c o shared answers) ok stands sound =
    no-lives-told ts _ (life_view m.env) _ (no-lives m s.after s.entry (what.Call c) (hub_step-what m.hub (shared_entry m.env c o)) (shared-no-lives c shared))
    (ap life_view (after_shared-alone c s.entry.reply m.env)) sound.kept
lives-step ts m s h (leaves v cut may ours) ok stands sound =
    ended-lives ts m s.after v cut s.entry sound (hub_step-what m.hub (end_change v cut m.env).entry ∙ (ended-ends v cut m.env).is)
lives-step ts m s h (passes p o q) ok stands sound = passed-lives ts m s.after s.entry p o q.entry q.next q.never sound
lives-step ts m s h (abandons here far none alone) ok stands sound =
    no-lives-told ts _ (life_view m.env) _
    (no-lives m s.after s.entry (what.Host host.Abandon) (hub_step-what m.hub (host_entry host.Abandon (out.Unsigned (waiting_hooks m.env)))) (λ m n x. refl)) refl sound.kept
lives-step ts m s h (moves move next moving alone) ok stands sound =
    no-lives-told ts _ (life_view m.env) _ (move-no-lives m s.after move next) (move-life m move) sound.kept
lives-step ts m s h (others x other) ok stands sound =
    no-lives-told ts _ (life_view m.env) _
    (no-lives m s.after s.entry x.what (hub_step-what m.hub x)
    (others-no-lives x.what (others-told m.hub x other (and-right (has_room m x.what) (hub_step m.hub x).may ok)))) refl sound.kept

-- ALONG A RUN
-- each of these may be told after those and after the ones before it
abbrev AllLive : List LifeFact → List LifeFact → Type 0
AllLive ts [] = Unit {0}
AllLive ts (x ∷ xs) = FollowsLives ts x × AllLive (ts ++ x ∷ []) xs

lives-at : (ts before later : List LifeFact) (e : LifeFact) → AllLive ts (before ++ e ∷ later) → FollowsLives (ts ++ before) e
lives-at ts [] later e may = subst (λ us. FollowsLives us e) (sym (append-nil ts)) may.0
lives-at ts (x ∷ before) later e may = subst (λ us. FollowsLives us e) (append_assoc ts (x ∷ []) before) (lives-at (ts ++ x ∷ []) before later e may.1)

opening-life : (given : OpenedWith) → IsLifeOf (life_history []) (life_view (new_environment given))
opening-life given = record {
  late = refl;
  waiting = All-nil _;
  owned = record { wraps = All-nil _; tickets = All-nil _ };
  alive = All-nil _;
  above = none-above;
  windows = All-nil _;
  rows = All-nil _;
  apart = All-nil _;
}
  where
    none-above : (n : ℕ) → 5 < n → value_at starting_values n ≡ None
    none-above n far = rw (apart-below 1 n (omega (arith, far)), apart-below 2 n (omega (arith, far)), apart-below 3 n (omega (arith, far)), apart-below 4 n (omega (arith, far)), apart-below 5 n far) refl

run-lives : (m : Machine) (bs : List Ask) (xs : List Entry) → Orderly m → IsRunBy m bs xs → (ts : List LifeFact) → SoundLives ts m.env → AllLive ts (lives_told_along m bs xs)
run-lives = along-orderly (λ m bs xs. (ts : List LifeFact) → SoundLives ts m.env → AllLive ts (lives_told_along m bs xs))
    (λ m ts sound. tt)
    (λ m a bs x xs h next s k rest ts sound.
    let here : KeepsLives ts (lives_told_of m x (after m a x)) (life_view (after m a x).env) =
    subst (λ y. KeepsLives ts (lives_told_of m y (after m a x)) (life_view (after m a x).env)) (sym next.0)
    (lives-step ts m (step m a x) h s next.1 (stands-at-call m (step m a x) (form-of m a x next) next.1) sound) in
    more ts (lives_told_of m x (after m a x)) (life_view (after m a x).env) here (lives_told_along (after m a x) bs xs) (after m a x).env refl
    (fits-step m (step m a x) s sound.fits) (λ us. rest us))
  where
    more : (ts news : List LifeFact) (v : LifeView) → KeepsLives ts news v → (later : List LifeFact) (e : Environment) → life_view e ≡ v
        → HandlesFit e → ((us : List LifeFact) → SoundLives us e → AllLive us later) → AllLive ts (news ++ later)
    more ts _ _ (lives_none v kept) later e same fits rest = rest ts (record { kept = subst (IsLifeOf (life_history ts)) (sym same) kept; fits = fits })
    more ts _ _ (lives_one x v may kept) later e same fits rest =
        (may, rest (ts ++ x ∷ []) (record { kept = subst (IsLifeOf (life_history (ts ++ x ∷ []))) (sym same) kept; fits = fits }))

-- THE LAW
pub buffers-outlive : BuffersOutliveViews
buffers-outlive s bs xs run before later e parts =
    lives-at [] before later e (subst (AllLive []) parts
    (run-lives (opening_of s) bs xs (orderly-opens s) run.steps [] (record { kept = opening-life (opens_with s); fits = opening-fits (opens_with s) })))
