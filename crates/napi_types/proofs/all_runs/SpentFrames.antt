-- The tickets of the frames that stand are neither registered nor due any more: every step keeps it.
use Rattle.std.proofs.Common.{◌≡◌, ◌∙◌, ℕ, ◌+◌, ◌==◌, Bool, true, false, cond, List, [], ◌∷◌, Option, Some, None, option_map, IfSome, ap, sym, subst}
use Rattle.std.specs.List.{All}
use Rattle.std.proofs.lemmas.List.Elements.{All-head, All-tail, All-cons, All-weaker}
use Rattle.std.proofs.lemmas.Option.{IfSome_then}
use Rattle.napi_types.specs.declared.call.Call.{Call}
use Rattle.napi_types.specs.declared.entry.Duty.{Duty}
use Rattle.napi_types.specs.declared.entry.Duty.TheVariants as duty
use Rattle.napi_types.specs.declared.entry.Out.{Out}
use Rattle.napi_types.specs.declared.entry.Phase.{Phase}
use Rattle.napi_types.specs.declared.entry.Why.{Why}
use Rattle.napi_types.specs.declared.ids.HandleId.{HandleId}
use Rattle.napi_types.specs.plain.Lists.{tail}
use Rattle.napi_types.specs.parts.Book.{Book, Registration, is_owed, is_at, changed_where, moved, moved_at, begun_in, may_begin_in, registration_at, with_registration}
use Rattle.napi_types.specs.parts.Frames.{Frame, duty_of, ticket_of, is_hub_duty, ask_counted}
use Rattle.napi_types.specs.parts.FunctionCalls.{callee_of}
use Rattle.napi_types.specs.environment.Changes.{call_change}
use Rattle.napi_types.specs.environment.Ends.{end_change}
use Rattle.napi_types.specs.environment.Entering.{enter_change, asked_change}
use Rattle.napi_types.specs.environment.Environment.{Environment}
use Rattle.napi_types.specs.hub.HubMoves.{HubMove, Delivers, Closes, Finishes, hub_move}
use Rattle.napi_types.specs.runs.Machine.{Machine}
use Rattle.napi_types.specs.runs.Step.{Step, shared_call_step, move_step}
use Rattle.napi_types.proofs.plain.Found.{same-self}
use Rattle.napi_types.proofs.parts.Books.{leaves-in}
use Rattle.napi_types.proofs.parts.Moved.{IsUnder, registration_at-changed_where, registration_at-before, at-state}
use Rattle.napi_types.proofs.parts.Moves.{Move, registration_after, unowed-moved, MovesKeep}
use Rattle.napi_types.proofs.environment.AnswersKeep.{answer-keeps}
use Rattle.napi_types.proofs.environment.Cases.{asked-by}
use Rattle.napi_types.proofs.environment.FrameChanges.{ended-keeps, enter_change-keeps}
use Rattle.napi_types.proofs.environment.Registrations.{asked-kept, ended-kept, begun-kept, phase-kept}
use Rattle.napi_types.proofs.hub.HubDuties.{delivery-of_hub}
use Rattle.napi_types.proofs.runs.SharedSteps.{after_shared-alone}
use Rattle.napi_types.proofs.runs.StepCases.{StepCase, calls, ends, opens, inits, begins, vanishes, shares, leaves, passes, moves, others, abandons}

-- a ticket was given, and its frame is not to come any more
abbrev pub IsNotOwed : Registration → Type 0
IsNotOwed r = is_owed r.state ≡ false

abbrev pub FrameSpent : Book → Frame → Type 0
FrameSpent book f = IfSome (ticket_of f.duty) (IsUnder IsNotOwed book)

abbrev pub StandsSpent : Environment → Type 0
StandsSpent e = All (FrameSpent e.book) e.frames

-- each move of the book keeps it
moved-spent : (move : Move) (test : ℕ → Bool) (book : Book) (t : ℕ) → IsUnder IsNotOwed book t → IsUnder IsNotOwed (changed_where (registration_after move) test book) t
moved-spent move test book t u = record {
  registration = cond (test t) (registration_after move u.registration) u.registration;
  there = registration_at-changed_where (registration_after move) test book t ∙ ap (option_map (λ r. cond (test t) (registration_after move r) r)) u.there;
  holds = by (test t);
}
  where
    by : (b : Bool) → is_owed (cond b (registration_after move u.registration) u.registration).state ≡ false
    by true = unowed-moved move u.registration.state u.holds
    by false = u.holds

abbrev AllSpent : List Frame → Book → Type 0
AllSpent fs book = All (FrameSpent book) fs

spent-moves : (fs : List Frame) → MovesKeep (AllSpent fs)
spent-moves fs move test book all =
    All-weaker (FrameSpent book) (FrameSpent (changed_where (registration_after move) test book))
    (λ f spent. IfSome_then (ticket_of f.duty) spent (moved-spent move test book)) fs all

pushed-spent : (fs : List Frame) (r : Registration) (book : Book) → AllSpent fs book → AllSpent fs (with_registration r book)
pushed-spent fs r book all =
    All-weaker (FrameSpent book) (FrameSpent (with_registration r book))
    (λ f spent. IfSome_then (ticket_of f.duty) spent (λ t u. record {
      registration = u.registration;
      there = registration_at-before book r t u.registration u.there;
      holds = u.holds;
    })) fs all

counted-spent : (fs : List Frame) (book : Book) → AllSpent fs book → AllSpent (ask_counted fs) book
counted-spent [] book all = all
counted-spent (f ∷ fs) book all =
    All-cons (FrameSpent book) (record f { asks = f.asks + 1 }) fs (All-head (FrameSpent book) f fs all) (All-tail (FrameSpent book) f fs all)

tail-spent : (fs : List Frame) (book : Book) → AllSpent fs book → AllSpent (tail fs) book
tail-spent [] book all = all
tail-spent (f ∷ fs) book all = All-tail (FrameSpent book) f fs all

spent-asked : (e : Environment) (c : Call) (n : ℕ) → StandsSpent e → StandsSpent (asked_change e c n).after
spent-asked e c n all =
    asked-by e c n (λ d. AllSpent e.frames d.after.book → StandsSpent d.after)
    (λ q. subst (λ fs. AllSpent (ask_counted fs) (call_change e c n).after.book) (sym (answer-keeps e c n).frames)
    (counted-spent e.frames (call_change e c n).after.book q))
    (λ receiver f args none q.
    let book : Book = (enter_change receiver f args e).after.book in
    subst (λ fs. AllSpent fs book) (sym (enter_change-keeps receiver f args e).frames)
    (All-cons (FrameSpent book) (callee_of e.heap f) (ask_counted e.frames) tt (counted-spent e.frames book q)))
    (asked-kept (AllSpent e.frames) (spent-moves e.frames) e c n (λ made r who why book old. pushed-spent e.frames r book old) all)

spent-ended : (e : Environment) (v : Option HandleId) (cut : Option Why) → StandsSpent e → StandsSpent (end_change v cut e).after
spent-ended e v cut all =
    subst (λ fs. AllSpent fs (end_change v cut e).after.book) (sym (ended-keeps v cut e).frames)
    (tail-spent e.frames (end_change v cut e).after.book (ended-kept (AllSpent e.frames) (spent-moves e.frames) e v cut all))

spent-begun : (p : Phase) (n : ℕ) (book : Book) (r : Registration) → registration_at book n ≡ Some r → may_begin_in p r.state ≡ true
    → IsUnder IsNotOwed (moved_at (begun_in p) n book) n
spent-begun p n book r there may = record {
  registration = moved (begun_in p) r;
  there = registration_at-changed_where (moved (begun_in p)) (λ m. m == n) book n ∙ ap (option_map (λ q. cond (n == n) (moved (begun_in p) q) q)) there
      ∙ ap (λ b. Some (cond b (moved (begun_in p) r) r)) (same-self n);
  holds = (leaves-in p).after r.state may;
}

shared-spent : (m : Machine) (c : Call) (o : Out) → StandsSpent m.env → StandsSpent (shared_call_step m c o).after.env
shared-spent m c o all =
    subst StandsSpent (sym (after_shared-alone c (shared_call_step m c o).entry.reply m.env)) (counted-spent m.env.frames m.env.book all)

hub-spent : (book : Book) (o : Option Duty) → is_hub_duty o ≡ true → IfSome (ticket_of o) (IsUnder IsNotOwed book)
hub-spent book None ours = tt
hub-spent book (Some (duty.Ticket t)) ours = let no : ⊥ = cc in absurd no
hub-spent book (Some _) ours = tt

move-spent : (m : Machine) (move : HubMove) → hub_move m.hub ≡ Some move → StandsSpent m.env → StandsSpent (move_step m move).after.env
move-spent m (Delivers d) next all = All-cons (FrameSpent m.env.book) _ m.env.frames (hub-spent m.env.book (Some d.duty) (delivery-of_hub m.hub d next).ours) all
move-spent m (Closes n) next all = all
move-spent m (Finishes n) next all = all

-- EACH STEP
pub spent-step : (m : Machine) (s : Step) → StepCase m s → StandsSpent m.env → StandsSpent s.after.env
spent-step m _ (calls c n may alone) all = spent-asked m.env c n all
spent-step m _ (ends v cut may alone) all = spent-ended m.env v cut all
spent-step m _ opens all = all
spent-step m _ (inits n) all = All-cons (FrameSpent m.env.book) _ m.env.frames tt all
spent-step m _ (begins n r there next may) all =
    let book : Book = moved_at (begun_in m.env.phase) n m.env.book in
    All-cons (FrameSpent book) _ m.env.frames (spent-begun m.env.phase n m.env.book r there may)
    (begun-kept (AllSpent m.env.frames) (spent-moves m.env.frames) m.env.phase n m.env.book all)
spent-step m _ (vanishes last) all = all
spent-step m _ (shares c o shared answers) all = shared-spent m c o all
spent-step m _ (leaves v cut may ours) all = spent-ended m.env v cut all
spent-step m _ (passes p o q) all = phase-kept (AllSpent m.env.frames) (spent-moves m.env.frames) p m.env.book all
spent-step m _ (abandons here far none alone) all = all
spent-step m _ (moves move next moving alone) all = move-spent m move next all
spent-step m _ (others x other) all = all

-- the ticket of the innermost frame
pub innermost-spent : (fs : List Frame) (book : Book) (t : ℕ) → AllSpent fs book → ticket_of (duty_of fs) ≡ Some t → is_at is_owed book t ≡ false
innermost-spent [] book t all is = let no : ⊥ = cc in absurd no
innermost-spent (f ∷ fs) book t all is =
    let u : IsUnder IsNotOwed book t = subst (λ o. IfSome o (IsUnder IsNotOwed book)) is (All-head (FrameSpent book) f fs all) in
    at-state is_owed book t u.registration u.there ∙ u.holds
