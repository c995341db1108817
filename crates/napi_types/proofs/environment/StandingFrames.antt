-- Only the outermost frame is one that no call began: every event keeps it, and the duties of the frames that stand.
use Rattle.std.proofs.Common.{◌≡◌, ◌≢◌, ◌∙◌, ℕ, List, [], ◌∷◌, Option, Some, None, refl, sym, ap, subst}
use Rattle.std.specs.List.{cons_option}
use Rattle.napi_types.specs.declared.call.Call.{Call}
use Rattle.napi_types.specs.declared.entry.Cause.TheVariants as cause
use Rattle.napi_types.specs.declared.entry.Duty.{Duty}
use Rattle.napi_types.specs.declared.entry.Why.{Why}
use Rattle.napi_types.specs.declared.ids.HandleId.{HandleId}
use Rattle.napi_types.specs.plain.Lists.{tail}
use Rattle.napi_types.specs.parts.Book.{Registration, registration_at, due_info}
use Rattle.napi_types.specs.parts.Duties.{duties_of, AreNested}
use Rattle.napi_types.specs.parts.Frames.{Frame, frame_of, frame_of_duty, cause_of, duty_of, ask_counted}
use Rattle.napi_types.specs.parts.FunctionCalls.{callee_of}
use Rattle.napi_types.specs.environment.Changes.{call_change, init_change}
use Rattle.napi_types.specs.environment.Ends.{end_change}
use Rattle.napi_types.specs.environment.Entering.{asked_change}
use Rattle.napi_types.specs.environment.Environment.{Environment}
use Rattle.napi_types.specs.environment.Tickets.{ticket_change}
use Rattle.napi_types.proofs.environment.AnswersKeep.{answer-keeps}
use Rattle.napi_types.proofs.environment.FrameChanges.{ended-keeps, enter_change-keeps}
use Rattle.napi_types.proofs.environment.Registrations.{registered-holds, AreUncalled}
use Rattle.napi_types.proofs.environment.Cases.{asked-by}

-- ONE MORE ASK
pub counted-nested : (fs : List Frame) → AreNested fs → AreNested (ask_counted fs)
counted-nested [] alone = tt
counted-nested (f ∷ []) alone = alone
counted-nested (f ∷ g ∷ fs) alone = (alone.0, alone.1, alone.2)

pub counted-duties : (fs : List Frame) → duties_of (ask_counted fs) ≡ duties_of fs
counted-duties [] = refl
counted-duties (f ∷ fs) = refl

-- ONE FRAME MORE
called-nested : (f : Frame) (fs : List Frame) → fs ≢ [] → f.cause ≡ cause.Call → f.duty ≡ None → AreNested fs → AreNested (f ∷ fs)
called-nested f [] stands by plain alone = absurd (stands refl)
called-nested f (g ∷ fs) stands by plain alone = (by, plain, alone)

stands-counted : (fs : List Frame) → fs ≢ [] → ask_counted fs ≢ []
stands-counted [] stands = λ h. stands refl
stands-counted (f ∷ fs) stands = λ h. cc

-- ONE FRAME LESS
pub nested-tail : (fs : List Frame) → AreNested fs → AreNested (tail fs)
nested-tail [] alone = tt
nested-tail (f ∷ []) alone = tt
nested-tail (f ∷ g ∷ fs) alone = alone.2

-- a frame that no duty began takes none away
pub duties-plain : (fs : List Frame) → duty_of fs ≡ None → duties_of (tail fs) ≡ duties_of fs
duties-plain [] plain = refl
duties-plain (f ∷ fs) plain = sym (ap (λ d. cons_option d (duties_of fs)) plain)

-- the frame of a duty is the outermost, and the only one
pub duty-alone : (fs : List Frame) (d : Duty) → AreNested fs → duty_of fs ≡ Some d → tail fs ≡ []
duty-alone [] d alone has = refl
duty-alone (f ∷ []) d alone has = refl
duty-alone (f ∷ g ∷ fs) d alone has = let no : None ≡ Some d = sym alone.1 ∙ has in cc

pub duty-only : (fs : List Frame) (d : Duty) → AreNested fs → duty_of fs ≡ Some d → duties_of fs ≡ d ∷ []
duty-only [] d alone has = cc
duty-only (f ∷ []) d alone has = ap (λ o. cons_option o []) has
duty-only (f ∷ g ∷ fs) d alone has = let no : None ≡ Some d = sym alone.1 ∙ has in cc

-- and no call began it
pub duty-uncalled : (fs : List Frame) (d : Duty) → AreNested fs → duty_of fs ≡ Some d → cause_of fs ≢ cause.Call
duty-uncalled [] d alone has = cc
duty-uncalled (f ∷ []) d alone has = alone
duty-uncalled (f ∷ g ∷ fs) d alone has = let no : None ≡ Some d = sym alone.1 ∙ has in cc

-- EVERY EVENT
call_change-nested : (e : Environment) (c : Call) (n : ℕ) → AreNested e.frames → AreNested (call_change e c n).after.frames
call_change-nested e c n alone =
    let P : List Frame → Type 0 = λ fs. AreNested (ask_counted fs) in
    subst P (sym (answer-keeps e c n).frames) (counted-nested e.frames alone)

call_change-duties : (e : Environment) (c : Call) (n : ℕ) → duties_of (call_change e c n).after.frames ≡ duties_of e.frames
call_change-duties e c n = ap (λ fs. duties_of (ask_counted fs)) (answer-keeps e c n).frames ∙ counted-duties e.frames

pub nested-asked : (e : Environment) (c : Call) (n : ℕ) → e.frames ≢ [] → AreNested e.frames → AreNested (asked_change e c n).after.frames
nested-asked e c n stands alone =
    let P : List Frame → Type 0 = λ fs. AreNested fs in
    asked-by e c n (λ d. AreNested d.after.frames) (call_change-nested e c n alone)
    (λ receiver f args none. subst P (sym (enter_change-keeps receiver f args e).frames)
    (called-nested (callee_of e.heap f) (ask_counted e.frames) (stands-counted e.frames stands) refl refl (counted-nested e.frames alone)))

pub duties-asked : (e : Environment) (c : Call) (n : ℕ) → duties_of (asked_change e c n).after.frames ≡ duties_of e.frames
duties-asked e c n = asked-by e c n (λ d. duties_of d.after.frames ≡ duties_of e.frames) (call_change-duties e c n)
    (λ receiver f args none. ap duties_of (enter_change-keeps receiver f args e).frames ∙ counted-duties e.frames)

pub nested-ended : (e : Environment) (v : Option HandleId) (cut : Option Why) → AreNested e.frames → AreNested (end_change v cut e).after.frames
nested-ended e v cut alone =
    let P : List Frame → Type 0 = λ fs. AreNested fs in
    subst P (sym (ended-keeps v cut e).frames) (nested-tail e.frames alone)

-- the first frame, of a cause that is no call
pub nested-first : (f : Frame) (fs : List Frame) → fs ≡ [] → f.cause ≢ cause.Call → AreNested (f ∷ fs)
nested-first f fs none uncalled = let P : List Frame → Type 0 = λ gs. AreNested (f ∷ gs) in subst P (sym none) uncalled

-- no call begins the frame of a ticket
pub nested-ticket : (n : ℕ) (r : Registration) (e : Environment) → registration_at e.book n ≡ Some r → AreUncalled e.book → e.frames ≡ [] → AreNested (ticket_change n r e).after.frames
nested-ticket n r e there uncalled none = nested-first (frame_of_duty (due_info n r)) e.frames none (registered-holds (λ q. q.cause ≢ cause.Call) n e.book r there uncalled)

pub nested-init : (addon : ℕ) (e : Environment) → e.frames ≡ [] → AreNested (init_change addon e).after.frames
nested-init addon e none = nested-first (frame_of cause.Init addon 0) e.frames none (λ h. cc)
