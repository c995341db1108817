-- The frames that stand, and the innermost one of them.
use Rattle.std.proofs.Common.{◌≡◌, ◌≢◌, ◌<◌, ◌≤◌, ℕ, ◌-◌, nat_lt, Bool, true, false, List, [], ◌∷◌, refl, ap, subst, sym, ◌∙◌, arith, Option, Some, None}
use Rattle.std.specs.List.{All}
use Rattle.std.proofs.lemmas.List.Elements.{All-head, All-tail, All-cons}
use Rattle.napi_types.specs.declared.call.Ask.{Ask}
use Rattle.napi_types.specs.declared.call.Ask.TheVariants as ask
use Rattle.napi_types.specs.declared.call.Call.{Call}
use Rattle.napi_types.specs.declared.entry.Why.{Why}
use Rattle.napi_types.specs.declared.ids.HandleId.{HandleId}
use Rattle.napi_types.specs.plain.Lists.{head, tail}
use Rattle.napi_types.specs.plain.Room.{need}
use Rattle.napi_types.specs.parts.Duties.{AreNested}
use Rattle.napi_types.specs.parts.Frames.{Frame, at_last_ask, is_asking, asks_made, most_asks, duty_of, is_hub_duty}
use Rattle.napi_types.specs.scripts.Plans.{Plan, Registers}
use Rattle.napi_types.specs.environment.Changes.{may_ask, may_call}
use Rattle.napi_types.specs.environment.Ends.{end_change}
use Rattle.napi_types.specs.environment.Entering.{asked_change}
use Rattle.napi_types.specs.environment.Environment.{Environment}
use Rattle.napi_types.specs.environment.Hooked.{IsHooked}
use Rattle.napi_types.specs.environment.Owners.{IsOwned}
use Rattle.napi_types.proofs.environment.AnswersKeep.{course-parts}
use Rattle.napi_types.proofs.environment.FrameChanges.{KeepsButFrame, ended-keeps, KeepsButFrames, asked_change-fits}
use Rattle.napi_types.proofs.environment.HookedSteps.{hooked-asked, hooked-ended, GivesNew}
use Rattle.napi_types.proofs.environment.Owners.{owned-asked, owned-ended, within-asked, within-ended}
use Rattle.napi_types.proofs.environment.Registrations.{AreUncalled, uncalled-asked, uncalled-ended}
use Rattle.napi_types.proofs.environment.StandingFrames.{nested-asked, nested-ended}
use Rattle.env_loop.specs.RecordedRuns.{IsSoundEnvironment}
use Rattle.env_loop.specs.Turns.{IsAskIn, IsAskOf}
use Rattle.env_loop.proofs.TurnSteps.{two_may}

-- WHERE A FRAME STANDS
pub head-stands : (fs : List Frame) (f : Frame) → head fs ≡ Some f → fs ≡ f ∷ tail fs
head-stands [] f h = cc
head-stands (g ∷ gs) f h = let e : g ≡ f = cc in ap (λ x. x ∷ gs) e

-- the frames as the innermost one and those around it
pub record HasTopFrame (fs : List Frame) : Type 0 where
  pub top : Frame
  pub rest : List Frame
  pub is : fs ≡ top ∷ rest

pub stands-so : (fs : List Frame) → fs ≢ [] → HasTopFrame fs
stands-so [] some = absurd (some refl)
stands-so (f ∷ fs) some = record { top = f; rest = fs; is = refl }

pub stands-some : (fs : List Frame) (f : Frame) → head fs ≡ Some f → fs ≢ []
stands-some [] f h = λ none. cc
stands-some (g ∷ gs) f h = λ none. cc

pub stands-as : (fs gs : List Frame) → fs ≡ gs → gs ≢ [] → fs ≢ []
stands-as fs gs same some = λ none. some (sym same ∙ none)

asks-told : (fs : List Frame) (f : Frame) → head fs ≡ Some f → f.asks ≡ asks_made fs
asks-told [] f h = cc
asks-told (g ∷ gs) f h = let e : g ≡ f = cc in ap (λ (x : Frame). x.asks) (sym e)

pub duty-told : (fs : List Frame) (f : Frame) → head fs ≡ Some f → is_hub_duty f.duty ≡ is_hub_duty (duty_of fs)
duty-told fs f h = ap (λ gs. is_hub_duty (duty_of gs)) (sym (head-stands fs f h))

pub head-below : (n : ℕ) (fs : List Frame) (f : Frame) → head fs ≡ Some f → All (λ x. x.addon < n) fs → f.addon < n
head-below n fs f h all =
    let P : List Frame → Type 0 = λ l. All (λ x. x.addon < n) l in
    All-head (λ (x : Frame). x.addon < n) f (tail fs) (subst P (head-stands fs f h) all)

pub head-within : (fs : List Frame) (f : Frame) → head fs ≡ Some f → All (λ x. x.asks ≤ most_asks) fs → f.asks ≤ most_asks
head-within fs f h all =
    let P : List Frame → Type 0 = λ l. All (λ x. x.asks ≤ most_asks) l in
    All-head (λ (x : Frame). x.asks ≤ most_asks) f (tail fs) (subst P (head-stands fs f h) all)

pub tail-below : (n : ℕ) (fs : List Frame) → All (λ f. f.addon < n) fs → All (λ f. f.addon < n) (at_last_ask (tail fs))
tail-below n [] all = all
tail-below n (f ∷ []) all = All-tail (λ (x : Frame). x.addon < n) f [] all
tail-below n (f ∷ g ∷ gs) all =
    let rest : All (λ x. x.addon < n) (g ∷ gs) = All-tail (λ (x : Frame). x.addon < n) f (g ∷ gs) all in
    All-cons (λ (x : Frame). x.addon < n) (record g { asks = g.asks - 1 }) gs (All-head (λ (x : Frame). x.addon < n) g gs rest)
    (All-tail (λ (x : Frame). x.addon < n) g gs rest)

below-most : (fs : List Frame) (n : ℕ) → asks_made fs ≡ n → n < most_asks → nat_lt (asks_made fs) most_asks ≡ true
below-most fs n e h = ap (λ k. nat_lt k most_asks) e ∙ lt-true n most_asks h
  where
    lt-true : (a b : ℕ) → a < b → nat_lt a b ≡ true
    lt-true a b k = grind arith

-- IN A FRAME
-- the innermost frame of a sound environment asks this, as its plan gives it where one is told and where it makes asks
pub record InFrame (ps : List Plan) (e : Environment) (all : Registers) (f : Frame) (a : Ask) : Type 0 where
  pub sound : IsSoundEnvironment e
  pub top : head e.frames ≡ Some f
  pub asked : IsAskOf ps all f a

pub in-stands : {ps : List Plan} {e : Environment} {all : Registers} {f : Frame} {a : Ask} → InFrame ps e all f a → e.frames ≡ f ∷ tail e.frames
in-stands i = head-stands _ _ i.top

pub in-some : {ps : List Plan} {e : Environment} {all : Registers} {f : Frame} {a : Ask} → InFrame ps e all f a → e.frames ≢ []
in-some i = stands-some _ _ i.top

-- its addon is there
pub in-there : {ps : List Plan} {e : Environment} {all : Registers} {f : Frame} {a : Ask} → InFrame ps e all f a → f.addon < e.addons
in-there i = head-below _ _ _ i.top i.sound.owned.frames

-- it makes asks, where it asks a call
makes-calls : (makes : Bool) (ps : List Plan) (all : Registers) (f : Frame) (a : Ask) (c : Call) → IsAskIn makes ps all f a → ask.Do c ≡ a → makes ≡ true
makes-calls true ps all f a c asked is = refl
makes-calls false ps all f a c asked is = let no : ask.Do c ≡ ask.Leave None = is ∙ asked in cc

pub in-makes : {ps : List Plan} {e : Environment} {all : Registers} {f : Frame} {a : Ask} → InFrame ps e all f a → (c : Call) → ask.Do c ≡ a
    → f.makes_asks ≡ true
in-makes {ps} {e} {all} {f} {a} i c is = makes-calls f.makes_asks ps all f a c i.asked is

-- it may ask, and call
pub in-spare : {ps : List Plan} {e : Environment} {all : Registers} {f : Frame} {a : Ask} → InFrame ps e all f a → f.asks < most_asks
    → asks_made e.frames < most_asks
in-spare i below = subst (λ (n : ℕ). n < most_asks) (asks-told _ _ i.top) below

pub in-asks : {ps : List Plan} {e : Environment} {all : Registers} {f : Frame} {a : Ask} → InFrame ps e all f a → f.asks < most_asks → may_ask e ≡ true
in-asks {ps} {e} {all} {f} {a} i below = below-most e.frames f.asks (ap asks_made (in-stands i)) below

pub in-calls : {ps : List Plan} {e : Environment} {all : Registers} {f : Frame} {a : Ask} → InFrame ps e all f a → (c : Call) → ask.Do c ≡ a
    → f.asks < most_asks
    → may_call e ≡ true
in-calls {ps} {e} {all} {f} {a} i c is below = two_may (may_ask e) (is_asking e.frames) (in-asks i below) (ap is_asking (in-stands i) ∙ in-makes i c is)

-- THE ENVIRONMENT STAYS SOUND
-- where its frames do
sound-after : (old new : Environment) → old.frames ≢ [] → IsSoundEnvironment old → new.opened ≡ old.opened → new.addons ≡ old.addons → new.phase ≡ old.phase
    → IsOwned old.addons new → All (λ x. x.asks ≤ most_asks) new.frames → AreNested new.frames → AreUncalled new.book → IsHooked new → IsSoundEnvironment new
sound-after old new some s opened addons same owned asks nested uncalled hooked =
    let P : ℕ → Type 0 = λ n. IsOwned n new in
    record {
      opened = opened ∙ s.opened;
      owned = subst P (sym addons) owned;
      asks = asks;
      nested = nested;
      uncalled = uncalled;
      hooked = hooked;
      gone = λ g. absurd (some (s.gone (sym same ∙ g)));
    }

-- after a call, ..
pub sound-asked : {ps : List Plan} {e : Environment} {all : Registers} {f : Frame} {a : Ask} → InFrame ps e all f a → f.asks < most_asks → (c : Call) (n : ℕ)
    → GivesNew e (asked_change e c n).entry → IsSoundEnvironment (asked_change e c n).after
sound-asked {ps} {e} {all} {f} {a} i below c n new =
    let k : KeepsButFrames e (asked_change e c n).after (need c) = asked_change-fits e c n in
    let course = course-parts e (asked_change e c n).after k.course in
    sound-after e (asked_change e c n).after (in-some i) i.sound course.opened course.addons course.phase (owned-asked e.addons e c n (in-some i) i.sound.owned)
    (within-asked e c n (in-spare i below) i.sound.asks)
    (nested-asked e c n (in-some i) i.sound.nested) (uncalled-asked e c n i.sound.uncalled) (hooked-asked e c n new i.sound.hooked)

-- .. and after the end of a frame
pub sound-ended : (e : Environment) → IsSoundEnvironment e → e.frames ≢ [] → (v : Option HandleId) (cut : Option Why)
    → IsSoundEnvironment (end_change v cut e).after
sound-ended e sound some v cut =
    let k : KeepsButFrame e (end_change v cut e).after = ended-keeps v cut e in
    let course = course-parts e (end_change v cut e).after k.course in
    sound-after e (end_change v cut e).after some sound course.opened course.addons course.phase (owned-ended e.addons e v cut sound.owned)
    (within-ended e v cut sound.asks)
    (nested-ended e v cut sound.nested) (uncalled-ended e v cut sound.uncalled) (hooked-ended v cut e sound.hooked)
