-- What is asked by the plans, and what the registers keep.
use Rattle.std.proofs.Common.{◌≡◌, ◌≢◌, ◌<◌, ℕ, Bool, true, false, cond, List, [], ◌∷◌, length, set, drop, refl, ap, subst, sym, ◌∙◌, arith, Option, Some, None, IfSome, inl, inr}
use Rattle.std.specs.List.{All}
use Rattle.std.proofs.lemmas.List.{get_or-set_same, get_or-set_other, length-set, drop-set-lt}
use Rattle.std.proofs.lemmas.List.Elements.{All-head}
use Rattle.std.proofs.lemmas.Bool.{cases_eq}
use Rattle.napi_types.specs.declared.call.Ask.{Ask}
use Rattle.napi_types.specs.declared.call.Ask.TheVariants as ask
use Rattle.napi_types.specs.declared.duties.DueInfo.{DueInfo}
use Rattle.napi_types.specs.declared.entry.Duty.{Duty}
use Rattle.napi_types.specs.declared.entry.Entry.{Entry}
use Rattle.napi_types.specs.declared.entry.Reply.{Reply}
use Rattle.napi_types.specs.parts.Frames.{Frame, duty_of, ask_counted, at_last_ask}
use Rattle.napi_types.specs.scripts.Plans.{Plan, plan_of, Registers, registers_of}
use Rattle.napi_types.specs.scripts.Registers.{plan_ask, registers_after_reply, with_gifts}
use Rattle.napi_types.specs.hub.Hub.{Hub}
use Rattle.napi_types.specs.runs.Plan.{frame_ask, frames_ask, addon_after_reply, caller_after_reply, with_addon_gifts}
use Rattle.napi_types.specs.runs.Setting.{Setting}
use Rattle.addon_trait.specs.Addons.{OthersStay}
use Rattle.env_core.specs.Core.{Core}
use Rattle.env_loop.specs.Recording.{AddonStates, IsOf, AgreesWherePlanned, AgreesWith, IsRecorded}
use Rattle.env_loop.specs.FollowedRuns.{Asks}
use Rattle.env_loop.specs.RecordedRuns.{IsSoundEnvironment}
use Rattle.env_loop.specs.Turns.{IsAskIn, ReplyIsNoted, OnlyGiven, OnlyInnermostChanges}
use Rattle.env_loop.proofs.FrameTurns.{InFrame, in-stands, in-there}

-- WHAT IS ASKED, AND WHAT IS KEPT
-- a frame is taken to ask what its plan gives, where it makes asks and one is told
planned-ask : (p q : Plan) (f : Frame) (mine : List ℕ) (a : Ask) → q ≡ p → IfSome p (λ t. a ≡ plan_ask t mine f.entry f.asks) → a ≡ frame_ask q mine f a
planned-ask p None f mine a e told = refl
planned-ask None (Some q) f mine a e told = cc
planned-ask (Some p) (Some q) f mine a e told = told ∙ cc

ask-taken : (makes : Bool) (ps : List Plan) (q : Plan) (all : Registers) (f : Frame) (a : Ask) → q ≡ plan_of ps f.addon → IsAskIn makes ps all f a
    → a ≡ cond makes (frame_ask q (registers_of all f.addon) f a) (ask.Leave None)
ask-taken true ps q all f a same told = planned-ask (plan_of ps f.addon) q f (registers_of all f.addon) a same told
ask-taken false ps q all f a same told = told

-- the same from the run's registers
own-ask : (p : Plan) (f : Frame) (mine own : List ℕ) (a : Ask) → AgreesWherePlanned p mine own → frame_ask p mine f a ≡ frame_ask p own f a
own-ask None f mine own a agrees = refl
own-ask (Some p) f mine own a agrees = ap (λ rs. plan_ask p rs f.entry f.asks) agrees

pub own-asks : (s : Setting) (all own : Registers) (fs : List Frame) (a : Ask) → All (λ f. f.addon < length s.plans) fs → AgreesWith s.plans all own
    → Asks s all fs a → Asks s own fs a
own-asks s all own [] a there agrees asked = asked
own-asks s all own (f ∷ fs) a there agrees asked =
    let below : f.addon < length s.plans = All-head (λ (x : Frame). x.addon < length s.plans) f fs there in
    asked ∙ ap (λ b. cond f.makes_asks b (ask.Leave None))
    (own-ask (plan_of s.plans f.addon) f (registers_of all f.addon) (registers_of own f.addon) a (agrees f.addon below))

agrees-registers_after_reply : (p q : Plan) (f : Frame) (mine own now : List ℕ) (r : Reply) → q ≡ p → AgreesWherePlanned q mine own
    → IfSome p (λ t. now ≡ registers_after_reply t mine f.entry f.asks r) → AgreesWherePlanned q now (addon_after_reply q own f r)
agrees-registers_after_reply p None f mine own now r e agrees told = tt
agrees-registers_after_reply None (Some q) f mine own now r e agrees told = cc
agrees-registers_after_reply (Some p) (Some q) f mine own now r e agrees told = told ∙ cc

pub agrees-with_gifts : (q : Plan) (gifts mine own now : List ℕ) → AgreesWherePlanned q mine own → now ≡ with_gifts gifts mine
    → AgreesWherePlanned q now (with_gifts gifts own)
agrees-with_gifts None gifts mine own now agrees e = tt
agrees-with_gifts (Some q) gifts mine own now agrees e = e ∙ ap (with_gifts gifts) agrees

-- the registers still agree where those of one addon agree anew, and the others are as they were
pub agrees-set : (ps : List Plan) (all now own : Registers) (i : ℕ) (v : List ℕ) → length own ≡ length ps → AgreesWith ps all own
    → OthersStay all now i → AgreesWherePlanned (plan_of ps i) (registers_of now i) v → AgreesWith ps now (set own i v)
agrees-set ps all now own i v count agrees others here k below = elim (cases_eq k i) [
  | inl e ↦
      let inside : i < length own = omega (arith, count, below, e) in
      let A : ℕ → Type 0 = λ m. AgreesWherePlanned (plan_of ps m) (registers_of now m) (registers_of (set own i v) m) in
      let B : List ℕ → Type 0 = λ x. AgreesWherePlanned (plan_of ps i) (registers_of now i) x in
      subst A (sym e) (subst B (sym (get_or-set_same own i v [] inside)) here)
  | inr ne ↦
      let C : List ℕ → Type 0 = λ x. AgreesWherePlanned (plan_of ps k) x (registers_of (set own i v) k) in
      let D : List ℕ → Type 0 = λ x. AgreesWherePlanned (plan_of ps k) (registers_of all k) x in
      let mine : registers_of now k ≡ registers_of all k = ap (λ l. registers_of l k) others ∙ get_or-set_other all i k (registers_of now i) [] ne in
      subst C (sym mine) (subst D (sym (get_or-set_other own i k v [] ne)) (agrees k below))
]

-- the registers of the run, where the innermost of these frames is told a reply
pub record Kept (ps : List Plan) (now : Registers) (own : Registers) : Type 0 where
  pub count : length own ≡ length ps
  pub agrees : AgreesWith ps now own

told-registers_after_reply : (ps plans : List Plan) (all own now : Registers) (fs : List Frame) (r : Reply) → All (λ f. f.addon < length ps) fs
    → ((addon : ℕ) → addon < length ps → plan_of ps addon ≡ plan_of plans addon) → length own ≡ length ps → AgreesWith ps all own
    → ReplyIsNoted plans all fs r now → Kept ps now (caller_after_reply ps own fs r)
told-registers_after_reply ps plans all own now [] r there first count agrees told =
    let P : Registers → Type 0 = λ x. AgreesWith ps x own in
    record { count = count; agrees = subst P (sym told) agrees }
told-registers_after_reply ps plans all own now (f ∷ fs) r there first count agrees told =
    let i : ℕ = f.addon in
    let below : i < length ps = All-head (λ (x : Frame). x.addon < length ps) f fs there in
    let v : List ℕ = addon_after_reply (plan_of ps i) (registers_of own i) f r in
    record {
      count = length-set own i v ∙ count;
      agrees = agrees-set ps all now own i v count agrees told.0
          (agrees-registers_after_reply (plan_of plans i) (plan_of ps i) f (registers_of all i) (registers_of own i) (registers_of now i) r (first i below)
          (agrees i below) told.1);
    }

-- the addons that are no addons of the script keep their registers
pub told-others : (n : ℕ) (plans : List Plan) (all now : Registers) (fs : List Frame) (r : Reply) → All (λ f. f.addon < n) fs → ReplyIsNoted plans all fs r now
    → drop n now ≡ drop n all
told-others n plans all now [] r there told = ap (drop n) told
told-others n plans all now (f ∷ fs) r there told =
    ap (drop n) told.0 ∙ drop-set-lt n all f.addon (registers_of now f.addon) (All-head (λ (x : Frame). x.addon < n) f fs there)

-- the same where the registers and the plans are those of before
pub told-from : (ps qs : List Plan) (all mid now : Registers) (fs : List Frame) (r : Reply) → qs ≡ ps → mid ≡ all → ReplyIsNoted qs mid fs r now
    → ReplyIsNoted ps all fs r now
told-from ps qs all mid now fs r plans registers told =
    let P : List Plan → Type 0 = λ x. ReplyIsNoted x all fs r now in
    let Q : Registers → Type 0 = λ x. ReplyIsNoted qs x fs r now in
    subst P plans (subst Q registers told)

-- WHOSE REGISTERS CHANGE
-- no addon's, where a frame begins that no duty began, or none, ..
pub none-touched : (before after : List Frame) (all : Registers) → before ≡ [] → duty_of after ≡ None → OnlyInnermostChanges before after all all
none-touched [] [] all alone plain = refl
none-touched [] (g ∷ gs) all alone plain =
    let P : Option Duty → Type 0 = λ d. OnlyGiven d g.addon all all in
    subst P (sym plain) refl
none-touched (f ∷ fs) after all alone plain = cc

-- .. that of the frame that a duty begins, ..
pub begun-touched : (before rest : List Frame) (g : Frame) (d : Duty) (all now : Registers) → before ≡ [] → g.duty ≡ Some d → OthersStay all now g.addon
    → OnlyInnermostChanges before (g ∷ rest) all now
begun-touched [] rest g d all now alone is others =
    let P : Option Duty → Type 0 = λ o. OnlyGiven o g.addon all now in
    subst P (sym is) others
begun-touched (f ∷ fs) rest g d all now alone is others = cc

-- that of the frame that is told the reply to its ask, ..
pub asking-touched : (ps : List Plan) (all now : Registers) (before fs : List Frame) (r : Reply) → before ≢ [] → ReplyIsNoted ps all fs r now
    → OnlyInnermostChanges before (ask_counted fs) all now
asking-touched ps all now [] fs r some told = absurd (some refl)
asking-touched ps all now (f ∷ before) [] r some told = told
asking-touched ps all now (f ∷ before) (g ∷ gs) r some told = told.0

-- .. of the caller, which is told how its call ended, ..
pub caller-touched : (ps : List Plan) (all now : Registers) (before fs : List Frame) (r : Reply) → before ≢ [] → ReplyIsNoted ps all (at_last_ask fs) r now
    → OnlyInnermostChanges before fs all now
caller-touched ps all now [] fs r some told = absurd (some refl)
caller-touched ps all now (f ∷ before) [] r some told = told
caller-touched ps all now (f ∷ before) (g ∷ gs) r some told = told.0

-- .. and of the frame that begins
pub callee-touched : (all now : Registers) (before rest : List Frame) (g : Frame) → before ≢ [] → OthersStay all now g.addon
    → OnlyInnermostChanges before (g ∷ rest) all now
callee-touched all now [] rest g some others = absurd (some refl)
callee-touched all now (f ∷ before) rest g some others = others

-- WHAT IS GIVEN
-- the registers of an addon that was given its gifts, and those of the others
pub given-there : (all now : Registers) (i : ℕ) (gifts : List ℕ) → i < length all → now ≡ with_addon_gifts all i gifts
    → registers_of now i ≡ with_gifts gifts (registers_of all i)
given-there all now i gifts inside e = ap (λ l. registers_of l i) e ∙ get_or-set_same all i (with_gifts gifts (registers_of all i)) [] inside

pub others-given : (all now : Registers) (i : ℕ) (gifts : List ℕ) → i < length all → now ≡ with_addon_gifts all i gifts → OthersStay all now i
others-given all now i gifts inside e = e ∙ ap (λ v. set all i v) (sym (given-there all now i gifts inside e))

-- the addons that are no addons of the script keep theirs
pub given-others : (n : ℕ) (all now : Registers) (i : ℕ) (gifts : List ℕ) → i < n → now ≡ with_addon_gifts all i gifts → drop n now ≡ drop n all
given-others n all now i gifts below e = ap (drop n) e ∙ drop-set-lt n all i (with_gifts gifts (registers_of all i)) below

-- what was given, where the registers are those of before
pub given-from : (all mid now : Registers) (i : ℕ) (gifts : List ℕ) → mid ≡ all → now ≡ with_addon_gifts mid i gifts → now ≡ with_addon_gifts all i gifts
given-from all mid now i gifts registers given = given ∙ ap (λ x. with_addon_gifts x i gifts) registers

-- they are the run's, where the run was given them too
pub given-kept : (ps : List Plan) (all own now : Registers) (i : ℕ) (gifts : List ℕ) → length own ≡ length ps → AgreesWith ps all own → i < length ps
    → i < length all
    → now ≡ with_addon_gifts all i gifts → Kept ps now (with_addon_gifts own i gifts)
given-kept ps all own now i gifts count agrees inside there given =
    let v : List ℕ = with_gifts gifts (registers_of own i) in
    record {
      count = length-set own i v ∙ count;
      agrees =
          agrees-set ps all now own i v count agrees (others-given all now i gifts there given)
          (agrees-with_gifts (plan_of ps i) gifts (registers_of all i) (registers_of own i) (registers_of now i) (agrees i inside)
          (given-there all now i gifts there given));
    }

-- IN A RECORDED RUN
-- what the innermost frame asks is what the script's plans give, ..
pub asks-in : {ps : List Plan} {core : Core} {all : Registers} {f : Frame} {a : Ask} → InFrame ps core.env all f a → (s : Setting) → IsOf s ps core
    → Asks s all core.env.frames a
asks-in {ps} {core} {all} {f} {a} i s of =
    let there : f.addon < core.env.addons = in-there i in
    ask-taken f.makes_asks ps (plan_of s.plans f.addon) all f a (of.first f.addon (omega (arith, of.count, there))) i.asked
    ∙ ap (λ gs. frames_ask s.plans all gs a) (sym (in-stands i))

-- .. and what they give from the run's registers
pub asks-of-run : {ps : List Plan} {core : Core} {hub : Hub} {history : List Entry} {all : AddonStates} {firsts : List (List DueInfo)} (s : Setting)
    → IsOf s ps core
    → IsSoundEnvironment core.env → (r : IsRecorded s core hub history all firsts) → (a : Ask) → Asks s all.registers core.env.frames a
    → a ≡ frames_ask s.plans r.own core.env.frames a
asks-of-run {ps} {core} {hub} {history} {all} {firsts} s of sound r a asked =
    let below : All (λ f. f.addon < length s.plans) core.env.frames =
    subst (λ (n : ℕ). All (λ f. f.addon < n) core.env.frames) (sym of.count) sound.owned.frames in
    own-asks s all.registers r.own core.env.frames a below r.agrees asked

pub asked-in : {ps : List Plan} {core : Core} {all : AddonStates} {f : Frame} {a : Ask} → InFrame ps core.env all.registers f a → (s : Setting) (hub : Hub)
    (history : List Entry) (firsts : List (List DueInfo)) → IsOf s ps core
    → (r : IsRecorded s core hub history all firsts) → a ≡ frames_ask s.plans r.own core.env.frames a
asked-in {ps} {core} {all} {f} {a} i s hub history firsts of r = asks-of-run s of i.sound r a (asks-in i s of)

-- what is told to the innermost of these frames is what the run's registers keep
pub registers_after_reply-in : (s : Setting) (ps : List Plan) (core : Core) (hub : Hub) (history : List Entry) (all : AddonStates)
    (firsts : List (List DueInfo)) (now : Registers)
    (fs : List Frame) (r : Reply) → IsOf s ps core → (rec : IsRecorded s core hub history all firsts)
    → All (λ f. f.addon < core.env.addons) fs → ReplyIsNoted ps all.registers fs r now → Kept s.plans now (caller_after_reply s.plans rec.own fs r)
registers_after_reply-in s ps core hub history all firsts now fs r of rec there told =
    let below : All (λ f. f.addon < length s.plans) fs = subst (λ (n : ℕ). All (λ f. f.addon < n) fs) (sym of.count) there in
    told-registers_after_reply s.plans ps all.registers rec.own now fs r below of.first rec.count rec.agrees told
