-- Where every plan is told, the asks of a run are those of the plans.
use Rattle.std.proofs.Common.{◌≡◌, ℕ, zero, suc, true, cond, List, [], ◌∷◌, IsTrue, refl, ap, subst, ◌∙◌, Some, None, is_some}
use Rattle.std.specs.Option.{unwrap_or}
use Rattle.std.specs.List.{list_all}
use Rattle.napi_types.specs.declared.entry.Actor.{Actor}
use Rattle.napi_types.specs.declared.entry.Actor.TheVariants as actor
use Rattle.napi_types.specs.declared.entry.Entry.{Entry}
use Rattle.napi_types.specs.declared.call.Ask.{Ask}
use Rattle.napi_types.specs.declared.call.Ask.TheVariants as ask
use Rattle.napi_types.specs.plain.Lists.{head, tail}
use Rattle.napi_types.specs.parts.Frames.{Frame}
use Rattle.napi_types.specs.scripts.Plans.{Plan, plan_of, Registers, registers_of, loaded_registers}
use Rattle.napi_types.specs.runs.Machine.{Machine}
use Rattle.napi_types.specs.runs.Plan.{frame_ask, frames_ask, asked, asked_along, registers_after}
use Rattle.napi_types.specs.runs.Run.{after, IsRunBy}
use Rattle.napi_types.specs.runs.Setting.{Setting, opening_of}
use Rattle.napi_types.proofs.plain.Conditions.{and-left, and-right}
use Rattle.napi_types.proofs.runs.Runs.{along-entries}
use Rattle.machine_laws.specs.Computing.{steps, entries_of_steps}
use Rattle.machine_laws.specs.LegalRuns.{told_asks_along, IsRun, all_told, told_asks}
use Rattle.machine_laws.proofs.Computing.{entries-of}

all-of-at : (ps : List Plan) (a : ℕ) → IsTrue (list_all is_some ps) → is_some (plan_of ps a) ≡ true
all-of-at [] a h = refl
all-of-at (p ∷ ps) zero h = and-left (is_some p) (list_all is_some ps) h
all-of-at (p ∷ ps) (suc a) h = all-of-at ps a (and-right (is_some p) (list_all is_some ps) h)

told-ask : (p : Plan) (rs : List ℕ) (f : Frame) (a b : Ask) → is_some p ≡ true → frame_ask p rs f a ≡ frame_ask p rs f b
told-ask (Some p) rs f a b h = refl
told-ask None rs f a b h = cc

told-frames : (ps : List Plan) (rss : Registers) (fs : List Frame) (a b : Ask) → IsTrue (list_all is_some ps)
    → frames_ask ps rss fs a ≡ frames_ask ps rss fs b
told-frames ps rss [] a b h = refl
told-frames ps rss (f ∷ fs) a b h = ap (λ c. cond f.makes_asks c (ask.Leave None)) (told-ask (plan_of ps f.addon) (registers_of rss f.addon) f a b (all-of-at ps f.addon h))

told-actor : (ps : List Plan) (rss : Registers) (m : Machine) (who : Actor) (a b : Ask) → IsTrue (list_all is_some ps)
    → asked ps rss m a who ≡ asked ps rss m b who
told-actor ps rss m actor.Env a b h = told-frames ps rss m.env.frames a b h
told-actor ps rss m _ a b h = refl

-- the asks of a run by told plans are those that the entries give
pub asks-unique : (ps : List Plan) (rss : Registers) (m : Machine) (bs : List Ask) (xs : List Entry) → IsTrue (list_all is_some ps)
    → IsRunBy m bs xs → bs ≡ asked_along ps rss m bs xs → bs ≡ told_asks_along ps rss m xs
asks-unique ps rss m bs xs h r =
    along-entries (λ m bs xs. (rss : Registers) → bs ≡ asked_along ps rss m bs xs → bs ≡ told_asks_along ps rss m xs) (λ m rss e. refl)
    (λ m b bs x xs next rest rss e.
    let here : b ≡ asked ps rss m (ask.Leave None) x.actor = ap (λ l. unwrap_or (head l) b) e ∙ told-actor ps rss m x.actor b (ask.Leave None) h in
    let P : Ask → Type 0 = λ a. b ∷ bs ≡ a ∷ told_asks_along ps (registers_after ps rss m a x) (after m a x) xs in
    subst P here (ap (λ l. b ∷ l) (rest (registers_after ps rss m b x) (ap tail e)))) m bs xs r rss

-- a run of a script whose plans are all told has the entries that its told asks compute
pub told-run : (s : Setting) (xs : List Entry) → IsTrue (all_told s) → IsRun s xs → xs ≡ entries_of_steps (steps (opening_of s) (told_asks s xs) xs)
told-run s xs h r =
    let same : r.0 ≡ told_asks s xs = asks-unique s.plans (loaded_registers s.plans) (opening_of s) r.0 xs h r.1.steps r.1.asked in
    let P : List Ask → Type 0 = λ bs. xs ≡ entries_of_steps (steps (opening_of s) bs xs) in
    subst P same (entries-of (opening_of s) r.0 xs r.1.steps)
