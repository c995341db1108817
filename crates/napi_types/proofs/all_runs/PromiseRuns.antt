-- What a run tells of promises and their reactions may be told where it is, and in a run to its end each reaction begins.
use Rattle.std.proofs.Common.{◌≡◌, ◌∙◌, ℕ, zero, suc, Bool, true, false, not, List, [], ◌∷◌, ◌++◌, Some, refl, sym, subst}
use Rattle.std.specs.List.{All}
use Rattle.std.proofs.lemmas.List.{append-nil, append_assoc}
use Rattle.std.proofs.lemmas.List.Elements.{All-nil, All-cons, All-weaker}
use Rattle.napi_types.specs.declared.call.Ask.{Ask}
use Rattle.napi_types.specs.declared.entry.Cause.TheVariants as cause
use Rattle.napi_types.specs.declared.entry.Entry.{Entry}
use Rattle.napi_types.specs.plain.Lists.{has}
use Rattle.napi_types.specs.parts.Book.{is_owed, is_at, cause_at}
use Rattle.napi_types.specs.parts.Values.{starting_values}
use Rattle.napi_types.specs.environment.Environment.{Environment, OpenedWith, new_environment}
use Rattle.napi_types.specs.runs.Machine.{Machine}
use Rattle.napi_types.specs.runs.Run.{IsRunBy, after, final}
use Rattle.napi_types.specs.runs.Setting.{Setting, opens_with, opening_of, final_of}
use Rattle.napi_types.specs.runs.Step.{step}
use Rattle.napi_types.specs.all_runs.SettledPromises.{PromiseFact, MadeDeferred, SettledDeferred, AddedReaction, told_of, told_along, all_added, has_begun, MayBeTold, PromisesAreSettled}
use Rattle.napi_types.proofs.parts.Moved.{at-state}
use Rattle.napi_types.proofs.runs.Forms.{form-of}
use Rattle.napi_types.proofs.runs.NewNumbers.{next-new}
use Rattle.napi_types.proofs.all_runs.HeldHandles.{HandlesFit, opening-fits, fits-step}
use Rattle.napi_types.proofs.all_runs.Onces.{as_one, none-owed-at-end}
use Rattle.napi_types.proofs.all_runs.Orderly.{Orderly, along-orderly, orderly-opens}
use Rattle.napi_types.proofs.all_runs.PromiseBooks.{none-linked}
use Rattle.napi_types.proofs.all_runs.PromiseHistory.{history, IsFoundIn}
use Rattle.napi_types.proofs.all_runs.PromiseStates.{PromiseView, view, IsTold, IsKnown, IsOpen, IsHistoryOf}
use Rattle.napi_types.proofs.all_runs.PromiseSteps.{Sound, stands-at-call, promise-step}
use Rattle.napi_types.proofs.all_runs.PromiseTells.{Keeps, tells_one, tells_none}
use Rattle.napi_types.proofs.all_runs.QuietCalls.{NoLink}
use Rattle.napi_types.proofs.all_runs.SpentFrames.{FrameSpent, StandsSpent, spent-step}

-- WHAT MAY BE TOLD
-- each of these may be told after those and after the ones before it
abbrev MayFollow : List PromiseFact → List PromiseFact → Type 0
MayFollow ts [] = Unit {0}
MayFollow ts (x ∷ xs) = MayBeTold ts x × MayFollow (ts ++ x ∷ []) xs

-- so each may be told where it is
may-at : (ts before later : List PromiseFact) (e : PromiseFact) → MayFollow ts (before ++ e ∷ later) → MayBeTold (ts ++ before) e
may-at ts [] later e may = subst (λ us. MayBeTold us e) (sym (append-nil ts)) may.0
may-at ts (x ∷ before) later e may = subst (λ us. MayBeTold us e) (append_assoc ts (x ∷ []) before) (may-at (ts ++ x ∷ []) before later e may.1)

-- WHERE A RUN STARTS
starting-unlinked : All NoLink starting_values
starting-unlinked = search (All-cons, All-nil) depth 12

opening-kept : (given : OpenedWith) → IsHistoryOf (history []) (view (new_environment given))
opening-kept given = record {
  below = All-nil (λ (m : MadeDeferred). _);
  issued = All-nil (λ (m : MadeDeferred). _);
  settled = All-nil (λ (s : SettledDeferred). _);
  apart = All-nil (IsFoundIn []);
  unlinked = λ n above. none-linked n starting_values starting-unlinked;
  deferreds = All-nil (IsOpen (history []));
  known = All-nil (IsKnown (history []) starting_values);
  rise = tt;
  told = All-nil (IsTold (history []) false _ []);
  others = others;
  begun = All-nil (λ (t : ℕ). _);
  late = refl;
}
  where
    others : (n : ℕ) → cause_at [] n ≡ Some cause.Reaction → has (λ (a : AddedReaction). a.ticket) n [] ≡ true
    others zero is = let no : ⊥ = cc in absurd no
    others (suc n) is = let no : ⊥ = cc in absurd no

opens-sound : (s : Setting) → Sound [] (opening_of s).env
opens-sound s = record { kept = opening-kept (opens_with s); spent = All-nil (FrameSpent []); fits = opening-fits (opens_with s) }

-- ALONG A RUN
-- what the rest of a run tells after this, and where it then is
record TellsOn (ts : List PromiseFact) (news : List PromiseFact) (m : Machine) : Type 0 where
  pub may : MayFollow ts news
  pub sound : Sound (ts ++ news) m.env

run-tells : (m : Machine) (bs : List Ask) (xs : List Entry) → Orderly m → IsRunBy m bs xs → (ts : List PromiseFact) → Sound ts m.env
    → TellsOn ts (told_along m bs xs) (final m bs xs)
run-tells = along-orderly (λ m bs xs. (ts : List PromiseFact) → Sound ts m.env → TellsOn ts (told_along m bs xs) (final m bs xs))
    (λ m ts sound. record { may = tt; sound = subst (λ us. Sound us m.env) (sym (append-nil ts)) sound })
    (λ m a bs x xs h next s k rest ts sound.
    let here : Keeps ts (told_of m x (after m a x)) (view (after m a x).env) =
    subst (λ y. Keeps ts (told_of m y (after m a x)) (view (after m a x).env)) (sym next.0)
    (promise-step ts m (step m a x) h (next-new m a x next) s next.1 (stands-at-call m (step m a x) (form-of m a x next) next.1) sound) in
    more ts (told_of m x (after m a x)) (view (after m a x).env) here (told_along (after m a x) bs xs) (after m a x).env refl (final (after m a x) bs xs)
    (spent-step m (step m a x) s sound.spent) (fits-step m (step m a x) s sound.fits) (λ us. rest us))
  where
    more : (ts news : List PromiseFact) (v : PromiseView) → Keeps ts news v → (later : List PromiseFact) (e : Environment) → view e ≡ v → (n : Machine)
        → StandsSpent e → HandlesFit e → ((us : List PromiseFact) → Sound us e → TellsOn us later n) → TellsOn ts (news ++ later) n
    more ts _ _ (tells_none v kept) later e same n spent fits rest = rest ts (record { kept = subst (IsHistoryOf (history ts)) (sym same) kept; spent = spent; fits = fits })
    more ts _ _ (tells_one x v may kept) later e same n spent fits rest =
        let t : TellsOn (ts ++ x ∷ []) later n =
        rest (ts ++ x ∷ []) (record { kept = subst (IsHistoryOf (history (ts ++ x ∷ []))) (sym same) kept; spent = spent; fits = fits }) in
        record { may = (may, t.may); sound = subst (λ us. Sound us n.env) (append_assoc ts (x ∷ []) later) t.sound }

-- THE LAW
-- where no ticket has its frame to come, each reaction has begun
all-begun : (ts : List PromiseFact) (e : Environment) → Sound ts e → ((t : ℕ) → is_at is_owed e.book t ≡ false) → All (λ a. has_begun ts a.ticket ≡ true) (all_added ts)
all-begun ts e sound none =
    All-weaker (IsTold (history ts) _ e.promises e.book) (λ (a : AddedReaction). has_begun ts a.ticket ≡ true)
    (λ a it. by (has_begun ts a.ticket) (sym (none a.ticket) ∙ at-state is_owed e.book a.ticket it.registration it.there ∙ it.owed)) (all_added ts) sound.kept.told
  where
    by : (b : Bool) → false ≡ not b → b ≡ true
    by true is = refl
    by false is = let no : ⊥ = cc in absurd no

pub promises-kept : PromisesAreSettled
promises-kept s bs xs whole =
    let t : TellsOn [] (told_along (opening_of s) bs xs) (final_of s bs xs) = run-tells (opening_of s) bs xs (orderly-opens s) whole.run.steps [] (opens-sound s) in
    record {
      lawful = λ before later e parts. may-at [] before later e (subst (MayFollow []) parts t.may);
      begun = all-begun (told_along (opening_of s) bs xs) (final_of s bs xs).env t.sound
          (λ n. by (is_at is_owed (final_of s bs xs).env.book n) (none-owed-at-end s bs xs n whole));
    }
  where
    by : (b : Bool) → as_one b ≡ 0 → b ≡ false
    by true is = cc
    by false is = refl
