-- Small tales that the law on promises refuses: what no run tells.
use Rattle.std.proofs.Common.{◌≡◌, ◌∙◌, true, false, List, [], ◌∷◌, ◌++◌, Some, refl, ap, sym, subst, arith}
use Rattle.std.proofs.lemmas.List.Elements.{All-head}
use Rattle.std.proofs.lemmas.Option.{same_Some}
use Rattle.napi_types.specs.all_runs.SettledPromises as told
use Rattle.napi_types.specs.all_runs.SettledPromises.{PromiseFact, AddedReaction, told_state, told_value, has_begun, EarlierHaveBegun, MayBeTold, SettlesPromises}

-- promise 6 and its deferred 1 are made, and the reactions with the tickets 1 and 2 are added to it; and it is resolved with the value 7
abbrev pending : List PromiseFact
pending = told.Makes 1 6 ∷ told.Adds 6 1 ∷ told.Adds 6 2 ∷ []

abbrev settled : List PromiseFact
settled = pending ++ told.Settles 1 1 7 ∷ []

-- a tale that the law admits has only what may be told
pub at-end : (before : List PromiseFact) (e : PromiseFact) → SettlesPromises (before ++ e ∷ []) → MayBeTold before e
at-end before e keeps = keeps.lawful before [] e refl

-- a deferred that was settled is settled again, or one that was never made
pub never-again : MayBeTold settled (told.Settles 1 2 8) → ⊥
never-again (told.settles d state v there new is) = let no : true ≡ false = new in cc

pub never-unmade : MayBeTold settled (told.Settles 2 1 8) → ⊥
never-unmade (told.settles d state v there new is) = let no : false ≡ true = there in cc

-- a reaction to a promise that is pending begins before `finals`, whatever state it is given
pub never-early : MayBeTold pending (told.Begins 1 0) → ⊥
never-early (told.begins t state p under new is late earlier) = let no : false ≡ true = late refl in cc

pub never-pending : MayBeTold pending (told.Begins 1 1) → ⊥
never-pending (told.begins t state p under new is late earlier) =
    let no : 1 ≡ 0 = is ∙ ap (told_state pending) (sym (same_Some 6 p under)) in absurd (omega (arith, no))

-- one begins with the wrong state, before an earlier one, or again
pub never-otherwise : MayBeTold settled (told.Begins 1 2) → ⊥
never-otherwise (told.begins t state p under new is late earlier) =
    let no : 2 ≡ 1 = is ∙ ap (told_state settled) (sym (same_Some 6 p under)) in absurd (omega (arith, no))

pub never-before : MayBeTold settled (told.Begins 2 1) → ⊥
never-before (told.begins t state p under new is late earlier) =
    let first : EarlierHaveBegun settled 6 2 = subst (λ q. EarlierHaveBegun settled q 2) (sym (same_Some 6 p under)) earlier in
    let no : false ≡ true = All-head (λ n. has_begun settled n ≡ true) 1 [] (first (1 ∷ []) [] refl) in cc

pub never-twice : MayBeTold (settled ++ told.Begins 1 1 ∷ []) (told.Begins 1 1) → ⊥
never-twice (told.begins t state p under new is late earlier) = let no : true ≡ false = new in cc

-- its frame is told another value than the one that settled the promise
pub never-another : MayBeTold (settled ++ told.Begins 1 1 ∷ []) (told.Tells 1 8) → ⊥
never-another (told.tells t v p under begun value) =
    let same : Some 7 ≡ Some 8 = ap (told_value settled) (same_Some 6 p under) ∙ value in
    let no : 7 ≡ 8 = same_Some 7 8 same in
    absurd (omega (arith, no))

-- a reaction that is added never begins
pub never-never : SettlesPromises (told.Makes 1 6 ∷ told.Adds 6 1 ∷ []) → ⊥
never-never keeps =
    let tale : List PromiseFact = told.Makes 1 6 ∷ told.Adds 6 1 ∷ [] in
    let no : false ≡ true = All-head (λ (a : AddedReaction). has_begun tale a.ticket ≡ true) (record { ticket = 1; promise = 6 }) [] keeps.begun in
    cc
