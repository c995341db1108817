-- The move of the first function that has something to do.
use Rattle.std.proofs.Common.{◌≡◌, ◌∙◌, ◌<◌, ◌≤◌, ℕ, zero, suc, ◌==◌, Bool, true, false, cond, List, [], ◌∷◌, length, map, set, get_or, refl, ap, sym, arith, Option, Some, None, is_some, IfSome, IfNone}
use Rattle.std.specs.Option.{option_or}
use Rattle.std.proofs.lemmas.List.{set-get_or, length-map, get_or-map}
use Rattle.napi_types.specs.declared.entry.TsfnState.{TsfnState}
use Rattle.napi_types.specs.declared.entry.TsfnState.TheVariants.{Open, Closing, Finished, Done}
use Rattle.napi_types.specs.parts.Functions.{FunctionState, first_taken, closed, finished, done}
use Rattle.napi_types.specs.hub.HubMoves.{HubMove, Closes, tsfn_move_in, tsfn_move, first_move}
use Rattle.tsfn.specs.BusyPlaces.{is_busy_at, IsLowestBusy, NoneIsBusy}
use Rattle.tsfn.specs.FunctionList.{with_function_changed, functions_after_move}
use Rattle.tsfn.specs.FunctionMoves.{is_busy, moved_by}
use Rattle.tsfn.specs.KeptFunctions.{AreNumberedFrom}
use Rattle.tsfn.proofs.NumberedFunctions.{id-at, changed-at}

-- an option that is there goes before another, and else the other comes
here-first : (o p : Option HubMove) → is_some o ≡ true → option_or o p ≡ o
here-first None p is = cc
here-first (Some m) p is = refl

then-later : (o p : Option HubMove) → (is_some o ≡ true → ⊥) → option_or o p ≡ p
then-later None p idle = refl
then-later (Some m) p idle = absurd (idle refl)

first-at : (fs : List FunctionState) (i : ℕ) (d : FunctionState) → i < length fs → is_busy (get_or fs i d) ≡ true
    → ((n : ℕ) → is_busy_at (map is_busy fs) n ≡ true → i ≤ n) → first_move fs ≡ tsfn_move (get_or fs i d)
first-at [] i d within is lowest = absurd (omega (arith, within))
first-at (f ∷ fs) zero d within is lowest = here-first (tsfn_move f) (first_move fs) is
first-at (f ∷ fs) (suc i) d within is lowest =
    then-later (tsfn_move f) (first_move fs) (λ busy. omega (arith, lowest 0 busy))
    ∙ first-at fs i d (less (length fs) within) is (λ n busy. omega (arith, lowest (suc n) busy))
  where
    less : (l : ℕ) → suc i < suc l → i < l
    less l within = omega (arith, within)

pub first-none : (fs : List FunctionState) → NoneIsBusy (map is_busy fs) → first_move fs ≡ None
first-none [] idle = refl
first-none (f ∷ fs) idle =
    then-later (tsfn_move f) (first_move fs) (λ busy. let no : true ≡ false = sym busy ∙ idle 0 in cc)
    ∙ first-none fs (λ n. idle (suc n))

-- the lowest place that is busy has the function that moves first
pub record MovesFirst (fs : List FunctionState) (i : ℕ) (f : FunctionState) : Type 0 where
  pub within : i < length fs
  pub move : first_move fs ≡ tsfn_move f

pub moves-first : (fs : List FunctionState) (i : ℕ) (f : FunctionState) → f ≡ get_or fs i f → IsLowestBusy (map is_busy fs) i → MovesFirst fs i f
moves-first fs i f here lowest =
    let within : i < length fs = let in_busy = lowest.within in omega (arith, in_busy, length-map fs is_busy) in
    let is : is_busy (get_or fs i f) ≡ true = sym (get_or-map is_busy fs i f false within) ∙ lowest.is in
    record { within = within; move = first-at fs i f within is lowest.lowest ∙ ap tsfn_move (sym here) }

-- so there is a move exactly where a place is busy
pub busy-move : (fs : List FunctionState) (lowest : Option ℕ) → IfSome lowest (λ i. IsLowestBusy (map is_busy fs) i) → IfNone lowest (NoneIsBusy (map is_busy fs))
    → is_some lowest ≡ is_some (first_move fs)
busy-move fs None some none = ap is_some (sym (first-none fs none))
busy-move [] (Some i) some none = let within : i < 0 = some.within in absurd (omega (arith, within))
busy-move (d ∷ fs) (Some i) some none =
    let within : i < length (d ∷ fs) = let in_busy = some.within in omega (arith, in_busy, length-map (d ∷ fs) is_busy) in
    let is : is_busy (get_or (d ∷ fs) i d) ≡ true = sym (get_or-map is_busy (d ∷ fs) i d false within) ∙ some.is in
    sym (ap is_some (first-at (d ∷ fs) i d within is some.lowest) ∙ is)

-- a move changes the function whose move it is
module _ (fs : List FunctionState) (i : ℕ) (f : FunctionState) (numbered : AreNumberedFrom 1 fs) (within : i < length fs) (here : f ≡ get_or fs i f) where
  changed : (change : FunctionState → FunctionState) → with_function_changed f.id change fs ≡ set fs i (change f)
  changed change =
      changed-at change 1 i f.id fs f numbered within (sym (id-at 1 i fs f numbered within) ∙ ap (λ (g : FunctionState). g.id) (sym here))
      ∙ ap (λ (g : FunctionState). set fs i (change g)) (sym here)

  same : fs ≡ set fs i f
  same = sym (ap (λ (g : FunctionState). set fs i g) here ∙ set-get_or fs i f)

  pub moved-at : functions_after_move (tsfn_move f) fs ≡ set fs i (moved_by (tsfn_move f) f)
  moved-at = by f.state f.items
    where
      by : (s : TsfnState) (items : List ℕ) → functions_after_move (tsfn_move_in f s items) fs ≡ set fs i (moved_by (tsfn_move_in f s items) f)
      by Open [] = case (f.count == 0)
        where
          case : (b : Bool) → functions_after_move (cond b (Some (Closes f.id)) None) fs ≡ set fs i (moved_by (cond b (Some (Closes f.id)) None) f)
          case true = changed closed
          case false = same
      by Open (payload ∷ later) = changed first_taken
      by Closing [] = changed finished
      by Closing (payload ∷ later) = changed first_taken
      by Finished items = changed done
      by Done items = same
