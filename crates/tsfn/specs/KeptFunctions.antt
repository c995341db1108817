-- What is kept beside the list of functions.
use Rattle.std.specs.Prelude.{◌≡◌, ℕ, suc, ◌+◌, ◌<◌, ◌≤◌, ◌^◌, Bool, not, cond, ◌&&◌, List, [], ◌∷◌, map, sum_by, count_by}
use Rattle.napi_types.specs.parts.Functions.{FunctionState, is_done}
use Rattle.napi_types.specs.hub.HistoryRoom.{function_places}
use Rattle.tsfn.specs.FunctionMoves.{is_busy}
use Rattle.tsfn.specs.declared.functions.Totals.{Totals}
use Rattle.tsfn.specs.declared.functions.Portion.{Portion}

-- the loop waits for the function: it is referenced and not done
abbrev pub holds_loop : FunctionState → Bool
holds_loop f = f.referenced && not (is_done f.state)

-- the numbers of the functions count up from this one
abbrev pub AreNumberedFrom : ℕ → List FunctionState → Type 0
AreNumberedFrom k [] = Unit {0}
AreNumberedFrom k (f ∷ fs) = (f.id ≡ k) × AreNumberedFrom (suc k) fs

-- the functions are numbered, and the places of the history that they owe are few enough to be counted. What is kept beside them is how many these are,
-- for how many of them the loop waits, and which of them have something to do
pub record AreTotals (fs : List FunctionState) (o : Totals) : Type 0 where
  pub numbered : AreNumberedFrom 1 fs
  pub few : sum_by function_places fs < 2 ^ 63
  pub places_are : o.places ≡ sum_by function_places fs
  pub awaited_are : o.awaited ≡ count_by holds_loop fs
  pub busy_are : o.busy ≡ map is_busy fs

-- what one function came to is part of what all came to, and with this function in its place it can be counted what all come to
pub record MayRecount (o : Totals) (before : Portion) (f : FunctionState) : Type 0 where
  pub places_part : before.places ≤ o.places
  pub awaited_part : before.awaited ≤ o.awaited
  pub places_fit : o.places + function_places f < 2 ^ 64 + before.places
  pub awaited_fit : o.awaited + cond (holds_loop f) 1 0 < 2 ^ 64 + before.awaited

-- what all come to once it was counted anew
pub record IsRecounted (old : Totals) (before : Portion) (f : FunctionState) (new : Totals) : Type 0 where
  pub places : new.places + before.places ≡ old.places + function_places f
  pub awaited : new.awaited + before.awaited ≡ old.awaited + cond (holds_loop f) 1 0
