-- What a call or a move may change of a function.
use Rattle.std.proofs.Common.{◌≡◌, ◌∙◌, ℕ, ◌+◌, ◌-◌, ◌*◌, ◌≤◌, ◌==◌, Bool, true, false, not, cond, List, [], ◌∷◌, ◌++◌, length, length-append, refl, ap, sym, arith, Option, Some, None, is_some}
use Rattle.std.proofs.lemmas.Bool.Decides.{nat_tests}
use Rattle.napi_types.specs.declared.call.Release.{Release}
use Rattle.napi_types.specs.declared.call.Release.TheVariants as release
use Rattle.napi_types.specs.declared.entry.TsfnState.{TsfnState}
use Rattle.napi_types.specs.declared.entry.TsfnState.TheVariants.{Open, Closing, Finished, Done}
use Rattle.napi_types.specs.declared.status.Status.{Status}
use Rattle.napi_types.specs.declared.status.Status.TheVariants as status
use Rattle.napi_types.specs.plain.Lists.{head, tail, singleton}
use Rattle.napi_types.specs.parts.Functions.{FunctionState, is_open, called, most_threads, acquire_status, acquired, released, closed_state, closed, with_referenced, with_item_taken, first_taken}
use Rattle.napi_types.specs.hub.HistoryRoom.{state_places, function_places}
use Rattle.napi_types.specs.hub.HubMoves.{Closes, tsfn_move_in, tsfn_move}
use Rattle.napi_types.proofs.hub.HubFunctions.{closed-le}
use Rattle.tsfn.specs.FunctionMoves.{is_busy, moved_by}

-- a function that comes from another has its number, owes so many places more at most, and has something to do where that had
pub record IsChange (more : ℕ) (f g : FunctionState) : Type 0 where
  pub id : g.id ≡ f.id
  pub places : function_places g ≤ function_places f + more
  pub busy : is_busy f ≡ true → is_busy g ≡ true

same-change : (more : ℕ) (f : FunctionState) → IsChange more f f
same-change more f = record { id = refl; places = omega arith; busy = λ is. is }

-- WHAT A FUNCTION HAS TO DO
-- with an item more
busy-longer : (f g : FunctionState) (payload : ℕ) (s : TsfnState) (items : List ℕ) → is_some (tsfn_move_in f s items) ≡ true
    → is_some (tsfn_move_in g s (items ++ singleton payload)) ≡ true
busy-longer f g payload Open [] is = refl
busy-longer f g payload Open (p ∷ items) is = refl
busy-longer f g payload Closing [] is = refl
busy-longer f g payload Closing (p ∷ items) is = refl
busy-longer f g payload Finished items is = refl
busy-longer f g payload Done items is = cc

-- held by no more threads
busy-fewer : (f g : FunctionState) (s : TsfnState) (items : List ℕ) → ((f.count == 0) ≡ true → (g.count == 0) ≡ true)
    → is_some (tsfn_move_in f s items) ≡ true → is_some (tsfn_move_in g s items) ≡ true
busy-fewer f g Open [] fewer is = by (f.count == 0) fewer is
  where
    by : (b : Bool) → (b ≡ true → (g.count == 0) ≡ true) → is_some (cond b (Some (Closes f.id)) None) ≡ true → is_some (cond (g.count == 0) (Some (Closes g.id)) None) ≡ true
    by true fewer is = ap (λ b. is_some (cond b (Some (Closes g.id)) None)) (fewer refl)
    by false fewer is = cc
busy-fewer f g Open (p ∷ items) fewer is = refl
busy-fewer f g Closing [] fewer is = refl
busy-fewer f g Closing (p ∷ items) fewer is = refl
busy-fewer f g Finished items fewer is = refl
busy-fewer f g Done items fewer is = cc

-- closing
busy-closed : (f g : FunctionState) (s : TsfnState) (items : List ℕ) → is_some (tsfn_move_in f s items) ≡ true
    → is_some (tsfn_move_in g (closed_state s) items) ≡ true
busy-closed f g Open [] is = refl
busy-closed f g Open (p ∷ items) is = refl
busy-closed f g Closing [] is = refl
busy-closed f g Closing (p ∷ items) is = refl
busy-closed f g Finished items is = refl
busy-closed f g Done items is = cc

one-less : (n : ℕ) → (n == 0) ≡ true → (n - 1 == 0) ≡ true
one-less n is = grind (arith, nat_tests)

-- CALLS
pub called-change : (s : Option Status) (payload : ℕ) (f : FunctionState) → IsChange 2 f (called s payload f)
called-change None payload f = same-change 2 f
called-change (Some status.Ok) payload f = record {
  id = refl;
  places = longer (state_places f.finalizer f.state) (length f.items) (length (f.items ++ singleton payload)) (length-append f.items (singleton payload));
  busy = busy-longer f (called (Some status.Ok) payload f) payload f.state f.items;
}
  where
    longer : (p l m : ℕ) → m ≡ l + 1 → p + 2 * m ≤ p + 2 * l + 2
    longer p l m is = omega (arith, is)
called-change (Some status.Closing) payload f = record {
  id = refl;
  places = omega arith;
  busy = busy-fewer f (called (Some status.Closing) payload f) f.state f.items (one-less f.count);
}
called-change (Some _) payload f = same-change 2 f

acquired-busy : (f : FunctionState) → acquire_status f ≡ status.Ok → is_busy f ≡ true → is_busy (acquired status.Ok f) ≡ true
acquired-busy f is busy = by f.state f.items (f.count == 0) refl is busy
  where
    by : (s : TsfnState) (items : List ℕ) (none : Bool) → (f.count == 0) ≡ none
        → cond (not (is_open s)) status.Closing (cond none status.InvalidArg (cond (f.count == most_threads) status.GenericFailure status.Ok)) ≡ status.Ok
        → is_some (tsfn_move_in f s items) ≡ true → is_some (tsfn_move_in (acquired status.Ok f) s items) ≡ true
    by Open [] true tests is busy = cc
    by Open [] false tests is busy = let no : false ≡ true = ap (λ b. is_some (cond b (Some (Closes f.id)) None)) (sym tests) ∙ busy in cc
    by Open (p ∷ items) none tests is busy = refl
    by Closing items none tests is busy = cc
    by Finished items none tests is busy = refl
    by Done items none tests is busy = cc

pub acquired-change : (f : FunctionState) → IsChange 0 f (acquired (acquire_status f) f)
acquired-change f = by (acquire_status f) refl
  where
    by : (s : Status) → acquire_status f ≡ s → IsChange 0 f (acquired s f)
    by status.Ok is = record { id = refl; places = omega arith; busy = acquired-busy f is }
    by _ is = same-change 0 f

pub closed-change : (f : FunctionState) → IsChange 0 f (closed f)
closed-change f = record {
  id = refl;
  places = omega (arith, closed-le f);
  busy = busy-closed f (closed f) f.state f.items;
}

pub released-change : (s : Status) (m : Release) (f : FunctionState) → IsChange 0 f (released s m f)
released-change status.Ok release.Release f = record {
  id = refl;
  places = omega arith;
  busy = busy-fewer f (released status.Ok release.Release f) f.state f.items (one-less f.count);
}
released-change status.Ok release.Abort f = record {
  id = refl;
  places = omega (arith, closed-le (record f { count = f.count - 1 }));
  busy = busy-closed f (released status.Ok release.Abort f) f.state f.items;
}
released-change _ m f = same-change 0 f

pub referenced-change : (b : Bool) (f : FunctionState) → IsChange 0 f (with_referenced b f)
referenced-change b f = record { id = refl; places = omega arith; busy = busy-fewer f (with_referenced b f) f.state f.items (λ is. is) }

-- MOVES
-- a function that moves keeps its number, and owes no more places
pub record IsMoved (f g : FunctionState) : Type 0 where
  pub id : g.id ≡ f.id
  pub places : function_places g ≤ function_places f

taken-moved : (f : FunctionState) (payload : ℕ) (later : List ℕ) → f.items ≡ payload ∷ later → IsMoved f (first_taken f)
taken-moved f payload later items = rw is (record { id = refl; places = fewer (state_places f.finalizer f.state) (length (tail f.items)) (length f.items) (ap (λ o. length (tail o)) items) (ap length items) })
  where
    is : first_taken f ≡ with_item_taken f
    is = ap (λ o. cond (is_some (head o)) (with_item_taken f) f) items

    fewer : (p m k : ℕ) → m ≡ length later → k ≡ length (payload ∷ later) → p + 2 * m ≤ p + 2 * k
    fewer p m k shorter all = omega (arith, shorter, all)

finished-places : (o : Option ℕ) → state_places o (cond (is_some o) Finished Done) ≤ state_places o Closing
finished-places None = omega arith
finished-places (Some entry) = omega arith

pub moved-keeps : (f : FunctionState) → IsMoved f (moved_by (tsfn_move f) f)
moved-keeps f = by f.state f.items refl refl
  where
    same : IsMoved f f
    same = record { id = refl; places = omega arith }

    by : (s : TsfnState) (items : List ℕ) → f.state ≡ s → f.items ≡ items → IsMoved f (moved_by (tsfn_move_in f s items) f)
    by Open [] is empty = case (f.count == 0)
      where
        case : (b : Bool) → IsMoved f (moved_by (cond b (Some (Closes f.id)) None) f)
        case true = record { id = refl; places = closed-le f }
        case false = same
    by Open (payload ∷ later) is items = taken-moved f payload later items
    by Closing [] is empty = record { id = refl; places = rw is (omega (arith, finished-places f.finalizer)) }
    by Closing (payload ∷ later) is items = taken-moved f payload later items
    by Finished items is there = record { id = refl; places = omega arith }
    by Done items is there = same
