-- What is kept beside the functions, as one of them changes and as one is created.
use Rattle.std.proofs.Common.{◌≡◌, ◌∙◌, ◌<◌, ◌≤◌, ℕ, ◌+◌, ◌^◌, true, false, cond, List, [], ◌∷◌, ◌++◌, length, set, sum_by, get_or, ap, sym, arith}
use Rattle.std.proofs.lemmas.List.{length-set, map-set, map_push, get_or-map}
use Rattle.std.proofs.lemmas.List.Sums.{sum_by-set, sum_by_push, get_or-le-sum_by, count_by-le-length}
use Rattle.napi_types.specs.parts.Functions.{FunctionState}
use Rattle.napi_types.specs.hub.HistoryRoom.{function_places}
use Rattle.tsfn.specs.BusyPlaces.{is_busy_at}
use Rattle.tsfn.specs.FunctionMoves.{is_busy}
use Rattle.tsfn.specs.KeptFunctions.{holds_loop, AreTotals, MayRecount, IsRecounted}
use Rattle.tsfn.specs.declared.functions.Totals.{Totals}
use Rattle.tsfn.specs.declared.functions.Portion.{Portion}
use Rattle.tsfn.proofs.NumberedFunctions.{id-at, numbered-set, numbered-more}

-- one where the loop waits for the function
abbrev pub awaits : FunctionState → ℕ
awaits f = cond (holds_loop f) 1 0

-- a function stands at a place, and this is what it adds
pub record Stands (fs : List FunctionState) (o : Totals) (i : ℕ) (f : FunctionState) (s : Portion) : Type 0 where
  pub kept : AreTotals fs o
  pub within : i < length fs
  pub here : f ≡ get_or fs i f
  pub places : s.places ≡ function_places f
  pub awaited : s.awaited ≡ awaits f

-- ONE OF THEM CHANGES
module _ {fs : List FunctionState} {o : Totals} {i : ℕ} {f : FunctionState} {s : Portion} (stands : Stands fs o i f s) where
  changed-sum : (adds : FunctionState → ℕ) (g : FunctionState) → sum_by adds (set fs i g) + adds f ≡ sum_by adds fs + adds g
  changed-sum adds g =
      let sum : sum_by adds (set fs i g) + adds (get_or fs i f) ≡ sum_by adds fs + adds g = sum_by-set adds fs i g f stands.within in
      let same : adds f ≡ adds (get_or fs i f) = ap adds stands.here in
      omega (arith, sum, same)

  part-of : (adds : FunctionState → ℕ) → adds f ≤ sum_by adds fs
  part-of adds =
      let part : adds (get_or fs i f) ≤ sum_by adds fs = get_or-le-sum_by adds fs i f stands.within in
      let same : adds f ≡ adds (get_or fs i f) = ap adds stands.here in
      omega (arith, part, same)

  all-places : o.places ≡ sum_by function_places fs
  all-places = stands.kept.places_are

  all-awaited : o.awaited ≡ sum_by awaits fs
  all-awaited = stands.kept.awaited_are

  few-awaited : (g : FunctionState) → length fs < 2 ^ 64 → sum_by awaits (set fs i g) < 2 ^ 64
  few-awaited g short = let few : sum_by awaits (set fs i g) ≤ length (set fs i g) = count_by-le-length holds_loop (set fs i g) in omega (arith, few, length-set fs i g)

  -- after the change they owe few places where it adds few
  pub still-few : (more : ℕ) (g : FunctionState) → function_places g ≤ function_places f + more → sum_by function_places fs + more < 2 ^ 63 → sum_by function_places (set fs i g) < 2 ^ 63
  still-few more g le few = omega (arith, changed-sum function_places g, part-of function_places, le, few)

  pub may-recount : (g : FunctionState) → sum_by function_places (set fs i g) < 2 ^ 63 → length fs < 2 ^ 64 → MayRecount o s g
  may-recount g few short = record {
    places_part = omega (arith, stands.places, all-places, part-of function_places);
    awaited_part = omega (arith, stands.awaited, all-awaited, part-of awaits);
    places_fit = omega (arith, stands.places, all-places, changed-sum function_places g);
    awaited_fit = omega (arith, stands.awaited, all-awaited, changed-sum awaits g, few-awaited g short);
  }

  busy-here : is_busy_at o.busy i ≡ is_busy f
  busy-here = ap (λ b. is_busy_at b i) stands.kept.busy_are ∙ get_or-map is_busy fs i f false stands.within ∙ ap is_busy (sym stands.here)

  -- what a call changed still has something to do
  pub stays-busy : (g : FunctionState) → (is_busy f ≡ true → is_busy g ≡ true) → is_busy_at o.busy i ≡ true → is_busy g ≡ true
  stays-busy g keeps is = keeps (sym busy-here ∙ is)

  pub kept-changed : (g : FunctionState) (new : Totals) → g.id ≡ f.id → sum_by function_places (set fs i g) < 2 ^ 63 → IsRecounted o s g new
      → new.busy ≡ set o.busy i (is_busy g) → AreTotals (set fs i g) new
  kept-changed g new id few counted busy = record {
    few = few;
    numbered = numbered-set 1 i g fs stands.kept.numbered (id ∙ ap (λ (h : FunctionState). h.id) stands.here ∙ id-at 1 i fs f stands.kept.numbered stands.within);
    places_are = omega (arith, counted.places, stands.places, all-places, changed-sum function_places g);
    awaited_are = awaited;
    busy_are = busy ∙ ap (λ b. set b i (is_busy g)) stands.kept.busy_are ∙ sym (map-set is_busy fs i g);
  }
    where
      awaited : new.awaited ≡ sum_by awaits (set fs i g)
      awaited = omega (arith, counted.awaited, stands.awaited, all-awaited, changed-sum awaits g)

-- ONE IS CREATED
pub kept-created : (fs : List FunctionState) (o new : Totals) (g : FunctionState) → AreTotals fs o → g.id ≡ length fs + 1
    → sum_by function_places fs + function_places g < 2 ^ 63 → new.places ≡ o.places + function_places g
    → new.awaited ≡ o.awaited + awaits g → new.busy ≡ o.busy ++ is_busy g ∷ [] → AreTotals (fs ++ g ∷ []) new
kept-created fs o new g kept id few places awaited busy = record {
  few = omega (arith, few, sum_by_push function_places fs g);
  numbered = numbered-more 1 g fs kept.numbered (omega (arith, id));
  places_are = omega (arith, places, kept.places_are, sum_by_push function_places fs g);
  awaited_are = all;
  busy_are = busy ∙ ap (λ b. b ++ is_busy g ∷ []) kept.busy_are ∙ sym (map_push is_busy fs g);
}
  where
    all : new.awaited ≡ sum_by awaits (fs ++ g ∷ [])
    all = let was : o.awaited ≡ sum_by awaits fs = kept.awaited_are in omega (arith, awaited, was, sum_by_push awaits fs g)
