-- What a caller cites: that its roots are live, with the starting values among them.
use Rattle.std.proofs.Common.{◌≡◌, ℕ, ◌+◌, ◌<◌, ◌==◌, true, false, List, [], ◌∷◌, ◌++◌, map, Option, Some, None, IsSome, option_map, refl, ap, sym, subst, ◌∙◌, arith, below_more}
use Rattle.std.specs.List.{All}
use Rattle.std.specs.Option.{unwrap_or}
use Rattle.std.proofs.lemmas.List.{map-append}
use Rattle.std.proofs.lemmas.List.Elements.{All-nil, All-push}
use Rattle.std.proofs.lemmas.Bool.{or_left, eq-eqb}
use Rattle.napi_types.specs.declared.ids.ValueId.{ValueId}
use Rattle.napi_types.specs.plain.Lists.{has_number}
use Rattle.napi_types.specs.parts.Graph.{StoreState, IsLive, value_of, number_in}
use Rattle.napi_types.specs.parts.Values.{Value}
use Rattle.napi_types.proofs.plain.Maps.{has-left, has-right}
use Rattle.value_store.specs.StoreChanges.{numbers_of, IsStarting}

-- these are live, with the first starting values among them
pub record HoldsFirst (s : StoreState) (many : ℕ) (ids : List ValueId) : Type 0 where
  pub live : All (IsLive s) (numbers_of ids)
  pub starting : (which : ℕ) → which < many → has_number (which + 1) (map (number_in s) (numbers_of ids)) ≡ true

module _ (s : StoreState) where
  pub holds-none : HoldsFirst s 0 []
  holds-none = record { live = All-nil (IsLive s); starting = λ which less. absurd (omega arith) }

  starting-live : (which id : ℕ) → IsStarting s which id → IsLive s id
  starting-live which id is = by (value_of s id) is.number
    where
      by : (o : Option Value) → option_map (λ (v : Value). v.number) o ≡ Some (which + 1) → IsSome o
      by None h = let none : ⊥ = cc in absurd none
      by (Some v) h = refl

  numbers-more : (ids : List ValueId) (id : ValueId) → numbers_of (ids ++ id ∷ []) ≡ numbers_of ids ++ id.0 ∷ []
  numbers-more ids id = map-append (λ (v : ValueId). v.0) ids (id ∷ [])

  images-more : (ids : List ValueId) (id : ValueId) → map (number_in s) (numbers_of (ids ++ id ∷ [])) ≡ map (number_in s) (numbers_of ids) ++ number_in s id.0 ∷ []
  images-more ids id = ap (map (number_in s)) (numbers-more ids id) ∙ map-append (number_in s) (numbers_of ids) (id.0 ∷ [])

  -- one more that is live
  pub holds-more : (many : ℕ) (ids : List ValueId) (id : ValueId) → HoldsFirst s many ids → IsLive s id.0 → HoldsFirst s many (ids ++ id ∷ [])
  holds-more many ids id before live = record {
    live = subst (λ ns. All (IsLive s) ns) (sym (numbers-more ids id)) (All-push (IsLive s) (numbers_of ids) id.0 before.live live);
    starting = λ which less. subst (λ ns. has_number (which + 1) ns ≡ true) (sym (images-more ids id)) (has-left (which + 1) (map (number_in s) (numbers_of ids)) (number_in s id.0 ∷ []) (before.starting which less));
  }

  -- and the next starting value
  pub holds-next : (many : ℕ) (ids : List ValueId) (id : ValueId) → HoldsFirst s many ids → IsStarting s many id.0 → HoldsFirst s (many + 1) (ids ++ id ∷ [])
  holds-next many ids id before is =
      let more : HoldsFirst s many (ids ++ id ∷ []) = holds-more many ids id before (starting-live many id.0 is) in
      let number : number_in s id.0 ≡ many + 1 = ap (λ (o : Option ℕ). unwrap_or o 0) is.number in
      record {
        live = more.live;
        starting = below_more _ many more.starting (subst (λ ns. has_number (many + 1) ns ≡ true) (sym (images-more ids id)) (has-right (many + 1) (map (number_in s) (numbers_of ids)) (number_in s id.0 ∷ []) (or_left (number_in s id.0 == many + 1) false (eq-eqb (number_in s id.0) (many + 1) number))));
      }
