-- What a state says of its values.
use Rattle.std.proofs.Common.{◌≡◌, ◌∙◌, ℕ, Option, Some, None, IsSome, IfSome, IsSomeAnd, IsTrue, is_some, false, option_map, refl, sym, subst, List}
use Rattle.std.specs.List.{All}
use Rattle.napi_types.specs.declared.ids.ValueId.{ValueId}
use Rattle.napi_types.specs.plain.Lists.{HaveSameNumbers}
use Rattle.napi_types.specs.parts.Bodies.{is_object_like}
use Rattle.napi_types.specs.parts.Graph.{StoreState, IsSoundStore, IsLive, value_of}
use Rattle.napi_types.specs.parts.Properties.{property_at, element_at}
use Rattle.napi_types.specs.parts.Values.{Value, children}
use Rattle.value_store.specs.StoreChanges.{IsObject}
use Rattle.value_store.proofs.NamedPlaces.{property-named, element-named, All-has, All-from_has}

pub some-is : (o : Option Value) → IsSome o → (v : Value) × (o ≡ Some v)
some-is None h = let no : ⊥ = cc in absurd no
some-is (Some v) h = (v, refl)

pub none-is : (o : Option Value) → is_some o ≡ false → o ≡ None
none-is None e = refl
none-is (Some v) e = cc

some-and : (o : Option Value) → IsSomeAnd o (λ v. IsTrue (is_object_like v.body)) → IsSome o
some-and None h = absurd h
some-and (Some v) h = refl

-- what is live where it is an object
pub object-live : (s : StoreState) (n : ℕ) → IsObject s n → IsLive s n
object-live s n h = some-and (value_of s n) h

-- where what a value names is live, so is the value of a property, and an element
module _ (s : StoreState) (v : Value) (live : All (IsLive s) (children v)) where
  pub named-live : (name : ℕ) (r : Option ValueId) → option_map (λ w. w.0) r ≡ property_at name v.properties → IfSome r (λ w. IsLive s w.0)
  named-live name None h = tt
  named-live name (Some w) h = subst (λ (o : Option ℕ). IfSome o (IsLive s)) (sym h) (property-named (IsLive s) name v live)

  pub indexed-live : (at : ℕ) (r : Option ValueId) → option_map (λ w. w.0) r ≡ element_at at v.elements → IfSome r (λ w. IsLive s w.0)
  indexed-live at None h = tt
  indexed-live at (Some w) h = subst (λ (o : Option ℕ). IfSome o (IsLive s)) (sym h) (element-named (IsLive s) at v live)

-- each child of a live value is live
module _ (s : StoreState) (sound : IsSoundStore s) (n : ℕ) (v : Value) (is : value_of s n ≡ Some v) where
  pub children-live : (ns : List ℕ) → HaveSameNumbers ns (children v) → All (IsLive s) ns
  children-live ns same = All-from_has (IsLive s) ns (λ m h. All-has (IsLive s) (children v) m (sound.closed n v is) (sym (same m) ∙ h))
