-- A promise may get a hidden child.
use Rattle.std.proofs.Common.{◌≡◌, ℕ, Option, Some, None, IsTrue, option_map, refl, subst, sym}
use Rattle.std.specs.Option.{IsSomeAnd}
use Rattle.napi_types.specs.declared.body.Body.{Body}
use Rattle.napi_types.specs.declared.body.Body.TheVariants as body
use Rattle.napi_types.specs.parts.Bodies.{promise_tag, is_linked}
use Rattle.napi_types.specs.parts.Graph.{StoreState, value_of}
use Rattle.napi_types.specs.parts.Values.{Value}
use Rattle.value_store.specs.StoreChanges.{IsLinked}
use Rattle.env_values.specs.SeenValues.{IsPromiseIn}

pub promise-linked : (s : StoreState) (id : ℕ) → IsPromiseIn s id → IsLinked s id
promise-linked s id promise = by (value_of s id) promise
  where
    by : (o : Option Value) → option_map (λ (v : Value). v.body) o ≡ Some (body.Linked promise_tag None) → IsSomeAnd o (λ v. IsTrue (is_linked v.body))
    by None is = let no : ⊥ = cc in absurd no
    by (Some v) is = let same : body.Linked promise_tag None ≡ v.body = cc in subst (λ (b : Body). IsTrue (is_linked b)) same refl
