-- Values that are live stay so, under their creation numbers.
use Rattle.std.proofs.Common.{◌≡◌, ◌∙◌, ℕ, ◌+◌, ◌==◌, Bool, true, false, Option, Some, None, IsSome, option_map, refl, ap, sym, subst, Result, Ok, Err, IfOk, OnOk, OnErr}
use Rattle.std.specs.Option.{unwrap_or, option_and_then}
use Rattle.napi_types.specs.declared.body.Body.TheVariants as body
use Rattle.napi_types.specs.declared.ids.ValueId.{ValueId}
use Rattle.napi_types.specs.parts.Graph.{StoreState, IsSoundStore, IsLive, value_of, number_in}
use Rattle.napi_types.specs.parts.Bodies.{promise_tag, view_tag}
use Rattle.napi_types.specs.parts.Values.{Value, with_link}
use Rattle.napi_types.proofs.plain.Found.{same-tells}
use Rattle.value_store.proofs.Lookup.{other-number}
use Rattle.value_store.specs.StoreChanges.{ChangesOnly, MakesValue, MakesList}
use Rattle.value_store.proofs.Callers.{changes-live}
use Rattle.env_values.specs.SeenValues.{body_in, link_in, IsPromiseIn, IsViewIn, KeepsValues}
use Rattle.env_values.proofs.Giving.{makes-others, some-live}
use Rattle.env_values.proofs.Heaps.{KeepsNumber, number-kept}

-- what is told of a live value
pub view-live : (s : StoreState) (id buffer : ℕ) → IsViewIn s id buffer → IsLive s id
view-live s id buffer v = by (value_of s id) refl v.link
  where
    by : (o : Option Value) → value_of s id ≡ o → option_and_then (λ (v : Value). v.link) o ≡ Some buffer → IsSome (value_of s id)
    by None is has = let no : ⊥ = cc in absurd no
    by (Some v) is has = subst (λ (o : Option Value). IsSome o) (sym is) refl

-- where nothing changes
pub keeps_same : (s : StoreState) → KeepsValues s s
keeps_same s = record { live = λ id here. here; numbers = λ id here. refl; bodies = λ id here. refl; views = λ id buffer v. v.link }

-- where each live value is as it was
keeps_values : (s t : StoreState) → ((n : ℕ) → IsLive s n → value_of t n ≡ value_of s n) → KeepsValues s t
keeps_values s t same = record {
  live = λ id here. subst (λ (o : Option Value). IsSome o) (sym (same id here)) here;
  numbers = λ id here. ap (λ o. unwrap_or (option_map (λ (v : Value). v.number) o) 0) (same id here);
  bodies = λ id here. ap (option_map (λ (v : Value). v.body)) (same id here);
  views = λ id buffer v. ap (option_and_then (λ (w : Value). w.link)) (same id (view-live s id buffer v)) ∙ v.link;
}

-- where a value is made
pub keeps_made : (s t : StoreState) (id : ℕ) (v : Value) → IsSoundStore s → MakesValue s t id v → KeepsValues s t
keeps_made s t id v sound step = keeps_values s t (makes-others s t id v sound step)

-- where a list is made
pub keeps_listed : (s t : StoreState) (id n : ℕ) → IsSoundStore s → MakesList s t id n → KeepsValues s t
keeps_listed s t id n sound step = keeps_values s t (λ m here. step.others m (sound.given m here))

-- also where the result may be want of memory
pub keeps_listed_or_not : {E : Type 0} (s t : StoreState) (n : ℕ) (r : Result ValueId E) → IsSoundStore s → IfOk r (λ id. MakesList s t id.0 n) → OnErr r (t ≡ s) → KeepsValues s t
keeps_listed_or_not s t n (Ok id) sound ok err = keeps_listed s t id.0 n sound ok
keeps_listed_or_not s t n (Err e) sound ok err = rw err (keeps_same s)

-- the list's last value is live, under its number
pub listed_live_or_not : {E : Type 0} (s t : StoreState) (n : ℕ) (r : Result ValueId E) → IfOk r (λ id. MakesList s t id.0 n) → IfOk r (λ id. IsLive t id.0)
listed_live_or_not s t n (Ok id) ok = some-live (value_of t id.0) (s.made + n + 1) ok.number
listed_live_or_not s t n (Err e) ok = tt

pub listed_number_or_not : {E : Type 0} (s t : StoreState) (n : ℕ) (r : Result ValueId E) → IfOk r (λ id. MakesList s t id.0 n) → IfOk r (λ id. number_in t id.0 ≡ s.made + n + 1)
listed_number_or_not s t n (Ok id) ok = ap (λ o. unwrap_or o 0) ok.number
listed_number_or_not s t n (Err e) ok = tt

pub listed_made_or_not : {E : Type 0} (s t : StoreState) (n : ℕ) (r : Result ValueId E) → IfOk r (λ id. MakesList s t id.0 n) → OnOk r (t.made ≡ s.made + n + 1)
listed_made_or_not s t n (Ok id) ok = ok.made
listed_made_or_not s t n (Err e) ok = tt

-- where one value changes, and not in its number nor in what it is; and one that is no view may get another hidden child
pub record KeepsKind (s : StoreState) (id : ℕ) (change : Value → Value) : Type 0 where
  pub number : KeepsNumber change
  pub body : (v : Value) → (change v).body ≡ v.body
  pub link : (buffer : ℕ) → IsViewIn s id buffer → (v : Value) → (change v).link ≡ v.link

-- a change of properties or elements is one
pub plain-kind : (s : StoreState) (id : ℕ) (change : Value → Value) → KeepsNumber change → ((v : Value) → (change v).body ≡ v.body) → ((v : Value) → (change v).link ≡ v.link)
    → KeepsKind s id change
plain-kind s id change number body link = record { number = number; body = body; link = λ buffer view. link }

-- and so is the link of a promise
pub promise-kind : (s : StoreState) (id to : ℕ) → IsPromiseIn s id → KeepsKind s id (with_link to)
promise-kind s id to promise = record {
  number = λ v. refl;
  body = λ v. refl;
  link = λ buffer view. let same : Some (body.Linked promise_tag None) ≡ Some (body.Linked view_tag None) = sym promise ∙ view.body in cc;
}

module _ (s t : StoreState) (id : ℕ) (change : Value → Value) (kind : KeepsKind s id change) (step : ChangesOnly s t id change) where
  bodies-kept : (n : ℕ) → body_in t n ≡ body_in s n
  bodies-kept n = by (n == id) refl
    where
      kept : (o : Option Value) → option_map (λ (v : Value). v.body) (option_map change o) ≡ option_map (λ v. v.body) o
      kept None = refl
      kept (Some v) = ap Some (kind.body v)

      by : (b : Bool) → (n == id) ≡ b → body_in t n ≡ body_in s n
      by true is =
          let same : n ≡ id = same-tells n id is in
          ap (body_in t) same ∙ ap (option_map (λ (v : Value). v.body)) step.named ∙ kept (value_of s id) ∙ ap (body_in s) (sym same)
      by false is = ap (option_map (λ (v : Value). v.body)) (step.others n (other-number n id is))

  links-kept : (n buffer : ℕ) → IsViewIn s n buffer → link_in t n ≡ Some buffer
  links-kept n buffer view = by (n == id) refl
    where
      kept : (o : Option Value) → ((v : Value) → (change v).link ≡ v.link) → option_and_then (λ (v : Value). v.link) (option_map change o) ≡ option_and_then (λ v. v.link) o
      kept None same = refl
      kept (Some v) same = same v

      by : (b : Bool) → (n == id) ≡ b → link_in t n ≡ Some buffer
      by true is =
          let same : n ≡ id = same-tells n id is in
          ap (link_in t) same ∙ ap (option_and_then (λ (v : Value). v.link)) step.named
          ∙ kept (value_of s id) (kind.link buffer (subst (λ m. IsViewIn s m buffer) same view)) ∙ ap (link_in s) (sym same) ∙ view.link
      by false is = ap (option_and_then (λ (v : Value). v.link)) (step.others n (other-number n id is)) ∙ view.link

  pub keeps_changed : KeepsValues s t
  keeps_changed = record {
    live = changes-live s t id change step;
    numbers = λ n here. number-kept s t id change kind.number step n;
    bodies = λ n here. bodies-kept n;
    views = links-kept;
  }
