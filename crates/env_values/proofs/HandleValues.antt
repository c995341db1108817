-- What the value of a handle is to the machine.
use Rattle.std.proofs.Common.{◌≡◌, ◌∙◌, ℕ, zero, suc, ◌==◌, Bool, cond, true, false, [], ◌∷◌, Option, Some, None, option_map, is_some, map, List, ap, sym, refl}
use Rattle.std.specs.Option.{unwrap_or}
use Rattle.napi_types.specs.declared.body.Body.TheVariants as body
use Rattle.napi_types.specs.declared.ids.ValueId.{ValueId}
use Rattle.napi_types.specs.plain.Lists.{found}
use Rattle.napi_types.specs.parts.Bodies.{is_object_like}
use Rattle.napi_types.specs.parts.Graph.{StoreState, IsSoundStore, IsLive, value_of, number_in, renamed}
use Rattle.napi_types.specs.parts.Heap.{handle_body, handle_properties, handle_elements}
use Rattle.napi_types.specs.parts.Properties.{Property, property_at, element_at}
use Rattle.napi_types.specs.parts.Scopes.{FrameScopes, gives}
use Rattle.napi_types.specs.parts.Values.{Value, value_at, undefined_value}
use Rattle.handle_scope.specs.HandleScopes.{HandleScopes}
use Rattle.env_values.specs.declared.known.HandleValue.{HandleValue}
use Rattle.env_values.specs.SeenValues.{seen_frame, heap_of, HoldsLive}
use Rattle.env_values.specs.ValueSteps.{IsValueOf, IsLentBy}
use Rattle.env_values.proofs.Held.{given-holds}
use Rattle.env_values.proofs.SeenValues.{gives-seen}

-- a handle that no open scope holds is unknown to the machine
pub unknown-handle : (s : StoreState) (fs : List FrameScopes) (h : ℕ) → None ≡ gives fs h → is_some (gives (map (seen_frame s) fs) h) ≡ false
unknown-handle s fs h none = ap is_some (gives-seen s fs h ∙ ap (option_map (number_in s)) (sym none))

-- the value of a handle is live
pub given-live : (s : StoreState) (scopes : HandleScopes) (h id : ℕ) → HoldsLive s scopes → Some id ≡ gives scopes.frames h → IsLive s id
given-live s scopes h id live is = given-holds (λ n. IsLive s n) scopes.frames h id live (sym is)

-- so the store has it
pub never-gone : (s : StoreState) (id : ℕ) → IsLive s id → None ≡ value_of s id → ⊥
never-gone s id live none = let no : false ≡ true = ap is_some none ∙ live in cc

pub known-value : (s : StoreState) (scopes : HandleScopes) (h : ℕ) (v : HandleValue) (w : Value) → Some v.id.0 ≡ gives scopes.frames h → Some w ≡ value_of s v.id.0
    → v.body ≡ w.body → value_at (heap_of s scopes).values (number_in s v.id.0) ≡ option_map (renamed s) (value_of s v.id.0) → IsValueOf s scopes h v
known-value s scopes h v w given is what seen =
    let found : gives (map (seen_frame s) scopes.frames) h ≡ Some (number_in s v.id.0) = gives-seen s scopes.frames h ∙ ap (option_map (number_in s)) (sym given) in
    record {
      known = ap is_some found;
      number = ap (λ o. unwrap_or o undefined_value) found;
      body = ap (option_map (λ (u : Value). u.body)) (sym is) ∙ ap Some (sym what);
      seen = seen;
    }

-- what it is to the machine
pub body-known : (s : StoreState) (scopes : HandleScopes) (h : ℕ) (v : HandleValue) → IsValueOf s scopes h v → handle_body (heap_of s scopes) h ≡ v.body
body-known s scopes h v k =
    ap (λ n. unwrap_or (option_map (λ (w : Value). w.body) (value_at (heap_of s scopes).values n)) body.Undefined) k.number
    ∙ ap (λ o. unwrap_or (option_map (λ (w : Value). w.body) o) body.Undefined) k.seen
    ∙ by (value_of s v.id.0)
    ∙ ap (λ o. unwrap_or o body.Undefined) k.body
  where
    by : (o : Option Value) → unwrap_or (option_map (λ (w : Value). w.body) (option_map (renamed s) o)) body.Undefined ≡ unwrap_or (option_map (λ (w : Value). w.body) o) body.Undefined
    by None = refl
    by (Some w) = refl

pub like-known : (s : StoreState) (scopes : HandleScopes) (h : ℕ) (v : HandleValue) → IsValueOf s scopes h v → is_object_like v.body ≡ true → is_object_like (handle_body (heap_of s scopes) h) ≡ true
like-known s scopes h v k like = ap is_object_like (body-known s scopes h v k) ∙ like

-- a value that the store lends
pub lent-value : (s : StoreState) (scopes : HandleScopes) (h id : ℕ) (v : Value) → IsSoundStore s → Some id ≡ gives scopes.frames h → Some v ≡ value_of s id
    → value_at (heap_of s scopes).values (number_in s id) ≡ option_map (renamed s) (value_of s id) → IsLentBy s scopes h v
lent-value s scopes h id v sound given is seen =
    let found : gives (map (seen_frame s) scopes.frames) h ≡ Some (number_in s id) = gives-seen s scopes.frames h ∙ ap (option_map (number_in s)) (sym given) in
    record {
      id = id;
      stored = sym is;
      known = ap is_some found;
      seen = ap (λ o. value_at (heap_of s scopes).values (unwrap_or o undefined_value)) found ∙ seen ∙ ap (option_map (renamed s)) (sym is);
      named = sound.closed id v (sym is);
    }

-- what the machine sees is there where the store has it
pub same-there : (s : StoreState) (o : Option ℕ) (found : Option ValueId) → option_map (λ v. v.0) found ≡ o → is_some (option_map (number_in s) o) ≡ is_some found
same-there s o None e = ap (λ q. is_some (option_map (number_in s) q)) (sym e)
same-there s o (Some v) e = ap (λ q. is_some (option_map (number_in s) q)) (sym e)

-- and its number is that of what the store has
pub found-number : (s : StoreState) (o : Option ℕ) (found : Option ValueId) → option_map (λ v. v.0) found ≡ o
    → unwrap_or (option_map (number_in s) o) undefined_value ≡ unwrap_or (option_map (λ (v : ValueId). number_in s v.0) found) undefined_value
found-number s o None e = ap (λ q. unwrap_or (option_map (number_in s) q) undefined_value) (sym e)
found-number s o (Some v) e = ap (λ q. unwrap_or (option_map (number_in s) q) undefined_value) (sym e)

-- a property as the machine sees it
abbrev pub seen_property : StoreState → Property → Property
seen_property s p = record p { value = number_in s p.value }

property-seen : (s : StoreState) (name : ℕ) (ps : List Property) → property_at name (map (seen_property s) ps) ≡ option_map (number_in s) (property_at name ps)
property-seen s name [] = refl
property-seen s name (p ∷ ps) = by (property-seen s name ps) (p.name == name)
  where
    by : property_at name (map (seen_property s) ps) ≡ option_map (number_in s) (property_at name ps) → (b : Bool)
        → option_map (λ (q : Property). q.value) (cond b (Some (seen_property s p)) (found (λ q. q.name) name (map (seen_property s) ps))) ≡ option_map (number_in s) (option_map (λ (q : Property). q.value) (cond b (Some p) (found (λ q. q.name) name ps)))
    by rest true = refl
    by rest false = rest

-- what a lent value is to the machine
module _ (s : StoreState) (scopes : HandleScopes) (h : ℕ) (v : Value) (k : IsLentBy s scopes h v) where
  pub body-lent : handle_body (heap_of s scopes) h ≡ v.body
  body-lent = ap (λ o. unwrap_or (option_map (λ (w : Value). w.body) o) body.Undefined) k.seen

  pub like-lent : is_object_like v.body ≡ true → is_object_like (handle_body (heap_of s scopes) h) ≡ true
  like-lent like = ap is_object_like body-lent ∙ like

  pub properties-lent : handle_properties (heap_of s scopes) h ≡ map (seen_property s) v.properties
  properties-lent = ap (λ o. unwrap_or (option_map (λ (w : Value). w.properties) o) []) k.seen

  pub property-lent : (name : ℕ) → property_at name (handle_properties (heap_of s scopes) h) ≡ option_map (number_in s) (property_at name v.properties)
  property-lent name = ap (property_at name) properties-lent ∙ property-seen s name v.properties

  pub elements-lent : handle_elements (heap_of s scopes) h ≡ map (option_map (number_in s)) v.elements
  elements-lent = ap (λ o. unwrap_or (option_map (λ (w : Value). w.elements) o) []) k.seen

  pub element-lent : (at : ℕ) → element_at at (handle_elements (heap_of s scopes) h) ≡ option_map (number_in s) (element_at at v.elements)
  element-lent at = ap (element_at at) elements-lent ∙ element-seen at v.elements
    where
      element-seen : (at : ℕ) (es : List (Option ℕ)) → element_at at (map (option_map (number_in s)) es) ≡ option_map (number_in s) (element_at at es)
      element-seen at [] = refl
      element-seen zero (e ∷ es) = refl
      element-seen (suc at) (e ∷ es) = element-seen at es
