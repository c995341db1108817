-- Nothing refuses a call whose tests all hold.
use Rattle.std.proofs.Common.{◌≡◌, ◌∙◌, ℕ, true, false, None, nat_lt, length, ap, refl}
use Rattle.std.proofs.lemmas.List.{length-map}
use Rattle.napi_types.specs.declared.call.Call.TheVariants as call
use Rattle.napi_types.specs.declared.ids.HandleId.{HandleId}
use Rattle.napi_types.specs.declared.ids.TextNo.{TextNo}
use Rattle.napi_types.specs.parts.Bodies.{is_object_like}
use Rattle.napi_types.specs.parts.Graph.{StoreState}
use Rattle.napi_types.specs.parts.Heap.{handle_body, handle_properties}
use Rattle.napi_types.specs.parts.HeapRefusals.{refusal_in}
use Rattle.napi_types.specs.parts.Properties.{most_names, most_index}
use Rattle.napi_types.specs.parts.Values.{Value}
use Rattle.handle_scope.specs.HandleScopes.{HandleScopes}
use Rattle.env_values.specs.declared.known.HandleValue.{HandleValue}
use Rattle.env_values.specs.SeenValues.{heap_of}
use Rattle.env_values.specs.ValueSteps.{IsValueOf, IsLentBy}
use Rattle.env_values.proofs.HandleValues.{like-known, like-lent, properties-lent, seen_property}

-- a named property is set
pub set_named-unrefused : {s : StoreState} {scopes : HandleScopes} {object value : HandleValue} (texts : ℕ) (h : HandleId) (name : TextNo) (v : HandleId)
    → IsValueOf s scopes h.0 object → IsValueOf s scopes v.0 value → nat_lt name.0 texts ≡ true → is_object_like object.body ≡ true
    → refusal_in texts (heap_of s scopes) (call.SetNamedProperty h name v) ≡ None
set_named-unrefused {s} {scopes} {object} {value} texts h name v k l known like =
    let seen : is_object_like (handle_body (heap_of s scopes) h.0) ≡ true = like-known s scopes h.0 object k like in
    rw (k.known, l.known, known, seen) refl

-- or got
pub get_named-unrefused : {s : StoreState} {scopes : HandleScopes} {object : Value} (texts : ℕ) (h : HandleId) (name : TextNo)
    → IsLentBy s scopes h.0 object → nat_lt name.0 texts ≡ true → is_object_like object.body ≡ true
    → refusal_in texts (heap_of s scopes) (call.GetNamedProperty h name) ≡ None
get_named-unrefused {s} {scopes} {object} texts h name k known like =
    let seen : is_object_like (handle_body (heap_of s scopes) h.0) ≡ true = like-lent s scopes h.0 object k like in
    rw (k.known, known, seen) refl

-- an element is set
pub set_element-unrefused : {s : StoreState} {scopes : HandleScopes} {object value : HandleValue} (texts : ℕ) (h : HandleId) (at : ℕ) (v : HandleId)
    → IsValueOf s scopes h.0 object → IsValueOf s scopes v.0 value → is_object_like object.body ≡ true → nat_lt most_index at ≡ false
    → refusal_in texts (heap_of s scopes) (call.SetElement h at v) ≡ None
set_element-unrefused {s} {scopes} {object} {value} texts h at v k l like within =
    let seen : is_object_like (handle_body (heap_of s scopes) h.0) ≡ true = like-known s scopes h.0 object k like in
    rw (k.known, l.known, seen, within) refl

-- names are listed
pub names-unrefused : {s : StoreState} {scopes : HandleScopes} {object : Value} (texts : ℕ) (h : HandleId)
    → IsLentBy s scopes h.0 object → is_object_like object.body ≡ true → nat_lt most_names (length object.properties) ≡ false
    → refusal_in texts (heap_of s scopes) (call.GetPropertyNames h) ≡ None
names-unrefused {s} {scopes} {object} texts h k like few =
    let seen : is_object_like (handle_body (heap_of s scopes) h.0) ≡ true = like-lent s scopes h.0 object k like in
    let many : length (handle_properties (heap_of s scopes) h.0) ≡ length object.properties =
    ap length (properties-lent s scopes h.0 object k) ∙ length-map object.properties (seen_property s) in
    let within : nat_lt most_names (length (handle_properties (heap_of s scopes) h.0)) ≡ false = ap (nat_lt most_names) many ∙ few in
    rw (k.known, seen, within) refl
