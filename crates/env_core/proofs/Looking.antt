-- The values of handles.
use Rattle.std.proofs.Common.{◌≡◌, ℕ, Bool, false, ap, sym, ◌∙◌, Option, Some, None, option_map, is_some, IfSome, IsSome, IsErrAnd, refl}
use Rattle.std.specs.Option.{unwrap_or, option_or}
use Rattle.std.specs.Result.{result_err}
use Rattle.std.specs.declared.result.Result.{Result}
use Rattle.std.specs.declared.result.Result.TheVariants.{Ok, Err}
use Rattle.napi_types.specs.declared.body.Body.{Body}
use Rattle.napi_types.specs.declared.body.Body.TheVariants as body
use Rattle.napi_types.specs.declared.ids.HandleId.{HandleId}
use Rattle.napi_types.specs.declared.ids.ValueId.{ValueId}
use Rattle.napi_types.specs.declared.status.Status.{Status}
use Rattle.napi_types.specs.declared.status.Status.TheVariants as status
use Rattle.napi_types.specs.plain.Lists.{unless}
use Rattle.napi_types.specs.parts.Kinds.{expects}
use Rattle.napi_types.specs.parts.Graph.{StoreState, IsLive, number_in, value_of, graph_of, renamed}
use Rattle.napi_types.specs.parts.Heap.{handle_value, handle_body}
use Rattle.napi_types.specs.parts.Scopes.{gives}
use Rattle.napi_types.specs.parts.Values.{Value, undefined_value, value_at}
use Rattle.handle_scope.specs.HandleScopes.{HandleScopes}
use Rattle.env_values.specs.declared.known.HandleValue.{HandleValue}
use Rattle.env_values.specs.SeenValues.{heap_of, HoldsLive}
use Rattle.env_values.specs.ValueSteps.{IsStored, IsValueOf}
use Rattle.env_core.specs.declared.handles.Attachable.{Attachable}
use Rattle.env_core.specs.Attaching.{is_accepted, target_refusal}
use Rattle.env_values.proofs.HandleValues.{given-live, body-known}
use Rattle.env_values.proofs.SeenValues.{gives-seen}

-- what a handle gives is live
pub looked_live : (store : StoreState) (scopes : HandleScopes) (h : ℕ) (o : Option ValueId) → option_map (λ (v : ValueId). v.0) o ≡ gives scopes.frames h → HoldsLive store scopes
    → IfSome o (λ v. IsLive store v.0)
looked_live store scopes h None e live = tt
looked_live store scopes h (Some v) e live = given-live store scopes h v.0 live e

-- and has the number that the machine sees, that of undefined where no open scope holds the handle
pub looked_number : (store : StoreState) (scopes : HandleScopes) (h : ℕ) (o : Option ValueId) → option_map (λ (v : ValueId). v.0) o ≡ gives scopes.frames h
    → unwrap_or (option_map (λ (v : ValueId). number_in store v.0) o) undefined_value ≡ handle_value (heap_of store scopes) h
looked_number store scopes h None e = ap (λ o. unwrap_or (option_map (number_in store) o) undefined_value) e ∙ ap (λ o. unwrap_or o undefined_value) (sym (gives-seen store scopes.frames h))
looked_number store scopes h (Some v) e = ap (λ o. unwrap_or (option_map (number_in store) o) undefined_value) e ∙ ap (λ o. unwrap_or o undefined_value) (sym (gives-seen store scopes.frames h))

-- what the value of a handle is
pub looked_body : (store : StoreState) (scopes : HandleScopes) (h id : ℕ) (v : Value) → number_in store id ≡ handle_value (heap_of store scopes) h
    → value_at (graph_of store) (number_in store id) ≡ option_map (renamed store) (value_of store id) → Some v ≡ value_of store id → v.body ≡ handle_body (heap_of store scopes) h
looked_body store scopes h id v number seen is =
    let at : value_at (graph_of store) (handle_value (heap_of store scopes) h) ≡ Some (renamed store v) = ap (value_at (graph_of store)) (sym number) ∙ seen ∙ ap (option_map (renamed store)) (sym is) in
    sym (ap (λ o. unwrap_or (option_map (λ (w : Value). w.body) o) body.Undefined) at)

-- a handle that an open scope holds is one for the machine
pub held-seen : (store : StoreState) (scopes : HandleScopes) (h : ℕ) (o : Option ValueId) → option_map (λ (v : ValueId). v.0) o ≡ gives scopes.frames h
    → is_some o ≡ is_some (gives (heap_of store scopes).scopes h)
held-seen store scopes h None e = ap (λ (o : Option ℕ). is_some (option_map (number_in store) o)) e ∙ ap is_some (sym (gives-seen store scopes.frames h))
held-seen store scopes h (Some v) e = ap (λ (o : Option ℕ). is_some (option_map (number_in store) o)) e ∙ ap is_some (sym (gives-seen store scopes.frames h))

-- A VALUE THAT A CALL TAKES
-- what is handed on as an error is told
pub told-error : {T : Type 0} (r : Result T Status) (s : Status) → IsErrAnd r (λ e. e ≡ s) → result_err r ≡ Some s
told-error (Ok v) s told = absurd told
told-error (Err e) s told = ap Some told

module _ (store : StoreState) (scopes : HandleScopes) (h : HandleId) (kinds : Attachable) where
  -- no open scope holds the handle
  pub target-unknown : is_some (gives (heap_of store scopes).scopes h.0) ≡ false → Some status.InvalidArg ≡ target_refusal kinds (heap_of store scopes) h
  target-unknown none = sym (ap (λ k. option_or (unless k status.InvalidArg) (expects (heap_of store scopes) h (is_accepted kinds) status.ObjectExpected)) none)

  -- the value is of another kind, or is taken
  pub target-told : (v : HandleValue) → IsValueOf store scopes h.0 v → (b : Bool) → is_accepted kinds v.body ≡ b → unless b status.ObjectExpected ≡ target_refusal kinds (heap_of store scopes) h
  target-told v is b taken =
      ap (λ k. unless k status.ObjectExpected) (sym (ap (is_accepted kinds) (body-known store scopes h.0 v is) ∙ taken))
      ∙ sym (ap (λ k. option_or (unless k status.InvalidArg) (expects (heap_of store scopes) h (is_accepted kinds) status.ObjectExpected)) is.known)

-- the value of a handle is live
pub stored-live : (store : StoreState) (v : HandleValue) → IsStored store v → IsLive store v.id.0
stored-live store v is = there (value_of store v.id.0) v.body is
  where
    there : (o : Option Value) (b : Body) → option_map (λ (w : Value). w.body) o ≡ Some b → IsSome o
    there None b e = let no : ⊥ = cc in absurd no
    there (Some w) b e = refl
