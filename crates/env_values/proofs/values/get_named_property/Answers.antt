use Rattle.std.proofs.Common.{◌∙◌, ap, sym, refl}
use Rattle.std.specs.Option.{unwrap_or}
use Rattle.napi_types.specs.declared.call.Call.TheVariants as call
use Rattle.napi_types.specs.parts.Bodies.{is_object_like}
use Rattle.napi_types.specs.parts.HeapChanges.{handle_of}
use Rattle.napi_types.specs.parts.Values.{undefined_value}
use Rattle.value_store.proofs.ReadingPlaces.{named-live}
use Rattle.env_values.specs.SeenValues.{heap_of}
use Rattle.env_values.proofs.Coming.{comes-without_memory}
use Rattle.env_values.proofs.HandleValues.{property-lent, found-number}
use Rattle.env_values.proofs.UnrefusedValues.{get_named-unrefused}
use Rattle.env_values.proofs.values.get_named_property.Goals as goal

pub or_undefined-value-requires : goal.or_undefined-value-requires
or_undefined-value-requires c = named-live c.args.store.now c.in_ok-object.object c.in_ok-object.ensures.ok.named c.args.name.0 c.get_prop.result c.get_prop.ensures

pub returns-in_err-give-clause-comes : goal.returns-in_err-give-clause-comes
returns-in_err-give-clause-comes c =
    let heap = heap_of c.args.store.now c.args.scopes.now in
    comes-without_memory c.args.texts heap _ (call.GetNamedProperty c.args.object c.args.name) _ c.from_residual-in_err-give.ensures.1 refl
    (get_named-unrefused c.args.texts c.args.object c.args.name c.in_ok-object.ensures.ok c.in_ok-known_text.ensures.ok (ap is_object_like (sym c.body.ensures) ∙ c.in_ok-object_like.ensures.ok)) c.in_err-give.ensures.gives

pub returns-clause-comes : goal.returns-clause-comes
returns-clause-comes c =
    let s = c.args.store.now in
    let scopes = c.args.scopes.now in
    let heap = heap_of s scopes in
    let object = c.in_ok-object.ensures.ok in (
      get_named-unrefused c.args.texts c.args.object c.args.name object c.in_ok-known_text.ensures.ok (ap is_object_like (sym c.body.ensures) ∙ c.in_ok-object_like.ensures.ok),
      ap (λ o. handle_of (unwrap_or o undefined_value) heap) (property-lent s scopes c.args.object.0 c.in_ok-object.object object c.args.name.0)
          ∙ ap (λ n. handle_of n heap) (found-number s _ c.get_prop.result c.get_prop.ensures ∙ sym c.or_undefined-value.ensures.number)
          ∙ c.in_ok-give.ensures.gives,
    )
