use Rattle.std.proofs.Common.{◌∙◌, ap, sym, subst, refl}
use Rattle.std.specs.List.{All}
use Rattle.napi_types.specs.declared.call.Call.TheVariants as call
use Rattle.napi_types.specs.parts.Bodies.{NamesNoChild}
use Rattle.napi_types.specs.parts.HeapChanges.{new_list}
use Rattle.env_values.specs.SeenValues.{heap_of}
use Rattle.env_values.proofs.Coming.{comes-without_memory}
use Rattle.env_values.proofs.ListedNames.{names-alone}
use Rattle.env_values.proofs.names.get_property_names.Goals as goal

pub returns-in_err-give_list-clause-comes : goal.returns-in_err-give_list-clause-comes
returns-in_err-give_list-clause-comes c = λ texts.
    let heap = heap_of c.args.store.now c.args.scopes.now in
    comes-without_memory texts heap _ (call.GetPropertyNames c.args.object) _ c.from_residual-in_err-give_list.ensures.1 refl
    (c.in_ok-names.ensures.unrefused texts) c.in_err-give_list.ensures.gives

pub returns-clause-comes : goal.returns-clause-comes
returns-clause-comes c = λ texts.
    let heap = heap_of c.args.store.now c.args.scopes.now in (
      c.in_ok-names.ensures.unrefused texts,
      ap (λ bs. new_list bs heap) (sym c.in_ok-names.ensures.names ∙ sym c.deref.ensures.value) ∙ c.in_ok-give_list.ensures.gives,
    )

pub give_list-requires-clause-alone : goal.give_list-requires-clause-alone
give_list-requires-clause-alone c = subst (All NamesNoChild) (sym (c.deref.ensures.value ∙ c.in_ok-names.ensures.names)) (names-alone _)
