use Rattle.std.proofs.Common.{refl}
use Rattle.napi_types.specs.declared.call.Call.TheVariants as call
use Rattle.env_values.specs.SeenValues.{heap_of}
use Rattle.env_values.proofs.Coming.{comes-of}
use Rattle.env_values.proofs.step.outcome.Goals as goal

pub returns-in-GetArrayLength-clause-comes : goal.returns-in-GetArrayLength-clause-comes
returns-in-GetArrayLength-clause-comes c =
    let before = heap_of c.args.store.now c.args.scopes.now in
    comes-of c.args.texts c.args.addon before _ (call.GetArrayLength c.in-GetArrayLength.value) c.get_array_length.result before c.in-GetArrayLength.is refl (c.get_array_length.ensures.comes c.args.texts)

pub returns-in-StrictEquals-clause-comes : goal.returns-in-StrictEquals-clause-comes
returns-in-StrictEquals-clause-comes c =
    let before = heap_of c.args.store.now c.args.scopes.now in
    comes-of c.args.texts c.args.addon before _ (call.StrictEquals c.in-StrictEquals.left c.in-StrictEquals.right) c.strict_equals.result before c.in-StrictEquals.is refl (c.strict_equals.ensures.comes c.args.texts)

pub returns-in-HasElement-clause-comes : goal.returns-in-HasElement-clause-comes
returns-in-HasElement-clause-comes c =
    let before = heap_of c.args.store.now c.args.scopes.now in
    comes-of c.args.texts c.args.addon before _ (call.HasElement c.in-HasElement.object c.in-HasElement.index) c.has_element.result before c.in-HasElement.is refl (c.has_element.ensures.comes c.args.texts)

pub returns-in-GetNamedProperty-clause-comes : goal.returns-in-GetNamedProperty-clause-comes
returns-in-GetNamedProperty-clause-comes c =
    let before = heap_of c.args.store.now c.args.scopes.now in
    comes-of c.args.texts c.args.addon before _ (call.GetNamedProperty c.in-GetNamedProperty.object c.in-GetNamedProperty.name) c.get_named_property.result (heap_of c.args.store.now c.get_named_property.new.scopes) c.in-GetNamedProperty.is refl (c.get_named_property.ensures.comes)

pub returns-in-GetElement-clause-comes : goal.returns-in-GetElement-clause-comes
returns-in-GetElement-clause-comes c =
    let before = heap_of c.args.store.now c.args.scopes.now in
    comes-of c.args.texts c.args.addon before _ (call.GetElement c.in-GetElement.object c.in-GetElement.index) c.get_element.result (heap_of c.args.store.now c.get_element.new.scopes) c.in-GetElement.is refl (c.get_element.ensures.comes c.args.texts)

pub returns-in-SetElement-clause-comes : goal.returns-in-SetElement-clause-comes
returns-in-SetElement-clause-comes c =
    let before = heap_of c.args.store.now c.args.scopes.now in
    comes-of c.args.texts c.args.addon before _ (call.SetElement c.in-SetElement.object c.in-SetElement.index c.in-SetElement.value) c.set_element.result (heap_of c.set_element.new.store c.args.scopes.now) c.in-SetElement.is refl (c.set_element.ensures.comes c.args.texts)

pub returns-in-GetPropertyNames-clause-comes : goal.returns-in-GetPropertyNames-clause-comes
returns-in-GetPropertyNames-clause-comes c =
    let before = heap_of c.args.store.now c.args.scopes.now in
    comes-of c.args.texts c.args.addon before _ (call.GetPropertyNames c.in-GetPropertyNames.object) c.get_property_names.result (heap_of c.get_property_names.new.store c.get_property_names.new.scopes) c.in-GetPropertyNames.is refl (c.get_property_names.ensures.comes c.args.texts)

pub returns-in-Typeof-clause-comes : goal.returns-in-Typeof-clause-comes
returns-in-Typeof-clause-comes c = c.answer_about.ensures.comes c.args.texts c.args.addon
