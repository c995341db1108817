use Rattle.std.proofs.Common.{◌∙◌, ap, sym}
use Rattle.napi_types.specs.parts.Bodies.{is_object_like}
use Rattle.napi_types.specs.parts.PropertyCalls.{names_of}
use Rattle.env_values.proofs.HandleValues.{properties-lent}
use Rattle.env_values.proofs.ListedNames.{names-seen}
use Rattle.env_values.proofs.UnrefusedValues.{names-unrefused}
use Rattle.env_values.proofs.names.listed_names.Goals as goal

pub returns-clause-names : goal.returns-clause-names
returns-clause-names c =
    let s = c.args.store.now in
    let v = c.in_ok-object.object in
    c.in_ok-names.ensures ∙ sym (ap names_of (properties-lent s c.args.scopes.now c.args.object.0 v c.in_ok-object.ensures.ok) ∙ names-seen s v.properties)

pub returns-clause-unrefused : goal.returns-clause-unrefused
returns-clause-unrefused c = λ texts. names-unrefused texts c.args.object c.in_ok-object.ensures.ok (ap is_object_like (sym c.body.ensures) ∙ c.in_ok-object_like.ensures.ok) c.in_ok-listable.ensures.ok
