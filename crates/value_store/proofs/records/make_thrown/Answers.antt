use Rattle.std.proofs.Common.{◌+◌, ◌∙◌, ap, sym, subst, IsSome, refl, length}
use Rattle.napi_types.specs.plain.Texts.{message_text, code_text}
use Rattle.napi_types.specs.parts.NewValues.{thrown_of}
use Rattle.napi_types.specs.parts.Properties.{property_at}
use Rattle.napi_types.specs.parts.Values.{with_property}
use Rattle.value_store.specs.Contents.{state_of, GrowsTo}
use Rattle.value_store.proofs.RecordValues.{properties-here}
use Rattle.value_store.proofs.Thrown.{thrown-plain, thrown-coded}
use Rattle.value_store.proofs.records.make_thrown.Goals as goal

pub name_again-requires : goal.name_again-requires
name_again-requires c =
    subst (λ ps. IsSome (property_at message_text ps)) (sym (ap (λ v. v.properties) (c.in_ok-error-in-None.ensures 0)) ∙ properties-here 0 c.in_ok-error-in-None.error) refl

pub name_again-requires-in-Some : goal.name_again-requires-in-Some
name_again-requires-in-Some c =
    subst (λ ps. IsSome (property_at message_text ps)) (sym (ap (λ v. v.properties) (c.in_ok-error-in-Some.ensures 0)) ∙ properties-here 0 c.in_ok-error-in-Some.error) refl

pub name_again-requires-in-Some-2 : goal.name_again-requires-in-Some-2
name_again-requires-in-Some-2 c =
    subst (λ ps. IsSome (property_at code_text ps))
    (sym (ap (λ v. v.properties) (c.name_again-in-Some.ensures 0 ∙ ap (with_property message_text c.put-said-in-Some.result.0) (c.in_ok-error-in-Some.ensures 0))) ∙ properties-here 0 c.name_again-in-Some.new.error) refl

pub returns-in_ok-reserve-in-None-clause-thrown : goal.returns-in_ok-reserve-in-None-clause-thrown
returns-in_ok-reserve-in-None-clause-thrown c =
    subst (λ code. GrowsTo (state_of c.args.values.now c.args.made) (state_of c.put.new.values (c.args.made + length (thrown_of c.args.made code c.args.message))) (thrown_of c.args.made code c.args.message) c.put.result.0) (sym c.in-None.is)
    (thrown-plain c.args.values.now c.reserve.new.self c.args.made c.args.message c.requires.good c.reserve.ensures.kept c.put-said.new.values c.put.new.values c.put-said.result.0 c.put.result.0
    c.in_ok-error-in-None.error c.name_again.new.error c.put-said.ensures.added c.in_ok-error-in-None.ensures c.name_again.ensures c.put.ensures.added)

pub returns-in_ok-reserve-in-Some-clause-thrown : goal.returns-in_ok-reserve-in-Some-clause-thrown
returns-in_ok-reserve-in-Some-clause-thrown c =
    subst (λ code. GrowsTo (state_of c.args.values.now c.args.made) (state_of c.put-in-Some.new.values (c.args.made + length (thrown_of c.args.made code c.args.message))) (thrown_of c.args.made code c.args.message) c.put-in-Some.result.0) (sym c.in-Some.is)
    (thrown-coded c.args.values.now c.reserve-in-Some.new.self c.args.made c.args.message c.requires.good c.reserve-in-Some.ensures.kept c.in-Some.code c.put-said-in-Some.new.values c.put-coded.new.values c.put-in-Some.new.values
    c.put-said-in-Some.result.0 c.put-coded.result.0 c.put-in-Some.result.0 c.in_ok-error-in-Some.error c.name_again-in-Some.new.error c.name_again-in-Some-2.new.error c.put-said-in-Some.ensures.added c.in_ok-error-in-Some.ensures
    c.name_again-in-Some.ensures c.put-coded.ensures.added c.name_again-in-Some-2.ensures c.put-in-Some.ensures.added)
