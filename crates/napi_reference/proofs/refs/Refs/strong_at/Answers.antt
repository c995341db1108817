use Rattle.std.proofs.Common.{◌∙◌, length, ap, arith, option_map}
use Rattle.napi_reference.specs.ReferencePlaces.{ReferencePlaces}
use Rattle.napi_reference.proofs.ReferenceNumbers.{length-references}
use Rattle.napi_reference.proofs.Strong.{strong-place}
use Rattle.napi_reference.proofs.refs.Refs.strong_at.Goals as goal

pub value_in-requires : goal.value_in-requires
value_in-requires c = omega (arith, c.requires, length-references c.self.inside.rows, ap (λ (p : ReferencePlaces). length p.places) c.self.view_is)

pub returns : goal.returns
returns c =
    strong-place c.self.inside.rows c.args.self.now c.self.view_is c.args.at c.copied.result (c.copied.ensures ∙ c.value_in.ensures) (option_map (λ v. v.0) c.strong_value.result) c.strong_value.ensures
