use Rattle.std.proofs.Common.{◌∙◌, refl, sym, arith}
use Rattle.napi_types.specs.declared.call.Call.TheVariants as call
use Rattle.napi_reference.specs.ReferencePlaces.{map_of}
use Rattle.napi_reference.proofs.CountingReferences.{refused_unknown, refused_known}
use Rattle.napi_reference.proofs.ReferenceNumbers.{row-read, none-read}
use Rattle.napi_reference.proofs.refs.Refs.value.Goals as goal

pub returns-in_err-row-clause-refusal : goal.returns-in_err-row-clause-refusal
returns-in_err-row-clause-refusal c =
    let none = none-read c.self.inside.rows c.args.self.now c.self.view_is c.args.id.0 (sym c.in_err-row.ensures.ok_part ∙ c.row_at.ensures) in
    let refused = refused_unknown (map_of c.args.self.now) c.args.id.0 (call.GetReferenceValue c.args.id) refl none in
    grind (arith, refused)

pub returns-clause-refusal : goal.returns-clause-refusal
returns-clause-refusal c =
    let is = row-read c.self.inside.rows c.args.self.now c.self.view_is c.args.id.0 c.in_ok-row.row (sym c.in_ok-row.ensures.ok_part ∙ c.row_at.ensures) in
    sym (refused_known (map_of c.args.self.now) c.args.id.0 (call.GetReferenceValue c.args.id) refl is.there)

pub returns-clause-value : goal.returns-clause-value
returns-clause-value c =
    let is = row-read c.self.inside.rows c.args.self.now c.self.view_is c.args.id.0 c.in_ok-row.row (sym c.in_ok-row.ensures.ok_part ∙ c.row_at.ensures) in
    sym is.value
