use Rattle.std.proofs.Common.{◌∙◌, refl, sym, arith}
use Rattle.napi_types.specs.declared.call.Call.TheVariants as call
use Rattle.napi_reference.specs.ReferencePlaces.{map_of}
use Rattle.napi_reference.proofs.ReferenceChanges.{deleted}
use Rattle.napi_reference.proofs.CountingReferences.{refused_unknown, refused_known}
use Rattle.napi_reference.proofs.ReferenceNumbers.{row-read, none-read}
use Rattle.napi_reference.proofs.refs.Refs.delete.Goals as goal

pub returns-in_err-ok_or-clause-refusal : goal.returns-in_err-ok_or-clause-refusal
returns-in_err-ok_or-clause-refusal c =
    let none = none-read c.self.inside.rows c.args.self.now c.self.view_is c.args.id.0 (sym c.in_err-ok_or.ensures.ok_part ∙ c.row_at.ensures) in
    let refused = refused_unknown (map_of c.args.self.now) c.args.id.0 (call.DeleteReference c.args.id) refl none in
    grind (arith, refused)

pub returns-clause-refusal : goal.returns-clause-refusal
returns-clause-refusal c =
    let is = row-read c.self.inside.rows c.args.self.now c.self.view_is c.args.id.0 c.in_ok-ok_or.field-0 (sym c.in_ok-ok_or.ensures.ok_part ∙ c.row_at.ensures) in
    sym (refused_known (map_of c.args.self.now) c.args.id.0 (call.DeleteReference c.args.id) refl is.there)

pub returns-clause-deleted : goal.returns-clause-deleted
returns-clause-deleted c =
    deleted c.self.inside.rows c.free.new.self c.args.self.now c.self.view_is c.args.id.0 c.free.ensures.freed c.free.ensures.issued
