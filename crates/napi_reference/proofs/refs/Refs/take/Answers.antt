use Rattle.std.proofs.Common.{◌∙◌, ◌-◌, refl, sym, ap, arith}
use Rattle.napi_types.specs.declared.call.Call.TheVariants as call
use Rattle.napi_reference.specs.ReferencePlaces.{map_of}
use Rattle.napi_reference.proofs.ReferenceChanges.{counted}
use Rattle.napi_reference.proofs.CountingReferences.{refused_unknown, take_of_none, take_of_some}
use Rattle.napi_reference.proofs.ReferenceNumbers.{row-read, none-read}
use Rattle.napi_reference.proofs.refs.Refs.take.Goals as goal

pub returns-in_err-row-clause-refusal : goal.returns-in_err-row-clause-refusal
returns-in_err-row-clause-refusal c =
    let none = none-read c.self.inside.rows c.args.self.now c.self.view_is c.args.id.0 (sym c.in_err-row.ensures.ok_part ∙ c.row_at.ensures) in
    let refused = refused_unknown (map_of c.args.self.now) c.args.id.0 (call.ReferenceUnref c.args.id) refl none in
    grind (arith, refused)

pub returns-in_err-count-clause-refusal : goal.returns-in_err-count-clause-refusal
returns-in_err-count-clause-refusal c =
    let is = row-read c.self.inside.rows c.args.self.now c.self.view_is c.args.id.0 c.in_ok-row.row (sym c.in_ok-row.ensures.ok_part ∙ c.row_at.ensures) in
    let many = rw c.in_err-count.ensures.ok_part at c.checked_sub.ensures in
    let refused = take_of_none (map_of c.args.self.now) c.args.id c.in_ok-row.row is (omega (arith, many)) in
    grind (arith, refused)

pub returns-clause-refusal : goal.returns-clause-refusal
returns-clause-refusal c =
    let is = row-read c.self.inside.rows c.args.self.now c.self.view_is c.args.id.0 c.in_ok-row.row (sym c.in_ok-row.ensures.ok_part ∙ c.row_at.ensures) in
    let many = rw c.in_ok-count.ensures.ok_part at c.checked_sub.ensures in
    take_of_some (map_of c.args.self.now) c.args.id c.in_ok-row.row is (omega (arith, many))

pub returns-clause-count : goal.returns-clause-count
returns-clause-count c =
    let is = row-read c.self.inside.rows c.args.self.now c.self.view_is c.args.id.0 c.in_ok-row.row (sym c.in_ok-row.ensures.ok_part ∙ c.row_at.ensures) in
    let many = rw c.in_ok-count.ensures.ok_part at c.checked_sub.ensures in
    many.1 ∙ sym (ap (λ n. n - 1) is.count)

pub returns-clause-counted : goal.returns-clause-counted
returns-clause-counted c =
    (counted c.self.inside.rows c.replace.new.self c.args.self.now c.self.view_is c.args.id.0 c.in_ok-count.count c.in_ok-row.row (sym c.in_ok-row.ensures.ok_part ∙ c.row_at.ensures) c.replace.ensures.replaced c.replace.ensures.issued)
