use Rattle.std.proofs.Common.{◌∙◌, ◌+◌, refl, sym, ap, arith}
use Rattle.napi_types.specs.declared.call.Call.TheVariants as call
use Rattle.napi_reference.specs.ReferencePlaces.{map_of}
use Rattle.napi_reference.proofs.ReferenceChanges.{counted}
use Rattle.napi_reference.proofs.CountingReferences.{refused_unknown, add_of_gone, add_of_full, add_of_less}
use Rattle.napi_reference.proofs.ReferenceNumbers.{row-read, none-read, value-gone, value-there}
use Rattle.napi_reference.proofs.refs.Refs.add.Goals as goal

pub returns-in_err-row-clause-refusal : goal.returns-in_err-row-clause-refusal
returns-in_err-row-clause-refusal c =
    let none = none-read c.self.inside.rows c.args.self.now c.self.view_is c.args.id.0 (sym c.in_err-row.ensures.ok_part ∙ c.row_at.ensures) in
    let refused = refused_unknown (map_of c.args.self.now) c.args.id.0 (call.ReferenceRef c.args.id) refl none in
    grind (arith, refused)

-- a value that was collected
pub returns-then-is_none-clause-refusal : goal.returns-then-is_none-clause-refusal
returns-then-is_none-clause-refusal c =
    let is = row-read c.self.inside.rows c.args.self.now c.self.view_is c.args.id.0 c.in_ok-row.row (sym c.in_ok-row.ensures.ok_part ∙ c.row_at.ensures) in
    add_of_gone (map_of c.args.self.now) c.args.id c.in_ok-row.row is c.if-is_none.ensures

pub returns-then-is_none-clause-count : goal.returns-then-is_none-clause-count
returns-then-is_none-clause-count c =
    let is = row-read c.self.inside.rows c.args.self.now c.self.view_is c.args.id.0 c.in_ok-row.row (sym c.in_ok-row.ensures.ok_part ∙ c.row_at.ensures) in
    λ some. absurd (value-gone (map_of c.args.self.now) c.args.id.0 c.in_ok-row.row is c.if-is_none.ensures some)

pub returns-then-is_none-clause-counted : goal.returns-then-is_none-clause-counted
returns-then-is_none-clause-counted c =
    let is = row-read c.self.inside.rows c.args.self.now c.self.view_is c.args.id.0 c.in_ok-row.row (sym c.in_ok-row.ensures.ok_part ∙ c.row_at.ensures) in
    λ some. absurd (value-gone (map_of c.args.self.now) c.args.id.0 c.in_ok-row.row is c.if-is_none.ensures some)

-- one that is there
pub returns-in_err-count-clause-refusal : goal.returns-in_err-count-clause-refusal
returns-in_err-count-clause-refusal c =
    let is = row-read c.self.inside.rows c.args.self.now c.self.view_is c.args.id.0 c.in_ok-row.row (sym c.in_ok-row.ensures.ok_part ∙ c.row_at.ensures) in
    let many = rw c.in_err-count.ensures.ok_part at c.checked_add.ensures in
    let refused = add_of_full (map_of c.args.self.now) c.args.id c.in_ok-row.row is c.if-is_none.ensures (omega (arith, many)) in
    grind (arith, refused)

pub returns-clause-refusal : goal.returns-clause-refusal
returns-clause-refusal c =
    let is = row-read c.self.inside.rows c.args.self.now c.self.view_is c.args.id.0 c.in_ok-row.row (sym c.in_ok-row.ensures.ok_part ∙ c.row_at.ensures) in
    let many = rw c.in_ok-count.ensures.ok_part at c.checked_add.ensures in
    add_of_less (map_of c.args.self.now) c.args.id c.in_ok-row.row is c.if-is_none.ensures (omega (arith, many))

pub returns-clause-count : goal.returns-clause-count
returns-clause-count c =
    let is = row-read c.self.inside.rows c.args.self.now c.self.view_is c.args.id.0 c.in_ok-row.row (sym c.in_ok-row.ensures.ok_part ∙ c.row_at.ensures) in
    let many = rw c.in_ok-count.ensures.ok_part at c.checked_add.ensures in
    λ _. many.1 ∙ sym (ap (λ n. n + 1) is.count)

pub returns-clause-counted : goal.returns-clause-counted
returns-clause-counted c =
    λ _. (counted c.self.inside.rows c.replace.new.self c.args.self.now c.self.view_is c.args.id.0 c.in_ok-count.count c.in_ok-row.row (sym c.in_ok-row.ensures.ok_part ∙ c.row_at.ensures) c.replace.ensures.replaced c.replace.ensures.issued)

pub returns-clause-gone : goal.returns-clause-gone
returns-clause-gone c =
    let is = row-read c.self.inside.rows c.args.self.now c.self.view_is c.args.id.0 c.in_ok-row.row (sym c.in_ok-row.ensures.ok_part ∙ c.row_at.ensures) in
    λ none. absurd (value-there (map_of c.args.self.now) c.args.id.0 c.in_ok-row.row is c.if-is_none.ensures none)

pub returns-clause-gone_stays : goal.returns-clause-gone_stays
returns-clause-gone_stays c =
    let is = row-read c.self.inside.rows c.args.self.now c.self.view_is c.args.id.0 c.in_ok-row.row (sym c.in_ok-row.ensures.ok_part ∙ c.row_at.ensures) in
    λ none. absurd (value-there (map_of c.args.self.now) c.args.id.0 c.in_ok-row.row is c.if-is_none.ensures none)
