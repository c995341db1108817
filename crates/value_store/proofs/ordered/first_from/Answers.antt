use Rattle.std.proofs.Common.{rules, ◌≡◌, ◌∙◌, ◌∷◌, ℕ, List, ap, sym}
use Rattle.std.specs.BTreeMap.Range.{entries_between}
use Rattle.std.specs.declared.ops.Bound.TheVariants.{Unbounded}
use Rattle.std.specs.Map.{values_of}
use Rattle.std.specs.Ordering.{nat_cmp}
use Rattle.napi_types.specs.declared.ids.ValueId.{ValueId}
use Rattle.value_store.proofs.OrderedMaps.{walked}
use Rattle.value_store.proofs.ordered.first_from.Goals as goal

pub returns : goal.returns
returns c =
    let es = c.args.by_number.now.entries in
    let number = c.in_ok-number.number.now in
    let property = c.in_ok-number.property.now in
    let is : entries_between nat_cmp c.args.from Unbounded es ≡ (number, property) ∷ c.next.new.self = sym (c.range.ensures.between (search rules)) ∙ c.in_ok-number.ensures.steps in
    ap values_of is ∙ ap (λ (l : List (ℕ × (ℕ × ValueId))). property ∷ values_of l) (sym (walked c.args.from es c.next.new.self (number, property) c.range.ensures.ordered is))
