-- Values that are freed.
use Rattle.std.specs.Prelude.{List}
use Rattle.std.specs.List.Sorted.{IsNonDecreasingBy}
use Rattle.napi_types.specs.declared.ids.ValueId.{ValueId}
use Rattle.napi_reference.specs.declared.freed.Order.{Order}
use Rattle.napi_reference.specs.declared.freed.Order.TheVariants as order

-- values lie in this order
abbrev pub IsInOrder : Order → List ValueId → Type 0
IsInOrder order.Rising values = IsNonDecreasingBy (λ v. v.0) values
IsInOrder order.Any values = Unit {0}
