-- How two ordered maps stand for a value's properties.
use Rattle.std.specs.Prelude.{◌≡◌, ℕ, nat_eq, List, map}
use Rattle.std.specs.BTreeMap.{BTreeMap, IsOrdered, get}
use Rattle.std.specs.BTreeMap.Range.{entries_between}
use Rattle.std.specs.declared.ops.Bound.{Bound}
use Rattle.std.specs.declared.ops.Bound.TheVariants.{Unbounded}
use Rattle.std.specs.List.{IsDistinct}
use Rattle.std.specs.Map.{keys_of, values_of, lookup}
use Rattle.std.specs.Ordering.{nat_cmp}
use Rattle.napi_types.specs.declared.ids.ValueId.{ValueId}

-- the number of each name, in the order of the numbers
abbrev pub numbered_names : List (ℕ × (ℕ × ValueId)) → List (ℕ × ℕ)
numbered_names es = map (λ e. (e.1.0, e.0)) es

-- the numbers rise, no name stands twice, and the map by names has the number of each
pub record AreKeptProperties (by_number : BTreeMap ℕ (ℕ × ValueId)) (by_name : BTreeMap ℕ ℕ) : Type 0 where
  pub rising : IsOrdered nat_cmp by_number
  pub distinct : IsDistinct nat_eq (keys_of (values_of by_number.entries))
  pub named : (name : ℕ) → get nat_cmp by_name name ≡ lookup (nat_eq name) (numbered_names by_number.entries)

-- the properties that stand under the numbers from a bound on
abbrev pub properties_from : Bound ℕ → BTreeMap ℕ (ℕ × ValueId) → List (ℕ × ValueId)
properties_from from by_number = values_of (entries_between nat_cmp from Unbounded by_number.entries)
