-- References (the manual's `napi_ref`): a finite map from their numbers to a value, or to none where it was collected, and a count.
use Rattle.std.specs.Prelude.{ℕ, ◌==◌, Bool, not, cond, List, [], map, filter, filter_map, Option, Some, None, option_map}
use Rattle.std.specs.Option.{unwrap_or}
use Rattle.napi_types.specs.plain.Lists.{found, has, with_record, with_number}

-- a reference: its number, the number of its value, none where that was collected, and its count
pub record Reference : Type 0 where
  pub number : ℕ
  pub value : Option ℕ
  pub count : ℕ

-- the references that were made and not deleted, and the numbers that were issued, both as finite maps
pub record ReferenceMap : Type 0 where
  pub rows : List Reference
  pub issued : List ℕ

-- before the first is made
abbrev pub no_references : ReferenceMap
no_references = record { rows = []; issued = [] }

-- the greatest count
abbrev pub most_count : ℕ
most_count = 4294967295

-- the reference of a number
abbrev pub reference_at : ReferenceMap → ℕ → Option Reference
reference_at m n = found (λ r. r.number) n m.rows

-- a reference has the number
abbrev pub has_reference : ReferenceMap → ℕ → Bool
has_reference m n = has (λ r. r.number) n m.rows

-- the value of a reference, none where it was collected; a number that no reference has, which each call refuses, reads so too
abbrev pub referred_value : ReferenceMap → ℕ → Option ℕ
referred_value m n = unwrap_or (option_map (λ r. r.value) (reference_at m n)) None

-- its count, likewise 0
abbrev pub reference_count : ReferenceMap → ℕ → ℕ
reference_count m n = unwrap_or (option_map (λ r. r.count) (reference_at m n)) 0

-- one reference more, of this number, to a value
abbrev pub with_reference : ℕ → ℕ → ℕ → ReferenceMap → ReferenceMap
with_reference n value count m = record {
  rows = with_record (λ r. r.number) (record { number = n; value = Some value; count = count }) m.rows;
  issued = with_number n m.issued;
}

-- without the reference of this number
abbrev pub without_reference : ℕ → ReferenceMap → ReferenceMap
without_reference n m = record m { rows = filter (λ r. not (r.number == n)) m.rows }

-- the reference of this number has another count
abbrev pub with_count : ℕ → ℕ → ReferenceMap → ReferenceMap
with_count n count m = record m { rows = map (λ (r : Reference). cond (r.number == n) (record r { count = count }) r) m.rows }

-- while its count is above 0 a reference is strong, and keeps its value from being collected
abbrev pub strong_value : Reference → Option ℕ
strong_value r = cond (r.count == 0) None r.value

-- the values that strong references keep
abbrev pub strong_values : ReferenceMap → List ℕ
strong_values m = filter_map strong_value m.rows

-- the value of a reference as these values are collected
abbrev pub value_left : (ℕ → Bool) → Option ℕ → Option ℕ
value_left collected None = None
value_left collected (Some v) = cond (collected v) None (Some v)

-- the references to the values that are collected name none
abbrev pub emptied : (ℕ → Bool) → ReferenceMap → ReferenceMap
emptied collected m = record m { rows = map (λ (r : Reference). record r { value = value_left collected r.value }) m.rows }
