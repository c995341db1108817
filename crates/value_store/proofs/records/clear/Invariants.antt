use Rattle.std.proofs.Common.{◌≡◌, ℕ, cond, take, None}
use Rattle.generation_slab.specs.HeldPlaces.{value_of, EachStandsOnce}
use Rattle.napi_types.specs.plain.Lists.{has_number}
use Rattle.value_store.specs.StoreChanges.{numbers_of}
use Rattle.value_store.proofs.records.clear.Given as goal

abbrev pub invariant-loop-id : goal.invariant-loop-id
invariant-loop-id l = record {
  values : (n : ℕ) → value_of l.values n ≡ cond (has_number n (numbers_of (take l.id-index l.list))) None (value_of l.fn.values n);
  issued : l.values.issued ≡ l.fn.values.issued;
  once : EachStandsOnce l.values;
}
