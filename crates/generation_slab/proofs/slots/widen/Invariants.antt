use Rattle.std.proofs.Common.{◌≡◌, ℕ, ◌+◌, ◌≤◌, max, length, vec_capacity, slice_index_or}
use Rattle.generation_slab.proofs.slots.widen.Given as goal

abbrev pub invariant-loop : goal.invariant-loop
invariant-loop l = record {
  at : length l.generations.items ≡ l.counter;
  most : (length l.fn.generations.items ≤ l.counter) × (l.counter ≤ max (length l.fn.generations.items) (l.slot + 1));
  kept : (k : ℕ) → slice_index_or l.generations.items k 0 ≡ slice_index_or l.fn.generations.items k 0;
  capacity : vec_capacity l.generations ≡ vec_capacity l.fn.generations;
}
