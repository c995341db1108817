use Rattle.std.proofs.Common.{◌≡◌, ℕ, ◌-◌, ◌<◌, ◌≤◌, true, length}
use Rattle.mark_bits.specs.PlaceMarks.{is_marked}
use Rattle.mark_bits.proofs.bits.Bits.next_unset.Given as goal

abbrev pub invariant-loop-place : goal.invariant-loop-place
invariant-loop-place l = record {
  low : l.from ≤ l.place;
  within : l.place ≤ length l.self;
  passed : (place : ℕ) → l.from ≤ place → place < l.place → is_marked l.self place ≡ true;
}

abbrev pub decreases-loop-place : goal.decreases-loop-place
decreases-loop-place l = length l.self - l.place
