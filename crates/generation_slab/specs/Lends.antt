-- What a slab with generations ends as, where a `&mut` to one of its values is returned.
use Rattle.std.specs.Prelude.{ℕ}
use Rattle.std.specs.Borrow.{Lends, Fml, RattleType, MutBor}
use Rattle.generation_slab.specs.HeldPlaces.{HeldPlaces, with_value_at}
use Rattle.generation_slab.specs.contracts.slots.GenerationSlab.{the_row}

-- once the borrow r ends, the last value written through r stands under the number
abbrev pub lends_value : (T : RattleType) → MutBor (HeldPlaces T.Denot) → ℕ → MutBor T.Denot → Fml
lends_value T s number r = Lends (the_row T) T s r (with_value_at number s.now)
