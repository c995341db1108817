use Rattle.std.proofs.Common.{◌≡◌, ◌∙◌, sym, subst, arith, nat_eq, map, length, rules}
use Rattle.std.specs.List.{IsDistinct}
use Rattle.generation_slab.specs.HeldPlaces.{standing}
use Rattle.generation_slab.specs.SlotNumbers.{live_at}
use Rattle.generation_slab.proofs.LiveSlots.{have-generations}
use Rattle.generation_slab.proofs.SlotReading.{long}
use Rattle.generation_slab.proofs.HeldPlaces.{numbers-once}
use Rattle.generation_slab.proofs.slots.GenerationSlab.places.Goals as goal

pub returns-clause-places : goal.returns-clause-places
returns-clause-places g c =
    let many : c.len.result ≡ length c.self.inside.generations.items = search rules in
    many ∙ sym (long (live_at c.self.inside.slots c.self.inside.generations.items c.self.inside.last) c.self.inside.generations.items c.self.inside.room (have-generations c.self.inside.slots c.self.inside.generations.items c.self.inside.last c.self.inside.count _ c.self.inside.room c.self.invariant.order) c.args.self.now c.self.view_is)

pub returns-clause-once : goal.returns-clause-once
returns-clause-once g c =
    subst (λ t. IsDistinct nat_eq (map (λ h. h.number) (standing t.places))) c.self.view_is
    (numbers-once (live_at c.self.inside.slots c.self.inside.generations.items c.self.inside.last) 0 c.self.inside.generations.items (omega (arith, c.self.invariant.order.few)))
