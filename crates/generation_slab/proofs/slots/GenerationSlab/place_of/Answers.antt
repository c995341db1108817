use Rattle.std.proofs.Common.{◌∙◌, ap, Some, option_map, arith}
use Rattle.generation_slab.specs.SlotNumbers.{live_at, standing_in, generation_in}
use Rattle.generation_slab.proofs.InOrder.{found-in}
use Rattle.generation_slab.proofs.LiveSlots.{have-generations}
use Rattle.generation_slab.proofs.SlotReading.{long, place-seen}
use Rattle.generation_slab.proofs.slots.GenerationSlab.place_of.Goals as goal

pub returns : goal.returns
returns g c =
    let found = (found-in c.self.inside.slots c.self.inside.generations.items c.self.inside.last c.self.inside.count _ c.self.inside.room c.self.invariant.order c.args.self.now c.self.view_is c.args.number c.slot_of.result c.slot_of.ensures c.requires) in
    ap (option_map (λ h. h.number))
    (place-seen (live_at c.self.inside.slots c.self.inside.generations.items c.self.inside.last) c.self.inside.generations.items c.self.inside.room (have-generations c.self.inside.slots c.self.inside.generations.items c.self.inside.last c.self.inside.count _ c.self.inside.room c.self.invariant.order) c.args.self.now c.self.view_is c.slot_of.result (omega (arith, found.at.within, long (live_at c.self.inside.slots c.self.inside.generations.items c.self.inside.last) c.self.inside.generations.items c.self.inside.room (have-generations c.self.inside.slots c.self.inside.generations.items c.self.inside.last c.self.inside.count _ c.self.inside.room c.self.invariant.order) c.args.self.now c.self.view_is))
    ∙ ap (standing_in (generation_in c.self.inside.generations.items c.slot_of.result) c.slot_of.result) found.at.there)
    ∙ ap Some found.at.is
