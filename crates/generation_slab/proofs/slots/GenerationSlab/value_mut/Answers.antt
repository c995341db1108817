use Rattle.std.proofs.Common.{◌∙◌, ap, sym, refl, is_some}
use Rattle.generation_slab.proofs.InOrder.{found-in, writes, write-order, write-places}
use Rattle.generation_slab.proofs.Kept.{kept-put}
use Rattle.generation_slab.proofs.SlotReading.{value-seen}
use Rattle.generation_slab.proofs.LiveSlots.{have-generations}
use Rattle.generation_slab.specs.SlotNumbers.{live_at}
use Rattle.generation_slab.proofs.slots.GenerationSlab.value_mut.Goals as goal

pub index_mut-requires : goal.index_mut-requires
index_mut-requires g c = let found = (found-in c.self.inside.slots c.self.inside.generations.items c.self.inside.last c.self.inside.count _ c.self.inside.room c.self.invariant.order c.args.self.now c.self.view_is c.args.number c.slot_of-slot.result c.slot_of-slot.ensures c.requires) in ap is_some found.there

pub invariant_of-self-lent : goal.invariant_of-self-lent
invariant_of-self-lent g c w =
    let found = (found-in c.self.inside.slots c.self.inside.generations.items c.self.inside.last c.self.inside.count _ c.self.inside.room c.self.invariant.order c.args.self.now c.self.view_is c.args.number c.slot_of-slot.result c.slot_of-slot.ensures c.requires) in
    kept-put c.self.inside.slots c.self.inside.generations.items c.self.inside.last c.self.inside.count _ c.self.inside.room c.self.inside.vacant c.self.invariant _ c.slot_of-slot.result found.at.value w
    (writes c.self.inside.slots c.self.inside.generations.items c.self.inside.last c.self.inside.count _ c.self.inside.room c.self.invariant.order c.args.self.now c.self.view_is c.args.number c.slot_of-slot.result found w) found.at.there
    (write-order c.self.inside.slots c.self.inside.generations.items c.self.inside.last c.self.inside.count _ c.self.inside.room c.self.invariant.order c.args.self.now c.self.view_is c.args.number c.slot_of-slot.result found w) refl

pub returns : goal.returns
returns g c =
    let found = (found-in c.self.inside.slots c.self.inside.generations.items c.self.inside.last c.self.inside.count _ c.self.inside.room c.self.invariant.order c.args.self.now c.self.view_is c.args.number c.slot_of-slot.result c.slot_of-slot.ensures c.requires) in (
      (refl, λ w. write-places c.self.inside.slots c.self.inside.generations.items c.self.inside.last c.self.inside.count _ c.self.inside.room c.self.invariant.order c.args.self.now c.self.view_is c.args.number c.slot_of-slot.result found w),
      record { writes_back = tt; value = value-seen (live_at c.self.inside.slots c.self.inside.generations.items c.self.inside.last) c.self.inside.generations.items c.self.inside.room (have-generations c.self.inside.slots c.self.inside.generations.items c.self.inside.last c.self.inside.count _ c.self.inside.room c.self.invariant.order) c.args.self.now c.self.view_is c.args.number ∙ found.at.told ∙ sym found.there ∙ c.index_mut.ensures.value },
    )
