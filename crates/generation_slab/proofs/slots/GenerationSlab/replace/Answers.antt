use Rattle.std.proofs.Common.{◌∙◌, ap, sym, is_some, Some, refl}
use Rattle.generation_slab.specs.SlotNumbers.{live_at}
use Rattle.generation_slab.proofs.InOrder.{found-in, writes, write-order, write-results}
use Rattle.generation_slab.proofs.Kept.{kept-put}
use Rattle.generation_slab.proofs.LiveSlots.{have-generations}
use Rattle.generation_slab.proofs.SlotReading.{value-seen}
use Rattle.generation_slab.proofs.slots.GenerationSlab.replace.Goals as goal

pub index_mut-requires : goal.index_mut-requires
index_mut-requires g c = let found = (found-in c.self.inside.slots c.self.inside.generations.items c.self.inside.last c.self.inside.count _ c.self.inside.room c.self.invariant.order c.args.self.now c.self.view_is c.args.number c.slot_of-slot.result c.slot_of-slot.ensures c.requires) in ap is_some found.there

pub invariant_of-self : goal.invariant_of-self
invariant_of-self g c =
    let found = (found-in c.self.inside.slots c.self.inside.generations.items c.self.inside.last c.self.inside.count _ c.self.inside.room c.self.invariant.order c.args.self.now c.self.view_is c.args.number c.slot_of-slot.result c.slot_of-slot.ensures c.requires) in
    rw c.replace.ensures.after
    (kept-put c.self.inside.slots c.self.inside.generations.items c.self.inside.last c.self.inside.count _ c.self.inside.room c.self.inside.vacant c.self.invariant _ c.slot_of-slot.result found.at.value c.args.value
    (writes c.self.inside.slots c.self.inside.generations.items c.self.inside.last c.self.inside.count _ c.self.inside.room c.self.invariant.order c.args.self.now c.self.view_is c.args.number c.slot_of-slot.result found c.args.value) found.at.there
    (write-order c.self.inside.slots c.self.inside.generations.items c.self.inside.last c.self.inside.count _ c.self.inside.room c.self.invariant.order c.args.self.now c.self.view_is c.args.number c.slot_of-slot.result found c.args.value) refl)

pub returns-clause-given : goal.returns-clause-given
returns-clause-given g c =
    let found = (found-in c.self.inside.slots c.self.inside.generations.items c.self.inside.last c.self.inside.count _ c.self.inside.room c.self.invariant.order c.args.self.now c.self.view_is c.args.number c.slot_of-slot.result c.slot_of-slot.ensures c.requires) in
    value-seen (live_at c.self.inside.slots c.self.inside.generations.items c.self.inside.last) c.self.inside.generations.items c.self.inside.room (have-generations c.self.inside.slots c.self.inside.generations.items c.self.inside.last c.self.inside.count _ c.self.inside.room c.self.invariant.order) c.args.self.now c.self.view_is c.args.number ∙ found.at.told ∙ sym found.there ∙ c.index_mut.ensures.value ∙ ap Some (sym c.replace.ensures.value)

pub returns-clause-replaced : goal.returns-clause-replaced
returns-clause-replaced g c = rw c.replace.ensures.after (let it = write-results c.self.inside.slots c.self.inside.generations.items c.self.inside.last c.self.inside.count _ c.self.inside.room c.self.invariant.order c.args.self.now c.self.view_is c.args.number c.slot_of-slot.result (found-in c.self.inside.slots c.self.inside.generations.items c.self.inside.last c.self.inside.count _ c.self.inside.room c.self.invariant.order c.args.self.now c.self.view_is c.args.number c.slot_of-slot.result c.slot_of-slot.ensures c.requires) c.args.value in it.holds)

pub returns-clause-issued : goal.returns-clause-issued
returns-clause-issued g c = rw c.replace.ensures.after (let it = write-results c.self.inside.slots c.self.inside.generations.items c.self.inside.last c.self.inside.count _ c.self.inside.room c.self.invariant.order c.args.self.now c.self.view_is c.args.number c.slot_of-slot.result (found-in c.self.inside.slots c.self.inside.generations.items c.self.inside.last c.self.inside.count _ c.self.inside.room c.self.invariant.order c.args.self.now c.self.view_is c.args.number c.slot_of-slot.result c.slot_of-slot.ensures c.requires) c.args.value in it.issued)
