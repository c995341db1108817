use Rattle.std.proofs.Common.{◌≡◌, ◌+◌, ◌≤◌, set, None, refl, ap, arith, is_some, rules, length}
use Rattle.std.specs.Prelude.{vec_len}
use Rattle.std.proofs.lemmas.List.{length-set}
use Rattle.generation_slab.specs.SlotNumbers.{live_at}
use Rattle.generation_slab.proofs.InOrder.{found-in, read-in, gives, given-order, given-results, retires, retired-order, retired-results}
use Rattle.generation_slab.proofs.Kept.{marked-within, kept-written}
use Rattle.generation_slab.proofs.slots.GenerationSlab.free.Goals as goal

pub index-generation-requires : goal.index-generation-requires
index-generation-requires g c =
    let found = (found-in c.self.inside.slots c.self.inside.generations.items c.self.inside.last c.self.inside.count _ c.self.inside.room c.self.invariant.order c.args.self.now c.self.view_is c.args.number c.slot_of-slot.result c.slot_of-slot.ensures c.requires) in
    let long : vec_len c.self.inside.generations ≡ length c.self.inside.generations.items = search rules in
    omega (arith, found.at.within, long)

pub index_mut-requires : goal.index_mut-requires
index_mut-requires g c =
    let found = (found-in c.self.inside.slots c.self.inside.generations.items c.self.inside.last c.self.inside.count _ c.self.inside.room c.self.invariant.order c.args.self.now c.self.view_is c.args.number c.slot_of-slot.result c.slot_of-slot.ensures c.requires) in
    let long : vec_len c.self.inside.generations ≡ length c.self.inside.generations.items = search rules in
    omega (arith, found.at.within, long)

pub overflow_add-generation : goal.overflow_add-generation
overflow_add-generation g c =
    let found = (found-in c.self.inside.slots c.self.inside.generations.items c.self.inside.last c.self.inside.count _ c.self.inside.room c.self.invariant.order c.args.self.now c.self.view_is c.args.number c.slot_of-slot.result c.slot_of-slot.ensures c.requires) in
    omega (arith, (read-in c.self.inside.slots c.self.inside.generations.items c.self.inside.last c.self.inside.count _ c.self.inside.room c.self.invariant.order c.args.self.now c.self.view_is c.args.number c.slot_of-slot.result c.index-generation.result.now found c.index-generation.ensures), found.short, c.self.invariant.order.low)

pub remove-requires : goal.remove-requires
remove-requires g c = let found = (found-in c.self.inside.slots c.self.inside.generations.items c.self.inside.last c.self.inside.count _ c.self.inside.room c.self.invariant.order c.args.self.now c.self.view_is c.args.number c.slot_of-slot.result c.slot_of-slot.ensures c.requires) in ap is_some found.there

pub set-requires : goal.set-requires
set-requires g c =
    let found = (found-in c.self.inside.slots c.self.inside.generations.items c.self.inside.last c.self.inside.count _ c.self.inside.room c.self.invariant.order c.args.self.now c.self.view_is c.args.number c.slot_of-slot.result c.slot_of-slot.ensures c.requires) in
    marked-within (live_at c.self.inside.slots c.self.inside.generations.items c.self.inside.last) c.self.inside.vacant c.slot_of-slot.result found.at.value c.self.invariant.vacant found.at.there

pub invariant_of-self : goal.invariant_of-self
invariant_of-self g c =
    let found = (found-in c.self.inside.slots c.self.inside.generations.items c.self.inside.last c.self.inside.count _ c.self.inside.room c.self.invariant.order c.args.self.now c.self.view_is c.args.number c.slot_of-slot.result c.slot_of-slot.ensures c.requires) in
    let same : length (set c.self.inside.generations.items c.slot_of-slot.result (c.index-generation.result.now + 1)) ≡ length c.self.inside.generations.items =
    length-set c.self.inside.generations.items c.slot_of-slot.result (c.index-generation.result.now + 1) in
    let read = (read-in c.self.inside.slots c.self.inside.generations.items c.self.inside.last c.self.inside.count _ c.self.inside.room c.self.invariant.order c.args.self.now c.self.view_is c.args.number c.slot_of-slot.result c.index-generation.result.now found c.index-generation.ensures) in
    let more : c.index-generation.result.now + 1 ≤ c.self.inside.last = omega (arith, c.from.ensures, c.if-generation-from.true) in
    rw c.set.ensures
    (kept-written c.self.inside.slots c.self.inside.generations.items c.self.inside.last c.self.inside.count _ c.self.inside.room c.self.inside.vacant c.self.invariant c.remove.new.self _ _ _ c.slot_of-slot.result None
    (gives c.self.inside.slots c.self.inside.generations.items c.self.inside.last c.self.inside.count _ c.self.inside.room c.self.invariant.order c.args.self.now c.self.view_is c.args.number c.slot_of-slot.result c.index-generation.result.now found read c.remove.new.self c.remove.ensures.updates c.remove.ensures.len c.remove.ensures.capacity more)
    (marked-within (live_at c.self.inside.slots c.self.inside.generations.items c.self.inside.last) c.self.inside.vacant c.slot_of-slot.result found.at.value c.self.invariant.vacant found.at.there)
    (given-order c.self.inside.slots c.self.inside.generations.items c.self.inside.last c.self.inside.count _ c.self.inside.room c.self.invariant.order c.args.self.now c.self.view_is c.args.number c.slot_of-slot.result c.index-generation.result.now found read c.remove.new.self c.remove.ensures.updates c.remove.ensures.len c.remove.ensures.capacity more)
    c.remove.ensures.capacity (λ some. some) (omega (arith, same, c.self.invariant.long)))

pub invariant_of-self-else-generation-from : goal.invariant_of-self-else-generation-from
invariant_of-self-else-generation-from g c =
    let found = (found-in c.self.inside.slots c.self.inside.generations.items c.self.inside.last c.self.inside.count _ c.self.inside.room c.self.invariant.order c.args.self.now c.self.view_is c.args.number c.slot_of-slot.result c.slot_of-slot.ensures c.requires) in
    let same : length (set c.self.inside.generations.items c.slot_of-slot.result (c.index-generation.result.now + 1)) ≡ length c.self.inside.generations.items =
    length-set c.self.inside.generations.items c.slot_of-slot.result (c.index-generation.result.now + 1) in
    let read = (read-in c.self.inside.slots c.self.inside.generations.items c.self.inside.last c.self.inside.count _ c.self.inside.room c.self.invariant.order c.args.self.now c.self.view_is c.args.number c.slot_of-slot.result c.index-generation.result.now found c.index-generation.ensures) in
    let over : c.self.inside.last ≤ c.index-generation.result.now = omega (arith, c.from.ensures, c.if-generation-from.false) in
    rw c.set.ensures
    (kept-written c.self.inside.slots c.self.inside.generations.items c.self.inside.last c.self.inside.count _ c.self.inside.room c.self.inside.vacant c.self.invariant c.self.inside.slots _ _ _ c.slot_of-slot.result None
    (retires c.self.inside.slots c.self.inside.generations.items c.self.inside.last c.self.inside.count _ c.self.inside.room c.self.invariant.order c.args.self.now c.self.view_is c.args.number c.slot_of-slot.result c.index-generation.result.now found read over)
    (marked-within (live_at c.self.inside.slots c.self.inside.generations.items c.self.inside.last) c.self.inside.vacant c.slot_of-slot.result found.at.value c.self.invariant.vacant found.at.there)
    (retired-order c.self.inside.slots c.self.inside.generations.items c.self.inside.last c.self.inside.count _ c.self.inside.room c.self.invariant.order c.args.self.now c.self.view_is c.args.number c.slot_of-slot.result c.index-generation.result.now found read over)
    refl (λ some. some) (omega (arith, same, c.self.invariant.long)))

pub returns-then-generation-from-clause-freed : goal.returns-then-generation-from-clause-freed
returns-then-generation-from-clause-freed g c =
    let found = (found-in c.self.inside.slots c.self.inside.generations.items c.self.inside.last c.self.inside.count _ c.self.inside.room c.self.invariant.order c.args.self.now c.self.view_is c.args.number c.slot_of-slot.result c.slot_of-slot.ensures c.requires) in
    let it = given-results c.self.inside.slots c.self.inside.generations.items c.self.inside.last c.self.inside.count _ c.self.inside.room c.self.invariant.order c.args.self.now c.self.view_is c.args.number c.slot_of-slot.result c.index-generation.result.now found (read-in c.self.inside.slots c.self.inside.generations.items c.self.inside.last c.self.inside.count _ c.self.inside.room c.self.invariant.order c.args.self.now c.self.view_is c.args.number c.slot_of-slot.result c.index-generation.result.now found c.index-generation.ensures) c.remove.new.self c.remove.ensures.updates c.remove.ensures.len c.remove.ensures.capacity (omega (arith, c.from.ensures, c.if-generation-from.true)) in it.holds

pub returns-then-generation-from-clause-issued : goal.returns-then-generation-from-clause-issued
returns-then-generation-from-clause-issued g c =
    let found = (found-in c.self.inside.slots c.self.inside.generations.items c.self.inside.last c.self.inside.count _ c.self.inside.room c.self.invariant.order c.args.self.now c.self.view_is c.args.number c.slot_of-slot.result c.slot_of-slot.ensures c.requires) in
    let it = given-results c.self.inside.slots c.self.inside.generations.items c.self.inside.last c.self.inside.count _ c.self.inside.room c.self.invariant.order c.args.self.now c.self.view_is c.args.number c.slot_of-slot.result c.index-generation.result.now found (read-in c.self.inside.slots c.self.inside.generations.items c.self.inside.last c.self.inside.count _ c.self.inside.room c.self.invariant.order c.args.self.now c.self.view_is c.args.number c.slot_of-slot.result c.index-generation.result.now found c.index-generation.ensures) c.remove.new.self c.remove.ensures.updates c.remove.ensures.len c.remove.ensures.capacity (omega (arith, c.from.ensures, c.if-generation-from.true)) in it.issued

pub returns-then-generation-from-clause-once : goal.returns-then-generation-from-clause-once
returns-then-generation-from-clause-once g c =
    let found = (found-in c.self.inside.slots c.self.inside.generations.items c.self.inside.last c.self.inside.count _ c.self.inside.room c.self.invariant.order c.args.self.now c.self.view_is c.args.number c.slot_of-slot.result c.slot_of-slot.ensures c.requires) in
    let it = given-results c.self.inside.slots c.self.inside.generations.items c.self.inside.last c.self.inside.count _ c.self.inside.room c.self.invariant.order c.args.self.now c.self.view_is c.args.number c.slot_of-slot.result c.index-generation.result.now found (read-in c.self.inside.slots c.self.inside.generations.items c.self.inside.last c.self.inside.count _ c.self.inside.room c.self.invariant.order c.args.self.now c.self.view_is c.args.number c.slot_of-slot.result c.index-generation.result.now found c.index-generation.ensures) c.remove.new.self c.remove.ensures.updates c.remove.ensures.len c.remove.ensures.capacity (omega (arith, c.from.ensures, c.if-generation-from.true)) in it.once

pub returns-else-generation-from-clause-freed : goal.returns-else-generation-from-clause-freed
returns-else-generation-from-clause-freed g c =
    let found = (found-in c.self.inside.slots c.self.inside.generations.items c.self.inside.last c.self.inside.count _ c.self.inside.room c.self.invariant.order c.args.self.now c.self.view_is c.args.number c.slot_of-slot.result c.slot_of-slot.ensures c.requires) in
    let it = retired-results c.self.inside.slots c.self.inside.generations.items c.self.inside.last c.self.inside.count _ c.self.inside.room c.self.invariant.order c.args.self.now c.self.view_is c.args.number c.slot_of-slot.result c.index-generation.result.now found (read-in c.self.inside.slots c.self.inside.generations.items c.self.inside.last c.self.inside.count _ c.self.inside.room c.self.invariant.order c.args.self.now c.self.view_is c.args.number c.slot_of-slot.result c.index-generation.result.now found c.index-generation.ensures) (omega (arith, c.from.ensures, c.if-generation-from.false)) in it.holds

pub returns-else-generation-from-clause-issued : goal.returns-else-generation-from-clause-issued
returns-else-generation-from-clause-issued g c =
    let found = (found-in c.self.inside.slots c.self.inside.generations.items c.self.inside.last c.self.inside.count _ c.self.inside.room c.self.invariant.order c.args.self.now c.self.view_is c.args.number c.slot_of-slot.result c.slot_of-slot.ensures c.requires) in
    let it = retired-results c.self.inside.slots c.self.inside.generations.items c.self.inside.last c.self.inside.count _ c.self.inside.room c.self.invariant.order c.args.self.now c.self.view_is c.args.number c.slot_of-slot.result c.index-generation.result.now found (read-in c.self.inside.slots c.self.inside.generations.items c.self.inside.last c.self.inside.count _ c.self.inside.room c.self.invariant.order c.args.self.now c.self.view_is c.args.number c.slot_of-slot.result c.index-generation.result.now found c.index-generation.ensures) (omega (arith, c.from.ensures, c.if-generation-from.false)) in it.issued

pub returns-else-generation-from-clause-once : goal.returns-else-generation-from-clause-once
returns-else-generation-from-clause-once g c =
    let found = (found-in c.self.inside.slots c.self.inside.generations.items c.self.inside.last c.self.inside.count _ c.self.inside.room c.self.invariant.order c.args.self.now c.self.view_is c.args.number c.slot_of-slot.result c.slot_of-slot.ensures c.requires) in
    let it = retired-results c.self.inside.slots c.self.inside.generations.items c.self.inside.last c.self.inside.count _ c.self.inside.room c.self.invariant.order c.args.self.now c.self.view_is c.args.number c.slot_of-slot.result c.index-generation.result.now found (read-in c.self.inside.slots c.self.inside.generations.items c.self.inside.last c.self.inside.count _ c.self.inside.room c.self.invariant.order c.args.self.now c.self.view_is c.args.number c.slot_of-slot.result c.index-generation.result.now found c.index-generation.ensures) (omega (arith, c.from.ensures, c.if-generation-from.false)) in it.once
