use Rattle.std.proofs.Common.{◌≡◌, ℕ, ◌-◌, ◌<◌, ◌∙◌, ◌∷◌, length, Some, ap, arith}
use Rattle.std.proofs.lemmas.List.{get_or_default}
use Rattle.napi_types.specs.plain.Lists.{has_number}
use Rattle.generation_slab.proofs.Changing.{Makes, Widened}
use Rattle.generation_slab.proofs.HeldCounts.{count-fits}
use Rattle.generation_slab.proofs.InOrder.{takes, taken-order, taken-makes}
use Rattle.generation_slab.proofs.Kept.{kept-written}
use Rattle.generation_slab.specs.SlotNumbers.{generation_in, number_of_slot, live_at, places_of}
use Rattle.generation_slab.proofs.slots.GenerationSlab.make_reserved.Goals as goal
use Rattle.generation_slab.proofs.slots.GenerationSlab.make_reserved.Goals.{After-widen, After-index}

some : (g : _) (c : After-widen g) → 0 < c.self.inside.room
some g c = omega (arith, c.requires, ap (λ t. t.room) c.self.view_is)

wide : (g : _) (c : After-widen g) → Widened c.self.inside.generations.items c.widen.new.generations.items c.insert_reserved-slot.result
wide g c = record {
  kept = c.widen.ensures.kept;
  there = omega (arith, c.widen.ensures.size);
  longer = omega (arith, c.widen.ensures.size);
  few = omega (arith, c.widen.ensures.size, c.self.invariant.order.few, c.insert_reserved-slot.ensures.key_in_range, c.insert_reserved-slot.ensures.capacity, c.self.invariant.order.reserved.few (some g c));
}

marked : (g : _) (c : After-widen g) → c.insert_reserved-slot.result < length c.self.inside.vacant
marked g c = omega (arith, c.insert_reserved-slot.ensures.key_in_range, c.insert_reserved-slot.ensures.capacity, c.self.invariant.marked (some g c))

pub unset-requires : goal.unset-requires
unset-requires g c = marked g (goal.at.unset-requires g c).After-widen

pub overflow_add-self : goal.overflow_add-self
overflow_add-self g c = omega (arith, count-fits (live_at c.self.inside.slots c.self.inside.generations.items c.self.inside.last) c.self.inside.generations.items c.self.inside.count c.self.invariant.order.few c.self.invariant.order.counted)

pub invariant_of-self : goal.invariant_of-self
invariant_of-self g c =
    let at = (goal.at.invariant_of-self g c).After-widen in
    rw (c.widen.ensures.capacity, c.unset.ensures)
    (kept-written c.self.inside.slots c.self.inside.generations.items c.self.inside.last c.self.inside.count _ c.self.inside.room c.self.inside.vacant c.self.invariant c.insert_reserved-slot.new.self c.widen.new.generations.items _ _ c.insert_reserved-slot.result (Some c.args.value)
    (takes c.self.inside.slots c.self.inside.generations.items c.self.inside.last c.self.inside.count _ c.self.inside.room c.self.invariant.order c.args.self.now c.self.view_is c.insert_reserved-slot.result c.args.value c.widen.new.generations.items (wide g at)
    c.insert_reserved-slot.new.self c.insert_reserved-slot.ensures.was_vacant c.insert_reserved-slot.ensures.updates c.insert_reserved-slot.ensures.len c.insert_reserved-slot.ensures.capacity (some g at))
    (marked g at)
    (taken-order c.self.inside.slots c.self.inside.generations.items c.self.inside.last c.self.inside.count _ c.self.inside.room c.self.invariant.order c.args.self.now c.self.view_is c.insert_reserved-slot.result c.args.value c.widen.new.generations.items (wide g at)
    c.insert_reserved-slot.new.self c.insert_reserved-slot.ensures.was_vacant c.insert_reserved-slot.ensures.updates c.insert_reserved-slot.ensures.len c.insert_reserved-slot.ensures.capacity (some g at))
    c.insert_reserved-slot.ensures.capacity (λ left. some g at) (omega (arith, c.widen.ensures.size, c.self.invariant.long, marked g at)))

-- a number of this generation is made
makes : (g : _) (c : After-widen g) (h : ℕ) → h ≡ generation_in c.widen.new.generations.items c.insert_reserved-slot.result
    → Makes c.args.self.now (places_of (live_at c.insert_reserved-slot.new.self c.widen.new.generations.items c.self.inside.last) c.widen.new.generations.items (c.self.inside.room - 1))
    (number_of_slot h c.insert_reserved-slot.result) c.args.value
makes g c h is =
    taken-makes c.self.inside.slots c.self.inside.generations.items c.self.inside.last c.self.inside.count _ c.self.inside.room c.self.invariant.order c.args.self.now c.self.view_is c.insert_reserved-slot.result c.args.value c.widen.new.generations.items (wide g c)
    c.insert_reserved-slot.new.self c.insert_reserved-slot.ensures.was_vacant c.insert_reserved-slot.ensures.updates c.insert_reserved-slot.ensures.len c.insert_reserved-slot.ensures.capacity (some g c)
    h (c.self.inside.room - 1) is

read : (g : _) (c : After-index g) → c.index.result.now ≡ generation_in c.widen.new.generations.items c.insert_reserved-slot.result
read g c = c.index.ensures ∙ get_or_default c.widen.new.generations.items c.insert_reserved-slot.result c.index.result.now 0 (omega (arith, c.widen.ensures.size))

pub returns-clause-fresh : goal.returns-clause-fresh
returns-clause-fresh g c =
    let at = goal.at.returns-clause-fresh g c in
    ap (λ n. has_number n (0 ∷ c.args.self.now.issued)) c.number_of.ensures ∙ (makes g at.After-widen c.index.result.now (read g at.After-index)).fresh

pub returns-clause-held : goal.returns-clause-held
returns-clause-held g c = let at = goal.at.returns-clause-held g c in rw c.number_of.ensures (makes g at.After-widen c.index.result.now (read g at.After-index)).holds

pub returns-clause-issued : goal.returns-clause-issued
returns-clause-issued g c = let at = goal.at.returns-clause-issued g c in rw c.number_of.ensures (makes g at.After-widen c.index.result.now (read g at.After-index)).issued

pub returns-clause-once : goal.returns-clause-once
returns-clause-once g c = let at = goal.at.returns-clause-once g c in (makes g at.After-widen c.index.result.now (read g at.After-index)).once
