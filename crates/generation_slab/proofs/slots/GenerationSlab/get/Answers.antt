use Rattle.std.proofs.Common.{arith, ◌∙◌, ap, sym, option_copied, length, nat_lt, ◌%◌}
use Rattle.slab.specs.Slab.{get}
use Rattle.generation_slab.specs.SlotNumbers.{live_at, live_in}
use Rattle.generation_slab.proofs.LiveSlots.{have-generations}
use Rattle.generation_slab.proofs.SlotReading.{none-of-zero, none-past, none-other, value-live, read-at}
use Rattle.generation_slab.proofs.slots.GenerationSlab.get.Goals as goal

pub returns-in_err-at : goal.returns-in_err-at
returns-in_err-at g c =
    ap option_copied c.from_residual.ensures ∙ sym (none-of-zero (live_at c.self.inside.slots c.self.inside.generations.items c.self.inside.last) c.self.inside.generations.items c.self.inside.room (have-generations c.self.inside.slots c.self.inside.generations.items c.self.inside.last c.self.inside.count _ c.self.inside.room c.self.invariant.order) c.args.self.now c.self.view_is c.args.number c.in_err-at.ensures)

pub returns-in_err-generation : goal.returns-in_err-generation
returns-in_err-generation g c =
    ap option_copied c.from_residual-in_err-generation.ensures
    ∙ sym (none-past (live_at c.self.inside.slots c.self.inside.generations.items c.self.inside.last) c.self.inside.generations.items c.self.inside.room (have-generations c.self.inside.slots c.self.inside.generations.items c.self.inside.last c.self.inside.count _ c.self.inside.room c.self.invariant.order) c.args.self.now c.self.view_is c.args.number c.in_ok-at.at c.in_ok-at.ensures.0 c.in_ok-at.ensures.1
    (c.in_err-generation.ensures.lookup.0 ∙ ap (λ xs. nat_lt (c.in_ok-at.at % 281474976710656) (length xs)) c.deref.ensures.value))

pub returns-then-from-at : goal.returns-then-from-at
returns-then-from-at g c =
    sym (none-other (live_at c.self.inside.slots c.self.inside.generations.items c.self.inside.last) c.self.inside.generations.items c.self.inside.room (have-generations c.self.inside.slots c.self.inside.generations.items c.self.inside.last c.self.inside.count _ c.self.inside.room c.self.invariant.order) c.args.self.now c.self.view_is c.args.number c.in_ok-at.at c.in_ok-generation.field-0.now c.in_ok-at.ensures.0 c.in_ok-at.ensures.1
    (read-at c.self.inside.generations.items c.deref.result.now c.in_ok-at.at c.in_ok-generation.field-0.now c.deref.ensures.value c.in_ok-generation.ensures.lookup.0 c.in_ok-generation.ensures.lookup.1)
    (λ same. grind (arith, same, c.from.ensures, c.if-from-at.true)))

pub returns : goal.returns
returns g c =
    let read = read-at c.self.inside.generations.items c.deref.result.now c.in_ok-at.at c.in_ok-generation.field-0.now c.deref.ensures.value c.in_ok-generation.ensures.lookup.0 c.in_ok-generation.ensures.lookup.1 in
    c.live.ensures ∙ ap (λ h. live_in c.self.inside.last h (get c.self.inside.slots (c.in_ok-at.at % 281474976710656))) read
    ∙ sym (value-live (live_at c.self.inside.slots c.self.inside.generations.items c.self.inside.last) c.self.inside.generations.items c.self.inside.room (have-generations c.self.inside.slots c.self.inside.generations.items c.self.inside.last c.self.inside.count _ c.self.inside.room c.self.invariant.order) c.args.self.now c.self.view_is c.args.number c.in_ok-at.at c.in_ok-generation.field-0.now c.in_ok-at.ensures.0 c.in_ok-at.ensures.1 read
    (omega (arith, c.from.ensures, c.if-from-at.false)))
