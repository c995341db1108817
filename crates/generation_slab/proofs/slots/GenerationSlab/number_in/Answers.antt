use Rattle.std.proofs.Common.{◌≡◌, ◌<◌, ◌∙◌, ap, sym, arith, length, rules, Some, None}
use Rattle.std.specs.Prelude.{vec_len}
use Rattle.std.proofs.lemmas.List.{get_or_default}
use Rattle.slab.specs.Slab.{get}
use Rattle.generation_slab.specs.SlotNumbers.{number_of_slot, live_at, live_in}
use Rattle.generation_slab.proofs.LiveSlots.{have-generations, held-short}
use Rattle.generation_slab.proofs.SlotReading.{long, place-number}
use Rattle.generation_slab.proofs.slots.GenerationSlab.number_in.Goals as goal

pub index-generation-requires : goal.index-generation-requires
index-generation-requires g c =
    let many : vec_len c.self.inside.generations ≡ length c.self.inside.generations.items = search rules in
    omega (arith, c.requires, many, long (live_at c.self.inside.slots c.self.inside.generations.items c.self.inside.last) c.self.inside.generations.items c.self.inside.room (have-generations c.self.inside.slots c.self.inside.generations.items c.self.inside.last c.self.inside.count _ c.self.inside.room c.self.invariant.order) c.args.self.now c.self.view_is)

pub number_of-requires : goal.number_of-requires
number_of-requires g c = record {
  generation = omega (arith, c.self.invariant.order.low, held-short c.self.inside.last c.index-generation.result.now (get c.self.inside.slots c.args.at) c.in_ok-live.field-0.now c.in_ok-live.ensures);
  slot = omega (arith, c.requires, c.self.invariant.order.few, long (live_at c.self.inside.slots c.self.inside.generations.items c.self.inside.last) c.self.inside.generations.items c.self.inside.room (have-generations c.self.inside.slots c.self.inside.generations.items c.self.inside.last c.self.inside.count _ c.self.inside.room c.self.invariant.order) c.args.self.now c.self.view_is);
}

pub returns : goal.returns
returns g c =
    let within : c.args.at < length c.self.inside.generations.items = omega (arith, c.requires, long (live_at c.self.inside.slots c.self.inside.generations.items c.self.inside.last) c.self.inside.generations.items c.self.inside.room (have-generations c.self.inside.slots c.self.inside.generations.items c.self.inside.last c.self.inside.count _ c.self.inside.room c.self.invariant.order) c.args.self.now c.self.view_is) in
    let read = c.index-generation.ensures ∙ get_or_default c.self.inside.generations.items c.args.at c.index-generation.result.now 0 within in
    ap Some (c.number_of.ensures ∙ ap (λ h. number_of_slot h c.args.at) read)
    ∙ sym (place-number (live_at c.self.inside.slots c.self.inside.generations.items c.self.inside.last) c.self.inside.generations.items c.self.inside.room (have-generations c.self.inside.slots c.self.inside.generations.items c.self.inside.last c.self.inside.count _ c.self.inside.room c.self.invariant.order) c.args.self.now c.self.view_is c.args.at c.requires (Some c.in_ok-live.field-0.now)
    (sym (c.in_ok-live.ensures ∙ ap (λ h. live_in c.self.inside.last h (get c.self.inside.slots c.args.at)) read)))

pub returns-in_err-live : goal.returns-in_err-live
returns-in_err-live g c =
    let within : c.args.at < length c.self.inside.generations.items = omega (arith, c.requires, long (live_at c.self.inside.slots c.self.inside.generations.items c.self.inside.last) c.self.inside.generations.items c.self.inside.room (have-generations c.self.inside.slots c.self.inside.generations.items c.self.inside.last c.self.inside.count _ c.self.inside.room c.self.invariant.order) c.args.self.now c.self.view_is) in
    let read = c.index-generation.ensures ∙ get_or_default c.self.inside.generations.items c.args.at c.index-generation.result.now 0 within in
    c.from_residual.ensures
    ∙ sym (place-number (live_at c.self.inside.slots c.self.inside.generations.items c.self.inside.last) c.self.inside.generations.items c.self.inside.room (have-generations c.self.inside.slots c.self.inside.generations.items c.self.inside.last c.self.inside.count _ c.self.inside.room c.self.invariant.order) c.args.self.now c.self.view_is c.args.at c.requires None
    (sym (c.in_err-live.ensures ∙ ap (λ h. live_in c.self.inside.last h (get c.self.inside.slots c.args.at)) read)))
