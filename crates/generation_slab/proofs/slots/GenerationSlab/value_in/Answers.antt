use Rattle.std.proofs.Common.{◌≡◌, ◌<◌, ◌∙◌, ap, arith, length, rules}
use Rattle.std.specs.Prelude.{vec_len}
use Rattle.std.proofs.lemmas.List.{get_or_default}
use Rattle.slab.specs.Slab.{get}
use Rattle.generation_slab.specs.SlotNumbers.{live_at, live_in}
use Rattle.generation_slab.proofs.LiveSlots.{have-generations}
use Rattle.generation_slab.proofs.SlotReading.{long, place-value}
use Rattle.generation_slab.proofs.slots.GenerationSlab.value_in.Goals as goal

pub index-requires : goal.index-requires
index-requires g c =
    let many : vec_len c.self.inside.generations ≡ length c.self.inside.generations.items = search rules in
    omega (arith, c.requires, many, long (live_at c.self.inside.slots c.self.inside.generations.items c.self.inside.last) c.self.inside.generations.items c.self.inside.room (have-generations c.self.inside.slots c.self.inside.generations.items c.self.inside.last c.self.inside.count _ c.self.inside.room c.self.invariant.order) c.args.self.now c.self.view_is)

pub returns : goal.returns
returns g c =
    let within : c.args.at < length c.self.inside.generations.items = omega (arith, c.requires, long (live_at c.self.inside.slots c.self.inside.generations.items c.self.inside.last) c.self.inside.generations.items c.self.inside.room (have-generations c.self.inside.slots c.self.inside.generations.items c.self.inside.last c.self.inside.count _ c.self.inside.room c.self.invariant.order) c.args.self.now c.self.view_is) in
    c.live.ensures
    ∙ ap (λ h. live_in c.self.inside.last h (get c.self.inside.slots c.args.at)) (c.index.ensures ∙ get_or_default c.self.inside.generations.items c.args.at c.index.result.now 0 within)
    ∙ place-value (live_at c.self.inside.slots c.self.inside.generations.items c.self.inside.last) c.self.inside.generations.items c.self.inside.room (have-generations c.self.inside.slots c.self.inside.generations.items c.self.inside.last c.self.inside.count _ c.self.inside.room c.self.invariant.order) c.args.self.now c.self.view_is c.args.at c.requires
