use Rattle.std.proofs.Common.{◌≡◌, ◌∙◌, Bool, List, IfOk, length, take, ap, subst, arith, rules}
use Rattle.generation_slab.specs.SlotNumbers.{live_at}
use Rattle.generation_slab.proofs.Kept.{vacant-marks}
use Rattle.generation_slab.proofs.LiveSlots.{have-generations}
use Rattle.generation_slab.proofs.slots.GenerationSlab.vacant_places.Goals as goal

pub first-requires : goal.first-requires
first-requires g c =
    let many : c.len.result ≡ length c.self.inside.generations.items = search rules in
    omega (arith, many, c.self.invariant.long)

pub returns : goal.returns
returns g c =
    let many : c.len.result ≡ length c.self.inside.generations.items = search rules in
    let live = (live_at c.self.inside.slots c.self.inside.generations.items c.self.inside.last) in
    let sound = have-generations c.self.inside.slots c.self.inside.generations.items c.self.inside.last c.self.inside.count _ c.self.inside.room c.self.invariant.order in
    subst (λ (l : List Bool). IfOk c.first.result (λ marks. marks ≡ l))
    (ap (λ n. take n c.self.inside.vacant) many ∙ vacant-marks live c.self.inside.generations.items c.self.inside.room sound c.args.self.now c.self.view_is c.self.inside.vacant c.self.invariant.vacant c.self.invariant.long)
    c.first.ensures
