use Rattle.std.proofs.Common.{ap, is_some, refl}
use Rattle.generation_slab.proofs.InOrder.{found-at, puts, put-order, put-places, put-issued}
use Rattle.generation_slab.proofs.Kept.{kept-put}
use Rattle.generation_slab.proofs.slots.GenerationSlab.put_in.Goals as goal

pub index_mut-requires : goal.index_mut-requires
index_mut-requires g c = let found = found-at c.self.inside.slots c.self.inside.generations.items c.self.inside.last c.self.inside.count _ c.self.inside.room c.self.invariant.order c.args.self.now c.self.view_is c.args.at c.requires in ap is_some found.there

pub invariant_of-self : goal.invariant_of-self
invariant_of-self g c =
    let found = found-at c.self.inside.slots c.self.inside.generations.items c.self.inside.last c.self.inside.count _ c.self.inside.room c.self.invariant.order c.args.self.now c.self.view_is c.args.at c.requires in
    kept-put c.self.inside.slots c.self.inside.generations.items c.self.inside.last c.self.inside.count _ c.self.inside.room c.self.inside.vacant c.self.invariant _ c.args.at found.value c.args.value
    (puts c.self.inside.slots c.self.inside.generations.items c.self.inside.last c.self.inside.count _ c.self.inside.room c.self.invariant.order c.args.self.now c.self.view_is c.args.at c.requires c.args.value) found.live
    (put-order c.self.inside.slots c.self.inside.generations.items c.self.inside.last c.self.inside.count _ c.self.inside.room c.self.invariant.order c.args.self.now c.self.view_is c.args.at c.requires c.args.value) refl

pub returns-clause-put : goal.returns-clause-put
returns-clause-put g c = put-places c.self.inside.slots c.self.inside.generations.items c.self.inside.last c.self.inside.count _ c.self.inside.room c.self.invariant.order c.args.self.now c.self.view_is c.args.at c.requires c.args.value

pub returns-clause-issued : goal.returns-clause-issued
returns-clause-issued g c = put-issued c.self.inside.slots c.self.inside.generations.items c.self.inside.last c.self.inside.count _ c.self.inside.room c.self.invariant.order c.args.self.now c.self.view_is c.args.at c.requires c.args.value
