use Rattle.std.proofs.Common.{◌≡◌, length, arith, rules}
use Rattle.std.specs.Prelude.{vec_len}
use Rattle.generation_slab.proofs.slots.widen.Goals as goal

pub push_reserved-requires : goal.push_reserved-requires
push_reserved-requires c =
    let now : vec_len c.loop.generations ≡ length c.loop.generations.items = search rules in
    omega (arith, now, c.loop.invariant.at, c.loop-test.true, c.requires, c.loop.invariant.capacity)

pub returns-clause-size : goal.returns-clause-size
returns-clause-size c = omega (arith, c.loop.invariant.at, c.loop.invariant.most, c.loop-test.false)
