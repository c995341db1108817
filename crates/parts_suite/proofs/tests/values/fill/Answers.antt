use Rattle.std.proofs.Common.{arith}
use Rattle.value_store.proofs.Callers.{made-can-free}
use Rattle.parts_suite.proofs.tests.values.fill.Goals as goal

pub free-requires : goal.free-requires
free-requires g c =
    made-can-free c.args.store.now c.make.new.self c.ample-freed.result.0 _ c.make.ensures.sound (omega (arith, c.requires.made)) (rw c.ample-freed.ensures at c.make.ensures.made)
