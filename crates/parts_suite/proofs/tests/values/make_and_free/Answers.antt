use Rattle.value_store.proofs.Callers.{made-can-free}
use Rattle.parts_suite.proofs.tests.values.make_and_free.Goals as goal

pub free-requires : goal.free-requires
free-requires g c =
    made-can-free c.args.store.now c.make.new.self c.ample-id.result.0 _ c.make.ensures.sound c.requires.started (rw c.ample-id.ensures at c.make.ensures.made)
