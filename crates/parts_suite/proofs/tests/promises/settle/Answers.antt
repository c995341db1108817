use Rattle.napi_types.specs.declared.ids.ValueId.{ValueId}
use Rattle.parts_suite.proofs.ManyPromises.{settled-bare}
use Rattle.parts_suite.proofs.tests.promises.settle.Goals as goal

pub returns : goal.returns
returns c =
    settled-bare c.args.deferreds.now.promises c.settle.new.self.promises c.args.book.now c.settle.new.book c.args.id.0 1 (λ (v : ValueId). v.0) c.settle.result c.settle.ensures.settled c.settle.ensures.err c.requires
