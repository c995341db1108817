use Rattle.std.proofs.Common.{ap, List, ℕ}
use Rattle.napi_types.specs.parts.Promises.{Promise, Promises}
use Rattle.napi_types.proofs.plain.Maps.{length-with_record}
use Rattle.parts_suite.proofs.ManyPromises.{bare-made}
use Rattle.parts_suite.proofs.tests.promises.make.Goals as goal

pub returns-clause-bare : goal.returns-clause-bare
returns-clause-bare g c =
    let made = rw c.ample.ensures at c.make.ensures.made in
    rw made (bare-made c.args.deferreds.now.promises c.args.value.0 c.ample.result.0 c.requires.bare)

pub returns-clause-count : goal.returns-clause-count
returns-clause-count g c =
    let made = rw c.ample.ensures at c.make.ensures.made in
    rw made (length-with_record (λ m. m) c.ample.result.0 c.args.deferreds.now.promises.issued)
