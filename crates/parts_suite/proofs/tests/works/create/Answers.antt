use Rattle.napi_types.proofs.plain.Maps.{length-with_record}
use Rattle.parts_suite.proofs.tests.works.create.Goals as goal

pub returns-clause-few : goal.returns-clause-few
returns-clause-few g c =
    let made = rw c.ample.ensures at c.create.ensures.made in
    rw made (length-with_record (λ m. m) c.ample.result.0 c.args.works.now.issued)
