use Rattle.std.proofs.Common.{ap}
use Rattle.napi_types.specs.parts.References.{ReferenceMap}
use Rattle.napi_types.proofs.plain.Maps.{length-with_record}
use Rattle.parts_suite.proofs.tests.registered.make_reference.Goals as goal

pub returns : goal.returns
returns g c =
    let made = rw c.ample.ensures at c.make.ensures.made in
    rw (ap (λ (m : ReferenceMap). m.issued) made) (length-with_record (λ m. m) c.ample.result.0 c.args.references.now.issued)
