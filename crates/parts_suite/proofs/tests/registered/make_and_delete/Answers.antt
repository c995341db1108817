use Rattle.std.proofs.Common.{◌≡◌, ◌+◌, ◌≤◌, ℕ, length, ap, Result, Ok, Err, OnOk, OnErr}
use Rattle.napi_types.specs.parts.References.{ReferenceMap, without_reference}
use Rattle.napi_types.proofs.plain.Maps.{length-with_record}
use Rattle.napi_reference.specs.ReferencePlaces.{ReferencePlaces, map_of}
use Rattle.parts_suite.proofs.tests.registered.make_and_delete.Goals as goal

-- a reference that is deleted, or is not, leaves the numbers that were issued
issued-still : {T E : Type 0} (n : ℕ) (old new : ReferencePlaces) (r : Result T E) → OnOk r (map_of new ≡ without_reference n (map_of old)) → OnErr r (new ≡ old) → new.issued ≡ old.issued
issued-still n old new (Ok u) deleted same = ap (λ (m : ReferenceMap). m.issued) deleted
issued-still n old new (Err e) deleted same = ap (λ (p : ReferencePlaces). p.issued) same

pub returns : goal.returns
returns g c =
    let made = rw c.ample-reference.ensures at c.make.ensures.made in
    let one : length c.make.new.self.issued ≤ length c.args.references.now.issued + 1 =
    rw (ap (λ (m : ReferenceMap). m.issued) made) (length-with_record (λ m. m) c.ample-reference.result.0 c.args.references.now.issued) in
    rw (issued-still c.ample-reference.result.0 c.make.new.self c.delete.new.self c.delete.result c.delete.ensures.deleted c.delete.ensures.err) one
