use Rattle.std.proofs.Common.{◌∙◌, length, ap, sym, subst}
use Rattle.napi_reference.specs.ReferencePlaces.{ReferencePlaces, EachReferenceStandsOnce}
use Rattle.napi_reference.proofs.ReferenceNumbers.{length-references, stands-once}
use Rattle.napi_reference.proofs.refs.Refs.rows.Goals as goal

pub returns-clause-places : goal.returns-clause-places
returns-clause-places c = c.places.ensures.places ∙ sym (length-references c.self.inside.rows) ∙ ap (λ (p : ReferencePlaces). length p.places) c.self.view_is

pub returns-clause-once : goal.returns-clause-once
returns-clause-once c = subst (λ (p : ReferencePlaces). EachReferenceStandsOnce p) c.self.view_is (stands-once c.self.inside.rows c.places.ensures.once)
