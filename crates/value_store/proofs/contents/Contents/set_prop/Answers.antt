use Rattle.std.proofs.Common.{◌∙◌, ap, sym}
use Rattle.std.specs.Box.{with_value}
use Rattle.value_store.specs.declared.contents.Contents.TheVariants.{Full}
use Rattle.value_store.proofs.Outcomes.{err-then}
use Rattle.value_store.proofs.contents.Contents.set_prop.Goals as goal

pub returns-in-Full-clause-err : goal.returns-in-Full-clause-err
returns-in-Full-clause-err c = err-then c.set_prop-in-Full.result (λ same. ap (λ p. Full c.in-Full.field-0 (with_value c.in-Full.parts p)) (same ∙ c.deref_mut.ensures.value) ∙ sym c.in-Full.is) c.set_prop-in-Full.ensures.err
