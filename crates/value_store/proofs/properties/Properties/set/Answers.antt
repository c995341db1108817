use Rattle.std.proofs.Common.{ap, sym, is_some, ◌∙◌}
use Rattle.napi_types.proofs.plain.Options.{at-err}
use Rattle.value_store.specs.PropertyMaps.{listed_properties}
use Rattle.value_store.proofs.FewProperties.{distinct-set, absent-listed, absent-unplaced}
use Rattle.value_store.proofs.PropertyMaps.{listed_properties-insert_entry}
use Rattle.value_store.proofs.Outcomes.{ok-then, err-then}
use Rattle.value_store.proofs.properties.Properties.set.Goals as goal

pub invariant_of-self : goal.invariant_of-self
invariant_of-self c = distinct-set c.set_few.result c.args.name.0 c.args.to c.in-Few.entries.items c.set_few.new.entries.items c.set_few.ensures.set c.set_few.ensures.err (rw c.in-Few.is at c.self.invariant)

pub returns-then-len-lt-FEW-clause-set : goal.returns-then-len-lt-FEW-clause-set
returns-then-len-lt-FEW-clause-set c =
    rw (← c.self.view_is, c.in-Few.is) (ok-then c.set_few.result (λ set. ap listed_properties set ∙ listed_properties-insert_entry c.args.name.0 c.args.to c.in-Few.entries.items) c.set_few.ensures.set)

pub returns-in_ok-new-in-Few-clause-set : goal.returns-in_ok-new-in-Few-clause-set
returns-in_ok-new-in-Few-clause-set c =
    rw (← c.self.view_is, c.in-Few.is, c.in_ok-new-in-Few.ensures.ok, c.in_ok-map-in-Few.ensures.set, c.deref-in-Few.ensures.value) (listed_properties-insert_entry c.args.name.0 c.args.to c.in-Few.entries.items)

pub returns-in_ok-insert-in-Many-clause-set : goal.returns-in_ok-insert-in-Many-clause-set
returns-in_ok-insert-in-Many-clause-set c = rw (← c.self.view_is, c.in-Many.is, c.in_ok-insert-in-Many.ensures.entries, c.deref_mut.ensures.value) (listed_properties-insert_entry c.args.name.0 c.args.to c.in-Many.map.value.entries)

pub returns-then-len-lt-FEW-clause-absent : goal.returns-then-len-lt-FEW-clause-absent
returns-then-len-lt-FEW-clause-absent c =
    rw (← c.self.view_is, c.in-Few.is) (err-then c.set_few.result (absent-listed c.args.name.0 c.in-Few.entries.items) c.set_few.ensures.absent)

pub returns-in_err-map-in-Few-clause-absent : goal.returns-in_err-map-in-Few-clause-absent
returns-in_err-map-in-Few-clause-absent c =
    let gone = rw c.deref.ensures.value at (ap is_some (sym c.place_of.ensures) ∙ sym c.is_some.ensures ∙ c.if-is_some.false) in
    at-err c.from_residual.result (rw (← c.self.view_is, c.in-Few.is) (absent-unplaced c.args.name.0 c.in-Few.entries.items gone))

pub returns-in_err-new-in-Few-clause-absent : goal.returns-in_err-new-in-Few-clause-absent
returns-in_err-new-in-Few-clause-absent c =
    let gone = rw c.deref.ensures.value at (ap is_some (sym c.place_of.ensures) ∙ sym c.is_some.ensures ∙ c.if-is_some.false) in
    at-err c.from_residual-in_err-new-in-Few.result (rw (← c.self.view_is, c.in-Few.is) (absent-unplaced c.args.name.0 c.in-Few.entries.items gone))

pub returns-in_err-insert-in-Many-clause-absent : goal.returns-in_err-insert-in-Many-clause-absent
returns-in_err-insert-in-Many-clause-absent c =
    let gone = rw c.deref_mut.ensures.value at c.in_err-insert-in-Many.ensures.absent in
    at-err c.from_residual-in_err-insert-in-Many.result (rw (← c.self.view_is, c.in-Many.is) (absent-listed c.args.name.0 c.in-Many.map.value.entries gone))

pub invariant_of-self-in-Ordered : goal.invariant_of-self-in-Ordered
invariant_of-self-in-Ordered c =
    distinct-set c.set.result c.args.name.0 c.args.to c.in-Ordered.ordered.value c.set.new.self (rw c.deref_mut-in-Ordered.ensures.value at c.set.ensures.set)
    (rw c.deref_mut-in-Ordered.ensures.value at c.set.ensures.err) (rw c.in-Ordered.is at c.self.invariant)

pub returns-in-Ordered-clause-set : goal.returns-in-Ordered-clause-set
returns-in-Ordered-clause-set c =
    rw (← c.self.view_is, c.in-Ordered.is)
    (ok-then c.set.result (λ set. ap listed_properties set ∙ listed_properties-insert_entry c.args.name.0 c.args.to c.in-Ordered.ordered.value) (rw c.deref_mut-in-Ordered.ensures.value at c.set.ensures.set))

pub returns-in-Ordered-clause-absent : goal.returns-in-Ordered-clause-absent
returns-in-Ordered-clause-absent c =
    rw (← c.self.view_is, c.in-Ordered.is) (err-then c.set.result (absent-listed c.args.name.0 c.in-Ordered.ordered.value) (rw c.deref_mut-in-Ordered.ensures.value at c.set.ensures.absent))
