use Rattle.std.proofs.Common.{◌∙◌}
use Rattle.value_store.proofs.FewProperties.{place-remove, place-some, none-remove, none-some}
use Rattle.value_store.proofs.properties.remove_few.Goals as goal

pub returns-in-Some-clause-removed : goal.returns-in-Some-clause-removed
returns-in-Some-clause-removed c = c.remove.ensures.items ∙ place-remove c.args.name c.args.entries.now.items c.in-Some.place (rw c.deref.ensures.value at c.in-Some.ensures)

pub returns-in-Some-clause-was : goal.returns-in-Some-clause-was
returns-in-Some-clause-was c = place-some c.args.name c.args.entries.now.items c.in-Some.place (rw c.deref.ensures.value at c.in-Some.ensures)

pub returns-in-None-clause-removed : goal.returns-in-None-clause-removed
returns-in-None-clause-removed c = none-remove c.args.name c.args.entries.now.items (rw c.deref.ensures.value at c.in-None.ensures)

pub returns-in-None-clause-was : goal.returns-in-None-clause-was
returns-in-None-clause-was c = none-some c.args.name c.args.entries.now.items (rw c.deref.ensures.value at c.in-None.ensures)
