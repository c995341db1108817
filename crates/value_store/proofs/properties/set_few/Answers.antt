use Rattle.std.proofs.Common.{◌∙◌, sym}
use Rattle.napi_types.proofs.plain.Options.{at-err}
use Rattle.value_store.proofs.FewProperties.{place-set, none-insert, none-lookup}
use Rattle.value_store.proofs.properties.set_few.Goals as goal

pub returns-in-Some-clause-set : goal.returns-in-Some-clause-set
returns-in-Some-clause-set c = rw c.index_mut.ensures.value (place-set c.args.name c.args.entries.now.items c.in-Some.place (rw c.deref.ensures.value at c.in-Some.ensures) c.args.to c.index_mut.result.now)

pub returns-in_ok-push-in-None-clause-set : goal.returns-in_ok-push-in-None-clause-set
returns-in_ok-push-in-None-clause-set c = c.in_ok-push-in-None.ensures.items ∙ none-insert c.args.name c.args.entries.now.items (rw c.deref.ensures.value at c.in-None.ensures) c.args.to

pub returns-in_err-push-in-None-clause-absent : goal.returns-in_err-push-in-None-clause-absent
returns-in_err-push-in-None-clause-absent c = at-err c.from_residual.result (sym (none-lookup c.args.name c.args.entries.now.items (rw c.deref.ensures.value at c.in-None.ensures)))
