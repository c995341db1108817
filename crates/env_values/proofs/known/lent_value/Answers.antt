use Rattle.env_values.proofs.HandleValues.{unknown-handle, given-live, never-gone, lent-value}
use Rattle.env_values.proofs.known.lent_value.Goals as goal

pub returns-in_default-clause-unknown : goal.returns-in_default-clause-unknown
returns-in_default-clause-unknown c = unknown-handle c.args.store.now c.args.scopes.now.frames c.args.handle.0 c.in_default.ensures

pub unreachable-requires : goal.unreachable-requires
unreachable-requires c =
    never-gone c.args.store.now c.in-Some.id.0 (given-live c.args.store.now c.args.scopes.now c.args.handle.0 c.in-Some.id.0 c.requires c.in-Some.ensures) c.in-None.ensures.value

pub returns-clause-ok : goal.returns-clause-ok
returns-clause-ok c =
    lent-value c.args.store.now c.args.scopes.now c.args.handle.0 c.in-Some.id.0 c.in-Some-get.value c.in-Some-get.ensures.sound c.in-Some.ensures c.in-Some-get.ensures.value c.get.ensures.graph
