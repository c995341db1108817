use Rattle.std.proofs.Common.{◌∙◌}
use Rattle.env_core.proofs.Looking.{looked_live, looked_number}
use Rattle.env_core.proofs.handles.value_of.Goals as goal

pub or_undefined-requires : goal.or_undefined-requires
or_undefined-requires c = looked_live c.args.store.now c.args.scopes.now c.args.handle.0 c.look.result c.look.ensures c.requires

pub returns-clause-number : goal.returns-clause-number
returns-clause-number c = c.or_undefined.ensures.number ∙ looked_number c.args.store.now c.args.scopes.now c.args.handle.0 c.look.result c.look.ensures
