use Rattle.std.proofs.Common.{◌∙◌}
use Rattle.env_core.proofs.Looking.{looked_live, looked_number, looked_body, held-seen}
use Rattle.env_core.proofs.handles.look_up.Goals as goal

pub or_undefined-requires : goal.or_undefined-requires
or_undefined-requires c = looked_live c.args.store.now c.args.scopes.now c.args.handle.0 c.look-found.result c.look-found.ensures c.requires

pub returns-clause-seen : goal.returns-clause-seen
returns-clause-seen c =
    let number = c.or_undefined.ensures.number ∙ looked_number c.args.store.now c.args.scopes.now c.args.handle.0 c.look-found.result c.look-found.ensures in
    record {
      held = c.is_some-held.ensures ∙ held-seen c.args.store.now c.args.scopes.now c.args.handle.0 c.look-found.result c.look-found.ensures;
      body = c.body.ensures ∙ looked_body c.args.store.now c.args.scopes.now c.args.handle.0 c.or_undefined.result.0 c.in-Some.value number c.in-Some.ensures.graph c.in-Some.ensures.value;
    }
