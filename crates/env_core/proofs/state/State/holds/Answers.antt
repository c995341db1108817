use Rattle.std.proofs.Common.{◌∙◌}
use Rattle.env_core.proofs.Looking.{held-seen}
use Rattle.env_core.proofs.state.State.holds.Goals as goal

pub returns : goal.returns
returns c =
    let s = c.self.inside in
    rw (← c.self.view_is) (c.is_some.ensures ∙ held-seen s.store s.scopes c.args.handle.0 c.look.result c.look.ensures)
