use Rattle.napi_types.specs.environment.Changes.{with_none_waiting}
use Rattle.env_core.proofs.Sharing.{core-shared, abandoned-keeps, abandoned-may}
use Rattle.env_core.proofs.env.EnvCorePhased.abandoned.Goals as goal

pub invariant_of-self : goal.invariant_of-self
invariant_of-self c =
    let s = c.self.inside in
    rw c.abandon_hooks.ensures (
      core-shared s.state (with_none_waiting s.state) s.journal c.note.new.self c.args.position c.self.invariant.0 (abandoned-keeps s.state) c.note.ensures,
      abandoned-may s.state s.root_room s.awaited c.self.invariant.1,
    )
