use Rattle.napi_types.specs.environment.SharedCalls.{without_root}
use Rattle.env_core.proofs.Sharing.{core-shared, finished-keeps, finished-may}
use Rattle.env_core.proofs.env.EnvCorePhased.function_finished.Goals as goal

pub invariant_of-self : goal.invariant_of-self
invariant_of-self c =
    let s = c.self.inside in
    let n = c.args.id.0 in
    rw c.drop_root.ensures (
      core-shared s.state (without_root n s.state) s.journal c.note.new.self c.args.position c.self.invariant.0 (finished-keeps n s.state) c.note.ensures,
      finished-may n s.state s.root_room s.awaited c.self.invariant.1,
    )
