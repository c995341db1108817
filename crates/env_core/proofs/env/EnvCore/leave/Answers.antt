use Rattle.std.proofs.Common.{ap}
use Rattle.napi_types.specs.parts.Frames.{is_hub_duty}
use Rattle.env_core.proofs.Cores.{core-ended}
use Rattle.env_core.proofs.Sharing.{idle-may}
use Rattle.env_core.proofs.env.EnvCore.leave.Goals as goal

pub invariant_of-self : goal.invariant_of-self
invariant_of-self c =
    let s = c.self.inside in
    let stands = rw (← c.self.view_is) at c.requires.standing in
    let local = ap is_hub_duty (rw (← c.self.view_is) at c.requires.plain) in (
      core-ended s.state c.leave-entry.new.self s.journal c.push.new.self c.leave-entry.result c.args.value c.args.cut c.self.invariant.0 stands local c.leave-entry.ensures.after c.push.ensures,
      idle-may c.leave-entry.new.self s.root_room s.awaited (rw (← c.self.view_is) at c.requires.idle),
    )
