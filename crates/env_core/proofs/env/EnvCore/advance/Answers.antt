use Rattle.env_core.proofs.Cores.{core-phase}
use Rattle.env_core.proofs.Sharing.{alone-idle, idle-may}
use Rattle.env_core.proofs.env.EnvCore.advance.Goals as goal

pub invariant_of-self-in_default : goal.invariant_of-self-in_default
invariant_of-self-in_default c =
    let s = c.self.inside in
    let next = rw (← c.self.view_is) at c.requires.next in
    let idle = alone-idle s.state s.root_room s.awaited c.self.invariant.1 (rw (← c.self.view_is) at c.requires.alone) in (
      core-phase s.state c.enter.new.self s.journal c.note.new.self c.args.phase c.args.position c.self.invariant.0 next c.in_default.not-Gone c.enter.ensures c.note.ensures,
      idle-may c.enter.new.self s.root_room s.awaited idle,
    )
