use Rattle.env_core.proofs.Cores.{core-begun}
use Rattle.env_core.proofs.Sharing.{alone-idle, idle-may}
use Rattle.env_core.proofs.env.EnvCore.next_local.Goals as goal

pub invariant_of-self-2 : goal.invariant_of-self-2
invariant_of-self-2 c =
    let s = c.self.inside in
    let b = c.in_ok-begin.ensures.begun in
    let idle = alone-idle s.state s.root_room s.awaited c.self.invariant.1 (rw (← c.self.view_is) at c.requires.alone) in (
      core-begun s.state c.begin_ticket.new.self s.journal c.push.new.self c.in_ok-begin.begin b.ticket b.registration c.self.invariant.0 b.next b.registered b.after c.push.ensures,
      idle-may c.begin_ticket.new.self s.root_room s.awaited idle,
    )
