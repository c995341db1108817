use Rattle.std.proofs.Common.{◌∙◌, sym, ap, None}
use Rattle.napi_types.specs.parts.Frames.{cause_of, is_hub_duty}
use Rattle.napi_types.specs.environment.Changes.{Change}
use Rattle.env_core.proofs.Beginning.{duty-stands}
use Rattle.env_core.proofs.Cores.{core-ended, end-outermost}
use Rattle.env_core.proofs.Sharing.{idle-may}
use Rattle.env_core.proofs.env.EnvCore.end_duty.Goals as goal

pub invariant_of-self : goal.invariant_of-self
invariant_of-self c =
    let s = c.self.inside in
    let outermost = rw (← c.self.view_is) at c.requires.outermost in
    let stands = duty-stands s.state.frames c.args.begun.duty (rw (← c.self.view_is) at c.requires.duty) in (
      core-ended s.state c.end_duty-entry.new.self s.journal c.push.new.self c.end_duty-entry.result None c.args.cut c.self.invariant.0 stands
          (ap is_hub_duty (rw (← c.self.view_is) at c.requires.duty) ∙ c.requires.local)
          (c.end_duty-entry.ensures.after ∙ sym (ap (λ (x : Change). x.after) (end-outermost None c.args.cut s.state (cause_of s.state.frames) outermost))) c.push.ensures,
      idle-may c.end_duty-entry.new.self s.root_room s.awaited (rw (← c.self.view_is) at c.requires.idle),
    )
