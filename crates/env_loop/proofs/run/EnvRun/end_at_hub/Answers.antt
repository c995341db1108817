use Rattle.std.proofs.Common.{ap, ◌∙◌, ◌+◌}
use Rattle.napi_types.specs.parts.Frames.{duty_of, is_hub_duty}
use Rattle.env_loop.specs.RecordedRuns.{Run}
use Rattle.env_loop.proofs.PendingEnds.{ends-so, ended-runs, ended-turn}
use Rattle.env_loop.proofs.run.EnvRun.end_at_hub.Goals as goal

pub end_frame-requires-clause-end : goal.end_frame-requires-clause-end
end_frame-requires-clause-end g c κs within =
    ends-so c.self.inside.core.env c.cut_of.result c.leave_hub_frame-told.result c.self.invariant.sound
    (ap (λ (x : Run). is_hub_duty (duty_of x.core.env.frames)) c.self.view_is ∙ c.requires.of_hub) c.leave_hub_frame-told.ensures.out

pub invariant_of-self : goal.invariant_of-self
invariant_of-self g c =
    ended-runs _ c.args.self.now c.args.end c.leave_hub_frame-told.new.self c.take.new.self c.cut_of.result (c.position.result + 1)
    c.self.view_is c.self.invariant c.requires.ending c.requires.idle c.requires.of_hub c.cut_of.ensures
    c.leave_hub_frame-told.ensures.ended c.take.ensures.after

pub returns : goal.returns
returns g c = record {
  turn =
      ended-turn _ c.args.self.now c.args.end c.leave_hub_frame-told.new.self c.take.new.self c.cut_of.result (c.position.result + 1)
      c.self.view_is c.self.invariant c.requires.ending c.requires.idle c.requires.of_hub c.cut_of.ensures
      c.leave_hub_frame-told.ensures.ended c.take.ensures.after _ c.leave_hub_frame-told.result c.args.hub.now c.end_frame.new.self
      c.requires.led c.requires.fits c.leave_hub_frame-told.ensures.out c.end_frame.ensures.next c.end_frame.ensures.keeps
      c.end_frame.ensures.alone (ap (λ k. k + 1) c.position.ensures);
}
