use Rattle.env_loop.specs.RecordedRuns.{Run}
use Rattle.env_loop.proofs.Deliveries.{delivered-running}
use Rattle.env_loop.proofs.run.EnvRun.deliver.Goals as goal

pub invariant_of-self : goal.invariant_of-self
invariant_of-self g c =
    let run : Run = record { core = c.self.inside.core; begun = c.self.inside.begun; ending = c.self.inside.ending } in
    delivered-running run c.args.self.now c.enter_hub_frame.new.self c.keep.new.begun c.args.due c.info-2.result.now c.begin_at-started.result c.position.result
    c.self.view_is c.self.invariant c.requires.unowed c.requires.alone c.requires.uncalled c.requires.there c.requires.lasts c.enter_hub_frame.ensures
    c.info-2.ensures c.keep.ensures c.begin_at-started.ensures.begun
