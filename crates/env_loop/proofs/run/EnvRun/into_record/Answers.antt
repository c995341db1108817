use Rattle.std.proofs.Common.{ap, ◌∙◌}
use Rattle.env_loop.specs.RecordedRuns.{Run}
use Rattle.env_loop.proofs.Turns.{none-held}
use Rattle.env_loop.proofs.run.EnvRun.into_record.Goals as goal

pub none_stands-requires : goal.none_stands-requires
none_stands-requires g c =
    none-held c.self.inside.core.env.frames c.self.inside.begun c.self.invariant.held
    (c.self.invariant.sound.gone (ap (λ (r : Run). r.core.env.phase) c.self.view_is ∙ c.requires))
