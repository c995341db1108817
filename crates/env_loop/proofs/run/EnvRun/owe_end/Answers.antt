use Rattle.std.proofs.Common.{Some, sym, subst}
use Rattle.env_core.specs.Standing.{machine_frame}
use Rattle.env_loop.specs.FollowedRuns.{FollowsOn}
use Rattle.env_loop.specs.RecordedRuns.{Run, IsRunning}
use Rattle.env_loop.proofs.Bursts.{silent-running, silent-owed}
use Rattle.env_loop.proofs.run.EnvRun.owe_end.Goals as goal

pub invariant_of-self : goal.invariant_of-self
invariant_of-self c =
    let run : Run = record { core = c.self.inside.core; begun = c.self.inside.begun; ending = c.self.inside.ending } in
    subst (λ how. IsRunning c.self.inside.core c.self.inside.begun (Some how)) (sym c.end_of.ensures)
    (silent-running run c.args.self.now (machine_frame c.in-Some.frame) c.self.view_is c.self.invariant c.requires.paid c.requires.comes (sym c.in-Some.ensures.frame))

pub returns-clause-goes : goal.returns-clause-goes
returns-clause-goes c = λ plans all history.
    let run : Run = record { core = c.self.inside.core; begun = c.self.inside.begun; ending = c.self.inside.ending } in
    subst (λ how. FollowsOn plans c.args.self.now history all (record run { ending = Some how }) history all) (sym c.end_of.ensures)
    (silent-owed run c.args.self.now (machine_frame c.in-Some.frame) c.self.view_is c.self.invariant c.requires.paid c.requires.comes (sym c.in-Some.ensures.frame) plans all
    history)
