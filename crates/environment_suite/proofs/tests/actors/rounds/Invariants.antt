use Rattle.std.proofs.Common.{◌≤◌, length}
use Rattle.env_loop.specs.ActorTurns.{IsActorOf}
use Rattle.env_loop.specs.RecordedRuns.{FitsHub}
use Rattle.environment_suite.proofs.tests.actors.rounds.Given as goal

abbrev pub invariant-loop : goal.invariant-loop
invariant-loop g l = FitsHub l.env l.hub × (l.env.core.env.addons ≤ length l.addons.items) × IsActorOf g.N.Naming.numbers l.hub l.actor

abbrev pub invariant-loop-round : goal.invariant-loop-round
invariant-loop-round g l = FitsHub l.env l.hub × (l.env.core.env.addons ≤ length l.addons.items) × IsActorOf g.N.Naming.numbers l.hub l.actor
