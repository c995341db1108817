use Rattle.env_loop.proofs.EventTurns.{turn-goes}
use Rattle.env_loop.proofs.run.EnvRun.hub_turn.Goals as goal

pub returns-clause-goes : goal.returns-clause-goes
returns-clause-goes g c = turn-goes g.N.Naming.numbers c.turn_at_hub.result _ _ _ _ _ _ _ c.turn_at_hub.ensures.turn
