use Rattle.env_loop.proofs.LocalTurns.{turn-tells}
use Rattle.env_loop.proofs.run.EnvRun.local_turn.Goals as goal

pub returns-clause-made : goal.returns-clause-made
returns-clause-made g c = (turn-tells c.turn.result _ _ _ _ _ c.turn.ensures.goes c.turn.ensures.unbegun).made

pub returns-clause-paid : goal.returns-clause-paid
returns-clause-paid g c = (turn-tells c.turn.result _ _ _ _ _ c.turn.ensures.goes c.turn.ensures.unbegun).paid
