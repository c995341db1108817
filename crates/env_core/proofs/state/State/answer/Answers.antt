use Rattle.env_core.proofs.CoreExceptions.{in-time}
use Rattle.env_core.proofs.Unrefused.{stopped-in-time}
use Rattle.env_core.proofs.state.State.answer.Goals as goal

pub returns-in-None-clause-ok : goal.returns-in-None-clause-ok
returns-in-None-clause-ok c =
    in-time c.args.self.now c.answer_in_time.new.self c.args.call.now c.answer_in_time.result c.requires.at_once c.in-None.ensures c.answer_in_time.ensures.ok

pub returns-in-None-clause-stopped : goal.returns-in-None-clause-stopped
returns-in-None-clause-stopped c =
    stopped-in-time c.args.self.now c.answer_in_time.new.self c.args.call.now c.answer_in_time.result c.in-None.ensures c.answer_in_time.ensures.stopped
