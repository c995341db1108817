use Rattle.env_core.proofs.CoreExceptions.{plain-in-time}
use Rattle.env_core.proofs.Unrefused.{stopped-in-time}
use Rattle.env_core.proofs.state.State.answer_on_values.Goals as goal

pub returns-in-None-clause-ok : goal.returns-in-None-clause-ok
returns-in-None-clause-ok c =
    plain-in-time c.args.self.now c.value_call.new.self c.args.call.now c.value_call.result c.requires.at_once c.in-None.ensures c.value_call.ensures.ok

pub returns-in-None-clause-stopped : goal.returns-in-None-clause-stopped
returns-in-None-clause-stopped c =
    stopped-in-time c.args.self.now c.value_call.new.self c.args.call.now c.value_call.result c.in-None.ensures c.value_call.ensures.stopped
