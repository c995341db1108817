use Rattle.std.proofs.Common.{arith}
use Rattle.napi_types.specs.plain.Replies.{plain}
use Rattle.env_core.proofs.Called.{calls-noted, asks-answered}
use Rattle.env_core.proofs.state.State.call_on_values.Goals as goal

pub note-requires : goal.note-requires
note-requires c =
    omega (arith, c.requires.within, asks-answered c.args.self.now c.answer_on_values.new.self c.args.call.now (plain c.in_ok-status.status c.in_ok-status.out) c.in_ok-status.ensures.ok)

pub returns-clause-ok : goal.returns-clause-ok
returns-clause-ok c =
    calls-noted c.args.self.now c.answer_on_values.new.self c.note.new.self c.args.call.now (plain c.in_ok-status.status c.in_ok-status.out) c.in_ok-status.ensures.ok c.note.ensures
