use Rattle.std.proofs.Common.{Ok, ap}
use Rattle.napi_types.proofs.plain.Options.{at-err}
use Rattle.shared_hub.specs.HubParts.{HubParts}
use Rattle.shared_hub.proofs.AnsweredFunctions.{call-answers, call-accepted}
use Rattle.shared_hub.proofs.parts.SharedParts.call_function.Goals as goal

pub returns-in_err-tried-clause-accepted : goal.returns-in_err-tried-clause-accepted
returns-in_err-tried-clause-accepted g c = λ given.
    at-err c.from_residual.result
    (rw (← c.self.view_is) (call-accepted (record { pool = c.self.inside.pool; functions = c.self.inside.functions }) c.args.who given c.args.id c.args.payload c.args.mode c.in_err-tried.ensures.memory))

pub returns-clause-ok : goal.returns-clause-ok
returns-clause-ok g c = λ given.
    let old : HubParts = record { pool = c.self.inside.pool; functions = c.self.inside.functions } in
    rw (← c.self.view_is, c.call_reply.ensures)
    (call-answers old (record { pool = c.self.inside.pool; functions = c.call.new.self }) c.args.who given c.args.id c.args.payload c.args.mode c.in_ok-tried.tried
    c.in_ok-tried.ensures.answer (ap (λ fs. record old { functions = fs }) c.in_ok-tried.ensures.called)
    (λ waits. ap (λ fs. record old { functions = fs }) (c.in_ok-tried.ensures.waits (ap (λ t. Ok t) waits))))
