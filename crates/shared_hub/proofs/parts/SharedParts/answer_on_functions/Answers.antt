use Rattle.std.proofs.Common.{sym, subst}
use Rattle.std.specs.Result.{OnErr}
use Rattle.napi_types.specs.declared.call.Call.{Call}
use Rattle.napi_types.specs.hub.Hub.{Hub}
use Rattle.shared_hub.specs.HubParts.{hub_with, WouldAccept}
use Rattle.shared_hub.proofs.parts.SharedParts.answer_on_functions.Goals as goal

pub returns-in-CallThreadsafeFunction-clause-accepted : goal.returns-in-CallThreadsafeFunction-clause-accepted
returns-in-CallThreadsafeFunction-clause-accepted g c =
    subst (λ (k : Call). OnErr c.call_function.result ((h : Hub) → WouldAccept (hub_with c.args.self.now h) c.args.who c.args.given.now k))
    (sym c.in-CallThreadsafeFunction.is) (c.call_function.ensures.accepted c.args.given.now)
