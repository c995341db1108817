use Rattle.env_core.specs.contracts.state.State.{the_view}
use Rattle.env_core.proofs.Attaching.{unwrap-answers, unwrap-refused}
use Rattle.env_core.proofs.state.State.unwrap.Goals as goal

pub returns-in-Some : goal.returns-in-Some
returns-in-Some c =
    let s = c.self.inside in
    let k = c.in-Ok.ensures in
    rw (← c.self.view_is)
    (rw c.plain-in-Some.ensures
    (unwrap-answers (the_view s) s.store k.sound s.registry.parts.attachments c.self.invariant.1 c.args.object c.in-Ok.value.0 k.live k.number c.in-Some.payload k.refusal c.in-Some.ensures))

pub returns-in-None : goal.returns-in-None
returns-in-None c =
    let s = c.self.inside in
    let k = c.in-Ok.ensures in
    rw (← c.self.view_is)
    (rw c.plain-in-None.ensures
    (unwrap-refused (the_view s) s.store k.sound s.registry.parts.attachments c.self.invariant.1 c.args.object c.in-Ok.value.0 k.live k.number k.refusal c.in-None.ensures))
