use Rattle.std.proofs.Common.{refl}
use Rattle.napi_types.specs.environment.Registering.{registered_only}
use Rattle.napi_types.specs.parts.Attachments.{wrap_ticket}
use Rattle.napi_reference.specs.ReferencePlaces.{map_of}
use Rattle.env_core.specs.contracts.state.State.{the_view}
use Rattle.env_core.proofs.Attaching.{remove-unrefused, remove-refused, attached-without_wrap}
use Rattle.env_core.proofs.Registered.{begun-dropped, remove-answers}
use Rattle.env_core.proofs.state.State.remove_wrap.Goals as goal

pub invariant_of-self : goal.invariant_of-self
invariant_of-self c = rw (c.in_default.ensures.stays refl) c.self.invariant

pub invariant_of-self-2 : goal.invariant_of-self-2
invariant_of-self-2 c =
    let s = c.self.inside in
    let v = c.in-Ok.value.0 in
    let t = registered_only s.registry.parts.book (wrap_ticket s.registry.parts.attachments v) in
    rw c.in-Some.ensures.unwrapped
    (c.self.invariant.0, attached-without_wrap s.store s.registry.parts.attachments v c.self.invariant.1, begun-dropped s.frames s.registry.parts.book t c.self.invariant.2, c.self.invariant.3)

pub returns : goal.returns
returns c =
    let s = c.self.inside in
    let k = c.in-Ok.ensures in
    let v = c.in-Ok.value.0 in
    rw (← c.self.view_is)
    (rw (c.in-Some.ensures.unwrapped, c.in-Some.ensures.dropped)
    (remove-answers (the_view s) s.store k.sound s.registry.parts.attachments s.registry.parts.book c.self.invariant.1 c.args.object v k.live k.number (map_of s.references) c.in-Some.payload
    (remove-unrefused (the_view s) s.store k.sound s.registry.parts.attachments c.self.invariant.1 c.args.object v k.live k.number c.in-Some.payload k.refusal c.in-Some.ensures.payload)
    c.in-Some.ensures.payload))

pub returns-in_default : goal.returns-in_default
returns-in_default c =
    let s = c.self.inside in
    let k = c.in-Ok.ensures in
    rw (← c.self.view_is)
    (rw (c.plain-in_default.ensures, c.in_default.ensures.stays refl)
    (remove-refused (the_view s) s.store k.sound s.registry.parts.attachments c.self.invariant.1 c.args.object c.in-Ok.value.0 k.live k.number k.refusal c.in_default.ensures.payload))
