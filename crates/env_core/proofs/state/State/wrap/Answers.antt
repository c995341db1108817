use Rattle.std.proofs.Common.{◌∙◌, ◌||◌, is_some, option_map, refl, sym, ap}
use Rattle.napi_types.specs.parts.Attachments.{Wrapped, wrap_of}
use Rattle.napi_types.proofs.plain.Options.{at-err}
use Rattle.napi_reference.specs.ReferencePlaces.{map_of}
use Rattle.env_registry.specs.Registering.{finalizer_registration, ticket_for}
use Rattle.env_core.specs.contracts.state.State.{the_view}
use Rattle.env_core.proofs.Attaching.{wrap-refused, wrap-unrefused, untold, attached-with_wrap}
use Rattle.env_core.proofs.Registered.{begun-asked, refers-live, wrap-answers}
use Rattle.env_core.proofs.state.State.wrap.Goals as goal

pub returns-then-wants_alone-clause-ok : goal.returns-then-wants_alone-clause-ok
returns-then-wants_alone-clause-ok c =
    let s = c.self.inside in
    let k = c.in-Ok.ensures in
    let o = option_map (λ (x : Wrapped). x.payload) (wrap_of s.registry.parts.attachments c.in-Ok.value.0) in
    rw (← c.self.view_is)
    (rw c.plain-then-wants_alone.ensures
    (wrap-refused (the_view s) s.store k.sound s.registry.parts.attachments c.self.invariant.1 c.args.object c.in-Ok.value.0 k.live k.number c.args.payload c.args.hint c.args.finalizer c.args.wanted o k.refusal refl
    (ap (λ b. b || is_some o) (sym c.wants_alone.ensures ∙ c.if-wants_alone.true))))

pub returns-then-is_some-clause-ok : goal.returns-then-is_some-clause-ok
returns-then-is_some-clause-ok c =
    let s = c.self.inside in
    let k = c.in-Ok.ensures in
    rw (← c.self.view_is)
    (rw c.plain-then-is_some.ensures
    (wrap-refused (the_view s) s.store k.sound s.registry.parts.attachments c.self.invariant.1 c.args.object c.in-Ok.value.0 k.live k.number c.args.payload c.args.hint c.args.finalizer c.args.wanted c.wrapped.result k.refusal c.wrapped.ensures
    (ap (λ b. b || is_some c.wrapped.result) (sym c.wants_alone.ensures ∙ c.if-wants_alone.false) ∙ sym c.is_some.ensures ∙ c.if-is_some.true)))

pub returns-in_err-reserve_wrap-clause-unrefused : goal.returns-in_err-reserve_wrap-clause-unrefused
returns-in_err-reserve_wrap-clause-unrefused c =
    let s = c.self.inside in
    let k = c.in-Ok.ensures in
    rw (← c.self.view_is)
    (at-err _
    (wrap-unrefused (the_view s) s.store k.sound s.registry.parts.attachments c.self.invariant.1 c.args.object c.in-Ok.value.0 k.live k.number c.args.payload c.args.hint c.args.finalizer c.args.wanted c.wrapped.result k.refusal c.wrapped.ensures
    (sym c.wants_alone.ensures ∙ c.if-wants_alone.false) (sym c.is_some.ensures ∙ c.if-is_some.false)))

pub returns-in_err-out-clause-unrefused : goal.returns-in_err-out-clause-unrefused
returns-in_err-out-clause-unrefused c =
    let s = c.self.inside in
    let k = c.in-Ok.ensures in
    rw (← c.self.view_is)
    (at-err _
    (wrap-unrefused (the_view s) s.store k.sound s.registry.parts.attachments c.self.invariant.1 c.args.object c.in-Ok.value.0 k.live k.number c.args.payload c.args.hint c.args.finalizer c.args.wanted c.wrapped.result k.refusal c.wrapped.ensures
    (sym c.wants_alone.ensures ∙ c.if-wants_alone.false) (sym c.is_some.ensures ∙ c.if-is_some.false)))

pub invariant_of-self-2 : goal.invariant_of-self-2
invariant_of-self-2 c =
    let s = c.self.inside in
    let i = c.self.invariant.0 in
    let v = c.in-Ok.value.0 in
    let live = c.in-Ok.ensures.live in
    let f = option_map finalizer_registration c.finalizer_if-asked.result in (
      record {
        live = i.live;
        frames = i.frames;
        calls = i.calls;
        pending = i.pending;
        referred = refers-live s.store c.args.wanted v (map_of s.references) (map_of c.refer_if.new.references) c.in_ok-out.out c.in_ok-out.ensures.ok live i.referred;
        rooted = i.rooted;
      },
      rw (c.wrap-made.ensures.wrapped, c.reserve_wrap.ensures.same)
          (attached-with_wrap s.store s.registry.parts.attachments v c.args.payload (ticket_for s.registry.parts.book f) c.self.invariant.1 live),
      rw (c.wrap-made.ensures.wrapped, c.reserve_wrap.ensures.same) (begun-asked s.frames s.registry.parts.book f c.self.invariant.2),
      rw (c.wrap-made.ensures.wrapped, c.reserve_wrap.ensures.same) c.self.invariant.3,
    )

pub returns-clause-ok : goal.returns-clause-ok
returns-clause-ok c =
    let s = c.self.inside in
    let k = c.in-Ok.ensures in
    let v = c.in-Ok.value.0 in
    let f = option_map finalizer_registration c.finalizer_if-asked.result in
    rw (← c.self.view_is)
    (rw (c.wrap-made.ensures.wrapped, c.wrap-made.ensures.made, c.reserve_wrap.ensures.same)
    (wrap-answers (the_view s) s.store k.sound s.registry.parts.attachments s.registry.parts.book c.self.invariant.1 c.args.object v k.live k.number (map_of s.references) (map_of c.refer_if.new.references)
    c.args.payload c.args.hint c.args.finalizer c.args.wanted c.in_ok-out.out f c.invariant.ensures.once
    (wrap-unrefused (the_view s) s.store k.sound s.registry.parts.attachments c.self.invariant.1 c.args.object v k.live k.number c.args.payload c.args.hint c.args.finalizer c.args.wanted c.wrapped.result k.refusal c.wrapped.ensures
    (sym c.wants_alone.ensures ∙ c.if-wants_alone.false) (sym c.is_some.ensures ∙ c.if-is_some.false))
    (untold c.wrapped.result (sym c.is_some.ensures ∙ c.if-is_some.false) ∙ c.wrapped.ensures) (rw (← c.self.view_is) at c.finalizer_if-asked.ensures)
    c.in_ok-out.ensures.ok))
