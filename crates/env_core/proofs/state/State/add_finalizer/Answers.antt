use Rattle.std.proofs.Common.{option_map}
use Rattle.napi_reference.specs.ReferencePlaces.{map_of}
use Rattle.env_registry.specs.Registering.{finalizer_registration, ticket_for}
use Rattle.env_core.specs.contracts.state.State.{the_view}
use Rattle.env_core.proofs.Registered.{begun-asked, refers-live, attached-finalized, finalizer-answers}
use Rattle.env_core.proofs.state.State.add_finalizer.Goals as goal

pub invariant_of-self-2 : goal.invariant_of-self-2
invariant_of-self-2 c =
    let s = c.self.inside in
    let i = c.self.invariant.0 in
    let v = c.in-Ok.value.0 in
    let live = c.in-Ok.ensures.live in
    let f = option_map finalizer_registration c.finalizer_if-asked.result in (
      record {
        live = i.live;
        frames = i.frames;
        calls = i.calls;
        pending = i.pending;
        referred = refers-live s.store c.args.wanted v (map_of s.references) (map_of c.refer_if.new.references) c.in_ok-out.out c.in_ok-out.ensures.ok live i.referred;
        rooted = i.rooted;
      },
      rw (c.attach-made.ensures.attached, c.reserve_finalizer.ensures.same)
          (attached-finalized s.store s.registry.parts.attachments v (ticket_for s.registry.parts.book f) c.self.invariant.1 live),
      rw (c.attach-made.ensures.attached, c.reserve_finalizer.ensures.same) (begun-asked s.frames s.registry.parts.book f c.self.invariant.2),
      rw (c.attach-made.ensures.attached, c.reserve_finalizer.ensures.same) c.self.invariant.3,
    )

pub returns-clause-ok : goal.returns-clause-ok
returns-clause-ok c =
    let s = c.self.inside in
    let k = c.in-Ok.ensures in
    let v = c.in-Ok.value.0 in
    let f = option_map finalizer_registration c.finalizer_if-asked.result in
    rw (← c.self.view_is)
    (rw (c.attach-made.ensures.attached, c.attach-made.ensures.made, c.reserve_finalizer.ensures.same)
    (finalizer-answers (the_view s) s.store k.sound s.registry.parts.attachments s.registry.parts.book c.self.invariant.1 c.args.object v k.live k.number (map_of s.references) (map_of c.refer_if.new.references)
    c.args.payload c.args.entry c.args.hint c.args.wanted c.in_ok-out.out f k.refusal (rw (← c.self.view_is) at c.finalizer_if-asked.ensures) c.in_ok-out.ensures.ok))
