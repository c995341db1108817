use Rattle.std.proofs.Common.{◌∙◌, option_map}
use Rattle.napi_types.proofs.plain.Options.{at-err}
use Rattle.napi_reference.specs.ReferencePlaces.{map_of}
use Rattle.env_registry.specs.Registering.{finalizer_registration, ticket_for}
use Rattle.env_core.specs.contracts.state.State.{the_view}
use Rattle.env_values.specs.SeenValues.{heap_of}
use Rattle.env_core.proofs.Attaching.{attached-kept, attachments-kept}
use Rattle.env_core.proofs.Buffering.{buffered-kept, buffers-kept}
use Rattle.env_core.proofs.Promising.{promised-kept, promises-kept}
use Rattle.env_core.proofs.TsfnRooting.{roots-live, roots-kept}
use Rattle.env_core.proofs.Registered.{begun-asked, attached-finalized, given-frames, external-answers}
use Rattle.env_core.proofs.ValueAnswers.{pending-live, pending-kept, referred-live, references-kept, same-frames, same-seen}
use Rattle.env_core.proofs.state.State.create_external.Goals as goal

pub returns-in_err-value-clause-err : goal.returns-in_err-value-clause-err
returns-in_err-value-clause-err c =
    let s = c.self.inside in
    let g = c.make_held in
    rw (
      ← c.self.view_is,
      c.reserve_finalizer.ensures.same,
      buffers-kept s.store g.new.store g.ensures.keeps.values c.invariant.ensures s.registry.parts.buffers c.self.invariant.3.buffers,
    )
    (at-err _
    (same-seen (the_view s) s.store g.new.store s.scopes g.new.scopes
    (map_of s.references) s.tsfn_roots s.registry.parts.attachments s.exceptions.pending s.registry.parts.promises g.ensures.keeps.values
    c.self.invariant.0.referred c.self.invariant.0.rooted c.self.invariant.1 c.self.invariant.0.pending c.self.invariant.3.promises c.in_err-value.ensures.err))

pub invariant_of-self-in_err-value : goal.invariant_of-self-in_err-value
invariant_of-self-in_err-value c =
    let s = c.self.inside in
    let i = c.self.invariant.0 in
    let g = c.make_held in
    let kept = g.ensures.keeps.values in (
      record {
        live = g.ensures.keeps.scopes.live;
        frames = same-frames s.store g.new.store s.scopes g.new.scopes c.in_err-value.ensures.err ∙ i.frames;
        calls = g.ensures.keeps.scopes.calls ∙ i.calls;
        pending = pending-live s.store g.new.store s.exceptions.pending kept i.pending;
        referred = referred-live s.store g.new.store (map_of s.references) kept i.referred;
        rooted = roots-live s.store g.new.store s.tsfn_roots kept i.rooted;
      },
      rw c.reserve_finalizer.ensures.same (attached-kept s.store g.new.store kept s.registry.parts.attachments c.self.invariant.1),
      rw c.reserve_finalizer.ensures.same c.self.invariant.2,
      rw c.reserve_finalizer.ensures.same
          (record {
            promises = promised-kept s.store g.new.store kept s.registry.parts.promises c.self.invariant.3.promises;
            buffers = buffered-kept s.store g.new.store kept s.registry.parts.buffers c.self.invariant.3.buffers;
          }),
    )

pub invariant_of-self-2 : goal.invariant_of-self-2
invariant_of-self-2 c =
    let s = c.self.inside in
    let i = c.self.invariant.0 in
    let g = c.make_held in
    let f = option_map finalizer_registration c.finalizer_if-asked.result in (
      record {
        live = g.ensures.keeps.scopes.live;
        frames = given-frames s.store g.new.store s.scopes g.new.scopes _ c.in_ok-value.out c.in_ok-value.ensures.gives ∙ i.frames;
        calls = g.ensures.keeps.scopes.calls ∙ i.calls;
        pending = pending-live s.store g.new.store s.exceptions.pending g.ensures.keeps.values i.pending;
        referred = referred-live s.store g.new.store (map_of s.references) g.ensures.keeps.values i.referred;
        rooted = roots-live s.store g.new.store s.tsfn_roots g.ensures.keeps.values i.rooted;
      },
      rw (c.attach-made.ensures.attached, c.reserve_finalizer.ensures.same)
          (attached-finalized g.new.store s.registry.parts.attachments c.in_ok-value.value.0 (ticket_for s.registry.parts.book f)
          (attached-kept s.store g.new.store g.ensures.keeps.values s.registry.parts.attachments c.self.invariant.1) c.in_ok-value.ensures.live),
      rw (c.attach-made.ensures.attached, c.reserve_finalizer.ensures.same) (begun-asked s.frames s.registry.parts.book f c.self.invariant.2),
      rw (c.attach-made.ensures.attached, c.reserve_finalizer.ensures.same)
          (record {
            promises = promised-kept s.store g.new.store g.ensures.keeps.values s.registry.parts.promises c.self.invariant.3.promises;
            buffers = buffered-kept s.store g.new.store g.ensures.keeps.values s.registry.parts.buffers c.self.invariant.3.buffers;
          }),
    )

pub returns-clause-ok : goal.returns-clause-ok
returns-clause-ok c =
    let s = c.self.inside in
    let g = c.make_held in
    let v = c.in_ok-value.value.0 in
    let f = option_map finalizer_registration c.finalizer_if-asked.result in
    rw (← c.self.view_is)
    (rw (
      c.attach-made.ensures.attached,
      c.attach-made.ensures.made,
      c.reserve_finalizer.ensures.same,
      pending-kept s.store g.new.store s.exceptions.pending g.ensures.keeps.values c.self.invariant.0.pending,
      references-kept s.store g.new.store (map_of s.references) g.ensures.keeps.values c.self.invariant.0.referred,
      roots-kept s.store g.new.store s.tsfn_roots g.ensures.keeps.values c.self.invariant.0.rooted,
      promises-kept s.store g.new.store g.ensures.keeps.values s.registry.parts.promises c.self.invariant.3.promises,
      buffers-kept s.store g.new.store g.ensures.keeps.values c.invariant.ensures s.registry.parts.buffers c.self.invariant.3.buffers,
    )
    (external-answers (the_view s) s.store g.new.store s.registry.parts.attachments s.registry.parts.book c.args.payload c.args.hint c.args.finalizer c.in_ok-value.out (heap_of g.new.store g.new.scopes) v f
    c.in_ok-value.ensures.gives c.in_ok-value.ensures.number (attachments-kept s.store g.new.store g.ensures.keeps.values s.registry.parts.attachments c.self.invariant.1)
    (rw (← c.self.view_is) at c.finalizer_if-asked.ensures)))
