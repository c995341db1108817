use Rattle.std.proofs.Common.{◌≡◌, ◌≤◌, ◌∙◌, ℕ, Some, None, not, option_map, sym, ap, refl, subst, arith}
use Rattle.napi_types.proofs.plain.Options.{at-err}
use Rattle.napi_types.specs.parts.Graph.{IsLive}
use Rattle.napi_reference.specs.ReferencePlaces.{map_of}
use Rattle.env_values.specs.SeenValues.{IsViewIn}
use Rattle.env_values.proofs.HandleValues.{given-live, unknown-handle}
use Rattle.env_core.specs.Buffering.{seen_info}
use Rattle.env_core.specs.contracts.state.State.{the_view}
use Rattle.env_core.proofs.Attaching.{attached-kept, attachments-kept}
use Rattle.env_core.proofs.BufferAnswers.{view-unknown, view-no_buffer, view-refused, view-unrefused, view-answers, view-made, IsAskedFor, asked-for, asked-seen, told-none, told-some}
use Rattle.env_core.proofs.Buffering.{seen-length, buffered-kept, buffers-kept, buffered-viewed, seen-new-view, linked-frames}
use Rattle.env_core.proofs.CoreScopes.{known-handle}
use Rattle.env_core.proofs.Promising.{promised-kept, promises-kept}
use Rattle.env_core.proofs.TsfnRooting.{roots-live, roots-kept}
use Rattle.env_core.proofs.ValueAnswers.{pending-live, pending-kept, referred-live, references-kept, same-frames, same-seen}
use Rattle.env_core.proofs.state.State.create_typedarray.Goals as goal

pub returns-in_default-clause-ok : goal.returns-in_default-clause-ok
returns-in_default-clause-ok c =
    let s = c.self.inside in
    rw (← c.self.view_is)
    (rw c.refused.ensures
    (view-unknown (the_view s) c.args.buffer (unknown-handle s.store s.scopes.frames c.args.buffer.0 c.in_default.ensures) c.args.kind c.args.offset c.args.length))

pub returns-then-is_none-clause-ok : goal.returns-then-is_none-clause-ok
returns-then-is_none-clause-ok c =
    let s = c.self.inside in
    let v = c.in-Some.value.0 in
    let live = given-live s.store s.scopes c.args.buffer.0 v c.self.invariant.0.live c.in-Some.ensures in
    rw (← c.self.view_is)
    (rw c.refused-then-is_none.ensures
    (view-no_buffer (the_view s) c.args.buffer _ (known-handle s.store s.scopes c.args.buffer.0 v c.in-Some.ensures) c.args.kind c.args.offset c.args.length
    (told-none _ (c.is_none.ensures ∙ ap not c.if-is_none.true) ∙ c.buffer_length.ensures
    ∙ sym (seen-length s.store c.invariant.ensures s.registry.parts.buffers c.self.invariant.3.buffers v live))))

pub returns-in_default-view_asked-clause-ok : goal.returns-in_default-view_asked-clause-ok
returns-in_default-view_asked-clause-ok c =
    let s = c.self.inside in
    let v = c.in-Some.value.0 in
    let b = s.registry.parts.buffers in
    let live = given-live s.store s.scopes c.args.buffer.0 v c.self.invariant.0.live c.in-Some.ensures in
    let there = told-some c.buffer_length.result (c.is_none.ensures ∙ ap not c.if-is_none.false) in
    rw (← c.self.view_is)
    (rw c.refused-in_default-view_asked.ensures
    (view-refused (the_view s) c.args.buffer _ (known-handle s.store s.scopes c.args.buffer.0 v c.in-Some.ensures) c.args.kind c.args.offset c.args.length there.0
    (there.1 ∙ c.buffer_length.ensures ∙ sym (seen-length s.store c.invariant.ensures b c.self.invariant.3.buffers v live))
    (ap (option_map (seen_info s.store)) c.in_default-view_asked.ensures
    ∙ sym (asked-seen s.store c.invariant.ensures b c.self.invariant.3.buffers c.args.kind v c.args.offset c.args.length live))))

pub returns-in_err-reserve_view-clause-unrefused : goal.returns-in_err-reserve_view-clause-unrefused
returns-in_err-reserve_view-clause-unrefused c =
    let s = c.self.inside in
    let v = c.in-Some.value.0 in
    let b = s.registry.parts.buffers in
    let live = given-live s.store s.scopes c.args.buffer.0 v c.self.invariant.0.live c.in-Some.ensures in
    let there = told-some c.buffer_length.result (c.is_none.ensures ∙ ap not c.if-is_none.false) in
    rw (← c.self.view_is)
    (at-err _
    (view-unrefused (the_view s) c.args.buffer _ (known-handle s.store s.scopes c.args.buffer.0 v c.in-Some.ensures) c.args.kind c.args.offset c.args.length there.0
    (seen_info s.store c.in-Some-view_asked.about)
    (there.1 ∙ c.buffer_length.ensures ∙ sym (seen-length s.store c.invariant.ensures b c.self.invariant.3.buffers v live))
    (ap (option_map (seen_info s.store)) c.in-Some-view_asked.ensures
    ∙ sym (asked-seen s.store c.invariant.ensures b c.self.invariant.3.buffers c.args.kind v c.args.offset c.args.length live))))

pub returns-in_err-view-clause-unrefused : goal.returns-in_err-view-clause-unrefused
returns-in_err-view-clause-unrefused c =
    let s = c.self.inside in
    let v = c.in-Some.value.0 in
    let b = s.registry.parts.buffers in
    let live = given-live s.store s.scopes c.args.buffer.0 v c.self.invariant.0.live c.in-Some.ensures in
    let there = told-some c.buffer_length.result (c.is_none.ensures ∙ ap not c.if-is_none.false) in
    rw (← c.self.view_is)
    (at-err _
    (view-unrefused (the_view s) c.args.buffer _ (known-handle s.store s.scopes c.args.buffer.0 v c.in-Some.ensures) c.args.kind c.args.offset c.args.length there.0
    (seen_info s.store c.in-Some-view_asked.about)
    (there.1 ∙ c.buffer_length.ensures ∙ sym (seen-length s.store c.invariant.ensures b c.self.invariant.3.buffers v live))
    (ap (option_map (seen_info s.store)) c.in-Some-view_asked.ensures
    ∙ sym (asked-seen s.store c.invariant.ensures b c.self.invariant.3.buffers c.args.kind v c.args.offset c.args.length live))))

pub invariant_of-self-in_err-view : goal.invariant_of-self-in_err-view
invariant_of-self-in_err-view c =
    let s = c.self.inside in
    let i = c.self.invariant.0 in
    let g = c.make_linked in
    let kept = g.ensures.keeps.values in (
      record {
        live = g.ensures.keeps.scopes.live;
        frames = same-frames s.store g.new.store s.scopes g.new.scopes c.in_err-view.ensures.err ∙ i.frames;
        calls = g.ensures.keeps.scopes.calls ∙ i.calls;
        pending = pending-live s.store g.new.store s.exceptions.pending kept i.pending;
        referred = referred-live s.store g.new.store (map_of s.references) kept i.referred;
        rooted = roots-live s.store g.new.store s.tsfn_roots kept i.rooted;
      },
      rw c.reserve_view.ensures.same (attached-kept s.store g.new.store kept s.registry.parts.attachments c.self.invariant.1),
      rw c.reserve_view.ensures.same c.self.invariant.2,
      rw c.reserve_view.ensures.same (record {
        promises = promised-kept s.store g.new.store kept s.registry.parts.promises c.self.invariant.3.promises;
        buffers = buffered-kept s.store g.new.store kept s.registry.parts.buffers c.self.invariant.3.buffers;
      }),
    )

pub returns-in_err-view-clause-err : goal.returns-in_err-view-clause-err
returns-in_err-view-clause-err c =
    let s = c.self.inside in
    let g = c.make_linked in
    rw (
      ← c.self.view_is,
      c.reserve_view.ensures.same,
      buffers-kept s.store g.new.store g.ensures.keeps.values c.invariant.ensures s.registry.parts.buffers c.self.invariant.3.buffers,
    )
    (at-err _
    (same-seen (the_view s) s.store g.new.store s.scopes g.new.scopes
    (map_of s.references) s.tsfn_roots s.registry.parts.attachments s.exceptions.pending s.registry.parts.promises g.ensures.keeps.values
    c.self.invariant.0.referred c.self.invariant.0.rooted c.self.invariant.1 c.self.invariant.0.pending c.self.invariant.3.promises c.in_err-view.ensures.err))

pub make_linked-requires-clause-child : goal.make_linked-requires-clause-child
make_linked-requires-clause-child c =
    let s = c.self.inside in given-live s.store s.scopes c.args.buffer.0 c.in-Some.value.0 c.self.invariant.0.live c.in-Some.ensures

pub make_view-requires-clause-size : goal.make_view-requires-clause-size
make_view-requires-clause-size c =
    let s = c.self.inside in
    (asked-for s.registry.parts.buffers c.args.kind c.in-Some.value.0 c.args.offset c.args.length c.in-Some-view_asked.about (sym c.in-Some-view_asked.ensures)).size

pub make_view-requires-clause-within : goal.make_view-requires-clause-within
make_view-requires-clause-within c =
    let s = c.self.inside in
    rw c.reserve_view.ensures.same
    (asked-for s.registry.parts.buffers c.args.kind c.in-Some.value.0 c.args.offset c.args.length c.in-Some-view_asked.about (sym c.in-Some-view_asked.ensures)).within

pub invariant_of-self-2 : goal.invariant_of-self-2
invariant_of-self-2 c =
    let s = c.self.inside in
    let i = c.self.invariant.0 in
    let g = c.make_linked in
    let v = c.in_ok-view.view.0 in
    let b = s.registry.parts.buffers in
    let kept = g.ensures.keeps.values in
    let asked : IsAskedFor b c.in-Some.value.0 c.in-Some-view_asked.about =
    asked-for b c.args.kind c.in-Some.value.0 c.args.offset c.args.length c.in-Some-view_asked.about (sym c.in-Some-view_asked.ensures) in (
      record {
        live = g.ensures.keeps.scopes.live;
        frames = linked-frames s.store g.new.store s.scopes g.new.scopes _ _ _ c.in_ok-view.ensures.heap ∙ i.frames;
        calls = g.ensures.keeps.scopes.calls ∙ i.calls;
        pending = pending-live s.store g.new.store s.exceptions.pending kept i.pending;
        referred = referred-live s.store g.new.store (map_of s.references) kept i.referred;
        rooted = roots-live s.store g.new.store s.tsfn_roots kept i.rooted;
      },
      rw (c.make_view.ensures, c.reserve_view.ensures.same) (attached-kept s.store g.new.store kept s.registry.parts.attachments c.self.invariant.1),
      rw (c.make_view.ensures, c.reserve_view.ensures.same) c.self.invariant.2,
      rw (c.make_view.ensures, c.reserve_view.ensures.same) (record {
        promises = promised-kept s.store g.new.store kept s.registry.parts.promises c.self.invariant.3.promises;
        buffers = buffered-viewed g.new.store b v c.in-Some-view_asked.about (buffered-kept s.store g.new.store kept b c.self.invariant.3.buffers)
            (subst (IsViewIn g.new.store v) (sym asked.buffer) (view-made g.new.store v _ c.in-Some.value.0 c.in_ok-view.ensures.value));
      }),
    )

pub returns-clause-ok : goal.returns-clause-ok
returns-clause-ok c =
    let s = c.self.inside in
    let i = c.self.invariant.0 in
    let g = c.make_linked in
    let k = c.in_ok-view.ensures in
    let v = c.in-Some.value.0 in
    let b = s.registry.parts.buffers in
    let kept = g.ensures.keeps.values in
    let maps = c.invariant-2.ensures.buffer_maps in
    let about = c.in-Some-view_asked.about in
    let live = given-live s.store s.scopes c.args.buffer.0 v i.live c.in-Some.ensures in
    let there = told-some c.buffer_length.result (c.is_none.ensures ∙ ap not c.if-is_none.false) in
    let asked : IsAskedFor b v about = asked-for b c.args.kind v c.args.offset c.args.length about (sym c.in-Some-view_asked.ensures) in
    rw (← c.self.view_is)
    (rw (
      c.plain.ensures,
      c.make_view.ensures,
      c.reserve_view.ensures.same,
      pending-kept s.store g.new.store s.exceptions.pending kept i.pending,
      references-kept s.store g.new.store (map_of s.references) kept i.referred,
      roots-kept s.store g.new.store s.tsfn_roots kept i.rooted,
      attachments-kept s.store g.new.store kept s.registry.parts.attachments c.self.invariant.1,
      promises-kept s.store g.new.store kept s.registry.parts.promises c.self.invariant.3.promises,
      seen-new-view s.store g.new.store kept c.invariant.ensures c.invariant-3.ensures b c.self.invariant.3.buffers maps c.in_ok-view.view.0 k.live k.number about
          (subst (IsLive s.store) (sym asked.buffer) live),
      k.heap,
      ← asked.buffer,
    )
    (view-answers (the_view s) c.args.buffer _ (known-handle s.store s.scopes c.args.buffer.0 v c.in-Some.ensures) c.args.kind c.args.offset c.args.length there.0
    (seen_info s.store about) c.in_ok-view.handle
    (there.1 ∙ c.buffer_length.ensures ∙ sym (seen-length s.store c.invariant.ensures b c.self.invariant.3.buffers v live))
    (ap (option_map (seen_info s.store)) c.in-Some-view_asked.ensures
    ∙ sym (asked-seen s.store c.invariant.ensures b c.self.invariant.3.buffers c.args.kind v c.args.offset c.args.length live)) k.handle))
