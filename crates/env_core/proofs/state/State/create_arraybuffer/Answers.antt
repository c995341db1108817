use Rattle.std.proofs.Common.{◌≡◌, ◌≤◌, ◌∙◌, ℕ, Some, None, sym, ap, refl, subst, arith}
use Rattle.napi_types.proofs.plain.Options.{at-err}
use Rattle.napi_types.specs.parts.Buffers.{most_buffer_bytes, most_bytes_together, total_bytes}
use Rattle.napi_reference.specs.ReferencePlaces.{map_of}
use Rattle.env_core.specs.contracts.state.State.{the_view}
use Rattle.env_core.proofs.Attaching.{attached-kept, attachments-kept}
use Rattle.env_core.proofs.BufferAnswers.{limits-within, limits-seen, buffer-refused, buffer-answers}
use Rattle.env_core.proofs.Buffering.{absent-none, buffer-absent, unviewed, buffered-kept, buffers-kept, buffered-made, seen-new-buffer, linked-frames}
use Rattle.env_core.proofs.Promising.{promised-kept, promises-kept}
use Rattle.env_core.proofs.TsfnRooting.{roots-live, roots-kept}
use Rattle.env_core.proofs.ValueAnswers.{pending-live, pending-kept, referred-live, references-kept, same-frames, same-seen}
use Rattle.env_core.proofs.state.State.create_arraybuffer.Goals as goal

pub returns-in-Some-clause-ok : goal.returns-in-Some-clause-ok
returns-in-Some-clause-ok c =
    let s = c.self.inside in
    rw (← c.self.view_is)
    (rw c.refused.ensures
    (buffer-refused (the_view s) c.args.length c.in-Some.status
    (c.in-Some.ensures ∙ sym (limits-seen s.store c.invariant.ensures s.registry.parts.buffers c.self.invariant.3.buffers c.invariant-2.ensures.buffer_maps c.args.length))))

pub overflow_cast-length : goal.overflow_cast-length
overflow_cast-length c = omega (arith, (limits-within c.self.inside.registry.parts.buffers c.args.length c.in_default.ensures).0)

pub returns-in_err-bytes-clause-unrefused : goal.returns-in_err-bytes-clause-unrefused
returns-in_err-bytes-clause-unrefused c =
    let s = c.self.inside in
    rw (← c.self.view_is)
    (at-err _
    (limits-seen s.store c.invariant.ensures s.registry.parts.buffers c.self.invariant.3.buffers c.invariant-2.ensures.buffer_maps c.args.length ∙ sym c.in_default.ensures))

pub returns-in_err-buffer-clause-unrefused : goal.returns-in_err-buffer-clause-unrefused
returns-in_err-buffer-clause-unrefused c =
    let s = c.self.inside in
    rw (← c.self.view_is)
    (at-err _
    (limits-seen s.store c.invariant.ensures s.registry.parts.buffers c.self.invariant.3.buffers c.invariant-2.ensures.buffer_maps c.args.length ∙ sym c.in_default.ensures))

pub invariant_of-self-in_err-buffer : goal.invariant_of-self-in_err-buffer
invariant_of-self-in_err-buffer c =
    let s = c.self.inside in
    let i = c.self.invariant.0 in
    let g = c.make_linked in
    let kept = g.ensures.keeps.values in (
      record {
        live = g.ensures.keeps.scopes.live;
        frames = same-frames s.store g.new.store s.scopes g.new.scopes c.in_err-buffer.ensures.err ∙ i.frames;
        calls = g.ensures.keeps.scopes.calls ∙ i.calls;
        pending = pending-live s.store g.new.store s.exceptions.pending kept i.pending;
        referred = referred-live s.store g.new.store (map_of s.references) kept i.referred;
        rooted = roots-live s.store g.new.store s.tsfn_roots kept i.rooted;
      },
      rw c.reserve_buffer.ensures.same (attached-kept s.store g.new.store kept s.registry.parts.attachments c.self.invariant.1),
      rw c.reserve_buffer.ensures.same c.self.invariant.2,
      rw c.reserve_buffer.ensures.same (record {
        promises = promised-kept s.store g.new.store kept s.registry.parts.promises c.self.invariant.3.promises;
        buffers = buffered-kept s.store g.new.store kept s.registry.parts.buffers c.self.invariant.3.buffers;
      }),
    )

pub returns-in_err-buffer-clause-err : goal.returns-in_err-buffer-clause-err
returns-in_err-buffer-clause-err c =
    let s = c.self.inside in
    let g = c.make_linked in
    rw (
      ← c.self.view_is,
      c.reserve_buffer.ensures.same,
      buffers-kept s.store g.new.store g.ensures.keeps.values c.invariant.ensures s.registry.parts.buffers c.self.invariant.3.buffers,
    )
    (at-err _
    (same-seen (the_view s) s.store g.new.store s.scopes g.new.scopes
    (map_of s.references) s.tsfn_roots s.registry.parts.attachments s.exceptions.pending s.registry.parts.promises g.ensures.keeps.values
    c.self.invariant.0.referred c.self.invariant.0.rooted c.self.invariant.1 c.self.invariant.0.pending c.self.invariant.3.promises c.in_err-buffer.ensures.err))

pub make_buffer-requires-clause-few : goal.make_buffer-requires-clause-few
make_buffer-requires-clause-few c =
    subst (λ n. n ≤ most_buffer_bytes) (sym c.in_ok-bytes.ensures.bytes) (limits-within c.self.inside.registry.parts.buffers c.args.length c.in_default.ensures).0

pub make_buffer-requires-clause-together : goal.make_buffer-requires-clause-together
make_buffer-requires-clause-together c =
    rw (c.reserve_buffer.ensures.same, c.in_ok-bytes.ensures.bytes) (limits-within c.self.inside.registry.parts.buffers c.args.length c.in_default.ensures).1

pub make_buffer-requires-clause-absent : goal.make_buffer-requires-clause-absent
make_buffer-requires-clause-absent c =
    let s = c.self.inside in
    let v = c.in_ok-buffer.buffer.0 in
    let b = s.registry.parts.buffers in
    rw c.reserve_buffer.ensures.same
    (absent-none (λ r. r.value) v b.buffers
    (buffer-absent s.store c.make_linked.new.store c.make_linked.ensures.keeps.values c.invariant.ensures v c.in_ok-buffer.ensures.number b c.self.invariant.3.buffers))

pub make_buffer-requires-clause-unviewed : goal.make_buffer-requires-clause-unviewed
make_buffer-requires-clause-unviewed c =
    let s = c.self.inside in
    let b = s.registry.parts.buffers in
    rw c.reserve_buffer.ensures.same
    (unviewed s.store c.make_linked.new.store c.make_linked.ensures.keeps.values c.invariant.ensures c.in_ok-buffer.buffer.0 c.in_ok-buffer.ensures.number b.views
    c.self.invariant.3.buffers.views)

pub invariant_of-self-2 : goal.invariant_of-self-2
invariant_of-self-2 c =
    let s = c.self.inside in
    let i = c.self.invariant.0 in
    let g = c.make_linked in
    let v = c.in_ok-buffer.buffer.0 in
    let kept = g.ensures.keeps.values in (
      record {
        live = g.ensures.keeps.scopes.live;
        frames = linked-frames s.store g.new.store s.scopes g.new.scopes _ _ _ c.in_ok-buffer.ensures.heap ∙ i.frames;
        calls = g.ensures.keeps.scopes.calls ∙ i.calls;
        pending = pending-live s.store g.new.store s.exceptions.pending kept i.pending;
        referred = referred-live s.store g.new.store (map_of s.references) kept i.referred;
        rooted = roots-live s.store g.new.store s.tsfn_roots kept i.rooted;
      },
      rw (c.make_buffer.ensures, c.reserve_buffer.ensures.same) (attached-kept s.store g.new.store kept s.registry.parts.attachments c.self.invariant.1),
      rw (c.make_buffer.ensures, c.reserve_buffer.ensures.same) c.self.invariant.2,
      rw (c.make_buffer.ensures, c.reserve_buffer.ensures.same) (record {
        promises = promised-kept s.store g.new.store kept s.registry.parts.promises c.self.invariant.3.promises;
        buffers = buffered-made g.new.store s.registry.parts.buffers v c.in_ok-bytes.bytes None
            (buffered-kept s.store g.new.store kept s.registry.parts.buffers c.self.invariant.3.buffers) c.in_ok-buffer.ensures.live;
      }),
    )

pub returns-clause-ok : goal.returns-clause-ok
returns-clause-ok c =
    let s = c.self.inside in
    let i = c.self.invariant.0 in
    let g = c.make_linked in
    let k = c.in_ok-buffer.ensures in
    let b = s.registry.parts.buffers in
    let kept = g.ensures.keeps.values in
    let maps = c.invariant-2.ensures.buffer_maps in
    rw (← c.self.view_is)
    (rw (
      c.plain.ensures,
      c.make_buffer.ensures,
      c.reserve_buffer.ensures.same,
      c.in_ok-bytes.ensures.bytes,
      pending-kept s.store g.new.store s.exceptions.pending kept i.pending,
      references-kept s.store g.new.store (map_of s.references) kept i.referred,
      roots-kept s.store g.new.store s.tsfn_roots kept i.rooted,
      attachments-kept s.store g.new.store kept s.registry.parts.attachments c.self.invariant.1,
      promises-kept s.store g.new.store kept s.registry.parts.promises c.self.invariant.3.promises,
      seen-new-buffer s.store g.new.store kept c.invariant.ensures c.invariant-3.ensures b c.self.invariant.3.buffers maps c.in_ok-buffer.buffer.0 k.live k.number c.args.length None,
      k.heap,
    )
    (buffer-answers (the_view s) c.args.length c.in_ok-buffer.handle
    (c.in_default.ensures ∙ sym (limits-seen s.store c.invariant.ensures b c.self.invariant.3.buffers maps c.args.length)) k.handle))
