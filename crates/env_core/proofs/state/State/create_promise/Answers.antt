use Rattle.std.proofs.Common.{◌∙◌, option_map, ap}
use Rattle.napi_types.specs.parts.Values.{Value}
use Rattle.napi_types.proofs.plain.Options.{at-err}
use Rattle.napi_reference.specs.ReferencePlaces.{map_of}
use Rattle.env_core.specs.contracts.state.State.{the_view}
use Rattle.env_core.proofs.Attaching.{attached-kept}
use Rattle.env_core.proofs.Buffering.{buffered-kept, buffers-kept}
use Rattle.env_core.proofs.PromiseAnswers.{created-answers, created-frames}
use Rattle.env_core.proofs.Promising.{promised-kept, promised-made}
use Rattle.env_core.proofs.TsfnRooting.{roots-live}
use Rattle.env_core.proofs.ValueAnswers.{pending-live, referred-live, same-frames, same-seen}
use Rattle.env_core.proofs.state.State.create_promise.Goals as goal

pub returns-in_err-promise-clause-err : goal.returns-in_err-promise-clause-err
returns-in_err-promise-clause-err c =
    let s = c.self.inside in
    let g = c.make_linked in
    rw (
      ← c.self.view_is,
      c.reserve_promise.ensures.same,
      buffers-kept s.store g.new.store g.ensures.keeps.values c.invariant.ensures s.registry.parts.buffers c.self.invariant.3.buffers,
    )
    (at-err _
    (same-seen (the_view s) s.store g.new.store s.scopes g.new.scopes
    (map_of s.references) s.tsfn_roots s.registry.parts.attachments s.exceptions.pending s.registry.parts.promises g.ensures.keeps.values
    c.self.invariant.0.referred c.self.invariant.0.rooted c.self.invariant.1 c.self.invariant.0.pending c.self.invariant.3.promises c.in_err-promise.ensures.err))

pub invariant_of-self-in_err-promise : goal.invariant_of-self-in_err-promise
invariant_of-self-in_err-promise c =
    let s = c.self.inside in
    let i = c.self.invariant.0 in
    let g = c.make_linked in
    let kept = g.ensures.keeps.values in (
      record {
        live = g.ensures.keeps.scopes.live;
        frames = same-frames s.store g.new.store s.scopes g.new.scopes c.in_err-promise.ensures.err ∙ i.frames;
        calls = g.ensures.keeps.scopes.calls ∙ i.calls;
        pending = pending-live s.store g.new.store s.exceptions.pending kept i.pending;
        referred = referred-live s.store g.new.store (map_of s.references) kept i.referred;
        rooted = roots-live s.store g.new.store s.tsfn_roots kept i.rooted;
      },
      rw c.reserve_promise.ensures.same (attached-kept s.store g.new.store kept s.registry.parts.attachments c.self.invariant.1),
      rw c.reserve_promise.ensures.same c.self.invariant.2,
      rw c.reserve_promise.ensures.same
          (record {
            promises = promised-kept s.store g.new.store kept s.registry.parts.promises c.self.invariant.3.promises;
            buffers = buffered-kept s.store g.new.store kept s.registry.parts.buffers c.self.invariant.3.buffers;
          }),
    )

pub invariant_of-self-2 : goal.invariant_of-self-2
invariant_of-self-2 c =
    let s = c.self.inside in
    let i = c.self.invariant.0 in
    let g = c.make_linked in
    let v = c.in_ok-promise.promise.0 in
    let kept = g.ensures.keeps.values in (
      record {
        live = g.ensures.keeps.scopes.live;
        frames = created-frames s.store g.new.store s.scopes g.new.scopes c.in_ok-promise.ensures.heap ∙ i.frames;
        calls = g.ensures.keeps.scopes.calls ∙ i.calls;
        pending = pending-live s.store g.new.store s.exceptions.pending kept i.pending;
        referred = referred-live s.store g.new.store (map_of s.references) kept i.referred;
        rooted = roots-live s.store g.new.store s.tsfn_roots kept i.rooted;
      },
      rw (c.make_promise-deferred.ensures.made, c.reserve_promise.ensures.same)
          (attached-kept s.store g.new.store kept s.registry.parts.attachments c.self.invariant.1),
      rw (c.make_promise-deferred.ensures.made, c.reserve_promise.ensures.same) c.self.invariant.2,
      rw (c.make_promise-deferred.ensures.made, c.reserve_promise.ensures.same)
          (record {
            promises = promised-made g.new.store s.registry.parts.promises v c.make_promise-deferred.result.0
                (promised-kept s.store g.new.store kept s.registry.parts.promises c.self.invariant.3.promises)
                (ap (option_map (λ (x : Value). x.body)) c.in_ok-promise.ensures.value);
            buffers = buffered-kept s.store g.new.store kept s.registry.parts.buffers c.self.invariant.3.buffers;
          }),
    )

pub returns-clause-ok : goal.returns-clause-ok
returns-clause-ok c =
    let s = c.self.inside in
    let i = c.self.invariant.0 in
    let g = c.make_linked in
    let k = c.in_ok-promise.ensures in
    rw (← c.self.view_is)
    (rw (
      c.plain.ensures,
      c.make_promise-deferred.ensures.made,
      c.reserve_promise.ensures.same,
      buffers-kept s.store g.new.store g.ensures.keeps.values c.invariant.ensures s.registry.parts.buffers c.self.invariant.3.buffers,
    )
    (created-answers (the_view s) s.store g.new.store s.scopes g.new.scopes (map_of s.references) s.tsfn_roots s.registry.parts.attachments s.exceptions.pending
    s.registry.parts.promises c.in_ok-promise.promise.0 c.make_promise-deferred.result c.in_ok-promise.handle g.ensures.keeps.values
    c.invariant.ensures c.invariant-2.ensures i.referred i.rooted c.self.invariant.1 i.pending c.self.invariant.3.promises
    (rw c.reserve_promise.ensures.same at c.invariant-3.ensures.maps) k.live k.number k.handle k.heap
    (rw c.reserve_promise.ensures.same at c.make_promise-deferred.ensures.fresh)))
