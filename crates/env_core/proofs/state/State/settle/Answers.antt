use Rattle.napi_types.specs.parts.Promises.{reactions_of}
use Rattle.napi_reference.specs.ReferencePlaces.{map_of}
use Rattle.env_values.proofs.HandleValues.{given-live}
use Rattle.env_core.specs.contracts.state.State.{the_view}
use Rattle.env_core.specs.Promising.{settling_call}
use Rattle.env_core.proofs.Attaching.{attached-kept}
use Rattle.env_core.proofs.Beginning.{begun-settled}
use Rattle.env_core.proofs.Buffering.{buffered-kept, buffers-kept}
use Rattle.env_core.proofs.PromiseAnswers.{deferred-promise, settling-call, settle-unknown, settle-refused, settle-answers}
use Rattle.env_core.proofs.Promising.{promised-kept, promised-settled}
use Rattle.env_core.proofs.TsfnRooting.{roots-live}
use Rattle.env_core.proofs.ValueAnswers.{pending-live, referred-live}
use Rattle.env_core.proofs.state.State.settle.Goals as goal

pub settle_with-requires-clause-promise : goal.settle_with-requires-clause-promise
settle_with-requires-clause-promise c =
    let s = c.self.inside in
    deferred-promise s.store s.registry.parts.promises c.self.invariant.3.promises c.args.deferred.0 c.in-Ok.promise.0 c.in-Ok.ensures.promise

pub settle_with-requires-clause-live : goal.settle_with-requires-clause-live
settle_with-requires-clause-live c =
    let s = c.self.inside in given-live s.store s.scopes c.args.value.0 c.in-Some.value.0 c.self.invariant.0.live c.in-Some.ensures

pub invariant_of-self : goal.invariant_of-self
invariant_of-self c =
    let s = c.self.inside in
    let i = c.self.invariant.0 in
    let g = c.settle_with in
    let kept = g.ensures.keeps.values in (
      record {
        live = g.ensures.keeps.scopes.live;
        frames = i.frames;
        calls = i.calls;
        pending = pending-live s.store g.new.store s.exceptions.pending kept i.pending;
        referred = referred-live s.store g.new.store (map_of s.references) kept i.referred;
        rooted = roots-live s.store g.new.store s.tsfn_roots kept i.rooted;
      },
      rw c.in-Ok.ensures.settled (attached-kept s.store g.new.store kept s.registry.parts.attachments c.self.invariant.1),
      rw c.in-Ok.ensures.settled
          (begun-settled s.frames s.registry.parts.book c.args.state (reactions_of s.registry.parts.promises c.in-Ok.promise.0) c.self.invariant.2),
      rw c.in-Ok.ensures.settled
          (record {
            promises = promised-settled g.new.store s.registry.parts.promises c.args.deferred.0 c.in-Ok.promise.0 c.args.state
                (promised-kept s.store g.new.store kept s.registry.parts.promises c.self.invariant.3.promises);
            buffers = buffered-kept s.store g.new.store kept s.registry.parts.buffers c.self.invariant.3.buffers;
          }),
    )

pub returns-in_default : goal.returns-in_default
returns-in_default c =
    let s = c.self.inside in
    let d = c.args.deferred in
    rw (← c.self.view_is)
    (rw c.plain.ensures
    (settle-unknown (the_view s) s.store s.scopes (map_of s.references) s.tsfn_roots s.registry.parts.attachments s.exceptions.pending s.registry.parts.promises
    (settling_call c.args.state d c.args.value) d c.args.value c.args.state (settling-call d c.args.value c.args.state c.requires.state) c.in_default.ensures))

pub returns-in-Err : goal.returns-in-Err
returns-in-Err c =
    let s = c.self.inside in
    let d = c.args.deferred in
    rw (← c.self.view_is)
    (rw (c.plain-in-Err.ensures, c.in-Err.ensures.err)
    (settle-refused (the_view s) s.store s.scopes (map_of s.references) s.tsfn_roots s.registry.parts.attachments s.exceptions.pending s.registry.parts.promises
    (settling_call c.args.state d c.args.value) d c.args.value c.args.state c.in-Some.value.0 c.in-Err.status
    (settling-call d c.args.value c.args.state c.requires.state) c.in-Some.ensures c.in-Err.ensures.refusal))

pub returns-in-Ok : goal.returns-in-Ok
returns-in-Ok c =
    let s = c.self.inside in
    let i = c.self.invariant.0 in
    let g = c.settle_with in
    let d = c.args.deferred in
    rw (← c.self.view_is)
    (rw (
      c.plain-in-Ok.ensures,
      c.in-Ok.ensures.settled,
      buffers-kept s.store g.new.store g.ensures.keeps.values c.invariant.ensures s.registry.parts.buffers c.self.invariant.3.buffers,
    )
    (settle-answers (the_view s) s.store g.new.store s.scopes (map_of s.references) s.tsfn_roots s.registry.parts.attachments s.exceptions.pending
    s.registry.parts.promises (settling_call c.args.state d c.args.value) d c.args.value c.args.state c.in-Some.value.0
    c.in-Ok.promise.0 (settling-call d c.args.value c.args.state c.requires.state) g.ensures.keeps.values c.invariant.ensures i.referred i.rooted
    c.self.invariant.1 i.pending c.self.invariant.3.promises c.in-Some.ensures c.in-Ok.ensures.promise g.ensures.heap))
