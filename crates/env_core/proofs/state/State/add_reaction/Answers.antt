use Rattle.std.proofs.Common.{◌∙◌, not, refl, ap}
use Rattle.napi_types.specs.environment.PromiseCalls.{reaction_of}
use Rattle.napi_types.specs.parts.Promises.{state_now}
use Rattle.napi_types.proofs.plain.Options.{at-err}
use Rattle.napi_reference.specs.ReferencePlaces.{map_of}
use Rattle.env_values.proofs.HandleValues.{given-live}
use Rattle.env_core.specs.contracts.state.State.{the_view}
use Rattle.env_core.proofs.Beginning.{begun-registered}
use Rattle.env_core.proofs.PromiseAnswers.{react-unknown, react-refused, react-unrefused, react-answers}
use Rattle.env_core.proofs.Promising.{promised-reacting}
use Rattle.env_core.proofs.Reacting.{no-reaction}
use Rattle.env_core.proofs.state.State.add_reaction.Goals as goal

pub returns-in_default-clause-ok : goal.returns-in_default-clause-ok
returns-in_default-clause-ok c =
    let s = c.self.inside in
    rw (← c.self.view_is)
    (rw c.plain.ensures
    (react-unknown (the_view s) s.store s.scopes (map_of s.references) s.tsfn_roots s.registry.parts.attachments s.exceptions.pending s.registry.parts.promises
    c.args.promise c.args.entry c.args.payload c.in_default.ensures))

pub returns-then-is_none-clause-ok : goal.returns-then-is_none-clause-ok
returns-then-is_none-clause-ok c =
    let s = c.self.inside in
    let live = given-live s.store s.scopes c.args.promise.0 c.in-Some.value.0 c.self.invariant.0.live c.in-Some.ensures in
    rw (← c.self.view_is)
    (rw c.plain-then-is_none.ensures
    (react-refused (the_view s) s.store s.scopes (map_of s.references) s.tsfn_roots s.registry.parts.attachments s.exceptions.pending s.registry.parts.promises
    c.args.promise c.args.entry c.args.payload c.in-Some.value.0 c.invariant.ensures live c.self.invariant.3.promises c.in-Some.ensures
    (rw (← c.promise_state.ensures) (c.is_none.ensures ∙ ap not c.if-is_none.true))))

pub react-requires-clause-new : goal.react-requires-clause-new
react-requires-clause-new c =
    let s = c.self.inside in
    no-reaction s.store c.invariant.ensures s.registry.parts.promises c.self.invariant.3.promises (the_view s) refl (rw (← c.self.view_is) at c.requires.hooked)

pub returns-in_err-duty-clause-unrefused : goal.returns-in_err-duty-clause-unrefused
returns-in_err-duty-clause-unrefused c =
    let s = c.self.inside in
    let live = given-live s.store s.scopes c.args.promise.0 c.in-Some.value.0 c.self.invariant.0.live c.in-Some.ensures in
    rw (← c.self.view_is)
    (at-err _
    (react-unrefused (the_view s) s.store s.scopes (map_of s.references) s.tsfn_roots s.registry.parts.attachments s.exceptions.pending s.registry.parts.promises
    c.args.promise c.args.entry c.args.payload c.in-Some.value.0 c.invariant.ensures live c.self.invariant.3.promises c.in-Some.ensures
    (rw (← c.promise_state.ensures) (c.is_none.ensures ∙ ap not c.if-is_none.false))))

pub invariant_of-self-2 : goal.invariant_of-self-2
invariant_of-self-2 c =
    let s = c.self.inside in
    let ps = s.registry.parts.promises in
    let r = reaction_of c.caller-addon.result c.args.entry c.args.payload (state_now ps c.in-Some.value.0) in
    rw c.in_ok-duty.ensures.reacts (
      c.self.invariant.0,
      c.self.invariant.1,
      begun-registered s.frames s.registry.parts.book r c.self.invariant.2,
      record {
        promises = promised-reacting s.store ps c.in-Some.value.0 _ c.self.invariant.3.promises;
        buffers = c.self.invariant.3.buffers;
      },
    )

pub returns-clause-ok : goal.returns-clause-ok
returns-clause-ok c =
    let s = c.self.inside in
    let live = given-live s.store s.scopes c.args.promise.0 c.in-Some.value.0 c.self.invariant.0.live c.in-Some.ensures in
    rw (← c.self.view_is)
    (rw (c.in_ok-duty.ensures.made, c.in_ok-duty.ensures.reacts)
    (react-answers (the_view s) s.store s.scopes (map_of s.references) s.tsfn_roots s.registry.parts.attachments s.exceptions.pending s.registry.parts.promises
    c.args.promise c.args.entry c.args.payload c.in-Some.value.0 c.invariant.ensures live c.self.invariant.3.promises c.in-Some.ensures
    (rw (← c.promise_state.ensures) (c.is_none.ensures ∙ ap not c.if-is_none.false)) c.caller-addon.result (rw (← c.self.view_is) at c.caller-addon.ensures)))
