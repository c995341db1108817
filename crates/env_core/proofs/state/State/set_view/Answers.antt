use Rattle.std.proofs.Common.{◌∙◌, is_some, sym, ap}
use Rattle.env_values.proofs.HandleValues.{given-live, unknown-handle}
use Rattle.env_core.specs.contracts.state.State.{the_view}
use Rattle.env_core.proofs.BufferAnswers.{set-unknown, set-refused, set-answers, unwritten}
use Rattle.env_core.proofs.Buffering.{buffered-written, seen-element, seen-written}
use Rattle.env_core.proofs.CoreScopes.{known-handle}
use Rattle.env_core.proofs.state.State.set_view.Goals as goal

pub returns-in_default : goal.returns-in_default
returns-in_default c =
    let s = c.self.inside in
    rw (← c.self.view_is)
    (rw c.refused.ensures (set-unknown (the_view s) c.args.view (unknown-handle s.store s.scopes.frames c.args.view.0 c.in_default.ensures) c.args.index c.args.number))

pub invariant_of-self : goal.invariant_of-self
invariant_of-self c =
    let s = c.self.inside in
    let b = s.registry.parts.buffers in
    rw c.set_element.ensures.written (
      c.self.invariant.0,
      c.self.invariant.1,
      c.self.invariant.2,
      record {
        promises = c.self.invariant.3.promises;
        buffers = buffered-written s.store c.in-Some.value.0 c.args.index c.args.number b c.self.invariant.3.buffers;
      },
    )

pub invariant_of-self-2 : goal.invariant_of-self-2
invariant_of-self-2 c =
    let s = c.self.inside in
    let b = s.registry.parts.buffers in
    rw c.set_element.ensures.written (
      c.self.invariant.0,
      c.self.invariant.1,
      c.self.invariant.2,
      record {
        promises = c.self.invariant.3.promises;
        buffers = buffered-written s.store c.in-Some.value.0 c.args.index c.args.number b c.self.invariant.3.buffers;
      },
    )

pub returns-then-set_element : goal.returns-then-set_element
returns-then-set_element c =
    let s = c.self.inside in
    let v = c.in-Some.value.0 in
    let b = s.registry.parts.buffers in
    let live = given-live s.store s.scopes c.args.view.0 v c.self.invariant.0.live c.in-Some.ensures in
    rw (← c.self.view_is)
    (rw (c.plain.ensures, c.set_element.ensures.written, seen-written s.store c.invariant.ensures b c.self.invariant.3.buffers v c.args.index c.args.number live)
    (set-answers (the_view s) c.args.view _ (known-handle s.store s.scopes c.args.view.0 v c.in-Some.ensures) c.args.index c.args.number
    (sym c.if-set_element.true ∙ c.set_element.ensures.accepted
    ∙ ap is_some (sym (seen-element s.store c.invariant.ensures b c.self.invariant.3.buffers v c.args.index live)))))

pub returns : goal.returns
returns c =
    let s = c.self.inside in
    let v = c.in-Some.value.0 in
    let b = s.registry.parts.buffers in
    let live = given-live s.store s.scopes c.args.view.0 v c.self.invariant.0.live c.in-Some.ensures in
    let none = sym c.if-set_element.false ∙ c.set_element.ensures.accepted in
    rw (← c.self.view_is)
    (rw (c.refused-2.ensures, c.set_element.ensures.written, unwritten b v c.args.index c.args.number c.invariant-2.ensures.buffer_maps none)
    (set-refused (the_view s) c.args.view _ (known-handle s.store s.scopes c.args.view.0 v c.in-Some.ensures) c.args.index c.args.number
    (none ∙ ap is_some (sym (seen-element s.store c.invariant.ensures b c.self.invariant.3.buffers v c.args.index live)))))
