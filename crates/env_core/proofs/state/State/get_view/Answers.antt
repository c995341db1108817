use Rattle.std.proofs.Common.{◌∙◌, sym}
use Rattle.env_values.proofs.HandleValues.{given-live, unknown-handle}
use Rattle.env_core.specs.contracts.state.State.{the_view}
use Rattle.env_core.proofs.BufferAnswers.{get-unknown, get-refused, get-answers}
use Rattle.env_core.proofs.Buffering.{seen-element}
use Rattle.env_core.proofs.CoreScopes.{known-handle}
use Rattle.env_core.proofs.state.State.get_view.Goals as goal

pub returns-in_default : goal.returns-in_default
returns-in_default c =
    let s = c.self.inside in
    rw (← c.self.view_is)
    (rw c.refused.ensures (get-unknown (the_view s) c.args.view (unknown-handle s.store s.scopes.frames c.args.view.0 c.in_default.ensures) c.args.index))

pub returns-in-None : goal.returns-in-None
returns-in-None c =
    let s = c.self.inside in
    let v = c.in-Some.value.0 in
    let live = given-live s.store s.scopes c.args.view.0 v c.self.invariant.0.live c.in-Some.ensures in
    rw (← c.self.view_is)
    (rw c.refused-in-None.ensures
    (get-refused (the_view s) c.args.view _ (known-handle s.store s.scopes c.args.view.0 v c.in-Some.ensures) c.args.index
    (c.in-None.ensures ∙ sym (seen-element s.store c.invariant.ensures s.registry.parts.buffers c.self.invariant.3.buffers v c.args.index live))))

pub returns-in-Some-element : goal.returns-in-Some-element
returns-in-Some-element c =
    let s = c.self.inside in
    let v = c.in-Some.value.0 in
    let live = given-live s.store s.scopes c.args.view.0 v c.self.invariant.0.live c.in-Some.ensures in
    rw (← c.self.view_is)
    (rw c.plain.ensures
    (get-answers (the_view s) c.args.view _ (known-handle s.store s.scopes c.args.view.0 v c.in-Some.ensures) c.args.index c.in-Some-element.number
    (c.in-Some-element.ensures ∙ sym (seen-element s.store c.invariant.ensures s.registry.parts.buffers c.self.invariant.3.buffers v c.args.index live))))
