use Rattle.std.proofs.Common.{◌∙◌, is_some, sym, ap}
use Rattle.env_values.proofs.HandleValues.{given-live, unknown-handle}
use Rattle.env_core.specs.contracts.state.State.{the_view}
use Rattle.env_core.proofs.BufferAnswers.{is-answers, is-unknown}
use Rattle.env_core.proofs.Buffering.{seen-length}
use Rattle.env_core.proofs.CoreScopes.{known-handle}
use Rattle.env_core.proofs.state.State.is_arraybuffer.Goals as goal

pub returns-in-Some : goal.returns-in-Some
returns-in-Some c =
    let s = c.self.inside in
    let v = c.in-Some.value.0 in
    let live = given-live s.store s.scopes c.args.value.0 v c.self.invariant.0.live c.in-Some.ensures in
    rw (← c.self.view_is)
    (rw c.plain.ensures
    (is-answers (the_view s) c.args.value _ (known-handle s.store s.scopes c.args.value.0 v c.in-Some.ensures) c.is_some-is_buffer.result
    (c.is_some-is_buffer.ensures ∙ ap is_some c.buffer_length.ensures
    ∙ ap is_some (sym (seen-length s.store c.invariant.ensures s.registry.parts.buffers c.self.invariant.3.buffers v live)))))

pub returns-in-None : goal.returns-in-None
returns-in-None c =
    let s = c.self.inside in
    rw (← c.self.view_is) (rw c.refused.ensures (is-unknown (the_view s) c.args.value (unknown-handle s.store s.scopes.frames c.args.value.0 c.in-None.ensures)))
