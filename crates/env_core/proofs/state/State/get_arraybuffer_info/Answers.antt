use Rattle.std.proofs.Common.{◌∙◌, sym}
use Rattle.env_values.proofs.HandleValues.{given-live, unknown-handle}
use Rattle.env_core.specs.contracts.state.State.{the_view}
use Rattle.env_core.proofs.BufferAnswers.{info-unknown, info-refused, info-answers}
use Rattle.env_core.proofs.Buffering.{seen-length}
use Rattle.env_core.proofs.CoreScopes.{known-handle}
use Rattle.env_core.proofs.state.State.get_arraybuffer_info.Goals as goal

pub returns-in_default : goal.returns-in_default
returns-in_default c =
    let s = c.self.inside in
    rw (← c.self.view_is)
    (rw c.refused.ensures (info-unknown (the_view s) c.args.buffer (unknown-handle s.store s.scopes.frames c.args.buffer.0 c.in_default.ensures)))

pub returns-in-None : goal.returns-in-None
returns-in-None c =
    let s = c.self.inside in
    let v = c.in-Some.value.0 in
    let live = given-live s.store s.scopes c.args.buffer.0 v c.self.invariant.0.live c.in-Some.ensures in
    rw (← c.self.view_is)
    (rw c.refused-in-None.ensures
    (info-refused (the_view s) c.args.buffer _ (known-handle s.store s.scopes c.args.buffer.0 v c.in-Some.ensures)
    (c.in-None.ensures ∙ sym (seen-length s.store c.invariant.ensures s.registry.parts.buffers c.self.invariant.3.buffers v live))))

pub returns-in-Some-buffer_length : goal.returns-in-Some-buffer_length
returns-in-Some-buffer_length c =
    let s = c.self.inside in
    let v = c.in-Some.value.0 in
    let live = given-live s.store s.scopes c.args.buffer.0 v c.self.invariant.0.live c.in-Some.ensures in
    rw (← c.self.view_is)
    (rw (c.plain.ensures, c.from.ensures)
    (info-answers (the_view s) c.args.buffer _ (known-handle s.store s.scopes c.args.buffer.0 v c.in-Some.ensures) c.in-Some-buffer_length.length
    (c.in-Some-buffer_length.ensures ∙ sym (seen-length s.store c.invariant.ensures s.registry.parts.buffers c.self.invariant.3.buffers v live))))
