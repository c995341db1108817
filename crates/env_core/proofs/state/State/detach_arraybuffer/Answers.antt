use Rattle.std.proofs.Common.{◌∙◌, Some, None, not, sym, ap}
use Rattle.env_core.specs.contracts.state.State.{the_view}
use Rattle.env_core.proofs.BufferAnswers.{detach-no_object, detach-no_buffer, detach-again, detach-answers, bytes-there, told-none, told-some}
use Rattle.env_core.proofs.Buffering.{buffered-changed, seen-length, seen-detached, seen-changed_at}
use Rattle.env_core.proofs.state.State.detach_arraybuffer.Goals as goal

pub returns-in-Err : goal.returns-in-Err
returns-in-Err c =
    let s = c.self.inside in
    rw (← c.self.view_is) (rw c.refused.ensures (detach-no_object (the_view s) c.args.buffer c.in-Err.status c.in-Err.ensures.refusal))

pub returns-then-is_none : goal.returns-then-is_none
returns-then-is_none c =
    let s = c.self.inside in
    let k = c.in-Ok.ensures in
    let v = c.in-Ok.value.0 in
    rw (← c.self.view_is)
    (rw c.refused-then-is_none.ensures
    (detach-no_buffer (the_view s) c.args.buffer _ (sym k.number) k.refusal
    (told-none _ (c.is_none.ensures ∙ ap not c.if-is_none.true) ∙ c.buffer_length.ensures
    ∙ sym (seen-length s.store k.sound s.registry.parts.buffers c.self.invariant.3.buffers v k.live))))

pub returns-then-is_detached_buffer : goal.returns-then-is_detached_buffer
returns-then-is_detached_buffer c =
    let s = c.self.inside in
    let k = c.in-Ok.ensures in
    let v = c.in-Ok.value.0 in
    let there = told-some c.buffer_length.result (c.is_none.ensures ∙ ap not c.if-is_none.false) in
    rw (← c.self.view_is)
    (rw c.refused-then-is_detached_buffer.ensures
    (detach-again (the_view s) c.args.buffer _ (sym k.number) k.refusal there.0
    (there.1 ∙ c.buffer_length.ensures ∙ sym (seen-length s.store k.sound s.registry.parts.buffers c.self.invariant.3.buffers v k.live))
    (sym c.if-is_detached_buffer.true ∙ c.is_detached_buffer.ensures
    ∙ sym (seen-detached s.store k.sound s.registry.parts.buffers c.self.invariant.3.buffers v k.live))))

pub detach_buffer-requires : goal.detach_buffer-requires
detach_buffer-requires c =
    let s = c.self.inside in
    let there = told-some c.buffer_length.result (c.is_none.ensures ∙ ap not c.if-is_none.false) in
    bytes-there s.registry.parts.buffers c.in-Ok.value.0 there.0 (there.1 ∙ c.buffer_length.ensures) (sym c.if-is_detached_buffer.false ∙ c.is_detached_buffer.ensures)

pub invariant_of-self : goal.invariant_of-self
invariant_of-self c =
    let s = c.self.inside in
    rw c.detach_buffer.ensures (
      c.self.invariant.0,
      c.self.invariant.1,
      c.self.invariant.2,
      record {
        promises = c.self.invariant.3.promises;
        buffers = buffered-changed s.store (λ bytes. None) c.in-Ok.value.0 s.registry.parts.buffers c.self.invariant.3.buffers;
      },
    )

pub returns : goal.returns
returns c =
    let s = c.self.inside in
    let k = c.in-Ok.ensures in
    let v = c.in-Ok.value.0 in
    let b = s.registry.parts.buffers in
    let there = told-some c.buffer_length.result (c.is_none.ensures ∙ ap not c.if-is_none.false) in
    rw (← c.self.view_is)
    (rw (c.plain.ensures, c.detach_buffer.ensures, seen-changed_at s.store k.sound b c.self.invariant.3.buffers (λ bytes. None) v k.live)
    (detach-answers (the_view s) c.args.buffer _ (sym k.number) k.refusal there.0
    (there.1 ∙ c.buffer_length.ensures ∙ sym (seen-length s.store k.sound b c.self.invariant.3.buffers v k.live))
    (sym c.if-is_detached_buffer.false ∙ c.is_detached_buffer.ensures ∙ sym (seen-detached s.store k.sound b c.self.invariant.3.buffers v k.live))))
