use Rattle.std.proofs.Common.{sym, ◌∙◌, ap}
use Rattle.std.proofs.lemmas.List.{append-nil}
use Rattle.trace_text.specs.Writing.{Waiting}
use Rattle.trace_text.proofs.Adding.{adds_written, adds_lost}
use Rattle.trace_text.proofs.pending.write_out.Goals as goal

pub returns-then-has_failed-clause-added : goal.returns-then-has_failed-clause-added
returns-then-has_failed-clause-added g c = adds_lost _ _ _ _ _ (sym c.if-has_failed.ensures)
    (ap (λ (held : Waiting). held.failed) c.clear.ensures)

pub returns-in-Ok-clause-added : goal.returns-in-Ok-clause-added
returns-in-Ok-clause-added g c = adds_written _ _ _ _ _ _ _ _ (sym c.if-has_failed.ensures) c.clear-in-Ok.ensures
    (c.waiting.ensures ∙ sym (append-nil c.args.pending.now.bytes)) c.in-Ok.ensures.ok c.in-Ok.ensures.counted
