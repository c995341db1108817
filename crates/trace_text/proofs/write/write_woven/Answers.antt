use Rattle.std.proofs.Common.{sym, ◌∙◌}
use Rattle.trace_text.proofs.Adding.{adds_whole, adds_prefix, adds_counted}
use Rattle.trace_text.proofs.write.write_woven.Goals as goal

pub returns-then-has_failed-clause-err : goal.returns-then-has_failed-clause-err
returns-then-has_failed-clause-err g c =
    adds_prefix _ _ _ _ _ _ c.new-pending.ensures c.add_trace.ensures c.write_out.ensures.added

pub returns-else-has_failed-clause-ok : goal.returns-else-has_failed-clause-ok
returns-else-has_failed-clause-ok g c =
    adds_whole _ _ _ _ _ _ c.new-pending.ensures c.add_trace.ensures c.write_out.ensures.added c.write_out.ensures.none
    (sym c.has_failed.ensures ∙ c.if-has_failed.false)

pub returns-else-has_failed-clause-counted : goal.returns-else-has_failed-clause-counted
returns-else-has_failed-clause-counted g c =
    adds_counted _ _ _ _ _ _ c.add_trace.ensures c.write_out.ensures.added (sym c.has_failed.ensures ∙ c.if-has_failed.false)
