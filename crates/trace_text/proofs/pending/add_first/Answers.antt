use Rattle.std.proofs.Common.{sym, ap, ◌++◌}
use Rattle.trace_text.proofs.Adding.{adds_held, adds_written, adds_cut, adds_lost}
use Rattle.trace_text.proofs.pending.add_first.Goals as goal

pub returns-then-has_room : goal.returns-then-has_room
returns-then-has_room g c = adds_held _ _ _ _ _ c.hold.ensures

pub returns-then-has_failed : goal.returns-then-has_failed
returns-then-has_failed g c = adds_lost _ _ _ _ _ (sym c.if-has_failed.ensures) (sym c.if-has_failed.ensures)

pub returns-in-Ok : goal.returns-in-Ok
returns-in-Ok g c = adds_written _ _ _ _ _ _ _ _ (sym c.if-has_failed.ensures) c.clear.ensures
    (ap (λ held. held ++ c.args.bytes.now) (sym c.requires)) c.in-Ok.ensures.ok c.in-Ok.ensures.counted

pub returns-in-Err : goal.returns-in-Err
returns-in-Err g c = adds_cut _ _ _ _ _ _ _ _ (sym c.if-has_failed.ensures) c.clear-in-Err.ensures
    (ap (λ held. held ++ c.args.bytes.now) (sym c.requires)) c.in-Err.ensures.err c.put_all.ensures.faults c.in-Err.ensures.failed
