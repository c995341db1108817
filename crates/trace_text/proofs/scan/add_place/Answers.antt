use Rattle.trace_text.proofs.Weaving.{line_then}
use Rattle.trace_text.proofs.scan.add_place.Goals as goal

pub returns-clause-added : goal.returns-clause-added
returns-clause-added g c =
    line_then _ _ _ _ _ c.add_locals-number.ensures.next c.add_locals-number.ensures.added (rw c.of.ensures at c.add_line.ensures)
