use Rattle.trace_text.proofs.Weaving.{adds_here, adds_elsewhere}
use Rattle.trace_text.proofs.scan.add_local.Goals as goal

pub returns-clause-added : goal.returns-clause-added
returns-clause-added g c = adds_here _ _ _ _ c.if-local-at.false (rw c.of.ensures at c.add_line.ensures)

pub returns-then-local-at-clause-added : goal.returns-then-local-at-clause-added
returns-then-local-at-clause-added g c = adds_elsewhere _ _ _ _ _ c.if-local-at.true
