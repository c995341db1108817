use Rattle.trace_text.proofs.Adding.{adds_none, adds_then}
use Rattle.trace_text.proofs.line.add_marked.Goals as goal

pub returns-in-Some : goal.returns-in-Some
returns-in-Some g c = rw c.in-Some.is (adds_then c.add.ensures c.add_duty.ensures)

pub returns-in-None : goal.returns-in-None
returns-in-None g c = rw c.in-None.is (adds_none _)
