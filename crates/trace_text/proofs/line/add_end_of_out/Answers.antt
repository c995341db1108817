use Rattle.trace_text.proofs.Adding.{adds_then}
use Rattle.trace_text.proofs.line.add_end_of_out.Goals as goal

pub returns-in-Begin : goal.returns-in-Begin
returns-in-Begin g c = rw c.in-Begin.is (adds_then (adds_then c.add_word-in-Begin.ensures c.add_begin.ensures) c.add_word-in-Begin-2.ensures)
