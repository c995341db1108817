use Rattle.trace_text.proofs.Adding.{adds_then}
use Rattle.trace_text.proofs.line.add_actor.Goals as goal

pub returns-in-Thread : goal.returns-in-Thread
returns-in-Thread g c = rw c.in-Thread.is (adds_then (adds_then c.add_word-in-Thread.ensures c.add_number.ensures) c.add_word-in-Thread-2.ensures)

pub returns-in-Worker : goal.returns-in-Worker
returns-in-Worker g c = rw c.in-Worker.is (adds_then (adds_then c.add_word-in-Worker.ensures c.add_number-in-Worker.ensures) c.add_word-in-Worker-2.ensures)
