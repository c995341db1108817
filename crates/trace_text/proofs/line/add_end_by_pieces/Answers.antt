use Rattle.trace_text.proofs.Adding.{adds_then}
use Rattle.trace_text.proofs.line.add_end_by_pieces.Goals as goal

pub returns : goal.returns
returns g c = adds_then (adds_then c.add_word.ensures c.add_out.ensures) c.add_word-2.ensures
