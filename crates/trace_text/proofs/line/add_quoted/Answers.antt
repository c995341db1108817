use Rattle.trace_text.proofs.Adding.{adds_then}
use Rattle.trace_text.proofs.line.add_quoted.Goals as goal

pub returns : goal.returns
returns g c = adds_then (adds_then c.add_word.ensures c.add_all_escaped.ensures) c.add_word-2.ensures
