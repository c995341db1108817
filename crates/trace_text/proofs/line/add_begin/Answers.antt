use Rattle.trace_text.proofs.Adding.{adds_then}
use Rattle.trace_text.proofs.line.add_begin.Goals as goal

pub returns : goal.returns
returns g c =
    adds_then (adds_then (adds_then (adds_then
    c.add_cause.ensures c.add_count.ensures) c.add_word.ensures) c.add_count-2.ensures) c.add_marked.ensures
