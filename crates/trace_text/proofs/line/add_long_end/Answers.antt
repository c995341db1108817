use Rattle.trace_text.proofs.Adding.{adds_then}
use Rattle.trace_text.proofs.line.add_long_end.Goals as goal

pub returns : goal.returns
returns g c =
    adds_then (adds_then (adds_then (adds_then c.add_status.ensures
    c.add_out.ensures) c.add_marked.ensures) c.add_marked-2.ensures) c.add_word.ensures
