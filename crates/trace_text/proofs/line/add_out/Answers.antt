use Rattle.trace_text.proofs.Adding.{adds_then}
use Rattle.trace_text.proofs.line.add_out.Goals as goal

pub returns-in-Cut : goal.returns-in-Cut
returns-in-Cut g c =
    let why = rw (c.as_bytes-in-Cut.ensures.value, c.name-in-Cut.ensures) at c.add-in-Cut.ensures in
    rw c.in-Cut.is (adds_then c.add_word-in-Cut.ensures why)
