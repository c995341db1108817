use Rattle.trace_text.proofs.Adding.{adds_then}
use Rattle.trace_text.proofs.summary.add_number_line.Goals as goal

pub returns : goal.returns
returns g c =
    let name = rw c.as_bytes.ensures.value at c.add.ensures in
    adds_then (adds_then (adds_then name c.add-2.ensures) c.add_number.ensures) c.add-3.ensures
