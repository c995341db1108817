use Rattle.trace_text.proofs.Adding.{adds_then}
use Rattle.trace_text.proofs.summary.add_counts.Goals as goal

pub returns : goal.returns
returns g c =
    adds_then (adds_then (adds_then (adds_then (adds_then (adds_then (adds_then (adds_then (adds_then (adds_then (adds_then
    c.add_number_line.ensures c.add_number_line-2.ensures) c.add_number_line-3.ensures) c.add_number_line-4.ensures)
    c.add_number_line-5.ensures) c.add_number_line-6.ensures) c.add_number_line-7.ensures) c.add_number_line-8.ensures)
    c.add_number_line-9.ensures) c.add_number_line-10.ensures) c.add_number_line-11.ensures) c.add_number_line-12.ensures
