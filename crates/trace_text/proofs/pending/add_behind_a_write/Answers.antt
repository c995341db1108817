use Rattle.trace_text.proofs.Adding.{adds_then}
use Rattle.trace_text.proofs.pending.add_behind_a_write.Goals as goal

pub returns : goal.returns
returns g c = adds_then c.write_out.ensures.added c.add_first.ensures
