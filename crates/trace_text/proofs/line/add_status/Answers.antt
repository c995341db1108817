use Rattle.std.specs.Fmt.{digits}
use Rattle.trace_text.proofs.Adding.{adds_then}
use Rattle.trace_text.proofs.line.add_status.Goals as goal

pub returns-in-Ok : goal.returns-in-Ok
unfolding digits
returns-in-Ok g c = rw c.in-Ok.is c.add_word.ensures

pub returns : goal.returns
returns g c =
    let number = rw (c.number.ensures) at c.add_number.ensures in
    adds_then (adds_then c.add_word-2.ensures number) c.add_word-3.ensures
