use Rattle.std.proofs.Common.{refl}
use Rattle.std.specs.Fmt.{digits}
use Rattle.trace_text.proofs.laws.examples.Goals as goal

pub returns : goal.returns
unfolding digits
returns c = record { order = refl; escapes = refl; duties = refl }
