use Rattle.std.proofs.Common.{sym}
use Rattle.mark_bits.proofs.BitMarks.{size-of}
use Rattle.mark_bits.proofs.bits.Bits.len.Goals as goal

pub returns : goal.returns
returns c = sym (size-of c.self.inside.words.items c.self.inside.many c.args.self.now c.self.view_is)
