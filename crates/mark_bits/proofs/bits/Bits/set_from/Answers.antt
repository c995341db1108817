use Rattle.std.proofs.Common.{◌≡◌, ◌/◌, ◌<◌, length, arith}
use Rattle.mark_bits.proofs.BitMarks.{size-of, word-marked}
use Rattle.mark_bits.proofs.bits.Bits.set_from.Goals as goal

pub index-requires : goal.index-requires
index-requires c = let size : length c.args.self.now ≡ c.self.inside.many = size-of c.self.inside.words.items c.self.inside.many c.args.self.now c.self.view_is in omega arith

pub returns-then-index-clause-passed : goal.returns-then-index-clause-passed
returns-then-index-clause-passed c = λ at low high.
    let size : length c.args.self.now ≡ c.self.inside.many = size-of c.self.inside.words.items c.self.inside.many c.args.self.now c.self.view_is in
    let there : c.args.place / 64 < length c.self.inside.words.items = omega (arith, c.self.inside.words.ok.0, c.self.invariant) in
    word-marked c.self.inside.words.items c.self.inside.many c.args.place c.index.result.now c.args.self.now c.self.view_is there c.index.ensures c.if-index.true at low (omega (arith, c.min.ensures)) (omega (arith, c.min.ensures, c.len.ensures))
