use Rattle.std.proofs.Common.{◌≡◌, ◌/◌, ◌<◌, length, arith}
use Rattle.mark_bits.proofs.BitMarks.{size-of, bit-read}
use Rattle.mark_bits.proofs.bits.Bits.is_set.Goals as goal

pub index-requires : goal.index-requires
index-requires c = let size : length c.args.self.now ≡ c.self.inside.many = size-of c.self.inside.words.items c.self.inside.many c.args.self.now c.self.view_is in omega arith

pub returns : goal.returns
returns c =
    let size : length c.args.self.now ≡ c.self.inside.many = size-of c.self.inside.words.items c.self.inside.many c.args.self.now c.self.view_is in
    let there : c.args.place / 64 < length c.self.inside.words.items = omega (arith, c.self.inside.words.ok.0, c.self.invariant) in
    bit-read c.self.inside.words.items c.self.inside.many c.args.place c.index.result.now c.args.self.now c.self.view_is c.requires there c.index.ensures
