use Rattle.std.proofs.Common.{◌≡◌, ◌/◌, ◌<◌, length, arith}
use Rattle.mark_bits.proofs.BitMarks.{size-of, bit-cleared}
use Rattle.mark_bits.proofs.bits.Bits.unset.Goals as goal

pub index_mut-requires : goal.index_mut-requires
index_mut-requires c = let size : length c.args.self.now ≡ c.self.inside.many = size-of c.self.inside.words.items c.self.inside.many c.args.self.now c.self.view_is in omega arith

pub returns : goal.returns
returns c =
    let size : length c.args.self.now ≡ c.self.inside.many = size-of c.self.inside.words.items c.self.inside.many c.args.self.now c.self.view_is in
    let there : c.args.place / 64 < length c.self.inside.words.items = omega (arith, c.self.inside.words.ok.0, c.self.invariant) in
    bit-cleared c.self.inside.words.items c.self.inside.many c.args.place c.index_mut.result.now c.args.self.now c.self.view_is c.requires there c.index_mut.ensures.value
