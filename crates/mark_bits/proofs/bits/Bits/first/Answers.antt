use Rattle.std.proofs.Common.{◌≡◌, ◌∙◌, ◌+◌, ◌/◌, length, take, ap, sym, arith, rules}
use Rattle.std.specs.Prelude.{vec_len}
use Rattle.std.proofs.lemmas.List.{length-take-le}
use Rattle.mark_bits.specs.WordBits.{marks_of}
use Rattle.mark_bits.proofs.BitMarks.{size-of, first-marks}
use Rattle.mark_bits.proofs.bits.Bits.first.Goals as goal

pub slice_bounds-to_vec-end : goal.slice_bounds-to_vec-end
slice_bounds-to_vec-end c =
    let size : length c.args.self.now ≡ c.self.inside.many = size-of c.self.inside.words.items c.self.inside.many c.args.self.now c.self.view_is in
    sym (length-take-le c.div_ceil.result c.deref.result.now (omega (arith, size, c.requires, c.div_ceil.ensures, c.deref.ensures.len, c.self.invariant)))

pub invariant_of-result : goal.invariant_of-result
invariant_of-result c =
    let size : length c.args.self.now ≡ c.self.inside.many = size-of c.self.inside.words.items c.self.inside.many c.args.self.now c.self.view_is in
    let short : length (take c.div_ceil.result c.deref.result.now) ≡ c.div_ceil.result = length-take-le c.div_ceil.result c.deref.result.now (omega (arith, size, c.requires, c.div_ceil.ensures, c.deref.ensures.len, c.self.invariant)) in
    let all : c.div_ceil.result ≡ (c.args.many + 63) / 64 = omega (arith, c.div_ceil.ensures) in
    c.in_ok-words.ensures.len ∙ short ∙ all

pub returns : goal.returns
returns c =
    let size : length c.args.self.now ≡ c.self.inside.many = size-of c.self.inside.words.items c.self.inside.many c.args.self.now c.self.view_is in
    let all : c.div_ceil.result ≡ (c.args.many + 63) / 64 = omega (arith, c.div_ceil.ensures) in
    let long : vec_len c.self.inside.words ≡ length c.self.inside.words.items = search rules in
    ap (λ ws. marks_of ws c.args.many) (c.in_ok-words.ensures.items_if_clones_equal (λ x y same. search rules) ∙ ap (take c.div_ceil.result) c.deref.ensures.value ∙ ap (λ n. take n c.self.inside.words.items) all)
    ∙ first-marks c.self.inside.words.items c.self.inside.many c.args.many (omega (arith, size, c.requires)) (omega (arith, long, c.self.invariant))
    ∙ ap (take c.args.many) c.self.view_is
