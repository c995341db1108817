use Rattle.std.proofs.Common.{◌≡◌, ◌∙◌, ◌+◌, ◌-◌, ◌*◌, ◌/◌, ◌≤◌, ◌++◌, length, replicate, true, ap, sym, arith, rules}
use Rattle.std.specs.Prelude.{vec_len}
use Rattle.std.proofs.lemmas.List.{take_all}
use Rattle.mark_bits.specs.WordBits.{marks_of}
use Rattle.mark_bits.proofs.BitMarks.{size-of, filled, none-filled}
use Rattle.mark_bits.proofs.bits.Bits.fill_up.Goals as goal

pub returns-in_ok-resize-clause-filled : goal.returns-in_ok-resize-clause-filled
returns-in_ok-resize-clause-filled c =
    let size : length c.args.self.now ≡ c.self.inside.many = size-of c.self.inside.words.items c.self.inside.many c.args.self.now c.self.view_is in
    let long : vec_len c.self.inside.words ≡ length c.self.inside.words.items = search rules in
    let more : length c.self.inside.words.items ≤ c.div_ceil-words.result = omega (arith, long, c.if-words-len.true, c.len.ensures) in
    let there : c.resize.new.self.items ≡ c.self.inside.words.items ++ replicate (c.div_ceil-words.result - length c.self.inside.words.items) 18446744073709551615 =
    c.in_ok-resize.ensures.items ∙ ap (λ ws. ws ++ replicate (c.div_ceil-words.result - vec_len c.self.inside.words) 18446744073709551615) (take_all c.div_ceil-words.result c.self.inside.words.items more)
    ∙ ap (λ n. c.self.inside.words.items ++ replicate (c.div_ceil-words.result - n) 18446744073709551615) long in
    let all : 64 * c.div_ceil-words.result ≡ 64 * ((c.args.many + 63) / 64) = omega (arith, c.div_ceil-words.ensures) in
    ap (λ ws. marks_of ws (c.div_ceil-words.result * 64)) there
    ∙ filled c.self.inside.words.items c.self.inside.many c.div_ceil-words.result (sym long ∙ c.self.invariant) (omega (arith, size, c.requires.whole)) more
    ∙ ap (λ marks. marks ++ replicate (64 * c.div_ceil-words.result - c.self.inside.many) true) c.self.view_is
    ∙ ap (λ n. c.args.self.now ++ replicate n true) (omega (arith, all, size))

pub returns-else-words-len-clause-filled : goal.returns-else-words-len-clause-filled
returns-else-words-len-clause-filled c =
    let size : length c.args.self.now ≡ c.self.inside.many = size-of c.self.inside.words.items c.self.inside.many c.args.self.now c.self.view_is in
    none-filled c.args.self.now c.args.many c.requires.whole (omega (arith, size, c.if-words-len.false, c.len.ensures, c.div_ceil-words.ensures, c.self.invariant))
