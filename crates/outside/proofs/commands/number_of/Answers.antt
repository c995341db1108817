use Rattle.std.proofs.Common.{◌≡◌, ℕ, true, List, subst}
use Rattle.std.specs.Str.Parse.{ParsesUnsigned}
use Rattle.outside.specs.Words.{is_numeral}
use Rattle.outside.proofs.Numerals.{is-text, is-read}
use Rattle.outside.proofs.commands.number_of.Goals as goal

pub returns-in_default : goal.returns-in_default
returns-in_default c =
    let word = c.args.word.now in
    let e : is_numeral word ≡ true = cc in
    absurd (c.in_default.ensures.cases.0 (is-text word e))

pub returns-in_default-parse : goal.returns-in_default-parse
returns-in_default-parse c =
    let word = c.args.word.now in
    let e : is_numeral word ≡ true = cc in
    let same = c.in-Ok.ensures.cases.0 in
    let value : ParsesUnsigned 32 10 word c.parse.result = subst (λ (b : List ℕ). ParsesUnsigned 32 10 b c.parse.result) same c.parse.ensures.value.0 in
    let read = is-read word c.parse.result e value in
    cc
