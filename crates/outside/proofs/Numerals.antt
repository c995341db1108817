-- What the library reads of a word of digits.
use Rattle.std.proofs.Common.{rules, ◌&&◌, ◌≡◌, ◌<◌, ◌≤◌, ◌^◌, ℕ, Bool, true, false, nat_le, List, [], ◌∷◌, length, Result, Ok, refl, arith}
use Rattle.std.proofs.lemmas.Str.{IsUtf8-from_ascii}
use Rattle.std.proofs.lemmas.Str.Parse.{IsDigitsTest, IsNumeralModel, numerals_by_value, digits_value_short, parse_gives}
use Rattle.std.specs.Char.{is_ascii_digit}
use Rattle.std.specs.List.{list_all}
use Rattle.std.specs.Str.{IsAscii, IsUtf8}
use Rattle.std.specs.Str.Parse.{digits_value, ParsesUnsigned}
use Rattle.outside.specs.Words.{is_numeral}

-- the test of digits is the library's
digits : IsDigitsTest (λ ds. list_all is_ascii_digit ds ≡ true)
digits = search rules

numerals : IsNumeralModel (λ ds. list_all is_ascii_digit ds ≡ true) (digits_value 10)
numerals = numerals_by_value _ digits

-- a word of digits is a text
is-ascii : (word : List ℕ) → list_all is_ascii_digit word ≡ true → IsAscii word
is-ascii [] e = search rules
is-ascii (c ∷ cs) e = search (rules, is-ascii cs)

-- one to seven digits
record Numeral (word : List ℕ) : Type 0 where
  pub digits : list_all is_ascii_digit word ≡ true
  pub some : 0 < length word
  pub few : length word ≤ 7

numeral : (word : List ℕ) → is_numeral word ≡ true → Numeral word
numeral word e = by (nat_le 1 (length word)) (nat_le (length word) 7) (list_all is_ascii_digit word) refl refl refl e
  where
    by : (a b c : Bool) → nat_le 1 (length word) ≡ a → nat_le (length word) 7 ≡ b → list_all is_ascii_digit word ≡ c → (a && b && c) ≡ true → Numeral word
    by true true true ea eb ec h = record { digits = ec; some = grind arith; few = grind arith }
    by true true false ea eb ec h = cc
    by true false c ea eb ec h = cc
    by false b c ea eb ec h = cc

pub is-text : (word : List ℕ) → is_numeral word ≡ true → IsUtf8 word
is-text word e = IsUtf8-from_ascii word (is-ascii word (numeral word e).digits)

-- the library reads the number that it writes
pub is-read : {E : Type 0} (word : List ℕ) (r : Result ℕ E) → is_numeral word ≡ true → ParsesUnsigned 32 10 word r → r ≡ Ok (digits_value 10 word)
is-read word r e h =
    let n : Numeral word = numeral word e in
    let short : digits_value 10 word < 10 ^ 7 = digits_value_short numerals word 7 n.digits n.few in
    parse_gives numerals 32 word r h n.digits n.some (omega (arith, short))
