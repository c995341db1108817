-- Bytes that lie at places: written over others, and as a number.
use Rattle.std.proofs.Common.{◌≡◌, ◌∙◌, ℕ, zero, suc, ◌+◌, ◌-◌, ◌*◌, ◌%◌, ◌/◌, ◌^◌, ◌<◌, ◌≤◌, nat_lt, nat_le, Bool, true, false, ◌&&◌, cond, List, [], ◌∷◌, ◌++◌, length, take, drop, slice_index, inl, inr, refl, ap, sym, subst, arith}
use Rattle.std.specs.Int.{w64, from_le_bytes, byte_at, byte_worth, bytes_low_first, sum_through}
use Rattle.std.proofs.lemmas.Bool.{cases_lt}
use Rattle.std.proofs.lemmas.Bool.Decides.{nat_tests}
use Rattle.std.proofs.lemmas.List.{get_or_append_left, get_or-append_right, get_or-drop, get_or-take, get_or_past, length-append, length-drop}
use Rattle.std.proofs.Math.Seq.{length-take-le}
use Rattle.napi_types.specs.parts.Buffers.{IsElementSize, overwritten}

-- A NUMBER AS BYTES
pub low-byte : (i k n j : ℕ) → j < k → slice_index (bytes_low_first i k n) j ≡ byte_at (i + j) n
low-byte i zero n j below = absurd (omega (arith, below))
low-byte i (suc k) n zero below = let same : i ≡ i + 0 = omega arith in ap (λ m. byte_at m n) same
low-byte i (suc k) n (suc j) below =
    let same : suc i + j ≡ i + suc j = omega arith in
    low-byte (suc i) k n j (omega (arith, below)) ∙ ap (λ m. byte_at m n) same

pub how-many : (i k n : ℕ) → length (bytes_low_first i k n) ≡ k
how-many i zero n = refl
how-many i (suc k) n = ap suc (how-many (suc i) k n)

-- WRITTEN OVER OTHERS
inside : (start end k : ℕ) → start ≤ k → k < end → (nat_le start k && nat_lt k end) ≡ true
inside start end k from below = grind (arith, nat_tests)

ahead : (start end k : ℕ) → k < start → (nat_le start k && nat_lt k end) ≡ false
ahead start end k before = grind (arith, nat_tests)

behind : (start end k : ℕ) → end ≤ k → (nat_le start k && nat_lt k end) ≡ false
behind start end k past = grind (arith, nat_tests)

pub overwritten-at : (start : ℕ) (new bytes : List ℕ) (k : ℕ) → start + length new ≤ length bytes
    → slice_index (overwritten start new bytes) k ≡ cond (nat_le start k && nat_lt k (start + length new)) (slice_index new (k - start)) (slice_index bytes k)
overwritten-at start new bytes k within =
    elim (cases_lt k start) [
      | inl before ↦
          get_or_append_left front (new ++ rest) 0 k (omega (arith, before, front-length)) ∙ get_or-take start bytes k 0 before
          ∙ sym (ap (λ b. cond b (slice_index new (k - start)) (slice_index bytes k)) (ahead start (start + length new) k before))
      | inr from ↦
          get_or-append_right front (new ++ rest) start k 0 front-length from ∙ elim (cases_lt k (start + length new)) [
            | inl below ↦
                get_or_append_left new rest 0 (k - start) (omega (arith, from, below))
                ∙ sym (ap (λ b. cond b (slice_index new (k - start)) (slice_index bytes k)) (inside start (start + length new) k from below))
            | inr past ↦
                let place : start + length new + (k - start - length new) ≡ k = omega (arith, from, past) in
                get_or-append_right new rest (length new) (k - start) 0 refl (omega (arith, from, past))
                ∙ get_or-drop (start + length new) bytes (k - start - length new) 0 ∙ ap (slice_index bytes) place
                ∙ sym (ap (λ b. cond b (slice_index new (k - start)) (slice_index bytes k)) (behind start (start + length new) k past))
          ]
    ]
  where
    front : List ℕ
    front = take start bytes

    rest : List ℕ
    rest = drop (start + length new) bytes

    front-length : length front ≡ start
    front-length = length-take-le start bytes (omega (arith, within))

pub length-over : (start : ℕ) (new bytes : List ℕ) → start + length new ≤ length bytes → length (overwritten start new bytes) ≡ length bytes
length-over start new bytes within =
    let front = length-take-le start bytes (omega (arith, within)) in
    omega (arith, within, front, length-append (take start bytes) (new ++ drop (start + length new) bytes), length-append new (drop (start + length new) bytes), length-drop (start + length new) bytes)

-- BYTES AS A NUMBER
abbrev eight : ℕ → ℕ → ℕ → ℕ → ℕ → ℕ → ℕ → ℕ → ℕ
eight a b c d e f g h =
    a + b * 256 + c * 65536 + d * 16777216 + e * 4294967296 + f * 1099511627776 + g * 281474976710656 + h * 72057594037927936

number-eight : (bs : List ℕ) → from_le_bytes w64 bs
    ≡ eight (slice_index bs 0) (slice_index bs 1) (slice_index bs 2) (slice_index bs 3) (slice_index bs 4) (slice_index bs 5) (slice_index bs 6) (slice_index bs 7)
number-eight bs = refl

module _ (a b c d e f g h : ℕ) (a1 : a < 256) (b1 : b < 256) (c1 : c < 256) (d1 : d < 256) (e1 : e < 256) (f1 : f < 256) (g1 : g < 256) (h1 : h < 256) where
  byte-eight0 : byte_at 0 (eight a b c d e f g h) ≡ a
  byte-eight0 = omega (arith, a1)

  byte-eight1 : byte_at 1 (eight a b c d e f g h) ≡ b
  byte-eight1 = omega (arith, a1, b1)

  byte-eight2 : byte_at 2 (eight a b c d e f g h) ≡ c
  byte-eight2 = omega (arith, a1, b1, c1)

  byte-eight3 : byte_at 3 (eight a b c d e f g h) ≡ d
  byte-eight3 = omega (arith, a1, b1, c1, d1)

  byte-eight4 : byte_at 4 (eight a b c d e f g h) ≡ e
  byte-eight4 = omega (arith, a1, b1, c1, d1, e1)

  byte-eight5 : byte_at 5 (eight a b c d e f g h) ≡ f
  byte-eight5 = omega (arith, a1, b1, c1, d1, e1, f1)

  byte-eight6 : byte_at 6 (eight a b c d e f g h) ≡ g
  byte-eight6 = omega (arith, a1, b1, c1, d1, e1, f1, g1)

  byte-eight7 : byte_at 7 (eight a b c d e f g h) ≡ h
  byte-eight7 = omega (arith, a1, b1, c1, d1, e1, f1, g1, h1)

  pub small-eight : eight a b c d e f g h < 256 ^ 8
  small-eight = omega (arith, a1, b1, c1, d1, e1, f1, g1, h1)

-- a byte of the number that bytes are
pub number-byte : (bs : List ℕ) → ((i : ℕ) → slice_index bs i < 256) → (k : ℕ) → k < 8 → byte_at k (from_le_bytes w64 bs) ≡ slice_index bs k
number-byte bs all zero below = byte-eight0 _ _ _ _ _ _ _ _ (all 0) (all 1) (all 2) (all 3) (all 4) (all 5) (all 6) (all 7)
number-byte bs all (suc zero) below = byte-eight1 _ _ _ _ _ _ _ _ (all 0) (all 1) (all 2) (all 3) (all 4) (all 5) (all 6) (all 7)
number-byte bs all (suc (suc zero)) below = byte-eight2 _ _ _ _ _ _ _ _ (all 0) (all 1) (all 2) (all 3) (all 4) (all 5) (all 6) (all 7)
number-byte bs all (suc (suc (suc zero))) below = byte-eight3 _ _ _ _ _ _ _ _ (all 0) (all 1) (all 2) (all 3) (all 4) (all 5) (all 6) (all 7)
number-byte bs all (suc (suc (suc (suc zero)))) below = byte-eight4 _ _ _ _ _ _ _ _ (all 0) (all 1) (all 2) (all 3) (all 4) (all 5) (all 6) (all 7)
number-byte bs all (suc (suc (suc (suc (suc zero))))) below = byte-eight5 _ _ _ _ _ _ _ _ (all 0) (all 1) (all 2) (all 3) (all 4) (all 5) (all 6) (all 7)
number-byte bs all (suc (suc (suc (suc (suc (suc zero)))))) below = byte-eight6 _ _ _ _ _ _ _ _ (all 0) (all 1) (all 2) (all 3) (all 4) (all 5) (all 6) (all 7)
number-byte bs all (suc (suc (suc (suc (suc (suc (suc zero))))))) below = byte-eight7 _ _ _ _ _ _ _ _ (all 0) (all 1) (all 2) (all 3) (all 4) (all 5) (all 6) (all 7)
number-byte bs all (suc (suc (suc (suc (suc (suc (suc (suc k)))))))) below = absurd (omega (arith, below))

-- it has no more bytes than they are
past-end : (bs : List ℕ) (n i : ℕ) → length bs ≤ n → n ≤ i → slice_index bs i ≡ 0
past-end bs n i within far = get_or_past bs i 0 (omega (arith, within, far))

pub number-small : (size : ℕ) (bs : List ℕ) → IsElementSize size → length bs ≤ size → ((i : ℕ) → slice_index bs i < 256) → from_le_bytes w64 bs < 256 ^ size
number-small size bs (inl is) within all =
    let none : (i : ℕ) → 1 ≤ i → slice_index bs i ≡ 0 = λ i far. past-end bs 1 i (omega (arith, within, is)) far in
    subst (λ k. from_le_bytes w64 bs < 256 ^ k) (sym is)
    (omega (arith, all 0, none 1 (omega arith), none 2 (omega arith), none 3 (omega arith), none 4 (omega arith), none 5 (omega arith), none 6 (omega arith), none 7 (omega arith)))
number-small size bs (inr (inl is)) within all =
    let none : (i : ℕ) → 2 ≤ i → slice_index bs i ≡ 0 = λ i far. past-end bs 2 i (omega (arith, within, is)) far in
    subst (λ k. from_le_bytes w64 bs < 256 ^ k) (sym is)
    (omega (arith, all 0, all 1, none 2 (omega arith), none 3 (omega arith), none 4 (omega arith), none 5 (omega arith), none 6 (omega arith), none 7 (omega arith)))
number-small size bs (inr (inr (inl is))) within all =
    let none : (i : ℕ) → 4 ≤ i → slice_index bs i ≡ 0 = λ i far. past-end bs 4 i (omega (arith, within, is)) far in
    subst (λ k. from_le_bytes w64 bs < 256 ^ k) (sym is)
    (omega (arith, all 0, all 1, all 2, all 3, none 4 (omega arith), none 5 (omega arith), none 6 (omega arith), none 7 (omega arith)))
number-small size bs (inr (inr (inr is))) within all =
    subst (λ k. from_le_bytes w64 bs < 256 ^ k) (sym is)
    (small-eight _ _ _ _ _ _ _ _ (all 0) (all 1) (all 2) (all 3) (all 4) (all 5) (all 6) (all 7))
