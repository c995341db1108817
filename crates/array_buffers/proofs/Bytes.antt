-- The bytes of an element: as a number, and overwritten.
use Rattle.std.proofs.Common.{◌≡◌, ◌∙◌, ℕ, zero, suc, ◌+◌, ◌*◌, ◌%◌, ◌^◌, ◌<◌, ◌≤◌, nat_lt, Bool, true, false, cond, List, [], ◌∷◌, ◌++◌, length, take, drop, replicate, Some, None, option_map, slice_index, inl, inr, refl, ap, sym, subst, arith}
use Rattle.std.specs.Int.{w64, from_le_bytes, byte_worth, bytes_low_first, sum_through}
use Rattle.std.proofs.lemmas.List.{get_or_append_left, get_or-append_right, get_or-drop, take_at, drop_at, length-append, length-drop}
use Rattle.std.proofs.lemmas.Bool.{ltb-true, cases_lt}
use Rattle.std.proofs.lemmas.Nat.{from_le_bytes-to_le_bytes_8}
use Rattle.std.proofs.Math.Seq.{length-take-le}
use Rattle.napi_types.specs.declared.view.ViewInfo.{ViewInfo}
use Rattle.napi_types.proofs.parts.PlacedBytes.{how-many, length-over}
use Rattle.napi_types.specs.parts.Buffers.{IsElementSize, element_start, view_end, element_in, overwritten, with_element_in}

-- PADDED WITH ZEROS
sum_through-same : (f g : ℕ → ℕ) → ((i : ℕ) → f i ≡ g i) → (k : ℕ) → sum_through f k ≡ sum_through g k
sum_through-same f g same zero = same 0
sum_through-same f g same (suc k) = ap (λ n. n + f (suc k)) (sum_through-same f g same k) ∙ ap (λ n. sum_through g k + n) (same (suc k))

past : (xs : List ℕ) (i : ℕ) → length xs ≤ i → slice_index xs i ≡ 0
past [] i far = refl
past (x ∷ xs) zero far = absurd (omega (arith, far))
past (x ∷ xs) (suc i) far = past xs i (omega (arith, far))

index-padded : (bs zs : List ℕ) → ((i : ℕ) → slice_index zs i ≡ 0) → (i : ℕ) → slice_index (bs ++ zs) i ≡ slice_index bs i
index-padded bs zs zeros i =
    elim (cases_lt i (length bs)) [
      | inl within ↦ get_or_append_left bs zs 0 i within
      | inr far ↦ get_or-append_right bs zs (length bs) i 0 refl far ∙ zeros _ ∙ sym (past bs i far)
    ]

pub number-padded : (bs zs : List ℕ) → ((i : ℕ) → slice_index zs i ≡ 0) → from_le_bytes w64 (bs ++ zs) ≡ from_le_bytes w64 bs
number-padded bs zs zeros =
    sum_through-same (λ i. byte_worth i (slice_index (bs ++ zs) i)) (λ i. byte_worth i (slice_index bs i)) (λ i. ap (byte_worth i) (index-padded bs zs zeros i)) 7

zeros-at : (k i : ℕ) → slice_index (replicate k 0) i ≡ 0
zeros-at zero i = refl
zeros-at (suc k) zero = refl
zeros-at (suc k) (suc i) = zeros-at k i

pub eight-zeros : (n i : ℕ) → slice_index (drop n (replicate 8 0)) i ≡ 0
eight-zeros n i = get_or-drop n (replicate 8 0) i 0 ∙ zeros-at 8 (n + i)

-- AS MANY BYTES AS AN ELEMENT HAS
kept-one : (n : ℕ) → from_le_bytes w64 (bytes_low_first 0 1 n) ≡ n % 256
kept-one n = omega arith

kept-two : (n : ℕ) → from_le_bytes w64 (bytes_low_first 0 2 n) ≡ n % 65536
kept-two n = omega arith

kept-four : (n : ℕ) → from_le_bytes w64 (bytes_low_first 0 4 n) ≡ n % 4294967296
kept-four n = omega arith

kept-eight : (n : ℕ) → n < 2 ^ 64 → from_le_bytes w64 (bytes_low_first 0 8 n) ≡ n % 18446744073709551616
kept-eight n small = from_le_bytes-to_le_bytes_8 n small ∙ omega (arith, small)

kept : (size n : ℕ) → IsElementSize size → n < 2 ^ 64 → from_le_bytes w64 (bytes_low_first 0 size n) ≡ n % 2 ^ (8 * size)
kept size n (inl is) small = subst (λ k. from_le_bytes w64 (bytes_low_first 0 k n) ≡ n % 2 ^ (8 * k)) (sym is) (kept-one n)
kept size n (inr (inl is)) small = subst (λ k. from_le_bytes w64 (bytes_low_first 0 k n) ≡ n % 2 ^ (8 * k)) (sym is) (kept-two n)
kept size n (inr (inr (inl is))) small = subst (λ k. from_le_bytes w64 (bytes_low_first 0 k n) ≡ n % 2 ^ (8 * k)) (sym is) (kept-four n)
kept size n (inr (inr (inr is))) small = subst (λ k. from_le_bytes w64 (bytes_low_first 0 k n) ≡ n % 2 ^ (8 * k)) (sym is) (kept-eight n small)

-- OVERWRITTEN
read-overwritten : (start : ℕ) (new bytes : List ℕ) → start ≤ length bytes → take (length new) (drop start (overwritten start new bytes)) ≡ new
read-overwritten start new bytes within =
    ap (take (length new)) (drop_at (take start bytes) (new ++ drop (start + length new) bytes) start (length-take-le start bytes within))
    ∙ take_at new (drop (start + length new) bytes) (length new) refl

-- the end of an element is within its view
pub end-within : (about : ViewInfo) (at : ℕ) → at < about.length → element_start about at + about.size ≤ view_end about
end-within about at below = grind arith

pub length-written : (about : ViewInfo) (at n : ℕ) (bytes : List ℕ) → view_end about ≤ length bytes → length (with_element_in about at n bytes) ≡ length bytes
length-written about at n bytes within = by (nat_lt at about.length) refl
  where
    by : (c : Bool) → nat_lt at about.length ≡ c → length (cond c (overwritten (element_start about at) (bytes_low_first 0 about.size n) bytes) bytes) ≡ length bytes
    by true is =
        length-over (element_start about at) (bytes_low_first 0 about.size n) bytes
        (omega (arith, how-many 0 about.size n, end-within about at (ltb-true at about.length is), within))
    by false is = refl

pub read-written : (about : ViewInfo) (at n : ℕ) (bytes : List ℕ) → IsElementSize about.size → n < 2 ^ 64 → view_end about ≤ length bytes
    → element_in about at (with_element_in about at n bytes) ≡ option_map (λ m. n % 2 ^ (8 * about.size)) (element_in about at bytes)
read-written about at n bytes size small within = by (nat_lt at about.length) refl
  where
    new : List ℕ
    new = bytes_low_first 0 about.size n

    by : (c : Bool) → nat_lt at about.length ≡ c
        → cond c (Some (from_le_bytes w64 (take about.size (drop (element_start about at) (cond c (overwritten (element_start about at) new bytes) bytes))))) None
        ≡ option_map (λ m. n % 2 ^ (8 * about.size)) (cond c (Some (from_le_bytes w64 (take about.size (drop (element_start about at) bytes)))) None)
    by true is =
        ap (λ k. Some (from_le_bytes w64 (take k (drop (element_start about at) (overwritten (element_start about at) new bytes))))) (sym (how-many 0 about.size n))
        ∙ ap (λ bs. Some (from_le_bytes w64 bs)) (read-overwritten (element_start about at) new bytes (omega (arith, end-within about at (ltb-true at about.length is), within)))
        ∙ ap Some (kept about.size n size small)
    by false is = refl
