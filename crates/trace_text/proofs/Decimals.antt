-- The decimal text of the next number.
use Rattle.std.proofs.Common.{◌≡◌, ℕ, zero, suc, ◌+◌, ◌-◌, ◌/◌, ◌%◌, ◌^◌, ◌<◌, ◌≤◌, List, [], ◌∷◌, ◌++◌, length, get_or, take, set, decimal, refl, ap, sym, ◌∙◌, arith, length-append, ◌⊎◌, inl, inr}
use Rattle.std.proofs.Math.Seq.{take-append-add}
use Rattle.trace_text.specs.Writing.{Waiting}
use Rattle.std.proofs.lemmas.Fmt.{decimal_digit, decimal_step, decimal_nonempty}
use Rattle.std.proofs.lemmas.Bool.{cases_lt}
use Rattle.std.proofs.lemmas.List.{take_more, take_more_set}

-- lists with a last element are equal in front of it and in it
last-same : (xs ys : List ℕ) (a b : ℕ) → xs ++ (a ∷ []) ≡ ys ++ (b ∷ []) → (xs ≡ ys) × (a ≡ b)
last-same [] [] a b e = (refl, cc)
last-same [] (y ∷ ys) a b e = let long = ap length e in absurd (omega (arith, length-append ys (b ∷ [])))
last-same (x ∷ xs) [] a b e = let long = ap length e in absurd (omega (arith, length-append xs (a ∷ [])))
last-same (x ∷ xs) (y ∷ ys) a b e =
    let head : x ≡ y = cc in
    let tail : xs ++ (a ∷ []) ≡ ys ++ (b ∷ []) = cc in
    let rest = last-same xs ys a b tail in
    (ap (λ z. z ∷ xs) head ∙ ap (λ zs. y ∷ zs) rest.0, rest.1)

-- a number's last digit, and what stands before it
next-of : (n : ℕ) (prefix : List ℕ) (b : ℕ) → n + 1 < 2 ^ 64 → prefix ++ (b ∷ []) ≡ decimal n → b < 57 →
    (n < 10) ⊎ (10 ≤ n) → prefix ++ ((b + 1) ∷ []) ≡ decimal (n + 1)
next-of n prefix b small same low (inl one) =
    let parts = last-same prefix [] b (48 + n) (same ∙ decimal_digit n one) in
    let digit = parts.1 in
    ap (λ xs. xs ++ ((b + 1) ∷ [])) parts.0 ∙ ap (λ d. d ∷ []) (let e : b + 1 ≡ 48 + (n + 1) = omega arith in e) ∙
    sym (decimal_digit (n + 1) (omega arith))
next-of n prefix b small same low (inr more) =
    let parts = last-same prefix (decimal (n / 10)) b (48 + n % 10) (same ∙ decimal_step n more (omega arith)) in
    let digit = parts.1 in
    let tens : n / 10 ≡ (n + 1) / 10 = omega arith in
    let last : b + 1 ≡ 48 + (n + 1) % 10 = omega arith in
    ap (λ xs. xs ++ ((b + 1) ∷ [])) (parts.0 ∙ ap decimal tens) ∙ ap (λ d. decimal ((n + 1) / 10) ++ (d ∷ [])) last ∙
    sym (decimal_step (n + 1) (omega arith) small)

-- a number has digits
pub some-digits : (n count : ℕ) (digits : List ℕ) → n < 2 ^ 64 → take count digits ≡ decimal n → 1 ≤ count
some-digits n zero digits small same = let none = ap length same in omega (arith, decimal_nonempty n small)
some-digits n (suc c) digits small same = omega arith

-- where the last digit is no nine, it alone rises
pub last-rises : (n count : ℕ) (digits : List ℕ) → n + 1 < 2 ^ 64 → count ≤ length digits → take count digits ≡ decimal n →
    get_or digits (count - 1) 0 < 57 →
    take count (set digits (count - 1) (get_or digits (count - 1) 0 + 1)) ≡ decimal (n + 1)
last-rises n count digits small within same low =
    let some = some-digits n count digits (omega arith) same in
    let up : count ≡ count - 1 + 1 = omega arith in
    let prefix : take (count - 1) digits ++ (get_or digits (count - 1) 0 ∷ []) ≡ decimal n =
    sym (take_more digits (count - 1) 0 (omega arith)) ∙ ap (λ k. take k digits) (sym up) ∙ same in
    ap (λ k. take k (set digits (count - 1) (get_or digits (count - 1) 0 + 1))) up ∙
    take_more_set digits (count - 1) (get_or digits (count - 1) 0 + 1) (omega arith) ∙
    next-of n (take (count - 1) digits) (get_or digits (count - 1) 0) small prefix low (cases_lt n 10)

-- of bytes that wait behind others only the digits of a number are kept
pub digits-kept : (old mid new : Waiting) (digits : List ℕ) (end n : ℕ) → mid ≡ record old { bytes = old.bytes ++ digits } →
    new ≡ record mid { bytes = take end mid.bytes } → end ≡ length old.bytes + length (decimal n) →
    take (length (decimal n)) digits ≡ decimal n → new ≡ record old { bytes = old.bytes ++ decimal n }
digits-kept old mid new digits end n held kept ends same =
    let cut : take end (old.bytes ++ digits) ≡ old.bytes ++ decimal n =
    ap (λ k. take k (old.bytes ++ digits)) ends ∙ take-append-add old.bytes digits (length (decimal n)) ∙ ap (λ ys. old.bytes ++ ys) same in
    kept ∙ ap (λ (w : Waiting). record w { bytes = take end w.bytes }) held ∙
    ap (λ xs. record old { bytes = xs }) cut
