-- The tickets of a heap, the lowest of which is at its top.
use Rattle.std.proofs.Common.{◌≡◌, ℕ, ◌+◌, ◌≤◌, ◌==◌, Bool, true, false, cond, List, [], ◌∷◌, count_by, refl, arith, IsPermutation, nat_cmp}
use Rattle.std.proofs.HeapSift.{at_most}
use Rattle.std.proofs.lemmas.Bool.Decides.{nat_tests}
use Rattle.std.proofs.lemmas.List.Sums.{sum_by-cons}
use Rattle.std.proofs.lemmas.List.Sorted.{sum_by-IsPermutation}
use Rattle.std.specs.BinaryHeap.{IsUpperBound}
use Rattle.std.specs.declared.cmp.Reverse.{Reverse}

-- how often a ticket is in a heap
abbrev pub times_in_heap : ℕ → List (Reverse ℕ) → ℕ
times_in_heap n ts = count_by (λ t. t.0 == n) ts

pub times-moved : (n : ℕ) (ts us : List (Reverse ℕ)) → IsPermutation ts us → times_in_heap n us ≡ times_in_heap n ts
times-moved n ts us moved = sum_by-IsPermutation (λ (t : Reverse ℕ). cond (t.0 == n) 1 0) ts us moved

pub times-more : (n : ℕ) (t : Reverse ℕ) (ts : List (Reverse ℕ)) → times_in_heap n (t ∷ ts) ≡ cond (t.0 == n) 1 0 + times_in_heap n ts
times-more n t ts = sum_by-cons (λ (u : Reverse ℕ). cond (u.0 == n) 1 0) t ts

-- one that all the others are not below is not above any that is there
pub bound-times : (x : Reverse ℕ) (ts : List (Reverse ℕ)) (n : ℕ) → IsUpperBound (λ (a b : Reverse ℕ). nat_cmp b.0 a.0) x ts → 1 ≤ times_in_heap n ts → x.0 ≤ n
bound-times x [] n bound some = absurd (omega (arith, some))
bound-times x (t ∷ ts) n bound some = by (t.0 == n) refl (omega (arith, some, times-more n t ts)) (bound-times x ts n bound.1)
  where
    by : (b : Bool) → (t.0 == n) ≡ b → 1 ≤ cond b 1 0 + times_in_heap n ts → (1 ≤ times_in_heap n ts → x.0 ≤ n) → x.0 ≤ n
    by true here some rest = let same : t.0 ≡ n = grind (arith, nat_tests, here) in omega (arith, at_most t.0 x.0 bound.0, same)
    by false here some rest = rest (omega (arith, some))
