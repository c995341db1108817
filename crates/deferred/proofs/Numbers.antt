-- Numbers that are compared, and tickets in a list.
use Rattle.std.proofs.Common.{◌≡◌, ◌∙◌, ℕ, ◌==◌, nat_eq, ◌||◌, Bool, true, false, not, cond, List, [], ◌∷◌, ◌++◌, filter, refl, ap, sym, subst, arith, ◌<◌, length, get_or, drop}
use Rattle.std.proofs.lemmas.Bool.{or_parts}
use Rattle.std.proofs.lemmas.Bool.Decides.{nat_tests}
use Rattle.std.proofs.lemmas.List.Folds.{list_any-append}
use Rattle.napi_types.specs.plain.Lists.{has_number}
use Rattle.napi_types.proofs.plain.Found.{same-self, same-tells, turned, equal-tests}
use Rattle.deferred.specs.PromiseRows.{NoneTwice}

-- COMPARED
pub apart-from : (m n : ℕ) → nat_eq m n ≡ false → (n == m) ≡ false
apart-from m n apart = equal-tests n m ∙ apart

-- TICKETS IN A LIST
-- one that is not in the list is not taken out of it
pub without-absent : (n : ℕ) (ns : List ℕ) → has_number n ns ≡ false → filter (λ m. not (m == n)) ns ≡ ns
without-absent n [] absent = refl
without-absent n (k ∷ ns) absent =
    let apart = or_parts (k == n) (has_number n ns) absent in
    ap (λ b. cond (not b) (k ∷ filter (λ m. not (m == n)) ns) (filter (λ m. not (m == n)) ns)) apart.0 ∙ ap (λ ms. k ∷ ms) (without-absent n ns apart.1)

-- what is in the list without one
pub has-without : (k n : ℕ) (ns : List ℕ) → has_number k (filter (λ m. not (m == n)) ns) ≡ cond (k == n) false (has_number k ns)
has-without k n [] = by (k == n)
  where
    by : (b : Bool) → false ≡ cond b false false
    by true = refl
    by false = refl
has-without k n (m ∷ ns) = by (m == n) (m == k) (k == n) refl refl refl (has-without k n ns)
  where
    rest : List ℕ
    rest = filter (λ i. not (i == n)) ns

    by : (a b c : Bool) → (m == n) ≡ a → (m == k) ≡ b → (k == n) ≡ c → has_number k rest ≡ cond c false (has_number k ns)
        → has_number k (cond (not a) (m ∷ rest) rest) ≡ cond c false (b || has_number k ns)
    by true true true at here it more = more
    by true true false at here it more = let no : ⊥ = grind (arith, nat_tests) in absurd no
    by true false c at here it more = more
    by false true true at here it more = let no : ⊥ = grind (arith, nat_tests) in absurd no
    by false true false at here it more = ap (λ d. d || has_number k rest) here
    by false false c at here it more = ap (λ d. d || has_number k rest) here ∙ more

-- a list in which none is twice keeps so
pub once-without : (n : ℕ) (ns : List ℕ) → NoneTwice ns → NoneTwice (filter (λ m. not (m == n)) ns)
once-without n [] once = tt
once-without n (m ∷ ns) once = by (m == n) (once-without n ns once.1)
  where
    absent : (b : Bool) → has_number m (filter (λ i. not (i == n)) ns) ≡ cond b false (has_number m ns) → has_number m (filter (λ i. not (i == n)) ns) ≡ false
    absent true is = is
    absent false is = is ∙ once.0

    by : (b : Bool) → NoneTwice (filter (λ i. not (i == n)) ns) → NoneTwice (cond (not b) (m ∷ filter (λ i. not (i == n)) ns) (filter (λ i. not (i == n)) ns))
    by true rest = rest
    by false rest = (absent (m == n) (has-without m n ns), rest)

-- the first is taken out
pub without-first : (n : ℕ) (ns : List ℕ) → NoneTwice (n ∷ ns) → filter (λ m. not (m == n)) (n ∷ ns) ≡ ns
without-first n ns once =
    ap (λ b. cond (not b) (n ∷ filter (λ m. not (m == n)) ns) (filter (λ m. not (m == n)) ns)) (same-self n) ∙ without-absent n ns once.0

-- one is added behind the others
pub has-behind : (k n : ℕ) (ns : List ℕ) → has_number k (ns ++ n ∷ []) ≡ (has_number k ns || (n == k))
has-behind k n ns = list_any-append (λ m. m == k) ns (n ∷ []) ∙ ap (λ b. has_number k ns || b) (last (n == k))
  where
    last : (b : Bool) → (b || false) ≡ b
    last true = refl
    last false = refl

pub once-behind : (n : ℕ) (ns : List ℕ) → NoneTwice ns → has_number n ns ≡ false → NoneTwice (ns ++ n ∷ [])
once-behind n [] once absent = (refl, tt)
once-behind n (m ∷ ns) once absent =
    let apart = or_parts (m == n) (has_number n ns) absent in
    (has-behind m n ns ∙ ap (λ b. b || (n == m)) once.0 ∙ turned n m ∙ apart.0, once-behind n ns once.1 apart.1)

pub first-out : (n : ℕ) (ns rest : List ℕ) → ns ≡ n ∷ rest → NoneTwice ns → filter (λ m. not (m == n)) ns ≡ rest
first-out n ns rest is once = ap (filter (λ m. not (m == n))) is ∙ without-first n rest (subst NoneTwice is once)

-- the first of a list
pub first-is : (ns : List ℕ) (x n : ℕ) → 0 < length ns → x ≡ get_or ns 0 x → (x == n) ≡ true → ns ≡ n ∷ drop 1 ns
first-is [] x n some here is = absurd (omega (arith, some))
first-is (m ∷ ns) x n some here is = ap (λ k. k ∷ ns) (sym here ∙ same-tells x n is)
