-- Lists that have no more of anything than others have, and numbers that were issued.
use Rattle.std.proofs.Common.{◌≡◌, ◌<◌, ◌≤◌, arith, ℕ, ◌+◌, ◌==◌, nat_eq, Bool, true, false, cond, List, [], ◌∷◌, map, refl, sym, ◌∙◌, ap, subst, inl, inr}
use Rattle.std.specs.List.{All, AllByRecursion, IsDistinct, count_by}
use Rattle.std.proofs.lemmas.Bool.{eqb-true, eq-eqb, ne_eqb, cases_lt, cases_eq, true≢false}
use Rattle.std.proofs.lemmas.List.Elements.{All-nil, All-cons, All-head, All-tail, All-from_recursion, recursion_from_All}
use Rattle.std.proofs.lemmas.List.Sums.{sum_by-cons}
use Rattle.std.proofs.lemmas.Map.Keys.{IsDistinct-head, IsDistinct-tail, IsDistinct-cons}
use Rattle.machine_laws.specs.Consistency.{AreIssued}
use Rattle.napi_types.proofs.plain.Tallies.{tally-map}

-- COUNTS
-- the first list has no more of anything than the other two together
abbrev pub Within : {A : Type 0} → List A → List A → List A → Type 0
Within {A} xs ys zs = (p : A → Bool) → count_by p xs ≤ count_by p ys + count_by p zs

pub count-cons : {A : Type 0} (p : A → Bool) (x : A) (xs : List A) → count_by p (x ∷ xs) ≡ cond (p x) 1 0 + count_by p xs
count-cons p x xs = sum_by-cons (λ x. cond (p x) 1 0) x xs

pub within-map : {A B : Type 0} (f : A → B) (xs ys zs : List A) → Within xs ys zs → Within (map f xs) (map f ys) (map f zs)
within-map f xs ys zs w p = omega (arith, tally-map p f xs, tally-map p f ys, tally-map p f zs, w (λ x. p (f x)))

-- NUMBERS
abbrev pub one_when : Bool → ℕ
one_when b = cond b 1 0

-- how many times a number stands in a list
abbrev pub times : ℕ → List ℕ → ℕ
times n ns = count_by (λ m. m == n) ns

-- what holds of all numbers of a list holds of each that it has, and the other way round
times-in : (P : ℕ → Type 0) (n : ℕ) (ns : List ℕ) → All P ns → 0 < times n ns → P n
times-in P n [] all h = absurd (omega (arith, h))
times-in P n (m ∷ ns) all h = here (m == n) refl (times-in P n ns (All-tail P m ns all))
  where
    here : (b : Bool) → (m == n) ≡ b → (0 < times n ns → P n) → P n
    here true e later = subst P (eqb-true m n e) (All-head P m ns all)
    here false e later = later (omega (arith, h, count-cons (λ k. k == n) m ns, ap one_when e))

all-in : (P : ℕ → Type 0) (ns : List ℕ) → ((n : ℕ) → 0 < times n ns → P n) → All P ns
all-in P [] f = All-nil P
all-in P (m ∷ ns) f =
    All-cons P m ns (f m (omega (arith, count-cons (λ k. k == m) m ns, ap one_when (eq-eqb m m refl))))
    (all-in P ns (λ n h. f n (omega (arith, h, count-cons (λ k. k == n) m ns))))

pub within-all : (P : ℕ → Type 0) (ms ns ks : List ℕ) → Within ms ns ks → All P ns → All P ks → All P ms
within-all P ms ns ks w all more = all-in P ms from
  where
    from : (n : ℕ) → 0 < times n ms → P n
    from n h =
        elim (cases_lt 0 (times n ns)) [
          | inl some ↦ times-in P n ns all some
          | inr none ↦ times-in P n ks more (omega (arith, h, none, w (λ m. m == n)))
        ]

-- no number stands twice where each stands at most once
pub distinct-times : (n : ℕ) (ns : List ℕ) → IsDistinct nat_eq ns → times n ns ≤ 1
distinct-times n [] d = omega arith
distinct-times n (m ∷ ns) d = here (m == n) refl (distinct-times n ns (IsDistinct-tail nat_eq m ns d))
  where
    others : AllByRecursion (λ k. nat_eq m k ≡ false) ns → (m == n) ≡ true → times n ns ≡ 0
    others apart e =
        elim (cases_lt 0 (times n ns)) [
          | inl some ↦ absurd (true≢false (sym e ∙ times-in (λ k. nat_eq m k ≡ false) n ns (All-from_recursion (λ k. nat_eq m k ≡ false) ns apart) some))
          | inr none ↦ omega (arith, none)
        ]

    here : (b : Bool) → (m == n) ≡ b → times n ns ≤ 1 → times n (m ∷ ns) ≤ 1
    here true e later = omega (arith, count-cons (λ k. k == n) m ns, ap one_when e, others (IsDistinct-head nat_eq m ns d) e)
    here false e later = omega (arith, later, count-cons (λ k. k == n) m ns, ap one_when e)

distinct-none : IsDistinct nat_eq []
unfolding IsDistinct
distinct-none = tt

pub distinct-from : (ns : List ℕ) → ((n : ℕ) → times n ns ≤ 1) → IsDistinct nat_eq ns
distinct-from [] h = distinct-none
distinct-from (m ∷ ns) h =
    let P : ℕ → Type 0 = λ k. nat_eq m k ≡ false in
    IsDistinct-cons nat_eq m ns (recursion_from_All P ns (all-in P ns (λ n some. ne_eqb m n (other n some)))) (distinct-from ns later)
  where
    other : (n : ℕ) → 0 < times n ns → m ≡ n → ⊥
    other n some same = omega (arith, some, h n, count-cons (λ k. k == n) m ns, ap one_when (eq-eqb m n same))

    later : (n : ℕ) → times n ns ≤ 1
    later n = omega (arith, h n, count-cons (λ k. k == n) m ns)

-- ISSUED NUMBERS
-- none at first
pub none-issued : (last : ℕ) → AreIssued last []
none-issued last = record { apart = distinct-none; within = All-nil (λ n. (0 < n) × (n ≤ last)) }

-- fewer of them were issued too, ..
pub issued-fewer : (last : ℕ) (ms ns : List ℕ) → Within ms ns [] → AreIssued last ns → AreIssued last ms
issued-fewer last ms ns w a =
    let P : ℕ → Type 0 = λ n. (0 < n) × (n ≤ last) in
    record {
      apart = distinct-from ms (λ n. omega (arith, w (λ m. m == n), distinct-times n ns a.apart));
      within = within-all P ms ns [] w a.within (All-nil P);
    }

-- .. and so was the next one
pub issued-next : (last : ℕ) (ms ns : List ℕ) → Within ms ns ((last + 1) ∷ []) → AreIssued last ns → AreIssued (last + 1) ms
issued-next last ms ns w a =
    let P : ℕ → Type 0 = λ n. (0 < n) × (n ≤ last + 1) in
    record {
      apart = distinct-from ms at-most;
      within = within-all P ms ns ((last + 1) ∷ []) w (wider ns a.within) (All-cons P (last + 1) [] (omega arith, omega arith) (All-nil P));
    }
  where
    wider : (ks : List ℕ) → All (λ n. (0 < n) × (n ≤ last)) ks → All (λ n. (0 < n) × (n ≤ last + 1)) ks
    wider ks all = all-in (λ n. (0 < n) × (n ≤ last + 1)) ks (λ n h. let r = times-in (λ n. (0 < n) × (n ≤ last)) n ks all h in (r.0, omega (arith, r.1)))

    none-yet : (n : ℕ) → last + 1 ≡ n → times n ns ≡ 0
    none-yet n same =
        elim (cases_lt 0 (times n ns)) [
          | inl some ↦ let r = times-in (λ n. (0 < n) × (n ≤ last)) n ns a.within some in absurd (omega (arith, r.1, same))
          | inr none ↦ omega (arith, none)
        ]

    at-most : (n : ℕ) → times n ms ≤ 1
    at-most n =
        elim (cases_eq (last + 1) n) [
          | inl same ↦ omega (arith, w (λ m. m == n), count-cons (λ m. m == n) (last + 1) [], ap one_when (eq-eqb (last + 1) n same), none-yet n same)
          | inr other ↦
              let apart : times n ns ≤ 1 = distinct-times n ns a.apart in
              omega (arith, w (λ m. m == n), count-cons (λ m. m == n) (last + 1) [], ap one_when (ne_eqb (last + 1) n other), apart)
        ]
