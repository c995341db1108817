-- What roots reach: each root, all children of what is reached, and no more.
use Rattle.std.proofs.Common.{◌≡◌, ℕ, ◌+◌, ◌==◌, ◌<◌, ◌≤◌, arith, Bool, true, false, ◌&&◌, cond, List, [], ◌∷◌, ◌++◌, length, filter, flat_map, ◌⊎◌, inl, inr, refl, sym, ◌∙◌, ap}
use Rattle.std.proofs.Math.Bool.{and-true}
use Rattle.std.proofs.lemmas.Bool.{eqb-true, eq-eqb, or_cases, or_left, or_right, and_parts, and_from}
use Rattle.std.proofs.lemmas.List.Folds.{list_any-append}
use Rattle.std.proofs.lemmas.List.Sums.{length-filter, count_by-le-length}
use Rattle.std.proofs.lemmas.List.{length-map}
use Rattle.std.proofs.lemmas.Map.Views.{any-filter_same}
use Rattle.napi_types.specs.plain.Lists.{has_number, HaveSameNumbers}
use Rattle.napi_types.specs.parts.Reach.{numbers, among, children_at, spread, spread_for, reach_from}
use Rattle.napi_types.specs.parts.Values.{Value, those_of}

-- LISTS
-- a number is among those that pass a test where it is one of them and passes
pub has_number-filter : (n : ℕ) (p : ℕ → Bool) (ns : List ℕ) → has_number n (filter p ns) ≡ (p n && has_number n ns)
has_number-filter n p ns = any-filter_same (λ m. m == n) p (p n) (λ m same. ap p (eqb-true m n same)) ns

-- the children of one of these are among the children of all
in_flat_map : (f : ℕ → List ℕ) (n m : ℕ) (ns : List ℕ) → has_number n ns ≡ true → has_number m (f n) ≡ true → has_number m (flat_map f ns) ≡ true
in_flat_map f n m [] h k = cc
in_flat_map f n m (x ∷ xs) h k =
    elim (or_cases (x == n) (has_number n xs) h) [
      | inl same ↦
          let here : has_number m (f x) ≡ true = ap (λ y. has_number m (f y)) (eqb-true x n same) ∙ k in
          list_any-append (λ y. y == m) (f x) (flat_map f xs) ∙ or_left (has_number m (f x)) (has_number m (flat_map f xs)) here
      | inr later ↦
          list_any-append (λ y. y == m) (f x) (flat_map f xs) ∙ or_right (has_number m (f x)) (has_number m (flat_map f xs)) (in_flat_map f n m xs later k)
    ]

-- a child of all is a child of one of these
from_flat_map : (f : ℕ → List ℕ) (m : ℕ) (ns : List ℕ) → has_number m (flat_map f ns) ≡ true → (n : ℕ) × (has_number n ns ≡ true) × (has_number m (f n) ≡ true)
from_flat_map f m [] h = cc
from_flat_map f m (x ∷ xs) h =
    elim (or_cases (has_number m (f x)) (has_number m (flat_map f xs)) (sym (list_any-append (λ y. y == m) (f x) (flat_map f xs)) ∙ h)) [
      | inl here ↦ (x, or_left (x == x) (has_number x xs) (eq-eqb x x refl), here)
      | inr later ↦ let r = from_flat_map f m xs later in (r.0, or_right (x == r.0) (has_number r.0 xs) r.1, r.2)
    ]

-- two tests that agree on these numbers keep the same ones
filter_agree : (p q : ℕ → Bool) (ns : List ℕ) → ((n : ℕ) → has_number n ns ≡ true → p n ≡ q n) → filter p ns ≡ filter q ns
filter_agree p q [] agree = refl
filter_agree p q (x ∷ xs) agree =
    let rest : filter p xs ≡ filter q xs = filter_agree p q xs (λ y h. agree y (or_right (x == y) (has_number y xs) h)) in
    ap (λ b. cond b (x ∷ filter p xs) (filter p xs)) (agree x (or_left (x == x) (has_number x xs) (eq-eqb x x refl)))
    ∙ ap (λ ys. cond (q x) (x ∷ ys) ys) rest

-- what is reached depends on which numbers are the roots, and not on their order
pub reach_from-same : (vs : List Value) (ms ns : List ℕ) → HaveSameNumbers ms ns → reach_from vs ms ≡ reach_from vs ns
reach_from-same vs ms ns same = ap (spread_for vs vs) (filter_agree (λ n. has_number n ms) (λ n. has_number n ns) (numbers vs) (λ n _. same n))

-- those that pass are those that are among those that pass
filter-filter : (p : ℕ → Bool) (ns : List ℕ) → filter (λ n. has_number n (filter p ns)) ns ≡ filter p ns
filter-filter p ns = filter_agree (λ n. has_number n (filter p ns)) p ns (λ n h. has_number-filter n p ns ∙ ap (λ b. p n && b) h ∙ and-true (p n))

-- one number more, kept by two tests
kept_more : (x : ℕ) (b c : Bool) (ps qs : List ℕ) → (b ≡ true → c ≡ true) → (ps ≡ qs) ⊎ (length ps < length qs)
    → (cond b (x ∷ ps) ps ≡ cond c (x ∷ qs) qs) ⊎ (length (cond b (x ∷ ps) ps) < length (cond c (x ∷ qs) qs))
kept_more x true true ps qs k (inl e) = inl (ap (λ ys. x ∷ ys) e)
kept_more x true true ps qs k (inr shorter) = inr (omega arith)
kept_more x true false ps qs k r = let z : false ≡ true = k refl in cc
kept_more x false true ps qs k (inl e) = inr (omega (arith, ap length e))
kept_more x false true ps qs k (inr shorter) = inr (omega arith)
kept_more x false false ps qs k r = r

-- a weaker test keeps the same numbers or more
filter_weaker : (p q : ℕ → Bool) (ns : List ℕ) → ((n : ℕ) → p n ≡ true → q n ≡ true) → (filter p ns ≡ filter q ns) ⊎ (length (filter p ns) < length (filter q ns))
filter_weaker p q [] weaker = inl refl
filter_weaker p q (x ∷ xs) weaker = kept_more x (p x) (q x) (filter p xs) (filter q xs) (weaker x) (filter_weaker p q xs weaker)

-- the numbers of the values that a test on numbers keeps
numbers_more : (b : Bool) (v : Value) (vs : List Value) (ns : List ℕ) → numbers vs ≡ ns → numbers (cond b (v ∷ vs) vs) ≡ cond b (v.number ∷ ns) ns
numbers_more true v vs ns same = ap (λ ms. v.number ∷ ms) same
numbers_more false v vs ns same = same

pub numbers-filter : (p : ℕ → Bool) (vs : List Value) → numbers (filter (λ v. p v.number) vs) ≡ filter p (numbers vs)
numbers-filter p [] = refl
numbers-filter p (v ∷ vs) = numbers_more (p v.number) v (filter (λ (w : Value). p w.number) vs) (filter p (numbers vs)) (numbers-filter p vs)

-- ONE ROUND
-- a number is there after a round where a value has it and it was there, or is a child of what was there
has_number-among : (vs : List Value) (n : ℕ) (ns : List ℕ) → has_number n ns ≡ true → has_number n (numbers vs) ≡ true → has_number n (among vs ns) ≡ true
has_number-among vs n ns there value =
    has_number-filter n (λ m. has_number m ns) (numbers vs) ∙ and_from (has_number n ns) (has_number n (numbers vs)) there value

among-parts : (vs : List Value) (n : ℕ) (ns : List ℕ) → has_number n (among vs ns) ≡ true → (has_number n ns ≡ true) × (has_number n (numbers vs) ≡ true)
among-parts vs n ns h = and_parts (has_number n ns) (has_number n (numbers vs)) (sym (has_number-filter n (λ m. has_number m ns) (numbers vs)) ∙ h)

among-among : (vs : List Value) (ns : List ℕ) → among vs (among vs ns) ≡ among vs ns
among-among vs ns = filter-filter (λ n. has_number n ns) (numbers vs)

among-short : (vs : List Value) (ns : List ℕ) → length (among vs ns) ≤ length vs
among-short vs ns =
    omega (
      arith,
      length-filter (λ n. has_number n ns) (numbers vs),
      count_by-le-length (λ n. has_number n ns) (numbers vs),
      length-map vs (λ (v : Value). v.number),
    )

-- what is there, and its children
abbrev grown : List Value → List ℕ → List ℕ
grown vs there = there ++ flat_map (children_at vs) there

there-grown : (vs : List Value) (n : ℕ) (there : List ℕ) → has_number n there ≡ true → has_number n (grown vs there) ≡ true
there-grown vs n there h =
    list_any-append (λ m. m == n) there (flat_map (children_at vs) there) ∙ or_left (has_number n there) (has_number n (flat_map (children_at vs) there)) h

child-grown : (vs : List Value) (n m : ℕ) (there : List ℕ) → has_number n there ≡ true → has_number m (children_at vs n) ≡ true → has_number m (grown vs there) ≡ true
child-grown vs n m there h k =
    list_any-append (λ l. l == m) there (flat_map (children_at vs) there)
    ∙ or_right (has_number m there) (has_number m (flat_map (children_at vs) there)) (in_flat_map (children_at vs) n m there h k)

-- a round changes nothing, or adds
spread-more : (vs : List Value) (ns : List ℕ) → (spread vs (among vs ns) ≡ among vs ns) ⊎ (length (among vs ns) < length (spread vs (among vs ns)))
spread-more vs ns =
    let there : List ℕ = among vs ns in
    elim (filter_weaker (λ n. has_number n there) (λ n. has_number n (grown vs there)) (numbers vs) (λ n h. there-grown vs n there h)) [
      | inl e ↦ inl (sym e ∙ among-among vs ns)
      | inr shorter ↦ inr (omega (arith, ap length (among-among vs ns)))
    ]

-- ALL ROUNDS
-- what a round leaves as it is, all rounds do
spread_for-fixed : (rounds vs : List Value) (there : List ℕ) → spread vs there ≡ there → spread_for rounds vs there ≡ there
spread_for-fixed [] vs there fixed = refl
spread_for-fixed (round ∷ rounds) vs there fixed = ap (spread_for rounds vs) fixed ∙ spread_for-fixed rounds vs there fixed

-- where there are rounds enough for all values, one round more changes nothing
spread-spread_for : (rounds vs : List Value) (ns : List ℕ) → length vs ≤ length rounds + length (among vs ns)
    → spread vs (spread_for rounds vs (among vs ns)) ≡ spread_for rounds vs (among vs ns)
spread-spread_for [] vs ns enough =
    elim (spread-more vs ns) [
      | inl fixed ↦ fixed
      | inr shorter ↦ absurd (omega (arith, among-short vs (grown vs (among vs ns))))
    ]
spread-spread_for (round ∷ rounds) vs ns enough =
    elim (spread-more vs ns) [
      | inl fixed ↦
          let same : spread_for rounds vs (spread vs (among vs ns)) ≡ among vs ns = spread_for-fixed (round ∷ rounds) vs (among vs ns) fixed in
          ap (spread vs) same ∙ fixed ∙ sym same
      | inr shorter ↦ spread-spread_for rounds vs (grown vs (among vs ns)) (omega arith)
    ]

-- they keep what is there, ..
spread_for-keeps : (rounds vs : List Value) (there : List ℕ) (n : ℕ) → has_number n (numbers vs) ≡ true → has_number n there ≡ true
    → has_number n (spread_for rounds vs there) ≡ true
spread_for-keeps [] vs there n value h = h
spread_for-keeps (round ∷ rounds) vs there n value h =
    spread_for-keeps rounds vs (spread vs there) n value (has_number-among vs n (grown vs there) (there-grown vs n there h) value)

-- .. are numbers of values in their order, ..
among-spread_for : (rounds vs : List Value) (ns : List ℕ) → among vs (spread_for rounds vs (among vs ns)) ≡ spread_for rounds vs (among vs ns)
among-spread_for [] vs ns = among-among vs ns
among-spread_for (round ∷ rounds) vs ns = among-spread_for rounds vs (grown vs (among vs ns))

-- .. and stay within each set that is closed under children
spread_for-within : (rounds vs : List Value) (there : List ℕ) (S : ℕ → Type 0)
    → ((n m : ℕ) → S n → has_number m (children_at vs n) ≡ true → has_number m (numbers vs) ≡ true → S m) → ((n : ℕ) → has_number n there ≡ true → S n)
    → (n : ℕ) → has_number n (spread_for rounds vs there) ≡ true → S n
spread_for-within [] vs there S closed within n h = within n h
spread_for-within (round ∷ rounds) vs there S closed within n h = spread_for-within rounds vs (spread vs there) S closed spread-within n h
  where
    spread-within : (m : ℕ) → has_number m (spread vs there) ≡ true → S m
    spread-within m k =
        let parts = among-parts vs m (grown vs there) k in
        elim (or_cases (has_number m there) (has_number m (flat_map (children_at vs) there)) (sym (list_any-append (λ l. l == m) there (flat_map (children_at vs) there)) ∙ parts.0)) [
          | inl old ↦ within m old
          | inr new ↦ let parent = from_flat_map (children_at vs) m there new in closed parent.0 m (within parent.0 parent.1) parent.2 parts.1
        ]

-- WHAT ROOTS REACH
-- each root that a value has is reached
pub reach-roots : (vs : List Value) (roots : List ℕ) (n : ℕ) → has_number n (numbers vs) ≡ true → has_number n roots ≡ true → has_number n (reach_from vs roots) ≡ true
reach-roots vs roots n value root = spread_for-keeps vs vs (among vs roots) n value (has_number-among vs n roots root value)

-- each child of what is reached is reached
pub reach-closed : (vs : List Value) (roots : List ℕ) (n m : ℕ) → has_number n (reach_from vs roots) ≡ true → has_number m (children_at vs n) ≡ true
    → has_number m (numbers vs) ≡ true → has_number m (reach_from vs roots) ≡ true
reach-closed vs roots n m reached child value =
    let reach : List ℕ = reach_from vs roots in
    let enough : length vs ≤ length vs + length (among vs roots) = omega arith in
    sym (ap (λ ns. has_number m ns) (spread-spread_for vs vs roots enough)) ∙ has_number-among vs m (grown vs reach) (child-grown vs n m reach reached child) value

-- what is reached lies in each set that has the roots and is closed under children
pub reach-least : (vs : List Value) (roots : List ℕ) (S : ℕ → Type 0) → ((n : ℕ) → has_number n (numbers vs) ≡ true → has_number n roots ≡ true → S n)
    → ((n m : ℕ) → S n → has_number m (children_at vs n) ≡ true → has_number m (numbers vs) ≡ true → S m)
    → (n : ℕ) → has_number n (reach_from vs roots) ≡ true → S n
reach-least vs roots S rooted closed n h =
    spread_for-within vs vs (among vs roots) S closed (λ m k. let parts = among-parts vs m roots k in rooted m parts.1 parts.0) n h

-- only numbers that values have are reached
pub reach-among : (vs : List Value) (roots : List ℕ) (n : ℕ) → has_number n (reach_from vs roots) ≡ true → has_number n (numbers vs) ≡ true
reach-among vs roots n h = (among-parts vs n (reach_from vs roots) (ap (λ ns. has_number n ns) (among-spread_for vs vs roots) ∙ h)).1

-- the numbers of the values that are reached are what is reached
pub numbers-kept : (vs : List Value) (roots : List ℕ) → numbers (those_of (reach_from vs roots) vs) ≡ reach_from vs roots
numbers-kept vs roots = numbers-filter (λ n. has_number n (reach_from vs roots)) vs ∙ among-spread_for vs vs roots
