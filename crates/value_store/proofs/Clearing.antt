-- Numbers that are freed one after another.
use Rattle.std.proofs.Common.{◌≡◌, ◌∙◌, ℕ, zero, suc, ◌+◌, ◌<◌, ◌==◌, ◌||◌, nat_eq, Bool, true, false, cond, List, [], ◌∷◌, ◌++◌, length, get_or, take, Option, None, IsSome, refl, ap, sym, subst, arith}
use Rattle.std.specs.List.{All, IsDistinct, AllByRecursion}
use Rattle.std.proofs.lemmas.List.{get_or-map, take_more, map-append, length-map, take-map}
use Rattle.std.proofs.lemmas.Map.Keys.{IsDistinct-head, IsDistinct-tail}
use Rattle.napi_types.specs.declared.ids.ValueId.{ValueId}
use Rattle.napi_types.specs.plain.Lists.{has_number}
use Rattle.napi_types.proofs.plain.Found.{turned}
use Rattle.value_store.specs.declared.record.ValueRecord.{ValueRecord}
use Rattle.value_store.specs.StoreChanges.{numbers_of}

has-more : (n k : ℕ) (ids : List ℕ) → has_number n (ids ++ k ∷ []) ≡ ((n == k) || has_number n ids)
has-more n k [] = ap (λ b. b || false) (turned k n)
has-more n k (x ∷ ids) = ap (λ b. (x == n) || b) (has-more n k ids) ∙ turn (x == n) (n == k) (has_number n ids)
  where
    turn : (a b c : Bool) → (a || (b || c)) ≡ (b || (a || c))
    turn true true c = refl
    turn true false c = refl
    turn false true c = refl
    turn false false c = refl

pub numbers_of-more : (list : List ValueId) (i : ℕ) (d : ValueId) → i < length list → numbers_of (take (i + 1) list) ≡ numbers_of (take i list) ++ (get_or list i d).0 ∷ []
numbers_of-more list i d less = ap numbers_of (take_more list i d less) ∙ map-append (λ (v : ValueId). v.0) (take i list) (get_or list i d ∷ [])

-- a number is not among those before it, where no number stands twice
each-apart : (n : ℕ) (ns : List ℕ) (i d : ℕ) → i < length ns → AllByRecursion (λ m. nat_eq n m ≡ false) ns → (n == get_or ns i d) ≡ false
each-apart n [] i d less apart = absurd (omega (arith, less))
each-apart n (m ∷ ns) zero d less apart = apart.0
each-apart n (m ∷ ns) (suc i) d less apart = each-apart n ns i d (omega (arith, less)) apart.1

not-before : (ns : List ℕ) (i d : ℕ) → i < length ns → IsDistinct nat_eq ns → has_number (get_or ns i d) (take i ns) ≡ false
not-before [] i d less distinct = absurd (omega (arith, less))
not-before (n ∷ ns) zero d less distinct = refl
not-before (n ∷ ns) (suc i) d less distinct =
    ap (λ b. b || has_number (get_or ns i d) (take i ns)) (each-apart n ns i d (omega (arith, less)) (IsDistinct-head nat_eq n ns distinct))
    ∙ not-before ns i d (omega (arith, less)) (IsDistinct-tail nat_eq n ns distinct)

-- the next number of the list is still held
pub next-held : (old now : ℕ → Option ValueRecord) (list : List ValueId) (i : ℕ) (d : ValueId) → i < length list → All (λ n. IsSome (old n)) (numbers_of list) → IsDistinct nat_eq (numbers_of list)
    → ((n : ℕ) → now n ≡ cond (has_number n (numbers_of (take i list))) None (old n)) → IsSome (now (get_or list i d).0)
next-held old now list i d less held distinct so_far =
    let many : length (numbers_of list) ≡ length list = length-map list (λ (v : ValueId). v.0) in
    let same : get_or (numbers_of list) i d.0 ≡ (get_or list i d).0 = get_or-map (λ (v : ValueId). v.0) list i d d.0 less in
    let there : IsSome (old (get_or list i d).0) = subst (λ n. IsSome (old n)) same (held i d.0 (omega (arith, less, many))) in
    let apart : has_number (get_or list i d).0 (numbers_of (take i list)) ≡ false =
    ap (has_number (get_or list i d).0) (sym (take-map (λ (v : ValueId). v.0) i list)) ∙ ap (λ n. has_number n (take i (numbers_of list))) (sym same)
    ∙ not-before (numbers_of list) i d.0 (omega (arith, less, many)) distinct in
    subst (λ (o : Option ValueRecord). IsSome o) (sym (so_far (get_or list i d).0 ∙ ap (λ b. cond b None (old (get_or list i d).0)) apart)) there

-- one number more is freed
pub freed-more : (old now next : ℕ → Option ValueRecord) (list : List ValueId) (i : ℕ) (d : ValueId) → i < length list
    → ((n : ℕ) → now n ≡ cond (has_number n (numbers_of (take i list))) None (old n)) → ((n : ℕ) → next n ≡ cond (n == (get_or list i d).0) None (now n))
    → (n : ℕ) → next n ≡ cond (has_number n (numbers_of (take (i + 1) list))) None (old n)
freed-more old now next list i d less so_far freed n =
    freed n ∙ ap (cond (n == (get_or list i d).0) None) (so_far n)
    ∙ joined (n == (get_or list i d).0) (has_number n (numbers_of (take i list))) (old n)
    ∙ sym (ap (λ b. cond b None (old n)) (ap (has_number n) (numbers_of-more list i d less) ∙ has-more n (get_or list i d).0 (numbers_of (take i list))))
  where
    joined : (a b : Bool) (o : Option ValueRecord) → cond a None (cond b None o) ≡ cond (a || b) None o
    joined true b o = refl
    joined false b o = refl
