-- Marks that are set one after another.
use Rattle.std.proofs.Common.{◌≡◌, ℕ, ◌+◌, ◌<◌, ◌==◌, ◌⊎◌, inl, inr, Bool, true, false, List, [], ◌∷◌, ◌++◌, length, take, get_or, set, Some, refl, ap, sym, subst, ◌∙◌, arith}
use Rattle.std.specs.List.{All}
use Rattle.std.proofs.lemmas.Bool.{cases_eq, or_left, eq-eqb}
use Rattle.std.proofs.lemmas.List.{get_or-map, get_or-set_same, get_or-set_other, append_assoc, append-nil, length-append, length-map, length-set}
use Rattle.std.proofs.lemmas.List.Elements.{All-cons, All-nil, All-append, All-weaker}
use Rattle.napi_types.specs.declared.ids.ValueId.{ValueId}
use Rattle.napi_types.specs.plain.Lists.{has_number, HaveSameNumbers}
use Rattle.napi_types.specs.parts.Graph.{StoreState}
use Rattle.napi_types.proofs.plain.Maps.{has-left, has-right}
use Rattle.value_store.specs.StoreChanges.{id_at, numbers_of, StandsAt}
use Rattle.value_store.proofs.Clearing.{numbers_of-more}
use Rattle.value_store.proofs.NamedPlaces.{All-has, All-from_has}
use Rattle.mark_bits.specs.PlaceMarks.{is_marked}
use Rattle.trace_collect.specs.MarkedValues.{unmarked_count, IsMarked, Marks, MarksUpTo}
use Rattle.trace_collect.proofs.MarkMembers.{has-cases}
use Rattle.trace_collect.proofs.Unmarked.{unmarked-set}

-- more marks keep what is marked
pub marked-kept : (s : StoreState) (old new : List Bool) → ((place : ℕ) → is_marked old place ≡ true → is_marked new place ≡ true) → (id : ℕ) → IsMarked s old id → IsMarked s new id
marked-kept s old new kept id h place at = kept place (h place at)

pub marks-none : (s : StoreState) (marks : List Bool) (left : List ℕ) → Marks s [] marks left marks left
marks-none s marks left = record {
  marked = All-nil (IsMarked s marks);
  kept = λ place h. h;
  added = λ place id at h. inl h;
  waits = λ id h. h;
  left = λ id h. inl h;
  room = refl;
  size = refl;
}

-- a value that is marked, and added to those that are left
pub marks-set : (s : StoreState) (marks : List Bool) (left : List ℕ) (id place : ℕ) → StandsAt s id place → place < length marks → is_marked marks place ≡ false → Marks s (id ∷ []) marks left (set marks place true) (left ++ id ∷ [])
marks-set s marks left id place stands less free = record {
  marked = All-cons (IsMarked s (set marks place true)) id [] (λ other at. ap (is_marked (set marks place true)) (stands.only other at) ∙ here) (All-nil (IsMarked s (set marks place true)));
  kept = λ q h. by-kept q h (cases_eq q place);
  added = λ q n at h. by-added q n at h (cases_eq q place);
  waits = λ n h. has-left n left (id ∷ []) h;
  left = λ n h. has-cases n left (id ∷ []) h;
  room = counted (length (left ++ id ∷ [])) (length left) _ _ (length-append left (id ∷ [])) (unmarked-set s marks place id less free stands.there);
  size = length-set marks place true;
}
  where
    here : is_marked (set marks place true) place ≡ true
    here = get_or-set_same marks place true false less

    by-kept : (q : ℕ) → is_marked marks q ≡ true → (q ≡ place) ⊎ (q ≡ place → ⊥) → is_marked (set marks place true) q ≡ true
    by-kept q h (inl same) = ap (is_marked (set marks place true)) same ∙ here
    by-kept q h (inr apart) = get_or-set_other marks place q true false apart ∙ h

    by-added : (q n : ℕ) → id_at s q ≡ Some n → is_marked (set marks place true) q ≡ true → (q ≡ place) ⊎ (q ≡ place → ⊥) → (is_marked marks q ≡ true) ⊎ ((has_number n (id ∷ []) ≡ true) × (has_number n (left ++ id ∷ []) ≡ true))
    by-added q n at h (inl same) =
        let one : Some n ≡ Some id = sym at ∙ ap (id_at s) same ∙ stands.there in
        let number : id ≡ n = cc in
        let among : has_number n (id ∷ []) ≡ true = or_left (id == n) false (eq-eqb id n number) in
        inr (among, has-right n left (id ∷ []) among)
    by-added q n at h (inr apart) = inl (sym (get_or-set_other marks place q true false apart) ∙ h)

    counted : (new old after before : ℕ) → new ≡ old + 1 → after + 1 ≡ before → new + after ≡ old + before
    counted new old after before one two = omega arith

pub marks-then : (s : StoreState) (xs ys : List ℕ) (a b c : List Bool) (k l m : List ℕ) → Marks s xs a k b l → Marks s ys b l c m → Marks s (xs ++ ys) a k c m
marks-then s xs ys a b c k l m one two = record {
  marked = All-append (IsMarked s c) xs ys (All-weaker (IsMarked s b) (IsMarked s c) (marked-kept s b c two.kept) xs one.marked) two.marked;
  kept = λ place h. two.kept place (one.kept place h);
  added = λ place id at h. earlier place id at (two.added place id at h);
  waits = λ id h. two.waits id (one.waits id h);
  left = λ id h. from id (two.left id h);
  room = two.room ∙ one.room;
  size = two.size ∙ one.size;
}
  where
    first : (place id : ℕ) → (is_marked a place ≡ true) ⊎ ((has_number id xs ≡ true) × (has_number id l ≡ true)) → (is_marked a place ≡ true) ⊎ ((has_number id (xs ++ ys) ≡ true) × (has_number id m ≡ true))
    first place id (inl h) = inl h
    first place id (inr h) = inr (has-left id xs ys h.0, two.waits id h.1)

    earlier : (place id : ℕ) → id_at s place ≡ Some id → (is_marked b place ≡ true) ⊎ ((has_number id ys ≡ true) × (has_number id m ≡ true)) → (is_marked a place ≡ true) ⊎ ((has_number id (xs ++ ys) ≡ true) × (has_number id m ≡ true))
    earlier place id at (inl h) = first place id (one.added place id at h)
    earlier place id at (inr h) = inr (has-right id xs ys h.0, h.1)

    start : (id : ℕ) → (has_number id k ≡ true) ⊎ (has_number id xs ≡ true) → (has_number id k ≡ true) ⊎ (has_number id (xs ++ ys) ≡ true)
    start id (inl h) = inl h
    start id (inr h) = inr (has-left id xs ys h)

    from : (id : ℕ) → (has_number id l ≡ true) ⊎ (has_number id ys ≡ true) → (has_number id k ≡ true) ⊎ (has_number id (xs ++ ys) ≡ true)
    from id (inl h) = start id (one.left id h)
    from id (inr h) = inr (has-right id xs ys h)

-- what holds of the numbers of a list holds of each
pub listed : (P : ℕ → Type 0) (ids : List ValueId) (i : ℕ) (d : ValueId) → i < length ids → All P (numbers_of ids) → P (get_or ids i d).0
listed P ids i d less all =
    let many : length (numbers_of ids) ≡ length ids = length-map ids (λ (v : ValueId). v.0) in
    let there : P (get_or (numbers_of ids) i d.0) = all i d.0 (omega arith) in
    let same : get_or (numbers_of ids) i d.0 ≡ (get_or ids i d).0 = get_or-map (λ (v : ValueId). v.0) ids i d d.0 less in
    subst P same there

-- one value of a list more
pub marks-next : (s : StoreState) (ids : List ValueId) (i : ℕ) (d : ValueId) (a b c : List Bool) (k l m : List ℕ) → i < length ids
    → Marks s (numbers_of (take i ids)) a k b l → Marks s ((get_or ids i d).0 ∷ []) b l c m → Marks s (numbers_of (take (i + 1) ids)) a k c m
marks-next s ids i d a b c k l m less before more =
    subst (λ ns. Marks s ns a k c m) (sym (numbers_of-more ids i d less)) (marks-then s (numbers_of (take i ids)) ((get_or ids i d).0 ∷ []) a b c k l m before more)

-- one child more
pub child-next : (s : StoreState) (ids rest next : List ℕ) (n : ℕ) (a b c : List Bool) (k l m : List ℕ) → rest ≡ n ∷ next
    → MarksUpTo s ids rest a k b l → Marks s (n ∷ []) b l c m → MarksUpTo s ids next a k c m
child-next s ids rest next n a b c k l m is so_far more = record {
  before = so_far.before ++ n ∷ [];
  whole = so_far.whole ∙ ap (λ ns. so_far.before ++ ns) is ∙ sym (append_assoc so_far.before (n ∷ []) next);
  marks = marks-then s so_far.before (n ∷ []) a b c k l m so_far.marks more;
}

-- no child is left
pub children-done : (s : StoreState) (ids rest : List ℕ) (a b : List Bool) (k l : List ℕ) → rest ≡ [] → MarksUpTo s ids rest a k b l → Marks s ids a k b l
children-done s ids rest a b k l none so_far =
    subst (λ ns. Marks s ns a k b l) (sym (so_far.whole ∙ ap (λ ns. so_far.before ++ ns) none ∙ append-nil so_far.before)) so_far.marks

-- marks tell the numbers of a list alone
pub marks-same : (s : StoreState) (ms ns : List ℕ) (a b : List Bool) (k l : List ℕ) → HaveSameNumbers ms ns → Marks s ms a k b l → Marks s ns a k b l
marks-same s ms ns a b k l same marks = record {
  marked = All-from_has (IsMarked s b) ns (λ n h. All-has (IsMarked s b) ms n marks.marked (same n ∙ h));
  kept = marks.kept;
  added = λ place id at h. by-added place id (marks.added place id at h);
  waits = marks.waits;
  left = λ id h. by-left id (marks.left id h);
  room = marks.room;
  size = marks.size;
}
  where
    by-added : (place id : ℕ) → (is_marked a place ≡ true) ⊎ ((has_number id ms ≡ true) × (has_number id l ≡ true)) → (is_marked a place ≡ true) ⊎ ((has_number id ns ≡ true) × (has_number id l ≡ true))
    by-added place id (inl h) = inl h
    by-added place id (inr h) = inr (sym (same id) ∙ h.0, h.1)

    by-left : (id : ℕ) → (has_number id k ≡ true) ⊎ (has_number id ms ≡ true) → (has_number id k ≡ true) ⊎ (has_number id ns ≡ true)
    by-left id (inl h) = inl h
    by-left id (inr h) = inr (sym (same id) ∙ h)

-- each mark takes one value of those that are not marked, and leaves one to follow
pub room-kept : (s : StoreState) (ids : List ℕ) (old new : List Bool) (left next : List ValueId) → Marks s ids old (numbers_of left) new (numbers_of next) → length next + unmarked_count s new ≡ length left + unmarked_count s old
room-kept s ids old new left next more =
    let one : length (numbers_of left) ≡ length left = length-map left (λ (v : ValueId). v.0) in
    let two : length (numbers_of next) ≡ length next = length-map next (λ (v : ValueId). v.0) in
    omega (arith, more.room)
