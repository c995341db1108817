-- Laws on properties that stand under rising numbers.
use Rattle.std.proofs.Common.{◌≡◌, ◌∙◌, ◌⊎◌, inl, inr, ℕ, ◌<◌, nat_eq, Bool, true, false, cond, ◌&&◌, List, [], ◌∷◌, ◌++◌, Some, None, refl, ap, sym, subst, arith}
use Rattle.std.specs.List.{All, IsDistinct, AllByRecursion}
use Rattle.std.specs.List.Sorted.{IsStrictlySortedBy}
use Rattle.std.specs.Map.{keys_of, values_of, lookup, remove_entry}
use Rattle.std.specs.BTreeMap as tree
use Rattle.std.specs.BTreeMap.{BTreeMap, IsOrdered, is_at, get}
use Rattle.std.specs.Ordering.{nat_cmp, is_eq, is_lt}
use Rattle.std.specs.BTreeMap.Range.{is_from_start, entries_between}
use Rattle.std.specs.declared.ops.Bound.{Bound}
use Rattle.std.specs.declared.ops.Bound.TheVariants.{Included, Excluded, Unbounded}
use Rattle.std.specs.declared.cmp.Ordering.TheVariants.{Less, Equal, Greater}
use Rattle.std.proofs.lemmas.Cmp.{nat_eq_equiv}
use Rattle.std.proofs.lemmas.List.{map-append}
use Rattle.std.proofs.lemmas.List.Elements.{All-head, All-tail}
use Rattle.std.proofs.lemmas.Map.{lookup-remove_entry}
use Rattle.std.proofs.lemmas.Map.Keys.{sorted_head, sorted_tail}
use borrow.Author.Tests.{eqb-true}
use Rattle.indexmap.specs.IndexMap.{insert_entry}
use Rattle.indexmap.proofs.MapLemmas.{absent_from_lookup, insert_entry-absent}
use Rattle.napi_types.specs.declared.ids.ValueId.{ValueId}
use Rattle.value_store.specs.OrderedMaps.{numbered_names, AreKeptProperties}
use Rattle.value_store.proofs.FewProperties.{distinct-insert_entry, distinct-remove_entry}
use Rattle.value_store.proofs.PropertyNames.{distinct-none}

abbrev NumberedProperty : Type 0
NumberedProperty = ℕ × (ℕ × ValueId)

same-test : (a b : ℕ) → is_eq (nat_cmp a b) ≡ nat_eq b a
same-test a b = grind arith

pub never-both : {A : Type 0} (x : A) → None ≡ Some x → ⊥
never-both x e = let no : ⊥ = cc in no

-- THE NUMBER OF A NAME
number-above : (m name n : ℕ) (es : List NumberedProperty) → AllByRecursion (λ k. nat_cmp m k ≡ Less) (keys_of es) → lookup (nat_eq name) (numbered_names es) ≡ Some n → nat_cmp m n ≡ Less
number-above m name n [] below is = let no : ⊥ = cc in absurd no
number-above m name n (e ∷ es) below is = by (nat_eq name e.1.0) is (number-above m name n es below.1)
  where
    by : (b : Bool) → cond b (Some e.0) (lookup (nat_eq name) (numbered_names es)) ≡ Some n → (lookup (nat_eq name) (numbered_names es) ≡ Some n → nat_cmp m n ≡ Less) → nat_cmp m n ≡ Less
    by true here later = let same : e.0 ≡ n = cc in subst (λ (k : ℕ). nat_cmp m k ≡ Less) same below.0
    by false here later = later here

-- the first property has the name
record IsFirst (name n : ℕ) (e : NumberedProperty) : Type 0 where
  called : nat_eq name e.1.0 ≡ true
  order : nat_cmp n e.0 ≡ Equal

-- or one after it has
record IsLater (name n : ℕ) (e : NumberedProperty) (es : List NumberedProperty) : Type 0 where
  called : nat_eq name e.1.0 ≡ false
  order : nat_cmp n e.0 ≡ Greater
  rest : lookup (nat_eq name) (numbered_names es) ≡ Some n

placed : (name n : ℕ) (e : NumberedProperty) (es : List NumberedProperty) → IsStrictlySortedBy nat_cmp (keys_of (e ∷ es)) → lookup (nat_eq name) (numbered_names (e ∷ es)) ≡ Some n
    → IsFirst name n e ⊎ IsLater name n e es
placed name n e es rising is = by (nat_eq name e.1.0) refl is
  where
    itself : (a : ℕ) → nat_cmp a a ≡ Equal
    itself a = grind arith

    after : (a b : ℕ) → nat_cmp a b ≡ Less → nat_cmp b a ≡ Greater
    after a b h = grind arith

    by : (b : Bool) → nat_eq name e.1.0 ≡ b → cond b (Some e.0) (lookup (nat_eq name) (numbered_names es)) ≡ Some n → IsFirst name n e ⊎ IsLater name n e es
    by true called here =
        let same : n ≡ e.0 = cc in
        inl (record { called = called; order = subst (λ (k : ℕ). nat_cmp n k ≡ Equal) same (itself n) })
    by false called later =
        inr (record { called = called; order = after e.0 n (number-above e.0 name n es (sorted_head nat_cmp e.0 (keys_of es) rising) later); rest = later })

-- what stands under the number of a name is its property
stands : (name n : ℕ) (es : List NumberedProperty) → IsStrictlySortedBy nat_cmp (keys_of es) → lookup (nat_eq name) (numbered_names es) ≡ Some n
    → (v : ValueId) × (lookup (is_at (nat_cmp n)) es ≡ Some (name, v)) × (lookup (nat_eq name) (values_of es) ≡ Some v)
stands name n [] rising is = let no : ⊥ = cc in absurd no
stands name n (e ∷ es) rising is =
    elim (placed name n e es rising is) [
      | inl first ↦
          let same : name ≡ e.1.0 = eqb-true name e.1.0 first.called in
          (e.1.1, rw first.order (ap (λ k. Some (k, e.1.1)) (sym same)), rw first.called refl)
      | inr later ↦
          let rest = stands name n es (sorted_tail nat_cmp e.0 (keys_of es) rising) later.rest in
          (rest.0, rw later.order rest.1, rw later.called rest.2)
    ]

none-numbered : (name : ℕ) (es : List NumberedProperty) → lookup (nat_eq name) (numbered_names es) ≡ None → lookup (nat_eq name) (values_of es) ≡ None
none-numbered name [] is = refl
none-numbered name (e ∷ es) is = by (nat_eq name e.1.0) is (none-numbered name es)
  where
    by : (b : Bool) → cond b (Some e.0) (lookup (nat_eq name) (numbered_names es)) ≡ None → (lookup (nat_eq name) (numbered_names es) ≡ None → lookup (nat_eq name) (values_of es) ≡ None) → cond b (Some e.1.1) (lookup (nat_eq name) (values_of es)) ≡ None
    by true here later = let no : ⊥ = cc in absurd no
    by false here later = later here

numbered-none : (name : ℕ) (es : List NumberedProperty) → lookup (nat_eq name) (values_of es) ≡ None → lookup (nat_eq name) (numbered_names es) ≡ None
numbered-none name [] is = refl
numbered-none name (e ∷ es) is = by (nat_eq name e.1.0) is (numbered-none name es)
  where
    by : (b : Bool) → cond b (Some e.1.1) (lookup (nat_eq name) (values_of es)) ≡ None → (lookup (nat_eq name) (values_of es) ≡ None → lookup (nat_eq name) (numbered_names es) ≡ None) → cond b (Some e.0) (lookup (nat_eq name) (numbered_names es)) ≡ None
    by true here later = let no : ⊥ = cc in absurd no
    by false here later = later here

-- A PROPERTY IS REMOVED
values-removed : (name n : ℕ) (es : List NumberedProperty) → IsStrictlySortedBy nat_cmp (keys_of es) → lookup (nat_eq name) (numbered_names es) ≡ Some n
    → values_of (remove_entry (is_at (nat_cmp n)) es) ≡ remove_entry (nat_eq name) (values_of es)
values-removed name n [] rising is = refl
values-removed name n (e ∷ es) rising is =
    elim (placed name n e es rising is) [
      | inl first ↦ rw (first.order, first.called) refl
      | inr later ↦ rw (later.order, later.called) (ap (λ l. e.1 ∷ l) (values-removed name n es (sorted_tail nat_cmp e.0 (keys_of es) rising) later.rest))
    ]

names-removed : (name n : ℕ) (es : List NumberedProperty) → IsStrictlySortedBy nat_cmp (keys_of es) → lookup (nat_eq name) (numbered_names es) ≡ Some n
    → numbered_names (remove_entry (is_at (nat_cmp n)) es) ≡ remove_entry (nat_eq name) (numbered_names es)
names-removed name n [] rising is = refl
names-removed name n (e ∷ es) rising is =
    elim (placed name n e es rising is) [
      | inl first ↦ rw (first.order, first.called) refl
      | inr later ↦ rw (later.order, later.called) (ap (λ l. (e.1.0, e.0) ∷ l) (names-removed name n es (sorted_tail nat_cmp e.0 (keys_of es) rising) later.rest))
    ]

-- A PROPERTY GETS ANOTHER VALUE
values-changed : (name n : ℕ) (to : ValueId) (es : List NumberedProperty) → IsStrictlySortedBy nat_cmp (keys_of es) → lookup (nat_eq name) (numbered_names es) ≡ Some n
    → values_of (tree.insert_entry nat_cmp es n (name, to)) ≡ insert_entry nat_eq (values_of es) name to
values-changed name n to [] rising is = let no : ⊥ = cc in absurd no
values-changed name n to (e ∷ es) rising is =
    elim (placed name n e es rising is) [
      | inl first ↦ let same : name ≡ e.1.0 = eqb-true name e.1.0 first.called in rw (first.order, first.called) (ap (λ k. (k, to) ∷ values_of es) same)
      | inr later ↦ rw (later.order, later.called) (ap (λ l. e.1 ∷ l) (values-changed name n to es (sorted_tail nat_cmp e.0 (keys_of es) rising) later.rest))
    ]

names-changed : (name n : ℕ) (to : ValueId) (es : List NumberedProperty) → IsStrictlySortedBy nat_cmp (keys_of es) → lookup (nat_eq name) (numbered_names es) ≡ Some n
    → numbered_names (tree.insert_entry nat_cmp es n (name, to)) ≡ numbered_names es
names-changed name n to [] rising is = let no : ⊥ = cc in absurd no
names-changed name n to (e ∷ es) rising is =
    elim (placed name n e es rising is) [
      | inl first ↦ let same : name ≡ e.1.0 = eqb-true name e.1.0 first.called in rw first.order (ap (λ k. (k, e.0) ∷ numbered_names es) same)
      | inr later ↦ rw later.order (ap (λ l. (e.1.0, e.0) ∷ l) (names-changed name n to es (sorted_tail nat_cmp e.0 (keys_of es) rising) later.rest))
    ]

-- A PROPERTY IS ADDED
added : (es : List NumberedProperty) (n : ℕ) (p : ℕ × ValueId) → All (λ m. m < n) (keys_of es) → tree.insert_entry nat_cmp es n p ≡ es ++ (n, p) ∷ []
added [] n p below = refl
added (e ∷ es) n p below =
    let past : nat_cmp n e.0 ≡ Greater = after n e.0 (All-head (λ m. m < n) e.0 (keys_of es) below) in
    rw past (ap (λ l. e ∷ l) (added es n p (All-tail (λ m. m < n) e.0 (keys_of es) below)))
  where
    after : (a b : ℕ) → b < a → nat_cmp a b ≡ Greater
    after a b h = grind arith

pub values-added : (name n : ℕ) (to : ValueId) (es : List NumberedProperty) → All (λ m. m < n) (keys_of es) → lookup (nat_eq name) (values_of es) ≡ None
    → values_of (tree.insert_entry nat_cmp es n (name, to)) ≡ insert_entry nat_eq (values_of es) name to
values-added name n to es below none =
    ap values_of (added es n (name, to) below) ∙ map-append (λ (e : NumberedProperty). e.1) es ((n, (name, to)) ∷ [])
    ∙ sym (insert_entry-absent nat_eq name to (values_of es) (absent_from_lookup (nat_eq name) (values_of es) none))

names-added : (name n : ℕ) (to : ValueId) (es : List NumberedProperty) → All (λ m. m < n) (keys_of es)
    → numbered_names (tree.insert_entry nat_cmp es n (name, to)) ≡ numbered_names es ++ (name, n) ∷ []
names-added name n to es below = ap numbered_names (added es n (name, to) below) ∙ map-append (λ (e : NumberedProperty). (e.1.0, e.0)) es ((n, (name, to)) ∷ [])

lookup-last : (q name n : ℕ) (xs : List (ℕ × ℕ)) → lookup (nat_eq name) xs ≡ None → cond (is_eq (nat_cmp name q)) (Some n) (lookup (nat_eq q) xs) ≡ lookup (nat_eq q) (xs ++ (name, n) ∷ [])
lookup-last q name n [] none = rw (same-test name q) refl
lookup-last q name n (x ∷ xs) none = by (nat_eq q x.0) refl (nat_eq name x.0) refl none (lookup-last q name n xs)
  where
    differ : (a b k : ℕ) → nat_eq a k ≡ true → nat_eq b k ≡ false → is_eq (nat_cmp b a) ≡ false
    differ a b k h l = grind arith

    by : (b : Bool) → nat_eq q x.0 ≡ b → (d : Bool) → nat_eq name x.0 ≡ d → cond d (Some x.1) (lookup (nat_eq name) xs) ≡ None
        → (lookup (nat_eq name) xs ≡ None → cond (is_eq (nat_cmp name q)) (Some n) (lookup (nat_eq q) xs) ≡ lookup (nat_eq q) (xs ++ (name, n) ∷ []))
        → cond (is_eq (nat_cmp name q)) (Some n) (cond b (Some x.1) (lookup (nat_eq q) xs)) ≡ cond b (Some x.1) (lookup (nat_eq q) (xs ++ (name, n) ∷ []))
    by b at true found none later = let no : ⊥ = cc in absurd no
    by true at false found none later = rw (differ q name x.0 at found) refl
    by false at false found none later = later none

-- THE TWO MAPS
pub kept-none : (by_number : BTreeMap ℕ (ℕ × ValueId)) (by_name : BTreeMap ℕ ℕ) → IsOrdered nat_cmp by_number → by_number.entries ≡ [] → by_name.entries ≡ [] → AreKeptProperties by_number by_name
kept-none by_number by_name rising none no_names = record {
  rising = rising;
  distinct = subst (λ (es : List NumberedProperty). IsDistinct nat_eq (keys_of (values_of es))) (sym none) distinct-none;
  named = λ q. ap (lookup (is_at (nat_cmp q))) no_names ∙ sym (ap (λ es. lookup (nat_eq q) (numbered_names es)) none);
}

-- a name that is in the one is in the other
module _ (by_number : BTreeMap ℕ (ℕ × ValueId)) (by_name : BTreeMap ℕ ℕ) (name : ℕ) (kept : AreKeptProperties by_number by_name) where
  pub found : (n : ℕ) → get nat_cmp by_name name ≡ Some n → (v : ValueId) × (get nat_cmp by_number n ≡ Some (name, v)) × (lookup (nat_eq name) (values_of by_number.entries) ≡ Some v)
  found n there = stands name n by_number.entries kept.rising (sym (kept.named name) ∙ there)

  pub missing : get nat_cmp by_name name ≡ None → lookup (nat_eq name) (values_of by_number.entries) ≡ None
  missing none = none-numbered name by_number.entries (sym (kept.named name) ∙ none)

  pub removed-is : (n : ℕ) → get nat_cmp by_name name ≡ Some n → values_of (remove_entry (is_at (nat_cmp n)) by_number.entries) ≡ remove_entry (nat_eq name) (values_of by_number.entries)
  removed-is n there = values-removed name n by_number.entries kept.rising (sym (kept.named name) ∙ there)

  pub changed-is : (n : ℕ) (to : ValueId) → get nat_cmp by_name name ≡ Some n → values_of (tree.insert_entry nat_cmp by_number.entries n (name, to)) ≡ insert_entry nat_eq (values_of by_number.entries) name to
  changed-is n to there = values-changed name n to by_number.entries kept.rising (sym (kept.named name) ∙ there)

keys-named : (es : List NumberedProperty) → keys_of (values_of es) ≡ keys_of (numbered_names es)
keys-named [] = refl
keys-named (e ∷ es) = ap (λ l. e.1.0 ∷ l) (keys-named es)

module _ (by_number new_by_number : BTreeMap ℕ (ℕ × ValueId)) (by_name new_by_name : BTreeMap ℕ ℕ) (name n : ℕ) (kept : AreKeptProperties by_number by_name) (rising : IsOrdered nat_cmp new_by_number) where
  -- a name is in none of them any more
  pub kept-removed : get nat_cmp by_name name ≡ Some n → new_by_number.entries ≡ remove_entry (is_at (nat_cmp n)) by_number.entries
      → ((q : ℕ) → get nat_cmp new_by_name q ≡ cond (is_at (nat_cmp name) q) None (get nat_cmp by_name q)) → AreKeptProperties new_by_number new_by_name
  kept-removed there removed taken =
      let es = by_number.entries in
      let named : lookup (nat_eq name) (numbered_names es) ≡ Some n = sym (kept.named name) ∙ there in
      record {
        rising = rising;
        distinct =
            subst (λ (ps : List (ℕ × ValueId)). IsDistinct nat_eq (keys_of ps)) (sym (ap values_of removed ∙ values-removed name n es kept.rising named))
            (distinct-remove_entry name (values_of es) kept.distinct);
        named = λ q.
            taken q ∙ ap (λ b. cond b None (get nat_cmp by_name q)) (same-test name q ∙ turn q name)
            ∙ ap (cond (nat_eq name q) None) (kept.named q)
            ∙ sym (lookup-remove_entry nat_eq_equiv (nat_eq name) one q (numbered_names es) (subst (λ (ks : List ℕ). IsDistinct nat_eq ks) (keys-named es) kept.distinct))
            ∙ sym (ap (lookup (nat_eq q)) (ap numbered_names removed ∙ names-removed name n es kept.rising named));
      }
    where
      turn : (a b : ℕ) → nat_eq a b ≡ nat_eq b a
      turn a b = grind arith

      one : (x y : ℕ) → nat_eq name x ≡ true → nat_eq name y ≡ nat_eq x y
      one x y is = ap (λ k. nat_eq k y) (eqb-true name x is)

  -- the property of a name has another value
  pub kept-changed : (to : ValueId) → get nat_cmp by_name name ≡ Some n → new_by_number.entries ≡ tree.insert_entry nat_cmp by_number.entries n (name, to)
      → AreKeptProperties new_by_number by_name
  kept-changed to there changed =
      let es = by_number.entries in
      let named : lookup (nat_eq name) (numbered_names es) ≡ Some n = sym (kept.named name) ∙ there in
      record {
        rising = rising;
        distinct =
            subst (λ (ps : List (ℕ × ValueId)). IsDistinct nat_eq (keys_of ps)) (sym (ap values_of changed ∙ values-changed name n to es kept.rising named))
            (distinct-insert_entry name to (values_of es) kept.distinct);
        named = λ q. kept.named q ∙ sym (ap (lookup (nat_eq q)) (ap numbered_names changed ∙ names-changed name n to es kept.rising named));
      }

  -- a name is in both that was in none, under a number above all others
  pub kept-added : (to : ValueId) → All (λ m. m < n) (keys_of by_number.entries) → lookup (nat_eq name) (values_of by_number.entries) ≡ None
      → new_by_number.entries ≡ tree.insert_entry nat_cmp by_number.entries n (name, to)
      → ((q : ℕ) → get nat_cmp new_by_name q ≡ cond (is_at (nat_cmp name) q) (Some n) (get nat_cmp by_name q)) → AreKeptProperties new_by_number new_by_name
  kept-added to below none put named =
      let es = by_number.entries in
      record {
        rising = rising;
        distinct =
            subst (λ (ps : List (ℕ × ValueId)). IsDistinct nat_eq (keys_of ps)) (sym (ap values_of put ∙ values-added name n to es below none))
            (distinct-insert_entry name to (values_of es) kept.distinct);
        named = λ q.
            named q ∙ ap (cond (is_at (nat_cmp name) q) (Some n)) (kept.named q) ∙ lookup-last q name n (numbered_names es) (numbered-none name es none)
            ∙ sym (ap (lookup (nat_eq q)) (ap numbered_names put ∙ names-added name n to es below));
      }

  -- a name was put into one of them, and taken out again
  pub kept-restored : (between : BTreeMap ℕ ℕ) → lookup (nat_eq name) (values_of by_number.entries) ≡ None → new_by_number.entries ≡ by_number.entries
      → ((q : ℕ) → get nat_cmp between q ≡ cond (is_at (nat_cmp name) q) (Some n) (get nat_cmp by_name q))
      → ((q : ℕ) → get nat_cmp new_by_name q ≡ cond (is_at (nat_cmp name) q) None (get nat_cmp between q)) → AreKeptProperties new_by_number new_by_name
  kept-restored between none same put taken =
      record {
        rising = rising;
        distinct = subst (λ (es : List NumberedProperty). IsDistinct nat_eq (keys_of (values_of es))) (sym same) kept.distinct;
        named = λ q. restored q ∙ kept.named q ∙ sym (ap (λ es. lookup (nat_eq q) (numbered_names es)) same);
      }
    where
      gone : get nat_cmp by_name name ≡ None
      gone = kept.named name ∙ numbered-none name by_number.entries none

      here : (q : ℕ) → is_at (nat_cmp name) q ≡ true → name ≡ q
      here q is = grind arith

      by : (q : ℕ) (b : Bool) → is_at (nat_cmp name) q ≡ b → cond b None (cond b (Some n) (get nat_cmp by_name q)) ≡ get nat_cmp by_name q
      by q true is = sym gone ∙ ap (get nat_cmp by_name) (here q is)
      by q false is = refl

      restored : (q : ℕ) → get nat_cmp new_by_name q ≡ get nat_cmp by_name q
      restored q = taken q ∙ ap (cond (is_at (nat_cmp name) q) None) (put q) ∙ by q (is_at (nat_cmp name) q) refl

-- A WALK
after-start : (from : Bound ℕ) (a b : ℕ) → is_from_start nat_cmp from a ≡ true → nat_cmp a b ≡ Less → is_from_start nat_cmp from b ≡ true
after-start Unbounded a b at less = refl
after-start (Included n) a b at less = grind arith
after-start (Excluded n) a b at less = grind arith

-- all from a number on, where the least of them is above one that is there
all-from : (from : Bound ℕ) (a : ℕ) (es : List NumberedProperty) → is_from_start nat_cmp from a ≡ true → AllByRecursion (λ k. nat_cmp a k ≡ Less) (keys_of es) → entries_between nat_cmp from Unbounded es ≡ es
all-from from a [] at below = refl
all-from from a (e ∷ es) at below = rw (after-start from a e.0 at below.0) (ap (λ l. e ∷ l) (all-from from a es at below.1))

all-after : (a : ℕ) (es : List NumberedProperty) → AllByRecursion (λ k. nat_cmp a k ≡ Less) (keys_of es) → entries_between nat_cmp (Excluded a) Unbounded es ≡ es
all-after a [] below = refl
all-after a (e ∷ es) below = rw below.0 (ap (λ l. e ∷ l) (all-after a es below.1))

first-above : (a : ℕ) (from : Bound ℕ) (es rest : List NumberedProperty) (e : NumberedProperty) → AllByRecursion (λ k. nat_cmp a k ≡ Less) (keys_of es)
    → entries_between nat_cmp from Unbounded es ≡ e ∷ rest → nat_cmp a e.0 ≡ Less
first-above a from [] rest e below is = let no : ⊥ = cc in absurd no
first-above a from (x ∷ es) rest e below is = by (is_from_start nat_cmp from x.0) is (first-above a from es rest e below.1)
  where
    by : (b : Bool) → cond (b && true) (x ∷ entries_between nat_cmp from Unbounded es) (entries_between nat_cmp from Unbounded es) ≡ e ∷ rest
        → (entries_between nat_cmp from Unbounded es ≡ e ∷ rest → nat_cmp a e.0 ≡ Less) → nat_cmp a e.0 ≡ Less
    by true here later = let same : x ≡ e = cc in subst (λ (p : NumberedProperty). nat_cmp a p.0 ≡ Less) same below.0
    by false here later = later here

-- after the first from a number on come the others
pub walked : (from : Bound ℕ) (es rest : List NumberedProperty) (e : NumberedProperty) → IsStrictlySortedBy nat_cmp (keys_of es)
    → entries_between nat_cmp from Unbounded es ≡ e ∷ rest → entries_between nat_cmp (Excluded e.0) Unbounded es ≡ rest
walked from [] rest e rising is = let no : ⊥ = cc in absurd no
walked from (x ∷ es) rest e rising is = by (is_from_start nat_cmp from x.0) refl is (walked from es rest e (sorted_tail nat_cmp x.0 (keys_of es) rising))
  where
    below : AllByRecursion (λ k. nat_cmp x.0 k ≡ Less) (keys_of es)
    below = sorted_head nat_cmp x.0 (keys_of es) rising

    itself : (a : ℕ) → is_lt (nat_cmp a a) ≡ false
    itself a = grind arith

    before : (a b : ℕ) → nat_cmp a b ≡ Less → is_lt (nat_cmp b a) ≡ false
    before a b h = grind arith

    by : (b : Bool) → is_from_start nat_cmp from x.0 ≡ b → cond (b && true) (x ∷ entries_between nat_cmp from Unbounded es) (entries_between nat_cmp from Unbounded es) ≡ e ∷ rest
        → (entries_between nat_cmp from Unbounded es ≡ e ∷ rest → entries_between nat_cmp (Excluded e.0) Unbounded es ≡ rest)
        → cond (is_lt (nat_cmp e.0 x.0) && true) (x ∷ entries_between nat_cmp (Excluded e.0) Unbounded es) (entries_between nat_cmp (Excluded e.0) Unbounded es) ≡ rest
    by true at here later =
        let same : x ≡ e = cc in
        let others : entries_between nat_cmp from Unbounded es ≡ rest = cc in
        subst (λ (p : NumberedProperty). cond (is_lt (nat_cmp p.0 x.0) && true) (x ∷ entries_between nat_cmp (Excluded p.0) Unbounded es) (entries_between nat_cmp (Excluded p.0) Unbounded es) ≡ rest) same
        (rw (itself x.0) (all-after x.0 es below ∙ sym (all-from from x.0 es at below) ∙ others))
    by false at here later = rw (before x.0 e.0 (first-above x.0 from es rest e below here)) (later here)

pub all-there : (es : List NumberedProperty) → entries_between nat_cmp Unbounded Unbounded es ≡ es
all-there [] = refl
all-there (e ∷ es) = ap (λ l. e ∷ l) (all-there es)
