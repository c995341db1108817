-- Finite maps whose records are seen as others of the same numbers, and what is counted of a map as it changes.
use Rattle.std.proofs.Common.{◌≡◌, ◌∙◌, ℕ, suc, ◌+◌, ◌<◌, ◌==◌, nat_lt, Bool, true, false, not, cond, List, [], ◌∷◌, ◌++◌, length, map, filter, get_or, Option, Some, None, option_map, refl, ap, sym, arith, length-append}
use Rattle.std.specs.List.{All, count_by}
use Rattle.std.proofs.lemmas.List.{map-append}
use Rattle.std.proofs.lemmas.List.Elements.{All-cons, All-nil, All-map}
use Rattle.std.proofs.lemmas.List.Sums.{sum_by-cons}
use Rattle.std.proofs.lemmas.Bool.{or_parts}
use Rattle.napi_types.specs.plain.Lists.{found, has, with_record}
use Rattle.napi_types.proofs.plain.Found.{IsRising, same-self, same-tells, turned, apart-below, found-first, found-later, found-number, found-same, found-filter, found-changed, found-with_record, rising-filter, rising-changed, rising-with_record}
use Rattle.napi_types.proofs.plain.Maps.{map-filter, filter_all, one-below}

-- EACH RECORD IS SEEN AS ANOTHER
module _ {A B : Type 0} (key : A → ℕ) (other : B → ℕ) (f : A → B) (keeps : (x : A) → other (f x) ≡ key x) where
  pub map-more : (x : A) (xs : List A) → map f (with_record key x xs) ≡ with_record other (f x) (map f xs)
  map-more x xs =
      map-append f (filter (λ y. nat_lt (key y) (key x)) xs) (x ∷ filter (λ y. nat_lt (key x) (key y)) xs)
      ∙ ap (λ ys. ys ++ f x ∷ map f (filter (λ y. nat_lt (key x) (key y)) xs))
      (map-filter f (λ y. nat_lt (key y) (key x)) (λ z. nat_lt (other z) (other (f x))) (λ y. rw (keeps y, keeps x) refl) xs)
      ∙ ap (λ ys. filter (λ z. nat_lt (other z) (other (f x))) (map f xs) ++ f x ∷ ys)
      (map-filter f (λ y. nat_lt (key x) (key y)) (λ z. nat_lt (other (f x)) (other z)) (λ y. rw (keeps y, keeps x) refl) xs)

  pub map-less : (n : ℕ) (xs : List A) → map f (filter (λ x. not (key x == n)) xs) ≡ filter (λ y. not (other y == n)) (map f xs)
  map-less n xs = map-filter f (λ x. not (key x == n)) (λ y. not (other y == n)) (λ x. ap (λ k. not (k == n)) (keeps x)) xs

  -- one is changed, and seen as changed
  pub map-changed : (n : ℕ) (c : A → A) (d : B → B) → ((x : A) → f (c x) ≡ d (f x)) → (xs : List A)
      → map f (map (λ x. cond (key x == n) (c x) x) xs) ≡ map (λ y. cond (other y == n) (d y) y) (map f xs)
  map-changed n c d same [] = refl
  map-changed n c d same (x ∷ xs) =
      ap (λ y. y ∷ map f (map (λ x. cond (key x == n) (c x) x) xs)) (by (key x == n) ∙ ap (λ k. cond (k == n) (d (f x)) (f x)) (sym (keeps x)))
      ∙ ap (λ ys. cond (other (f x) == n) (d (f x)) (f x) ∷ ys) (map-changed n c d same xs)
    where
      by : (b : Bool) → f (cond b (c x) x) ≡ cond b (d (f x)) (f x)
      by true = same x
      by false = refl

  pub map-found : (n : ℕ) (xs : List A) → found other n (map f xs) ≡ option_map f (found key n xs)
  map-found n [] = refl
  map-found n (x ∷ xs) = ap (λ k. cond (k == n) (Some (f x)) (found other n (map f xs))) (keeps x) ∙ by (key x == n) (map-found n xs)
    where
      by : (b : Bool) → found other n (map f xs) ≡ option_map f (found key n xs)
          → cond b (Some (f x)) (found other n (map f xs)) ≡ option_map f (cond b (Some x) (found key n xs))
      by true rest = refl
      by false rest = rest

  pub map-rises : (xs : List A) → IsRising key xs → IsRising other (map f xs)
  map-rises [] rises = tt
  map-rises (x ∷ xs) rises = (
    All-map (λ y. other (f x) < other y) f xs (λ k d inside. omega (arith, keeps x, keeps (get_or xs k d), rises.0 k d inside)),
    map-rises xs rises.1,
  )

module _ {A : Type 0} (key : A → ℕ) where
  -- each of rising records is found by its number
  pub found-each : (xs : List A) → IsRising key xs → All (λ x. found key (key x) xs ≡ Some x) xs
  found-each [] rises = All-nil (λ x. found key (key x) [] ≡ Some x)
  found-each (x ∷ xs) rises =
      All-cons (λ y. found key (key y) (x ∷ xs) ≡ Some y) x xs (found-first key x xs)
      (λ k d inside. found-later key (key (get_or xs k d)) x xs (apart-below (key x) (key (get_or xs k d)) (rises.0 k d inside))
      ∙ found-each xs rises.1 k d inside)

  changed-keeps : (n : ℕ) (c : A → A) → ((x : A) → key (c x) ≡ key x) → (x : A) → key (cond (key x == n) (c x) x) ≡ key x
  changed-keeps n c same x = by (key x == n)
    where
      by : (b : Bool) → key (cond b (c x) x) ≡ key x
      by true = same x
      by false = refl

  -- two changes of one record come to the same where they do of the one that is there
  pub changed-alike : (n : ℕ) (c d : A → A) → ((x : A) → key (c x) ≡ key x) → ((x : A) → key (d x) ≡ key x) → (xs : List A) → IsRising key xs
      → (x : A) → found key n xs ≡ Some x → c x ≡ d x → map (λ y. cond (key y == n) (c y) y) xs ≡ map (λ y. cond (key y == n) (d y) y) xs
  changed-alike n c d c_keeps d_keeps xs rises x there alike =
      found-same key (map (λ y. cond (key y == n) (c y) y) xs) (map (λ y. cond (key y == n) (d y) y) xs)
      (rising-changed key (λ y. cond (key y == n) (c y) y) (changed-keeps n c c_keeps) xs rises)
      (rising-changed key (λ y. cond (key y == n) (d y) y) (changed-keeps n d d_keeps) xs rises)
      (λ m. found-changed key (λ y. cond (key y == n) (c y) y) (changed-keeps n c c_keeps) m xs ∙ by m (found key m xs) refl
      ∙ sym (found-changed key (λ y. cond (key y == n) (d y) y) (changed-keeps n d d_keeps) m xs))
    where
      by : (m : ℕ) (o : Option A) → found key m xs ≡ o
          → option_map (λ y. cond (key y == n) (c y) y) o ≡ option_map (λ y. cond (key y == n) (d y) y) o
      by m None at = refl
      by m (Some y) at = case (key y == n) refl
        where
          case : (b : Bool) → (key y == n) ≡ b → Some (cond b (c y) y) ≡ Some (cond b (d y) y)
          case false apart = refl
          case true same =
              let one : n ≡ m = sym (same-tells (key y) n same) ∙ found-number key m xs y at in
              let both : Some y ≡ Some x = sym at ∙ ap (λ k. found key k xs) (sym one) ∙ there in
              let it : y ≡ x = cc in
              ap (λ z. Some (c z)) it ∙ ap (λ z. Some z) alike ∙ ap (λ z. Some (d z)) (sym it)

  -- WHAT IS COUNTED
  -- one record less
  pub count-less : (p : A → Bool) (n : ℕ) (xs : List A) (x : A) → IsRising key xs → found key n xs ≡ Some x
      → count_by p (filter (λ y. not (key y == n)) xs) + cond (p x) 1 0 ≡ count_by p xs
  count-less p n [] x rises there = let no : ⊥ = cc in absurd no
  count-less p n (y ∷ ys) x rises there =
      by (key y == n) refl there (count-less p n ys x rises.1) ∙ sym (sum_by-cons (λ z. cond (p z) 1 0) y ys)
    where
      by : (b : Bool) → (key y == n) ≡ b → cond b (Some y) (found key n ys) ≡ Some x
          → (found key n ys ≡ Some x → count_by p (filter (λ z. not (key z == n)) ys) + cond (p x) 1 0 ≡ count_by p ys)
          → count_by p (cond (not b) (y ∷ filter (λ z. not (key z == n)) ys) (filter (λ z. not (key z == n)) ys)) + cond (p x) 1 0
          ≡ cond (p y) 1 0 + count_by p ys
      by true same told rest =
          let here : key y ≡ n = same-tells (key y) n same in
          let it : y ≡ x = cc in
          let past : filter (λ z. not (key z == n)) ys ≡ ys = filter_all (λ z. not (key z == n)) ys
          (λ k d inside. ap not (turned (key (get_or ys k d)) n ∙ apart-below n (key (get_or ys k d)) (omega (arith, here, rises.0 k d inside)))) in
          ap (λ zs. count_by p zs + cond (p x) 1 0) past ∙ swap (count_by p ys) (cond (p x) 1 0) ∙ ap (λ z. cond (p z) 1 0 + count_by p ys) (sym it)
        where
          swap : (a b : ℕ) → a + b ≡ b + a
          swap a b = omega arith
      by false same told rest =
          ap (λ k. k + cond (p x) 1 0) (sum_by-cons (λ z. cond (p z) 1 0) y (filter (λ z. not (key z == n)) ys))
          ∙ joined (cond (p y) 1 0) (count_by p (filter (λ z. not (key z == n)) ys)) (cond (p x) 1 0) ∙ ap (λ k. cond (p y) 1 0 + k) (rest told)
        where
          joined : (a b c : ℕ) → (a + b) + c ≡ a + (b + c)
          joined a b c = omega arith

  -- one record more
  pub count-more : (p : A → Bool) (x : A) (xs : List A) → IsRising key xs → found key (key x) xs ≡ None
      → count_by p (with_record key x xs) ≡ count_by p xs + cond (p x) 1 0
  count-more p x xs rises absent =
      sym (count-less p (key x) (with_record key x xs) x (rising-with_record key x xs rises) there) ∙ ap (λ ys. count_by p ys + cond (p x) 1 0) before
    where
      there : found key (key x) (with_record key x xs) ≡ Some x
      there = found-with_record key (key x) x xs ∙ ap (λ b. cond b (Some x) (found key (key x) xs)) (same-self (key x))

      before : filter (λ y. not (key y == key x)) (with_record key x xs) ≡ xs
      before =
          found-same key (filter (λ y. not (key y == key x)) (with_record key x xs)) xs
          (rising-filter key (λ y. not (key y == key x)) (with_record key x xs) (rising-with_record key x xs rises)) rises
          (λ m. found-filter key (λ k. not (k == key x)) m (with_record key x xs)
          ∙ ap (λ o. cond (not (m == key x)) o None) (found-with_record key m x xs) ∙ ap (λ b. cond (not b) (cond (key x == m) (Some x) (found key m xs)) None)
          (turned m (key x)) ∙ by m (key x == m) refl)
        where
          by : (m : ℕ) (b : Bool) → (key x == m) ≡ b → cond (not b) (cond b (Some x) (found key m xs)) None ≡ found key m xs
          by m true same = sym (ap (λ k. found key k xs) (sym (same-tells (key x) m same)) ∙ absent)
          by m false same = refl

  -- one record changed
  pub count-changed : (p : A → Bool) (n : ℕ) (c : A → A) → ((y : A) → key (c y) ≡ key y) → (x : A) (xs : List A) → IsRising key xs
      → found key n xs ≡ Some x → count_by p (map (λ y. cond (key y == n) (c y) y) xs) + cond (p x) 1 0 ≡ count_by p xs + cond (p (c x)) 1 0
  count-changed p n c same x xs rises there =
      let before = count-less p n xs x rises there in
      let after = count-less p n (map (λ y. cond (key y == n) (c y) y) xs) (c x)
      (rising-changed key (λ y. cond (key y == n) (c y) y) (changed-keeps n c same) xs rises) changed in
      let others : count_by p (filter (λ y. not (key y == n)) (map (λ y. cond (key y == n) (c y) y) xs)) ≡ count_by p (filter (λ y. not (key y == n)) xs)
      = ap (count_by p) rest in
      omega (arith, before, after, others)
    where
      at : (m : ℕ) → found key m (map (λ y. cond (key y == n) (c y) y) xs) ≡ option_map (λ y. cond (key y == n) (c y) y) (found key m xs)
      at m = found-changed key (λ y. cond (key y == n) (c y) y) (changed-keeps n c same) m xs

      changed : found key n (map (λ y. cond (key y == n) (c y) y) xs) ≡ Some (c x)
      changed =
          at n ∙ ap (option_map (λ y. cond (key y == n) (c y) y)) there
          ∙ ap (λ b. Some (cond b (c x) x)) (ap (λ k. k == n) (found-number key n xs x there) ∙ same-self n)

      rest : filter (λ y. not (key y == n)) (map (λ y. cond (key y == n) (c y) y) xs) ≡ filter (λ y. not (key y == n)) xs
      rest =
          found-same key (filter (λ y. not (key y == n)) (map (λ y. cond (key y == n) (c y) y) xs)) (filter (λ y. not (key y == n)) xs)
          (rising-filter key (λ y. not (key y == n)) (map (λ y. cond (key y == n) (c y) y) xs)
          (rising-changed key (λ y. cond (key y == n) (c y) y) (changed-keeps n c same) xs rises))
          (rising-filter key (λ y. not (key y == n)) xs rises)
          (λ m. found-filter key (λ k. not (k == n)) m (map (λ y. cond (key y == n) (c y) y) xs)
          ∙ ap (λ o. cond (not (m == n)) o None) (at m) ∙ by m (m == n) refl (found key m xs) refl
          ∙ sym (found-filter key (λ k. not (k == n)) m xs))
        where
          by : (m : ℕ) (b : Bool) → (m == n) ≡ b → (o : Option A) → found key m xs ≡ o
              → cond (not b) (option_map (λ y. cond (key y == n) (c y) y) o) None ≡ cond (not b) o None
          by m true here o is = refl
          by m false here None is = refl
          by m false here (Some y) is =
              ap (λ b. Some (cond b (c y) y)) (ap (λ k. k == n) (found-number key m xs y is) ∙ here)

  -- how many there are, with one record more
  parts-whole : (n : ℕ) (xs : List A) → has key n xs ≡ false
      → length (filter (λ y. nat_lt (key y) n) xs) + length (filter (λ y. nat_lt n (key y)) xs) ≡ length xs
  parts-whole n [] absent = refl
  parts-whole n (y ∷ ys) absent =
      let apart = or_parts (key y == n) (has key n ys) absent in
      by (nat_lt (key y) n) (nat_lt n (key y)) (one-below (key y) n apart.0) (parts-whole n ys apart.1)
    where
      by : (a b : Bool) → a ≡ not b → length (filter (λ z. nat_lt (key z) n) ys) + length (filter (λ z. nat_lt n (key z)) ys) ≡ length ys
          → length (cond a (y ∷ filter (λ z. nat_lt (key z) n) ys) (filter (λ z. nat_lt (key z) n) ys))
          + length (cond b (y ∷ filter (λ z. nat_lt n (key z)) ys) (filter (λ z. nat_lt n (key z)) ys)) ≡ suc (length ys)
      by true true e rest = let no : ⊥ = cc in absurd no
      by true false e rest = omega (arith, rest)
      by false true e rest = omega (arith, rest)
      by false false e rest = let no : ⊥ = cc in absurd no

  pub length-more : (x : A) (xs : List A) → has key (key x) xs ≡ false → length (with_record key x xs) ≡ length xs + 1
  length-more x xs absent =
      let parts = parts-whole (key x) xs absent in
      let both = length-append (filter (λ y. nat_lt (key y) (key x)) xs) (x ∷ filter (λ y. nat_lt (key x) (key y)) xs) in
      omega (arith, parts, both)
