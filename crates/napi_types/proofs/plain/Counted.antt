-- Lists whose elements have numbers, counted from 1, and what they are listed as: a finite map by these numbers.
use Rattle.std.proofs.Common.{◌≡◌, ◌∙◌, ℕ, zero, suc, ◌+◌, ◌-◌, ◌<◌, ◌≤◌, ◌==◌, Bool, true, false, not, cond, List, [], ◌∷◌, ◌++◌, length, map, filter, set, Option, Some, None, option_map, refl, ap, sym, arith}
use Rattle.std.specs.List.{All, slice_get, cons_option}
use Rattle.std.specs.Option.{option_and_then}
use Rattle.std.proofs.lemmas.List.Elements.{All-cons, All-nil}
use Rattle.std.proofs.lemmas.Option.{slice_get_within, slice_get-map}
use Rattle.napi_types.specs.plain.Counted.{element, listed}
use Rattle.napi_types.specs.plain.Lists.{found, as_map, with_record}
use Rattle.napi_types.proofs.plain.Found.{IsRising, same-self, same-tells, turned, next-same, apart-below, apart-above, found-above, found-later, found-same, found-filter, found-changed, found-with_record, rising-map, rising-filter, rising-with_record, rising-changed}

module _ {A : Type 0} where
  -- ONE ELEMENT IS ANOTHER, OR NEW
  pub slice_get-set : (xs : List A) (i : ℕ) (x : A) (j : ℕ) → i < length xs → slice_get (set xs i x) j ≡ cond (i == j) (Some x) (slice_get xs j)
  slice_get-set [] i x j within = absurd (omega arith)
  slice_get-set (y ∷ ys) zero x zero within = refl
  slice_get-set (y ∷ ys) zero x (suc j) within = rw (apart-below 0 (suc j) (omega arith)) refl
  slice_get-set (y ∷ ys) (suc i) x zero within = rw (apart-above 0 (suc i) (omega arith)) refl
  slice_get-set (y ∷ ys) (suc i) x (suc j) within = rw (next-same i j) (slice_get-set ys i x j (omega arith))

  pub slice_get-push : (xs : List A) (x : A) (j : ℕ) → slice_get (xs ++ x ∷ []) j ≡ cond (length xs == j) (Some x) (slice_get xs j)
  slice_get-push [] x zero = refl
  slice_get-push [] x (suc j) = rw (apart-below 0 (suc j) (omega arith)) refl
  slice_get-push (y ∷ ys) x zero = rw (apart-above 0 (suc (length ys)) (omega arith)) refl
  slice_get-push (y ∷ ys) x (suc j) = rw (next-same (length ys) j) (slice_get-push ys x j)

  pub element-within : (xs : List A) (n : ℕ) (x : A) → element xs n ≡ Some x → (1 ≤ n) × (n ≤ length xs)
  element-within xs zero x is = let no : ⊥ = cc in absurd no
  element-within xs (suc at) x is = let within = slice_get_within xs at x is in (omega arith, omega arith)

  pub element-set : (xs : List A) (n : ℕ) (y x : A) → element xs n ≡ Some y → (m : ℕ) → element (set xs (n - 1) x) m ≡ cond (n == m) (Some x) (element xs m)
  element-set xs zero y x is m = let no : ⊥ = cc in absurd no
  element-set xs (suc at) y x is zero = rw (apart-above 0 (suc at) (omega arith)) refl
  element-set xs (suc at) y x is (suc k) =
      let place : suc at - 1 ≡ at = omega arith in
      rw (place, next-same at k) (slice_get-set xs at x k (slice_get_within xs at y is))

  pub element-push : (xs : List A) (x : A) (m : ℕ) → element (xs ++ x ∷ []) m ≡ cond (length xs + 1 == m) (Some x) (element xs m)
  element-push xs x zero = rw (apart-above 0 (length xs + 1) (omega arith)) refl
  element-push xs x (suc k) =
      let next : length xs + 1 ≡ suc (length xs) = omega arith in
      rw (next, next-same (length xs) k) (slice_get-push xs x k)

  pub element-past : (xs : List A) (n : ℕ) → length xs < n → element xs n ≡ None
  element-past xs zero past = refl
  element-past [] (suc at) past = refl
  element-past (x ∷ xs) (suc zero) past = absurd (omega arith)
  element-past (x ∷ xs) (suc (suc at)) past = element-past xs (suc at) (omega arith)

pub element-map : {A B : Type 0} (f : A → B) (xs : List A) (n : ℕ) → element (map f xs) n ≡ option_map f (element xs n)
element-map f xs zero = refl
element-map f xs (suc at) = slice_get-map f xs at

-- WHAT IS LISTED
module _ {A B : Type 0} (f : ℕ → A → Option B) where
  pub listed-All : (P : B → Type 0) (n : ℕ) (xs : List A) → ((i : ℕ) (x : A) (y : B) → slice_get xs i ≡ Some x → f (n + i) x ≡ Some y → P y)
      → All P (listed f n xs)
  listed-All P n [] holds = All-nil P
  listed-All P n (x ∷ xs) holds = by (f n x) refl (listed-All P (suc n) xs (λ i y z is told. holds (suc i) y z is (ap (λ k. f k y) (next n i) ∙ told)))
    where
      next : (n i : ℕ) → n + suc i ≡ suc n + i
      next n i = omega arith

      here : (n : ℕ) → n + 0 ≡ n
      here n = omega arith

      by : (o : Option B) → f n x ≡ o → All P (listed f (suc n) xs) → All P (cons_option o (listed f (suc n) xs))
      by None is rest = rest
      by (Some y) is rest = All-cons P y (listed f (suc n) xs) (holds 0 x y refl (ap (λ k. f k x) (here n) ∙ is)) rest

  pub listed-push : (n : ℕ) (xs : List A) (x : A) → listed f n (xs ++ x ∷ []) ≡ listed f n xs ++ cons_option (f (n + length xs) x) []
  listed-push n [] x = ap (λ k. cons_option (f k x) []) (last n)
    where
      last : (n : ℕ) → n ≡ n + 0
      last n = omega arith
  listed-push n (y ∷ ys) x = by (f n y) (listed-push (suc n) ys x ∙ ap (λ k. listed f (suc n) ys ++ cons_option (f k x) []) (next n (length ys)))
    where
      next : (n m : ℕ) → suc n + m ≡ n + suc m
      next n m = omega arith

      by : (o : Option B) → listed f (suc n) (ys ++ x ∷ []) ≡ listed f (suc n) ys ++ cons_option (f (n + suc (length ys)) x) []
          → cons_option o (listed f (suc n) (ys ++ x ∷ [])) ≡ cons_option o (listed f (suc n) ys) ++ cons_option (f (n + suc (length ys)) x) []
      by None rest = rest
      by (Some z) rest = ap (λ zs. z ∷ zs) rest

  module _ (number : B → ℕ) (keeps : (n : ℕ) (x : A) (y : B) → f n x ≡ Some y → number y ≡ n) where
    listed-above : (n k : ℕ) (xs : List A) → k < n → All (λ y. k < number y) (listed f n xs)
    listed-above n k xs below = listed-All (λ y. k < number y) n xs (λ i x y is told. omega (arith, below, keeps (n + i) x y told))

    pub listed-rising : (n : ℕ) (xs : List A) → IsRising number (listed f n xs)
    listed-rising n [] = tt
    listed-rising n (x ∷ xs) = by (f n x) refl (listed-rising (suc n) xs)
      where
        by : (o : Option B) → f n x ≡ o → IsRising number (listed f (suc n) xs) → IsRising number (cons_option o (listed f (suc n) xs))
        by None is rest = rest
        by (Some y) is rest =
            let here : number y ≡ n = keeps n x y is in
            (listed-All (λ z. number y < number z) (suc n) xs (λ i v z at told. omega (arith, here, keeps (suc n + i) v z told)), rest)

    found-from : (n i : ℕ) (xs : List A) → found number (n + i) (listed f n xs) ≡ option_and_then (f (n + i)) (slice_get xs i)
    found-from n i [] = refl
    found-from n zero (x ∷ xs) = ap (λ k. found number k (listed f n (x ∷ xs))) (here n) ∙ by (f n x) refl ∙ ap (λ k. f k x) (sym (here n))
      where
        here : (n : ℕ) → n + 0 ≡ n
        here n = omega arith

        by : (o : Option B) → f n x ≡ o → found number n (cons_option o (listed f (suc n) xs)) ≡ f n x
        by None is = found-above number n (listed f (suc n) xs) (listed-above (suc n) n xs (omega arith)) ∙ sym is
        by (Some y) is = ap (λ b. cond b (Some y) (found number n (listed f (suc n) xs))) (ap (λ k. k == n) (keeps n x y is) ∙ same-self n) ∙ sym is
    found-from n (suc i) (x ∷ xs) = by (f n x) refl ∙ ap (λ k. found number k (listed f (suc n) xs)) (next n i) ∙ found-from (suc n) i xs
        ∙ ap (λ k. option_and_then (f k) (slice_get xs i)) (sym (next n i))
      where
        next : (n i : ℕ) → n + suc i ≡ suc n + i
        next n i = omega arith

        by : (o : Option B) → f n x ≡ o → found number (n + suc i) (cons_option o (listed f (suc n) xs)) ≡ found number (n + suc i) (listed f (suc n) xs)
        by None is = refl
        by (Some y) is =
            let here : number y ≡ n = keeps n x y is in
            found-later number (n + suc i) y (listed f (suc n) xs) (apart-below (number y) (n + suc i) (omega (arith, here)))

    pub found-listed : (m : ℕ) (xs : List A) → found number m (listed f 1 xs) ≡ option_and_then (f m) (element xs m)
    found-listed zero xs = found-above number 0 (listed f 1 xs) (listed-above 1 0 xs (omega arith))
    found-listed (suc at) xs = ap (λ k. found number k (listed f 1 xs)) (place at) ∙ found-from 1 at xs
        ∙ ap (λ k. option_and_then (f k) (slice_get xs at)) (sym (place at))
      where
        place : (at : ℕ) → suc at ≡ 1 + at
        place at = omega arith

    -- so it is the map of what it lists
    pub listed-map : (xs : List A) → as_map number (listed f 1 xs) ≡ listed f 1 xs
    listed-map xs = rising-map number (listed f 1 xs) (listed-rising 1 xs)

    -- AS THE LIST CHANGES
    -- two such maps are equal where they have the same under each number
    listed-same : (ys : List A) (zs : List B) → IsRising number zs → ((m : ℕ) → option_and_then (f m) (element ys m) ≡ found number m zs) → listed f 1 ys ≡ zs
    listed-same ys zs rises same = found-same number (listed f 1 ys) zs (listed-rising 1 ys) rises (λ m. found-listed m ys ∙ same m)

    -- one element more is listed as this
    pub listed-more : (xs : List A) (x : A) (y : B) → f (length xs + 1) x ≡ Some y → listed f 1 (xs ++ x ∷ []) ≡ with_record number y (listed f 1 xs)
    listed-more xs x y is =
        listed-same (xs ++ x ∷ []) (with_record number y (listed f 1 xs)) (rising-with_record number y (listed f 1 xs) (listed-rising 1 xs))
        (λ m. ap (option_and_then (f m)) (element-push xs x m) ∙ by m (length xs + 1 == m) refl
        ∙ ap (λ b. cond b (Some y) (option_and_then (f m) (element xs m))) (ap (λ k. k == m) (sym (keeps (length xs + 1) x y is)))
        ∙ ap (cond (number y == m) (Some y)) (sym (found-listed m xs)) ∙ sym (found-with_record number m y (listed f 1 xs)))
      where
        by : (m : ℕ) (b : Bool) → (length xs + 1 == m) ≡ b
            → option_and_then (f m) (cond b (Some x) (element xs m)) ≡ cond (length xs + 1 == m) (Some y) (option_and_then (f m) (element xs m))
        by m true same =
            ap (λ k. f k x) (sym (same-tells (length xs + 1) m same)) ∙ is ∙ sym (ap (λ b. cond b (Some y) (option_and_then (f m) (element xs m))) same)
        by m false apart = sym (ap (λ b. cond b (Some y) (option_and_then (f m) (element xs m))) apart)

    -- an element is listed as nothing any more
    pub listed-without : (xs : List A) (n : ℕ) (y x : A) → element xs n ≡ Some y → f n x ≡ None
        → listed f 1 (set xs (n - 1) x) ≡ filter (λ z. not (number z == n)) (listed f 1 xs)
    listed-without xs n y x there none =
        listed-same (set xs (n - 1) x) (filter (λ z. not (number z == n)) (listed f 1 xs))
        (rising-filter number (λ z. not (number z == n)) (listed f 1 xs) (listed-rising 1 xs))
        (λ m. ap (option_and_then (f m)) (element-set xs n y x there m) ∙ by m (n == m) refl
        ∙ ap (λ b. cond (not b) (option_and_then (f m) (element xs m)) None) (turned n m)
        ∙ ap (λ o. cond (not (m == n)) o None) (sym (found-listed m xs)) ∙ sym (found-filter number (λ k. not (k == n)) m (listed f 1 xs)))
      where
        by : (m : ℕ) (b : Bool) → (n == m) ≡ b
            → option_and_then (f m) (cond b (Some x) (element xs m)) ≡ cond (not (n == m)) (option_and_then (f m) (element xs m)) None
        by m true same =
            ap (λ k. f k x) (sym (same-tells n m same)) ∙ none ∙ sym (ap (λ b. cond (not b) (option_and_then (f m) (element xs m)) None) same)
        by m false apart = sym (ap (λ b. cond (not b) (option_and_then (f m) (element xs m)) None) apart)

    -- an element is listed as what it was, changed
    pub listed-changed : (change : B → B) → ((z : B) → number (change z) ≡ number z) → (xs : List A) (n : ℕ) (y x : A) → element xs n ≡ Some y
        → f n x ≡ option_map change (f n y)
        → listed f 1 (set xs (n - 1) x) ≡ map (λ z. cond (number z == n) (change z) z) (listed f 1 xs)
    listed-changed change same xs n y x there is =
        listed-same (set xs (n - 1) x) (map changes (listed f 1 xs)) (rising-changed number changes same-number (listed f 1 xs) (listed-rising 1 xs))
        (λ m. ap (option_and_then (f m)) (element-set xs n y x there m) ∙ by m (n == m) refl
        ∙ ap (option_map changes) (sym (found-listed m xs)) ∙ sym (found-changed number changes same-number m (listed f 1 xs)))
      where
        changes : B → B
        changes z = cond (number z == n) (change z) z

        same-number : (z : B) → number (changes z) ≡ number z
        same-number z = case (number z == n)
          where
            case : (b : Bool) → number (cond b (change z) z) ≡ number z
            case true = same z
            case false = refl

        -- what is listed under a number is changed where this is the one
        each : (m : ℕ) (a : A) (b : Bool) (o : Option B) → f m a ≡ o → (m == n) ≡ b → option_map (λ z. cond b (change z) z) o ≡ option_map changes o
        each m a b None told tests = refl
        each m a b (Some z) told tests = ap (λ c. Some (cond c (change z) z)) (sym tests ∙ ap (λ k. k == n) (sym (keeps m a z told)))

        stays : (m : ℕ) (o : Option A) → (m == n) ≡ false → option_and_then (f m) o ≡ option_map changes (option_and_then (f m) o)
        stays m None apart = refl
        stays m (Some a) apart = kept (f m a) ∙ each m a false (f m a) refl apart
          where
            kept : (o : Option B) → o ≡ option_map (λ z. z) o
            kept None = refl
            kept (Some z) = refl

        by : (m : ℕ) (b : Bool) → (n == m) ≡ b
            → option_and_then (f m) (cond b (Some x) (element xs m)) ≡ option_map changes (option_and_then (f m) (element xs m))
        by m true tests =
            let here : n ≡ m = same-tells n m tests in
            ap (λ k. f k x) (sym here) ∙ is ∙ each n y true (f n y) refl (same-self n)
            ∙ ap (λ o. option_map changes (option_and_then (f n) o)) (sym there) ∙ ap (λ k. option_map changes (option_and_then (f k) (element xs k))) here
        by m false apart = stays m (element xs m) (turned m n ∙ apart)
