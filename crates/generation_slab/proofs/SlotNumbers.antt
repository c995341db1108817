-- A number is a generation and a slot, and one slot's change leaves what has the numbers of others.
use Rattle.std.proofs.Common.{◌≡◌, ◌≢◌, ◌∙◌, ℕ, zero, suc, ◌+◌, ◌*◌, ◌<◌, ◌/◌, ◌%◌, ◌==◌, ◌||◌, Bool, true, false, not, nat_lt, cond, List, refl, ap, sym, arith, Option, Some, None}
use Rattle.std.proofs.lemmas.Bool.Decides.{nat_tests}
use Rattle.napi_types.proofs.plain.Found.{same-tells}
use Rattle.generation_slab.specs.SlotNumbers.{number_of_slot, generation_in, value_in, given_in, value_at, is_issued}

-- two numbers are apart where the test says so
pub tests-apart : (m n : ℕ) → ((m == n) ≡ false → m ≢ n) × (m ≢ n → (m == n) ≡ false)
tests-apart m n = (λ told same. tells m n told same, λ apart. by (m == n) refl apart)
  where
    tells : (m n : ℕ) → (m == n) ≡ false → m ≡ n → ⊥
    tells m n apart same = grind (arith, nat_tests)

    by : (b : Bool) → (m == n) ≡ b → m ≢ n → b ≡ false
    by true is apart = absurd (apart (same-tells m n is))
    by false is apart = refl

pub test-same : (m n : ℕ) → m ≡ n → (m == n) ≡ true
test-same m n same = grind (arith, nat_tests)

-- NUMBERS
pub slot-of : (g k : ℕ) → k < 281474976710656 → (g * 281474976710656 + k) % 281474976710656 ≡ k
slot-of g k below = omega arith

pub generation-of : (g k : ℕ) → k < 281474976710656 → (g * 281474976710656 + k) / 281474976710656 ≡ g
generation-of g k below = omega arith

pub slot-below : (at : ℕ) → at % 281474976710656 < 281474976710656
slot-below at = omega arith

pub parted : (at : ℕ) → suc at ≡ number_of_slot (at / 281474976710656) (at % 281474976710656)
parted at = omega arith

pub apart-slots : (g k h j : ℕ) → k < 281474976710656 → j < 281474976710656 → k ≢ j → (number_of_slot g k == number_of_slot h j) ≡ false
apart-slots g k h j small below apart = (tests-apart (number_of_slot g k) (number_of_slot h j)).1 (λ same. apart (omega (arith, same, small, below)))

pub one-slot : (g h k : ℕ) → (number_of_slot g k == number_of_slot h k) ≡ (g == h)
one-slot g h k = by (g == h) refl
  where
    by : (b : Bool) → (g == h) ≡ b → (number_of_slot g k == number_of_slot h k) ≡ b
    by true is = let same : g ≡ h = same-tells g h is in test-same (number_of_slot g k) (number_of_slot h k) (ap (λ m. number_of_slot m k) same)
    by false is = (tests-apart (number_of_slot g k) (number_of_slot h k)).1 (λ same. (tests-apart g h).0 is (omega (arith, same)))

pub no-number : (g k : ℕ) → (number_of_slot g k == 0) ≡ false
no-number g k = (tests-apart (number_of_slot g k) 0).1 (λ same. omega (arith, same))

-- ONE SLOT CHANGES
module _ {T : Type 0} (old new : ℕ → Option T) (olds news : List ℕ) (key g : ℕ) (below : key < 281474976710656)
    (others : (k : ℕ) → k ≢ key → new k ≡ old k) (same : (k : ℕ) → k ≢ key → generation_in news k ≡ generation_in olds k)
    (here : generation_in olds key ≡ g) where
  -- the number of the slot in the generation that it had
  tells : (at : ℕ) → at % 281474976710656 ≡ key → (number_of_slot g key == suc at) ≡ (g == at / 281474976710656)
  tells at is =
      ap (λ n. number_of_slot g key == n) (parted at) ∙ ap (λ k. number_of_slot g key == number_of_slot (at / 281474976710656) k) is
      ∙ one-slot g (at / 281474976710656) key

  other : (at : ℕ) → at % 281474976710656 ≢ key → (number_of_slot g key == suc at) ≡ false
  other at apart =
      ap (λ n. number_of_slot g key == n) (parted at) ∙ apart-slots g key (at / 281474976710656) (at % 281474976710656) below (slot-below at) (λ is. apart (sym is))

  pub value-changed : (x : Option T)
      → ((a : ℕ) → value_in (new key) (generation_in news key) a ≡ cond (g == a) x (value_in (old key) g a))
      → (n : ℕ) → value_at new news n ≡ cond (number_of_slot g key == n) x (value_at old olds n)
  value-changed x change zero = sym (ap (λ b. cond b x None) (no-number g key))
  value-changed x change (suc at) = by (at % 281474976710656 == key) refl
    where
      by : (b : Bool) → (at % 281474976710656 == key) ≡ b → value_at new news (suc at) ≡ cond (number_of_slot g key == suc at) x (value_at old olds (suc at))
      by true is =
          let k : at % 281474976710656 ≡ key = same-tells (at % 281474976710656) key is in
          ap (λ s. value_in (new s) (generation_in news s) (at / 281474976710656)) k ∙ change (at / 281474976710656)
          ∙ ap (λ b. cond b x (value_in (old key) g (at / 281474976710656))) (sym (tells at k))
          ∙ ap (λ m. cond (number_of_slot g key == suc at) x (value_in (old key) m (at / 281474976710656))) (sym here)
          ∙ ap (λ s. cond (number_of_slot g key == suc at) x (value_in (old s) (generation_in olds s) (at / 281474976710656))) (sym k)
      by false is =
          let apart = (tests-apart (at % 281474976710656) key).0 is in
          ap (λ o. value_in o (generation_in news (at % 281474976710656)) (at / 281474976710656)) (others (at % 281474976710656) apart)
          ∙ ap (λ m. value_in (old (at % 281474976710656)) m (at / 281474976710656)) (same (at % 281474976710656) apart)
          ∙ ap (λ b. cond b x (value_at old olds (suc at))) (sym (other at apart))

  pub issued-more : ((a : ℕ) → given_in (new key) (generation_in news key) a ≡ ((g == a) || given_in (old key) g a))
      → (n : ℕ) → is_issued new news n ≡ ((number_of_slot g key == n) || is_issued old olds n)
  issued-more change zero = sym (ap (λ b. b || false) (no-number g key))
  issued-more change (suc at) = by (at % 281474976710656 == key) refl
    where
      by : (b : Bool) → (at % 281474976710656 == key) ≡ b → is_issued new news (suc at) ≡ ((number_of_slot g key == suc at) || is_issued old olds (suc at))
      by true is =
          let k : at % 281474976710656 ≡ key = same-tells (at % 281474976710656) key is in
          ap (λ s. given_in (new s) (generation_in news s) (at / 281474976710656)) k ∙ change (at / 281474976710656)
          ∙ ap (λ b. b || given_in (old key) g (at / 281474976710656)) (sym (tells at k))
          ∙ ap (λ m. (number_of_slot g key == suc at) || given_in (old key) m (at / 281474976710656)) (sym here)
          ∙ ap (λ s. (number_of_slot g key == suc at) || given_in (old s) (generation_in olds s) (at / 281474976710656)) (sym k)
      by false is =
          let apart = (tests-apart (at % 281474976710656) key).0 is in
          ap (λ o. given_in o (generation_in news (at % 281474976710656)) (at / 281474976710656)) (others (at % 281474976710656) apart)
          ∙ ap (λ m. given_in (old (at % 281474976710656)) m (at / 281474976710656)) (same (at % 281474976710656) apart)
          ∙ ap (λ b. b || is_issued old olds (suc at)) (sym (other at apart))

  pub issued-same : ((a : ℕ) → given_in (new key) (generation_in news key) a ≡ given_in (old key) g a) → (n : ℕ) → is_issued new news n ≡ is_issued old olds n
  issued-same change zero = refl
  issued-same change (suc at) = by (at % 281474976710656 == key) refl
    where
      by : (b : Bool) → (at % 281474976710656 == key) ≡ b → is_issued new news (suc at) ≡ is_issued old olds (suc at)
      by true is =
          let k : at % 281474976710656 ≡ key = same-tells (at % 281474976710656) key is in
          ap (λ s. given_in (new s) (generation_in news s) (at / 281474976710656)) k ∙ change (at / 281474976710656)
          ∙ ap (λ m. given_in (old key) m (at / 281474976710656)) (sym here)
          ∙ ap (λ s. given_in (old s) (generation_in olds s) (at / 281474976710656)) (sym k)
      by false is =
          let apart = (tests-apart (at % 281474976710656) key).0 is in
          ap (λ o. given_in o (generation_in news (at % 281474976710656)) (at / 281474976710656)) (others (at % 281474976710656) apart)
          ∙ ap (λ m. given_in (old (at % 281474976710656)) m (at / 281474976710656)) (same (at % 281474976710656) apart)

-- WHAT A SLOT COMES TO
module _ {T : Type 0} where
  -- a value is put where nothing was, in the place of another, and nothing where one was
  pub put-value : (o : Option T) (v : T) → ((a : ℕ) (g : ℕ) → (g == a) ≡ false → value_in o g a ≡ None) → (g a : ℕ)
      → value_in (Some v) g a ≡ cond (g == a) (Some v) (value_in o g a)
  put-value o v other g a = by (g == a) refl
    where
      by : (b : Bool) → (g == a) ≡ b → cond b (Some v) None ≡ cond b (Some v) (value_in o g a)
      by true is = refl
      by false is = sym (other a g is)

  pub taken-value : (o : Option T) → ((a : ℕ) (g : ℕ) → (g == a) ≡ false → value_in o g a ≡ None) → (g a : ℕ) → None ≡ cond (g == a) None (value_in o g a)
  taken-value o other g a = by (g == a) refl
    where
      by : (b : Bool) → (g == a) ≡ b → None ≡ cond b None (value_in o g a)
      by true is = refl
      by false is = sym (other a g is)

  -- a slot has nothing at another generation than its own
  pub other-generation : (o : Option T) (a g : ℕ) → (g == a) ≡ false → value_in o g a ≡ None
  other-generation None a g apart = refl
  other-generation (Some v) a g apart = ap (λ b. cond b (Some v) None) apart

pub given-taken : (g a : ℕ) → not (nat_lt g a) ≡ ((g == a) || nat_lt a g)
given-taken g a = grind (arith, nat_tests)

pub given-back : (g a : ℕ) → nat_lt a (g + 1) ≡ not (nat_lt g a)
given-back g a = grind (arith, nat_tests)

pub given-next : (g a : ℕ) → nat_lt a (suc g) ≡ not (nat_lt g a)
given-next g a = grind (arith, nat_tests)
