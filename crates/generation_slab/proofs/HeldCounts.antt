-- How many slots hold something.
use Rattle.std.proofs.Common.{◌≡◌, ◌≢◌, ◌∙◌, ℕ, zero, suc, ◌+◌, ◌<◌, ◌≤◌, ◌==◌, Bool, true, false, List, [], ◌∷◌, length, Option, Some, None, refl, ap, sym, arith}
use Rattle.napi_types.proofs.plain.Found.{same-tells}
use Rattle.generation_slab.specs.HeldPlaces.{standing}
use Rattle.generation_slab.specs.SlotNumbers.{standing_in, places_from}
use Rattle.generation_slab.proofs.SlotNumbers.{tests-apart}

module _ {T : Type 0} where
  abbrev pub one_if : Option T → ℕ
  one_if None = 0
  one_if (Some v) = 1

  abbrev pub added : Option T → ℕ → ℕ
  added None n = n
  added (Some v) n = suc n

  added-is : (o : Option T) (n : ℕ) → added o n ≡ one_if o + n
  added-is None n = omega arith
  added-is (Some v) n = omega arith

  -- how many of so many slots, from this one on, hold something
  abbrev pub many : (ℕ → Option T) → ℕ → ℕ → ℕ
  many live k zero = 0
  many live k (suc m) = added (live k) (many live (suc k) m)

  pub length-standing : (live : ℕ → Option T) (k : ℕ) (gs : List ℕ) → length (standing (places_from live k gs)) ≡ many live k (length gs)
  length-standing live k [] = refl
  length-standing live k (g ∷ gs) = by (live k) (length-standing live (suc k) gs)
    where
      by : (o : Option T) → length (standing (places_from live (suc k) gs)) ≡ many live (suc k) (length gs)
          → length (standing (standing_in g k o ∷ places_from live (suc k) gs)) ≡ added o (many live (suc k) (length gs))
      by None rest = rest
      by (Some v) rest = ap suc rest

  pub many-short : (live : ℕ → Option T) (k m : ℕ) → many live k m ≤ m
  many-short live k zero = omega arith
  many-short live k (suc m) = by (live k) (many-short live (suc k) m)
    where
      by : (o : Option T) → many live (suc k) m ≤ m → added o (many live (suc k) m) ≤ suc m
      by None rest = omega (arith, rest)
      by (Some v) rest = omega (arith, rest)

  many-none : (live : ℕ → Option T) (k m : ℕ) → ((j : ℕ) → k ≤ j → live j ≡ None) → many live k m ≡ 0
  many-none live k zero none = refl
  many-none live k (suc m) none = ap (λ o. added o (many live (suc k) m)) (none k (omega arith)) ∙ many-none live (suc k) m (λ j past. none j (omega (arith, past)))

  -- slots past those that hold something add nothing
  pub many-more : (live : ℕ → Option T) (k m n : ℕ) → m ≤ n → ((j : ℕ) → k + m ≤ j → live j ≡ None) → many live k n ≡ many live k m
  many-more live k zero n short none = many-none live k n (λ j past. none j (omega (arith, past)))
  many-more live k (suc m) zero short none = absurd (omega (arith, short))
  many-more live k (suc m) (suc n) short none = ap (added (live k)) (many-more live (suc k) m n (omega (arith, short)) (λ j past. none j (omega (arith, past))))

  many-same : (old new : ℕ → Option T) (k m : ℕ) → ((j : ℕ) → k ≤ j → new j ≡ old j) → many new k m ≡ many old k m
  many-same old new k zero same = refl
  many-same old new k (suc m) same =
      ap (λ o. added o (many new (suc k) m)) (same k (omega arith)) ∙ ap (added (old k)) (many-same old new (suc k) m (λ j past. same j (omega (arith, past))))

  -- one slot changes
  pub many-change : (old new : ℕ → Option T) (key k m : ℕ) → k ≤ key → key < k + m → ((j : ℕ) → j ≢ key → new j ≡ old j)
      → many new k m + one_if (old key) ≡ many old k m + one_if (new key)
  many-change old new key k zero low high others = absurd (omega (arith, low, high))
  many-change old new key k (suc m) low high others =
      by (k == key) refl (λ apart. many-change old new key (suc k) m (above k key low apart) (omega (arith, high)) others)
    where
      here : (a b r s : ℕ) → r ≡ s → (a + r) + b ≡ (b + s) + a
      here a b r s same = omega (arith, same)

      later : (a b r s x y : ℕ) → a ≡ b → r + x ≡ s + y → (a + r) + x ≡ (b + s) + y
      later a b r s x y first rest = omega (arith, first, rest)

      above : (k key : ℕ) → k ≤ key → (k ≡ key → ⊥) → suc k ≤ key
      above k key low apart = grind arith

      sums : (one_if (new k) + many new (suc k) m) + one_if (old key) ≡ (one_if (old k) + many old (suc k) m) + one_if (new key)
          → many new k (suc m) + one_if (old key) ≡ many old k (suc m) + one_if (new key)
      sums same =
          ap (λ n. n + one_if (old key)) (added-is (new k) (many new (suc k) m)) ∙ same ∙ sym (ap (λ n. n + one_if (new key)) (added-is (old k) (many old (suc k) m)))

      by : (b : Bool) → (k == key) ≡ b → ((k ≡ key → ⊥) → many new (suc k) m + one_if (old key) ≡ many old (suc k) m + one_if (new key))
          → many new k (suc m) + one_if (old key) ≡ many old k (suc m) + one_if (new key)
      by true is more =
          let same : k ≡ key = same-tells k key is in
          let rest : many new (suc k) m ≡ many old (suc k) m = many-same old new (suc k) m (λ j past. others j (λ at. omega (arith, at, past, same))) in
          sums
          (ap (λ j. (one_if (new j) + many new (suc k) m) + one_if (old key)) same
          ∙ here (one_if (new key)) (one_if (old key)) (many new (suc k) m) (many old (suc k) m) rest
          ∙ ap (λ j. (one_if (old j) + many old (suc k) m) + one_if (new key)) (sym same))
      by false is more =
          let apart = (tests-apart k key).0 is in
          sums (later (one_if (new k)) (one_if (old k)) (many new (suc k) m) (many old (suc k) m) (one_if (old key)) (one_if (new key)) (ap one_if (others k apart)) (more apart))

  -- the counts of two lists of places
  pub counted-more : (old new : ℕ → Option T) (olds news : List ℕ) (key c : ℕ) (v : T) → key < length news → length olds ≤ length news → ((j : ℕ) → length olds ≤ j → old j ≡ None)
      → old key ≡ None → new key ≡ Some v → ((j : ℕ) → j ≢ key → new j ≡ old j) → c ≡ length (standing (places_from old 0 olds)) → c + 1 ≡ length (standing (places_from new 0 news))
  counted-more old new olds news key c v within longer empty was is others counted =
      added c (many old 0 (length olds)) (many old 0 (length news)) (many new 0 (length news)) (counted ∙ length-standing old 0 olds)
      (many-more old 0 (length olds) (length news) longer (λ j past. empty j (omega (arith, past))))
      (ap (λ o. many new 0 (length news) + one_if o) (sym was) ∙ many-change old new key 0 (length news) (omega arith) (omega (arith, within)) others ∙ ap (λ o. many old 0 (length news) + one_if o) is)
      ∙ sym (length-standing new 0 news)
    where
      added : (c a b n : ℕ) → c ≡ a → b ≡ a → n + 0 ≡ b + 1 → c + 1 ≡ n
      added c a b n one two three = omega (arith, one, two, three)

  pub counted-less : (old new : ℕ → Option T) (olds news : List ℕ) (key c : ℕ) (v : T) → key < length olds → length news ≡ length olds
      → old key ≡ Some v → new key ≡ None → ((j : ℕ) → j ≢ key → new j ≡ old j) → c ≡ length (standing (places_from old 0 olds)) → c ≡ length (standing (places_from new 0 news)) + 1
  counted-less old new olds news key c v within long was is others counted =
      less c (many old 0 (length olds)) (many new 0 (length olds)) (counted ∙ length-standing old 0 olds)
      (ap (λ o. many new 0 (length olds) + one_if o) (sym was) ∙ many-change old new key 0 (length olds) (omega arith) (omega (arith, within)) others ∙ ap (λ o. many old 0 (length olds) + one_if o) is)
      ∙ ap (λ m. many new 0 m + 1) (sym long) ∙ ap (λ n. n + 1) (sym (length-standing new 0 news))
    where
      less : (c a n : ℕ) → c ≡ a → n + 1 ≡ a + 0 → c ≡ n + 1
      less c a n one two = omega (arith, one, two)

  pub counted-same : (old new : ℕ → Option T) (gs : List ℕ) (key c : ℕ) (v w : T) → key < length gs
      → old key ≡ Some v → new key ≡ Some w → ((j : ℕ) → j ≢ key → new j ≡ old j) → c ≡ length (standing (places_from old 0 gs)) → c ≡ length (standing (places_from new 0 gs))
  counted-same old new gs key c v w within was is others counted =
      same c (many old 0 (length gs)) (many new 0 (length gs)) (counted ∙ length-standing old 0 gs)
      (ap (λ o. many new 0 (length gs) + one_if o) (sym was) ∙ many-change old new key 0 (length gs) (omega arith) (omega (arith, within)) others ∙ ap (λ o. many old 0 (length gs) + one_if o) is)
      ∙ sym (length-standing new 0 gs)
    where
      same : (c a n : ℕ) → c ≡ a → n + 1 ≡ a + 1 → c ≡ n
      same c a n one two = omega (arith, one, two)

  pub count-fits : (live : ℕ → Option T) (gs : List ℕ) (c : ℕ) → length gs < 281474976710656 → c ≡ length (standing (places_from live 0 gs)) → c < 281474976710656
  count-fits live gs c few counted = omega (arith, few, counted, length-standing live 0 gs, many-short live 0 (length gs))
