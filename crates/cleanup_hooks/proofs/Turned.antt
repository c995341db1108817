-- Two functions stay each other turned round where one pair more is put into both, or taken out of both.
use Rattle.std.proofs.Common.{◌≡◌, ◌∙◌, Bool, true, false, cond, Some, None, Option, refl, ap, sym, Decides}

module _ {A B : Type 0} (same_a : A → A → Bool) (same_b : B → B → Bool) (decides_a : (x y : A) → Decides (same_a x y) (x ≡ y)) (decides_b : (x y : B) → Decides (same_b x y) (x ≡ y))
    (f new_f : A → Option B) (g new_g : B → Option A) (a : A) (b : B) where
  -- a is put at b, where nothing was
  pub turned-put : ((x : A) (y : B) → f x ≡ Some y → g y ≡ Some x) → g b ≡ None
      → ((x : A) → new_f x ≡ cond (same_a a x) (Some b) (f x)) → ((y : B) → new_g y ≡ cond (same_b b y) (Some a) (g y))
      → (x : A) (y : B) → new_f x ≡ Some y → new_g y ≡ Some x
  turned-put turned none put_f put_g x y is = put_g y ∙ by (same_a a x) refl (same_b b y) refl (sym (put_f x) ∙ is)
    where
      by : (s : Bool) → same_a a x ≡ s → (t : Bool) → same_b b y ≡ t → cond s (Some b) (f x) ≡ Some y → cond t (Some a) (g y) ≡ Some x
      by true at true found told = ap Some ((decides_a a x).0 at)
      by true at false found told = let same : b ≡ y = cc in let yes = (decides_b b y).1 same in let no : ⊥ = cc in absurd no
      by false at true found told = let same = (decides_b b y).0 found in let there = turned x y told in let no : ⊥ = cc in absurd no
      by false at false found told = turned x y told

  -- a is taken out with b, which was at it
  pub turned-taken : ((x : A) (y : B) → f x ≡ Some y → g y ≡ Some x) → g b ≡ Some a
      → ((x : A) → new_f x ≡ cond (same_a a x) None (f x)) → ((y : B) → new_g y ≡ cond (same_b b y) None (g y))
      → (x : A) (y : B) → new_f x ≡ Some y → new_g y ≡ Some x
  turned-taken turned there put_f put_g x y is = put_g y ∙ by (same_a a x) refl (same_b b y) refl (sym (put_f x) ∙ is)
    where
      by : (s : Bool) → same_a a x ≡ s → (t : Bool) → same_b b y ≡ t → cond s None (f x) ≡ Some y → cond t None (g y) ≡ Some x
      by true at t found told = let no : ⊥ = cc in absurd no
      by false at true found told =
          let same = (decides_b b y).0 found in
          let stood = turned x y told in
          let whole : a ≡ x = cc in
          let yes = (decides_a a x).1 whole in
          let no : ⊥ = cc in absurd no
      by false at false found told = turned x y told
