-- Lists whose elements have numbers, counted from 1.
use Rattle.std.specs.Prelude.{ℕ, zero, suc, List, [], ◌∷◌, Option, None}
use Rattle.std.specs.List.{slice_get, cons_option}

-- the element of a number
abbrev pub element : {A : Type 0} → List A → ℕ → Option A
element xs zero = None
element xs (suc at) = slice_get xs at

-- what elements are listed as, some not at all, where their numbers count up from this one
abbrev pub listed : {A B : Type 0} → (ℕ → A → Option B) → ℕ → List A → List B
listed f n [] = []
listed f n (x ∷ xs) = cons_option (f n x) (listed f (suc n) xs)
