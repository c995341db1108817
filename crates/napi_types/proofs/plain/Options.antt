-- What may be absent, and what holds at an error.
use Rattle.std.proofs.Common.{◌≡◌, true, false, Option, Some, None, is_some, Result, Ok, Err, OnErr, refl}

-- what is there is something
pub some-of : {A : Type 0} (o : Option A) → is_some o ≡ true → (x : A) × (o ≡ Some x)
some-of None is = let no : ⊥ = cc in absurd no
some-of (Some x) is = (x, refl)

-- what is not there is none
pub none-of : {A : Type 0} (o : Option A) → is_some o ≡ false → o ≡ None
none-of None is = refl
none-of (Some x) is = let no : ⊥ = cc in absurd no

-- what holds anyhow holds at an error
pub at-err : {A E : Type 0} {P : Type 0} (r : Result A E) → P → OnErr r P
at-err (Ok x) holds = tt
at-err (Err e) holds = holds
