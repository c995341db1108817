-- The operation of a name stands among those of which the name has its length; texts with other last letters are others.
use Rattle.std.proofs.Common.{◌≡◌, ℕ, List, [], ◌∷◌, length, refl, ap, cond, true, false, Bool, Some, bytes_eq, nat_eq, arith}
use Rattle.std.proofs.lemmas.Slice.Eq.{bytes_eq-Decides}
use Rattle.std.proofs.lemmas.Grind.{common_steps}
use Rattle.std.specs.List.{filter, find}
use Rattle.napi_types.specs.declared.op.Op.{Op}
use Rattle.napi_types.specs.scripts.ScriptOperations.{named, operation_name}
use Rattle.script_read.specs.Lengths.{with_length, last_letter}

-- the first that passes a test, among those that pass a weaker one
find-step : {X : Type 0} (p : X → Bool) (x : X) (b : Bool) (all kept : List X) → (p x ≡ true → b ≡ true) → find p all ≡ find p kept
    → find p (x ∷ all) ≡ find p (cond b (x ∷ kept) kept)
find-step p x true all kept weaker same = ap (λ rest. cond (p x) (Some x) rest) same
find-step p x false all kept weaker same = grind (arith, common_steps)

find-among : {X : Type 0} (p q : X → Bool) → ((x : X) → p x ≡ true → q x ≡ true) → (xs : List X) → find p xs ≡ find p (filter q xs)
find-among p q weaker [] = refl
find-among p q weaker (x ∷ xs) = find-step p x (q x) xs (filter q xs) (weaker x) (find-among p q weaker xs)

same-length : (known name : List ℕ) → bytes_eq known name ≡ true → nat_eq (length known) (length name) ≡ true
same-length known name same = grind (arith, common_steps, bytes_eq-Decides known name)

-- an operation has a name only if it has a name of this length
pub by_length : (name : List ℕ) (ops : List Op) → named name ops ≡ named name (with_length (length name) ops)
unfolding named
by_length name ops =
    find-among (λ o. bytes_eq (operation_name o) name) (λ o. nat_eq (length (operation_name o)) (length name)) (λ o same. same-length (operation_name o) name same) ops

-- a text with another last letter is another text
pub other_last_letter : (known name : List ℕ) → (last_letter name ≡ last_letter known → ⊥) → bytes_eq known name ≡ false
other_last_letter known name other = grind (arith, common_steps, bytes_eq-Decides known name)
