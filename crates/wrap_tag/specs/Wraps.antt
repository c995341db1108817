-- What is attached to values, and for how many attachments more memory was taken.
use Rattle.std.specs.Prelude.{ℕ, ◌≤◌, Bool, List, map, length}
use Rattle.std.specs.List.{All}
use Rattle.napi_types.specs.declared.ids.ValueId.{ValueId}
use Rattle.napi_types.specs.plain.Lists.{has_number}
use Rattle.napi_types.specs.parts.Attachments.{Attachments}
use Rattle.napi_types.specs.parts.Book.{Book}

-- the three maps, and how many attachments are added before memory is taken
pub record WrapState : Type 0 where
  pub attachments : Attachments
  pub spare : ℕ

-- the book gave each of these tickets
abbrev pub AreGiven : List ℕ → Book → Type 0
AreGiven tickets book = All (λ n. (1 ≤ n) × (n ≤ length book)) tickets

-- a value is one of these
abbrev pub is_one_of : List ValueId → ℕ → Bool
is_one_of values v = has_number v (map (λ f. f.0) values)
