-- The table of a script's texts.
use Rattle.std.specs.Prelude.{◌≡◌, ℕ, List, [], ◌∷◌, ◌++◌, codes, take, slice_get, Option, Some, length, bytes_eq, unwrap_or, is_some, if◌then◌else◌}
use Rattle.std.specs.List.{position_from}

-- the three texts that every table begins with
abbrev pub fixed_texts : List (List ℕ)
fixed_texts = codes "message" ∷ codes "code" ∷ codes "stack depth" ∷ []

-- their numbers in every table: those that name the properties of an error, and the message of the error at the depth limit
abbrev pub message_text : ℕ
message_text = 0

abbrev pub code_text : ℕ
code_text = 1

abbrev pub depth_text : ℕ
depth_text = 2

-- each text stands once, and the fixed ones come first
pub record IsTextTable (texts : List (List ℕ)) : Type 0 where
  pub fixed : take 3 texts ≡ fixed_texts
  pub distinct : (i j : ℕ) (text : List ℕ) → slice_get texts i ≡ Some text → slice_get texts j ≡ Some text → i ≡ j

-- the place of a text in a table, none where it does not stand there
abbrev pub place_of : List (List ℕ) → List ℕ → Option ℕ
place_of table text = position_from (λ known. bytes_eq text known) 0 table

-- the number of a text: its place in the table, which is the next one where it does not stand there yet
unfoldable pub text_number : List (List ℕ) → List ℕ → ℕ
text_number table text = unwrap_or (place_of table text) (length table)

-- the table with a text, which goes last where it does not stand there yet
unfoldable pub with_text : List (List ℕ) → List ℕ → List (List ℕ)
with_text table text = if is_some (place_of table text) then table else table ++ text ∷ []
