-- Reading a part of a script: what it is, or the first thing that is wrong with it.
use Rattle.std.specs.Prelude.{◌≡◌, ℕ, ◌+◌, nat_le, if◌then◌else◌, Bool, true, false, List, [], ◌∷◌, Option, Some, None, option_and_then, IsUtf8}
use Rattle.std.specs.declared.result.Result.{Result}
use Rattle.std.specs.declared.result.Result.TheVariants.{Ok, Err}
use Rattle.serde_json.specs.Data.{Data, Items, no_items, item}
use Rattle.serde_json.specs.Find.{as_array}
use Rattle.serde_json.specs.Events.{items_len}
use Rattle.serde_json.specs.Read.{read}
use Rattle.napi_types.specs.declared.script.ScriptPart.{ScriptPart}
use Rattle.napi_types.specs.declared.script.LimitName.{LimitName}
use Rattle.napi_types.specs.declared.script.Mistake.{Mistake}
use Rattle.napi_types.specs.declared.script.Mistake.TheVariants as wrong

-- THE JSON TEXT
-- the bytes are a JSON text of this value
abbrev pub IsJson : List ℕ → Data → Type 0
IsJson bytes d = IsUtf8 bytes × (read bytes ≡ Some d)

-- the bytes are a JSON text of no value
abbrev pub IsNoJson : List ℕ → Type 0
IsNoJson bytes = IsUtf8 bytes → read bytes ≡ None

-- READING
-- what was read, or the first thing that is wrong
abbrev pub Reading : Type 0 → Type 0
Reading A = Result A Mistake

-- in a `do` block: the first thing that is wrong, else what follows
infixl 10 ◌>>=◌
abbrev pub ◌>>=◌ : {A B : Type 0} → Reading A → (A → Reading B) → Reading B
(Ok a) >>= f = f a
(Err w) >>= f = Err w

-- a part that has its form
abbrev pub formed : {A : Type 0} → ScriptPart → Option A → Reading A
formed place (Some a) = Ok a
formed place None = Err (wrong.Shape place)

-- a test that a part has its form
abbrev pub when_formed : ScriptPart → Bool → Reading (Unit {0})
when_formed place true = Ok tt
when_formed place false = Err (wrong.Shape place)

-- a number within its limit
abbrev pub within_limit : LimitName → ℕ → ℕ → Reading (Unit {0})
within_limit which most n = if nat_le n most then Ok tt else Err (wrong.Limit which)

-- the items of an array with at most so many
unfoldable pub list_at : ScriptPart → LimitName → ℕ → Option Data → Reading Items
list_at place which most found = do
  ds ← formed place (option_and_then as_array found)
  _ ← within_limit which most (items_len ds)
  Ok ds

-- what each item is, with its place in the list
unfoldable pub every : {A : Type 0} → (ℕ → Data → Reading A) → ℕ → Items → Reading (List A)
every f n no_items = Ok []
every f n (item d ds) = do
  a ← f n d
  rest ← every f (n + 1) ds
  Ok (a ∷ rest)

-- the texts of a table
abbrev pub Table : Type 0
Table = List (List ℕ)

-- something that was read, with the table of the texts up to there
pub record Read (A : Type 0) : Type 0 where
  pub found : A
  pub texts : Table

-- something that was read, with a table
abbrev pub read_with : {A : Type 0} → Table → A → Read A
read_with table a = record { found = a; texts = table }

-- what each item is, where the table grows from item to item
unfoldable pub each : {A : Type 0} → (ℕ → Table → Data → Reading (Read A)) → ℕ → Table → Items → Reading (Read (List A))
each f n table no_items = Ok (read_with table [])
each f n table (item d ds) = do
  a ← f n table d
  rest ← each f (n + 1) a.texts ds
  Ok (read_with rest.texts (a.found ∷ rest.found))
