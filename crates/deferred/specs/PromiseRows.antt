-- How the three tables stand for promises and deferreds.
use Rattle.std.specs.Prelude.{◌≡◌, ℕ, ◌≤◌, ◌==◌, nat_eq, ◌||◌, is_some, Bool, true, false, not, List, [], ◌∷◌, ◌++◌, map, filter, Option, Some, None, option_map}
use Rattle.std.specs.Map.{lookup}
use Rattle.std.specs.Option.{unwrap_or, option_and_then, option_map_or}
use Rattle.napi_types.specs.plain.Lists.{has_number, is_empty, as_map, up_to}
use Rattle.napi_types.specs.parts.Promises.{Promise, Deferred, Promises}
use Rattle.deferred.specs.declared.row.PromiseRow.{PromiseRow}

-- ONE PROMISE
-- what a row tells: the state of the promise, the number of its deferred until that is settled, and its reactions
pub record RowOf : Type 0 where
  pub state : ℕ
  pub deferred : Option ℕ
  pub reactions : List ℕ

abbrev pub seen_row : PromiseRow → RowOf
seen_row row = record { state = row.state; deferred = row.deferred; reactions = row.reactions.items }

-- the row of a value, where it is a promise
abbrev pub row_at : ℕ → List (ℕ × PromiseRow) → Option RowOf
row_at v rows = option_map seen_row (lookup (nat_eq v) rows)

-- the deferred that is not settled, and the reactions
abbrev pub deferred_in : Option RowOf → Option ℕ
deferred_in row = option_and_then (λ r. r.deferred) row

abbrev pub is_deferred_of : ℕ → Option RowOf → Bool
is_deferred_of n row = option_map_or (λ m. m == n) (deferred_in row) false

abbrev pub reactions_in_row : Option RowOf → List ℕ
reactions_in_row row = unwrap_or (option_map (λ r. r.reactions) row) []

-- a promise that is a root: its deferred is not settled, or it has a reaction that has not ended
abbrev pub is_root_row : RowOf → Bool
is_root_row r = is_some r.deferred || not (is_empty r.reactions)

-- the values of these, in the order of the rows
abbrev pub root_values : List (ℕ × PromiseRow) → List ℕ
root_values rows = map (λ e. e.0) (filter (λ e. is_root_row (seen_row e.1)) rows)

-- a row whose promise is settled, has a reaction more, and has one less
abbrev pub settled_row : ℕ → RowOf → RowOf
settled_row state r = record r { state = state; deferred = None }

abbrev pub added_row : ℕ → RowOf → RowOf
added_row n r = record r { reactions = r.reactions ++ n ∷ [] }

abbrev pub taken_row : ℕ → RowOf → RowOf
taken_row n r = record r { reactions = filter (λ m. not (m == n)) r.reactions }

-- no ticket is twice in the list
abbrev pub NoneTwice : List ℕ → Type 0
NoneTwice [] = Unit {0}
NoneTwice (n ∷ ns) = (has_number n ns ≡ false) × NoneTwice ns

-- THE MAPS
abbrev pub promise_in : ℕ → RowOf → Promise
promise_in v r = record { value = v; state = r.state; reactions = r.reactions }

abbrev pub deferred_as : ℕ → ℕ → Deferred
deferred_as n v = record { number = n; promise = v }

unfoldable pub promises_of : List (ℕ × PromiseRow) → List (ℕ × ℕ) → ℕ → Promises
promises_of rows deferreds made = record {
  promises = as_map (λ p. p.value) (map (λ e. promise_in e.0 (seen_row e.1)) rows);
  deferreds = as_map (λ d. d.number) (map (λ e. deferred_as e.0 e.1) deferreds);
  issued = up_to made;
}

-- THE TABLES TOGETHER
-- a promise and its deferred name each other, and so do a promise and its reactions; each deferred was made
pub record AreTiedBy (row : ℕ → Option RowOf) (deferred reaction : ℕ → Option ℕ) (made : ℕ) : Type 0 where
  pub promised : (n v : ℕ) → deferred n ≡ Some v → deferred_in (row v) ≡ Some n
  pub deferring : (n v : ℕ) → deferred_in (row v) ≡ Some n → deferred n ≡ Some v
  pub numbered : (n v : ℕ) → deferred n ≡ Some v → n ≤ made
  pub listed : (n v : ℕ) → reaction n ≡ Some v → has_number n (reactions_in_row (row v)) ≡ true
  pub reacting : (n v : ℕ) → has_number n (reactions_in_row (row v)) ≡ true → reaction n ≡ Some v
  pub once : (v : ℕ) → NoneTwice (reactions_in_row (row v))

abbrev pub AreTied : List (ℕ × PromiseRow) → List (ℕ × ℕ) → List (ℕ × ℕ) → ℕ → Type 0
AreTied rows deferreds reactions made = AreTiedBy (λ v. row_at v rows) (λ n. lookup (nat_eq n) deferreds) (λ n. lookup (nat_eq n) reactions) made
