-- The roots of thread-safe functions.
use Rattle.std.specs.Prelude.{◌≡◌, ℕ, ◌+◌, ◌*◌, ◌<◌, ◌≤◌, ◌==◌, Bool, true, not, List, ◌++◌, length, map, filter, slice_index_or}
use Rattle.std.specs.List.{All}
use Rattle.napi_types.specs.declared.ids.HandleId.{HandleId}
use Rattle.napi_types.specs.plain.Lists.{singleton, as_map}
use Rattle.napi_types.specs.parts.Graph.{StoreState, IsLive, number_in}
use Rattle.napi_types.specs.parts.Heap.{handle_value}
use Rattle.napi_types.specs.environment.Environment.{Environment, TsfnRoot}
use Rattle.env_core.specs.declared.tsfn_roots.RootRow.{RootRow}

-- the root that a row tells, by the store's number of its value
abbrev pub root_of_row : RootRow → TsfnRoot
root_of_row r = record { function = r.function.0; value = r.value.0 }

-- the roots of rows, in their order: those that are kept
abbrev pub kept_roots : List RootRow → List TsfnRoot
kept_roots rows = map root_of_row (filter (λ r. r.kept) rows)

-- the root of another function
abbrev pub is_of_another : ℕ → TsfnRoot → Bool
is_of_another n r = not (r.function == n)

-- the numbers of the functions rise, so that no function has two rows
abbrev pub AreRising : List RootRow → Type 0
AreRising rows = as_map (λ r. r.function.0) rows ≡ rows

-- the row at a place is kept, and is that of the function
pub record IsKeptAt (rows : List RootRow) (n at : ℕ) : Type 0 where
  pub inside : at < length rows
  pub kept : (d : RootRow) → (slice_index_or rows at d).kept ≡ true
  pub same : (d : RootRow) → (slice_index_or rows at d).function.0 ≡ n

-- of the rows so many are not kept, half of all at most, and their numbers rise where that is told
pub record AreRootRows (rows : List RootRow) (dropped : ℕ) (rises : Bool) : Type 0 where
  pub counted : length (kept_roots rows) + dropped ≡ length rows
  pub few : 2 * dropped ≤ length rows
  pub rising : rises ≡ true → AreRising rows

-- a root has the creation number of its value, where the store's number is kept
abbrev pub root_seen : StoreState → TsfnRoot → TsfnRoot
root_seen store r = record r { value = number_in store r.value }

-- all roots
abbrev pub tsfn_roots_seen : StoreState → List TsfnRoot → List TsfnRoot
tsfn_roots_seen store roots = map (root_seen store) roots

-- the value of each root is live
abbrev pub RootsAreLive : StoreState → List TsfnRoot → Type 0
RootsAreLive store roots = All (λ r. IsLive store r.value) roots

-- there is room for the root of one function more
abbrev pub HasRootPlace : ℕ → Environment → Type 0
HasRootPlace room e = length e.tsfn_roots < room

-- the function of this number keeps the value of a handle alive
abbrev pub with_function_root : ℕ → HandleId → Environment → Environment
with_function_root n f e = record e { tsfn_roots = e.tsfn_roots ++ singleton (record { function = n; value = handle_value e.heap f.0 }) }
