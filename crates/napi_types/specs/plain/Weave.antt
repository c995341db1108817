-- The weave of a journal and a history: a legal order of all entries, and no order in time.
use Rattle.std.specs.Prelude.{ℕ, ◌+◌, ◌==◌, ◌≤◌, List, [], ◌∷◌, ◌++◌, map, filter}
use Rattle.napi_types.specs.declared.entry.Entry.{Entry}
use Rattle.napi_types.specs.declared.entry.Local.{Local}

-- the two lists
pub data Side : Type 0 where
  Journal : Side
  History : Side

-- one thing for each entry of the journal that stands at this length of the history, in their order
abbrev pub put_at : {A : Type 0} → (Local → A) → ℕ → List Local → List A
put_at local_thing p journal = map local_thing (filter (λ local. local.at == p) journal)

-- one thing for each entry from a place on: at each place first those of the journal's entries, then that of the history's entry where there is one
abbrev pub weave_by : {A : Type 0} → (Local → A) → (Entry → A) → ℕ → List Local → List Entry → List A
weave_by local_thing shared_thing p journal [] = put_at local_thing p journal
weave_by local_thing shared_thing p journal (shared ∷ later) =
    put_at local_thing p journal ++ shared_thing shared ∷ weave_by local_thing shared_thing (p + 1) journal later

-- the entries of the journal that stand at this length of the history
abbrev pub local_at : ℕ → List Local → List Entry
local_at p journal = put_at (λ local. local.entry) p journal

-- the weave from a place on
abbrev pub weave_from : ℕ → List Local → List Entry → List Entry
weave_from p journal history = weave_by (λ local. local.entry) (λ shared. shared) p journal history

-- all entries of a run
abbrev pub weave : List Local → List Entry → List Entry
weave journal history = weave_from 0 journal history

-- the list from which each of them comes
abbrev pub sides : List Local → List Entry → List Side
sides journal history = weave_by (λ local. Journal) (λ shared. History) 0 journal history

-- the places of a journal do not fall, and lie between these two lengths of the history
abbrev pub RisesBetween : ℕ → ℕ → List Local → Type 0
RisesBetween least last [] = least ≤ last
RisesBetween least last (local ∷ journal) = (least ≤ local.at) × RisesBetween local.at last journal
