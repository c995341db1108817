-- Merging a journal whose places never fall with a history.
use Rattle.std.specs.Prelude.{◌≡◌, ℕ, List, [], ◌∷◌, drop}
use Rattle.napi_types.specs.declared.entry.Entry.{Entry}
use Rattle.napi_types.specs.declared.entry.Local.{Local}
use Rattle.napi_types.specs.plain.Weave.{weave_from}

-- what is left of the weave, so many entries of the journal and of the history being passed
abbrev pub unwoven : List Local → List Entry → ℕ → ℕ → List Entry
unwoven journal history locals shared = weave_from shared (drop locals journal) (drop shared history)

-- a journal begins with an entry of this place
abbrev pub BeginsAt : ℕ → List Local → Type 0
BeginsAt p [] = ⊥
BeginsAt p (local ∷ journal) = local.at ≡ p
