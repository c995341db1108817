-- The rows of a hub's history, as the turn lock counts them.
use Rattle.std.specs.Prelude.{◌≡◌, ◌≢◌, ℕ, ◌+◌, false, List, ◌++◌, length, map}
use Rattle.std.specs.List.{All}
use Rattle.napi_types.specs.declared.entry.Actor.{Actor}
use Rattle.napi_types.specs.declared.entry.Actor.TheVariants as actor
use Rattle.napi_types.specs.declared.entry.Entry.{Entry}
use Rattle.napi_types.specs.plain.Entries.{is_environment}
use Rattle.turn_lock.specs.declared.told.Row.{Row}

-- the number of the pass with which an actor takes its turns: the environment has the first, then come the threads, and then the workers
abbrev pub pass_of : ℕ → Actor → ℕ
pass_of threads actor.Env = 0
pass_of threads (actor.Thread t) = 1 + t
pass_of threads (actor.Worker w) = 1 + threads + w

abbrev pub row_of : ℕ → Entry → Row
row_of threads x = record { pass = pass_of threads x.actor; environment = 0; entry = x }

abbrev pub rows_of : ℕ → List Entry → List Row
rows_of threads history = map (row_of threads) history

-- there are as many rows as entries
abbrev pub RowsAreAsMany : Type 0
RowsAreAsMany = (threads : ℕ) (history : List Entry) → length (rows_of threads history) ≡ length history

-- the rows of a history that goes on are those of its prefix, and then those of what came
abbrev pub RowsGoOn : Type 0
RowsGoOn = (threads : ℕ) (prefix rest : List Entry) → rows_of threads (prefix ++ rest) ≡ rows_of threads prefix ++ rows_of threads rest

-- where the rows go on, so does the history
abbrev pub HistoriesGoOnAsRows : Type 0
HistoriesGoOnAsRows = (threads : ℕ) (before after : List Entry) (rows : List Row) → rows_of threads after ≡ rows_of threads before ++ rows
    → (rest : List Entry) × (after ≡ before ++ rest) × (rows_of threads rest ≡ rows)

-- rows of other passes than the first are entries of threads and workers
abbrev pub OtherRowsAreOfOthers : Type 0
OtherRowsAreOfOthers = (threads : ℕ) (history : List Entry) → All (λ r. r.pass ≢ 0) (rows_of threads history)
    → All (λ x. is_environment x.actor ≡ false) history
