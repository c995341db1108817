-- What each atomic step changes of what a pass knows.
use Rattle.std.specs.Prelude.{◌≡◌, ℕ, zero, ◌+◌, ◌==◌, Bool, true, false, List, [], ◌∷◌, ◌++◌, length, drop, Option, Some, None, MatchBool}
use Rattle.atomic_table.specs.Table.{Me}
use Rattle.turn_lock.specs.declared.told.Row.{Row}
use Rattle.turn_lock.specs.declared.view.Old.{Old}
use Rattle.turn_lock.specs.declared.view.View.{View}
use Rattle.turn_lock.specs.Rows.{own_rows}
use Rattle.turn_lock.specs.Rule.{Fits}

-- MAKING AND CLOSING
-- a pass that was just made
abbrev pub new_view : ℕ → View
new_view n = record { number = n; is_live = true; holds = false; seen = []; own = []; taken = []; count = 0; olds = [] }

-- the first pass, where so many were made, itself among them
abbrev pub first_view : ℕ → View
first_view made = record { number = 0; is_live = true; holds = false; seen = []; own = []; taken = []; count = made; olds = [] }

-- a pass that is closed
abbrev pub closed_view : View
closed_view = record { number = 0; is_live = false; holds = false; seen = []; own = []; taken = []; count = 0; olds = [] }

-- the first pass, where one more is made
abbrev pub counted_view : View → View
counted_view v = record v { count = v.count + 1 }

-- what is kept of a pass that is closed
abbrev pub old_of : View → Old
old_of v = record { number = v.number; seen = v.seen; own = v.own }

-- the first pass, where another is closed
abbrev pub joined : View → View → View
joined v w = record v { olds = old_of w ∷ v.olds }

-- TAKING AND GIVING
-- a pass that took this list
abbrev pub holding : View → List Row → View
holding v rows = record v { holds = true; taken = rows }

-- a pass that gave this list back: it has seen it all, and what it added is its own
abbrev pub given : View → List Row → View
given v rows = record v { holds = false; seen = rows; own = v.own ++ drop (length v.taken) rows }

-- the value was taken out of the slot that the seat holds
abbrev pub is_out : {S : Type 0} → List (ℕ × Option S) → Bool
is_out ((zero, None) ∷ []) = true
is_out xs = false

module _ {S : Type 0} (told : S → List Row) where
  -- the pass takes the value out, whose list fits what the pass knows
  abbrev pub Takes : Me (Option S) View → Me (Option S) View → Type 0
  Takes m n = (value : S) × (n ≡ (holding m.0 (told value), (0, Some value) ∷ [])) × Fits (told value) m.0.number m.0.seen m.0.own

  -- the pass takes the value where the word is the one that it asked for, and else knows no more
  abbrev pub MayTake : ℕ → Me (Option S) View → ℕ → Me (Option S) View → Type 0
  MayTake asked m found n = MatchBool (found == asked) (Takes m n) (n ≡ m)

  -- the pass gives back the value that it put in, and its own rows are all that the list has of it
  abbrev pub GivesBack : Me (Option S) View → Me (Option S) View → Type 0
  GivesBack m n = (value : S) → m.1 ≡ (0, Some value) ∷ [] → (n ≡ (given m.0 (told value), [])) × (n.0.own ≡ own_rows n.0.number n.0.seen)
