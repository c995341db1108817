-- The asynchronous cleanup hooks, each under its number, whatever became of it: how far it has come.
use Rattle.std.specs.Prelude.{ℕ, ◌==◌, Bool, true, false, cond, List, [], ◌∷◌, map, ◌++◌, filter, length, find, Option, Some, None, option_map}
use Rattle.std.specs.Option.{option_and_then, option_map_or}

-- an asynchronous hook is set until it begins. From then on it waits, until it is removed or abandoned; and one may be removed before and after as well
pub data HookState : Type 0 where
  Set : HookState
  Waiting : HookState
  Abandoned : HookState
  Removed : HookState

pub record AsyncHook : Type 0 where
  pub number : ℕ
  pub ticket : ℕ
  pub state : HookState

-- READ
-- the one of a number
abbrev pub async_hook : ℕ → List AsyncHook → Option AsyncHook
async_hook number hooks = find (λ h. h.number == number) hooks

-- one that was removed is as one that was never added
abbrev pub is_held : HookState → Bool
is_held Removed = false
is_held _ = true

-- whether there is one of this number
abbrev pub has_async_hook : ℕ → List AsyncHook → Bool
has_async_hook number hooks = option_map_or (λ h. is_held h.state) (async_hook number hooks) false

-- the ticket of one that has not begun
abbrev pub ticket_of_set : AsyncHook → HookState → Option ℕ
ticket_of_set h Set = Some h.ticket
ticket_of_set h _ = None

abbrev pub set_ticket : ℕ → List AsyncHook → Option ℕ
set_ticket number hooks = option_and_then (λ h. ticket_of_set h h.state) (async_hook number hooks)

abbrev pub is_set : HookState → Bool
is_set Set = true
is_set _ = false

abbrev pub is_waiting : HookState → Bool
is_waiting Waiting = true
is_waiting _ = false

-- the number of the one that has this ticket
abbrev pub number_under : ℕ → List AsyncHook → Option ℕ
number_under ticket hooks = option_map (λ h. h.number) (find (λ h. h.ticket == ticket) hooks)

-- how many wait
abbrev pub count_waiting : List AsyncHook → ℕ
count_waiting hooks = length (filter (λ h. is_waiting h.state) hooks)

-- CHANGED
abbrev pub in_state : HookState → AsyncHook → AsyncHook
in_state s h = record h { state = s }

-- one more, which is set
abbrev pub with_async_hook : ℕ → ℕ → List AsyncHook → List AsyncHook
with_async_hook number ticket hooks = hooks ++ record { number = number; ticket = ticket; state = Set } ∷ []

-- the one of a number is removed
abbrev pub with_removed : ℕ → List AsyncHook → List AsyncHook
with_removed number hooks = map (λ h. cond (h.number == number) (in_state Removed h) h) hooks

-- the one of a ticket begins: it waits
abbrev pub with_begun : ℕ → List AsyncHook → List AsyncHook
with_begun ticket hooks = map (λ h. cond (h.ticket == ticket) (in_state Waiting h) h) hooks

-- those that wait are abandoned
abbrev pub with_abandoned : List AsyncHook → List AsyncHook
with_abandoned hooks = map (λ h. cond (is_waiting h.state) (in_state Abandoned h) h) hooks
