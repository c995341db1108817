-- How the rows stand for the asynchronous hooks.
use Rattle.std.specs.Prelude.{◌≡◌, ℕ, suc, List, [], ◌∷◌, map}
use Rattle.napi_types.specs.parts.AsyncHooks.{AsyncHook, HookState, Set, Waiting, Abandoned, Removed, count_waiting}
use Rattle.napi_types.specs.parts.Book.{TicketsRise}
use Rattle.cleanup_hooks.specs.declared.asynchronous.AsyncState.{AsyncState}
use Rattle.cleanup_hooks.specs.declared.asynchronous.AsyncState.TheVariants as kept
use Rattle.cleanup_hooks.specs.declared.asynchronous.AsyncRow.{AsyncRow}

-- how far a row has come
abbrev pub hook_state_seen : AsyncState → HookState
hook_state_seen kept.Set = Set
hook_state_seen kept.Waiting = Waiting
hook_state_seen kept.Abandoned = Abandoned
hook_state_seen kept.Removed = Removed

-- one that waits is abandoned
abbrev pub abandoned_state : AsyncState → AsyncState
abandoned_state kept.Waiting = kept.Abandoned
abandoned_state s = s

-- a row of this number
abbrev pub async_hook_of : ℕ → AsyncRow → AsyncHook
async_hook_of n r = record { number = n; ticket = r.ticket.0; state = hook_state_seen r.state }

-- the rows, of the numbers from this one on
abbrev pub async_hooks_from : ℕ → List AsyncRow → List AsyncHook
async_hooks_from n [] = []
async_hooks_from n (r ∷ rs) = async_hook_of n r ∷ async_hooks_from (suc n) rs

-- all rows: the numbers count from 1
abbrev pub async_hooks_of : List AsyncRow → List AsyncHook
async_hooks_of rows = async_hooks_from 1 rows

-- the tickets rise, and so many hooks wait
pub record IsKeptTable (rows : List AsyncRow) (waiting : ℕ) : Type 0 where
  pub rising : TicketsRise (map (λ h. h.ticket) (async_hooks_of rows))
  pub counted : waiting ≡ count_waiting (async_hooks_of rows)
