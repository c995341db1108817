-- The places of a duty: queued, executed or finished in the pool; an item in its function's list; a finalizer that its function still owes; registered or due
-- in the book. A duty has one from its making until its frame begins or it is withdrawn.
use Rattle.std.specs.Prelude.{◌≡◌, ℕ, ◌+◌, ◌≤◌, ◌==◌, Bool, false, not, ◌&&◌, nat_lt, count_by, List, Option, Some, None, is_some}
use Rattle.napi_types.specs.declared.entry.Duty.{Duty}
use Rattle.napi_types.specs.declared.entry.Duty.TheVariants as duty
use Rattle.napi_types.specs.declared.entry.Entry.{Entry}
use Rattle.napi_types.specs.plain.Room.{one_if}
use Rattle.napi_types.specs.parts.Book.{Book, is_owed, is_at}
use Rattle.napi_types.specs.parts.Functions.{FunctionState, accepted_items, is_done}
use Rattle.napi_types.specs.parts.Pool.{WorkPool}
use Rattle.napi_types.specs.hub.Hub.{Hub}
use Rattle.napi_types.specs.hub.HubCalls.{tsfn_at}
use Rattle.napi_types.specs.runs.Machine.{Machine}
use Rattle.napi_types.specs.all_runs.Counts.{made, dropped, begun}

-- IN THE HUB
-- how often the work of this number is queued, executed and finished in the pool
abbrev pub places_in_pool : ℕ → WorkPool → ℕ
places_in_pool n p = count_by (λ m. n == m) p.queued + count_by (λ x. n == x.work) p.executions + count_by (λ o. n == o.work) p.finished

-- the item of this number is in its function's list: it was accepted, and not taken out
abbrev pub has_item : ℕ → FunctionState → Bool
has_item n f = nat_lt f.taken n && not (nat_lt (accepted_items f) n)

-- the function still owes its finalizer
abbrev pub owes_finalizer : FunctionState → Bool
owes_finalizer f = is_some f.finalizer && not (is_done f.state)

-- a function is there that passes the test
abbrev pub function_passes : (FunctionState → Bool) → Option FunctionState → Bool
function_passes test None = false
function_passes test (Some f) = test f

-- how many places a duty has in the hub: a ticket has none there
abbrev pub places_in_hub : Hub → Duty → ℕ
places_in_hub h (duty.Ticket t) = 0
places_in_hub h (duty.Work n) = places_in_pool n h.pool
places_in_hub h (duty.Item f n) = one_if (function_passes (has_item n) (tsfn_at h f.0))
places_in_hub h (duty.Function f) = one_if (function_passes owes_finalizer (tsfn_at h f.0))

-- IN THE BOOK
-- how many it has in the book: a ticket that is registered or due has one there, and no other duty
abbrev pub places_in_book : Book → Duty → ℕ
places_in_book b (duty.Ticket t) = one_if (is_at is_owed b t.0)
places_in_book b _ = 0

-- IN BOTH
abbrev pub places_in_machine : Machine → Duty → ℕ
places_in_machine m d = places_in_book m.env.book d + places_in_hub m.hub d

-- after these entries the duty was made at most once. Where it was, it has one place, or its frame began once, or it was withdrawn once; where it was not, none
-- of these
pub record HasOnePlace (m : Machine) (d : Duty) (xs : List Entry) : Type 0 where
  pub singly : made d xs ≤ 1
  pub placed : places_in_machine m d + begun d xs + dropped d xs ≡ made d xs
