-- The room of a list, the journal or the history: places that entries take, places that are reserved, and what a call needs.
use Rattle.std.specs.Prelude.{ℕ, ◌+◌, Bool, true, false, not, ◌||◌, nat_lt, min}
use Rattle.napi_types.specs.declared.call.Call.{Call}
use Rattle.napi_types.specs.declared.entry.What.{What}
use Rattle.napi_types.specs.declared.entry.What.TheVariants as what
use Rattle.napi_types.specs.plain.CallFacts.{facts_of}
use Rattle.napi_types.specs.plain.Guards.{is_growing}

-- a list's room: its limit, and the places that its entries and its reserved places take
pub record Room : Type 0 where
  pub limit : ℕ
  pub occupied : ℕ

-- one place where a test holds
abbrev pub one_if : Bool → ℕ
one_if true = 1
one_if false = 0

-- the places that a call needs in the list in which its entry stands, counted as if it were accepted: one for its entry, and those of the events that it
-- owes. These are the end of the frame that it enters and the frame of the duty that it makes; the start and the finish of a queued work; the close and the
-- finish of a thread-safe function. A work owes nothing until it is queued
abbrev pub need : Call → ℕ
need c = (facts_of c).need

-- how many entries a list may have at most
abbrev pub most_entries : ℕ
most_entries = 4194304

-- how many places have their memory from the start, in a list whose limit is not smaller
abbrev pub first_places : ℕ
first_places = 65536

-- entries, reserved places and the call's need pass the limit
abbrev pub is_full : Room → Call → Bool
is_full r c = nat_lt r.limit (r.occupied + need c)

-- a call has room; every event has a place of its own
abbrev pub fits_in : Room → What → Bool
fits_in r (what.Call c) = not (is_full r c)
fits_in r (what.Host event) = true

-- the call grows, or entries, reserved places and its need pass the first places
abbrev pub may_want_memory : Room → Call → Bool
may_want_memory r c = is_growing c || nat_lt (min first_places r.limit) (r.occupied + need c)
