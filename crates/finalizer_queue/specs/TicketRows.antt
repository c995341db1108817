-- How the rows stand for the book, and how the heap stands for the tickets that are due.
use Rattle.std.specs.Prelude.{◌≡◌, ℕ, ◌+◌, ◌≤◌, ◌==◌, cond, List, map, length, count_by, Option, Some, None}
use Rattle.std.specs.BinaryHeap.{IsHeap}
use Rattle.std.specs.Ordering.{nat_cmp}
use Rattle.std.specs.declared.cmp.Reverse.{Reverse}
use Rattle.napi_types.specs.declared.duties.Slip.{Slip}
use Rattle.napi_types.specs.parts.Book.{Book, Registration, TicketState, Registered, Due, Begun, Ended, Withdrawn, is_registered, is_due, is_at}
use Rattle.finalizer_queue.specs.declared.rows.NewDuty.{NewDuty}
use Rattle.finalizer_queue.specs.declared.rows.RowState.{RowState}
use Rattle.finalizer_queue.specs.declared.rows.RowState.TheVariants as state
use Rattle.finalizer_queue.specs.declared.rows.TicketRow.{TicketRow}

-- a duty that has come so far
abbrev pub registration_in : TicketState → NewDuty → Registration
registration_in s d = record { cause = d.cause; addon = d.addon; entry = d.entry; payload = d.payload; hint = d.hint; state = s }

-- a duty as it is registered
abbrev pub registration_of : NewDuty → Registration
registration_of d = registration_in Registered d

-- how far a row has come
abbrev pub row_state : RowState → TicketState
row_state (state.Registered slip) = Registered
row_state (state.Due slip) = Due
row_state state.Begun = Begun
row_state state.Ended = Ended
row_state state.Withdrawn = Withdrawn

-- what a row was registered as, and how far it has come
abbrev pub row_registration : TicketRow → Registration
row_registration row = registration_in (row_state row.state) row.duty

-- the rows are the registrations, that of ticket 1 first
abbrev pub book_of : List TicketRow → Book
book_of rows = map row_registration rows

-- how many rows are registered
abbrev pub registered_count : List TicketRow → ℕ
registered_count rows = count_by (λ row. is_registered (row_state row.state)) rows

-- how many slips are spare
abbrev pub spare_slips : Option Slip → ℕ
spare_slips None = 0
spare_slips (Some slip) = 1

-- the heap has each ticket that is due once, and nothing else. It has a place for each row, and those that are due or registered are no more than the rows,
-- so that each that is registered may fall due
pub record IsKeptBook (rows : List TicketRow) (spare row_places : ℕ) (tickets : List (Reverse ℕ)) (count places : ℕ) : Type 0 where
  pub order : IsHeap (λ x y. nat_cmp y.0 x.0) tickets
  pub once : (n : ℕ) → count_by (λ t. t.0 == n) tickets ≡ cond (is_at is_due (book_of rows) n) 1 0
  pub fits : count + registered_count rows ≤ length rows
  pub heap_room : length rows + spare ≤ places
  pub row_room : length rows + spare ≤ row_places
