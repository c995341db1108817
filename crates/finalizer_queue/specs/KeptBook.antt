-- The book as its callers see it.
use Rattle.std.specs.Prelude.{◌≡◌, ℕ, Some}
use Rattle.napi_types.specs.declared.duties.DueInfo.{DueInfo}
use Rattle.napi_types.specs.declared.entry.Duty.{Duty}
use Rattle.napi_types.specs.declared.entry.Duty.TheVariants as duty
use Rattle.napi_types.specs.parts.Book.{Book, Registration, registration_at, lowest_due, due_info, made_begun, moved_at}

-- the book, and for how many tickets more it has the memory
pub record KeptBook : Type 0 where
  pub book : Book
  pub spare : ℕ

-- the ticket that a duty is of, and 0, which no ticket is, where it is of none
abbrev pub ticket_number : Duty → ℕ
ticket_number (duty.Ticket ticket) = ticket.0
ticket_number _ = 0

-- the lowest ticket that is due begins, and tells this
pub record LowestBegins (old : Book) (due : DueInfo) (new : Book) : Type 0 where
  pub ticket : ℕ
  pub registration : Registration
  pub lowest : lowest_due old ≡ Some ticket
  pub registered : registration_at old ticket ≡ Some registration
  pub told : due ≡ due_info ticket registration
  pub begun : new ≡ moved_at made_begun ticket old
