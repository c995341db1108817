-- Tickets whose frames begin, and whose frames stand.
use Rattle.std.specs.Prelude.{◌≡◌, ℕ, true, List, Some}
use Rattle.std.specs.List.{All}
use Rattle.napi_types.specs.declared.duties.DueInfo.{DueInfo}
use Rattle.napi_types.specs.declared.entry.Duty.{Duty}
use Rattle.napi_types.specs.declared.entry.Duty.TheVariants as duty
use Rattle.napi_types.specs.declared.entry.Entry.{Entry}
use Rattle.napi_types.specs.parts.Book.{Book, Registration, is_begun, is_at, registration_at, due_info}
use Rattle.napi_types.specs.parts.Duties.{duties_of}
use Rattle.napi_types.specs.parts.Frames.{Frame}
use Rattle.napi_types.specs.environment.Environment.{Environment}
use Rattle.napi_types.specs.environment.Tickets.{ticket_change, next_ticket}

-- a ticket that has begun; what the hub's duties have come to the book does not tell
abbrev pub HasBegun : Book → Duty → Type 0
HasBegun book (duty.Ticket ticket) = is_at is_begun book ticket.0 ≡ true
HasBegun book _ = Unit {0}

-- each ticket whose frame stands has begun
abbrev pub AreBegun : List Frame → Book → Type 0
AreBegun frames book = All (HasBegun book) (duties_of frames)

-- the next ticket begins: its frame's entry, what it tells, and the environment after it
pub record BeginsFrame (old : Environment) (x : Entry) (due : DueInfo) (new : Environment) : Type 0 where
  pub ticket : ℕ
  pub registration : Registration
  pub next : next_ticket old ≡ Some ticket
  pub registered : registration_at old.book ticket ≡ Some registration
  pub told : due ≡ due_info ticket registration
  pub entry : x ≡ (ticket_change ticket registration old).entry
  pub after : new ≡ (ticket_change ticket registration old).after
