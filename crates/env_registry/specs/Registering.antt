-- What registers a finalizer, or withdraws one, makes of the book.
use Rattle.std.specs.Prelude.{ℕ, Option, Some, None, option_map}
use Rattle.napi_types.specs.declared.entry.Cause.TheVariants as cause
use Rattle.napi_types.specs.declared.entry.Duty.{Duty}
use Rattle.napi_types.specs.parts.Book.{Book, Registration, Registered, made_withdrawn, moved_at, new_ticket, ticket_duty, with_registration}
use Rattle.env_registry.specs.declared.finalizer.Finalizer.{Finalizer}

-- REGISTERED
-- a finalizer as it is registered
abbrev pub finalizer_registration : Finalizer → Registration
finalizer_registration f = record { cause = cause.Finalize; addon = f.addon; entry = f.entry; payload = f.payload; hint = f.hint; state = Registered }

-- the ticket that the next registration gets, where there is something to register
abbrev pub ticket_for : Book → Option Registration → Option ℕ
ticket_for book r = option_map (λ x. new_ticket book) r

-- the book with it
abbrev pub with_registration_if : Option Registration → Book → Book
with_registration_if None book = book
with_registration_if (Some r) book = with_registration r book

-- the duty of a ticket, where there is one
abbrev pub duty_if : Option ℕ → Option Duty
duty_if ticket = option_map ticket_duty ticket

-- WITHDRAWN
-- the book where a ticket is withdrawn, where there is one to withdraw
abbrev pub withdrawn_if : Option ℕ → Book → Book
withdrawn_if None book = book
withdrawn_if (Some n) book = moved_at made_withdrawn n book
