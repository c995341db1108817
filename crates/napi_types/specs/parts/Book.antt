-- The book of finalizers, cleanup hooks and reactions: each that is registered gets the next ticket, counted from 1. A ticket falls due or is withdrawn,
-- begins once it is due, and ends once it has begun, and moves in no other way.
use Rattle.std.specs.Prelude.{ℕ, zero, suc, ◌+◌, ◌==◌, Bool, true, false, ◌||◌, cond, List, [], ◌∷◌, ◌++◌, length, filter, replicate, find, slice_get, Option, None, option_map, ◌<◌}
use Rattle.std.specs.Option.{unwrap_or}
use Rattle.std.specs.List.{All}
use Rattle.napi_types.specs.declared.duties.DueInfo.{DueInfo}
use Rattle.napi_types.specs.declared.entry.Cause.{Cause}
use Rattle.napi_types.specs.declared.entry.Duty.{Duty}
use Rattle.napi_types.specs.declared.entry.Duty.TheVariants as duty
use Rattle.napi_types.specs.declared.entry.Phase.{Phase}
use Rattle.napi_types.specs.declared.entry.Phase.TheVariants as phase
use Rattle.napi_types.specs.declared.status.Status.TheVariants as status
use Rattle.napi_types.specs.plain.Lists.{up_to}

-- STATES
-- how far a ticket has come
pub data TicketState : Type 0 where
  Registered : TicketState
  Due : TicketState
  Begun : TicketState
  Ended : TicketState
  Withdrawn : TicketState

abbrev pub is_registered : TicketState → Bool
is_registered Registered = true
is_registered _ = false

abbrev pub is_due : TicketState → Bool
is_due Due = true
is_due _ = false

abbrev pub is_begun : TicketState → Bool
is_begun Begun = true
is_begun _ = false

-- a ticket that is registered or due: places are kept for its frame
abbrev pub is_owed : TicketState → Bool
is_owed s = is_registered s || is_due s

-- only a registered ticket falls due
abbrev pub made_due : TicketState → TicketState
made_due Registered = Due
made_due s = s

-- only a registered ticket is withdrawn: one that is due begins
abbrev pub made_withdrawn : TicketState → TicketState
made_withdrawn Registered = Withdrawn
made_withdrawn s = s

-- only a ticket that is due begins
abbrev pub made_begun : TicketState → TicketState
made_begun Due = Begun
made_begun s = s

-- only a ticket that has begun ends
abbrev pub made_ended : TicketState → TicketState
made_ended Begun = Ended
made_ended s = s

-- a hook falls due and begins in one event
abbrev pub made_due_and_begun : TicketState → TicketState
made_due_and_begun s = made_begun (made_due s)

-- THE BOOK
-- what was registered: why its frame will begin, the addon and the entry that it runs, the data and the hint that it is given, and how far it has come
pub record Registration : Type 0 where
  pub cause : Cause
  pub addon : ℕ
  pub entry : ℕ
  pub payload : ℕ
  pub hint : ℕ
  pub state : TicketState

-- every registration, that of ticket 1 first
abbrev pub Book : Type 0
Book = List Registration

-- what was registered under a ticket
abbrev pub registration_at : Book → ℕ → Option Registration
registration_at book zero = None
registration_at book (suc place) = slice_get book place

-- a ticket was given, and is in a state that passes the test
abbrev pub is_at : (TicketState → Bool) → Book → ℕ → Bool
is_at test book n = unwrap_or (option_map (λ r. test r.state) (registration_at book n)) false

-- the lowest ticket that is due
abbrev pub lowest_due : Book → Option ℕ
lowest_due book = find (is_at is_due book) (up_to (length book))

-- how many tickets are registered or due
abbrev pub owed_tickets : Book → ℕ
owed_tickets book = length (filter (λ r. is_owed r.state) book)

-- REGISTERING
-- the ticket that the next registration gets
abbrev pub new_ticket : Book → ℕ
new_ticket book = length book + 1

-- one registration more
abbrev pub with_registration : Registration → Book → Book
with_registration r book = book ++ r ∷ []

-- CHANGES
-- the registrations of the tickets from this one on, where those of the tickets that pass the test were changed
abbrev pub changed_from : ℕ → (Registration → Registration) → (ℕ → Bool) → List Registration → List Registration
changed_from n change test [] = []
changed_from n change test (r ∷ rs) = cond (test n) (change r) r ∷ changed_from (suc n) change test rs

-- the registrations of the tickets that pass the test are changed
abbrev pub changed_where : (Registration → Registration) → (ℕ → Bool) → Book → Book
changed_where change test book = changed_from 1 change test book

-- the registration of one ticket is changed
abbrev pub changed_at : (Registration → Registration) → ℕ → Book → Book
changed_at change n book = changed_where change (λ m. m == n) book

-- MOVES
-- a move changes how far a ticket has come, and nothing else
abbrev pub moved : (TicketState → TicketState) → Registration → Registration
moved move r = record r { state = move r.state }

-- one ticket is moved
abbrev pub moved_at : (TicketState → TicketState) → ℕ → Book → Book
moved_at move n book = changed_at (moved move) n book

-- the tickets that pass the test fall due, where they are registered
abbrev pub due_where : (ℕ → Bool) → Book → Book
due_where test book = changed_where (moved made_due) test book

-- every registered ticket falls due
abbrev pub all_due : Book → Book
all_due book = due_where (λ n. true) book

-- A HINT
-- another hint stands in the place of the one that was registered, and nothing else changes
abbrev pub with_hint : ℕ → Registration → Registration
with_hint hint r = record r { hint = hint }

-- WHAT A TICKET TELLS
-- the duty of a ticket
abbrev pub ticket_duty : ℕ → Duty
ticket_duty n = duty.Ticket (record { 0 = n })

-- what the duty of a ticket tells as it begins: its data and its hint are the gifts, and its frame makes asks
abbrev pub due_info : ℕ → Registration → DueInfo
due_info n r = record {
  duty = ticket_duty n;
  cause = r.cause;
  addon = r.addon;
  entry = r.entry;
  status = status.Ok;
  gifts = r.payload ∷ r.hint ∷ replicate 6 0;
  runs = true;
}

-- each ticket is below all that follow it, or above them
abbrev pub TicketsRise : List ℕ → Type 0
TicketsRise [] = Unit {0}
TicketsRise (n ∷ ns) = All (λ m. n < m) ns × TicketsRise ns

abbrev pub TicketsFall : List ℕ → Type 0
TicketsFall [] = Unit {0}
TicketsFall (n ∷ ns) = All (λ m. m < n) ns × TicketsFall ns

-- how a ticket comes to begin: in Hooks a hook falls due and begins in one event, in every other phase a ticket begins that is due
abbrev pub begun_in : Phase → TicketState → TicketState
begun_in phase.Hooks s = made_due_and_begun s
begun_in _ s = made_begun s

-- so it begins from registered, or else from due
abbrev pub may_begin_in : Phase → TicketState → Bool
may_begin_in phase.Hooks s = is_registered s
may_begin_in _ s = is_due s

-- why the frame of a ticket begins, where it was given
abbrev pub cause_at : Book → ℕ → Option Cause
cause_at book n = option_map (λ r. r.cause) (registration_at book n)
