-- The registry as its callers see it.
use Rattle.std.specs.Prelude.{◌≡◌, ◌≢◌, ℕ, ◌≤◌, ◌==◌, Bool, true, ◌&&◌, [], length, replicate, None, IfSome}
use Rattle.std.specs.List.{All, list_any}
use Rattle.napi_types.specs.declared.entry.Cause.TheVariants as cause
use Rattle.napi_types.specs.plain.Lists.{as_map}
use Rattle.napi_types.specs.parts.Attachments.{Attachments, no_attachments}
use Rattle.napi_types.specs.parts.Book.{Book, due_where}
use Rattle.napi_types.specs.parts.Buffers.{Buffers, no_buffers}
use Rattle.napi_types.specs.parts.Promises.{no_promises}
use Rattle.napi_types.specs.environment.Registry.{Registry}

-- the parts, and for how many attachments to values, for how many tickets, for how many promises, and for how many buffers and views more there is the
-- memory
pub record KeptRegistry : Type 0 where
  pub parts : Registry
  pub places : ℕ
  pub slips : ℕ
  pub deferreds : ℕ
  pub blocks : ℕ

-- the parts before anything is registered, with a place for the instance data of each of so many addons
abbrev pub new_parts : ℕ → Registry
new_parts addons = record {
  attachments = no_attachments;
  book = [];
  hooks = [];
  async_hooks = [];
  instances = replicate addons None;
  promises = no_promises;
  buffers = no_buffers;
}

-- the book gave the ticket
abbrev pub IsGiven : Book → ℕ → Type 0
IsGiven book ticket = (1 ≤ ticket) × (ticket ≤ length book)

-- a value has one wrap and one tag at most
pub record AreOnce (a : Attachments) : Type 0 where
  pub wraps : as_map (λ w. w.value) a.wraps ≡ a.wraps
  pub tags : as_map (λ t. t.value) a.tags ≡ a.tags

-- a value has one wrap and one tag at most, the book gave each ticket that is attached, and what is registered is no frame that a call begins
pub record IsKeptRegistry (a : Attachments) (book : Book) : Type 0 where
  pub once : AreOnce a
  pub given_with_wraps : All (λ w. IfSome w.ticket (IsGiven book)) a.wraps
  pub given : All (λ t. IsGiven book t.ticket) a.tickets
  pub uncalled : All (λ r. r.cause ≢ cause.Call) book

-- a finalizer with this ticket is attached to this value
abbrev pub has_ticket_on : Attachments → ℕ → ℕ → Bool
has_ticket_on a v ticket = list_any (λ t. (t.value == v) && (t.ticket == ticket)) a.tickets

-- the ticket of each external buffer is one of those that are attached to its value
abbrev pub AgreeOnTickets : Attachments → Buffers → Type 0
AgreeOnTickets a b = All (λ r. IfSome r.ticket (λ t. has_ticket_on a r.value t ≡ true)) b.buffers

-- the book gave the ticket, and there it falls due no more: it is due, or it was registered no longer
pub record IsDueAlready (book : Book) (ticket : ℕ) : Type 0 where
  pub given : IsGiven book ticket
  pub same : due_where (λ n. n == ticket) book ≡ book
