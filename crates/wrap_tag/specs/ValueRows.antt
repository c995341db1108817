-- How the rows of values stand for what is attached to them.
use Rattle.std.specs.Prelude.{◌≡◌, ℕ, nat_eq, Bool, true, cond, List, [], ◌∷◌, ◌++◌, map, filter_map, Option, Some, None, option_map}
use Rattle.std.specs.Option.{unwrap_or, option_and_then, option_to_list}
use Rattle.std.specs.List.{IsDistinct, flat_map}
use Rattle.std.specs.Map.{keys_of, lookup}
use Rattle.wrap_tag.specs.declared.row.Chain.{Chain}
use Rattle.wrap_tag.specs.declared.row.Chain.TheVariants.{End, Link'}
use Rattle.napi_types.specs.declared.ids.Ticket.{Ticket}
use Rattle.napi_types.specs.plain.Lists.{has_number, as_map}
use Rattle.napi_types.specs.parts.Attachments.{Attachments, Wrapped, Tagged, Attached}
use Rattle.wrap_tag.specs.declared.row.ValueRow.{ValueRow}
use Rattle.wrap_tag.specs.declared.row.Tag.{Tag}
use Rattle.wrap_tag.specs.declared.row.Wrap.{Wrap}

-- ONE VALUE
-- the tickets of a chain
abbrev pub tickets_of_chain : Chain → List ℕ
tickets_of_chain End = []
tickets_of_chain (Link' ticket p before) = ticket.0 ∷ tickets_of_chain before

-- nothing is attached
abbrev pub blank_row : ValueRow
blank_row = record { wrap = None; tag = None; tickets = End }

-- the same with no wrap
abbrev pub unwrapped_row : ValueRow → ValueRow
unwrapped_row row = record row { wrap = None }

-- the wrap of a value, and its tag
abbrev pub wrapped_as : ℕ → Wrap → Wrapped
wrapped_as v w = record { value = v; payload = w.payload; ticket = option_map (λ t. t.0) w.ticket }

abbrev pub tagged_as : ℕ → Tag → Tagged
tagged_as v t = record { value = v; lower = t.lower; upper = t.upper }

-- those of a value that has this row
abbrev pub wrap_in : ℕ → ValueRow → Option Wrapped
wrap_in v row = option_map (wrapped_as v) row.wrap

abbrev pub tag_in : ℕ → ValueRow → Option Tagged
tag_in v row = option_map (tagged_as v) row.tag

-- the finalizers that are attached to it
abbrev pub attached_in : ℕ → ValueRow → List Attached
attached_in v row = map (λ n. record { value = v; ticket = n }) (tickets_of_chain row.tickets)

-- the ticket of a wrap, where there is a wrap and it has one
abbrev pub ticket_of_wrap : Option Wrap → Option Ticket
ticket_of_wrap wrap = option_and_then (λ w. w.ticket) wrap

-- the tickets of its wrap and of these
abbrev pub tickets_of_row : ValueRow → List ℕ
tickets_of_row row = option_to_list (option_map (λ t. t.0) (ticket_of_wrap row.wrap)) ++ tickets_of_chain row.tickets

-- the tickets of the finalizers beside its wrap, none where it has no row
abbrev pub tickets_beside : Option ValueRow → List ℕ
tickets_beside row = unwrap_or (option_map (λ r. tickets_of_chain r.tickets) row) []

-- ALL VALUES
-- the row of a value
abbrev pub value_row : ℕ → List (ℕ × ValueRow) → Option ValueRow
value_row v rows = lookup (nat_eq v) rows

-- a finalizer of this ticket is attached to this value
abbrev pub is_attached : ℕ → ℕ → List (ℕ × ValueRow) → Bool
is_attached ticket v rows = has_number ticket (tickets_beside (value_row v rows))

-- the maps that the rows stand for
unfoldable pub attachments_of : List (ℕ × ValueRow) → Attachments
attachments_of rows = record {
  wraps = as_map (λ w. w.value) (filter_map (λ e. wrap_in e.0 e.1) rows);
  tags = as_map (λ t. t.value) (filter_map (λ e. tag_in e.0 e.1) rows);
  tickets = as_map (λ t. t.ticket) (flat_map (λ e. attached_in e.0 e.1) rows);
}

-- a value has one row, and a ticket is attached to one value
pub record AreRows (rows : List (ℕ × ValueRow)) : Type 0 where
  pub values : IsDistinct nat_eq (keys_of rows)
  pub tickets : (n v w : ℕ) → is_attached n v rows ≡ true → is_attached n w rows ≡ true → v ≡ w

-- a value has this row now, or none, and each other value has the row that it had
pub record PutsRow (v : ℕ) (row : Option ValueRow) (old new : List (ℕ × ValueRow)) : Type 0 where
  pub rows : (w : ℕ) → value_row w new ≡ cond (nat_eq v w) row (value_row w old)
  pub values : IsDistinct nat_eq (keys_of new)

-- a value has this ticket now before the others beside its wrap, and what it had else; each other value has the row that it had
pub record PutsTicket (v ticket : ℕ) (old new : List (ℕ × ValueRow)) : Type 0 where
  pub chain : Chain
  pub pushed : tickets_of_chain chain ≡ ticket ∷ tickets_beside (value_row v old)
  pub row : PutsRow v (Some (record (unwrap_or (value_row v old) blank_row) { tickets = chain })) old new
