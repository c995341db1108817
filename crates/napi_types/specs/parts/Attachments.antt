-- What is attached to values: wraps, type tags, and the finalizers beside those of wraps. Wraps and tags are finite maps from the creation number of a
-- value, and attached finalizers a finite map from their tickets.
use Rattle.std.specs.Prelude.{ℕ, ◌==◌, Bool, false, not, ◌&&◌, List, [], map, filter, ◌++◌, filter_map, Option, option_map}
use Rattle.std.specs.Option.{unwrap_or, option_and_then}
use Rattle.napi_types.specs.plain.Lists.{found, has, has_number, with_record}

-- a wrap: the native data that `napi_wrap` ties to an object, and the ticket of its finalizer, where it has one
pub record Wrapped : Type 0 where
  pub value : ℕ
  pub payload : ℕ
  pub ticket : Option ℕ

-- a type tag: the number of 128 bits that `napi_type_tag_object` puts on an object or an external, in its two halves
pub record Tagged : Type 0 where
  pub value : ℕ
  pub lower : ℕ
  pub upper : ℕ

-- the ticket of a finalizer that an external was created with, or that was added to an object
pub record Attached : Type 0 where
  pub value : ℕ
  pub ticket : ℕ

-- all that is attached to values
pub record Attachments : Type 0 where
  pub wraps : List Wrapped
  pub tags : List Tagged
  pub tickets : List Attached

-- before the first
abbrev pub no_attachments : Attachments
no_attachments = record { wraps = []; tags = []; tickets = [] }

-- the wrap of a value, and its tag
abbrev pub wrap_of : Attachments → ℕ → Option Wrapped
wrap_of a v = found (λ w. w.value) v a.wraps

abbrev pub tag_of : Attachments → ℕ → Option Tagged
tag_of a v = found (λ t. t.value) v a.tags

-- whether a value is wrapped, and whether it is tagged
abbrev pub is_wrapped : Attachments → ℕ → Bool
is_wrapped a v = has (λ w. w.value) v a.wraps

abbrev pub is_tagged : Attachments → ℕ → Bool
is_tagged a v = has (λ t. t.value) v a.tags

-- what `napi_unwrap` gives: the native data of an object's wrap; one that is not wrapped, which each call refuses, reads as 0
abbrev pub wrap_payload : Attachments → ℕ → ℕ
wrap_payload a v = unwrap_or (option_map (λ w. w.payload) (wrap_of a v)) 0

-- the ticket of the finalizer that its wrap was given, where there is one
abbrev pub wrap_ticket : Attachments → ℕ → Option ℕ
wrap_ticket a v = option_and_then (λ w. w.ticket) (wrap_of a v)

-- what `napi_check_object_type_tag` tells: the value has this tag, and not another one or none
abbrev pub has_tag : Attachments → ℕ → ℕ → ℕ → Bool
has_tag a v lower upper = unwrap_or (option_map (λ t. (t.lower == lower) && (t.upper == upper)) (tag_of a v)) false

-- `napi_wrap` ties native data to an object, with a ticket where it has a finalizer
abbrev pub with_wrap : ℕ → ℕ → Option ℕ → Attachments → Attachments
with_wrap v payload ticket a = record a { wraps = with_record (λ w. w.value) (record { value = v; payload = payload; ticket = ticket }) a.wraps }

-- `napi_remove_wrap` takes it off
abbrev pub without_wrap : ℕ → Attachments → Attachments
without_wrap v a = record a { wraps = filter (λ w. not (w.value == v)) a.wraps }

-- `napi_type_tag_object` tags a value
abbrev pub with_tag : ℕ → ℕ → ℕ → Attachments → Attachments
with_tag v lower upper a = record a { tags = with_record (λ t. t.value) (record { value = v; lower = lower; upper = upper }) a.tags }

-- a finalizer of this ticket is attached to a value
abbrev pub with_attached : ℕ → ℕ → Attachments → Attachments
with_attached v ticket a = record a { tickets = with_record (λ t. t.ticket) (record { value = v; ticket = ticket }) a.tickets }

-- WHAT GOES WITH A VALUE
-- all that is attached to the values that pass the test, and goes with them
abbrev pub attached_where : (ℕ → Bool) → Attachments → Attachments
attached_where test a = record {
  wraps = filter (λ w. test w.value) a.wraps;
  tags = filter (λ t. test t.value) a.tags;
  tickets = filter (λ t. test t.value) a.tickets;
}

-- its tickets: those of wraps, and those of the finalizers beside them
abbrev pub tickets_in : Attachments → List ℕ
tickets_in a = filter_map (λ w. w.ticket) a.wraps ++ map (λ t. t.ticket) a.tickets

-- the tickets of the values that pass the test
abbrev pub tickets_where : (ℕ → Bool) → Attachments → List ℕ
tickets_where test a = tickets_in (attached_where test a)

-- those of one value
abbrev pub tickets_of : Attachments → ℕ → List ℕ
tickets_of a v = tickets_where (λ n. n == v) a

-- a ticket is that of a value that is freed
abbrev pub is_attached_to : (ℕ → Bool) → Attachments → ℕ → Bool
is_attached_to freed a ticket = has_number ticket (tickets_where freed a)

-- what is left as these values are freed: all that is attached to the others
abbrev pub left_on : (ℕ → Bool) → Attachments → Attachments
left_on freed a = attached_where (λ v. not (freed v)) a
