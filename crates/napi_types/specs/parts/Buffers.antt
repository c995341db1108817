-- Array buffers and their views (the manual's `napi_create_arraybuffer` and `napi_create_typedarray`): a finite map from buffers to their bytes, and one from
-- views to where they lie in a buffer. A view has no bytes of its own.
use Rattle.std.specs.Prelude.{◌≡◌, ℕ, ◌+◌, ◌*◌, ◌≤◌, ◌==◌, nat_lt, Bool, false, not, cond, List, [], ◌++◌, map, filter, length, replicate, take, drop, Option, Some, None, option_map, is_none, IfSome, ◌⊎◌}
use Rattle.std.specs.Int.{w64, from_le_bytes, bytes_low_first}
use Rattle.std.specs.List.{sum_by}
use Rattle.std.specs.Option.{option_and_then, option_map_or}
use Rattle.napi_types.specs.plain.Lists.{found, has, with_record}
use Rattle.napi_types.specs.parts.Book.{Book}
use Rattle.napi_types.specs.declared.view.ViewInfo.{ViewInfo}

-- a buffer: its bytes, none once it is detached, and the ticket of its finalizer, where it is an external one
pub record ArrayBuffer : Type 0 where
  pub value : ℕ
  pub bytes : Option (List ℕ)
  pub ticket : Option ℕ

-- a view, and where it lies
pub record BufferView : Type 0 where
  pub value : ℕ
  pub about : ViewInfo

-- the buffers and the views by their values
pub record Buffers : Type 0 where
  pub buffers : List ArrayBuffer
  pub views : List BufferView

-- before the first is made
abbrev pub no_buffers : Buffers
no_buffers = record { buffers = []; views = [] }

-- LIMITS
-- how many bytes one buffer has at most, and all together
abbrev pub most_buffer_bytes : ℕ
most_buffer_bytes = 1048576

abbrev pub most_bytes_together : ℕ
most_bytes_together = 268435456

-- how many bytes an element has
abbrev pub IsElementSize : ℕ → Type 0
IsElementSize size = (size ≡ 1) ⊎ (size ≡ 2) ⊎ (size ≡ 4) ⊎ (size ≡ 8)

-- READ
-- the buffer that a value is, where it is one
abbrev pub buffer_at : Buffers → ℕ → Option ArrayBuffer
buffer_at b v = found (λ r. r.value) v b.buffers

-- where the view lies that a value is, where it is one
abbrev pub view_at : Buffers → ℕ → Option ViewInfo
view_at b v = option_map (λ w. w.about) (found (λ w. w.value) v b.views)

-- a view lies in this buffer
abbrev pub is_viewed : Buffers → ℕ → Bool
is_viewed b v = has (λ w. w.about.buffer.0) v b.views

-- how many bytes a buffer has, none once it is detached
abbrev pub buffer_bytes : ArrayBuffer → ℕ
buffer_bytes r = option_map_or length r.bytes 0

abbrev pub buffer_length : Buffers → ℕ → Option ℕ
buffer_length b v = option_map buffer_bytes (buffer_at b v)

-- how many bytes all buffers have together
abbrev pub total_bytes : Buffers → ℕ
total_bytes b = sum_by buffer_bytes b.buffers

abbrev pub is_detached_buffer : Buffers → ℕ → Bool
is_detached_buffer b v = option_map_or (λ r. is_none r.bytes) (buffer_at b v) false

-- the bytes of a buffer that is not detached
abbrev pub live_bytes : Buffers → ℕ → Option (List ℕ)
live_bytes b v = option_and_then (λ r. r.bytes) (buffer_at b v)

-- the ticket of an external buffer's finalizer
abbrev pub buffer_ticket : Buffers → ℕ → Option ℕ
buffer_ticket b v = option_and_then (λ r. r.ticket) (buffer_at b v)

-- a ticket is this one, where there is one
abbrev pub is_this_ticket : Option ℕ → ℕ → Bool
is_this_ticket this ticket = option_map_or (λ t. ticket == t) this false

-- the book gave this ticket, where there is one
abbrev pub IsGivenTicket : Option ℕ → Book → Type 0
IsGivenTicket this book = IfSome this (λ t. (1 ≤ t) × (t ≤ length book))

-- ELEMENTS
-- where an element begins in the bytes of the buffer, and where a view ends
abbrev pub element_start : ViewInfo → ℕ → ℕ
element_start about at = about.offset + at * about.size

abbrev pub view_end : ViewInfo → ℕ
view_end about = element_start about about.length

-- the element of a view in these bytes: the number whose bytes, the least first, lie there; none where the index is not below the view's length
abbrev pub element_in : ViewInfo → ℕ → List ℕ → Option ℕ
element_in about at bytes = cond (nat_lt at about.length) (Some (from_le_bytes w64 (take about.size (drop (element_start about at) bytes)))) None

-- what a view reads: none where the value is no view, the index is not below its length, or the buffer is detached
abbrev pub element_read : Buffers → ℕ → ℕ → Option ℕ
element_read b v at = option_and_then (λ about. option_and_then (element_in about at) (live_bytes b about.buffer.0)) (view_at b v)

-- other bytes lie from this place on, in place of as many that were there
abbrev pub overwritten : ℕ → List ℕ → List ℕ → List ℕ
overwritten start new bytes = take start bytes ++ (new ++ drop (start + length new) bytes)

-- an element of a view is written into these bytes: the least byte of the number first, and as many as the element has
abbrev pub with_element_in : ViewInfo → ℕ → ℕ → List ℕ → List ℕ
with_element_in about at number bytes = cond (nat_lt at about.length) (overwritten (element_start about at) (bytes_low_first 0 about.size number) bytes) bytes

-- CHANGED
-- a value becomes a buffer of zeros
abbrev pub with_buffer : ℕ → ℕ → Option ℕ → Buffers → Buffers
with_buffer v size ticket b = record b { buffers = with_record (λ r. r.value) (record { value = v; bytes = Some (replicate size 0); ticket = ticket }) b.buffers }

-- a value becomes a view
abbrev pub with_view : ℕ → ViewInfo → Buffers → Buffers
with_view v about b = record b { views = with_record (λ w. w.value) (record { value = v; about = about }) b.views }

-- the bytes of one buffer are changed
abbrev pub buffer_changed_at : (Option (List ℕ) → Option (List ℕ)) → ℕ → Buffers → Buffers
buffer_changed_at change v b = record b { buffers = map (λ (r : ArrayBuffer). cond (r.value == v) (record r { bytes = change r.bytes }) r) b.buffers }

-- a buffer is detached
abbrev pub with_detached : ℕ → Buffers → Buffers
with_detached v b = buffer_changed_at (λ bytes. None) v b

-- an element of a view is written into its buffer; where it is refused nothing changes
abbrev pub with_element_written : ℕ → ℕ → ℕ → Buffers → Buffers
with_element_written v at number b =
    option_map_or (λ about. buffer_changed_at (option_map (with_element_in about at number)) about.buffer.0 b) (view_at b v) b

-- a value is gone, and with it what it was as a buffer or as a view
abbrev pub without_buffer : ℕ → Buffers → Buffers
without_buffer v b = record { buffers = filter (λ r. not (r.value == v)) b.buffers; views = filter (λ w. not (w.value == v)) b.views }

-- the values that pass the test are gone, and with each what it was as a buffer or as a view
abbrev pub buffers_left : (ℕ → Bool) → Buffers → Buffers
buffers_left gone b = record { buffers = filter (λ r. not (gone r.value)) b.buffers; views = filter (λ w. not (gone w.value)) b.views }

-- WHAT ALWAYS HOLDS
-- a view lies in the bytes of its buffer, while these are there
pub record LiesInBuffer (about : ViewInfo) (b : Buffers) : Type 0 where
  pub size : IsElementSize about.size
  pub within : (bytes : List ℕ) → live_bytes b about.buffer.0 ≡ Some bytes → view_end about ≤ length bytes

-- no buffer has more bytes than one may have, nor all together, and each view lies in its buffer
pub record AreWithinLimits (b : Buffers) : Type 0 where
  pub each : (v n : ℕ) → buffer_length b v ≡ Some n → n ≤ most_buffer_bytes
  pub together : total_bytes b ≤ most_bytes_together
  pub views : (v : ℕ) (about : ViewInfo) → view_at b v ≡ Some about → LiesInBuffer about b
