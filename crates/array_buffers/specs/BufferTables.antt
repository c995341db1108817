-- How the two tables stand for buffers and views.
use Rattle.std.specs.Prelude.{◌≡◌, ℕ, ◌≤◌, nat_eq, List, map, length, Option, option_map, IfSome}
use Rattle.std.specs.Map.{lookup}
use Rattle.std.specs.Option.{option_and_then, option_map_or}
use Rattle.napi_types.specs.plain.Lists.{as_map}
use Rattle.array_buffers.specs.declared.row.BufferRow.{BufferRow}
use Rattle.napi_types.specs.declared.view.ViewInfo.{ViewInfo}
use Rattle.napi_types.specs.parts.Buffers.{ArrayBuffer, BufferView, Buffers, total_bytes, view_end, AreWithinLimits}

-- the bytes of a row, and how many they are
abbrev pub row_bytes : BufferRow → Option (List ℕ)
row_bytes row = option_map (λ b. b.items) row.bytes

abbrev pub row_length : BufferRow → ℕ
row_length row = option_map_or length (row_bytes row) 0

-- what a row tells of a buffer
abbrev pub buffer_row : ℕ → BufferRow → ArrayBuffer
buffer_row v row = record { value = v; bytes = row_bytes row; ticket = option_map (λ t. t.0) row.ticket }

abbrev pub view_row : ℕ → ViewInfo → BufferView
view_row v about = record { value = v; about = about }

-- the buffer that a value is, where it has a row
abbrev pub buffer_row_at : ℕ → List (ℕ × BufferRow) → Option ArrayBuffer
buffer_row_at v rows = option_map (buffer_row v) (lookup (nat_eq v) rows)

-- its bytes while it is not detached, and its ticket
abbrev pub bytes_of_row : Option ArrayBuffer → Option (List ℕ)
bytes_of_row row = option_and_then (λ r. r.bytes) row

abbrev pub ticket_of_row : Option ArrayBuffer → Option ℕ
ticket_of_row row = option_and_then (λ r. r.ticket) row

-- the same with other bytes
abbrev pub row_changed : (Option (List ℕ) → Option (List ℕ)) → ArrayBuffer → ArrayBuffer
row_changed change r = record r { bytes = change r.bytes }

-- a view lies in these bytes, where they are there
abbrev pub EndsWithin : ViewInfo → Option (List ℕ) → Type 0
EndsWithin about bytes = IfSome bytes (λ bs. view_end about ≤ length bs)

-- the maps that the tables stand for
unfoldable pub buffers_of : List (ℕ × BufferRow) → List (ℕ × ViewInfo) → Buffers
buffers_of rows views = record {
  buffers = as_map (λ r. r.value) (map (λ e. buffer_row e.0 e.1) rows);
  views = as_map (λ w. w.value) (map (λ e. view_row e.0 e.1) views);
}

-- the sum that is kept is theirs, and they keep to the limits
pub record StandsForBuffers (kept : ℕ) (b : Buffers) : Type 0 where
  pub total : kept ≡ total_bytes b
  pub limits : AreWithinLimits b
