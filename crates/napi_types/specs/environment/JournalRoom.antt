-- The room in the journal: the places that the environment still owes.
use Rattle.std.specs.Prelude.{ℕ, ◌+◌, ◌-◌, ◌*◌, not, length}
use Rattle.napi_types.specs.declared.entry.Phase.{Phase}
use Rattle.napi_types.specs.declared.entry.Phase.TheVariants as phase
use Rattle.napi_types.specs.plain.Room.{Room, one_if}
use Rattle.napi_types.specs.parts.Book.{owed_tickets}
use Rattle.napi_types.specs.parts.Frames.{local_frames}
use Rattle.napi_types.specs.environment.Environment.{Environment}

-- the place of `gone`, where it does not stand in the journal
abbrev pub gone_place : Phase → ℕ
gone_place phase.Gone = 0
gone_place _ = 1

-- the places that the journal still owes: the opening, `gone`, two for each init frame to come, the end of each frame that stands and that no duty of the hub
-- began, and two for the frame of each ticket that is registered or due
abbrev pub reserved_journal : Environment → ℕ
reserved_journal e = one_if (not e.opened) + gone_place e.phase + 2 * (e.addons - e.inits) + length (local_frames e.frames) + 2 * owed_tickets e.book

-- the room in a journal with so many entries and this limit
abbrev pub journal_room : Environment → ℕ → ℕ → Room
journal_room e journal_length limit = record { limit = limit; occupied = journal_length + reserved_journal e }
