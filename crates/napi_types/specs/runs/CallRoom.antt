-- The room for a call: that of the list in which its entry would stand.
use Rattle.std.specs.Prelude.{cond}
use Rattle.napi_types.specs.declared.call.Call.{Call}
use Rattle.napi_types.specs.plain.Guards.{is_shared}
use Rattle.napi_types.specs.plain.Room.{Room}
use Rattle.napi_types.specs.environment.JournalRoom.{journal_room}
use Rattle.napi_types.specs.hub.HistoryRoom.{history_room}
use Rattle.napi_types.specs.runs.Machine.{Machine}

-- the room of the list in which the call's entry would stand: the history for a shared call, and the journal for every other
abbrev pub room_of : Machine → Call → Room
room_of m c = cond (is_shared c) (history_room m.hub m.history_length m.limits.history) (journal_room m.env m.journal_length m.limits.journal)
