-- In which list the entry of a call stands: a shared call has it in the history, and every other in the journal.
use Rattle.std.proofs.Common.{◌≡◌, true, false, refl}
use Rattle.napi_types.specs.declared.call.Call.{Call}
use Rattle.napi_types.specs.plain.Guards.{is_shared}
use Rattle.napi_types.specs.environment.JournalRoom.{journal_room}
use Rattle.napi_types.specs.hub.HistoryRoom.{history_room}
use Rattle.napi_types.specs.runs.CallRoom.{room_of}
use Rattle.napi_types.specs.runs.Machine.{Machine}

-- a call that is not shared has its entry in the journal
pub local-room : (m : Machine) (c : Call) → is_shared c ≡ false → room_of m c ≡ journal_room m.env m.journal_length m.limits.journal
local-room m c local = rw local refl

-- a shared call has its entry in the history
pub shared-room : (m : Machine) (c : Call) → is_shared c ≡ true → room_of m c ≡ history_room m.hub m.history_length m.limits.history
shared-room m c is = rw is refl
