-- The room suffices over all runs.
use Rattle.std.proofs.Common.{◌≡◌, ℕ, ◌+◌, List, length, arith}
use Rattle.napi_types.specs.declared.call.Ask.{Ask}
use Rattle.napi_types.specs.declared.entry.Entry.{Entry}
use Rattle.napi_types.specs.declared.entry.Phase.TheVariants as phase
use Rattle.napi_types.specs.parts.Book.{owed_tickets}
use Rattle.napi_types.specs.hub.Hub.{Final}
use Rattle.napi_types.specs.runs.Machine.{Machine}
use Rattle.napi_types.specs.runs.Run.{IsRunBy}
use Rattle.napi_types.specs.runs.Setting.{Setting, final_of, opening_of}
use Rattle.napi_types.specs.all_runs.Laws.{RoomSuffices}
use Rattle.napi_types.proofs.all_runs.HistoryRooms.{HubRoomy, HistorySuffices, opening-hub, hub-run}
use Rattle.napi_types.proofs.all_runs.JournalRooms.{Roomy, entries, Suffices, opening-room, run-roomy, run-counted, none-reserved}
use Rattle.napi_types.proofs.runs.StepCases.{stage-in}
pub use Rattle.napi_types.proofs.runs.CallRooms.{local-room}

from-none : (n k : ℕ) → n ≡ 0 + k → n ≡ k
from-none n k h = omega (arith, h)

pub room-suffices : RoomSuffices
room-suffices s bs xs j k r =
    let m : Machine = final_of s bs xs in
    let h : Roomy (Suffices s) s.limits m = run-roomy s bs xs r.steps in
    let hub : HubRoomy (HistorySuffices s) s.limits m = hub-run (HistorySuffices s) s.limits (opening_of s) bs xs (opening-hub s) r.steps in
    record {
      counted = from-none (entries m) (length xs) (run-counted (Suffices s) s.limits (opening_of s) bs xs (opening-room s) r.steps);
      journal = h.journal j;
      history = hub.history k;
      none_left = λ gone. (none-reserved (Suffices s) s.limits m h gone, hub.spent (stage-in m phase.Gone h.stage gone));
    }

-- once the environment is gone no ticket has its frame still to come, whatever the limits
pub none-left : (s : Setting) (bs : List Ask) (xs : List Entry) → IsRunBy (opening_of s) bs xs → (final_of s bs xs).env.phase ≡ phase.Gone → owed_tickets (final_of s bs xs).env.book ≡ 0
none-left s bs xs r gone = (run-roomy s bs xs r).spent gone

-- and the hub has made its last event
pub final-stage : (s : Setting) (bs : List Ask) (xs : List Entry) → IsRunBy (opening_of s) bs xs → (final_of s bs xs).env.phase ≡ phase.Gone
    → (final_of s bs xs).hub.stage ≡ Final
final-stage s bs xs r gone = stage-in (final_of s bs xs) phase.Gone (run-roomy s bs xs r).stage gone
