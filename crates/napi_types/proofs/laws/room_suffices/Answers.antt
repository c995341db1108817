use Rattle.napi_types.proofs.all_runs.Rooms.{room-suffices}
use Rattle.napi_types.proofs.laws.room_suffices.Goals as goal

pub returns : goal.returns
returns c = room-suffices
