-- Threads may share a hub.
use denote.RattleType.{RattleType}
use denote.Param.Send.{IsSend, IsSync, sendable, struct_sync, recorded_sync, view_sync}
use denote.Struct.Declared.{shape}
use Rattle.std.proofs.Crossing.{crosses}
use Rattle.async_work.specs.declared.job.Job as job
use Rattle.turn_lock.specs.contracts.turn.Turn as turn
use Rattle.turn_lock.proofs.turn.Turn.TheSendSync as turn_sent
use Rattle.turn_lock.specs.declared.told.Told as told
use Rattle.shared_hub.specs.declared.naming.Naming as naming
use Rattle.shared_hub.proofs.HandingOn.{state-send}
use Rattle.hub_lock.specs.contracts.locked.Locked as locked
use Rattle.hub_lock.specs.contracts.hub.Hub as hub
use Rattle.hub_lock.specs.contracts.hub.Hub.TheInside as inside

locked-send : (S : RattleType) → IsSend S → IsSend (locked.the_row S)
locked-send S s = search (sendable, crosses) depth 40

turn-sync : (S : RattleType) (t : told.Ghosts S.Denot) → IsSend S → IsSync (turn.the_row S t)
turn-sync S t s = turn_sent.the_sync S t s

-- those of jobs that may be handed to another thread
pub hub_sync : (J N : RattleType) (spec : job.Ghosts J.Denot) (n : naming.Ghosts N.Denot) → IsSend J → IsSend N → IsSync (hub.the_row J N spec n)
hub_sync J N spec n j k =
    view_sync _ _ _ _ _ (recorded_sync _ _ _ (inside.the_type J N spec n).to_one
    (struct_sync (shape (inside.the_type J N spec n)) (turn-sync _ _ (locked-send _ (state-send J N spec n j k)), (search (sendable, crosses) depth 40, (search sendable depth 40, tt)))))
