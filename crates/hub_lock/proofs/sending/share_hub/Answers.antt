use denote.Exit.{yes}
use denote.Param.Send.{param_sync, arg_sync}
use Rattle.hub_lock.proofs.SharedHubs.{hub_sync}
use Rattle.hub_lock.proofs.sending.share_hub.Goals as goal

pub shared-requires-sync-T : goal.shared-requires-sync-T
shared-requires-sync-T g c = λ κs out. param_sync 0 _ (arg_sync _ yes _ (hub_sync _ _ g.J.Job g.N.Naming c.type_bounds.send-J c.type_bounds.send-N))
