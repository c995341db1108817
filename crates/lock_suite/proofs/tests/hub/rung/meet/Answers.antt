use denote.Exit.{yes}
use denote.Param.Send.{param_sync, arg_sync}
use Rattle.lock_suite.proofs.SharedScriptHubs.{script_hub_sync}
use Rattle.lock_suite.proofs.tests.hub.rung.meet.Goals as goal

pub meet_at-requires-sync-H : goal.meet_at-requires-sync-H
meet_at-requires-sync-H g c κs within = param_sync 0 _ (arg_sync _ yes _ (script_hub_sync _ g.N.Naming c.type_bounds.send-N))
