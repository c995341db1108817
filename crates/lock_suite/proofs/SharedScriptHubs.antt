-- Threads may share a hub whose jobs are a script's.
use denote.RattleType.{RattleType}
use denote.Param.Send.{IsSend, IsSync, sendable}
use Rattle.script_addon.specs.contracts.job.ScriptJob as script_job
use Rattle.script_addon.specs.contracts.job.ScriptJobJob.TheImpl.{ghosts}
use Rattle.shared_hub.specs.declared.naming.Naming as naming
use Rattle.hub_lock.specs.contracts.hub.Hub as hub
use Rattle.hub_lock.proofs.SharedHubs.{hub_sync}

job-send : IsSend script_job.the_row
job-send = search sendable depth 20

pub script_hub_sync : (N : RattleType) (n : naming.Ghosts N.Denot) → IsSend N → IsSync (hub.the_row script_job.the_row N ghosts n)
script_hub_sync N n k = hub_sync script_job.the_row N ghosts n job-send k
