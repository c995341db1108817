use Rattle.napi_types.proofs.all_runs.LedHubs.{histories-lead}
use Rattle.napi_types.proofs.hub_laws.histories_lead_to_their_hub.Goals as goal

pub returns : goal.returns
returns c = histories-lead
