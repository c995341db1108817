use Rattle.napi_types.proofs.all_runs.FrameAddons.{addons-are-the-scripts}
use Rattle.napi_types.proofs.hub_laws.addons_are_the_scripts.Goals as goal

pub returns : goal.returns
returns c = addons-are-the-scripts
