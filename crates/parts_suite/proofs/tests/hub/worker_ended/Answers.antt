use Rattle.std.proofs.Common.{◌∙◌, ap, refl}
use Rattle.napi_types.specs.hub.Hub.{is_past_drain}
use Rattle.napi_types.proofs.hub.ClosingPools.{pools-close-at-the-drain}
use Rattle.parts_suite.proofs.HubsGoOn.{worker-there, worker-free}
use Rattle.parts_suite.proofs.tests.hub.worker_ended.Goals as goal

pub actor_end-requires-after_bounds : goal.actor_end-requires-after_bounds
actor_end-requires-after_bounds g c κs within = (
  worker-there c.args.state.now.hub c.requires.free,
  pools-close-at-the-drain _ _ _ _ c.args.state.now.hub c.invariant.ensures.led ∙ ap is_past_drain c.requires.drained,
  worker-free c.args.state.now.hub c.requires.free,
  refl,
)
