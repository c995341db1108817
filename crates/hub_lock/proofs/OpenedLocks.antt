-- How many threads and workers a hub has that opens.
use Rattle.std.proofs.Common.{◌≡◌, ◌∙◌, [], ap, sym}
use Rattle.napi_types.specs.hub.Hub.{Hub, new_hub}
use Rattle.napi_types.specs.hub.HubSteps.{hub_along}
use Rattle.shared_hub.specs.declared.naming.Numbers.{Numbers}
use Rattle.shared_hub.specs.HubStates.{HubSeen}
use Rattle.shared_hub.specs.KeptHubs.{IsLedHub}

pub opened_workers : (n : Numbers) (s : HubSeen) → IsLedHub n s → s.history ≡ [] → s.hub.workers ≡ n.workers
opened_workers n s k none = ap (λ (h : Hub). h.workers) (sym k.led.hub) ∙ ap (λ xs. (hub_along (new_hub n.threads n.workers) xs).workers) none
