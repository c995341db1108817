-- What the entries of threads and workers keep of the hub.
use Rattle.napi_types.specs.hub.HistoryLaws.{OthersKeepTheHub}
use Rattle.napi_types.proofs.hub.HubKeeps.{other-keeps}
use Rattle.napi_types.proofs.hub.HubOwners.{others-owned}

pub others-keep-hub : OthersKeepTheHub
others-keep-hub h x other next = record { standing = other-keeps h x other; owned = λ count o. others-owned count h x other next.may o }
