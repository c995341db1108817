-- A history that replays at the hub.
use Rattle.std.specs.Prelude.{ℕ, ◌+◌, List, [], ◌∷◌, IsTrue}
use Rattle.napi_types.specs.declared.entry.Entry.{Entry}
use Rattle.napi_types.specs.plain.Room.{fits_in}
use Rattle.napi_types.specs.hub.HistoryRoom.{history_room}
use Rattle.napi_types.specs.hub.Hub.{Hub}
use Rattle.napi_types.specs.hub.HubSteps.{IsHubNext, hub_step}

-- from a hub and a length of the history on, within this limit: each entry may come where it stands, and each call has room
abbrev pub HubReplays : ℕ → Hub → ℕ → List Entry → Type 0
HubReplays limit h n [] = Unit {0}
HubReplays limit h n (x ∷ xs) = IsHubNext h x × IsTrue (fits_in (history_room h n limit) x.what) × HubReplays limit (hub_step h x).after (n + 1) xs
