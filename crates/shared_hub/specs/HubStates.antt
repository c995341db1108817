-- What contracts see of a hub's state: its history, and the hub to which that has led.
use Rattle.std.specs.Prelude.{◌≡◌, List, ◌++◌, length}
use Rattle.napi_types.specs.declared.entry.Entry.{Entry}
use Rattle.napi_types.specs.plain.Lists.{singleton}
use Rattle.napi_types.specs.plain.Room.{Room}
use Rattle.napi_types.specs.hub.HistoryRoom.{history_room}
use Rattle.napi_types.specs.hub.Hub.{Hub, new_hub}
use Rattle.napi_types.specs.hub.HubSteps.{IsHubNext, hub_step, hub_along}
use Rattle.shared_hub.specs.declared.naming.Numbers.{Numbers}

pub record HubSeen : Type 0 where
  pub hub : Hub
  pub history : List Entry

-- the hub to which a history has led, for these numbers of threads and workers
abbrev pub led_by : Numbers → List Entry → Hub
led_by n history = hub_along (new_hub n.threads n.workers) history

abbrev pub hub_seen : Numbers → List Entry → HubSeen
hub_seen n history = record { hub = led_by n history; history = history }

-- the history has one entry more, which is the hub's next, and the hub is the one after it
pub record AddsEntry (old : HubSeen) (x : Entry) (new : HubSeen) : Type 0 where
  pub next : IsHubNext old.hub x
  pub hub : new.hub ≡ (hub_step old.hub x).after
  pub history : new.history ≡ old.history ++ singleton x

-- how far the hub is, and how many threads and workers there are
pub record KeepsStage (old new : Hub) : Type 0 where
  pub stage : new.stage ≡ old.stage
  pub threads : new.threads ≡ old.threads
  pub workers : new.workers ≡ old.workers

-- the room in its history
abbrev pub hub_room : Numbers → HubSeen → Room
hub_room n s = history_room s.hub (length s.history) n.limits.history
