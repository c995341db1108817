-- What the type of a hub's state keeps.
use Rattle.std.specs.Prelude.{◌≡◌, ℕ, ◌+◌, ◌≤◌, List, length, min, is_some}
use Rattle.napi_types.specs.declared.entry.Entry.{Entry}
use Rattle.napi_types.specs.plain.Room.{first_places, most_entries}
use Rattle.napi_types.specs.hub.HistoryLaws.{LeadsTo}
use Rattle.napi_types.specs.hub.HistoryRoom.{reserved_history}
use Rattle.napi_types.specs.hub.Hub.{Hub, new_hub, threads_left, workers_left}
use Rattle.napi_types.specs.hub.Replays.{HubReplays}
use Rattle.shared_hub.specs.declared.naming.Numbers.{Numbers}
use Rattle.shared_hub.specs.declared.progress.HubProgress.{HubProgress}
use Rattle.shared_hub.specs.HubParts.{HubParts}
use Rattle.shared_hub.specs.HubProgress.{hub_stage}
use Rattle.shared_hub.specs.HubStates.{HubSeen, led_by}

-- the history replays at the numbers that the type names. Its entries and the places that it owes are within the limit and have their memory, and so have the
-- first places
pub record IsKeptHistory (n : Numbers) (history : List Entry) (limit capacity : ℕ) : Type 0 where
  pub limit_is : limit ≡ n.limits.history
  pub small : limit ≤ most_entries
  pub replays : HubReplays n.limits.history (new_hub n.threads n.workers) 0 history
  pub within : length history + reserved_history (led_by n history) ≤ limit
  pub memory : length history + reserved_history (led_by n history) ≤ capacity
  pub first : min first_places limit ≤ capacity

-- the fields say which part of the hub is which
pub record AreFieldsOf (h : Hub) (parts : HubParts) (p : HubProgress) : Type 0 where
  pub pool : h.pool ≡ parts.pool
  pub functions : h.functions ≡ parts.functions
  pub stage : h.stage ≡ hub_stage p.stage
  pub standing : is_some h.standing ≡ p.stands
  pub threads_are : length (threads_left h) ≡ p.threads_left
  pub workers_are : length (workers_left h) ≡ p.workers_left
  pub all_workers : h.workers ≡ p.workers

-- what a state's type keeps, as its user sees it: the history has led to the hub, and its entries and the places that it owes are within the limit
pub record IsLedHub (n : Numbers) (s : HubSeen) : Type 0 where
  pub led : LeadsTo n.limits.history n.threads n.workers s.history s.hub
  pub within : length s.history + reserved_history s.hub ≤ n.limits.history
  pub small : n.limits.history ≤ most_entries
