-- Passes of the hub's lock: whose they are, and what turns leave of them.
use Rattle.std.specs.Prelude.{◌≡◌, ℕ, ◌-◌, ◌<◌, ◌≤◌, ◌⊎◌, Bool, true, false, List, ◌++◌}
use Rattle.std.specs.List.{All}
use mathlib.Core.List.{IsPrefix}
use Rattle.napi_types.specs.declared.entry.Entry.{Entry}
use Rattle.napi_types.specs.declared.entry.HostStep.TheVariants as host
use Rattle.napi_types.specs.declared.entry.What.{What}
use Rattle.napi_types.specs.declared.entry.What.TheVariants as what
use Rattle.napi_types.specs.plain.Lists.{singleton}
use Rattle.napi_types.specs.hub.Hub.{new_hub}
use Rattle.napi_types.specs.hub.Replays.{HubReplays}
use Rattle.turn_lock.specs.declared.told.Row.{Row}
use Rattle.turn_lock.specs.Passes.{PassState}
use Rattle.shared_hub.specs.declared.naming.Numbers.{Numbers}
use Rattle.shared_hub.specs.HubRows.{row_of, rows_of}
use Rattle.shared_hub.specs.HubStates.{HubSeen, hub_seen}

-- WHOSE A PASS IS
-- that of a thread: the threads have the numbers from 1 on
abbrev pub IsOfThread : Numbers → PassState → Type 0
IsOfThread n p = (0 < p.number) × (p.number ≤ n.threads)

-- the thread that has the pass of a number
abbrev pub thread_of : ℕ → ℕ
thread_of number = number - 1

abbrev pub is_actor_end : What → Bool
is_actor_end (what.Host host.ActorEnd) = true
is_actor_end _ = false

-- none of these rows is an actor's end
abbrev pub HasNoEnd : List Row → Type 0
HasNoEnd rows = All (λ r. is_actor_end r.entry.what ≡ false) rows

-- TURNS
-- it is the same pass, and does not hold
pub record SamePass (old new : PassState) : Type 0 where
  pub lock : new.lock ≡ old.lock
  pub number : new.number ≡ old.number
  pub free : new.holds ≡ false

-- what the pass has seen is this history, which replays
pub record IsSeen (n : Numbers) (p : PassState) (history : List Entry) : Type 0 where
  pub rows : p.seen ≡ rows_of n.threads history
  pub replays : HubReplays n.limits.history (new_hub n.threads n.workers) 0 history

-- it has seen at least what it had, its own rows are as they were, and of the hub that it saw this holds
pub record Looked (n : Numbers) (old new : PassState) (Shows : HubSeen → Type 0) : Type 0 where
  pub same : SamePass old new
  pub history : List Entry
  pub seen : IsSeen n new history
  pub before : IsPrefix old.seen new.seen
  pub own : new.own ≡ old.own
  pub shows : Shows (hub_seen n history)

-- no demand: true of every hub
abbrev pub Anything : HubSeen → Type 0
Anything s = Unit {0}

-- it has taken turns, or none, and added nothing
pub record HasLooked (n : Numbers) (old new : PassState) : Type 0 where
  pub same : SamePass old new
  pub own : new.own ≡ old.own
  pub turns : (new ≡ old) ⊎ Looked n old new Anything

-- it added this entry, which may come there, behind all that it had seen
pub record Added (n : Numbers) (old new : PassState) (x : Entry) : Type 0 where
  pub same : SamePass old new
  pub before : List Entry
  pub seen : IsSeen n new (before ++ singleton x)
  pub behind : IsPrefix old.seen (rows_of n.threads before)
  pub own : new.own ≡ old.own ++ singleton (row_of n.threads x)
