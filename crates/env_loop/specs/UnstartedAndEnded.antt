-- The run of an actor before its first turn, and after its last one.
use Rattle.std.specs.Prelude.{◌≡◌, true, []}
use Rattle.shared_hub.specs.HubStates.{HubSeen, hub_seen}
use Rattle.shared_hub.specs.declared.naming.Numbers.{Numbers}
use Rattle.env_loop.specs.ActorTurns.{actor_of, is_over, IsActorAt, IsActorOf, IsUnstartedActor, HoldsNoWork}
use Rattle.env_loop.specs.RunsOverRows.{IsReplayed}
use Rattle.env_loop.specs.declared.actor.ActorRun.{ActorRun}

-- before its first turn it is one of a hub's that opens
abbrev pub UnstartedActorsStand : Type 0 → Type 0
UnstartedActorsStand J = (n : Numbers) (a : ActorRun J) → IsActorAt n (actor_of a) → IsUnstartedActor a → IsActorOf n (hub_seen n []) a

-- once it has ended it holds no work
abbrev pub EndedActorsHoldNoWork : Type 0 → Type 0
EndedActorsHoldNoWork J = (n : Numbers) (s : HubSeen) (a : ActorRun J) → IsReplayed n s → IsActorOf n s a → is_over a ≡ true → HoldsNoWork a
