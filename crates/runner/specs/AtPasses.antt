-- The runs of threads and workers beside their passes, between two turns of the lock.
use Rattle.std.specs.Prelude.{◌≡◌, true, List, []}
use mathlib.Core.List.{IsPrefix}
use Rattle.napi_types.specs.declared.entry.Entry.{Entry}
use Rattle.turn_lock.specs.Passes.{PassState}
use Rattle.turn_lock.specs.Rows.{own_rows}
use Rattle.shared_hub.specs.declared.naming.Numbers.{Numbers}
use Rattle.shared_hub.specs.HubRows.{pass_of, rows_of}
use Rattle.shared_hub.specs.HubStates.{HubSeen, hub_seen}
use Rattle.env_loop.specs.ActorTurns.{actor_of, is_over, IsActorAt, IsActorOf, IsUnstartedActor, IsSameActor}
use Rattle.env_loop.specs.RunsOverRows.{IsReplayed}
use Rattle.env_loop.specs.declared.actor.ActorRun.{ActorRun}

-- what the pass has seen begins with a history that replays. All its own rows are in that, and of the hub to which it has led this holds
pub record HoldsAtPass (n : Numbers) (p : PassState) (Holds : HubSeen → Type 0) : Type 0 where
  pub history : List Entry
  pub led : IsReplayed n (hub_seen n history)
  pub seen : IsPrefix (rows_of n.threads history) p.seen
  pub own : p.own ≡ own_rows p.number (rows_of n.threads history)
  pub holds : Holds (hub_seen n history)

module _ {J : Type 0} where
  -- the run of an actor beside its pass: the actor is one of the hub's, and the pass's own rows are exactly the entries that it made
  pub record IsAtPass (n : Numbers) (p : PassState) (a : ActorRun J) : Type 0 where
    pub number : p.number ≡ pass_of n.threads (actor_of a)
    pub stands : HoldsAtPass n p (λ s. IsActorOf n s a)

  -- the run of one of the hub's actors beside its pass, before its first turn
  pub record IsUnstartedAtPass (n : Numbers) (p : PassState) (a : ActorRun J) : Type 0 where
    pub number : p.number ≡ pass_of n.threads (actor_of a)
    pub own : p.own ≡ []
    pub there : IsActorAt n (actor_of a)
    pub fresh : IsUnstartedActor a

  -- the actor has ended: the pass's own rows are all entries of the same thread with the same script, or of the same worker
  pub record HasEndedAt (n : Numbers) (p : PassState) (a : ActorRun J) : Type 0 where
    pub last : ActorRun J
    pub same : IsSameActor a last
    pub over : is_over last ≡ true
    pub at : IsAtPass n p last
