-- What one turn of an actor comes to under the lock.
use Rattle.std.specs.Prelude.{◌≡◌, ℕ, true, false}
use Rattle.napi_types.specs.declared.entry.Actor.{Actor}
use Rattle.shared_hub.specs.declared.naming.Numbers.{Numbers}
use Rattle.shared_hub.specs.HubStates.{HubSeen}
use Rattle.shared_hub.specs.KeptHubs.{IsLedHub}
use Rattle.env_loop.specs.ActorRuns.{AddsEntryOf}
use Rattle.env_loop.specs.Bursts.{AddsEntriesOf}
use Rattle.env_loop.specs.ActorTurns.{actor_of, is_over, IsActorOf, IsSameActor, IsBlocked, HoldsNoWork}
use Rattle.env_loop.specs.declared.actor.ActorRun.{ActorRun}
use Rattle.env_loop.specs.declared.actor.ActorTurn.{ActorTurn}
use Rattle.env_loop.specs.declared.actor.ActorTurn.TheVariants as turn
use Rattle.runner.specs.declared.strays.Stray.{Stray}
use Rattle.runner.specs.AtPasses.{IsAtPass, IsUnstartedAtPass}
use Rattle.turn_lock.specs.Passes.{TurnState}
use Rattle.hub_lock.specs.SeenTurns.{SamePass}

-- so many entries came, and this actor made them
abbrev pub GrewByEntries : Actor → HubSeen → HubSeen → Type 0
GrewByEntries who old new = (count : ℕ) × AddsEntriesOf who count old new

module _ {J : Type 0} where
  -- it added one entry, or nothing changed; where it says that the actor waits it does, and where it says that the actor has ended it had
  abbrev pub AfterTurn : Numbers → ActorRun J → HubSeen → ActorTurn → ActorRun J → HubSeen → Type 0
  AfterTurn n old before turn.Made new after = AddsEntryOf (actor_of old) before after
  AfterTurn n old before turn.Blocked new after = (after ≡ before) × (new ≡ old) × IsBlocked n before old
  AfterTurn n old before turn.Ended new after = (after ≡ before) × (new ≡ old) × (is_over old ≡ true)

  -- so many turns came one after another: the entries are this actor's, it stands as it did, and where it says that the actor has ended it has, and holds no
  -- work
  pub record AfterBurst (n : Numbers) (old : ActorRun J) (before : HubSeen) (t : ActorTurn) (new : ActorRun J) (after : HubSeen) : Type 0 where
    pub grew : GrewByEntries (actor_of old) before after
    pub stands : IsActorOf n after new
    pub same : IsSameActor old new
    pub known : IsLedHub n after
    pub over : t ≡ turn.Ended → is_over new ≡ true
    pub idle : t ≡ turn.Ended → HoldsNoWork new

  -- an actor that has no thread of its own, beside its pass of this lock
  pub record IsStray (n : Numbers) (h : TurnState) (s : Stray J) : Type 0 where
    pub lock : s.pass.lock ≡ h.lock
    pub free : s.pass.holds ≡ false
    pub at : IsAtPass n s.pass s.actor

  -- before its first turn
  pub record IsUnstartedStray (n : Numbers) (h : TurnState) (s : Stray J) : Type 0 where
    pub lock : s.pass.lock ≡ h.lock
    pub free : s.pass.holds ≡ false
    pub at : IsUnstartedAtPass n s.pass s.actor

  -- it is the same actor beside the same pass
  pub record IsSameStray (old new : Stray J) : Type 0 where
    pub actor : IsSameActor old.actor new.actor
    pub pass : SamePass old.pass new.pass

  -- it has ended
  pub record HasEndedStray (n : Numbers) (old new : Stray J) : Type 0 where
    pub same : IsSameStray old new
    pub over : is_over new.actor ≡ true
    pub at : IsAtPass n new.pass new.actor
