-- What a turn comes to: which list grew by one entry, or why none did; and what turns in an order come to.
use Rattle.std.specs.Prelude.{◌≡◌, ◌≢◌, ◌⊎◌, ◌↔◌, true, false, List, [], ◌∷◌, length, set, slice_index_or, Some, None, IsTrue}
use Rattle.std.specs.Option.{option_to_list}
use Rattle.napi_types.specs.declared.duties.DueInfo.{DueInfo}
use Rattle.napi_types.specs.declared.entry.Actor.{Actor}
use Rattle.napi_types.specs.declared.entry.Actor.TheVariants as actor
use Rattle.napi_types.specs.declared.entry.Entry.{Entry}
use Rattle.napi_types.specs.declared.entry.Phase.TheVariants as phase
use Rattle.napi_types.specs.declared.entry.Why.{Why}
use Rattle.napi_types.specs.declared.entry.Why.TheVariants as why
use Rattle.napi_types.specs.plain.Room.{is_full}
use Rattle.napi_types.specs.scripts.Plans.{Plan, Registers}
use Rattle.shared_hub.specs.HubStates.{HubSeen, hub_room}
use Rattle.shared_hub.specs.SharedTries.{given_by, MayFindNoMemory}
use Rattle.shared_hub.specs.declared.naming.Numbers.{Numbers}
use Rattle.env_core.specs.Sharing.{after_no_answer}
pub use Rattle.env_loop.specs.Bursts.{RunAtHub}
use Rattle.env_loop.specs.declared.actor.ActorRun.{ActorRun}
use Rattle.env_loop.specs.declared.run.FrameEnd.TheVariants as end
use Rattle.env_loop.specs.declared.turn.LocalTurn.TheVariants as local
use Rattle.env_loop.specs.ActorRuns.{AddsEntryOf}
use Rattle.env_loop.specs.ActorTurns.{actor_of, is_over, HoldsNoneExecuted, IsActorOf, IsSameActor, IsBlocked, StoppedSo, with_work_executed}
use Rattle.env_loop.specs.FollowedRuns.{FollowsOn, FollowsOnAt}
use Rattle.env_loop.specs.Recording.{AddonStates, HasSeen}
use Rattle.env_loop.specs.RecordedRuns.{Run, OneMore, pending_at_hub}
use Rattle.env_loop.specs.Turns.{turn_after, needs_hub, next_ticket_info, begins_at_hub, hub_event, Awaits, OnlyInnermostChanges, OnlyPendingChanged}
use Rattle.stepper.specs.TakingPart.{actor_place}

-- a moment of the environment's run
abbrev pub run_at : Run → HubSeen → Registers → List (List DueInfo) → RunAtHub
run_at run hub registers seen = record { run = run; hub = hub; addons = record { registers = registers; seen = seen } }

-- A TURN OF THE ENVIRONMENT
-- no addon has other registers, and none has seen anything more
pub record KeepsAddons (old new : AddonStates) : Type 0 where
  pub registers : new.registers ≡ old.registers
  pub seen : HasSeen old.seen [] new.seen

-- it made one entry of the journal, by itself, and no end is pending after it
pub record MakesLocal (old new : RunAtHub) : Type 0 where
  pub unowed : pending_at_hub old.run ≡ false
  pub turn : turn_after new.run old.run.core.env ≡ local.Made
  pub one : OneMore old.run.core.journal new.run.core.journal
  pub paid : new.run.ending ≡ None
  pub hub : new.hub ≡ old.hub
  pub seen : HasSeen old.addons.seen (option_to_list (next_ticket_info old.run.core.env)) new.addons.seen
  pub untouched : OnlyInnermostChanges old.run.core.env.frames new.run.core.env.frames old.addons.registers new.addons.registers

-- the hub had to make its turn, by this run. It is the one before, but that something may be pending that was not; and whatever run was followed goes on to it
pub record ComesToTheHub (plans : List Plan) (all : AddonStates) (old owing : Run) : Type 0 where
  pub needs : needs_hub owing
  pub owes : OnlyPendingChanged old owing
  pub once : IsTrue (pending_at_hub old) → owing ≡ old
  pub stays : pending_at_hub owing ≡ false → owing ≡ old
  pub goes : (history : List Entry) → FollowsOn plans old history all owing history all

-- it made one entry of the history, and no end is pending after it
pub record MakesAtHub (plans : List Plan) (old new : RunAtHub) : Type 0 where
  pub owing : Run
  pub comes : ComesToTheHub plans old.addons old.run owing
  pub one : AddsEntryOf actor.Env old.hub new.hub
  pub paid : new.run.ending ≡ None
  pub journal : new.run.core.journal ≡ old.run.core.journal
  pub seen : HasSeen old.addons.seen (option_to_list (begins_at_hub owing old.hub.hub)) new.addons.seen
  pub untouched : OnlyInnermostChanges old.run.core.env.frames new.run.core.env.frames old.addons.registers new.addons.registers

-- the hub stopped its call, as full exactly where the history has no room for it, or for want of memory. It made no entry: only the position moved, and the
-- frame is to end so, of which no end was pending before
pub record IsStopped (n : Numbers) (plans : List Plan) (old new : RunAtHub) : Type 0 where
  pub owing : Run
  pub comes : ComesToTheHub plans old.addons old.run owing
  pub cause : Why
  pub full : (cause ≡ why.Full) ↔ Awaits owing.core.awaited (λ c. IsTrue (is_full (hub_room n old.hub) c.call))
  pub memory : cause ≡ why.Memory → Awaits owing.core.awaited (λ c. MayFindNoMemory (hub_room n old.hub) old.hub.hub actor.Env (given_by c) c.call)
  pub no_asks : cause ≢ why.Asks
  pub free : old.run.ending ≡ None
  pub run : new.run ≡ record owing { core = after_no_answer (length old.hub.history) owing.core; ending = Some (end.Cut cause) }
  pub hub : new.hub ≡ old.hub
  pub addons : KeepsAddons old.addons new.addons

-- nothing was pending, and no event was next at the hub. Nothing changed
pub record IsIdle (old new : RunAtHub) : Type 0 where
  pub needs : needs_hub old.run
  pub unowed : pending_at_hub old.run ≡ false
  pub none : hub_event old.run.core.env old.hub.hub ≡ None
  pub run : new.run ≡ old.run
  pub hub : new.hub ≡ old.hub
  pub addons : KeepsAddons old.addons new.addons

-- it was gone. Nothing changed
pub record WasGone (old new : RunAtHub) : Type 0 where
  pub gone : old.run.core.env.phase ≡ phase.Gone
  pub same : new ≡ old

abbrev pub EnvironmentTurns : Numbers → List Plan → RunAtHub → RunAtHub → Type 0
EnvironmentTurns n plans old new = MakesLocal old new ⊎ (MakesAtHub plans old new ⊎ (IsStopped n plans old new ⊎ (IsIdle old new ⊎ WasGone old new)))

-- a moment between two turns: the environment's run at the hub, and the threads and workers
pub record Moment (J : Type 0) : Type 0 where
  pub env : RunAtHub
  pub actors : List (ActorRun J)

-- A TURN OF A THREAD OR A WORKER
module _ {J : Type 0} where
  -- one that has not ended made one entry of the history. It is the same thread with the same script, or the same worker, and the history has exactly the
  -- entries that it made. A thread ended with calls left only where the next one was stopped. A worker executes what it started in a later turn
  pub record ActorMakes (n : Numbers) (old : ActorRun J) (before : HubSeen) (new : ActorRun J) (after : HubSeen) : Type 0 where
    pub live : is_over old ≡ false
    pub one : AddsEntryOf (actor_of old) before after
    pub same : IsSameActor old new
    pub stands : IsActorOf n after new
    pub cut : is_over new ≡ true → StoppedSo n before (with_work_executed old)
    pub unexecuted : HoldsNoneExecuted new

  -- it has ended, or it waits. Nothing changed, but that it executed the work that it had started
  pub record ActorStays (n : Numbers) (old : ActorRun J) (before : HubSeen) (new : ActorRun J) (after : HubSeen) : Type 0 where
    pub still : (is_over new ≡ true) ⊎ IsBlocked n before new
    pub executed : new ≡ with_work_executed old
    pub hub : after ≡ before

  abbrev pub ActorTurns : Numbers → ActorRun J → HubSeen → ActorRun J → HubSeen → Type 0
  ActorTurns n old before new after = ActorMakes n old before new after ⊎ ActorStays n old before new after

  -- TURNS IN AN ORDER
  abbrev pub moment_of : RunAtHub → List (ActorRun J) → Moment J
  moment_of env actors = record { env = env; actors = actors }

  -- the actor at its place made its turn, and the others are as before; so are the environment and the addons
  pub record TurnOfActor (n : Numbers) (who : Actor) (old new : Moment J) : Type 0 where
    pub actor : ActorRun J
    pub is : actor_of actor ≡ who
    pub actors : new.actors ≡ set old.actors (actor_place n.threads who) actor
    pub turn : ActorTurns n (slice_index_or old.actors (actor_place n.threads who) actor) old.env.hub actor new.env.hub
    pub run : new.env.run ≡ old.env.run
    pub addons : new.env.addons ≡ old.env.addons

  -- the environment made its turn, so that whatever run was followed goes on, and the threads and workers are as before
  pub record TurnOfEnvironment (n : Numbers) (plans : List Plan) (old new : Moment J) : Type 0 where
    pub turn : EnvironmentTurns n plans old.env new.env
    pub goes : FollowsOnAt n plans old.env.run old.env.hub.history old.env.addons new.env.run new.env.hub.history new.env.addons
    pub actors : new.actors ≡ old.actors

  abbrev pub TurnOf : Numbers → List Plan → Actor → Moment J → Moment J → Type 0
  TurnOf n plans actor.Env old new = TurnOfEnvironment n plans old new
  TurnOf n plans who old new = TurnOfActor n who old new

  -- these turns, one after another, led from one moment to another
  abbrev pub TurnsThrough : Numbers → List Plan → List Actor → Moment J → Moment J → Type 0
  TurnsThrough n plans [] old new = new ≡ old
  TurnsThrough n plans (who ∷ later) old new = (next : Moment J) × TurnOf n plans who old next × TurnsThrough n plans later next new
