-- What a turn of the environment at the hub comes to.
use Rattle.std.specs.Prelude.{◌≡◌, ◌≢◌, ◌⊎◌, ℕ, true, false, List, [], ◌++◌, ◌∷◌, drop, length, set, Option, Some, None, IsTrue, IfSome}
use Rattle.std.specs.Option.{option_to_list}
use Rattle.napi_types.specs.declared.duties.DueInfo.{DueInfo}
use Rattle.napi_types.specs.declared.entry.Actor.TheVariants as actor
use Rattle.napi_types.specs.declared.entry.SharedCall.{SharedCall}
use Rattle.napi_types.specs.declared.entry.Why.{Why}
use Rattle.napi_types.specs.declared.entry.Why.TheVariants as why
use Rattle.napi_types.specs.plain.Room.{is_full}
use Rattle.napi_types.specs.scripts.Plans.{Plan, registers_of}
use Rattle.napi_types.specs.scripts.Registers.{with_gifts}
use Rattle.napi_types.specs.hub.Hub.{Hub, Final}
use Rattle.napi_types.specs.hub.HubMoves.{is_spent}
use Rattle.addon_trait.specs.Addons.{seen_of}
use Rattle.env_core.specs.Sharing.{after_hub_begin, after_no_answer}
use Rattle.shared_hub.specs.HubStates.{HubSeen, hub_room}
use Rattle.shared_hub.specs.SharedTries.{given_by, MayFindNoMemory}
use Rattle.shared_hub.specs.declared.naming.Numbers.{Numbers}
use Rattle.env_loop.specs.declared.run.FrameEnd.TheVariants as end
use Rattle.env_loop.specs.declared.run.HubTurn.{HubTurn}
use Rattle.env_loop.specs.declared.run.HubTurn.TheVariants as turn
use Rattle.env_loop.specs.ActorRuns.{AddsEntryOf}
use Rattle.env_loop.specs.Recording.{AddonStates, HasSeen}
use Rattle.env_loop.specs.RecordedRuns.{Run, pending_at_hub, FitsHub}
use Rattle.env_loop.specs.FollowedRuns.{FollowsOnAt}
use Rattle.env_loop.specs.Turns.{Awaits, OnlyInnermostChanges, begins_at_hub, hub_event}

-- the journal, the addons and the limit stay
pub record KeepsJournal (old new : Run) : Type 0 where
  pub journal : new.core.journal ≡ old.core.journal
  pub addons : new.core.env.addons ≡ old.core.env.addons
  pub limit : new.core.limit ≡ old.core.limit

-- a hub comes to `finals` only where it is spent: all threads and workers have ended, and no work runs
abbrev pub SpentAtFinals : Hub → Hub → Type 0
SpentAtFinals old new = new.stage ≡ Final → (old.stage ≡ Final) ⊎ (is_spent old ≡ true)

-- a turn that made one entry of the history: what was pending is done, only the innermost frame's addon may have other registers, an addon has seen a duty more
-- where its frame begins, and a run that was followed goes on
pub record IsMadeHubTurn (n : Numbers) (plans : List Plan) (old : Run) (before : HubSeen) (all : AddonStates) (new : Run) (after : HubSeen)
    (now : AddonStates) : Type 0 where
  pub made : AddsEntryOf actor.Env before after
  pub answered : new.core.awaited ≡ None
  pub ended : new.ending ≡ None
  pub someone : (pending_at_hub old ≡ true) ⊎ (hub_event old.core.env before.hub ≢ None)
  pub kept : KeepsJournal old new
  pub fits : FitsHub new after
  pub others : drop old.core.env.addons now.registers ≡ drop old.core.env.addons all.registers
  pub untouched : OnlyInnermostChanges old.core.env.frames new.core.env.frames all.registers now.registers
  pub seen : HasSeen all.seen (option_to_list (begins_at_hub old before.hub)) now.seen
  pub fitted : IfSome old.core.awaited (λ c. is_full (hub_room n before) c.call ≡ false)
  pub spent : SpentAtFinals before.hub after.hub
  pub goes : FollowsOnAt n plans old before.history all new after.history now

-- why the hub may stop a call: as full where the history has no room for it; for want of memory where it has room and may find none; and never for its asks
abbrev pub StopsAs : Numbers → HubSeen → Option SharedCall → Why → Type 0
StopsAs n seen awaited why.Full = Awaits awaited (λ c. IsTrue (is_full (hub_room n seen) c.call))
StopsAs n seen awaited why.Memory = Awaits awaited (λ c. MayFindNoMemory (hub_room n seen) seen.hub actor.Env (given_by c) c.call)
StopsAs n seen awaited why.Asks = ⊥

-- a turn at which the hub stopped the call: only the position moved, nothing is awaited, and the frame is to end so
pub record IsCutTurn (n : Numbers) (plans : List Plan) (w : Why) (old : Run) (before : HubSeen) (all : AddonStates) (new : Run) (after : HubSeen) (now : AddonStates) : Type 0 where
  pub cause : StopsAs n before old.core.awaited w
  pub hub : after ≡ before
  pub run : new ≡ record old { core = after_no_answer (length before.history) old.core; ending = Some (end.Cut w) }
  pub addons : now ≡ all
  pub fits : FitsHub new after
  pub goes : FollowsOnAt n plans old before.history all new after.history now

-- a turn at which there is nothing to do
pub record IsIdleTurn (old : Run) (before : HubSeen) (all : AddonStates) (new : Run) (after : HubSeen) (now : AddonStates) : Type 0 where
  pub unowed : pending_at_hub old ≡ false
  pub none : hub_event old.core.env before.hub ≡ None
  pub run : new ≡ old
  pub hub : after ≡ before
  pub addons : now ≡ all

abbrev pub HubTurnCameTo : Numbers → HubTurn → List Plan → Run → HubSeen → AddonStates → Run → HubSeen → AddonStates → Type 0
HubTurnCameTo n turn.Made plans old before all new after now = IsMadeHubTurn n plans old before all new after now
HubTurnCameTo n (turn.Cut w) plans old before all new after now = IsCutTurn n plans w old before all new after now
HubTurnCameTo n turn.Nothing plans old before all new after now = IsIdleTurn old before all new after now

-- the frame of a duty of the hub has begun in a run, at this position, and its addon was given what it tells
pub record DeliversAt (d : DueInfo) (position : ℕ) (old : Run) (all : AddonStates) (new : Run) (now : AddonStates) : Type 0 where
  pub run : new ≡ record old { core = after_hub_begin d position old.core; begun = Some d }
  pub registers : now.registers ≡ set all.registers d.addon (with_gifts d.gifts (registers_of all.registers d.addon))
  pub seen : now.seen ≡ set all.seen d.addon (seen_of all.seen d.addon ++ d ∷ [])
