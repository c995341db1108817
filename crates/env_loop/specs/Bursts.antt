-- What a burst of the environment's turns at the hub comes to, and where it goes on.
use Rattle.std.specs.Prelude.{◌≡◌, ℕ, zero, suc, nat_lt, Bool, true, false, not, ◌&&◌, ◌||◌, cond, List, [], ◌∷◌, ◌++◌, length, drop, None}
use Rattle.std.specs.List.{All}
use Rattle.napi_types.specs.declared.entry.Actor.{Actor}
use Rattle.napi_types.specs.declared.entry.Actor.TheVariants as actor
use Rattle.napi_types.specs.declared.entry.Entry.{Entry}
use Rattle.napi_types.specs.declared.entry.Why.TheVariants as why
use Rattle.napi_types.specs.parts.Frames.{Frame, is_hub_duty, most_asks}
use Rattle.napi_types.specs.scripts.Plans.{Plan}
use Rattle.napi_types.specs.environment.Environment.{Environment}
use Rattle.napi_types.specs.hub.Hub.{Hub}
use Rattle.napi_types.specs.hub.HubSteps.{IsHubNext, hub_step, hub_along}
use Rattle.napi_types.specs.runs.Choice.{local_choice}
use Rattle.shared_hub.specs.HubStates.{HubSeen}
use Rattle.shared_hub.specs.declared.naming.Numbers.{Numbers}
use Rattle.env_loop.specs.declared.run.FrameEnd.{FrameEnd}
use Rattle.env_loop.specs.declared.run.FrameEnd.TheVariants as end
use Rattle.env_loop.specs.declared.run.HubTurn.{HubTurn}
use Rattle.env_loop.specs.declared.run.HubTurn.TheVariants as hub_turn
use Rattle.env_loop.specs.declared.turn.LocalTurn.{LocalTurn}
use Rattle.env_loop.specs.declared.turn.LocalTurn.TheVariants as turn
use Rattle.env_loop.specs.Recording.{AddonStates}
use Rattle.env_loop.specs.RecordedRuns.{Run, pending_at_hub, FitsHub}
use Rattle.env_loop.specs.FollowedRuns.{FollowsOnAt}
use Rattle.env_loop.specs.HubTurns.{KeepsJournal}
use Rattle.env_loop.specs.Turns.{event_turn}

-- WHERE THE NEXT EVENT IS THE HUB'S
-- the frame's next turn is its end: it makes no asks at all, or has made all that it may
abbrev pub asks_no_more : Frame → Bool
asks_no_more f = not (f.makes_asks && nat_lt f.asks most_asks)

-- and this is how: it leaves, or is cut after its last ask
abbrev pub silent_end : Frame → FrameEnd
silent_end f = cond (nat_lt f.asks most_asks) end.Leaves (end.Cut why.Asks)

-- the hub has to make its turn
abbrev pub is_of_hub : LocalTurn → Bool
is_of_hub turn.NeedsHub = true
is_of_hub _ = false

-- the hub makes the next event, whatever an addon asks: the end of a frame of one of its duties, which makes no ask more; or, where no frame stands, an event
-- that the environment does not decide alone, or the end of the loop
abbrev pub hub_is_next_at : List Frame → Environment → Bool
hub_is_next_at (f ∷ fs) e = is_hub_duty f.duty && asks_no_more f
hub_is_next_at [] e = is_of_hub (event_turn (local_choice e) e.phase)

-- the next event is the hub's: something is pending at it, or it makes the next event whatever an addon asks
abbrev pub hub_is_next : Run → Bool
hub_is_next run = pending_at_hub run || hub_is_next_at run.core.env.frames run.core.env

-- WHAT CAME
-- from a hub on each of these entries is its next where it stands
abbrev pub AreHubNext : Hub → List Entry → Type 0
AreHubNext h [] = Unit {0}
AreHubNext h (x ∷ xs) = IsHubNext h x × AreHubNext (hub_step h x).after xs

-- so many entries more, which this actor made
pub record AddsEntriesOf (who : Actor) (count : ℕ) (old new : HubSeen) : Type 0 where
  pub entries : List Entry
  pub as_many : length entries ≡ count
  pub by : All (λ x. x.actor ≡ who) entries
  pub next : AreHubNext old.hub entries
  pub hub : new.hub ≡ hub_along old.hub entries
  pub history : new.history ≡ old.history ++ entries

-- no answer of the hub is awaited, and no end is pending
pub record NothingPending (run : Run) : Type 0 where
  pub answered : run.core.awaited ≡ None
  pub ended : run.ending ≡ None

-- how many entries a turn made
abbrev pub made_by : HubTurn → ℕ
made_by hub_turn.Made = 1
made_by _ = 0

-- turns at the hub that made so many entries: a run that was followed goes on, and the journal, the addons and the limit stay
pub record IsBurst (n : Numbers) (plans : List Plan) (made : ℕ) (old : Run) (before : HubSeen) (all : AddonStates) (new : Run) (after : HubSeen) (now : AddonStates) : Type 0 where
  pub grew : AddsEntriesOf actor.Env made before after
  pub kept : KeepsJournal old new
  pub fits : FitsHub new after
  pub others : drop old.core.env.addons now.registers ≡ drop old.core.env.addons all.registers
  pub goes : FollowsOnAt n plans old before.history all new after.history now

-- WHERE IT STOPS
-- the environment's run, the hub beside it, and what is seen of the addons
pub record RunAtHub : Type 0 where
  pub run : Run
  pub hub : HubSeen
  pub addons : AddonStates

abbrev pub BurstBetween : Numbers → List Plan → ℕ → RunAtHub → RunAtHub → Type 0
BurstBetween n plans made old new = IsBurst n plans made old.run old.hub old.addons new.run new.hub new.addons

-- turns of which so many made an entry, each of these where the next event was the hub's, whatever an addon might ask
abbrev pub TurnsOn : Numbers → List Plan → ℕ → RunAtHub → RunAtHub → Type 0
TurnsOn n plans zero old new = BurstBetween n plans 0 old new
TurnsOn n plans (suc k) old new = (at : RunAtHub) × TurnsOn n plans k old at × (hub_is_next at.run ≡ true) × BurstBetween n plans 1 at new

-- a burst goes on after an entry only where the next event is the hub's: where an addon is to be asked it has stopped
abbrev pub StopsAtAsks : Numbers → List Plan → ℕ → RunAtHub → RunAtHub → Type 0
StopsAtAsks n plans zero old new = Unit {0}
StopsAtAsks n plans (suc k) old new = (first : RunAtHub) × BurstBetween n plans 1 old first × TurnsOn n plans k first new
