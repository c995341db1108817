-- What a turn of the environment comes to.
use Rattle.std.specs.Prelude.{◌≡◌, ◌⊎◌, ℕ, Bool, true, false, cond, List, [], ◌∷◌, drop, Option, Some, None, IfSome, option_map}
use Rattle.std.specs.Option.{option_or, option_to_list}
use Rattle.napi_types.specs.declared.call.Ask.{Ask}
use Rattle.napi_types.specs.declared.call.Ask.TheVariants as ask
use Rattle.napi_types.specs.declared.duties.DueInfo.{DueInfo}
use Rattle.napi_types.specs.declared.entry.Duty.{Duty}
use Rattle.napi_types.specs.declared.entry.Entry.{Entry}
use Rattle.napi_types.specs.declared.entry.LoopEnd.TheVariants as loop_end
use Rattle.napi_types.specs.declared.entry.Phase.{Phase}
use Rattle.napi_types.specs.declared.entry.Phase.TheVariants as phase
use Rattle.napi_types.specs.declared.entry.Reply.{Reply}
use Rattle.napi_types.specs.declared.entry.SharedCall.{SharedCall}
use Rattle.napi_types.specs.declared.entry.Why.{Why}
use Rattle.napi_types.specs.declared.ids.HandleId.{HandleId}
use Rattle.napi_types.specs.plain.Lists.{tail}
use Rattle.napi_types.specs.parts.Book.{due_info, registration_at}
use Rattle.napi_types.specs.parts.Frames.{Frame, at_last_ask}
use Rattle.napi_types.specs.scripts.Plans.{Plan, plan_of, Registers, registers_of}
use Rattle.napi_types.specs.scripts.Registers.{plan_ask, registers_after_reply}
use Rattle.napi_types.specs.environment.Ends.{end_change}
use Rattle.napi_types.specs.environment.Environment.{Environment}
use Rattle.napi_types.specs.hub.Hub.{Hub}
use Rattle.napi_types.specs.hub.HubMoves.{Delivers}
use Rattle.napi_types.specs.runs.Choice.{local_choice, hub_choice, waiting_hooks}
use Rattle.napi_types.specs.runs.Loop.{Event, Inits, Tickets, Moves, EndsLoop, IsGone}
use Rattle.addon_trait.specs.Addons.{OthersStay}
use Rattle.env_core.specs.Core.{Core, after_change}
use Rattle.shared_hub.specs.HubStates.{HubSeen}
use Rattle.env_loop.specs.declared.run.FrameEnd.{FrameEnd}
use Rattle.env_loop.specs.declared.run.HubTurn.{HubTurn}
use Rattle.env_loop.specs.declared.run.HubTurn.TheVariants as hub_turn
use Rattle.env_loop.specs.declared.turn.LocalTurn.{LocalTurn}
use Rattle.env_loop.specs.declared.turn.LocalTurn.TheVariants as turn
use Rattle.env_loop.specs.declared.turn.NextEvent.{NextEvent}
use Rattle.env_loop.specs.declared.turn.NextEvent.TheVariants as next
use Rattle.env_loop.specs.Recording.{AddonStates, HasSeen}
use Rattle.env_loop.specs.RecordedRuns.{Run, OneMore, cut_at, pending_at_hub, hub_begun, FitsHub}
use Rattle.env_loop.specs.FollowedRuns.{FollowsOn}

-- THE NEXT EVENT
-- the event that the environment decides alone, where it does; else the next event is the hub's, if there is one
abbrev pub IsNextEvent : NextEvent → Option Event → Type 0
IsNextEvent (next.Init addon) o = o ≡ Some (Inits addon)
IsNextEvent next.Ticket o = (n : ℕ) × (o ≡ Some (Tickets n))
IsNextEvent next.Exit o = o ≡ Some (EndsLoop loop_end.Exit)
IsNextEvent next.Gone o = o ≡ Some IsGone
IsNextEvent next.OfHub o = o ≡ None

-- A LOCAL TURN
-- a turn makes an entry where a frame stands. Else the environment makes the event that it decides alone, but for the end of the loop, which stands in the
-- history; every other event is the hub's, until the environment is gone
abbrev pub event_turn : Option Event → Phase → LocalTurn
event_turn (Some (EndsLoop why)) p = turn.NeedsHub
event_turn (Some event) p = turn.Made
event_turn None phase.Gone = turn.Gone
event_turn None p = turn.NeedsHub

abbrev pub turn_at : List Frame → Environment → LocalTurn
turn_at (f ∷ fs) e = turn.Made
turn_at [] e = event_turn (local_choice e) e.phase

abbrev pub turn_of : Environment → LocalTurn
turn_of e = turn_at e.frames e

-- a turn after which this run has something pending at the hub made no entry: the hub has to make its turn
abbrev pub turn_after : Run → Environment → LocalTurn
turn_after run e = cond (pending_at_hub run) turn.NeedsHub (turn_of e)

-- the hub has to make its turn: something is pending at it, or the next event is its own
abbrev pub needs_hub : Run → Type 0
needs_hub run = turn_after run run.core.env ≡ turn.NeedsHub

-- what the ticket tells whose frame an event begins, where it begins one
abbrev pub ticket_info_of : Environment → Option Event → Option DueInfo
ticket_info_of e (Some (Tickets n)) = option_map (due_info n) (registration_at e.book n)
ticket_info_of e _ = None

-- what the ticket tells that begins in the next turn, where one does: none begins while a frame stands
abbrev pub ticket_info_at : Environment → List Frame → Option DueInfo
ticket_info_at e [] = ticket_info_of e (local_choice e)
ticket_info_at e (f ∷ fs) = None

abbrev pub next_ticket_info : Environment → Option DueInfo
next_ticket_info e = ticket_info_at e e.frames

-- A TURN AT THE HUB
-- the event that is next at the hub, where nothing is pending: the end of the loop, once exit was asked, or else the one that the hub chooses
abbrev pub hub_event : Environment → Hub → Option Event
hub_event e h = option_or (local_choice e) (hub_choice h (waiting_hooks e))

-- what the duty tells whose frame an event of the hub begins, where it begins one
abbrev pub hub_duty_info_of : Option Event → Option DueInfo
hub_duty_info_of (Some (Moves (Delivers d))) = Some d
hub_duty_info_of _ = None

-- what the duty tells whose frame begins in the hub's turn
abbrev pub begins_at_hub : Run → Hub → Option DueInfo
begins_at_hub run h = cond (pending_at_hub run) None (hub_duty_info_of (hub_event run.core.env h))

-- a fact of why a call was cut, where the turn is one that cut it
abbrev pub IfCut : HubTurn → (Why → Type 0) → Type 0
IfCut (hub_turn.Cut w) P = P w
IfCut _ P = Unit {0}

-- a fact of the call that is awaited; there has to be one
abbrev pub Awaits : Option SharedCall → (SharedCall → Type 0) → Type 0
Awaits (Some c) P = P c
Awaits None P = ⊥

-- TURNS OF A FRAME
-- what a frame asks by the plans, where its addon tells one, from these registers
abbrev pub IsAsked : List Plan → Registers → Frame → Ask → Type 0
IsAsked plans all f a = IfSome (plan_of plans f.addon) (λ p. a ≡ plan_ask p (registers_of all f.addon) f.entry f.asks)

-- what a frame asks that may make no asks: it leaves then
abbrev pub IsAskIn : Bool → List Plan → Registers → Frame → Ask → Type 0
IsAskIn true plans all f a = IsAsked plans all f a
IsAskIn false plans all f a = a ≡ ask.Leave None

abbrev pub IsAskOf : List Plan → Registers → Frame → Ask → Type 0
IsAskOf plans all f a = IsAskIn f.makes_asks plans all f a

-- the registers once the addon of the innermost of these frames was told the reply to the ask that the frame made last
abbrev pub ReplyIsNoted : List Plan → Registers → List Frame → Reply → Registers → Type 0
ReplyIsNoted plans all [] r now = now ≡ all
ReplyIsNoted plans all (f ∷ fs) r now =
    OthersStay all now f.addon × IfSome (plan_of plans f.addon) (λ p. registers_of now f.addon ≡ registers_after_reply p (registers_of all f.addon) f.entry f.asks r)

-- a frame that begins where none stood changes its addon's registers, and no other's, where a duty began it; an init frame is given nothing
abbrev pub OnlyGiven : Option Duty → ℕ → Registers → Registers → Type 0
OnlyGiven None addon all now = now ≡ all
OnlyGiven (Some d) addon all now = OthersStay all now addon

-- a turn, by the frames before it and those after it, changes the registers of the addon that runs the innermost frame after it, and of no other addon.
-- Where an init frame begins, or no frame stands after it, every addon keeps its registers
abbrev pub OnlyInnermostChanges : List Frame → List Frame → Registers → Registers → Type 0
OnlyInnermostChanges before [] all now = now ≡ all
OnlyInnermostChanges [] (g ∷ gs) all now = OnlyGiven g.duty g.addon all now
OnlyInnermostChanges (f ∷ fs) (g ∷ gs) all now = OthersStay all now g.addon

-- WHAT A TURN KEEPS
-- a turn that leaves one entry in the journal keeps the addons and the journal's limit, makes no event of the hub, and has nothing pending afterwards
pub record MakesEntry (old new : Run) : Type 0 where
  pub addons : new.core.env.addons ≡ old.core.env.addons
  pub fits : (h : HubSeen) → FitsHub old h → FitsHub new h
  pub limit : new.core.limit ≡ old.core.limit
  pub position : new.core.position ≡ old.core.position
  pub awaited : new.core.awaited ≡ None
  pub ending : new.ending ≡ None
  pub one : OneMore old.core.journal new.core.journal

-- a turn: the addons that are no addons of the script keep their registers, only the innermost frame's addon may have other ones, an addon has seen a duty
-- more where its frame begins, and a run that was followed goes on over the same history
pub record IsMadeTurn (plans : List Plan) (old : Run) (all : AddonStates) (new : Run) (now : AddonStates) : Type 0 where
  pub others : drop old.core.env.addons now.registers ≡ drop old.core.env.addons all.registers
  pub untouched : OnlyInnermostChanges old.core.env.frames new.core.env.frames all.registers now.registers
  pub seen : HasSeen all.seen (option_to_list (next_ticket_info old.core.env)) now.seen
  pub kept : MakesEntry old new
  pub goes : (history : List Entry) → FollowsOn plans old history all new history now

-- all is as it was but for what is pending
abbrev pub OnlyPendingChanged : Run → Run → Type 0
OnlyPendingChanged old new = new ≡ record old { core = record old.core { awaited = new.core.awaited }; ending = new.ending }

-- a turn after which something is pending at the hub, where no end was pending before: all but that is as before, and a run that was followed goes on over the
-- same history
pub record BecamePending (plans : List Plan) (old : Run) (all : AddonStates) (new : Run) (now : AddonStates) : Type 0 where
  pub core : new.core ≡ record old.core { awaited = new.core.awaited }
  pub begun : new.begun ≡ old.begun
  pub free : old.ending ≡ None
  pub owes : pending_at_hub new ≡ true
  pub same : now ≡ all
  pub goes : (history : List Entry) → FollowsOn plans old history all new history now

-- nothing changed
pub record ChangedNothing (old : Run) (all : AddonStates) (new : Run) (now : AddonStates) : Type 0 where
  pub run : new ≡ old
  pub addons : now ≡ all

-- a turn by what it comes to: it made its entry, something became pending, or it changed nothing
abbrev pub TurnCameTo : LocalTurn → List Plan → Run → AddonStates → Run → AddonStates → Type 0
TurnCameTo turn.Made plans old all new now = IsMadeTurn plans old all new now
TurnCameTo turn.NeedsHub plans old all new now = BecamePending plans old all new now ⊎ ChangedNothing old all new now
TurnCameTo turn.Gone plans old all new now = ChangedNothing old all new now

-- the innermost frame ended in this turn, no duty of the hub with it, and the addon of its caller was told
pub record EndedNow (plans : List Plan) (all : Registers) (old : Run) (value : Option HandleId) (how : FrameEnd) (new : Run) (now : Registers) : Type 0 where
  pub ended : new.core ≡ after_change (end_change value (cut_at how) old.core.env) old.core
  pub ending : new.ending ≡ None
  pub begun : hub_begun new.begun ≡ hub_begun old.begun
  pub told : ReplyIsNoted plans all (at_last_ask (tail old.core.env.frames)) (end_change value (cut_at how) old.core.env).entry.reply now

-- the innermost frame of an environment ended so, without a value
abbrev pub EndedBy : FrameEnd → Core → Core → Type 0
EndedBy how old new = new ≡ after_change (end_change None (cut_at how) old.env) old

-- it ended now, or where a duty of the hub began it, its end is pending
abbrev pub EndedOrPending : Bool → List Plan → Registers → Run → Option HandleId → FrameEnd → Run → Registers → Type 0
EndedOrPending false plans all old value how new now = EndedNow plans all old value how new now
EndedOrPending true plans all old value how new now = (new ≡ record old { ending = Some how }) × (now ≡ all)
