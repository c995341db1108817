-- Turns in an order, as the two lists of a run show them: each adds an entry of its actor, or none where the actor could not go on.
use Rattle.std.specs.Prelude.{◌≡◌, ◌≢◌, ◌⊎◌, ℕ, Bool, true, false, not, ◌&&◌, List, [], ◌∷◌, ◌++◌, length, slice_get, Option, Some, None, option_map}
use Rattle.napi_types.specs.declared.call.Ask.{Ask}
use Rattle.napi_types.specs.declared.call.Call.{Call}
use Rattle.napi_types.specs.declared.entry.Actor.{Actor}
use Rattle.napi_types.specs.declared.entry.Actor.TheVariants as actor
use Rattle.napi_types.specs.declared.entry.Entry.{Entry}
use Rattle.napi_types.specs.declared.entry.Local.{Local}
use Rattle.napi_types.specs.declared.entry.Phase.TheVariants as phase
use Rattle.napi_types.specs.declared.entry.Why.{Why}
use Rattle.napi_types.specs.declared.entry.Why.TheVariants as why
use Rattle.napi_types.specs.declared.op.Op.{Op}
use Rattle.napi_types.specs.plain.Room.{Room, is_full}
use Rattle.napi_types.specs.plain.Weave.{weave}
use Rattle.napi_types.specs.hub.Actors.{thread_calls, left_along, Free, Over, worker_along}
use Rattle.napi_types.specs.hub.HistoryRoom.{history_room}
use Rattle.napi_types.specs.hub.Hub.{Hub}
use Rattle.napi_types.specs.hub.HubSteps.{hub_along}
use Rattle.napi_types.specs.hub.ThreadSteps.{is_gone_on}
use Rattle.napi_types.specs.hub.Waits.{waits_at, worker_waits}
use Rattle.napi_types.specs.runs.Choice.{choice}
use Rattle.napi_types.specs.runs.Machine.{Machine}
use Rattle.napi_types.specs.runs.Plan.{frames_ask}
use Rattle.napi_types.specs.runs.Setting.{Setting, RunsBy, opening_of, final_of, final_registers}
use Rattle.napi_types.specs.runs.Step.{may_cut}

-- BETWEEN TWO TURNS
-- what stands on each list so far, and whether the call of the innermost frame was stopped, whose frame is to be cut
pub record BothLists : Type 0 where
  pub journal : List Local
  pub history : List Entry
  pub stopped : Bool

-- the two lists are a run so far, at these asks
pub record RunSoFar (s : Setting) (l : BothLists) : Type 0 where
  pub asks : List Ask
  pub run : RunsBy s asks (weave l.journal l.history)

-- the machine to which it came
abbrev pub machine_at : (s : Setting) (l : BothLists) → RunSoFar s l → Machine
machine_at s l r = final_of s r.asks (weave l.journal l.history)

-- WHY A TURN ADDS NOTHING
-- the environment is gone, or it has nothing to do: no frame stands, and no event is next
pub record IsAtRest (s : Setting) (l : BothLists) : Type 0 where
  pub so_far : RunSoFar s l
  pub rest : ((machine_at s l so_far).env.phase ≡ phase.Gone) ⊎ (((machine_at s l so_far).env.frames ≡ []) × (choice (machine_at s l so_far) ≡ None))

-- its innermost frame asks a call at which it may be cut, as full or for want of memory
pub record MayBeStopped (s : Setting) (l : BothLists) : Type 0 where
  pub so_far : RunSoFar s l
  pub ask : Ask
  pub asked : ask ≡ frames_ask s.plans (final_registers s so_far.asks (weave l.journal l.history)) (machine_at s l so_far).env.frames ask
  pub cause : Why
  pub may : may_cut (machine_at s l so_far) ask cause ≡ true
  pub no_asks : cause ≢ why.Asks

-- the history has room for the next of the calls that are left of a thread, and it waits at the hub
abbrev pub next_waits : Room → Hub → ℕ → Option (List Call) → Bool
next_waits r h t (Some (c ∷ later)) = not (is_full r c) && waits_at h t c
next_waits r h t _ = false

-- a thread with these calls left has ended, or it waits for `go` or at its next call
abbrev pub ThreadIsStill : Room → Hub → ℕ → Option (List Call) → Type 0
ThreadIsStill r h t left = (left ≡ None) ⊎ ((is_gone_on h.stage ≡ false) ⊎ (next_waits r h t left ≡ true))

-- a worker with these entries has ended, or it waits
abbrev pub WorkerIsStill : Hub → ℕ → List Entry → Type 0
WorkerIsStill h w history = (worker_along w (Some Free) history ≡ Some Over) ⊎ (worker_waits h w ≡ true)

-- a thread of these scripts, or a worker, could not go on behind this history
abbrev pub IsStill : Setting → List (List Op) → Actor → List Entry → Type 0
IsStill s scripts actor.Env history = ⊥
IsStill s scripts (actor.Thread t) history =
    let hub = hub_along (opening_of s).hub history in
    ThreadIsStill (history_room hub (length history) s.limits.history) hub t (left_along t (option_map thread_calls (slice_get scripts t)) history)
IsStill s scripts (actor.Worker w) history = WorkerIsStill (hub_along (opening_of s).hub history) w history

-- A TURN
-- it added one entry to the journal
pub record AddsLocal (old new : BothLists) : Type 0 where
  pub entry : Local
  pub journal : new.journal ≡ old.journal ++ entry ∷ []
  pub history : new.history ≡ old.history

-- it added one entry of this actor to the history
pub record AddsShared (who : Actor) (old new : BothLists) : Type 0 where
  pub entry : Entry
  pub by : entry.actor ≡ who
  pub journal : new.journal ≡ old.journal
  pub history : new.history ≡ old.history ++ entry ∷ []

-- the environment added an entry to one of the lists; or nothing, at rest, or where its call was stopped. After a stop it adds an entry next
abbrev pub EnvironmentTakesTurn : Setting → BothLists → BothLists → Type 0
EnvironmentTakesTurn s old new =
    ((AddsLocal old new ⊎ AddsShared actor.Env old new) × (new.stopped ≡ false))
    ⊎ ((IsAtRest s old × (new ≡ old)) ⊎ (MayBeStopped s old × (old.stopped ≡ false) × (new ≡ record old { stopped = true })))

-- a thread or a worker added an entry to the history, or nothing where it could not go on
abbrev pub OtherTakesTurn : Setting → List (List Op) → Actor → BothLists → BothLists → Type 0
OtherTakesTurn s scripts who old new = (AddsShared who old new × (new.stopped ≡ old.stopped)) ⊎ (IsStill s scripts who old.history × (new ≡ old))

abbrev pub TakesTurn : Setting → List (List Op) → Actor → BothLists → BothLists → Type 0
TakesTurn s scripts actor.Env old new = EnvironmentTakesTurn s old new
TakesTurn s scripts who old new = OtherTakesTurn s scripts who old new

-- TURNS
-- the turns of these actors, one after another, led from these lists to those
abbrev pub TurnsLead : Setting → List (List Op) → List Actor → BothLists → BothLists → Type 0
TurnsLead s scripts [] old new = new ≡ old
TurnsLead s scripts (who ∷ later) old new = (next : BothLists) × TakesTurn s scripts who old next × TurnsLead s scripts later next new

-- the two lists arose by these turns, in this order, from the opening on, which stands first in the journal
pub record AroseByTurns (s : Setting) (scripts : List (List Op)) (turns : List Actor) (journal : List Local) (history : List Entry) : Type 0 where
  pub opening : Local
  pub stopped : Bool
  pub led : TurnsLead s scripts turns (record { journal = opening ∷ []; history = []; stopped = false }) (record { journal = journal; history = history; stopped = stopped })
