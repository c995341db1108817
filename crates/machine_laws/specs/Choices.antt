-- Which event comes next where no frame stands.
use Rattle.std.specs.Prelude.{◌≡◌, ◌<◌, ◌≤◌, ℕ, Bool, true, false, not, ◌&&◌, List, [], ◌∷◌, Some, None, is_some, is_none, ◌⊎◌}
use Rattle.napi_types.specs.declared.call.Ask.{Ask}
use Rattle.napi_types.specs.declared.duties.DueInfo.{DueInfo}
use Rattle.napi_types.specs.declared.entry.Actor.{Actor}
use Rattle.napi_types.specs.declared.entry.Actor.TheVariants as actor
use Rattle.napi_types.specs.declared.entry.Cause.{Cause}
use Rattle.napi_types.specs.declared.entry.Cause.TheVariants as cause
use Rattle.napi_types.specs.declared.entry.Duty.{Duty}
use Rattle.napi_types.specs.declared.entry.Entry.{Entry}
use Rattle.napi_types.specs.declared.entry.HostStep.TheVariants as host
use Rattle.napi_types.specs.declared.entry.Out.{Out}
use Rattle.napi_types.specs.declared.entry.Out.TheVariants as out
use Rattle.napi_types.specs.declared.entry.Phase.{Phase}
use Rattle.napi_types.specs.declared.entry.Phase.TheVariants as phase
use Rattle.napi_types.specs.declared.entry.What.{What}
use Rattle.napi_types.specs.declared.entry.What.TheVariants as what
use Rattle.napi_types.specs.plain.Entries.{host_entry}
use Rattle.napi_types.specs.parts.Book.{Book, Registration, is_registered, is_due, is_at, due_info, lowest_due, registration_at, owed_tickets, ticket_duty}
use Rattle.napi_types.specs.parts.Frames.{Frame, frame_of_duty, begin_told, is_hub_duty}
use Rattle.napi_types.specs.parts.Hooks.{Hook, last_hook}
use Rattle.napi_types.specs.environment.Environment.{Environment}
use Rattle.napi_types.specs.hub.Hub.{IsStageOf, Hub, Live, LoopEnded, HooksAbandoned, Drained, Final, stage_after}
use Rattle.napi_types.specs.hub.HubCalls.{is_thread_call}
use Rattle.napi_types.specs.hub.HubEvents.{delivery_entry}
use Rattle.napi_types.specs.hub.HubMoves.{Delivers, hub_move, is_quiet, is_spent}
use Rattle.napi_types.specs.hub.ThreadSteps.{is_thread_there}
use Rattle.napi_types.specs.hub.WorkerSteps.{is_worker_there}
use Rattle.napi_types.specs.runs.Choice.{local_choice, hub_choice, waiting_hooks}
use Rattle.napi_types.specs.runs.Loop.{Event, EndsLoop}
use Rattle.napi_types.specs.runs.Machine.{Machine}
use Rattle.napi_types.specs.runs.Run.{after, IsNext, IsRunBy}
use Rattle.napi_types.specs.runs.Setting.{Setting, opening_of, final_of}
use Rattle.napi_types.specs.runs.Step.{event_step}

-- FRAMES
-- what the begin of a call's frame tells
abbrev pub begins_call : Out → Bool
begins_call (out.Begin cause.Call addon entry duty) = true
begins_call _ = false

-- a call, the begin of a call's frame, or the end of a frame
abbrev pub is_of_frames : What → Out → Bool
is_of_frames (what.Call c) o = true
is_of_frames (what.Host host.Begin) o = begins_call o
is_of_frames (what.Host host.End) o = true
is_of_frames _ o = false

-- where a frame stands no event is chosen, so nothing else may come of the environment
abbrev pub NoneIsChosenInFrames : Type 0
NoneIsChosenInFrames = (m : Machine) (f : Frame) (fs : List Frame) (a : Ask) (x : Entry) → m.env.frames ≡ f ∷ fs → x.actor ≡ actor.Env → IsNext m a x
    → is_of_frames x.what x.reply.out ≡ true

-- what a thread does: it calls, acquires and releases thread-safe functions, and ends
abbrev pub is_of_threads : What → Bool
is_of_threads (what.Call c) = is_thread_call c
is_of_threads (what.Host host.ActorEnd) = true
is_of_threads _ = false

-- what a worker does: it starts and finishes works, and ends
abbrev pub is_of_workers : What → Bool
is_of_workers (what.Host host.Start) = true
is_of_workers (what.Host host.Finish) = true
is_of_workers (what.Host host.ActorEnd) = true
is_of_workers _ = false

-- what may come of another actor, whether or not a frame stands: of a thread, after `go`, or a worker that has not ended, what such a one does
abbrev pub IsOfOther : Hub → Actor → What → Type 0
IsOfOther h actor.Env w = Unit {0}
IsOfOther h (actor.Thread t) w = (is_thread_there h t ≡ true) × (is_of_threads w ≡ true)
IsOfOther h (actor.Worker n) w = (is_worker_there h n ≡ true) × (is_of_workers w ≡ true)

-- so nothing comes of others where there are none
abbrev pub OthersComeWhereTheyAre : Type 0
OthersComeWhereTheyAre = (m : Machine) (a : Ask) (x : Entry) → IsNext m a x → IsOfOther m.hub x.actor x.what

-- the innermost frame is the one that the entry tells
pub record TellsFrame (x : Entry) (m : Machine) : Type 0 where
  pub frame : Frame
  pub outer : List Frame
  pub stands : m.env.frames ≡ frame ∷ outer
  pub told : x.reply.out ≡ begin_told frame

-- each begin tells of the frame that it leaves innermost why it began, its addon, its entry and its duty
abbrev pub BeginsTellTheirFrames : Type 0
BeginsTellTheirFrames = (m : Machine) (a : Ask) (x : Entry) → IsNext m a x → x.what ≡ what.Host host.Begin → TellsFrame x (after m a x)

-- EVENTS
-- whether the hub may come to an event that the environment decides alone: to the end of the loop where that is its next great event and no frame of its duties
-- stands, and to every other in any case
abbrev pub may_come_to : Hub → Event → Bool
may_come_to h (EndsLoop reason) = is_some (stage_after h.stage host.LoopEnd) && is_none h.standing
may_come_to h _ = true

-- the entry is that of the event that the environment decides alone, and comes next whatever the hub is, where that may come to it
pub record IsOfOwn (m : Machine) (own : Event) (a : Ask) (x : Entry) : Type 0 where
  pub entry : x ≡ (event_step m own).entry
  pub anyhow : (h : Hub) → may_come_to h own ≡ true → IsNext (record m { hub = h }) a x

-- where the environment decides alone, its event comes next of it
abbrev pub OwnEventsComeFirst : Type 0
OwnEventsComeFirst = (m : Machine) (own : Event) (a : Ask) (x : Entry) → m.env.frames ≡ [] → local_choice m.env ≡ Some own → x.actor ≡ actor.Env → IsNext m a x
    → IsOfOwn m own a x

-- the hub has a next event, and the entry is that event's
pub record IsOfHub (m : Machine) (x : Entry) : Type 0 where
  pub event : Event
  pub next : hub_choice m.hub (waiting_hooks m.env) ≡ Some event
  pub entry : x ≡ (event_step m event).entry

-- where the environment does not decide alone, the hub's event comes next of it; so nothing comes where the hub has none either
abbrev pub HubEventsComeLast : Type 0
HubEventsComeLast = (m : Machine) (a : Ask) (x : Entry) → m.env.frames ≡ [] → local_choice m.env ≡ None → x.actor ≡ actor.Env → IsNext m a x → IsOfHub m x

-- `go` comes where no frame stands, and in the phase of the init frames only once the environment has opened and each addon had its frame
pub record MayGo (m : Machine) : Type 0 where
  pub alone : m.env.frames ≡ []
  pub opened : m.env.phase ≡ phase.Init → m.env.opened ≡ true
  pub begun : m.env.phase ≡ phase.Init → m.env.addons ≤ m.env.inits

abbrev pub GoComesAfterInitFrames : Type 0
GoComesAfterInitFrames = (m : Machine) (a : Ask) (x : Entry) → IsNext m a x → x.what ≡ what.Host host.Go → MayGo m

-- `gone` comes in the last phase before it and in no other, where no frame stands
abbrev pub GoneComesAfterFinals : Type 0
GoneComesAfterFinals = (m : Machine) (a : Ask) (x : Entry) → IsNext m a x → x.what ≡ what.Host host.Gone → (m.env.frames ≡ []) × (m.env.phase ≡ phase.Finals)

-- WHAT IS DUE
-- whether the tickets that are due begin in a phase: in that of the loop until exit is asked, and in the last one before the end
abbrev pub begins_due_tickets_in : Environment → Phase → Bool
begins_due_tickets_in e phase.Live = not e.exit_asked
begins_due_tickets_in e phase.Finals = true
begins_due_tickets_in e _ = false

abbrev pub begins_due_tickets : Environment → Bool
begins_due_tickets e = begins_due_tickets_in e e.phase

-- the entry is the begin of the frame of this ticket, which is due
pub record IsOfTicket (m : Machine) (n : ℕ) (x : Entry) : Type 0 where
  pub registration : Registration
  pub there : registration_at m.env.book n ≡ Some registration
  pub due : is_due registration.state ≡ true
  pub entry : x ≡ host_entry host.Begin (begin_told (frame_of_duty (due_info n registration)))

-- where due tickets begin the lowest comes first of the environment's: before what the hub delivers, before the loop ends, and before the environment is gone
abbrev pub LowestDueTicketComesFirst : Type 0
LowestDueTicketComesFirst = (m : Machine) (n : ℕ) (a : Ask) (x : Entry) → m.env.frames ≡ [] → begins_due_tickets m.env ≡ true → lowest_due m.env.book ≡ Some n
    → x.actor ≡ actor.Env → IsNext m a x → IsOfTicket m n x

-- it is the lowest: it is due, and none below it is
pub record IsLowestDue (book : Book) (n : ℕ) : Type 0 where
  pub due : is_at is_due book n ≡ true
  pub below : (k : ℕ) → k < n → is_at is_due book k ≡ false

abbrev pub LowestDueIsLowest : Type 0
LowestDueIsLowest = (book : Book) (n : ℕ) → lowest_due book ≡ Some n → IsLowestDue book n

-- HOOKS
-- the entry is the begin of the frame of this hook, whose ticket is registered
pub record IsOfHook (m : Machine) (h : Hook) (x : Entry) : Type 0 where
  pub registration : Registration
  pub there : registration_at m.env.book h.ticket ≡ Some registration
  pub registered : is_registered registration.state ≡ true
  pub entry : x ≡ host_entry host.Begin (begin_told (frame_of_duty (due_info h.ticket registration)))

-- after the loop the hook that was added last comes first of the environment's: before what the hub delivers, before `abandon` and `drain`, and before what is
-- due
abbrev pub LastHookComesFirst : Type 0
LastHookComesFirst = (m : Machine) (h : Hook) (a : Ask) (x : Entry) → m.env.frames ≡ [] → m.env.phase ≡ phase.Hooks → last_hook m.env.hooks ≡ Some h
    → x.actor ≡ actor.Env → IsNext m a x → IsOfHook m h x

-- ALL DUTIES
-- the duty that begins a frame is that of the lowest ticket that is due, and no frame stands
pub record BeginsLowest (m : Machine) (d : Duty) : Type 0 where
  pub ticket : ℕ
  pub duty : d ≡ ticket_duty ticket
  pub alone : m.env.frames ≡ []
  pub moment : begins_due_tickets m.env ≡ true
  pub lowest : lowest_due m.env.book ≡ Some ticket

-- it is that of the hook that was added last, in the phase of the hooks
pub record BeginsLastHook (m : Machine) (d : Duty) : Type 0 where
  pub hook : Hook
  pub duty : d ≡ ticket_duty hook.ticket
  pub alone : m.env.frames ≡ []
  pub moment : m.env.phase ≡ phase.Hooks
  pub last : last_hook m.env.hooks ≡ Some hook

-- the hub delivers between `go` and the end of the loop, between `drain` and `finals`, and between the end of the loop and `abandon` or `drain` while an
-- asynchronous hook waits
abbrev pub DeliversNow : Machine → Type 0
DeliversNow m = (m.hub.stage ≡ Live) ⊎ (m.hub.stage ≡ Drained) ⊎ (m.hub.stage ≡ LoopEnded) × (0 < waiting_hooks m.env)

-- it is the hub's, and no ticket: what the hub delivers next where the environment decides nothing alone, at a moment at which it delivers
pub record BeginsOfHub (m : Machine) (d : Duty) (x : Entry) : Type 0 where
  pub info : DueInfo
  pub duty : d ≡ info.duty
  pub ours : is_hub_duty (Some d) ≡ true
  pub alone : m.env.frames ≡ []
  pub waits : local_choice m.env ≡ None
  pub moment : DeliversNow m
  pub next : hub_move m.hub ≡ Some (Delivers info)
  pub entry : x ≡ delivery_entry info

-- a duty begins a frame only so: before the loop, once exit was asked in it, and in the phases of the hooks and of the drain a ticket that is due waits
abbrev pub TicketsBeginAtTheirMoments : Type 0
TicketsBeginAtTheirMoments = (m : Machine) (a : Ask) (x : Entry) (c : Cause) (addon entry : ℕ) (d : Duty) → IsNext m a x → x.what ≡ what.Host host.Begin
    → x.reply.out ≡ out.Begin c addon entry (Some d) → BeginsLowest m d ⊎ BeginsLastHook m d ⊎ BeginsOfHub m d x

-- EVENTS OF RUNS
-- at every moment of a run the hub has come to a stage of the phase
abbrev pub HubIsInPhase : Type 0
HubIsInPhase = (s : Setting) (bs : List Ask) (xs : List Entry) → IsRunBy (opening_of s) bs xs
    → IsStageOf (final_of s bs xs).env.phase (final_of s bs xs).hub.stage

-- so `go` comes in the phase of the init frames and in no other, ..
pub record IsReadyToGo (m : Machine) : Type 0 where
  pub phase : m.env.phase ≡ phase.Init
  pub alone : m.env.frames ≡ []
  pub opened : m.env.opened ≡ true
  pub begun : m.env.addons ≤ m.env.inits

abbrev pub GoComesOnlyAfterInitFrames : Type 0
GoComesOnlyAfterInitFrames = (s : Setting) (bs : List Ask) (xs : List Entry) (a : Ask) (x : Entry) → IsRunBy (opening_of s) bs xs
    → IsNext (final_of s bs xs) a x → x.what ≡ what.Host host.Go → IsReadyToGo (final_of s bs xs)

-- .. `abandon` comes in the phase of the hooks and in no other, once each hook has begun or was removed, while an asynchronous one waits. Nothing moves there,
-- and nobody is left who could give the hub something to do. It tells how many wait, and did not come before, ..
pub record IsReadyToAbandon (m : Machine) (x : Entry) : Type 0 where
  pub phase : m.env.phase ≡ phase.Hooks
  pub alone : m.env.frames ≡ []
  pub spent : m.env.hooks ≡ []
  pub waits : 0 < waiting_hooks m.env
  pub stage : m.hub.stage ≡ LoopEnded
  pub unmoved : hub_move m.hub ≡ None
  pub quiet : is_quiet m.hub ≡ true
  pub told : x.reply.out ≡ out.Unsigned (waiting_hooks m.env)

abbrev pub AbandonComesOnlyWhereHooksWait : Type 0
AbandonComesOnlyWhereHooksWait = (s : Setting) (bs : List Ask) (xs : List Entry) (a : Ask) (x : Entry) → IsRunBy (opening_of s) bs xs
    → IsNext (final_of s bs xs) a x → x.what ≡ what.Host host.Abandon → IsReadyToAbandon (final_of s bs xs) x

-- .. behind it nothing comes of the environment before `drain`, ..
abbrev pub DrainComesNextAfterAbandon : Type 0
DrainComesNextAfterAbandon = (s : Setting) (bs : List Ask) (xs : List Entry) (a : Ask) (x : Entry) → IsRunBy (opening_of s) bs xs
    → (final_of s bs xs).hub.stage ≡ HooksAbandoned → x.actor ≡ actor.Env → IsNext (final_of s bs xs) a x → x.what ≡ what.Host host.Drain

-- .. `drain` comes in the phase of the hooks and in no other, once each hook has begun or was removed, and no asynchronous one waits, ..
pub record IsReadyToDrain (m : Machine) : Type 0 where
  pub phase : m.env.phase ≡ phase.Hooks
  pub alone : m.env.frames ≡ []
  pub spent : m.env.hooks ≡ []
  pub unwaited : waiting_hooks m.env ≡ 0

abbrev pub DrainComesOnlyAfterHooks : Type 0
DrainComesOnlyAfterHooks = (s : Setting) (bs : List Ask) (xs : List Entry) (a : Ask) (x : Entry) → IsRunBy (opening_of s) bs xs
    → IsNext (final_of s bs xs) a x → x.what ≡ what.Host host.Drain → IsReadyToDrain (final_of s bs xs)

-- .. `finals` comes in the phase of the drain and in no other, once every thread and every worker has ended, no work runs, and the hub has no move left, ..
pub record IsReadyForFinals (m : Machine) : Type 0 where
  pub phase : m.env.phase ≡ phase.Drain
  pub alone : m.env.frames ≡ []
  pub unmoved : hub_move m.hub ≡ None
  pub spent : is_spent m.hub ≡ true

abbrev pub FinalsComeOnlyOnceAllEnded : Type 0
FinalsComeOnlyOnceAllEnded = (s : Setting) (bs : List Ask) (xs : List Entry) (a : Ask) (x : Entry) → IsRunBy (opening_of s) bs xs
    → IsNext (final_of s bs xs) a x → x.what ≡ what.Host host.Finals → IsReadyForFinals (final_of s bs xs)

-- .. and `gone` comes once the hub has made its last event, and each finalizer and each hook has begun or was withdrawn
pub record IsReadyToEnd (m : Machine) : Type 0 where
  pub phase : m.env.phase ≡ phase.Finals
  pub alone : m.env.frames ≡ []
  pub stage : m.hub.stage ≡ Final
  pub spent : owed_tickets m.env.book ≡ 0

abbrev pub GoneComesOnlyAfterFinals : Type 0
GoneComesOnlyAfterFinals = (s : Setting) (bs : List Ask) (xs : List Entry) (a : Ask) (x : Entry) → IsRunBy (opening_of s) bs xs
    → IsNext (final_of s bs xs) a x → x.what ≡ what.Host host.Gone → IsReadyToEnd (final_of s bs xs)
