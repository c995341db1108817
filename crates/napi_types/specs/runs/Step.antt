-- The entry that must stand next, what it leaves, and whether it may stand there.
use Rattle.std.specs.Prelude.{ℕ, ◌+◌, ◌==◌, Bool, true, false, not, ◌&&◌, ◌||◌, List, [], ◌∷◌, length, Option, Some, None}
use Rattle.napi_types.specs.declared.call.Call.{Call}
use Rattle.napi_types.specs.declared.call.Ask.{Ask}
use Rattle.napi_types.specs.declared.call.Ask.TheVariants as ask
use Rattle.napi_types.specs.declared.entry.Out.{Out}
use Rattle.napi_types.specs.declared.entry.Out.TheVariants as out
use Rattle.napi_types.specs.declared.entry.Entry.{Entry}
use Rattle.napi_types.specs.declared.entry.HostStep.{HostStep}
use Rattle.napi_types.specs.declared.entry.HostStep.TheVariants as host
use Rattle.napi_types.specs.declared.entry.Actor.{Actor}
use Rattle.napi_types.specs.declared.entry.Actor.TheVariants as actor
use Rattle.napi_types.specs.declared.entry.What.{What}
use Rattle.napi_types.specs.declared.entry.Why.{Why}
use Rattle.napi_types.specs.declared.entry.Why.TheVariants as why
use Rattle.napi_types.specs.declared.entry.Phase.{Phase}
use Rattle.napi_types.specs.declared.entry.Phase.TheVariants as phase
use Rattle.napi_types.specs.plain.Entries.{host_entry, cut_of}
use Rattle.napi_types.specs.plain.Guards.{is_shared}
use Rattle.napi_types.specs.plain.Room.{is_full, fits_in, may_want_memory}
use Rattle.napi_types.specs.plain.Weave.{Side, Journal, History}
use Rattle.napi_types.specs.parts.Book.{Registration, registration_at, may_begin_in}
use Rattle.napi_types.specs.parts.Frames.{Frame, asks_made, most_asks, duty_of, is_hub_duty}
use Rattle.napi_types.specs.environment.Changes.{Change, opening_change, init_change, issued_number, is_fresh_result, may_ask, may_call, gone_change, in_phase, with_none_waiting}
use Rattle.napi_types.specs.environment.Ends.{end_change}
use Rattle.napi_types.specs.environment.Entering.{asked_change}
use Rattle.napi_types.specs.environment.Environment.{Environment}
use Rattle.napi_types.specs.environment.SharedCalls.{shared_entry, after_shared, after_delivery, without_root}
use Rattle.napi_types.specs.environment.Tickets.{ticket_change}
use Rattle.napi_types.specs.hub.HistoryRoom.{history_room}
use Rattle.napi_types.specs.hub.HubMoves.{HubMove, Delivers, Closes, Finishes}
use Rattle.napi_types.specs.hub.HubStep.{HubStep}
use Rattle.napi_types.specs.hub.HubEvents.{delivery_entry}
use Rattle.napi_types.specs.hub.HubSteps.{hub_step}
use Rattle.napi_types.specs.runs.CallRoom.{room_of}
use Rattle.napi_types.specs.runs.Choice.{choice, waiting_hooks}
use Rattle.napi_types.specs.runs.Loop.{Event, Opens, Inits, Tickets, Moves, Goes, EndsLoop, Abandons, Drains, FinalsCome, IsGone}
use Rattle.napi_types.specs.runs.Machine.{Machine}

-- an entry, the list on which it stands, the machine after it, and whether it may stand
pub record Step : Type 0 where
  pub entry : Entry
  pub side : Side
  pub after : Machine
  pub may : Bool

-- nothing may come
abbrev pub no_step : Machine → Step
no_step m = record { entry = host_entry host.Gone out.Nothing; side = Journal; after = m; may = false }

-- a local event is one entry more in the journal
abbrev pub locally : Machine → Change → Bool → Step
locally m c may = record { entry = c.entry; side = Journal; after = record m { env = c.after; journal_length = m.journal_length + 1 }; may = may }

-- a step of the hub is one entry more in the history, and leaves this environment
abbrev pub shared : Machine → HubStep → Environment → Bool → Step
shared m s e may = record {
  entry = s.entry;
  side = History;
  after = record m { env = e; hub = s.after; history_length = m.history_length + 1 };
  may = may && s.may;
}

-- a great event of the hub, with this result, moves the environment's phase
abbrev pub by_hub : Machine → HostStep → Phase → Out → Step
by_hub m event p o = shared m (hub_step m.hub (host_entry event o)) (in_phase p m.env) true

-- EVENTS WHERE NO FRAME STANDS
-- the frame of a ticket begins; that of one that was never given, or has not come so far, may not
abbrev pub ticket_step : Machine → ℕ → Option Registration → Step
ticket_step m n None = no_step m
ticket_step m n (Some r) = locally m (ticket_change n r m.env) (may_begin_in m.env.phase r.state)

-- the frame of a duty of the hub begins, or a function moves; one that finishes no longer keeps its value alive
abbrev pub move_step : Machine → HubMove → Step
move_step m (Delivers d) = shared m (hub_step m.hub (delivery_entry d)) (after_delivery d m.env) true
move_step m (Closes n) = shared m (hub_step m.hub (host_entry host.CloseTsfn (out.Function (record { 0 = n })))) m.env true
move_step m (Finishes n) = shared m (hub_step m.hub (host_entry host.FinishTsfn (out.Function (record { 0 = n })))) (without_root n m.env) true

-- the step of each event where no frame stands
abbrev pub event_step : Machine → Event → Step
event_step m Opens = locally m (opening_change m.env) true
event_step m (Inits n) = locally m (init_change n m.env) true
event_step m (Tickets n) = ticket_step m n (registration_at m.env.book n)
event_step m (Moves move) = move_step m move
event_step m Goes = by_hub m host.Go phase.Live out.Nothing
event_step m (EndsLoop w) = by_hub m host.LoopEnd phase.Hooks (out.Ended w)
event_step m Abandons = shared m (hub_step m.hub (host_entry host.Abandon (out.Unsigned (waiting_hooks m.env)))) (with_none_waiting m.env) true
event_step m Drains = by_hub m host.Drain phase.Drain (out.Unsigned (length m.hub.pool.queued))
event_step m FinalsCome = by_hub m host.Finals phase.Finals out.Nothing
event_step m IsGone = locally m (gone_change m.env) true

-- the step of the event that was chosen; where none was, nothing may come
abbrev pub chosen : Machine → Option Event → Step
chosen m None = no_step m
chosen m (Some event) = event_step m event

-- STEPS OF A FRAME
-- whether a frame may be cut so, where this is its ask: after its last ask, or at a call that stopped. A local call that is full did not stop for want of
-- memory; a shared one may have, since others may have filled the history between the stop and the end
abbrev pub may_cut : Machine → Ask → Why → Bool
may_cut m a why.Asks = asks_made m.env.frames == most_asks
may_cut m (ask.Do c) why.Full = may_call m.env && is_full (room_of m c) c
may_cut m (ask.Do c) why.Memory = may_call m.env && may_want_memory (room_of m c) c && (is_shared c || not (is_full (room_of m c) c))
may_cut m (ask.Leave v) _ = false

-- a local call leaves its entry, or enters its frame, where its frame makes asks and there is room for it
abbrev pub local_call_step : Machine → Call → Out → Step
local_call_step m c o = locally m (asked_change m.env c (issued_number o)) (may_call m.env && is_fresh_result m.env o && not (is_full (room_of m c) c))

-- the hub answers a shared call, likewise
abbrev pub answered_by : Machine → Call → HubStep → Step
answered_by m c s = shared m s (after_shared c s.entry.reply m.env) (may_call m.env && not (is_full (room_of m c) c))

abbrev pub shared_call_step : Machine → Call → Out → Step
shared_call_step m c o = answered_by m c (hub_step m.hub (shared_entry m.env c o))

-- a call, given whether it is shared
abbrev pub call_step_on : Bool → Machine → Call → Out → Step
call_step_on false m c o = local_call_step m c o
call_step_on true m c o = shared_call_step m c o

abbrev pub call_step : Machine → Call → Out → Step
call_step m c o = call_step_on (is_shared c) m c o

-- the innermost frame ends: that of a duty of the hub in the history, every other in the journal
abbrev pub end_step_on : Bool → Machine → Change → Bool → Step
end_step_on false m c may = locally m c may
end_step_on true m c may = shared m (hub_step m.hub c.entry) c.after may

abbrev pub end_step : Machine → Change → Bool → Step
end_step m c may = end_step_on (is_hub_duty (duty_of m.env.frames)) m c may

-- the step of what a frame asks: its call, or its end
abbrev pub asked_step : Machine → Ask → Out → Step
asked_step m (ask.Do c) o = call_step m c o
asked_step m (ask.Leave v) o = end_step m (end_change v None m.env) (may_ask m.env)

-- the step of a frame: its end where it is cut, or else what it asks
abbrev pub frame_step : Machine → Ask → Out → Option Why → Step
frame_step m a o (Some w) = end_step m (end_change None (Some w) m.env) (may_cut m a w)
frame_step m a o None = asked_step m a o

-- the step of the environment: that of its innermost frame by what it asks, or of its next event where no frame stands
abbrev pub env_step : Machine → Ask → Out → List Frame → Step
env_step m a o [] = chosen m (choice m)
env_step m a o (f ∷ fs) = frame_step m a o (cut_of o)

-- STEPS OF OTHERS
-- whether the history has room for what an actor beside the environment does
abbrev pub has_room : Machine → What → Bool
has_room m w = fits_in (history_room m.hub m.history_length m.limits.history) w

-- a thread or a worker makes the hub's step, and the environment stays as it is
abbrev pub other_step : Machine → Entry → Step
other_step m x = shared m (hub_step m.hub x) m.env (has_room m x.what)

abbrev pub step_of : Machine → Ask → Entry → Actor → Step
step_of m a x actor.Env = env_step m a x.reply.out m.env.frames
step_of m a x _ = other_step m x

-- the step at which the entry must stand: of an entry of the environment only the actor, a number that it newly gives and a cut are read
abbrev pub step : Machine → Ask → Entry → Step
step m a x = step_of m a x x.actor
