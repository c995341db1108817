-- What each step that may come is, in whatever machine.
use Rattle.std.proofs.Common.{◌≡◌, ◌∙◌, ℕ, Bool, true, false, List, [], ◌∷◌, IsTrue, refl, ap, sym, Option, Some, None, length}
use Rattle.napi_types.specs.declared.call.Ask.{Ask}
use Rattle.napi_types.specs.declared.call.Ask.TheVariants as ask
use Rattle.napi_types.specs.declared.call.Call.{Call}
use Rattle.napi_types.specs.declared.entry.Actor.{Actor}
use Rattle.napi_types.specs.declared.entry.Actor.TheVariants as actor
use Rattle.napi_types.specs.declared.entry.Entry.{Entry}
use Rattle.napi_types.specs.declared.entry.HostStep.{HostStep}
use Rattle.napi_types.specs.declared.entry.HostStep.TheVariants as host
use Rattle.napi_types.specs.declared.entry.Out.{Out}
use Rattle.napi_types.specs.declared.entry.Out.TheVariants as out
use Rattle.napi_types.specs.declared.entry.Phase.{Phase}
use Rattle.napi_types.specs.declared.entry.Phase.TheVariants as phase
use Rattle.napi_types.specs.declared.entry.What.TheVariants as what
use Rattle.napi_types.specs.declared.entry.Why.{Why}
use Rattle.napi_types.specs.declared.ids.HandleId.{HandleId}
use Rattle.napi_types.specs.plain.Entries.{host_entry, is_environment, cut_of}
use Rattle.napi_types.specs.plain.Guards.{is_shared}
use Rattle.napi_types.specs.parts.Book.{Registration, registration_at}
use Rattle.napi_types.specs.parts.Frames.{Frame, duty_of, is_hub_duty}
use Rattle.napi_types.specs.environment.Changes.{may_ask}
use Rattle.napi_types.specs.environment.Ends.{end_change}
use Rattle.napi_types.specs.environment.SharedCalls.{shared_entry}
use Rattle.napi_types.specs.hub.HubMoves.{HubMove, Delivers, Closes, Finishes}
use Rattle.napi_types.specs.hub.HubEvents.{delivery_entry}
use Rattle.napi_types.specs.hub.HubSteps.{hub_step}
use Rattle.napi_types.specs.runs.Choice.{choice}
use Rattle.napi_types.specs.runs.Loop.{Event, Opens, Inits, Tickets, Moves, Goes, EndsLoop, Drains, FinalsCome, IsGone, Abandons}
use Rattle.napi_types.specs.runs.Machine.{Machine}
use Rattle.napi_types.specs.runs.Run.{IsNext}
use Rattle.napi_types.specs.runs.Step.{Step, by_hub, ticket_step, event_step, chosen, may_cut, local_call_step, shared_call_step, call_step_on, end_step_on, frame_step, env_step, has_room, other_step, step_of, step}
use Rattle.napi_types.proofs.plain.Conditions.{and-right}
use Rattle.napi_types.proofs.environment.FrameEnds.{ended-ends}
use Rattle.napi_types.proofs.hub.HubKeeps.{hub_step-what}
use Rattle.napi_types.proofs.runs.SharedSteps.{is_of_others, others-told}

-- a step that may come
pub data Form (m : Machine) : Step → Type 0 where
  -- where a frame stands it makes a call, in the journal or in the history, where the hub tells what the entry does, or ends
  calls : (f : Frame) (fs : List Frame) → m.env.frames ≡ f ∷ fs → (c : Call) (o : Out) → is_shared c ≡ false → Form m (local_call_step m c o)
  shares : (f : Frame) (fs : List Frame) → m.env.frames ≡ f ∷ fs → (c : Call) (o : Out) → is_shared c ≡ true → (shared_call_step m c o).entry.reply.out ≡ o
      → Form m (shared_call_step m c o)
  ends : (f : Frame) (fs : List Frame) → m.env.frames ≡ f ∷ fs → (v : Option HandleId) (cut : Option Why) (may ours : Bool) → is_hub_duty (duty_of m.env.frames) ≡ ours
      → Form m (end_step_on ours m (end_change v cut m.env) may)
  -- where none stands the event comes that was chosen
  happens : m.env.frames ≡ [] → (event : Event) → choice m ≡ Some event → Form m (event_step m event)
  -- a thread or a worker makes an entry, as the hub tells it
  others : (x : Entry) → is_environment x.actor ≡ false → x ≡ (other_step m x).entry → Form m (other_step m x)

module _ (m : Machine) (f : Frame) (fs : List Frame) (stands : m.env.frames ≡ f ∷ fs) where
  call-form : (c : Call) (o : Out) (b : Bool) → is_shared c ≡ b → (call_step_on b m c o).entry.reply.out ≡ o → Form m (call_step_on b m c o)
  call-form c o false is told = calls f fs stands c o is
  call-form c o true is told = shares f fs stands c o is told

  frame-form : (a : Ask) (o : Out) (cut : Option Why) → (frame_step m a o cut).entry.reply.out ≡ o → Form m (frame_step m a o cut)
  frame-form (ask.Do c) o None told = call-form c o (is_shared c) refl told
  frame-form (ask.Leave v) o None told = ends f fs stands v None (may_ask m.env) (is_hub_duty (duty_of m.env.frames)) refl
  frame-form a o (Some w) told = ends f fs stands None (Some w) (may_cut m a w) (is_hub_duty (duty_of m.env.frames)) refl

chosen-form : (m : Machine) (o : Option Event) → m.env.frames ≡ [] → choice m ≡ o → IsTrue (chosen m o).may → Form m (chosen m o)
chosen-form m None alone is may = cc
chosen-form m (Some event) alone is may = happens alone event is

env-form : (m : Machine) (a : Ask) (o : Out) (fs : List Frame) → m.env.frames ≡ fs → (env_step m a o fs).entry.reply.out ≡ o → IsTrue (env_step m a o fs).may
    → Form m (env_step m a o fs)
env-form m a o [] alone told may = chosen-form m (choice m) alone refl may
env-form m a o (f ∷ fs) stands told may = frame-form m f fs stands a o (cut_of o) told

of-form : (m : Machine) (a : Ask) (x : Entry) (who : Actor) → x.actor ≡ who → x ≡ (step_of m a x who).entry → IsTrue (step_of m a x who).may
    → Form m (step_of m a x who)
of-form m a x actor.Env is next may = env-form m a x.reply.out m.env.frames refl (sym (ap (λ (y : Entry). y.reply.out) next)) may
of-form m a x _ is next may = others x (ap is_environment is) next

pub form-of : (m : Machine) (a : Ask) (x : Entry) → IsNext m a x → Form m (step m a x)
form-of m a x next = of-form m a x x.actor refl next.0 next.1

-- WHAT THE ENTRIES ARE
-- that of a shared call is the call, and that of a frame's end is an end
pub shared-what : (m : Machine) (c : Call) (o : Out) → (shared_call_step m c o).entry.what ≡ what.Call c
shared-what m c o = hub_step-what m.hub (shared_entry m.env c o)

pub ended-what : (m : Machine) (v : Option HandleId) (cut : Option Why) (may ours : Bool) → (end_step_on ours m (end_change v cut m.env) may).entry.what ≡ what.Host host.End
ended-what m v cut may false = (ended-ends v cut m.env).is
ended-what m v cut may true = hub_step-what m.hub (end_change v cut m.env).entry ∙ (ended-ends v cut m.env).is

-- what each event is where no frame stands
abbrev pub move_what : HubMove → HostStep
move_what (Delivers d) = host.Begin
move_what (Closes n) = host.CloseTsfn
move_what (Finishes n) = host.FinishTsfn

abbrev pub event_what : Event → HostStep
event_what Opens = host.Opened
event_what (Inits n) = host.Begin
event_what (Tickets n) = host.Begin
event_what (Moves move) = move_what move
event_what Goes = host.Go
event_what (EndsLoop w) = host.LoopEnd
event_what Abandons = host.Abandon
event_what Drains = host.Drain
event_what FinalsCome = host.Finals
event_what IsGone = host.Gone

by_hub-what : (m : Machine) (event : HostStep) (p : Phase) (o : Out) → (by_hub m event p o).entry.what ≡ what.Host event
by_hub-what m event p o = hub_step-what m.hub (host_entry event o)

ticket-what : (m : Machine) (n : ℕ) (r : Option Registration) → IsTrue (ticket_step m n r).may → (ticket_step m n r).entry.what ≡ what.Host host.Begin
ticket-what m n None may = cc
ticket-what m n (Some r) may = refl

pub event-what : (m : Machine) (event : Event) → IsTrue (event_step m event).may → (event_step m event).entry.what ≡ what.Host (event_what event)
event-what m (Tickets n) may = ticket-what m n (registration_at m.env.book n) may
event-what m (Moves (Delivers d)) may = hub_step-what m.hub (delivery_entry d)
event-what m (Moves (Closes n)) may = hub_step-what m.hub (host_entry host.CloseTsfn (out.Function (record { 0 = n })))
event-what m (Moves (Finishes n)) may = hub_step-what m.hub (host_entry host.FinishTsfn (out.Function (record { 0 = n })))
event-what m Goes may = by_hub-what m host.Go phase.Live out.Nothing
event-what m (EndsLoop w) may = by_hub-what m host.LoopEnd phase.Hooks (out.Ended w)
event-what m Drains may = by_hub-what m host.Drain phase.Drain (out.Unsigned (length m.hub.pool.queued))
event-what m FinalsCome may = by_hub-what m host.Finals phase.Finals out.Nothing
event-what m _ may = refl

-- that of a thread or a worker is one of theirs
pub other-what : (m : Machine) (x : Entry) → is_environment x.actor ≡ false → IsTrue (other_step m x).may → is_of_others (other_step m x).entry.what ≡ true
other-what m x other may =
    ap is_of_others (hub_step-what m.hub x) ∙ others-told m.hub x other (and-right (has_room m x.what) (hub_step m.hub x).may may)

-- WHO MADE IT
-- what is none of theirs is the environment's
pub by-env : (m : Machine) (a : Ask) (x : Entry) → IsNext m a x → is_of_others x.what ≡ false → x.actor ≡ actor.Env
by-env m a x next ours = by x.actor next.1 refl
  where
    theirs : is_environment x.actor ≡ false → IsTrue (other_step m x).may → ⊥
    theirs other may =
        let told : is_of_others x.what ≡ true = others-told m.hub x other (and-right (has_room m x.what) (hub_step m.hub x).may may) in
        let no : true ≡ false = sym told ∙ ours in cc

    by : (who : Actor) → IsTrue (step_of m a x who).may → x.actor ≡ who → who ≡ actor.Env
    by actor.Env may is = refl
    by _ may is = absurd (theirs (ap is_environment is) may)

-- where a frame stands the environment's step is the frame's, ..
pub frame-next : (m : Machine) (a : Ask) (x : Entry) (f : Frame) (fs : List Frame) → x.actor ≡ actor.Env → m.env.frames ≡ f ∷ fs
    → step m a x ≡ frame_step m a x.reply.out (cut_of x.reply.out)
frame-next m a x f fs who stands = ap (step_of m a x) who ∙ ap (env_step m a x.reply.out) stands

-- .. and where none stands it is that of the event that is chosen
pub chosen-next : (m : Machine) (a : Ask) (x : Entry) → x.actor ≡ actor.Env → m.env.frames ≡ [] → step m a x ≡ chosen m (choice m)
chosen-next m a x who alone = ap (step_of m a x) who ∙ ap (env_step m a x.reply.out) alone
