-- What each form of a step is, where the hub has come to a stage of the phase: eleven cases, since an event is told by the phase.
use Rattle.std.proofs.Common.{◌≡◌, ◌≢◌, ℕ, Bool, true, false, IsTrue, [], length, refl, ap, sym, subst, ◌∙◌, Option, Some, None, option_map, ◌⊎◌, inl, inr}
use Rattle.std.specs.Option.{unwrap_or}
use Rattle.napi_types.specs.declared.call.Ask.{Ask}
use Rattle.napi_types.specs.declared.call.Call.{Call}
use Rattle.napi_types.specs.declared.entry.Entry.{Entry}
use Rattle.napi_types.specs.declared.entry.HostStep.{HostStep}
use Rattle.napi_types.specs.declared.entry.HostStep.TheVariants as host
use Rattle.napi_types.specs.declared.entry.LoopEnd.{LoopEnd}
use Rattle.napi_types.specs.declared.entry.LoopEnd.TheVariants as loop_end
use Rattle.napi_types.specs.declared.entry.Out.{Out}
use Rattle.napi_types.specs.declared.entry.Out.TheVariants as out
use Rattle.napi_types.specs.declared.entry.Phase.{Phase}
use Rattle.napi_types.specs.declared.entry.Phase.TheVariants as phase
use Rattle.napi_types.specs.declared.entry.Why.{Why}
use Rattle.napi_types.specs.declared.ids.HandleId.{HandleId}
use Rattle.napi_types.specs.plain.Entries.{host_entry, is_environment}
use Rattle.napi_types.specs.plain.Guards.{is_shared}
use Rattle.napi_types.specs.plain.Phases.{next_phase}
use Rattle.napi_types.specs.parts.Book.{Registration, registration_at, may_begin_in}
use Rattle.napi_types.specs.parts.Frames.{duty_of, is_hub_duty}
use Rattle.napi_types.specs.parts.Hooks.{Hook}
use Rattle.napi_types.specs.environment.Changes.{opening_change, init_change, gone_change, issued_number}
use Rattle.napi_types.specs.environment.Ends.{end_change}
use Rattle.napi_types.specs.environment.Entering.{asked_change}
use Rattle.napi_types.specs.environment.Tickets.{ticket_change, ticket_in, next_ticket}
use Rattle.napi_types.specs.hub.Hub.{IsStageOf, Stage, Before, Live, LoopEnded, Drained, stage_after, HooksAbandoned, is_of_hooks}
use Rattle.napi_types.specs.hub.HubMoves.{HubMove, hub_move}
use Rattle.napi_types.specs.hub.HubEvents.{is_moving}
use Rattle.napi_types.specs.hub.HubSteps.{hub_step}
use Rattle.napi_types.specs.runs.Choice.{choice, waiting_hooks}
use Rattle.napi_types.specs.runs.Loop.{EndsLoop, Event, Abandons}
use Rattle.napi_types.specs.runs.Machine.{Machine}
use Rattle.napi_types.specs.runs.Run.{IsNext}
use Rattle.napi_types.specs.runs.Step.{Step, locally, shared, by_hub, ticket_step, move_step, event_step, shared_call_step, other_step, step}
use Rattle.napi_types.proofs.runs.Chosen as choices
use Rattle.napi_types.proofs.runs.Chosen.{OwnChoice, NoChoice, HubChoice, chosen-in-phase}
use Rattle.napi_types.proofs.runs.Forms as form
use Rattle.napi_types.proofs.runs.Forms.{Form, form-of}

-- the hub's event that starts the phase
abbrev pub event_before : Phase → HostStep
event_before phase.Live = host.Go
event_before phase.Hooks = host.LoopEnd
event_before phase.Drain = host.Drain
event_before phase.Finals = host.Finals
event_before _ = host.Gone

-- the hub starts the phase p, with this result: its entry is that event's, it has then come to a stage of p, and the drain comes only once no hook is left
pub record Passes (m : Machine) (p : Phase) (o : Out) : Type 0 where
  pub next : next_phase m.env.phase ≡ Some p
  pub never : p ≢ phase.Gone
  pub far : IsStageOf p (by_hub m (event_before p) p o).after.hub.stage
  pub entry : (by_hub m (event_before p) p o).entry ≡ host_entry (event_before p) o
  pub left : p ≡ phase.Drain → m.env.hooks ≡ []

-- a step that may come
pub data StepCase (m : Machine) : Step → Type 0 where
  -- IN THE JOURNAL
  -- the innermost frame makes a call, or ends
  calls : (c : Call) (n : ℕ) (may : Bool) → is_shared c ≡ false → StepCase m (locally m (asked_change m.env c n) may)
  ends : (v : Option HandleId) (cut : Option Why) (may : Bool) → is_hub_duty (duty_of m.env.frames) ≡ false → StepCase m (locally m (end_change v cut m.env) may)
  -- the opening, an init frame, and the frame of a ticket
  opens : StepCase m (locally m (opening_change m.env) true)
  inits : (n : ℕ) → StepCase m (locally m (init_change n m.env) true)
  begins : (n : ℕ) (r : Registration) → registration_at m.env.book n ≡ Some r → next_ticket m.env ≡ Some n → may_begin_in m.env.phase r.state ≡ true
      → StepCase m (locally m (ticket_change n r m.env) (may_begin_in m.env.phase r.state))
  -- after `finals` the environment is gone
  vanishes : m.env.phase ≡ phase.Finals → StepCase m (locally m (gone_change m.env) true)
  -- IN THE HISTORY
  -- the hub answers a call of the innermost frame as the entry tells, or the frame of one of its duties ends
  shares : (c : Call) (o : Out) → is_shared c ≡ true → (shared_call_step m c o).entry.reply.out ≡ o → StepCase m (shared_call_step m c o)
  leaves : (v : Option HandleId) (cut : Option Why) (may : Bool) → is_hub_duty (duty_of m.env.frames) ≡ true
      → StepCase m (shared m (hub_step m.hub (end_change v cut m.env).entry) (end_change v cut m.env).after may)
  -- the hub starts the next phase, or moves where no frame stands
  passes : (p : Phase) (o : Out) → Passes m p o → StepCase m (by_hub m (event_before p) p o)
  -- in Hooks, where nothing moves, the hooks that wait are abandoned
  abandons : m.env.phase ≡ phase.Hooks → m.hub.stage ≡ LoopEnded → m.env.hooks ≡ [] → m.env.frames ≡ [] → StepCase m (event_step m Abandons)
  moves : (move : HubMove) → hub_move m.hub ≡ Some move → is_moving m.hub.stage ≡ true → m.env.frames ≡ [] → StepCase m (move_step m move)
  -- a thread or a worker makes an entry
  others : (x : Entry) → is_environment x.actor ≡ false → StepCase m (other_step m x)

-- the hub has come to a stage of the phase
abbrev pub InPhase : Machine → Type 0
InPhase m = IsStageOf m.env.phase m.hub.stage

-- in a phase that is known
pub stage-in : (m : Machine) (p : Phase) → InPhase m → m.env.phase ≡ p → IsStageOf p m.hub.stage
stage-in m p far here = subst (λ q. IsStageOf q m.hub.stage) here far

-- where phase and stage are as before
pub still-in-phase : (m n : Machine) → n.env.phase ≡ m.env.phase → n.hub.stage ≡ m.hub.stage → InPhase m → InPhase n
still-in-phase m n phase stage far = subst (λ p. IsStageOf p n.hub.stage) (sym phase) (subst (IsStageOf m.env.phase) (sym stage) far)

-- EVENTS WHERE NO FRAME STANDS
-- the hub goes from one stage to the next
pub stage-moved : (m : Machine) (event : HostStep) (s : Stage) → m.hub.stage ≡ s → unwrap_or (stage_after m.hub.stage event) m.hub.stage ≡ unwrap_or (stage_after s event) s
stage-moved m event s far = ap (λ t. unwrap_or (stage_after t event) t) far

ticket-case : (m : Machine) (n : ℕ) (o : Option Registration) → registration_at m.env.book n ≡ o → next_ticket m.env ≡ Some n
    → IsTrue (ticket_step m n o).may → StepCase m (ticket_step m n o)
ticket-case m n None there next may = cc
ticket-case m n (Some r) there next may = begins n r there next may

loop_end-case : (m : Machine) (w : LoopEnd) → m.env.phase ≡ phase.Live → m.hub.stage ≡ Live → StepCase m (event_step m (EndsLoop w))
loop_end-case m w here far =
    passes phase.Hooks (out.Ended w) (record { next = rw here refl; never = λ z. cc; far = ap is_of_hooks (stage-moved m host.LoopEnd Live far); entry = refl; left = λ z. cc })

-- one that the environment decides alone, ..
own-case : (m : Machine) (p : Phase) (v : Event) → m.env.phase ≡ p → IsStageOf p m.hub.stage → OwnChoice m.env p v → IsTrue (event_step m v).may
    → StepCase m (event_step m v)
own-case m _ _ here far (choices.opens opened) may = opens
own-case m _ _ here far (choices.inits opened left) may = inits m.env.inits
own-case m _ _ here far (choices.exits asked) may = loop_end-case m loop_end.Exit here far
own-case m _ _ here far (choices.due_in_loop n unasked lowest) may =
    ticket-case m n (registration_at m.env.book n) refl (ap (ticket_in m.env) here ∙ lowest) may
own-case m _ _ here far (choices.hooks h last) may =
    ticket-case m h.ticket (registration_at m.env.book h.ticket) refl (ap (ticket_in m.env) here ∙ ap (option_map (λ (h : Hook). h.ticket)) last) may
own-case m _ _ here far (choices.due_at_end n lowest) may = ticket-case m n (registration_at m.env.book n) refl (ap (ticket_in m.env) here ∙ lowest) may
own-case m _ _ here far (choices.ends lowest) may = vanishes here

-- .. or the hub where it decides none
hub-case : (m : Machine) (p : Phase) (s : Stage) (v : Event) → m.env.frames ≡ [] → m.env.phase ≡ p → m.hub.stage ≡ s → IsStageOf p s
    → HubChoice m.hub (waiting_hooks m.env) s v → NoChoice m.env p → StepCase m (event_step m v)
hub-case m _ _ _ alone here far shown choices.goes (choices.begun opened left) =
    passes phase.Live out.Nothing (record { next = rw here refl; never = λ z. cc; far = stage-moved m host.Go Before far; entry = refl; left = λ z. cc })
hub-case m _ _ _ alone here far shown (choices.idles none idle) (choices.waits unasked lowest) = loop_end-case m loop_end.Idle here far
hub-case m _ _ _ alone here far shown (choices.quiets none busy quiet) (choices.waits unasked lowest) = loop_end-case m loop_end.Quiet here far
hub-case m _ _ _ alone here far shown (choices.moves_in_loop move next) (choices.waits unasked lowest) = moves move next (ap is_moving far) alone
hub-case m _ _ _ alone here far shown (choices.abandons some still quiet) (choices.unhooked none) = abandons here far none alone
hub-case m _ _ _ alone here far shown (choices.moves_in_hooks some move next) (choices.unhooked none) = moves move next (ap is_moving far) alone
hub-case m _ _ _ alone here far shown choices.drains_later (choices.unhooked none) =
    passes phase.Drain (out.Unsigned (length m.hub.pool.queued))
    (record { next = rw here refl; never = λ z. cc; far = stage-moved m host.Drain HooksAbandoned far; entry = refl; left = λ z. none })
hub-case m _ _ _ alone here far shown (choices.drains unwaited) (choices.unhooked none) =
    passes phase.Drain (out.Unsigned (length m.hub.pool.queued))
    (record { next = rw here refl; never = λ z. cc; far = stage-moved m host.Drain LoopEnded far; entry = refl; left = λ z. none })
hub-case m _ _ _ alone here far shown (choices.finals none spent) choices.drained =
    passes phase.Finals out.Nothing (record { next = rw here refl; never = λ z. cc; far = stage-moved m host.Finals Drained far; entry = refl; left = λ z. cc })
hub-case m _ _ _ alone here far shown (choices.moves_at_end move next) choices.drained = moves move next (ap is_moving far) alone
hub-case m _ _ _ alone here far shown _ _ = cc

event-case : (m : Machine) (v : Event) → m.env.frames ≡ [] → InPhase m → choice m ≡ Some v → IsTrue (event_step m v).may → StepCase m (event_step m v)
event-case m v alone far next may = by (chosen-in-phase m v next)
  where
    by : OwnChoice m.env m.env.phase v ⊎ NoChoice m.env m.env.phase × HubChoice m.hub (waiting_hooks m.env) m.hub.stage v → StepCase m (event_step m v)
    by (inl mine) = own-case m m.env.phase v refl far mine may
    by (inr its) = hub-case m m.env.phase m.hub.stage v alone refl refl far its.1 its.0

-- EACH STEP
-- each form of a step is a case, that of an event by the phase
form-case : (m : Machine) (s : Step) → Form m s → InPhase m → IsTrue s.may → StepCase m s
form-case m _ (form.calls f fs stands c o local) far may = calls c (issued_number o) _ local
form-case m _ (form.shares f fs stands c o is told) far may = shares c o is told
form-case m _ (form.ends f fs stands v cut b false is) far may = ends v cut b is
form-case m _ (form.ends f fs stands v cut b true is) far may = leaves v cut b is
form-case m _ (form.happens alone v next) far may = event-case m v alone far next may
form-case m _ (form.others x other told) far may = others x other

pub step-case : (m : Machine) (a : Ask) (x : Entry) → InPhase m → IsNext m a x → StepCase m (step m a x)
step-case m a x far next = form-case m (step m a x) (form-of m a x next) far next.1
