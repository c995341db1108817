-- A number that an entry of the journal newly gives was never issued.
use Rattle.std.proofs.Common.{◌≡◌, Bool, true, false, not, ◌&&◌, IsTrue, List, [], ◌∷◌, refl, ap, sym, subst, Option, Some, None}
use Rattle.napi_types.specs.declared.call.Ask.{Ask}
use Rattle.napi_types.specs.declared.call.Ask.TheVariants as ask
use Rattle.napi_types.specs.declared.call.Call.{Call}
use Rattle.napi_types.specs.declared.entry.Actor.{Actor}
use Rattle.napi_types.specs.declared.entry.Actor.TheVariants as actor
use Rattle.napi_types.specs.declared.entry.Entry.{Entry}
use Rattle.napi_types.specs.declared.entry.Out.{Out}
use Rattle.napi_types.specs.declared.entry.Why.{Why}
use Rattle.napi_types.specs.declared.ids.HandleId.{HandleId}
use Rattle.napi_types.specs.plain.Entries.{cut_of}
use Rattle.napi_types.specs.plain.Guards.{is_shared}
use Rattle.napi_types.specs.plain.Room.{is_full}
use Rattle.napi_types.specs.plain.Weave.{Journal}
use Rattle.napi_types.specs.parts.Book.{Registration, registration_at}
use Rattle.napi_types.specs.parts.Frames.{Frame, duty_of, is_hub_duty}
use Rattle.napi_types.specs.environment.Changes.{is_fresh_result, may_call}
use Rattle.napi_types.specs.environment.Ends.{end_out, end_change}
use Rattle.napi_types.specs.environment.Environment.{Environment}
use Rattle.napi_types.specs.hub.HubMoves.{HubMove, Delivers, Closes, Finishes}
use Rattle.napi_types.specs.runs.CallRoom.{room_of}
use Rattle.napi_types.specs.runs.Choice.{choice}
use Rattle.napi_types.specs.runs.Loop.{Event, Opens, Inits, Tickets, Moves, IsGone}
use Rattle.napi_types.specs.runs.Machine.{Machine}
use Rattle.napi_types.specs.runs.Run.{IsNext}
use Rattle.napi_types.specs.runs.Step.{Step, ticket_step, event_step, chosen, call_step_on, end_step_on, frame_step, env_step, step_of, step}
use Rattle.napi_types.proofs.plain.Conditions.{and-left, and-right}
use Rattle.napi_types.proofs.environment.Cases.{ended-by}

-- a step of the journal that gives a number which was never issued, if it gives one
abbrev pub IsNewIn : Machine → Step → Type 0
IsNewIn m s = s.side ≡ Journal → IsTrue (is_fresh_result m.env s.entry.reply.out)

-- WHERE NO FRAME STANDS
ticket-new : (m : Machine) (n : _) (r : Option Registration) → IsNewIn m (ticket_step m n r)
ticket-new m n None ours = refl
ticket-new m n (Some r) ours = refl

move-new : (m : Machine) (move : HubMove) → IsNewIn m (event_step m (Moves move))
move-new m (Delivers d) ours = cc
move-new m (Closes n) ours = cc
move-new m (Finishes n) ours = cc

event-new : (m : Machine) (event : Event) → IsNewIn m (event_step m event)
event-new m Opens ours = refl
event-new m (Inits n) ours = refl
event-new m (Tickets n) ours = ticket-new m n (registration_at m.env.book n) ours
event-new m (Moves move) ours = move-new m move ours
event-new m IsGone ours = refl
event-new m _ ours = cc

chosen-new : (m : Machine) (event : Option Event) → IsNewIn m (chosen m event)
chosen-new m None ours = refl
chosen-new m (Some event) ours = event-new m event ours

-- THE END OF A FRAME
left-new : (e : Environment) (cut : Option Why) (p : Option _) → IsTrue (is_fresh_result e (end_out cut p))
left-new e (Some w) p = refl
left-new e None (Some v) = refl
left-new e None None = refl

ended-new : (m : Machine) (v : Option HandleId) (cut : Option Why) (ours may : Bool) → IsNewIn m (end_step_on ours m (end_change v cut m.env) may)
ended-new m v cut true may ours = cc
ended-new m v cut false may ours =
    ended-by v cut m.env (λ why d. IsTrue (is_fresh_result m.env d.entry.reply.out)) (λ w. refl) (λ p. refl) refl (left-new m.env cut m.env.pending)

-- A CALL
call-new : (m : Machine) (c : Call) (o : Out) (b : Bool) → (call_step_on b m c o).entry.reply.out ≡ o → IsTrue (call_step_on b m c o).may
    → IsNewIn m (call_step_on b m c o)
call-new m c o true told may ours = cc
call-new m c o false told may ours =
    subst (λ p. IsTrue (is_fresh_result m.env p)) (sym told)
    (and-right (may_call m.env) (is_fresh_result m.env o) (and-left (may_call m.env && is_fresh_result m.env o) (not (is_full (room_of m c) c)) may))

-- EACH STEP
frame-new : (m : Machine) (a : Ask) (o : Out) (cut : Option Why) → (frame_step m a o cut).entry.reply.out ≡ o → IsTrue (frame_step m a o cut).may
    → IsNewIn m (frame_step m a o cut)
frame-new m (ask.Do c) o None told may = call-new m c o (is_shared c) told may
frame-new m (ask.Leave v) o None told may = ended-new m v None (is_hub_duty (duty_of m.env.frames)) _
frame-new m a o (Some w) told may = ended-new m None (Some w) (is_hub_duty (duty_of m.env.frames)) _

env-new : (m : Machine) (a : Ask) (o : Out) (fs : List Frame) → (env_step m a o fs).entry.reply.out ≡ o → IsTrue (env_step m a o fs).may
    → IsNewIn m (env_step m a o fs)
env-new m a o [] told may = chosen-new m (choice m)
env-new m a o (f ∷ fs) told may = frame-new m a o (cut_of o) told may

of-new : (m : Machine) (a : Ask) (x : Entry) (who : Actor) → x ≡ (step_of m a x who).entry → IsTrue (step_of m a x who).may → IsNewIn m (step_of m a x who)
of-new m a x actor.Env next may = env-new m a x.reply.out m.env.frames (sym (ap (λ (y : Entry). y.reply.out) next)) may
of-new m a x _ next may = λ ours. cc

pub next-new : (m : Machine) (a : Ask) (x : Entry) → IsNext m a x → IsNewIn m (step m a x)
next-new m a x next = of-new m a x x.actor next.0 next.1
