-- At every moment of a run only the outermost frame is one that no call began.
use Rattle.std.proofs.Common.{◌≡◌, ◌≢◌, ℕ, Bool, true, false, [], refl, sym, subst, Option, Some, None}
use Rattle.std.proofs.lemmas.List.Elements.{All-nil}
use Rattle.napi_types.specs.declared.call.Call.{Call}
use Rattle.napi_types.specs.declared.entry.Cause.TheVariants as cause
use Rattle.napi_types.specs.declared.entry.Out.{Out}
use Rattle.napi_types.specs.declared.entry.Phase.{Phase}
use Rattle.napi_types.specs.declared.entry.Phase.TheVariants as phase
use Rattle.napi_types.specs.declared.entry.Reply.{Reply}
use Rattle.napi_types.specs.declared.entry.Why.{Why}
use Rattle.napi_types.specs.declared.ids.HandleId.{HandleId}
use Rattle.napi_types.specs.parts.Book.{Registration, registration_at}
use Rattle.napi_types.specs.parts.Duties.{AreNested}
use Rattle.napi_types.specs.parts.Frames.{frame_of_duty}
use Rattle.napi_types.specs.environment.Changes.{issued_number, in_phase}
use Rattle.napi_types.specs.environment.Ends.{end_change}
use Rattle.napi_types.specs.environment.Entering.{asked_change}
use Rattle.napi_types.specs.environment.Environment.{Environment}
use Rattle.napi_types.specs.hub.HubMoves.{HubMove, Delivers, Closes, Finishes, hub_move}
use Rattle.napi_types.specs.runs.Choice.{choice}
use Rattle.napi_types.specs.runs.Loop.{Event, Inits, Tickets, Moves, Goes, EndsLoop, Drains, FinalsCome}
use Rattle.napi_types.specs.runs.Machine.{Machine}
use Rattle.napi_types.specs.runs.Setting.{Setting, opening_of}
use Rattle.napi_types.specs.runs.Step.{Step, ticket_step, event_step, shared_call_step, end_step_on}
use Rattle.napi_types.proofs.plain.Lists.{some-stand}
use Rattle.napi_types.proofs.environment.Registrations.{AreUncalled, uncalled-asked, uncalled-ended, uncalled-begun, uncalled-phase}
use Rattle.napi_types.proofs.environment.StandingFrames.{counted-nested, nested-asked, nested-ended, nested-first, nested-ticket, nested-init}
use Rattle.napi_types.proofs.hub.HubDuties.{delivery-of_hub}
use Rattle.napi_types.proofs.runs.SharedSteps.{after_shared-alone}
use Rattle.napi_types.proofs.runs.Chosen.{chosen-move}
use Rattle.napi_types.proofs.runs.Forms as form
use Rattle.napi_types.proofs.runs.Forms.{Form}

-- ONLY THE OUTERMOST FRAME
-- only the outermost frame is one that no call began, and no call will begin that of a ticket
pub record IsNested (e : Environment) : Type 0 where
  pub frames : AreNested e.frames
  pub uncalled : AreUncalled e.book

-- what a frame's call or end leaves
pub asked-nested : (e : Environment) (c : Call) (n : ℕ) → e.frames ≢ [] → IsNested e → IsNested (asked_change e c n).after
asked-nested e c n stands here = record { frames = nested-asked e c n stands here.frames; uncalled = uncalled-asked e c n here.uncalled }

ended-nested : (e : Environment) (v : Option HandleId) (cut : Option Why) → IsNested e → IsNested (end_change v cut e).after
ended-nested e v cut here = record { frames = nested-ended e v cut here.frames; uncalled = uncalled-ended e v cut here.uncalled }

end_step-nested : (m : Machine) (v : Option HandleId) (cut : Option Why) (may ours : Bool) → IsNested m.env → IsNested (end_step_on ours m (end_change v cut m.env) may).after.env
end_step-nested m v cut may false here = ended-nested m.env v cut here
end_step-nested m v cut may true here = ended-nested m.env v cut here

-- a shared call leaves the frames, but for the count of asks, and the book
shared-nested : (m : Machine) (c : Call) (o : Out) → IsNested m.env → IsNested (shared_call_step m c o).after.env
shared-nested m c o here =
    let r : Reply = (shared_call_step m c o).entry.reply in
    subst IsNested (sym (after_shared-alone c r m.env)) (record { frames = counted-nested m.env.frames here.frames; uncalled = here.uncalled })

ticket-nested : (m : Machine) (n : ℕ) (r : Option Registration) → registration_at m.env.book n ≡ r → m.env.frames ≡ [] → IsNested m.env → IsNested (ticket_step m n r).after.env
ticket-nested m n None there none here = here
ticket-nested m n (Some r) there none here =
    record { frames = nested-ticket n r m.env there here.uncalled none; uncalled = uncalled-begun m.env.phase n m.env.book here.uncalled }

phase-nested : (p : Phase) (e : Environment) → IsNested e → IsNested (in_phase p e)
phase-nested p e here = record { frames = here.frames; uncalled = uncalled-phase p e.book here.uncalled }

-- no call begins what the hub delivers
move-nested : (m : Machine) (move : HubMove) → hub_move m.hub ≡ Some move → m.env.frames ≡ [] → IsNested m.env → IsNested (event_step m (Moves move)).after.env
move-nested m (Delivers d) next none here =
    record { frames = nested-first (frame_of_duty d) m.env.frames none (delivery-of_hub m.hub d next).uncalled; uncalled = here.uncalled }
move-nested m (Closes n) next none here = here
move-nested m (Finishes n) next none here = record { frames = here.frames; uncalled = here.uncalled }

event-nested : (m : Machine) (v : Event) → choice m ≡ Some v → m.env.frames ≡ [] → IsNested m.env → IsNested (event_step m v).after.env
event-nested m (Inits n) next none here = record { frames = nested-init n m.env none; uncalled = here.uncalled }
event-nested m (Tickets n) next none here = ticket-nested m n (registration_at m.env.book n) refl none here
event-nested m (Moves move) next none here = move-nested m move (chosen-move m move next) none here
event-nested m Goes next none here = phase-nested phase.Live m.env here
event-nested m (EndsLoop w) next none here = phase-nested phase.Hooks m.env here
event-nested m Drains next none here = phase-nested phase.Drain m.env here
event-nested m FinalsCome next none here = phase-nested phase.Finals m.env here
event-nested m _ next none here = record { frames = here.frames; uncalled = here.uncalled }

pub form-nested : (m : Machine) (t : Step) → Form m t → IsNested m.env → IsNested t.after.env
form-nested m _ (form.calls f fs stands c o alone) here = asked-nested m.env c (issued_number o) (some-stand f fs m.env.frames stands) here
form-nested m _ (form.shares f fs stands c o shared answers) here = shared-nested m c o here
form-nested m _ (form.ends f fs stands v cut may ours is) here = end_step-nested m v cut may ours here
form-nested m _ (form.happens alone event next) here = event-nested m event next alone here
form-nested m _ (form.others x other same) here = here

pub opens-nested : (s : Setting) → IsNested (opening_of s).env
opens-nested s = record { frames = tt; uncalled = All-nil (λ (r : Registration). r.cause ≢ cause.Call) }
