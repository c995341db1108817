-- The room in the journal suffices over all runs, and the entries are counted.
use Rattle.std.proofs.Common.{◌≡◌, ◌≢◌, ◌≤◌, ℕ, ◌+◌, ◌-◌, ◌*◌, suc, Bool, true, false, not, ◌&&◌, cond, nat_lt, List, [], ◌∷◌, length, IsTrue, refl, ap, sym, ◌∙◌, subst, Option, Some, None, arith, ◌⊎◌, inl, inr}
use Rattle.napi_types.specs.declared.call.Ask.{Ask}
use Rattle.napi_types.specs.declared.call.Call.{Call}
use Rattle.napi_types.specs.declared.entry.Entry.{Entry}
use Rattle.napi_types.specs.declared.entry.HostStep.{HostStep}
use Rattle.napi_types.specs.declared.entry.HostStep.TheVariants as host
use Rattle.napi_types.specs.declared.entry.LoopEnd.{LoopEnd}
use Rattle.napi_types.specs.declared.entry.LoopEnd.TheVariants as loop_end
use Rattle.napi_types.specs.declared.entry.Limits.{Limits}
use Rattle.napi_types.specs.declared.entry.Out.{Out}
use Rattle.napi_types.specs.declared.entry.Out.TheVariants as out
use Rattle.napi_types.specs.declared.entry.Phase.{Phase}
use Rattle.napi_types.specs.declared.entry.Phase.TheVariants as phase
use Rattle.napi_types.specs.declared.entry.Reply.{Reply}
use Rattle.napi_types.specs.declared.entry.Why.{Why}
use Rattle.napi_types.specs.declared.ids.HandleId.{HandleId}
use Rattle.napi_types.specs.plain.Entries.{is_environment}
use Rattle.napi_types.specs.plain.Guards.{is_shared}
use Rattle.napi_types.specs.plain.Lists.{tail}
use Rattle.napi_types.specs.plain.Room.{one_if, is_full, need}
use Rattle.napi_types.specs.parts.Book.{Book, Registration, moved_at, registration_at, owed_tickets, begun_in}
use Rattle.napi_types.specs.parts.Frames.{Frame, frame_of_duty, cause_of, duty_of, is_hub_duty, local_frames}
use Rattle.napi_types.specs.environment.Changes.{may_call, is_fresh_result, issued_number, book_in}
use Rattle.napi_types.specs.environment.Ends.{end_change}
use Rattle.napi_types.specs.environment.Entering.{asked_change}
use Rattle.napi_types.specs.environment.Environment.{Environment}
use Rattle.napi_types.specs.environment.JournalRoom.{gone_place, reserved_journal, journal_room}
use Rattle.napi_types.specs.environment.SharedCalls.{shared_entry, after_shared}
use Rattle.napi_types.specs.hub.Hub.{IsStageOf, Stage, Before, Live, LoopEnded, Drained, HooksAbandoned, is_of_hooks}
use Rattle.napi_types.specs.hub.HubMoves.{HubMove, Delivers, Closes, Finishes, hub_move}
use Rattle.napi_types.specs.hub.HubSteps.{hub_step}
use Rattle.napi_types.specs.runs.CallRoom.{room_of}
use Rattle.napi_types.specs.runs.Choice.{choice, waiting_hooks}
use Rattle.napi_types.specs.runs.Loop.{EndsLoop, Event, Abandons}
use Rattle.napi_types.specs.runs.Machine.{Machine}
use Rattle.napi_types.specs.runs.Run.{IsRunBy, after, final, IsNext}
use Rattle.napi_types.specs.runs.Setting.{Setting, final_of, opening_of}
use Rattle.napi_types.specs.runs.Step.{Step, by_hub, ticket_step, move_step, event_step, call_step_on, end_step_on, other_step, step}
use Rattle.napi_types.specs.environment.Hooked.{is_from_finals_on}
use Rattle.napi_types.proofs.plain.Conditions.{and-right, not-true}
use Rattle.napi_types.proofs.parts.Books.{owed-begun, NoneRegistered, none-owed_tickets}
use Rattle.napi_types.proofs.environment.AnswersKeep.{SameCourse, course_of, course-parts, local-counted}
use Rattle.napi_types.proofs.environment.FrameChanges.{KeepsButFrame, ended-keeps, left-parts, owed-left, KeepsButFrames, asked_change-fits}
use Rattle.napi_types.proofs.environment.FrameEnds.{Ends, ended-ends}
use Rattle.napi_types.proofs.environment.Registrations.{none-asked, none-ended, none-begun, owed-in}
use Rattle.napi_types.proofs.hub.HubDuties.{delivery-of_hub}
use Rattle.napi_types.proofs.runs.CallRooms.{local-room}
use Rattle.napi_types.proofs.runs.Chosen as choices
use Rattle.napi_types.proofs.runs.Chosen.{OwnChoice, NoChoice, HubChoice, chosen-in-phase}
use Rattle.napi_types.proofs.runs.Forms as form
use Rattle.napi_types.proofs.runs.Forms.{Form, form-of}
use Rattle.napi_types.proofs.runs.Runs.{along-entries, along-run}
use Rattle.napi_types.proofs.runs.SharedSteps.{after_shared-alone, shares-still, moves-still, others-still, end-stage}
use Rattle.napi_types.proofs.runs.StepCases.{StepCase, shares, leaves, passes, moves, others, InPhase, stage-in, still-in-phase, stage-moved, step-case, abandons}
use Rattle.napi_types.proofs.all_runs.Orderly.{late-tears, settled-passed}

abbrev pub is_init : Phase → Bool
is_init phase.Init = true
is_init _ = false

-- what holds at every moment of a run; that the journal is within its limit, where the limits suffice
pub record Roomy (Enough : Type 0) (l : Limits) (m : Machine) : Type 0 where
  pub limits : m.limits ≡ l
  pub journal : Enough → m.journal_length + reserved_journal m.env ≤ l.journal
  pub stage : InPhase m
  -- once the init frames are over the opening stands, and each addon had its frame
  pub opened : is_init m.env.phase ≡ false → m.env.opened ≡ true
  pub inits : is_init m.env.phase ≡ false → nat_lt m.env.inits m.env.addons ≡ false
  -- once `finals` has come no ticket is registered, and in the end no frame stands and none is to come
  pub settled : is_from_finals_on m.env.phase ≡ true → NoneRegistered m.env.book
  pub bare : m.env.phase ≡ phase.Gone → m.env.frames ≡ []
  pub spent : m.env.phase ≡ phase.Gone → owed_tickets m.env.book ≡ 0

-- the places that are owed beside the ends of frames
abbrev other_places : Environment → ℕ
other_places e = one_if (not e.opened) + gone_place e.phase + 2 * (e.addons - e.inits)

same-others : (d e : Environment) → SameCourse e d → other_places d ≡ other_places e
same-others d e same = rw (same.opened, same.phase, same.addons, same.inits) refl

-- a step that leaves the phase as it is
stays : (Enough : Type 0) (l : Limits) (m n : Machine) → Roomy Enough l m → n.limits ≡ m.limits → n.hub.stage ≡ m.hub.stage → SameCourse m.env n.env
    → (Enough → n.journal_length + reserved_journal n.env ≤ l.journal) → (is_from_finals_on m.env.phase ≡ true → NoneRegistered n.env.book)
    → m.env.phase ≢ phase.Gone
    → Roomy Enough l n
stays Enough l m n r limits stage course journal settled never = record {
  limits = limits ∙ r.limits;
  journal = journal;
  stage = still-in-phase m n course.phase stage r.stage;
  opened = λ p. course.opened ∙ r.opened (ap is_init (sym course.phase) ∙ p);
  inits = λ p. rw (course.inits, course.addons) (r.inits (ap is_init (sym course.phase) ∙ p));
  settled = λ p. settled (ap is_from_finals_on (sym course.phase) ∙ p);
  bare = λ p. absurd (never (sym course.phase ∙ p));
  spent = λ p. absurd (never (sym course.phase ∙ p));
}

-- while a frame stands the environment is not gone
framed : (Enough : Type 0) (l : Limits) (m : Machine) (f : Frame) (fs : List Frame) → m.env.frames ≡ f ∷ fs → Roomy Enough l m → m.env.phase ≢ phase.Gone
framed Enough l m f fs stands r = λ gone. let no : f ∷ fs ≡ [] = sym stands ∙ r.bare gone in cc

-- A CALL
call-fits : (j b d f w v n x : ℕ) → nat_lt x (j + (b + f + 2 * v) + n) ≡ false → d + 2 * w + 1 ≤ f + 2 * v + n → j + 1 + (b + d + 2 * w) ≤ x
call-fits j b d f w v n x h k = grind arith

call-room : (Enough : Type 0) (l : Limits) (m : Machine) (c : Call) (o : Out) (f : Frame) (fs : List Frame) (b : Bool) → is_shared c ≡ b → m.env.frames ≡ f ∷ fs
    → Roomy Enough l m → IsTrue (call_step_on b m c o).may → Roomy Enough l (call_step_on b m c o).after
call-room Enough l m c o f fs false local e r h =
    let n : ℕ = issued_number o in
    let d : Environment = (asked_change m.env c n).after in
    let k : KeepsButFrames m.env d (need c) = asked_change-fits m.env c n in
    let course : SameCourse m.env d = course-parts m.env d k.course in
    let free : is_full (journal_room m.env m.journal_length m.limits.journal) c ≡ false =
    ap (λ x. is_full x c) (sym (local-room m c local)) ∙ not-true _ (and-right (may_call m.env && is_fresh_result m.env o) (not (is_full (room_of m c) c)) h) in
    let fits : m.journal_length + 1 + reserved_journal d ≤ m.limits.journal =
    rw (same-others d m.env course)
    (call-fits m.journal_length (other_places m.env) (length (local_frames d.frames)) (length (local_frames m.env.frames)) (owed_tickets d.book) (owed_tickets m.env.book) (need c)
    m.limits.journal free k.owed) in
    let P : Limits → Type 0 = λ q. m.journal_length + 1 + reserved_journal d ≤ q.journal in
    stays Enough l m (call_step_on false m c o).after r refl refl course (λ enough. subst P r.limits fits)
    (λ last. none-asked m.env c n (late-tears m.env.phase last) (r.settled last)) (framed Enough l m f fs e r)
call-room Enough l m c o f fs true local e r h =
    let reply : Reply = (hub_step m.hub (shared_entry m.env c o)).entry.reply in
    let d : Environment = after_shared c reply m.env in
    let course : SameCourse m.env d = course-parts m.env d (ap course_of (after_shared-alone c reply m.env)) in
    let book : d.book ≡ m.env.book = ap (λ (x : Environment). x.book) (after_shared-alone c reply m.env) in
    let depth : length (local_frames d.frames) ≡ length (local_frames m.env.frames) =
    ap (λ (x : Environment). length (local_frames x.frames)) (after_shared-alone c reply m.env) ∙ local-counted m.env.frames in
    stays Enough l m (call_step_on true m c o).after r refl (shares-still m c o).stage course
    (λ enough. rw (same-others d m.env course, depth, book) (r.journal enough)) (λ last. rw book (r.settled last)) (framed Enough l m f fs e r)

-- THE END OF A FRAME
-- the end of the innermost frame stands in the journal, unless a duty of the hub began it
frame-local : (f : Frame) (fs : List Frame) (b : Bool) → is_hub_duty f.duty ≡ b → length (local_frames (f ∷ fs)) ≡ one_if (not b) + length (local_frames fs)
frame-local f fs b is = ap (λ c. length (cond (not c) (f ∷ local_frames fs) (local_frames fs))) is ∙ by b
  where
    by : (c : Bool) → length (cond (not c) (f ∷ local_frames fs) (local_frames fs)) ≡ one_if (not c) + length (local_frames fs)
    by true = omega arith
    by false = omega arith

frame-shared : (f : Frame) (fs : List Frame) → is_hub_duty f.duty ≡ true → length (local_frames (f ∷ fs)) ≡ length (local_frames fs)
frame-shared f fs is = ap (λ c. length (cond (not c) (f ∷ local_frames fs) (local_frames fs))) is

end-fits : (j b k n w v x : ℕ) → j + (b + (k + n) + 2 * v) ≤ x → w ≡ v → j + k + (b + n + 2 * w) ≤ x
end-fits j b k n w v x h e = omega (arith, h, e)

ended-room : (Enough : Type 0) (l : Limits) (m : Machine) (v : Option HandleId) (w : Option Why) (f : Frame) (fs : List Frame) (b : Bool)
    → is_hub_duty (duty_of m.env.frames) ≡ b → m.env.frames ≡ f ∷ fs → Roomy Enough l m → Enough
    → m.journal_length + one_if (not b) + reserved_journal (end_change v w m.env).after ≤ l.journal
ended-room Enough l m v w f fs b hubs e r enough =
    let d : Environment = (end_change v w m.env).after in
    let k : KeepsButFrame m.env d = ended-keeps v w m.env in
    let left : d.frames ≡ fs = k.frames ∙ ap tail e in
    let whose : is_hub_duty f.duty ≡ b = ap (λ gs. is_hub_duty (duty_of gs)) (sym e) ∙ hubs in
    let depth : length (local_frames m.env.frames) ≡ one_if (not b) + length (local_frames fs) = ap (λ gs. length (local_frames gs)) e ∙ frame-local f fs b whose in
    let waits : owed_tickets d.book ≡ owed_tickets m.env.book =
    ap owed_tickets (left-parts m.env d k).book ∙ owed-left (cause_of m.env.frames) (duty_of m.env.frames) m.env.book in
    let before : m.journal_length + (other_places m.env + (one_if (not b) + length (local_frames fs)) + 2 * owed_tickets m.env.book) ≤ l.journal = rw depth at (r.journal enough) in
    rw (same-others d m.env (course-parts m.env d k.course), left)
    (end-fits m.journal_length (other_places m.env) (one_if (not b)) (length (local_frames fs)) (owed_tickets d.book) (owed_tickets m.env.book) l.journal before waits)

no-more : (j r x : ℕ) → j + 0 + r ≤ x → j + r ≤ x
no-more j r x h = omega (arith, h)

end-room : (Enough : Type 0) (l : Limits) (m : Machine) (v : Option HandleId) (w : Option Why) (may : Bool) (f : Frame) (fs : List Frame) (b : Bool)
    → is_hub_duty (duty_of m.env.frames) ≡ b → m.env.frames ≡ f ∷ fs → Roomy Enough l m → Roomy Enough l (end_step_on b m (end_change v w m.env) may).after
end-room Enough l m v w may f fs false hubs e r =
    let d : Environment = (end_change v w m.env).after in
    stays Enough l m (end_step_on false m (end_change v w m.env) may).after r refl refl (course-parts m.env d (ended-keeps v w m.env).course)
    (ended-room Enough l m v w f fs false hubs e r) (λ last. none-ended m.env v w (r.settled last)) (framed Enough l m f fs e r)
end-room Enough l m v w may f fs true hubs e r =
    let d : Environment = (end_change v w m.env).after in
    let told : Ends w (end_change v w m.env).entry = ended-ends v w m.env in
    stays Enough l m (end_step_on true m (end_change v w m.env) may).after r refl (end-stage m.hub (end_change v w m.env).entry told.who told.is)
    (course-parts m.env d (ended-keeps v w m.env).course)
    (λ enough. no-more m.journal_length (reserved_journal d) l.journal (ended-room Enough l m v w f fs true hubs e r enough))
    (λ last. none-ended m.env v w (r.settled last)) (framed Enough l m f fs e r)

-- THE HUB STARTS A PHASE
passed-fits : (j b w v x : ℕ) → w ≡ v → j + (b + 2 * v) ≤ x → j + (b + 2 * w) ≤ x
passed-fits j b w v x e h = omega (arith, e, h)

passed-room : (Enough : Type 0) (l : Limits) (m : Machine) (event : HostStep) (p : Phase) (o : Out)
    → IsStageOf p (by_hub m event p o).after.hub.stage → gone_place p ≡ gone_place m.env.phase → p ≢ phase.Gone
    → m.env.opened ≡ true → nat_lt m.env.inits m.env.addons ≡ false → Roomy Enough l m → Roomy Enough l (by_hub m event p o).after
passed-room Enough l m event p o far g never stands had r = record {
  limits = r.limits;
  journal =
      λ enough. rw g (passed-fits m.journal_length (other_places m.env + length (local_frames m.env.frames)) (owed_tickets (book_in p m.env.book)) (owed_tickets m.env.book) l.journal
      (owed-in p m.env.book) (r.journal enough));
  stage = far;
  opened = λ q. stands;
  inits = λ q. had;
  settled = settled-passed p m.env.book never;
  bare = λ q. absurd (never q);
  spent = λ q. absurd (never q);
}

-- EVENTS WITH NO FRAME
opening-fits : (j a w x : ℕ) → j + (1 + 1 + a + 0 + 2 * w) ≤ x → j + 1 + (0 + 1 + a + 0 + 2 * w) ≤ x
opening-fits j a w x h = omega (arith, h)

init-fits : (j k g a i w x : ℕ) → nat_lt i a ≡ true → j + (k + g + 2 * (a - i) + 0 + 2 * w) ≤ x → j + 1 + (k + g + 2 * (a - (i + 1)) + 1 + 2 * w) ≤ x
init-fits j k g a i w x n h = grind arith

gone-fits : (j k a w x : ℕ) → j + (k + 1 + a + 0 + 2 * w) ≤ x → j + 1 + (k + 0 + a + 0 + 2 * w) ≤ x
gone-fits j k a w x h = omega (arith, h)

ticket-fits : (j b w v x : ℕ) → w + 1 ≡ v → j + (b + 0 + 2 * v) ≤ x → j + 1 + (b + 1 + 2 * w) ≤ x
ticket-fits j b w v x e h = omega (arith, e, h)

same-course : (e : Environment) → SameCourse e e
same-course e = record { addons = refl; opened = refl; inits = refl; phase = refl }

-- the frame of a ticket begins: its two places are those of its begin and of its end
ticket-room : (Enough : Type 0) (l : Limits) (m : Machine) (n : ℕ) (o : Option Registration) → registration_at m.env.book n ≡ o → m.env.frames ≡ [] → m.env.phase ≢ phase.Gone
    → Roomy Enough l m → IsTrue (ticket_step m n o).may → Roomy Enough l (ticket_step m n o).after
ticket-room Enough l m n None there f never r h = r
ticket-room Enough l m n (Some q) there f never r h =
    let j : Enough → m.journal_length + (other_places m.env + 0 + 2 * owed_tickets m.env.book) ≤ l.journal = λ enough. rw f at (r.journal enough) in
    let begun : Book = moved_at (begun_in m.env.phase) n m.env.book in
    let less : owed_tickets begun + 1 ≡ owed_tickets m.env.book = owed-begun m.env.phase n m.env.book q there h in
    stays Enough l m (ticket_step m n (Some q)).after r refl refl (record { addons = refl; opened = refl; inits = refl; phase = refl })
    (λ enough. rw f (ticket-fits m.journal_length (other_places m.env) (owed_tickets begun) (owed_tickets m.env.book) l.journal less (j enough)))
    (λ last. none-begun m.env.phase n m.env.book (r.settled last)) never

-- the hub moves: a frame that begins then has its end in the history
move-room : (Enough : Type 0) (l : Limits) (m : Machine) (move : HubMove) → hub_move m.hub ≡ Some move → m.env.phase ≢ phase.Gone → Roomy Enough l m
    → Roomy Enough l (move_step m move).after
move-room Enough l m (Delivers d) next never r =
    let depth : length (local_frames (frame_of_duty d ∷ m.env.frames)) ≡ length (local_frames m.env.frames) = frame-shared (frame_of_duty d) m.env.frames (delivery-of_hub m.hub d next).ours in
    stays Enough l m (move_step m (Delivers d)).after r refl (moves-still m (Delivers d)).stage (record { addons = refl; opened = refl; inits = refl; phase = refl })
    (λ enough. rw depth (r.journal enough)) r.settled never
move-room Enough l m (Closes n) next never r =
    stays Enough l m (move_step m (Closes n)).after r refl (moves-still m (Closes n)).stage (same-course m.env) r.journal r.settled never
move-room Enough l m (Finishes n) next never r =
    stays Enough l m (move_step m (Finishes n)).after r refl (moves-still m (Finishes n)).stage (record { addons = refl; opened = refl; inits = refl; phase = refl }) r.journal r.settled never

later-opened : (Enough : Type 0) (l : Limits) (m : Machine) (p : Phase) → m.env.phase ≡ p → is_init p ≡ false → Roomy Enough l m → m.env.opened ≡ true
later-opened Enough l m p e n r = r.opened (ap is_init e ∙ n)

later-inits : (Enough : Type 0) (l : Limits) (m : Machine) (p : Phase) → m.env.phase ≡ p → is_init p ≡ false → Roomy Enough l m
    → nat_lt m.env.inits m.env.addons ≡ false
later-inits Enough l m p e n r = r.inits (ap is_init e ∙ n)

loop-ended-room : (Enough : Type 0) (l : Limits) (m : Machine) (w : LoopEnd) → m.env.phase ≡ phase.Live → Roomy Enough l m
    → Roomy Enough l (event_step m (EndsLoop w)).after
loop-ended-room Enough l m w e r =
    passed-room Enough l m host.LoopEnd phase.Hooks (out.Ended w) (ap is_of_hooks (stage-moved m host.LoopEnd Live (stage-in m phase.Live r.stage e))) (rw e refl) (λ q. cc)
    (later-opened Enough l m phase.Live e refl r) (later-inits Enough l m phase.Live e refl r) r

-- the hooks that wait are abandoned
abandoned-room : (Enough : Type 0) (l : Limits) (m : Machine) → m.env.phase ≡ phase.Hooks → m.hub.stage ≡ LoopEnded → Roomy Enough l m
    → Roomy Enough l (event_step m Abandons).after
abandoned-room Enough l m e far r = record {
  limits = r.limits;
  journal = r.journal;
  stage = subst (λ p. IsStageOf p (event_step m Abandons).after.hub.stage) (sym e) (ap is_of_hooks (stage-moved m host.Abandon LoopEnded far));
  opened = r.opened;
  inits = r.inits;
  settled = r.settled;
  bare = r.bare;
  spent = r.spent;
}

not-gone : (e : Environment) (p : Phase) → e.phase ≡ p → p ≢ phase.Gone → e.phase ≢ phase.Gone
not-gone e p is never = λ gone. never (sym is ∙ gone)

-- what the environment decides alone
own-room : (Enough : Type 0) (l : Limits) (m : Machine) (p : Phase) (v : Event) → m.env.phase ≡ p → m.env.frames ≡ [] → OwnChoice m.env p v → Roomy Enough l m
    → IsTrue (event_step m v).may → Roomy Enough l (event_step m v).after
own-room Enough l m _ _ p f (choices.opens o) r h =
    let j : Enough → m.journal_length + (1 + 1 + 2 * (m.env.addons - m.env.inits) + 0 + 2 * owed_tickets m.env.book) ≤ l.journal = λ enough. rw (o, p, f) at (r.journal enough) in
    record {
      limits = r.limits;
      journal = λ enough. rw (p, f) (opening-fits m.journal_length (2 * (m.env.addons - m.env.inits)) (owed_tickets m.env.book) l.journal (j enough));
      stage = r.stage;
      opened = λ q. refl;
      inits = r.inits;
      settled = r.settled;
      bare = r.bare;
      spent = r.spent;
    }
own-room Enough l m _ _ p f (choices.inits o i) r h =
    let j : Enough → m.journal_length + (one_if (not m.env.opened) + gone_place m.env.phase + 2 * (m.env.addons - m.env.inits) + 0 + 2 * owed_tickets m.env.book) ≤ l.journal = λ enough. rw f at (r.journal enough) in
    record {
      limits = r.limits;
      journal = λ enough. rw f (init-fits m.journal_length (one_if (not m.env.opened)) (gone_place m.env.phase) m.env.addons m.env.inits (owed_tickets m.env.book) l.journal i (j enough));
      stage = r.stage;
      opened = r.opened;
      inits = λ q. let z : true ≡ false = rw p at q in cc;
      settled = λ q. let z : false ≡ true = rw p at q in cc;
      bare = λ q. let z : phase.Init ≡ phase.Gone = rw p at q in cc;
      spent = λ q. let z : phase.Init ≡ phase.Gone = rw p at q in cc;
    }
own-room Enough l m _ _ e f (choices.exits asked) r h = loop-ended-room Enough l m loop_end.Exit e r
own-room Enough l m _ _ e f (choices.due_in_loop n unasked lowest) r h =
    ticket-room Enough l m n (registration_at m.env.book n) refl f (not-gone m.env phase.Live e (λ q. cc)) r h
own-room Enough l m _ _ e f (choices.hooks k last) r h =
    ticket-room Enough l m k.ticket (registration_at m.env.book k.ticket) refl f (not-gone m.env phase.Hooks e (λ q. cc)) r h
own-room Enough l m _ _ e f (choices.due_at_end n lowest) r h =
    ticket-room Enough l m n (registration_at m.env.book n) refl f (not-gone m.env phase.Finals e (λ q. cc)) r h
own-room Enough l m _ _ e f (choices.ends lowest) r h =
    let j : Enough → m.journal_length + (one_if (not m.env.opened) + 1 + 2 * (m.env.addons - m.env.inits) + 0 + 2 * owed_tickets m.env.book) ≤ l.journal = λ enough. rw (e, f) at (r.journal enough) in
    let settled : NoneRegistered m.env.book = r.settled (ap is_from_finals_on e) in
    record {
      limits = r.limits;
      journal = λ enough. rw f (gone-fits m.journal_length (one_if (not m.env.opened)) (2 * (m.env.addons - m.env.inits)) (owed_tickets m.env.book) l.journal (j enough));
      stage = stage-in m phase.Finals r.stage e;
      opened = λ q. later-opened Enough l m phase.Finals e refl r;
      inits = λ q. later-inits Enough l m phase.Finals e refl r;
      settled = λ q. settled;
      bare = λ q. f;
      spent = λ q. none-owed_tickets m.env.book settled lowest;
    }

-- and what the hub does where it decides nothing
hub-room : (Enough : Type 0) (l : Limits) (m : Machine) (p : Phase) (s : Stage) (v : Event) → m.env.phase ≡ p → m.hub.stage ≡ s → IsStageOf p s
    → HubChoice m.hub (waiting_hooks m.env) s v → NoChoice m.env p → Roomy Enough l m → Roomy Enough l (event_step m v).after
hub-room Enough l m _ _ _ e far shown choices.goes (choices.begun o i) r =
    passed-room Enough l m host.Go phase.Live out.Nothing (stage-moved m host.Go Before far) (rw e refl) (λ q. cc) o i r
hub-room Enough l m _ _ _ e far shown (choices.idles none idle) (choices.waits unasked lowest) r = loop-ended-room Enough l m loop_end.Idle e r
hub-room Enough l m _ _ _ e far shown (choices.quiets none busy quiet) (choices.waits unasked lowest) r = loop-ended-room Enough l m loop_end.Quiet e r
hub-room Enough l m _ _ _ e far shown (choices.moves_in_loop move next) (choices.waits unasked lowest) r =
    move-room Enough l m move next (not-gone m.env phase.Live e (λ q. cc)) r
hub-room Enough l m _ _ _ e far shown (choices.abandons some still quiet) (choices.unhooked none) r = abandoned-room Enough l m e far r
hub-room Enough l m _ _ _ e far shown (choices.moves_in_hooks some move next) (choices.unhooked none) r =
    move-room Enough l m move next (not-gone m.env phase.Hooks e (λ q. cc)) r
hub-room Enough l m _ _ _ e far shown choices.drains_later (choices.unhooked none) r =
    passed-room Enough l m host.Drain phase.Drain (out.Unsigned (length m.hub.pool.queued)) (stage-moved m host.Drain HooksAbandoned far) (rw e refl) (λ q. cc)
    (later-opened Enough l m phase.Hooks e refl r) (later-inits Enough l m phase.Hooks e refl r) r
hub-room Enough l m _ _ _ e far shown (choices.drains unwaited) (choices.unhooked none) r =
    passed-room Enough l m host.Drain phase.Drain (out.Unsigned (length m.hub.pool.queued)) (stage-moved m host.Drain LoopEnded far) (rw e refl) (λ q. cc)
    (later-opened Enough l m phase.Hooks e refl r) (later-inits Enough l m phase.Hooks e refl r) r
hub-room Enough l m _ _ _ e far shown (choices.finals none spent) choices.drained r =
    passed-room Enough l m host.Finals phase.Finals out.Nothing (stage-moved m host.Finals Drained far) (rw e refl) (λ q. cc)
    (later-opened Enough l m phase.Drain e refl r) (later-inits Enough l m phase.Drain e refl r) r
hub-room Enough l m _ _ _ e far shown (choices.moves_at_end move next) choices.drained r =
    move-room Enough l m move next (not-gone m.env phase.Drain e (λ q. cc)) r
hub-room Enough l m _ _ _ e far shown _ _ r = cc

event-room : (Enough : Type 0) (l : Limits) (m : Machine) (v : Event) → m.env.frames ≡ [] → choice m ≡ Some v → Roomy Enough l m → IsTrue (event_step m v).may
    → Roomy Enough l (event_step m v).after
event-room Enough l m v alone next r h = by (chosen-in-phase m v next)
  where
    by : OwnChoice m.env m.env.phase v ⊎ NoChoice m.env m.env.phase × HubChoice m.hub (waiting_hooks m.env) m.hub.stage v
        → Roomy Enough l (event_step m v).after
    by (inl mine) = own-room Enough l m m.env.phase v refl alone mine r h
    by (inr its) = hub-room Enough l m m.env.phase m.hub.stage v refl refl r.stage its.1 its.0 r

-- EACH STEP
-- a thread or a worker leaves the environment as it is
other-room : (Enough : Type 0) (l : Limits) (m : Machine) (x : Entry) → is_environment x.actor ≡ false → Roomy Enough l m → Roomy Enough l (other_step m x).after
other-room Enough l m x other r = record {
  limits = r.limits;
  journal = r.journal;
  stage = still-in-phase m (other_step m x).after refl (others-still m x other).stage r.stage;
  opened = r.opened;
  inits = r.inits;
  settled = r.settled;
  bare = r.bare;
  spent = r.spent;
}

form-room : (Enough : Type 0) (l : Limits) (m : Machine) (s : Step) → Form m s → Roomy Enough l m → IsTrue s.may → Roomy Enough l s.after
form-room Enough l m _ (form.calls f fs stands c o local) r h = call-room Enough l m c o f fs false local stands r h
form-room Enough l m _ (form.shares f fs stands c o is answers) r h = call-room Enough l m c o f fs true is stands r h
form-room Enough l m _ (form.ends f fs stands v cut b ours is) r h = end-room Enough l m v cut b f fs ours is stands r
form-room Enough l m _ (form.happens alone v next) r h = event-room Enough l m v alone next r h
form-room Enough l m _ (form.others x other told) r h = other-room Enough l m x other r

next-room : (Enough : Type 0) (l : Limits) (m : Machine) (a : Ask) (x : Entry) → IsNext m a x → Roomy Enough l m → Roomy Enough l (after m a x)
next-room Enough l m a x next r = form-room Enough l m (step m a x) (form-of m a x next) r next.1

run-room : (Enough : Type 0) (l : Limits) (m : Machine) (bs : List Ask) (xs : List Entry) → Roomy Enough l m → IsRunBy m bs xs → Roomy Enough l (final m bs xs)
run-room Enough l m bs xs r run = along-run (Roomy Enough l) (next-room Enough l) m bs xs run r

-- THE ENTRIES ARE COUNTED
-- how many entries both lists have
abbrev pub entries : Machine → ℕ
entries m = m.journal_length + m.history_length

one-local : (j k : ℕ) → j + 1 + k ≡ suc (j + k)
one-local j k = omega arith

one-shared : (j k : ℕ) → j + (k + 1) ≡ suc (j + k)
one-shared j k = omega arith

move-counted : (m : Machine) (move : HubMove) → entries (move_step m move).after ≡ suc (entries m)
move-counted m (Delivers d) = one-shared m.journal_length m.history_length
move-counted m _ = one-shared m.journal_length m.history_length

step-counted : (m : Machine) (s : Step) → StepCase m s → entries s.after ≡ suc (entries m)
step-counted m _ (shares c o is answers) = one-shared m.journal_length m.history_length
step-counted m _ (leaves v cut may is) = one-shared m.journal_length m.history_length
step-counted m _ (passes p o passed) = one-shared m.journal_length m.history_length
step-counted m _ (abandons here far none alone) = one-shared m.journal_length m.history_length
step-counted m _ (moves move next moving alone) = move-counted m move
step-counted m _ (others x other) = one-shared m.journal_length m.history_length
step-counted m _ _ = one-local m.journal_length m.history_length

one-more : (now before n after : ℕ) → now ≡ suc before → after ≡ now + n → after ≡ before + suc n
one-more now before n after e h = omega (arith, e, h)

pub run-counted : (Enough : Type 0) (l : Limits) (m : Machine) (bs : List Ask) (xs : List Entry) → Roomy Enough l m → IsRunBy m bs xs → entries (final m bs xs) ≡ entries m + length xs
run-counted Enough l m bs xs r run =
    along-entries (λ m bs xs. Roomy Enough l m → entries (final m bs xs) ≡ entries m + length xs) (λ m r. omega arith)
    (λ m a bs x xs next rest r. one-more (entries (after m a x)) (entries m) (length xs) (entries (final (after m a x) bs xs))
    (step-counted m (step m a x) (step-case m a x r.stage next)) (rest (next-room Enough l m a x next r))) m bs xs run r

-- A WHOLE RUN
opens-within : (n x : ℕ) → 2 + 2 * n ≤ x → 0 + (1 + 1 + 2 * (n - 0) + 0 + 2 * 0) ≤ x
opens-within n x h = omega (arith, h)

-- the limit of the journal has room for the events that every run has
abbrev pub Suffices : Setting → Type 0
Suffices s = 2 + 2 * length s.plans ≤ s.limits.journal

pub opening-room : (s : Setting) → Roomy (Suffices s) s.limits (opening_of s)
opening-room s = record {
  limits = refl;
  journal = λ enough. opens-within (length s.plans) s.limits.journal enough;
  stage = refl;
  opened = λ p. cc;
  inits = λ p. cc;
  settled = λ p. cc;
  bare = λ p. cc;
  spent = λ p. cc;
}

none-owed : (a i n w : ℕ) → nat_lt i a ≡ false → n ≡ 0 → w ≡ 0 → 0 + 0 + 2 * (a - i) + n + 2 * w ≡ 0
none-owed a i n w h e k = grind arith

pub none-reserved : (Enough : Type 0) (l : Limits) (m : Machine) → Roomy Enough l m → m.env.phase ≡ phase.Gone → reserved_journal m.env ≡ 0
none-reserved Enough l m r g =
    rw (r.opened (ap is_init g), g)
    (none-owed m.env.addons m.env.inits (length (local_frames m.env.frames)) (owed_tickets m.env.book) (r.inits (ap is_init g)) (ap (λ fs. length (local_frames fs)) (r.bare g)) (r.spent g))

pub run-roomy : (s : Setting) (bs : List Ask) (xs : List Entry) → IsRunBy (opening_of s) bs xs → Roomy (Suffices s) s.limits (final_of s bs xs)
run-roomy s bs xs r = run-room (Suffices s) s.limits (opening_of s) bs xs (opening-room s) r
