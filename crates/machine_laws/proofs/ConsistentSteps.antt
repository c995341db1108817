-- Every step of a run keeps environments consistent, and so does every run.
use Rattle.std.proofs.Common.{◌≡◌, ◌≤◌, arith, ℕ, zero, suc, ◌+◌, ◌==◌, nat_le, not, true, false, Bool, List, [], ◌∷◌, length, take, refl, sym, ◌∙◌, ap, subst, Option, Some, None}
use Rattle.std.specs.List.{All}
use Rattle.std.proofs.lemmas.Bool.{leb-false}
use Rattle.std.proofs.lemmas.List.Elements.{All-push, All-filter}
use Rattle.napi_types.specs.declared.call.Args.{Args}
use Rattle.napi_types.specs.declared.call.Ask.{Ask}
use Rattle.napi_types.specs.declared.call.Call.{Call}
use Rattle.napi_types.specs.declared.call.Call.TheVariants as call
use Rattle.napi_types.specs.declared.entry.Cause.TheVariants as cause
use Rattle.napi_types.specs.declared.entry.Entry.{Entry}
use Rattle.napi_types.specs.declared.entry.Out.{Out}
use Rattle.napi_types.specs.declared.entry.Out.TheVariants as out
use Rattle.napi_types.specs.declared.entry.Phase.{Phase}
use Rattle.napi_types.specs.declared.entry.Phase.TheVariants as phase
use Rattle.napi_types.specs.declared.entry.Reply.{Reply}
use Rattle.napi_types.specs.declared.entry.Why.{Why}
use Rattle.napi_types.specs.declared.ids.HandleId.{HandleId}
use Rattle.napi_types.specs.declared.status.Status.{Status}
use Rattle.napi_types.specs.declared.status.Status.TheVariants as status
use Rattle.napi_types.specs.plain.Lists.{tail}
use Rattle.napi_types.specs.parts.Book.{Book, Registration, due_info, moved_at, registration_at, begun_in}
use Rattle.napi_types.specs.parts.Frames.{Frame, duty_of, frame_of, frame_of_duty, most_frames, ask_counted}
use Rattle.napi_types.specs.parts.FunctionCalls.{left_value, with_receiver}
use Rattle.napi_types.specs.parts.Heap.{Heap, handle_value}
use Rattle.napi_types.specs.parts.AsyncHooks.{AsyncHook}
use Rattle.napi_types.specs.parts.HeapChanges.{with_handle, with_frame, without_frame}
use Rattle.napi_types.specs.parts.Hooks.{Hook}
use Rattle.napi_types.specs.parts.Values.{undefined_value, link_of}
use Rattle.napi_types.specs.environment.Changes.{opening_change, gone_change, in_phase, issued_number, with_noted_status, with_none_waiting}
use Rattle.napi_types.specs.environment.Ends.{uncut_call_end, end_change, outermost_end_change, reaction_ended}
use Rattle.napi_types.specs.environment.Entering.{enter_change, asked_change}
use Rattle.napi_types.specs.environment.Environment.{Environment, TsfnRoot}
use Rattle.napi_types.specs.environment.Hooked.{IsHooked}
use Rattle.napi_types.specs.environment.Refusals.{refusal, refusal_before_depth, depth_refusal}
use Rattle.napi_types.specs.environment.Registry.{Registry, registry_of, with_registry}
use Rattle.napi_types.specs.environment.SharedCalls.{with_root, without_root, after_shared}
use Rattle.napi_types.specs.environment.Tickets.{hooks_left, hooks_waiting}
use Rattle.napi_types.specs.hub.HubMoves.{HubMove, Delivers, Closes, Finishes}
use Rattle.napi_types.specs.runs.Loop.{Event, Opens, Inits, Tickets, Moves, Goes, EndsLoop, Abandons, Drains, FinalsCome, IsGone}
use Rattle.napi_types.specs.runs.Machine.{Machine}
use Rattle.napi_types.specs.runs.Run.{after, final, IsNext, IsRunBy}
use Rattle.napi_types.specs.runs.Step.{Step, ticket_step, move_step, event_step, call_step_on, end_step_on, step}
use Rattle.napi_types.proofs.plain.Lists.{length-changed, length-tail, none-last, not-when}
use Rattle.napi_types.proofs.environment.Cases.{asked-by, ended-by}
use Rattle.napi_types.proofs.environment.FrameChanges.{registry_ended}
use Rattle.napi_types.proofs.all_runs.Orderly.{Orderly, next-orderly}
use Rattle.napi_types.proofs.runs.Forms as form
use Rattle.napi_types.proofs.runs.Forms.{Form, form-of}
use Rattle.napi_types.proofs.runs.Runs.{along-entries}
use Rattle.napi_types.proofs.runs.SharedSteps.{after_shared-alone}
use Rattle.machine_laws.specs.Consistency.{IsConsistent, IsLiveAmong, ArePromisesOf, AreBuffersOf, AreSoundBuffers}
use Rattle.machine_laws.proofs.ConsistentAnswers.{IsConsistentButFrames, LeadsToConsistent, parts-of, whole-of, in-heap, call_change-follows}
use Rattle.machine_laws.proofs.ConsistentCalls.{handle-live}
use Rattle.machine_laws.proofs.ConsistentHeaps.{IsConsistentHeap, ComesTo, HandlesStay, stays, stays-then, and-then, unchanged, with-handle, with-frame, without-frame}
use Rattle.machine_laws.proofs.KeptLinks.{KeepsLinks}
use Rattle.machine_laws.proofs.Prefixes.{steps-prefix}
use Rattle.machine_laws.proofs.PromiseMaps.{ended-promised}

tail-shorter : {A : Type 0} (xs : List A) → length (tail xs) ≤ length xs
tail-shorter [] = omega arith
tail-shorter (x ∷ xs) = omega arith

-- nothing of this changes
pub same-follows : (e : Environment) → IsConsistent e → LeadsToConsistent e e
same-follows e c = record { good = c; stay = stays e.heap }

then-follows : (a b c : Environment) → LeadsToConsistent a b → LeadsToConsistent b c → LeadsToConsistent a c
then-follows a b c one two = record { good = two.good; stay = stays-then a.heap b.heap c.heap one.stay two.stay }

-- THE END OF A FRAME
-- a frame ends, its heap is left for another, an exception that is pending may be cleared, and the registry may change, where its promises fit the values, and
-- its buffers and what is attached stay
ended-follows : (e : Environment) (heap : Heap) (pending : Option ℕ) (s : Status) (r : Registry) → ArePromisesOf heap.values r.promises
    → AreBuffersOf heap.values r.buffers → AreSoundBuffers r.attachments r.buffers → IsConsistent e → ComesTo e.heap heap
    → length heap.scopes ≡ length (tail e.heap.scopes) → IsConsistentButFrames (record e { heap = heap; pending = pending })
    → LeadsToConsistent e (record (with_registry e r) { heap = heap; frames = tail e.frames; pending = pending; last = s })
ended-follows e heap pending s r fit bytes sound c comes same g =
    let new : Environment = record (with_registry e r) { heap = heap; frames = tail e.frames; pending = pending; last = s } in
    let good : IsConsistentButFrames new = record {
      heap = g.heap;
      referred = g.referred;
      references = g.references;
      pending = g.pending;
      rooted = g.rooted;
      promises = fit;
      buffers = bytes;
    } in
    record {
      good = whole-of new good sound (same ∙ length-tail e.heap.scopes e.frames c.frames) (omega (arith, tail-shorter e.frames, c.depth));
      stay = comes.stay;
    }

-- .. where it stays pending
kept-ended : (e : Environment) (heap : Heap) (s : Status) → IsConsistent e → ComesTo e.heap heap → KeepsLinks e.heap.values heap.values
    → length heap.scopes ≡ length (tail e.heap.scopes) → LeadsToConsistent e (record e { heap = heap; frames = tail e.frames; last = s })
kept-ended e heap s c comes links same =
    let g : IsConsistentButFrames (record e { heap = heap }) = (in-heap e heap (parts-of e c) comes links).good in
    ended-follows e heap e.pending s (registry_of e) g.promises g.buffers c.sound c comes same
    (record {
      heap = g.heap;
      referred = g.referred;
      references = g.references;
      pending = g.pending;
      rooted = g.rooted;
      promises = g.promises;
      buffers = g.buffers;
    })

left-live : (e : Environment) (v : Option HandleId) → IsConsistentHeap e.heap → IsLiveAmong e.heap.values (left_value e.heap v)
left-live e None g = g.starting 0 0 (omega arith)
left-live e (Some h) g = handle-live e.heap h.0 g

left-follows : (v : Option HandleId) (e : Environment) → IsConsistent e → LeadsToConsistent e (uncut_call_end v e None).after
left-follows v e c =
    let good : IsConsistentHeap e.heap = (parts-of e c).heap in
    let left : ComesTo e.heap (without_frame e.heap) = without-frame e.heap good in
    let heap : Heap = with_handle (left_value e.heap v) (without_frame e.heap) in
    let given : ComesTo (without_frame e.heap) heap = with-handle (without_frame e.heap) (left_value e.heap v) left.good (left-live e v good) in
    kept-ended e heap status.Ok c (and-then e.heap (without_frame e.heap) heap left given) (λ n live. refl) (length-changed _ (tail e.heap.scopes))

outermost-follows : (cut : Option Why) (e : Environment) → IsConsistent e → LeadsToConsistent e (outermost_end_change cut e).after
outermost-follows cut e c =
    let left : ComesTo e.heap (without_frame e.heap) = without-frame e.heap (parts-of e c).heap in
    let g : IsConsistentButFrames (record e { heap = without_frame e.heap }) = (in-heap e (without_frame e.heap) (parts-of e c) left (λ n live. refl)).good in
    let fit : ArePromisesOf e.heap.values (reaction_ended (duty_of e.frames) e.promises) =
    ended-promised (duty_of e.frames) e.heap.values e.promises g.promises in
    ended-follows e (without_frame e.heap) None e.last (registry_ended (duty_of e.frames) (registry_of e)) fit g.buffers c.sound c left refl
    (record {
      heap = g.heap;
      referred = g.referred;
      references = g.references;
      pending = tt;
      rooted = g.rooted;
      promises = g.promises;
      buffers = g.buffers;
    })

frame-follows : (v : Option HandleId) (cut : Option Why) (e : Environment) → IsConsistent e → LeadsToConsistent e (end_change v cut e).after
frame-follows v cut e c =
    let cut_short : (s : Status) → LeadsToConsistent e (record e { heap = without_frame e.heap; frames = tail e.frames; last = s }) =
    λ s. kept-ended e (without_frame e.heap) s c (without-frame e.heap (parts-of e c).heap) (λ n live. refl) refl in
    ended-by v cut e (λ why d. LeadsToConsistent e d.after) (λ w. cut_short _) (λ p. cut_short _) (left-follows v e c) (outermost-follows cut e c)

-- THE BEGIN OF A FRAME
with-receiver : (heap : Heap) (receiver : Option HandleId) → IsConsistentHeap heap → ComesTo heap (with_receiver receiver heap)
with-receiver heap None g = with-handle heap undefined_value g (g.starting 0 0 (omega arith))
with-receiver heap (Some h) g = unchanged heap g

length-receiver : (heap : Heap) (receiver : Option HandleId) → length (with_receiver receiver heap).scopes ≡ length heap.scopes
length-receiver heap None = length-changed _ heap.scopes
length-receiver heap (Some h) = refl

receiver-links : (heap : Heap) (receiver : Option HandleId) (n : ℕ) → link_of (with_receiver receiver (with_frame heap)).values n ≡ link_of heap.values n
receiver-links heap None n = refl
receiver-links heap (Some h) n = refl

-- a function is called only where a frame more may stand
below-limit : (e : Environment) (receiver : Option HandleId) (f : HandleId) (args : Args) → refusal e (call.CallFunction receiver f args) ≡ None
    → length e.frames + 1 ≤ most_frames
below-limit e receiver f args h =
    let c : Call = call.CallFunction receiver f args in
    let no_refusal : depth_refusal e.frames c ≡ None = none-last (refusal_before_depth e c) (depth_refusal e.frames c) h in
    let shallow : nat_le most_frames (length e.frames) ≡ false = not-when (nat_le most_frames (length e.frames)) status.PendingException no_refusal in
    omega (arith, leb-false most_frames (length e.frames) shallow)

enter_change-follows : (e : Environment) (receiver : Option HandleId) (f : HandleId) (args : Args) → refusal e (call.CallFunction receiver f args) ≡ None
    → IsConsistent e → LeadsToConsistent e (enter_change receiver f args e).after
enter_change-follows e receiver f args h c =
    let g : IsConsistentButFrames e = parts-of e c in
    let frame : ComesTo e.heap (with_frame e.heap) = with-frame e.heap g.heap in
    let heap : Heap = with_receiver receiver (with_frame e.heap) in
    let comes : ComesTo e.heap heap = and-then e.heap (with_frame e.heap) heap frame (with-receiver (with_frame e.heap) receiver frame.good) in
    let led : IsConsistentButFrames (record e { heap = heap }) = (in-heap e heap g comes (λ n live. receiver-links e.heap receiver n)).good in
    let new : Environment = (enter_change receiver f args e).after in
    let good : IsConsistentButFrames new = record {
      heap = led.heap;
      referred = led.referred;
      references = led.references;
      pending = led.pending;
      rooted = led.rooted;
      promises = led.promises;
      buffers = led.buffers;
    } in
    let asks : length (ask_counted e.frames) ≡ length e.frames = length-changed _ e.frames in
    let scopes : length heap.scopes ≡ length (with_frame e.heap).scopes = length-receiver (with_frame e.heap) receiver in
    record {
      good = whole-of new good c.sound (omega (arith, scopes, c.frames, asks)) (omega (arith, below-limit e receiver f args h, asks));
      stay = comes.stay;
    }

asked-follows : (e : Environment) (c : Call) (k : ℕ) → IsHooked e → IsConsistent e → LeadsToConsistent e (asked_change e c k).after
asked-follows e c k hooked old =
    asked-by e c k (λ d. LeadsToConsistent e d.after) (call_change-follows e c k hooked old)
    (λ receiver f args none. enter_change-follows e receiver f args none old)

-- EVENTS WHERE NO FRAME STANDS
-- what is neither heap, references, pending exception, buffers, attachments nor frames may change
other-follows : (e new : Environment) → IsConsistentButFrames new → AreSoundBuffers new.attachments new.buffers
    → length new.heap.scopes ≡ length e.heap.scopes → length new.frames ≡ length e.frames
    → HandlesStay e.heap new.heap → IsConsistent e → LeadsToConsistent e new
other-follows e new g sound scopes frames stay c =
    record { good = whole-of new g sound (scopes ∙ c.frames ∙ sym frames) (omega (arith, frames, c.depth)); stay = stay }

-- an outermost frame begins, and addons that had theirs, the book and the hooks may change
begun-follows : (e : Environment) (inits : ℕ) (book : Book) (hooks : List Hook) (others : List AsyncHook) (f : Frame) → e.frames ≡ [] → IsConsistent e
    → LeadsToConsistent e (record e { inits = inits; book = book; hooks = hooks; async_hooks = others; heap = with_frame e.heap; frames = f ∷ e.frames })
begun-follows e inits book hooks others f none c =
    let g : IsConsistentButFrames e = parts-of e c in
    let frame : ComesTo e.heap (with_frame e.heap) = with-frame e.heap g.heap in
    let led : IsConsistentButFrames (record e { heap = with_frame e.heap }) = (in-heap e (with_frame e.heap) g frame (λ n live. refl)).good in
    let new : Environment = record e { inits = inits; book = book; hooks = hooks; async_hooks = others; heap = with_frame e.heap; frames = f ∷ e.frames } in
    let good : IsConsistentButFrames new = record {
      heap = led.heap;
      referred = led.referred;
      references = led.references;
      pending = led.pending;
      rooted = led.rooted;
      promises = led.promises;
      buffers = led.buffers;
    } in
    record { good = whole-of new good c.sound (ap suc c.frames) (omega (arith, ap length none)); stay = frame.stay }

-- A SHARED CALL
-- a new thread-safe function keeps a live value
abbrev KeepsLive : Heap → TsfnRoot → Type 0
KeepsLive heap r = IsLiveAmong heap.values r.value

roots-live : (c : Call) (o : Out) (e : Environment) → IsConsistentHeap e.heap → All (KeepsLive e.heap) e.tsfn_roots
    → All (KeepsLive e.heap) (with_root c o e).tsfn_roots
roots-live (call.CreateThreadsafeFunction (Some f) entry maximum count finalizer context) (out.Function n) e g all =
    All-push (KeepsLive e.heap) e.tsfn_roots (record { function = n.0; value = handle_value e.heap f.0 }) all (handle-live e.heap f.0 g)
roots-live _ _ e g all = all

-- the functions that keep values alive may change
rooted-follows : (e new : Environment) (roots : List TsfnRoot) → All (KeepsLive e.heap) roots → LeadsToConsistent e new → new.heap ≡ e.heap
    → LeadsToConsistent e (record new { tsfn_roots = roots })
rooted-follows e new roots all follows same =
    let g : IsConsistentButFrames new = parts-of new follows.good in
    let live : All (KeepsLive new.heap) roots = subst (λ heap. All (KeepsLive heap) roots) (sym same) all in
    let good : IsConsistentButFrames (record new { tsfn_roots = roots }) = record {
      heap = g.heap;
      referred = g.referred;
      references = g.references;
      pending = g.pending;
      rooted = live;
      promises = g.promises;
      buffers = g.buffers;
    } in
    record { good = whole-of (record new { tsfn_roots = roots }) good follows.good.sound follows.good.frames follows.good.depth; stay = follows.stay }

noted-follows : (e : Environment) (c : Call) (s : Status) → IsConsistent e → LeadsToConsistent e (with_noted_status c s e)
noted-follows e c s old =
    let g : IsConsistentButFrames e = parts-of e old in
    let good : IsConsistentButFrames (with_noted_status c s e) = record {
      heap = g.heap;
      referred = g.referred;
      references = g.references;
      pending = g.pending;
      rooted = g.rooted;
      promises = g.promises;
      buffers = g.buffers;
    } in
    other-follows e (with_noted_status c s e) good old.sound refl (length-changed _ e.frames) (stays e.heap) old

shared-follows : (e : Environment) (c : Call) (r : Reply) → IsConsistent e → LeadsToConsistent e (after_shared c r e)
shared-follows e c r old =
    let roots : List TsfnRoot = (with_root c r.out e).tsfn_roots in
    subst (LeadsToConsistent e) (sym (after_shared-alone c r e))
    (rooted-follows e (with_noted_status c r.status e) roots (roots-live c r.out e (parts-of e old).heap (parts-of e old).rooted) (noted-follows e c r.status old) refl)

-- STEPS
abbrev StepFollows : Machine → Step → Type 0
StepFollows m s = LeadsToConsistent m.env s.after.env

phase-follows : (e : Environment) (p : Phase) → IsConsistent e → LeadsToConsistent e (in_phase p e)
phase-follows e p c =
    let g : IsConsistentButFrames e = parts-of e c in
    let good : IsConsistentButFrames (in_phase p e) = record {
      heap = g.heap;
      referred = g.referred;
      references = g.references;
      pending = g.pending;
      rooted = g.rooted;
      promises = g.promises;
      buffers = g.buffers;
    } in
    other-follows e (in_phase p e) good c.sound refl refl (stays e.heap) c

ticket-follows : (m : Machine) (n : ℕ) (r : Option Registration) → m.env.frames ≡ [] → IsConsistent m.env → StepFollows m (ticket_step m n r)
ticket-follows m n None none c = same-follows m.env c
ticket-follows m n (Some r) none c =
    let book : Book = moved_at (begun_in m.env.phase) n m.env.book in
    begun-follows m.env m.env.inits book (hooks_left m.env.phase n m.env.hooks) (hooks_waiting m.env.phase n m.env.async_hooks) (frame_of_duty (due_info n r)) none c

-- a duty of the hub begins a frame, and a function that finishes keeps its value no longer
move-follows : (m : Machine) (move : HubMove) → m.env.frames ≡ [] → IsConsistent m.env → StepFollows m (move_step m move)
move-follows m (Delivers d) none c = begun-follows m.env m.env.inits m.env.book m.env.hooks m.env.async_hooks (frame_of_duty d) none c
move-follows m (Closes n) none c = same-follows m.env c
move-follows m (Finishes n) none c =
    let left : List TsfnRoot = (without_root n m.env).tsfn_roots in
    rooted-follows m.env m.env left (All-filter (λ (r : TsfnRoot). not (r.function == n)) (KeepsLive m.env.heap) m.env.tsfn_roots c.rooted)
    (same-follows m.env c) refl

event-follows : (m : Machine) (event : Event) → m.env.frames ≡ [] → IsConsistent m.env → StepFollows m (event_step m event)
event-follows m Opens none c =
    let g : IsConsistentButFrames m.env = parts-of m.env c in
    let good : IsConsistentButFrames (opening_change m.env).after = record {
      heap = g.heap;
      referred = g.referred;
      references = g.references;
      pending = g.pending;
      rooted = g.rooted;
      promises = g.promises;
      buffers = g.buffers;
    } in
    other-follows m.env (opening_change m.env).after good c.sound refl refl (stays m.env.heap) c
event-follows m (Inits n) none c = begun-follows m.env (m.env.inits + 1) m.env.book m.env.hooks m.env.async_hooks (frame_of cause.Init n 0) none c
event-follows m (Tickets n) none c = ticket-follows m n (registration_at m.env.book n) none c
event-follows m (Moves move) none c = move-follows m move none c
event-follows m Goes none c = phase-follows m.env phase.Live c
event-follows m (EndsLoop w) none c = phase-follows m.env phase.Hooks c
event-follows m Abandons none c =
    let g : IsConsistentButFrames m.env = parts-of m.env c in
    let good : IsConsistentButFrames (with_none_waiting m.env) = record {
      heap = g.heap;
      referred = g.referred;
      references = g.references;
      pending = g.pending;
      rooted = g.rooted;
      promises = g.promises;
      buffers = g.buffers;
    } in
    other-follows m.env (with_none_waiting m.env) good c.sound refl refl (stays m.env.heap) c
event-follows m Drains none c = phase-follows m.env phase.Drain c
event-follows m FinalsCome none c = phase-follows m.env phase.Finals c
event-follows m IsGone none c =
    let g : IsConsistentButFrames m.env = parts-of m.env c in
    let good : IsConsistentButFrames (gone_change m.env).after = record {
      heap = g.heap;
      referred = g.referred;
      references = g.references;
      pending = g.pending;
      rooted = g.rooted;
      promises = g.promises;
      buffers = g.buffers;
    } in
    other-follows m.env (gone_change m.env).after good c.sound refl refl (stays m.env.heap) c

call-step-follows : (m : Machine) (c : Call) (o : Out) (b : Bool) → IsHooked m.env → IsConsistent m.env → StepFollows m (call_step_on b m c o)
call-step-follows m c o false hooked old = asked-follows m.env c (issued_number o) hooked old
call-step-follows m c o true hooked old = shared-follows m.env c (call_step_on true m c o).entry.reply old

end-step-follows : (m : Machine) (v : Option HandleId) (cut : Option Why) (may b : Bool) → IsConsistent m.env → StepFollows m (end_step_on b m (end_change v cut m.env) may)
end-step-follows m v cut may false c = frame-follows v cut m.env c
end-step-follows m v cut may true c = frame-follows v cut m.env c

form-follows : (m : Machine) (s : Step) → Form m s → IsHooked m.env → IsConsistent m.env → StepFollows m s
form-follows m _ (form.calls f fs stands c o local) hooked old = call-step-follows m c o false hooked old
form-follows m _ (form.shares f fs stands c o is told) hooked old = call-step-follows m c o true hooked old
form-follows m _ (form.ends f fs stands v cut may ours is) hooked old = end-step-follows m v cut may ours old
form-follows m _ (form.happens alone event next) hooked old = event-follows m event alone old
form-follows m _ (form.others x other same) hooked old = same-follows m.env old

-- RUNS
next-follows : (m : Machine) (a : Ask) (x : Entry) → IsNext m a x → Orderly m → IsConsistent m.env → LeadsToConsistent m.env (after m a x).env
next-follows m a x next h c = form-follows m (step m a x) (form-of m a x next) h.hooked c

pub run-follows : (m : Machine) (bs : List Ask) (xs : List Entry) → IsRunBy m bs xs → Orderly m → IsConsistent m.env
    → LeadsToConsistent m.env (final m bs xs).env
run-follows =
    along-entries (λ m bs xs. Orderly m → IsConsistent m.env → LeadsToConsistent m.env (final m bs xs).env) (λ m h c. same-follows m.env c)
    (λ m a bs x xs next rest h c.
    let one : LeadsToConsistent m.env (after m a x).env = next-follows m a x next h c in
    then-follows m.env (after m a x).env (final (after m a x) bs xs).env one (rest (next-orderly m a x h next) one.good))

-- from each moment to each later one
pub later-follows : (m : Machine) (bs : List Ask) (xs : List Entry) (i j : ℕ) → i ≤ j → IsRunBy m bs xs → Orderly m → IsConsistent m.env
    → LeadsToConsistent (final m (take i bs) (take i xs)).env (final m (take j bs) (take j xs)).env
later-follows m bs xs zero j below run h c = run-follows m (take j bs) (take j xs) (steps-prefix m bs xs j run) h c
later-follows m bs xs (suc i) zero below run h c = absurd (omega (arith, below))
later-follows m (a ∷ bs) (x ∷ xs) (suc i) (suc j) below run h c =
    later-follows (after m a x) bs xs i j (omega (arith, below)) run.1 (next-orderly m a x h run.0) (next-follows m a x run.0 h c).good
later-follows m [] xs (suc i) (suc j) below run h c = same-follows m.env c
later-follows m (a ∷ bs) [] (suc i) (suc j) below run h c = absurd run
