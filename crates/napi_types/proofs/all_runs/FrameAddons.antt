-- In every run the addons of frames, functions, tickets, works and thread-safe functions are those of the script.
use Rattle.std.proofs.Common.{◌≡◌, ◌≢◌, ◌∙◌, ◌<◌, ℕ, Bool, true, false, List, [], length, IsTrue, refl, sym, subst, Option, Some, None, arith}
use Rattle.std.specs.Option.{unwrap_or}
use Rattle.std.proofs.lemmas.List.Elements.{All-nil, All-cons}
use Rattle.napi_types.specs.declared.call.Ask.{Ask}
use Rattle.napi_types.specs.declared.call.Call.{Call}
use Rattle.napi_types.specs.declared.call.Call.TheVariants as call
use Rattle.napi_types.specs.declared.entry.Actor.{Actor}
use Rattle.napi_types.specs.declared.entry.Actor.TheVariants as actor
use Rattle.napi_types.specs.declared.entry.Entry.{Entry}
use Rattle.napi_types.specs.declared.entry.HostStep.{HostStep}
use Rattle.napi_types.specs.declared.entry.HostStep.TheVariants as host
use Rattle.napi_types.specs.declared.entry.Out.{Out}
use Rattle.napi_types.specs.declared.entry.Out.TheVariants as out
use Rattle.napi_types.specs.declared.entry.Phase.{Phase}
use Rattle.napi_types.specs.declared.entry.Phase.TheVariants as phase
use Rattle.napi_types.specs.declared.entry.What.{What}
use Rattle.napi_types.specs.declared.entry.What.TheVariants as what
use Rattle.napi_types.specs.declared.entry.Why.{Why}
use Rattle.napi_types.specs.declared.ids.HandleId.{HandleId}
use Rattle.napi_types.specs.declared.status.Status.{Status}
use Rattle.napi_types.specs.declared.status.Status.TheVariants as status
use Rattle.napi_types.specs.plain.Entries.{host_entry, is_environment}
use Rattle.napi_types.specs.parts.Bodies.{is_function}
use Rattle.napi_types.specs.parts.Book.{Registration, registration_at}
use Rattle.napi_types.specs.parts.Kinds.{expects_if}
use Rattle.napi_types.specs.parts.Frames.{frame_of_duty, caller_of}
use Rattle.napi_types.specs.parts.Heap.{handle_body}
use Rattle.napi_types.specs.environment.Changes.{issued_number, with_noted_status}
use Rattle.napi_types.specs.environment.Ends.{end_change}
use Rattle.napi_types.specs.environment.Entering.{asked_change}
use Rattle.napi_types.specs.environment.Environment.{Environment}
use Rattle.napi_types.specs.environment.Owners.{IsOwned}
use Rattle.napi_types.specs.environment.Refusals.{refusal}
use Rattle.napi_types.specs.environment.SharedCalls.{target_of, target_unless, given_of, shared_entry, with_root}
use Rattle.napi_types.specs.hub.Hub.{Hub}
use Rattle.napi_types.specs.hub.HubCalls.{no_target}
use Rattle.napi_types.specs.hub.HubMoves.{HubMove, Delivers, Closes, Finishes, hub_move}
use Rattle.napi_types.specs.hub.HubOwners.{IsFunctionOf, IsOwnedHub}
use Rattle.napi_types.specs.hub.HubStep.{HubStep}
use Rattle.napi_types.specs.hub.HubEvents.{delivery_entry}
use Rattle.napi_types.specs.hub.ThreadSteps.{thread_step}
use Rattle.napi_types.specs.hub.WorkerSteps.{worker_step}
use Rattle.napi_types.specs.hub.HubSteps.{environment_step, hub_step, hub_step_of}
use Rattle.napi_types.specs.runs.Choice.{choice, waiting_hooks}
use Rattle.napi_types.specs.runs.Loop.{Event, Inits, Tickets, Moves, Goes, EndsLoop, Drains, FinalsCome, Abandons}
use Rattle.napi_types.specs.runs.Machine.{Machine}
use Rattle.napi_types.specs.runs.Run.{IsRunBy, final}
use Rattle.napi_types.specs.runs.Setting.{opening_of}
use Rattle.napi_types.specs.runs.Step.{Step, by_hub, ticket_step, move_step, event_step, call_step_on, end_step_on, has_room, other_step, step}
use Rattle.napi_types.specs.all_runs.HubLaws.{AreOfScript, AddonsAreTheScripts}
use Rattle.napi_types.proofs.plain.Conditions.{and-right}
use Rattle.napi_types.proofs.plain.Lists.{none-first, not-unless, some-stand}
use Rattle.napi_types.proofs.environment.AnswersKeep.{course-parts}
use Rattle.napi_types.proofs.environment.FrameChanges.{ended-keeps, asked_change-fits}
use Rattle.napi_types.proofs.environment.FrameEnds.{ended-ends}
use Rattle.napi_types.proofs.environment.Owners.{Below, body-owned, caller-owned, counted-owned, row-unrefused, owned-asked, owned-ended, owned-init, owned-ticket, owned-phase, owned-opening}
use Rattle.napi_types.proofs.hub.HubOwners.{MoveOwned, GivesOwned, is_creating_call, given-owned, others-owned, event-owned, thread_event-owned, worker-owned, move-owned}
use Rattle.napi_types.proofs.runs.Chosen.{chosen-move, chosen-init}
use Rattle.napi_types.proofs.runs.Forms as form
use Rattle.napi_types.proofs.runs.Forms.{Form, form-of}
use Rattle.napi_types.proofs.runs.Runs.{along-run}

-- THE HUB AT AN EVENT
abbrev step_by : Hub → Entry → Actor → What → HubStep
step_by h x actor.Env w = environment_step h x w
step_by h x (actor.Thread t) w = thread_step h t x w
step_by h x (actor.Worker k) w = worker_step h k x w

host-owned : (n : ℕ) (h : Hub) (x : Entry) (event : HostStep) → x.what ≡ what.Host event → IsOwnedHub n h → IsOwnedHub n (hub_step h x).after
host-owned n h x event is o = stands x.actor refl
  where
    by : (who : Actor) (w : What) → w ≡ what.Host event → IsOwnedHub n (step_by h x who w).after
    by actor.Env (what.Call c) is = cc
    by actor.Env (what.Host e) is = event-owned n h x e o
    by (actor.Thread t) (what.Call c) is = cc
    by (actor.Thread t) (what.Host e) is = thread_event-owned n h t x e o
    by (actor.Worker w) it is = worker-owned n h w x it o

    stands : (who : Actor) → x.actor ≡ who → IsOwnedHub n (hub_step_of h x who).after
    stands actor.Env same = by actor.Env x.what is
    stands (actor.Thread t) same = by (actor.Thread t) x.what is
    stands (actor.Worker w) same = by (actor.Worker w) x.what is

-- A SHARED CALL
-- the environment takes in no addon
rooted-owned : (n : ℕ) (c : Call) (r : Out) (e : Environment) → IsOwned n e → IsOwned n (with_root c r e)
rooted-owned n (call.CreateThreadsafeFunction (Some f) entry maximum count finalizer context) (out.Function k) e o =
    record { frames = o.frames; functions = o.functions; tickets = o.tickets }
rooted-owned n (call.CreateThreadsafeFunction (Some f) entry maximum count finalizer context) r e o = o
rooted-owned n c r e o = o

shared-owned : (n : ℕ) (c : Call) (s : Status) (r : Out) (e : Environment) → IsOwned n e → IsOwned n (with_noted_status c s (with_root c r e))
shared-owned n c s r e o =
    let k : IsOwned n (with_root c r e) = rooted-owned n c r e o in
    record { frames = counted-owned n (with_root c r e).frames k.frames; functions = k.functions; tickets = k.tickets }

rooted-addons : (c : Call) (r : Out) (e : Environment) → (with_root c r e).addons ≡ e.addons
rooted-addons (call.CreateThreadsafeFunction (Some f) entry maximum count finalizer context) (out.Function k) e = refl
rooted-addons (call.CreateThreadsafeFunction (Some f) entry maximum count finalizer context) r e = refl
rooted-addons c r e = refl

-- it hands over addons that are there
above-none : (a n : ℕ) → a < n → 0 < n
above-none a n h = omega (arith, h)

target-owned : (n : ℕ) (e : Environment) (c : Call) → refusal e c ≡ None → e.frames ≢ [] → IsOwned n e → is_creating_call c ≡ true
    → (unwrap_or (target_of e c) no_target).addon < n
target-owned n e (call.CreateAsyncWork job entry payload) free stands o creates = above-none (caller_of e.frames) n (caller-owned n e.frames stands o.frames)
target-owned n e (call.CreateThreadsafeFunction f (Some entry) maximum count finalizer context) free stands o creates = caller-owned n e.frames stands o.frames
target-owned n e (call.CreateThreadsafeFunction (Some f) None maximum count finalizer context) free stands o creates =
    let c : Call = call.CreateThreadsafeFunction (Some f) None maximum count finalizer context in
    let row : expects_if e.heap (Some f) is_function status.InvalidArg ≡ None = none-first (expects_if e.heap (Some f) is_function status.InvalidArg) _ (row-unrefused e c free) in
    body-owned n _ e.heap.values o.functions (not-unless (is_function (handle_body e.heap f.0)) status.InvalidArg row)
target-owned n e (call.CreateThreadsafeFunction None None maximum count finalizer context) free stands o creates =
    let c : Call = call.CreateThreadsafeFunction None None maximum count finalizer context in
    let row = row-unrefused e c free in
    cc
target-owned n e c free stands o creates = cc

gives-owned : (n : ℕ) (e : Environment) (c : Call) → e.frames ≢ [] → IsOwned n e → (given_of e c).refused ≡ None → is_creating_call c ≡ true → GivesOwned n c (given_of e c)
gives-owned n e c stands o free creates = record {
  addon = caller-owned n e.frames stands o.frames;
  target = subst (λ s. (unwrap_or (target_unless s (target_of e c)) no_target).addon < n) (sym free) (target-owned n e c free stands o creates);
}

-- EVERY STEP
abbrev StepOwned : ℕ → Step → Type 0
StepOwned n s = AreOfScript n s.after

call-step-owned : (n : ℕ) (m : Machine) (c : Call) (o : Out) (b : Bool) → m.env.frames ≢ [] → AreOfScript n m → StepOwned n (call_step_on b m c o)
call-step-owned n m c o false stands k = record {
  addons = (course-parts m.env (asked_change m.env c (issued_number o)).after (asked_change-fits m.env c (issued_number o)).course).addons ∙ k.addons;
  env = owned-asked n m.env c (issued_number o) stands k.env;
  hub = k.hub;
}
call-step-owned n m c o true stands k =
    let x : Entry = shared_entry m.env c o in
    let r = (hub_step m.hub x).entry.reply in
    record {
      addons = rooted-addons c r.out m.env ∙ k.addons;
      env = shared-owned n c r.status r.out m.env k.env;
      hub = given-owned n m.hub x c (given_of m.env c) (gives-owned n m.env c stands k.env) k.hub;
    }

end-step-owned : (n : ℕ) (m : Machine) (v : Option HandleId) (cut : Option Why) (may b : Bool) → AreOfScript n m → StepOwned n (end_step_on b m (end_change v cut m.env) may)
end-step-owned n m v cut may b k = by b
  where
    addons : (end_change v cut m.env).after.addons ≡ n
    addons = (course-parts m.env (end_change v cut m.env).after (ended-keeps v cut m.env).course).addons ∙ k.addons

    env : IsOwned n (end_change v cut m.env).after
    env = owned-ended n m.env v cut k.env

    by : (b : Bool) → StepOwned n (end_step_on b m (end_change v cut m.env) may)
    by false = record { addons = addons; env = env; hub = k.hub }
    by true = record { addons = addons; env = env; hub = host-owned n m.hub (end_change v cut m.env).entry host.End (ended-ends v cut m.env).is k.hub }

-- an event where no frame stands
great-owned : (n : ℕ) (m : Machine) (event : HostStep) (p : Phase) (o : Out) → AreOfScript n m → StepOwned n (by_hub m event p o)
great-owned n m event p o k = record { addons = k.addons; env = owned-phase n m.env p k.env; hub = host-owned n m.hub (host_entry event o) event refl k.hub }

ticket-step-owned : (n : ℕ) (m : Machine) (t : ℕ) (r : Option Registration) → registration_at m.env.book t ≡ r → AreOfScript n m → StepOwned n (ticket_step m t r)
ticket-step-owned n m t None there k = k
ticket-step-owned n m t (Some r) there k = record { addons = k.addons; env = owned-ticket n m.env t r there k.env; hub = k.hub }

move-step-owned : (n : ℕ) (m : Machine) (move : HubMove) → hub_move m.hub ≡ Some move → AreOfScript n m → StepOwned n (move_step m move)
move-step-owned n m (Delivers d) next k = record {
  addons = k.addons;
  env = record {
    frames = All-cons (Below n) (frame_of_duty d) m.env.frames (subst (λ o. MoveOwned n o) next (move-owned n m.hub k.hub)) k.env.frames;
    functions = k.env.functions;
    tickets = k.env.tickets;
  };
  hub = host-owned n m.hub (delivery_entry d) host.Begin refl k.hub;
}
move-step-owned n m (Closes f) next k = record { addons = k.addons; env = k.env; hub = host-owned n m.hub (host_entry host.CloseTsfn (out.Function (record { 0 = f }))) host.CloseTsfn refl k.hub }
move-step-owned n m (Finishes f) next k = record {
  addons = k.addons;
  env = record { frames = k.env.frames; functions = k.env.functions; tickets = k.env.tickets };
  hub = host-owned n m.hub (host_entry host.FinishTsfn (out.Function (record { 0 = f }))) host.FinishTsfn refl k.hub;
}

event-step-owned : (n : ℕ) (m : Machine) (v : Event) → choice m ≡ Some v → AreOfScript n m → StepOwned n (event_step m v)
event-step-owned n m (Inits i) is k = record { addons = k.addons; env = owned-init n m.env i (subst (λ a. i < a) k.addons (chosen-init m i is)) k.env; hub = k.hub }
event-step-owned n m (Tickets t) is k = ticket-step-owned n m t (registration_at m.env.book t) refl k
event-step-owned n m (Moves move) is k = move-step-owned n m move (chosen-move m move is) k
event-step-owned n m Goes is k = great-owned n m host.Go phase.Live out.Nothing k
event-step-owned n m (EndsLoop w) is k = great-owned n m host.LoopEnd phase.Hooks (out.Ended w) k
event-step-owned n m Abandons is k = record {
  addons = k.addons;
  env = record { frames = k.env.frames; functions = k.env.functions; tickets = k.env.tickets };
  hub = host-owned n m.hub (host_entry host.Abandon (out.Unsigned (waiting_hooks m.env))) host.Abandon refl k.hub;
}
event-step-owned n m Drains is k = great-owned n m host.Drain phase.Drain (out.Unsigned (length m.hub.pool.queued)) k
event-step-owned n m FinalsCome is k = great-owned n m host.Finals phase.Finals out.Nothing k
event-step-owned n m _ is k = record { addons = k.addons; env = record { frames = k.env.frames; functions = k.env.functions; tickets = k.env.tickets }; hub = k.hub }

other-owned : (n : ℕ) (m : Machine) (x : Entry) → is_environment x.actor ≡ false → IsTrue (other_step m x).may → AreOfScript n m → StepOwned n (other_step m x)
other-owned n m x other may k =
    record { addons = k.addons; env = k.env; hub = others-owned n m.hub x other (and-right (has_room m x.what) (hub_step m.hub x).may may) k.hub }

form-owned : (n : ℕ) (m : Machine) (s : Step) → Form m s → IsTrue s.may → AreOfScript n m → StepOwned n s
form-owned n m _ (form.calls f fs stands c o local) may k = call-step-owned n m c o false (some-stand f fs m.env.frames stands) k
form-owned n m _ (form.shares f fs stands c o is told) may k = call-step-owned n m c o true (some-stand f fs m.env.frames stands) k
form-owned n m _ (form.ends f fs stands v cut b ours is) may k = end-step-owned n m v cut b ours k
form-owned n m _ (form.happens alone event next) may k = event-step-owned n m event next k
form-owned n m _ (form.others x other same) may k = other-owned n m x other may k

run-owned : (n : ℕ) (m : Machine) (bs : List Ask) (xs : List Entry) → IsRunBy m bs xs → AreOfScript n m → AreOfScript n (final m bs xs)
run-owned n = along-run (λ m. AreOfScript n m) (λ m a x next k. form-owned n m (step m a x) (form-of m a x next) next.1 k)

pub addons-are-the-scripts : AddonsAreTheScripts
addons-are-the-scripts s bs xs run = run-owned (length s.plans) (opening_of s) bs xs run (record {
  addons = refl;
  env = record { frames = All-nil (Below (length s.plans)); functions = owned-opening (length s.plans); tickets = All-nil (λ r. r.addon < length s.plans) };
  hub = record { works = All-nil (λ w. w.addon < length s.plans); functions = All-nil (λ f. IsFunctionOf (length s.plans) f) };
})
