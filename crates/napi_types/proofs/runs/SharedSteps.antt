-- What the entries of the history keep of the environment and of how far the hub is, and what they tell.
use Rattle.std.proofs.Common.{◌≡◌, ℕ, Bool, true, false, IsTrue, refl, ap, ◌∙◌, Option, Some, None}
use Rattle.napi_types.specs.declared.call.Call.{Call}
use Rattle.napi_types.specs.declared.call.Call.TheVariants as call
use Rattle.napi_types.specs.declared.duties.DueInfo.{DueInfo}
use Rattle.napi_types.specs.declared.entry.Actor.{Actor}
use Rattle.napi_types.specs.declared.entry.Actor.TheVariants as actor
use Rattle.napi_types.specs.declared.entry.Entry.{Entry}
use Rattle.napi_types.specs.declared.entry.HostStep.{HostStep}
use Rattle.napi_types.specs.declared.entry.HostStep.TheVariants as host
use Rattle.napi_types.specs.declared.entry.Out.{Out}
use Rattle.napi_types.specs.declared.entry.Out.TheVariants as out
use Rattle.napi_types.specs.declared.entry.Reply.{Reply}
use Rattle.napi_types.specs.declared.entry.What.{What}
use Rattle.napi_types.specs.declared.entry.What.TheVariants as what
use Rattle.napi_types.specs.plain.Entries.{host_entry, is_environment, is_begin, is_finals}
use Rattle.napi_types.specs.environment.Changes.{with_noted_status}
use Rattle.napi_types.specs.environment.Environment.{Environment}
use Rattle.napi_types.specs.environment.Registry.{registry_of}
use Rattle.napi_types.specs.environment.SharedCalls.{shared_entry, with_root, after_shared}
use Rattle.napi_types.specs.hub.Hub.{Hub}
use Rattle.napi_types.specs.hub.HubCalls.{is_thread_call}
use Rattle.napi_types.specs.hub.HubMoves.{HubMove, Delivers, Closes, Finishes, hub_move}
use Rattle.napi_types.specs.hub.HubStep.{HubStep}
use Rattle.napi_types.specs.hub.HubEvents.{begin_step, close_step, finish_step, frame_end_step, delivery_entry}
use Rattle.napi_types.specs.hub.ThreadSteps.{thread_step, thread_event}
use Rattle.napi_types.specs.hub.WorkerSteps.{worker_step, worker_event}
use Rattle.napi_types.specs.hub.HubSteps.{hub_step, hub_step_of, environment_step}
use Rattle.napi_types.specs.runs.Machine.{Machine}
use Rattle.napi_types.specs.runs.Step.{answered_by, move_step, other_step}
use Rattle.napi_types.proofs.hub.HubKeeps.{given-keeps, other-keeps, thread-calls}
use Rattle.napi_types.proofs.hub.HubHolds.{duty-stage}

-- THE ENVIRONMENT AFTER A SHARED CALL
-- a new thread-safe function may keep a value alive, and nothing else changes with it
pub with_root-alone : (c : Call) (o : Out) (e : Environment) → with_root c o e ≡ record e { tsfn_roots = (with_root c o e).tsfn_roots }
with_root-alone (call.CreateThreadsafeFunction (Some f) entry maximum count finalizer context) (out.Function n) e = refl
with_root-alone _ _ e = refl

-- besides, the status is noted and the ask is counted
pub after_shared-alone : (c : Call) (r : Reply) (e : Environment)
    → after_shared c r e ≡ record (with_noted_status c r.status e) { tsfn_roots = (with_root c r.out e).tsfn_roots }
after_shared-alone c r e = ap (with_noted_status c r.status) (with_root-alone c r.out e)

-- THE STAGE OF THE HUB
-- the end of a frame is that of the hub's duty
pub hub_step-end : (h : Hub) (x : Entry) → x.actor ≡ actor.Env → x.what ≡ what.Host host.End → hub_step h x ≡ frame_end_step h x h.standing
hub_step-end h x who is = ap (hub_step_of h x) who ∙ ap (environment_step h x) is

frame_end-stage : (h : Hub) (x : Entry) (d : Option DueInfo) → (frame_end_step h x d).after.stage ≡ h.stage
frame_end-stage h x None = refl
frame_end-stage h x (Some d) = refl

pub end-stage : (h : Hub) (x : Entry) → x.actor ≡ actor.Env → x.what ≡ what.Host host.End → (hub_step h x).after.stage ≡ h.stage
end-stage h x who is = ap (λ (s : HubStep). s.after.stage) (hub_step-end h x who is) ∙ frame_end-stage h x h.standing

-- a move leaves it
begin-stage : (h : Hub) (x : Entry) (o : Option HubMove) → (begin_step h x o).after.stage ≡ h.stage
begin-stage h x (Some (Delivers d)) = duty-stage d.duty h
begin-stage h x _ = refl

close-stage : (h : Hub) (x : Entry) (o : Option HubMove) → (close_step h x o).after.stage ≡ h.stage
close-stage h x (Some (Delivers d)) = refl
close-stage h x _ = refl

finish-stage : (h : Hub) (x : Entry) (o : Option HubMove) → (finish_step h x o).after.stage ≡ h.stage
finish-stage h x (Some (Delivers d)) = refl
finish-stage h x _ = refl

-- WHAT STANDS STILL
-- the hub's stage and the phase stay, and so does what is registered and what it hangs on
pub record StandsStill (m n : Machine) : Type 0 where
  pub stage : n.hub.stage ≡ m.hub.stage
  pub phase : n.env.phase ≡ m.env.phase
  pub registry : registry_of n.env ≡ registry_of m.env

pub shares-still : (m : Machine) (c : Call) (o : Out) → StandsStill m (answered_by m c (hub_step m.hub (shared_entry m.env c o))).after
shares-still m c o =
    let x : Entry = shared_entry m.env c o in
    let r : Reply = (hub_step m.hub x).entry.reply in
    record {
      stage = (given-keeps m.hub x c x.given).stage;
      phase = ap (λ (e : Environment). e.phase) (after_shared-alone c r m.env);
      registry = ap registry_of (after_shared-alone c r m.env);
    }

pub moves-still : (m : Machine) (move : HubMove) → StandsStill m (move_step m move).after
moves-still m (Delivers d) = record { stage = begin-stage m.hub (delivery_entry d) (hub_move m.hub); phase = refl; registry = refl }
moves-still m (Closes n) =
    record { stage = close-stage m.hub (host_entry host.CloseTsfn (out.Function (record { 0 = n }))) (hub_move m.hub); phase = refl; registry = refl }
moves-still m (Finishes n) =
    record { stage = finish-stage m.hub (host_entry host.FinishTsfn (out.Function (record { 0 = n }))) (hub_move m.hub); phase = refl; registry = refl }

pub others-still : (m : Machine) (x : Entry) → is_environment x.actor ≡ false → StandsStill m (other_step m x).after
others-still m x other = record { stage = (other-keeps m.hub x other).stage; phase = refl; registry = refl }

-- WHAT OTHERS TELL
-- what a thread or a worker does: a thread calls, acquires and releases thread-safe functions, a worker starts and finishes a work, and each ends
abbrev pub is_of_others : What → Bool
is_of_others (what.Call c) = is_thread_call c
is_of_others (what.Host host.Start) = true
is_of_others (what.Host host.Finish) = true
is_of_others (what.Host host.ActorEnd) = true
is_of_others _ = false

thread_event-told : (h : Hub) (t : ℕ) (x : Entry) (event : HostStep) → IsTrue (thread_event h t x event).may → is_of_others (what.Host event) ≡ true
thread_event-told h t x host.ActorEnd may = refl
thread_event-told h t x _ may = cc

thread-told : (h : Hub) (t : ℕ) (x : Entry) (w : What) → IsTrue (thread_step h t x w).may → is_of_others w ≡ true
thread-told h t x (what.Call c) may = thread-calls h t x (what.Call c) c refl may
thread-told h t x (what.Host event) may = thread_event-told h t x event may

worker_event-told : (h : Hub) (w : ℕ) (x : Entry) (event : HostStep) → IsTrue (worker_event h w x event).may → is_of_others (what.Host event) ≡ true
worker_event-told h w x host.Start may = refl
worker_event-told h w x host.Finish may = refl
worker_event-told h w x host.ActorEnd may = refl
worker_event-told h w x _ may = cc

worker-told : (h : Hub) (w : ℕ) (x : Entry) (it : What) → IsTrue (worker_step h w x it).may → is_of_others it ≡ true
worker-told h w x (what.Call c) may = cc
worker-told h w x (what.Host event) may = worker_event-told h w x event may

pub others-told : (h : Hub) (x : Entry) → is_environment x.actor ≡ false → IsTrue (hub_step h x).may → is_of_others x.what ≡ true
others-told h x = by x.actor
  where
    by : (who : Actor) → is_environment who ≡ false → IsTrue (hub_step_of h x who).may → is_of_others x.what ≡ true
    by actor.Env other may = cc
    by (actor.Thread t) other may = thread-told h t x x.what may
    by (actor.Worker w) other may = worker-told h w x x.what may

-- so no frame begins there, and it is not `finals`
pub record IsNoEvent (w : What) : Type 0 where
  pub begins : is_begin w ≡ false
  pub finals : is_finals w ≡ false

pub others-none : (w : What) → is_of_others w ≡ true → IsNoEvent w
others-none (what.Call c) others = record { begins = refl; finals = refl }
others-none (what.Host host.Begin) others = cc
others-none (what.Host host.Finals) others = cc
others-none (what.Host _) others = record { begins = refl; finals = refl }
