-- What it takes to show that entries are no run.
use Rattle.std.proofs.Common.{◌≡◌, ℕ, pos, Bool, false, not, ◌&&◌, List, [], ◌∷◌, IsTrue, refl, ap, Option, Some, None, is_none, subst, slice_index_or}
use Rattle.napi_types.specs.declared.call.Ask.{Ask}
use Rattle.napi_types.specs.declared.call.Call.TheVariants as call
use Rattle.napi_types.specs.declared.entry.Actor.{Actor}
use Rattle.napi_types.specs.declared.entry.Actor.TheVariants as actor
use Rattle.napi_types.specs.declared.entry.Cause.{Cause}
use Rattle.napi_types.specs.declared.entry.Duty.{Duty}
use Rattle.napi_types.specs.declared.entry.Duty.TheVariants as duty
use Rattle.napi_types.specs.declared.entry.Entry.{Entry}
use Rattle.napi_types.specs.declared.entry.Given.{Given}
use Rattle.napi_types.specs.declared.entry.HostStep.TheVariants as host
use Rattle.napi_types.specs.declared.entry.LoopEnd.{LoopEnd}
use Rattle.napi_types.specs.declared.entry.Out.{Out}
use Rattle.napi_types.specs.declared.entry.Out.TheVariants as out
use Rattle.napi_types.specs.declared.entry.Phase.TheVariants as phase
use Rattle.napi_types.specs.declared.entry.Target.{Target}
use Rattle.napi_types.specs.declared.entry.What.{What}
use Rattle.napi_types.specs.declared.entry.What.TheVariants as what
use Rattle.napi_types.specs.declared.status.Kind.{Kind}
use Rattle.napi_types.specs.declared.status.Status.{Status}
use Rattle.napi_types.specs.plain.Entries.{host_entry}
use Rattle.napi_types.specs.plain.Lists.{has_number}
use Rattle.napi_types.specs.parts.Pool.{executed_by}
use Rattle.napi_types.specs.scripts.Plans.{loaded_registers}
use Rattle.napi_types.specs.hub.Hub.{Hub, Final, threads_left, workers_left}
use Rattle.napi_types.specs.hub.HubCalls.{hub_answer, is_thread_call}
use Rattle.napi_types.specs.hub.ThreadSteps.{is_gone_on, is_thread_there, is_thread_end, nothing_given, thread_step}
use Rattle.napi_types.specs.hub.WorkerSteps.{is_worker_there, start_step, work_end_step, worker_step}
use Rattle.napi_types.specs.hub.HubSteps.{hub_step, hub_step_of}
use Rattle.napi_types.specs.runs.Machine.{Machine}
use Rattle.napi_types.specs.runs.Run.{IsNext, IsRunBy}
use Rattle.napi_types.specs.runs.Setting.{Setting, opening_of}
use Rattle.napi_types.specs.runs.Step.{step_of, has_room}
use Rattle.napi_types.proofs.plain.Conditions.{and-left, and-right}
use Rattle.napi_types.proofs.hub.HubKeeps.{answered-may}
use Rattle.machine_laws.specs.Computing.{ComputesBy, steps, entries_of_steps, all_may, is_paired}
use Rattle.machine_laws.specs.LegalRuns.{IsRun, all_told, told_asks}
use Rattle.machine_laws.proofs.AskLists.{asks-unique, told-run}
use Rattle.machine_laws.proofs.Computing.{computes-of}

-- the entry at a place
abbrev pub entry_in_place : ℕ → List Entry → Entry
entry_in_place n xs = slice_index_or xs n (host_entry host.Gone out.Nothing)

-- what a result tells, or else what is given
abbrev pub told_number : ℕ → Out → ℕ
told_number d (out.Unsigned n) = n
told_number d _ = d

abbrev pub told_signed : ℕ → Out → ℕ
told_signed d (out.Signed (pos n)) = n
told_signed d _ = d

abbrev pub told_handle : ℕ → Out → ℕ
told_handle d (out.Handle h) = h.0
told_handle d _ = d

-- the handle of a promise
abbrev pub told_promise : ℕ → Out → ℕ
told_promise d (out.Promise deferred h) = h.0
told_promise d _ = d

abbrev pub told_flag : Bool → Out → Bool
told_flag d (out.Flag b) = b
told_flag d _ = d

abbrev pub told_kind : Kind → Out → Kind
told_kind d (out.Kind k) = k
told_kind d _ = d

abbrev pub told_text : ℕ → Out → ℕ
told_text d (out.Text t) = t.0
told_text d _ = d

abbrev pub told_reason : LoopEnd → Out → LoopEnd
told_reason d (out.Ended e) = e
told_reason d _ = d

-- the ticket whose frame begins
abbrev begun_ticket : ℕ → Option Duty → ℕ
begun_ticket d (Some (duty.Ticket n)) = n.0
begun_ticket d _ = d

abbrev pub ticket_told : ℕ → Out → ℕ
ticket_told d (out.Begin cause addon entry due) = begun_ticket d due
ticket_told d _ = d

-- the item whose frame begins, ..
abbrev item_of : ℕ → Option Duty → ℕ
item_of d (Some (duty.Item function n)) = n
item_of d _ = d

abbrev pub told_item : ℕ → Out → ℕ
told_item d (out.Begin cause addon entry due) = item_of d due
told_item d _ = d

-- .. the function whose item it is, ..
abbrev item_function : ℕ → Option Duty → ℕ
item_function d (Some (duty.Item function n)) = function.0
item_function d _ = d

abbrev pub told_function : ℕ → Out → ℕ
told_function d (out.Begin cause addon entry due) = item_function d due
told_function d _ = d

-- .. and why the frame begins
abbrev pub told_cause : Cause → Out → Cause
told_cause d (out.Begin cause addon entry due) = cause
told_cause d _ = d

-- the work that starts
abbrev started_work : ℕ → Duty → ℕ
started_work d (duty.Work n) = n
started_work d _ = d

abbrev pub told_work : ℕ → Out → ℕ
told_work d (out.Duty due) = started_work d due
told_work d _ = d

-- the work whose completion begins
abbrev completed_of : ℕ → Option Duty → ℕ
completed_of d (Some (duty.Work n)) = n
completed_of d _ = d

abbrev pub told_completed : ℕ → Out → ℕ
told_completed d (out.Begin cause addon entry due) = completed_of d due
told_completed d _ = d

-- the deferred that a call settles
abbrev pub settled_deferred : ℕ → What → ℕ
settled_deferred d (what.Call (call.ResolveDeferred deferred h)) = deferred.0
settled_deferred d (what.Call (call.RejectDeferred deferred h)) = deferred.0
settled_deferred d _ = d

-- the target that the environment handed to the hub
abbrev target_or : Target → Option Target → Target
target_or d (Some t) = t
target_or d None = d

abbrev pub given_target : Target → Option Given → Target
given_target d (Some g) = target_or d g.target
given_target d None = d

-- the environment's own refusal that it handed over
abbrev pub given_refused : Option Given → Option Status
given_refused (Some g) = g.refused
given_refused None = None

-- a run of a script whose plans are all told is one at its told asks
pub told-steps : (s : Setting) (xs : List Entry) → IsTrue (all_told s) → IsRun s xs → IsRunBy (opening_of s) (told_asks s xs) xs
told-steps s xs h r =
    let same : r.0 ≡ told_asks s xs = asks-unique s.plans (loaded_registers s.plans) (opening_of s) r.0 xs h r.1.steps r.1.asked in
    let P : List Ask → Type 0 = λ bs. IsRunBy (opening_of s) bs xs in
    subst P same r.1.steps

-- each of its entries is the one that its step gives, ..
pub told-entry : (s : Setting) (xs : List Entry) (n : ℕ) → IsTrue (all_told s) → IsRun s xs
    → entry_in_place n xs ≡ entry_in_place n (entries_of_steps (steps (opening_of s) (told_asks s xs) xs))
told-entry s xs n h r = ap (entry_in_place n) (told-run s xs h r)

-- .. and may stand
pub told-may : (s : Setting) (xs : List Entry) → IsTrue (all_told s) → IsRun s xs → IsTrue (all_may (steps (opening_of s) (told_asks s xs) xs))
told-may s xs h r =
    let c : ComputesBy (opening_of s) (told_asks s xs) xs = computes-of (opening_of s) (told_asks s xs) xs (told-steps s xs h r) in
    and-right (is_paired (told_asks s xs) xs) (all_may (steps (opening_of s) (told_asks s xs) xs)) c.1

-- THE END
-- where every thread and every worker has ended, nothing of theirs may come
none-left : (n : ℕ) (ns : List ℕ) → ns ≡ [] → IsTrue (has_number n ns) → ⊥
none-left n [] none t = cc
none-left n (m ∷ ms) none t = cc

thread-left : (h : Hub) (n : ℕ) (x : Entry) (w : What) → IsTrue (thread_step h n x w).may → IsTrue (has_number n (threads_left h))
thread-left h n x (what.Call c) t =
    let may : IsTrue (is_thread_there h n && is_thread_call c) =
    answered-may h (record x { depth = 0; given = None }) (is_thread_there h n && is_thread_call c) (hub_answer h (actor.Thread n) nothing_given c 0) t in
    and-right (is_gone_on h.stage) (has_number n (threads_left h)) (and-left (is_thread_there h n) (is_thread_call c) may)
thread-left h n x (what.Host host.ActorEnd) t =
    and-right (is_gone_on h.stage) (has_number n (threads_left h)) (and-left (is_thread_there h n) (is_thread_end x.reply.out) t)
thread-left h n x (what.Host _) t = cc

start-left : (h : Hub) (n : ℕ) (x : Entry) (queued : List ℕ) → IsTrue (start_step h n x queued).may → IsTrue (has_number n (workers_left h))
start-left h n x [] t = cc
start-left h n x (q ∷ qs) t =
    and-left (is_worker_there h n) (not h.pool.closing) (and-left (is_worker_there h n && not h.pool.closing) (is_none (executed_by h.pool n)) t)

finish-left : (h : Hub) (n : ℕ) (x : Entry) (o : Option ℕ) → IsTrue (work_end_step h n x o).may → IsTrue (has_number n (workers_left h))
finish-left h n x None t = cc
finish-left h n x (Some q) t = t

worker-left : (h : Hub) (n : ℕ) (x : Entry) (w : What) → IsTrue (worker_step h n x w).may → IsTrue (has_number n (workers_left h))
worker-left h n x (what.Call c) t = cc
worker-left h n x (what.Host host.Start) t = start-left h n x h.pool.queued t
worker-left h n x (what.Host host.Finish) t = finish-left h n x (executed_by h.pool n) t
worker-left h n x (what.Host host.ActorEnd) t =
    and-left (is_worker_there h n) h.pool.closing (and-left (is_worker_there h n && h.pool.closing) (is_none (executed_by h.pool n)) t)
worker-left h n x (what.Host _) t = cc

-- the environment is gone, the hub has made its events, no frame stands, and every thread and every worker has ended
pub record IsOver (m : Machine) : Type 0 where
  pub phase : m.env.phase ≡ phase.Gone
  pub stage : m.hub.stage ≡ Final
  pub frames : m.env.frames ≡ []
  pub threads : threads_left m.hub ≡ []
  pub workers : workers_left m.hub ≡ []

-- then nothing may come
over-step : (m : Machine) (a : Ask) (x : Entry) (who : Actor) → IsOver m → x.actor ≡ who → IsTrue (step_of m a x who).may → ⊥
over-step m a x actor.Env over is h = let k : IsTrue false = rw (over.frames, over.phase, over.stage) at h in cc
over-step m a x (actor.Thread n) over is h =
    let may : IsTrue (hub_step m.hub x).may = and-right (has_room m x.what) (hub_step m.hub x).may h in
    let t : IsTrue (hub_step_of m.hub x (actor.Thread n)).may = subst (λ (who : Actor). IsTrue (hub_step_of m.hub x who).may) is may in
    none-left n (threads_left m.hub) over.threads (thread-left m.hub n x x.what t)
over-step m a x (actor.Worker n) over is h =
    let may : IsTrue (hub_step m.hub x).may = and-right (has_room m x.what) (hub_step m.hub x).may h in
    let t : IsTrue (hub_step_of m.hub x (actor.Worker n)).may = subst (λ (who : Actor). IsTrue (hub_step_of m.hub x who).may) is may in
    none-left n (workers_left m.hub) over.workers (worker-left m.hub n x x.what t)

pub gone-is-last : (m : Machine) (a : Ask) (x : Entry) → IsOver m → IsNext m a x → ⊥
gone-is-last m a x over next = over-step m a x x.actor over refl next.1
