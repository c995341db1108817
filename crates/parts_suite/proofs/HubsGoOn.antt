-- What hubs keep as they go on, of what the tests need to go on themselves: how far they are, and what of threads and workers.
use Rattle.std.proofs.Common.{◌≡◌, ◌∙◌, ℕ, Bool, true, false, not, ◌&&◌, ◌||◌, IsTrue, length, ap, refl, subst, sym, Option, Some, None, option_map, Result, Ok, Err, IfOk, OnErr}
use Rattle.std.specs.Option.{unwrap_or}
use Rattle.napi_types.specs.declared.call.Call.{Call}
use Rattle.napi_types.specs.declared.entry.Duty.{Duty}
use Rattle.napi_types.specs.declared.entry.Duty.TheVariants as duty
use Rattle.napi_types.specs.declared.entry.Entry.{Entry}
use Rattle.napi_types.specs.declared.entry.HostStep.TheVariants as host
use Rattle.napi_types.specs.declared.entry.LoopEnd.{LoopEnd}
use Rattle.napi_types.specs.declared.entry.Out.{Out}
use Rattle.napi_types.specs.declared.entry.Out.TheVariants as out
use Rattle.napi_types.specs.declared.entry.Reply.{Reply}
use Rattle.napi_types.specs.declared.entry.SharedCall.{SharedCall}
use Rattle.napi_types.specs.declared.status.Status.{Status}
use Rattle.napi_types.specs.environment.SharedCalls.{handed_entry}
use Rattle.napi_types.specs.plain.Entries.{host_entry}
use Rattle.napi_types.specs.plain.Lists.{found, has_number}
use Rattle.napi_types.specs.parts.Pool.{executed_by, number_of_work, cancelled_at}
use Rattle.napi_types.specs.parts.Works.{Execution}
use Rattle.napi_types.specs.hub.HistoryLaws.{KeepsStanding}
use Rattle.napi_types.specs.hub.Hub.{Hub, Before, Live, LoopEnded, Drained, stage_after, left_of}
use Rattle.napi_types.specs.hub.HubMoves.{without_duty}
use Rattle.napi_types.specs.hub.ThreadSteps.{is_thread_there, is_gone_on}
use Rattle.napi_types.specs.hub.WorkerSteps.{is_worker_there}
use Rattle.napi_types.proofs.hub.HubCases.{HubCase, hub-case, asks, creates_work, deletes_work, cancels_work, queues_work, creates_function, alters, goes, ends_loop, abandons, drains, comes_to_finals, delivers, closes, finishes, ends, thread_ends, worker_ends, starts, finishes_work}
use Rattle.napi_types.proofs.hub.WorkerTurns.{is_event_of_others}
use Rattle.shared_hub.specs.HubStates.{HubSeen, AddsEntry}
use Rattle.shared_hub.specs.SharedTries.{thread_entry}
use Rattle.parts_suite.specs.KeptActors.{KeepsActors, IsWorkerFree}

-- a call comes at a right moment where it registers nothing after the loop, or is refused so
pub timely : (looped registers failure : Bool) → (looped ≡ true → registers ≡ true → failure ≡ true) → IsTrue (not (looped && registers) || failure)
timely true true failure late = late refl refl
timely true false failure late = refl
timely false registers failure late = refl

-- GREAT EVENTS
pub gone-on : {old new : HubSeen} → AddsEntry old (host_entry host.Go out.Nothing) new → old.hub.stage ≡ Before → new.hub.stage ≡ Live
gone-on a first = ap (λ (h : Hub). h.stage) a.hub ∙ ap (λ s. unwrap_or (stage_after s host.Go) s) first

pub looped-on : {old new : HubSeen} (why : LoopEnd) → AddsEntry old (host_entry host.LoopEnd (out.Ended why)) new → old.hub.stage ≡ Live
    → new.hub.stage ≡ LoopEnded
looped-on why a going = ap (λ (h : Hub). h.stage) a.hub ∙ ap (λ s. unwrap_or (stage_after s host.LoopEnd) s) going

pub drained-on : {old new : HubSeen} → AddsEntry old (host_entry host.Drain (out.Unsigned (length old.hub.pool.queued))) new → old.hub.stage ≡ LoopEnded
    → new.hub.stage ≡ Drained
drained-on a looped = ap (λ (h : Hub). h.stage) a.hub ∙ ap (λ s. unwrap_or (stage_after s host.Drain) s) looped

-- THREADS AND WORKERS
kept : {h k : Hub} → k.threads ≡ h.threads → k.workers ≡ h.workers → k.ended_threads ≡ h.ended_threads → k.ended_workers ≡ h.ended_workers
    → k.pool.executions ≡ h.pool.executions → KeepsActors h k
kept threads workers ended_threads ended_workers executions = record {
  threads = threads;
  workers = workers;
  ended_threads = ended_threads;
  ended_workers = ended_workers;
  executions = executions;
}

-- only their own events change what is kept of threads and workers
duty-keeps : (h : Hub) (d : Duty) → KeepsActors h (without_duty d h)
duty-keeps h (duty.Work n) = kept refl refl refl refl refl
duty-keeps h (duty.Item f n) = kept refl refl refl refl refl
duty-keeps h (duty.Function f) = kept refl refl refl refl refl
duty-keeps h (duty.Ticket t) = kept refl refl refl refl refl

case-keeps : (h : Hub) (x : Entry) (told : Out) (k : Hub) → HubCase h x told k → is_event_of_others x.what ≡ false → KeepsActors h k
case-keeps h x told _ (asks c is shared) other = kept refl refl refl refl refl
case-keeps h x told _ (creates_work job entry payload addon is fresh tells) other = kept refl refl refl refl refl
case-keeps h x told _ (deletes_work w is none) other = kept refl refl refl refl refl
case-keeps h x told _ (cancels_work w is none) other = by (number_of_work h.pool w.0)
  where
    by : (o : Option ℕ) → KeepsActors h (record h { pool = cancelled_at o h.pool })
    by None = kept refl refl refl refl refl
    by (Some n) = kept refl refl refl refl refl
case-keeps h x told _ (queues_work w is none early) other = kept refl refl refl refl refl
case-keeps h x told _ (creates_function f entry maximum count finalizer context addon target is early) other = kept refl refl refl refl refl
case-keeps h x told _ (alters c n f change is there a) other = kept refl refl refl refl refl
case-keeps h x told _ (goes is may) other = kept refl refl refl refl refl
case-keeps h x told _ (ends_loop is may) other = kept refl refl refl refl refl
case-keeps h x told _ (abandons is may still) other = kept refl refl refl refl refl
case-keeps h x told _ (drains is may) other = kept refl refl refl refl refl
case-keeps h x told _ (comes_to_finals is may) other = kept refl refl refl refl refl
case-keeps h x told _ (delivers d is move alone) other = let k = duty-keeps h d.duty in kept k.threads k.workers k.ended_threads k.ended_workers k.executions
case-keeps h x told _ (closes n is move) other = kept refl refl refl refl refl
case-keeps h x told _ (finishes n is move) other = kept refl refl refl refl refl
case-keeps h x told _ (ends d is stands) other = kept refl refl refl refl refl
case-keeps h x told _ (thread_ends t is there) other = let no = sym (ap is_event_of_others is) ∙ other in cc
case-keeps h x told _ (worker_ends w is there) other = let no = sym (ap is_event_of_others is) ∙ other in cc
case-keeps h x told _ (starts w n later is queued free) other = let no = sym (ap is_event_of_others is) ∙ other in cc
case-keeps h x told _ (finishes_work w n is runs) other = let no = sym (ap is_event_of_others is) ∙ other in cc

pub actors-stay : (old new : HubSeen) (x : Entry) → AddsEntry old x new → is_event_of_others x.what ≡ false → KeepsActors old.hub new.hub
actors-stay old new x a other = subst (KeepsActors old.hub) (sym a.hub) (case-keeps old.hub x _ _ (hub-case old.hub x a.next.may) other)

pub call-stays : (old new : HubSeen) (o : Result Reply Status) (s : SharedCall) → IfOk o (λ r. AddsEntry old (handed_entry s r) new) → OnErr o (new ≡ old)
    → KeepsActors old.hub new.hub
call-stays old new (Ok r) s adds same = actors-stay old new (handed_entry s r) adds refl
call-stays old new (Err e) s adds same = subst (λ (y : HubSeen). KeepsActors old.hub y.hub) (sym same) (kept refl refl refl refl refl)

-- so a thread is still there after a call of one
still-there : (old new : Hub) (t : ℕ) → KeepsStanding old new → KeepsActors old new → is_thread_there old t ≡ true → is_thread_there new t ≡ true
still-there old new t k a there =
    ap (λ s. is_gone_on s && has_number t (left_of new.threads new.ended_threads)) k.stage ∙ ap (λ n. is_gone_on old.stage && has_number t (left_of n new.ended_threads)) a.threads
    ∙ ap (λ e. is_gone_on old.stage && has_number t (left_of old.threads e)) a.ended_threads ∙ there

pub calls-on : (old new : HubSeen) (t n : ℕ) (c : Call) (r : Reply) → AddsEntry old (thread_entry t n c r) new → KeepsStanding old.hub new.hub → is_thread_there old.hub t ≡ true
    → is_thread_there new.hub t ≡ true
calls-on old new t n c r a k there = still-there old.hub new.hub t k (actors-stay old new (thread_entry t n c r) a refl) there

-- A WORKER
module _ (h : Hub) (f : IsWorkerFree h) where
  pub worker-there : is_worker_there h 0 ≡ true
  worker-there = ap (λ n. has_number 0 (left_of n h.ended_workers)) f.one ∙ ap (λ e. has_number 0 (left_of 1 e)) f.there

  pub worker-free : executed_by h.pool 0 ≡ None
  worker-free = ap (λ e. option_map (λ (x : Execution). x.work) (found (λ (x : Execution). x.worker) 0 e)) f.free
