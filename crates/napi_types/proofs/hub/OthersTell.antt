-- No entry of a thread or a worker tells that a frame begins.
use Rattle.std.proofs.Common.{◌≡◌, ℕ, Bool, true, false, ◌&&◌, List, [], ◌∷◌, IsTrue, refl, Option, Some, None, option_map}
use Rattle.napi_types.specs.declared.call.Call.{Call}
use Rattle.napi_types.specs.declared.call.Call.TheVariants as call
use Rattle.napi_types.specs.declared.call.Mode.{Mode}
use Rattle.napi_types.specs.declared.call.Release.{Release}
use Rattle.napi_types.specs.declared.entry.Actor.{Actor}
use Rattle.napi_types.specs.declared.entry.Actor.TheVariants as actor
use Rattle.napi_types.specs.declared.entry.Entry.{Entry}
use Rattle.napi_types.specs.declared.entry.HostStep.TheVariants as host
use Rattle.napi_types.specs.declared.entry.Out.{Out}
use Rattle.napi_types.specs.declared.entry.Out.TheVariants as out
use Rattle.napi_types.specs.declared.entry.What.{What}
use Rattle.napi_types.specs.declared.entry.What.TheVariants as what
use Rattle.napi_types.specs.declared.status.Status.{Status}
use Rattle.napi_types.specs.plain.Entries.{is_environment}
use Rattle.napi_types.specs.parts.Functions.{FunctionState, call_status, acquire_status, acquired, release_status, released}
use Rattle.napi_types.specs.parts.Pool.{executed_by}
use Rattle.napi_types.specs.hub.Hub.{Hub}
use Rattle.napi_types.specs.hub.HubCalls.{called_answer, call_answer, answered, on_function, tsfn_at, is_thread_call}
use Rattle.napi_types.specs.hub.HubStep.{answered_step}
use Rattle.napi_types.specs.hub.HubSteps.{hub_step_of}
use Rattle.napi_types.specs.hub.ThreadSteps.{thread_step, thread_call_step, is_thread_there, is_thread_end}
use Rattle.napi_types.specs.hub.WorkerSteps.{worker_step, start_step, work_end_step}
use Rattle.napi_types.proofs.plain.Conditions.{and-right}
use Rattle.napi_types.proofs.hub.HubKeeps.{thread-calls}

-- the result tells that a frame begins
abbrev pub tells_begin : Out → Bool
tells_begin (out.Begin cause addon entry d) = true
tells_begin _ = false

-- CALLS
mapped-out : (h : Hub) (payload : ℕ) (f : FunctionState) (x : Entry) (may : Bool) (o : Option Status) → IsTrue (answered_step h x may (option_map (called_answer h payload f) o)).may
    → tells_begin (answered_step h x may (option_map (called_answer h payload f) o)).entry.reply.out ≡ false
mapped-out h payload f x may None t = cc
mapped-out h payload f x may (Some s) t = refl

call-out : (h : Hub) (who : Actor) (payload : ℕ) (m : Mode) (o : Option FunctionState) (x : Entry) (may : Bool) → IsTrue (answered_step h x may (call_answer h who payload m o)).may
    → tells_begin (answered_step h x may (call_answer h who payload m o)).entry.reply.out ≡ false
call-out h who payload m None x may t = refl
call-out h who payload m (Some f) x may t = mapped-out h payload f x may (call_status who m f) t

acquire-out : (h : Hub) (x : Entry) (may : Bool) (o : Option FunctionState)
    → tells_begin (answered_step h x may (Some (on_function h (λ f. answered (acquire_status f) (acquired (acquire_status f)) h f) o))).entry.reply.out ≡ false
acquire-out h x may None = refl
acquire-out h x may (Some f) = refl

release-out : (h : Hub) (x : Entry) (may : Bool) (m : Release) (o : Option FunctionState)
    → tells_begin (answered_step h x may (Some (on_function h (λ f. answered (release_status f) (released (release_status f) m) h f) o))).entry.reply.out ≡ false
release-out h x may m None = refl
release-out h x may m (Some f) = refl

thread-call-out : (h : Hub) (t : ℕ) (x : Entry) (c : Call) → is_thread_call c ≡ true → IsTrue (thread_call_step h t x c).may → tells_begin (thread_call_step h t x c).entry.reply.out ≡ false
thread-call-out h t x (call.CallThreadsafeFunction f payload m) is may =
    call-out h (actor.Thread t) payload m (tsfn_at h f.0) (record x { depth = 0; given = None }) (is_thread_there h t && true) may
thread-call-out h t x (call.AcquireThreadsafeFunction f) is may =
    acquire-out h (record x { depth = 0; given = None }) (is_thread_there h t && true) (tsfn_at h f.0)
thread-call-out h t x (call.ReleaseThreadsafeFunction f m) is may =
    release-out h (record x { depth = 0; given = None }) (is_thread_there h t && true) m (tsfn_at h f.0)
thread-call-out h t x _ is may = cc

-- EVENTS
end-out : (o : Out) → IsTrue (is_thread_end o) → tells_begin o ≡ false
end-out (out.Begin cause addon entry d) is = cc
end-out _ is = refl

thread-out : (h : Hub) (t : ℕ) (x : Entry) (w : What) → x.what ≡ w → IsTrue (thread_step h t x w).may → tells_begin (thread_step h t x w).entry.reply.out ≡ false
thread-out h t x (what.Call c) is may = thread-call-out h t x c (thread-calls h t x (what.Call c) c refl may) may
thread-out h t x (what.Host host.ActorEnd) is may = end-out x.reply.out (and-right (is_thread_there h t) (is_thread_end x.reply.out) may)
thread-out h t x (what.Host _) is may = cc

start-out : (h : Hub) (w : ℕ) (x : Entry) (queued : List ℕ) → IsTrue (start_step h w x queued).may → tells_begin (start_step h w x queued).entry.reply.out ≡ false
start-out h w x [] may = cc
start-out h w x (n ∷ later) may = refl

finish-out : (h : Hub) (w : ℕ) (x : Entry) (o : Option ℕ) → IsTrue (work_end_step h w x o).may → tells_begin (work_end_step h w x o).entry.reply.out ≡ false
finish-out h w x None may = cc
finish-out h w x (Some n) may = refl

worker-out : (h : Hub) (w : ℕ) (x : Entry) (it : What) → IsTrue (worker_step h w x it).may → tells_begin (worker_step h w x it).entry.reply.out ≡ false
worker-out h w x (what.Call c) may = cc
worker-out h w x (what.Host host.Start) may = start-out h w x h.pool.queued may
worker-out h w x (what.Host host.Finish) may = finish-out h w x (executed_by h.pool w) may
worker-out h w x (what.Host host.ActorEnd) may = refl
worker-out h w x (what.Host _) may = cc

-- the entry that must stand tells no begin
pub other-out : (h : Hub) (x : Entry) (who : Actor) → is_environment who ≡ false → IsTrue (hub_step_of h x who).may → tells_begin (hub_step_of h x who).entry.reply.out ≡ false
other-out h x actor.Env other may = cc
other-out h x (actor.Thread t) other may = thread-out h t x x.what refl may
other-out h x (actor.Worker w) other may = worker-out h w x x.what may
