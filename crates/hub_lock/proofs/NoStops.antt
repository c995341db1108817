-- No answer of the hub has the status of a call that stops.
use Rattle.std.proofs.Common.{◌≡◌, ◌∙◌, ℕ, ◌==◌, Bool, true, false, not, cond, IsTrue, ◌&&◌, refl, ap, Option, Some, None, option_map}
use Rattle.napi_types.specs.declared.call.Call.{Call}
use Rattle.napi_types.specs.declared.call.Call.TheVariants as call
use Rattle.napi_types.specs.declared.entry.Actor.{Actor}
use Rattle.napi_types.specs.declared.entry.Actor.TheVariants as actor
use Rattle.napi_types.specs.declared.entry.Entry.{Entry}
use Rattle.napi_types.specs.declared.entry.Reply.{Reply}
use Rattle.napi_types.specs.declared.status.Status.TheVariants as status
use Rattle.napi_types.specs.plain.Entries.{is_environment}
use Rattle.napi_types.specs.plain.Lists.{singleton, when}
use Rattle.napi_types.specs.plain.Replies.{Answer}
use Rattle.napi_types.specs.parts.Functions.{FunctionState, is_open, is_full_queue, is_blocking, most_threads}
use Rattle.napi_types.specs.hub.Hub.{Hub, new_hub}
use Rattle.napi_types.specs.hub.HubCalls.{tsfn_at, call_answer, called_answer, hub_answer, is_thread_call}
use Rattle.napi_types.specs.hub.HubStep.{answered_step}
use Rattle.napi_types.specs.hub.HubSteps.{IsHubNext, hub_along}
use Rattle.napi_types.specs.hub.ThreadSteps.{is_thread_there, nothing_given}
use Rattle.napi_types.proofs.hub.GrowingHistories.{prefixes-replay}
use Rattle.turn_lock.specs.Passes.{PassState}
use Rattle.shared_hub.specs.declared.naming.Numbers.{Numbers}
use Rattle.shared_hub.specs.SharedTries.{thread_entry}
use Rattle.hub_lock.specs.SeenTurns.{Added}
use Rattle.hub_lock.specs.LockedCalls.{is_stop}

-- where there is an answer, its status is no stop
abbrev pub IfNoStop : Option (Answer Hub) → Type 0
IfNoStop None = Unit {0}
IfNoStop (Some a) = is_stop a.reply.status ≡ false

told-no-stop : (h : Hub) (payload : ℕ) (f : FunctionState) (none closed full blocks env : Bool)
    → IfNoStop (option_map (called_answer h payload f) (cond none (Some status.InvalidArg) (cond closed (Some status.Closing)
    (cond full (cond blocks (when env status.WouldDeadlock) (Some status.QueueFull)) (Some status.Ok)))))
told-no-stop h payload f true closed full blocks env = refl
told-no-stop h payload f false true full blocks env = refl
told-no-stop h payload f false false false blocks env = refl
told-no-stop h payload f false false true false env = refl
told-no-stop h payload f false false true true true = refl
told-no-stop h payload f false false true true false = tt

acquired-no-stop : (closed none many : Bool) → is_stop (cond closed status.Closing (cond none status.InvalidArg (cond many status.GenericFailure status.Ok))) ≡ false
acquired-no-stop true none many = refl
acquired-no-stop false true many = refl
acquired-no-stop false false true = refl
acquired-no-stop false false false = refl

released-no-stop : (none : Bool) → is_stop (cond none status.InvalidArg status.Ok) ≡ false
released-no-stop true = refl
released-no-stop false = refl

answer-no-stop : (h : Hub) (who : Actor) (c : Call) → is_thread_call c ≡ true → IfNoStop (hub_answer h who nothing_given c 0)
answer-no-stop h who (call.CallThreadsafeFunction f payload m) kind = by (tsfn_at h f.0)
  where
    by : (o : Option FunctionState) → IfNoStop (call_answer h who payload m o)
    by None = refl
    by (Some x) = told-no-stop h payload x (x.count == 0) (not (is_open x.state)) (is_full_queue x) (is_blocking m) (is_environment who)
answer-no-stop h who (call.AcquireThreadsafeFunction f) kind = by (tsfn_at h f.0) refl
  where
    by : (o : Option FunctionState) → tsfn_at h f.0 ≡ o → IfNoStop (hub_answer h who nothing_given (call.AcquireThreadsafeFunction f) 0)
    by None is = rw is refl
    by (Some x) is = rw is (acquired-no-stop (not (is_open x.state)) (x.count == 0) (x.count == most_threads))
answer-no-stop h who (call.ReleaseThreadsafeFunction f m) kind = by (tsfn_at h f.0) refl
  where
    by : (o : Option FunctionState) → tsfn_at h f.0 ≡ o → IfNoStop (hub_answer h who nothing_given (call.ReleaseThreadsafeFunction f m) 0)
    by None is = rw is refl
    by (Some x) is = rw is (released-no-stop (x.count == 0))
answer-no-stop h who _ kind = cc

next-no-stop : (h : Hub) (t k : ℕ) (c : Call) (r : Reply) → is_thread_call c ≡ true → IsHubNext h (thread_entry t k c r) → is_stop r.status ≡ false
next-no-stop h t k c r kind next = by (hub_answer h (actor.Thread t) nothing_given c 0) (answer-no-stop h (actor.Thread t) c kind) next.entry next.may
  where
    by : (o : Option (Answer Hub)) → IfNoStop o → thread_entry t k c r ≡ (answered_step h (thread_entry t k c r) (is_thread_there h t && is_thread_call c) o).entry
        → IsTrue (answered_step h (thread_entry t k c r) (is_thread_there h t && is_thread_call c) o).may → is_stop r.status ≡ false
    by None none entry may = cc
    by (Some a) none entry may = ap (λ (x : Entry). is_stop x.reply.status) entry ∙ none

pub added-no-stop : (n : Numbers) (old new : PassState) (t k : ℕ) (c : Call) (r : Reply) → is_thread_call c ≡ true → Added n old new (thread_entry t k c r) → is_stop r.status ≡ false
added-no-stop n old new t k c r kind a =
    let h = hub_along (new_hub n.threads n.workers) a.before in
    let parts = prefixes-replay n.limits.history n.threads n.workers a.before (singleton (thread_entry t k c r)) _
    (record { replays = a.seen.replays; hub = refl }) in
    next-no-stop h t k c r kind parts.replays.0
