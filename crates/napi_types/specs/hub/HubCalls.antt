-- What the hub answers to the calls on works and on thread-safe functions, whoever makes them.
use Rattle.std.specs.Prelude.{ℕ, ◌+◌, Bool, true, false, ◌++◌, length, Option, Some, None, option_map}
use Rattle.std.specs.Option.{unwrap_or}
use Rattle.napi_types.specs.declared.call.Call.{Call}
use Rattle.napi_types.specs.declared.call.Call.TheVariants as call
use Rattle.napi_types.specs.declared.call.Mode.{Mode}
use Rattle.napi_types.specs.declared.entry.Actor.{Actor}
use Rattle.napi_types.specs.declared.entry.Duty.{Duty}
use Rattle.napi_types.specs.declared.entry.Duty.TheVariants as duty
use Rattle.napi_types.specs.declared.entry.Given.{Given}
use Rattle.napi_types.specs.declared.entry.Out.TheVariants as out
use Rattle.napi_types.specs.declared.entry.Target.{Target}
use Rattle.napi_types.specs.declared.status.Status.{Status}
use Rattle.napi_types.specs.declared.status.Status.TheVariants as status
use Rattle.napi_types.specs.plain.Lists.{found, singleton}
use Rattle.napi_types.specs.plain.Replies.{Answer, plain, accepts, refuses}
use Rattle.napi_types.specs.parts.Functions.{FunctionState, new_function, call_status, called, accepted_items, acquire_status, acquired, release_status, released, with_referenced}
use Rattle.napi_types.specs.parts.Pool.{work_refusal, with_work, without_work, with_queued, with_cancelled, new_number}
use Rattle.napi_types.specs.parts.Works.{is_created, is_queued, is_deletable}
use Rattle.napi_types.specs.hub.Hub.{Hub}
use Rattle.napi_types.specs.hub.HubMoves.{in_pool, in_tsfn}

-- an answer that makes a duty, where one is named
abbrev pub making : Option Duty → Answer Hub → Answer Hub
making d a = record a { reply = record (a.reply) { made = d } }

-- ON WORKS
-- the answer, where no refusal applies
abbrev pub unless_refused : Hub → Option Status → Answer Hub → Answer Hub
unless_refused h None a = a
unless_refused h (Some s) a = refuses s h

-- ON FUNCTIONS
-- the function of a number
abbrev pub tsfn_at : Hub → ℕ → Option FunctionState
tsfn_at h n = found (λ f. f.id) n h.functions

-- the answer of the function that is there; where none is, the call is refused with 1
abbrev pub on_function : Hub → (FunctionState → Answer Hub) → Option FunctionState → Answer Hub
on_function h answer None = refuses status.InvalidArg h
on_function h answer (Some f) = answer f

-- a call that has this status leaves the function changed so
abbrev pub answered : Status → (FunctionState → FunctionState) → Hub → FunctionState → Answer Hub
answered s change h f = record { reply = plain s out.Nothing; after = in_tsfn f.id change h }

-- the item that an accepted call makes
abbrev pub item_made : Status → FunctionState → Option Duty
item_made status.Ok f = Some (duty.Item (record { 0 = f.id }) (accepted_items f + 1))
item_made s f = None

-- a call of the function, with this status
abbrev pub called_answer : Hub → ℕ → FunctionState → Status → Answer Hub
called_answer h payload f s = making (item_made s f) (answered s (called (Some s) payload) h f)

-- a call of the function, where it is there; none where it waits
abbrev pub call_answer : Hub → Actor → ℕ → Mode → Option FunctionState → Option (Answer Hub)
call_answer h who payload m None = Some (refuses status.InvalidArg h)
call_answer h who payload m (Some f) = option_map (called_answer h payload f) (call_status who m f)

-- the number of the function that is created next
abbrev pub new_function_number : Hub → ℕ
new_function_number h = length h.functions + 1

-- the duty of a function's finalizer, where it has one
abbrev pub finalizer_duty : ℕ → Option ℕ → Option Duty
finalizer_duty n None = None
finalizer_duty n (Some entry) = Some (duty.Function (record { 0 = n }))

-- where the items are delivered of a function that names no target, as none does
abbrev pub no_target : Target
no_target = record { addon = 0; entry = 0; torn_runs = false }

-- one function more, created by this addon
abbrev pub with_function : ℕ → Target → ℕ → ℕ → Option ℕ → ℕ → Hub → Hub
with_function addon target maximum count finalizer context h =
    record h { functions = h.functions ++ singleton (new_function (new_function_number h) addon target maximum count finalizer context) }

abbrev pub creating : Hub → Given → ℕ → ℕ → Option ℕ → ℕ → Answer Hub
creating h g maximum count finalizer context =
    making (finalizer_duty (new_function_number h) finalizer) (accepts (out.Function (record { 0 = new_function_number h }))
    (with_function g.addon (unwrap_or g.target no_target) maximum count finalizer context h))

-- EACH CALL
-- what the hub answers to a call that the environment does not refuse, with what the environment handed to it and the number that it newly gives; none where
-- it waits, and of every call that is not shared
abbrev pub hub_answer : Hub → Actor → Given → Call → ℕ → Option (Answer Hub)
hub_answer h who g (call.CreateAsyncWork job entry payload) n = Some (accepts (out.Work (record { 0 = n })) (in_pool (with_work n job g.addon entry payload) h))
hub_answer h who g (call.DeleteAsyncWork w) n = Some (unless_refused h (work_refusal is_deletable h.pool w.0) (accepts out.Nothing (in_pool (without_work w.0) h)))
hub_answer h who g (call.CancelAsyncWork w) n = Some (unless_refused h (work_refusal is_queued h.pool w.0) (accepts out.Nothing (in_pool (with_cancelled w.0) h)))
hub_answer h who g (call.QueueAsyncWork w) n =
    Some (unless_refused h (work_refusal is_created h.pool w.0) (making (Some (duty.Work (new_number h.pool))) (accepts out.Nothing (in_pool (with_queued w.0) h))))
hub_answer h who g (call.CreateThreadsafeFunction f entry maximum count finalizer context) n = Some (creating h g maximum count finalizer context)
hub_answer h who g (call.CallThreadsafeFunction f payload m) n = call_answer h who payload m (tsfn_at h f.0)
hub_answer h who g (call.AcquireThreadsafeFunction f) n =
    Some (on_function h (λ x. answered (acquire_status x) (acquired (acquire_status x)) h x) (tsfn_at h f.0))
hub_answer h who g (call.ReleaseThreadsafeFunction f m) n =
    Some (on_function h (λ x. answered (release_status x) (released (release_status x) m) h x) (tsfn_at h f.0))
hub_answer h who g (call.RefThreadsafeFunction f) n = Some (on_function h (λ x. answered status.Ok (with_referenced true) h x) (tsfn_at h f.0))
hub_answer h who g (call.UnrefThreadsafeFunction f) n = Some (on_function h (λ x. answered status.Ok (with_referenced false) h x) (tsfn_at h f.0))
hub_answer h who g (call.GetThreadsafeFunctionContext f) n = Some (on_function h (λ x. accepts (out.Unsigned x.context) h) (tsfn_at h f.0))
hub_answer h who g _ n = None

-- the calls that a thread makes
abbrev pub is_thread_call : Call → Bool
is_thread_call (call.CallThreadsafeFunction _ _ _) = true
is_thread_call (call.AcquireThreadsafeFunction _) = true
is_thread_call (call.ReleaseThreadsafeFunction _ _) = true
is_thread_call _ = false
