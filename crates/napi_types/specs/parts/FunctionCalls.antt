-- Functions: what makes one, and what a call of one gives the frame that it enters, and its caller.
use Rattle.std.specs.Option.{option_or}
use Rattle.std.specs.Prelude.{ℕ, ◌+◌, List, [], ◌∷◌, length, take, replicate, ◌++◌, Option, Some, None, ◌&&◌, ◌||◌, ◌==◌, is_none}
use Rattle.napi_types.specs.declared.body.Body.TheVariants as body
use Rattle.napi_types.specs.declared.call.Args.{Args}
use Rattle.napi_types.specs.declared.call.Call.{Call}
use Rattle.napi_types.specs.declared.call.Call.TheVariants as call
use Rattle.napi_types.specs.declared.entry.Cause.TheVariants as cause
use Rattle.napi_types.specs.declared.ids.HandleId.{HandleId}
use Rattle.napi_types.specs.declared.status.Status.{Status}
use Rattle.napi_types.specs.declared.status.Status.TheVariants as status
use Rattle.napi_types.specs.plain.Arguments.{argument_handles}
use Rattle.napi_types.specs.plain.Lists.{when, unless}
use Rattle.napi_types.specs.plain.Replies.{Answer}
use Rattle.napi_types.specs.parts.Bodies.{function_addon, function_entry, function_payload, is_function}
use Rattle.napi_types.specs.parts.Frames.{Frame, frame_of}
use Rattle.napi_types.specs.parts.Heap.{Heap, handle_value, handle_body}
use Rattle.napi_types.specs.parts.HeapChanges.{new_value, with_handle}
use Rattle.napi_types.specs.parts.HeapGroup.{HeapGroup, no_heap_group}
use Rattle.napi_types.specs.parts.Kinds.{expects_if}
use Rattle.napi_types.specs.parts.Values.{undefined_value}

-- `create_function` makes a function: an entry of the calling addon, with a payload that its frames are given
abbrev pub on_functions : ℕ → Heap → Call → Option (Answer Heap)
on_functions addon heap (call.CreateFunction entry payload) = Some (new_value (body.Function addon entry payload) heap)
on_functions addon heap _ = None

-- the frame that a call of a function enters
abbrev pub callee_of : Heap → HandleId → Frame
callee_of heap f = frame_of cause.Call (function_addon (handle_body heap f.0)) (function_entry (handle_body heap f.0))

-- the receiver's handle: where a call names none, its frame has a new one of undefined
abbrev pub receiver_handle : Heap → Option HandleId → ℕ
receiver_handle heap None = heap.handles + 1
receiver_handle heap (Some h) = h.0

abbrev pub with_receiver : Option HandleId → Heap → Heap
with_receiver None heap = with_handle undefined_value heap
with_receiver (Some h) heap = heap

-- the gifts of the frame: how many arguments there are, four of them, the receiver, and the function's payload; places that are not used are 0
abbrev pub call_gifts : Heap → Option HandleId → HandleId → Args → List ℕ
call_gifts heap receiver f args =
    length (argument_handles args) ∷ take 4 (argument_handles args ++ replicate 4 0)
    ++ receiver_handle heap receiver ∷ function_payload (handle_body heap f.0) ∷ 0 ∷ []

-- the value that a frame leaves to its caller: undefined where it leaves nothing, or a number that no open scope holds
abbrev pub left_value : Heap → Option HandleId → ℕ
left_value heap None = undefined_value
left_value heap (Some h) = handle_value heap h.0

-- THEIR OWN REFUSALS
-- only a function is called. A thread-safe function is made of a function where a value is named, has a function or a call-js entry, and is held by a
-- thread at least
abbrev pub function_refusal : Heap → Call → Option Status
function_refusal heap (call.CallFunction _ f _) = unless (is_function (handle_body heap f.0)) status.InvalidArg
function_refusal heap (call.CreateThreadsafeFunction f entry _ count _ _) =
    option_or (expects_if heap f is_function status.InvalidArg) (when ((is_none f && is_none entry) || (count == 0)) status.InvalidArg)
function_refusal heap _ = None

-- what the heap tells of the calls that make a function, call one, or make a thread-safe function. `on_functions` asks which addon calls, so it is not here
abbrev pub functions_in_heap : HeapGroup
functions_in_heap = record no_heap_group { refuses = function_refusal }
