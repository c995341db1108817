-- What the calls on exceptions answer and leave where nothing refuses them.
use Rattle.std.specs.Prelude.{ℕ, Option, Some, None, is_some}
use Rattle.std.specs.Option.{unwrap_or}
use Rattle.napi_types.specs.declared.call.Call.{Call}
use Rattle.napi_types.specs.declared.call.Call.TheVariants as call
use Rattle.napi_types.specs.declared.entry.Out.TheVariants as out
use Rattle.napi_types.specs.declared.ids.TextNo.{TextNo}
use Rattle.napi_types.specs.plain.Numbers.{status_number}
use Rattle.napi_types.specs.plain.Replies.{Answer, accepts}
use Rattle.napi_types.specs.parts.Heap.{handle_value}
use Rattle.napi_types.specs.parts.HeapChanges.{handle_of, with_thrown, thrown_number}
use Rattle.napi_types.specs.parts.Values.{undefined_value}
use Rattle.napi_types.specs.environment.Environment.{Environment, with_heap, in_heap}
use Rattle.napi_types.specs.environment.Group.{Group, answering}

-- the value of this creation number is the pending exception; or none is
abbrev pub with_pending : Option ℕ → Environment → Environment
with_pending p e = record e { pending = p }

-- a new error of new strings of these texts is the pending exception
abbrev pub with_thrown_error : Option TextNo → TextNo → Environment → Environment
with_thrown_error code message e = with_pending (Some (thrown_number code message e.heap)) (with_heap e (with_thrown code message e.heap))

-- `throw` makes the value of a handle the pending exception, and `throw_error` a new error of new strings; `get_and_clear_last_exception` gives the pending
-- one, or undefined where none is pending, and none is pending then; the others tell whether one is, and the last status
abbrev pub on_exceptions : Environment → Call → Option (Answer Environment)
on_exceptions e (call.Throw h) = Some (accepts out.Nothing (with_pending (Some (handle_value e.heap h.0)) e))
on_exceptions e (call.ThrowError code message) = Some (accepts out.Nothing (with_thrown_error code message e))
on_exceptions e call.IsExceptionPending = Some (accepts (out.Flag (is_some e.pending)) e)
on_exceptions e call.GetAndClearLastException = Some (in_heap (with_pending None e) (handle_of (unwrap_or e.pending undefined_value) e.heap))
on_exceptions e call.GetLastErrorInfo = Some (accepts (out.Unsigned (status_number e.last)) e)
on_exceptions e _ = None

-- what the environment tells of these calls
abbrev pub exception_calls : Group
exception_calls = answering (λ e c n. on_exceptions e c)
