-- What the call that creates an external answers and leaves where nothing refuses it.
use Rattle.std.specs.Prelude.{ℕ, ◌+◌, Option, Some, None}
use Rattle.napi_types.specs.declared.body.Body.TheVariants as body
use Rattle.napi_types.specs.declared.call.Call.{Call}
use Rattle.napi_types.specs.declared.call.Call.TheVariants as call
use Rattle.napi_types.specs.plain.Replies.{Answer}
use Rattle.napi_types.specs.parts.Attachments.{Attachments, with_attached}
use Rattle.napi_types.specs.parts.HeapChanges.{new_value}
use Rattle.napi_types.specs.environment.Environment.{Environment, in_heap}
use Rattle.napi_types.specs.environment.Group.{Group, answering}
use Rattle.napi_types.specs.environment.Registering.{finalizer_if, ticket_if, registering_if}

-- a finalizer of this ticket is attached to a value, where there is one
abbrev pub attached_if : ℕ → Option ℕ → Attachments → Attachments
attached_if v None a = a
attached_if v (Some ticket) a = with_attached v ticket a

-- `create_external` makes an external, a value that holds a payload, gives its handle, and registers a finalizer where it names one
abbrev pub on_externals : Environment → Call → Option (Answer Environment)
on_externals e (call.CreateExternal payload entry hint) =
    Some (registering_if (finalizer_if e payload entry hint)
    (in_heap (record e { attachments = attached_if (e.heap.made + 1) (ticket_if e.book entry) e.attachments }) (new_value (body.External payload) e.heap)))
on_externals e _ = None

-- what the environment tells of this call
abbrev pub external_calls : Group
external_calls = answering (λ e c n. on_externals e c)
