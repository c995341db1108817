-- The calls on wraps, type tags and finalizers: what they answer and leave where nothing refuses them, and their refusals by what is attached to a value.
use Rattle.std.specs.Prelude.{ℕ, Bool, true, false, Option, Some, None}
use Rattle.napi_types.specs.declared.call.Call.{Call}
use Rattle.napi_types.specs.declared.call.Call.TheVariants as call
use Rattle.napi_types.specs.declared.entry.Out.TheVariants as out
use Rattle.napi_types.specs.declared.status.Status.{Status}
use Rattle.napi_types.specs.declared.status.Status.TheVariants as status
use Rattle.napi_types.specs.plain.Lists.{when, unless}
use Rattle.napi_types.specs.plain.Replies.{Answer, accepts}
use Rattle.napi_types.specs.parts.Attachments.{Attachments, is_wrapped, is_tagged, wrap_payload, wrap_ticket, has_tag, with_wrap, without_wrap, with_tag, with_attached}
use Rattle.napi_types.specs.parts.Book.{new_ticket}
use Rattle.napi_types.specs.parts.Heap.{Heap, handle_value}
use Rattle.napi_types.specs.parts.References.{with_reference}
use Rattle.napi_types.specs.environment.Environment.{Environment}
use Rattle.napi_types.specs.environment.Group.{Group}
use Rattle.napi_types.specs.environment.ReferenceCalls.{with_references}
use Rattle.napi_types.specs.environment.Registering.{finalizer_of, finalizer_if, ticket_if, registering, registering_if, registered_only, withdrawing}

-- an environment with other attachments
abbrev pub with_attachments : Attachments → Environment → Environment
with_attachments a e = record e { attachments = a }

-- where a reference is wanted, the answer gives a weak one of the number n to the value
abbrev pub referring_if : Bool → ℕ → ℕ → Environment → Answer Environment
referring_if false n v e = accepts out.Nothing e
referring_if true n v e = accepts (out.Ref (record { 0 = n })) (with_references (with_reference n v 0 e.references) e)

-- `wrap` ties a payload to an object, and registers a finalizer where it names one
abbrev pub wrapping : Environment → ℕ → ℕ → Option ℕ → ℕ → Bool → ℕ → Answer Environment
wrapping e v payload entry hint wanted n =
    registering_if (finalizer_if e payload entry hint)
    (referring_if wanted n v (with_attachments (with_wrap v payload (ticket_if e.book entry) e.attachments) e))

-- `add_finalizer` registers a finalizer of a value beside that of its wrap
abbrev pub finalizing : Environment → ℕ → ℕ → ℕ → ℕ → Bool → ℕ → Answer Environment
finalizing e v payload entry hint wanted n =
    registering (finalizer_of e payload entry hint) (referring_if wanted n v (with_attachments (with_attached v (new_ticket e.book) e.attachments) e))

-- `remove_wrap` tells an object's payload, takes it off, and withdraws the finalizer that was registered with it
abbrev pub unwrapping : Environment → ℕ → Answer Environment
unwrapping e v =
    withdrawing (registered_only e.book (wrap_ticket e.attachments v))
    (accepts (out.Unsigned (wrap_payload e.attachments v)) (with_attachments (without_wrap v e.attachments) e))

-- `unwrap` tells a payload; `type_tag_object` tags a value, and `check_object_type_tag` tells whether it has this tag. The number n is that of the reference that
-- is given
abbrev pub on_wraps : Environment → Call → ℕ → Option (Answer Environment)
on_wraps e (call.Wrap h payload entry hint wanted) n = Some (wrapping e (handle_value e.heap h.0) payload entry hint wanted n)
on_wraps e (call.Unwrap h) n = Some (accepts (out.Unsigned (wrap_payload e.attachments (handle_value e.heap h.0))) e)
on_wraps e (call.RemoveWrap h) n = Some (unwrapping e (handle_value e.heap h.0))
on_wraps e (call.TypeTagObject h lower upper) n = Some (accepts out.Nothing (with_attachments (with_tag (handle_value e.heap h.0) lower upper e.attachments) e))
on_wraps e (call.CheckObjectTypeTag h lower upper) n = Some (accepts (out.Flag (has_tag e.attachments (handle_value e.heap h.0) lower upper)) e)
on_wraps e (call.AddFinalizer h payload entry hint wanted) n = Some (finalizing e (handle_value e.heap h.0) payload entry hint wanted n)
on_wraps e _ n = None

-- THEIR OWN REFUSALS
-- an object that is wrapped is not wrapped again, and one that is not wrapped has nothing to give or to take off; a value that has a tag gets no other
abbrev pub attachment_refusal : Attachments → Heap → Call → Option Status
attachment_refusal a heap (call.Wrap h _ _ _ _) = when (is_wrapped a (handle_value heap h.0)) status.InvalidArg
attachment_refusal a heap (call.Unwrap h) = unless (is_wrapped a (handle_value heap h.0)) status.InvalidArg
attachment_refusal a heap (call.RemoveWrap h) = unless (is_wrapped a (handle_value heap h.0)) status.InvalidArg
attachment_refusal a heap (call.TypeTagObject h _ _) = when (is_tagged a (handle_value heap h.0)) status.InvalidArg
attachment_refusal a heap _ = None

-- what the environment tells of these calls
abbrev pub wrap_calls : Group
wrap_calls = record { refuses = λ e c. attachment_refusal e.attachments e.heap c; answers = on_wraps }
