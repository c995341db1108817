-- The calls on array buffers and their views: what they answer and leave where nothing refuses them, and their own refusals.
use Rattle.std.specs.Prelude.{ℕ, ◌+◌, ◌%◌, ◌==◌, nat_lt, nat_le, Bool, cond, ◌&&◌, Option, Some, None, is_some}
use Rattle.std.specs.Option.{option_or, option_and_then, unwrap_or}
use Rattle.napi_types.specs.declared.call.Call.{Call}
use Rattle.napi_types.specs.declared.call.Call.TheVariants as call
use Rattle.napi_types.specs.declared.entry.Out.TheVariants as out
use Rattle.napi_types.specs.declared.status.Status.{Status}
use Rattle.napi_types.specs.declared.status.Status.TheVariants as status
use Rattle.napi_types.specs.declared.view.ViewInfo.{ViewInfo}
use Rattle.napi_types.specs.plain.Lists.{when, unless}
use Rattle.napi_types.specs.plain.Replies.{Answer, accepts}
use Rattle.napi_types.specs.parts.Attachments.{with_attached}
use Rattle.napi_types.specs.parts.Bodies.{buffer_tag, view_tag}
use Rattle.napi_types.specs.parts.Book.{new_ticket}
use Rattle.napi_types.specs.parts.Buffers.{Buffers, most_buffer_bytes, most_bytes_together, buffer_length, total_bytes, is_detached_buffer, view_end, element_read, with_buffer, with_view, with_detached, with_element_written}
use Rattle.napi_types.specs.parts.Heap.{handle_value}
use Rattle.napi_types.specs.parts.HeapChanges.{new_linked}
use Rattle.napi_types.specs.environment.Environment.{Environment, in_heap}
use Rattle.napi_types.specs.environment.Group.{Group}
use Rattle.napi_types.specs.environment.Registering.{finalizer_of, registering}

-- an environment with other buffers
abbrev pub with_buffers : Buffers → Environment → Environment
with_buffers b e = record e { buffers = b }

-- BUFFERS
-- `create_arraybuffer` makes a buffer of so many zeros, and gives its handle
abbrev pub making_buffer : Environment → ℕ → Answer Environment
making_buffer e size = in_heap (with_buffers (with_buffer (e.heap.made + 1) size None e.buffers) e) (new_linked buffer_tag None e.heap)

-- an environment where the value that is made next is a buffer with a finalizer: that of the next ticket, which is attached to it
abbrev pub with_external_buffer : ℕ → Environment → Environment
with_external_buffer size e = record e {
  attachments = with_attached (e.heap.made + 1) (new_ticket e.book) e.attachments;
  buffers = with_buffer (e.heap.made + 1) size (Some (new_ticket e.book)) e.buffers;
}

-- `create_external_arraybuffer` does the same, and registers a finalizer
abbrev pub making_external_buffer : Environment → ℕ → ℕ → ℕ → ℕ → Answer Environment
making_external_buffer e size payload entry hint =
    registering (finalizer_of e payload entry hint) (in_heap (with_external_buffer size e) (new_linked buffer_tag None e.heap))

-- VIEWS
-- how many bytes an element of a type has, by the manual's number of the type: of an unsigned number of 8, 16, 32 or 64 bits. This project has no others
abbrev pub element_size : ℕ → Option ℕ
element_size kind =
    cond (kind == 1) (Some 1) (cond (kind == 4) (Some 2) (cond (kind == 6) (Some 4) (cond (kind == 10) (Some 8) None)))

-- where a view lies that has so many elements of a size, from this byte of a buffer on
abbrev pub view_of_elements : ℕ → ℕ → ℕ → ℕ → ViewInfo
view_of_elements v size offset count = record { buffer = record { 0 = v }; size = size; offset = offset; length = count }

-- a view may lie so in a buffer of so many bytes: it begins at a multiple of its elements' size, and does not end past the buffer's end
abbrev pub may_lie : ℕ → ViewInfo → Bool
may_lie size about = (about.offset % about.size == 0) && nat_le (view_end about) size

-- where the view lies that is asked for, where the type is one of those and the view may lie so
abbrev pub view_asked : Buffers → ℕ → ℕ → ℕ → ℕ → Option ViewInfo
view_asked b kind v offset count =
    option_and_then (λ size. option_and_then (λ bytes.
    cond (may_lie bytes (view_of_elements v size offset count)) (Some (view_of_elements v size offset count)) None) (buffer_length b v)) (element_size kind)

-- `create_typedarray` makes a view, whose hidden child is its buffer, and gives its handle
abbrev pub making_view : Environment → Option ViewInfo → Answer Environment
making_view e None = accepts out.Nothing e
making_view e (Some about) =
    in_heap (with_buffers (with_view (e.heap.made + 1) about e.buffers) e) (new_linked view_tag (Some about.buffer.0) e.heap)

-- THE CALLS
-- a value that is no buffer, and an element that a view has not, are refused before they are read so
abbrev pub on_buffers : Environment → Call → Option (Answer Environment)
on_buffers e (call.CreateArraybuffer size) = Some (making_buffer e size)
on_buffers e (call.CreateExternalArraybuffer size payload entry hint) = Some (making_external_buffer e size payload entry hint)
on_buffers e (call.IsArraybuffer h) = Some (accepts (out.Flag (is_some (buffer_length e.buffers (handle_value e.heap h.0)))) e)
on_buffers e (call.IsDetachedArraybuffer h) = Some (accepts (out.Flag (is_detached_buffer e.buffers (handle_value e.heap h.0))) e)
on_buffers e (call.GetArraybufferInfo h) = Some (accepts (out.Unsigned (unwrap_or (buffer_length e.buffers (handle_value e.heap h.0)) 0)) e)
on_buffers e (call.DetachArraybuffer h) = Some (accepts out.Nothing (with_buffers (with_detached (handle_value e.heap h.0) e.buffers) e))
on_buffers e (call.CreateTypedarray kind h offset count) = Some (making_view e (view_asked e.buffers kind (handle_value e.heap h.0) offset count))
on_buffers e (call.GetView h at) = Some (accepts (out.Unsigned (unwrap_or (element_read e.buffers (handle_value e.heap h.0) at) 0)) e)
on_buffers e (call.SetView h at number) =
    Some (accepts out.Nothing (with_buffers (with_element_written (handle_value e.heap h.0) at number e.buffers) e))
on_buffers e _ = None

-- THEIR OWN REFUSALS
-- a buffer has at most so many bytes, and all that are alive together
abbrev pub limit_refusal : Buffers → ℕ → Option Status
limit_refusal b size =
    option_or (when (nat_lt most_buffer_bytes size) status.InvalidArg) (when (nat_lt most_bytes_together (total_bytes b + size)) status.GenericFailure)

-- a buffer is expected
abbrev pub no_buffer_refusal : Buffers → ℕ → Option Status
no_buffer_refusal b v = unless (is_some (buffer_length b v)) status.ArraybufferExpected

abbrev pub buffer_refusal : Environment → Call → Option Status
buffer_refusal e (call.CreateArraybuffer size) = limit_refusal e.buffers size
buffer_refusal e (call.CreateExternalArraybuffer size _ _ _) = limit_refusal e.buffers size
buffer_refusal e (call.GetArraybufferInfo h) = no_buffer_refusal e.buffers (handle_value e.heap h.0)
buffer_refusal e (call.DetachArraybuffer h) =
    option_or (no_buffer_refusal e.buffers (handle_value e.heap h.0))
    (when (is_detached_buffer e.buffers (handle_value e.heap h.0)) status.DetachableArraybufferExpected)
buffer_refusal e (call.CreateTypedarray kind h offset count) =
    option_or (no_buffer_refusal e.buffers (handle_value e.heap h.0))
    (unless (is_some (view_asked e.buffers kind (handle_value e.heap h.0) offset count)) status.InvalidArg)
buffer_refusal e (call.GetView h at) = unless (is_some (element_read e.buffers (handle_value e.heap h.0) at)) status.InvalidArg
buffer_refusal e (call.SetView h at _) = unless (is_some (element_read e.buffers (handle_value e.heap h.0) at)) status.InvalidArg
buffer_refusal e _ = None

-- what the environment tells of these calls
abbrev pub buffer_calls : Group
buffer_calls = record { refuses = buffer_refusal; answers = λ e c n. on_buffers e c }
