-- What a collection answers and leaves.
use Rattle.std.specs.Prelude.{ℕ, Bool, not, List, length, Option, Some, None}
use Rattle.napi_types.specs.declared.call.Call.{Call}
use Rattle.napi_types.specs.declared.call.Call.TheVariants as call
use Rattle.napi_types.specs.declared.entry.Out.TheVariants as out
use Rattle.napi_types.specs.plain.Lists.{has_number}
use Rattle.napi_types.specs.plain.Replies.{Answer, accepts}
use Rattle.napi_types.specs.parts.Attachments.{left_on, is_attached_to}
use Rattle.napi_types.specs.parts.Book.{due_where}
use Rattle.napi_types.specs.parts.Buffers.{buffers_left}
use Rattle.napi_types.specs.parts.Promises.{promises_left}
use Rattle.napi_types.specs.parts.References.{emptied}
use Rattle.napi_types.specs.parts.Values.{those_of, all_but}
use Rattle.napi_types.specs.environment.Environment.{Environment}
use Rattle.napi_types.specs.environment.Group.{Group, answering}
use Rattle.napi_types.specs.environment.Roots.{reach}

-- a value is freed where it is none of those that stay
abbrev pub is_freed : List ℕ → ℕ → Bool
is_freed alive v = not (has_number v alive)

-- the values of these numbers stay; all others are freed, the references to them name none, what is attached to them goes with them, the tickets of their
-- finalizers fall due, and those that were promises, buffers or views are none any more
abbrev pub collected : List ℕ → Environment → Environment
collected alive e = record e {
  heap = record (e.heap) { values = those_of alive e.heap.values };
  references = emptied (is_freed alive) e.references;
  attachments = left_on (is_freed alive) e.attachments;
  promises = promises_left (is_freed alive) e.promises;
  buffers = buffers_left (is_freed alive) e.buffers;
  book = due_where (is_attached_to (is_freed alive) e.attachments) e.book;
}

-- `collect` keeps what the roots reach, and tells how many values it freed
abbrev pub on_collection : Environment → Call → Option (Answer Environment)
on_collection e call.Collect = Some (accepts (out.Unsigned (length (all_but (reach e) e.heap.values))) (collected (reach e) e))
on_collection e _ = None

-- what the environment tells of this call
abbrev pub collecting_calls : Group
collecting_calls = answering (λ e c n. on_collection e c)
