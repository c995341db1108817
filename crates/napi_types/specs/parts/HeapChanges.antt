-- What calls make of a heap.
use Rattle.std.specs.Prelude.{ℕ, ◌+◌, List, [], ◌∷◌, ◌++◌, length, Option}
use Rattle.napi_types.specs.declared.body.Body.{Body}
use Rattle.napi_types.specs.declared.ids.TextNo.{TextNo}
use Rattle.napi_types.specs.declared.entry.Out.TheVariants as out
use Rattle.napi_types.specs.plain.Lists.{first_changed, tail}
use Rattle.napi_types.specs.plain.Replies.{Answer, accepts}
use Rattle.napi_types.specs.parts.Heap.{Heap, handle_value}
use Rattle.napi_types.specs.parts.NewValues.{list_of, error_of, thrown_of, thrown_strings}
use Rattle.napi_types.specs.parts.ScopeChanges.{hold_in}
use Rattle.napi_types.specs.parts.Scopes.{FrameScopes, no_handles}
use Rattle.napi_types.specs.parts.Values.{Value, fresh_value, linked_value, value_changed}

-- a new handle of a value in the innermost scope
abbrev pub with_handle : ℕ → Heap → Heap
with_handle v heap = record heap { handles = heap.handles + 1; scopes = first_changed (hold_in (record { handle = heap.handles + 1; value = v })) heap.scopes }

-- the answer is a new handle of a value
abbrev pub handle_of : ℕ → Heap → Answer Heap
handle_of v heap = accepts (out.Handle (record { 0 = heap.handles + 1 })) (with_handle v heap)

-- a value with the next creation number
abbrev pub with_value : Body → Heap → Heap
with_value b heap = record heap { values = heap.values ++ fresh_value (heap.made + 1) b ∷ []; made = heap.made + 1 }

-- a linked value with the next creation number, of this tag and with this child, where there is one
abbrev pub with_linked : ℕ → Option ℕ → Heap → Heap
with_linked tag to heap = record heap { values = heap.values ++ linked_value (heap.made + 1) tag to ∷ []; made = heap.made + 1 }

-- a new value and its handle
abbrev pub new_value : Body → Heap → Answer Heap
new_value b heap = handle_of (heap.made + 1) (with_value b heap)

-- a new linked value and its handle
abbrev pub new_linked : ℕ → Option ℕ → Heap → Answer Heap
new_linked tag to heap = handle_of (heap.made + 1) (with_linked tag to heap)

-- an error with the next creation number, of the values that are its code, where one is given, and its message
abbrev pub with_error : Option ℕ → ℕ → Heap → Heap
with_error code message heap = record heap { values = heap.values ++ error_of (heap.made + 1) code message ∷ []; made = heap.made + 1 }

-- a new error and its handle
abbrev pub new_error : Option ℕ → ℕ → Heap → Answer Heap
new_error code message heap = handle_of (heap.made + 1) (with_error code message heap)

-- the creation number of the error that new strings of these texts give
abbrev pub thrown_number : Option TextNo → TextNo → Heap → ℕ
thrown_number code message heap = heap.made + length (thrown_strings code message) + 1

-- new strings of an error's texts, and then the error of them
abbrev pub with_thrown : Option TextNo → TextNo → Heap → Heap
with_thrown code message heap = record heap { values = heap.values ++ thrown_of heap.made code message; made = thrown_number code message heap }

-- new values of these bodies, one after another, then an array of them
abbrev pub with_list : List Body → Heap → Heap
with_list bs heap = record heap { values = heap.values ++ list_of heap.made bs; made = heap.made + length bs + 1 }

-- a new array of new values of these bodies, and its handle
abbrev pub new_list : List Body → Heap → Answer Heap
new_list bs heap = handle_of (heap.made + length bs + 1) (with_list bs heap)

-- the value of a handle changed so
abbrev pub with_changed : ℕ → (Value → Value) → Heap → Heap
with_changed h change heap = record heap { values = value_changed (handle_value heap h) change heap.values }

-- the innermost frame's scopes changed so
abbrev pub in_scopes : (FrameScopes → FrameScopes) → Heap → Heap
in_scopes change heap = record heap { scopes = first_changed change heap.scopes }

-- a frame begins inside the innermost one, with a scope of its own
abbrev pub with_frame : Heap → Heap
with_frame heap = record heap { scopes = no_handles ∷ heap.scopes }

-- the innermost frame is gone, with all its scopes
abbrev pub without_frame : Heap → Heap
without_frame heap = record heap { scopes = tail heap.scopes }
