-- The calls on scopes: what they answer and leave where nothing refuses them, and their own refusals.
use Rattle.std.specs.Prelude.{ℕ, ◌+◌, Option, Some, None}
use Rattle.napi_types.specs.declared.call.Call.{Call}
use Rattle.napi_types.specs.declared.call.Call.TheVariants as call
use Rattle.napi_types.specs.declared.entry.Out.TheVariants as out
use Rattle.napi_types.specs.declared.ids.ScopeKind.{ScopeKind}
use Rattle.napi_types.specs.declared.ids.ScopeKind.TheVariants as scope_kind
use Rattle.napi_types.specs.declared.status.Status.{Status}
use Rattle.napi_types.specs.plain.Lists.{with_number}
use Rattle.napi_types.specs.plain.Replies.{Answer, accepts}
use Rattle.napi_types.specs.parts.Heap.{Heap, handle_value}
use Rattle.napi_types.specs.parts.HeapChanges.{in_scopes}
use Rattle.napi_types.specs.parts.HeapGroup.{HeapGroup, no_heap_group}
use Rattle.napi_types.specs.parts.ScopeChanges.{open_in, close_in, escape_in}
use Rattle.napi_types.specs.parts.ScopeRefusals.{closing, escaping}
use Rattle.napi_types.specs.parts.Scopes.{opened_scopes}

-- a scope of this kind and the number n is open inside the innermost one
abbrev pub with_scope : ScopeKind → ℕ → Heap → Heap
with_scope kind n heap = in_scopes (open_in kind n) (record heap { scope_numbers = with_number n heap.scope_numbers })

-- a new handle of a value in the scope that encloses the one of the number n, from which it escaped
abbrev pub with_escaped : ℕ → ℕ → Heap → Heap
with_escaped n v heap = in_scopes (escape_in n (record { handle = heap.handles + 1; value = v })) (record heap { handles = heap.handles + 1 })

-- `open_handle_scope` and `open_escapable_handle_scope` open a scope of the number n; `close_handle_scope` and `close_escapable_handle_scope` end the
-- innermost one; `escape_handle` gives the value of a handle a new one outside of a scope
abbrev pub on_scopes : Heap → Call → ℕ → Option (Answer Heap)
on_scopes heap call.OpenHandleScope n = Some (accepts (out.Scope (record { 0 = n })) (with_scope scope_kind.Plain n heap))
on_scopes heap call.OpenEscapableHandleScope n = Some (accepts (out.Scope (record { 0 = n })) (with_scope scope_kind.Escapable n heap))
on_scopes heap (call.CloseHandleScope s) n = Some (accepts out.Nothing (in_scopes close_in heap))
on_scopes heap (call.CloseEscapableHandleScope s) n = Some (accepts out.Nothing (in_scopes close_in heap))
on_scopes heap (call.EscapeHandle s h) n = Some (accepts (out.Handle (record { 0 = heap.handles + 1 })) (with_escaped s.0 (handle_value heap h.0) heap))
on_scopes heap _ n = None

-- THEIR OWN REFUSALS
-- scopes close innermost first, and one handle escapes from an escapable scope
abbrev pub scope_refusal : Heap → Call → Option Status
scope_refusal heap (call.CloseHandleScope s) = closing s.0 scope_kind.Plain (opened_scopes heap.scopes)
scope_refusal heap (call.CloseEscapableHandleScope s) = closing s.0 scope_kind.Escapable (opened_scopes heap.scopes)
scope_refusal heap (call.EscapeHandle s _) = escaping s.0 (opened_scopes heap.scopes)
scope_refusal heap _ = None

-- what the heap tells of these calls, which is all
abbrev pub scopes_in_heap : HeapGroup
scopes_in_heap = record no_heap_group { refuses = scope_refusal; answers = on_scopes }
