-- Good heaps stay good under every call that is told of the heap.
use Rattle.std.proofs.Common.{◌≡◌, arith, ℕ, ◌+◌, Bool, true, false, cond, List, [], refl, Option, Some, None, option_map}
use Rattle.std.specs.Option.{IfSome, unwrap_or}
use Rattle.napi_types.specs.declared.call.Call.{Call}
use Rattle.napi_types.specs.declared.call.Call.TheVariants as call
use Rattle.napi_types.specs.declared.ids.HandleId.{HandleId}
use Rattle.napi_types.specs.declared.ids.ScopeKind.{ScopeKind}
use Rattle.napi_types.specs.declared.ids.ScopeKind.TheVariants as scope_kind
use Rattle.napi_types.specs.plain.Lists.{first_changed, singleton}
use Rattle.napi_types.specs.parts.Heap.{Heap, handle_value, handle_properties, handle_elements}
use Rattle.napi_types.specs.parts.HeapCalls.{addon_effect}
use Rattle.napi_types.specs.parts.HeapChanges.{in_scopes}
use Rattle.napi_types.specs.parts.Properties.{property_at, element_at}
use Rattle.napi_types.specs.parts.PropertyCalls.{names_of}
use Rattle.napi_types.specs.parts.ScopeCalls.{with_scope, with_escaped}
use Rattle.napi_types.specs.parts.ScopeChanges.{open_in, close_in, escape_in}
use Rattle.napi_types.specs.parts.Scopes.{OpenHandle, gives, held_by_frames}
use Rattle.napi_types.specs.parts.Values.{undefined_value, true_value, false_value}
use Rattle.machine_laws.specs.Consistency.{IsLiveAmong}
use Rattle.machine_laws.proofs.Children.{of-property, of-element, properties-at, elements-at, keeps-property, keeps-removal, keeps-element}
use Rattle.machine_laws.proofs.ConsistentHeaps.{IsConsistentHeap, ComesTo, unchanged, with-scopes, with-held, with-handle}
use Rattle.machine_laws.proofs.ConsistentValues.{with-new, with-new-list, with-new-error, with-changed}
use Rattle.machine_laws.proofs.Holding.{holds-first, opens-in, closes-in, escapes-in, gives-held, held-all, held-value}

-- the starting value of a place is live
starting : (heap : Heap) → IsConsistentHeap heap → IsLiveAmong heap.values undefined_value
starting heap g = g.starting 0 0 (omega arith)

pub or-undefined : (heap : Heap) (o : Option ℕ) → IsConsistentHeap heap → IfSome o (IsLiveAmong heap.values) → IsLiveAmong heap.values (unwrap_or o undefined_value)
or-undefined heap None g h = starting heap g
or-undefined heap (Some v) g h = h

-- the value of a handle is live, and so is that of a number that no open scope holds
pub handle-live : (heap : Heap) (h : ℕ) → IsConsistentHeap heap → IsLiveAmong heap.values (handle_value heap h)
handle-live heap h g = or-undefined heap (gives heap.scopes h) g (by (gives heap.scopes h) refl)
  where
    by : (o : Option ℕ) → gives heap.scopes h ≡ o → IfSome o (IsLiveAmong heap.values)
    by None e = tt
    by (Some v) e =
        let held : List OpenHandle = held_by_frames heap.scopes in
        held-all (IsLiveAmong heap.values) (λ (x : OpenHandle). x.value) h v v (held-value h v) held g.held (gives-held heap.scopes h v e)

if-given : (heap : Heap) (h : Option HandleId) → IsConsistentHeap heap → IfSome (option_map (λ (k : HandleId). handle_value heap k.0) h) (IsLiveAmong heap.values)
if-given heap None g = tt
if-given heap (Some h) g = handle-live heap h.0 g

of-boolean : (heap : Heap) (b : Bool) → IsConsistentHeap heap → IsLiveAmong heap.values (cond b true_value false_value)
of-boolean heap true g = g.starting 2 0 (omega arith)
of-boolean heap false g = g.starting 3 0 (omega arith)

opening : (heap : Heap) (kind : ScopeKind) (n : ℕ) → IsConsistentHeap heap → ComesTo heap (with_scope kind n heap)
opening heap kind n g =
    with-scopes heap (first_changed (open_in kind n) heap.scopes) (with_scope kind n heap).scope_numbers g (holds-first [] (open_in kind n) heap.scopes (opens-in kind n))

closing : (heap : Heap) → IsConsistentHeap heap → ComesTo heap (in_scopes close_in heap)
closing heap g = with-scopes heap (first_changed close_in heap.scopes) heap.scope_numbers g (holds-first [] close_in heap.scopes closes-in)

escaping : (heap : Heap) (n v : ℕ) → IsLiveAmong heap.values v → IsConsistentHeap heap → ComesTo heap (with_escaped n v heap)
escaping heap n v live g =
    let x : OpenHandle = record { handle = heap.handles + 1; value = v } in
    with-held heap (first_changed (escape_in n x) heap.scopes) v g live (holds-first (singleton x) (escape_in n x) heap.scopes (escapes-in n x))

property-live : (heap : Heap) (h name : ℕ) → IsConsistentHeap heap
    → IsLiveAmong heap.values (unwrap_or (property_at name (handle_properties heap h)) undefined_value)
property-live heap h name g =
    of-property (IsLiveAmong heap.values) name undefined_value (handle_properties heap h) (starting heap g)
    (properties-at (IsLiveAmong heap.values) (handle_value heap h) heap.values g.children)

element-live : (heap : Heap) (h at : ℕ) → IsConsistentHeap heap
    → IsLiveAmong heap.values (unwrap_or (element_at at (handle_elements heap h)) undefined_value)
element-live heap h at g =
    of-element (IsLiveAmong heap.values) at undefined_value (handle_elements heap h) (starting heap g)
    (elements-at (IsLiveAmong heap.values) (handle_value heap h) heap.values g.children)

pub heap-call : (addon : ℕ) (heap : Heap) (c : Call) (k : ℕ) → IsConsistentHeap heap → ComesTo heap (addon_effect addon heap c k).after
heap-call addon heap (call.CreateFunction entry payload) k g = with-new heap _ g
heap-call addon heap call.GetUndefined k g = with-handle heap _ g (starting heap g)
heap-call addon heap call.GetNull k g = with-handle heap _ g (g.starting 1 0 (omega arith))
heap-call addon heap call.GetGlobal k g = with-handle heap _ g (g.starting 4 0 (omega arith))
heap-call addon heap (call.GetBoolean b) k g = with-handle heap _ g (of-boolean heap b g)
heap-call addon heap (call.CreateInt64 i) k g = with-new heap _ g
heap-call addon heap (call.CreateBigintInt64 i) k g = with-new heap _ g
heap-call addon heap (call.CreateStringUtf8 t) k g = with-new heap _ g
heap-call addon heap (call.CreateSymbol d) k g = with-new heap _ g
heap-call addon heap call.CreateObject k g = with-new heap _ g
heap-call addon heap call.CreateArray k g = with-new heap _ g
heap-call addon heap (call.CreateError code message) k g = with-new-error heap _ _ (if-given heap code g) (handle-live heap message.0 g) g
heap-call addon heap (call.SetNamedProperty o name v) k g =
    with-changed heap o.0 _ (keeps-property (IsLiveAmong heap.values) name.0 (handle_value heap v.0) (handle-live heap v.0 g)) g
heap-call addon heap (call.GetNamedProperty o name) k g = with-handle heap _ g (property-live heap o.0 name.0 g)
heap-call addon heap (call.DeleteProperty o name) k g = with-changed heap o.0 _ (keeps-removal (IsLiveAmong heap.values) name.0) g
heap-call addon heap (call.GetPropertyNames o) k g = with-new-list heap (names_of (handle_properties heap o.0)) g
heap-call addon heap (call.SetElement o at v) k g =
    with-changed heap o.0 _ (keeps-element (IsLiveAmong heap.values) at (handle_value heap v.0) (handle-live heap v.0 g)) g
heap-call addon heap (call.GetElement o at) k g = with-handle heap _ g (element-live heap o.0 at g)
heap-call addon heap call.OpenHandleScope k g = opening heap scope_kind.Plain k g
heap-call addon heap call.OpenEscapableHandleScope k g = opening heap scope_kind.Escapable k g
heap-call addon heap (call.CloseHandleScope s) k g = closing heap g
heap-call addon heap (call.CloseEscapableHandleScope s) k g = closing heap g
heap-call addon heap (call.EscapeHandle s h) k g = escaping heap s.0 (handle_value heap h.0) (handle-live heap h.0 g) g
heap-call addon heap c k g = unchanged heap g
