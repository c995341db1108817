-- The calls on properties and elements: what they answer and leave where nothing refuses them, the kinds that they expect, and their own refusals.
use Rattle.std.specs.Option.{unwrap_or}
use Rattle.std.specs.Prelude.{true, List, map, Option, Some, None, is_some, length, nat_lt}
use Rattle.napi_types.specs.declared.call.Call.{Call}
use Rattle.napi_types.specs.declared.call.Call.TheVariants as call
use Rattle.napi_types.specs.declared.body.Body.{Body}
use Rattle.napi_types.specs.declared.body.Body.TheVariants as body
use Rattle.napi_types.specs.declared.entry.Out.TheVariants as out
use Rattle.napi_types.specs.declared.status.Status.{Status}
use Rattle.napi_types.specs.declared.status.Status.TheVariants as status
use Rattle.napi_types.specs.plain.Lists.{when}
use Rattle.napi_types.specs.plain.Replies.{Answer, accepts}
use Rattle.napi_types.specs.parts.Bodies.{is_object_like}
use Rattle.napi_types.specs.parts.Heap.{Heap, handle_value, handle_properties, handle_elements}
use Rattle.napi_types.specs.parts.HeapChanges.{handle_of, new_list, with_changed}
use Rattle.napi_types.specs.parts.HeapGroup.{HeapGroup}
use Rattle.napi_types.specs.parts.Kinds.{expects}
use Rattle.napi_types.specs.parts.Properties.{Property, property_at, element_at, most_names, most_index}
use Rattle.napi_types.specs.parts.Values.{undefined_value, with_property, without_property, with_element}

-- the names of properties, as strings, in the order in which they were first set
abbrev pub names_of : List Property → List Body
names_of ps = map (λ p. body.Str (record { 0 = p.name })) ps

-- an absent property or element reads as undefined; a name that is deleted may be absent
abbrev pub on_properties : Heap → Call → Option (Answer Heap)
on_properties heap (call.SetNamedProperty h name v) = Some (accepts out.Nothing (with_changed h.0 (with_property name.0 (handle_value heap v.0)) heap))
on_properties heap (call.GetNamedProperty h name) = Some (handle_of (unwrap_or (property_at name.0 (handle_properties heap h.0)) undefined_value) heap)
on_properties heap (call.HasNamedProperty h name) = Some (accepts (out.Flag (is_some (property_at name.0 (handle_properties heap h.0)))) heap)
on_properties heap (call.DeleteProperty h name) = Some (accepts (out.Flag true) (with_changed h.0 (without_property name.0) heap))
on_properties heap (call.GetPropertyNames h) = Some (new_list (names_of (handle_properties heap h.0)) heap)
on_properties heap (call.SetElement h at v) = Some (accepts out.Nothing (with_changed h.0 (with_element at (handle_value heap v.0)) heap))
on_properties heap (call.GetElement h at) = Some (handle_of (unwrap_or (element_at at (handle_elements heap h.0)) undefined_value) heap)
on_properties heap (call.HasElement h at) = Some (accepts (out.Flag (is_some (element_at at (handle_elements heap h.0)))) heap)
on_properties heap _ = None

-- THEIR OWN REFUSALS
-- each of them expects an object
abbrev pub property_kinds : Heap → Call → Option Status
property_kinds heap (call.SetNamedProperty h _ _) = expects heap h is_object_like status.ObjectExpected
property_kinds heap (call.GetNamedProperty h _) = expects heap h is_object_like status.ObjectExpected
property_kinds heap (call.HasNamedProperty h _) = expects heap h is_object_like status.ObjectExpected
property_kinds heap (call.DeleteProperty h _) = expects heap h is_object_like status.ObjectExpected
property_kinds heap (call.GetPropertyNames h) = expects heap h is_object_like status.ObjectExpected
property_kinds heap (call.SetElement h _ _) = expects heap h is_object_like status.ObjectExpected
property_kinds heap (call.GetElement h _) = expects heap h is_object_like status.ObjectExpected
property_kinds heap (call.HasElement h _) = expects heap h is_object_like status.ObjectExpected
property_kinds heap _ = None

-- an object with more than 65,536 names is not listed, and an element's index is at most 65,535
abbrev pub property_refusal : Heap → Call → Option Status
property_refusal heap (call.GetPropertyNames h) = when (nat_lt most_names (length (handle_properties heap h.0))) status.InvalidArg
property_refusal heap (call.SetElement _ at _) = when (nat_lt most_index at) status.InvalidArg
property_refusal heap _ = None

-- what the heap tells of these calls, which is all
abbrev pub properties_in_heap : HeapGroup
properties_in_heap = record { expects = property_kinds; refuses = property_refusal; answers = λ heap c n. on_properties heap c }
