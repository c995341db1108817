-- The calls on values: what they answer and leave where nothing refuses them, the kinds of value that they expect, and their own refusals.
use Rattle.std.specs.Option.{option_or}
use Rattle.std.specs.Prelude.{true, false, cond, length, Option, Some, None, option_map, ◌&&◌, pos, negsuc, int_le}
use Rattle.napi_types.specs.declared.call.Call.{Call}
use Rattle.napi_types.specs.declared.call.Call.TheVariants as call
use Rattle.napi_types.specs.declared.body.Body.TheVariants as body
use Rattle.napi_types.specs.declared.entry.Out.TheVariants as out
use Rattle.napi_types.specs.declared.status.Status.{Status}
use Rattle.napi_types.specs.declared.status.Status.TheVariants as status
use Rattle.napi_types.specs.plain.Lists.{unless}
use Rattle.napi_types.specs.plain.Replies.{Answer, accepts}
use Rattle.napi_types.specs.parts.Bodies.{kind_of, is_array, is_error_body, is_promise_body, signed_of, flag_of, text_of, external_payload, strictly_equal, is_string, is_number, is_bigint, is_boolean, is_external}
use Rattle.napi_types.specs.parts.Heap.{Heap, handle_value, handle_body, handle_elements}
use Rattle.napi_types.specs.parts.HeapChanges.{handle_of, new_value, new_error}
use Rattle.napi_types.specs.parts.HeapGroup.{HeapGroup}
use Rattle.napi_types.specs.parts.Kinds.{expects, expects_if}
use Rattle.napi_types.specs.parts.Values.{undefined_value, null_value, true_value, false_value, global_value}

-- `get_*` of a starting value gives a new handle of it; `create_*` makes a value and gives its handle; the others tell what a handle's value is
abbrev pub on_values : Heap → Call → Option (Answer Heap)
on_values heap call.GetUndefined = Some (handle_of undefined_value heap)
on_values heap call.GetNull = Some (handle_of null_value heap)
on_values heap call.GetGlobal = Some (handle_of global_value heap)
on_values heap (call.GetBoolean b) = Some (handle_of (cond b true_value false_value) heap)
on_values heap (call.CreateInt64 i) = Some (new_value (body.Number i) heap)
on_values heap (call.CreateBigintInt64 i) = Some (new_value (body.Bigint i) heap)
on_values heap (call.CreateStringUtf8 t) = Some (new_value (body.Str t) heap)
on_values heap (call.CreateSymbol h) = Some (new_value (body.Symbol (option_map (λ d. text_of (handle_body heap d.0)) h)) heap)
on_values heap call.CreateObject = Some (new_value (body.Object false false) heap)
on_values heap call.CreateArray = Some (new_value (body.Object true false) heap)
on_values heap (call.CreateError code message) = Some (new_error (option_map (λ h. handle_value heap h.0) code) (handle_value heap message.0) heap)
on_values heap (call.Typeof h) = Some (accepts (out.Kind (kind_of (handle_body heap h.0))) heap)
on_values heap (call.IsArray h) = Some (accepts (out.Flag (is_array (handle_body heap h.0))) heap)
on_values heap (call.IsError h) = Some (accepts (out.Flag (is_error_body (handle_body heap h.0))) heap)
on_values heap (call.IsPromise h) = Some (accepts (out.Flag (is_promise_body (handle_body heap h.0))) heap)
on_values heap (call.GetValueInt64 h) = Some (accepts (out.Signed (signed_of (handle_body heap h.0))) heap)
on_values heap (call.GetValueBigintInt64 h) = Some (accepts (out.Signed (signed_of (handle_body heap h.0))) heap)
on_values heap (call.GetValueBool h) = Some (accepts (out.Flag (flag_of (handle_body heap h.0))) heap)
on_values heap (call.GetValueStringUtf8 h) = Some (accepts (out.Text (text_of (handle_body heap h.0))) heap)
on_values heap (call.GetValueExternal h) = Some (accepts (out.Unsigned (external_payload (handle_body heap h.0))) heap)
on_values heap (call.GetArrayLength h) = Some (accepts (out.Unsigned (length (handle_elements heap h.0))) heap)
on_values heap (call.StrictEquals g h) =
    Some (accepts (out.Flag (strictly_equal (handle_body heap g.0) (handle_value heap g.0) (handle_body heap h.0) (handle_value heap h.0))) heap)
on_values heap _ = None

-- THEIR OWN REFUSALS
-- the kinds of value that they expect
abbrev pub value_kinds : Heap → Call → Option Status
value_kinds heap (call.CreateSymbol h) = expects_if heap h is_string status.StringExpected
value_kinds heap (call.CreateError code message) =
    option_or (expects_if heap code is_string status.StringExpected) (expects heap message is_string status.StringExpected)
value_kinds heap (call.GetValueInt64 h) = expects heap h is_number status.NumberExpected
value_kinds heap (call.GetValueBigintInt64 h) = expects heap h is_bigint status.BigintExpected
value_kinds heap (call.GetValueBool h) = expects heap h is_boolean status.BooleanExpected
value_kinds heap (call.GetValueStringUtf8 h) = expects heap h is_string status.StringExpected
value_kinds heap (call.GetArrayLength h) = expects heap h is_array status.ArrayExpected
value_kinds heap _ = None

-- a number is a whole number from -(2^53-1) to 2^53-1, and only an external is read as one
abbrev pub value_refusal : Heap → Call → Option Status
value_refusal heap (call.CreateInt64 i) = unless (int_le (negsuc 9007199254740990) i && int_le i (pos 9007199254740991)) status.InvalidArg
value_refusal heap (call.GetValueExternal h) = unless (is_external (handle_body heap h.0)) status.InvalidArg
value_refusal heap _ = None

-- what the heap tells of these calls, which is all
abbrev pub values_in_heap : HeapGroup
values_in_heap = record { expects = value_kinds; refuses = value_refusal; answers = λ heap c n. on_values heap c }
