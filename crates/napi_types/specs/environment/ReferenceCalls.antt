-- The calls on references: what refuses them, and what they answer and leave where nothing does.
use Rattle.std.specs.Option.{option_or}
use Rattle.std.specs.Prelude.{ℕ, ◌+◌, ◌-◌, ◌||◌, Option, Some, None}
use Rattle.napi_types.specs.declared.call.Call.{Call}
use Rattle.napi_types.specs.declared.call.Call.TheVariants as call
use Rattle.napi_types.specs.declared.entry.Out.TheVariants as out
use Rattle.napi_types.specs.declared.status.Status.{Status}
use Rattle.napi_types.specs.declared.status.Status.TheVariants as status
use Rattle.napi_types.specs.plain.Lists.{unless}
use Rattle.napi_types.specs.plain.Numbers.{is_ten_or_later}
use Rattle.napi_types.specs.plain.Replies.{Answer, accepts}
use Rattle.napi_types.specs.parts.Bodies.{is_referable}
use Rattle.napi_types.specs.parts.Heap.{handle_value, handle_body}
use Rattle.napi_types.specs.parts.HeapChanges.{handle_of}
use Rattle.napi_types.specs.parts.ReferenceRefusals.{reference_refusal}
use Rattle.napi_types.specs.parts.References.{ReferenceMap, referred_value, reference_count, with_reference, without_reference, with_count}
use Rattle.napi_types.specs.environment.Environment.{Environment, in_heap}
use Rattle.napi_types.specs.environment.Group.{Group}

-- an environment with other references
abbrev pub with_references : ReferenceMap → Environment → Environment
with_references m e = record e { references = m }

-- the count of a reference, and the reply that tells it
abbrev pub count_told : ℕ → ℕ → Environment → Answer Environment
count_told r count e = accepts (out.Unsigned count) (with_references (with_count r count e.references) e)

-- a reference is counted up, where its value was not collected; else nothing changes, and its count is told as 0
abbrev pub counted_up : ℕ → Environment → Option ℕ → Answer Environment
counted_up r e None = accepts (out.Unsigned 0) e
counted_up r e (Some v) = count_told r (reference_count e.references r + 1) e

-- a new handle of a reference's value; none where it was collected
abbrev pub value_told : Environment → Option ℕ → Answer Environment
value_told e None = accepts out.NoHandle e
value_told e (Some v) = in_heap e (handle_of v e.heap)

-- `create_reference` makes a reference of the number n to the value of a handle; `delete_reference` ends one; `reference_ref` and `reference_unref` count
-- one up and down; `get_reference_value` gives its value a new handle
abbrev pub on_references : Environment → Call → ℕ → Option (Answer Environment)
on_references e (call.CreateReference h count) n =
    Some (accepts (out.Ref (record { 0 = n })) (with_references (with_reference n (handle_value e.heap h.0) count e.references) e))
on_references e (call.DeleteReference r) n = Some (accepts out.Nothing (with_references (without_reference r.0 e.references) e))
on_references e (call.ReferenceRef r) n = Some (counted_up r.0 e (referred_value e.references r.0))
on_references e (call.ReferenceUnref r) n = Some (count_told r.0 (reference_count e.references r.0 - 1) e)
on_references e (call.GetReferenceValue r) n = Some (value_told e (referred_value e.references r.0))
on_references e _ n = None

-- at version 9 a reference is made to an object, a function, an external or a symbol alone, from version 10 on to a value of any kind. The call that makes one
-- names none, so whether this or `reference_refusal` is asked first shows nowhere
abbrev pub referring_refusal : Environment → Call → Option Status
referring_refusal e (call.CreateReference h _) = unless (is_ten_or_later e.version || is_referable (handle_body e.heap h.0)) status.InvalidArg
referring_refusal e _ = None

-- what the environment tells of these calls
abbrev pub reference_calls : Group
reference_calls = record { refuses = λ e c. option_or (referring_refusal e c) (reference_refusal e.references c); answers = on_references }
