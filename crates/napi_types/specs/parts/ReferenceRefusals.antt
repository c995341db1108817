-- The refusals of a call that names a reference.
use Rattle.std.specs.List.{list_all}
use Rattle.std.specs.Option.{option_or}
use Rattle.std.specs.Prelude.{ℕ, ◌==◌, ◌&&◌, List, Option, None, is_some}
use Rattle.napi_types.specs.declared.call.Call.{Call}
use Rattle.napi_types.specs.declared.status.Status.{Status}
use Rattle.napi_types.specs.declared.call.Call.TheVariants as call
use Rattle.napi_types.specs.declared.status.Status.TheVariants as status
use Rattle.napi_types.specs.plain.CallFacts.{facts_of}
use Rattle.napi_types.specs.plain.Lists.{when, unless}
use Rattle.napi_types.specs.parts.References.{ReferenceMap, has_reference, referred_value, reference_count, most_count}

-- the references that a call names. No call names a handle or a text beside one
abbrev pub references_of : Call → List ℕ
references_of c = (facts_of c).references

-- one that was deleted, and one that was never made, is an invalid argument
abbrev pub unknown_reference : ReferenceMap → Call → Option Status
unknown_reference m c = unless (list_all (has_reference m) (references_of c)) status.InvalidArg

-- a reference is not counted above the greatest count, where its value was not collected, nor below 0
abbrev pub count_refusal : ReferenceMap → Call → Option Status
count_refusal m (call.ReferenceRef r) = when (is_some (referred_value m r.0) && (reference_count m r.0 == most_count)) status.GenericFailure
count_refusal m (call.ReferenceUnref r) = when (reference_count m r.0 == 0) status.GenericFailure
count_refusal m _ = None

-- the first of both that applies
abbrev pub reference_refusal : ReferenceMap → Call → Option Status
reference_refusal m c = option_or (unknown_reference m c) (count_refusal m c)
