-- Properties and elements: names in the order of their first setting, what is absent, and what is refused.
use Rattle.std.specs.Prelude.{◌≡◌, ℕ, true, List, [], ◌∷◌, ◌++◌, set, codes, pos, negsuc}
use Rattle.napi_types.specs.declared.call.Call.TheVariants as call
use Rattle.napi_types.specs.declared.op.Op.TheVariants as op
use Rattle.napi_types.specs.declared.entry.Entry.{Entry}
use Rattle.napi_types.specs.declared.entry.Out.TheVariants as out
use Rattle.napi_types.specs.declared.ids.TextNo.{TextNo}
use Rattle.napi_types.specs.declared.status.Kind.{Kind}
use Rattle.napi_types.specs.declared.status.Kind.TheVariants as kind
use Rattle.napi_types.specs.declared.status.Status.{Status}
use Rattle.napi_types.specs.declared.status.Status.TheVariants as status
use Rattle.napi_types.specs.plain.Texts.{fixed_texts}
use Rattle.napi_types.specs.scripts.Text.{text}
use Rattle.napi_types.specs.runs.Setting.{Setting}
use Rattle.machine_laws.specs.RunWords.{script_of, call_at, run_of_calls, opening_lines, handle}
use Rattle.machine_laws.specs.LegalRuns.{IsRun}

-- the texts: after the fixed ones the three names
abbrev pub texts : List (List ℕ)
texts = fixed_texts ++ codes "b" ∷ codes "a" ∷ codes "zz" ∷ []

-- the script sets `b`, `a` and `b` again, lists the names, reads an absent one, and makes three calls that are refused
abbrev pub setting : Setting
setting = record (script_of (
    op.CreateObject 0
    ∷ op.CreateInt64 (negsuc 2) 1
    ∷ op.SetNamedProperty 0 (record { 0 = 3 }) 1
    ∷ op.SetNamedProperty 0 (record { 0 = 4 }) 1
    ∷ op.SetNamedProperty 0 (record { 0 = 3 }) 0
    ∷ op.GetPropertyNames 0 2
    ∷ op.GetArrayLength 2 3
    ∷ op.GetElement 2 0 4
    ∷ op.GetValueStringUtf8 4 5
    ∷ op.DeleteProperty 0 (record { 0 = 5 }) 6
    ∷ op.GetNamedProperty 0 (record { 0 = 5 }) 7
    ∷ op.Typeof 7 8
    ∷ op.SetElement 0 65536 1
    ∷ op.GetValueBool 1 9
    ∷ op.CreateInt64 (pos 9007199254740992) 9
    ∷ []
    )) { texts = 6 }

abbrev pub name : ℕ → TextNo
name n = record { 0 = n }

-- the reading of the first name, with this text as its result
abbrev pub first_name : ℕ → Entry
first_name t = call_at 8 (call.GetValueStringUtf8 (handle 4)) status.Ok (out.Text (name t))

-- the kind of what an absent name gives
abbrev pub absent_kind : Kind → Entry
absent_kind k = call_at 11 (call.Typeof (handle 5)) status.Ok (out.Kind k)

-- the setting of an element past the greatest index, and the reading of a number as a boolean, with these statuses
abbrev pub element_refused : Status → Entry
element_refused s = call_at 12 (call.SetElement (handle 1) 65536 (handle 2)) s out.Nothing

abbrev pub boolean_refused : Status → Entry
boolean_refused s = call_at 13 (call.GetValueBool (handle 2)) s out.Nothing

-- the whole run
abbrev pub trace : List Entry
trace = run_of_calls (
    call_at 0 call.CreateObject status.Ok (out.Handle (handle 1))
    ∷ call_at 1 (call.CreateInt64 (negsuc 2)) status.Ok (out.Handle (handle 2))
    ∷ call_at 2 (call.SetNamedProperty (handle 1) (name 3) (handle 2)) status.Ok out.Nothing
    ∷ call_at 3 (call.SetNamedProperty (handle 1) (name 4) (handle 2)) status.Ok out.Nothing
    ∷ call_at 4 (call.SetNamedProperty (handle 1) (name 3) (handle 1)) status.Ok out.Nothing
    ∷ call_at 5 (call.GetPropertyNames (handle 1)) status.Ok (out.Handle (handle 3))
    ∷ call_at 6 (call.GetArrayLength (handle 3)) status.Ok (out.Unsigned 2)
    ∷ call_at 7 (call.GetElement (handle 3) 0) status.Ok (out.Handle (handle 4))
    ∷ first_name 3
    ∷ call_at 9 (call.DeleteProperty (handle 1) (name 5)) status.Ok (out.Flag true)
    ∷ call_at 10 (call.GetNamedProperty (handle 1) (name 5)) status.Ok (out.Handle (handle 5))
    ∷ absent_kind kind.Undefined
    ∷ element_refused status.InvalidArg
    ∷ boolean_refused status.BooleanExpected
    ∷ call_at 14 (call.CreateInt64 (pos 9007199254740992)) status.InvalidArg out.Nothing
    ∷ []
    )

-- their text is these lines
abbrev pub Prints : Type 0
Prints = text texts trace ≡
    opening_lines
    ++ codes "3 env create_object 0 handle\n"
    ++ codes "4 env create_int64 0 handle\n"
    ++ codes "5 env set_named_property 0 -\n"
    ++ codes "6 env set_named_property 0 -\n"
    ++ codes "7 env set_named_property 0 -\n"
    ++ codes "8 env get_property_names 0 handle\n"
    ++ codes "9 env get_array_length 0 2\n"
    ++ codes "10 env get_element 0 handle\n"
    ++ codes "11 env get_value_string_utf8 0 \"b\"\n"
    ++ codes "12 env delete_property 0 true\n"
    ++ codes "13 env get_named_property 0 handle\n"
    ++ codes "14 env typeof 0 undefined\n"
    ++ codes "15 env set_element 1 -\n"
    ++ codes "16 env get_value_bool 7 -\n"
    ++ codes "17 env create_int64 1 -\n"
    ++ codes "18 env end 0 -\n"
    ++ codes "19 env go 0 -\n"
    ++ codes "20 env loop_end 0 idle\n"
    ++ codes "21 env drain 0 0\n"
    ++ codes "22 env finals 0 -\n"
    ++ codes "23 env gone 0 -\n"

-- NEAR MISSES, whatever is asked along them
pub record IsStrict : Type 0 where
  -- the first name is the one that was set first, also where it was set again
  pub first : (t : ℕ) → IsRun setting (set trace 10 (first_name t)) → t ≡ 3
  -- an absent name gives undefined
  pub absent : (k : Kind) → IsRun setting (set trace 13 (absent_kind k)) → k ≡ kind.Undefined
  -- an index past the greatest, and a value of another kind, have no other status
  pub index : (s : Status) → IsRun setting (set trace 14 (element_refused s)) → s ≡ status.InvalidArg
  pub other : (s : Status) → IsRun setting (set trace 15 (boolean_refused s)) → s ≡ status.BooleanExpected
