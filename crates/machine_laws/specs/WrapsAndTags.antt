-- An object is wrapped once at a time and tagged once, an external is neither, and a collection takes the wrap and the tag of what it frees.
use Rattle.std.specs.Prelude.{◌≡◌, ℕ, Bool, true, false, List, [], ◌∷◌, ◌++◌, set, None, codes}
use Rattle.napi_types.specs.declared.call.Call.TheVariants as call
use Rattle.napi_types.specs.declared.op.Op.TheVariants as op
use Rattle.napi_types.specs.declared.entry.Entry.{Entry}
use Rattle.napi_types.specs.declared.entry.Out.TheVariants as out
use Rattle.napi_types.specs.declared.status.Status.{Status}
use Rattle.napi_types.specs.declared.status.Status.TheVariants as status
use Rattle.napi_types.specs.plain.Texts.{fixed_texts}
use Rattle.napi_types.specs.parts.Attachments.{no_attachments}
use Rattle.napi_types.specs.scripts.Text.{text}
use Rattle.napi_types.specs.runs.Setting.{Setting, final_of}
use Rattle.machine_laws.specs.RunWords.{script_of, call_at, run_of_calls, opening_lines, handle}
use Rattle.machine_laws.specs.LegalRuns.{IsRun, told_asks}

-- in a scope the script makes an object, wraps it and wraps it again, and tags it and tags it again; it asks an external for its payload and for that tag; it
-- removes the wrap, asks for it and wraps the object anew; then it closes the scope and collects
abbrev pub setting : Setting
setting = script_of (
    op.OpenHandleScope 0
    ∷ op.CreateObject 1
    ∷ op.Wrap 1 7 None 0 None
    ∷ op.Wrap 1 8 None 0 None
    ∷ op.Unwrap 1 2
    ∷ op.TypeTagObject 1 10 20
    ∷ op.TypeTagObject 1 10 21
    ∷ op.CheckObjectTypeTag 1 10 20 3
    ∷ op.CreateExternal 5 None 0 4
    ∷ op.GetValueExternal 4 2
    ∷ op.CheckObjectTypeTag 4 10 20 3
    ∷ op.RemoveWrap 1 2
    ∷ op.Unwrap 1 2
    ∷ op.Wrap 1 9 None 0 None
    ∷ op.CloseHandleScope 0
    ∷ op.Collect 2
    ∷ []
    )

-- the second wrap, with this status
abbrev pub wrapped_again : Status → Entry
wrapped_again s = call_at 3 (call.Wrap (handle 1) 8 None 0 false) s out.Nothing

-- what the wrap then gives
abbrev pub unwrapped : ℕ → Entry
unwrapped n = call_at 4 (call.Unwrap (handle 1)) status.Ok (out.Unsigned n)

-- whether the external has the object's tag
abbrev pub external_checked : Bool → Entry
external_checked b = call_at 10 (call.CheckObjectTypeTag (handle 2) 10 20) status.Ok (out.Flag b)

-- the whole run
abbrev pub trace : List Entry
trace = run_of_calls (
    call_at 0 call.OpenHandleScope status.Ok (out.Scope (record { 0 = 1 }))
    ∷ call_at 1 call.CreateObject status.Ok (out.Handle (handle 1))
    ∷ call_at 2 (call.Wrap (handle 1) 7 None 0 false) status.Ok out.Nothing
    ∷ wrapped_again status.InvalidArg
    ∷ unwrapped 7
    ∷ call_at 5 (call.TypeTagObject (handle 1) 10 20) status.Ok out.Nothing
    ∷ call_at 6 (call.TypeTagObject (handle 1) 10 21) status.InvalidArg out.Nothing
    ∷ call_at 7 (call.CheckObjectTypeTag (handle 1) 10 20) status.Ok (out.Flag true)
    ∷ call_at 8 (call.CreateExternal 5 None 0) status.Ok (out.Handle (handle 2))
    ∷ call_at 9 (call.GetValueExternal (handle 2)) status.Ok (out.Unsigned 5)
    ∷ external_checked false
    ∷ call_at 11 (call.RemoveWrap (handle 1)) status.Ok (out.Unsigned 7)
    ∷ call_at 12 (call.Unwrap (handle 1)) status.InvalidArg out.Nothing
    ∷ call_at 13 (call.Wrap (handle 1) 9 None 0 false) status.Ok out.Nothing
    ∷ call_at 14 (call.CloseHandleScope (record { 0 = 1 })) status.Ok out.Nothing
    ∷ call_at 15 call.Collect status.Ok (out.Unsigned 2)
    ∷ []
    )

-- their text is these twenty-four lines
abbrev pub Prints : Type 0
Prints = text fixed_texts trace ≡
    opening_lines
    ++ codes "3 env open_handle_scope 0 scope\n"
    ++ codes "4 env create_object 0 handle\n"
    ++ codes "5 env wrap 0 -\n"
    ++ codes "6 env wrap 1 -\n"
    ++ codes "7 env unwrap 0 7\n"
    ++ codes "8 env type_tag_object 0 -\n"
    ++ codes "9 env type_tag_object 1 -\n"
    ++ codes "10 env check_object_type_tag 0 true\n"
    ++ codes "11 env create_external 0 handle\n"
    ++ codes "12 env get_value_external 0 5\n"
    ++ codes "13 env check_object_type_tag 0 false\n"
    ++ codes "14 env remove_wrap 0 7\n"
    ++ codes "15 env unwrap 1 -\n"
    ++ codes "16 env wrap 0 -\n"
    ++ codes "17 env close_handle_scope 0 -\n"
    ++ codes "18 env collect 0 2\n"
    ++ codes "19 env end 0 -\n"
    ++ codes "20 env go 0 -\n"
    ++ codes "21 env loop_end 0 idle\n"
    ++ codes "22 env drain 0 0\n"
    ++ codes "23 env finals 0 -\n"
    ++ codes "24 env gone 0 -\n"

-- near misses are no runs
pub record IsStrict : Type 0 where
  -- the second wrap has no other status, and the wrap gives no other payload than the first
  pub once : (s : Status) → IsRun setting (set trace 5 (wrapped_again s)) → s ≡ status.InvalidArg
  pub payload : (n : ℕ) → IsRun setting (set trace 6 (unwrapped n)) → n ≡ 7
  -- a value without a tag does not have that of another one
  pub untagged : (b : Bool) → IsRun setting (set trace 12 (external_checked b)) → b ≡ false
  -- the collection frees the object, and leaves neither its wrap nor its tag
  pub freed : (final_of setting (told_asks setting trace) trace).env.attachments ≡ no_attachments
