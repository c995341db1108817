-- An external with a finalizer, an object with two, and a type tag on each: nothing is collected, so the finalizers begin after `finals`, in the order of
-- their tickets. There a guarded call is refused.
use Rattle.std.specs.Prelude.{◌≡◌, ℕ, Bool, List, [], ◌∷◌, ◌++◌, set, Some, None, true, false, codes}
use Rattle.napi_types.specs.declared.call.Call.TheVariants as call
use Rattle.napi_types.specs.declared.op.Op.TheVariants as op
use Rattle.napi_types.specs.declared.entry.Entry.{Entry}
use Rattle.napi_types.specs.declared.entry.Out.TheVariants as out
use Rattle.napi_types.specs.declared.status.Status.{Status}
use Rattle.napi_types.specs.declared.status.Status.TheVariants as status
use Rattle.napi_types.specs.plain.Texts.{fixed_texts}
use Rattle.napi_types.specs.scripts.Text.{text}
use Rattle.napi_types.specs.runs.Setting.{Setting}
use Rattle.machine_laws.specs.RunWords.{script_of_entries, call_at, call_making, ticket, finalizer_begins, finalizer_runs, run_of_finalizers, opening_lines, handle, reference}
use Rattle.machine_laws.specs.LegalRuns.{IsRun}

-- in a scope the script makes an external with a finalizer, reads it and tags it; it makes an object, tags it twice and asks for another tag; it adds two
-- finalizers, the second with a reference, which it deletes; it asks for a wrap, and closes the scope. The finalizers run the second entry, which compares
-- two handles of the number that its data is
abbrev pub setting : Setting
setting = script_of_entries (
    (op.OpenHandleScope 0
    ∷ op.CreateExternal 9 (Some 1) 0 1
    ∷ op.GetValueExternal 1 2
    ∷ op.TypeTagObject 1 1 2
    ∷ op.CreateObject 2
    ∷ op.TypeTagObject 2 1 2
    ∷ op.TypeTagObject 2 1 2
    ∷ op.CheckObjectTypeTag 2 1 3 3
    ∷ op.AddFinalizer 2 4 1 0 None
    ∷ op.AddFinalizer 2 5 1 0 (Some 4)
    ∷ op.DeleteReference 4
    ∷ op.Unwrap 2 5
    ∷ op.CloseHandleScope 0
    ∷ [])
    ∷ (op.StrictEquals 24 24 6 ∷ [])
    ∷ []
    )

-- whether the object has the other tag
abbrev pub checked : Bool → Entry
checked b = call_at 7 (call.CheckObjectTypeTag (handle 2) 1 3) status.Ok (out.Flag b)

-- the comparison of two handles of this number, with this status
abbrev pub compared : ℕ → Status → Entry
compared n s = call_at 0 (call.StrictEquals (handle n) (handle n)) s out.Nothing

-- one that is accepted, with what it tells
abbrev pub compared_so : ℕ → Bool → Entry
compared_so n b = call_at 0 (call.StrictEquals (handle n) (handle n)) status.Ok (out.Flag b)

-- the run whose finalizers have these frames in the loop, and these after `finals`
abbrev pub trace_with : List Entry → List Entry → List Entry
trace_with in_loop at_end = run_of_finalizers (
    call_at 0 call.OpenHandleScope status.Ok (out.Scope (record { 0 = 1 }))
    ∷ call_making 1 (call.CreateExternal 9 (Some 1) 0) status.Ok (out.Handle (handle 1)) (ticket 1)
    ∷ call_at 2 (call.GetValueExternal (handle 1)) status.Ok (out.Unsigned 9)
    ∷ call_at 3 (call.TypeTagObject (handle 1) 1 2) status.Ok out.Nothing
    ∷ call_at 4 call.CreateObject status.Ok (out.Handle (handle 2))
    ∷ call_at 5 (call.TypeTagObject (handle 2) 1 2) status.Ok out.Nothing
    ∷ call_at 6 (call.TypeTagObject (handle 2) 1 2) status.InvalidArg out.Nothing
    ∷ checked false
    ∷ call_making 8 (call.AddFinalizer (handle 2) 4 1 0 false) status.Ok out.Nothing (ticket 2)
    ∷ call_making 9 (call.AddFinalizer (handle 2) 5 1 0 true) status.Ok (out.Ref (reference 1)) (ticket 3)
    ∷ call_at 10 (call.DeleteReference (reference 1)) status.Ok out.Nothing
    ∷ call_at 11 (call.Unwrap (handle 2)) status.InvalidArg out.Nothing
    ∷ call_at 12 (call.CloseHandleScope (record { 0 = 1 })) status.Ok out.Nothing
    ∷ []
    ) in_loop at_end

-- the frame of a ticket that is given this data
abbrev pub runs : ℕ → ℕ → List Entry
runs n payload = finalizer_runs n (compared payload status.PendingException ∷ [])

-- the whole run
abbrev pub trace : List Entry
trace = trace_with [] (runs 1 9 ++ runs 2 4 ++ runs 3 5)

-- their text is these thirty lines
abbrev pub Prints : Type 0
Prints = text fixed_texts trace ≡
    opening_lines
    ++ codes "3 env open_handle_scope 0 scope\n"
    ++ codes "4 env create_external 0 handle +#1\n"
    ++ codes "5 env get_value_external 0 9\n"
    ++ codes "6 env type_tag_object 0 -\n"
    ++ codes "7 env create_object 0 handle\n"
    ++ codes "8 env type_tag_object 0 -\n"
    ++ codes "9 env type_tag_object 1 -\n"
    ++ codes "10 env check_object_type_tag 0 false\n"
    ++ codes "11 env add_finalizer 0 - +#2\n"
    ++ codes "12 env add_finalizer 0 ref +#3\n"
    ++ codes "13 env delete_reference 0 -\n"
    ++ codes "14 env unwrap 1 -\n"
    ++ codes "15 env close_handle_scope 0 -\n"
    ++ codes "16 env end 0 -\n"
    ++ codes "17 env go 0 -\n"
    ++ codes "18 env loop_end 0 idle\n"
    ++ codes "19 env drain 0 0\n"
    ++ codes "20 env finals 0 -\n"
    ++ codes "21 env begin 0 finalize:0.1:#1\n"
    ++ codes "22 env strict_equals 10 -\n"
    ++ codes "23 env end 0 -\n"
    ++ codes "24 env begin 0 finalize:0.1:#2\n"
    ++ codes "25 env strict_equals 10 -\n"
    ++ codes "26 env end 0 -\n"
    ++ codes "27 env begin 0 finalize:0.1:#3\n"
    ++ codes "28 env strict_equals 10 -\n"
    ++ codes "29 env end 0 -\n"
    ++ codes "30 env gone 0 -\n"

-- near misses are no runs
pub record IsStrict : Type 0 where
  -- the object has its own tag and not the other
  pub tag : (b : Bool) → IsRun setting (set trace 9 (checked b)) → b ≡ false
  -- no finalizer begins before `finals`, ..
  pub early : (n : ℕ) → IsRun setting (trace_with (runs n 9) (runs 2 4 ++ runs 3 5)) → ⊥
  -- .. and then they begin in the order of their tickets
  pub first : (n : ℕ) → IsRun setting (set trace 20 (finalizer_begins n)) → n ≡ 1
  pub second : (n : ℕ) → IsRun setting (set trace 23 (finalizer_begins n)) → n ≡ 2
  pub third : (n : ℕ) → IsRun setting (set trace 26 (finalizer_begins n)) → n ≡ 3
  -- the environment is not gone before the last has begun
  pub last : IsRun setting (trace_with [] (runs 1 9 ++ runs 2 4)) → ⊥
  -- a finalizer is given its data, and its guarded call has no other status and tells nothing
  pub payload : (n : ℕ) → IsRun setting (set trace 21 (compared n status.PendingException)) → n ≡ 9
  pub guarded : (s : Status) → IsRun setting (set trace 21 (compared 9 s)) → s ≡ status.PendingException
  pub untold : (b : Bool) → IsRun setting (set trace 21 (compared_so 9 b)) → ⊥
