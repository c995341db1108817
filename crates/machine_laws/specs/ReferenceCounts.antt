-- The greatest count of a reference, a reference that is deleted twice, and what no reference is to.
use Rattle.std.specs.Prelude.{◌≡◌, ℕ, pos, List, [], ◌∷◌, ◌++◌, set, codes}
use Rattle.napi_types.specs.declared.call.Call.TheVariants as call
use Rattle.napi_types.specs.declared.op.Op.TheVariants as op
use Rattle.napi_types.specs.declared.entry.Entry.{Entry}
use Rattle.napi_types.specs.declared.entry.Out.{Out}
use Rattle.napi_types.specs.declared.entry.Out.TheVariants as out
use Rattle.napi_types.specs.declared.status.Status.{Status}
use Rattle.napi_types.specs.declared.status.Status.TheVariants as status
use Rattle.napi_types.specs.plain.Texts.{fixed_texts}
use Rattle.napi_types.specs.scripts.Text.{text}
use Rattle.napi_types.specs.runs.Setting.{Setting}
use Rattle.machine_laws.specs.RunWords.{script_of, call_at, run_of_calls, opening_lines, handle, reference}
use Rattle.machine_laws.specs.LegalRuns.{IsRun}

-- the script makes an object and a reference to it with the greatest count, counts it up and down, deletes it twice, and makes a reference to a number
abbrev pub setting : Setting
setting = script_of (
    op.CreateObject 0
    ∷ op.CreateReference 0 4294967295 1
    ∷ op.ReferenceRef 1 2
    ∷ op.ReferenceUnref 1 2
    ∷ op.DeleteReference 1
    ∷ op.DeleteReference 1
    ∷ op.CreateInt64 (pos 1) 3
    ∷ op.CreateReference 3 0 4
    ∷ []
    )

-- the counting up from the greatest count, with this status and this result
abbrev pub count_up_entry : Status → Out → Entry
count_up_entry s o = call_at 2 (call.ReferenceRef (reference 1)) s o

-- the counting down, which tells this count
abbrev pub down_told : ℕ → Entry
down_told n = call_at 3 (call.ReferenceUnref (reference 1)) status.Ok (out.Unsigned n)

-- the second deletion, with this status
abbrev pub deleted_again : Status → Entry
deleted_again s = call_at 5 (call.DeleteReference (reference 1)) s out.Nothing

-- the making of a reference to a number, with this status and this result
abbrev pub number_referred : Status → Out → Entry
number_referred s o = call_at 7 (call.CreateReference (handle 2) 0) s o

-- the whole run
abbrev pub trace : List Entry
trace = run_of_calls (
    call_at 0 call.CreateObject status.Ok (out.Handle (handle 1))
    ∷ call_at 1 (call.CreateReference (handle 1) 4294967295) status.Ok (out.Ref (reference 1))
    ∷ count_up_entry status.GenericFailure out.Nothing
    ∷ down_told 4294967294
    ∷ call_at 4 (call.DeleteReference (reference 1)) status.Ok out.Nothing
    ∷ deleted_again status.InvalidArg
    ∷ call_at 6 (call.CreateInt64 (pos 1)) status.Ok (out.Handle (handle 2))
    ∷ number_referred status.InvalidArg out.Nothing
    ∷ []
    )

-- their text is these sixteen lines
abbrev pub Prints : Type 0
Prints = text fixed_texts trace ≡
    opening_lines
    ++ codes "3 env create_object 0 handle\n"
    ++ codes "4 env create_reference 0 ref\n"
    ++ codes "5 env reference_ref 9 -\n"
    ++ codes "6 env reference_unref 0 4294967294\n"
    ++ codes "7 env delete_reference 0 -\n"
    ++ codes "8 env delete_reference 1 -\n"
    ++ codes "9 env create_int64 0 handle\n"
    ++ codes "10 env create_reference 1 -\n"
    ++ codes "11 env end 0 -\n"
    ++ codes "12 env go 0 -\n"
    ++ codes "13 env loop_end 0 idle\n"
    ++ codes "14 env drain 0 0\n"
    ++ codes "15 env finals 0 -\n"
    ++ codes "16 env gone 0 -\n"

-- near misses are no runs
pub record IsStrict : Type 0 where
  -- the greatest count is not passed: the call has no other status, and tells no count
  pub greatest : (s : Status) → IsRun setting (set trace 4 (count_up_entry s out.Nothing)) → s ≡ status.GenericFailure
  pub untold : (s : Status) (n : ℕ) → IsRun setting (set trace 4 (count_up_entry s (out.Unsigned n))) → ⊥
  -- and it is left as it was
  pub kept : (n : ℕ) → IsRun setting (set trace 5 (down_told n)) → n ≡ 4294967294
  -- what was deleted is deleted once
  pub deleted : (s : Status) → IsRun setting (set trace 7 (deleted_again s)) → s ≡ status.InvalidArg
  -- no reference is to a number: the call has no other status, and gives none
  pub number : (s : Status) → IsRun setting (set trace 9 (number_referred s out.Nothing)) → s ≡ status.InvalidArg
  pub none : (s : Status) (n : ℕ) → IsRun setting (set trace 9 (number_referred s (out.Ref (reference n)))) → ⊥
