-- An object whose handle is gone is kept by a strong reference alone: it stays while the reference is strong, and is collected once it is weak.
use Rattle.std.specs.Prelude.{◌≡◌, ℕ, List, [], ◌∷◌, ◌++◌, set, codes}
use Rattle.napi_types.specs.declared.call.Call.TheVariants as call
use Rattle.napi_types.specs.declared.op.Op.TheVariants as op
use Rattle.napi_types.specs.declared.entry.Entry.{Entry}
use Rattle.napi_types.specs.declared.entry.Out.{Out}
use Rattle.napi_types.specs.declared.entry.Out.TheVariants as out
use Rattle.napi_types.specs.declared.status.Status.{Status}
use Rattle.napi_types.specs.declared.status.Status.TheVariants as status
use Rattle.napi_types.specs.plain.Texts.{fixed_texts}
use Rattle.napi_types.specs.scripts.Text.{text}
use Rattle.napi_types.specs.runs.Setting.{Setting}
use Rattle.machine_laws.specs.RunWords.{script_of, call_at, run_of_calls, opening_lines, handle, reference}
use Rattle.machine_laws.specs.LegalRuns.{IsRun}

-- the script makes an object and a strong reference to it in a scope, closes the scope and collects; then it makes the reference weak and collects again, asks for
-- the reference's value, and counts it down and up
abbrev pub setting : Setting
setting = script_of (
    op.OpenHandleScope 0
    ∷ op.CreateObject 1
    ∷ op.CreateReference 1 1 2
    ∷ op.CloseHandleScope 0
    ∷ op.Collect 3
    ∷ op.ReferenceUnref 2 5
    ∷ op.Collect 3
    ∷ op.GetReferenceValue 2 4
    ∷ op.ReferenceUnref 2 5
    ∷ op.ReferenceRef 2 5
    ∷ []
    )

-- the first collection and the second, which free so many values
abbrev pub first_freed : ℕ → Entry
first_freed n = call_at 4 call.Collect status.Ok (out.Unsigned n)

abbrev pub then_freed : ℕ → Entry
then_freed n = call_at 6 call.Collect status.Ok (out.Unsigned n)

-- what the reference gives after them
abbrev pub value_given : Out → Entry
value_given o = call_at 7 (call.GetReferenceValue (reference 1)) status.Ok o

-- the counting down from 0, with this status and this result
abbrev pub counted_down : Status → Out → Entry
counted_down s o = call_at 8 (call.ReferenceUnref (reference 1)) s o

-- the counting up of the reference whose value is gone, which tells this count
abbrev pub up_told : ℕ → Entry
up_told n = call_at 9 (call.ReferenceRef (reference 1)) status.Ok (out.Unsigned n)

-- the whole run
abbrev pub trace : List Entry
trace = run_of_calls (
    call_at 0 call.OpenHandleScope status.Ok (out.Scope (record { 0 = 1 }))
    ∷ call_at 1 call.CreateObject status.Ok (out.Handle (handle 1))
    ∷ call_at 2 (call.CreateReference (handle 1) 1) status.Ok (out.Ref (reference 1))
    ∷ call_at 3 (call.CloseHandleScope (record { 0 = 1 })) status.Ok out.Nothing
    ∷ first_freed 0
    ∷ call_at 5 (call.ReferenceUnref (reference 1)) status.Ok (out.Unsigned 0)
    ∷ then_freed 1
    ∷ value_given out.NoHandle
    ∷ counted_down status.GenericFailure out.Nothing
    ∷ up_told 0
    ∷ []
    )

-- their text is these eighteen lines
abbrev pub Prints : Type 0
Prints = text fixed_texts trace ≡
    opening_lines
    ++ codes "3 env open_handle_scope 0 scope\n"
    ++ codes "4 env create_object 0 handle\n"
    ++ codes "5 env create_reference 0 ref\n"
    ++ codes "6 env close_handle_scope 0 -\n"
    ++ codes "7 env collect 0 0\n"
    ++ codes "8 env reference_unref 0 0\n"
    ++ codes "9 env collect 0 1\n"
    ++ codes "10 env get_reference_value 0 none\n"
    ++ codes "11 env reference_unref 9 -\n"
    ++ codes "12 env reference_ref 0 0\n"
    ++ codes "13 env end 0 -\n"
    ++ codes "14 env go 0 -\n"
    ++ codes "15 env loop_end 0 idle\n"
    ++ codes "16 env drain 0 0\n"
    ++ codes "17 env finals 0 -\n"
    ++ codes "18 env gone 0 -\n"

-- near misses are no runs
pub record IsStrict : Type 0 where
  -- while the reference is strong nothing is freed, and once it is weak its value alone
  pub strong : (n : ℕ) → IsRun setting (set trace 6 (first_freed n)) → n ≡ 0
  pub weak : (n : ℕ) → IsRun setting (set trace 8 (then_freed n)) → n ≡ 1
  -- then the reference gives no handle, ..
  pub gone : (n : ℕ) → IsRun setting (set trace 9 (value_given (out.Handle (handle n)))) → ⊥
  -- .. is not counted below 0, with no other status and no count, and counted up its count is told as 0
  pub lowest : (s : Status) → IsRun setting (set trace 10 (counted_down s out.Nothing)) → s ≡ status.GenericFailure
  pub untold : (s : Status) (n : ℕ) → IsRun setting (set trace 10 (counted_down s (out.Unsigned n))) → ⊥
  pub uncounted : (n : ℕ) → IsRun setting (set trace 11 (up_told n)) → n ≡ 0
