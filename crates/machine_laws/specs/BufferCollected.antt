-- An external buffer whose finalizer waits while a reference holds a view of it: the buffer and its view are collected once that is deleted, and not before.
use Rattle.std.specs.Prelude.{◌≡◌, ℕ, List, [], ◌∷◌, ◌++◌, map, replicate, set, codes}
use Rattle.napi_types.specs.declared.call.Call.TheVariants as call
use Rattle.napi_types.specs.declared.op.Op.{Op}
use Rattle.napi_types.specs.declared.op.Op.TheVariants as op
use Rattle.napi_types.specs.declared.entry.Entry.{Entry}
use Rattle.napi_types.specs.declared.entry.Out.TheVariants as out
use Rattle.napi_types.specs.declared.status.Status.TheVariants as status
use Rattle.napi_types.specs.plain.Texts.{fixed_texts}
use Rattle.napi_types.specs.scripts.Text.{text}
use Rattle.napi_types.specs.runs.Begins.{begun_along}
use Rattle.napi_types.specs.runs.Setting.{Setting, opening_of}
use Rattle.machine_laws.specs.RunWords.{script_of_entries, call_at, call_making, ticket, finalizer_runs, run_of_finalizers, opening_lines, handle, reference}
use Rattle.machine_laws.specs.LegalRuns.{EndsAsTold, IsRun, told_asks}

-- in a scope the script makes an external buffer of four bytes with a finalizer, a view of all of them, and a strong reference to the view. It closes the scope
-- and collects
abbrev pub first_operations : List Op
first_operations =
    op.OpenHandleScope 0
    ∷ op.CreateExternalArraybuffer 4 9 1 0 1
    ∷ op.CreateTypedarray 1 1 0 4 2
    ∷ op.CreateReference 2 1 3
    ∷ op.CloseHandleScope 0
    ∷ op.Collect 4
    ∷ []

-- the finalizer runs the second entry, which asks nothing
abbrev pub script_with : List Op → Setting
script_with operations = script_of_entries (operations ∷ [] ∷ [])

-- then it deletes the reference and collects again
abbrev pub setting : Setting
setting = script_with (first_operations ++ op.DeleteReference 3 ∷ op.Collect 4 ∷ [])

-- the first collection and the second, which free so many values
abbrev pub first_freed : ℕ → Entry
first_freed n = call_at 5 call.Collect status.Ok (out.Unsigned n)

abbrev pub then_freed : ℕ → Entry
then_freed n = call_at 7 call.Collect status.Ok (out.Unsigned n)

-- what is called up to the first collection
abbrev pub first_calls : List Entry
first_calls =
    call_at 0 call.OpenHandleScope status.Ok (out.Scope (record { 0 = 1 }))
    ∷ call_making 1 (call.CreateExternalArraybuffer 4 9 1 0) status.Ok (out.Handle (handle 1)) (ticket 1)
    ∷ call_at 2 (call.CreateTypedarray 1 (handle 1) 0 4) status.Ok (out.Handle (handle 2))
    ∷ call_at 3 (call.CreateReference (handle 2) 1) status.Ok (out.Ref (reference 1))
    ∷ call_at 4 (call.CloseHandleScope (record { 0 = 1 })) status.Ok out.Nothing
    ∷ first_freed 0
    ∷ []

-- the frame of the finalizer of a ticket, which asks nothing
abbrev pub runs : ℕ → List Entry
runs n = finalizer_runs n []

-- the run whose finalizers have these frames in the loop
abbrev pub trace_with : List Entry → List Entry
trace_with frames =
    run_of_finalizers (first_calls ++ call_at 6 (call.DeleteReference (reference 1)) status.Ok out.Nothing ∷ then_freed 2 ∷ []) frames []

-- the whole run
abbrev pub trace : List Entry
trace = trace_with (runs 1)

-- their text is these eighteen lines
abbrev pub Prints : Type 0
Prints = text fixed_texts trace ≡
    opening_lines
    ++ codes "3 env open_handle_scope 0 scope\n"
    ++ codes "4 env create_external_arraybuffer 0 handle +#1\n"
    ++ codes "5 env create_typedarray 0 handle\n"
    ++ codes "6 env create_reference 0 ref\n"
    ++ codes "7 env close_handle_scope 0 -\n"
    ++ codes "8 env collect 0 0\n"
    ++ codes "9 env delete_reference 0 -\n"
    ++ codes "10 env collect 0 2\n"
    ++ codes "11 env end 0 -\n"
    ++ codes "12 env go 0 -\n"
    ++ codes "13 env begin 0 finalize:0.1:#1\n"
    ++ codes "14 env end 0 -\n"
    ++ codes "15 env loop_end 0 idle\n"
    ++ codes "16 env drain 0 0\n"
    ++ codes "17 env finals 0 -\n"
    ++ codes "18 env gone 0 -\n"

-- the finalizer is given the buffer's data and its hint
abbrev pub Gives : Type 0
Gives = map (λ d. d.gifts) (begun_along (opening_of setting) (told_asks setting trace) trace) ≡ (9 ∷ replicate 7 0) ∷ []

-- A REFERENCE THAT STAYS
-- the script that deletes no reference
abbrev pub held_setting : Setting
held_setting = script_with first_operations

-- its run whose finalizers have these frames in the loop, and these after `finals`
abbrev pub held_with : List Entry → List Entry → List Entry
held_with in_loop at_end = run_of_finalizers first_calls in_loop at_end

-- the finalizer begins after `finals`
abbrev pub held_trace : List Entry
held_trace = held_with [] (runs 1)

-- near misses are no runs
pub record IsStrict : Type 0 where
  -- the reference keeps the view and with it the buffer, and once it is deleted nothing does
  pub kept : (n : ℕ) → IsRun setting (set trace 7 (first_freed n)) → n ≡ 0
  pub freed : (n : ℕ) → IsRun setting (set trace 9 (then_freed n)) → n ≡ 2
  -- the finalizer begins in the loop, and no other one does
  pub begins : (n : ℕ) → IsRun setting (trace_with (runs n)) → n ≡ 1
  pub missing : IsRun setting (trace_with []) → ⊥
  pub again : (n : ℕ) → IsRun setting (trace_with (runs 1 ++ runs n)) → ⊥
  -- while the reference holds the view none begins in the loop: it waits for the end
  pub waits : EndsAsTold held_setting held_trace
  pub early : (n : ℕ) → IsRun held_setting (held_with (runs n) []) → ⊥
