-- An addon sets instance data with a finalizer, and sets it anew: the first finalizer is withdrawn, and that of the second begins after `finals`.
use Rattle.std.specs.Prelude.{◌≡◌, ℕ, List, [], ◌∷◌, ◌++◌, set, Option, Some, codes}
use Rattle.napi_types.specs.declared.call.Call.TheVariants as call
use Rattle.napi_types.specs.declared.op.Op.TheVariants as op
use Rattle.napi_types.specs.declared.entry.Duty.{Duty}
use Rattle.napi_types.specs.declared.entry.Entry.{Entry}
use Rattle.napi_types.specs.declared.entry.LoopEnd.TheVariants as loop_end
use Rattle.napi_types.specs.declared.entry.Out.TheVariants as out
use Rattle.napi_types.specs.declared.status.Status.TheVariants as status
use Rattle.napi_types.specs.plain.Texts.{fixed_texts}
use Rattle.napi_types.specs.scripts.Text.{text}
use Rattle.napi_types.specs.runs.Setting.{Setting}
use Rattle.machine_laws.specs.RunWords.{script_of_entries, call_at, call_making, call_swapping, ticket, finalizer_begins, finalizer_runs, run_ended_by, opening_lines}
use Rattle.machine_laws.specs.LegalRuns.{IsRun}

-- the script sets instance data with a finalizer twice, and asks for it. The finalizers run the second entry, which asks nothing
abbrev pub setting : Setting
setting = script_of_entries ((op.SetInstanceData 4 (Some 1) 0 ∷ op.SetInstanceData 5 (Some 1) 0 ∷ op.GetInstanceData 1 ∷ []) ∷ [] ∷ [])

-- the second call, with the duty that it withdraws and the one that it makes, where it does
abbrev pub set_again : Option Duty → Option Duty → Entry
set_again withdrawn made = call_swapping 1 (call.SetInstanceData 5 (Some 1) 0) status.Ok out.Nothing withdrawn made

-- the number that is then told
abbrev pub got : ℕ → Entry
got n = call_at 2 call.GetInstanceData status.Ok (out.Unsigned n)

-- the run whose finalizers have these frames after `finals`
abbrev pub trace_with : List Entry → List Entry
trace_with frames = run_ended_by loop_end.Idle (
    call_making 0 (call.SetInstanceData 4 (Some 1) 0) status.Ok out.Nothing (ticket 1)
    ∷ set_again (ticket 1) (ticket 2)
    ∷ got 5
    ∷ []
    ) [] frames

-- the frame of a ticket, which asks nothing
abbrev pub runs : ℕ → List Entry
runs n = finalizer_runs n []

-- the whole run
abbrev pub trace : List Entry
trace = trace_with (runs 2)

-- their text is these thirteen lines
abbrev pub Prints : Type 0
Prints = text fixed_texts trace ≡
    opening_lines
    ++ codes "3 env set_instance_data 0 - +#1\n"
    ++ codes "4 env set_instance_data 0 - -#1 +#2\n"
    ++ codes "5 env get_instance_data 0 5\n"
    ++ codes "6 env end 0 -\n"
    ++ codes "7 env go 0 -\n"
    ++ codes "8 env loop_end 0 idle\n"
    ++ codes "9 env drain 0 0\n"
    ++ codes "10 env finals 0 -\n"
    ++ codes "11 env begin 0 finalize:0.1:#2\n"
    ++ codes "12 env end 0 -\n"
    ++ codes "13 env gone 0 -\n"

-- near misses are no runs
pub record IsStrict : Type 0 where
  -- the second call withdraws the finalizer of the first and registers its own
  pub swaps : (withdrawn made : Option Duty) → IsRun setting (set trace 3 (set_again withdrawn made)) → (withdrawn ≡ ticket 1) × (made ≡ ticket 2)
  -- what was set last is told
  pub told : (n : ℕ) → IsRun setting (set trace 4 (got n)) → n ≡ 5
  -- no finalizer begins before the loop ends, nor before `drain`, nor before `finals`
  pub loop : (n : ℕ) → IsRun setting (set trace 7 (finalizer_begins n)) → ⊥
  pub hooks : (n : ℕ) → IsRun setting (set trace 8 (finalizer_begins n)) → ⊥
  pub drain : (n : ℕ) → IsRun setting (set trace 9 (finalizer_begins n)) → ⊥
  -- ticket 2 alone begins then: the withdrawn one begins neither in its place nor beside it
  pub alone : (n : ℕ) → IsRun setting (trace_with (runs n)) → n ≡ 2
  pub before : IsRun setting (trace_with (runs 1 ++ runs 2)) → ⊥
  pub after : (n : ℕ) → IsRun setting (trace_with (runs 2 ++ runs n)) → ⊥
  -- and it does begin
  pub never : IsRun setting (trace_with []) → ⊥
