-- Exit is asked while one ticket is due and another is registered: neither begins in the loop, and both begin after `finals`, in the order of their tickets.
use Rattle.std.specs.Prelude.{◌≡◌, ℕ, List, [], ◌∷◌, ◌++◌, set, Some, None, false, codes}
use Rattle.napi_types.specs.declared.call.Call.TheVariants as call
use Rattle.napi_types.specs.declared.op.Op.TheVariants as op
use Rattle.napi_types.specs.declared.entry.Entry.{Entry}
use Rattle.napi_types.specs.declared.entry.LoopEnd.{LoopEnd}
use Rattle.napi_types.specs.declared.entry.LoopEnd.TheVariants as loop_end
use Rattle.napi_types.specs.declared.entry.Out.TheVariants as out
use Rattle.napi_types.specs.declared.status.Status.TheVariants as status
use Rattle.napi_types.specs.plain.Texts.{fixed_texts}
use Rattle.napi_types.specs.scripts.Text.{text}
use Rattle.napi_types.specs.runs.Setting.{Setting}
use Rattle.machine_laws.specs.RunWords.{script_of_entries, call_at, call_making, ticket, loop_ended, finalizer_begins, finalizer_runs, run_ended_by, opening_lines, handle}
use Rattle.machine_laws.specs.LegalRuns.{IsRun}

-- the script wraps an object with a finalizer, and in a scope another; it closes the scope, collects and asks to exit. The finalizers run the second entry,
-- which asks nothing
abbrev pub setting : Setting
setting = script_of_entries (
    (op.CreateObject 0
    ∷ op.Wrap 0 1 (Some 1) 0 None
    ∷ op.OpenHandleScope 1
    ∷ op.CreateObject 2
    ∷ op.Wrap 2 2 (Some 1) 0 None
    ∷ op.CloseHandleScope 1
    ∷ op.Collect 3
    ∷ op.Exit
    ∷ [])
    ∷ []
    ∷ []
    )

-- the run whose finalizers have these frames in the loop, and these after `finals`
abbrev pub trace_with : List Entry → List Entry → List Entry
trace_with in_loop at_end = run_ended_by loop_end.Exit (
    call_at 0 call.CreateObject status.Ok (out.Handle (handle 1))
    ∷ call_making 1 (call.Wrap (handle 1) 1 (Some 1) 0 false) status.Ok out.Nothing (ticket 1)
    ∷ call_at 2 call.OpenHandleScope status.Ok (out.Scope (record { 0 = 1 }))
    ∷ call_at 3 call.CreateObject status.Ok (out.Handle (handle 2))
    ∷ call_making 4 (call.Wrap (handle 2) 2 (Some 1) 0 false) status.Ok out.Nothing (ticket 2)
    ∷ call_at 5 (call.CloseHandleScope (record { 0 = 1 })) status.Ok out.Nothing
    ∷ call_at 6 call.Collect status.Ok (out.Unsigned 1)
    ∷ call_at 7 call.Exit status.Ok out.Nothing
    ∷ []
    ) in_loop at_end

-- the frame of a ticket, which asks nothing
abbrev pub runs : ℕ → List Entry
runs n = finalizer_runs n []

-- the whole run
abbrev pub trace : List Entry
trace = trace_with [] (runs 1 ++ runs 2)

-- their text is these twenty lines
abbrev pub Prints : Type 0
Prints = text fixed_texts trace ≡
    opening_lines
    ++ codes "3 env create_object 0 handle\n"
    ++ codes "4 env wrap 0 - +#1\n"
    ++ codes "5 env open_handle_scope 0 scope\n"
    ++ codes "6 env create_object 0 handle\n"
    ++ codes "7 env wrap 0 - +#2\n"
    ++ codes "8 env close_handle_scope 0 -\n"
    ++ codes "9 env collect 0 1\n"
    ++ codes "10 env exit 0 -\n"
    ++ codes "11 env end 0 -\n"
    ++ codes "12 env go 0 -\n"
    ++ codes "13 env loop_end 0 exit\n"
    ++ codes "14 env drain 0 0\n"
    ++ codes "15 env finals 0 -\n"
    ++ codes "16 env begin 0 finalize:0.1:#1\n"
    ++ codes "17 env end 0 -\n"
    ++ codes "18 env begin 0 finalize:0.1:#2\n"
    ++ codes "19 env end 0 -\n"
    ++ codes "20 env gone 0 -\n"

-- near misses are no runs
pub record IsStrict : Type 0 where
  -- the loop ends for no other reason: not because it is idle
  pub reason : (r : LoopEnd) → IsRun setting (set trace 12 (loop_ended r)) → r ≡ loop_end.Exit
  -- no ticket begins before the loop ends, also not the one that is due, ..
  pub early : (n : ℕ) → IsRun setting (trace_with (runs n) (runs 1)) → ⊥
  -- .. and after `finals` the first that begins is the one that fell due there
  pub first : (n : ℕ) → IsRun setting (set trace 15 (finalizer_begins n)) → n ≡ 1
  -- the environment is not gone before the other has begun
  pub last : IsRun setting (trace_with [] (runs 1)) → ⊥
