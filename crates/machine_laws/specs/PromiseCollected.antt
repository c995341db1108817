-- A promise that its deferred alone keeps: it is collected once that is settled, and not before.
use Rattle.std.specs.Prelude.{◌≡◌, ℕ, List, [], ◌∷◌, ◌++◌, set, codes}
use Rattle.napi_types.specs.declared.call.Call.TheVariants as call
use Rattle.napi_types.specs.declared.op.Op.TheVariants as op
use Rattle.napi_types.specs.declared.entry.Entry.{Entry}
use Rattle.napi_types.specs.declared.entry.Out.TheVariants as out
use Rattle.napi_types.specs.declared.status.Status.TheVariants as status
use Rattle.napi_types.specs.plain.Texts.{fixed_texts}
use Rattle.napi_types.specs.scripts.Text.{text}
use Rattle.napi_types.specs.runs.Setting.{Setting}
use Rattle.machine_laws.specs.PromiseRun.{deferred}
use Rattle.machine_laws.specs.RunWords.{script_of, call_at, run_of_calls, opening_lines, handle}
use Rattle.machine_laws.specs.LegalRuns.{IsRun}

-- the script makes the promise in a scope, closes that, collects, rejects the deferred, and collects again
abbrev pub setting : Setting
setting = script_of (
    op.OpenHandleScope 0 ∷ op.CreatePromise 1 2 ∷ op.CloseHandleScope 0 ∷ op.Collect 3 ∷ op.GetNull 4 ∷ op.RejectDeferred 1 4 ∷ op.Collect 5 ∷ []
    )

-- the collection before the settling, and the one after it, which free so many values
abbrev pub first_freed : ℕ → Entry
first_freed n = call_at 3 call.Collect status.Ok (out.Unsigned n)

abbrev pub then_freed : ℕ → Entry
then_freed n = call_at 6 call.Collect status.Ok (out.Unsigned n)

-- the whole run
abbrev pub trace : List Entry
trace = run_of_calls (
    call_at 0 call.OpenHandleScope status.Ok (out.Scope (record { 0 = 1 }))
    ∷ call_at 1 call.CreatePromise status.Ok (out.Promise (deferred 1) (handle 1))
    ∷ call_at 2 (call.CloseHandleScope (record { 0 = 1 })) status.Ok out.Nothing
    ∷ first_freed 0
    ∷ call_at 4 call.GetNull status.Ok (out.Handle (handle 2))
    ∷ call_at 5 (call.RejectDeferred (deferred 1) (handle 2)) status.Ok out.Nothing
    ∷ then_freed 1
    ∷ []
    )

-- their text is these fifteen lines
abbrev pub Prints : Type 0
Prints = text fixed_texts trace ≡
    opening_lines
    ++ codes "3 env open_handle_scope 0 scope\n"
    ++ codes "4 env create_promise 0 promise\n"
    ++ codes "5 env close_handle_scope 0 -\n"
    ++ codes "6 env collect 0 0\n"
    ++ codes "7 env get_null 0 handle\n"
    ++ codes "8 env reject_deferred 0 -\n"
    ++ codes "9 env collect 0 1\n"
    ++ codes "10 env end 0 -\n"
    ++ codes "11 env go 0 -\n"
    ++ codes "12 env loop_end 0 idle\n"
    ++ codes "13 env drain 0 0\n"
    ++ codes "14 env finals 0 -\n"
    ++ codes "15 env gone 0 -\n"

-- near misses are no runs
pub record IsStrict : Type 0 where
  -- the deferred keeps the promise, and once it is settled nothing does
  pub kept : (n : ℕ) → IsRun setting (set trace 5 (first_freed n)) → n ≡ 0
  pub freed : (n : ℕ) → IsRun setting (set trace 8 (then_freed n)) → n ≡ 1
