-- A finalizer falls due in the frame of an asynchronous hook: it waits while the hook does, and begins behind `finals`, though the hook is abandoned before.
use Rattle.std.specs.Prelude.{◌≡◌, ℕ, List, [], ◌∷◌, ◌++◌, set, Some, codes}
use Rattle.napi_types.specs.declared.call.Call.TheVariants as call
use Rattle.napi_types.specs.declared.op.Op.TheVariants as op
use Rattle.napi_types.specs.declared.entry.Cause.{Cause}
use Rattle.napi_types.specs.declared.entry.Cause.TheVariants as cause
use Rattle.napi_types.specs.declared.entry.Entry.{Entry}
use Rattle.napi_types.specs.declared.entry.LoopEnd.TheVariants as loop_end
use Rattle.napi_types.specs.declared.entry.Out.TheVariants as out
use Rattle.napi_types.specs.declared.status.Status.TheVariants as status
use Rattle.napi_types.specs.plain.Texts.{fixed_texts}
use Rattle.napi_types.specs.scripts.Text.{text}
use Rattle.napi_types.specs.runs.Setting.{Setting}
use Rattle.machine_laws.specs.HubWords.{begins, abandons, drains, finals}
use Rattle.machine_laws.specs.RunWords.{script_of_entries, call_at, call_making, ticket, hook_id, opening_entries, opening_lines, frame_end, go_entry, gone_entry, loop_ended, finalizer_begins, finalizer_runs, handle, left_out}
use Rattle.machine_laws.specs.LegalRuns.{IsRun}

-- the script makes an external with a finalizer in a scope that it closes, and adds an asynchronous hook, whose frame collects. The finalizer asks nothing, and
-- nobody removes the hook
abbrev pub setting : Setting
setting = script_of_entries (
    (op.OpenHandleScope 0
    ∷ op.CreateExternal 3 (Some 1) 0 1
    ∷ op.CloseHandleScope 0
    ∷ op.AddAsyncCleanupHook 2 9 2
    ∷ [])
    ∷ []
    ∷ (op.Collect 3 ∷ [])
    ∷ []
    )

-- the collection in the hook's frame, which frees so many values
abbrev pub freed : ℕ → Entry
freed n = call_at 0 call.Collect status.Ok (out.Unsigned n)

-- the whole run
abbrev pub trace : List Entry
trace =
    opening_entries
    ++ call_at 0 call.OpenHandleScope status.Ok (out.Scope (record { 0 = 1 }))
    ∷ call_making 1 (call.CreateExternal 3 (Some 1) 0) status.Ok (out.Handle (handle 1)) (ticket 1)
    ∷ call_at 2 (call.CloseHandleScope (record { 0 = 1 })) status.Ok out.Nothing
    ∷ call_making 3 (call.AddAsyncCleanupHook 2 9) status.Ok (out.AsyncHook (hook_id 5)) (ticket 2)
    ∷ frame_end
    ∷ go_entry
    ∷ loop_ended loop_end.Idle
    ∷ begins cause.Hook 2 (ticket 2)
    ∷ freed 1
    ∷ frame_end
    ∷ abandons 1
    ∷ drains 0
    ∷ finals
    ∷ finalizer_runs 1 []
    ++ gone_entry ∷ []

-- its text is these 18 lines
abbrev pub Prints : Type 0
Prints = text fixed_texts trace ≡
    opening_lines
    ++ codes "3 env open_handle_scope 0 scope\n"
    ++ codes "4 env create_external 0 handle +#1\n"
    ++ codes "5 env close_handle_scope 0 -\n"
    ++ codes "6 env add_async_cleanup_hook 0 hook +#2\n"
    ++ codes "7 env end 0 -\n"
    ++ codes "8 env go 0 -\n"
    ++ codes "9 env loop_end 0 idle\n"
    ++ codes "10 env begin 0 hook:0.2:#2\n"
    ++ codes "11 env collect 0 1\n"
    ++ codes "12 env end 0 -\n"
    ++ codes "13 env abandon 0 1\n"
    ++ codes "14 env drain 0 0\n"
    ++ codes "15 env finals 0 -\n"
    ++ codes "16 env begin 0 finalize:0.1:#1\n"
    ++ codes "17 env end 0 -\n"
    ++ codes "18 env gone 0 -\n"

-- near misses are no runs
pub record IsStrict : Type 0 where
  -- the collection frees the external, whose finalizer falls due, ..
  pub freed : (n : ℕ) → IsRun setting (set trace 10 (freed n)) → n ≡ 1
  -- .. but no ticket begins while the hook waits, and none in place of the drain or of `finals`
  pub waiting : (c : Cause) (entry n : ℕ) → IsRun setting (set trace 12 (begins c entry (ticket n))) → ⊥
  pub abandoned : (c : Cause) (entry n : ℕ) → IsRun setting (set trace 13 (begins c entry (ticket n))) → ⊥
  pub drained : (c : Cause) (entry n : ℕ) → IsRun setting (set trace 14 (begins c entry (ticket n))) → ⊥
  -- behind `finals` the finalizer's does, and the environment is not gone before
  pub last : (n : ℕ) → IsRun setting (set trace 15 (finalizer_begins n)) → n ≡ 1
  pub never : IsRun setting (left_out 15 (left_out 15 trace)) → ⊥
