-- A thread-safe function without a call-js entry is aborted: the frames of its torn items ask nothing. Its function is kept alive until it finishes.
use Rattle.std.specs.Prelude.{◌≡◌, ℕ, List, [], ◌∷◌, ◌++◌, Some, None, false, codes}
use Rattle.napi_types.specs.declared.call.Call.TheVariants as call
use Rattle.napi_types.specs.declared.call.Mode.TheVariants as mode
use Rattle.napi_types.specs.declared.call.Release.TheVariants as release
use Rattle.napi_types.specs.declared.entry.Cause.TheVariants as cause
use Rattle.napi_types.specs.declared.entry.Entry.{Entry}
use Rattle.napi_types.specs.declared.entry.Local.{Local}
use Rattle.napi_types.specs.declared.entry.LoopEnd.TheVariants as loop_end
use Rattle.napi_types.specs.declared.entry.Out.TheVariants as out
use Rattle.napi_types.specs.declared.entry.Target.{Target}
use Rattle.napi_types.specs.declared.op.Op.TheVariants as op
use Rattle.napi_types.specs.declared.status.Status.{Status}
use Rattle.napi_types.specs.declared.status.Status.TheVariants as status
use Rattle.napi_types.specs.plain.Texts.{fixed_texts}
use Rattle.napi_types.specs.plain.Weave.{weave}
use Rattle.napi_types.specs.scripts.Text.{text}
use Rattle.napi_types.specs.runs.Setting.{Setting}
use Rattle.machine_laws.specs.HubWords.{script_for, at_length, next_after, item, finalizer, shared_at, shared_making, target_at, function_created, calls_function, releases, begins, item_begins, runs_empty, function_finishes}
use Rattle.machine_laws.specs.RunWords.{call_at, opening_entries, frame_end, go_entry, ending_events, gone_entry, opening_lines, handle}
use Rattle.machine_laws.specs.LegalRuns.{IsRun}

-- the script: in a scope a function is made, and of it a thread-safe function with a finalizer. The scope closes, and what is not reached is collected. Two items
-- are called and torn. The function's entry would ask the version, and the finalizer collects again
abbrev pub setting : Setting
setting = script_for 0 0 (
    (op.OpenHandleScope 0
    ∷ op.CreateFunction 1 0 1
    ∷ op.CreateThreadsafeFunction (Some 1) None 0 1 (Some 2) 6 2
    ∷ op.CloseHandleScope 0
    ∷ op.Collect 3
    ∷ op.CallThreadsafeFunction 2 1 mode.Nonblocking
    ∷ op.CallThreadsafeFunction 2 2 mode.Nonblocking
    ∷ op.ReleaseThreadsafeFunction 2 release.Abort
    ∷ [])
    ∷ (op.GetVersion 3 ∷ [])
    ∷ (op.Collect 4 ∷ [])
    ∷ []
    )

-- its items run entry 1, and ask nothing once it is closing
abbrev pub target : Target
target = record (target_at 1) { torn_runs = false }

-- the creation, with its target
abbrev pub created : Target → Entry
created t = function_created 2 (call.CreateThreadsafeFunction (Some (handle 1)) None 0 1 (Some 2) 6) t finalizer

-- a collection, with how many values it freed
abbrev pub collected : ℕ → ℕ → Entry
collected n freed = call_at n call.Collect status.Ok (out.Unsigned freed)

-- the call of the version, with a status and the version
abbrev pub version_told : Status → ℕ → Entry
version_told s n = call_at 0 call.GetVersion s (out.Unsigned n)

-- the history
abbrev pub history : List Entry
history =
    created target
    ∷ shared_making 5 (calls_function 1 mode.Nonblocking) status.Ok (item 1)
    ∷ shared_making 6 (calls_function 2 mode.Nonblocking) status.Ok (item 2)
    ∷ shared_at 7 (releases release.Abort) status.Ok
    ∷ go_entry
    ∷ runs_empty (item_begins cause.Torn 1)
    ++ runs_empty (item_begins cause.Torn 2)
    ++ function_finishes
    ∷ runs_empty (begins cause.Finalize 2 finalizer)
    ++ ending_events loop_end.Idle

-- the journal
abbrev pub journal : List Local
journal =
    at_length 0 (
    opening_entries
    ++ call_at 0 call.OpenHandleScope status.Ok (out.Scope (record { 0 = 1 }))
    ∷ call_at 1 (call.CreateFunction 1 0) status.Ok (out.Handle (handle 1))
    ∷ []
    )
    ++ at_length 1 (call_at 3 (call.CloseHandleScope (record { 0 = 1 })) status.Ok out.Nothing ∷ collected 4 0 ∷ [])
    ++ at_length 4 (frame_end ∷ [])
    ++ at_length 11 (collected 0 1 ∷ [])
    ++ at_length 15 (gone_entry ∷ [])

-- the whole run
abbrev pub trace : List Entry
trace = weave journal history

-- its text is these 24 lines
abbrev pub Prints : Type 0
Prints = text fixed_texts trace ≡
    opening_lines
    ++ codes "3 env open_handle_scope 0 scope\n"
    ++ codes "4 env create_function 0 handle\n"
    ++ codes "5 env create_threadsafe_function 0 f1 +f1\n"
    ++ codes "6 env close_handle_scope 0 -\n"
    ++ codes "7 env collect 0 0\n"
    ++ codes "8 env call_threadsafe_function 0 - +f1.1\n"
    ++ codes "9 env call_threadsafe_function 0 - +f1.2\n"
    ++ codes "10 env release_threadsafe_function 0 -\n"
    ++ codes "11 env end 0 -\n"
    ++ codes "12 env go 0 -\n"
    ++ codes "13 env begin 0 torn:0.1:f1.1\n"
    ++ codes "14 env end 0 -\n"
    ++ codes "15 env begin 0 torn:0.1:f1.2\n"
    ++ codes "16 env end 0 -\n"
    ++ codes "17 env finish_tsfn 0 f1\n"
    ++ codes "18 env begin 0 finalize:0.2:f1\n"
    ++ codes "19 env collect 0 1\n"
    ++ codes "20 env end 0 -\n"
    ++ codes "21 env loop_end 0 idle\n"
    ++ codes "22 env drain 0 0\n"
    ++ codes "23 env finals 0 -\n"
    ++ codes "24 env gone 0 -\n"

-- NEAR MISSES
pub record IsStrict : Type 0 where
  -- while the thread-safe function lives nothing is freed, and behind its finish one value, its function
  pub kept : (n : ℕ) → IsRun setting (next_after 6 trace (collected 4 n)) → n ≡ 0
  pub freed : (n : ℕ) → IsRun setting (next_after 18 trace (collected 0 n)) → n ≡ 1
  -- the frame of a torn item makes no call
  pub silent : (s : Status) (n : ℕ) → IsRun setting (next_after 13 trace (version_told s n)) → ⊥
  -- so says its target, which is the function's own entry
  pub target : (t : Target) → IsRun setting (next_after 4 trace (created t)) → t ≡ target
