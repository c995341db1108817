-- A hook is added twice, and removed twice: the second call is refused both times. Another one stays, and begins after the loop, in which exit was asked.
use Rattle.std.specs.Prelude.{◌≡◌, ℕ, List, [], ◌∷◌, ◌++◌, set, Option, None, codes}
use Rattle.napi_types.specs.declared.call.Call.TheVariants as call
use Rattle.napi_types.specs.declared.op.Op.TheVariants as op
use Rattle.napi_types.specs.declared.entry.Duty.{Duty}
use Rattle.napi_types.specs.declared.entry.Entry.{Entry}
use Rattle.napi_types.specs.declared.entry.LoopEnd.{LoopEnd}
use Rattle.napi_types.specs.declared.entry.LoopEnd.TheVariants as loop_end
use Rattle.napi_types.specs.declared.entry.Out.TheVariants as out
use Rattle.napi_types.specs.declared.status.Status.{Status}
use Rattle.napi_types.specs.declared.status.Status.TheVariants as status
use Rattle.napi_types.specs.plain.Texts.{fixed_texts}
use Rattle.napi_types.specs.scripts.Summary.{summary}
use Rattle.napi_types.specs.scripts.Text.{text}
use Rattle.napi_types.specs.runs.Setting.{Setting}
use Rattle.machine_laws.specs.RunWords.{script_of_entries, call_at, call_making, call_dropping, ticket, loop_ended, drain_entry, hook_begins, hook_runs, run_of_hooks, opening_lines, handle}
use Rattle.machine_laws.specs.LegalRuns.{IsRun}

-- the script adds a hook twice and another once, removes the first one twice and asks to exit. The hooks run the second entry, which adds one more and makes a
-- guarded call; register 24 has there the argument that the hook was added with
abbrev pub setting : Setting
setting = script_of_entries (
    (op.AddEnvCleanupHook 1 7
    ∷ op.AddEnvCleanupHook 1 7
    ∷ op.AddEnvCleanupHook 1 8
    ∷ op.RemoveEnvCleanupHook 1 7
    ∷ op.RemoveEnvCleanupHook 1 7
    ∷ op.Exit
    ∷ [])
    ∷ (op.AddEnvCleanupHook 1 9 ∷ op.StrictEquals 24 24 0 ∷ [])
    ∷ []
    )

-- the second addition, with this status, and the duty that it makes, where it makes one
abbrev pub added_again : Status → Option Duty → Entry
added_again s d = call_making 1 (call.AddEnvCleanupHook 1 7) s out.Nothing d

-- the removal, with this status, and the duty that it withdraws, where it withdraws one, ..
abbrev pub removed : Status → Option Duty → Entry
removed s d = call_dropping 3 (call.RemoveEnvCleanupHook 1 7) s out.Nothing d

-- .. and the one after it
abbrev pub removed_again : Status → Option Duty → Entry
removed_again s d = call_dropping 4 (call.RemoveEnvCleanupHook 1 7) s out.Nothing d

-- the addition in the hook, with this status, and the duty that it makes, where it makes one
abbrev pub added_in_hook : Status → Option Duty → Entry
added_in_hook s d = call_making 0 (call.AddEnvCleanupHook 1 9) s out.Nothing d

-- the guarded call in it, which tells nothing, with this status
abbrev pub compared : Status → Entry
compared s = call_at 1 (call.StrictEquals (handle 8) (handle 8)) s out.Nothing

-- the run whose hooks have these frames
abbrev pub trace_with : List Entry → List Entry
trace_with frames = run_of_hooks loop_end.Exit (
    call_making 0 (call.AddEnvCleanupHook 1 7) status.Ok out.Nothing (ticket 1)
    ∷ added_again status.InvalidArg None
    ∷ call_making 2 (call.AddEnvCleanupHook 1 8) status.Ok out.Nothing (ticket 2)
    ∷ removed status.Ok (ticket 1)
    ∷ removed_again status.InvalidArg None
    ∷ call_at 5 call.Exit status.Ok out.Nothing
    ∷ []
    ) frames

-- the frame of a hook, with its two calls
abbrev pub runs : ℕ → List Entry
runs n = hook_runs n (added_in_hook status.GenericFailure None ∷ compared status.PendingException ∷ [])

-- the whole run
abbrev pub trace : List Entry
trace = trace_with (runs 2)

-- their text is these eighteen lines
abbrev pub Prints : Type 0
Prints = text fixed_texts trace ≡
    opening_lines
    ++ codes "3 env add_env_cleanup_hook 0 - +#1\n"
    ++ codes "4 env add_env_cleanup_hook 1 -\n"
    ++ codes "5 env add_env_cleanup_hook 0 - +#2\n"
    ++ codes "6 env remove_env_cleanup_hook 0 - -#1\n"
    ++ codes "7 env remove_env_cleanup_hook 1 -\n"
    ++ codes "8 env exit 0 -\n"
    ++ codes "9 env end 0 -\n"
    ++ codes "10 env go 0 -\n"
    ++ codes "11 env loop_end 0 exit\n"
    ++ codes "12 env begin 0 hook:0.1:#2\n"
    ++ codes "13 env add_env_cleanup_hook 9 -\n"
    ++ codes "14 env strict_equals 10 -\n"
    ++ codes "15 env end 0 -\n"
    ++ codes "16 env drain 0 0\n"
    ++ codes "17 env finals 0 -\n"
    ++ codes "18 env gone 0 -\n"

-- its summary counts the hook that ran, and the one that was withdrawn
abbrev pub SumsUp : Type 0
SumsUp = summary trace ≡ codes "entries 18\ncalls 8\naccepted 0\nitems 0\nworks 0\nstarted 0\n"
    ++ codes "completions 0\nfinalizers 0\nhooks 1\nwithdrawn 1\nrefused 4\npayload 0\n"

-- near misses are no runs
pub record IsStrict : Type 0 where
  -- the second addition has no other status and registers nothing, ..
  pub once : (s : Status) (d : Option Duty) → IsRun setting (set trace 3 (added_again s d)) → (s ≡ status.InvalidArg) × (d ≡ None)
  -- .. the removal is accepted and withdraws the hook, which is ticket 1, and the second one is not and withdraws nothing
  pub removed : (s : Status) (d : Option Duty) → IsRun setting (set trace 5 (removed s d)) → (s ≡ status.Ok) × (d ≡ ticket 1)
  pub gone : (s : Status) (d : Option Duty) → IsRun setting (set trace 6 (removed_again s d)) → (s ≡ status.InvalidArg) × (d ≡ None)
  -- the loop ends for no other reason: not because it is idle
  pub reason : (r : LoopEnd) → IsRun setting (set trace 10 (loop_ended r)) → r ≡ loop_end.Exit
  -- `drain` does not come before the hook that stays, nor in its place
  pub drain : IsRun setting (set trace 11 drain_entry) → ⊥
  pub never : IsRun setting (trace_with []) → ⊥
  -- that one alone begins: the removed one begins neither in its place nor beside it, and none begins twice
  pub alone : (n : ℕ) → IsRun setting (set trace 11 (hook_begins n)) → n ≡ 2
  pub before : IsRun setting (trace_with (runs 1 ++ runs 2)) → ⊥
  pub after : (n : ℕ) → IsRun setting (trace_with (runs 2 ++ runs n)) → ⊥
  -- in its frame no hook is added: the addition has no other status, also not that of a hook which was added already, and registers nothing
  pub tearing : (s : Status) (d : Option Duty) → IsRun setting (set trace 12 (added_in_hook s d)) → (s ≡ status.GenericFailure) × (d ≡ None)
  -- and the guarded call is refused
  pub guarded : (s : Status) → IsRun setting (set trace 13 (compared s)) → s ≡ status.PendingException
