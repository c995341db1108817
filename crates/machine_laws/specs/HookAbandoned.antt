-- One of two asynchronous hooks that are alike is removed before it begins. The other begins and is never removed: it is abandoned, and then the drain comes.
use Rattle.std.specs.Prelude.{◌≡◌, ℕ, List, [], ◌∷◌, ◌++◌, set, Option, None, codes}
use Rattle.napi_types.specs.declared.call.Call.TheVariants as call
use Rattle.napi_types.specs.declared.op.Op.TheVariants as op
use Rattle.napi_types.specs.declared.entry.Duty.{Duty}
use Rattle.napi_types.specs.declared.entry.Entry.{Entry}
use Rattle.napi_types.specs.declared.entry.LoopEnd.TheVariants as loop_end
use Rattle.napi_types.specs.declared.entry.Out.TheVariants as out
use Rattle.napi_types.specs.declared.status.Status.{Status}
use Rattle.napi_types.specs.declared.status.Status.TheVariants as status
use Rattle.napi_types.specs.plain.Texts.{fixed_texts}
use Rattle.napi_types.specs.scripts.Summary.{summary}
use Rattle.napi_types.specs.scripts.Text.{text}
use Rattle.napi_types.specs.runs.Setting.{Setting}
use Rattle.machine_laws.specs.HubWords.{next_after, abandons, drains}
use Rattle.machine_laws.specs.RunWords.{script_of_entries, call_making, call_dropping, ticket, hook_id, hook_begins, hook_runs, run_of_hooks, left_out, opening_lines}
use Rattle.machine_laws.specs.LegalRuns.{IsRun}

-- the script adds two asynchronous hooks of one entry and one argument, and removes the second one twice. The hooks run the second entry, which asks nothing
abbrev pub setting : Setting
setting = script_of_entries (
    (op.AddAsyncCleanupHook 1 7 0
    ∷ op.AddAsyncCleanupHook 1 7 1
    ∷ op.RemoveAsyncCleanupHook 1
    ∷ op.RemoveAsyncCleanupHook 1
    ∷ [])
    ∷ []
    ∷ []
    )

-- the second addition, which gives a hook of this number, and the duty that it makes, where it makes one
abbrev pub added_again : ℕ → Option Duty → Entry
added_again n d = call_making 1 (call.AddAsyncCleanupHook 1 7) status.Ok (out.AsyncHook (hook_id n)) d

-- the same, refused with this status
abbrev pub refused_again : Status → Entry
refused_again s = call_making 1 (call.AddAsyncCleanupHook 1 7) s out.Nothing None

-- the removal, with this status, and the duty that it withdraws, where it withdraws one, ..
abbrev pub removed : Status → Option Duty → Entry
removed s d = call_dropping 2 (call.RemoveAsyncCleanupHook (hook_id 6)) s out.Nothing d

-- .. and the one after it
abbrev pub removed_again : Status → Option Duty → Entry
removed_again s d = call_dropping 3 (call.RemoveAsyncCleanupHook (hook_id 6)) s out.Nothing d

-- the whole run: the hooks have the numbers 5 and 6, and the tickets 1 and 2
abbrev pub trace : List Entry
trace = run_of_hooks loop_end.Idle (
    call_making 0 (call.AddAsyncCleanupHook 1 7) status.Ok (out.AsyncHook (hook_id 5)) (ticket 1)
    ∷ added_again 6 (ticket 2)
    ∷ removed status.Ok (ticket 2)
    ∷ removed_again status.InvalidArg None
    ∷ []
    ) (hook_runs 1 [] ++ abandons 1 ∷ [])

-- its text is these 15 lines
abbrev pub Prints : Type 0
Prints = text fixed_texts trace ≡
    opening_lines
    ++ codes "3 env add_async_cleanup_hook 0 hook +#1\n"
    ++ codes "4 env add_async_cleanup_hook 0 hook +#2\n"
    ++ codes "5 env remove_async_cleanup_hook 0 - -#2\n"
    ++ codes "6 env remove_async_cleanup_hook 1 -\n"
    ++ codes "7 env end 0 -\n"
    ++ codes "8 env go 0 -\n"
    ++ codes "9 env loop_end 0 idle\n"
    ++ codes "10 env begin 0 hook:0.1:#1\n"
    ++ codes "11 env end 0 -\n"
    ++ codes "12 env abandon 0 1\n"
    ++ codes "13 env drain 0 0\n"
    ++ codes "14 env finals 0 -\n"
    ++ codes "15 env gone 0 -\n"

-- its summary counts the hook that ran, and the one that was withdrawn
abbrev pub SumsUp : Type 0
SumsUp = summary trace ≡ codes "entries 15\ncalls 4\naccepted 0\nitems 0\nworks 0\nstarted 0\n"
    ++ codes "completions 0\nfinalizers 0\nhooks 1\nwithdrawn 1\nrefused 1\npayload 0\n"

-- near misses are no runs
pub record IsStrict : Type 0 where
  -- the second addition is not refused as that of a hook which was added already; it gives a number that was never given, and not 0, and registers a hook
  pub doubled : (s : Status) → IsRun setting (set trace 3 (refused_again s)) → ⊥
  pub same : IsRun setting (next_after 3 trace (added_again 5 (ticket 2))) → ⊥
  pub zero : IsRun setting (next_after 3 trace (added_again 0 (ticket 2))) → ⊥
  pub registers : (d : Option Duty) → IsRun setting (set trace 3 (added_again 6 d)) → d ≡ ticket 2
  -- the removal is accepted and tells that it withdraws the ticket, and the second one is not and withdraws nothing
  pub removed : (s : Status) (d : Option Duty) → IsRun setting (set trace 4 (removed s d)) → (s ≡ status.Ok) × (d ≡ ticket 2)
  pub gone : (s : Status) (d : Option Duty) → IsRun setting (set trace 5 (removed_again s d)) → (s ≡ status.InvalidArg) × (d ≡ None)
  -- no hook is abandoned before it begins; the removed one never begins, neither before the other nor behind it, and that one begins once
  pub early : (n : ℕ) → IsRun setting (set trace 9 (abandons n)) → ⊥
  pub alone : (n : ℕ) → IsRun setting (set trace 9 (hook_begins n)) → n ≡ 1
  pub once : (n : ℕ) → IsRun setting (set trace 11 (hook_begins n)) → ⊥
  -- while it waits the drain does not come, and `abandon` tells how many wait
  pub drain : (n : ℕ) → IsRun setting (set trace 11 (drains n)) → ⊥
  pub never : IsRun setting (left_out 11 trace) → ⊥
  pub told : (n : ℕ) → IsRun setting (set trace 11 (abandons n)) → n ≡ 1
  -- it comes once, and is not left out behind the drain
  pub twice : (n : ℕ) → IsRun setting (set trace 12 (abandons n)) → ⊥
  pub later : (n : ℕ) → IsRun setting (set trace 13 (abandons n)) → ⊥
