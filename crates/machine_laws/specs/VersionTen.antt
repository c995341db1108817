-- A script of version 10: a number is referred to weakly and strongly, and a guarded call in a hook is told that no JavaScript can run.
use Rattle.std.specs.Prelude.{◌≡◌, ℕ, pos, List, [], ◌∷◌, ◌++◌, drop, set, codes}
use Rattle.napi_types.specs.declared.call.Call.TheVariants as call
use Rattle.napi_types.specs.declared.op.Op.TheVariants as op
use Rattle.napi_types.specs.declared.entry.Entry.{Entry}
use Rattle.napi_types.specs.declared.entry.HostStep.TheVariants as host
use Rattle.napi_types.specs.declared.entry.LoopEnd.TheVariants as loop_end
use Rattle.napi_types.specs.declared.entry.Out.{Out}
use Rattle.napi_types.specs.declared.entry.Out.TheVariants as out
use Rattle.napi_types.specs.declared.status.Status.{Status}
use Rattle.napi_types.specs.declared.status.Status.TheVariants as status
use Rattle.napi_types.specs.plain.Entries.{host_entry}
use Rattle.napi_types.specs.plain.Texts.{fixed_texts}
use Rattle.napi_types.specs.scripts.Text.{text}
use Rattle.napi_types.specs.runs.Setting.{Setting}
use Rattle.machine_laws.specs.RunWords.{script_of_entries, call_at, call_making, ticket, init_begins, frame_end, go_entry, ending_with_hooks, gone_entry, hook_runs, handle, reference}
use Rattle.machine_laws.specs.LegalRuns.{IsRun}

-- the script refers to a number weakly and strongly, collects while the strong reference alone keeps it, makes that one weak too, asks for the version, and adds
-- a hook. The hook collects again, and makes a guarded call
abbrev pub setting : Setting
setting = record (script_of_entries (
    (op.OpenHandleScope 0
    ∷ op.CreateInt64 (pos 5) 1
    ∷ op.CreateReference 1 0 2
    ∷ op.CreateReference 1 1 3
    ∷ op.CloseHandleScope 0
    ∷ op.Collect 4
    ∷ op.GetReferenceValue 2 5
    ∷ op.ReferenceUnref 3 6
    ∷ op.GetVersion 7
    ∷ op.AddEnvCleanupHook 1 0
    ∷ [])
    ∷ (op.Collect 4 ∷ op.StrictEquals 24 24 5 ∷ [])
    ∷ []
    )) { version = 10 }

-- the opening, which tells this version
abbrev pub opened_at : ℕ → Entry
opened_at n = host_entry host.Opened (out.Unsigned n)

-- the making of the weak reference, with this status and this result
abbrev pub number_referred : Status → Out → Entry
number_referred s o = call_at 2 (call.CreateReference (handle 1) 0) s o

-- the collection in the first frame, which frees so many values, ..
abbrev pub first_freed : ℕ → Entry
first_freed n = call_at 5 call.Collect status.Ok (out.Unsigned n)

-- .. and the one in the hook
abbrev pub then_freed : ℕ → Entry
then_freed n = call_at 0 call.Collect status.Ok (out.Unsigned n)

-- what the weak reference gives between them
abbrev pub value_given : Out → Entry
value_given o = call_at 6 (call.GetReferenceValue (reference 1)) status.Ok o

-- the call of the version, which tells this one
abbrev pub version_told : ℕ → Entry
version_told n = call_at 8 call.GetVersion status.Ok (out.Unsigned n)

-- the guarded call in the hook, with this status and this result
abbrev pub compared : Status → Out → Entry
compared s o = call_at 1 (call.StrictEquals (handle 0) (handle 0)) s o

-- the whole run
abbrev pub trace : List Entry
trace = opened_at 10
    ∷ init_begins 0
    ∷ call_at 0 call.OpenHandleScope status.Ok (out.Scope (record { 0 = 1 }))
    ∷ call_at 1 (call.CreateInt64 (pos 5)) status.Ok (out.Handle (handle 1))
    ∷ number_referred status.Ok (out.Ref (reference 1))
    ∷ call_at 3 (call.CreateReference (handle 1) 1) status.Ok (out.Ref (reference 2))
    ∷ call_at 4 (call.CloseHandleScope (record { 0 = 1 })) status.Ok out.Nothing
    ∷ first_freed 0
    ∷ value_given (out.Handle (handle 2))
    ∷ call_at 7 (call.ReferenceUnref (reference 2)) status.Ok (out.Unsigned 0)
    ∷ version_told 10
    ∷ call_making 9 (call.AddEnvCleanupHook 1 0) status.Ok out.Nothing (ticket 1)
    ∷ frame_end
    ∷ go_entry
    ∷ ending_with_hooks loop_end.Idle (hook_runs 1 (then_freed 1 ∷ compared status.CannotRunJs out.Nothing ∷ []))
    ++ gone_entry ∷ []

-- their text is these twenty-two lines
abbrev pub Prints : Type 0
Prints = text fixed_texts trace ≡
    codes "1 env opened 0 10\n"
    ++ codes "2 env begin 0 init:0.0\n"
    ++ codes "3 env open_handle_scope 0 scope\n"
    ++ codes "4 env create_int64 0 handle\n"
    ++ codes "5 env create_reference 0 ref\n"
    ++ codes "6 env create_reference 0 ref\n"
    ++ codes "7 env close_handle_scope 0 -\n"
    ++ codes "8 env collect 0 0\n"
    ++ codes "9 env get_reference_value 0 handle\n"
    ++ codes "10 env reference_unref 0 0\n"
    ++ codes "11 env get_version 0 10\n"
    ++ codes "12 env add_env_cleanup_hook 0 - +#1\n"
    ++ codes "13 env end 0 -\n"
    ++ codes "14 env go 0 -\n"
    ++ codes "15 env loop_end 0 idle\n"
    ++ codes "16 env begin 0 hook:0.1:#1\n"
    ++ codes "17 env collect 0 1\n"
    ++ codes "18 env strict_equals 23 -\n"
    ++ codes "19 env end 0 -\n"
    ++ codes "20 env drain 0 0\n"
    ++ codes "21 env finals 0 -\n"
    ++ codes "22 env gone 0 -\n"

-- near misses are no runs
pub record IsStrict : Type 0 where
  -- the opening tells the version of the script, and the call the highest one
  pub opened : (n : ℕ) → IsRun setting (set trace 0 (opened_at n)) → n ≡ 10
  pub version : (n : ℕ) → IsRun setting (set trace 10 (version_told n)) → n ≡ 10
  -- a reference to a number is refused with no status
  pub number : (s : Status) → IsRun setting (set trace 4 (number_referred s out.Nothing)) → ⊥
  -- the strong reference keeps the number, so that the weak one still gives it; in the hook both are weak, and it is collected
  pub kept : (n : ℕ) → IsRun setting (set trace 7 (first_freed n)) → n ≡ 0
  pub given : IsRun setting (set trace 8 (value_given out.NoHandle)) → ⊥
  pub freed : (n : ℕ) → IsRun setting (set trace 16 (then_freed n)) → n ≡ 1
  -- the guarded call in the hook has no other status
  pub guarded : (s : Status) → IsRun setting (set trace 17 (compared s out.Nothing)) → s ≡ status.CannotRunJs
  -- at version 9 the same entries are no run: they end before the reference
  pub nine : IsRun (record setting { version = 9 }) (opened_at 9 ∷ drop 1 trace) → ⊥
