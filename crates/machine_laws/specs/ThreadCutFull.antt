-- The history has no room for the second call of a thread: the thread ends there, cut, and the loop waits for nothing more.
use Rattle.std.specs.Prelude.{◌≡◌, ℕ, List, [], ◌∷◌, ◌++◌, Some, None, codes}
use Rattle.napi_types.specs.declared.call.Call.TheVariants as call
use Rattle.napi_types.specs.declared.call.Mode.TheVariants as mode
use Rattle.napi_types.specs.declared.call.Release.TheVariants as release
use Rattle.napi_types.specs.declared.entry.Cause.TheVariants as cause
use Rattle.napi_types.specs.declared.entry.Entry.{Entry}
use Rattle.napi_types.specs.declared.entry.Local.{Local}
use Rattle.napi_types.specs.declared.entry.LoopEnd.{LoopEnd}
use Rattle.napi_types.specs.declared.entry.LoopEnd.TheVariants as loop_end
use Rattle.napi_types.specs.declared.entry.Out.{Out}
use Rattle.napi_types.specs.declared.entry.Out.TheVariants as out
use Rattle.napi_types.specs.declared.entry.Why.TheVariants as why
use Rattle.napi_types.specs.declared.op.Op.{Op}
use Rattle.napi_types.specs.declared.op.Op.TheVariants as op
use Rattle.napi_types.specs.declared.status.Status.TheVariants as status
use Rattle.napi_types.specs.plain.Texts.{fixed_texts}
use Rattle.napi_types.specs.plain.Weave.{weave}
use Rattle.napi_types.specs.scripts.Text.{text}
use Rattle.napi_types.specs.runs.Setting.{Setting}
use Rattle.napi_types.specs.all_runs.HubLaws.{KeepsScript}
use Rattle.machine_laws.specs.HubWords.{function_lines, shared_journal, script_for, within, next_after, item, target_at, function_created, calls_function, releases, item_begins, function_finishes, drains, finals, by_thread, thread_ends}
use Rattle.machine_laws.specs.RunWords.{frame_end, loop_ended, go_entry}
use Rattle.machine_laws.specs.LegalRuns.{IsRun}

-- the script, with one thread: a function for one item, which the thread calls twice and releases; with room for so many entries in the history
abbrev pub setting_within : ℕ → Setting
setting_within places = within 100 places (script_for 1 0 ((op.CreateThreadsafeFunction None (Some 1) 1 1 None 5 0 ∷ []) ∷ [] ∷ []))

-- the first call has its three places, and the second has not
abbrev pub setting : Setting
setting = setting_within 14

-- its thread
abbrev pub operations : List Op
operations = op.ThreadCall 1 1 mode.Blocking ∷ op.ThreadCall 1 2 mode.Blocking ∷ op.ThreadRelease 1 release.Release ∷ []

abbrev pub scripts : List (List Op)
scripts = operations ∷ []

-- the thread's second call, and its release
abbrev pub second_call : Entry
second_call = by_thread 0 1 (calls_function 2 mode.Blocking) status.Ok (item 2)

abbrev pub release_next : Entry
release_next = by_thread 0 1 (releases release.Release) status.Ok None

-- the history
abbrev pub history : List Entry
history =
    function_created 0 (call.CreateThreadsafeFunction None (Some 1) 1 1 None 5) (target_at 1) None
    ∷ go_entry
    ∷ by_thread 0 0 (calls_function 1 mode.Blocking) status.Ok (item 1)
    ∷ item_begins cause.Item 1
    ∷ thread_ends 0 (out.Cut why.Full)
    ∷ frame_end
    ∷ loop_ended loop_end.Quiet
    ∷ drains 0
    ∷ function_finishes
    ∷ finals
    ∷ []

-- the journal
abbrev pub journal : List Local
journal = shared_journal 1 10

-- the whole run
abbrev pub trace : List Entry
trace = weave journal history

-- its text is these 14 lines
abbrev pub Prints : Type 0
Prints = text fixed_texts trace ≡
    function_lines
    ++ codes "4 env end 0 -\n"
    ++ codes "5 env go 0 -\n"
    ++ codes "6 t0 call_threadsafe_function 0 - +f1.1\n"
    ++ codes "7 env begin 0 item:0.1:f1.1\n"
    ++ codes "8 t0 actor_end 0 cut:full\n"
    ++ codes "9 env end 0 -\n"
    ++ codes "10 env loop_end 0 quiet\n"
    ++ codes "11 env drain 0 0\n"
    ++ codes "12 env finish_tsfn 0 f1\n"
    ++ codes "13 env finals 0 -\n"
    ++ codes "14 env gone 0 -\n"

-- NEAR MISSES
pub record IsStrict : Type 0 where
  -- the second call is not accepted; with one place more it would be
  pub full : IsRun setting (next_after 7 trace second_call) → ⊥
  pub room : IsRun (setting_within 15) (next_after 7 trace second_call)
  -- there the thread ends in no other way; with one place more it is not cut as full, and may be cut for want of memory, since the call takes some
  pub cut : (o : Out) → KeepsScript setting 0 operations (next_after 4 history (thread_ends 0 o)) → o ≡ out.Cut why.Full
  pub memory : (o : Out) → KeepsScript (setting_within 15) 0 operations (next_after 4 history (thread_ends 0 o)) → o ≡ out.Cut why.Memory
  -- a release, which needs its own place alone, would have it, but it is not the next call of the script
  pub release : IsRun setting (next_after 7 trace release_next)
  pub order : KeepsScript setting 0 operations (next_after 4 history release_next) → ⊥
  -- the loop ends for no other reason: one thread holds the function, and it has ended
  pub reason : (r : LoopEnd) → IsRun setting (next_after 9 trace (loop_ended r)) → r ≡ loop_end.Quiet
