-- A queue of one item is full: the environment's calls are refused, by their mode, and a thread's call waits until the item is taken out.
use Rattle.std.specs.Prelude.{◌≡◌, ℕ, true, false, List, [], ◌∷◌, ◌++◌, Option, Some, None, codes}
use Rattle.napi_types.specs.declared.call.Call.TheVariants as call
use Rattle.napi_types.specs.declared.call.Mode.TheVariants as mode
use Rattle.napi_types.specs.declared.call.Release.TheVariants as release
use Rattle.napi_types.specs.declared.entry.Cause.TheVariants as cause
use Rattle.napi_types.specs.declared.entry.Duty.{Duty}
use Rattle.napi_types.specs.declared.entry.Entry.{Entry}
use Rattle.napi_types.specs.declared.entry.Local.{Local}
use Rattle.napi_types.specs.declared.entry.LoopEnd.TheVariants as loop_end
use Rattle.napi_types.specs.declared.entry.Out.{Out}
use Rattle.napi_types.specs.declared.entry.Out.TheVariants as out
use Rattle.napi_types.specs.declared.op.Op.{Op}
use Rattle.napi_types.specs.declared.op.Op.TheVariants as op
use Rattle.napi_types.specs.declared.status.Status.{Status}
use Rattle.napi_types.specs.declared.status.Status.TheVariants as status
use Rattle.napi_types.specs.plain.Texts.{fixed_texts}
use Rattle.napi_types.specs.plain.Weave.{weave}
use Rattle.napi_types.specs.scripts.Summary.{summary}
use Rattle.napi_types.specs.scripts.Text.{text}
use Rattle.napi_types.specs.hub.Waits.{waits_at}
use Rattle.napi_types.specs.runs.Setting.{Setting}
use Rattle.napi_types.specs.all_runs.HubLaws.{KeepsScript}
use Rattle.machine_laws.specs.HubWords.{function_lines, shared_journal, script_for, hub_behind, next_after, item, target_at, shared_making, function_created, calls_function, releases, item_begins, function_closes, function_finishes, drains, finals, by_thread, thread_ends}
use Rattle.machine_laws.specs.RunWords.{frame_end, go_entry, loop_ended}
use Rattle.machine_laws.specs.LegalRuns.{IsRun}

-- the script: a function with a call-js entry, for one item and one thread, is called once with room and twice without; one thread calls and releases it
abbrev pub setting : Setting
setting = script_for 1 0 (
    (op.CreateThreadsafeFunction None (Some 1) 1 1 None 0 0
    ∷ op.CallThreadsafeFunction 0 7 mode.Nonblocking
    ∷ op.CallThreadsafeFunction 0 8 mode.Nonblocking
    ∷ op.CallThreadsafeFunction 0 9 mode.Blocking
    ∷ [])
    ∷ []
    ∷ []
    )

-- its thread
abbrev pub operations : List Op
operations = op.ThreadCall 1 10 mode.Blocking ∷ op.ThreadRelease 1 release.Release ∷ []

abbrev pub scripts : List (List Op)
scripts = operations ∷ []

-- the second call, and the third, with a status and the item that it makes, where it makes one
abbrev pub second_call : Status → Option Duty → Entry
second_call s d = shared_making 2 (calls_function 8 mode.Nonblocking) s d

abbrev pub third_call : Status → Option Duty → Entry
third_call s d = shared_making 3 (calls_function 9 mode.Blocking) s d

-- the thread's call likewise
abbrev pub thread_call : Status → Option Duty → Entry
thread_call s d = by_thread 0 0 (calls_function 10 mode.Blocking) s d

-- the history
abbrev pub history : List Entry
history =
    function_created 0 (call.CreateThreadsafeFunction None (Some 1) 1 1 None 0) (target_at 1) None
    ∷ shared_making 1 (calls_function 7 mode.Nonblocking) status.Ok (item 1)
    ∷ second_call status.QueueFull None
    ∷ third_call status.WouldDeadlock None
    ∷ go_entry
    ∷ item_begins cause.Item 1
    ∷ thread_call status.Ok (item 2)
    ∷ frame_end
    ∷ by_thread 0 1 (releases release.Release) status.Ok None
    ∷ item_begins cause.Item 2
    ∷ thread_ends 0 out.Nothing
    ∷ frame_end
    ∷ function_closes
    ∷ function_finishes
    ∷ loop_ended loop_end.Idle
    ∷ drains 0
    ∷ finals
    ∷ []

-- the journal: the init frame ends before `go`, and the run behind the history's last
abbrev pub journal : List Local
journal = shared_journal 4 17

-- the whole run
abbrev pub trace : List Entry
trace = weave journal history

-- its text is these 21 lines
abbrev pub Prints : Type 0
Prints = text fixed_texts trace ≡
    function_lines
    ++ codes "4 env call_threadsafe_function 0 - +f1.1\n"
    ++ codes "5 env call_threadsafe_function 15 -\n"
    ++ codes "6 env call_threadsafe_function 21 -\n"
    ++ codes "7 env end 0 -\n"
    ++ codes "8 env go 0 -\n"
    ++ codes "9 env begin 0 item:0.1:f1.1\n"
    ++ codes "10 t0 call_threadsafe_function 0 - +f1.2\n"
    ++ codes "11 env end 0 -\n"
    ++ codes "12 t0 release_threadsafe_function 0 -\n"
    ++ codes "13 env begin 0 item:0.1:f1.2\n"
    ++ codes "14 t0 actor_end 0 -\n"
    ++ codes "15 env end 0 -\n"
    ++ codes "16 env close_tsfn 0 f1\n"
    ++ codes "17 env finish_tsfn 0 f1\n"
    ++ codes "18 env loop_end 0 idle\n"
    ++ codes "19 env drain 0 0\n"
    ++ codes "20 env finals 0 -\n"
    ++ codes "21 env gone 0 -\n"

-- its summary sums up the payloads of the two items alone: the two refused calls make none
abbrev pub SumsUp : Type 0
SumsUp = summary trace ≡ codes "entries 21\ncalls 6\naccepted 2\nitems 2\nworks 0\nstarted 0\n"
    ++ codes "completions 0\nfinalizers 0\nhooks 0\nwithdrawn 0\nrefused 2\npayload 17\n"

-- NEAR MISSES
pub record IsStrict : Type 0 where
  -- a call on the full queue is refused so, and makes no item: a nonblocking one, ..
  pub full : (s : Status) (d : Option Duty) → IsRun setting (next_after 4 trace (second_call s d)) → (s ≡ status.QueueFull) × (d ≡ None)
  -- .. and a blocking one of the environment, which would wait for itself
  pub deadlock : (s : Status) (d : Option Duty) → IsRun setting (next_after 5 trace (third_call s d)) → (s ≡ status.WouldDeadlock) × (d ≡ None)
  -- an item begins once: behind its frame the first does not begin again
  pub again : (n : ℕ) → IsRun setting (next_after 12 trace (item_begins cause.Item n)) → n ≡ 2
  -- that of a thread waits: it has no answer before the item is taken out
  pub waits : (s : Status) (d : Option Duty) → IsRun setting (next_after 8 trace (thread_call s d)) → ⊥
  -- so the thread waits there, and no longer once the item is taken out
  pub blocked : waits_at (hub_behind setting 5 history) 0 (calls_function 10 mode.Blocking) ≡ true
  pub woken : waits_at (hub_behind setting 6 history) 0 (calls_function 10 mode.Blocking) ≡ false
  -- nor does the thread call before `go`
  pub before : (s : Status) (d : Option Duty) → IsRun setting (next_after 3 trace (thread_call s d)) → ⊥
  -- it does not release the function first, ..
  pub first : KeepsScript setting 0 operations (next_after 6 history (by_thread 0 0 (releases release.Release) status.Ok None)) → ⊥
  -- .. nor does it end without its release, in whatever way: that has room, and takes no memory. Its script says so; for the hub it may end
  pub release : (o : Out) → KeepsScript setting 0 operations (next_after 8 history (thread_ends 0 o)) → ⊥
  pub hub : IsRun setting (next_after 11 trace (thread_ends 0 out.Nothing))
