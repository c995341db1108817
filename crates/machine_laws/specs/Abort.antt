-- A thread-safe function is aborted while items wait: no further call is accepted, each takes one off the count, and the items are torn.
use Rattle.std.specs.Prelude.{◌≡◌, ℕ, List, [], ◌∷◌, ◌++◌, Option, Some, None, codes}
use Rattle.napi_types.specs.declared.call.Call.TheVariants as call
use Rattle.napi_types.specs.declared.call.Mode.TheVariants as mode
use Rattle.napi_types.specs.declared.call.Release.TheVariants as release
use Rattle.napi_types.specs.declared.entry.Cause.{Cause}
use Rattle.napi_types.specs.declared.entry.Cause.TheVariants as cause
use Rattle.napi_types.specs.declared.entry.Duty.{Duty}
use Rattle.napi_types.specs.declared.entry.Entry.{Entry}
use Rattle.napi_types.specs.declared.entry.Local.{Local}
use Rattle.napi_types.specs.declared.entry.LoopEnd.{LoopEnd}
use Rattle.napi_types.specs.declared.entry.LoopEnd.TheVariants as loop_end
use Rattle.napi_types.specs.declared.op.Op.TheVariants as op
use Rattle.napi_types.specs.declared.status.Status.{Status}
use Rattle.napi_types.specs.declared.status.Status.TheVariants as status
use Rattle.napi_types.specs.plain.Texts.{fixed_texts}
use Rattle.napi_types.specs.plain.Weave.{weave}
use Rattle.napi_types.specs.scripts.Summary.{summary}
use Rattle.napi_types.specs.scripts.Text.{text}
use Rattle.napi_types.specs.runs.Setting.{Setting}
use Rattle.machine_laws.specs.HubWords.{shared_journal, script_for, next_after, item, finalizer, function, shared_at, shared_making, target_at, function_created, calls_function, releases, begins, item_begins, runs_empty, function_closes, function_finishes}
use Rattle.machine_laws.specs.RunWords.{loop_ended, go_entry, ending_events, opening_lines}
use Rattle.machine_laws.specs.LegalRuns.{IsRun}

-- the script: a function with a call-js entry and a finalizer, for three threads, without a maximum, is called three times and aborted; then it is called three
-- times again, acquired and released
abbrev pub setting : Setting
setting = script_for 0 0 (
    (op.CreateThreadsafeFunction None (Some 1) 0 3 (Some 2) 0 0
    ∷ op.CallThreadsafeFunction 0 1 mode.Nonblocking
    ∷ op.CallThreadsafeFunction 0 2 mode.Nonblocking
    ∷ op.CallThreadsafeFunction 0 3 mode.Nonblocking
    ∷ op.ReleaseThreadsafeFunction 0 release.Abort
    ∷ op.CallThreadsafeFunction 0 4 mode.Nonblocking
    ∷ op.CallThreadsafeFunction 0 4 mode.Nonblocking
    ∷ op.CallThreadsafeFunction 0 4 mode.Nonblocking
    ∷ op.AcquireThreadsafeFunction 0
    ∷ op.ReleaseThreadsafeFunction 0 release.Release
    ∷ [])
    ∷ []
    ∷ []
    ∷ []
    )

-- a call behind the abort, with a status and the item that it makes, where it makes one
abbrev pub late_call : ℕ → Status → Option Duty → Entry
late_call n s d = shared_making n (calls_function 4 mode.Nonblocking) s d

-- the begin of the finalizer
abbrev pub finalizing : Entry
finalizing = begins cause.Finalize 2 finalizer

-- the history
abbrev pub history : List Entry
history =
    function_created 0 (call.CreateThreadsafeFunction None (Some 1) 0 3 (Some 2) 0) (target_at 1) finalizer
    ∷ shared_making 1 (calls_function 1 mode.Nonblocking) status.Ok (item 1)
    ∷ shared_making 2 (calls_function 2 mode.Nonblocking) status.Ok (item 2)
    ∷ shared_making 3 (calls_function 3 mode.Nonblocking) status.Ok (item 3)
    ∷ shared_at 4 (releases release.Abort) status.Ok
    ∷ late_call 5 status.Closing None
    ∷ late_call 6 status.Closing None
    ∷ late_call 7 status.InvalidArg None
    ∷ shared_at 8 (call.AcquireThreadsafeFunction function) status.Closing
    ∷ shared_at 9 (releases release.Release) status.InvalidArg
    ∷ go_entry
    ∷ runs_empty (item_begins cause.Torn 1)
    ++ runs_empty (item_begins cause.Torn 2)
    ++ runs_empty (item_begins cause.Torn 3)
    ++ function_finishes
    ∷ runs_empty finalizing
    ++ ending_events loop_end.Idle

-- the journal
abbrev pub journal : List Local
journal = shared_journal 10 23

-- the whole run
abbrev pub trace : List Entry
trace = weave journal history

-- its text is these 27 lines
abbrev pub Prints : Type 0
Prints = text fixed_texts trace ≡
    opening_lines
    ++ codes "3 env create_threadsafe_function 0 f1 +f1\n"
    ++ codes "4 env call_threadsafe_function 0 - +f1.1\n"
    ++ codes "5 env call_threadsafe_function 0 - +f1.2\n"
    ++ codes "6 env call_threadsafe_function 0 - +f1.3\n"
    ++ codes "7 env release_threadsafe_function 0 -\n"
    ++ codes "8 env call_threadsafe_function 16 -\n"
    ++ codes "9 env call_threadsafe_function 16 -\n"
    ++ codes "10 env call_threadsafe_function 1 -\n"
    ++ codes "11 env acquire_threadsafe_function 16 -\n"
    ++ codes "12 env release_threadsafe_function 1 -\n"
    ++ codes "13 env end 0 -\n"
    ++ codes "14 env go 0 -\n"
    ++ codes "15 env begin 0 torn:0.1:f1.1\n"
    ++ codes "16 env end 0 -\n"
    ++ codes "17 env begin 0 torn:0.1:f1.2\n"
    ++ codes "18 env end 0 -\n"
    ++ codes "19 env begin 0 torn:0.1:f1.3\n"
    ++ codes "20 env end 0 -\n"
    ++ codes "21 env finish_tsfn 0 f1\n"
    ++ codes "22 env begin 0 finalize:0.2:f1\n"
    ++ codes "23 env end 0 -\n"
    ++ codes "24 env loop_end 0 idle\n"
    ++ codes "25 env drain 0 0\n"
    ++ codes "26 env finals 0 -\n"
    ++ codes "27 env gone 0 -\n"

-- its summary counts the torn items too
abbrev pub SumsUp : Type 0
SumsUp = summary trace ≡ codes "entries 27\ncalls 10\naccepted 3\nitems 3\nworks 0\nstarted 0\n"
    ++ codes "completions 0\nfinalizers 1\nhooks 0\nwithdrawn 0\nrefused 5\npayload 6\n"

-- NEAR MISSES
pub record IsStrict : Type 0 where
  -- a call behind the abort is refused so, and makes no item; ..
  pub closing : (s : Status) (d : Option Duty) → IsRun setting (next_after 7 trace (late_call 5 s d)) → (s ≡ status.Closing) × (d ≡ None)
  -- .. each takes one off the count, so that nobody holds the function at the third
  pub counted : (s : Status) (d : Option Duty) → IsRun setting (next_after 9 trace (late_call 7 s d)) → (s ≡ status.InvalidArg) × (d ≡ None)
  -- the items are torn, in their order
  pub torn : (c : Cause) (n : ℕ) → IsRun setting (next_after 14 trace (item_begins c n)) → (c ≡ cause.Torn) × (n ≡ 1)
  -- the function does not begin to close again, ..
  pub close : IsRun setting (next_after 20 trace function_closes) → ⊥
  -- .. and the loop does not end, for whatever reason, before its finalizer has begun, so that is not left out
  pub done : (r : LoopEnd) → IsRun setting (next_after 21 trace (loop_ended r)) → ⊥
