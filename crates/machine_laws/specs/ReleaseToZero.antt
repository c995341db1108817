-- A thread-safe function is released by the last that holds it: no further call is accepted, and what waits is delivered in its order before it closes.
use Rattle.std.specs.Prelude.{◌≡◌, ℕ, List, [], ◌∷◌, ◌++◌, Option, Some, None, codes}
use Rattle.napi_types.specs.declared.call.Call.TheVariants as call
use Rattle.napi_types.specs.declared.call.Mode.TheVariants as mode
use Rattle.napi_types.specs.declared.call.Release.TheVariants as release
use Rattle.napi_types.specs.declared.entry.Cause.{Cause}
use Rattle.napi_types.specs.declared.entry.Cause.TheVariants as cause
use Rattle.napi_types.specs.declared.entry.Duty.{Duty}
use Rattle.napi_types.specs.declared.entry.Entry.{Entry}
use Rattle.napi_types.specs.declared.entry.Local.{Local}
use Rattle.napi_types.specs.declared.entry.LoopEnd.{LoopEnd}
use Rattle.napi_types.specs.declared.entry.LoopEnd.TheVariants as loop_end
use Rattle.napi_types.specs.declared.op.Op.TheVariants as op
use Rattle.napi_types.specs.declared.status.Status.{Status}
use Rattle.napi_types.specs.declared.status.Status.TheVariants as status
use Rattle.napi_types.specs.plain.Texts.{fixed_texts}
use Rattle.napi_types.specs.plain.Weave.{weave}
use Rattle.napi_types.specs.scripts.Text.{text}
use Rattle.napi_types.specs.runs.Setting.{Setting}
use Rattle.machine_laws.specs.HubWords.{function_lines, shared_journal, script_for, next_after, item, shared_at, shared_making, target_at, function_created, calls_function, releases, item_begins, runs_empty, function_closes, function_finishes}
use Rattle.machine_laws.specs.RunWords.{loop_ended, go_entry, ending_events}
use Rattle.machine_laws.specs.LegalRuns.{IsRun}

-- the script: a function with a call-js entry, for one thread, without a maximum, is called twice, released, and called again
abbrev pub setting : Setting
setting = script_for 0 0 (
    (op.CreateThreadsafeFunction None (Some 1) 0 1 None 5 0
    ∷ op.CallThreadsafeFunction 0 1 mode.Nonblocking
    ∷ op.CallThreadsafeFunction 0 2 mode.Nonblocking
    ∷ op.ReleaseThreadsafeFunction 0 release.Release
    ∷ op.CallThreadsafeFunction 0 3 mode.Nonblocking
    ∷ [])
    ∷ []
    ∷ []
    )

-- the last call, with a status and the item that it makes, where it makes one
abbrev pub last_call : Status → Option Duty → Entry
last_call s d = shared_making 4 (calls_function 3 mode.Nonblocking) s d

-- the history
abbrev pub history : List Entry
history =
    function_created 0 (call.CreateThreadsafeFunction None (Some 1) 0 1 None 5) (target_at 1) None
    ∷ shared_making 1 (calls_function 1 mode.Nonblocking) status.Ok (item 1)
    ∷ shared_making 2 (calls_function 2 mode.Nonblocking) status.Ok (item 2)
    ∷ shared_at 3 (releases release.Release) status.Ok
    ∷ last_call status.InvalidArg None
    ∷ go_entry
    ∷ runs_empty (item_begins cause.Item 1)
    ++ runs_empty (item_begins cause.Item 2)
    ++ function_closes
    ∷ function_finishes
    ∷ ending_events loop_end.Idle

-- the journal
abbrev pub journal : List Local
journal = shared_journal 5 15

-- the whole run
abbrev pub trace : List Entry
trace = weave journal history

-- its text is these 19 lines
abbrev pub Prints : Type 0
Prints = text fixed_texts trace ≡
    function_lines
    ++ codes "4 env call_threadsafe_function 0 - +f1.1\n"
    ++ codes "5 env call_threadsafe_function 0 - +f1.2\n"
    ++ codes "6 env release_threadsafe_function 0 -\n"
    ++ codes "7 env call_threadsafe_function 1 -\n"
    ++ codes "8 env end 0 -\n"
    ++ codes "9 env go 0 -\n"
    ++ codes "10 env begin 0 item:0.1:f1.1\n"
    ++ codes "11 env end 0 -\n"
    ++ codes "12 env begin 0 item:0.1:f1.2\n"
    ++ codes "13 env end 0 -\n"
    ++ codes "14 env close_tsfn 0 f1\n"
    ++ codes "15 env finish_tsfn 0 f1\n"
    ++ codes "16 env loop_end 0 idle\n"
    ++ codes "17 env drain 0 0\n"
    ++ codes "18 env finals 0 -\n"
    ++ codes "19 env gone 0 -\n"

-- NEAR MISSES
pub record IsStrict : Type 0 where
  -- the call behind the release is refused so, and makes no item
  pub released : (s : Status) (d : Option Duty) → IsRun setting (next_after 6 trace (last_call s d)) → (s ≡ status.InvalidArg) × (d ≡ None)
  -- the first item begins first, so none before one that was accepted earlier, and it is not torn; ..
  pub order : (c : Cause) (n : ℕ) → IsRun setting (next_after 9 trace (item_begins c n)) → (c ≡ cause.Item) × (n ≡ 1)
  -- .. then the second one does, so none begins twice
  pub twice : (c : Cause) (n : ℕ) → IsRun setting (next_after 11 trace (item_begins c n)) → (c ≡ cause.Item) × (n ≡ 2)
  -- the function does not close while one waits, ..
  pub close : IsRun setting (next_after 11 trace function_closes) → ⊥
  -- .. and the loop does not end, for whatever reason, before the function is done
  pub done : (r : LoopEnd) → IsRun setting (next_after 14 trace (loop_ended r)) → ⊥
