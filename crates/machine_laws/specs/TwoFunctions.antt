-- Two thread-safe functions: that of the lower number delivers first, and the loop waits for the one that is referenced alone.
use Rattle.std.specs.Prelude.{◌≡◌, ℕ, List, [], ◌∷◌, ◌++◌, replicate, Option, Some, None, codes}
use Rattle.napi_types.specs.declared.call.Call.TheVariants as call
use Rattle.napi_types.specs.declared.call.Mode.TheVariants as mode
use Rattle.napi_types.specs.declared.call.Release.TheVariants as release
use Rattle.napi_types.specs.declared.entry.Cause.TheVariants as cause
use Rattle.napi_types.specs.declared.entry.Duty.{Duty}
use Rattle.napi_types.specs.declared.entry.Entry.{Entry}
use Rattle.napi_types.specs.declared.entry.Local.{Local}
use Rattle.napi_types.specs.declared.entry.LoopEnd.{LoopEnd}
use Rattle.napi_types.specs.declared.entry.LoopEnd.TheVariants as loop_end
use Rattle.napi_types.specs.declared.entry.Out.TheVariants as out
use Rattle.napi_types.specs.declared.op.Op.TheVariants as op
use Rattle.napi_types.specs.declared.status.Status.TheVariants as status
use Rattle.napi_types.specs.declared.entry.Duty.TheVariants as duty
use Rattle.napi_types.specs.declared.entry.HostStep.{HostStep}
use Rattle.napi_types.specs.declared.entry.HostStep.TheVariants as host
use Rattle.napi_types.specs.declared.ids.TsfnId.{TsfnId}
use Rattle.napi_types.specs.declared.op.Op.{Op}
use Rattle.napi_types.specs.plain.Entries.{host_entry}
use Rattle.napi_types.specs.plain.Replies.{plain}
use Rattle.napi_types.specs.plain.Texts.{fixed_texts}
use Rattle.napi_types.specs.plain.Weave.{weave}
use Rattle.napi_types.specs.scripts.Plans.{registers_of}
use Rattle.napi_types.specs.scripts.Text.{text}
use Rattle.napi_types.specs.runs.Setting.{Setting, final_registers}
use Rattle.machine_laws.specs.HubWords.{shared_journal, script_for, next_after, shared_replied, shared_at, shared_making, shared_refused, target_at, begins, runs_empty, drains, finals, by_thread, thread_ends}
use Rattle.machine_laws.specs.RunWords.{loop_ended, go_entry, opening_lines}
use Rattle.machine_laws.specs.LegalRuns.{IsRun, told_asks}

-- the script, with one thread: a creation that names neither a function nor an entry is refused. Two functions are created and called, the second first; the
-- first is unreferenced, and the second is acquired and tells its context. The thread releases the second twice
abbrev pub setting : Setting
setting = script_for 1 0 (
    (op.CreateThreadsafeFunction None None 0 1 None 4 3
    ∷ op.CreateThreadsafeFunction None (Some 1) 0 1 None 5 0
    ∷ op.CreateThreadsafeFunction None (Some 1) 0 1 None 6 1
    ∷ op.CallThreadsafeFunction 1 20 mode.Nonblocking
    ∷ op.CallThreadsafeFunction 0 10 mode.Nonblocking
    ∷ op.UnrefThreadsafeFunction 0
    ∷ op.AcquireThreadsafeFunction 1
    ∷ op.GetThreadsafeFunctionContext 1 2
    ∷ [])
    ∷ []
    ∷ []
    )

abbrev pub operations : List Op
operations = op.ThreadRelease 2 release.Release ∷ op.ThreadRelease 2 release.Release ∷ []

abbrev pub scripts : List (List Op)
scripts = operations ∷ []

-- the function of a number, its creation with a context, and its first item
abbrev pub tsfn_at : ℕ → TsfnId
tsfn_at f = record { 0 = f }

abbrev pub created : ℕ → ℕ → ℕ → Entry
created n f context =
    shared_replied n (call.CreateThreadsafeFunction None (Some 1) 0 1 None context) (Some (target_at 1)) (plain status.Ok (out.Function (tsfn_at f)))

abbrev pub first_item : ℕ → Option Duty
first_item f = Some (duty.Item (tsfn_at f) 1)

-- the thread's release, its operation of this number
abbrev pub released : ℕ → Entry
released n = by_thread 0 n (call.ReleaseThreadsafeFunction (tsfn_at 2) release.Release) status.Ok None

-- an event of the function of a number
abbrev pub function_told : HostStep → ℕ → Entry
function_told event f = host_entry event (out.Function (tsfn_at f))

-- the history
abbrev pub history : List Entry
history =
    shared_refused 0 (call.CreateThreadsafeFunction None None 0 1 None 4) status.InvalidArg
    ∷ created 1 1 5
    ∷ created 2 2 6
    ∷ shared_making 3 (call.CallThreadsafeFunction (tsfn_at 2) 20 mode.Nonblocking) status.Ok (first_item 2)
    ∷ shared_making 4 (call.CallThreadsafeFunction (tsfn_at 1) 10 mode.Nonblocking) status.Ok (first_item 1)
    ∷ shared_at 5 (call.UnrefThreadsafeFunction (tsfn_at 1)) status.Ok
    ∷ shared_at 6 (call.AcquireThreadsafeFunction (tsfn_at 2)) status.Ok
    ∷ shared_replied 7 (call.GetThreadsafeFunctionContext (tsfn_at 2)) None (plain status.Ok (out.Unsigned 6))
    ∷ go_entry
    ∷ runs_empty (begins cause.Item 1 (first_item 1))
    ++ runs_empty (begins cause.Item 1 (first_item 2))
    ++ released 0
    ∷ released 1
    ∷ function_told host.CloseTsfn 2
    ∷ function_told host.FinishTsfn 2
    ∷ loop_ended loop_end.Idle
    ∷ drains 0
    ∷ function_told host.FinishTsfn 1
    ∷ thread_ends 0 out.Nothing
    ∷ finals
    ∷ []

-- the journal
abbrev pub journal : List Local
journal = shared_journal 8 22

-- the whole run
abbrev pub trace : List Entry
trace = weave journal history

-- its text is these 26 lines
abbrev pub Prints : Type 0
Prints = text fixed_texts trace ≡
    opening_lines
    ++ codes "3 env create_threadsafe_function 1 -\n"
    ++ codes "4 env create_threadsafe_function 0 f1\n"
    ++ codes "5 env create_threadsafe_function 0 f2\n"
    ++ codes "6 env call_threadsafe_function 0 - +f2.1\n"
    ++ codes "7 env call_threadsafe_function 0 - +f1.1\n"
    ++ codes "8 env unref_threadsafe_function 0 -\n"
    ++ codes "9 env acquire_threadsafe_function 0 -\n"
    ++ codes "10 env get_threadsafe_function_context 0 6\n"
    ++ codes "11 env end 0 -\n"
    ++ codes "12 env go 0 -\n"
    ++ codes "13 env begin 0 item:0.1:f1.1\n"
    ++ codes "14 env end 0 -\n"
    ++ codes "15 env begin 0 item:0.1:f2.1\n"
    ++ codes "16 env end 0 -\n"
    ++ codes "17 t0 release_threadsafe_function 0 -\n"
    ++ codes "18 t0 release_threadsafe_function 0 -\n"
    ++ codes "19 env close_tsfn 0 f2\n"
    ++ codes "20 env finish_tsfn 0 f2\n"
    ++ codes "21 env loop_end 0 idle\n"
    ++ codes "22 env drain 0 0\n"
    ++ codes "23 env finish_tsfn 0 f1\n"
    ++ codes "24 t0 actor_end 0 -\n"
    ++ codes "25 env finals 0 -\n"
    ++ codes "26 env gone 0 -\n"

-- the addon keeps the numbers of its functions and the context that was told, and the gifts of the last item: the payload, that it is not torn, and the context
abbrev pub Keeps : Type 0
Keeps = registers_of (final_registers setting (told_asks setting trace) trace) 0 ≡ 1 ∷ 2 ∷ 6 ∷ replicate 21 0 ++ 20 ∷ 1 ∷ 6 ∷ replicate 5 0

-- NEAR MISSES
pub record IsStrict : Type 0 where
  -- the item of the lower number begins first, though it was called last
  pub lowest : (f : ℕ) → IsRun setting (next_after 12 trace (begins cause.Item 1 (first_item f))) → f ≡ 1
  -- the acquisition counts: behind one release the function does not close, and the loop, which waits for it, does not end
  pub held : (f : ℕ) → IsRun setting (next_after 17 trace (function_told host.CloseTsfn f)) → ⊥
  pub waits : (r : LoopEnd) → IsRun setting (next_after 17 trace (loop_ended r)) → ⊥
  -- it ends for no other reason, while the thread has not ended and the unreferenced function is open
  pub reason : (r : LoopEnd) → IsRun setting (next_after 20 trace (loop_ended r)) → r ≡ loop_end.Idle
