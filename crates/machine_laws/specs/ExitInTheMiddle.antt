-- Exit is asked while a work waits, an item waits, and a thread has still to call: the hooks run, the item is torn, and the end waits for all.
use Rattle.std.specs.Prelude.{◌≡◌, ℕ, List, [], ◌∷◌, ◌++◌, take, Option, Some, None, false, codes}
use Rattle.napi_types.specs.declared.call.Call.TheVariants as call
use Rattle.napi_types.specs.declared.call.JobSpec.TheVariants as job
use Rattle.napi_types.specs.declared.call.Mode.TheVariants as mode
use Rattle.napi_types.specs.declared.entry.Cause.{Cause}
use Rattle.napi_types.specs.declared.entry.Cause.TheVariants as cause
use Rattle.napi_types.specs.declared.entry.Duty.{Duty}
use Rattle.napi_types.specs.declared.entry.Entry.{Entry}
use Rattle.napi_types.specs.declared.entry.Local.{Local}
use Rattle.napi_types.specs.declared.entry.LoopEnd.{LoopEnd}
use Rattle.napi_types.specs.declared.entry.LoopEnd.TheVariants as loop_end
use Rattle.napi_types.specs.declared.entry.Out.TheVariants as out
use Rattle.napi_types.specs.declared.op.Op.TheVariants as op
use Rattle.napi_types.specs.declared.status.Status.{Status}
use Rattle.napi_types.specs.declared.status.Status.TheVariants as status
use Rattle.napi_types.specs.plain.Texts.{fixed_texts}
use Rattle.napi_types.specs.plain.Weave.{weave}
use Rattle.napi_types.specs.scripts.Text.{text}
use Rattle.napi_types.specs.hub.Actors.{Free, Over, worker_along}
use Rattle.napi_types.specs.runs.Setting.{Setting}
use Rattle.napi_types.specs.all_runs.HubLaws.{ThreadsKeep}
use Rattle.machine_laws.specs.HubWords.{script_for, at_length, next_after, work_duty, item, work, shared_making, work_created, target_at, function_created, calls_function, begins, item_begins, completion_begins, runs_empty, function_finishes, drains, finals, by_thread, thread_ends, worker_starts, worker_finishes, worker_ends}
use Rattle.machine_laws.specs.RunWords.{call_at, call_making, ticket, opening_entries, frame_end, loop_ended, go_entry, gone_entry, left_out, opening_lines, handle}
use Rattle.machine_laws.specs.LegalRuns.{IsRun}

-- the script, with one thread and one worker: two hooks are added, an object is wrapped, a work is queued, a function is called, and exit is asked
abbrev pub setting : Setting
setting = script_for 1 1 (
    (op.AddEnvCleanupHook 3 1
    ∷ op.AddEnvCleanupHook 3 2
    ∷ op.CreateObject 1
    ∷ op.Wrap 1 5 (Some 4) 0 None
    ∷ op.CreateAsyncWork (job.Sum 3) 2 0 2
    ∷ op.QueueAsyncWork 2
    ∷ op.CreateThreadsafeFunction None (Some 1) 1 1 None 0 0
    ∷ op.CallThreadsafeFunction 0 7 mode.Nonblocking
    ∷ op.Exit
    ∷ [])
    ∷ []
    ∷ []
    ∷ []
    ∷ []
    ∷ []
    )

-- the begin of a hook's frame
abbrev pub hook_begins_at : ℕ → Entry
hook_begins_at n = begins cause.Hook 3 (ticket n)

-- the thread's call, with a status and the item that it makes, where it makes one
abbrev pub thread_call : Status → Option Duty → Entry
thread_call s d = by_thread 0 0 (calls_function 8 mode.Blocking) s d

-- the history
abbrev pub history : List Entry
history =
    work_created 4 (call.CreateAsyncWork (job.Sum 3) 2 0) 1
    ∷ shared_making 5 (call.QueueAsyncWork (work 1)) status.Ok (work_duty 1)
    ∷ function_created 6 (call.CreateThreadsafeFunction None (Some 1) 1 1 None 0) (target_at 1) None
    ∷ shared_making 7 (calls_function 7 mode.Nonblocking) status.Ok (item 1)
    ∷ worker_starts 0 1
    ∷ go_entry
    ∷ loop_ended loop_end.Exit
    ∷ drains 0
    ∷ thread_call status.Closing None
    ∷ worker_finishes 0 6
    ∷ completion_begins 2 status.Ok 1
    ∷ thread_ends 0 out.Nothing
    ∷ worker_ends 0
    ∷ frame_end
    ∷ runs_empty (item_begins cause.Torn 1)
    ++ function_finishes
    ∷ finals
    ∷ []

-- the journal: the calls up to the wrap, the exit behind the shared calls, the hooks before the drain, and the finalizer behind `finals`
abbrev pub journal : List Local
journal =
    at_length 0 (
    opening_entries
    ++ call_making 0 (call.AddEnvCleanupHook 3 1) status.Ok out.Nothing (ticket 1)
    ∷ call_making 1 (call.AddEnvCleanupHook 3 2) status.Ok out.Nothing (ticket 2)
    ∷ call_at 2 call.CreateObject status.Ok (out.Handle (handle 1))
    ∷ call_making 3 (call.Wrap (handle 1) 5 (Some 4) 0 false) status.Ok out.Nothing (ticket 3)
    ∷ []
    )
    ++ at_length 4 (call_at 8 call.Exit status.Ok out.Nothing ∷ frame_end ∷ [])
    ++ at_length 7 (runs_empty (hook_begins_at 2) ++ runs_empty (hook_begins_at 1))
    ++ at_length 18 (runs_empty (begins cause.Finalize 4 (ticket 3)) ++ gone_entry ∷ [])

-- the whole run
abbrev pub trace : List Entry
trace = weave journal history

-- the thread makes the call of its script, and the worker its entries by turns
pub record ActInOrder : Type 0 where
  pub threads : ThreadsKeep setting ((op.ThreadCall 1 8 mode.Blocking ∷ []) ∷ []) history
  pub worker : worker_along 0 (Some Free) history ≡ Some Over

-- its text is these 33 lines
abbrev pub Prints : Type 0
Prints = text fixed_texts trace ≡
    opening_lines
    ++ codes "3 env add_env_cleanup_hook 0 - +#1\n"
    ++ codes "4 env add_env_cleanup_hook 0 - +#2\n"
    ++ codes "5 env create_object 0 handle\n"
    ++ codes "6 env wrap 0 - +#3\n"
    ++ codes "7 env create_async_work 0 work\n"
    ++ codes "8 env queue_async_work 0 - +j1\n"
    ++ codes "9 env create_threadsafe_function 0 f1\n"
    ++ codes "10 env call_threadsafe_function 0 - +f1.1\n"
    ++ codes "11 env exit 0 -\n"
    ++ codes "12 env end 0 -\n"
    ++ codes "13 w0 start 0 j1\n"
    ++ codes "14 env go 0 -\n"
    ++ codes "15 env loop_end 0 exit\n"
    ++ codes "16 env begin 0 hook:0.3:#2\n"
    ++ codes "17 env end 0 -\n"
    ++ codes "18 env begin 0 hook:0.3:#1\n"
    ++ codes "19 env end 0 -\n"
    ++ codes "20 env drain 0 0\n"
    ++ codes "21 t0 call_threadsafe_function 16 -\n"
    ++ codes "22 w0 finish 0 6\n"
    ++ codes "23 env begin 0 complete:0.2:j1\n"
    ++ codes "24 t0 actor_end 0 -\n"
    ++ codes "25 w0 actor_end 0 -\n"
    ++ codes "26 env end 0 -\n"
    ++ codes "27 env begin 0 torn:0.1:f1.1\n"
    ++ codes "28 env end 0 -\n"
    ++ codes "29 env finish_tsfn 0 f1\n"
    ++ codes "30 env finals 0 -\n"
    ++ codes "31 env begin 0 finalize:0.4:#3\n"
    ++ codes "32 env end 0 -\n"
    ++ codes "33 env gone 0 -\n"

-- the entries up to the thread's call, and without the work's finish and all that is of it up to `finals`
abbrev pub unfinished : List Entry
unfinished = take 21 trace ++ thread_ends 0 out.Nothing ∷ runs_empty (item_begins cause.Torn 1) ++ function_finishes ∷ finals ∷ []

-- NEAR MISSES
pub record IsStrict : Type 0 where
  -- the loop ends for no other reason: nothing that waits is begun before
  pub reason : (r : LoopEnd) → IsRun setting (next_after 14 trace (loop_ended r)) → r ≡ loop_end.Exit
  -- the drain does not come before the last hook
  pub drain : (n : ℕ) → IsRun setting (next_after 17 trace (drains n)) → ⊥
  -- behind the drain the thread's call is refused so, and makes no item; ..
  pub closing : (s : Status) (d : Option Duty) → IsRun setting (next_after 20 trace (thread_call s d)) → (s ≡ status.Closing) × (d ≡ None)
  -- .. before it the function is open and its queue is full, so that call has no answer
  pub waits : (s : Status) (d : Option Duty) → IsRun setting (next_after 19 trace (thread_call s d)) → ⊥
  -- the item that waits is torn
  pub torn : (c : Cause) (n : ℕ) → IsRun setting (next_after 26 trace (item_begins c n)) → (c ≡ cause.Torn) × (n ≡ 1)
  -- `finals` does not come before the thread has ended, nor while the work runs
  pub finals : IsRun setting (take 29 (left_out 23 trace)) → ⊥
  pub runs : IsRun setting unfinished → ⊥
