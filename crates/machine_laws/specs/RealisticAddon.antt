-- A realistic addon: an object with a finalizer, a work that runs while the addon begins, and a thread-safe function that two threads call and release.
use Rattle.std.specs.Prelude.{◌≡◌, ℕ, ◌+◌, pos, List, [], ◌∷◌, ◌++◌, replicate, Option, Some, None, false, codes}
use Rattle.napi_types.specs.declared.call.Call.TheVariants as call
use Rattle.napi_types.specs.declared.call.JobSpec.TheVariants as job
use Rattle.napi_types.specs.declared.call.Mode.TheVariants as mode
use Rattle.napi_types.specs.declared.call.Release.TheVariants as release
use Rattle.napi_types.specs.declared.entry.Cause.TheVariants as cause
use Rattle.napi_types.specs.declared.entry.Duty.{Duty}
use Rattle.napi_types.specs.declared.entry.Entry.{Entry}
use Rattle.napi_types.specs.declared.entry.Local.{Local}
use Rattle.napi_types.specs.declared.entry.LoopEnd.TheVariants as loop_end
use Rattle.napi_types.specs.declared.entry.Out.{Out}
use Rattle.napi_types.specs.declared.entry.Out.TheVariants as out
use Rattle.napi_types.specs.declared.op.Op.{Op}
use Rattle.napi_types.specs.declared.op.Op.TheVariants as op
use Rattle.napi_types.specs.declared.status.Status.{Status}
use Rattle.napi_types.specs.declared.status.Status.TheVariants as status
use Rattle.napi_types.specs.plain.Texts.{fixed_texts}
use Rattle.napi_types.specs.plain.Weave.{weave}
use Rattle.napi_types.specs.scripts.Plans.{registers_of}
use Rattle.napi_types.specs.scripts.Summary.{summary}
use Rattle.napi_types.specs.scripts.Text.{text}
use Rattle.napi_types.specs.hub.Actors.{Free, Over, worker_along}
use Rattle.napi_types.specs.runs.Setting.{Setting, final_registers}
use Rattle.napi_types.specs.all_runs.HubLaws.{ThreadsKeep}
use Rattle.machine_laws.specs.HubWords.{script_for, at_length, next_after, name, work_duty, item, work, shared_at, shared_making, work_created, target_at, function_created, calls_function, releases, begins, item_begins, completion_begins, runs_empty, function_closes, function_finishes, drains, finals, by_thread, thread_ends, worker_starts, worker_finishes, worker_ends}
use Rattle.machine_laws.specs.RunWords.{call_at, call_making, ticket, opening_entries, frame_end, loop_ended, go_entry, gone_entry, opening_lines, handle, reference}
use Rattle.machine_laws.specs.LegalRuns.{IsRun, told_asks}

-- the texts: after the fixed ones the name that the addon sets
abbrev pub texts : List (List ℕ)
texts = fixed_texts ++ codes "n" ∷ []

-- the script, with two threads and one worker. Its entries are the init frame, the call-js entry, the completion and the finalizer
abbrev pub setting : Setting
setting = record (script_for 2 1 (
    (op.CreateObject 1
    ∷ op.Wrap 1 100 (Some 3) 0 None
    ∷ op.CreateReference 1 1 2
    ∷ op.CreateAsyncWork (job.Sum 10) 2 0 3
    ∷ op.QueueAsyncWork 3
    ∷ op.CreateThreadsafeFunction None (Some 1) 4 2 None 0 0
    ∷ [])
    ∷ (op.GetReferenceValue 2 4 ∷ op.CreateInt64 (pos 1) 5 ∷ op.SetNamedProperty 4 (name 3) 5 ∷ [])
    ∷ (op.DeleteAsyncWork 3 ∷ [])
    ∷ []
    ∷ []
    )) { texts = 4 }

-- its threads: each calls, the first with the payload 1 and the second with 2, and releases
abbrev pub operations : ℕ → List Op
operations thread = op.ThreadCall 1 (thread + 1) mode.Blocking ∷ op.ThreadRelease 1 release.Release ∷ []

-- the call of a thread, which is its first operation, with the item that it makes
abbrev pub thread_call : ℕ → Option Duty → Entry
thread_call thread d = by_thread thread 0 (calls_function (thread + 1) mode.Blocking) status.Ok d

-- its release, and a call behind its end, with a status and the item that it makes, where it makes one
abbrev pub thread_release : ℕ → Entry
thread_release thread = by_thread thread 1 (releases release.Release) status.Ok None

abbrev pub call_behind_end : Status → Option Duty → Entry
call_behind_end s d = by_thread 0 2 (calls_function 1 mode.Nonblocking) s d

-- the history
abbrev pub history : List Entry
history =
    work_created 3 (call.CreateAsyncWork (job.Sum 10) 2 0) 1
    ∷ shared_making 4 (call.QueueAsyncWork (work 1)) status.Ok (work_duty 1)
    ∷ worker_starts 0 1
    ∷ function_created 5 (call.CreateThreadsafeFunction None (Some 1) 4 2 None 0) (target_at 1) None
    ∷ worker_finishes 0 55
    ∷ go_entry
    ∷ thread_call 0 (item 1)
    ∷ thread_call 1 (item 2)
    ∷ completion_begins 2 status.Ok 1
    ∷ thread_release 0
    ∷ thread_release 1
    ∷ shared_at 0 (call.DeleteAsyncWork (work 1)) status.Ok
    ∷ thread_ends 0 out.Nothing
    ∷ thread_ends 1 out.Nothing
    ∷ frame_end
    ∷ runs_empty (item_begins cause.Item 1)
    ++ runs_empty (item_begins cause.Item 2)
    ++ function_closes
    ∷ function_finishes
    ∷ loop_ended loop_end.Idle
    ∷ drains 0
    ∷ worker_ends 0
    ∷ finals
    ∷ []

-- the local calls of an item's frame, with the next handle's number
abbrev pub item_calls : ℕ → List Entry
item_calls n =
    call_at 0 (call.GetReferenceValue (reference 1)) status.Ok (out.Handle (handle n))
    ∷ call_at 1 (call.CreateInt64 (pos 1)) status.Ok (out.Handle (handle (n + 1)))
    ∷ call_at 2 (call.SetNamedProperty (handle n) (name 3) (handle (n + 1))) status.Ok out.Nothing
    ∷ []

-- the journal: the init frame, the calls of the items' frames, and the finalizer behind `finals`
abbrev pub journal : List Local
journal =
    at_length 0 (
    opening_entries
    ++ call_at 0 call.CreateObject status.Ok (out.Handle (handle 1))
    ∷ call_making 1 (call.Wrap (handle 1) 100 (Some 3) 0 false) status.Ok out.Nothing (ticket 1)
    ∷ call_at 2 (call.CreateReference (handle 1) 1) status.Ok (out.Ref (reference 1))
    ∷ []
    )
    ++ at_length 4 (frame_end ∷ [])
    ++ at_length 16 (item_calls 2)
    ++ at_length 18 (item_calls 4)
    ++ at_length 25 (runs_empty (begins cause.Finalize 3 (ticket 1)) ++ gone_entry ∷ [])

-- the whole run
abbrev pub trace : List Entry
trace = weave journal history

-- the threads make the calls of their scripts, and the worker its entries by turns
pub record ActInOrder : Type 0 where
  pub threads : ThreadsKeep setting (operations 0 ∷ operations 1 ∷ []) history
  pub worker : worker_along 0 (Some Free) history ≡ Some Over

-- its text is these 40 lines
abbrev pub Prints : Type 0
Prints = text texts trace ≡
    opening_lines
    ++ codes "3 env create_object 0 handle\n"
    ++ codes "4 env wrap 0 - +#1\n"
    ++ codes "5 env create_reference 0 ref\n"
    ++ codes "6 env create_async_work 0 work\n"
    ++ codes "7 env queue_async_work 0 - +j1\n"
    ++ codes "8 w0 start 0 j1\n"
    ++ codes "9 env create_threadsafe_function 0 f1\n"
    ++ codes "10 env end 0 -\n"
    ++ codes "11 w0 finish 0 55\n"
    ++ codes "12 env go 0 -\n"
    ++ codes "13 t0 call_threadsafe_function 0 - +f1.1\n"
    ++ codes "14 t1 call_threadsafe_function 0 - +f1.2\n"
    ++ codes "15 env begin 0 complete:0.2:j1\n"
    ++ codes "16 t0 release_threadsafe_function 0 -\n"
    ++ codes "17 t1 release_threadsafe_function 0 -\n"
    ++ codes "18 env delete_async_work 0 -\n"
    ++ codes "19 t0 actor_end 0 -\n"
    ++ codes "20 t1 actor_end 0 -\n"
    ++ codes "21 env end 0 -\n"
    ++ codes "22 env begin 0 item:0.1:f1.1\n"
    ++ codes "23 env get_reference_value 0 handle\n"
    ++ codes "24 env create_int64 0 handle\n"
    ++ codes "25 env set_named_property 0 -\n"
    ++ codes "26 env end 0 -\n"
    ++ codes "27 env begin 0 item:0.1:f1.2\n"
    ++ codes "28 env get_reference_value 0 handle\n"
    ++ codes "29 env create_int64 0 handle\n"
    ++ codes "30 env set_named_property 0 -\n"
    ++ codes "31 env end 0 -\n"
    ++ codes "32 env close_tsfn 0 f1\n"
    ++ codes "33 env finish_tsfn 0 f1\n"
    ++ codes "34 env loop_end 0 idle\n"
    ++ codes "35 env drain 0 0\n"
    ++ codes "36 w0 actor_end 0 -\n"
    ++ codes "37 env finals 0 -\n"
    ++ codes "38 env begin 0 finalize:0.3:#1\n"
    ++ codes "39 env end 0 -\n"
    ++ codes "40 env gone 0 -\n"

-- its summary counts the items and sums up their payloads
abbrev pub SumsUp : Type 0
SumsUp = summary trace ≡ codes "entries 40\ncalls 17\naccepted 2\nitems 2\nworks 1\nstarted 1\n"
    ++ codes "completions 1\nfinalizers 1\nhooks 0\nwithdrawn 0\nrefused 0\npayload 3\n"

-- the addon keeps the numbers of its function, its object's handle, its reference, its work and the last item's handles, and the finalizer's gift, the payload
abbrev pub Keeps : Type 0
Keeps = registers_of (final_registers setting (told_asks setting trace) trace) 0 ≡ 1 ∷ 1 ∷ 1 ∷ 1 ∷ 4 ∷ 5 ∷ replicate 18 0 ++ 100 ∷ replicate 7 0

-- NEAR MISSES
pub record IsStrict : Type 0 where
  -- the work finishes with no other value
  pub value : (n : ℕ) → IsRun setting (next_after 10 trace (worker_finishes 0 n)) → n ≡ 55
  -- the second thread's item is the second
  pub second : (d : Option Duty) → IsRun setting (next_after 13 trace (thread_call 1 d)) → d ≡ item 2
  -- the completion begins before the items, ..
  pub works : (n : ℕ) → IsRun setting (next_after 14 trace (item_begins cause.Item n)) → ⊥
  -- .. and these in their order
  pub order : (n : ℕ) → IsRun setting (next_after 21 trace (item_begins cause.Item n)) → n ≡ 1
  -- a thread that has ended makes no call, and does not end again
  pub call : (s : Status) (d : Option Duty) → IsRun setting (next_after 19 trace (call_behind_end s d)) → ⊥
  pub twice : (o : Out) → IsRun setting (next_after 19 trace (thread_ends 0 o)) → ⊥
