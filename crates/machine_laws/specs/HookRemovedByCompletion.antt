-- Two asynchronous hooks begin. One removes itself, by the number that its frame is given. The other waits until the completion of a work removes it, and the
-- drain comes only then.
use Rattle.std.specs.Prelude.{◌≡◌, ℕ, List, [], ◌∷◌, ◌++◌, Option, None, codes}
use Rattle.napi_types.specs.declared.call.Call.TheVariants as call
use Rattle.napi_types.specs.declared.call.JobSpec.TheVariants as job
use Rattle.napi_types.specs.declared.entry.Cause.{Cause}
use Rattle.napi_types.specs.declared.entry.Cause.TheVariants as cause
use Rattle.napi_types.specs.declared.entry.Duty.{Duty}
use Rattle.napi_types.specs.declared.entry.Entry.{Entry}
use Rattle.napi_types.specs.declared.entry.Local.{Local}
use Rattle.napi_types.specs.declared.entry.LoopEnd.TheVariants as loop_end
use Rattle.napi_types.specs.declared.entry.Out.TheVariants as out
use Rattle.napi_types.specs.declared.op.Op.TheVariants as op
use Rattle.napi_types.specs.declared.status.Status.{Status}
use Rattle.napi_types.specs.declared.status.Status.TheVariants as status
use Rattle.napi_types.specs.plain.Texts.{fixed_texts}
use Rattle.napi_types.specs.plain.Weave.{weave}
use Rattle.napi_types.specs.scripts.Text.{text}
use Rattle.napi_types.specs.runs.Setting.{Setting}
use Rattle.machine_laws.specs.HubWords.{script_for, at_length, next_after, work_duty, work, shared_making, work_created, begins, completion_begins, abandons, drains, finals, worker_starts, worker_finishes, worker_ends}
use Rattle.machine_laws.specs.RunWords.{call_at, call_dropping, call_making, ticket, hook_id, hook_begins, hook_runs, opening_entries, opening_lines, frame_end, loop_ended, go_entry, gone_entry}
use Rattle.machine_laws.specs.LegalRuns.{IsRun}

-- the script, with one worker: a work is created and queued, two asynchronous hooks are added, and exit is asked. The entry of the hook that is added first
-- asks nothing. That of the other one removes the hook of the number in register 25, which is its own, and the completion removes the first one
abbrev pub setting : Setting
setting = script_for 0 1 (
    (op.CreateAsyncWork (job.Sum 3) 2 0 1
    ∷ op.AddAsyncCleanupHook 1 7 2
    ∷ op.AddAsyncCleanupHook 3 8 3
    ∷ op.QueueAsyncWork 1
    ∷ op.Exit
    ∷ [])
    ∷ []
    ∷ (op.RemoveAsyncCleanupHook 2 ∷ [])
    ∷ (op.RemoveAsyncCleanupHook 25 ∷ [])
    ∷ []
    )

-- a removal in the only frame, of the hook of this number, with its status, and the duty that it withdraws, where it withdraws one
abbrev pub removed : ℕ → Status → Option Duty → Entry
removed n s d = call_dropping 0 (call.RemoveAsyncCleanupHook (hook_id n)) s out.Nothing d

-- the history
abbrev pub history : List Entry
history =
    work_created 0 (call.CreateAsyncWork (job.Sum 3) 2 0) 1
    ∷ shared_making 3 (call.QueueAsyncWork (work 1)) status.Ok (work_duty 1)
    ∷ go_entry
    ∷ loop_ended loop_end.Exit
    ∷ worker_starts 0 1
    ∷ worker_finishes 0 6
    ∷ completion_begins 2 status.Ok 1
    ∷ frame_end
    ∷ drains 0
    ∷ worker_ends 0
    ∷ finals
    ∷ []

-- the journal: the hooks are added before the work is queued, begin behind the end of the loop, the last one first, and the completion's removal stands in its
-- frame. Their numbers are 5 and 6, and their tickets 1 and 2
abbrev pub journal : List Local
journal = at_length 0 opening_entries
    ++ at_length 1 (
    call_making 1 (call.AddAsyncCleanupHook 1 7) status.Ok (out.AsyncHook (hook_id 5)) (ticket 1)
    ∷ call_making 2 (call.AddAsyncCleanupHook 3 8) status.Ok (out.AsyncHook (hook_id 6)) (ticket 2)
    ∷ [])
    ++ at_length 2 (call_at 4 call.Exit status.Ok out.Nothing ∷ frame_end ∷ [])
    ++ at_length 4 (begins cause.Hook 3 (ticket 2) ∷ removed 6 status.Ok None ∷ frame_end ∷ hook_runs 1 [])
    ++ at_length 7 (removed 5 status.Ok None ∷ [])
    ++ at_length 11 (gone_entry ∷ [])

-- the whole run
abbrev pub trace : List Entry
trace = weave journal history

-- its text is these 24 lines
abbrev pub Prints : Type 0
Prints = text fixed_texts trace ≡
    opening_lines
    ++ codes "3 env create_async_work 0 work\n"
    ++ codes "4 env add_async_cleanup_hook 0 hook +#1\n"
    ++ codes "5 env add_async_cleanup_hook 0 hook +#2\n"
    ++ codes "6 env queue_async_work 0 - +j1\n"
    ++ codes "7 env exit 0 -\n"
    ++ codes "8 env end 0 -\n"
    ++ codes "9 env go 0 -\n"
    ++ codes "10 env loop_end 0 exit\n"
    ++ codes "11 env begin 0 hook:0.3:#2\n"
    ++ codes "12 env remove_async_cleanup_hook 0 -\n"
    ++ codes "13 env end 0 -\n"
    ++ codes "14 env begin 0 hook:0.1:#1\n"
    ++ codes "15 env end 0 -\n"
    ++ codes "16 w0 start 0 j1\n"
    ++ codes "17 w0 finish 0 6\n"
    ++ codes "18 env begin 0 complete:0.2:j1\n"
    ++ codes "19 env remove_async_cleanup_hook 0 -\n"
    ++ codes "20 env end 0 -\n"
    ++ codes "21 env drain 0 0\n"
    ++ codes "22 w0 actor_end 0 -\n"
    ++ codes "23 env finals 0 -\n"
    ++ codes "24 env gone 0 -\n"

-- near misses are no runs: the first entries, and another as the next
pub record IsStrict : Type 0 where
  -- the hook that was added last begins first: no hook of the other entry does, and none of another ticket
  pub order : (n : ℕ) → IsRun setting (next_after 10 trace (hook_begins n)) → ⊥
  pub last : (n : ℕ) → IsRun setting (next_after 10 trace (begins cause.Hook 3 (ticket n))) → n ≡ 2
  -- its frame is given its own number, so that it removes no other one; the removal is accepted, and withdraws nothing, since the hook has begun
  pub given : (n : ℕ) (s : Status) (d : Option Duty) → IsRun setting (next_after 11 trace (removed n s d)) → (n ≡ 6) × (s ≡ status.Ok) × (d ≡ None)
  -- neither `abandon` nor `drain` comes before the other hook has begun, ..
  pub before : (n : ℕ) → IsRun setting (next_after 13 trace (abandons n)) → ⊥
  pub undrained : (n : ℕ) → IsRun setting (next_after 13 trace (drains n)) → ⊥
  -- .. nor while it waits and the work is queued with a worker, ..
  pub queued : (n : ℕ) → IsRun setting (next_after 15 trace (abandons n)) → ⊥
  pub waited : (n : ℕ) → IsRun setting (next_after 15 trace (drains n)) → ⊥
  -- .. nor while the work runs, ..
  pub running : (n : ℕ) → IsRun setting (next_after 16 trace (abandons n)) → ⊥
  pub waited_on : (n : ℕ) → IsRun setting (next_after 16 trace (drains n)) → ⊥
  -- .. nor once it is finished: then its completion begins, as one of a work that ran, ..
  pub finished : (n : ℕ) → IsRun setting (next_after 17 trace (abandons n)) → ⊥
  pub waited_still : (n : ℕ) → IsRun setting (next_after 17 trace (drains n)) → ⊥
  pub completed : (s : Status) (n : ℕ) → IsRun setting (next_after 17 trace (completion_begins 2 s n)) → (s ≡ status.Ok) × (n ≡ 1)
  -- .. and removes the hook, which withdraws nothing either
  pub removes : (n : ℕ) (s : Status) (d : Option Duty) → IsRun setting (next_after 18 trace (removed n s d)) → (n ≡ 5) × (s ≡ status.Ok) × (d ≡ None)
  -- no hook begins in a place of its own behind that, and none is left that could be abandoned: the drain comes, and cancels no work
  pub again : (c : Cause) (entry n : ℕ) → IsRun setting (next_after 20 trace (begins c entry (ticket n))) → ⊥
  pub unabandoned : (n : ℕ) → IsRun setting (next_after 20 trace (abandons n)) → ⊥
  pub drained : (n : ℕ) → IsRun setting (next_after 20 trace (drains n)) → n ≡ 0
