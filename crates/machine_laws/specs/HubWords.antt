-- Words that runs over the hub are written by: shared calls, the frames of the hub's duties, and the entries of threads and workers.
use Rattle.std.specs.Prelude.{codes, ℕ, true, List, [], ◌∷◌, ◌++◌, map, take, Option, Some, None}
use Rattle.napi_types.specs.declared.call.Call.{Call}
use Rattle.napi_types.specs.declared.call.Call.TheVariants as call
use Rattle.napi_types.specs.declared.call.Mode.{Mode}
use Rattle.napi_types.specs.declared.call.Release.{Release}
use Rattle.napi_types.specs.declared.entry.Actor.TheVariants as actor
use Rattle.napi_types.specs.declared.entry.Cause.{Cause}
use Rattle.napi_types.specs.declared.entry.Cause.TheVariants as cause
use Rattle.napi_types.specs.declared.entry.Duty.{Duty}
use Rattle.napi_types.specs.declared.entry.Duty.TheVariants as duty
use Rattle.napi_types.specs.declared.entry.Entry.{Entry}
use Rattle.napi_types.specs.declared.entry.Given.{Given}
use Rattle.napi_types.specs.declared.entry.HostStep.{HostStep}
use Rattle.napi_types.specs.declared.entry.HostStep.TheVariants as host
use Rattle.napi_types.specs.declared.entry.Local.{Local}
use Rattle.napi_types.specs.declared.entry.Out.{Out}
use Rattle.napi_types.specs.declared.entry.Out.TheVariants as out
use Rattle.napi_types.specs.declared.entry.Reply.{Reply}
use Rattle.napi_types.specs.declared.entry.Target.{Target}
use Rattle.napi_types.specs.declared.entry.What.TheVariants as what
use Rattle.napi_types.specs.declared.ids.TextNo.{TextNo}
use Rattle.napi_types.specs.declared.ids.TsfnId.{TsfnId}
use Rattle.napi_types.specs.declared.ids.WorkId.{WorkId}
use Rattle.napi_types.specs.declared.op.Op.{Op}
use Rattle.napi_types.specs.declared.status.Status.{Status}
use Rattle.napi_types.specs.declared.status.Status.TheVariants as status
use Rattle.napi_types.specs.plain.Entries.{host_told, host_entry}
use Rattle.napi_types.specs.plain.Replies.{plain}
use Rattle.napi_types.specs.hub.Hub.{Hub, new_hub}
use Rattle.napi_types.specs.hub.HubSteps.{hub_along}
use Rattle.napi_types.specs.runs.Setting.{Setting}
use Rattle.machine_laws.specs.RunWords.{script_of_entries, opening_entries, opening_lines, call_replied, frame_end, gone_entry}

-- SCRIPTS AND LISTS
-- a script of one addon with these entries, for so many threads and workers
abbrev pub script_for : ℕ → ℕ → List (List Op) → Setting
script_for threads workers entries = record (script_of_entries entries) { threads = threads; workers = workers }

-- a script with room for so many entries in the journal, and so many in the history
abbrev pub within : ℕ → ℕ → Setting → Setting
within journal history s = record s { limits = record { journal = journal; history = history } }

-- the hub of a script behind so many entries of a history
abbrev pub hub_behind : Setting → ℕ → List Entry → Hub
hub_behind s n history = hub_along (new_hub s.threads s.workers) (take n history)

-- these entries of the journal stand at this length of the history
abbrev pub at_length : ℕ → List Entry → List Local
at_length n xs = map (λ x. record { at = n; entry = x }) xs

-- the journal of a run whose calls are all shared: its init frame ends at this length of the history, and the run at that
abbrev pub shared_journal : ℕ → ℕ → List Local
shared_journal frame run = at_length 0 opening_entries ++ at_length frame (frame_end ∷ []) ++ at_length run (gone_entry ∷ [])

-- the first entries of a run, so many, and another as the next
abbrev pub next_after : ℕ → List Entry → Entry → List Entry
next_after n trace x = take n trace ++ x ∷ []

-- a text of this number
abbrev pub name : ℕ → TextNo
name n = record { 0 = n }

-- TEXTS
-- the opening lines with those of a work that is created and queued, and with that of a function that is created
abbrev pub work_lines : List ℕ
work_lines = opening_lines ++ codes "3 env create_async_work 0 work\n" ++ codes "4 env queue_async_work 0 - +j1\n"

abbrev pub function_lines : List ℕ
function_lines = opening_lines ++ codes "3 env create_threadsafe_function 0 f1\n"

-- DUTIES
-- the completion of the work of this number in the order of queueing, an item of the first function, and that function's finalizer
abbrev pub work_duty : ℕ → Option Duty
work_duty n = Some (duty.Work n)

abbrev pub item : ℕ → Option Duty
item n = Some (duty.Item (record { 0 = 1 }) n)

abbrev pub finalizer : Option Duty
finalizer = Some (duty.Function (record { 0 = 1 }))

-- SHARED CALLS
-- the work of a number, and the first function
abbrev pub work : ℕ → WorkId
work n = record { 0 = n }

abbrev pub function : TsfnId
function = record { 0 = 1 }

-- the target of a function with a call-js entry: its items run that entry, and make asks also once the function is closing
abbrev pub target_at : ℕ → Target
target_at entry = record { addon = 0; entry = entry; torn_runs = true }

-- what the only addon hands to the hub with a call: a new function's target, where it names one
abbrev pub handed : Option Target → Given
handed target = record { addon = 0; target = target; refused = None }

-- a shared call in the only frame, with its reply, ..
abbrev pub shared_replied : ℕ → Call → Option Target → Reply → Entry
shared_replied n c target r = record (call_replied 1 n c r) { given = Some (handed target) }

-- .. with its status alone, ..
abbrev pub shared_at : ℕ → Call → Status → Entry
shared_at n c s = shared_replied n c None (plain s out.Nothing)

-- .. with the duty that it makes, where it makes one, ..
abbrev pub shared_making : ℕ → Call → Status → Option Duty → Entry
shared_making n c s d = shared_replied n c None (record (plain s out.Nothing) { made = d })

-- .. refused by the environment itself, which hands this to the hub, ..
abbrev pub shared_refused : ℕ → Call → Status → Entry
shared_refused n c s = record (shared_at n c s) { given = Some (record (handed None) { refused = Some s }) }

-- .. with the work that it creates, of this number, ..
abbrev pub work_created : ℕ → Call → ℕ → Entry
work_created n c id = shared_replied n c None (plain status.Ok (out.Work (work id)))

-- .. and with the first function, which it creates: its target, and the duty of its finalizer, where it has one
abbrev pub function_created : ℕ → Call → Target → Option Duty → Entry
function_created n c target d = shared_replied n c (Some target) (record (plain status.Ok (out.Function function)) { made = d })

-- the calls of the first function, and its release
abbrev pub calls_function : ℕ → Mode → Call
calls_function payload m = call.CallThreadsafeFunction function payload m

abbrev pub releases : Release → Call
releases m = call.ReleaseThreadsafeFunction function m

-- FRAMES
-- a frame begins for this reason at this entry of the only addon
abbrev pub begins : Cause → ℕ → Option Duty → Entry
begins c entry d = host_entry host.Begin (out.Begin c 0 entry d)

-- that of an item of the first function, which runs entry 1, ..
abbrev pub item_begins : Cause → ℕ → Entry
item_begins c n = begins c 1 (item n)

-- .. and that of a completion, with its status
abbrev pub completion_begins : ℕ → Status → ℕ → Entry
completion_begins entry s n = host_told host.Begin s (out.Begin cause.Complete 0 entry (work_duty n))

-- the whole frame of one that asks nothing
abbrev pub runs_empty : Entry → List Entry
runs_empty x = x ∷ frame_end ∷ []

-- THE HUB'S EVENTS
-- the first function begins to close, and it finishes
abbrev pub function_closes : Entry
function_closes = host_entry host.CloseTsfn (out.Function function)

abbrev pub function_finishes : Entry
function_finishes = host_entry host.FinishTsfn (out.Function function)

-- so many hooks that wait are abandoned
abbrev pub abandons : ℕ → Entry
abandons n = host_entry host.Abandon (out.Unsigned n)

-- the drain, which cancels so many works, and the event after it
abbrev pub drains : ℕ → Entry
drains n = host_entry host.Drain (out.Unsigned n)

abbrev pub finals : Entry
finals = host_entry host.Finals out.Nothing

-- THREADS AND WORKERS
-- a call of a thread, the operation of this number in its script, with its status and the duty that it makes, where it makes one
abbrev pub by_thread : ℕ → ℕ → Call → Status → Option Duty → Entry
by_thread thread n c s d = record {
  actor = actor.Thread thread;
  depth = 0;
  step = n;
  what = what.Call c;
  reply = record (plain s out.Nothing) { made = d };
  given = None;
}

-- the end of a thread, with its result
abbrev pub thread_ends : ℕ → Out → Entry
thread_ends thread o = record (host_entry host.ActorEnd o) { actor = actor.Thread thread }

-- an event of a worker, with its result: the start of the work of this number, its finish with a value, and the worker's end
abbrev pub worker_told : ℕ → HostStep → Out → Entry
worker_told worker h o = record (host_entry h o) { actor = actor.Worker worker }

abbrev pub worker_starts : ℕ → ℕ → Entry
worker_starts worker n = worker_told worker host.Start (out.Duty (duty.Work n))

abbrev pub worker_finishes : ℕ → ℕ → Entry
worker_finishes worker value = worker_told worker host.Finish (out.Unsigned value)

abbrev pub worker_ends : ℕ → Entry
worker_ends worker = worker_told worker host.ActorEnd out.Nothing
