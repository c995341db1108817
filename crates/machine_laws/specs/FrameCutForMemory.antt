-- A call of an item's frame finds no memory, and before the frame ends a thread takes the last places of the history: the end still tells the want of memory.
use Rattle.std.specs.Prelude.{List, [], ◌∷◌, ◌++◌, Some, None}
use Rattle.napi_types.specs.declared.call.Call.TheVariants as call
use Rattle.napi_types.specs.declared.call.Mode.TheVariants as mode
use Rattle.napi_types.specs.declared.entry.Cause.TheVariants as cause
use Rattle.napi_types.specs.declared.entry.Entry.{Entry}
use Rattle.napi_types.specs.declared.entry.Out.TheVariants as out
use Rattle.napi_types.specs.declared.entry.Why.TheVariants as why
use Rattle.napi_types.specs.declared.op.Op.TheVariants as op
use Rattle.napi_types.specs.declared.status.Status.TheVariants as status
use Rattle.napi_types.specs.runs.Setting.{Setting}
use Rattle.machine_laws.specs.HubWords.{script_for, within, item, shared_making, target_at, function_created, calls_function, item_begins, by_thread}
use Rattle.machine_laws.specs.RunWords.{frame_ends, opening_entries, frame_end, go_entry}
use Rattle.machine_laws.specs.LegalRuns.{IsRun}

-- the script, with one thread: a function without a maximum is called once, the item's frame calls it, and so does the thread
abbrev pub setting : Setting
setting = within 100 15 (script_for 1 0 (
    (op.CreateThreadsafeFunction None (Some 1) 0 1 None 0 0 ∷ op.CallThreadsafeFunction 0 1 mode.Nonblocking ∷ [])
    ∷ (op.CallThreadsafeFunction 0 2 mode.Nonblocking ∷ [])
    ∷ []
    ))

-- the entries up to the begin of the item's frame: twelve places are taken, and the frame's call would take the last three
abbrev pub prefix : List Entry
prefix =
    opening_entries
    ++ function_created 0 (call.CreateThreadsafeFunction None (Some 1) 0 1 None 0) (target_at 1) None
    ∷ shared_making 1 (calls_function 1 mode.Nonblocking) status.Ok (item 1)
    ∷ frame_end
    ∷ go_entry
    ∷ item_begins cause.Item 1
    ∷ []

-- the call is not made, and the thread's is: it takes them
abbrev pub taken : List Entry
taken = prefix ++ by_thread 0 0 (calls_function 3 mode.Nonblocking) status.Ok (item 2) ∷ []

-- how the frame's end may tell that it was cut
pub record Cuts : Type 0 where
  -- with the three places left: for want of memory, and not as full
  pub room : IsRun setting (prefix ++ frame_ends (out.Cut why.Memory) ∷ [])
  pub full : IsRun setting (prefix ++ frame_ends (out.Cut why.Full) ∷ []) → ⊥
  -- where the thread has taken them, still for want of memory, or as full
  pub later : IsRun setting (taken ++ frame_ends (out.Cut why.Memory) ∷ [])
  pub taken : IsRun setting (taken ++ frame_ends (out.Cut why.Full) ∷ [])
