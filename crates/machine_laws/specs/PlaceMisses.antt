-- Near misses of where the entries of the journal stand: a run in which one stands behind an entry of a thread.
use Rattle.std.specs.Prelude.{false, List, [], ◌∷◌, ◌++◌, Some, None}
use Rattle.napi_types.specs.declared.call.Call.TheVariants as call
use Rattle.napi_types.specs.declared.call.Mode.TheVariants as mode
use Rattle.napi_types.specs.declared.call.Release.TheVariants as release
use Rattle.napi_types.specs.declared.entry.Cause.TheVariants as cause
use Rattle.napi_types.specs.declared.entry.Entry.{Entry}
use Rattle.napi_types.specs.declared.entry.Local.{Local}
use Rattle.napi_types.specs.declared.entry.LoopEnd.TheVariants as loop_end
use Rattle.napi_types.specs.declared.entry.Out.TheVariants as out
use Rattle.napi_types.specs.declared.op.Op.TheVariants as op
use Rattle.napi_types.specs.declared.status.Status.TheVariants as status
use Rattle.napi_types.specs.plain.Weave.{weave}
use Rattle.napi_types.specs.runs.InPlace.{StandInPlace}
use Rattle.napi_types.specs.runs.Setting.{Setting, opening_of}
use Rattle.machine_laws.specs.HubWords.{script_for, at_length, item, target_at, function_created, calls_function, releases, item_begins, function_closes, function_finishes, drains, finals, by_thread, thread_ends}
use Rattle.machine_laws.specs.LegalRuns.{EndsOnItsLists, told_asks}
use Rattle.machine_laws.specs.RunWords.{call_at, opening_entries, frame_end, gone_entry, go_entry, loop_ended}

-- the script: a function whose items run an entry that makes one local call; one thread calls it once and releases it
abbrev pub setting : Setting
setting = script_for 1 0 ((op.CreateThreadsafeFunction None (Some 1) 0 1 None 0 0 ∷ []) ∷ (op.IsExceptionPending 0 ∷ []) ∷ [])

-- the history: the thread releases the function while the frame of its item stands
abbrev pub history : List Entry
history =
    function_created 0 (call.CreateThreadsafeFunction None (Some 1) 0 1 None 0) (target_at 1) None
    ∷ go_entry
    ∷ by_thread 0 0 (calls_function 10 mode.Blocking) status.Ok (item 1)
    ∷ item_begins cause.Item 1
    ∷ by_thread 0 1 (releases release.Release) status.Ok None
    ∷ frame_end
    ∷ thread_ends 0 out.Nothing
    ∷ function_closes
    ∷ function_finishes
    ∷ loop_ended loop_end.Idle
    ∷ drains 0
    ∷ finals
    ∷ []

-- the journal, with the local call of the item's frame at this length of the history
abbrev pub journal_with : List Local → List Local
journal_with call = at_length 0 opening_entries ++ at_length 1 (frame_end ∷ []) ++ call ++ at_length 12 (gone_entry ∷ [])

abbrev pub local_call : Entry
local_call = call_at 0 call.IsExceptionPending status.Ok (out.Flag false)

-- it stands right behind the begin of its frame, ..
abbrev pub journal : List Local
journal = journal_with (at_length 4 (local_call ∷ []))

-- .. or behind the release, which the thread made
abbrev pub moved : List Local
moved = journal_with (at_length 5 (local_call ∷ []))

-- the entries of these two lists stand in their places
abbrev pub StandsAs : List Local → Type 0
StandsAs js = StandInPlace (opening_of setting) None (told_asks setting (weave js history)) (weave js history)

-- both are runs; ..
pub record PlacesAreStrict : Type 0 where
  pub run : EndsOnItsLists setting journal history
  pub other : EndsOnItsLists setting moved history
  -- .. in the first each entry of the journal stands in its place, and in the second one does not
  pub placed : StandsAs journal
  pub misplaced : StandsAs moved → ⊥
