-- A function calls itself until no further frame may stand.
use Rattle.std.specs.Prelude.{◌≡◌, List, [], ◌∷◌, ◌++◌, None, replicate, set}
use Rattle.napi_types.specs.declared.call.Args.{Args}
use Rattle.napi_types.specs.declared.call.Call.TheVariants as call
use Rattle.napi_types.specs.declared.op.Op.{Op}
use Rattle.napi_types.specs.declared.op.Op.TheVariants as op
use Rattle.napi_types.specs.declared.entry.Entry.{Entry}
use Rattle.napi_types.specs.declared.entry.Out.TheVariants as out
use Rattle.napi_types.specs.declared.ids.HandleId.{HandleId}
use Rattle.napi_types.specs.declared.status.Status.{Status}
use Rattle.napi_types.specs.declared.status.Status.TheVariants as status
use Rattle.machine_laws.specs.RunWords.{script_of_entries, call_at, call_in, call_begins, call_ends, frame_ends, opening_entries, great_events, gone_entry}
use Rattle.napi_types.specs.runs.Setting.{Setting}
use Rattle.machine_laws.specs.LegalRuns.{IsRun}

-- the function's handle
abbrev pub function : HandleId
function = record { 0 = 1 }

-- a call of the function without receiver and arguments
abbrev pub call_itself : Op
call_itself = op.CallFunction None 0 (record { count = 0; regs = 0 ∷ 0 ∷ 0 ∷ 0 ∷ [] }) 1

-- the first entry makes a function of the second one and calls it; the second one calls it too
abbrev pub setting : Setting
setting = script_of_entries ((op.CreateFunction 1 0 0 ∷ call_itself ∷ []) ∷ (call_itself ∷ []) ∷ [])

-- no arguments
abbrev pub no_arguments : Args
no_arguments = record { count = 0; handles = record { 0 = 0 } ∷ record { 0 = 0 } ∷ record { 0 = 0 } ∷ record { 0 = 0 } ∷ [] }

-- the call where 64 frames stand, with this status
abbrev pub too_deep : Status → Entry
too_deep s = call_in 64 0 (call.CallFunction None function no_arguments) s out.Nothing

-- the frames that the exception goes through end, with this status
abbrev pub passes : Status → Entry
passes s = call_ends s out.Nothing

-- the whole run: 63 frames begin inside the first one, the next call is refused, and all of them end
abbrev pub trace : List Entry
trace =
    opening_entries
    ++ call_at 0 (call.CreateFunction 1 0) status.Ok (out.Handle function)
    ∷ replicate 63 (call_begins 1)
    ++ too_deep status.PendingException
    ∷ replicate 63 (passes status.PendingException)
    ++ frame_ends out.Uncaught
    ∷ great_events
    ++ gone_entry
    ∷ []

-- near misses are no runs
pub record IsStrict : Type 0 where
  -- the call where 64 frames stand enters no frame, and has no other status
  pub entered : IsRun setting (set trace 66 (call_begins 1)) → ⊥
  pub refused : (s : Status) → IsRun setting (set trace 66 (too_deep s)) → s ≡ status.PendingException
  -- the error stays pending through the ends of the inner frames, the first and the last of them
  pub first : (s : Status) → IsRun setting (set trace 67 (passes s)) → s ≡ status.PendingException
  pub last : (s : Status) → IsRun setting (set trace 129 (passes s)) → s ≡ status.PendingException
  -- until the outermost one ends
  pub uncaught : IsRun setting (set trace 130 (frame_ends out.Nothing)) → ⊥
