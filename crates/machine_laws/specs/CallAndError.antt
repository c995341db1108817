-- A function is called and returns its argument; then an error is thrown and not caught.
use Rattle.std.specs.Prelude.{◌≡◌, ℕ, List, [], ◌∷◌, ◌++◌, None, Some, pos, set, codes}
use Rattle.napi_types.specs.declared.call.Call.TheVariants as call
use Rattle.napi_types.specs.declared.op.Op.TheVariants as op
use Rattle.napi_types.specs.declared.entry.Entry.{Entry}
use Rattle.napi_types.specs.declared.entry.Out.{Out}
use Rattle.napi_types.specs.declared.entry.Out.TheVariants as out
use Rattle.napi_types.specs.declared.status.Status.{Status}
use Rattle.napi_types.specs.declared.status.Status.TheVariants as status
use Rattle.napi_types.specs.plain.Texts.{fixed_texts}
use Rattle.napi_types.specs.scripts.Summary.{summary}
use Rattle.napi_types.specs.scripts.Text.{text}
use Rattle.napi_types.specs.runs.Setting.{Setting}
use Rattle.machine_laws.specs.RunWords.{script_of_entries, call_at, call_begins, call_ends, frame_ends, opening_entries, great_events, gone_entry, opening_lines, handle}
use Rattle.machine_laws.specs.LegalRuns.{IsRun}

-- the texts: after the fixed ones a code and a message
abbrev pub texts : List (List ℕ)
texts = fixed_texts ++ codes "E" ∷ codes "m" ∷ []

-- the first entry makes a function of the second one and a number, calls the function with the number and no receiver, reads what it gave, throws an error and asks
-- for the last status; the second entry returns its first argument, which is in register 25
abbrev pub setting : Setting
setting = record (script_of_entries (
    (op.CreateFunction 1 0 0
    ∷ op.CreateInt64 (pos 7) 1
    ∷ op.CallFunction None 0 (record { count = 1; regs = 1 ∷ 0 ∷ 0 ∷ 0 ∷ [] }) 2
    ∷ op.GetValueInt64 2 3
    ∷ op.ThrowError (Some (record { 0 = 3 })) (record { 0 = 4 })
    ∷ op.GetLastErrorInfo 4
    ∷ [])
    ∷ (op.Return (Some 25) ∷ [])
    ∷ []
    )) { texts = 5 }

-- the end of the call's frame, with this status and this result
abbrev pub returned : Status → Out → Entry
returned s o = call_ends s o

-- the number that it gave, read by the handle of this number
abbrev pub read : ℕ → ℕ → Entry
read h n = call_at 3 (call.GetValueInt64 (handle h)) status.Ok (out.Signed (pos n))

-- the last status after the error was thrown
abbrev pub last_told : ℕ → Entry
last_told n = call_at 5 call.GetLastErrorInfo status.Ok (out.Unsigned n)

-- the whole run
abbrev pub trace : List Entry
trace =
    opening_entries
    ++ call_at 0 (call.CreateFunction 1 0) status.Ok (out.Handle (handle 1))
    ∷ call_at 1 (call.CreateInt64 (pos 7)) status.Ok (out.Handle (handle 2))
    ∷ call_begins 1
    ∷ returned status.Ok (out.Handle (handle 4))
    ∷ read 4 7
    ∷ call_at 4 (call.ThrowError (Some (record { 0 = 3 })) (record { 0 = 4 })) status.Ok out.Nothing
    ∷ last_told 0
    ∷ frame_ends out.Uncaught
    ∷ great_events
    ++ gone_entry
    ∷ []

-- their text is these fifteen lines
abbrev pub Prints : Type 0
Prints = text texts trace ≡
    opening_lines
    ++ codes "3 env create_function 0 handle\n"
    ++ codes "4 env create_int64 0 handle\n"
    ++ codes "5 env begin 0 call:0.1\n"
    ++ codes "6 env end 0 handle\n"
    ++ codes "7 env get_value_int64 0 7\n"
    ++ codes "8 env throw_error 0 -\n"
    ++ codes "9 env get_last_error_info 0 0\n"
    ++ codes "10 env end 0 uncaught\n"
    ++ codes "11 env go 0 -\n"
    ++ codes "12 env loop_end 0 idle\n"
    ++ codes "13 env drain 0 0\n"
    ++ codes "14 env finals 0 -\n"
    ++ codes "15 env gone 0 -\n"

-- its summary counts five calls: the call of a function that was accepted is none
abbrev pub SumsUp : Type 0
SumsUp = summary trace ≡ codes "entries 15\ncalls 5\naccepted 0\nitems 0\nworks 0\nstarted 0\n"
    ++ codes "completions 0\nfinalizers 0\nhooks 0\nwithdrawn 0\nrefused 0\npayload 0\n"

-- near misses are no runs
pub record IsStrict : Type 0 where
  -- the frame that begins is of the function's entry
  pub entry : (n : ℕ) → IsRun setting (set trace 4 (call_begins n)) → n ≡ 1
  -- its end has the status of a call that nothing went wrong with, and gives the next handle: the missing receiver has taken one
  pub accepted : (s : Status) → IsRun setting (set trace 5 (returned s (out.Handle (handle 4)))) → s ≡ status.Ok
  pub next : (h : ℕ) → IsRun setting (set trace 5 (returned status.Ok (out.Handle (handle h)))) → h ≡ 4
  -- the caller's handle is of what the callee returned
  pub value : (n : ℕ) → IsRun setting (set trace 6 (read 4 n)) → n ≡ 7
  -- throwing sets no status but its own
  pub last : (n : ℕ) → IsRun setting (set trace 8 (last_told n)) → n ≡ 0
  -- the end of the init frame tells that the error was not caught
  pub uncaught : IsRun setting (set trace 9 (frame_ends out.Nothing)) → ⊥
