-- A number is read by a handle, the handle's scope closes, and the number is read by it again; then the last status is asked for twice.
use Rattle.std.specs.Prelude.{◌≡◌, ℕ, pos, List, [], ◌∷◌, ◌++◌, set, codes}
use Rattle.napi_types.specs.declared.call.Call.TheVariants as call
use Rattle.napi_types.specs.declared.op.Op.TheVariants as op
use Rattle.napi_types.specs.declared.entry.Entry.{Entry}
use Rattle.napi_types.specs.declared.entry.Out.{Out}
use Rattle.napi_types.specs.declared.entry.Out.TheVariants as out
use Rattle.napi_types.specs.declared.status.Status.{Status}
use Rattle.napi_types.specs.declared.status.Status.TheVariants as status
use Rattle.napi_types.specs.plain.Texts.{fixed_texts}
use Rattle.napi_types.specs.scripts.Text.{text}
use Rattle.napi_types.specs.runs.Setting.{Setting}
use Rattle.machine_laws.specs.RunWords.{script_of, call_at, run_of_calls, opening_lines}
use Rattle.machine_laws.specs.LegalRuns.{IsRun}

-- the script makes the number in a scope, reads it, closes the scope, reads it again, and asks twice for the last status
abbrev pub setting : Setting
setting = script_of (
    op.OpenHandleScope 0 ∷ op.CreateInt64 (pos 5) 1 ∷ op.GetValueInt64 1 2 ∷ op.CloseHandleScope 0 ∷ op.GetValueInt64 1 2 ∷ op.GetLastErrorInfo 3 ∷ op.GetLastErrorInfo 3 ∷ []
    )

-- the reading after the close, with this status and this result
abbrev pub read_again : Status → Out → Entry
read_again s o = call_at 4 (call.GetValueInt64 (record { 0 = 1 })) s o

-- the first asking for the last status, and the second one, with these numbers
abbrev pub last_told : ℕ → Entry
last_told n = call_at 5 call.GetLastErrorInfo status.Ok (out.Unsigned n)

abbrev pub last_told_again : ℕ → Entry
last_told_again n = call_at 6 call.GetLastErrorInfo status.Ok (out.Unsigned n)

-- the whole run
abbrev pub trace : List Entry
trace = run_of_calls (
    call_at 0 call.OpenHandleScope status.Ok (out.Scope (record { 0 = 1 }))
    ∷ call_at 1 (call.CreateInt64 (pos 5)) status.Ok (out.Handle (record { 0 = 1 }))
    ∷ call_at 2 (call.GetValueInt64 (record { 0 = 1 })) status.Ok (out.Signed (pos 5))
    ∷ call_at 3 (call.CloseHandleScope (record { 0 = 1 })) status.Ok out.Nothing
    ∷ read_again status.InvalidArg out.Nothing
    ∷ last_told 1
    ∷ last_told_again 1
    ∷ []
    )

-- their text is these fifteen lines
abbrev pub Prints : Type 0
Prints = text fixed_texts trace ≡
    opening_lines
    ++ codes "3 env open_handle_scope 0 scope\n"
    ++ codes "4 env create_int64 0 handle\n"
    ++ codes "5 env get_value_int64 0 5\n"
    ++ codes "6 env close_handle_scope 0 -\n"
    ++ codes "7 env get_value_int64 1 -\n"
    ++ codes "8 env get_last_error_info 0 1\n"
    ++ codes "9 env get_last_error_info 0 1\n"
    ++ codes "10 env end 0 -\n"
    ++ codes "11 env go 0 -\n"
    ++ codes "12 env loop_end 0 idle\n"
    ++ codes "13 env drain 0 0\n"
    ++ codes "14 env finals 0 -\n"
    ++ codes "15 env gone 0 -\n"

-- near misses are no runs
pub record IsStrict : Type 0 where
  -- the reading after the close has no other status, and tells no number
  pub stale : (s : Status) → IsRun setting (set trace 6 (read_again s out.Nothing)) → s ≡ status.InvalidArg
  pub untold : (s : Status) (n : ℕ) → IsRun setting (set trace 6 (read_again s (out.Signed (pos n)))) → ⊥
  -- the last status is that of the refused call, and asking for it leaves it
  pub last : (n : ℕ) → IsRun setting (set trace 7 (last_told n)) → n ≡ 1
  pub again : (n : ℕ) → IsRun setting (set trace 8 (last_told_again n)) → n ≡ 1
