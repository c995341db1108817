-- A handle's number is issued once: where a scope closed, the number of a handle in it is not given again.
use Rattle.std.specs.Prelude.{◌≡◌, ℕ, pos, List, [], ◌∷◌, ◌++◌, set, codes}
use Rattle.napi_types.specs.declared.call.Call.TheVariants as call
use Rattle.napi_types.specs.declared.op.Op.TheVariants as op
use Rattle.napi_types.specs.declared.entry.Entry.{Entry}
use Rattle.napi_types.specs.declared.entry.Out.TheVariants as out
use Rattle.napi_types.specs.declared.status.Status.TheVariants as status
use Rattle.napi_types.specs.plain.Texts.{fixed_texts}
use Rattle.napi_types.specs.scripts.Text.{text}
use Rattle.napi_types.specs.runs.Setting.{Setting}
use Rattle.machine_laws.specs.LegalRuns.{IsRun}
use Rattle.machine_laws.specs.RunWords.{script_of, call_at, run_of_calls, opening_lines}

-- the script makes a number in a scope, closes the scope, and makes another one
abbrev pub setting : Setting
setting = script_of (op.OpenHandleScope 0 ∷ op.CreateInt64 (pos 5) 1 ∷ op.CloseHandleScope 0 ∷ op.CreateInt64 (pos 6) 2 ∷ [])

-- the second number is made, with this handle
abbrev pub made_again : ℕ → Entry
made_again h = call_at 3 (call.CreateInt64 (pos 6)) status.Ok (out.Handle (record { 0 = h }))

-- the whole run
abbrev pub trace : List Entry
trace = run_of_calls (
    call_at 0 call.OpenHandleScope status.Ok (out.Scope (record { 0 = 1 }))
    ∷ call_at 1 (call.CreateInt64 (pos 5)) status.Ok (out.Handle (record { 0 = 1 }))
    ∷ call_at 2 (call.CloseHandleScope (record { 0 = 1 })) status.Ok out.Nothing
    ∷ made_again 2
    ∷ []
    )

-- their text is these twelve lines
abbrev pub Prints : Type 0
Prints = text fixed_texts trace ≡
    opening_lines
    ++ codes "3 env open_handle_scope 0 scope\n"
    ++ codes "4 env create_int64 0 handle\n"
    ++ codes "5 env close_handle_scope 0 -\n"
    ++ codes "6 env create_int64 0 handle\n"
    ++ codes "7 env end 0 -\n"
    ++ codes "8 env go 0 -\n"
    ++ codes "9 env loop_end 0 idle\n"
    ++ codes "10 env drain 0 0\n"
    ++ codes "11 env finals 0 -\n"
    ++ codes "12 env gone 0 -\n"

-- the second handle has no other number, and so not that of the first one
abbrev pub IsStrict : Type 0
IsStrict = (h : ℕ) → IsRun setting (set trace 5 (made_again h)) → h ≡ 2
