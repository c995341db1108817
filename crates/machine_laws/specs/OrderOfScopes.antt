-- The order of scopes: two are open, and only the innermost can be closed. A scope that is closed is open no more.
use Rattle.std.specs.Prelude.{◌≡◌, List, [], ◌∷◌, ◌++◌, set, codes}
use Rattle.napi_types.specs.declared.call.Call.TheVariants as call
use Rattle.napi_types.specs.declared.op.Op.TheVariants as op
use Rattle.napi_types.specs.declared.entry.Entry.{Entry}
use Rattle.napi_types.specs.declared.entry.Out.TheVariants as out
use Rattle.napi_types.specs.declared.status.Status.{Status}
use Rattle.napi_types.specs.declared.status.Status.TheVariants as status
use Rattle.napi_types.specs.plain.Texts.{fixed_texts}
use Rattle.napi_types.specs.scripts.Text.{text}
use Rattle.napi_types.specs.runs.Setting.{Setting}
use Rattle.machine_laws.specs.RunWords.{script_of, call_at, run_of_calls, opening_lines}
use Rattle.machine_laws.specs.LegalRuns.{IsRun}

-- the script opens two scopes, and closes the outer, the inner, and twice the outer
abbrev pub setting : Setting
setting = script_of (
    op.OpenHandleScope 0 ∷ op.OpenHandleScope 1 ∷ op.CloseHandleScope 0 ∷ op.CloseHandleScope 1 ∷ op.CloseHandleScope 0 ∷ op.CloseHandleScope 0 ∷ []
    )

-- the outer scope cannot be closed while the inner one is open
abbrev pub too_early : Status → Entry
too_early s = call_at 2 (call.CloseHandleScope (record { 0 = 1 })) s out.Nothing

-- nor once no scope is open
abbrev pub too_late : Status → Entry
too_late s = call_at 5 (call.CloseHandleScope (record { 0 = 1 })) s out.Nothing

-- the whole run
abbrev pub trace : List Entry
trace = run_of_calls (
    call_at 0 call.OpenHandleScope status.Ok (out.Scope (record { 0 = 1 }))
    ∷ call_at 1 call.OpenHandleScope status.Ok (out.Scope (record { 0 = 2 }))
    ∷ too_early status.HandleScopeMismatch
    ∷ call_at 3 (call.CloseHandleScope (record { 0 = 2 })) status.Ok out.Nothing
    ∷ call_at 4 (call.CloseHandleScope (record { 0 = 1 })) status.Ok out.Nothing
    ∷ too_late status.HandleScopeMismatch
    ∷ []
    )

-- their text is these fourteen lines
abbrev pub Prints : Type 0
Prints = text fixed_texts trace ≡
    opening_lines
    ++ codes "3 env open_handle_scope 0 scope\n"
    ++ codes "4 env open_handle_scope 0 scope\n"
    ++ codes "5 env close_handle_scope 13 -\n"
    ++ codes "6 env close_handle_scope 0 -\n"
    ++ codes "7 env close_handle_scope 0 -\n"
    ++ codes "8 env close_handle_scope 13 -\n"
    ++ codes "9 env end 0 -\n"
    ++ codes "10 env go 0 -\n"
    ++ codes "11 env loop_end 0 idle\n"
    ++ codes "12 env drain 0 0\n"
    ++ codes "13 env finals 0 -\n"
    ++ codes "14 env gone 0 -\n"

-- with another status in a refused line the entries are no run, whatever is asked along them
pub record IsStrict : Type 0 where
  pub early : (s : Status) → IsRun setting (set trace 4 (too_early s)) → s ≡ status.HandleScopeMismatch
  pub late : (s : Status) → IsRun setting (set trace 7 (too_late s)) → s ≡ status.HandleScopeMismatch
