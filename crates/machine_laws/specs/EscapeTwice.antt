-- A handle escapes from an escapable scope once.
use Rattle.std.specs.Prelude.{◌≡◌, ℕ, List, [], ◌∷◌, ◌++◌, set, codes}
use Rattle.napi_types.specs.declared.call.Call.TheVariants as call
use Rattle.napi_types.specs.declared.op.Op.TheVariants as op
use Rattle.napi_types.specs.declared.entry.Entry.{Entry}
use Rattle.napi_types.specs.declared.entry.Out.{Out}
use Rattle.napi_types.specs.declared.entry.Out.TheVariants as out
use Rattle.napi_types.specs.declared.status.Kind.TheVariants as kind
use Rattle.napi_types.specs.declared.status.Status.{Status}
use Rattle.napi_types.specs.declared.status.Status.TheVariants as status
use Rattle.napi_types.specs.plain.Texts.{fixed_texts}
use Rattle.napi_types.specs.scripts.Text.{text}
use Rattle.napi_types.specs.runs.Setting.{Setting}
use Rattle.machine_laws.specs.RunWords.{script_of, call_at, run_of_calls, opening_lines}
use Rattle.machine_laws.specs.LegalRuns.{IsRun}

-- the script makes an object in an escapable scope, lets it escape twice, closes the scope, and asks for the kind of the object by the handle that escaped
-- and by the one that did not
abbrev pub setting : Setting
setting = script_of (
    op.OpenEscapableHandleScope 0 ∷ op.CreateObject 1 ∷ op.EscapeHandle 0 1 2 ∷ op.EscapeHandle 0 1 3 ∷ op.CloseEscapableHandleScope 0
    ∷ op.Typeof 2 4 ∷ op.Typeof 1 4 ∷ []
    )

-- the first escape, with this handle
abbrev pub escape : ℕ → Entry
escape h = call_at 2 (call.EscapeHandle (record { 0 = 1 }) (record { 0 = 1 })) status.Ok (out.Handle (record { 0 = h }))

-- the second one, with this status and this result
abbrev pub escape_again : Status → Out → Entry
escape_again s o = call_at 3 (call.EscapeHandle (record { 0 = 1 }) (record { 0 = 1 })) s o

-- after the close, the kind of the object by the handle that escaped, with this status and this result
abbrev pub outside : Status → Out → Entry
outside s o = call_at 5 (call.Typeof (record { 0 = 2 })) s o

-- the same by the handle that did not escape
abbrev pub entry_within : Status → Out → Entry
entry_within s o = call_at 6 (call.Typeof (record { 0 = 1 })) s o

-- the whole run
abbrev pub trace : List Entry
trace = run_of_calls (
    call_at 0 call.OpenEscapableHandleScope status.Ok (out.Scope (record { 0 = 1 }))
    ∷ call_at 1 call.CreateObject status.Ok (out.Handle (record { 0 = 1 }))
    ∷ escape 2
    ∷ escape_again status.EscapeCalledTwice out.Nothing
    ∷ call_at 4 (call.CloseEscapableHandleScope (record { 0 = 1 })) status.Ok out.Nothing
    ∷ outside status.Ok (out.Kind kind.Object)
    ∷ entry_within status.InvalidArg out.Nothing
    ∷ []
    )

-- their text is these fifteen lines
abbrev pub Prints : Type 0
Prints = text fixed_texts trace ≡
    opening_lines
    ++ codes "3 env open_escapable_handle_scope 0 scope\n"
    ++ codes "4 env create_object 0 handle\n"
    ++ codes "5 env escape_handle 0 handle\n"
    ++ codes "6 env escape_handle 12 -\n"
    ++ codes "7 env close_escapable_handle_scope 0 -\n"
    ++ codes "8 env typeof 0 object\n"
    ++ codes "9 env typeof 1 -\n"
    ++ codes "10 env end 0 -\n"
    ++ codes "11 env go 0 -\n"
    ++ codes "12 env loop_end 0 idle\n"
    ++ codes "13 env drain 0 0\n"
    ++ codes "14 env finals 0 -\n"
    ++ codes "15 env gone 0 -\n"

-- near misses are no runs
pub record IsStrict : Type 0 where
  -- the escape gives the next handle
  pub next : (h : ℕ) → IsRun setting (set trace 4 (escape h)) → h ≡ 2
  -- a second escape gives no handle, and has no other status
  pub handle : (s : Status) (h : ℕ) → IsRun setting (set trace 5 (escape_again s (out.Handle (record { 0 = h })))) → ⊥
  pub again : (s : Status) → IsRun setting (set trace 5 (escape_again s out.Nothing)) → s ≡ status.EscapeCalledTwice
  -- the handle that escaped is good after the close, and the other one is not
  pub outside : (s : Status) → IsRun setting (set trace 7 (outside s out.Nothing)) → ⊥
  pub within : (s : Status) → IsRun setting (set trace 8 (entry_within s out.Nothing)) → s ≡ status.InvalidArg
