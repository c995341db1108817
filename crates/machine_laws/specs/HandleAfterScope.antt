-- A handle used after its scope closed is an invalid argument.
use Rattle.std.specs.Prelude.{◌≡◌, List, [], ◌∷◌, ◌++◌, set, codes}
use Rattle.napi_types.specs.declared.call.Call.TheVariants as call
use Rattle.napi_types.specs.declared.op.Op.TheVariants as op
use Rattle.napi_types.specs.declared.entry.Entry.{Entry}
use Rattle.napi_types.specs.declared.entry.Out.TheVariants as out
use Rattle.napi_types.specs.declared.status.Kind.{Kind}
use Rattle.napi_types.specs.declared.status.Status.{Status}
use Rattle.napi_types.specs.declared.status.Status.TheVariants as status
use Rattle.napi_types.specs.declared.entry.Out.{Out}
use Rattle.napi_types.specs.plain.Texts.{fixed_texts}
use Rattle.napi_types.specs.scripts.Text.{text}
use Rattle.napi_types.specs.runs.Setting.{Setting}
use Rattle.machine_laws.specs.RunWords.{script_of, call_at, run_of_calls, opening_lines}
use Rattle.machine_laws.specs.LegalRuns.{IsRun}

-- the script makes an object in a scope, closes the scope, and asks for the kind of the object
abbrev pub setting : Setting
setting = script_of (op.OpenHandleScope 0 ∷ op.CreateObject 1 ∷ op.CloseHandleScope 0 ∷ op.Typeof 1 2 ∷ [])

-- the call of `typeof` on the handle, with this status and this result
abbrev pub typeof_first : Status → Out → Entry
typeof_first s o = call_at 3 (call.Typeof (record { 0 = 1 })) s o

-- the whole run
abbrev pub trace : List Entry
trace = run_of_calls (
    call_at 0 call.OpenHandleScope status.Ok (out.Scope (record { 0 = 1 }))
    ∷ call_at 1 call.CreateObject status.Ok (out.Handle (record { 0 = 1 }))
    ∷ call_at 2 (call.CloseHandleScope (record { 0 = 1 })) status.Ok out.Nothing
    ∷ typeof_first status.InvalidArg out.Nothing
    ∷ []
    )

-- their text is these twelve lines
abbrev pub Prints : Type 0
Prints = text fixed_texts trace ≡
    opening_lines
    ++ codes "3 env open_handle_scope 0 scope\n"
    ++ codes "4 env create_object 0 handle\n"
    ++ codes "5 env close_handle_scope 0 -\n"
    ++ codes "6 env typeof 1 -\n"
    ++ codes "7 env end 0 -\n"
    ++ codes "8 env go 0 -\n"
    ++ codes "9 env loop_end 0 idle\n"
    ++ codes "10 env drain 0 0\n"
    ++ codes "11 env finals 0 -\n"
    ++ codes "12 env gone 0 -\n"

-- `typeof` has no other status there, and tells no kind, whatever is asked
pub record IsStrict : Type 0 where
  pub status : (s : Status) → IsRun setting (set trace 5 (typeof_first s out.Nothing)) → s ≡ status.InvalidArg
  pub kind : (s : Status) (k : Kind) → IsRun setting (set trace 5 (typeof_first s (out.Kind k))) → ⊥
