-- An object is wrapped with a finalizer, which `remove_wrap` withdraws, and wrapped anew with another: that one alone begins.
use Rattle.std.specs.Prelude.{◌≡◌, ℕ, List, [], ◌∷◌, ◌++◌, set, Option, Some, None, false, codes}
use Rattle.napi_types.specs.declared.call.Call.TheVariants as call
use Rattle.napi_types.specs.declared.op.Op.TheVariants as op
use Rattle.napi_types.specs.declared.entry.Duty.{Duty}
use Rattle.napi_types.specs.declared.entry.Entry.{Entry}
use Rattle.napi_types.specs.declared.entry.Out.TheVariants as out
use Rattle.napi_types.specs.declared.status.Status.{Status}
use Rattle.napi_types.specs.declared.status.Status.TheVariants as status
use Rattle.napi_types.specs.plain.Texts.{fixed_texts}
use Rattle.napi_types.specs.scripts.Text.{text}
use Rattle.napi_types.specs.runs.Setting.{Setting}
use Rattle.machine_laws.specs.RunWords.{script_of_entries, call_at, call_making, call_dropping, ticket, finalizer_runs, run_of_finalizers, opening_lines, handle}
use Rattle.machine_laws.specs.LegalRuns.{IsRun}

-- in a scope the script makes an object and wraps it with a finalizer, and again; it removes the wrap, wraps the object anew with a finalizer and asks for its
-- payload; then it closes the scope and collects. The finalizers run the second entry, which asks nothing
abbrev pub setting : Setting
setting = script_of_entries (
    (op.OpenHandleScope 0
    ∷ op.CreateObject 1
    ∷ op.Wrap 1 5 (Some 1) 0 None
    ∷ op.Wrap 1 6 (Some 1) 0 None
    ∷ op.RemoveWrap 1 2
    ∷ op.Wrap 1 7 (Some 1) 0 None
    ∷ op.Unwrap 1 2
    ∷ op.CloseHandleScope 0
    ∷ op.Collect 3
    ∷ [])
    ∷ []
    ∷ []
    )

-- the second wrap, with this status, and the duty that it makes, where it makes one
abbrev pub wrapped_again : Status → Option Duty → Entry
wrapped_again s d = call_making 3 (call.Wrap (handle 1) 6 (Some 1) 0 false) s out.Nothing d

-- the removal, with the duty that it withdraws, where it withdraws one
abbrev pub removed : Option Duty → Entry
removed d = call_dropping 4 (call.RemoveWrap (handle 1)) status.Ok (out.Unsigned 5) d

-- the wrap after that, with the duty that it makes, where it makes one
abbrev pub wrapped_anew : Option Duty → Entry
wrapped_anew d = call_making 5 (call.Wrap (handle 1) 7 (Some 1) 0 false) status.Ok out.Nothing d

-- the payload that is then told
abbrev pub unwrapped : ℕ → Entry
unwrapped n = call_at 6 (call.Unwrap (handle 1)) status.Ok (out.Unsigned n)

-- the run whose finalizers have these frames in the loop
abbrev pub trace_with : List Entry → List Entry
trace_with frames = run_of_finalizers (
    call_at 0 call.OpenHandleScope status.Ok (out.Scope (record { 0 = 1 }))
    ∷ call_at 1 call.CreateObject status.Ok (out.Handle (handle 1))
    ∷ call_making 2 (call.Wrap (handle 1) 5 (Some 1) 0 false) status.Ok out.Nothing (ticket 1)
    ∷ wrapped_again status.InvalidArg None
    ∷ removed (ticket 1)
    ∷ wrapped_anew (ticket 2)
    ∷ unwrapped 7
    ∷ call_at 7 (call.CloseHandleScope (record { 0 = 1 })) status.Ok out.Nothing
    ∷ call_at 8 call.Collect status.Ok (out.Unsigned 1)
    ∷ []
    ) frames []

-- the frame of a ticket, which asks nothing
abbrev pub runs : ℕ → List Entry
runs n = finalizer_runs n []

-- the whole run
abbrev pub trace : List Entry
trace = trace_with (runs 2)

-- their text is these nineteen lines
abbrev pub Prints : Type 0
Prints = text fixed_texts trace ≡
    opening_lines
    ++ codes "3 env open_handle_scope 0 scope\n"
    ++ codes "4 env create_object 0 handle\n"
    ++ codes "5 env wrap 0 - +#1\n"
    ++ codes "6 env wrap 1 -\n"
    ++ codes "7 env remove_wrap 0 5 -#1\n"
    ++ codes "8 env wrap 0 - +#2\n"
    ++ codes "9 env unwrap 0 7\n"
    ++ codes "10 env close_handle_scope 0 -\n"
    ++ codes "11 env collect 0 1\n"
    ++ codes "12 env end 0 -\n"
    ++ codes "13 env go 0 -\n"
    ++ codes "14 env begin 0 finalize:0.1:#2\n"
    ++ codes "15 env end 0 -\n"
    ++ codes "16 env loop_end 0 idle\n"
    ++ codes "17 env drain 0 0\n"
    ++ codes "18 env finals 0 -\n"
    ++ codes "19 env gone 0 -\n"

-- near misses are no runs
pub record IsStrict : Type 0 where
  -- the second wrap has no other status and registers nothing, ..
  pub once : (s : Status) (d : Option Duty) → IsRun setting (set trace 5 (wrapped_again s d)) → (s ≡ status.InvalidArg) × (d ≡ None)
  -- .. the removal withdraws the finalizer of the wrap, which is ticket 1, and the new wrap registers ticket 2
  pub removed : (d : Option Duty) → IsRun setting (set trace 6 (removed d)) → d ≡ ticket 1
  pub anew : (d : Option Duty) → IsRun setting (set trace 7 (wrapped_anew d)) → d ≡ ticket 2
  -- the payload is that of the new wrap
  pub payload : (n : ℕ) → IsRun setting (set trace 8 (unwrapped n)) → n ≡ 7
  -- ticket 2 alone begins: the withdrawn one begins neither in its place, nor before it, nor after it
  pub alone : (n : ℕ) → IsRun setting (trace_with (runs n)) → n ≡ 2
  pub before : IsRun setting (trace_with (runs 1 ++ runs 2)) → ⊥
  pub after : IsRun setting (trace_with (runs 2 ++ runs 1)) → ⊥
  -- it begins neither twice nor never
  pub twice : IsRun setting (trace_with (runs 2 ++ runs 2)) → ⊥
  pub never : IsRun setting (trace_with []) → ⊥
