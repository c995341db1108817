-- Two objects that name each other are wrapped, each with a finalizer, and collected together; their finalizers begin in the loop, in the order of their tickets.
use Rattle.std.specs.Prelude.{◌≡◌, ℕ, List, [], ◌∷◌, ◌++◌, set, Some, None, false, codes}
use Rattle.napi_types.specs.declared.call.Call.TheVariants as call
use Rattle.napi_types.specs.declared.ids.TextNo.{TextNo}
use Rattle.napi_types.specs.declared.op.Op.TheVariants as op
use Rattle.napi_types.specs.declared.entry.Entry.{Entry}
use Rattle.napi_types.specs.declared.entry.Out.TheVariants as out
use Rattle.napi_types.specs.declared.status.Status.TheVariants as status
use Rattle.napi_types.specs.plain.Texts.{fixed_texts}
use Rattle.napi_types.specs.scripts.Text.{text}
use Rattle.napi_types.specs.runs.Setting.{Setting}
use Rattle.machine_laws.specs.RunWords.{script_of_entries, call_at, call_making, ticket, finalizer_runs, run_of_finalizers, opening_lines, handle}
use Rattle.machine_laws.specs.LegalRuns.{IsRun}

-- in a scope the script makes two objects, gives each the other as a property, and wraps each with a finalizer; then it closes the scope and collects. The
-- finalizers run the second entry, which asks nothing
abbrev pub setting : Setting
setting = record (script_of_entries (
    (op.OpenHandleScope 0
    ∷ op.CreateObject 1
    ∷ op.CreateObject 2
    ∷ op.SetNamedProperty 1 (record { 0 = 3 }) 2
    ∷ op.SetNamedProperty 2 (record { 0 = 3 }) 1
    ∷ op.Wrap 1 5 (Some 1) 0 None
    ∷ op.Wrap 2 6 (Some 1) 0 None
    ∷ op.CloseHandleScope 0
    ∷ op.Collect 3
    ∷ [])
    ∷ []
    ∷ []
    )) { texts = 4 }

-- the name of the property
abbrev pub name : TextNo
name = record { 0 = 3 }

-- the collection, which frees so many values
abbrev pub freed : ℕ → Entry
freed n = call_at 8 call.Collect status.Ok (out.Unsigned n)

-- the run whose finalizers have these frames in the loop
abbrev pub trace_with : List Entry → List Entry
trace_with frames = run_of_finalizers (
    call_at 0 call.OpenHandleScope status.Ok (out.Scope (record { 0 = 1 }))
    ∷ call_at 1 call.CreateObject status.Ok (out.Handle (handle 1))
    ∷ call_at 2 call.CreateObject status.Ok (out.Handle (handle 2))
    ∷ call_at 3 (call.SetNamedProperty (handle 1) name (handle 2)) status.Ok out.Nothing
    ∷ call_at 4 (call.SetNamedProperty (handle 2) name (handle 1)) status.Ok out.Nothing
    ∷ call_making 5 (call.Wrap (handle 1) 5 (Some 1) 0 false) status.Ok out.Nothing (ticket 1)
    ∷ call_making 6 (call.Wrap (handle 2) 6 (Some 1) 0 false) status.Ok out.Nothing (ticket 2)
    ∷ call_at 7 (call.CloseHandleScope (record { 0 = 1 })) status.Ok out.Nothing
    ∷ freed 2
    ∷ []
    ) frames []

-- the frame of a ticket, which asks nothing
abbrev pub runs : ℕ → List Entry
runs n = finalizer_runs n []

-- the whole run
abbrev pub trace : List Entry
trace = trace_with (runs 1 ++ runs 2)

-- their text is these twenty-one lines
abbrev pub Prints : Type 0
Prints = text fixed_texts trace ≡
    opening_lines
    ++ codes "3 env open_handle_scope 0 scope\n"
    ++ codes "4 env create_object 0 handle\n"
    ++ codes "5 env create_object 0 handle\n"
    ++ codes "6 env set_named_property 0 -\n"
    ++ codes "7 env set_named_property 0 -\n"
    ++ codes "8 env wrap 0 - +#1\n"
    ++ codes "9 env wrap 0 - +#2\n"
    ++ codes "10 env close_handle_scope 0 -\n"
    ++ codes "11 env collect 0 2\n"
    ++ codes "12 env end 0 -\n"
    ++ codes "13 env go 0 -\n"
    ++ codes "14 env begin 0 finalize:0.1:#1\n"
    ++ codes "15 env end 0 -\n"
    ++ codes "16 env begin 0 finalize:0.1:#2\n"
    ++ codes "17 env end 0 -\n"
    ++ codes "18 env loop_end 0 idle\n"
    ++ codes "19 env drain 0 0\n"
    ++ codes "20 env finals 0 -\n"
    ++ codes "21 env gone 0 -\n"

-- near misses are no runs
pub record IsStrict : Type 0 where
  -- the collection frees both objects, and no other number
  pub count : (n : ℕ) → IsRun setting (set trace 10 (freed n)) → n ≡ 2
  -- the finalizers begin in the order of their tickets: neither begins before the other or twice, and no other one does
  pub order : (n k : ℕ) → IsRun setting (trace_with (runs n ++ runs k)) → (n ≡ 1) × (k ≡ 2)
  -- the loop does not end before each that is due has begun
  pub second : IsRun setting (trace_with (runs 1)) → ⊥
  pub both : IsRun setting (trace_with []) → ⊥
  -- and none begins once more
  pub again : (n : ℕ) → IsRun setting (trace_with (runs 1 ++ runs 2 ++ runs n)) → ⊥
