-- One addon asks to exit in its init frame, and another in a finalizer: the frame goes on, the second init frame begins, and so does the finalizer.
use Rattle.std.specs.Prelude.{◌≡◌, List, [], ◌∷◌, ◌++◌, Some, None, false, codes}
use Rattle.napi_types.specs.declared.call.Call.TheVariants as call
use Rattle.napi_types.specs.declared.op.Op.TheVariants as op
use Rattle.napi_types.specs.declared.entry.Entry.{Entry}
use Rattle.napi_types.specs.declared.entry.LoopEnd.TheVariants as loop_end
use Rattle.napi_types.specs.declared.entry.Out.TheVariants as out
use Rattle.napi_types.specs.declared.status.Status.TheVariants as status
use Rattle.napi_types.specs.plain.Texts.{fixed_texts}
use Rattle.napi_types.specs.scripts.Text.{text}
use Rattle.napi_types.specs.runs.Setting.{Setting}
use Rattle.machine_laws.specs.RunWords.{script_of_plans, call_at, call_making, ticket, init_begins, opening_entries, frame_end, go_entry, ending_events, gone_entry, finalizer_begins_at, opening_lines, handle}
use Rattle.machine_laws.specs.LegalRuns.{IsRun}

-- the first addon asks to exit and makes an object; the second makes one in a scope, adds a finalizer to it, closes the scope and collects. The finalizer runs
-- the second addon's second entry, which asks to exit
abbrev pub setting : Setting
setting = script_of_plans (
    Some ((op.Exit ∷ op.CreateObject 0 ∷ []) ∷ [])
    ∷ Some (
    (op.OpenHandleScope 0
    ∷ op.CreateObject 1
    ∷ op.AddFinalizer 1 1 1 0 None
    ∷ op.CloseHandleScope 0
    ∷ op.Collect 2
    ∷ [])
    ∷ (op.Exit ∷ [])
    ∷ []
    )
    ∷ []
    )

-- the first ask of a frame, which is to exit
abbrev pub exits : Entry
exits = call_at 0 call.Exit status.Ok out.Nothing

-- the calls of the first addon's init frame
abbrev pub first_calls : List Entry
first_calls = exits ∷ call_at 1 call.CreateObject status.Ok (out.Handle (handle 1)) ∷ []

-- the second addon's init frame
abbrev pub second_frame : List Entry
second_frame =
    init_begins 1
    ∷ call_at 0 call.OpenHandleScope status.Ok (out.Scope (record { 0 = 1 }))
    ∷ call_at 1 call.CreateObject status.Ok (out.Handle (handle 2))
    ∷ call_making 2 (call.AddFinalizer (handle 2) 1 1 0 false) status.Ok out.Nothing (ticket 1)
    ∷ call_at 3 (call.CloseHandleScope (record { 0 = 1 })) status.Ok out.Nothing
    ∷ call_at 4 call.Collect status.Ok (out.Unsigned 2)
    ∷ frame_end
    ∷ []

-- the finalizer's frame
abbrev pub finalizer_frame : List Entry
finalizer_frame = finalizer_begins_at 1 1 ∷ exits ∷ frame_end ∷ []

-- the run with these calls of the first init frame, these frames before `go`, and these after `finals`
abbrev pub trace_with : List Entry → List Entry → List Entry → List Entry
trace_with calls before_go at_end = opening_entries ++ calls ++ frame_end ∷ before_go ++ go_entry ∷ ending_events loop_end.Exit ++ at_end ++ gone_entry ∷ []

-- the whole run
abbrev pub trace : List Entry
trace = trace_with first_calls second_frame finalizer_frame

-- their text is these twenty lines
abbrev pub Prints : Type 0
Prints = text fixed_texts trace ≡
    opening_lines
    ++ codes "3 env exit 0 -\n"
    ++ codes "4 env create_object 0 handle\n"
    ++ codes "5 env end 0 -\n"
    ++ codes "6 env begin 0 init:1.0\n"
    ++ codes "7 env open_handle_scope 0 scope\n"
    ++ codes "8 env create_object 0 handle\n"
    ++ codes "9 env add_finalizer 0 - +#1\n"
    ++ codes "10 env close_handle_scope 0 -\n"
    ++ codes "11 env collect 0 2\n"
    ++ codes "12 env end 0 -\n"
    ++ codes "13 env go 0 -\n"
    ++ codes "14 env loop_end 0 exit\n"
    ++ codes "15 env drain 0 0\n"
    ++ codes "16 env finals 0 -\n"
    ++ codes "17 env begin 0 finalize:1.1:#1\n"
    ++ codes "18 env exit 0 -\n"
    ++ codes "19 env end 0 -\n"
    ++ codes "20 env gone 0 -\n"

-- near misses are no runs
pub record IsStrict : Type 0 where
  -- the frame that asks to exit does not end there, ..
  pub on : IsRun setting (trace_with (exits ∷ []) second_frame finalizer_frame) → ⊥
  -- .. `go` does not come before the second addon's frame, ..
  pub go : IsRun setting (trace_with first_calls [] finalizer_frame) → ⊥
  -- .. and the environment is not gone before the finalizer, which is due, has begun
  pub gone : IsRun setting (trace_with first_calls second_frame []) → ⊥
