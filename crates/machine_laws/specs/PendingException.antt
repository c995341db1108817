-- An object is thrown: what is refused while it is pending, and what is not; and an init frame that ends uncut while one is pending.
use Rattle.std.specs.Prelude.{◌≡◌, ℕ, Bool, true, List, [], ◌∷◌, ◌++◌, set, codes}
use Rattle.napi_types.specs.declared.call.Call.TheVariants as call
use Rattle.napi_types.specs.declared.op.Op.TheVariants as op
use Rattle.napi_types.specs.declared.entry.Entry.{Entry}
use Rattle.napi_types.specs.declared.entry.HostStep.TheVariants as host
use Rattle.napi_types.specs.declared.entry.Out.{Out}
use Rattle.napi_types.specs.declared.entry.Out.TheVariants as out
use Rattle.napi_types.specs.declared.status.Kind.{Kind}
use Rattle.napi_types.specs.declared.status.Kind.TheVariants as kind
use Rattle.napi_types.specs.declared.status.Status.{Status}
use Rattle.napi_types.specs.declared.status.Status.TheVariants as status
use Rattle.napi_types.specs.plain.Entries.{host_entry}
use Rattle.napi_types.specs.plain.Texts.{fixed_texts}
use Rattle.napi_types.specs.scripts.Text.{text}
use Rattle.napi_types.specs.runs.Setting.{Setting, EndsBy}
use Rattle.machine_laws.specs.RunWords.{script_of, call_at, opening_entries, great_events, gone_entry, run_of_calls, opening_lines, handle}
use Rattle.machine_laws.specs.LegalRuns.{IsRun, told_asks}

-- the texts: after the fixed ones a name
abbrev pub texts : List (List ℕ)
texts = fixed_texts ++ codes "x" ∷ []

-- the script throws an object, sets a property, asks whether an exception is pending, opens and closes a scope, takes the exception, compares it with the object,
-- and takes one again, where none is pending, to ask for its kind
abbrev pub setting : Setting
setting = record (script_of (
    op.CreateObject 1
    ∷ op.Throw 1
    ∷ op.SetNamedProperty 1 (record { 0 = 3 }) 1
    ∷ op.IsExceptionPending 2
    ∷ op.OpenHandleScope 0
    ∷ op.CloseHandleScope 0
    ∷ op.GetAndClearLastException 3
    ∷ op.StrictEquals 1 3 4
    ∷ op.GetAndClearLastException 3
    ∷ op.Typeof 3 4
    ∷ []
    )) { texts = 4 }

-- the setting of a property while the exception is pending, with this status
abbrev pub set_refused : Status → Entry
set_refused s = call_at 2 (call.SetNamedProperty (handle 1) (record { 0 = 3 }) (handle 1)) s out.Nothing

-- whether an exception is pending after that
abbrev pub pending_told : Bool → Entry
pending_told b = call_at 3 call.IsExceptionPending status.Ok (out.Flag b)

-- whether the exception is the object
abbrev pub same_told : Bool → Entry
same_told b = call_at 7 (call.StrictEquals (handle 1) (handle 2)) status.Ok (out.Flag b)

-- the kind of what is taken where none is pending
abbrev pub none_kind : Kind → Entry
none_kind k = call_at 9 (call.Typeof (handle 3)) status.Ok (out.Kind k)

-- the whole run
abbrev pub trace : List Entry
trace = run_of_calls (
    call_at 0 call.CreateObject status.Ok (out.Handle (handle 1))
    ∷ call_at 1 (call.Throw (handle 1)) status.Ok out.Nothing
    ∷ set_refused status.PendingException
    ∷ pending_told true
    ∷ call_at 4 call.OpenHandleScope status.Ok (out.Scope (record { 0 = 1 }))
    ∷ call_at 5 (call.CloseHandleScope (record { 0 = 1 })) status.Ok out.Nothing
    ∷ call_at 6 call.GetAndClearLastException status.Ok (out.Handle (handle 2))
    ∷ same_told true
    ∷ call_at 8 call.GetAndClearLastException status.Ok (out.Handle (handle 3))
    ∷ none_kind kind.Undefined
    ∷ []
    )

-- their text is these eighteen lines
abbrev pub Prints : Type 0
Prints = text texts trace ≡
    opening_lines
    ++ codes "3 env create_object 0 handle\n"
    ++ codes "4 env throw 0 -\n"
    ++ codes "5 env set_named_property 10 -\n"
    ++ codes "6 env is_exception_pending 0 true\n"
    ++ codes "7 env open_handle_scope 0 scope\n"
    ++ codes "8 env close_handle_scope 0 -\n"
    ++ codes "9 env get_and_clear_last_exception 0 handle\n"
    ++ codes "10 env strict_equals 0 true\n"
    ++ codes "11 env get_and_clear_last_exception 0 handle\n"
    ++ codes "12 env typeof 0 undefined\n"
    ++ codes "13 env end 0 -\n"
    ++ codes "14 env go 0 -\n"
    ++ codes "15 env loop_end 0 idle\n"
    ++ codes "16 env drain 0 0\n"
    ++ codes "17 env finals 0 -\n"
    ++ codes "18 env gone 0 -\n"

-- near misses are no runs
pub record IsStrict : Type 0 where
  -- a guarded call has no other status, and the exception stays pending
  pub guarded : (s : Status) → IsRun setting (set trace 4 (set_refused s)) → s ≡ status.PendingException
  pub pending : (b : Bool) → IsRun setting (set trace 5 (pending_told b)) → b ≡ true
  -- what is taken is what was thrown, and then nothing is pending
  pub taken : (b : Bool) → IsRun setting (set trace 9 (same_told b)) → b ≡ true
  pub none : (k : Kind) → IsRun setting (set trace 11 (none_kind k)) → k ≡ kind.Undefined

-- AN INIT FRAME THAT ENDS UNCUT WITH ONE PENDING
-- the script throws an object and leaves
abbrev pub uncaught_setting : Setting
uncaught_setting = script_of (op.CreateObject 1 ∷ op.Throw 1 ∷ [])

-- the end of its init frame, with this result
abbrev pub end_told : Out → Entry
end_told o = host_entry host.End o

-- its whole run
abbrev pub uncaught_trace : List Entry
uncaught_trace =
    opening_entries
    ++ call_at 0 call.CreateObject status.Ok (out.Handle (handle 1))
    ∷ call_at 1 (call.Throw (handle 1)) status.Ok out.Nothing
    ∷ end_told out.Uncaught
    ∷ great_events
    ++ gone_entry
    ∷ []

-- the end tells that the exception was not caught, and nothing else
pub record IsUncaught : Type 0 where
  pub ends : EndsBy uncaught_setting (told_asks uncaught_setting uncaught_trace) uncaught_trace
  pub told : IsRun uncaught_setting (set uncaught_trace 4 (end_told out.Nothing)) → ⊥
