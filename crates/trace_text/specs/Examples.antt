-- Traces with their texts: what the definitions of the weave and of the text come to on entries that are written out.
use Rattle.std.specs.Prelude.{◌≡◌, [], ◌∷◌, codes, None, Some, negsuc}
use Rattle.napi_types.specs.declared.entry.Entry.{Entry}
use Rattle.napi_types.specs.declared.entry.Out.{Out}
use Rattle.napi_types.specs.declared.entry.Out.TheVariants as out
use Rattle.napi_types.specs.declared.entry.What.TheVariants as what
use Rattle.napi_types.specs.declared.entry.HostStep.TheVariants as host
use Rattle.napi_types.specs.declared.entry.Actor.TheVariants as actor
use Rattle.napi_types.specs.declared.entry.Duty.TheVariants as duty
use Rattle.napi_types.specs.declared.entry.Cause.TheVariants as cause
use Rattle.napi_types.specs.declared.call.Call.TheVariants as call
use Rattle.napi_types.specs.declared.status.Status.TheVariants as status
use Rattle.napi_types.specs.plain.Weave.{weave}
use Rattle.napi_types.specs.scripts.Text.{text}

-- an accepted `create_object` of the environment with this result
abbrev pub object_entry : Out → Entry
object_entry result = record {
  actor = actor.Env;
  depth = 1;
  step = 0;
  what = what.Call call.CreateObject;
  reply = record { status = status.Ok; out = result; dropped = None; made = None };
  given = None;
}

-- an entry of no run, for its text alone: a worker, the begin of a completion, a status, a duty withdrawn and a duty made
abbrev pub busy : Entry
busy = record {
  actor = actor.Worker 3;
  depth = 0;
  step = 0;
  what = what.Host host.Begin;
  reply = record {
    status = status.Cancelled;
    out = out.Begin cause.Complete 1 2 (Some (duty.Work 7));
    dropped = Some (duty.Ticket (record { 0 = 4 }));
    made = Some (duty.Item (record { 0 = 2 }) 7);
  };
  given = None;
}

-- three traces and what they are written as
pub record Examples : Type 0 where
  -- the journal's entry stands behind the history's, since it was made at length 1
  pub order : text [] (weave
      (record { at = 1; entry = object_entry (out.Handle (record { 0 = 1 })) } ∷ [])
      (object_entry (out.Signed (negsuc 4)) ∷ []))
      ≡ codes "1 env create_object 0 -5\n2 env create_object 0 handle\n"
  -- the text `"\` with a newline, the byte 31 and an `a`, and a number past the end of the table
  pub escapes : text ((34 ∷ 92 ∷ 10 ∷ 31 ∷ 97 ∷ []) ∷ [])
      (object_entry (out.Text (record { 0 = 0 })) ∷ object_entry (out.Text (record { 0 = 1 })) ∷ [])
      ≡ codes "1 env create_object 0 \"\\\"\\\\\\u000a\\u001fa\"\n2 env create_object 0 \"\"\n"
  pub duties : text [] (busy ∷ []) ≡ codes "1 w3 begin 11 complete:1.2:j7 -#4 +f2.7\n"
