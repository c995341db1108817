-- Shared calls of the environment: what it hands to the hub, and what it takes in of the answer.
use Rattle.std.specs.Prelude.{◌≡◌, ℕ, ◌==◌, true, false, not, ◌∷◌, ◌++◌, length, filter, Option, Some, None, ◌⊎◌}
use Rattle.napi_types.specs.declared.call.Call.{Call}
use Rattle.napi_types.specs.declared.call.Call.TheVariants as call
use Rattle.napi_types.specs.declared.duties.DueInfo.{DueInfo}
use Rattle.napi_types.specs.declared.entry.Actor.TheVariants as actor
use Rattle.napi_types.specs.declared.entry.Entry.{Entry}
use Rattle.napi_types.specs.declared.entry.Given.{Given}
use Rattle.napi_types.specs.declared.entry.Out.{Out}
use Rattle.napi_types.specs.declared.entry.Out.TheVariants as out
use Rattle.napi_types.specs.declared.entry.Reply.{Reply}
use Rattle.napi_types.specs.declared.entry.SharedCall.{SharedCall}
use Rattle.napi_types.specs.declared.entry.Target.{Target}
use Rattle.napi_types.specs.declared.entry.What.TheVariants as what
use Rattle.napi_types.specs.declared.status.Status.{Status}
use Rattle.napi_types.specs.declared.status.Status.TheVariants as status
use Rattle.napi_types.specs.plain.Guards.{is_shared}
use Rattle.napi_types.specs.plain.Lists.{singleton}
use Rattle.napi_types.specs.plain.Replies.{plain}
use Rattle.napi_types.specs.parts.Bodies.{function_addon, function_entry}
use Rattle.napi_types.specs.parts.Frames.{caller_of, frame_of_duty, asks_made}
use Rattle.napi_types.specs.parts.Heap.{handle_value, handle_body}
use Rattle.napi_types.specs.parts.HeapChanges.{with_frame}
use Rattle.napi_types.specs.environment.Changes.{call_entry, with_noted_status}
use Rattle.napi_types.specs.environment.Environment.{Environment}
use Rattle.napi_types.specs.environment.Refusals.{refusal}

-- WHAT IS HANDED OVER
-- where the items of a new thread-safe function are delivered: at its call-js entry in the calling addon, where one is named, or else at its function's own
-- entry
abbrev pub target_of : Environment → Call → Option Target
target_of e (call.CreateThreadsafeFunction f (Some entry) _ _ _ _) = Some (record { addon = caller_of e.frames; entry = entry; torn_runs = true })
target_of e (call.CreateThreadsafeFunction (Some f) None _ _ _ _) =
    Some (record { addon = function_addon (handle_body e.heap f.0); entry = function_entry (handle_body e.heap f.0); torn_runs = false })
target_of e _ = None

-- a call that the environment refuses names no target
abbrev pub target_unless : Option Status → Option Target → Option Target
target_unless None target = target
target_unless (Some s) target = None

-- the calling addon, the target of a new function, and the environment's own refusal
abbrev pub given_of : Environment → Call → Given
given_of e c = record { addon = caller_of e.frames; target = target_unless (refusal e c) (target_of e c); refused = refusal e c }

-- the entry of a shared call as the environment hands it to the hub, whose answer takes the place of its reply
abbrev pub shared_entry : Environment → Call → Out → Entry
shared_entry e c o = record (call_entry e c (plain status.Ok o)) { given = Some (given_of e c) }

-- the call as the environment hands it to the hub: where it stands in its frame, and what is given with it
abbrev pub shared_call_of : Environment → Call → SharedCall
shared_call_of e c = record {
  call = c;
  depth = length e.frames;
  step = asks_made e.frames;
  addon = (given_of e c).addon;
  target = (given_of e c).target;
  refused = (given_of e c).refused;
}

-- the entry of a call that was handed over so, with the hub's answer
abbrev pub handed_entry : SharedCall → Reply → Entry
handed_entry s r = record {
  actor = actor.Env;
  depth = s.depth;
  step = s.step;
  what = what.Call s.call;
  reply = r;
  given = Some (record { addon = s.addon; target = s.target; refused = s.refused });
}

-- it is the same entry
abbrev pub SharedEntriesAreHanded : Type 0
SharedEntriesAreHanded = (e : Environment) (c : Call) (o : Out) → shared_entry e c o ≡ handed_entry (shared_call_of e c) (plain status.Ok o)

-- the environment refuses a shared call with 1 or with 9, where it refuses it
abbrev pub SharedRefusals : Type 0
SharedRefusals = (e : Environment) (c : Call) → is_shared c ≡ true
    → (refusal e c ≡ None) ⊎ (refusal e c ≡ Some status.InvalidArg) ⊎ (refusal e c ≡ Some status.GenericFailure)

-- WHAT IS TAKEN IN
-- a new thread-safe function keeps the value of its function alive, where it has one
abbrev pub with_root : Call → Out → Environment → Environment
with_root (call.CreateThreadsafeFunction (Some f) _ _ _ _ _) (out.Function n) e =
    record e { tsfn_roots = e.tsfn_roots ++ singleton (record { function = n.0; value = handle_value e.heap f.0 }) }
with_root _ _ e = e

-- until it finishes
abbrev pub without_root : ℕ → Environment → Environment
without_root n e = record e { tsfn_roots = filter (λ r. not (r.function == n)) e.tsfn_roots }

-- the environment after the answer: the status is noted, and the ask is counted
abbrev pub after_shared : Call → Reply → Environment → Environment
after_shared c r e = with_noted_status c r.status (with_root c r.out e)

-- the frame of a duty of the hub begins, with a scope of its own; the last status stays
abbrev pub after_delivery : DueInfo → Environment → Environment
after_delivery d e = record e { heap = with_frame e.heap; frames = frame_of_duty d ∷ e.frames }
