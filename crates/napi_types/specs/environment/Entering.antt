-- A call of a function enters a frame.
use Rattle.std.specs.Prelude.{ℕ, ◌∷◌, Bool, ◌&&◌, Option, Some, None, is_none}
use Rattle.napi_types.specs.declared.call.Args.{Args}
use Rattle.napi_types.specs.declared.call.Call.{Call}
use Rattle.napi_types.specs.declared.call.Call.TheVariants as call
use Rattle.napi_types.specs.declared.entry.HostStep.TheVariants as host
use Rattle.napi_types.specs.declared.ids.HandleId.{HandleId}
use Rattle.napi_types.specs.declared.status.Status.{Status}
use Rattle.napi_types.specs.declared.status.Status.TheVariants as status
use Rattle.napi_types.specs.plain.CallKinds.{is_calling}
use Rattle.napi_types.specs.plain.Entries.{host_entry}
use Rattle.napi_types.specs.parts.Frames.{Frame, begin_told}
use Rattle.napi_types.specs.parts.FunctionCalls.{callee_of, with_receiver}
use Rattle.napi_types.specs.parts.HeapChanges.{with_frame}
use Rattle.napi_types.specs.environment.Changes.{Change, with_noted_status, call_change}
use Rattle.napi_types.specs.environment.Environment.{Environment}
use Rattle.napi_types.specs.environment.Refusals.{refusal}

-- a call of a function that nothing refuses
abbrev pub is_entering : Environment → Call → Bool
is_entering e c = is_calling c && is_none (refusal e c)

-- a frame begins inside the innermost one, with a scope of its own; the entry tells why, the addon and the entry that it runs, and the duty that began it
abbrev pub begin_change : Frame → Option HandleId → Environment → Change
begin_change f receiver e = record {
  entry = host_entry host.Begin (begin_told f);
  after = record e { heap = with_receiver receiver (with_frame e.heap); frames = f ∷ e.frames };
}

-- an accepted call of a function: it counts as an ask of the caller's, sets the last status to 0, and its frame begins
abbrev pub enter_change : Option HandleId → HandleId → Args → Environment → Change
enter_change receiver f args e = begin_change (callee_of e.heap f) receiver (with_noted_status (call.CallFunction receiver f args) status.Ok e)

-- a call of a function, given the first refusal that applies, if one does
abbrev pub function_change : Option HandleId → HandleId → Args → ℕ → Environment → Option Status → Change
function_change receiver f args n e None = enter_change receiver f args e
function_change receiver f args n e (Some s) = call_change e (call.CallFunction receiver f args) n

-- what a call comes to, where n is the number that it newly gives: an accepted call of a function enters a frame, every other call answers at once
abbrev pub asked_change : Environment → Call → ℕ → Change
asked_change e (call.CallFunction receiver f args) n = function_change receiver f args n e (refusal e (call.CallFunction receiver f args))
asked_change e c n = call_change e c n
