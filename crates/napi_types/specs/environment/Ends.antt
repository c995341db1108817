-- How frames end.
use Rattle.std.specs.Prelude.{ℕ, ◌+◌, Option, Some, None}
use Rattle.napi_types.specs.declared.entry.Cause.{Cause}
use Rattle.napi_types.specs.declared.entry.Cause.TheVariants as cause
use Rattle.napi_types.specs.declared.entry.Duty.{Duty}
use Rattle.napi_types.specs.declared.entry.Duty.TheVariants as duty
use Rattle.napi_types.specs.declared.entry.HostStep.TheVariants as host
use Rattle.napi_types.specs.declared.entry.Out.{Out}
use Rattle.napi_types.specs.declared.entry.Out.TheVariants as out
use Rattle.napi_types.specs.declared.entry.Why.{Why}
use Rattle.napi_types.specs.declared.ids.HandleId.{HandleId}
use Rattle.napi_types.specs.declared.status.Status.{Status}
use Rattle.napi_types.specs.declared.status.Status.TheVariants as status
use Rattle.napi_types.specs.plain.Entries.{host_told, host_entry}
use Rattle.napi_types.specs.plain.Lists.{tail}
use Rattle.napi_types.specs.parts.Book.{Book, made_ended, moved_at}
use Rattle.napi_types.specs.parts.Frames.{cause_of, duty_of}
use Rattle.napi_types.specs.parts.FunctionCalls.{left_value}
use Rattle.napi_types.specs.parts.Heap.{Heap}
use Rattle.napi_types.specs.parts.HeapChanges.{with_handle, without_frame}
use Rattle.napi_types.specs.parts.Promises.{Promises, without_reaction}
use Rattle.napi_types.specs.environment.Changes.{Change}
use Rattle.napi_types.specs.environment.Environment.{Environment}

-- the innermost frame is gone, with all its scopes
abbrev pub without_innermost_frame : Environment → Environment
without_innermost_frame e = record e { heap = without_frame e.heap; frames = tail e.frames }

-- THE FRAME OF A CALL
-- its end has the call's status, which is then the last one
abbrev pub call_end_with : Status → Out → Heap → Environment → Change
call_end_with s o heap e = record { entry = host_told host.End s o; after = record (without_innermost_frame e) { heap = heap; last = s } }

-- the call of a frame that was not cut: while an exception is pending it gives nothing, and the exception stays; else the caller's innermost scope holds
-- a new handle of the value that the frame left, which is read before the frame's scopes close
abbrev pub uncut_call_end : Option HandleId → Environment → Option ℕ → Change
uncut_call_end v e (Some pending) = call_end_with status.PendingException out.Nothing (without_frame e.heap) e
uncut_call_end v e None = call_end_with status.Ok (out.Handle (record { 0 = e.heap.handles + 1 })) (with_handle (left_value e.heap v) (without_frame e.heap)) e

-- the call of a frame that was cut has failed
abbrev pub call_end_change : Option HandleId → Option Why → Environment → Change
call_end_change v (Some w) e = call_end_with status.GenericFailure (out.Cut w) (without_frame e.heap) e
call_end_change v None e = uncut_call_end v e e.pending

-- AN OUTERMOST FRAME
-- its end tells the cut, where it was cut, or else that an exception was pending
abbrev pub end_out : Option Why → Option ℕ → Out
end_out (Some w) pending = out.Cut w
end_out None (Some v) = out.Uncaught
end_out None None = out.Nothing

-- the duty that began a frame ends with it: a ticket that has begun has ended
abbrev pub duty_ended : Option Duty → Book → Book
duty_ended (Some (duty.Ticket ticket)) book = moved_at made_ended ticket.0 book
duty_ended _ book = book

-- a reaction whose frame ends has ended, and its promise no longer has it
abbrev pub reaction_ended : Option Duty → Promises → Promises
reaction_ended (Some (duty.Ticket ticket)) p = without_reaction ticket.0 p
reaction_ended _ p = p

-- a pending exception is cleared, and the duty that began the frame ends
abbrev pub outermost_end_change : Option Why → Environment → Change
outermost_end_change cut e = record {
  entry = host_entry host.End (end_out cut e.pending);
  after = record (without_innermost_frame e) {
    pending = None;
    book = duty_ended (duty_of e.frames) e.book;
    promises = reaction_ended (duty_of e.frames) e.promises;
  };
}

-- a frame that began for this reason ends
abbrev pub end_change_by : Option HandleId → Option Why → Environment → Cause → Change
end_change_by v cut e cause.Call = call_end_change v cut e
end_change_by v cut e _ = outermost_end_change cut e

-- the innermost frame ends, cut or not, and leaves the value of a handle where it names one
abbrev pub end_change : Option HandleId → Option Why → Environment → Change
end_change v cut e = end_change_by v cut e (cause_of e.frames)
