-- What each local event of the environment writes, and the environment that it leaves.
use Rattle.std.specs.Prelude.{ℕ, ◌+◌, Bool, true, not, ◌&&◌, nat_lt, ◌∷◌, map, length, None}
use Rattle.napi_types.specs.declared.call.Call.{Call}
use Rattle.napi_types.specs.declared.call.Call.TheVariants as call
use Rattle.napi_types.specs.declared.status.Status.{Status}
use Rattle.napi_types.specs.declared.entry.Cause.TheVariants as cause
use Rattle.napi_types.specs.declared.entry.Out.{Out}
use Rattle.napi_types.specs.declared.entry.Out.TheVariants as out
use Rattle.napi_types.specs.declared.entry.Reply.{Reply}
use Rattle.napi_types.specs.declared.entry.Entry.{Entry}
use Rattle.napi_types.specs.declared.entry.What.TheVariants as what
use Rattle.napi_types.specs.declared.entry.HostStep.TheVariants as host
use Rattle.napi_types.specs.declared.entry.Actor.TheVariants as actor
use Rattle.napi_types.specs.declared.entry.Phase.{Phase}
use Rattle.napi_types.specs.declared.entry.Phase.TheVariants as phase
use Rattle.napi_types.specs.plain.Entries.{host_entry}
use Rattle.napi_types.specs.plain.Lists.{has_number}
use Rattle.napi_types.specs.parts.AsyncHooks.{with_abandoned}
use Rattle.napi_types.specs.parts.Book.{Book, all_due}
use Rattle.napi_types.specs.parts.Frames.{frame_of, begin_told, ask_counted, is_asking, asks_made, most_asks}
use Rattle.napi_types.specs.parts.HeapChanges.{with_frame}
use Rattle.napi_types.specs.environment.Calls.{answer}
use Rattle.napi_types.specs.environment.Environment.{Environment}

-- an entry of the environment, and the environment after it
pub record Change : Type 0 where
  pub entry : Entry
  pub after : Environment

-- `opened` tells the version that the script asks for
abbrev pub opening_change : Environment → Change
opening_change e = record { entry = host_entry host.Opened (out.Unsigned e.version); after = record e { opened = true } }

-- the init frame of an addon begins at the addon's entry 0, with a scope of its own
abbrev pub init_change : ℕ → Environment → Change
init_change n e = record {
  entry = host_entry host.Begin (begin_told (frame_of cause.Init n 0));
  after = record e { inits = e.inits + 1; heap = with_frame e.heap; frames = frame_of cause.Init n 0 ∷ e.frames };
}

-- the last status after a call: the call's own, but that `get_last_error_info` leaves the one that it tells
abbrev pub last_after : Call → Status → Status → Status
last_after call.GetLastErrorInfo s last = last
last_after _ s last = s

-- a call's status is noted as the last one, and its frame made one ask more
abbrev pub with_noted_status : Call → Status → Environment → Environment
with_noted_status c s e = record e { last = last_after c s e.last; frames = ask_counted e.frames }

-- a call's entry tells how many frames stand and the number of the ask in its frame
abbrev pub call_entry : Environment → Call → Reply → Entry
call_entry e c r = record { actor = actor.Env; depth = length e.frames; step = asks_made e.frames; what = what.Call c; reply = r; given = None }

-- the number that a result newly gives, which the environment may choose; 0 where it chooses none
abbrev pub issued_number : Out → ℕ
issued_number (out.Scope s) = s.0
issued_number (out.Ref r) = r.0
issued_number (out.AsyncHook h) = h.0
issued_number (out.Promise d h) = d.0
issued_number _ = 0

-- a number that the environment chooses is above 0 and was never issued
abbrev pub is_fresh_result : Environment → Out → Bool
is_fresh_result e (out.Scope s) = not (has_number s.0 (0 ∷ e.heap.scope_numbers))
is_fresh_result e (out.Ref r) = not (has_number r.0 (0 ∷ e.references.issued))
is_fresh_result e (out.AsyncHook h) = not (has_number h.0 (0 ∷ map (λ x. x.number) e.async_hooks))
is_fresh_result e (out.Promise d h) = not (has_number d.0 (0 ∷ e.promises.issued))
is_fresh_result e _ = true

-- whether the innermost frame may make a further ask
abbrev pub may_ask : Environment → Bool
may_ask e = nat_lt (asks_made e.frames) most_asks

-- whether it may make a further call: a frame that makes no asks may only leave
abbrev pub may_call : Environment → Bool
may_call e = may_ask e && is_asking e.frames

-- a call that answers at once, with the number that its result newly gives
abbrev pub call_change : Environment → Call → ℕ → Change
call_change e c n = record { entry = call_entry e c (answer e c n).reply; after = with_noted_status c (answer e c n).reply.status (answer e c n).after }

-- the environment is gone
abbrev pub gone_change : Environment → Change
gone_change e = record { entry = host_entry host.Gone out.Nothing; after = record e { phase = phase.Gone } }

-- the asynchronous hooks that wait are abandoned
abbrev pub with_none_waiting : Environment → Environment
with_none_waiting e = record e { async_hooks = with_abandoned e.async_hooks }

-- as `finals` comes, every ticket that is registered falls due
abbrev pub book_in : Phase → Book → Book
book_in phase.Finals book = all_due book
book_in _ book = book

-- the environment after the hub's event that starts the phase
abbrev pub in_phase : Phase → Environment → Environment
in_phase p e = record e { phase = p; book = book_in p e.book }
