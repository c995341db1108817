-- Calls that register a finalizer, a cleanup hook or a reaction, or withdraw one.
use Rattle.std.specs.Prelude.{ℕ, cond, Option, Some, None, option_map}
use Rattle.napi_types.specs.declared.entry.Cause.TheVariants as cause
use Rattle.napi_types.specs.plain.Replies.{Answer}
use Rattle.napi_types.specs.parts.Book.{Book, Registration, Registered, is_registered, is_at, made_withdrawn, moved_at, ticket_duty, new_ticket, with_registration}
use Rattle.napi_types.specs.parts.Frames.{caller_of}
use Rattle.napi_types.specs.environment.Environment.{Environment}

-- REGISTERED
-- a finalizer as it is registered: its frame will run this entry of the addon that makes the call, and be given this data and this hint
abbrev pub finalizer_of : Environment → ℕ → ℕ → ℕ → Registration
finalizer_of e payload entry hint =
    record { cause = cause.Finalize; addon = caller_of e.frames; entry = entry; payload = payload; hint = hint; state = Registered }

-- the same where an entry is named
abbrev pub finalizer_if : Environment → ℕ → Option ℕ → ℕ → Option Registration
finalizer_if e payload entry hint = option_map (λ n. finalizer_of e payload n hint) entry

-- the ticket that it gets
abbrev pub ticket_if : Book → Option ℕ → Option ℕ
ticket_if book entry = option_map (λ n. new_ticket book) entry

-- an answer that registers this besides, and tells its duty
abbrev pub registering : Registration → Answer Environment → Answer Environment
registering r a = record {
  reply = record (a.reply) { made = Some (ticket_duty (new_ticket a.after.book)) };
  after = record (a.after) { book = with_registration r a.after.book };
}

-- the same where there is something to register
abbrev pub registering_if : Option Registration → Answer Environment → Answer Environment
registering_if None a = a
registering_if (Some r) a = registering r a

-- WITHDRAWN
-- a ticket, where it is still registered
abbrev pub registered_only : Book → Option ℕ → Option ℕ
registered_only book None = None
registered_only book (Some n) = cond (is_at is_registered book n) (Some n) None

-- an answer that withdraws this ticket besides, one that is registered, and tells its duty
abbrev pub withdrawing : Option ℕ → Answer Environment → Answer Environment
withdrawing None a = a
withdrawing (Some n) a = record {
  reply = record (a.reply) { dropped = Some (ticket_duty n) };
  after = record (a.after) { book = moved_at made_withdrawn n a.after.book };
}
