-- A call of the environment that registers makes the next ticket.
use Rattle.std.specs.Prelude.{◌≡◌, ℕ, true, false, Some, None}
use Rattle.napi_types.specs.declared.call.Call.{Call}
use Rattle.napi_types.specs.plain.DutyCalls.{makes_duty}
use Rattle.napi_types.specs.plain.Guards.{is_shared}
use Rattle.napi_types.specs.parts.Book.{new_ticket, ticket_duty}
use Rattle.napi_types.specs.environment.Calls.{answer}
use Rattle.napi_types.specs.environment.Environment.{Environment}
use Rattle.napi_types.specs.environment.Refusals.{refusal}

-- where nothing refuses it, and no other actor has a part in it
abbrev pub UnrefusedCallsMakeTheirTicket : Type 0
UnrefusedCallsMakeTheirTicket = (e : Environment) (c : Call) (n : ℕ) → makes_duty c ≡ true → is_shared c ≡ false → refusal e c ≡ None
    → (answer e c n).reply.made ≡ Some (ticket_duty (new_ticket e.book))
