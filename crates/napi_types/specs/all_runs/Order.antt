-- The order in which tickets are given and begin.
use Rattle.std.specs.Prelude.{ℕ, Bool, true, false, cond, List, [], ◌∷◌, ◌++◌, flat_map, length, Option, Some, ◌≡◌}
use Rattle.napi_types.specs.declared.entry.Cause.{Cause}
use Rattle.napi_types.specs.declared.entry.Cause.TheVariants as cause
use Rattle.napi_types.specs.declared.entry.Duty.{Duty}
use Rattle.napi_types.specs.declared.entry.Duty.TheVariants as duty
use Rattle.napi_types.specs.declared.entry.Entry.{Entry}
use Rattle.napi_types.specs.declared.entry.Out.{Out}
use Rattle.napi_types.specs.declared.entry.Out.TheVariants as out
use Rattle.napi_types.specs.plain.Entries.{is_begin, is_finals}
use Rattle.napi_types.specs.plain.Lists.{up_to}
use Rattle.napi_types.specs.parts.Book.{TicketsRise, TicketsFall}

-- whether a frame begins for this cause as a hook's
abbrev pub is_hook_cause : Cause → Bool
is_hook_cause cause.Hook = true
is_hook_cause _ = false

-- the ticket whose frame begins with this result, where it is one
abbrev pub told_ticket : Out → List ℕ
told_ticket (out.Begin c addon entry (Some (duty.Ticket t))) = t.0 ∷ []
told_ticket _ = []

-- the same where it is a hook's
abbrev pub told_hook : Out → List ℕ
told_hook (out.Begin c addon entry (Some (duty.Ticket t))) = cond (is_hook_cause c) (t.0 ∷ []) []
told_hook _ = []

-- the tickets whose frames begin along the entries, in their order; those of hooks; and those that begin after `finals`
abbrev pub tickets_begun : List Entry → List ℕ
tickets_begun xs = flat_map (λ x. cond (is_begin x.what) (told_ticket x.reply.out) []) xs

abbrev pub hooks_begun : List Entry → List ℕ
hooks_begun xs = flat_map (λ x. cond (is_begin x.what) (told_hook x.reply.out) []) xs

abbrev pub finals_begun : List Entry → List ℕ
finals_begun [] = []
finals_begun (x ∷ xs) = cond (is_finals x.what) (tickets_begun xs) (finals_begun xs)

-- the tickets that calls make along the entries, in their order
abbrev pub made_ticket : Option Duty → List ℕ
made_ticket (Some (duty.Ticket t)) = t.0 ∷ []
made_ticket _ = []

abbrev pub tickets_made : List Entry → List ℕ
tickets_made [] = []
tickets_made (x ∷ xs) = made_ticket x.reply.made ++ tickets_made xs

-- tickets count from 1, in the order of registration
abbrev pub TicketsCount : List Entry → Type 0
TicketsCount xs = tickets_made xs ≡ up_to (length (tickets_made xs))

-- hooks begin in the reverse of the order in which they were added
abbrev pub HooksFall : List Entry → Type 0
HooksFall xs = TicketsFall (hooks_begun xs)

-- what begins after `finals`, which is all that was left to the end, begins in the order of registration
abbrev pub FinalsRise : List Entry → Type 0
FinalsRise xs = TicketsRise (finals_begun xs)
