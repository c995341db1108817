-- What was taken has begun.
use Rattle.std.proofs.Common.{◌≡◌, ◌∙◌, ℕ, ◌==◌, true, cond, Some, refl, sym, ap}
use Rattle.napi_types.specs.declared.duties.DueInfo.{DueInfo}
use Rattle.napi_types.specs.plain.Lists.{up_to}
use Rattle.napi_types.specs.parts.Book.{Book, Registration, TicketState, Due, is_due, is_begun, is_at, made_begun, moved, moved_at, registration_at, lowest_due}
use Rattle.napi_types.proofs.plain.Found.{same-self}
use Rattle.napi_types.proofs.plain.Lists.{find-passes}
use Rattle.napi_types.proofs.parts.Moved.{at-state, is_at-changed_where}
use Rattle.finalizer_queue.specs.KeptBook.{LowestBegins, ticket_number}

-- a ticket that was the lowest due, and begins
pub lowest-begun : (old : Book) (n : ℕ) (r : Registration) → lowest_due old ≡ Some n → registration_at old n ≡ Some r → is_at is_begun (moved_at made_begun n old) n ≡ true
lowest-begun old n r lowest there =
    let due : is_due r.state ≡ true = sym (at-state is_due old n r there) ∙ find-passes (is_at is_due old) (up_to _) n lowest in
    is_at-changed_where is_begun (moved made_begun) (λ m. m == n) old n r there ∙ ap (λ b. is_begun (cond b (moved made_begun r) r).state) (same-self n)
    ∙ begins r.state due
  where
    begins : (s : TicketState) → is_due s ≡ true → is_begun (made_begun s) ≡ true
    begins Due due = refl
    begins _ due = cc

pub takes-begun : (old new : Book) (due : DueInfo) → LowestBegins old due new → is_at is_begun new (ticket_number due.duty) ≡ true
takes-begun old new due takes =
    ap (λ (d : DueInfo). is_at is_begun new (ticket_number d.duty)) takes.told ∙ ap (λ b. is_at is_begun b takes.ticket) takes.begun
    ∙ lowest-begun old takes.ticket takes.registration takes.lowest takes.registered
