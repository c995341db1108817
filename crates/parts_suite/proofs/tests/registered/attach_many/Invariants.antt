use Rattle.std.proofs.Common.{◌≡◌, ◌≤◌, [], length}
use Rattle.std.specs.List.{All}
use Rattle.napi_types.specs.parts.Attachments.{Attached}
use Rattle.parts_suite.proofs.tests.registered.attach_many.Given as goal

abbrev pub invariant-loop-number : goal.invariant-loop-number
invariant-loop-number g l =
    (length l.book.book ≤ l._number)
    × (l.wraps.attachments.wraps ≡ [])
    × All (λ (t : Attached). (1 ≤ t.ticket) × (t.ticket ≤ length l.book.book)) l.wraps.attachments.tickets
