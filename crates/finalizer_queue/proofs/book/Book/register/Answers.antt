use Rattle.std.proofs.Common.{◌≡◌, ◌∙◌, sym, ap, refl}
use Rattle.finalizer_queue.specs.TicketRows.{spare_slips}
use Rattle.finalizer_queue.proofs.KeptBook.{kept-registered}
use Rattle.finalizer_queue.proofs.book.Book.register.Goals as goal

pub invariant_of-self-2 : goal.invariant_of-self-2
invariant_of-self-2 c =
    let spare : spare_slips c.self.inside.spare ≡ 1 = ap spare_slips (sym c.take.ensures.value ∙ c.in-Some.is) in
    let kept = rw spare at c.self.invariant in
    rw (c.push_reserved.ensures.items, c.take.ensures.after, c.push_reserved.ensures.capacity)
    (kept-registered c.self.inside.rows.items 0 _ _ _ _ kept _ refl)
