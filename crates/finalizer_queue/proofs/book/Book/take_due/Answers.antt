use Rattle.std.proofs.Common.{◌≡◌, ◌∙◌, true, Some, refl, sym, ap, arith, heap_items}
use Rattle.napi_types.specs.parts.Book.{is_due, is_at, made_begun, moved, moved_at, registration_at, lowest_due}
use Rattle.finalizer_queue.specs.TicketRows.{row_state, row_registration, book_of}
use Rattle.finalizer_queue.proofs.KeptBook.{kept-taken, popped-due, popped-lowest, empty-lowest, due-waits, moved-begun, nil-length}
use Rattle.finalizer_queue.proofs.RowMoves.{IsTicketRow, book_of-changed, registration_at-row, is_at-within, row-passes}
use Rattle.finalizer_queue.proofs.book.Book.take_due.Goals as goal
use Rattle.finalizer_queue.proofs.book.Book.take_due.Goals.{In_ok-number, After-index_mut}

-- the ticket that was at the top is due
due : (c : In_ok-number) → is_at is_due (book_of c.self.inside.rows.items) c.in_ok-number.field-0.0 ≡ true
due c = popped-due _ _ _ _ _ _ _ c.in_ok-number.field-0 c.self.invariant c.in_ok-number.ensures.permutation

row : (c : After-index_mut) → IsTicketRow c.self.inside.rows.items c.in_ok-number.field-0.0 c.index_mut.result.now × (is_due (row_state c.index_mut.result.now.state) ≡ true)
row c = row-passes is_due c.self.inside.rows.items _ c.in_ok-number.field-0.0 _ refl (due (goal.at.begin-due-requires c).In_ok-number) c.index_mut.ensures.value

pub overflow_sub-number : goal.overflow_sub-number
overflow_sub-number c = (is_at-within is_due _ _ (due (goal.at.overflow_sub-number c).In_ok-number)).0

pub index_mut-requires : goal.index_mut-requires
index_mut-requires c =
    let given = is_at-within is_due c.self.inside.rows.items c.in_ok-number.field-0.0 (due (goal.at.index_mut-requires c).In_ok-number) in
    omega (arith, given.0, given.1, c.self.inside.rows.ok.0)

pub begin-due-requires : goal.begin-due-requires
begin-due-requires c = due-waits _ (row c).1

pub invariant_of-self-2 : goal.invariant_of-self-2
invariant_of-self-2 c =
    let is = row (goal.at.invariant_of-self-2 c).After-index_mut in
    kept-taken _ _ _ _ _ _ _ _ _ c.self.invariant c.in_ok-number.field-0.0 _ _ is.0 is.1 c.begin-due.ensures.begun
    c.in_ok-number.field-0 refl c.in_ok-number.ensures.permutation (c.in_ok-number.ensures.heap_order c.self.invariant.order).0 c.in_ok-number.ensures.len c.pop.ensures.capacity

lowest : (c : In_ok-number) → lowest_due c.args.self.now.book ≡ Some c.in_ok-number.field-0.0
lowest c =
    ap (λ k. lowest_due k.book) (sym c.self.view_is)
    ∙ popped-lowest _ _ _ _ _ _ _ c.in_ok-number.field-0 c.self.invariant c.in_ok-number.ensures.permutation (c.in_ok-number.ensures.heap_order c.self.invariant.order).1

pub returns-clause-none : goal.returns-clause-none
returns-clause-none c =
    let is = lowest (goal.at.returns-clause-none c).In_ok-number in
    ((λ no. cc), (λ no. cc))

pub returns-clause-taken : goal.returns-clause-taken
returns-clause-taken c =
    let is = row (goal.at.returns-clause-taken c).After-index_mut in
    record {
      ticket = c.in_ok-number.field-0.0;
      registration = row_registration c.index_mut.result.now;
      lowest = lowest (goal.at.returns-clause-taken c).In_ok-number;
      registered = ap (λ k. registration_at k.book c.in_ok-number.field-0.0) (sym c.self.view_is) ∙ registration_at-row _ c.in_ok-number.field-0.0 _ is.0;
      told = c.begin-due.ensures.told;
      begun = book_of-changed (moved made_begun) _ c.in_ok-number.field-0.0 _ _ is.0 (moved-begun _ _ is.1 c.begin-due.ensures.begun)
          ∙ ap (λ k. moved_at made_begun c.in_ok-number.field-0.0 k.book) c.self.view_is;
    }

pub returns-in_err-number-clause-none : goal.returns-in_err-number-clause-none
returns-in_err-number-clause-none c =
    let empty = nil-length (heap_items c.self.inside.due) (sym c.self.inside.due.data.ok.0 ∙ c.in_err-number.ensures.none) in
    let none = ap (λ k. lowest_due k.book) (sym c.self.view_is) ∙ empty-lowest _ _ _ _ _ _ c.self.invariant empty in
    ((λ no. none), (λ no. c.from_residual.ensures))
