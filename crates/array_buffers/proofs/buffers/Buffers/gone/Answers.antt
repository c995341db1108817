use Rattle.std.proofs.Common.{◌∙◌, sym, subst, ap}
use Rattle.napi_types.specs.parts.Book.{due_where}
use Rattle.napi_types.specs.parts.Buffers.{IsGivenTicket, is_this_ticket}
use Rattle.array_buffers.specs.BufferTables.{ticket_of_row}
use Rattle.array_buffers.proofs.Kept.{seen, row-now, gone-sum, gone-after}
use Rattle.array_buffers.proofs.buffers.Buffers.gone.Goals as goal

pub take-given_back-requires : goal.take-given_back-requires
take-given_back-requires c =
    subst (λ o. IsGivenTicket (ticket_of_row o) c.args.book.now.book) (sym (row-now _ _ _ _ (seen c.self.view_is) c.self.invariant c.args.value.0)) c.requires

pub overflow_sub-self : goal.overflow_sub-self
overflow_sub-self c =
    gone-sum _ _ _ c.args.self.now.buffers (seen c.self.view_is) c.self.invariant c.args.value.0 c.take-given_back.result c.take-given_back.new.rows.entries c.remove.new.self.entries
    c.take-given_back.ensures.length c.take-given_back.ensures.taken (λ w. c.remove.ensures.updates.0 w)

pub invariant_of-self : goal.invariant_of-self
invariant_of-self c =
    (gone-after _ _ _ c.args.self.now.buffers (seen c.self.view_is) c.self.invariant c.args.value.0 c.take-given_back.result c.take-given_back.new.rows.entries c.remove.new.self.entries
    c.take-given_back.ensures.length c.take-given_back.ensures.taken (λ w. c.remove.ensures.updates.0 w)).0

pub returns-clause-forgotten : goal.returns-clause-forgotten
returns-clause-forgotten c =
    (gone-after _ _ _ c.args.self.now.buffers (seen c.self.view_is) c.self.invariant c.args.value.0 c.take-given_back.result c.take-given_back.new.rows.entries c.remove.new.self.entries
    c.take-given_back.ensures.length c.take-given_back.ensures.taken (λ w. c.remove.ensures.updates.0 w)).1

pub returns-clause-due : goal.returns-clause-due
returns-clause-due c =
    c.take-given_back.ensures.due ∙ ap (λ o. due_where (is_this_ticket (ticket_of_row o)) c.args.book.now.book) (row-now _ _ _ _ (seen c.self.view_is) c.self.invariant c.args.value.0)
