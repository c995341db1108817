use Rattle.std.proofs.Common.{◌∙◌, sym, ap, option_map}
use Rattle.napi_types.specs.parts.Book.{due_where}
use Rattle.napi_types.specs.parts.Buffers.{is_this_ticket}
use Rattle.array_buffers.proofs.Tickets.{due-no_ticket}
use Rattle.array_buffers.proofs.row.BufferRow.leave.Goals.{in-Some, in_default}
use Rattle.array_buffers.proofs.row.BufferRow.leave.Goals as goal

pub returns-clause-due : goal.returns-clause-due
returns-clause-due c =
    elim c.match-self.branch [
      | in-Some w ↦ ap (λ b. b.book) w.book-is ∙ w.make_due.ensures.due ∙ ap (λ o. due_where (is_this_ticket (option_map (λ t. t.0) o)) c.args.book.now.book) (sym w.in-Some.is)
      | in_default w ↦ ap (λ b. b.book) w.book-is ∙ sym (due-no_ticket c.args.book.now.book) ∙ ap (λ o. due_where (is_this_ticket (option_map (λ t. t.0) o)) c.args.book.now.book) (sym w.in_default.is)
    ]
