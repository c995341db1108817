use Rattle.std.proofs.Common.{◌∙◌, option_map, sym, ap}
use Rattle.napi_types.specs.parts.Book.{due_where}
use Rattle.napi_types.specs.parts.Buffers.{is_this_ticket}
use Rattle.array_buffers.specs.BufferTables.{buffer_row, ticket_of_row}
use Rattle.array_buffers.proofs.Tickets.{due-no_ticket}
use Rattle.array_buffers.proofs.rows.take.Goals as goal

pub returns-in-None-clause-due : goal.returns-in-None-clause-due
returns-in-None-clause-due c =
    sym (due-no_ticket c.args.book.now.book)
    ∙ ap (λ o. due_where (is_this_ticket (ticket_of_row (option_map (buffer_row c.args.value.0) o))) c.args.book.now.book) (sym c.in-None.is ∙ c.remove.ensures.value)
