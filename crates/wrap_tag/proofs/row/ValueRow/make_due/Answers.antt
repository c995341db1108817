use Rattle.std.proofs.Common.{◌≡◌, ◌∙◌, ◌++◌, option_map, sym, ap, subst, Option}
use Rattle.std.specs.Option.{option_to_list}
use Rattle.napi_types.specs.declared.ids.Ticket.{Ticket}
use Rattle.napi_types.specs.plain.Lists.{has_number}
use Rattle.napi_types.specs.parts.Book.{due_where}
use Rattle.wrap_tag.specs.ValueRows.{tickets_of_chain}
use Rattle.wrap_tag.specs.Wraps.{AreGiven}
use Rattle.wrap_tag.proofs.Dues.{due_where-none, due_where-one, due_where-row, given-row}
use Rattle.wrap_tag.proofs.row.ValueRow.make_due.Goals.{in-Some, in_default}
use Rattle.wrap_tag.proofs.row.ValueRow.make_due.Goals as goal

pub make_due-requires-2 : goal.make_due-requires-2
make_due-requires-2 c =
    let made : c.match-ticket_of.book.book ≡ due_where (λ n. has_number n (option_to_list (option_map (λ t. t.0) c.ticket_of.result))) c.args.book.now.book =
    elim c.match-ticket_of.branch [
      | in-Some w ↦ ap (λ b. b.book) w.book-is ∙ w.make_due.ensures.due ∙ due_where-one w.in-Some.ticket.0 c.args.book.now.book ∙ sym (ap (λ o. due_where (λ n. has_number n (option_to_list (option_map (λ t. t.0) o))) c.args.book.now.book) w.in-Some.is)
      | in_default w ↦ ap (λ b. b.book) w.book-is
          ∙ sym (due_where-none (λ n. has_number n (option_to_list (option_map (λ t. t.0) c.ticket_of.result))) c.args.book.now.book (λ m. ap (λ o. has_number m (option_to_list (option_map (λ t. t.0) o))) w.in_default.is))
    ] in
    given-row (option_map (λ t. t.0) c.ticket_of.result) (tickets_of_chain c.args.self.tickets) c.args.book.now.book c.match-ticket_of.book.book made
    (let P : Option Ticket → Type 0 = λ o. AreGiven (option_to_list (option_map (λ t. t.0) o) ++ tickets_of_chain c.args.self.tickets) c.args.book.now.book in subst P (sym c.ticket_of.ensures) c.requires)

pub returns-clause-due : goal.returns-clause-due
returns-clause-due c =
    let made : c.match-ticket_of.book.book ≡ due_where (λ n. has_number n (option_to_list (option_map (λ t. t.0) c.ticket_of.result))) c.args.book.now.book =
    elim c.match-ticket_of.branch [
      | in-Some w ↦ ap (λ b. b.book) w.book-is ∙ w.make_due.ensures.due ∙ due_where-one w.in-Some.ticket.0 c.args.book.now.book ∙ sym (ap (λ o. due_where (λ n. has_number n (option_to_list (option_map (λ t. t.0) o))) c.args.book.now.book) w.in-Some.is)
      | in_default w ↦ ap (λ b. b.book) w.book-is
          ∙ sym (due_where-none (λ n. has_number n (option_to_list (option_map (λ t. t.0) c.ticket_of.result))) c.args.book.now.book (λ m. ap (λ o. has_number m (option_to_list (option_map (λ t. t.0) o))) w.in_default.is))
    ] in
    c.make_due-2.ensures.due
    ∙ due_where-row (option_map (λ t. t.0) c.ticket_of.result) (tickets_of_chain c.args.self.tickets) c.args.book.now.book c.match-ticket_of.book.book made
    ∙ ap (λ o. due_where (λ n. has_number n (option_to_list (option_map (λ t. t.0) o) ++ tickets_of_chain c.args.self.tickets)) c.args.book.now.book) c.ticket_of.ensures
