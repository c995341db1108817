use Rattle.std.proofs.Common.{◌≡◌, ◌∙◌, ◌∷◌, sym, ap, arith}
use Rattle.napi_types.specs.plain.Lists.{has_number}
use Rattle.napi_types.specs.parts.Book.{due_where}
use Rattle.wrap_tag.specs.ValueRows.{tickets_of_chain}
use Rattle.wrap_tag.proofs.Dues.{due_where-none, due_where-next, given-next}
use Rattle.wrap_tag.proofs.row.Chain.make_due.Goals as goal

pub returns-in-End-clause-due : goal.returns-in-End-clause-due
returns-in-End-clause-due c =
    sym (due_where-none (λ n. has_number n (tickets_of_chain c.loop-self.self)) c.loop-self.book.book (λ m. ap (λ chain. has_number m (tickets_of_chain chain)) c.in-End.is)) ∙ c.loop-self.invariant.due

pub loop-self-preserved : goal.loop-self-preserved
loop-self-preserved c =
    let rest = tickets_of_chain c.into_inner-self.result in
    let tells : tickets_of_chain c.loop-self.self ≡ c.in-Link.ticket.0 ∷ rest = ap tickets_of_chain c.in-Link.is ∙ sym (ap (λ chain. c.in-Link.ticket.0 ∷ tickets_of_chain chain) c.into_inner-self.ensures) in
    record {
      due = ap (due_where (λ n. has_number n rest)) c.make_due.ensures.due ∙ due_where-next c.in-Link.ticket.0 rest c.loop-self.book.book ∙ sym (ap (λ ts. due_where (λ n. has_number n ts) c.loop-self.book.book) tells) ∙ c.loop-self.invariant.due;
      given = given-next (tickets_of_chain c.loop-self.self) c.in-Link.ticket.0 rest tells c.loop-self.book.book c.make_due.new.self.book c.make_due.ensures.due c.loop-self.invariant.given;
      spare = omega arith;
    }
