use Rattle.trace_text.proofs.Adding.{adds_then}
use Rattle.trace_text.proofs.line.add_duty.Goals as goal

pub returns-in-Ticket : goal.returns-in-Ticket
returns-in-Ticket g c = rw c.in-Ticket.is (adds_then c.add_word.ensures c.add_count.ensures)

pub returns-in-Work : goal.returns-in-Work
returns-in-Work g c = rw c.in-Work.is (adds_then c.add_word-in-Work.ensures c.add_number.ensures)

pub returns-in-Item : goal.returns-in-Item
returns-in-Item g c = rw c.in-Item.is (adds_then (adds_then (adds_then
    c.add_word-in-Item.ensures c.add_number-in-Item.ensures) c.add_word-in-Item-2.ensures) c.add_number-in-Item-2.ensures)

pub returns-in-Function : goal.returns-in-Function
returns-in-Function g c = rw c.in-Function.is (adds_then c.add_word-in-Function.ensures c.add_number-in-Function.ensures)
