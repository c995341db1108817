use Rattle.std.proofs.Common.{◌∙◌, sym}
use Rattle.trace_text.proofs.LineEnds.{accepted_end}
use Rattle.trace_text.proofs.line.add_end.Goals as goal

pub returns-in-Ok : goal.returns-in-Ok
returns-in-Ok g c =
    rw (sym (accepted_end c.args.texts.now c.args.reply.now c.in-Ok.is (sym c.tells_duty.ensures ∙ c.if-tells_duty.false))) c.add_end_of_out.ensures
