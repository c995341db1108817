use Rattle.std.proofs.Common.{sym}
use Rattle.handle_scope.proofs.EscapeRefusals.{closing-there, closing-absent}
use Rattle.handle_scope.proofs.scopes.why_not_among.Goals as goal

pub returns-then-is_opened : goal.returns-then-is_opened
returns-then-is_opened c =
    sym (closing-there c.args.number c.args.kind c.args.opened.now c.in-Some.mark (sym c.in-Some.ensures) (sym c.if-is_scope.ensures) (sym c.if-is_opened.ensures))

pub returns-else-is_opened : goal.returns-else-is_opened
returns-else-is_opened c =
    sym (closing-absent c.args.number c.args.kind c.args.opened.now c.in-Some.mark (sym c.in-Some.ensures) (sym c.if-is_scope.ensures) (sym c.if-is_opened.ensures))
