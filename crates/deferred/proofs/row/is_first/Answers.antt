use Rattle.std.proofs.Common.{refl, arith}
use Rattle.deferred.proofs.Numbers.{first-is}
use Rattle.deferred.proofs.row.is_first.Goals as goal

pub returns-in-Some : goal.returns-in-Some
returns-in-Some c is =
    let ns = c.args.reactions.now in
    let some = c.in-Some.ensures.variant.0 refl in
    first-is ns.items c.in-Some.first.now c.args.ticket (omega (arith, some, ns.ok.0)) c.in-Some.ensures.lookup is
