use Rattle.hub_lock.proofs.LockedCallTurns.{reply-at-last}
use Rattle.hub_lock.proofs.hub.Hub.make_call.Goals as goal

pub returns-in-Reply : goal.returns-in-Reply
returns-in-Reply g c =
    reply-at-last g.N.Naming.numbers c.args.pass.now c.loop.pass c.try_call.new.pass c.args.step c.args.call.now c.in-Reply.reply c.requires.kind c.loop.invariant.2 c.in-Reply.ensures
