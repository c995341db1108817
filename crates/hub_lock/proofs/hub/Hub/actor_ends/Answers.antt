use Rattle.hub_lock.proofs.WorkTurns.{may-end-still}
use Rattle.hub_lock.proofs.hub.Hub.actor_ends.Goals as goal

pub try_end-requires-clause-may : goal.try_end-requires-clause-may
try_end-requires-clause-may g c κs within = may-end-still g.N.Naming.numbers c.args.pass.now c.loop.pass c.args.cut c.loop.invariant.2 c.requires.may
