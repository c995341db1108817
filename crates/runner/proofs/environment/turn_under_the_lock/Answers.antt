use Rattle.napi_types.specs.declared.entry.Actor.TheVariants as actor
use Rattle.runner.proofs.EnvironmentAtTheLock.{grew-there, goes-there}
use Rattle.runner.proofs.environment.turn_under_the_lock.Goals as goal

pub returns-clause-grew : goal.returns-clause-grew
returns-clause-grew g c =
    grew-there actor.Env c.args.locked.now.state.value c.deref_mut.result.now c.hub_burst-burst.new.hub c.hub_burst-burst.result.made c.deref_mut.ensures.value
    c.hub_burst-burst.ensures.made

pub returns-clause-goes : goal.returns-clause-goes
returns-clause-goes g c =
    goes-there g.N.Naming.numbers _ c.args.env.now c.hub_burst-burst.new.self _ _ c.args.locked.now.state.value c.deref_mut.result.now c.hub_burst-burst.new.hub
    c.deref_mut.ensures.value c.hub_burst-burst.ensures.goes
