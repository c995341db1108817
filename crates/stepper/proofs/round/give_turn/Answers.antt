use Rattle.std.proofs.Common.{◌∙◌, ◌<◌, ◌+◌, length, sym, subst, arith}
use Rattle.env_loop.specs.ActorTurns.{IsActorAt}
use Rattle.stepper.proofs.ActorPlaces.{actors-count, at-thread, at-worker}
use Rattle.stepper.proofs.OrderedTurns.{environment-step, named-step}
use Rattle.stepper.proofs.round.give_turn.Goals as goal

pub actor_turn-requires-clause-inside : goal.actor_turn-requires-clause-inside
actor_turn-requires-clause-inside g c κs within =
    let at : c.in-Thread.thread < g.N.Naming.numbers.threads = subst (IsActorAt g.N.Naming.numbers) c.in-Thread.is c.requires.scheduled in
    omega (arith, at, actors-count g.N.Naming.numbers c.args.actors.now.items c.requires.stands.actors.order)

pub overflow_add-threads : goal.overflow_add-threads
overflow_add-threads g c =
    let at : c.in-Worker.worker < g.N.Naming.numbers.workers = subst (IsActorAt g.N.Naming.numbers) c.in-Worker.is c.requires.scheduled in
    omega (arith, at, c.requires.threads, actors-count g.N.Naming.numbers c.args.actors.now.items c.requires.stands.actors.order, c.len.ensures, c.len.type_inv)

pub prove-unreachable-requires : goal.prove-unreachable-requires
prove-unreachable-requires g c =
    omega (arith, c.requires.threads, actors-count g.N.Naming.numbers c.args.actors.now.items c.requires.stands.actors.order, c.len.ensures, c.if-prove.true)

pub actor_turn-requires-in-Worker-clause-inside : goal.actor_turn-requires-in-Worker-clause-inside
actor_turn-requires-in-Worker-clause-inside g c κs within =
    let at : c.in-Worker.worker < g.N.Naming.numbers.workers = subst (IsActorAt g.N.Naming.numbers) c.in-Worker.is c.requires.scheduled in
    omega (arith, at, c.requires.threads, actors-count g.N.Naming.numbers c.args.actors.now.items c.requires.stands.actors.order)

pub returns-in-Env-clause-went : goal.returns-in-Env-clause-went
returns-in-Env-clause-went g c = rw c.in-Env.is (environment-step _ _ _ _ _ _ c.requires.stands c.environment_turn.ensures.went)

pub returns-in-Thread-clause-went : goal.returns-in-Thread-clause-went
returns-in-Thread-clause-went g c =
    let at : c.in-Thread.thread < g.N.Naming.numbers.threads = subst (IsActorAt g.N.Naming.numbers) c.in-Thread.is c.requires.scheduled in
    let inside : c.in-Thread.thread < length c.args.actors.now.items =
    omega (arith, at, actors-count g.N.Naming.numbers c.args.actors.now.items c.requires.stands.actors.order) in
    named-step _ _ _ _ _ c.requires.stands inside c.actor_turn.ensures _ c.args.who (at-thread g.N.Naming.numbers c.in-Thread.thread at ∙ sym c.in-Thread.is)

pub returns-in-Worker-clause-went : goal.returns-in-Worker-clause-went
returns-in-Worker-clause-went g c =
    let at : c.in-Worker.worker < g.N.Naming.numbers.workers = subst (IsActorAt g.N.Naming.numbers) c.in-Worker.is c.requires.scheduled in
    let inside : c.args.threads + c.in-Worker.worker < length c.args.actors.now.items =
    omega (arith, at, c.requires.threads, actors-count g.N.Naming.numbers c.args.actors.now.items c.requires.stands.actors.order) in
    named-step _ _ _ _ _ c.requires.stands inside c.actor_turn-in-Worker.ensures _ c.args.who
    (rw c.requires.threads (at-worker g.N.Naming.numbers c.in-Worker.worker at) ∙ sym c.in-Worker.is)
