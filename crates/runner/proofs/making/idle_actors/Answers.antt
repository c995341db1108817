use Rattle.std.proofs.Common.{rules, ◌≡◌, ◌∷◌, sym}
use Rattle.std.proofs.lemmas.List.Elements.{All-head, All-rest, All-same}
use Rattle.std.specs.Vec.Iter.{into_iter_items}
use Rattle.env_loop.specs.ActorTurns.{unstarted_run, IsUnstartedActor}
use Rattle.runner.proofs.MadeCrews.{made-more}
use Rattle.runner.proofs.making.idle_actors.Goals as goal

pub into_unstarted-requires-after_bounds : goal.into_unstarted-requires-after_bounds
into_unstarted-requires-after_bounds g c κs within =
    let step : into_iter_items c.loop-actor.actors ≡ c.in-Some.actor ∷ into_iter_items c.next.new.self = search rules in
    All-head IsUnstartedActor c.in-Some.actor (into_iter_items c.next.new.self)
    (All-same IsUnstartedActor (c.in-Some.actor ∷ into_iter_items c.next.new.self) (into_iter_items c.loop-actor.actors) (sym step) c.loop-actor.invariant.1)

pub loop-actor-preserved : goal.loop-actor-preserved
loop-actor-preserved g c =
    let step : into_iter_items c.loop-actor.actors ≡ c.in-Some.actor ∷ into_iter_items c.next.new.self = search rules in (
      made-more (λ i. unstarted_run i) c.loop-actor.idle.items c.push_reserved.new.self.items c.into_unstarted.result c.in-Some.actor
          (into_iter_items c.loop-actor.actors) (into_iter_items c.next.new.self) c.args.actors.items c.push_reserved.ensures.items c.into_unstarted.ensures
          step c.loop-actor.invariant.0,
      All-rest IsUnstartedActor c.in-Some.actor (into_iter_items c.next.new.self) (into_iter_items c.loop-actor.actors) step c.loop-actor.invariant.1,
      search rules,
    )
