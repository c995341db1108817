use Rattle.std.specs.Prelude.{◌≡◌, ◌+◌, ◌≤◌, ◌++◌, map, vec_len, vec_capacity}
use Rattle.std.specs.List.{All}
use Rattle.std.specs.Vec.Iter.{into_iter_items, into_iter_len}
use Rattle.env_loop.specs.ActorTurns.{unstarted_run, IsUnstartedActor}
use Rattle.runner.proofs.making.idle_actors.Given as goal

abbrev pub invariant-loop-actor : goal.invariant-loop-actor
invariant-loop-actor g l =
    (map (λ i. unstarted_run i) l.idle.items ++ into_iter_items l.actors ≡ l.fn.actors.items)
    × All IsUnstartedActor (into_iter_items l.actors)
    × (vec_len l.idle + into_iter_len l.actors ≤ vec_capacity l.idle)

abbrev pub decreases-loop-actor : goal.decreases-loop-actor
decreases-loop-actor g l = into_iter_len l.actors
