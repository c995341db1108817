use Rattle.std.specs.Prelude.{◌+◌, ◌≤◌, List, vec_len, vec_capacity}
use Rattle.std.specs.Vec.Iter.{into_iter_items, into_iter_len}
use Rattle.env_loop.specs.declared.actor.ActorRun.{ActorRun}
use Rattle.runner.specs.StartRoom.{Fills, IsEndedAt}
use Rattle.runner.proofs.JoinedActors.{Joining}
use Rattle.runner.proofs.join.join_all.Given as goal

abbrev pub invariant-loop-child : goal.invariant-loop-child
invariant-loop-child g l =
    (vec_len l.passes + into_iter_len l.child-iterator ≤ vec_capacity l.passes)
    × ((actors : List (ActorRun g.row.J.Denot)) → Fills (IsEndedAt g.N.Naming.numbers l.hub) g.N.Naming.numbers l.hub 1 actors l.fn.children.items l.fn.strays.items
    → Joining g.N.Naming.numbers l.hub actors l.fn.passes.items (into_iter_items l.child-iterator) l.strays.items l.passes.items)
