use Rattle.std.specs.Prelude.{◌≡◌, ◌+◌, ◌≤◌, vec_len, vec_capacity}
use Rattle.std.specs.Vec.Iter.{into_iter_items, into_iter_len}
use Rattle.runner.specs.StartRoom.{AreUnstarted}
use Rattle.runner.proofs.FilledPlaces.{FillsBehind}
use Rattle.runner.proofs.start.start_all.Given as goal

abbrev pub invariant-loop-unstarted : goal.invariant-loop-unstarted
invariant-loop-unstarted g l =
    (vec_len l.children + into_iter_len l.unstarted-iterator ≡ vec_len l.fn.crew)
    × (vec_len l.fn.crew ≤ vec_capacity l.children)
    × (vec_len l.strays ≤ vec_len l.children)
    × (vec_len l.fn.crew ≤ vec_capacity l.strays)
    × AreUnstarted g.row.J.Denot g.N.Naming.numbers l.hub (1 + vec_len l.children) (into_iter_items l.unstarted-iterator)
    × FillsBehind g.N.Naming.numbers l.hub (1 + vec_len l.children) (into_iter_items l.unstarted-iterator) l.fn.crew.items l.children.items l.strays.items
