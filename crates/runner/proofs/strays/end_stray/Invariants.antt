use Rattle.runner.specs.ActorsAtTheLock.{IsStray, IsSameStray}
use Rattle.runner.proofs.strays.end_stray.Given as goal

abbrev pub invariant-loop : goal.invariant-loop
invariant-loop g l =
    (goal.iterator-loop g).can_next l.iterator'
    × (goal.iterator-loop g).is_finite l.iterator'
    × IsStray g.N.Naming.numbers l.hub l.stray
    × IsSameStray l.fn.stray l.stray
