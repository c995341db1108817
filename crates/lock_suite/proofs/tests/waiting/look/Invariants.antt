use Rattle.std.proofs.Common.{◌≡◌, false}
use Rattle.lock_suite.proofs.tests.waiting.look.Given as goal

abbrev pub invariant-loop : goal.invariant-loop
invariant-loop g l =
    (goal.iterator-loop g).can_next l.iterator'
    × (goal.iterator-loop g).is_finite l.iterator'
    × (l.pass.lock ≡ l.fn.turn.lock)
    × (l.pass.holds ≡ false)
