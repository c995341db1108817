use Rattle.std.proofs.Common.{◌≡◌, length}
use Rattle.runner.proofs.StraysInOrder.{EndedSoFar}
use Rattle.runner.proofs.strays.end_strays.Given as goal

abbrev pub invariant-loop-next : goal.invariant-loop-next
invariant-loop-next g l =
    EndedSoFar g.N.Naming.numbers l.next l.fn.strays.items l.strays.items
    × (length l.strays.items ≡ length l.fn.strays.items)
