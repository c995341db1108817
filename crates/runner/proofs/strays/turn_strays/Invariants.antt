use Rattle.std.proofs.Common.{◌≡◌, length}
use Rattle.std.specs.List.{All, AllZip}
use Rattle.runner.specs.ActorsAtTheLock.{IsStray, IsSameStray}
use Rattle.runner.proofs.strays.turn_strays.Given as goal

abbrev pub invariant-loop-place : goal.invariant-loop-place
invariant-loop-place g l =
    All (IsStray g.N.Naming.numbers l.hub) l.strays.items
    × AllZip IsSameStray l.fn.strays.items l.strays.items
    × (length l.strays.items ≡ length l.fn.strays.items)
