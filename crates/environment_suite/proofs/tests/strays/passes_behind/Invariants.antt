use Rattle.std.proofs.Common.{◌≡◌, ◌∷◌, ◌++◌, map}
use Rattle.std.specs.List.{All}
use Rattle.env_loop.specs.ActorTurns.{HoldsNoWork}
use Rattle.environment_suite.proofs.tests.strays.passes_behind.Given as goal

abbrev pub invariant-loop-strays : goal.invariant-loop-strays
invariant-loop-strays g l =
    All (λ s. HoldsNoWork s.actor) l.strays.items
    × (l.fn.first ∷ map (λ s. s.pass) l.fn.strays.items ≡ l.passes.items ++ map (λ s. s.pass) l.strays.items)

abbrev pub decreases-loop-strays : goal.decreases-loop-strays
decreases-loop-strays g l = goal.left-loop-strays g l
