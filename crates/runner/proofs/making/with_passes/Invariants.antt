use Rattle.std.specs.Prelude.{◌≡◌, ◌+◌, ◌≤◌, ◌∷◌, ◌++◌, map, vec_len, vec_capacity}
use Rattle.std.specs.Vec.Iter.{into_iter_items, into_iter_len}
use Rattle.runner.proofs.making.with_passes.Given as goal

abbrev pub invariant-loop-actor : goal.invariant-loop-actor
invariant-loop-actor l =
    (map (λ w. w.actor) l.unstarted.items ++ into_iter_items l.actor-iterator ≡ l.fn.actors.items)
    × (l.first ∷ (map (λ w. w.pass) l.unstarted.items ++ into_iter_items l.passes) ≡ l.fn.passes.items)
    × (into_iter_len l.passes ≡ into_iter_len l.actor-iterator)
    × (vec_len l.unstarted + into_iter_len l.actor-iterator ≤ vec_capacity l.unstarted)
