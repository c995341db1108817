use Rattle.std.proofs.Common.{◌≡◌, ◌++◌, map}
use Rattle.std.specs.Map.Iter.{deref_pair}
use Rattle.deferred.specs.PromiseRows.{root_values}
use Rattle.deferred.proofs.rows.push_roots.Given as goal

abbrev pub invariant-loop-value : goal.invariant-loop-value
invariant-loop-value l = map (λ v. v.0) l.roots.items ≡ map (λ v. v.0) l.initial.roots.items ++ root_values (map deref_pair l.yielded)
