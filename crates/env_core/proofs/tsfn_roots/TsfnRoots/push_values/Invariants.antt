use Rattle.std.proofs.Common.{◌≡◌, ◌++◌, map, take}
use Rattle.value_store.specs.StoreChanges.{numbers_of}
use Rattle.env_core.specs.TsfnRooting.{kept_roots}
use Rattle.env_core.proofs.tsfn_roots.TsfnRoots.push_values.Given as goal

-- the values of the roots that were passed are pushed
abbrev pub invariant-loop-at : goal.invariant-loop-at
invariant-loop-at l = numbers_of l.values.items ≡ numbers_of l.fn.values.items ++ map (λ r. r.value) (kept_roots (take l.at l.self-inside.rows.items))
