use Rattle.std.proofs.Common.{◌≡◌, ℕ, nat_eq, None, cond, take}
use Rattle.std.specs.Map.{lookup}
use Rattle.napi_types.specs.plain.Lists.{has_number}
use Rattle.deferred.proofs.row.forget_all.Given as goal

abbrev pub invariant-loop-place : goal.invariant-loop-place
invariant-loop-place l = (n : ℕ) → lookup (nat_eq n) l.kept.entries ≡ cond (has_number n (take l.place l.reactions.items)) None (lookup (nat_eq n) l.initial.kept.entries)
