use Rattle.std.proofs.Common.{◌≤◌, sym, subst}
use Rattle.napi_types.specs.parts.Buffers.{most_bytes_together}
use Rattle.array_buffers.proofs.Kept.{seen, limits-now, total-now}
use Rattle.array_buffers.proofs.buffers.Buffers.total.Goals as goal

pub returns-clause-sum : goal.returns-clause-sum
returns-clause-sum c = total-now _ _ _ _ (seen c.self.view_is) c.self.invariant

pub returns-clause-most : goal.returns-clause-most
returns-clause-most c =
    subst (λ n. n ≤ most_bytes_together) (sym (total-now _ _ _ _ (seen c.self.view_is) c.self.invariant)) (limits-now _ _ _ _ (seen c.self.view_is) c.self.invariant).together
