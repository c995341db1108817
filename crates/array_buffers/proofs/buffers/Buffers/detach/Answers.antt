use Rattle.std.proofs.Common.{IsSome, sym, subst}
use Rattle.array_buffers.specs.BufferTables.{bytes_of_row}
use Rattle.array_buffers.proofs.Kept.{seen, row-now, detached-sum, detached-after}
use Rattle.array_buffers.proofs.buffers.Buffers.detach.Goals as goal

pub detach-given_back-requires : goal.detach-given_back-requires
detach-given_back-requires c = subst (λ o. IsSome (bytes_of_row o)) (sym (row-now _ _ _ _ (seen c.self.view_is) c.self.invariant c.args.value.0)) c.requires

pub overflow_sub-self : goal.overflow_sub-self
overflow_sub-self c =
    detached-sum _ _ _ c.args.self.now.buffers (seen c.self.view_is) c.self.invariant c.args.value.0 c.detach-given_back.result c.detach-given_back.new.rows.entries c.detach-given_back.ensures.length c.detach-given_back.ensures.detached

pub invariant_of-self : goal.invariant_of-self
invariant_of-self c =
    (detached-after _ _ _ c.args.self.now.buffers (seen c.self.view_is) c.self.invariant c.args.value.0 c.detach-given_back.result c.detach-given_back.new.rows.entries c.detach-given_back.ensures.length c.detach-given_back.ensures.detached).0

pub returns : goal.returns
returns c =
    (detached-after _ _ _ c.args.self.now.buffers (seen c.self.view_is) c.self.invariant c.args.value.0 c.detach-given_back.result c.detach-given_back.new.rows.entries c.detach-given_back.ensures.length c.detach-given_back.ensures.detached).1
