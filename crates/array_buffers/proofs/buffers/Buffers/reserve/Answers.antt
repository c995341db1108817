use Rattle.std.proofs.Common.{refl}
use Rattle.array_buffers.proofs.Kept.{seen, same-after}
use Rattle.array_buffers.proofs.buffers.Buffers.reserve.Goals as goal

pub invariant_of-self : goal.invariant_of-self
invariant_of-self c =
    (same-after _ _ _ c.args.self.now.buffers (seen c.self.view_is) c.self.invariant c.reserve.new.self.entries c.self.inside.views.entries
    (λ w. c.reserve.ensures.entries.2 w) (λ w. refl)).0

pub invariant_of-self-in_err-reserve-2 : goal.invariant_of-self-in_err-reserve-2
invariant_of-self-in_err-reserve-2 c =
    (same-after _ _ _ c.args.self.now.buffers (seen c.self.view_is) c.self.invariant c.reserve.new.self.entries c.reserve-2.new.self.entries
    (λ w. c.reserve.ensures.entries.2 w) (λ w. c.reserve-2.ensures.entries.2 w)).0

pub returns-in_err-reserve-2-clause-same : goal.returns-in_err-reserve-2-clause-same
returns-in_err-reserve-2-clause-same c =
    (same-after _ _ _ c.args.self.now.buffers (seen c.self.view_is) c.self.invariant c.reserve.new.self.entries c.reserve-2.new.self.entries
    (λ w. c.reserve.ensures.entries.2 w) (λ w. c.reserve-2.ensures.entries.2 w)).1

pub invariant_of-self-2 : goal.invariant_of-self-2
invariant_of-self-2 c =
    (same-after _ _ _ c.args.self.now.buffers (seen c.self.view_is) c.self.invariant c.reserve.new.self.entries c.reserve-2.new.self.entries
    (λ w. c.reserve.ensures.entries.2 w) (λ w. c.reserve-2.ensures.entries.2 w)).0

pub returns-clause-same : goal.returns-clause-same
returns-clause-same c =
    (same-after _ _ _ c.args.self.now.buffers (seen c.self.view_is) c.self.invariant c.reserve.new.self.entries c.reserve-2.new.self.entries
    (λ w. c.reserve.ensures.entries.2 w) (λ w. c.reserve-2.ensures.entries.2 w)).1
