use Rattle.std.proofs.Common.{refl, arith}
use Rattle.shared_hub.proofs.OpenedHubs.{opened-history, opened-fields}
use Rattle.shared_hub.proofs.hub.HubState.new.Goals as goal

pub invariant_of-result : goal.invariant_of-result
invariant_of-result g c =
    rw (c.in_ok-with_capacity.ensures.items, c.in_ok-new.ensures, c.new-2.ensures, c.requires.named) (
      opened-history (record { threads = c.args.threads; workers = c.args.workers; limits = c.args.limits }) c.args.limits.history _ refl c.requires.most c.requires.room
          (omega (arith, c.in_ok-with_capacity.ensures.capacity, c.max-first.ensures, c.min.ensures)) (omega (arith, c.in_ok-with_capacity.ensures.capacity, c.max-first.ensures, c.min.ensures)),
      opened-fields c.args.threads c.args.workers,
    )
