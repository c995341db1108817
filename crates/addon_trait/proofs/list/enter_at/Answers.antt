use Rattle.std.proofs.Common.{[]}
use Rattle.napi_types.specs.scripts.Registers.{with_gifts}
use Rattle.addon_trait.proofs.Members.{map-set_alike, map-set_by}
use Rattle.addon_trait.proofs.SamePlans.{plans-same}
use Rattle.addon_trait.proofs.list.enter_at.Goals as goal

pub returns-clause-plans : goal.returns-clause-plans
returns-clause-plans g c = plans-same _ _ _ (map-set_alike _ _ _ _ _ c.index_mut.ensures.value c.enter.ensures.plan)

pub returns-clause-regs : goal.returns-clause-regs
returns-clause-regs g c =
    map-set_by _ (with_gifts c.args.gifts.now) _ _ _ _ [] c.index_mut.ensures.value c.requires c.enter.ensures.regs

pub returns-clause-seen : goal.returns-clause-seen
returns-clause-seen g c = map-set_alike _ _ _ _ _ c.index_mut.ensures.value c.enter.ensures.seen
