use Rattle.std.proofs.Common.{option_map, Some, []}
use Rattle.addon_trait.proofs.Members.{map-set_alike, map-set_as, map-set_by}
use Rattle.addon_trait.proofs.list.load_at.Goals as goal

pub returns-clause-plans : goal.returns-clause-plans
returns-clause-plans g c =
    map-set_by _ (option_map (λ _. c.args.given.entries)) _ _ _ _ (Some []) c.index_mut.ensures.value c.requires c.load.ensures.plan

pub returns-clause-regs : goal.returns-clause-regs
returns-clause-regs g c = map-set_as _ _ _ _ _ c.load.ensures.regs

pub returns-clause-seen : goal.returns-clause-seen
returns-clause-seen g c = map-set_alike _ _ _ _ _ c.index_mut.ensures.value c.load.ensures.seen
