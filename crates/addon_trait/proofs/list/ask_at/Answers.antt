use Rattle.std.proofs.Common.{◌≡◌, [], IfSome, Some}
use Rattle.napi_types.specs.scripts.Registers.{plan_ask}
use Rattle.addon_trait.proofs.Members.{map-set_alike, fact_here}
use Rattle.addon_trait.proofs.SamePlans.{plans-same}
use Rattle.addon_trait.proofs.list.ask_at.Goals as goal

pub returns-clause-plans : goal.returns-clause-plans
returns-clause-plans g c = plans-same _ _ _ (map-set_alike _ _ _ _ _ c.index_mut.ensures.value c.ask.ensures.plan)

pub returns-clause-regs : goal.returns-clause-regs
returns-clause-regs g c = map-set_alike _ _ _ _ _ c.index_mut.ensures.value c.ask.ensures.regs

pub returns-clause-asked : goal.returns-clause-asked
returns-clause-asked g c =
    fact_here (λ plan regs. IfSome plan (λ p. c.ask.result ≡ plan_ask p regs c.args.entry c.args.step))
    _ _ _ _ _ (Some []) [] c.index_mut.ensures.value c.requires c.ask.ensures.asked

pub returns-clause-seen : goal.returns-clause-seen
returns-clause-seen g c = map-set_alike _ _ _ _ _ c.index_mut.ensures.value c.ask.ensures.seen
