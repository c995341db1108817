use Rattle.std.proofs.Common.{◌≡◌, [], IfSome, Some}
use Rattle.napi_types.specs.scripts.Registers.{registers_after_reply}
use Rattle.addon_trait.proofs.Members.{map-set_alike, map-set_others, fact_after}
use Rattle.addon_trait.proofs.SamePlans.{plans-same}
use Rattle.addon_trait.proofs.list.note_at.Goals as goal

pub returns-clause-plans : goal.returns-clause-plans
returns-clause-plans g c = plans-same _ _ _ (map-set_alike _ _ _ _ _ c.index_mut.ensures.value c.note.ensures.plan)

pub returns-clause-others : goal.returns-clause-others
returns-clause-others g c = map-set_others _ _ _ _ [] c.requires

pub returns-clause-kept : goal.returns-clause-kept
returns-clause-kept g c =
    fact_after (λ plan before after. IfSome plan (λ p. after ≡ registers_after_reply p before c.args.entry c.args.step c.args.reply.now))
    _ _ _ _ _ _ (Some []) [] c.index_mut.ensures.value c.requires c.note.ensures.kept

pub returns-clause-seen : goal.returns-clause-seen
returns-clause-seen g c = map-set_alike _ _ _ _ _ c.index_mut.ensures.value c.note.ensures.seen
