use Rattle.std.proofs.Common.{◌∙◌, nat_eq, ap, sym}
use Rattle.indexmap.specs.IndexMap.{insert_entry}
use Rattle.value_store.proofs.FewProperties.{next-insert_entry}
use Rattle.value_store.proofs.properties.in_order.Goals as goal

pub loop-at-preserved : goal.loop-at-preserved
loop-at-preserved c =
    c.in_ok-set-in-Some.ensures.set ∙ ap (λ es. insert_entry nat_eq es c.in-Some.name.now c.in-Some.to.now) c.loop-at.invariant
    ∙ next-insert_entry c.args.entries.now c.loop-at.at (c.in-Some.name.now, c.in-Some.to.now) c.requires (sym c.in-Some.ensures.entry)
