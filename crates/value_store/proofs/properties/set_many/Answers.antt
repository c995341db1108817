use Rattle.std.proofs.Common.{◌≡◌, ◌∙◌, ◌+◌, ◌<◌, suc, length, take, ap, arith}
use Rattle.value_store.proofs.FewProperties.{take-insert_entry}
use Rattle.value_store.proofs.properties.set_many.Goals as goal

pub loop-own-preserved : goal.loop-own-preserved
loop-own-preserved c =
    let next : suc c.loop-own.own-index ≡ c.loop-own.own-index + 1 = omega arith in
    let less : c.loop-own.own-index < length c.args.entries.now = omega arith in
    rw (c.in_ok-insert.ensures.entries, c.loop-own.invariant)
    (take-insert_entry c.args.entries.now c.loop-own.own-index (0, record { 0 = 0 }) c.requires less ∙ ap (λ n. take n c.args.entries.now) next)
