use Rattle.std.proofs.Common.{◌≡◌, ◌∙◌, ◌++◌, List, length, map, take, drop, ap, sym, refl, arith}
use Rattle.napi_types.specs.parts.AsyncHooks.{with_abandoned}
use Rattle.cleanup_hooks.specs.declared.asynchronous.AsyncRow.{AsyncRow}
use Rattle.cleanup_hooks.specs.AsyncRows.{async_hooks_of}
use Rattle.cleanup_hooks.proofs.AsyncRows.{abandoned_row, abandoned-all, table-abandoned, row-passed, rows-passed}
use Rattle.cleanup_hooks.proofs.asynchronous.AsyncTable.abandon.Goals as goal

pub loop-row-preserved : goal.loop-row-preserved
loop-row-preserved c =
    row-passed c.deref_mut-row-items.result.now c.loop-row.row-items c.loop-row.row-index _ c.abandoned-row.result c.loop-row-test.true c.loop-row.auto.row-items c.loop-row.invariant
    c.abandoned-row.ensures

pub invariant_of-self : goal.invariant_of-self
invariant_of-self c =
    let whole = rows-passed c.self.inside.rows.len c.loop-row.row-index c.deref_mut-row-items.result.now c.loop-row.row-items (drop (length c.loop-row.row-items) c.self.inside.rows.items)
    c.deref_mut-row-items.ensures.len (c.loop-row.auto.row-items ∙ c.deref_mut-row-items.ensures.len) c.loop-row-test.false c.loop-row.invariant in
    table-abandoned c.self.inside.rows.items _ c.self.inside.waiting (whole ∙ ap (λ (rs : List AsyncRow). map abandoned_row rs) c.deref_mut-row-items.ensures.value) c.self.invariant

pub returns : goal.returns
returns c =
    let whole = rows-passed c.self.inside.rows.len c.loop-row.row-index c.deref_mut-row-items.result.now c.loop-row.row-items (drop (length c.loop-row.row-items) c.self.inside.rows.items)
    c.deref_mut-row-items.ensures.len (c.loop-row.auto.row-items ∙ c.deref_mut-row-items.ensures.len) c.loop-row-test.false c.loop-row.invariant in
    ap (λ (rs : List AsyncRow). async_hooks_of rs) (whole ∙ ap (λ (rs : List AsyncRow). map abandoned_row rs) c.deref_mut-row-items.ensures.value)
    ∙ abandoned-all 1 c.self.inside.rows.items ∙ ap with_abandoned c.self.view_is
