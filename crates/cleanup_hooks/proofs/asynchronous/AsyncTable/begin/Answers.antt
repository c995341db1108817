use Rattle.std.proofs.Common.{◌≡◌, ◌∙◌, ◌+◌, ◌-◌, List, slice_get, get_or, Some, ap, sym, arith, length}
use Rattle.napi_types.specs.parts.AsyncHooks.{async_hook, with_begun}
use Rattle.cleanup_hooks.specs.declared.asynchronous.AsyncRow.{AsyncRow}
use Rattle.cleanup_hooks.specs.declared.asynchronous.AsyncState.TheVariants as kept
use Rattle.cleanup_hooks.specs.AsyncRows.{async_hook_of, async_hooks_of}
use Rattle.cleanup_hooks.proofs.AsyncRows.{written-row, begun-most, table-begun, begun-at}
use Rattle.cleanup_hooks.proofs.asynchronous.AsyncTable.begin.Goals as goal
use Rattle.cleanup_hooks.proofs.asynchronous.AsyncTable.begin.Goals.{In-Some}

there : (c : In-Some) → slice_get c.self.inside.rows.items (c.args.number - 1) ≡ Some c.in-Some.row
there c = ap (λ (rs : List AsyncRow). slice_get rs (c.args.number - 1)) (sym c.deref.ensures.value) ∙ c.in-Some.ensures.place.1

-- the row that is written
written : (c : In-Some) (now : AsyncRow) → now ≡ get_or c.self.inside.rows.items (c.args.number - 1) now
    → ◌≡◌ {A = AsyncRow} (record { ticket = now.ticket; state = kept.Waiting }) (record { ticket = c.in-Some.row.ticket; state = kept.Waiting })
written c now is = written-row kept.Waiting c.self.inside.rows.items (c.args.number - 1) c.in-Some.row now (there c) is

pub overflow_add-self : goal.overflow_add-self
overflow_add-self c =
    let most = begun-most c.self.inside.rows.items c.self.inside.waiting _ _ c.in-Some.row (there (goal.at.overflow_add-self c).In-Some) c.counted.ensures c.self.invariant in
    let whole = ap length c.deref.ensures.value in
    omega (arith, most, whole, c.row_of-row.ensures.bound)

pub invariant_of-self : goal.invariant_of-self
invariant_of-self c =
    table-begun c.self.inside.rows.items c.self.inside.waiting _ _ c.in-Some.row _ (there (goal.at.invariant_of-self c).In-Some) c.counted.ensures (written (goal.at.invariant_of-self c).In-Some _ c.index_mut.ensures.value)
    c.self.invariant

pub returns-in-Some-clause-begun : goal.returns-in-Some-clause-begun
returns-in-Some-clause-begun c =
    let now = c.args.self.now in
    let told : async_hook c.args.number now ≡ Some (async_hook_of c.args.number c.in-Some.row) =
    ap (async_hook c.args.number) (sym c.self.view_is ∙ ap (λ (rs : List AsyncRow). async_hooks_of rs) (sym c.deref.ensures.value)) ∙ sym c.in-Some.ensures.told in
    rw told
    (begun-at 1 (c.args.number - 1) c.self.inside.rows.items c.in-Some.row _ c.self.invariant.rising (there (goal.at.returns-in-Some-clause-begun c).In-Some)
    (written (goal.at.returns-in-Some-clause-begun c).In-Some _ c.index_mut.ensures.value)
    ∙ ap (with_begun c.in-Some.row.ticket.0) c.self.view_is)
