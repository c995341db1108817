use Rattle.std.proofs.Common.{◌≡◌, ◌∙◌, ◌+◌, ◌-◌, List, slice_get, get_or, Some, ap, sym, arith, length}
use Rattle.std.proofs.lemmas.Option.{slice_get_within}
use Rattle.napi_types.specs.parts.AsyncHooks.{async_hook, with_removed}
use Rattle.cleanup_hooks.specs.declared.asynchronous.AsyncRow.{AsyncRow}
use Rattle.cleanup_hooks.specs.declared.asynchronous.AsyncState.TheVariants as kept
use Rattle.cleanup_hooks.proofs.AsyncRows.{written-row, waits-counted, table-removed, removed-at}
use Rattle.cleanup_hooks.proofs.asynchronous.AsyncTable.remove.Goals as goal
use Rattle.cleanup_hooks.proofs.asynchronous.AsyncTable.remove.Goals.{In-Some}

there : (c : In-Some) → slice_get c.self.inside.rows.items (c.args.number - 1) ≡ Some c.in-Some.row
there c = ap (λ (rs : List AsyncRow). slice_get rs (c.args.number - 1)) (sym c.deref.ensures.value) ∙ c.in-Some.ensures.place.1

-- the row that is written
written : (c : In-Some) (now : AsyncRow) → now ≡ get_or c.self.inside.rows.items (c.args.number - 1) now
    → ◌≡◌ {A = AsyncRow} (record { ticket = now.ticket; state = kept.Removed }) (record { ticket = c.in-Some.row.ticket; state = kept.Removed })
written c now is = written-row kept.Removed c.self.inside.rows.items (c.args.number - 1) c.in-Some.row now (there c) is

pub overflow_sub-self : goal.overflow_sub-self
overflow_sub-self c = waits-counted c.self.inside.rows.items c.self.inside.waiting _ _ c.in-Some.row (there (goal.at.overflow_sub-self c).In-Some) c.counted.ensures c.self.invariant

pub index_mut-requires : goal.index_mut-requires
index_mut-requires c =
    let within = slice_get_within c.self.inside.rows.items _ c.in-Some.row (there (goal.at.index_mut-requires c).In-Some) in
    omega (arith, within)

pub invariant_of-self : goal.invariant_of-self
invariant_of-self c =
    table-removed c.self.inside.rows.items c.self.inside.waiting _ _ c.in-Some.row _ (there (goal.at.invariant_of-self c).In-Some) c.counted.ensures (written (goal.at.invariant_of-self c).In-Some _ c.index_mut.ensures.value)
    c.self.invariant

pub returns-clause-removed : goal.returns-clause-removed
returns-clause-removed c =
    removed-at 1 (c.args.number - 1) c.args.number c.self.inside.rows.items c.in-Some.row _ (omega (arith, c.in-Some.ensures.place.0)) (there (goal.at.returns-clause-removed c).In-Some)
    (written (goal.at.returns-clause-removed c).In-Some _ c.index_mut.ensures.value)
    ∙ ap (with_removed c.args.number) c.self.view_is
