use Rattle.std.proofs.Common.{◌≡◌, ◌∙◌, ℕ, ◌+◌, zero, suc, ap, sym, refl, arith, slice_get, option_map, Option, None, Some}
use Rattle.cleanup_hooks.specs.declared.asynchronous.AsyncRow.{AsyncRow}
use Rattle.cleanup_hooks.specs.AsyncRows.{async_hook_of, async_hooks_of}
use Rattle.cleanup_hooks.proofs.AsyncRows.{hook-below, told-at, read-at, place-of}
use Rattle.cleanup_hooks.proofs.asynchronous.row_of.Goals as goal
use Rattle.cleanup_hooks.proofs.asynchronous.row_of.Goals.{After-copied}

pub returns-in_err-place-clause-told : goal.returns-in_err-place-clause-told
returns-in_err-place-clause-told c = let below = hook-below 1 c.args.number c.args.rows.now (omega arith) in grind arith

read : (c : After-copied) → c.copied.result ≡ slice_get c.args.rows.now c.in_ok-place.place
read c = c.copied.ensures ∙ read-at c.args.rows.now c.in_ok-place.place c.get.result c.get.ensures.lookup.0 c.get.ensures.lookup.1

pub returns-clause-told : goal.returns-clause-told
returns-clause-told c =
    ap (option_map (async_hook_of c.args.number)) (read c) ∙ told-at c.args.rows.now c.args.number c.in_ok-place.place (omega (arith, c.in_ok-place.ensures))

pub returns-clause-place : goal.returns-clause-place
returns-clause-place c = place-of c.args.rows.now c.in_ok-place.place c.args.number c.copied.result (read c) c.in_ok-place.ensures.0 c.in_ok-place.ensures.1
