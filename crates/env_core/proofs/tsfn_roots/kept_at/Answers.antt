use Rattle.std.proofs.Common.{rules}
use Rattle.std.proofs.lemmas.List.Sorted.{answers_always}
use Rattle.env_core.proofs.TsfnRooting.{row_number, search-kept, search-gone, search-none}
use Rattle.env_core.proofs.tsfn_roots.kept_at.Goals as goal

pub returns-in-Ok-clause-kept : goal.returns-in-Ok-clause-kept
returns-in-Ok-clause-kept c =
    let facts = c.in-Ok.ensures in
    let by_number = facts.position row_number (answers_always _ _ _ (λ f a r g called. search rules)) in
    search-kept c.args.function.0 c.in-Ok.at _ c.args.rows.now.items c.index.result.now c.args.rows.now.ok.0 facts.bound by_number c.index.ensures c.if-index.true

pub returns-in_default-clause-none : goal.returns-in_default-clause-none
returns-in_default-clause-none c =
    let facts = c.in-Ok.ensures in
    let by_number = facts.position row_number (answers_always _ _ _ (λ f a r g called. search rules)) in
    λ none. search-gone c.args.function.0 c.in-Ok.at _ c.args.rows.now.items c.index.result.now c.requires c.args.rows.now.ok.0 facts.bound by_number c.index.ensures c.if-index.false

pub returns-in_default-2-clause-none : goal.returns-in_default-2-clause-none
returns-in_default-2-clause-none c =
    let facts = c.in_default.ensures in
    let by_number = facts.position row_number (answers_always _ _ _ (λ f a r g called. search rules)) in
    λ none. search-none c.args.function.0 _ _ c.args.rows.now.items c.requires c.args.rows.now.ok.0 facts.bound by_number
