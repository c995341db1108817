use Rattle.std.proofs.Common.{◌∙◌, false, filter, slice_set, refl, ap, sym, subst, arith, rules}
use Rattle.std.proofs.lemmas.List.{length-set}
use Rattle.std.proofs.lemmas.Fn.{filter_same}
use Rattle.napi_types.proofs.plain.Maps.{filter_all}
use Rattle.env_core.specs.TsfnRooting.{kept_roots, is_of_another}
use Rattle.env_core.proofs.TsfnRooting.{is_left_row, left-kept, rows-left, rows-closed, closed-kept, AreOfOthers, root-dropped}
use Rattle.env_core.proofs.tsfn_roots.TsfnRoots.remove.Goals as goal

pub invariant_of-self : goal.invariant_of-self
invariant_of-self c =
    let n = c.args.function.0 in
    rw (filter_same _ (is_left_row n) _ (λ x b f' k. search rules) _ _ c.retain.ensures.filtered) (rows-left n c.self.inside.rows.items c.self.inside.rises c.if-not-self.true)

pub returns-then-not-self : goal.returns-then-not-self
returns-then-not-self c =
    let n = c.args.function.0 in
    ap kept_roots (filter_same _ (is_left_row n) _ (λ x b f' k. search rules) _ _ c.retain.ensures.filtered)
    ∙ left-kept n c.self.inside.rows.items ∙ ap (filter (is_of_another n)) c.self.view_is

pub invariant_of-self-then-self-len : goal.invariant_of-self-then-self-len
invariant_of-self-then-self-len c =
    let n = c.args.function.0 in
    let d = root-dropped n c.in-Some.at c.self.inside.rows.items c.index_mut.result.now c.self.inside.dropped c.self.inside.rises c.self.invariant c.if-not-self.false
    c.in-Some.ensures.kept c.index_mut.ensures.value in
    rw c.close_up.ensures.items (rows-closed (slice_set c.self.inside.rows.items c.in-Some.at (record c.index_mut.result.now { kept = false })) c.self.inside.rises (λ is. d.rising))

pub returns-then-self-len : goal.returns-then-self-len
returns-then-self-len c =
    let n = c.args.function.0 in
    let d = root-dropped n c.in-Some.at c.self.inside.rows.items c.index_mut.result.now c.self.inside.dropped c.self.inside.rises c.self.invariant c.if-not-self.false
    c.in-Some.ensures.kept c.index_mut.ensures.value in
    ap kept_roots c.close_up.ensures.items ∙ closed-kept (slice_set c.self.inside.rows.items c.in-Some.at (record c.index_mut.result.now { kept = false })) ∙ d.roots ∙ ap (filter (is_of_another n)) c.self.view_is

pub invariant_of-self-else-self-len : goal.invariant_of-self-else-self-len
invariant_of-self-else-self-len c =
    let n = c.args.function.0 in
    let d = root-dropped n c.in-Some.at c.self.inside.rows.items c.index_mut.result.now c.self.inside.dropped c.self.inside.rises c.self.invariant c.if-not-self.false
    c.in-Some.ensures.kept c.index_mut.ensures.value in
    record { counted = d.counted; few = omega (arith, c.if-self-len.false, c.len.ensures, c.self.inside.rows.ok.0, length-set c.self.inside.rows.items c.in-Some.at (record c.index_mut.result.now { kept = false })); rising = λ is. d.rising }

pub returns-else-self-len : goal.returns-else-self-len
returns-else-self-len c =
    let n = c.args.function.0 in
    let d = root-dropped n c.in-Some.at c.self.inside.rows.items c.index_mut.result.now c.self.inside.dropped c.self.inside.rises c.self.invariant c.if-not-self.false
    c.in-Some.ensures.kept c.index_mut.ensures.value in
    d.roots ∙ ap (filter (is_of_another n)) c.self.view_is

pub returns-in_default : goal.returns-in_default
returns-in_default c =
    let n = c.args.function.0 in
    sym (filter_all (is_of_another n) c.args.self.now (subst (AreOfOthers n) c.self.view_is (c.in_default.ensures.none refl)))
