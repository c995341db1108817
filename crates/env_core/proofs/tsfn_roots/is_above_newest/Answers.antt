use Rattle.std.proofs.Common.{◌-◌, ◌<◌, refl, subst, arith}
use Rattle.std.specs.VecDeque.{deque_len}
use Rattle.std.proofs.lemmas.Bool.{ltb-true}
use Rattle.env_core.specs.declared.tsfn_roots.RootRow.{RootRow}
use Rattle.env_core.proofs.TsfnRooting.{above-newest}
use Rattle.env_core.proofs.tsfn_roots.is_above_newest.Goals as goal

pub returns-in-Some : goal.returns-in-Some
returns-in-Some c =
    let rows = c.args.rows.now in
    let newest = c.in-Some.newest.now in
    let last = deque_len rows - 1 in
    let n = c.args.function.0 in
    let filled : 0 < deque_len rows = c.in-Some.ensures.variant.0 refl in
    λ below rising. above-newest n rows.items last newest rising (omega (arith, filled, rows.ok.0))
    (subst (λ (r : RootRow). r.function.0 < n) c.in-Some.ensures.lookup (ltb-true newest.function.0 n below))
