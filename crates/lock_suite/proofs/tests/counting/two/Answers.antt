use Rattle.std.proofs.Common.{◌<◌, subst}
use Rattle.std.specs.List.{All}
use Rattle.turn_lock.specs.declared.told.Row.{Row}
use Rattle.lock_suite.proofs.Numbers.{length-own_rows}
use Rattle.lock_suite.proofs.tests.counting.two.Goals as goal

pub returns-clause-all : goal.returns-clause-all
returns-clause-all g c =
    let rows = c.close.result.rows.items in
    length-own_rows rows (subst (λ n. All (λ (r : Row). r.pass < n) rows) c.requires.two c.close.ensures.below)
