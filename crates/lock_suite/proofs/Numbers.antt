-- Rows of two passes.
use Rattle.std.proofs.Common.{◌≡◌, ◌+◌, ◌<◌, List, [], ◌∷◌, length, refl, arith, eq-eqb, ne_eqb}
use Rattle.std.specs.List.{All}
use Rattle.std.proofs.lemmas.List.Elements.{All-head, All-tail}
use mathlib.Core.Logic.{dite}
use native.Mathlib.Decide.{ℕ_discrete}
use Rattle.turn_lock.specs.declared.told.Row.{Row}
use Rattle.turn_lock.specs.Rows.{own_rows}

-- each row is of one of them
pub length-own_rows : (rows : List Row) → All (λ r. r.pass < 2) rows → length rows ≡ length (own_rows 0 rows) + length (own_rows 1 rows)
length-own_rows [] h = refl
length-own_rows (x ∷ xs) h =
    let rest = length-own_rows xs (All-tail (λ (r : Row). r.pass < 2) x xs h) in
    let below : x.pass < 2 = All-head (λ (r : Row). r.pass < 2) x xs h in
    dite (ℕ_discrete x.pass 0)
    (λ is. rw (eq-eqb x.pass 0 is, ne_eqb x.pass 1 (λ e. omega (arith, e, is))) (omega (arith, rest)))
    (λ ne. rw (ne_eqb x.pass 0 ne, eq-eqb x.pass 1 (omega (arith, ne, below))) (omega (arith, rest)))
