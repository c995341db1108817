use Rattle.std.specs.Prelude.{◌≡◌, ◌≤◌, vec_len, vec_capacity}
use Rattle.runner.proofs.making.words_for.Given as goal

abbrev pub invariant-loop : goal.invariant-loop
invariant-loop l = (vec_len l.words ≡ l.counter) × (l.len ≤ vec_capacity l.words)
