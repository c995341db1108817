use Rattle.std.proofs.Common.{refl, ◌≡◌, ℕ, ap, set}
use Rattle.std.specs.Fmt.{digits}
use Rattle.machine_laws.specs.LegalRuns.{told_asks, IsRun}
use Rattle.machine_laws.specs.PromiseCollected.{setting, trace, first_freed, then_freed}
use Rattle.machine_laws.proofs.RowLists.{ends-of}
use Rattle.machine_laws.proofs.AskLists.{told-run}
use Rattle.machine_laws.proofs.Misses.{entry_in_place, told_number}
use Rattle.machine_laws.proofs.promise_runs.promise_collected_runs.Goals as goal

pub returns-clause-ends : goal.returns-clause-ends
returns-clause-ends c = ends-of setting (told_asks setting trace) trace (refl, refl) refl refl

pub returns-clause-prints : goal.returns-clause-prints
unfolding digits
returns-clause-prints c = refl

is-kept : (n : ℕ) → IsRun setting (set trace 5 (first_freed n)) → n ≡ 0
is-kept n r = ap (λ xs. told_number n (entry_in_place 5 xs).reply.out) (told-run setting (set trace 5 (first_freed n)) refl r)

is-freed : (n : ℕ) → IsRun setting (set trace 8 (then_freed n)) → n ≡ 1
is-freed n r = ap (λ xs. told_number n (entry_in_place 8 xs).reply.out) (told-run setting (set trace 8 (then_freed n)) refl r)

pub returns-clause-strict : goal.returns-clause-strict
returns-clause-strict c = record { kept = is-kept; freed = is-freed }
