use Rattle.std.proofs.Common.{refl, ◌≡◌, ℕ, [], ◌++◌, ap, set}
use Rattle.std.specs.Fmt.{digits}
use Rattle.napi_types.specs.declared.entry.HostStep.TheVariants as host
use Rattle.napi_types.specs.declared.entry.What.TheVariants as what
use Rattle.machine_laws.specs.LegalRuns.{told_asks, IsRun}
use Rattle.machine_laws.specs.Cycle.{setting, trace, trace_with, freed, runs}
use Rattle.machine_laws.proofs.RowLists.{ends-of}
use Rattle.machine_laws.proofs.AskLists.{told-run}
use Rattle.machine_laws.proofs.Misses.{entry_in_place, told_number, ticket_told}
use Rattle.machine_laws.proofs.finalizer_runs.cycle_runs.Goals as goal

pub returns-clause-ends : goal.returns-clause-ends
returns-clause-ends c = ends-of setting (told_asks setting trace) trace (refl, refl) refl refl

pub returns-clause-prints : goal.returns-clause-prints
unfolding digits
returns-clause-prints c = refl

no-other-count : (n : ℕ) → IsRun setting (set trace 10 (freed n)) → n ≡ 2
no-other-count n r = ap (λ xs. told_number n (entry_in_place 10 xs).reply.out) (told-run setting (set trace 10 (freed n)) refl r)

no-other-order : (n k : ℕ) → IsRun setting (trace_with (runs n ++ runs k)) → (n ≡ 1) × (k ≡ 2)
no-other-order n k r =
    let same : trace_with (runs n ++ runs k) ≡ _ = told-run setting (trace_with (runs n ++ runs k)) refl r in (
      ap (λ xs. ticket_told n (entry_in_place 13 xs).reply.out) same,
      ap (λ xs. ticket_told k (entry_in_place 15 xs).reply.out) same,
    )

not-before-second : IsRun setting (trace_with (runs 1)) → ⊥
not-before-second r = let w : what.Host host.LoopEnd ≡ what.Host host.Begin = ap (λ xs. (entry_in_place 15 xs).what) (told-run setting (trace_with (runs 1)) refl r) in cc

not-before-both : IsRun setting (trace_with []) → ⊥
not-before-both r = let w : what.Host host.LoopEnd ≡ what.Host host.Begin = ap (λ xs. (entry_in_place 13 xs).what) (told-run setting (trace_with []) refl r) in cc

not-again : (n : ℕ) → IsRun setting (trace_with (runs 1 ++ runs 2 ++ runs n)) → ⊥
not-again n r =
    let w : what.Host host.Begin ≡ what.Host host.LoopEnd = ap (λ xs. (entry_in_place 17 xs).what) (told-run setting (trace_with (runs 1 ++ runs 2 ++ runs n)) refl r) in cc

pub returns-clause-strict : goal.returns-clause-strict
returns-clause-strict c = record { count = no-other-count; order = no-other-order; second = not-before-second; both = not-before-both; again = not-again }
