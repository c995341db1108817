use Rattle.std.proofs.Common.{refl, ◌≡◌, ℕ, [], ◌++◌, ap, set, Option, arith}
use Rattle.std.specs.Fmt.{digits}
use Rattle.napi_types.specs.declared.entry.Duty.{Duty}
use Rattle.napi_types.specs.declared.entry.HostStep.TheVariants as host
use Rattle.napi_types.specs.declared.entry.What.TheVariants as what
use Rattle.machine_laws.specs.LegalRuns.{told_asks, IsRun}
use Rattle.machine_laws.specs.InstanceDataRun.{setting, trace, trace_with, set_again, got, runs}
use Rattle.machine_laws.specs.RunWords.{ticket, finalizer_begins}
use Rattle.machine_laws.proofs.RowLists.{ends-of}
use Rattle.machine_laws.proofs.AskLists.{told-run}
use Rattle.machine_laws.proofs.Misses.{entry_in_place, told_number, ticket_told}
use Rattle.machine_laws.proofs.hook_runs.instance_data_runs.Goals as goal

pub returns-clause-ends : goal.returns-clause-ends
returns-clause-ends c = ends-of setting (told_asks setting trace) trace (refl, refl) refl refl

pub returns-clause-prints : goal.returns-clause-prints
unfolding digits
returns-clause-prints c = refl

swaps : (withdrawn made : Option Duty) → IsRun setting (set trace 3 (set_again withdrawn made)) → (withdrawn ≡ ticket 1) × (made ≡ ticket 2)
swaps withdrawn made r =
    let same : set trace 3 (set_again withdrawn made) ≡ _ = told-run setting (set trace 3 (set_again withdrawn made)) refl r in (
      ap (λ xs. (entry_in_place 3 xs).reply.dropped) same,
      ap (λ xs. (entry_in_place 3 xs).reply.made) same,
    )

no-other-number : (n : ℕ) → IsRun setting (set trace 4 (got n)) → n ≡ 5
no-other-number n r = ap (λ xs. told_number n (entry_in_place 4 xs).reply.out) (told-run setting (set trace 4 (got n)) refl r)

not-in-loop : (n : ℕ) → IsRun setting (set trace 7 (finalizer_begins n)) → ⊥
not-in-loop n r =
    let w : what.Host host.Begin ≡ what.Host host.LoopEnd = ap (λ xs. (entry_in_place 7 xs).what) (told-run setting (set trace 7 (finalizer_begins n)) refl r) in cc

not-before-drain : (n : ℕ) → IsRun setting (set trace 8 (finalizer_begins n)) → ⊥
not-before-drain n r =
    let w : what.Host host.Begin ≡ what.Host host.Drain = ap (λ xs. (entry_in_place 8 xs).what) (told-run setting (set trace 8 (finalizer_begins n)) refl r) in cc

not-before-finals : (n : ℕ) → IsRun setting (set trace 9 (finalizer_begins n)) → ⊥
not-before-finals n r =
    let w : what.Host host.Begin ≡ what.Host host.Finals = ap (λ xs. (entry_in_place 9 xs).what) (told-run setting (set trace 9 (finalizer_begins n)) refl r) in cc

no-other : (n : ℕ) → IsRun setting (trace_with (runs n)) → n ≡ 2
no-other n r = ap (λ xs. ticket_told n (entry_in_place 10 xs).reply.out) (told-run setting (trace_with (runs n)) refl r)

not-before : IsRun setting (trace_with (runs 1 ++ runs 2)) → ⊥
not-before r = let z : 1 ≡ 2 = ap (λ xs. ticket_told 0 (entry_in_place 10 xs).reply.out) (told-run setting (trace_with (runs 1 ++ runs 2)) refl r) in absurd (omega (arith, z))

not-after : (n : ℕ) → IsRun setting (trace_with (runs 2 ++ runs n)) → ⊥
not-after n r =
    let w : what.Host host.Begin ≡ what.Host host.Gone = ap (λ xs. (entry_in_place 12 xs).what) (told-run setting (trace_with (runs 2 ++ runs n)) refl r) in cc

not-never : IsRun setting (trace_with []) → ⊥
not-never r = let w : what.Host host.Gone ≡ what.Host host.Begin = ap (λ xs. (entry_in_place 10 xs).what) (told-run setting (trace_with []) refl r) in cc

pub returns-clause-strict : goal.returns-clause-strict
returns-clause-strict c = record {
  swaps = swaps;
  told = no-other-number;
  loop = not-in-loop;
  hooks = not-before-drain;
  drain = not-before-finals;
  alone = no-other;
  before = not-before;
  after = not-after;
  never = not-never;
}
