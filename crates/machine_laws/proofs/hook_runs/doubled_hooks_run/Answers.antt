use Rattle.std.proofs.Common.{refl, ◌≡◌, ℕ, [], ◌++◌, ap, set, Option, None, arith}
use Rattle.std.specs.Fmt.{digits}
use Rattle.napi_types.specs.declared.entry.Duty.{Duty}
use Rattle.napi_types.specs.declared.entry.HostStep.TheVariants as host
use Rattle.napi_types.specs.declared.entry.LoopEnd.{LoopEnd}
use Rattle.napi_types.specs.declared.entry.LoopEnd.TheVariants as loop_end
use Rattle.napi_types.specs.declared.entry.What.TheVariants as what
use Rattle.napi_types.specs.declared.status.Status.{Status}
use Rattle.napi_types.specs.declared.status.Status.TheVariants as status
use Rattle.machine_laws.specs.LegalRuns.{told_asks, IsRun}
use Rattle.machine_laws.specs.DoubledHooks.{setting, trace, trace_with, added_again, removed, removed_again, added_in_hook, compared, runs}
use Rattle.machine_laws.specs.RunWords.{ticket, loop_ended, drain_entry, hook_begins}
use Rattle.machine_laws.proofs.RowLists.{ends-of}
use Rattle.machine_laws.proofs.AskLists.{told-run}
use Rattle.machine_laws.proofs.Misses.{entry_in_place, told_reason, ticket_told}
use Rattle.machine_laws.proofs.hook_runs.doubled_hooks_run.Goals as goal

pub returns-clause-ends : goal.returns-clause-ends
returns-clause-ends c = ends-of setting (told_asks setting trace) trace (refl, refl) refl refl

pub returns-clause-prints : goal.returns-clause-prints
unfolding digits
returns-clause-prints c = refl

pub returns-clause-sums : goal.returns-clause-sums
unfolding digits
returns-clause-sums c = refl

no-second : (s : Status) (d : Option Duty) → IsRun setting (set trace 3 (added_again s d)) → (s ≡ status.InvalidArg) × (d ≡ None)
no-second s d r =
    let same : set trace 3 (added_again s d) ≡ _ = told-run setting (set trace 3 (added_again s d)) refl r in (
      ap (λ xs. (entry_in_place 3 xs).reply.status) same,
      ap (λ xs. (entry_in_place 3 xs).reply.made) same,
    )

withdraws : (s : Status) (d : Option Duty) → IsRun setting (set trace 5 (removed s d)) → (s ≡ status.Ok) × (d ≡ ticket 1)
withdraws s d r =
    let same : set trace 5 (removed s d) ≡ _ = told-run setting (set trace 5 (removed s d)) refl r in (
      ap (λ xs. (entry_in_place 5 xs).reply.status) same,
      ap (λ xs. (entry_in_place 5 xs).reply.dropped) same,
    )

is-gone : (s : Status) (d : Option Duty) → IsRun setting (set trace 6 (removed_again s d)) → (s ≡ status.InvalidArg) × (d ≡ None)
is-gone s d r =
    let same : set trace 6 (removed_again s d) ≡ _ = told-run setting (set trace 6 (removed_again s d)) refl r in (
      ap (λ xs. (entry_in_place 6 xs).reply.status) same,
      ap (λ xs. (entry_in_place 6 xs).reply.dropped) same,
    )

no-other-reason : (e : LoopEnd) → IsRun setting (set trace 10 (loop_ended e)) → e ≡ loop_end.Exit
no-other-reason e r = ap (λ xs. told_reason e (entry_in_place 10 xs).reply.out) (told-run setting (set trace 10 (loop_ended e)) refl r)

no-drain : IsRun setting (set trace 11 drain_entry) → ⊥
no-drain r = let w : what.Host host.Drain ≡ what.Host host.Begin = ap (λ xs. (entry_in_place 11 xs).what) (told-run setting (set trace 11 drain_entry) refl r) in cc

not-never : IsRun setting (trace_with []) → ⊥
not-never r = let w : what.Host host.Drain ≡ what.Host host.Begin = ap (λ xs. (entry_in_place 11 xs).what) (told-run setting (trace_with []) refl r) in cc

no-other : (n : ℕ) → IsRun setting (set trace 11 (hook_begins n)) → n ≡ 2
no-other n r = ap (λ xs. ticket_told n (entry_in_place 11 xs).reply.out) (told-run setting (set trace 11 (hook_begins n)) refl r)

not-before : IsRun setting (trace_with (runs 1 ++ runs 2)) → ⊥
not-before r = let z : 1 ≡ 2 = ap (λ xs. ticket_told 0 (entry_in_place 11 xs).reply.out) (told-run setting (trace_with (runs 1 ++ runs 2)) refl r) in absurd (omega (arith, z))

not-after : (n : ℕ) → IsRun setting (trace_with (runs 2 ++ runs n)) → ⊥
not-after n r =
    let w : what.Host host.Begin ≡ what.Host host.Drain = ap (λ xs. (entry_in_place 15 xs).what) (told-run setting (trace_with (runs 2 ++ runs n)) refl r) in cc

none-added : (s : Status) (d : Option Duty) → IsRun setting (set trace 12 (added_in_hook s d)) → (s ≡ status.GenericFailure) × (d ≡ None)
none-added s d r =
    let same : set trace 12 (added_in_hook s d) ≡ _ = told-run setting (set trace 12 (added_in_hook s d)) refl r in (
      ap (λ xs. (entry_in_place 12 xs).reply.status) same,
      ap (λ xs. (entry_in_place 12 xs).reply.made) same,
    )

is-guarded : (s : Status) → IsRun setting (set trace 13 (compared s)) → s ≡ status.PendingException
is-guarded s r = ap (λ xs. (entry_in_place 13 xs).reply.status) (told-run setting (set trace 13 (compared s)) refl r)

pub returns-clause-strict : goal.returns-clause-strict
returns-clause-strict c = record {
  once = no-second;
  removed = withdraws;
  gone = is-gone;
  reason = no-other-reason;
  drain = no-drain;
  never = not-never;
  alone = no-other;
  before = not-before;
  after = not-after;
  tearing = none-added;
  guarded = is-guarded;
}
