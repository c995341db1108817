use Rattle.std.proofs.Common.{refl, ◌≡◌, ℕ, ap, set}
use Rattle.std.specs.Fmt.{digits}
use Rattle.napi_types.specs.declared.entry.Out.TheVariants as out
use Rattle.napi_types.specs.declared.status.Status.{Status}
use Rattle.napi_types.specs.declared.status.Status.TheVariants as status
use Rattle.machine_laws.specs.LegalRuns.{told_asks, IsRun}
use Rattle.machine_laws.specs.StrongAndWeak.{setting, trace, first_freed, then_freed, value_given, counted_down, up_told}
use Rattle.machine_laws.specs.RunWords.{handle}
use Rattle.machine_laws.proofs.RowLists.{ends-of}
use Rattle.machine_laws.proofs.AskLists.{told-run}
use Rattle.machine_laws.proofs.Misses.{entry_in_place, told_number}
use Rattle.machine_laws.proofs.value_runs.strong_and_weak_runs.Goals as goal

pub returns-clause-ends : goal.returns-clause-ends
returns-clause-ends c = ends-of setting (told_asks setting trace) trace (refl, refl) refl refl

pub returns-clause-prints : goal.returns-clause-prints
unfolding digits
returns-clause-prints c = refl

none-freed : (n : ℕ) → IsRun setting (set trace 6 (first_freed n)) → n ≡ 0
none-freed n r = ap (λ xs. told_number n (entry_in_place 6 xs).reply.out) (told-run setting (set trace 6 (first_freed n)) refl r)

one-freed : (n : ℕ) → IsRun setting (set trace 8 (then_freed n)) → n ≡ 1
one-freed n r = ap (λ xs. told_number n (entry_in_place 8 xs).reply.out) (told-run setting (set trace 8 (then_freed n)) refl r)

no-handle : (n : ℕ) → IsRun setting (set trace 9 (value_given (out.Handle (handle n)))) → ⊥
no-handle n r =
    let told : out.Handle (handle n) ≡ out.NoHandle = ap (λ xs. (entry_in_place 9 xs).reply.out) (told-run setting (set trace 9 (value_given (out.Handle (handle n)))) refl r) in
    cc

no-other-status : (s : Status) → IsRun setting (set trace 10 (counted_down s out.Nothing)) → s ≡ status.GenericFailure
no-other-status s r = ap (λ xs. (entry_in_place 10 xs).reply.status) (told-run setting (set trace 10 (counted_down s out.Nothing)) refl r)

no-count : (s : Status) (n : ℕ) → IsRun setting (set trace 10 (counted_down s (out.Unsigned n))) → ⊥
no-count s n r =
    let told : out.Unsigned n ≡ out.Nothing = ap (λ xs. (entry_in_place 10 xs).reply.out) (told-run setting (set trace 10 (counted_down s (out.Unsigned n))) refl r) in
    cc

none-counted : (n : ℕ) → IsRun setting (set trace 11 (up_told n)) → n ≡ 0
none-counted n r = ap (λ xs. told_number n (entry_in_place 11 xs).reply.out) (told-run setting (set trace 11 (up_told n)) refl r)

pub returns-clause-strict : goal.returns-clause-strict
returns-clause-strict c = record { strong = none-freed; weak = one-freed; gone = no-handle; lowest = no-other-status; untold = no-count; uncounted = none-counted }
