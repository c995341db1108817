use Rattle.std.proofs.Common.{refl, ◌≡◌, ℕ, ap, set}
use Rattle.std.specs.Fmt.{digits}
use Rattle.napi_types.specs.declared.entry.Out.TheVariants as out
use Rattle.napi_types.specs.declared.status.Status.{Status}
use Rattle.napi_types.specs.declared.status.Status.TheVariants as status
use Rattle.machine_laws.specs.LegalRuns.{told_asks, IsRun}
use Rattle.machine_laws.specs.ReferenceCounts.{setting, trace, count_up_entry, down_told, deleted_again, number_referred}
use Rattle.machine_laws.specs.RunWords.{reference}
use Rattle.machine_laws.proofs.RowLists.{ends-of}
use Rattle.machine_laws.proofs.AskLists.{told-run}
use Rattle.machine_laws.proofs.Misses.{entry_in_place, told_number}
use Rattle.machine_laws.proofs.value_runs.reference_counts_run.Goals as goal

pub returns-clause-ends : goal.returns-clause-ends
returns-clause-ends c = ends-of setting (told_asks setting trace) trace (refl, refl) refl refl

pub returns-clause-prints : goal.returns-clause-prints
unfolding digits
returns-clause-prints c = refl

no-other-at-greatest : (s : Status) → IsRun setting (set trace 4 (count_up_entry s out.Nothing)) → s ≡ status.GenericFailure
no-other-at-greatest s r = ap (λ xs. (entry_in_place 4 xs).reply.status) (told-run setting (set trace 4 (count_up_entry s out.Nothing)) refl r)

no-count : (s : Status) (n : ℕ) → IsRun setting (set trace 4 (count_up_entry s (out.Unsigned n))) → ⊥
no-count s n r =
    let told : out.Unsigned n ≡ out.Nothing = ap (λ xs. (entry_in_place 4 xs).reply.out) (told-run setting (set trace 4 (count_up_entry s (out.Unsigned n))) refl r) in
    cc

one-below : (n : ℕ) → IsRun setting (set trace 5 (down_told n)) → n ≡ 4294967294
one-below n r = ap (λ xs. told_number n (entry_in_place 5 xs).reply.out) (told-run setting (set trace 5 (down_told n)) refl r)

no-other-again : (s : Status) → IsRun setting (set trace 7 (deleted_again s)) → s ≡ status.InvalidArg
no-other-again s r = ap (λ xs. (entry_in_place 7 xs).reply.status) (told-run setting (set trace 7 (deleted_again s)) refl r)

no-other-for-number : (s : Status) → IsRun setting (set trace 9 (number_referred s out.Nothing)) → s ≡ status.InvalidArg
no-other-for-number s r = ap (λ xs. (entry_in_place 9 xs).reply.status) (told-run setting (set trace 9 (number_referred s out.Nothing)) refl r)

no-reference : (s : Status) (n : ℕ) → IsRun setting (set trace 9 (number_referred s (out.Ref (reference n)))) → ⊥
no-reference s n r =
    let told : out.Ref (reference n) ≡ out.Nothing = ap (λ xs. (entry_in_place 9 xs).reply.out) (told-run setting (set trace 9 (number_referred s (out.Ref (reference n)))) refl r) in
    cc

pub returns-clause-strict : goal.returns-clause-strict
returns-clause-strict c = record {
  greatest = no-other-at-greatest;
  untold = no-count;
  kept = one-below;
  deleted = no-other-again;
  number = no-other-for-number;
  none = no-reference;
}
