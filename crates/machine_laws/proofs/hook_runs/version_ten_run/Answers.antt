use Rattle.std.proofs.Common.{refl, ◌≡◌, ℕ, ◌∷◌, ap, drop, set}
use Rattle.std.specs.Fmt.{digits}
use Rattle.napi_types.specs.declared.entry.Out.TheVariants as out
use Rattle.napi_types.specs.declared.status.Status.{Status}
use Rattle.napi_types.specs.declared.status.Status.TheVariants as status
use Rattle.machine_laws.specs.LegalRuns.{told_asks, IsRun}
use Rattle.machine_laws.specs.RunWords.{reference}
use Rattle.machine_laws.specs.VersionTen.{setting, trace, opened_at, number_referred, first_freed, then_freed, value_given, version_told, compared}
use Rattle.machine_laws.proofs.RowLists.{ends-of}
use Rattle.machine_laws.proofs.AskLists.{told-run}
use Rattle.machine_laws.proofs.Misses.{entry_in_place, told_number}
use Rattle.machine_laws.proofs.hook_runs.version_ten_run.Goals as goal

pub returns-clause-ends : goal.returns-clause-ends
returns-clause-ends c = ends-of setting (told_asks setting trace) trace (refl, refl) refl refl

pub returns-clause-prints : goal.returns-clause-prints
unfolding digits
returns-clause-prints c = refl

opens-at-ten : (n : ℕ) → IsRun setting (set trace 0 (opened_at n)) → n ≡ 10
opens-at-ten n r = ap (λ xs. told_number n (entry_in_place 0 xs).reply.out) (told-run setting (set trace 0 (opened_at n)) refl r)

tells-ten : (n : ℕ) → IsRun setting (set trace 10 (version_told n)) → n ≡ 10
tells-ten n r = ap (λ xs. told_number n (entry_in_place 10 xs).reply.out) (told-run setting (set trace 10 (version_told n)) refl r)

not-refused : (s : Status) → IsRun setting (set trace 4 (number_referred s out.Nothing)) → ⊥
not-refused s r =
    let o : out.Nothing ≡ out.Ref (reference 0) = ap (λ xs. (entry_in_place 4 xs).reply.out) (told-run setting (set trace 4 (number_referred s out.Nothing)) refl r) in cc

is-kept : (n : ℕ) → IsRun setting (set trace 7 (first_freed n)) → n ≡ 0
is-kept n r = ap (λ xs. told_number n (entry_in_place 7 xs).reply.out) (told-run setting (set trace 7 (first_freed n)) refl r)

is-given : IsRun setting (set trace 8 (value_given out.NoHandle)) → ⊥
is-given r =
    let o : out.NoHandle ≡ _ = ap (λ xs. (entry_in_place 8 xs).reply.out) (told-run setting (set trace 8 (value_given out.NoHandle)) refl r) in cc

is-freed : (n : ℕ) → IsRun setting (set trace 16 (then_freed n)) → n ≡ 1
is-freed n r = ap (λ xs. told_number n (entry_in_place 16 xs).reply.out) (told-run setting (set trace 16 (then_freed n)) refl r)

is-guarded : (s : Status) → IsRun setting (set trace 17 (compared s out.Nothing)) → s ≡ status.CannotRunJs
is-guarded s r = ap (λ xs. (entry_in_place 17 xs).reply.status) (told-run setting (set trace 17 (compared s out.Nothing)) refl r)

not-at-nine : IsRun (record setting { version = 9 }) (opened_at 9 ∷ drop 1 trace) → ⊥
not-at-nine r =
    let o : out.Ref (reference 1) ≡ out.Nothing =
    ap (λ xs. (entry_in_place 4 xs).reply.out) (told-run (record setting { version = 9 }) (opened_at 9 ∷ drop 1 trace) refl r) in cc

pub returns-clause-strict : goal.returns-clause-strict
returns-clause-strict c = record {
  opened = opens-at-ten;
  version = tells-ten;
  number = not-refused;
  kept = is-kept;
  given = is-given;
  freed = is-freed;
  guarded = is-guarded;
  nine = not-at-nine;
}
