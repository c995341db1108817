use Rattle.std.proofs.Common.{refl, ◌≡◌, ℕ, pos, ap, set}
use Rattle.std.specs.Fmt.{digits}
use Rattle.napi_types.specs.declared.entry.Out.TheVariants as out
use Rattle.napi_types.specs.declared.status.Status.{Status}
use Rattle.napi_types.specs.declared.status.Status.TheVariants as status
use Rattle.machine_laws.specs.StaleHandle.{setting, trace, read_again, last_told, last_told_again}
use Rattle.machine_laws.specs.LegalRuns.{IsRun}
use Rattle.machine_laws.proofs.AskLists.{told-run}
use Rattle.machine_laws.proofs.Misses.{entry_in_place, told_number}
use Rattle.machine_laws.proofs.scope_runs.stale_handle_runs.Goals as goal

pub returns-clause-prints : goal.returns-clause-prints
unfolding digits
returns-clause-prints c = refl

no-other-status : (s : Status) → IsRun setting (set trace 6 (read_again s out.Nothing)) → s ≡ status.InvalidArg
no-other-status s r = ap (λ xs. (entry_in_place 6 xs).reply.status) (told-run setting (set trace 6 (read_again s out.Nothing)) refl r)

no-number : (s : Status) (n : ℕ) → IsRun setting (set trace 6 (read_again s (out.Signed (pos n)))) → ⊥
no-number s n r =
    let told : out.Signed (pos n) ≡ out.Nothing = ap (λ xs. (entry_in_place 6 xs).reply.out) (told-run setting (set trace 6 (read_again s (out.Signed (pos n)))) refl r) in
    cc

no-other-last : (n : ℕ) → IsRun setting (set trace 7 (last_told n)) → n ≡ 1
no-other-last n r = ap (λ xs. told_number n (entry_in_place 7 xs).reply.out) (told-run setting (set trace 7 (last_told n)) refl r)

no-other-again : (n : ℕ) → IsRun setting (set trace 8 (last_told_again n)) → n ≡ 1
no-other-again n r = ap (λ xs. told_number n (entry_in_place 8 xs).reply.out) (told-run setting (set trace 8 (last_told_again n)) refl r)

pub returns-clause-strict : goal.returns-clause-strict
returns-clause-strict c = record { stale = no-other-status; untold = no-number; last = no-other-last; again = no-other-again }
