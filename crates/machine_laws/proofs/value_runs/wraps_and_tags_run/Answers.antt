use Rattle.std.proofs.Common.{refl, ◌≡◌, ℕ, Bool, false, ap, set}
use Rattle.std.specs.Fmt.{digits}
use Rattle.napi_types.specs.declared.status.Status.{Status}
use Rattle.napi_types.specs.declared.status.Status.TheVariants as status
use Rattle.machine_laws.specs.LegalRuns.{told_asks, IsRun}
use Rattle.machine_laws.specs.WrapsAndTags.{setting, trace, wrapped_again, unwrapped, external_checked}
use Rattle.machine_laws.proofs.RowLists.{ends-of}
use Rattle.machine_laws.proofs.AskLists.{told-run}
use Rattle.machine_laws.proofs.Misses.{entry_in_place, told_number, told_flag}
use Rattle.machine_laws.proofs.value_runs.wraps_and_tags_run.Goals as goal

pub returns-clause-ends : goal.returns-clause-ends
returns-clause-ends c = ends-of setting (told_asks setting trace) trace (refl, refl) refl refl

pub returns-clause-prints : goal.returns-clause-prints
unfolding digits
returns-clause-prints c = refl

no-second : (s : Status) → IsRun setting (set trace 5 (wrapped_again s)) → s ≡ status.InvalidArg
no-second s r = ap (λ xs. (entry_in_place 5 xs).reply.status) (told-run setting (set trace 5 (wrapped_again s)) refl r)

no-other-payload : (n : ℕ) → IsRun setting (set trace 6 (unwrapped n)) → n ≡ 7
no-other-payload n r = ap (λ xs. told_number n (entry_in_place 6 xs).reply.out) (told-run setting (set trace 6 (unwrapped n)) refl r)

no-tag : (b : Bool) → IsRun setting (set trace 12 (external_checked b)) → b ≡ false
no-tag b r = ap (λ xs. told_flag b (entry_in_place 12 xs).reply.out) (told-run setting (set trace 12 (external_checked b)) refl r)

pub returns-clause-strict : goal.returns-clause-strict
returns-clause-strict c = record { once = no-second; payload = no-other-payload; untagged = no-tag; freed = refl }
