use Rattle.std.proofs.Common.{refl, ◌≡◌, ℕ, Bool, true, ap, set}
use Rattle.std.specs.Fmt.{digits}
use Rattle.napi_types.specs.declared.entry.Out.TheVariants as out
use Rattle.napi_types.specs.declared.status.Status.{Status}
use Rattle.napi_types.specs.declared.status.Status.TheVariants as status
use Rattle.machine_laws.specs.LegalRuns.{told_asks, IsRun}
use Rattle.machine_laws.specs.BufferRun.{setting, trace, low_read, high_read, past_read, size_told, late_read, detached_again, detached_told}
use Rattle.machine_laws.proofs.RowLists.{ends-of}
use Rattle.machine_laws.proofs.AskLists.{told-run}
use Rattle.machine_laws.proofs.Misses.{entry_in_place, told_flag, told_number}
use Rattle.machine_laws.proofs.buffer_runs.buffer_run.Goals as goal

pub returns-clause-ends : goal.returns-clause-ends
returns-clause-ends c = ends-of setting (told_asks setting trace) trace (refl, refl) refl refl

pub returns-clause-prints : goal.returns-clause-prints
unfolding digits
returns-clause-prints c = refl

pub returns-clause-registers : goal.returns-clause-registers
returns-clause-registers c = refl

low-byte : (n : ℕ) → IsRun setting (set trace 6 (low_read n)) → n ≡ 2
low-byte n r = ap (λ xs. told_number n (entry_in_place 6 xs).reply.out) (told-run setting (set trace 6 (low_read n)) refl r)

high-byte : (n : ℕ) → IsRun setting (set trace 7 (high_read n)) → n ≡ 1
high-byte n r = ap (λ xs. told_number n (entry_in_place 7 xs).reply.out) (told-run setting (set trace 7 (high_read n)) refl r)

past-refused : (s : Status) → IsRun setting (set trace 8 (past_read s out.Nothing)) → s ≡ status.InvalidArg
past-refused s r = ap (λ xs. (entry_in_place 8 xs).reply.status) (told-run setting (set trace 8 (past_read s out.Nothing)) refl r)

past-untold : (s : Status) (n : ℕ) → IsRun setting (set trace 8 (past_read s (out.Unsigned n))) → ⊥
past-untold s n r =
    let told : out.Unsigned n ≡ out.Nothing =
    ap (λ xs. (entry_in_place 8 xs).reply.out) (told-run setting (set trace 8 (past_read s (out.Unsigned n))) refl r) in
    cc

no-size : (n : ℕ) → IsRun setting (set trace 10 (size_told n)) → n ≡ 0
no-size n r = ap (λ xs. told_number n (entry_in_place 10 xs).reply.out) (told-run setting (set trace 10 (size_told n)) refl r)

late-untold : (s : Status) (n : ℕ) → IsRun setting (set trace 11 (late_read s (out.Unsigned n))) → ⊥
late-untold s n r =
    let told : out.Unsigned n ≡ out.Nothing =
    ap (λ xs. (entry_in_place 11 xs).reply.out) (told-run setting (set trace 11 (late_read s (out.Unsigned n))) refl r) in
    cc

again-refused : (s : Status) → IsRun setting (set trace 12 (detached_again s)) → s ≡ status.DetachableArraybufferExpected
again-refused s r = ap (λ xs. (entry_in_place 12 xs).reply.status) (told-run setting (set trace 12 (detached_again s)) refl r)

is-detached : (b : Bool) → IsRun setting (set trace 13 (detached_told b)) → b ≡ true
is-detached b r = ap (λ xs. told_flag b (entry_in_place 13 xs).reply.out) (told-run setting (set trace 13 (detached_told b)) refl r)

pub returns-clause-strict : goal.returns-clause-strict
returns-clause-strict c = record {
  low = low-byte;
  high = high-byte;
  past = past-refused;
  past_number = past-untold;
  size = no-size;
  late_number = late-untold;
  again = again-refused;
  detached = is-detached;
}
