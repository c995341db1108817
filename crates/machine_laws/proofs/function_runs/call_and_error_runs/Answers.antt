use Rattle.std.proofs.Common.{refl, ◌≡◌, ℕ, ap, set, pos}
use Rattle.std.specs.Fmt.{digits}
use Rattle.napi_types.specs.declared.entry.Out.{Out}
use Rattle.napi_types.specs.declared.entry.Out.TheVariants as out
use Rattle.napi_types.specs.declared.status.Status.{Status}
use Rattle.napi_types.specs.declared.status.Status.TheVariants as status
use Rattle.machine_laws.specs.LegalRuns.{told_asks, IsRun}
use Rattle.machine_laws.specs.CallAndError.{setting, trace, returned, read, last_told}
use Rattle.machine_laws.specs.RunWords.{handle, call_begins, frame_ends}
use Rattle.machine_laws.proofs.RowLists.{ends-of}
use Rattle.machine_laws.proofs.AskLists.{told-run}
use Rattle.machine_laws.proofs.Misses.{entry_in_place, told_number}
use Rattle.machine_laws.proofs.function_runs.call_and_error_runs.Goals as goal

pub returns-clause-ends : goal.returns-clause-ends
returns-clause-ends c = ends-of setting (told_asks setting trace) trace (refl, refl) refl refl

pub returns-clause-prints : goal.returns-clause-prints
unfolding digits
returns-clause-prints c = refl

pub returns-clause-sums : goal.returns-clause-sums
unfolding digits
returns-clause-sums c = refl

-- the entry that a begin tells, the number of a handle, and a number that is not negative
abbrev told_entry : Out → ℕ
told_entry (out.Begin c addon entry d) = entry
told_entry _ = 0

abbrev told_handle : Out → ℕ
told_handle (out.Handle h) = h.0
told_handle _ = 0

abbrev told_signed : Out → ℕ
told_signed (out.Signed (pos n)) = n
told_signed _ = 0

same-entry : (n : ℕ) → IsRun setting (set trace 4 (call_begins n)) → n ≡ 1
same-entry n r = ap (λ xs. told_entry (entry_in_place 4 xs).reply.out) (told-run setting (set trace 4 (call_begins n)) refl r)

same-status : (s : Status) → IsRun setting (set trace 5 (returned s (out.Handle (handle 4)))) → s ≡ status.Ok
same-status s r = ap (λ xs. (entry_in_place 5 xs).reply.status) (told-run setting (set trace 5 (returned s (out.Handle (handle 4)))) refl r)

next-handle : (h : ℕ) → IsRun setting (set trace 5 (returned status.Ok (out.Handle (handle h)))) → h ≡ 4
next-handle h r = ap (λ xs. told_handle (entry_in_place 5 xs).reply.out) (told-run setting (set trace 5 (returned status.Ok (out.Handle (handle h)))) refl r)

same-value : (n : ℕ) → IsRun setting (set trace 6 (read 4 n)) → n ≡ 7
same-value n r = ap (λ xs. told_signed (entry_in_place 6 xs).reply.out) (told-run setting (set trace 6 (read 4 n)) refl r)

same-last : (n : ℕ) → IsRun setting (set trace 8 (last_told n)) → n ≡ 0
same-last n r = ap (λ xs. told_number n (entry_in_place 8 xs).reply.out) (told-run setting (set trace 8 (last_told n)) refl r)

not-silent : IsRun setting (set trace 9 (frame_ends out.Nothing)) → ⊥
not-silent r =
    let told : out.Nothing ≡ out.Uncaught = ap (λ xs. (entry_in_place 9 xs).reply.out) (told-run setting (set trace 9 (frame_ends out.Nothing)) refl r) in
    cc

pub returns-clause-strict : goal.returns-clause-strict
returns-clause-strict c = record { entry = same-entry; accepted = same-status; next = next-handle; value = same-value; last = same-last; uncaught = not-silent }
