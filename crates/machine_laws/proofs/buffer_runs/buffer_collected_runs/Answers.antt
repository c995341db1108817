use Rattle.std.proofs.Common.{refl, ◌≡◌, ℕ, [], ◌++◌, ap, set}
use Rattle.std.specs.Fmt.{digits}
use Rattle.napi_types.specs.declared.entry.HostStep.TheVariants as host
use Rattle.napi_types.specs.declared.entry.What.TheVariants as what
use Rattle.machine_laws.specs.LegalRuns.{told_asks, EndsAsTold, IsRun}
use Rattle.machine_laws.specs.BufferCollected.{setting, trace, trace_with, first_freed, then_freed, runs, held_setting, held_with, held_trace}
use Rattle.machine_laws.proofs.RowLists.{ends-of}
use Rattle.machine_laws.proofs.AskLists.{told-run}
use Rattle.machine_laws.proofs.Misses.{entry_in_place, told_number, ticket_told}
use Rattle.machine_laws.proofs.buffer_runs.buffer_collected_runs.Goals as goal

pub returns-clause-ends : goal.returns-clause-ends
returns-clause-ends c = ends-of setting (told_asks setting trace) trace (refl, refl) refl refl

pub returns-clause-prints : goal.returns-clause-prints
unfolding digits
returns-clause-prints c = refl

pub returns-clause-gives : goal.returns-clause-gives
returns-clause-gives c = refl

none-kept : (n : ℕ) → IsRun setting (set trace 7 (first_freed n)) → n ≡ 0
none-kept n r = ap (λ xs. told_number n (entry_in_place 7 xs).reply.out) (told-run setting (set trace 7 (first_freed n)) refl r)

both-freed : (n : ℕ) → IsRun setting (set trace 9 (then_freed n)) → n ≡ 2
both-freed n r = ap (λ xs. told_number n (entry_in_place 9 xs).reply.out) (told-run setting (set trace 9 (then_freed n)) refl r)

own-begins : (n : ℕ) → IsRun setting (trace_with (runs n)) → n ≡ 1
own-begins n r = ap (λ xs. ticket_told n (entry_in_place 12 xs).reply.out) (told-run setting (trace_with (runs n)) refl r)

not-missing : IsRun setting (trace_with []) → ⊥
not-missing r = let w : what.Host host.LoopEnd ≡ what.Host host.Begin = ap (λ xs. (entry_in_place 12 xs).what) (told-run setting (trace_with []) refl r) in cc

not-again : (n : ℕ) → IsRun setting (trace_with (runs 1 ++ runs n)) → ⊥
not-again n r =
    let w : what.Host host.Begin ≡ what.Host host.LoopEnd =
    ap (λ xs. (entry_in_place 14 xs).what) (told-run setting (trace_with (runs 1 ++ runs n)) refl r) in cc

waits-for-end : EndsAsTold held_setting held_trace
waits-for-end = ends-of held_setting (told_asks held_setting held_trace) held_trace (refl, refl) refl refl

not-early : (n : ℕ) → IsRun held_setting (held_with (runs n) []) → ⊥
not-early n r =
    let w : what.Host host.Begin ≡ what.Host host.LoopEnd = ap (λ xs. (entry_in_place 10 xs).what) (told-run held_setting (held_with (runs n) []) refl r) in cc

pub returns-clause-strict : goal.returns-clause-strict
returns-clause-strict c = record {
  kept = none-kept;
  freed = both-freed;
  begins = own-begins;
  missing = not-missing;
  again = not-again;
  waits = waits-for-end;
  early = not-early;
}
