use Rattle.std.proofs.Common.{refl, ◌≡◌, ℕ, [], ap, set}
use Rattle.std.specs.Fmt.{digits}
use Rattle.napi_types.specs.declared.entry.HostStep.TheVariants as host
use Rattle.napi_types.specs.declared.entry.LoopEnd.{LoopEnd}
use Rattle.napi_types.specs.declared.entry.LoopEnd.TheVariants as loop_end
use Rattle.napi_types.specs.declared.entry.What.TheVariants as what
use Rattle.machine_laws.specs.LegalRuns.{told_asks, IsRun}
use Rattle.machine_laws.specs.ExitBeforeDue.{setting, trace, trace_with, runs}
use Rattle.machine_laws.specs.RunWords.{loop_ended, finalizer_begins}
use Rattle.machine_laws.proofs.RowLists.{ends-of}
use Rattle.machine_laws.proofs.AskLists.{told-run}
use Rattle.machine_laws.proofs.Misses.{entry_in_place, told_reason, ticket_told}
use Rattle.machine_laws.proofs.exits.exit_before_due_runs.Goals as goal

pub returns-clause-ends : goal.returns-clause-ends
returns-clause-ends c = ends-of setting (told_asks setting trace) trace (refl, refl) refl refl

pub returns-clause-prints : goal.returns-clause-prints
unfolding digits
returns-clause-prints c = refl

no-other-reason : (r : LoopEnd) → IsRun setting (set trace 12 (loop_ended r)) → r ≡ loop_end.Exit
no-other-reason r run = ap (λ xs. told_reason r (entry_in_place 12 xs).reply.out) (told-run setting (set trace 12 (loop_ended r)) refl run)

not-early : (n : ℕ) → IsRun setting (trace_with (runs n) (runs 1)) → ⊥
not-early n run =
    let w : what.Host host.Begin ≡ what.Host host.LoopEnd = ap (λ xs. (entry_in_place 12 xs).what) (told-run setting (trace_with (runs n) (runs 1)) refl run) in cc

no-other-first : (n : ℕ) → IsRun setting (set trace 15 (finalizer_begins n)) → n ≡ 1
no-other-first n run = ap (λ xs. ticket_told n (entry_in_place 15 xs).reply.out) (told-run setting (set trace 15 (finalizer_begins n)) refl run)

not-gone : IsRun setting (trace_with [] (runs 1)) → ⊥
not-gone run =
    let w : what.Host host.Gone ≡ what.Host host.Begin = ap (λ xs. (entry_in_place 17 xs).what) (told-run setting (trace_with [] (runs 1)) refl run) in cc

pub returns-clause-strict : goal.returns-clause-strict
returns-clause-strict c = record { reason = no-other-reason; early = not-early; first = no-other-first; last = not-gone }
