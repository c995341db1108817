use Rattle.std.proofs.Common.{refl, ◌≡◌, ℕ, ap, set}
use Rattle.std.specs.Fmt.{digits}
use Rattle.napi_types.specs.declared.entry.Cause.{Cause}
use Rattle.napi_types.specs.declared.entry.HostStep.TheVariants as host
use Rattle.napi_types.specs.declared.entry.What.TheVariants as what
use Rattle.machine_laws.specs.HubWords.{begins}
use Rattle.machine_laws.specs.LegalRuns.{told_asks, IsRun}
use Rattle.machine_laws.specs.RunWords.{ticket, finalizer_begins, left_out}
use Rattle.machine_laws.specs.TicketDueInHooks.{setting, trace, freed}
use Rattle.machine_laws.proofs.RowLists.{ends-of}
use Rattle.machine_laws.proofs.AskLists.{told-run}
use Rattle.machine_laws.proofs.Misses.{entry_in_place, told_number, ticket_told}
use Rattle.machine_laws.proofs.hook_runs.ticket_due_in_hooks_runs.Goals as goal

pub returns-clause-ends : goal.returns-clause-ends
returns-clause-ends c = ends-of setting (told_asks setting trace) trace (refl, refl) refl refl

pub returns-clause-prints : goal.returns-clause-prints
unfolding digits
returns-clause-prints c = refl

is-freed : (n : ℕ) → IsRun setting (set trace 10 (freed n)) → n ≡ 1
is-freed n r = ap (λ xs. told_number n (entry_in_place 10 xs).reply.out) (told-run setting (set trace 10 (freed n)) refl r)

not-while-waiting : (c : Cause) (entry n : ℕ) → IsRun setting (set trace 12 (begins c entry (ticket n))) → ⊥
not-while-waiting c entry n r =
    let w : what.Host host.Begin ≡ what.Host host.Abandon =
    ap (λ xs. (entry_in_place 12 xs).what) (told-run setting (set trace 12 (begins c entry (ticket n))) refl r) in cc

not-for-drain : (c : Cause) (entry n : ℕ) → IsRun setting (set trace 13 (begins c entry (ticket n))) → ⊥
not-for-drain c entry n r =
    let w : what.Host host.Begin ≡ what.Host host.Drain =
    ap (λ xs. (entry_in_place 13 xs).what) (told-run setting (set trace 13 (begins c entry (ticket n))) refl r) in cc

not-for-finals : (c : Cause) (entry n : ℕ) → IsRun setting (set trace 14 (begins c entry (ticket n))) → ⊥
not-for-finals c entry n r =
    let w : what.Host host.Begin ≡ what.Host host.Finals =
    ap (λ xs. (entry_in_place 14 xs).what) (told-run setting (set trace 14 (begins c entry (ticket n))) refl r) in cc

is-last : (n : ℕ) → IsRun setting (set trace 15 (finalizer_begins n)) → n ≡ 1
is-last n r = ap (λ xs. ticket_told n (entry_in_place 15 xs).reply.out) (told-run setting (set trace 15 (finalizer_begins n)) refl r)

not-gone : IsRun setting (left_out 15 (left_out 15 trace)) → ⊥
not-gone r =
    let w : what.Host host.Gone ≡ what.Host host.Begin =
    ap (λ xs. (entry_in_place 15 xs).what) (told-run setting (left_out 15 (left_out 15 trace)) refl r) in cc

pub returns-clause-strict : goal.returns-clause-strict
returns-clause-strict c = record {
  freed = is-freed;
  waiting = not-while-waiting;
  abandoned = not-for-drain;
  drained = not-for-finals;
  last = is-last;
  never = not-gone;
}
