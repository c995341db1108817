use Rattle.std.proofs.Common.{refl, ◌≡◌, ℕ, List, [], ap, set}
use Rattle.std.specs.Fmt.{digits}
use Rattle.napi_types.specs.declared.entry.Entry.{Entry}
use Rattle.napi_types.specs.declared.entry.HostStep.TheVariants as host
use Rattle.napi_types.specs.declared.entry.Out.TheVariants as out
use Rattle.napi_types.specs.declared.entry.What.TheVariants as what
use Rattle.napi_types.specs.declared.status.Status.{Status}
use Rattle.napi_types.specs.declared.status.Status.TheVariants as status
use Rattle.machine_laws.specs.HubWords.{next_after}
use Rattle.machine_laws.specs.LegalRuns.{told_asks, IsRun}
use Rattle.machine_laws.specs.PromisePending.{setting, trace, trace_with, reacts, asks_value}
use Rattle.machine_laws.specs.RunWords.{reaction_begins, handle}
use Rattle.machine_laws.proofs.RowLists.{ends-of}
use Rattle.machine_laws.proofs.Misses.{ticket_told, told-entry}
use Rattle.machine_laws.proofs.promise_runs.promise_pending_runs.Goals as goal

pub returns-clause-ends : goal.returns-clause-ends
returns-clause-ends c = ends-of setting (told_asks setting trace) trace (refl, refl) refl refl

pub returns-clause-prints : goal.returns-clause-prints
unfolding digits
returns-clause-prints c = refl

pub returns-clause-gives : goal.returns-clause-gives
returns-clause-gives c = refl

pub returns-clause-registers : goal.returns-clause-registers
returns-clause-registers c = refl

not-at-once : (n : ℕ) → IsRun setting (next_after 4 trace (reaction_begins n)) → ⊥
not-at-once n r = let w : what.Host host.Begin ≡ what.Host host.End = ap (λ x. x.what) (told-entry setting _ 4 refl r) in cc

not-early : (n : ℕ) → IsRun setting (next_after 6 trace (reaction_begins n)) → ⊥
not-early n r = let w : what.Host host.Begin ≡ what.Host host.LoopEnd = ap (λ x. x.what) (told-entry setting _ 6 refl r) in cc

not-in-loop : (n : ℕ) (at_end : List Entry) → IsRun setting (trace_with (reacts n) at_end) → ⊥
not-in-loop n at_end r = let w : what.Host host.Begin ≡ what.Host host.LoopEnd = ap (λ x. x.what) (told-entry setting _ 6 refl r) in cc

not-undrained : (n : ℕ) → IsRun setting (next_after 7 trace (reaction_begins n)) → ⊥
not-undrained n r = let w : what.Host host.Begin ≡ what.Host host.Drain = ap (λ x. x.what) (told-entry setting _ 7 refl r) in cc

not-drained : (n : ℕ) → IsRun setting (next_after 8 trace (reaction_begins n)) → ⊥
not-drained n r = let w : what.Host host.Begin ≡ what.Host host.Finals = ap (λ x. x.what) (told-entry setting _ 8 refl r) in cc

no-other : (n : ℕ) → IsRun setting (next_after 9 trace (reaction_begins n)) → n ≡ 1
no-other n r = ap (λ x. ticket_told n x.reply.out) (told-entry setting _ 9 refl r)

not-never : IsRun setting (trace_with [] []) → ⊥
not-never r = let w : what.Host host.Gone ≡ what.Host host.Begin = ap (λ x. x.what) (told-entry setting _ 9 refl r) in cc

not-again : (n : ℕ) → IsRun setting (next_after 12 trace (reaction_begins n)) → ⊥
not-again n r = let w : what.Host host.Begin ≡ what.Host host.Gone = ap (λ x. x.what) (told-entry setting _ 12 refl r) in cc

is-refused : (s : Status) → IsRun setting (set trace 10 (asks_value s out.Nothing)) → s ≡ status.InvalidArg
is-refused s r = ap (λ x. x.reply.status) (told-entry setting _ 10 refl r)

tells-none : (s : Status) (h : ℕ) → IsRun setting (set trace 10 (asks_value s (out.Handle (handle h)))) → ⊥
tells-none s h r = let o : out.Handle (handle h) ≡ out.Nothing = ap (λ x. x.reply.out) (told-entry setting _ 10 refl r) in cc

pub returns-clause-strict : goal.returns-clause-strict
returns-clause-strict c = record {
  at_once = not-at-once;
  early = not-early;
  in_loop = not-in-loop;
  undrained = not-undrained;
  drained = not-drained;
  first = no-other;
  never = not-never;
  again = not-again;
  refused = is-refused;
  untold = tells-none;
}
