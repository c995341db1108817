use Rattle.std.proofs.Common.{◌≡◌, ℕ, ap, refl, Some, None}
use Rattle.std.specs.Fmt.{digits}
use Rattle.napi_types.specs.declared.entry.HostStep.TheVariants as host
use Rattle.napi_types.specs.declared.entry.LoopEnd.{LoopEnd}
use Rattle.napi_types.specs.declared.entry.LoopEnd.TheVariants as loop_end
use Rattle.napi_types.specs.declared.entry.What.TheVariants as what
use Rattle.napi_types.specs.declared.status.Status.{Status}
use Rattle.napi_types.specs.declared.status.Status.TheVariants as status
use Rattle.machine_laws.specs.WorkWithoutWorkers.{creates_late, setting_for, setting, history, journal, trace}
use Rattle.machine_laws.specs.HubWords.{next_after, completion_begins, shared_at, work_created, drains, finals, worker_starts}
use Rattle.machine_laws.specs.RunWords.{loop_ended}
use Rattle.machine_laws.specs.LegalRuns.{IsRun}
use Rattle.machine_laws.proofs.Misses.{told_number, told_reason, given_refused, told-entry, told-may}
use Rattle.machine_laws.proofs.RowLists.{ends-on-lists}
use Rattle.machine_laws.proofs.hub_runs.work_without_workers_runs.Goals as goal

pub returns-clause-ends : goal.returns-clause-ends
returns-clause-ends c = ends-on-lists setting journal history (refl, refl) refl refl refl

pub returns-clause-prints : goal.returns-clause-prints
unfolding digits
returns-clause-prints c = refl

no-other-reason : (e : LoopEnd) → IsRun setting (next_after 6 trace (loop_ended e)) → e ≡ loop_end.Quiet
no-other-reason e r = ap (λ x. told_reason e x.reply.out) (told-entry setting _ 6 refl r)

not-with-worker : (e : LoopEnd) → IsRun (setting_for 1) (next_after 6 trace (loop_ended e)) → ⊥
not-with-worker e r = let z : _ = told-may (setting_for 1) _ refl r in cc

no-start : IsRun setting (next_after 4 trace (worker_starts 0 1)) → ⊥
no-start r = let z : _ = told-may setting _ refl r in cc

drains-one : (n : ℕ) → IsRun setting (next_after 7 trace (drains n)) → n ≡ 1
drains-one n r = ap (λ x. told_number n x.reply.out) (told-entry setting _ 7 refl r)

is-cancelled : (s : Status) → IsRun setting (next_after 8 trace (completion_begins 1 s 1)) → s ≡ status.Cancelled
is-cancelled s r = ap (λ x. x.reply.status) (told-entry setting _ 8 refl r)

not-finals : IsRun setting (next_after 8 trace finals) → ⊥
not-finals r = let w : what.Host host.Finals ≡ what.Host host.Begin = ap (λ x. x.what) (told-entry setting _ 8 refl r) in cc

not-late : (n : ℕ) → IsRun setting (next_after 9 trace (work_created 0 creates_late n)) → ⊥
not-late n r = let w : status.Ok ≡ status.GenericFailure = ap (λ x. x.reply.status) (told-entry setting _ 9 refl r) in cc

is-handed : (s : Status) → IsRun setting (next_after 9 trace (shared_at 0 creates_late s)) → ⊥
is-handed s r = let w : None ≡ Some status.GenericFailure = ap (λ x. given_refused x.given) (told-entry setting _ 9 refl r) in cc

pub returns-clause-strict : goal.returns-clause-strict
returns-clause-strict c = record {
  reason = no-other-reason;
  worker = not-with-worker;
  start = no-start;
  drain = drains-one;
  completion = is-cancelled;
  finals = not-finals;
  late = not-late;
  refused = is-handed;
}
