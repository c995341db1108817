use Rattle.std.proofs.Common.{◌≡◌, ℕ, ap, refl}
use Rattle.std.specs.Fmt.{digits}
use Rattle.napi_types.specs.declared.status.Status.{Status}
use Rattle.napi_types.specs.declared.status.Status.TheVariants as status
use Rattle.machine_laws.specs.CancelBehindFinished.{setting, history, journal, trace}
use Rattle.machine_laws.specs.HubWords.{next_after, completion_begins, worker_starts}
use Rattle.machine_laws.specs.LegalRuns.{IsRun}
use Rattle.machine_laws.proofs.Misses.{told_completed, told-entry, told-may}
use Rattle.machine_laws.proofs.RowLists.{ends-on-lists}
use Rattle.machine_laws.proofs.hub_runs.cancel_behind_finished_runs.Goals as goal

pub returns-clause-ends : goal.returns-clause-ends
returns-clause-ends c = ends-on-lists setting journal history (refl, refl) refl refl refl

pub returns-clause-prints : goal.returns-clause-prints
unfolding digits
returns-clause-prints c = refl

no-start : IsRun setting (next_after 9 trace (worker_starts 0 2)) → ⊥
no-start r = let z : _ = told-may setting _ refl r in cc

is-first : (s : Status) (n : ℕ) → IsRun setting (next_after 11 trace (completion_begins 1 s n)) → (s ≡ status.Ok) × (n ≡ 1)
is-first s n r =
    let same : completion_begins 1 s n ≡ _ = told-entry setting _ 11 refl r in (ap (λ x. x.reply.status) same, ap (λ x. told_completed n x.reply.out) same)

is-second : (s : Status) (n : ℕ) → IsRun setting (next_after 13 trace (completion_begins 1 s n)) → (s ≡ status.Cancelled) × (n ≡ 2)
is-second s n r =
    let same : completion_begins 1 s n ≡ _ = told-entry setting _ 13 refl r in (ap (λ x. x.reply.status) same, ap (λ x. told_completed n x.reply.out) same)

pub returns-clause-strict : goal.returns-clause-strict
returns-clause-strict c = record { start = no-start; first = is-first; second = is-second }
