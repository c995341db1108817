use Rattle.std.proofs.Common.{◌≡◌, ap, refl, Option, None}
use Rattle.std.specs.Fmt.{digits}
use Rattle.napi_types.specs.declared.entry.Duty.{Duty}
use Rattle.napi_types.specs.declared.status.Status.{Status}
use Rattle.napi_types.specs.declared.status.Status.TheVariants as status
use Rattle.machine_laws.specs.CancelBeforeStart.{setting, queued_again, history, journal, trace}
use Rattle.machine_laws.specs.HubWords.{next_after, completion_begins, finals, worker_starts}
use Rattle.machine_laws.specs.LegalRuns.{IsRun}
use Rattle.machine_laws.proofs.Misses.{told-entry, told-may}
use Rattle.machine_laws.proofs.RowLists.{ends-on-lists}
use Rattle.machine_laws.proofs.hub_runs.cancel_before_start_runs.Goals as goal

pub returns-clause-ends : goal.returns-clause-ends
returns-clause-ends c = ends-on-lists setting journal history (refl, refl) refl refl refl

pub returns-clause-prints : goal.returns-clause-prints
unfolding digits
returns-clause-prints c = refl

pub returns-clause-sums : goal.returns-clause-sums
unfolding digits
returns-clause-sums c = refl

not-again : (s : Status) (d : Option Duty) → IsRun setting (next_after 5 trace (queued_again s d)) → (s ≡ status.GenericFailure) × (d ≡ None)
not-again s d r = let same : queued_again s d ≡ _ = told-entry setting _ 5 refl r in (ap (λ x. x.reply.status) same, ap (λ x. x.reply.made) same)

no-start : IsRun setting (next_after 5 trace (worker_starts 0 1)) → ⊥
no-start r = let z : _ = told-may setting _ refl r in cc

is-cancelled : (s : Status) → IsRun setting (next_after 9 trace (completion_begins 1 s 1)) → s ≡ status.Cancelled
is-cancelled s r = ap (λ x. x.reply.status) (told-entry setting _ 9 refl r)

not-finals : IsRun setting (next_after 14 trace finals) → ⊥
not-finals r = let z : _ = told-may setting _ refl r in cc

pub returns-clause-strict : goal.returns-clause-strict
returns-clause-strict c = record { again = not-again; start = no-start; completion = is-cancelled; finals = not-finals }
