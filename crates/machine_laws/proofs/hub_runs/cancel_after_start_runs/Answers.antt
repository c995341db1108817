use Rattle.std.proofs.Common.{◌≡◌, ℕ, [], ◌∷◌, ◌++◌, take, ap, refl}
use Rattle.std.specs.Fmt.{digits}
use Rattle.napi_types.specs.declared.entry.Actor.TheVariants as actor
use Rattle.napi_types.specs.declared.entry.Entry.{Entry}
use Rattle.napi_types.specs.declared.status.Status.{Status}
use Rattle.napi_types.specs.declared.status.Status.TheVariants as status
use Rattle.machine_laws.specs.CancelAfterStart.{setting, cancelled, history, journal, trace}
use Rattle.machine_laws.specs.HubWords.{next_after, completion_begins, worker_finishes, worker_ends}
use Rattle.machine_laws.specs.RunWords.{go_entry}
use Rattle.machine_laws.specs.LegalRuns.{IsRun}
use Rattle.machine_laws.proofs.Misses.{told_number, told-entry, told-may}
use Rattle.machine_laws.proofs.RowLists.{ends-on-lists}
use Rattle.machine_laws.proofs.hub_runs.cancel_after_start_runs.Goals as goal

pub returns-clause-ends : goal.returns-clause-ends
returns-clause-ends c = ends-on-lists setting journal history (refl, refl) refl refl refl

pub returns-clause-prints : goal.returns-clause-prints
unfolding digits
returns-clause-prints c = refl

is-late : (s : Status) → IsRun setting (next_after 5 trace (cancelled s)) → s ≡ status.GenericFailure
is-late s r = ap (λ x. x.reply.status) (told-entry setting _ 5 refl r)

no-other-value : (n : ℕ) → IsRun setting (next_after 7 trace (worker_finishes 0 n)) → n ≡ 10
no-other-value n r = ap (λ x. told_number n x.reply.out) (told-entry setting _ 7 refl r)

runs-on : (x : Entry) → IsRun setting (take 7 trace ++ go_entry ∷ record x { actor = actor.Env } ∷ []) → ⊥
runs-on x r = let z : _ = told-may setting _ refl r in cc

is-completed : (s : Status) → IsRun setting (next_after 9 trace (completion_begins 1 s 1)) → s ≡ status.Ok
is-completed s r = ap (λ x. x.reply.status) (told-entry setting _ 9 refl r)

no-end : IsRun setting (next_after 12 trace (worker_ends 0)) → ⊥
no-end r = let z : _ = told-may setting _ refl r in cc

pub returns-clause-strict : goal.returns-clause-strict
returns-clause-strict c = record {
  late = is-late;
  value = no-other-value;
  runs = runs-on;
  completion = is-completed;
  working = refl;
  free = refl;
  idle = refl;
  woken = refl;
  over = refl;
  end = no-end;
}
