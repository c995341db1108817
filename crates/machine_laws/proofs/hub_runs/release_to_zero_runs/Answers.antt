use Rattle.std.proofs.Common.{◌≡◌, ℕ, ap, refl, Option, None}
use Rattle.std.specs.Fmt.{digits}
use Rattle.napi_types.specs.declared.entry.Cause.{Cause}
use Rattle.napi_types.specs.declared.entry.Cause.TheVariants as cause
use Rattle.napi_types.specs.declared.entry.Duty.{Duty}
use Rattle.napi_types.specs.declared.entry.HostStep.TheVariants as host
use Rattle.napi_types.specs.declared.entry.LoopEnd.{LoopEnd}
use Rattle.napi_types.specs.declared.entry.What.TheVariants as what
use Rattle.napi_types.specs.declared.status.Status.{Status}
use Rattle.napi_types.specs.declared.status.Status.TheVariants as status
use Rattle.machine_laws.specs.ReleaseToZero.{setting, last_call, history, journal, trace}
use Rattle.machine_laws.specs.HubWords.{next_after, item_begins, function_closes}
use Rattle.machine_laws.specs.RunWords.{loop_ended}
use Rattle.machine_laws.specs.LegalRuns.{IsRun}
use Rattle.machine_laws.proofs.Misses.{told_item, told_cause, told-entry}
use Rattle.machine_laws.proofs.RowLists.{ends-on-lists}
use Rattle.machine_laws.proofs.hub_runs.release_to_zero_runs.Goals as goal

pub returns-clause-ends : goal.returns-clause-ends
returns-clause-ends c = ends-on-lists setting journal history (refl, refl) refl refl refl

pub returns-clause-prints : goal.returns-clause-prints
unfolding digits
returns-clause-prints c = refl

is-released : (s : Status) (d : Option Duty) → IsRun setting (next_after 6 trace (last_call s d)) → (s ≡ status.InvalidArg) × (d ≡ None)
is-released s d r = let same : last_call s d ≡ _ = told-entry setting _ 6 refl r in (ap (λ x. x.reply.status) same, ap (λ x. x.reply.made) same)

first-first : (c : Cause) (n : ℕ) → IsRun setting (next_after 9 trace (item_begins c n)) → (c ≡ cause.Item) × (n ≡ 1)
first-first c n r =
    let same : item_begins c n ≡ _ = told-entry setting _ 9 refl r in (ap (λ x. told_cause c x.reply.out) same, ap (λ x. told_item n x.reply.out) same)

second-then : (c : Cause) (n : ℕ) → IsRun setting (next_after 11 trace (item_begins c n)) → (c ≡ cause.Item) × (n ≡ 2)
second-then c n r =
    let same : item_begins c n ≡ _ = told-entry setting _ 11 refl r in (ap (λ x. told_cause c x.reply.out) same, ap (λ x. told_item n x.reply.out) same)

no-close : IsRun setting (next_after 11 trace function_closes) → ⊥
no-close r = let w : what.Host host.CloseTsfn ≡ what.Host host.Begin = ap (λ x. x.what) (told-entry setting _ 11 refl r) in cc

not-done : (e : LoopEnd) → IsRun setting (next_after 14 trace (loop_ended e)) → ⊥
not-done e r = let w : what.Host host.LoopEnd ≡ what.Host host.FinishTsfn = ap (λ x. x.what) (told-entry setting _ 14 refl r) in cc

pub returns-clause-strict : goal.returns-clause-strict
returns-clause-strict c = record {
  released = is-released;
  order = first-first;
  twice = second-then;
  close = no-close;
  done = not-done;
}
