use Rattle.std.proofs.Common.{◌≡◌, ℕ, ap, refl, Option, None}
use Rattle.std.specs.Fmt.{digits}
use Rattle.napi_types.specs.declared.entry.Cause.{Cause}
use Rattle.napi_types.specs.declared.entry.Cause.TheVariants as cause
use Rattle.napi_types.specs.declared.entry.Duty.{Duty}
use Rattle.napi_types.specs.declared.entry.HostStep.TheVariants as host
use Rattle.napi_types.specs.declared.entry.LoopEnd.{LoopEnd}
use Rattle.napi_types.specs.declared.entry.What.TheVariants as what
use Rattle.napi_types.specs.declared.status.Status.{Status}
use Rattle.napi_types.specs.declared.status.Status.TheVariants as status
use Rattle.machine_laws.specs.Abort.{setting, late_call, history, journal, trace}
use Rattle.machine_laws.specs.HubWords.{next_after, item_begins, function_closes}
use Rattle.machine_laws.specs.RunWords.{loop_ended}
use Rattle.machine_laws.specs.LegalRuns.{IsRun}
use Rattle.machine_laws.proofs.Misses.{told_item, told_cause, told-entry}
use Rattle.machine_laws.proofs.RowLists.{ends-on-lists}
use Rattle.machine_laws.proofs.hub_runs.abort_runs.Goals as goal

pub returns-clause-ends : goal.returns-clause-ends
returns-clause-ends c = ends-on-lists setting journal history (refl, refl) refl refl refl

pub returns-clause-prints : goal.returns-clause-prints
unfolding digits
returns-clause-prints c = refl

pub returns-clause-sums : goal.returns-clause-sums
unfolding digits
returns-clause-sums c = refl

is-closing : (s : Status) (d : Option Duty) → IsRun setting (next_after 7 trace (late_call 5 s d)) → (s ≡ status.Closing) × (d ≡ None)
is-closing s d r = let same : late_call 5 s d ≡ _ = told-entry setting _ 7 refl r in (ap (λ x. x.reply.status) same, ap (λ x. x.reply.made) same)

is-counted : (s : Status) (d : Option Duty) → IsRun setting (next_after 9 trace (late_call 7 s d)) → (s ≡ status.InvalidArg) × (d ≡ None)
is-counted s d r = let same : late_call 7 s d ≡ _ = told-entry setting _ 9 refl r in (ap (λ x. x.reply.status) same, ap (λ x. x.reply.made) same)

first-torn : (c : Cause) (n : ℕ) → IsRun setting (next_after 14 trace (item_begins c n)) → (c ≡ cause.Torn) × (n ≡ 1)
first-torn c n r =
    let same : item_begins c n ≡ _ = told-entry setting _ 14 refl r in (ap (λ x. told_cause c x.reply.out) same, ap (λ x. told_item n x.reply.out) same)

no-close : IsRun setting (next_after 20 trace function_closes) → ⊥
no-close r = let w : what.Host host.CloseTsfn ≡ what.Host host.FinishTsfn = ap (λ x. x.what) (told-entry setting _ 20 refl r) in cc

not-done : (e : LoopEnd) → IsRun setting (next_after 21 trace (loop_ended e)) → ⊥
not-done e r = let w : what.Host host.LoopEnd ≡ what.Host host.Begin = ap (λ x. x.what) (told-entry setting _ 21 refl r) in cc

pub returns-clause-strict : goal.returns-clause-strict
returns-clause-strict c = record { closing = is-closing; counted = is-counted; torn = first-torn; close = no-close; done = not-done }
