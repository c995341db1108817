use Rattle.std.proofs.Common.{◌≡◌, ℕ, [], ◌∷◌, take, ap, refl, Option, None}
use Rattle.std.specs.Fmt.{digits}
use Rattle.napi_types.specs.declared.entry.Cause.{Cause}
use Rattle.napi_types.specs.declared.entry.Cause.TheVariants as cause
use Rattle.napi_types.specs.declared.entry.Duty.{Duty}
use Rattle.napi_types.specs.declared.entry.HostStep.TheVariants as host
use Rattle.napi_types.specs.declared.entry.LoopEnd.{LoopEnd}
use Rattle.napi_types.specs.declared.entry.LoopEnd.TheVariants as loop_end
use Rattle.napi_types.specs.declared.entry.What.TheVariants as what
use Rattle.napi_types.specs.declared.status.Status.{Status}
use Rattle.napi_types.specs.declared.status.Status.TheVariants as status
use Rattle.machine_laws.specs.ExitInTheMiddle.{setting, thread_call, history, journal, trace, unfinished}
use Rattle.machine_laws.specs.HubWords.{next_after, item_begins, drains}
use Rattle.machine_laws.specs.RunWords.{loop_ended, left_out}
use Rattle.machine_laws.specs.LegalRuns.{IsRun}
use Rattle.napi_types.specs.declared.call.Mode.TheVariants as mode
use Rattle.napi_types.specs.declared.op.Op.TheVariants as op
use Rattle.machine_laws.proofs.KeptScripts.{one-keeps}
use Rattle.machine_laws.proofs.Misses.{told_reason, told_item, told_cause, told-entry, told-may}
use Rattle.machine_laws.proofs.RowLists.{ends-on-lists}
use Rattle.machine_laws.proofs.hub_runs.exit_in_the_middle_runs.Goals as goal

pub returns-clause-ends : goal.returns-clause-ends
returns-clause-ends c = ends-on-lists setting journal history (refl, refl) refl refl refl

pub returns-clause-actors : goal.returns-clause-actors
returns-clause-actors c = record { threads = one-keeps setting (op.ThreadCall 1 8 mode.Blocking ∷ []) history refl refl refl; worker = refl }

pub returns-clause-prints : goal.returns-clause-prints
unfolding digits
returns-clause-prints c = refl

no-other-reason : (e : LoopEnd) → IsRun setting (next_after 14 trace (loop_ended e)) → e ≡ loop_end.Exit
no-other-reason e r = ap (λ x. told_reason e x.reply.out) (told-entry setting _ 14 refl r)

no-drain : (n : ℕ) → IsRun setting (next_after 17 trace (drains n)) → ⊥
no-drain n r = let w : what.Host host.Drain ≡ what.Host host.Begin = ap (λ x. x.what) (told-entry setting _ 17 refl r) in cc

is-closing : (s : Status) (d : Option Duty) → IsRun setting (next_after 20 trace (thread_call s d)) → (s ≡ status.Closing) × (d ≡ None)
is-closing s d r = let same : thread_call s d ≡ _ = told-entry setting _ 20 refl r in (ap (λ x. x.reply.status) same, ap (λ x. x.reply.made) same)

waits : (s : Status) (d : Option Duty) → IsRun setting (next_after 19 trace (thread_call s d)) → ⊥
waits s d r = let z : _ = told-may setting _ refl r in cc

is-torn : (c : Cause) (n : ℕ) → IsRun setting (next_after 26 trace (item_begins c n)) → (c ≡ cause.Torn) × (n ≡ 1)
is-torn c n r =
    let same : item_begins c n ≡ _ = told-entry setting _ 26 refl r in (ap (λ x. told_cause c x.reply.out) same, ap (λ x. told_item n x.reply.out) same)

not-finals : IsRun setting (take 29 (left_out 23 trace)) → ⊥
not-finals r = let z : _ = told-may setting _ refl r in cc

not-while-running : IsRun setting unfinished → ⊥
not-while-running r = let z : _ = told-may setting _ refl r in cc

pub returns-clause-strict : goal.returns-clause-strict
returns-clause-strict c = record {
  reason = no-other-reason;
  drain = no-drain;
  closing = is-closing;
  waits = waits;
  torn = is-torn;
  finals = not-finals;
  runs = not-while-running;
}
