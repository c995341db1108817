use Rattle.std.proofs.Common.{◌≡◌, ℕ, ap, refl}
use Rattle.std.specs.Fmt.{digits}
use Rattle.napi_types.specs.declared.entry.Cause.TheVariants as cause
use Rattle.napi_types.specs.declared.entry.HostStep.TheVariants as host
use Rattle.napi_types.specs.declared.entry.LoopEnd.{LoopEnd}
use Rattle.napi_types.specs.declared.entry.LoopEnd.TheVariants as loop_end
use Rattle.machine_laws.specs.TwoFunctions.{setting, operations, first_item, function_told, history, journal, trace}
use Rattle.machine_laws.specs.HubWords.{next_after, begins}
use Rattle.machine_laws.specs.RunWords.{loop_ended}
use Rattle.machine_laws.specs.LegalRuns.{IsRun}
use Rattle.machine_laws.proofs.Misses.{told_reason, told_function, told-entry, told-may}
use Rattle.machine_laws.proofs.KeptScripts.{one-keeps}
use Rattle.machine_laws.proofs.RowLists.{ends-on-lists}
use Rattle.machine_laws.proofs.hub_runs.two_functions_run.Goals as goal

pub returns-clause-ends : goal.returns-clause-ends
returns-clause-ends c = ends-on-lists setting journal history (refl, refl) refl refl refl

pub returns-clause-threads : goal.returns-clause-threads
returns-clause-threads c = one-keeps setting operations history refl refl refl

pub returns-clause-prints : goal.returns-clause-prints
unfolding digits
returns-clause-prints c = refl

lowest-first : (f : ℕ) → IsRun setting (next_after 12 trace (begins cause.Item 1 (first_item f))) → f ≡ 1
lowest-first f r = ap (λ x. told_function f x.reply.out) (told-entry setting _ 12 refl r)

is-held : (f : ℕ) → IsRun setting (next_after 17 trace (function_told host.CloseTsfn f)) → ⊥
is-held f r = let z : _ = told-may setting _ refl r in cc

waits : (e : LoopEnd) → IsRun setting (next_after 17 trace (loop_ended e)) → ⊥
waits e r = let z : _ = told-may setting _ refl r in cc

no-other-reason : (e : LoopEnd) → IsRun setting (next_after 20 trace (loop_ended e)) → e ≡ loop_end.Idle
no-other-reason e r = ap (λ x. told_reason e x.reply.out) (told-entry setting _ 20 refl r)

pub returns-clause-strict : goal.returns-clause-strict
returns-clause-strict c = record { lowest = lowest-first; held = is-held; waits = waits; reason = no-other-reason }
