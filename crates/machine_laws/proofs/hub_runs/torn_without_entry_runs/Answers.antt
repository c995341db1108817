use Rattle.std.proofs.Common.{◌≡◌, ℕ, ap, refl}
use Rattle.std.specs.Fmt.{digits}
use Rattle.napi_types.specs.declared.entry.HostStep.TheVariants as host
use Rattle.napi_types.specs.declared.entry.What.TheVariants as what
use Rattle.napi_types.specs.declared.entry.Target.{Target}
use Rattle.napi_types.specs.declared.status.Status.{Status}
use Rattle.machine_laws.specs.TornWithoutEntry.{setting, target, created, collected, version_told, history, journal, trace}
use Rattle.machine_laws.specs.HubWords.{next_after}
use Rattle.machine_laws.specs.LegalRuns.{IsRun}
use Rattle.machine_laws.proofs.Misses.{told_number, given_target, told-entry}
use Rattle.machine_laws.proofs.RowLists.{ends-on-lists}
use Rattle.machine_laws.proofs.hub_runs.torn_without_entry_runs.Goals as goal

pub returns-clause-ends : goal.returns-clause-ends
returns-clause-ends c = ends-on-lists setting journal history (refl, refl) refl refl refl

pub returns-clause-prints : goal.returns-clause-prints
unfolding digits
returns-clause-prints c = refl

is-kept : (n : ℕ) → IsRun setting (next_after 6 trace (collected 4 n)) → n ≡ 0
is-kept n r = ap (λ x. told_number n x.reply.out) (told-entry setting _ 6 refl r)

is-freed : (n : ℕ) → IsRun setting (next_after 18 trace (collected 0 n)) → n ≡ 1
is-freed n r = ap (λ x. told_number n x.reply.out) (told-entry setting _ 18 refl r)

is-silent : (s : Status) (n : ℕ) → IsRun setting (next_after 13 trace (version_told s n)) → ⊥
is-silent s o r = let w : (version_told s o).what ≡ what.Host host.End = ap (λ x. x.what) (told-entry setting _ 13 refl r) in cc

no-other-target : (t : Target) → IsRun setting (next_after 4 trace (created t)) → t ≡ target
no-other-target t r = ap (λ x. given_target t x.given) (told-entry setting _ 4 refl r)

pub returns-clause-strict : goal.returns-clause-strict
returns-clause-strict c = record { kept = is-kept; freed = is-freed; silent = is-silent; target = no-other-target }
