use Rattle.std.proofs.Common.{refl, ◌≡◌, ap, set}
use Rattle.std.specs.Fmt.{digits}
use Rattle.napi_types.specs.declared.status.Status.{Status}
use Rattle.napi_types.specs.declared.status.Status.TheVariants as status
use Rattle.machine_laws.specs.LegalRuns.{told_asks, IsRun}
use Rattle.machine_laws.specs.OrderOfScopes.{setting, trace, too_early, too_late}
use Rattle.machine_laws.proofs.RowLists.{ends-of}
use Rattle.machine_laws.proofs.AskLists.{told-run}
use Rattle.machine_laws.proofs.Misses.{entry_in_place}
use Rattle.machine_laws.proofs.scope_runs.order_of_scopes_runs.Goals as goal

pub returns-clause-ends : goal.returns-clause-ends
returns-clause-ends c = ends-of setting (told_asks setting trace) trace (refl, refl) refl refl

pub returns-clause-prints : goal.returns-clause-prints
unfolding digits
returns-clause-prints c = refl

no-other-early : (s : Status) → IsRun setting (set trace 4 (too_early s)) → s ≡ status.HandleScopeMismatch
no-other-early s r = ap (λ xs. (entry_in_place 4 xs).reply.status) (told-run setting (set trace 4 (too_early s)) refl r)

no-other-late : (s : Status) → IsRun setting (set trace 7 (too_late s)) → s ≡ status.HandleScopeMismatch
no-other-late s r = ap (λ xs. (entry_in_place 7 xs).reply.status) (told-run setting (set trace 7 (too_late s)) refl r)

pub returns-clause-strict : goal.returns-clause-strict
returns-clause-strict c = record { early = no-other-early; late = no-other-late }
