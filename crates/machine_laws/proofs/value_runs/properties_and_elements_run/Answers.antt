use Rattle.std.proofs.Common.{refl, ◌≡◌, ℕ, ap, set}
use Rattle.std.specs.Fmt.{digits}
use Rattle.napi_types.specs.declared.status.Kind.{Kind}
use Rattle.napi_types.specs.declared.status.Kind.TheVariants as kind
use Rattle.napi_types.specs.declared.status.Status.{Status}
use Rattle.napi_types.specs.declared.status.Status.TheVariants as status
use Rattle.machine_laws.specs.LegalRuns.{told_asks, IsRun}
use Rattle.machine_laws.specs.PropertiesAndElements.{setting, trace, first_name, absent_kind, element_refused, boolean_refused}
use Rattle.machine_laws.proofs.RowLists.{ends-of}
use Rattle.machine_laws.proofs.AskLists.{told-run}
use Rattle.machine_laws.proofs.Misses.{entry_in_place, told_kind, told_text}
use Rattle.machine_laws.proofs.value_runs.properties_and_elements_run.Goals as goal

pub returns-clause-ends : goal.returns-clause-ends
returns-clause-ends c = ends-of setting (told_asks setting trace) trace (refl, refl) refl refl

pub returns-clause-prints : goal.returns-clause-prints
unfolding digits
returns-clause-prints c = refl

no-other-name : (t : ℕ) → IsRun setting (set trace 10 (first_name t)) → t ≡ 3
no-other-name t r = ap (λ xs. told_text t (entry_in_place 10 xs).reply.out) (told-run setting (set trace 10 (first_name t)) refl r)

no-other-kind : (k : Kind) → IsRun setting (set trace 13 (absent_kind k)) → k ≡ kind.Undefined
no-other-kind k r = ap (λ xs. told_kind k (entry_in_place 13 xs).reply.out) (told-run setting (set trace 13 (absent_kind k)) refl r)

no-other-index : (s : Status) → IsRun setting (set trace 14 (element_refused s)) → s ≡ status.InvalidArg
no-other-index s r = ap (λ xs. (entry_in_place 14 xs).reply.status) (told-run setting (set trace 14 (element_refused s)) refl r)

no-other-status : (s : Status) → IsRun setting (set trace 15 (boolean_refused s)) → s ≡ status.BooleanExpected
no-other-status s r = ap (λ xs. (entry_in_place 15 xs).reply.status) (told-run setting (set trace 15 (boolean_refused s)) refl r)

pub returns-clause-strict : goal.returns-clause-strict
returns-clause-strict c = record { first = no-other-name; absent = no-other-kind; index = no-other-index; other = no-other-status }
