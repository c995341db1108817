use Rattle.std.proofs.Common.{refl, ◌≡◌, ap, set}
use Rattle.std.specs.Fmt.{digits}
use Rattle.napi_types.specs.declared.entry.Out.TheVariants as out
use Rattle.napi_types.specs.declared.status.Kind.{Kind}
use Rattle.napi_types.specs.declared.status.Status.{Status}
use Rattle.napi_types.specs.declared.status.Status.TheVariants as status
use Rattle.machine_laws.specs.HandleAfterScope.{setting, trace, typeof_first}
use Rattle.machine_laws.specs.LegalRuns.{IsRun}
use Rattle.machine_laws.proofs.AskLists.{told-run}
use Rattle.machine_laws.proofs.Misses.{entry_in_place}
use Rattle.machine_laws.proofs.scope_runs.handle_after_scope_runs.Goals as goal

pub returns-clause-prints : goal.returns-clause-prints
unfolding digits
returns-clause-prints c = refl

no-other-status : (s : Status) → IsRun setting (set trace 5 (typeof_first s out.Nothing)) → s ≡ status.InvalidArg
no-other-status s r = ap (λ xs. (entry_in_place 5 xs).reply.status) (told-run setting (set trace 5 (typeof_first s out.Nothing)) refl r)

no-kind : (s : Status) (k : Kind) → IsRun setting (set trace 5 (typeof_first s (out.Kind k))) → ⊥
no-kind s k r =
    let told : out.Kind k ≡ out.Nothing = ap (λ xs. (entry_in_place 5 xs).reply.out) (told-run setting (set trace 5 (typeof_first s (out.Kind k))) refl r) in
    cc

pub returns-clause-strict : goal.returns-clause-strict
returns-clause-strict c = record { status = no-other-status; kind = no-kind }
