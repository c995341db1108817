use Rattle.std.proofs.Common.{refl, ◌≡◌, Bool, true, ap, set}
use Rattle.std.specs.Fmt.{digits}
use Rattle.napi_types.specs.declared.entry.Out.TheVariants as out
use Rattle.napi_types.specs.declared.status.Kind.{Kind}
use Rattle.napi_types.specs.declared.status.Kind.TheVariants as kind
use Rattle.napi_types.specs.declared.status.Status.{Status}
use Rattle.napi_types.specs.declared.status.Status.TheVariants as status
use Rattle.napi_types.specs.runs.Setting.{opening_of}
use Rattle.machine_laws.specs.LegalRuns.{told_asks, IsRun}
use Rattle.machine_laws.specs.PendingException.{setting, trace, set_refused, pending_told, same_told, none_kind, uncaught_setting, uncaught_trace, end_told}
use Rattle.machine_laws.proofs.RowLists.{ends-of}
use Rattle.machine_laws.proofs.AskLists.{told-run}
use Rattle.machine_laws.proofs.Misses.{entry_in_place, told_kind, told_flag}
use Rattle.machine_laws.proofs.Computing.{run-of}
use Rattle.machine_laws.proofs.function_runs.pending_exception_runs.Goals as goal

pub returns-clause-ends : goal.returns-clause-ends
returns-clause-ends c = ends-of setting (told_asks setting trace) trace (refl, refl) refl refl

pub returns-clause-prints : goal.returns-clause-prints
unfolding digits
returns-clause-prints c = refl

no-other-status : (s : Status) → IsRun setting (set trace 4 (set_refused s)) → s ≡ status.PendingException
no-other-status s r = ap (λ xs. (entry_in_place 4 xs).reply.status) (told-run setting (set trace 4 (set_refused s)) refl r)

still-pending : (b : Bool) → IsRun setting (set trace 5 (pending_told b)) → b ≡ true
still-pending b r = ap (λ xs. told_flag b (entry_in_place 5 xs).reply.out) (told-run setting (set trace 5 (pending_told b)) refl r)

same-value : (b : Bool) → IsRun setting (set trace 9 (same_told b)) → b ≡ true
same-value b r = ap (λ xs. told_flag b (entry_in_place 9 xs).reply.out) (told-run setting (set trace 9 (same_told b)) refl r)

no-other-kind : (k : Kind) → IsRun setting (set trace 11 (none_kind k)) → k ≡ kind.Undefined
no-other-kind k r = ap (λ xs. told_kind k (entry_in_place 11 xs).reply.out) (told-run setting (set trace 11 (none_kind k)) refl r)

pub returns-clause-strict : goal.returns-clause-strict
returns-clause-strict c = record { guarded = no-other-status; pending = still-pending; taken = same-value; none = no-other-kind }

not-silent : IsRun uncaught_setting (set uncaught_trace 4 (end_told out.Nothing)) → ⊥
not-silent r =
    let told : out.Nothing ≡ out.Uncaught = ap (λ xs. (entry_in_place 4 xs).reply.out) (told-run uncaught_setting (set uncaught_trace 4 (end_told out.Nothing)) refl r) in
    cc

pub returns-clause-uncaught : goal.returns-clause-uncaught
returns-clause-uncaught c = record { ends = record { run = record { steps = run-of (opening_of uncaught_setting) (told_asks uncaught_setting uncaught_trace) uncaught_trace (refl, refl); asked = refl }; gone = refl }; told = not-silent }
