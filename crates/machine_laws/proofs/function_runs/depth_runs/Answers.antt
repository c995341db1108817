use Rattle.std.proofs.Common.{refl, ◌≡◌, ap, set, Bool, true, false}
use Rattle.napi_types.specs.declared.entry.Out.TheVariants as out
use Rattle.napi_types.specs.declared.entry.What.{What}
use Rattle.napi_types.specs.declared.entry.What.TheVariants as what
use Rattle.napi_types.specs.declared.status.Status.{Status}
use Rattle.napi_types.specs.declared.status.Status.TheVariants as status
use Rattle.machine_laws.specs.LegalRuns.{told_asks, IsRun}
use Rattle.machine_laws.specs.Depth.{setting, trace, too_deep, passes}
use Rattle.machine_laws.specs.RunWords.{call_begins, frame_ends}
use Rattle.machine_laws.proofs.RowLists.{ends-of}
use Rattle.machine_laws.proofs.AskLists.{told-run}
use Rattle.machine_laws.proofs.Misses.{entry_in_place}
use Rattle.machine_laws.proofs.function_runs.depth_runs.Goals as goal

pub returns-clause-ends : goal.returns-clause-ends
returns-clause-ends c = ends-of setting (told_asks setting trace) trace (refl, refl) refl refl

abbrev is_call : What → Bool
is_call (what.Call c) = true
is_call (what.Host h) = false

not-entered : IsRun setting (set trace 66 (call_begins 1)) → ⊥
not-entered r =
    let told : false ≡ true = ap (λ xs. is_call (entry_in_place 66 xs).what) (told-run setting (set trace 66 (call_begins 1)) refl r) in
    cc

refused-so : (s : Status) → IsRun setting (set trace 66 (too_deep s)) → s ≡ status.PendingException
refused-so s r = ap (λ xs. (entry_in_place 66 xs).reply.status) (told-run setting (set trace 66 (too_deep s)) refl r)

first-passes : (s : Status) → IsRun setting (set trace 67 (passes s)) → s ≡ status.PendingException
first-passes s r = ap (λ xs. (entry_in_place 67 xs).reply.status) (told-run setting (set trace 67 (passes s)) refl r)

last-passes : (s : Status) → IsRun setting (set trace 129 (passes s)) → s ≡ status.PendingException
last-passes s r = ap (λ xs. (entry_in_place 129 xs).reply.status) (told-run setting (set trace 129 (passes s)) refl r)

not-silent : IsRun setting (set trace 130 (frame_ends out.Nothing)) → ⊥
not-silent r =
    let told : out.Nothing ≡ out.Uncaught = ap (λ xs. (entry_in_place 130 xs).reply.out) (told-run setting (set trace 130 (frame_ends out.Nothing)) refl r) in
    cc

pub returns-clause-strict : goal.returns-clause-strict
returns-clause-strict c = record { entered = not-entered; refused = refused-so; first = first-passes; last = last-passes; uncaught = not-silent }
