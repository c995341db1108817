use Rattle.std.proofs.Common.{refl, ◌≡◌, [], ◌∷◌, ap}
use Rattle.std.specs.Fmt.{digits}
use Rattle.napi_types.specs.declared.call.Call.TheVariants as call
use Rattle.napi_types.specs.declared.entry.HostStep.TheVariants as host
use Rattle.napi_types.specs.declared.entry.What.TheVariants as what
use Rattle.machine_laws.specs.LegalRuns.{told_asks, IsRun}
use Rattle.machine_laws.specs.ExitInInitAndInAFinalizer.{setting, trace, trace_with, exits, first_calls, second_frame, finalizer_frame}
use Rattle.machine_laws.proofs.RowLists.{ends-of}
use Rattle.machine_laws.proofs.AskLists.{told-run}
use Rattle.machine_laws.proofs.Misses.{entry_in_place}
use Rattle.machine_laws.proofs.exits.exit_in_init_and_in_a_finalizer_runs.Goals as goal

pub returns-clause-ends : goal.returns-clause-ends
returns-clause-ends c = ends-of setting (told_asks setting trace) trace (refl, refl) refl refl

pub returns-clause-prints : goal.returns-clause-prints
unfolding digits
returns-clause-prints c = refl

goes-on : IsRun setting (trace_with (exits ∷ []) second_frame finalizer_frame) → ⊥
goes-on run =
    let w : what.Host host.End ≡ what.Call call.CreateObject =
    ap (λ xs. (entry_in_place 3 xs).what) (told-run setting (trace_with (exits ∷ []) second_frame finalizer_frame) refl run) in
    cc

no-early-go : IsRun setting (trace_with first_calls [] finalizer_frame) → ⊥
no-early-go run =
    let w : what.Host host.Go ≡ what.Host host.Begin =
    ap (λ xs. (entry_in_place 5 xs).what) (told-run setting (trace_with first_calls [] finalizer_frame) refl run) in
    cc

not-gone : IsRun setting (trace_with first_calls second_frame []) → ⊥
not-gone run =
    let w : what.Host host.Gone ≡ what.Host host.Begin =
    ap (λ xs. (entry_in_place 16 xs).what) (told-run setting (trace_with first_calls second_frame []) refl run) in
    cc

pub returns-clause-strict : goal.returns-clause-strict
returns-clause-strict c = record { on = goes-on; go = no-early-go; gone = not-gone }
