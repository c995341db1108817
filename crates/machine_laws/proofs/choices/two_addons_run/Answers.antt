use Rattle.std.proofs.Common.{refl, ◌≡◌, ℕ, ◌∷◌, ◌++◌, ap, set, Option, Some, None}
use Rattle.napi_types.specs.declared.entry.Cause.TheVariants as cause
use Rattle.napi_types.specs.declared.entry.Duty.{Duty}
use Rattle.napi_types.specs.declared.entry.HostStep.TheVariants as host
use Rattle.napi_types.specs.declared.entry.Out.{Out}
use Rattle.napi_types.specs.declared.entry.Out.TheVariants as out
use Rattle.napi_types.specs.declared.entry.What.TheVariants as what
use Rattle.napi_types.specs.plain.Entries.{host_entry}
use Rattle.machine_laws.specs.LegalRuns.{told_asks, IsRun}
use Rattle.machine_laws.specs.TwoAddons.{setting, trace, later}
use Rattle.machine_laws.specs.RunWords.{init_begins, opening_entries, frame_end}
use Rattle.machine_laws.proofs.RowLists.{ends-of}
use Rattle.machine_laws.proofs.AskLists.{told-run}
use Rattle.machine_laws.proofs.Misses.{entry_in_place}
use Rattle.machine_laws.proofs.choices.two_addons_run.Goals as goal

pub returns-clause-ends : goal.returns-clause-ends
returns-clause-ends c = ends-of setting (told_asks setting trace) trace (refl, refl) refl refl

abbrev told_addon : Out → ℕ
told_addon (out.Begin c addon entry d) = addon
told_addon _ = 0

abbrev told_duty : Out → Option Duty
told_duty (out.Begin c addon entry d) = d
told_duty _ = None

no-early-go : IsRun setting (opening_entries ++ frame_end ∷ later) → ⊥
no-early-go r =
    let told : what.Host host.Go ≡ what.Host host.Begin = ap (λ xs. (entry_in_place 3 xs).what) (told-run setting (opening_entries ++ frame_end ∷ later) refl r) in
    cc

no-other-addon : (addon : ℕ) → IsRun setting (set trace 3 (init_begins addon)) → addon ≡ 1
no-other-addon addon r = ap (λ xs. told_addon (entry_in_place 3 xs).reply.out) (told-run setting (set trace 3 (init_begins addon)) refl r)

no-duty : (d : Duty) → IsRun setting (set trace 1 (host_entry host.Begin (out.Begin cause.Init 0 0 (Some d)))) → ⊥
no-duty d r =
    let told : Some d ≡ None =
    ap (λ xs. told_duty (entry_in_place 1 xs).reply.out) (told-run setting (set trace 1 (host_entry host.Begin (out.Begin cause.Init 0 0 (Some d)))) refl r) in
    cc

pub returns-clause-strict : goal.returns-clause-strict
returns-clause-strict c = record { go = no-early-go; second = no-other-addon; duty = no-duty }
