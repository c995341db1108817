use Rattle.std.proofs.Common.{◌≡◌, ◌++◌, ap, refl, slice_index_or}
use Rattle.std.specs.Fmt.{digits}
use Rattle.napi_types.specs.plain.Weave.{Journal, History}
use Rattle.napi_types.specs.runs.Parting.{IsParted}
use Rattle.napi_types.specs.runs.Setting.{opening_of}
use Rattle.machine_laws.specs.FrameCutInJournal.{setting_within, setting, version_told, history_prefix, history_end, history, journal, trace, journal_with_end}
use Rattle.machine_laws.specs.HubWords.{next_after}
use Rattle.machine_laws.specs.LegalRuns.{IsRun, told_asks}
use Rattle.machine_laws.proofs.Misses.{told-may}
use Rattle.machine_laws.proofs.RowLists.{ends-on-lists, runs-as-told}
use Rattle.machine_laws.proofs.room_runs.frame_cut_in_journal_runs.Goals as goal

pub returns-clause-ends : goal.returns-clause-ends
returns-clause-ends c = ends-on-lists setting journal history (refl, refl) refl refl refl

pub returns-clause-prints : goal.returns-clause-prints
unfolding digits
returns-clause-prints c = refl

is-full : IsRun setting (next_after 9 trace (version_told 2)) → ⊥
is-full r = let z : _ = told-may setting _ refl r in cc

has-room : IsRun (setting_within 7) (next_after 9 trace (version_told 2))
has-room = runs-as-told (setting_within 7) (next_after 9 trace (version_told 2)) (refl, refl) refl

not-in-journal : IsParted (opening_of setting) (told_asks setting trace) journal_with_end (history_prefix ++ history_end) → ⊥
not-in-journal p = let z : History ≡ Journal = ap (λ l. slice_index_or l 9 Journal) p in cc

pub returns-clause-strict : goal.returns-clause-strict
returns-clause-strict c = record { full = is-full; room = has-room; same = refl; end = not-in-journal }
