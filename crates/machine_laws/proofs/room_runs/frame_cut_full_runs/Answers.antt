use Rattle.std.proofs.Common.{refl}
use Rattle.std.specs.Fmt.{digits}
use Rattle.machine_laws.specs.FrameCutFull.{setting_within, setting, frame_call, cut_full, history, journal, trace}
use Rattle.machine_laws.specs.HubWords.{next_after}
use Rattle.machine_laws.specs.RunWords.{frame_end}
use Rattle.machine_laws.specs.LegalRuns.{IsRun}
use Rattle.machine_laws.proofs.Misses.{told-may}
use Rattle.machine_laws.proofs.RowLists.{ends-on-lists, runs-as-told}
use Rattle.machine_laws.proofs.room_runs.frame_cut_full_runs.Goals as goal

pub returns-clause-ends : goal.returns-clause-ends
returns-clause-ends c = ends-on-lists setting journal history (refl, refl) refl refl refl

pub returns-clause-prints : goal.returns-clause-prints
unfolding digits
returns-clause-prints c = refl

is-full : IsRun setting (next_after 9 trace (frame_call 2 4)) → ⊥
is-full r = let z : _ = told-may setting _ refl r in cc

has-room : IsRun (setting_within 20) (next_after 9 trace (frame_call 2 4))
has-room = runs-as-told (setting_within 20) (next_after 9 trace (frame_call 2 4)) (refl, refl) refl

not-uncut : IsRun setting (next_after 9 trace frame_end) → ⊥
not-uncut r = let z : _ = told-may setting _ refl r in cc

not-early : IsRun setting (next_after 8 trace cut_full) → ⊥
not-early r = let z : _ = told-may setting _ refl r in cc

pub returns-clause-strict : goal.returns-clause-strict
returns-clause-strict c = record { full = is-full; room = has-room; uncut = not-uncut; early = not-early }
