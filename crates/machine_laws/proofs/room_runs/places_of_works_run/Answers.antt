use Rattle.std.proofs.Common.{[], ℕ, refl}
use Rattle.machine_laws.specs.PlacesOfWorks.{setting_within, queued, second_created, cut_full, setting, history, journal, trace, cancelling_within, queued_twice}
use Rattle.machine_laws.specs.HubWords.{next_after}
use Rattle.machine_laws.specs.LegalRuns.{IsRun}
use Rattle.machine_laws.proofs.KeptScripts.{one-keeps}
use Rattle.machine_laws.proofs.Misses.{told-may}
use Rattle.machine_laws.proofs.RowLists.{ends-on-lists, runs-as-told}
use Rattle.machine_laws.proofs.room_runs.places_of_works_run.Goals as goal

pub returns-clause-ends : goal.returns-clause-ends
returns-clause-ends c = ends-on-lists setting journal history (refl, refl) refl refl refl

pub returns-clause-actors : goal.returns-clause-actors
returns-clause-actors c = record { threads = one-keeps setting [] history refl refl refl; worker = refl }

not-second : (n : ℕ) → IsRun setting (next_after 4 trace (second_created 2 n)) → ⊥
not-second n r = let z : _ = told-may setting _ refl r in cc

has-room : IsRun (setting_within 14) (next_after 4 trace (second_created 2 2))
has-room = runs-as-told (setting_within 14) (next_after 4 trace (second_created 2 2)) (refl, refl) refl

not-queued : IsRun (setting_within 12) (next_after 3 trace (queued 1)) → ⊥
not-queued r = let z : _ = told-may (setting_within 12) _ refl r in cc

is-cut : IsRun (setting_within 12) (next_after 3 trace cut_full)
is-cut = runs-as-told (setting_within 12) (next_after 3 trace cut_full) (refl, refl) refl

queues-again : IsRun (cancelling_within 16) queued_twice
queues-again = runs-as-told (cancelling_within 16) queued_twice (refl, refl) refl

not-again : IsRun (cancelling_within 15) queued_twice → ⊥
not-again r = let z : _ = told-may (cancelling_within 15) _ refl r in cc

pub returns-clause-strict : goal.returns-clause-strict
returns-clause-strict c = record { second = not-second; room = has-room; queued = not-queued; cut = is-cut; cancelled = queues-again; kept = not-again }
