use Rattle.std.proofs.Common.{◌≡◌, ℕ, [], ◌∷◌, ◌++◌, ap, refl}
use Rattle.napi_types.specs.declared.call.Call.TheVariants as call
use Rattle.napi_types.specs.declared.call.JobSpec.TheVariants as job
use Rattle.machine_laws.specs.TwoWorks.{setting_for, prefix, both}
use Rattle.machine_laws.specs.HubWords.{next_after, work_created, worker_starts, worker_finishes}
use Rattle.machine_laws.specs.LegalRuns.{IsRun}
use Rattle.machine_laws.proofs.Misses.{told_work, told-entry, told-may}
use Rattle.machine_laws.proofs.RowLists.{runs-as-told}
use Rattle.machine_laws.proofs.hub_runs.two_works_start_in_order.Goals as goal

both-run : IsRun (setting_for 2) both
both-run = runs-as-told (setting_for 2) both (refl, refl) refl

first-first : (n : ℕ) → IsRun (setting_for 2) (prefix ++ worker_starts 0 n ∷ []) → n ≡ 1
first-first n r = ap (λ x. told_work n x.reply.out) (told-entry (setting_for 2) _ 6 refl r)

not-twice : IsRun (setting_for 1) (prefix ++ worker_starts 0 1 ∷ worker_starts 0 2 ∷ []) → ⊥
not-twice r = let z : _ = told-may (setting_for 1) _ refl r in cc

not-other : (n : ℕ) → IsRun (setting_for 2) (prefix ++ worker_starts 0 1 ∷ worker_finishes 1 n ∷ []) → ⊥
not-other n r = let z : _ = told-may (setting_for 2) _ refl r in cc

not-issued : IsRun (setting_for 2) (next_after 4 prefix (work_created 2 (call.CreateAsyncWork (job.Mix 1 1) 1 0) 1)) → ⊥
not-issued r = let z : _ = told-may (setting_for 2) _ refl r in cc

pub returns : goal.returns
returns c = record { both = both-run; first = first-first; twice = not-twice; other = not-other; number = not-issued }
