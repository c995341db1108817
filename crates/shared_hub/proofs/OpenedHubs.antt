-- A hub as it opens.
use Rattle.std.proofs.Common.{◌≡◌, ◌≤◌, ℕ, ◌+◌, ◌*◌, false, [], length, min, refl, arith}
use Rattle.napi_types.specs.plain.Room.{first_places, most_entries}
use Rattle.napi_types.specs.hub.Hub.{new_hub, left_of}
use Rattle.napi_types.specs.parts.Pool.{new_pool}
use Rattle.shared_hub.specs.declared.naming.Numbers.{Numbers}
use Rattle.shared_hub.specs.declared.progress.HubStage.TheVariants as code
use Rattle.shared_hub.specs.KeptHubs.{IsKeptHistory, AreFieldsOf}
use Rattle.shared_hub.proofs.ActorsLeft.{all-are-left}

opens-within : (a b bound : ℕ) → 5 + a + b ≤ bound → 0 + (5 + a + b + (4 * 0 + 3 * 0 + 2 * 0) + 0 + 0) ≤ bound
opens-within a b bound fits = omega (arith, fits)

pub opened-history : (n : Numbers) (limit capacity : ℕ) → limit ≡ n.limits.history → limit ≤ most_entries → 5 + n.threads + n.workers ≤ limit → 5 + n.threads + n.workers ≤ capacity
    → min first_places limit ≤ capacity → IsKeptHistory n [] limit capacity
opened-history n limit capacity is small fits memory first = record {
  limit_is = is;
  small = small;
  replays = tt;
  within = opens-within (length (left_of n.threads [])) (length (left_of n.workers [])) limit (rw (all-are-left n.threads, all-are-left n.workers) fits);
  memory = opens-within (length (left_of n.threads [])) (length (left_of n.workers [])) capacity (rw (all-are-left n.threads, all-are-left n.workers) memory);
  first = first;
}

pub opened-fields : (threads workers : ℕ) → AreFieldsOf (new_hub threads workers) (record { pool = new_pool; functions = [] })
    (record { stage = code.Before; threads_left = threads; workers_left = workers; workers = workers; stands = false })
opened-fields threads workers = record {
  pool = refl;
  functions = refl;
  stage = refl;
  standing = refl;
  threads_are = all-are-left threads;
  workers_are = all-are-left workers;
  all_workers = refl;
}
