-- The load script: an addon with a few works, wraps and hooks, and sixteen threads that make 100,000 calls of its one thread-safe function.
use Rattle.std.specs.Prelude.{ℕ, ◌+◌, List, [], ◌∷◌, ◌++◌, map, flat_map, None, Some}
use Rattle.std.specs.List.{range_with_len}
use Rattle.napi_types.specs.declared.call.JobSpec.TheVariants as job
use Rattle.napi_types.specs.declared.call.Mode.TheVariants as mode
use Rattle.napi_types.specs.declared.call.Release.TheVariants as release
use Rattle.napi_types.specs.declared.lists.AddonPlan.{AddonPlan}
use Rattle.napi_types.specs.declared.op.Op.{Op}
use Rattle.napi_types.specs.declared.op.Op.TheVariants as op
use Rattle.napi_types.specs.declared.script.Script.{Script}
use Rattle.napi_types.specs.plain.Numbers.{lowest_version}
use Rattle.napi_types.specs.plain.Texts.{fixed_texts}

-- THE ADDON
-- a thread-safe function for 16 threads: its items go to entry 1, at most 64 wait, and its finalizer is entry 2
abbrev pub creates_function : Op
creates_function = op.CreateThreadsafeFunction None (Some 1) 64 16 (Some 2) 0 0

-- a work with the payload i, which entry 3 completes
abbrev pub makes_work : ℕ → List Op
makes_work i = op.CreateAsyncWork (job.Sum (1000 + i)) 3 i 1 ∷ op.QueueAsyncWork 1 ∷ []

-- an object with the payload i, which entry 4 finalizes
abbrev pub makes_wrap : ℕ → List Op
makes_wrap i = op.CreateObject 2 ∷ op.Wrap 2 i (Some 4) 0 None ∷ []

-- entry 0 makes the function, 8 works, 10 wraps and 2 hooks of entry 5
abbrev pub first_entry : List Op
first_entry =
    creates_function ∷ flat_map makes_work (range_with_len 0 8) ++ flat_map makes_wrap (range_with_len 0 10) ++
    op.AddEnvCleanupHook 5 0 ∷ op.AddEnvCleanupHook 5 1 ∷ []

-- entry 1 makes an object for each item, and the other entries do nothing
abbrev pub load_plan : AddonPlan
load_plan = record { entries = first_entry ∷ (op.CreateObject 3 ∷ []) ∷ [] ∷ [] ∷ [] ∷ [] ∷ [] }

-- THE THREADS
-- so many calls of the function with rising payloads
abbrev pub calls_from : ℕ → ℕ → List Op
calls_from payload many = map (λ k. op.ThreadCall 1 (payload + k) mode.Blocking) (range_with_len 0 many)

-- thread t makes 6,250 calls, the first with the payload n + t, and releases the function
unfoldable pub thread_operations : ℕ → ℕ → List Op
thread_operations n t = calls_from (n + t) 6250 ++ op.ThreadRelease 1 release.Release ∷ []

-- the first threads, so many
abbrev pub load_threads : ℕ → ℕ → List (List Op)
load_threads n many = map (thread_operations n) (range_with_len 0 many)

-- THE SCRIPT
-- that of the number n: 4 workers, 16 threads and no schedule
abbrev pub load_script : ℕ → Script
load_script n = record {
  version = lowest_version;
  workers = 4;
  addons = load_plan ∷ [];
  threads = load_threads n 16;
  schedule = None;
  texts = fixed_texts;
}
