-- The hub: the works, the thread-safe functions, which threads and workers have ended, and how far the run has come.
use Rattle.std.specs.Prelude.{◌≡◌, ℕ, Bool, true, false, not, List, [], filter, Option, Some, None}
use Rattle.std.specs.List.{range_with_len}
use Rattle.napi_types.specs.declared.duties.DueInfo.{DueInfo}
use Rattle.napi_types.specs.declared.entry.HostStep.{HostStep}
use Rattle.napi_types.specs.declared.entry.HostStep.TheVariants as host
use Rattle.napi_types.specs.declared.entry.Phase.{Phase}
use Rattle.napi_types.specs.declared.entry.Phase.TheVariants as phase
use Rattle.napi_types.specs.plain.Lists.{has_number}
use Rattle.napi_types.specs.parts.Functions.{FunctionState}
use Rattle.napi_types.specs.parts.Pool.{WorkPool, new_pool}

-- which of the hub's great events was the last: none, `go`, `loop_end`, `abandon`, `drain`, `finals`
pub data Stage : Type 0 where
  Before : Stage
  Live : Stage
  LoopEnded : Stage
  HooksAbandoned : Stage
  Drained : Stage
  Final : Stage

-- the state of the hub
pub record Hub : Type 0 where
  -- how many threads and how many workers there are, and which of them have ended
  pub threads : ℕ
  pub workers : ℕ
  pub ended_threads : List ℕ
  pub ended_workers : List ℕ
  pub stage : Stage
  pub pool : WorkPool
  -- the thread-safe functions, that of number 1 first
  pub functions : List FunctionState
  -- what the duty of the hub told whose frame stands, where one does
  pub standing : Option DueInfo

-- a hub as it opens, for so many threads and workers
abbrev pub new_hub : ℕ → ℕ → Hub
new_hub threads workers = record {
  threads = threads;
  workers = workers;
  ended_threads = [];
  ended_workers = [];
  stage = Before;
  pool = new_pool;
  functions = [];
  standing = None;
}

-- the drain has come
abbrev pub is_past_drain : Stage → Bool
is_past_drain Drained = true
is_past_drain Final = true
is_past_drain _ = false

-- `go`, `loop_end`, `drain` and `finals` happen once each and in this order; `abandon` may happen once, between `loop_end` and `drain`
abbrev pub stage_after : Stage → HostStep → Option Stage
stage_after Before host.Go = Some Live
stage_after Live host.LoopEnd = Some LoopEnded
stage_after LoopEnded host.Abandon = Some HooksAbandoned
stage_after LoopEnded host.Drain = Some Drained
stage_after HooksAbandoned host.Drain = Some Drained
stage_after Drained host.Finals = Some Final
stage_after _ _ = None

-- those of so many, counted from 0, that have not ended
abbrev pub left_of : ℕ → List ℕ → List ℕ
left_of count ended = filter (λ n. not (has_number n ended)) (range_with_len 0 count)

-- the threads and the workers that have not ended
abbrev pub threads_left : Hub → List ℕ
threads_left h = left_of h.threads h.ended_threads

abbrev pub workers_left : Hub → List ℕ
workers_left h = left_of h.workers h.ended_workers

-- how many of the great events may still happen
abbrev pub stage_places : Stage → ℕ
stage_places Before = 5
stage_places Live = 4
stage_places LoopEnded = 3
stage_places HooksAbandoned = 2
stage_places Drained = 1
stage_places Final = 0

-- the stages of the phase Hooks
abbrev pub is_of_hooks : Stage → Bool
is_of_hooks LoopEnded = true
is_of_hooks HooksAbandoned = true
is_of_hooks _ = false

-- a stage to which the hub may have come in this phase
abbrev pub IsStageOf : Phase → Stage → Type 0
IsStageOf phase.Init s = s ≡ Before
IsStageOf phase.Live s = s ≡ Live
IsStageOf phase.Hooks s = is_of_hooks s ≡ true
IsStageOf phase.Drain s = s ≡ Drained
IsStageOf phase.Finals s = s ≡ Final
IsStageOf phase.Gone s = s ≡ Final
