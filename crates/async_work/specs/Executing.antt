-- Works in the hands of workers.
use Rattle.std.specs.Prelude.{ℕ}
use Rattle.napi_types.specs.declared.call.JobSpec.{JobSpec}

-- one that a worker started: its number, and what its job computes
pub record StartedWork : Type 0 where
  pub number : ℕ
  pub spec : JobSpec

-- one that a worker executed: its number, and the value that its job computed
pub record ExecutedWork : Type 0 where
  pub number : ℕ
  pub value : ℕ
