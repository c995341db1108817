-- What asynchronous works compute.
use Rattle.std.specs.Prelude.{ℕ, zero, suc, ◌+◌, ◌*◌, ◌/◌, ◌%◌, ◌^◌}
use Rattle.napi_types.specs.declared.call.JobSpec.{JobSpec}
use Rattle.napi_types.specs.declared.call.JobSpec.TheVariants as job

-- a number, mixed so many times: each time it is multiplied and added to, and the last 64 bits are kept
abbrev pub mixed : ℕ → ℕ → ℕ
mixed x zero = x
mixed x (suc k) = mixed ((x * 6364136223846793005 + 1442695040888963407) % (2 ^ 64)) k

-- the value of a job: the last 64 bits of the sum of the numbers up to n, or a number that is mixed
abbrev pub job_value : JobSpec → ℕ
job_value (job.Sum n) = (n * (n + 1) / 2) % (2 ^ 64)
job_value (job.Mix x k) = mixed x k
