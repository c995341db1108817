-- The environment and the hub together.
use Rattle.std.specs.Prelude.{ℕ}
use Rattle.napi_types.specs.declared.entry.Limits.{Limits}
use Rattle.napi_types.specs.environment.Environment.{Environment, OpenedWith, new_environment}
use Rattle.napi_types.specs.hub.Hub.{Hub, new_hub}

-- both states, how many entries the journal and the history have, and their limits
pub record Machine : Type 0 where
  pub env : Environment
  pub hub : Hub
  pub journal_length : ℕ
  pub history_length : ℕ
  pub limits : Limits

-- the opening state of a script whose environment is opened with that, and which has so many threads and workers
abbrev pub opening : OpenedWith → ℕ → ℕ → Limits → Machine
opening given threads workers limits = record {
  env = new_environment given;
  hub = new_hub threads workers;
  journal_length = 0;
  history_length = 0;
  limits = limits;
}
