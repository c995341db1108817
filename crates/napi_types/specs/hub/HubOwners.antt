-- Each work and each thread-safe function belongs to an addon of the script.
use Rattle.std.specs.Prelude.{◌<◌, ℕ}
use Rattle.std.specs.List.{All}
use Rattle.napi_types.specs.parts.Functions.{FunctionState}
use Rattle.napi_types.specs.hub.Hub.{Hub}

-- a thread-safe function belongs to one of these addons, and so does the entry where its items are delivered
pub record IsFunctionOf (addons : ℕ) (f : FunctionState) : Type 0 where
  pub creator : f.addon < addons
  pub target : f.target.addon < addons

-- so it is of the hub's works and functions
pub record IsOwnedHub (addons : ℕ) (h : Hub) : Type 0 where
  pub works : All (λ w. w.addon < addons) h.pool.works
  pub functions : All (λ f. IsFunctionOf addons f) h.functions
