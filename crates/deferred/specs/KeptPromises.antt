-- Promises and deferreds as their callers see them.
use Rattle.std.specs.Prelude.{◌≡◌, ℕ}
use Rattle.napi_types.specs.plain.Lists.{as_map}
use Rattle.napi_types.specs.parts.Promises.{Promises}

-- the promises, and for how many promises more there is the memory
pub record KeptPromises : Type 0 where
  pub promises : Promises
  pub spare : ℕ

-- a value is one promise at most, and a deferred of one promise at most
pub record AreMaps (p : Promises) : Type 0 where
  pub promises : as_map (λ r. r.value) p.promises ≡ p.promises
  pub deferreds : as_map (λ d. d.number) p.deferreds ≡ p.deferreds
