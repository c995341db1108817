-- Buffers and views as their callers see them.
use Rattle.std.specs.Prelude.{◌≡◌, ℕ}
use Rattle.napi_types.specs.plain.Lists.{as_map}
use Rattle.napi_types.specs.parts.Buffers.{Buffers}

-- the buffers and the views, and for how many more of each there is the memory
pub record KeptBuffers : Type 0 where
  pub buffers : Buffers
  pub spare : ℕ

-- a value is one buffer at most, and one view
pub record AreBufferMaps (b : Buffers) : Type 0 where
  pub buffers : as_map (λ r. r.value) b.buffers ≡ b.buffers
  pub views : as_map (λ w. w.value) b.views ≡ b.views
