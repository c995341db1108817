-- Array buffers and their views, as the machine sees them, and what values with a hidden child are for.
use Rattle.std.specs.Prelude.{map}
use Rattle.std.specs.List.{All}
use Rattle.napi_types.specs.declared.view.ViewInfo.{ViewInfo}
use Rattle.napi_types.specs.plain.Lists.{as_map}
use Rattle.napi_types.specs.parts.Buffers.{ArrayBuffer, BufferView, Buffers}
use Rattle.napi_types.specs.parts.Graph.{StoreState, IsLive, number_in}
use Rattle.napi_types.specs.parts.Promises.{Promises}
use Rattle.env_values.specs.SeenValues.{IsViewIn}
use Rattle.env_core.specs.Promising.{PromisesAreLive}

-- a buffer has the creation number of its value, where the crate below has the store's number, and so has a view, and where it lies
abbrev pub seen_buffer : StoreState → ArrayBuffer → ArrayBuffer
seen_buffer store r = record r { value = number_in store r.value }

abbrev pub seen_info : StoreState → ViewInfo → ViewInfo
seen_info store about = record about { buffer = record { 0 = number_in store about.buffer.0 } }

abbrev pub seen_view : StoreState → BufferView → BufferView
seen_view store w = record { value = number_in store w.value; about = seen_info store w.about }

-- all buffers and views
abbrev pub buffers_seen : StoreState → Buffers → Buffers
buffers_seen store b = record {
  buffers = as_map (λ r. r.value) (map (seen_buffer store) b.buffers);
  views = as_map (λ w. w.value) (map (seen_view store) b.views);
}

-- each buffer is a live value, and each view is one whose hidden child is its buffer
pub record BuffersAreLive (store : StoreState) (b : Buffers) : Type 0 where
  pub buffers : All (λ r. IsLive store r.value) b.buffers
  pub views : All (λ w. IsViewIn store w.value w.about.buffer.0) b.views

-- what values with a hidden child are for: these promises, and these buffers and views
pub record LinkedAreLive (store : StoreState) (p : Promises) (b : Buffers) : Type 0 where
  pub promises : PromisesAreLive store p
  pub buffers : BuffersAreLive store b
