-- The instance data of addons.
use Rattle.std.specs.Prelude.{ℕ, List, set, slice_index_or, Option, Some, None, option_map}
use Rattle.std.specs.Option.{unwrap_or, option_and_then}

-- what an addon keeps for itself in the environment: the native data that `napi_set_instance_data` was given, and the ticket of its finalizer, where it has one
pub record InstanceData : Type 0 where
  pub payload : ℕ
  pub ticket : Option ℕ

-- that of each addon of the script, in their order
abbrev pub Instances : Type 0
Instances = List (Option InstanceData)

-- that of an addon, where it was set
abbrev pub instance_of : Instances → ℕ → Option InstanceData
instance_of instances addon = slice_index_or instances addon None

-- what `napi_get_instance_data` gives: 0 where none was set
abbrev pub instance_number : Instances → ℕ → ℕ
instance_number instances addon = unwrap_or (option_map (λ i. i.payload) (instance_of instances addon)) 0

-- the ticket of its finalizer, where there is one
abbrev pub instance_ticket : Instances → ℕ → Option ℕ
instance_ticket instances addon = option_and_then (λ i. i.ticket) (instance_of instances addon)

-- an addon has other instance data, in the place of what was set before
abbrev pub with_instance : ℕ → InstanceData → Instances → Instances
with_instance addon i instances = set instances addon (Some i)
