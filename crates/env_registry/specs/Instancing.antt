-- The instance data of addons, as the machine sees it.
use Rattle.std.specs.Prelude.{List, map, Option, option_map}
use Rattle.napi_types.specs.parts.InstanceData.{InstanceData, Instances}
use Rattle.env_registry.specs.declared.instances.InstanceRow.{InstanceRow as Kept}

-- that of one addon
abbrev pub instance_seen : Kept → InstanceData
instance_seen i = record { payload = i.payload; ticket = option_map (λ t. t.0) i.ticket }

-- that of each
abbrev pub instances_seen : List (Option Kept) → Instances
instances_seen places = map (option_map instance_seen) places
