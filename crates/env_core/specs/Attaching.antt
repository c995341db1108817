-- What is attached to values, as the machine sees it.
use Rattle.std.specs.Prelude.{Bool, map, Option, is_some}
use Rattle.std.specs.List.{All}
use Rattle.std.specs.Option.{option_or}
use Rattle.napi_types.specs.declared.body.Body.{Body}
use Rattle.napi_types.specs.declared.ids.HandleId.{HandleId}
use Rattle.napi_types.specs.declared.status.Status.{Status}
use Rattle.napi_types.specs.declared.status.Status.TheVariants as status
use Rattle.napi_types.specs.plain.Lists.{as_map, unless}
use Rattle.napi_types.specs.parts.Attachments.{Attachments, Wrapped, Tagged, Attached}
use Rattle.napi_types.specs.parts.Bodies.{is_object_like, is_taggable}
use Rattle.napi_types.specs.parts.Kinds.{expects}
use Rattle.napi_types.specs.parts.Graph.{StoreState, IsLive, number_in}
use Rattle.napi_types.specs.parts.Heap.{Heap}
use Rattle.napi_types.specs.parts.Scopes.{gives}
use Rattle.env_core.specs.declared.handles.Attachable.{Attachable}
use Rattle.env_core.specs.declared.handles.Attachable.TheVariants as takes

-- WHAT THE MACHINE SEES
-- a wrap, a tag and a finalizer have the creation number of their value, where the crate below has the store's number
abbrev pub seen_wrap : StoreState → Wrapped → Wrapped
seen_wrap store w = record w { value = number_in store w.value }

abbrev pub seen_tag : StoreState → Tagged → Tagged
seen_tag store t = record t { value = number_in store t.value }

abbrev pub seen_attached : StoreState → Attached → Attached
seen_attached store t = record t { value = number_in store t.value }

-- all that is attached to values
abbrev pub attachments_seen : StoreState → Attachments → Attachments
attachments_seen store a = record {
  wraps = as_map (λ w. w.value) (map (seen_wrap store) a.wraps);
  tags = as_map (λ t. t.value) (map (seen_tag store) a.tags);
  tickets = map (seen_attached store) a.tickets;
}

-- what is attached is attached to live values
pub record AreAttachedToLive (store : StoreState) (a : Attachments) : Type 0 where
  pub wraps : All (λ w. IsLive store w.value) a.wraps
  pub tags : All (λ t. IsLive store t.value) a.tags
  pub tickets : All (λ t. IsLive store t.value) a.tickets

-- WHAT A CALL TAKES
-- what a wrap may be of, and what a type tag may be on
abbrev pub is_accepted : Attachable → Body → Bool
is_accepted takes.Objects b = is_object_like b
is_accepted takes.ObjectsAndExternals b = is_taggable b

-- why a handle's value is not taken: no open scope holds the handle, or else the value is of another kind
abbrev pub target_refusal : Attachable → Heap → HandleId → Option Status
target_refusal kinds heap h = option_or (unless (is_some (gives heap.scopes h.0)) status.InvalidArg) (expects heap h (is_accepted kinds) status.ObjectExpected)
