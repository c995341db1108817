-- The heap of the machine that a store of values and handle scopes stand for.
use Rattle.std.specs.Prelude.{◌≡◌, ℕ, map, Option, Some, None, option_map}
use Rattle.std.specs.List.{All}
use Rattle.std.specs.Option.{option_and_then}
use Rattle.napi_types.specs.declared.body.Body.{Body}
use Rattle.napi_types.specs.declared.body.Body.TheVariants as body
use Rattle.napi_types.specs.parts.Bodies.{promise_tag, view_tag}
use Rattle.napi_types.specs.parts.Graph.{StoreState, IsLive, value_of, number_in, graph_of}
use Rattle.napi_types.specs.parts.Heap.{Heap}
use Rattle.napi_types.specs.parts.Scopes.{OpenHandle, Scope, FrameScopes, held_by_frames}
use Rattle.handle_scope.specs.HandleScopes.{HandleScopes}

-- a handle as the machine sees it: it has the creation number of its value, where the scopes have the store's number
abbrev pub seen_held : StoreState → OpenHandle → OpenHandle
seen_held store p = record p { value = number_in store p.value }

-- a scope that a call opened, as the machine sees it
abbrev pub seen_scope : StoreState → Scope → Scope
seen_scope store s = record s { held = map (seen_held store) s.held }

-- the scopes of a frame, as the machine sees them
abbrev pub seen_frame : StoreState → FrameScopes → FrameScopes
seen_frame store f = record { own = map (seen_held store) f.own; opened = map (seen_scope store) f.opened }

-- the heap
abbrev pub heap_of : StoreState → HandleScopes → Heap
heap_of store scopes = record {
  values = graph_of store;
  made = store.made;
  scopes = map (seen_frame store) scopes.frames;
  handles = scopes.handles;
  scope_numbers = scopes.scope_numbers;
}

-- what a value of the store is, and its hidden child
abbrev pub body_in : StoreState → ℕ → Option Body
body_in s id = option_map (λ v. v.body) (value_of s id)

abbrev pub link_in : StoreState → ℕ → Option ℕ
link_in s id = option_and_then (λ v. v.link) (value_of s id)

-- a value is a promise
abbrev pub IsPromiseIn : StoreState → ℕ → Type 0
IsPromiseIn s id = body_in s id ≡ Some (body.Linked promise_tag None)

-- a value is a view of this buffer
pub record IsViewIn (s : StoreState) (id buffer : ℕ) : Type 0 where
  pub body : body_in s id ≡ Some (body.Linked view_tag None)
  pub link : link_in s id ≡ Some buffer

-- each live value stays live under its creation number, whether or not a scope holds it, and stays what it is; and a view has its buffer
pub record KeepsValues (old new : StoreState) : Type 0 where
  pub live : (id : ℕ) → IsLive old id → IsLive new id
  pub numbers : (id : ℕ) → IsLive old id → number_in new id ≡ number_in old id
  pub bodies : (id : ℕ) → IsLive old id → body_in new id ≡ body_in old id
  pub views : (id buffer : ℕ) → IsViewIn old id buffer → link_in new id ≡ Some buffer

-- each value that an open scope holds is live in the store
abbrev pub HoldsLive : StoreState → HandleScopes → Type 0
HoldsLive store scopes = All (λ p. IsLive store p.value) (held_by_frames scopes.frames)
