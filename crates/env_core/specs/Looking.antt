-- What one look tells of a handle.
use Rattle.std.specs.Prelude.{◌≡◌, is_some}
use Rattle.napi_types.specs.parts.Heap.{Heap, handle_body}
use Rattle.napi_types.specs.parts.Scopes.{gives}
use Rattle.env_core.specs.declared.handles.LookedUp.{LookedUp}

-- whether an open scope holds the handle, and what its value is, are as the machine sees them
pub record IsLookedUp (heap : Heap) (h : LookedUp) : Type 0 where
  pub held : h.held ≡ is_some (gives heap.scopes h.handle.0)
  pub body : h.body ≡ handle_body heap h.handle.0
