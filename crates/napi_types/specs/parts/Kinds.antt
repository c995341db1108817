-- A handle whose value is of another kind than a call expects.
use Rattle.std.specs.Prelude.{Bool, Option, Some, None}
use Rattle.napi_types.specs.declared.body.Body.{Body}
use Rattle.napi_types.specs.declared.ids.HandleId.{HandleId}
use Rattle.napi_types.specs.declared.status.Status.{Status}
use Rattle.napi_types.specs.plain.Lists.{unless}
use Rattle.napi_types.specs.parts.Heap.{Heap, handle_body}

-- a status where a handle's value is not of the expected kind
abbrev pub expects : Heap → HandleId → (Body → Bool) → Status → Option Status
expects heap h test s = unless (test (handle_body heap h.0)) s

-- the same of an argument that may be left out
abbrev pub expects_if : Heap → Option HandleId → (Body → Bool) → Status → Option Status
expects_if heap None test s = None
expects_if heap (Some h) test s = expects heap h test s
