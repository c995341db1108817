-- Values and the handles to them: what the calls on values, properties, elements and scopes read and change.
use Rattle.std.specs.Prelude.{ℕ, List, [], length, Option}
use Rattle.std.specs.Option.{unwrap_or}
use Rattle.napi_types.specs.declared.body.Body.{Body}
use Rattle.napi_types.specs.parts.Properties.{Property}
use Rattle.napi_types.specs.parts.Scopes.{FrameScopes, gives}
use Rattle.napi_types.specs.parts.Values.{Value, body_of, properties_of, elements_of, starting_values, undefined_value}

-- the value graph and the handle scopes
pub record Heap : Type 0 where
  pub values : List Value
  -- how many values were made, the five starting ones counted
  pub made : ℕ
  -- the scopes of the frames that stand, the innermost frame first
  pub scopes : List FrameScopes
  -- how many handles were issued, and which scope numbers were
  pub handles : ℕ
  pub scope_numbers : List ℕ

-- the starting values, and no frame
abbrev pub new_heap : Heap
new_heap = record { values = starting_values; made = length starting_values; scopes = []; handles = 0; scope_numbers = [] }

-- the creation number of a handle's value; a number that no open scope holds reads as undefined. Only a frame can leave such a number: a call that names one is refused before its value is read
abbrev pub handle_value : Heap → ℕ → ℕ
handle_value heap h = unwrap_or (gives heap.scopes h) undefined_value

-- what the value of a handle is, its properties and its elements
abbrev pub handle_body : Heap → ℕ → Body
handle_body heap h = body_of heap.values (handle_value heap h)

abbrev pub handle_properties : Heap → ℕ → List Property
handle_properties heap h = properties_of heap.values (handle_value heap h)

abbrev pub handle_elements : Heap → ℕ → List (Option ℕ)
handle_elements heap h = elements_of heap.values (handle_value heap h)
