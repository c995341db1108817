-- What the calls come to.
use Rattle.std.specs.Prelude.{◌≡◌, ℕ, Some, None, is_some, true, option_map, IsTrue}
use Rattle.std.specs.List.{All}
use Rattle.std.specs.declared.result.Result.{Result}
use Rattle.std.specs.declared.result.Result.TheVariants.{Ok, Err}
use Rattle.napi_types.specs.declared.call.Call.{Call}
use Rattle.napi_types.specs.declared.entry.NoMemory.{NoMemory}
use Rattle.napi_types.specs.declared.entry.Out.{Out}
use Rattle.napi_types.specs.plain.Guards.{is_growing}
use Rattle.napi_types.specs.plain.Replies.{Answer, accepts}
use Rattle.napi_types.specs.parts.Graph.{StoreState, IsLive, value_of, number_in, renamed}
use Rattle.napi_types.specs.parts.Heap.{Heap, handle_value}
use Rattle.napi_types.specs.parts.HeapCalls.{heap_effect, addon_effect}
use Rattle.napi_types.specs.parts.HeapRefusals.{refusal_in}
use Rattle.napi_types.specs.parts.Scopes.{gives}
use Rattle.napi_types.specs.parts.Values.{Value, value_at, children}
use Rattle.handle_scope.specs.HandleScopes.{HandleScopes}
use Rattle.env_values.specs.declared.known.HandleValue.{HandleValue}
use Rattle.env_values.specs.declared.stop.Stop.{Stop}
use Rattle.env_values.specs.declared.stop.Stop.TheVariants as stop
use Rattle.env_values.specs.SeenValues.{heap_of}

-- the value is live, and is this
abbrev pub IsStored : StoreState → HandleValue → Type 0
IsStored store v = option_map (λ w. w.body) (value_of store v.id.0) ≡ Some v.body

-- an open scope holds the handle, and this is its value: a live one, which the machine sees under its creation number
pub record IsValueOf (store : StoreState) (scopes : HandleScopes) (h : ℕ) (v : HandleValue) : Type 0 where
  pub known : is_some (gives (heap_of store scopes).scopes h) ≡ true
  pub number : handle_value (heap_of store scopes) h ≡ number_in store v.id.0
  pub body : IsStored store v
  pub seen : value_at (heap_of store scopes).values (number_in store v.id.0) ≡ option_map (renamed store) (value_of store v.id.0)

-- an open scope holds the handle, and this is its value: the machine sees it with the creation numbers of what it names, and all of that is live
pub record IsLentBy (store : StoreState) (scopes : HandleScopes) (h : ℕ) (v : Value) : Type 0 where
  pub id : ℕ
  pub stored : value_of store id ≡ Some v
  pub known : is_some (gives (heap_of store scopes).scopes h) ≡ true
  pub seen : value_at (heap_of store scopes).values (handle_value (heap_of store scopes) h) ≡ Some (renamed store v)
  pub named : All (IsLive store) (children v)

-- what a call comes to, where an accepted one has this effect: its result where nothing refuses it, and the heap that it leaves; or the first refusal; or
-- want of memory, where it grows and nothing refuses it. The last two leave the heap as it was
abbrev pub ComesBy : (Heap → Call → ℕ → Answer Heap) → ℕ → Heap → Call → Result Out Stop → Heap → Type 0
ComesBy effect texts before c (Ok o) after = (refusal_in texts before c ≡ None) × (effect before c 0 ≡ accepts o after)
ComesBy effect texts before c (Err (stop.Refused s)) after = (refusal_in texts before c ≡ Some s) × (after ≡ before)
ComesBy effect texts before c (Err stop.NoMemory) after = IsTrue (is_growing c) × (refusal_in texts before c ≡ None) × (after ≡ before)

-- what a call that creates no function comes to
abbrev pub Comes : ℕ → Heap → Call → Result Out Stop → Heap → Type 0
Comes texts before c r after = ComesBy heap_effect texts before c r after

-- what a call of this addon comes to
abbrev pub ComesOf : ℕ → ℕ → Heap → Call → Result Out Stop → Heap → Type 0
ComesOf texts addon before c r after = ComesBy (addon_effect addon) texts before c r after

-- what gives a handle comes to: this answer and what it leaves; or want of memory, which leaves the heap as it was
abbrev pub GivesHandle : Answer Heap → Heap → Result Out NoMemory → Heap → Type 0
GivesHandle answer before (Ok o) after = answer ≡ accepts o after
GivesHandle answer before (Err e) after = after ≡ before
