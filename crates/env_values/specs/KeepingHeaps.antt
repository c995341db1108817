-- What a call that gives a handle or makes a value stands on, and what it keeps.
use Rattle.std.specs.Prelude.{◌≡◌, ◌≢◌, ℕ, ◌+◌, ◌<◌, ◌^◌, []}
use Rattle.napi_types.specs.parts.Graph.{StoreState}
use Rattle.handle_scope.specs.HandleScopes.{HandleScopes}
use Rattle.env_values.specs.SeenValues.{HoldsLive, KeepsValues}

-- a handle can be given: a frame stands, what its scopes hold is live, and the number of a further handle is left
pub record CanGive (store : StoreState) (scopes : HandleScopes) : Type 0 where
  pub standing : scopes.frames ≢ []
  pub live : HoldsLive store scopes
  pub handles : scopes.handles < 2 ^ 62

-- so many values can be made, and a handle of the last one given
pub record CanMake (count : ℕ) (store : StoreState) (scopes : HandleScopes) : Type 0 where
  pub give : CanGive store scopes
  pub values : store.made + count + 1 < 2 ^ 48

-- what the scopes hold is live, and which frames a call entered is as before
pub record KeepsScopes (before : HandleScopes) (store : StoreState) (after : HandleScopes) : Type 0 where
  pub live : HoldsLive store after
  pub calls : after.by_call ≡ before.by_call

-- the same where values may be made: each live value stays so, under its number
pub record KeepsHeap (old : StoreState) (before : HandleScopes) (new : StoreState) (after : HandleScopes) : Type 0 where
  pub scopes : KeepsScopes before new after
  pub values : KeepsValues old new
