-- What the promises and the values say of each other.
use Rattle.std.specs.Prelude.{◌≡◌, ℕ, ◌==◌, Bool, true, ◌&&◌, List}
use Rattle.std.specs.List.{All, list_any}
use Rattle.napi_types.specs.parts.Bodies.{is_linked}
use Rattle.napi_types.specs.parts.Promises.{Promise, Deferred}
use Rattle.napi_types.specs.parts.Values.{Value}
use Rattle.napi_types.specs.environment.Environment.{Environment}

-- among the values is one of this number that may have a hidden child
abbrev pub has_linked : ℕ → List Value → Bool
has_linked n values = list_any (λ v. (v.number == n) && is_linked v.body) values

-- a deferred is that of such a value
abbrev pub IsDeferredOfLinked : List Value → Deferred → Type 0
IsDeferredOfLinked values d = has_linked d.promise values ≡ true

-- and so is a promise
abbrev pub IsLinkedPromise : List Value → Promise → Type 0
IsLinkedPromise values p = has_linked p.value values ≡ true

-- each deferred that is not settled, and each promise, is that of a value which is there, and which may have a hidden child
pub record IsPromised (e : Environment) : Type 0 where
  pub linked : All (IsDeferredOfLinked e.heap.values) e.promises.deferreds
  pub promises : All (IsLinkedPromise e.heap.values) e.promises.promises
