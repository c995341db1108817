-- Laws of handles: with values and frames they fit together at every moment of a run, and each gives one value throughout.
use Rattle.std.specs.Prelude.{◌≡◌, ℕ, true, List, take, Some, None, IsSome}
use Rattle.napi_types.specs.declared.call.Ask.{Ask}
use Rattle.napi_types.specs.declared.call.Call.{Call}
use Rattle.napi_types.specs.declared.entry.Entry.{Entry}
use Rattle.napi_types.specs.plain.Lists.{has_number}
use Rattle.napi_types.specs.parts.NamedNumbers.{handles_of}
use Rattle.napi_types.specs.parts.Scopes.{FrameScopes, gives}
use Rattle.napi_types.specs.environment.Environment.{Environment}
use Rattle.napi_types.specs.environment.Refusals.{refusal}
use Rattle.napi_types.specs.runs.Run.{IsRunBy}
use Rattle.napi_types.specs.runs.Setting.{Setting, opening_of, final_of}
use Rattle.machine_laws.specs.Consistency.{IsConsistent}

-- the environment after the first n entries of a run
abbrev pub environment_at : Setting → List Ask → List Entry → ℕ → Environment
environment_at s bs xs n = (final_of s (take n bs) (take n xs)).env

-- at every moment of a run the environment is consistent
abbrev pub EnvironmentsAreConsistent : Type 0
EnvironmentsAreConsistent = (s : Setting) (bs : List Ask) (xs : List Entry) (n : ℕ) → IsRunBy (opening_of s) bs xs → IsConsistent (environment_at s bs xs n)

-- a handle that an accepted call names lies in an open scope
abbrev pub AcceptedHandlesAreOpen : Type 0
AcceptedHandlesAreOpen = (e : Environment) (c : Call) (h : ℕ) → refusal e c ≡ None → has_number h (handles_of c) ≡ true → IsSome (gives e.heap.scopes h)

-- the scopes of all frames there
abbrev pub scopes_at : Setting → List Ask → List Entry → ℕ → List FrameScopes
scopes_at s bs xs n = (environment_at s bs xs n).heap.scopes

-- at any two moments of a run at which an open scope holds a handle, it gives the same value
abbrev pub HandlesAreStable : Type 0
HandlesAreStable = (s : Setting) (bs : List Ask) (xs : List Entry) (i j : ℕ) (h v w : ℕ) → IsRunBy (opening_of s) bs xs
    → gives (scopes_at s bs xs i) h ≡ Some v → gives (scopes_at s bs xs j) h ≡ Some w → v ≡ w
