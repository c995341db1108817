-- Why a scope cannot be closed, and why no handle can escape from one.
use Rattle.std.specs.Prelude.{ℕ, ◌==◌, ◌&&◌, Bool, true, false, not, find, List, [], ◌∷◌, Option, Some, None}
use Rattle.std.specs.Option.{option_or}
use Rattle.napi_types.specs.declared.ids.ScopeKind.{ScopeKind}
use Rattle.napi_types.specs.declared.status.Status.{Status}
use Rattle.napi_types.specs.declared.ids.ScopeKind.TheVariants as scope_kind
use Rattle.napi_types.specs.declared.status.Status.TheVariants as status
use Rattle.napi_types.specs.plain.Lists.{has, when}
use Rattle.napi_types.specs.parts.Scopes.{Scope}

-- one of the scopes has the number
abbrev pub has_scope : ℕ → List Scope → Bool
has_scope n ss = has (λ s. s.number) n ss

-- two kinds are the same
abbrev pub is_kind : ScopeKind → ScopeKind → Bool
is_kind scope_kind.Plain scope_kind.Plain = true
is_kind scope_kind.Escapable scope_kind.Escapable = true
is_kind _ _ = false

-- why the scope of that number cannot be closed as one of this kind: no scope is open, or else the number is none of theirs, or else it is not the
-- innermost, or of the other kind
abbrev pub closing : ℕ → ScopeKind → List Scope → Option Status
closing n kind [] = Some status.HandleScopeMismatch
closing n kind (s ∷ ss) = option_or (when (not (has_scope n (s ∷ ss))) status.InvalidArg) (when (not ((s.number == n) && is_kind s.kind kind)) status.HandleScopeMismatch)

-- the escapable scope of that number
abbrev pub escapable_scope : ℕ → List Scope → Option Scope
escapable_scope n ss = find (λ s. (s.number == n) && is_kind s.kind scope_kind.Escapable) ss

-- why no handle can escape from a scope: it is none that is escapable, or else one has escaped from it
abbrev pub refuses_escape : Option Scope → Option Status
refuses_escape None = Some status.InvalidArg
refuses_escape (Some s) = when s.used status.EscapeCalledTwice

-- why no handle can escape from the scope of that number
abbrev pub escaping : ℕ → List Scope → Option Status
escaping n ss = refuses_escape (escapable_scope n ss)
