-- Handle scopes: those of each frame that stands, and the handles that they hold.
use Rattle.std.specs.Prelude.{ℕ, Bool, List, [], ◌∷◌, ◌++◌, Option, None, option_map}
use Rattle.std.specs.Option.{option_or}
use Rattle.napi_types.specs.declared.ids.ScopeKind.{ScopeKind}
use Rattle.napi_types.specs.plain.Lists.{found}

-- a handle, and the creation number of its value
pub record OpenHandle : Type 0 where
  pub handle : ℕ
  pub value : ℕ

-- a scope that a call opened, and whether a handle has escaped from it
pub record Scope : Type 0 where
  pub number : ℕ
  pub kind : ScopeKind
  pub used : Bool
  pub held : List OpenHandle

-- the scopes of a frame: what its own scope holds, and the scopes that calls opened in it, the innermost first
pub record FrameScopes : Type 0 where
  pub own : List OpenHandle
  pub opened : List Scope

-- the scopes of a frame as it begins
abbrev pub no_handles : FrameScopes
no_handles = record { own = []; opened = [] }

-- the value of a handle that is held here
abbrev pub value_in : List OpenHandle → ℕ → Option ℕ
value_in hs h = option_map (λ p. p.value) (found (λ p. p.handle) h hs)

-- the value of a handle in these scopes, the innermost asked first
abbrev pub value_in_scopes : List Scope → ℕ → Option ℕ
value_in_scopes [] h = None
value_in_scopes (s ∷ ss) h = option_or (value_in s.held h) (value_in_scopes ss h)

-- the value of a handle in an open scope of any frame; none where no open scope holds it
abbrev pub gives : List FrameScopes → ℕ → Option ℕ
gives [] h = None
gives (f ∷ fs) h = option_or (value_in_scopes f.opened h) (option_or (value_in f.own h) (gives fs h))

-- the handles that scopes hold, those of an outer scope first, and in each scope in the order of their issue
abbrev pub held_by_scopes : List Scope → List OpenHandle
held_by_scopes [] = []
held_by_scopes (s ∷ ss) = held_by_scopes ss ++ s.held

-- the handles that a frame's own scope and the scopes opened in it hold
abbrev pub held_by_frame : FrameScopes → List OpenHandle
held_by_frame f = f.own ++ held_by_scopes f.opened

-- the handles that the open scopes of all frames hold
abbrev pub held_by_frames : List FrameScopes → List OpenHandle
held_by_frames [] = []
held_by_frames (f ∷ fs) = held_by_frames fs ++ held_by_frame f

-- the scopes that calls opened in the innermost frame
abbrev pub opened_scopes : List FrameScopes → List Scope
opened_scopes [] = []
opened_scopes (f ∷ fs) = f.opened
