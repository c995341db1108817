-- What a call makes of the scopes of a frame.
use Rattle.std.specs.Prelude.{ℕ, ◌==◌, true, false, cond, List, [], ◌∷◌, ◌++◌}
use Rattle.napi_types.specs.declared.ids.ScopeKind.{ScopeKind}
use Rattle.napi_types.specs.plain.Lists.{tail, singleton}
use Rattle.napi_types.specs.parts.Scopes.{OpenHandle, Scope, FrameScopes}

-- what the frame's own scope and the scopes opened in it become with one handle more, in the innermost of them, or else in the frame's own
abbrev pub hold_at : OpenHandle → List OpenHandle → List Scope → FrameScopes
hold_at p own [] = record { own = own ++ singleton p; opened = [] }
hold_at p own (s ∷ ss) = record { own = own; opened = record s { held = s.held ++ singleton p } ∷ ss }

-- the innermost scope of a frame holds one handle more
abbrev pub hold_in : OpenHandle → FrameScopes → FrameScopes
hold_in p f = hold_at p f.own f.opened

-- a frame has one scope more, of this kind and this number, inside its innermost one
abbrev pub open_in : ScopeKind → ℕ → FrameScopes → FrameScopes
open_in kind n f = record f { opened = record { number = n; kind = kind; used = false; held = [] } ∷ f.opened }

-- a frame's innermost scope is gone, with the handles in it
abbrev pub close_in : FrameScopes → FrameScopes
close_in f = record f { opened = tail f.opened }

-- a scope inside the others of a frame
abbrev pub inside : Scope → FrameScopes → FrameScopes
inside s f = record f { opened = s ∷ f.opened }

-- a handle escapes from the scope of that number: the scope that encloses it holds the handle, and it is used
abbrev pub escape_at : ℕ → OpenHandle → List OpenHandle → List Scope → FrameScopes
escape_at n p own [] = record { own = own; opened = [] }
escape_at n p own (s ∷ ss) = cond (s.number == n) (inside (record s { used = true }) (hold_at p own ss)) (inside s (escape_at n p own ss))

-- the same in a frame
abbrev pub escape_in : ℕ → OpenHandle → FrameScopes → FrameScopes
escape_in n p f = escape_at n p f.own f.opened
