-- The handle scopes as the machine sees them, and what each call makes of them.
use Rattle.std.specs.Prelude.{ℕ, ◌+◌, ◌-◌, max, Bool, true, false, not, cond, List, [], ◌∷◌, ◌++◌, map, Option, Some, None}
use Rattle.napi_types.specs.declared.ids.ScopeKind.{ScopeKind}
use Rattle.napi_types.specs.plain.Lists.{has_number, first_changed, tail, with_number}
use Rattle.napi_types.specs.parts.ScopeChanges.{hold_in, open_in, close_in, escape_in}
use Rattle.napi_types.specs.parts.Scopes.{OpenHandle, Scope, FrameScopes, no_handles}

-- all handle scopes of an environment, and the numbers that were issued
pub record HandleScopes : Type 0 where
  -- the scopes of the frames that stand, the innermost frame first
  pub frames : List FrameScopes
  -- for each of these frames, whether a call of the frame around it entered it
  pub by_call : List Bool
  -- how many handles were issued, and which scope numbers were
  pub handles : ℕ
  pub scope_numbers : List ℕ
  -- how many places for handles have their memory beside those that are filled
  pub spare : ℕ

-- no frame stands, and nothing was issued
abbrev pub no_scopes : HandleScopes
no_scopes = record { frames = []; by_call = []; handles = 0; scope_numbers = []; spare = 0 }

-- a frame begins inside the innermost one
abbrev pub with_frame_scopes : HandleScopes → HandleScopes
with_frame_scopes s = record s { frames = no_handles ∷ s.frames; by_call = false ∷ s.by_call }

-- the same by a call of the innermost one
abbrev pub with_call_scopes : HandleScopes → HandleScopes
with_call_scopes s = record s { frames = no_handles ∷ s.frames; by_call = true ∷ s.by_call }

-- the innermost frame is gone, with all its scopes and the handles in them
abbrev pub without_frame_scopes : HandleScopes → HandleScopes
without_frame_scopes s = record s { frames = tail s.frames; by_call = tail s.by_call }

-- a scope of this kind and that number is open inside the innermost one
abbrev pub with_open_scope : ScopeKind → ℕ → HandleScopes → HandleScopes
with_open_scope kind n s = record s { frames = first_changed (open_in kind n) s.frames; scope_numbers = with_number n s.scope_numbers }

-- the innermost scope of the innermost frame is gone, with the handles in it
abbrev pub without_innermost_scope : HandleScopes → HandleScopes
without_innermost_scope s = record s { frames = first_changed close_in s.frames }

-- there is memory for one more handle at least
abbrev pub with_reserved_place : HandleScopes → HandleScopes
with_reserved_place s = record s { spare = max 1 s.spare }

-- the innermost scope of the innermost frame holds the next handle, of that value
abbrev pub with_next_handle : ℕ → HandleScopes → HandleScopes
with_next_handle v s = record s { frames = first_changed (hold_in (record { handle = s.handles + 1; value = v })) s.frames; handles = s.handles + 1 }

-- the same at a spare place, where there was one
abbrev pub with_issued_handle : ℕ → HandleScopes → HandleScopes
with_issued_handle v s = record (with_next_handle v s) { spare = s.spare - 1 }

-- the frame that a call entered is gone, and the innermost scope of its caller holds the next handle, of the value that the call gives, if it gives one
abbrev pub without_call_scopes : Option ℕ → HandleScopes → HandleScopes
without_call_scopes None s = without_frame_scopes s
without_call_scopes (Some v) s = with_next_handle v (without_frame_scopes s)

-- the next handle, of that value, escapes from the innermost frame's scope of that number
abbrev pub with_escaped_handle : ℕ → ℕ → HandleScopes → HandleScopes
with_escaped_handle n v s = record s { frames = first_changed (escape_in n (record { handle = s.handles + 1; value = v })) s.frames; handles = s.handles + 1 }

-- the values that handles hold, at places that are filled
abbrev pub held_places : List OpenHandle → List (Option ℕ)
held_places hs = map (λ p. Some p.value) hs

-- the place for a handle that escapes from a scope, which lies in the scope that encloses it, as long as none has escaped
abbrev pub free_place : Scope → List (Option ℕ)
free_place s = cond s.used [] (None ∷ [])

-- the handle places of a frame: those of an outer scope first, and in each scope in the order of their issue
abbrev pub frame_places : List OpenHandle → List Scope → List (Option ℕ)
frame_places own [] = held_places own
frame_places own (s ∷ ss) = (frame_places own ss ++ free_place s) ++ held_places s.held

-- the handle places of all frames, those of an outer frame first. Each scope that a call opened has a place for a handle that escapes from it; that of a plain scope stays free
abbrev pub handle_places : List FrameScopes → List (Option ℕ)
handle_places [] = []
handle_places (f ∷ fs) = handle_places fs ++ frame_places f.own f.opened

-- a scope number is above 0 and was never issued
abbrev pub is_fresh_scope : ℕ → HandleScopes → Bool
is_fresh_scope n s = not (has_number n (0 ∷ s.scope_numbers))
