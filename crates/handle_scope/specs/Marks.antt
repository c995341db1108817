-- One stack of handles, where marks say at which place each scope and each frame begins.
use Rattle.std.specs.Prelude.{◌≡◌, ◌≢◌, ℕ, ◌+◌, ◌*◌, ◌<◌, ◌≤◌, ◌==◌, ◌&&◌, Bool, true, cond, List, [], ◌∷◌, ◌++◌, length, map, reverse, take, drop, slice_index_or, slice_get, sum_by, Option, Some, None, option_map, option_and_then}
use Rattle.std.specs.Option.{is_some, option_to_list}
use Rattle.std.specs.List.{list_any}
use Rattle.napi_types.specs.parts.Frames.{most_frames}
use Rattle.napi_types.specs.parts.ScopeChanges.{inside}
use Rattle.napi_types.specs.parts.Scopes.{OpenHandle, FrameScopes, value_in}
use Rattle.handle_scope.specs.HandleScopes.{HandleScopes, held_places}
use Rattle.handle_scope.specs.declared.scopes.HeldHandle.{HeldHandle}
use Rattle.handle_scope.specs.declared.scopes.ScopeMark.{ScopeMark}
use Rattle.handle_scope.specs.declared.scopes.FrameMark.{FrameMark}
use Rattle.handle_scope.specs.declared.scopes.Escape.{Escape}

-- a place of the stack holds a handle, and the number of its value
abbrev pub held_of : HeldHandle → OpenHandle
held_of h = record { handle = h.handle; value = h.value.0 }

-- the handle that escaped from a scope and waits in its mark, as a list
abbrev pub waiting_handle : ScopeMark → List OpenHandle
waiting_handle s = map held_of (option_to_list s.escaped)

-- a frame with one scope more inside its innermost one, the one of this mark, which holds these handles
abbrev pub with_marked_scope : ScopeMark → List OpenHandle → FrameScopes → FrameScopes
with_marked_scope s hs f = inside (record { number = s.number; kind = s.kind; used = is_some s.escaped; held = hs }) f

-- the scopes of a frame that begins at a place of the stack, by the marks of the scopes opened in it, the innermost first:
-- each scope holds what stands from its mark on, and the scope around it also the handle that waits there
abbrev pub scopes_above : ℕ → List ScopeMark → List OpenHandle → FrameScopes
scopes_above start [] hs = record { own = drop start hs; opened = [] }
scopes_above start (s ∷ ss) hs = with_marked_scope s (drop s.start hs) (scopes_above start ss (take s.start hs ++ waiting_handle s))

-- the scopes of all frames, the marks of the frames with the innermost first, those of the scopes with the innermost last
abbrev pub frames_marked : List FrameMark → List ScopeMark → List OpenHandle → List FrameScopes
frames_marked [] ss hs = []
frames_marked (f ∷ fs) ss hs = scopes_above f.start (reverse (drop f.scopes ss)) hs ∷ frames_marked fs (take f.scopes ss) (take f.start hs)

-- the scopes of all frames, where the stack and the marks have the innermost last
abbrev pub frames_of : List FrameMark → List ScopeMark → List HeldHandle → List FrameScopes
frames_of fs ss hs = frames_marked (reverse fs) ss (map held_of hs)

-- the handle places by the marks of all scopes, the innermost first: each mark stands for a place before the handles of its scope
abbrev pub places_marked : List ScopeMark → List OpenHandle → List (Option ℕ)
places_marked [] hs = held_places hs
places_marked (s ∷ ss) hs = places_marked ss (take s.start hs) ++ option_map (λ e. e.value.0) s.escaped ∷ held_places (drop s.start hs)

-- the marks of a frame's scopes, the innermost first, lie in order between the frame's place and the stack's end
abbrev pub AreScopesWithin : ℕ → List ScopeMark → ℕ → Type 0
AreScopesWithin start [] end = start ≤ end
AreScopesWithin start (s ∷ ss) end = (s.start ≤ end) × AreScopesWithin start ss s.start

-- the marks of the frames, the innermost first, part the stack and the marks of the scopes
abbrev pub AreFramesWithin : List FrameMark → List ScopeMark → ℕ → Type 0
AreFramesWithin [] ss end = (ss ≡ []) × (end ≡ 0)
AreFramesWithin (f ∷ fs) ss end = (f.scopes ≤ length ss) × AreScopesWithin f.start (reverse (drop f.scopes ss)) end × AreFramesWithin fs (take f.scopes ss) f.start

-- the marks of all scopes, the innermost first, lie in order within the stack
abbrev pub AreStartsWithin : List ScopeMark → ℕ → Type 0
AreStartsWithin [] end = Unit {0}
AreStartsWithin (s ∷ ss) end = (s.start ≤ end) × AreStartsWithin ss s.start

-- each of these marks, the innermost first, knows which handle place is its own
abbrev pub ArePlaced : List ScopeMark → Type 0
ArePlaced [] = Unit {0}
ArePlaced (s ∷ ss) = (s.place ≡ s.start + length ss) × ArePlaced ss

-- the numbers rise along the list
pub record Rises {A : Type 0} (number : A → ℕ) (xs : List A) : Type 0 where
  pub rise : (i j : ℕ) (d : A) → i < j → j < length xs → number (slice_index_or xs i d) < number (slice_index_or xs j d)

-- no number of the list is above `most`
pub record AreAtMost {A : Type 0} (number : A → ℕ) (xs : List A) (most : ℕ) : Type 0 where
  pub at : (i : ℕ) (d : A) → i < length xs → number (slice_index_or xs i d) ≤ most

-- handles that rise, and were issued
pub record AreInOrder (hs : List OpenHandle) (handles : ℕ) : Type 0 where
  pub rise : Rises (λ p. p.handle) hs
  pub issued : AreAtMost (λ p. p.handle) hs handles

-- the handles of the stack are in order now, and after each close of one of these scopes, the innermost first
abbrev pub AreScopesInOrder : List ScopeMark → List OpenHandle → ℕ → Type 0
AreScopesInOrder [] hs handles = AreInOrder hs handles
AreScopesInOrder (s ∷ ss) hs handles = AreInOrder hs handles × AreScopesInOrder ss (take s.start hs ++ waiting_handle s) handles

-- the same in each frame, after the frames inside it are left
abbrev pub AreFramesInOrder : List FrameMark → List ScopeMark → List OpenHandle → ℕ → Type 0
AreFramesInOrder [] ss hs handles = AreInOrder hs handles
AreFramesInOrder (f ∷ fs) ss hs handles = AreScopesInOrder (reverse (drop f.scopes ss)) hs handles × AreFramesInOrder fs (take f.scopes ss) (take f.start hs) handles

-- what the stack and its marks keep, where that many handles and scope numbers were issued
pub record IsStack (frames : List FrameMark) (scopes : List ScopeMark) (held : List HeldHandle) (handles numbers : ℕ) : Type 0 where
  pub parted : AreFramesWithin (reverse frames) scopes (length held)
  pub placed : ArePlaced (reverse scopes)
  pub in_order : AreFramesInOrder (reverse frames) scopes (map held_of held) handles
  pub numbers_rise : Rises (λ s. s.number) scopes
  pub numbers_issued : AreAtMost (λ s. s.number) scopes numbers

-- the value of a handle that escaped, where it waits in the mark of its scope
abbrev pub waiting_value : List ScopeMark → Escape → Option ℕ
waiting_value ss e = option_and_then (λ s. value_in (waiting_handle s) e.handle) (slice_get ss e.scope)

-- the handles that wait in these marks
abbrev pub all_waiting : List ScopeMark → List OpenHandle
all_waiting [] = []
all_waiting (s ∷ ss) = waiting_handle s ++ all_waiting ss

-- each handle that waits in a mark is found among the escapes, which are in the order of their handles
pub record IsTracked (scopes : List ScopeMark) (escapes : List Escape) : Type 0 where
  pub rise : Rises (λ e. e.handle) escapes
  pub found : (at : ℕ) (d : ScopeMark) (h : HeldHandle) → at < length scopes → (slice_index_or scopes at d).escaped ≡ Some h → list_any (λ e. (e.handle == h.handle) && (e.scope == at)) escapes ≡ true

-- a call entered only frames that stand inside another one
abbrev pub AreCallsInside : List FrameMark → Type 0
AreCallsInside [] = Unit {0}
AreCallsInside (f ∷ fs) = (f.by_call ≡ true → fs ≢ []) × AreCallsInside fs

-- how many places the frame leaves to its caller
abbrev pub call_places : Bool → ℕ
call_places b = cond b 1 0

-- how many handles can still escape from the scope
abbrev pub free_escapes : ScopeMark → ℕ
free_escapes s = cond (is_some s.escaped) 0 1

-- the stack and what stands beside it, where there is memory for that many frames, handles and escapes:
-- a place for each scope and each call is promised in the stack, and one for each scope from which no handle escaped among the escapes;
-- the escapes, with those that may still come, are at most one more than three times as many as the open scopes
pub record FitsStack (frames : List FrameMark) (scopes : List ScopeMark) (held : List HeldHandle) (escapes : List Escape) (handles numbers spare calls frame_places held_places escape_places : ℕ) : Type 0 where
  pub stack : IsStack frames scopes held handles numbers
  pub tracked : IsTracked scopes escapes
  pub escapes_issued : AreAtMost (λ e. e.handle) escapes handles
  pub calls_inside : AreCallsInside (reverse frames)
  pub calls_counted : calls ≡ sum_by (λ f. call_places f.by_call) frames
  pub frames_fit : most_frames ≤ frame_places
  pub held_fits : length held + (length scopes + (calls + spare)) ≤ held_places
  pub escapes_fit : length escapes + sum_by free_escapes scopes ≤ escape_places
  pub escapes_few : length escapes + sum_by free_escapes scopes ≤ 3 * length scopes + 1

-- a scope's mark from which no handle escaped, with that number, stands at this place
pub record IsEscapable (scopes : List ScopeMark) (number at : ℕ) : Type 0 where
  pub inside : at < length scopes
  pub same : (d : ScopeMark) → (slice_index_or scopes at d).number ≡ number
  pub free : (d : ScopeMark) → (slice_index_or scopes at d).escaped ≡ None

-- how many places the innermost frame leaves to its caller
abbrev pub place_left : List Bool → ℕ
place_left [] = 0
place_left (b ∷ bs) = call_places b

-- with so many spare places more
abbrev pub with_spare : ℕ → HandleScopes → HandleScopes
with_spare k s = record s { spare = s.spare + k }
