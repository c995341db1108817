-- What stays of a state where a frame ends.
use Rattle.std.proofs.Common.{◌≡◌, true, None, ℕ, ◌+◌, List, [], ◌∷◌, ◌++◌, refl, ap, sym, ◌∙◌, Option, Some, IfSome}
use Rattle.std.specs.List.{All}
use Rattle.napi_types.specs.declared.entry.Duty.{Duty}
use Rattle.napi_types.specs.declared.entry.Duty.TheVariants as duty
use Rattle.napi_types.specs.plain.Lists.{tail}
use Rattle.napi_types.specs.parts.Book.{Book}
use Rattle.napi_types.specs.parts.Frames.{Frame, ticket_of, is_hub_duty}
use Rattle.napi_types.specs.parts.Graph.{StoreState, IsLive}
use Rattle.napi_types.specs.parts.Promises.{Promises}
use Rattle.napi_types.specs.parts.References.{ReferenceMap}
use Rattle.napi_types.specs.parts.ScopeChanges.{hold_in}
use Rattle.napi_types.specs.parts.Scopes.{OpenHandle, FrameScopes, held_by_scopes, held_by_frames}
use Rattle.napi_types.specs.environment.Ends.{duty_ended, reaction_ended}
use Rattle.napi_types.specs.environment.Environment.{TsfnRoot}
use Rattle.napi_types.proofs.plain.Lists.{length-changed, length-tail, All-left}
use Rattle.handle_scope.specs.HandleScopes.{HandleScopes, without_frame_scopes, without_call_scopes, with_issued_handle}
use Rattle.env_values.proofs.Giving.{issued-live}
use Rattle.env_core.specs.State.{IsState, is_by_call}
use Rattle.env_core.proofs.SeenScopes.{map-tail}

-- what the frames outside hold was held before
all-left : (P : OpenHandle → Type 0) (fs : List FrameScopes) → All P (held_by_frames fs) → All P (held_by_frames (tail fs))
all-left P [] h = h
all-left P (f ∷ fs) h = All-left P (held_by_frames fs) (f.own ++ held_by_scopes f.opened) h

-- a frame and its scopes are gone
pub state-left : {m : ReferenceMap} {rs : List TsfnRoot} (store : StoreState) (old new : HandleScopes) (standing left : List Frame) (thrown pending : Option ℕ) → IsState store old standing thrown m rs
    → new ≡ without_frame_scopes old → left ≡ tail standing → IfSome pending (IsLive store) → IsState store new left pending m rs
state-left store old new standing left thrown pending s scopes frames live = rw (scopes, frames) (record {
  live = all-left (λ p. IsLive store p.value) old.frames s.live;
  frames = length-tail old.frames standing s.frames;
  calls = ap tail s.calls ∙ sym (map-tail (λ (f : Frame). is_by_call f.cause) standing);
  pending = live;
  referred = s.referred;
  rooted = s.rooted;
})

-- and the caller holds a handle of a live value
pub state-given : {m : ReferenceMap} {rs : List TsfnRoot} (store : StoreState) (old new : HandleScopes) (standing left : List Frame) (thrown pending : Option ℕ) (v : ℕ) → IsState store old standing thrown m rs
    → new ≡ without_call_scopes (Some v) old → left ≡ tail standing → IfSome pending (IsLive store) → IsLive store v → IsState store new left pending m rs
state-given {m = m} {rs = rs} store old new standing left thrown pending v s scopes frames live alive =
    let mid : IsState store (without_frame_scopes old) (tail standing) thrown m rs = state-left store old (without_frame_scopes old) standing (tail standing) thrown thrown s refl refl s.pending in
    rw (scopes, frames) (record {
      live = issued-live store (without_frame_scopes old) (with_issued_handle v (without_frame_scopes old)) v refl alive mid.live;
      frames = length-changed (hold_in (record { handle = old.handles + 1; value = v })) (tail old.frames) ∙ mid.frames;
      calls = mid.calls;
      pending = live;
      referred = s.referred;
      rooted = s.rooted;
    })

-- THE DUTY ENDS
-- one that is of no ticket changes neither the book nor the promises
pub ticketless-book : (d : Option Duty) (book : Book) → ticket_of d ≡ None → duty_ended d book ≡ book
ticketless-book None book none = refl
ticketless-book (Some (duty.Ticket t)) book none = cc
ticketless-book (Some (duty.Work n)) book none = refl
ticketless-book (Some (duty.Item f n)) book none = refl
ticketless-book (Some (duty.Function f)) book none = refl

pub ticketless-promises : (d : Option Duty) (p : Promises) → ticket_of d ≡ None → reaction_ended d p ≡ p
ticketless-promises None p none = refl
ticketless-promises (Some (duty.Ticket t)) p none = cc
ticketless-promises (Some (duty.Work n)) p none = refl
ticketless-promises (Some (duty.Item f n)) p none = refl
ticketless-promises (Some (duty.Function f)) p none = refl

-- no duty of the hub is of one
pub hub-ticketless : (d : Option Duty) → is_hub_duty d ≡ true → ticket_of d ≡ None
hub-ticketless None hub = refl
hub-ticketless (Some (duty.Ticket t)) hub = cc
hub-ticketless (Some (duty.Work n)) hub = refl
hub-ticketless (Some (duty.Item f n)) hub = refl
hub-ticketless (Some (duty.Function f)) hub = refl
