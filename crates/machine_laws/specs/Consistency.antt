-- What holds of the environment at every moment of a run.
use Rattle.std.specs.Prelude.{◌≡◌, ◌≢◌, ◌<◌, ◌≤◌, ◌==◌, ◌&&◌, ℕ, nat_eq, Bool, true, List, [], ◌∷◌, length, map, flat_map, Some, None, IsSome}
use Rattle.std.specs.List.{All, IsDistinct, list_any}
use Rattle.std.specs.Option.{IfSome}
use Rattle.napi_types.specs.plain.Lists.{has_number}
use Rattle.napi_types.specs.parts.Attachments.{Attachments}
use Rattle.napi_types.specs.parts.Buffers.{Buffers, AreWithinLimits, buffer_at}
use Rattle.napi_types.specs.parts.Frames.{most_frames}
use Rattle.napi_types.specs.parts.Promises.{Promise, Promises, promise_state}
use Rattle.napi_types.specs.parts.Reach.{numbers}
use Rattle.napi_types.specs.parts.References.{ReferenceMap}
use Rattle.napi_types.specs.parts.Scopes.{FrameScopes, held_by_frames}
use Rattle.napi_types.specs.parts.Values.{Value, children, link_of, starting_values}
use Rattle.napi_types.specs.environment.Environment.{Environment}

-- these numbers were issued, where numbers are issued from 1 to the last one: each is one of those, and none stands twice
pub record AreIssued (last : ℕ) (ns : List ℕ) : Type 0 where
  pub apart : IsDistinct nat_eq ns
  pub within : All (λ n. (0 < n) × (n ≤ last)) ns

-- the handles that the open scopes of all frames hold, and the creation numbers of their values
abbrev pub held_handles : List FrameScopes → List ℕ
held_handles fs = map (λ h. h.handle) (held_by_frames fs)

abbrev pub values_of_handles : List FrameScopes → List ℕ
values_of_handles fs = map (λ h. h.value) (held_by_frames fs)

-- one of the values has the creation number
abbrev pub IsLiveAmong : List Value → ℕ → Type 0
IsLiveAmong vs n = has_number n (numbers vs) ≡ true

-- records by rising number: each is below all that come after it
abbrev pub RisesBy : {A : Type 0} → (A → ℕ) → List A → Type 0
RisesBy number [] = Unit {0}
RisesBy number (x ∷ xs) = All (λ y. number x < number y) xs × RisesBy number xs

-- references as a finite map: they lie by rising number, and so do the numbers that were issued, of which each reference has one
pub record IsMap (m : ReferenceMap) : Type 0 where
  pub rows : RisesBy (λ r. r.number) m.rows
  pub numbers : RisesBy (λ n. n) m.issued
  pub issued : All (λ r. has_number r.number m.issued ≡ true) m.rows

-- the tickets of the reactions of all promises
abbrev pub reactions_in : List Promise → List ℕ
reactions_in rs = flat_map (λ r. r.reactions) rs

-- promises and their deferreds as finite maps: the promises lie by rising number of their values, the deferreds by rising number, and so do the numbers that
-- were issued, of which each deferred has one. Each deferred is that of a promise which is pending, and no two are of the same. The reactions of a promise have
-- rising tickets, and none is one of two promises
pub record IsPromiseMap (p : Promises) : Type 0 where
  pub promises : RisesBy (λ r. r.value) p.promises
  pub deferreds : RisesBy (λ d. d.number) p.deferreds
  pub numbers : RisesBy (λ n. n) p.issued
  pub issued : All (λ d. has_number d.number p.issued ≡ true) p.deferreds
  pub pending : All (λ d. promise_state p d.promise ≡ Some 0) p.deferreds
  pub apart : IsDistinct nat_eq (map (λ d. d.promise) p.deferreds)
  pub reactions : All (λ r. RisesBy (λ n. n) r.reactions) p.promises
  pub once : IsDistinct nat_eq (reactions_in p.promises)

-- each promise is one of these values, and so is that of each deferred. That has no link, since nothing settled it; a promise that is settled has one
pub record ArePromisesOf (vs : List Value) (p : Promises) : Type 0 where
  pub rows : IsPromiseMap p
  pub live : All (λ r. IsLiveAmong vs r.value) p.promises
  pub deferred : All (λ d. IsLiveAmong vs d.promise) p.deferreds
  pub unsettled : All (λ d. link_of vs d.promise ≡ None) p.deferreds
  pub settled : All (λ r. r.state ≢ 0 → IsSome (link_of vs r.value)) p.promises

-- buffers and views as finite maps: both lie by rising number of their values. Each is one of these values, and the link of a view is its buffer
pub record AreBuffersOf (vs : List Value) (b : Buffers) : Type 0 where
  pub buffers : RisesBy (λ r. r.value) b.buffers
  pub views : RisesBy (λ w. w.value) b.views
  pub live : All (λ r. IsLiveAmong vs r.value) b.buffers
  pub viewed : All (λ w. IsLiveAmong vs w.value) b.views
  pub linked : All (λ w. link_of vs w.value ≡ Some w.about.buffer.0) b.views

-- a finalizer of this ticket is attached to this value
abbrev pub has_attached : Attachments → ℕ → ℕ → Bool
has_attached a ticket v = list_any (λ t. (t.ticket == ticket) && (t.value == v)) a.tickets

-- each view is one of a buffer, and lies in its bytes while these are there. No buffer has more bytes than one may have, nor all together. The finalizer of an
-- external buffer is attached to it
pub record AreSoundBuffers (a : Attachments) (b : Buffers) : Type 0 where
  pub whose : All (λ w. IsSome (buffer_at b w.about.buffer.0)) b.views
  pub limits : AreWithinLimits b
  pub attached : All (λ r. IfSome r.ticket (λ ticket. has_attached a ticket r.value ≡ true)) b.buffers

-- handles, values, references, promises, buffers and frames fit together
pub record IsConsistent (e : Environment) : Type 0 where
  -- the handles in open scopes were issued, each once, and so were the creation numbers of the values
  pub handles : AreIssued e.heap.handles (held_handles e.heap.scopes)
  pub values : AreIssued e.heap.made (numbers e.heap.values)
  -- the value of a handle in an open scope is live, and so is what a reference refers to, and the pending exception
  pub held : All (IsLiveAmong e.heap.values) (values_of_handles e.heap.scopes)
  pub referred : All (λ r. IfSome r.value (IsLiveAmong e.heap.values)) e.references.rows
  pub pending : IfSome e.pending (IsLiveAmong e.heap.values)
  -- so is what a thread-safe function keeps alive
  pub rooted : All (λ r. IsLiveAmong e.heap.values r.value) e.tsfn_roots
  -- the references are a finite map
  pub references : IsMap e.references
  -- the promises and their deferreds are finite maps, of live values
  pub promises : ArePromisesOf e.heap.values e.promises
  -- the buffers and their views are finite maps, of live values, and sound
  pub buffers : AreBuffersOf e.heap.values e.buffers
  pub sound : AreSoundBuffers e.attachments e.buffers
  -- the children of a value are live, and so are the starting values
  pub children : All (λ v. All (IsLiveAmong e.heap.values) (children v)) e.heap.values
  pub starting : All (IsLiveAmong e.heap.values) (numbers starting_values)
  -- each frame that stands has its scopes, and no more stand than may
  pub frames : length e.heap.scopes ≡ length e.frames
  pub depth : length e.frames ≤ most_frames
