-- Environments that are consistent, and near misses, each of which misses one fact.
use Rattle.std.specs.Prelude.{ℕ, ◌+◌, ◌<◌, List, [], ◌∷◌, ◌++◌, Option, Some, None, replicate}
use Rattle.napi_types.specs.declared.body.Body.TheVariants as body
use Rattle.napi_types.specs.declared.entry.Cause.TheVariants as cause
use Rattle.napi_types.specs.parts.Attachments.{Attached, no_attachments}
use Rattle.napi_types.specs.parts.Bodies.{buffer_tag, promise_tag, view_tag}
use Rattle.napi_types.specs.parts.Buffers.{ArrayBuffer, BufferView, most_buffer_bytes, most_bytes_together}
use Rattle.napi_types.specs.parts.Frames.{Frame, frame_of, most_frames}
use Rattle.napi_types.specs.parts.Heap.{Heap, new_heap}
use Rattle.napi_types.specs.parts.NewValues.{array_of}
use Rattle.napi_types.specs.parts.Promises.{Promise, Deferred}
use Rattle.napi_types.specs.parts.References.{Reference, with_reference, no_references}
use Rattle.napi_types.specs.parts.Scopes.{OpenHandle, no_handles}
use Rattle.napi_types.specs.parts.Values.{undefined_value, null_value, starting_values, fresh_value, linked_value}
use Rattle.napi_types.specs.environment.Environment.{Environment, new_environment}
use Rattle.machine_laws.specs.Consistency.{IsConsistent}

-- a handle of this number to a value
abbrev pub handle_to : ℕ → ℕ → OpenHandle
handle_to value handle = record { handle = handle; value = value }

-- the frame of an addon's init
abbrev pub init_frame : Frame
init_frame = frame_of cause.Init 0 0

-- an environment of one addon and three texts
abbrev pub small_environment : Environment
small_environment = new_environment (record { version = 9; addons = 1; texts = 3 })

-- a heap in which one frame's own scope holds these handles, and two handles were issued
abbrev pub holding : List OpenHandle → Heap
holding hs = record new_heap { scopes = record { own = hs; opened = [] } ∷ []; handles = 2 }

-- an environment with such a heap, and one frame
abbrev pub in_init_frame : Heap → Environment
in_init_frame heap = record small_environment { heap = heap; frames = init_frame ∷ [] }

-- two handles, of undefined and of null
abbrev pub two_held : List OpenHandle
two_held = handle_to undefined_value 1 ∷ handle_to null_value 2 ∷ []

-- the number after the starting values', which no value has
abbrev pub no_value : ℕ
no_value = 6

-- a reference to undefined of this number, and an environment with such references, where these numbers were issued
abbrev pub reference : ℕ → Reference
reference n = record { number = n; value = Some undefined_value; count = 0 }

abbrev pub referring : List Reference → List ℕ → Environment
referring rs ns = record (in_init_frame (holding two_held)) { references = record { rows = rs; issued = ns } }

-- a promise that is this value, with this state, and a deferred of this number and of this promise
abbrev pub promise : ℕ → ℕ → Promise
promise value state = record { value = value; state = state; reactions = [] }

-- one with reactions of these tickets
abbrev pub reacting : ℕ → ℕ → List ℕ → Promise
reacting value state tickets = record { value = value; state = state; reactions = tickets }

abbrev pub deferred : ℕ → ℕ → Deferred
deferred n value = record { number = n; promise = value }

-- two more values: one that undefined settled, and one that nothing settled
abbrev pub settled_value : ℕ
settled_value = 6

abbrev pub pending_value : ℕ
pending_value = 7

-- the number after theirs
abbrev pub no_promise : ℕ
no_promise = 8

-- a heap with them
abbrev pub with_linked_values : Heap
with_linked_values = record (holding two_held) {
  values = starting_values ++ linked_value settled_value promise_tag (Some undefined_value) ∷ linked_value pending_value promise_tag None ∷ [];
  made = pending_value;
}

-- an environment with such promises and deferreds, where these numbers were issued
abbrev pub promising : List Promise → List Deferred → List ℕ → Environment
promising rs ds ns = record (in_init_frame with_linked_values) { promises = record { promises = rs; deferreds = ds; issued = ns } }

-- two other values: one that is a buffer, and one whose link is that
abbrev pub buffer_number : ℕ
buffer_number = 6

abbrev pub view_number : ℕ
view_number = 7

-- the number after theirs
abbrev pub no_buffer : ℕ
no_buffer = 8

-- a heap with them
abbrev pub with_viewed_values : Heap
with_viewed_values = record (holding two_held) {
  values = starting_values ++ linked_value buffer_number buffer_tag None ∷ linked_value view_number view_tag (Some buffer_number) ∷ [];
  made = view_number;
}

-- a buffer that is this value, of so many zeros, with the ticket of its finalizer where it has one
abbrev pub zeros_of : ℕ → ℕ → Option ℕ → ArrayBuffer
zeros_of value size ticket = record { value = value; bytes = Some (replicate size 0); ticket = ticket }

-- a view that is this value, of one element of this size from this byte of a buffer on
abbrev pub element_of : ℕ → ℕ → ℕ → ℕ → BufferView
element_of value buffer size offset = record { value = value; about = record { buffer = record { 0 = buffer }; size = size; offset = offset; length = 1 } }

-- a finalizer of this ticket that is attached to this value
abbrev pub finalizing_value : ℕ → ℕ → Attached
finalizing_value value ticket = record { ticket = ticket; value = value }

-- an environment with such buffers and views, where these finalizers are attached
abbrev pub buffering : List ArrayBuffer → List BufferView → List Attached → Environment
buffering rs ws ts = record (in_init_frame with_viewed_values) {
  attachments = record no_attachments { tickets = ts };
  buffers = record { buffers = rs; views = ws };
}

-- one with a thread-safe function that keeps this value alive
abbrev pub rooting : ℕ → Environment
rooting value = record (in_init_frame (holding two_held)) { tsfn_roots = record { function = 1; value = value } ∷ [] }

-- an environment with so many frames, each with its scopes
abbrev pub deep : ℕ → Environment
deep n = record small_environment { heap = record new_heap { scopes = replicate n no_handles }; frames = replicate n init_frame }

-- near misses are not consistent
pub record IsStrict : Type 0 where
  -- two handles of two values are consistent, as many frames as may stand, a thread-safe function that keeps a value alive, two promises with reactions, of
  -- which one is settled and the other has a deferred, and a buffer with a finalizer and a view of its last bytes
  pub fits : IsConsistent (in_init_frame (holding two_held))
  pub fits_deep : IsConsistent (deep most_frames)
  pub fits_rooted : IsConsistent (rooting undefined_value)
  pub fits_promised : IsConsistent (promising
      (reacting settled_value 1 (1 ∷ 3 ∷ []) ∷ reacting pending_value 0 (2 ∷ []) ∷ [])
      (deferred 2 pending_value ∷ [])
      (1 ∷ 2 ∷ []))
  pub fits_buffers : IsConsistent (buffering
      (zeros_of buffer_number 8 (Some 1) ∷ [])
      (element_of view_number buffer_number 4 4 ∷ [])
      (finalizing_value buffer_number 1 ∷ []))
  -- no handle stands twice, not of one value either, and none was not issued
  pub twice : (v w : ℕ) → IsConsistent (in_init_frame (holding (handle_to v 1 ∷ handle_to w 1 ∷ []))) → ⊥
  pub unissued : IsConsistent (in_init_frame (holding (handle_to undefined_value 1 ∷ handle_to null_value 3 ∷ []))) → ⊥
  -- nor is 0 a handle
  pub nought : IsConsistent (in_init_frame (holding (handle_to undefined_value 0 ∷ []))) → ⊥
  -- no value stands twice, and none was not made
  pub doubled : IsConsistent (in_init_frame (record (holding two_held) { values = starting_values ++ fresh_value null_value body.Null ∷ [] })) → ⊥
  pub unmade : IsConsistent (in_init_frame (record (holding two_held) { values = starting_values ++ fresh_value no_value body.Null ∷ [] })) → ⊥
  -- what a handle holds, a reference refers to, is pending, a thread-safe function keeps alive or is a child is no number that no value has
  pub held : IsConsistent (in_init_frame (holding (handle_to no_value 1 ∷ []))) → ⊥
  pub referred : IsConsistent (record (in_init_frame (holding two_held)) { references = with_reference 1 no_value 0 no_references }) → ⊥
  pub pending : IsConsistent (record (in_init_frame (holding two_held)) { pending = Some no_value }) → ⊥
  pub rooted : IsConsistent (rooting no_value) → ⊥
  pub child : IsConsistent (in_init_frame (record (holding two_held) {
    values = starting_values ++ array_of no_value ((no_value + 1) ∷ []) ∷ [];
    made = no_value;
  })) → ⊥
  -- no references lie by falling number, no more do the numbers that were issued, and no reference's number was not issued
  pub falling : IsConsistent (referring (reference 2 ∷ reference 1 ∷ []) (1 ∷ 2 ∷ [])) → ⊥
  pub falling_numbers : IsConsistent (referring (reference 1 ∷ reference 2 ∷ []) (2 ∷ 1 ∷ [])) → ⊥
  pub uncounted : IsConsistent (referring (reference 1 ∷ []) (2 ∷ [])) → ⊥
  -- no promise is a number that no value has. No deferred is of a value that is no promise, nor of one that is settled, and no two are of the same
  pub dead : IsConsistent (promising (promise no_promise 0 ∷ []) [] []) → ⊥
  pub unpromised : IsConsistent (promising (promise pending_value 0 ∷ []) (deferred 1 null_value ∷ []) (1 ∷ [])) → ⊥
  pub settled : (value state : ℕ) → IsConsistent (promising (promise value (state + 1) ∷ []) (deferred 1 value ∷ []) (1 ∷ [])) → ⊥
  pub shared : IsConsistent (promising (promise pending_value 0 ∷ []) (deferred 1 pending_value ∷ deferred 2 pending_value ∷ []) (1 ∷ 2 ∷ [])) → ⊥
  -- nothing settled the promise of a deferred, and something did one that is settled
  pub linked : IsConsistent (promising (promise settled_value 0 ∷ []) (deferred 1 settled_value ∷ []) (1 ∷ [])) → ⊥
  pub unlinked : (state : ℕ) → IsConsistent (promising (promise pending_value (state + 1) ∷ []) [] []) → ⊥
  -- no reactions lie by falling ticket, and none is one twice, neither of one promise nor of two
  pub falling_reactions : IsConsistent (promising (reacting settled_value 1 (2 ∷ 1 ∷ []) ∷ []) [] []) → ⊥
  pub reacts_twice : (ticket : ℕ) → IsConsistent (promising (reacting settled_value 1 (ticket ∷ ticket ∷ []) ∷ []) [] []) → ⊥
  pub shared_reaction : (ticket : ℕ)
      → IsConsistent (promising (reacting settled_value 1 (ticket ∷ []) ∷ reacting pending_value 0 (ticket ∷ []) ∷ []) [] []) → ⊥
  -- no promises lie by falling number of their values, no deferreds and no numbers that were issued by falling number, and no deferred's number was not issued
  pub falling_promises : IsConsistent (promising (promise pending_value 0 ∷ promise settled_value 1 ∷ []) [] []) → ⊥
  pub falling_deferreds : IsConsistent (promising
      (promise undefined_value 0 ∷ promise null_value 0 ∷ [])
      (deferred 2 undefined_value ∷ deferred 1 null_value ∷ [])
      (1 ∷ 2 ∷ [])) → ⊥
  pub falling_issued : IsConsistent (promising [] [] (2 ∷ 1 ∷ [])) → ⊥
  pub unissued_deferred : IsConsistent (promising (promise pending_value 0 ∷ []) (deferred 1 pending_value ∷ []) (2 ∷ [])) → ⊥
  -- no buffer and no view is a number that no value has, and none lie by falling number of their values
  pub dead_buffer : (size : ℕ) → IsConsistent (buffering (zeros_of no_buffer size None ∷ []) [] []) → ⊥
  pub dead_view : IsConsistent (buffering (zeros_of buffer_number 8 None ∷ []) (element_of no_buffer buffer_number 4 4 ∷ []) []) → ⊥
  pub falling_buffers : IsConsistent (buffering (zeros_of view_number 8 None ∷ zeros_of buffer_number 8 None ∷ []) [] []) → ⊥
  pub falling_views : IsConsistent (buffering
      (zeros_of buffer_number 8 None ∷ [])
      (element_of view_number buffer_number 4 4 ∷ element_of buffer_number buffer_number 4 4 ∷ [])
      []) → ⊥
  -- no view is one of a buffer that is not its link, nor of one that was freed
  pub unlinked_view : IsConsistent (buffering (zeros_of undefined_value 8 None ∷ []) (element_of view_number undefined_value 4 4 ∷ []) []) → ⊥
  pub freed : IsConsistent (buffering [] (element_of view_number buffer_number 4 4 ∷ []) []) → ⊥
  -- none ends past its buffer, and no element has three bytes
  pub past_end : (offset : ℕ) → 4 < offset
      → IsConsistent (buffering (zeros_of buffer_number 8 None ∷ []) (element_of view_number buffer_number 4 offset ∷ []) []) → ⊥
  pub odd_size : IsConsistent (buffering (zeros_of buffer_number 8 None ∷ []) (element_of view_number buffer_number 3 0 ∷ []) []) → ⊥
  -- no buffer has more bytes than one may have, nor two of them more than all may have together
  pub past_limit : (n : ℕ) → most_buffer_bytes < n → IsConsistent (buffering (zeros_of buffer_number n None ∷ []) [] []) → ⊥
  pub past_sum : (m n : ℕ) → most_bytes_together < m + n
      → IsConsistent (buffering (zeros_of buffer_number m None ∷ zeros_of view_number n None ∷ []) [] []) → ⊥
  -- no finalizer of a buffer is attached to nothing, or to another value
  pub unattached : (ticket : ℕ) → IsConsistent (buffering (zeros_of buffer_number 8 (Some ticket) ∷ []) [] []) → ⊥
  pub attached_elsewhere : IsConsistent (buffering (zeros_of buffer_number 8 (Some 1) ∷ []) [] (finalizing_value view_number 1 ∷ [])) → ⊥
  -- a starting value is there
  pub starting : IsConsistent (in_init_frame (record (holding []) { values = [] })) → ⊥
  -- no frame is without scopes, and one more than may stand does not
  pub scopes : IsConsistent (in_init_frame new_heap) → ⊥
  pub depth : IsConsistent (deep (most_frames + 1)) → ⊥
