-- What a run tells of array buffers and their views, and what may be told after what was told before: all views of a buffer read and write the same bytes.
use Rattle.std.specs.Prelude.{◌≡◌, ℕ, ◌+◌, ◌-◌, ◌*◌, ◌%◌, ◌^◌, ◌==◌, ◌<◌, ◌≤◌, nat_lt, nat_le, Bool, false, true, cond, ◌&&◌, List, [], ◌∷◌, ◌++◌, flat_map, Option, Some, None, option_map}
use Rattle.std.specs.Int.{byte_at}
use Rattle.std.specs.List.{last_or}
use Rattle.std.specs.Option.{unwrap_or}
use Rattle.napi_types.specs.declared.call.Ask.{Ask}
use Rattle.napi_types.specs.declared.call.Call.{Call}
use Rattle.napi_types.specs.declared.call.Call.TheVariants as call
use Rattle.napi_types.specs.declared.entry.Entry.{Entry}
use Rattle.napi_types.specs.declared.entry.Out.{Out}
use Rattle.napi_types.specs.declared.entry.Out.TheVariants as out
use Rattle.napi_types.specs.declared.entry.Reply.{Reply}
use Rattle.napi_types.specs.declared.entry.What.{What}
use Rattle.napi_types.specs.declared.entry.What.TheVariants as what
use Rattle.napi_types.specs.plain.Lists.{found, has, has_number}
use Rattle.napi_types.specs.plain.Replies.{if_accepted}
use Rattle.napi_types.specs.parts.Buffers.{IsElementSize}
use Rattle.napi_types.specs.parts.Heap.{Heap, handle_value}
use Rattle.napi_types.specs.environment.BufferCalls.{element_size}
use Rattle.napi_types.specs.runs.Machine.{Machine}
use Rattle.napi_types.specs.runs.Run.{after}
use Rattle.napi_types.specs.runs.Setting.{Setting, opening_of, RunsBy}

-- WHAT IS TOLD
-- a buffer that is made, and how many bytes it has
pub record MadeBuffer : Type 0 where
  pub buffer : ℕ
  pub length : ℕ

-- a view that is made: its buffer, how many bytes an element has, the place of the buffer where it begins, and how many elements it has
pub record MadeView : Type 0 where
  pub view : ℕ
  pub buffer : ℕ
  pub size : ℕ
  pub offset : ℕ
  pub length : ℕ

-- an element of a view that is written: the view, the element's index, and the number
pub record WrittenElement : Type 0 where
  pub view : ℕ
  pub at : ℕ
  pub number : ℕ

-- what a run tells of buffers and views, which are told by their creation numbers
pub data BufferFact : Type 0 where
  -- a buffer is made, of so many bytes; and a view
  MakesBuffer : ℕ → ℕ → BufferFact
  MakesView : MadeView → BufferFact
  -- a number is written as an element of a view, and one is read: the view, the element's index, and the number
  Writes : ℕ → ℕ → ℕ → BufferFact
  Reads : ℕ → ℕ → ℕ → BufferFact
  -- a buffer is detached; and one is told to have so many bytes
  Detaches : ℕ → BufferFact
  Measures : ℕ → ℕ → BufferFact

-- a new buffer of so many bytes, with the heap after the call and its result
abbrev pub told_buffer : ℕ → Heap → Out → List BufferFact
told_buffer size heap (out.Handle h) = MakesBuffer (handle_value heap h.0) size ∷ []
told_buffer size heap o = []

-- a new view of so many elements of this size, where there is such a size, from this place of the buffer on
abbrev pub told_view : Option ℕ → ℕ → ℕ → ℕ → Heap → Out → List BufferFact
told_view (Some size) b offset count heap (out.Handle h) =
    MakesView (record { view = handle_value heap h.0; buffer = b; size = size; offset = offset; length = count }) ∷ []
told_view size b offset count heap o = []

-- the number that is read as an element
abbrev pub told_element : ℕ → ℕ → Out → List BufferFact
told_element v at (out.Unsigned n) = Reads v at n ∷ []
told_element v at o = []

-- how many bytes a buffer is told to have
abbrev pub told_measure : ℕ → Out → List BufferFact
told_measure b (out.Unsigned n) = Measures b n ∷ []
told_measure b o = []

-- a call that was accepted, between these machines
abbrev pub told_of_buffers : Machine → Call → Reply → Machine → List BufferFact
told_of_buffers m (call.CreateArraybuffer size) r n = told_buffer size n.env.heap r.out
told_of_buffers m (call.CreateExternalArraybuffer size payload entry hint) r n = told_buffer size n.env.heap r.out
told_of_buffers m (call.CreateTypedarray kind h offset count) r n =
    told_view (element_size kind) (handle_value m.env.heap h.0) offset count n.env.heap r.out
told_of_buffers m (call.SetView h at number) r n = Writes (handle_value m.env.heap h.0) at number ∷ []
told_of_buffers m (call.GetView h at) r n = told_element (handle_value m.env.heap h.0) at r.out
told_of_buffers m (call.DetachArraybuffer h) r n = Detaches (handle_value m.env.heap h.0) ∷ []
told_of_buffers m (call.GetArraybufferInfo h) r n = told_measure (handle_value m.env.heap h.0) r.out
told_of_buffers m c r n = []

-- what an entry tells: between the machine before it and the machine after it
abbrev pub bytes_told_by : Machine → Entry → Machine → What → List BufferFact
bytes_told_by m x n (what.Call c) = if_accepted x.reply.status (told_of_buffers m c x.reply n)
bytes_told_by m x n (what.Host event) = []

-- what a run tells, in its order
abbrev pub bytes_told_along : Machine → List Ask → List Entry → List BufferFact
bytes_told_along m (a ∷ bs) (x ∷ xs) = bytes_told_by m x (after m a x) x.what ++ bytes_told_along (after m a x) bs xs
bytes_told_along m _ _ = []

-- WHAT WAS TOLD
-- what one thing that is told tells of each
abbrev pub buffer_in_fact : BufferFact → List MadeBuffer
buffer_in_fact (MakesBuffer b n) = record { buffer = b; length = n } ∷ []
buffer_in_fact _ = []

abbrev pub view_in_fact : BufferFact → List MadeView
view_in_fact (MakesView w) = w ∷ []
view_in_fact _ = []

abbrev pub written_in_fact : BufferFact → List WrittenElement
written_in_fact (Writes v at n) = record { view = v; at = at; number = n } ∷ []
written_in_fact _ = []

abbrev pub detached_in_fact : BufferFact → List ℕ
detached_in_fact (Detaches b) = b ∷ []
detached_in_fact _ = []

-- all that was told of each, in its order
abbrev pub all_buffers : List BufferFact → List MadeBuffer
all_buffers told = flat_map buffer_in_fact told

abbrev pub all_views : List BufferFact → List MadeView
all_views told = flat_map view_in_fact told

abbrev pub all_written : List BufferFact → List WrittenElement
all_written told = flat_map written_in_fact told

abbrev pub all_detached : List BufferFact → List ℕ
all_detached told = flat_map detached_in_fact told

-- a buffer was detached
abbrev pub was_detached : List BufferFact → ℕ → Bool
was_detached told b = has_number b (all_detached told)

-- a buffer or a view has this number
abbrev pub was_made : List BufferFact → ℕ → Bool
was_made told v = has (λ m. m.buffer) v (all_buffers told)

abbrev pub was_viewed : List BufferFact → ℕ → Bool
was_viewed told v = has (λ w. w.view) v (all_views told)

-- how many bytes a buffer has, none once it is detached
abbrev pub told_length : List BufferFact → ℕ → Option ℕ
told_length told b = option_map (λ m. cond (was_detached told b) 0 m.length) (found (λ m. m.buffer) b (all_buffers told))

-- THE BYTES
-- the place of the buffer where an element of a view begins
abbrev pub element_place : MadeView → ℕ → ℕ
element_place w at = w.offset + at * w.size

-- the element lies on this place
abbrev pub lies_on : MadeView → ℕ → ℕ → Bool
lies_on w at place = nat_le (element_place w at) place && nat_lt place (element_place w at + w.size)

-- the byte that is put at a place of a buffer by a write through a view, where one is: the number's least byte at the element's first place, and so on
abbrev pub put_through : ℕ → ℕ → WrittenElement → Option MadeView → List ℕ
put_through b place e None = []
put_through b place e (Some w) = cond ((w.buffer == b) && lies_on w e.at place) (byte_at (place - element_place w e.at) e.number ∷ []) []

-- the bytes that were put there by these writes, through these views
abbrev pub bytes_put : List MadeView → List WrittenElement → ℕ → ℕ → List ℕ
bytes_put views written b place = flat_map (λ e. put_through b place e (found (λ w. w.view) e.view views)) written

-- the byte at a place of a buffer: the last one that was put there, 0 where none was
abbrev pub told_byte : List BufferFact → ℕ → ℕ → ℕ
told_byte told b place = unwrap_or (last_or None (bytes_put (all_views told) (all_written told) b place)) 0

-- WHAT MAY BE TOLD
-- a view was made that has an element of this index, and its buffer was not detached
pub record HasElement (before : List BufferFact) (w : MadeView) (v at : ℕ) : Type 0 where
  pub made : found (λ w. w.view) v (all_views before) ≡ Some w
  pub below : at < w.length
  pub live : was_detached before w.buffer ≡ false

-- a number is the one whose bytes, as many as the element has and the least first, lie at the element's places
pub record HasTheBytes (before : List BufferFact) (w : MadeView) (at number : ℕ) : Type 0 where
  pub small : number < 256 ^ w.size
  pub bytes : (k : ℕ) → k < w.size → byte_at k number ≡ told_byte before w.buffer (element_place w at + k)

-- a view lies in its buffer: it begins at a multiple of its elements' size, and does not end past the buffer's end
pub record LiesWithin (before : List BufferFact) (w : MadeView) : Type 0 where
  pub size : IsElementSize w.size
  pub aligned : w.offset % w.size ≡ 0
  pub length : ℕ
  pub has : told_length before w.buffer ≡ Some length
  pub within : element_place w w.length ≤ length

-- what may be told after all that was told before
pub data FollowsBytes (before : List BufferFact) : BufferFact → Type 0 where
  -- a buffer is made that is new
  makes_bytes : (b n : ℕ) → was_made before b ≡ false → was_viewed before b ≡ false → FollowsBytes before (MakesBuffer b n)
  -- a view is made that is new, and lies in a buffer that was made
  makes_window : (w : MadeView) → was_made before w.view ≡ false → was_viewed before w.view ≡ false → LiesWithin before w → FollowsBytes before (MakesView w)
  -- an element is written that a view has
  writes_element : (v at n : ℕ) (w : MadeView) → HasElement before w v at → FollowsBytes before (Writes v at n)
  -- an element is read that a view has: the number whose bytes were last written at its places
  reads_element : (v at n : ℕ) (w : MadeView) → HasElement before w v at → HasTheBytes before w at n → FollowsBytes before (Reads v at n)
  -- a buffer is detached that was made and was not detached
  detaches_bytes : (b : ℕ) → was_made before b ≡ true → was_detached before b ≡ false → FollowsBytes before (Detaches b)
  -- a buffer is told to have as many bytes as it was made with, and none once it is detached
  measures_bytes : (b n : ℕ) → told_length before b ≡ Some n → FollowsBytes before (Measures b n)

-- THE LAW
-- all that is told may be told where it is
abbrev pub SharesBytes : List BufferFact → Type 0
SharesBytes told = (before later : List BufferFact) (e : BufferFact) → told ≡ before ++ e ∷ later → FollowsBytes before e

-- in every run of a script
abbrev pub ViewsShareBytes : Type 0
ViewsShareBytes = (s : Setting) (bs : List Ask) (xs : List Entry) → RunsBy s bs xs → SharesBytes (bytes_told_along (opening_of s) bs xs)
