-- What a run tells of how long buffers and their views live, and of finalizers that begin; and what may be told after what was told before.
use Rattle.std.specs.Prelude.{◌≡◌, ◌⊎◌, ℕ, Bool, true, false, List, [], ◌∷◌, ◌++◌, filter, flat_map, Option, Some, IfSome}
use Rattle.std.specs.List.{All, list_any}
use Rattle.napi_types.specs.declared.call.Ask.{Ask}
use Rattle.napi_types.specs.declared.call.Call.{Call}
use Rattle.napi_types.specs.declared.call.Call.TheVariants as call
use Rattle.napi_types.specs.declared.entry.Cause.TheVariants as cause
use Rattle.napi_types.specs.declared.entry.Duty.{Duty}
use Rattle.napi_types.specs.declared.entry.Duty.TheVariants as duty
use Rattle.napi_types.specs.declared.entry.Entry.{Entry}
use Rattle.napi_types.specs.declared.entry.HostStep.TheVariants as host
use Rattle.napi_types.specs.declared.entry.Out.{Out}
use Rattle.napi_types.specs.declared.entry.Out.TheVariants as out
use Rattle.napi_types.specs.declared.entry.Reply.{Reply}
use Rattle.napi_types.specs.declared.entry.What.{What}
use Rattle.napi_types.specs.declared.entry.What.TheVariants as what
use Rattle.napi_types.specs.plain.Lists.{found, has, has_number}
use Rattle.napi_types.specs.plain.Replies.{if_accepted}
use Rattle.napi_types.specs.parts.Heap.{Heap, handle_value}
use Rattle.napi_types.specs.parts.Reach.{numbers}
use Rattle.napi_types.specs.runs.Machine.{Machine}
use Rattle.napi_types.specs.runs.Run.{after}
use Rattle.napi_types.specs.runs.Setting.{Setting, opening_of, RunsBy}

-- WHAT IS TOLD
-- an external buffer, and the ticket of its finalizer; and a view with its buffer
pub record ExternalBuffer : Type 0 where
  pub buffer : ℕ
  pub ticket : ℕ

pub record ViewOfBuffer : Type 0 where
  pub view : ℕ
  pub buffer : ℕ

-- what a run tells of it: buffers and views by their creation numbers
pub data LifeFact : Type 0 where
  -- a buffer is made, or an external one; and a view
  GivesBuffer : ℕ → LifeFact
  GivesExternal : ExternalBuffer → LifeFact
  GivesView : ViewOfBuffer → LifeFact
  -- a collection, after which the values of these numbers are there
  Leaves : List ℕ → LifeFact
  -- `finals` comes; and the frame of a finalizer's ticket begins
  ComesToFinals : LifeFact
  Finalizes : ℕ → LifeFact

-- the result of a call that makes a buffer, with the heap after it, and the duty that the call makes, where it makes one
abbrev pub told_given : Heap → Out → Option Duty → List LifeFact
told_given heap (out.Handle h) (Some (duty.Ticket t)) = GivesExternal (record { buffer = handle_value heap h.0; ticket = t.0 }) ∷ []
told_given heap (out.Handle h) made = GivesBuffer (handle_value heap h.0) ∷ []
told_given heap o made = []

-- that of a call that makes a view of a buffer
abbrev pub told_window : ℕ → Heap → Out → List LifeFact
told_window b heap (out.Handle h) = GivesView (record { view = handle_value heap h.0; buffer = b }) ∷ []
told_window b heap o = []

-- a call that was accepted, between these machines
abbrev pub told_of_lives : Machine → Call → Reply → Machine → List LifeFact
told_of_lives m (call.CreateArraybuffer size) r n = told_given n.env.heap r.out r.made
told_of_lives m (call.CreateExternalArraybuffer size payload entry hint) r n = told_given n.env.heap r.out r.made
told_of_lives m (call.CreateTypedarray kind h offset count) r n = told_window (handle_value m.env.heap h.0) n.env.heap r.out
told_of_lives m call.Collect r n = Leaves (numbers n.env.heap.values) ∷ []
told_of_lives m c r n = []

-- the begin of a finalizer's frame
abbrev pub told_finalizer : Out → List LifeFact
told_finalizer (out.Begin cause.Finalize addon entry (Some (duty.Ticket t))) = Finalizes t.0 ∷ []
told_finalizer o = []

-- what an entry tells: between the machine before it and the machine after it
abbrev pub lives_told_by : Machine → Entry → Machine → What → List LifeFact
lives_told_by m x n (what.Call c) = if_accepted x.reply.status (told_of_lives m c x.reply n)
lives_told_by m x n (what.Host host.Finals) = ComesToFinals ∷ []
lives_told_by m x n (what.Host host.Begin) = told_finalizer x.reply.out
lives_told_by m x n (what.Host event) = []

-- what a run tells, in its order
abbrev pub lives_told_along : Machine → List Ask → List Entry → List LifeFact
lives_told_along m (a ∷ bs) (x ∷ xs) = lives_told_by m x (after m a x) x.what ++ lives_told_along (after m a x) bs xs
lives_told_along m _ _ = []

-- WHAT WAS TOLD
-- the buffers and views that live after one thing more: one that is made does, and a collection leaves those that are there after it
abbrev pub living_after : List ℕ → LifeFact → List ℕ
living_after vs (GivesBuffer b) = b ∷ vs
living_after vs (GivesExternal x) = x.buffer ∷ vs
living_after vs (GivesView w) = w.view ∷ vs
living_after vs (Leaves ns) = filter (λ v. has_number v ns) vs
living_after vs _ = vs

-- those that live after all that was told, where these lived before
abbrev pub living_from : List ℕ → List LifeFact → List ℕ
living_from vs [] = vs
living_from vs (x ∷ told) = living_from (living_after vs x) told

-- a buffer or a view lives: it was made, and no collection since then left it out
abbrev pub lives_on : List LifeFact → ℕ → Bool
lives_on told v = has_number v (living_from [] told)

abbrev pub external_in_fact : LifeFact → List ExternalBuffer
external_in_fact (GivesExternal x) = x ∷ []
external_in_fact _ = []

abbrev pub window_in_fact : LifeFact → List ViewOfBuffer
window_in_fact (GivesView w) = w ∷ []
window_in_fact _ = []

abbrev pub is_to_finals : LifeFact → Bool
is_to_finals ComesToFinals = true
is_to_finals _ = false

-- all external buffers and all views that were made, and whether `finals` came
abbrev pub all_external : List LifeFact → List ExternalBuffer
all_external told = flat_map external_in_fact told

abbrev pub all_windows : List LifeFact → List ViewOfBuffer
all_windows told = flat_map window_in_fact told

abbrev pub finals_told : List LifeFact → Bool
finals_told told = list_any is_to_finals told

-- WHAT MAY BE TOLD
-- a view that lives and is left has its buffer left too
abbrev pub LeavesItsBuffer : List LifeFact → List ℕ → ViewOfBuffer → Type 0
LeavesItsBuffer before ns w = lives_on before w.view ≡ true → has_number w.view ns ≡ true → has_number w.buffer ns ≡ true

-- the buffer lives no more, or `finals` came
abbrev pub HasNoBufferLeft : List LifeFact → ExternalBuffer → Type 0
HasNoBufferLeft before x = (lives_on before x.buffer ≡ false) ⊎ (finals_told before ≡ true)

-- what may be told after all that was told before
pub data FollowsLives (before : List LifeFact) : LifeFact → Type 0 where
  -- a buffer is made; an external one has a new ticket
  gives_buffer : (b : ℕ) → FollowsLives before (GivesBuffer b)
  gives_external : (x : ExternalBuffer) → has (λ y. y.ticket) x.ticket (all_external before) ≡ false → FollowsLives before (GivesExternal x)
  -- a view is made of a buffer that lives
  gives_view : (w : ViewOfBuffer) → lives_on before w.buffer ≡ true → FollowsLives before (GivesView w)
  -- a collection leaves the buffer of each view that it leaves
  leaves_buffers : (ns : List ℕ) → All (LeavesItsBuffer before ns) (all_windows before) → FollowsLives before (Leaves ns)
  comes_to_finals : FollowsLives before ComesToFinals
  -- the finalizer of an external buffer begins only once the buffer lives no more, or `finals` came
  finalizes_late : (t : ℕ) → IfSome (found (λ x. x.ticket) t (all_external before)) (HasNoBufferLeft before) → FollowsLives before (Finalizes t)

-- THE LAW
-- all that is told may be told where it is
abbrev pub OutlivesViews : List LifeFact → Type 0
OutlivesViews told = (before later : List LifeFact) (e : LifeFact) → told ≡ before ++ e ∷ later → FollowsLives before e

-- in every run of a script
abbrev pub BuffersOutliveViews : Type 0
BuffersOutliveViews = (s : Setting) (bs : List Ask) (xs : List Entry) → RunsBy s bs xs → OutlivesViews (lives_told_along (opening_of s) bs xs)
