-- What a run tells of promises and their reactions, and what may be told after what was told before.
use Rattle.std.specs.Prelude.{◌≡◌, ◌⊎◌, ℕ, ◌==◌, Bool, true, false, List, [], ◌∷◌, ◌++◌, map, filter, flat_map, Option, Some, option_map}
use Rattle.std.specs.List.{All, list_any}
use Rattle.std.specs.Option.{option_and_then, unwrap_or}
use Rattle.napi_types.specs.declared.call.Ask.{Ask}
use Rattle.napi_types.specs.declared.call.Call.{Call}
use Rattle.napi_types.specs.declared.call.Call.TheVariants as call
use Rattle.napi_types.specs.declared.duties.DueInfo.{DueInfo}
use Rattle.napi_types.specs.declared.entry.Cause.TheVariants as cause
use Rattle.napi_types.specs.declared.entry.Duty.{Duty}
use Rattle.napi_types.specs.declared.entry.Duty.TheVariants as duty
use Rattle.napi_types.specs.declared.entry.Entry.{Entry}
use Rattle.napi_types.specs.declared.entry.HostStep.TheVariants as host
use Rattle.napi_types.specs.declared.entry.Out.{Out}
use Rattle.napi_types.specs.declared.entry.Out.TheVariants as out
use Rattle.napi_types.specs.declared.entry.Reply.{Reply}
use Rattle.napi_types.specs.declared.entry.What.{What}
use Rattle.napi_types.specs.declared.entry.What.TheVariants as what
use Rattle.napi_types.specs.plain.Lists.{found, has, has_number, head, tail}
use Rattle.napi_types.specs.plain.Replies.{if_accepted}
use Rattle.napi_types.specs.parts.Frames.{duty_of, ticket_of}
use Rattle.napi_types.specs.parts.Heap.{Heap, handle_value}
use Rattle.napi_types.specs.environment.PromiseCalls.{resolved, rejected}
use Rattle.napi_types.specs.runs.Begins.{begun_info}
use Rattle.napi_types.specs.runs.Machine.{Machine}
use Rattle.napi_types.specs.runs.Run.{after}
use Rattle.napi_types.specs.runs.Setting.{Setting, opening_of, EndsBy}

-- WHAT IS TOLD
-- what a run tells of promises. A promise and a value are told by their creation numbers, a deferred and a reaction's ticket by their numbers
pub data PromiseFact : Type 0 where
  -- a deferred is made, with its promise; and one is settled, with a state, 1 resolved or 2 rejected, and with a value
  Makes : ℕ → ℕ → PromiseFact
  Settles : ℕ → ℕ → ℕ → PromiseFact
  -- a reaction is added to a promise, and gets a ticket
  Adds : ℕ → ℕ → PromiseFact
  -- `finals` comes
  FinalsCome : PromiseFact
  -- the frame of a reaction's ticket begins, and is given a state; and the frame of a ticket is told a value
  Begins : ℕ → ℕ → PromiseFact
  Tells : ℕ → ℕ → PromiseFact

-- the result of `create_promise`, with the heap after it
abbrev pub told_made : Heap → Out → List PromiseFact
told_made heap (out.Promise d h) = Makes d.0 (handle_value heap h.0) ∷ []
told_made heap o = []

-- the duty that `add_reaction` to a promise makes
abbrev pub told_added : ℕ → Option Duty → List PromiseFact
told_added p (Some (duty.Ticket t)) = Adds p t.0 ∷ []
told_added p made = []

-- the result of `get_reaction_value` in the frame of this ticket, with the heap after it
abbrev pub told_read : Option ℕ → Heap → Out → List PromiseFact
told_read (Some t) heap (out.Handle h) = Tells t (handle_value heap h.0) ∷ []
told_read _ heap o = []

-- a call that was accepted, between these machines
abbrev pub told_call : Machine → Call → Reply → Machine → List PromiseFact
told_call m call.CreatePromise r n = told_made n.env.heap r.out
told_call m (call.ResolveDeferred d h) r n = Settles d.0 resolved (handle_value m.env.heap h.0) ∷ []
told_call m (call.RejectDeferred d h) r n = Settles d.0 rejected (handle_value m.env.heap h.0) ∷ []
told_call m (call.AddReaction h entry payload) r n = told_added (handle_value m.env.heap h.0) r.made
told_call m call.GetReactionValue r n = told_read (ticket_of (duty_of m.env.frames)) n.env.heap r.out
told_call m c r n = []

-- the state that a duty gives to the frame of a reaction: its second gift
abbrev pub state_given : DueInfo → ℕ
state_given d = unwrap_or (head (tail d.gifts)) 0

-- the begin of a reaction's frame, which is given this state
abbrev pub told_begun : ℕ → Out → List PromiseFact
told_begun state (out.Begin cause.Reaction addon entry (Some (duty.Ticket t))) = Begins t.0 state ∷ []
told_begun state o = []

-- what an entry tells: between the machine before it and the machine after it
abbrev pub told_by : Machine → Entry → Machine → What → List PromiseFact
told_by m x n (what.Call c) = if_accepted x.reply.status (told_call m c x.reply n)
told_by m x n (what.Host host.Finals) = FinalsCome ∷ []
told_by m x n (what.Host host.Begin) = told_begun (unwrap_or (option_map state_given (begun_info m x)) 0) x.reply.out
told_by m x n (what.Host event) = []

abbrev pub told_of : Machine → Entry → Machine → List PromiseFact
told_of m x n = told_by m x n x.what

-- what a run tells, in its order
abbrev pub told_along : Machine → List Ask → List Entry → List PromiseFact
told_along m (a ∷ bs) (x ∷ xs) = told_of m x (after m a x) ++ told_along (after m a x) bs xs
told_along m _ _ = []

-- WHAT WAS TOLD
-- a deferred and its promise; a deferred that was settled, and how; a reaction's ticket, and the promise to which it was added
pub record MadeDeferred : Type 0 where
  pub deferred : ℕ
  pub promise : ℕ

pub record SettledDeferred : Type 0 where
  pub deferred : ℕ
  pub state : ℕ
  pub value : ℕ

pub record AddedReaction : Type 0 where
  pub ticket : ℕ
  pub promise : ℕ

-- what one thing that is told tells of each
abbrev pub made_in_fact : PromiseFact → List MadeDeferred
made_in_fact (Makes d p) = record { deferred = d; promise = p } ∷ []
made_in_fact _ = []

abbrev pub settled_in_fact : PromiseFact → List SettledDeferred
settled_in_fact (Settles d state v) = record { deferred = d; state = state; value = v } ∷ []
settled_in_fact _ = []

abbrev pub added_in_fact : PromiseFact → List AddedReaction
added_in_fact (Adds p t) = record { ticket = t; promise = p } ∷ []
added_in_fact _ = []

abbrev pub begun_in_fact : PromiseFact → List ℕ
begun_in_fact (Begins t state) = t ∷ []
begun_in_fact _ = []

abbrev pub is_of_finals : PromiseFact → Bool
is_of_finals FinalsCome = true
is_of_finals _ = false

-- all that was told of each, in its order; and whether `finals` came
abbrev pub all_made : List PromiseFact → List MadeDeferred
all_made told = flat_map made_in_fact told

abbrev pub all_settled : List PromiseFact → List SettledDeferred
all_settled told = flat_map settled_in_fact told

abbrev pub all_added : List PromiseFact → List AddedReaction
all_added told = flat_map added_in_fact told

abbrev pub all_begun : List PromiseFact → List ℕ
all_begun told = flat_map begun_in_fact told

abbrev pub finals_came : List PromiseFact → Bool
finals_came told = list_any is_of_finals told

-- how a promise was settled: as the deferred was that was made with it, where it was
abbrev pub settlement : List PromiseFact → ℕ → Option SettledDeferred
settlement told p = option_and_then (λ m. found (λ s. s.deferred) m.deferred (all_settled told)) (found (λ m. m.promise) p (all_made told))

-- the state with which a promise was settled, 0 where it was not; and the value
abbrev pub told_state : List PromiseFact → ℕ → ℕ
told_state told p = unwrap_or (option_map (λ s. s.state) (settlement told p)) 0

abbrev pub told_value : List PromiseFact → ℕ → Option ℕ
told_value told p = option_map (λ s. s.value) (settlement told p)

-- the promise to which the reaction of a ticket was added, where one was
abbrev pub promise_under : List PromiseFact → ℕ → Option ℕ
promise_under told t = option_map (λ a. a.promise) (found (λ a. a.ticket) t (all_added told))

-- the tickets of the reactions that were added to a promise, in the order of adding
abbrev pub told_reactions : List PromiseFact → ℕ → List ℕ
told_reactions told p = map (λ a. a.ticket) (filter (λ a. a.promise == p) (all_added told))

-- the frame of a reaction's ticket has begun
abbrev pub has_begun : List PromiseFact → ℕ → Bool
has_begun told t = has_number t (all_begun told)

-- WHAT MAY BE TOLD
-- all reactions have begun that were added to the promise before the one of this ticket
abbrev pub EarlierHaveBegun : List PromiseFact → ℕ → ℕ → Type 0
EarlierHaveBegun told p t = (earlier later : List ℕ) → told_reactions told p ≡ earlier ++ t ∷ later → All (λ n. has_begun told n ≡ true) earlier

-- what may be told after all that was told before
pub data MayBeTold (before : List PromiseFact) : PromiseFact → Type 0 where
  -- a deferred and a promise are made that are new
  makes : (d p : ℕ) → has (λ m. m.deferred) d (all_made before) ≡ false → has (λ m. m.promise) p (all_made before) ≡ false → MayBeTold before (Makes d p)
  -- a deferred is settled that was made and was not settled, and is resolved or rejected
  settles : (d state v : ℕ) → has (λ m. m.deferred) d (all_made before) ≡ true → has (λ s. s.deferred) d (all_settled before) ≡ false
      → (state ≡ resolved) ⊎ (state ≡ rejected) → MayBeTold before (Settles d state v)
  -- a reaction is added to a promise that was made, with a ticket that is new
  adds : (p t : ℕ) → has (λ m. m.promise) p (all_made before) ≡ true → has (λ a. a.ticket) t (all_added before) ≡ false → MayBeTold before (Adds p t)
  -- `finals` comes once
  comes : finals_came before ≡ false → MayBeTold before FinalsCome
  -- the frame of a reaction begins that was added and has not begun, after the earlier ones of its promise. It is given the state with which the promise was
  -- settled; where it was not it is given 0, and only once `finals` came
  begins : (t state p : ℕ) → promise_under before t ≡ Some p → has_begun before t ≡ false → state ≡ told_state before p
      → (state ≡ 0 → finals_came before ≡ true) → EarlierHaveBegun before p t → MayBeTold before (Begins t state)
  -- the frame of a reaction that has begun is told the value that settled its promise
  tells : (t v p : ℕ) → promise_under before t ≡ Some p → has_begun before t ≡ true → told_value before p ≡ Some v → MayBeTold before (Tells t v)

-- THE LAW
-- all that is told may be told where it is, and each reaction that is added begins
pub record SettlesPromises (told : List PromiseFact) : Type 0 where
  pub lawful : (before later : List PromiseFact) (e : PromiseFact) → told ≡ before ++ e ∷ later → MayBeTold before e
  pub begun : All (λ a. has_begun told a.ticket ≡ true) (all_added told)

-- in every run of a script to its end
abbrev pub PromisesAreSettled : Type 0
PromisesAreSettled = (s : Setting) (bs : List Ask) (xs : List Entry) → EndsBy s bs xs → SettlesPromises (told_along (opening_of s) bs xs)
