-- The works and the thread-safe functions of a hub, and what they answer and do.
use Rattle.std.specs.Prelude.{◌≡◌, ℕ, ◌+◌, ◌<◌, ◌≤◌, true, false, List, length, map, sum_by, Option, Some, None, is_some}
use Rattle.std.specs.List.{All}
use Rattle.napi_types.specs.declared.call.Call.{Call}
use Rattle.napi_types.specs.declared.call.Call.TheVariants as call
use Rattle.napi_types.specs.declared.entry.Actor.{Actor}
use Rattle.napi_types.specs.declared.entry.Given.{Given}
use Rattle.napi_types.specs.declared.entry.Reply.{Reply}
use Rattle.napi_types.specs.declared.status.Status.TheVariants as status
use Rattle.napi_types.specs.plain.Replies.{Answer}
use Rattle.napi_types.specs.plain.Room.{most_entries}
use Rattle.napi_types.specs.parts.Functions.{FunctionState, accepted_items, closed, finished}
use Rattle.napi_types.specs.parts.Pool.{WorkPool, drained}
use Rattle.napi_types.specs.hub.GivenSteps.{is_fresh_work, work_number}
use Rattle.napi_types.specs.hub.HistoryRoom.{work_places, function_places}
use Rattle.napi_types.specs.hub.Hub.{Hub}
use Rattle.napi_types.specs.hub.HubCalls.{hub_answer}
use Rattle.napi_types.specs.hub.HubMoves.{HubMove, Delivers, Closes, Finishes, in_tsfn, without_duty}

pub record HubParts : Type 0 where
  pub pool : WorkPool
  -- that of number 1 first
  pub functions : List FunctionState

-- a hub with these works and functions
abbrev pub hub_with : HubParts → Hub → Hub
hub_with p h = record h { pool = p.pool; functions = p.functions }

-- the places of the history that works and functions owe
abbrev pub parts_places : HubParts → ℕ
parts_places p = work_places p.pool + sum_by function_places p.functions

-- works, functions, the items of each that were accepted, and the places that they owe are no more than a history may have
pub record ArePartsWithin (p : HubParts) : Type 0 where
  pub issued : length p.pool.issued ≤ most_entries
  pub numbered : p.pool.numbered ≤ most_entries
  pub functions : length p.functions ≤ most_entries
  pub items : All (λ f. accepted_items f ≤ most_entries) p.functions
  pub places : parts_places p ≤ most_entries

-- CALLS
-- the call is on a function that is there, and neither makes nor calls it
abbrev pub IsOnFunctionThere : Call → Type 0
IsOnFunctionThere (call.AcquireThreadsafeFunction f) = Unit {0}
IsOnFunctionThere (call.ReleaseThreadsafeFunction f m) = Unit {0}
IsOnFunctionThere (call.RefThreadsafeFunction f) = Unit {0}
IsOnFunctionThere (call.UnrefThreadsafeFunction f) = Unit {0}
IsOnFunctionThere (call.GetThreadsafeFunctionContext f) = Unit {0}
IsOnFunctionThere _ = ⊥

-- a work is queued only while works may start
abbrev pub MayQueue : Call → HubParts → Type 0
MayQueue (call.QueueAsyncWork w) p = p.pool.closing ≡ false
MayQueue _ p = Unit {0}

-- a new function has a target, and at first a thread holds it
abbrev pub IsMakeable : Given → Call → Type 0
IsMakeable g (call.CreateThreadsafeFunction f entry maximum count finalizer context) = (is_some g.target ≡ true) × (0 < count)
IsMakeable g _ = Unit {0}

-- whatever hub has them, this is its answer to a call, and this is what the answer leaves of them. A number that it newly gives is fresh
pub record AnswersWith (old : HubParts) (who : Actor) (g : Given) (c : Call) (r : Reply) (new : HubParts) : Type 0 where
  pub answer : (h : Hub) → hub_answer (hub_with old h) who g c (work_number r.out) ≡ Some (record { reply = r; after = hub_with new h })
  pub fresh : (h : Hub) → is_fresh_work (hub_with old h) r.out ≡ true

-- a call that waits changes nothing
pub record MustWait (old : HubParts) (who : Actor) (g : Given) (c : Call) (new : HubParts) : Type 0 where
  pub none : (h : Hub) → hub_answer (hub_with old h) who g c 0 ≡ None
  pub same : new ≡ old

abbrev pub AnswersOrWaits : HubParts → Actor → Given → Call → Option Reply → HubParts → Type 0
AnswersOrWaits old who g c (Some r) new = AnswersWith old who g c r new
AnswersOrWaits old who g c None new = MustWait old who g c new

-- an answer with status 0
abbrev pub IsAcceptance : Option (Answer Hub) → Type 0
IsAcceptance None = ⊥
IsAcceptance (Some a) = a.reply.status ≡ status.Ok

-- the hub would accept the call, whatever number it newly gives
abbrev pub WouldAccept : Hub → Actor → Given → Call → Type 0
WouldAccept h who g c = (n : ℕ) → IsAcceptance (hub_answer h who g c n)

-- MOVES
-- what a move leaves of the hub, but for the frame that begins
abbrev pub after_move : Option HubMove → Hub → Hub
after_move None h = h
after_move (Some (Delivers d)) h = without_duty d.duty h
after_move (Some (Closes n)) h = in_tsfn n closed h
after_move (Some (Finishes n)) h = in_tsfn n finished h

-- what the drain leaves
abbrev pub drained_parts : HubParts → HubParts
drained_parts p = record { pool = drained p.pool; functions = map closed p.functions }
