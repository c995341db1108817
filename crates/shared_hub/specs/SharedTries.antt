-- Shared calls of the environment and calls of threads, as they are handed to the hub, and why one may stop.
use Rattle.std.specs.Prelude.{◌≡◌, ◌≢◌, ℕ, ◌+◌, ◌<◌, ◌⊎◌, Bool, true, false, ◌&&◌, IsTrue, min, Option, Some, None, is_some, is_none}
use Rattle.napi_types.specs.declared.call.Call.{Call}
use Rattle.napi_types.specs.declared.call.Call.TheVariants as call
use Rattle.napi_types.specs.declared.entry.Actor.{Actor}
use Rattle.napi_types.specs.declared.entry.Actor.TheVariants as actor
use Rattle.napi_types.specs.declared.entry.Entry.{Entry}
use Rattle.napi_types.specs.declared.entry.Given.{Given}
use Rattle.napi_types.specs.declared.entry.Out.{Out}
use Rattle.napi_types.specs.declared.entry.Out.TheVariants as out
use Rattle.napi_types.specs.declared.entry.Reply.{Reply}
use Rattle.napi_types.specs.declared.entry.SharedCall.{SharedCall}
use Rattle.napi_types.specs.declared.entry.What.TheVariants as what
use Rattle.napi_types.specs.declared.entry.Why.{Why}
use Rattle.napi_types.specs.declared.entry.Why.TheVariants as why
use Rattle.napi_types.specs.declared.status.Status.{Status}
use Rattle.napi_types.specs.declared.status.Status.TheVariants as status
use Rattle.napi_types.specs.plain.Guards.{is_growing}
use Rattle.napi_types.specs.plain.Replies.{plain}
use Rattle.napi_types.specs.plain.Room.{Room, need, first_places, is_full}
use Rattle.napi_types.specs.parts.Pool.{executed_by}
use Rattle.napi_types.specs.hub.Hub.{Hub}
use Rattle.napi_types.specs.hub.ThreadSteps.{is_thread_there}
use Rattle.napi_types.specs.hub.WorkerSteps.{is_worker_there}
use Rattle.shared_hub.specs.HubParts.{HubParts, AnswersWith, WouldAccept}

-- WHAT THE ENVIRONMENT HANDS OVER
abbrev pub given_by : SharedCall → Given
given_by s = record { addon = s.addon; target = s.target; refused = s.refused }

-- the environment refuses a shared call with 1 or with 9, where it refuses it
abbrev pub IsOwnRefusal : Option Status → Type 0
IsOwnRefusal refused = (refused ≡ None) ⊎ (refused ≡ Some status.InvalidArg) ⊎ (refused ≡ Some status.GenericFailure)

abbrev pub is_making_function : Call → Bool
is_making_function (call.CreateThreadsafeFunction _ _ _ _ _ _) = true
is_making_function _ = false

-- it names a target exactly where a function is to be made
abbrev pub NamesTarget : SharedCall → Type 0
NamesTarget s = is_some s.target ≡ (is_making_function s.call && is_none s.refused)

-- at first a thread holds a function that is to be made
abbrev pub IsHeldAtFirst : Call → Type 0
IsHeldAtFirst (call.CreateThreadsafeFunction _ _ _ count _ _) = 0 < count
IsHeldAtFirst _ = Unit {0}

-- the reply to a shared call: the environment's own refusal, which changes nothing, or the hub's answer
abbrev pub RepliesBy : Option Status → HubParts → SharedCall → Reply → HubParts → Type 0
RepliesBy (Some s) old c r new = (r ≡ plain s out.Nothing) × (new ≡ old)
RepliesBy None old c r new = AnswersWith old actor.Env (given_by c) c.call r new

abbrev pub RepliesTo : HubParts → SharedCall → Reply → HubParts → Type 0
RepliesTo old c r new = RepliesBy c.refused old c r new

-- THREADS
-- the entry of a call of a thread, with its number in the thread's script
abbrev pub thread_entry : ℕ → ℕ → Call → Reply → Entry
thread_entry thread step c r = record { actor = actor.Thread thread; depth = 0; step = step; what = what.Call c; reply = r; given = None }

-- how a thread or a worker ends: after its last operation, or cut at one
abbrev pub actor_end_told : Option Why → Out
actor_end_told None = out.Nothing
actor_end_told (Some w) = out.Cut w

-- the thread or the worker may end now: a worker once no work starts any more, where it executes none
abbrev pub MayEnd : Hub → Actor → Option Why → Type 0
MayEnd h actor.Env cut = ⊥
MayEnd h (actor.Thread t) cut = IsTrue (is_thread_there h t) × (cut ≢ Some why.Asks)
MayEnd h (actor.Worker w) cut = IsTrue (is_worker_there h w) × (h.pool.closing ≡ true) × (executed_by h.pool w ≡ None) × (cut ≡ None)

-- WHY A CALL MAY STOP
-- it grows, and the hub would accept it
pub record GrowsAccepted (h : Hub) (who : Actor) (g : Given) (c : Call) : Type 0 where
  pub grows : IsTrue (is_growing c)
  pub unrefused : g.refused ≡ None
  pub accepted : WouldAccept h who g c

-- it finds no memory only where it has room, and only to grow or for places behind the first
pub record MayFindNoMemory (room : Room) (h : Hub) (who : Actor) (g : Given) (c : Call) : Type 0 where
  pub fits : is_full room c ≡ false
  pub wants : GrowsAccepted h who g c ⊎ (min first_places room.limit < room.occupied + need c)
