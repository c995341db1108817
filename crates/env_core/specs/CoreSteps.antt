-- What a step of a frame comes to.
use Rattle.std.specs.Prelude.{◌≡◌, ℕ, ◌+◌, ◌<◌, ◌⊎◌, true, false, IsTrue, List, min, Option, Some, None, MatchOption}
use Rattle.napi_types.specs.declared.call.Args.{Args}
use Rattle.napi_types.specs.declared.call.Call.{Call}
use Rattle.napi_types.specs.declared.call.Call.TheVariants as call
use Rattle.napi_types.specs.declared.duties.DueInfo.{DueInfo}
use Rattle.napi_types.specs.declared.entry.Local.{Local}
use Rattle.napi_types.specs.declared.entry.Out.TheVariants as out
use Rattle.napi_types.specs.declared.entry.Reply.{Reply}
use Rattle.napi_types.specs.declared.entry.Target.{Target}
use Rattle.napi_types.specs.declared.ids.HandleId.{HandleId}
use Rattle.napi_types.specs.declared.status.Status.{Status}
use Rattle.napi_types.specs.declared.status.Status.TheVariants as status
use Rattle.napi_types.specs.plain.Guards.{is_growing}
use Rattle.napi_types.specs.plain.Replies.{plain}
use Rattle.napi_types.specs.plain.Room.{Room, is_full, need, first_places}
use Rattle.napi_types.specs.parts.Book.{Registration, registration_at, due_info}
use Rattle.napi_types.specs.environment.Changes.{Change, call_change, call_entry, with_noted_status, issued_number, is_fresh_result}
use Rattle.napi_types.specs.environment.Entering.{is_entering, enter_change}
use Rattle.napi_types.specs.environment.Environment.{Environment}
use Rattle.napi_types.specs.environment.Refusals.{refusal_before_depth}
use Rattle.napi_types.specs.environment.SharedCalls.{shared_call_of}
use Rattle.napi_types.specs.environment.Tickets.{ticket_change, next_ticket}
use Rattle.env_core.specs.declared.env.Stepped.{Stepped}
use Rattle.env_core.specs.declared.env.Stepped.TheVariants as stepped
use Rattle.env_core.specs.Core.{Core, after_change, room_in}
use Rattle.env_core.specs.Journal.{last_reply}
use Rattle.env_core.specs.Sharing.{awaiting, wants_root}
use Rattle.env_core.specs.State.{IsAccepted}

-- a fact of the reply, where the step is one
abbrev pub IfReply : Stepped → (Reply → Type 0) → Type 0
IfReply (stepped.Reply r) P = P r
IfReply _ P = Unit {0}

-- a fact of the reply of the last of these entries; there has to be one
abbrev pub OnLastReply : List Local → (Reply → Type 0) → Type 0
OnLastReply xs P = MatchOption (last_reply xs) ⊥ P

-- a fact of the status, where the step is a stop
abbrev pub IfStop : Stepped → (Status → Type 0) → Type 0
IfStop (stepped.Stop s) P = P s
IfStop _ P = Unit {0}

-- a fact of the frame that is entered and of its gifts, where the step enters one
abbrev pub IfEnter : Stepped → (Target → List ℕ → Type 0) → Type 0
IfEnter (stepped.Enter t gifts) P = P t gifts
IfEnter _ P = Unit {0}

-- the step is a reply or a stop: it enters no frame and hands no call to the hub
abbrev pub IsAtOnce : Stepped → Type 0
IsAtOnce (stepped.Enter t gifts) = ⊥
IsAtOnce (stepped.Shared c) = ⊥
IsAtOnce _ = Unit {0}

-- no call is handed to the hub
abbrev pub IsLocal : Stepped → Type 0
IsLocal (stepped.Shared c) = ⊥
IsLocal _ = Unit {0}

-- a shared call is handed to the hub with what the environment gives, and the core awaits the answer. It stops before that only where there is no memory for
-- the root that it wants
abbrev pub IsHandedOver : Core → Call → Stepped → Core → Type 0
IsHandedOver old c (stepped.Shared s) new = (s ≡ shared_call_of old.env c) × (new ≡ awaiting s old)
IsHandedOver old c (stepped.Stop s) new = (s ≡ status.NoMemory) × (wants_root (shared_call_of old.env c) ≡ true)
IsHandedOver old c _ new = ⊥

-- the call grows, and nothing refuses it, the depth limit left aside
pub record GrowsUnrefused (e : Environment) (c : Call) : Type 0 where
  pub grows : IsTrue (is_growing c)
  pub unrefused : refusal_before_depth e c ≡ None

-- entries, reserved places and the call's need pass the first places
abbrev pub PassesFirstPlaces : Room → Call → Type 0
PassesFirstPlaces room c = min first_places room.limit < room.occupied + need c

-- why a local call may stop: it finds no room, or else no memory. Memory for its places is looked for before any refusal, and memory to grow after them
abbrev pub StopsBy : Environment → Room → Call → Status → Type 0
StopsBy e room c status.TraceFull = IsTrue (is_full room c)
StopsBy e room c status.NoMemory = (GrowsUnrefused e c ⊎ PassesFirstPlaces room c) × (is_full room c ≡ false)
StopsBy e room c _ = ⊥

-- the call fits, it enters no frame, the reply is the machine's answer to it, with a fresh number where it gives one, and the core wrote the call's entry
pub record Replies (old : Core) (c : Call) (r : Reply) (new : Core) : Type 0 where
  pub at_once : is_entering old.env c ≡ false
  pub fits : is_full (room_in old) c ≡ false
  pub fresh : IsTrue (is_fresh_result old.env r.out)
  pub answer : r ≡ (call_change old.env c (issued_number r.out)).entry.reply
  pub after : new ≡ after_change (call_change old.env c (issued_number r.out)) old

-- a call of a function is accepted and fits, and the core wrote the begin of the frame that it enters: this entry of this addon, which is given these gifts
pub record EntersBy (old : Core) (receiver : Option HandleId) (f : HandleId) (args : Args) (target : Target) (gifts : List ℕ) (new : Core) : Type 0 where
  pub called : IsAccepted old.env receiver f args target gifts
  pub fits : is_full (room_in old) (call.CallFunction receiver f args) ≡ false
  pub after : new ≡ after_change (enter_change receiver f args old.env) old

-- no other call enters a frame
abbrev pub Enters : Core → Call → Target → List ℕ → Core → Type 0
Enters old (call.CallFunction receiver f args) target gifts new = EntersBy old receiver f args target gifts new
Enters old _ target gifts new = ⊥

-- a ticket, the next one, begins: this is what it tells, and the core wrote the begin of its frame
pub record BeginsTicket (old : Core) (due : DueInfo) (new : Core) : Type 0 where
  pub ticket : ℕ
  pub registration : Registration
  pub next : next_ticket old.env ≡ Some ticket
  pub registered : registration_at old.env.book ticket ≡ Some registration
  pub told : due ≡ due_info ticket registration
  pub after : new ≡ after_change (ticket_change ticket registration old.env) old

-- a call's entry with a status and no result, where the environment is this one; its status is noted and its ask is counted
abbrev pub refused_call : Core → Call → Status → Environment → Change
refused_call old c s e = record { entry = call_entry old.env c (plain s out.Nothing); after = with_noted_status c s e }

-- the reply is this status with no result, and all that changed besides is that this is the environment
pub record RefusedAs (old : Core) (c : Call) (s : Status) (e : Environment) (r : Reply) (new : Core) : Type 0 where
  pub reply : r ≡ plain s out.Nothing
  pub after : new ≡ after_change (refused_call old c s e) old
