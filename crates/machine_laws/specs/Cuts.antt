-- Where a frame is cut.
use Rattle.std.specs.Prelude.{◌≡◌, ◌≢◌, ◌<◌, ℕ, Bool, true, false, List, [], ◌∷◌, ◌++◌, Option, Some, None, IsSome, ◌⊎◌}
use Rattle.std.specs.List.{All}
use Rattle.napi_types.specs.declared.call.Ask.{Ask}
use Rattle.napi_types.specs.declared.call.Ask.TheVariants as ask
use Rattle.napi_types.specs.declared.call.Call.{Call}
use Rattle.napi_types.specs.declared.call.Call.TheVariants as call
use Rattle.napi_types.specs.declared.call.Args.{Args}
use Rattle.napi_types.specs.declared.entry.Actor.TheVariants as actor
use Rattle.napi_types.specs.declared.entry.Cause.{Cause}
use Rattle.napi_types.specs.declared.entry.Cause.TheVariants as cause
use Rattle.napi_types.specs.declared.entry.Entry.{Entry}
use Rattle.napi_types.specs.declared.entry.HostStep.TheVariants as host
use Rattle.napi_types.specs.declared.entry.Out.TheVariants as out
use Rattle.napi_types.specs.declared.entry.Why.{Why}
use Rattle.napi_types.specs.declared.entry.Why.TheVariants as why
use Rattle.napi_types.specs.declared.ids.HandleId.{HandleId}
use Rattle.napi_types.specs.declared.status.Status.TheVariants as status
use Rattle.napi_types.specs.plain.Entries.{host_told, host_entry}
use Rattle.napi_types.specs.plain.Guards.{is_registering, is_shared}
use Rattle.napi_types.specs.plain.Room.{need}
use Rattle.napi_types.specs.parts.Frames.{Frame, is_hub_duty}
use Rattle.napi_types.specs.scripts.Plans.{Plan, Registers}
use Rattle.napi_types.specs.environment.Ends.{end_change}
use Rattle.napi_types.specs.environment.Refusals.{refusal}
use Rattle.napi_types.specs.hub.Hub.{Hub}
use Rattle.napi_types.specs.hub.StandingDuties.{hub_duties, standing_duties}
use Rattle.napi_types.specs.runs.Machine.{Machine}
use Rattle.napi_types.specs.runs.Plan.{asked}
use Rattle.napi_types.specs.runs.Run.{IsNext, IsRunBy}
use Rattle.napi_types.specs.runs.Setting.{Setting, RunsBy, opening_of, final_of}
use Rattle.machine_laws.specs.RunWords.{call_at, call_making, ticket, opening_entries}

-- the end by a cut of a frame that began for this reason: that of a call's frame says that the call failed
abbrev pub cut_by : Cause → Why → Entry
cut_by cause.Call w = host_told host.End status.GenericFailure (out.Cut w)
cut_by _ w = host_entry host.End (out.Cut w)

-- at this ask the entry may come next, and no other
abbrev pub IsOnlyNext : Machine → Ask → Entry → Type 0
IsOnlyNext m a x = IsNext m a x × ((y : Entry) → IsNext m a y → y ≡ x)

-- the same of what the environment does, whatever threads and workers do
abbrev pub IsOnlyOfEnvironment : Machine → Ask → Entry → Type 0
IsOnlyOfEnvironment m a x = IsNext m a x × ((y : Entry) → y.actor ≡ actor.Env → IsNext m a y → y ≡ x)

-- a frame that a duty of the hub began stands in the hub too, and no call began it
abbrev pub StandsInHub : Hub → Frame → Type 0
StandsInHub h f = is_hub_duty f.duty ≡ true → IsSome h.standing × (f.cause ≢ cause.Call)

-- at every moment of a run each frame does
abbrev pub FramesStandInTheHub : Type 0
FramesStandInTheHub = (s : Setting) (bs : List Ask) (xs : List Entry) → IsRunBy (opening_of s) bs xs
    → All (StandsInHub (final_of s bs xs).hub) (final_of s bs xs).env.frames

-- at every moment of a run the duties of the hub that began frames are the one that stands in it: one where such a frame stands, and none where none does
abbrev pub HubDutiesStandInTheHub : Type 0
HubDutiesStandInTheHub = (s : Setting) (bs : List Ask) (xs : List Entry) → IsRunBy (opening_of s) bs xs
    → hub_duties (final_of s bs xs).env.frames ≡ standing_duties (final_of s bs xs).hub

-- A TIGHT JOURNAL
-- a script of one addon that tells no plan, with room for so many entries in the journal, of which four are needed without any call. The history has
-- room for the five that it needs, and for no other
abbrev pub script_within : ℕ → Setting
script_within room = record { version = 9; plans = None ∷ []; texts = 3; threads = 0; workers = 0; limits = record { journal = room; history = 5 } }

-- one place is left for calls
abbrev pub tight : Setting
tight = script_within 5

-- what is asked until the addon's frame has begun: nothing
abbrev pub opening_asks : List Ask
opening_asks = ask.Leave None ∷ ask.Leave None ∷ []

-- the frame asks to make an object
abbrev pub create : Ask
create = ask.Do call.CreateObject

-- the entry of its first call, an object and its handle
abbrev pub object_made : Entry
object_made = call_at 0 call.CreateObject status.Ok (out.Handle (record { 0 = 1 }))

-- the machine as the frame has begun
abbrev pub machine_begun : Machine
machine_begun = final_of tight opening_asks opening_entries

-- the machine after the first call of the frame
abbrev pub first_called : Machine
first_called = final_of tight (opening_asks ++ create ∷ []) (opening_entries ++ object_made ∷ [])

-- the init frame is cut as full at this call
pub record IsCutFull (m : Machine) (c : Call) : Type 0 where
  pub full : IsNext m (ask.Do c) (cut_by cause.Init why.Full)
  -- where the call is local nothing else may come, ..
  pub local : is_shared c ≡ false → (y : Entry) → IsNext m (ask.Do c) y → y ≡ cut_by cause.Init why.Full
  -- .. and where it is shared one thing besides: the frame may have been cut for want of memory, and others have filled the history since
  pub wanted : is_shared c ≡ true → IsNext m (ask.Do c) (cut_by cause.Init why.Memory)
  pub shared : is_shared c ≡ true → (y : Entry) → IsNext m (ask.Do c) y → (y ≡ cut_by cause.Init why.Full) ⊎ (y ≡ cut_by cause.Init why.Memory)

-- at the first call: where the frame is cut, and where it is not
pub record CutsAtFirstCall : Type 0 where
  -- the first call has its place
  pub first : RunsBy tight (opening_asks ++ create ∷ []) (opening_entries ++ object_made ∷ [])
  -- so its frame is not cut there as full, at no local call that needs one place
  pub room : (c : Call) → is_shared c ≡ false → need c ≡ 1 → IsNext machine_begun (ask.Do c) (cut_by cause.Init why.Full) → ⊥
  -- but at each shared call, for which the history has no place
  pub shared : (c : Call) → is_shared c ≡ true → IsCutFull machine_begun c
  -- a call of a function needs two, so there it is cut as full, and nothing else may come
  pub calls : (receiver : Option HandleId) (f : HandleId) (args : Args) → IsOnlyNext machine_begun (ask.Do (call.CallFunction receiver f args)) (cut_by cause.Init why.Full)
  -- for want of memory it may be cut at a call that grows, and not at `typeof`, which does not
  pub grows : IsNext machine_begun create (cut_by cause.Init why.Memory)
  pub stays : (h : HandleId) → IsNext machine_begun (ask.Do (call.Typeof h)) (cut_by cause.Init why.Memory) → ⊥

-- at the second call, whichever it is, the frame is cut as full
abbrev pub FullAtSecondCall : Type 0
FullAtSecondCall = (c : Call) → IsCutFull first_called c

-- where it leaves in place of that call, its frame ends without a cut, and nothing else may come
abbrev pub LeavesWhereFull : Type 0
LeavesWhereFull = IsOnlyNext first_called (ask.Leave None) (host_entry host.End out.Nothing)

-- A CALL THAT REGISTERS
-- the machine as the frame has begun, where two places are left for calls
abbrev pub two_left : Machine
two_left = final_of (script_within 6) opening_asks opening_entries

-- an external with a finalizer, as it is made
abbrev pub external_made : ℕ → ℕ → ℕ → Entry
external_made payload entry hint = call_making 0 (call.CreateExternal payload (Some entry) hint) status.Ok (out.Handle (record { 0 = 1 })) (ticket 1)

pub record RegistersWithThreePlaces : Type 0 where
  -- with two places left the frame is cut as full at each call that registers, ..
  pub full : (c : Call) → is_registering c ≡ true → IsCutFull two_left c
  -- .. also at one that would be refused: no handle is held there
  pub refused : (h : HandleId) (payload entry hint : ℕ) (wanted : Bool) → refusal two_left.env (call.AddFinalizer h payload entry hint wanted) ≡ Some status.InvalidArg
  -- with three it has its places
  pub room : (payload entry hint : ℕ)
      → RunsBy (script_within 7) (opening_asks ++ ask.Do (call.CreateExternal payload (Some entry) hint) ∷ []) (opening_entries ++ external_made payload entry hint ∷ [])

-- THE LAST ASK
-- a frame that has made 65,536 asks is cut for that whatever it would ask, and nothing else may come of the environment
abbrev pub CutAtLastAsk : Type 0
CutAtLastAsk = (m : Machine) (f : Frame) (fs : List Frame) (a : Ask) → m.env.frames ≡ f ∷ fs → StandsInHub m.hub f → f.asks ≡ 65536
    → IsOnlyOfEnvironment m a (cut_by f.cause why.Asks)

-- before that no frame is
abbrev pub NotBeforeLastAsk : Type 0
NotBeforeLastAsk = (m : Machine) (f : Frame) (fs : List Frame) (a : Ask) → m.env.frames ≡ f ∷ fs → f.asks < 65536 → IsNext m a (cut_by f.cause why.Asks) → ⊥

-- A FRAME THAT MAKES NO ASKS
-- it may only leave
pub record OnlyLeaves (m : Machine) : Type 0 where
  -- its plan, whichever it is, asks nothing but that
  pub asked : (ps : List Plan) (rss : Registers) (a : Ask) → asked ps rss m a actor.Env ≡ ask.Leave None
  -- then its end comes, without a cut, and nothing else may come of the environment
  pub leaves : (v : Option HandleId) → IsOnlyOfEnvironment m (ask.Leave v) (end_change v None m.env).entry
  -- at a call nothing may come of it: not its entry, not the begin of a frame, and no cut
  pub calls : (c : Call) (x : Entry) → x.actor ≡ actor.Env → IsNext m (ask.Do c) x → ⊥

abbrev pub OnlyLeavesWithoutAsks : Type 0
OnlyLeavesWithoutAsks = (m : Machine) (f : Frame) (fs : List Frame) → m.env.frames ≡ f ∷ fs → StandsInHub m.hub f → f.makes_asks ≡ false
    → f.asks < 65536 → OnlyLeaves m
