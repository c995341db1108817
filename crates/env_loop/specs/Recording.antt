-- A run as it is recorded: the environment's core, the history, and what contracts see of the addons.
use Rattle.std.specs.Prelude.{◌≡◌, ℕ, ◌<◌, List, ◌++◌, length, map, Some, None, IsTrue}
use Rattle.napi_types.specs.all_runs.AbandonedHooks.{SettlesHooks}
use Rattle.napi_types.specs.all_runs.BufferLives.{OutlivesViews, lives_told_along}
use Rattle.napi_types.specs.all_runs.SettledPromises.{SettlesPromises, told_along}
use Rattle.napi_types.specs.all_runs.SharedBytes.{SharesBytes, bytes_told_along}
use Rattle.napi_types.specs.declared.call.Ask.{Ask}
use Rattle.napi_types.specs.declared.duties.DueInfo.{DueInfo}
use Rattle.napi_types.specs.declared.entry.Duty.TheVariants as duty
use Rattle.napi_types.specs.declared.entry.Entry.{Entry}
use Rattle.napi_types.specs.declared.entry.Local.{Local}
use Rattle.napi_types.specs.declared.entry.Limits.{Limits}
use Rattle.napi_types.specs.declared.entry.Why.{Why}
use Rattle.napi_types.specs.declared.entry.Why.TheVariants as why
use Rattle.napi_types.specs.declared.status.Status.{Status}
use Rattle.napi_types.specs.declared.status.Status.TheVariants as status
use Rattle.napi_types.specs.plain.Weave.{weave, RisesBetween}
use Rattle.napi_types.specs.scripts.Plans.{Plan, plan_of, Registers, registers_of}
use Rattle.napi_types.specs.hub.Hub.{Hub}
use Rattle.napi_types.specs.runs.Begins.{begun_along, of_addon}
use Rattle.napi_types.specs.runs.InPlace.{is_behind_own, last_actor, StandInPlace}
use Rattle.napi_types.specs.runs.Machine.{Machine}
use Rattle.napi_types.specs.runs.Parting.{IsParted}
use Rattle.napi_types.specs.runs.Setting.{Setting, RunsBy, EndsBy, opening_of, final_of, final_registers}
use Rattle.napi_types.specs.all_runs.Cancels.{CancelsHold}
use Rattle.napi_types.specs.all_runs.CollectionLaw.{KeepsReached}
use Rattle.napi_types.specs.all_runs.Counts.{Once, TellsStarts}
use Rattle.napi_types.specs.all_runs.ItemOrder.{CountItems}
use Rattle.napi_types.specs.all_runs.Order.{TicketsCount, HooksFall, FinalsRise}
use Rattle.addon_trait.specs.Addons.{seen_of}
use Rattle.env_core.specs.Core.{Core}

-- of every addon that was handed in: its registers, and what it has seen
pub record AddonStates : Type 0 where
  pub registers : Registers
  pub seen : List (List DueInfo)

-- the same of a list of addons, of which these tell the registers and what was seen
abbrev pub states_of : {A : Type 0} → (A → List ℕ) → (A → List DueInfo) → List A → AddonStates
states_of registers seen addons = record { registers = map registers addons; seen = map seen addons }

-- the machine that a core, a hub and a history are
abbrev pub machine_of : Limits → Core → Hub → List Entry → Machine
machine_of limits core hub history = record {
  env = core.env;
  hub = hub;
  journal_length = length core.journal;
  history_length = length history;
  limits = limits;
}

-- the registers of an addon are those of the run, where it tells its plan
abbrev pub AgreesWherePlanned : Plan → List ℕ → List ℕ → Type 0
AgreesWherePlanned None mine own = Unit {0}
AgreesWherePlanned (Some plan) mine own = mine ≡ own

-- the registers of each addon that tells its plan are those of the run
abbrev pub AgreesWith : List Plan → Registers → Registers → Type 0
AgreesWith plans all own = (addon : ℕ) → addon < length plans → AgreesWherePlanned (plan_of plans addon) (registers_of all addon) (registers_of own addon)

-- each addon has seen, after what it saw first, the duties whose frames of its began along a run, in their order, each with what it told
abbrev pub HasSeen : List (List DueInfo) → List DueInfo → List (List DueInfo) → Type 0
HasSeen firsts begun seen = (addon : ℕ) → seen_of seen addon ≡ seen_of firsts addon ++ of_addon addon begun

-- the weave of the journal and the history is a run of the script, it came to this machine, the registers of its addons are the run's, and each addon has
-- seen, after what it saw first, what began in the run. `all` is what is seen of every addon that was handed in, and the script's addons are the first ones.
-- Each entry of the journal stands in its place
pub record IsRecorded (s : Setting) (core : Core) (hub : Hub) (history : List Entry) (all : AddonStates) (firsts : List (List DueInfo)) : Type 0 where
  pub asks : List Ask
  pub own : Registers
  pub run : RunsBy s asks (weave core.journal history)
  pub final : final_of s asks (weave core.journal history) ≡ machine_of s.limits core hub history
  pub registers : final_registers s asks (weave core.journal history) ≡ own
  pub count : length own ≡ length s.plans
  pub agrees : AgreesWith s.plans all.registers own
  pub seen : HasSeen firsts (begun_along (opening_of s) asks (weave core.journal history)) all.seen
  pub limit : core.limit ≡ s.limits.journal
  pub position : core.position ≡ length history
  pub rises : RisesBetween 0 (length history) core.journal
  pub parted : IsParted (opening_of s) asks core.journal history
  pub placed : StandInPlace (opening_of s) None asks (weave core.journal history)

-- the environment made the last entry of the run
abbrev pub IsBehindOwn : Core → List Entry → Type 0
IsBehindOwn core history = IsTrue (is_behind_own (last_actor None (weave core.journal history)))

-- the run is recorded, and the environment made its last entry
pub record RecordsOwn (s : Setting) (core : Core) (hub : Hub) (history : List Entry) (all : AddonStates) (firsts : List (List DueInfo)) : Type 0 where
  pub recorded : IsRecorded s core hub history all firsts
  pub own : IsBehindOwn core history

-- what a run that came to its end has done with what its addons and threads made
pub record KeepsPromises (s : Setting) (asks : List Ask) (trace : List Entry) : Type 0 where
  -- each collection kept exactly what its roots reached
  pub collected : KeepsReached (opening_of s) asks trace
  -- tickets count from 1 in the order of registration; hooks began in the reverse of the order in which they were added, and what began after `finals` in the
  -- order of registration
  pub counted : TicketsCount trace
  pub hooks : HooksFall trace
  pub finals : FinalsRise trace
  -- each completion, item, function's finalizer, finalizer, hook and reaction that was made and not withdrawn began exactly once, one that was withdrawn never,
  -- and no other duty began
  pub once : Once trace
  -- the items of each thread-safe function count from 1 as they were accepted, and began in that order
  pub items : (f : ℕ) → CountItems f trace
  -- the completion of each work began as cancelled exactly where the work never started
  pub completed : (n : ℕ) → TellsStarts (duty.Work n) trace
  -- each accepted cancel led to the completion, as cancelled, of the work that was last queued under its id, and that work never started
  pub cancels : CancelsHold trace
  -- where the drain comes each asynchronous hook that began was removed by an accepted call, or was one of those that `abandon` counted
  pub settled : SettlesHooks trace
  -- each deferred is settled once at most, and each reaction that is added to a promise begins, and is told how that was settled
  pub promised : SettlesPromises (told_along (opening_of s) asks trace)
  -- what is read through a view of a buffer is what was last written at its places through any view of the same buffer
  pub bytes : SharesBytes (bytes_told_along (opening_of s) asks trace)
  -- a buffer lives as long as each view of it, and the finalizer of an external one begins only once it lives no more, or after `finals`
  pub lives : OutlivesViews (lives_told_along (opening_of s) asks trace)

-- a run that came to its end, as it is left: the weave of the two lists is a run of the script to `gone`, which keeps what it promises. The journal stands in
-- the order of its places, each entry of it in its place, each list has its own entries, the registers of the script's addons are the run's, and each addon has
-- seen what began in the run
pub record IsEnded (s : Setting) (journal : List Local) (history : List Entry) (all : AddonStates) (firsts : List (List DueInfo)) : Type 0 where
  pub asks : List Ask
  pub ended : EndsBy s asks (weave journal history)
  pub promises : KeepsPromises s asks (weave journal history)
  pub journal_length : (final_of s asks (weave journal history)).journal_length ≡ length journal
  pub history_length : (final_of s asks (weave journal history)).history_length ≡ length history
  pub rises : RisesBetween 0 (length history) journal
  pub parted : IsParted (opening_of s) asks journal history
  pub placed : StandInPlace (opening_of s) None asks (weave journal history)
  pub agrees : AgreesWith s.plans all.registers (final_registers s asks (weave journal history))
  pub seen : HasSeen firsts (begun_along (opening_of s) asks (weave journal history)) all.seen

-- why a frame is cut whose call stopped with this status
abbrev pub why_stopped : Status → Why
why_stopped status.TraceFull = why.Full
why_stopped _ = why.Memory

-- the script's addons are the first of those that tell these plans, as many as the core has
pub record IsOf (s : Setting) (plans : List Plan) (core : Core) : Type 0 where
  pub count : length s.plans ≡ core.env.addons
  pub first : (addon : ℕ) → addon < length s.plans → plan_of s.plans addon ≡ plan_of plans addon

-- for every setting with these addons, however far its hub is and whatever they saw first: a run that is recorded, with its last entry the environment's, stays
-- so from one core and these addons to another
abbrev pub KeepsRecord : List Plan → Core → AddonStates → Core → AddonStates → Type 0
KeepsRecord plans old all new now =
    (s : Setting) (hub : Hub) (history : List Entry) (firsts : List (List DueInfo)) → IsOf s plans old → RecordsOwn s old hub history all firsts
    → RecordsOwn s new hub history now firsts
