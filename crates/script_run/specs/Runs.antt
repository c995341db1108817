-- The run of a script with the addons that were handed in, as its two lists tell it.
use Rattle.std.specs.Prelude.{◌≡◌, ◌≤◌, ◌<◌, ◌^◌, ℕ, List, ◌++◌, length, map, drop, slice_get, true, Some, None, IfSome}
use Rattle.napi_types.specs.all_runs.AbandonedHooks.{SettlesHooks}
use Rattle.napi_types.specs.all_runs.BufferLives.{OutlivesViews, lives_told_along}
use Rattle.napi_types.specs.all_runs.SettledPromises.{SettlesPromises, told_along}
use Rattle.napi_types.specs.all_runs.SharedBytes.{SharesBytes, bytes_told_along}
use Rattle.napi_types.specs.declared.call.Ask.{Ask}
use Rattle.napi_types.specs.declared.duties.DueInfo.{DueInfo}
use Rattle.napi_types.specs.declared.entry.Actor.{Actor}
use Rattle.napi_types.specs.declared.entry.Duty.TheVariants as duty
use Rattle.napi_types.specs.declared.lists.Record.{Record}
use Rattle.napi_types.specs.declared.op.Op.{Op}
use Rattle.napi_types.specs.declared.script.Script.{Script}
use Rattle.napi_types.specs.plain.Numbers.{is_supported}
use Rattle.napi_types.specs.plain.Room.{most_entries}
use Rattle.napi_types.specs.plain.Weave.{weave, RisesBetween}
use Rattle.napi_types.specs.scripts.Plans.{Plan, plan_of, registers_of}
use Rattle.napi_types.specs.hub.Actors.{Free, Over, worker_along}
use Rattle.napi_types.specs.runs.Begins.{begun_along, of_addon}
use Rattle.napi_types.specs.runs.InPlace.{StandInPlace}
use Rattle.napi_types.specs.runs.Parting.{IsParted}
use Rattle.napi_types.specs.runs.Setting.{Setting, EndsBy, opening_of, final_registers}
use Rattle.napi_types.specs.all_runs.Cancels.{CancelsHold}
use Rattle.napi_types.specs.all_runs.CollectionLaw.{KeepsReached}
use Rattle.napi_types.specs.all_runs.Counts.{Once, TellsStarts}
use Rattle.napi_types.specs.all_runs.ItemOrder.{CountItems}
use Rattle.napi_types.specs.all_runs.Order.{TicketsCount, HooksFall, FinalsRise}
use Rattle.napi_types.specs.all_runs.TurnsInOrder.{AroseByTurns}
use Rattle.addon_trait.specs.Addons.{seen_of}
use Rattle.env_loop.specs.Recording.{AgreesWherePlanned}
use Rattle.stepper.specs.TakingPart.{turns_of, rounds_of}
use Rattle.script_run.specs.Loading.{told_plans, setting_with, hub_numbers}
use Rattle.script_run.specs.ScriptActors.{AreActors, MadeItsScript}

-- a run of the script, with these addons handed in
abbrev pub setting_of : Script → List Plan → Setting
setting_of script handed = setting_with script.version (told_plans script.addons handed) (length script.texts) (length script.threads) script.workers

-- the two lists are the journal and the history of a run of the script that ends in `gone`, the journal in the order of its places; each collection of the
-- run keeps exactly what its roots reach; and the registers of each addon that tells its plan are the run's
pub record IsRunOf (script : Script) (handed : List Plan) (left : Record) (registers : List (List ℕ)) (seens seens_after : List (List DueInfo)) : Type 0 where
  pub asks : List Ask
  pub ended : EndsBy (setting_of script handed) asks (weave left.journal left.history)
  pub collected : KeepsReached (opening_of (setting_of script handed)) asks (weave left.journal left.history)
  pub rises : RisesBetween 0 (length left.history) left.journal
  pub parted : IsParted (opening_of (setting_of script handed)) asks left.journal left.history
  -- each entry of the journal stands first, or right behind an entry of the environment; or it is the end of a frame that was cut at a shared call
  pub placed : StandInPlace (opening_of (setting_of script handed)) None asks (weave left.journal left.history)
  pub agrees : (addon : ℕ) → addon < length script.addons → AgreesWherePlanned (plan_of (setting_of script handed).plans addon)
      (registers_of registers addon) (registers_of (final_registers (setting_of script handed) asks (weave left.journal left.history)) addon)
  -- each addon that was handed in has seen, after what it had seen before, exactly the duties whose frames of its began in the run, in their order, each with
  -- its gifts
  pub seen : (addon : ℕ) → seen_of seens_after addon
      ≡ seen_of seens addon ++ of_addon addon (begun_along (opening_of (setting_of script handed)) asks (weave left.journal left.history))
  -- tickets count from 1 in the order of registration; hooks began in the reverse of the order in which they were added, and what began after `finals` in the
  -- order of registration
  pub counted : TicketsCount (weave left.journal left.history)
  pub hooks : HooksFall (weave left.journal left.history)
  pub finals : FinalsRise (weave left.journal left.history)
  -- each completion, item, function's finalizer, finalizer, hook and reaction that was made and not withdrawn began exactly once, one that was withdrawn never,
  -- and no other duty began; none was made twice, and only an accepted `remove_wrap`, `set_instance_data`, `remove_env_cleanup_hook` or
  -- `remove_async_cleanup_hook` withdrew one
  pub once : Once (weave left.journal left.history)
  -- the items of each thread-safe function count from 1 as they were accepted, and began in that order
  pub items : (f : ℕ) → CountItems f (weave left.journal left.history)
  -- the completion of each work began as cancelled exactly where the work never started
  pub completed : (n : ℕ) → TellsStarts (duty.Work n) (weave left.journal left.history)
  -- each accepted `cancel_async_work` led to the completion, with status 11, of the work that was last queued under its id, and that work never started
  pub cancels : CancelsHold (weave left.journal left.history)
  -- where the drain came each asynchronous hook that began was removed by an accepted call, or was one of those that `abandon` counted, which came once at
  -- most
  pub settled : SettlesHooks (weave left.journal left.history)
  -- each deferred was settled once at most; each reaction that was added to a promise began once, after the earlier ones of that promise, with the state with
  -- which the promise was settled before, or with 0 after `finals` where it was not; and what its frame was told is the value that settled the promise
  pub promised : SettlesPromises (told_along (opening_of (setting_of script handed)) asks (weave left.journal left.history))
  -- all views of an array buffer shared its bytes: what was read through one was what was last written at its places through any of them, and 0 where nothing
  -- was. A view lay in its buffer, and once that was detached nothing was read or written any more
  pub bytes : SharesBytes (bytes_told_along (opening_of (setting_of script handed)) asks (weave left.journal left.history))
  -- a buffer lived as long as each view of it, and the finalizer of an external one began only once a collection had left the buffer out, or `finals` had come
  pub lives : OutlivesViews (lives_told_along (opening_of (setting_of script handed)) asks (weave left.journal left.history))
  -- the entries of each thread are the calls of its script, in their order, each once, and then its end. It ended cut only where the next call had no room, and
  -- as full exactly there, or might want memory
  pub threads : (t : ℕ) (operations : List Op) → slice_get script.threads t ≡ Some operations → MadeItsScript (setting_of script handed) t operations left.history
  -- each worker started and finished works by turns, and then ended
  pub workers : (w : ℕ) → w < script.workers → worker_along w (Some Free) left.history ≡ Some Over

-- the two lists arose by the turns of this schedule, in its order, and then by those of so many rounds
abbrev pub FollowsSchedule : Script → List Plan → Record → List Actor → Type 0
FollowsSchedule script handed left words =
    (rounds : ℕ) × AroseByTurns (setting_of script handed) script.threads (turns_of words ++ rounds_of (hub_numbers (length script.threads) script.workers) rounds)
    left.journal left.history

-- what contracts see of the addons that were handed in: their plans, their registers, and what each has seen
pub record Handed : Type 0 where
  pub plans : List Plan
  pub registers : List (List ℕ)
  pub seen : List (List DueInfo)

-- the same of a list of addons, of which these tell the plan, the registers and what was seen
abbrev pub handed_in : {A : Type 0} → (A → Plan) → (A → List ℕ) → (A → List DueInfo) → List A → Handed
handed_in plan registers seen addons = record { plans = map plan addons; registers = map registers addons; seen = map seen addons }

-- the script's addons were loaded and run, and the others handed in are as they were
pub record HasRun (script : Script) (handed : Handed) (left : Record) (after : Handed) : Type 0 where
  pub enough : length script.addons ≤ length handed.plans
  pub run : IsRunOf script handed.plans left after.registers handed.seen after.seen
  pub loaded : after.plans ≡ told_plans script.addons handed.plans ++ drop (length script.addons) handed.plans
  pub others : drop (length script.addons) after.registers ≡ drop (length script.addons) handed.registers
  -- where the script has a schedule, the two lists arose by its turns, and then by rounds
  pub scheduled : IfSome script.schedule (FollowsSchedule script handed.plans left)
  -- each of the two lists has no more entries than a list may have
  pub journal : length left.journal ≤ most_entries
  pub history : length left.history ≤ most_entries

-- a script that the host can run: it asks for a version that is supported, it has eight addons at most, its texts can be counted in 32 bits, and it has
-- threads, workers and words of a schedule as a script may
pub record IsSmall (script : Script) : Type 0 where
  pub version : is_supported script.version ≡ true
  pub few : length script.addons ≤ 8
  pub texts : length script.texts < 2 ^ 32
  pub actors : AreActors script.threads script.workers script.schedule
