-- An entry of the environment goes into the history of a recorded run.
use Rattle.std.specs.Prelude.{◌≡◌, ◌+◌, true, List, [], ◌∷◌, ◌++◌, length}
use Rattle.std.specs.Option.{option_to_list}
use Rattle.napi_types.specs.declared.call.Ask.{Ask}
use Rattle.napi_types.specs.declared.duties.DueInfo.{DueInfo}
use Rattle.napi_types.specs.declared.entry.Actor.TheVariants as actor
use Rattle.napi_types.specs.declared.entry.Entry.{Entry}
use Rattle.napi_types.specs.plain.Weave.{History}
use Rattle.napi_types.specs.scripts.Plans.{Registers}
use Rattle.napi_types.specs.environment.Environment.{Environment}
use Rattle.napi_types.specs.hub.Hub.{Hub}
use Rattle.napi_types.specs.runs.Begins.{begun_info}
use Rattle.napi_types.specs.runs.Machine.{Machine}
use Rattle.napi_types.specs.runs.Plan.{frames_ask, after_event}
use Rattle.napi_types.specs.runs.Setting.{Setting}
use Rattle.napi_types.specs.runs.Step.{Step, step}
use Rattle.env_core.specs.Core.{Core}
use Rattle.env_loop.specs.Recording.{AddonStates, machine_of, AgreesWith, HasSeen, IsRecorded, RecordsOwn}

-- what the step of an entry of the environment is that goes into the history
abbrev pub shared_step : Machine → Entry → Hub → Environment → Step
shared_step m x later e = record { entry = x; side = History; after = record m { env = e; hub = later; history_length = m.history_length + 1 }; may = true }

-- an entry of the environment that may come next goes into the history; it leaves this environment, these registers and what was seen
abbrev pub SharedEntriesAreRecorded : Type 0
SharedEntriesAreRecorded = (s : Setting) (core : Core) (hub later : Hub) (history : List Entry) (all now : AddonStates) (firsts : List (List DueInfo))
    → (r : IsRecorded s core hub history all firsts)
    → (a : Ask) (x : Entry) (e : Environment) (own : Registers)
    → step (machine_of s.limits core hub history) a x ≡ shared_step (machine_of s.limits core hub history) x later e
    → x.actor ≡ actor.Env
    → a ≡ frames_ask s.plans r.own core.env.frames a
    → after_event s.plans r.own (machine_of s.limits core hub history) a x.reply x.what ≡ own
    → length own ≡ length s.plans
    → AgreesWith s.plans now.registers own
    → HasSeen all.seen (option_to_list (begun_info (machine_of s.limits core hub history) x)) now.seen
    → RecordsOwn s (record core { env = e; position = length history + 1 }) later (history ++ x ∷ []) now firsts
