-- Laws over all runs in which threads and workers take part.
use Rattle.std.specs.Prelude.{◌≡◌, ◌<◌, ℕ, false, List, ◌++◌, length, slice_get, Some, None}
use Rattle.std.specs.List.{All}
use Rattle.napi_types.specs.declared.call.Ask.{Ask}
use Rattle.napi_types.specs.declared.call.Call.{Call}
use Rattle.napi_types.specs.declared.entry.Entry.{Entry}
use Rattle.napi_types.specs.declared.entry.Local.{Local}
use Rattle.napi_types.specs.declared.op.Op.{Op}
use Rattle.napi_types.specs.plain.Entries.{is_environment}
use Rattle.napi_types.specs.plain.Weave.{weave, RisesBetween}
use Rattle.napi_types.specs.environment.Owners.{IsOwned}
use Rattle.napi_types.specs.hub.Actors.{is_thread, thread_calls, KeepsScriptFrom, left_along}
use Rattle.napi_types.specs.hub.HistoryLaws.{LeadsTo}
use Rattle.napi_types.specs.hub.Hub.{Hub}
use Rattle.napi_types.specs.hub.HubOwners.{IsOwnedHub}
use Rattle.napi_types.specs.runs.Machine.{Machine}
use Rattle.napi_types.specs.runs.Parting.{IsParted}
use Rattle.napi_types.specs.runs.Run.{IsRunBy}
use Rattle.napi_types.specs.runs.Setting.{Setting, RunsBy, EndsBy, opening_of, final_of}
use Rattle.napi_types.specs.all_runs.Joined.{AreJoined, GoesOnJoined}

-- where the journal and the prefix of a history that replays at the hub are a run, and the entries behind that prefix are others', the two are joined
abbrev pub PrefixesJoin : Type 0
PrefixesJoin = (s : Setting) (asks : List Ask) (journal : List Local) (prefix rest : List Entry) (h : Hub)
    → RunsBy s asks (weave journal prefix) → RisesBetween 0 (length prefix) journal → IsParted (opening_of s) asks journal prefix
    → LeadsTo s.limits.history s.threads s.workers (prefix ++ rest) h → All (λ x. is_environment x.actor ≡ false) rest
    → AreJoined s asks journal prefix rest

-- where the environment and the hub are joined, the journal and the whole history are a run, and all but the hub is as it was
abbrev pub OthersJoin : Type 0
OthersJoin = (s : Setting) (asks : List Ask) (journal : List Local) (prefix rest : List Entry) → AreJoined s asks journal prefix rest → GoesOnJoined s asks journal prefix rest

-- every hub to which a run comes is the one to which its history leads
abbrev pub HistoriesLeadToTheirHub : Type 0
HistoriesLeadToTheirHub = (s : Setting) (asks : List Ask) (journal : List Local) (history : List Entry) → IsRunBy (opening_of s) asks (weave journal history)
    → IsParted (opening_of s) asks journal history
    → LeadsTo s.limits.history s.threads s.workers history (final_of s asks (weave journal history)).hub

-- the addons of frames, functions, tickets, works and thread-safe functions are those of the script
pub record AreOfScript (count : ℕ) (m : Machine) : Type 0 where
  pub addons : m.env.addons ≡ count
  pub env : IsOwned count m.env
  pub hub : IsOwnedHub count m.hub

abbrev pub AddonsAreTheScripts : Type 0
AddonsAreTheScripts = (s : Setting) (bs : List Ask) (xs : List Entry) → IsRunBy (opening_of s) bs xs → AreOfScript (length s.plans) (final_of s bs xs)

-- a history keeps the script of a thread
abbrev pub KeepsScript : Setting → ℕ → List Op → List Entry → Type 0
KeepsScript s t operations history = KeepsScriptFrom s.limits.history t (opening_of s).hub 0 0 (Some (thread_calls operations)) history

-- each thread of the setting keeps its script, which these are in the threads' order. A clause on a run in which threads take part has this beside `RunsBy`:
-- the machine lets a thread end cut at any time, and only its script says whether it may
pub record ThreadsKeep (s : Setting) (scripts : List (List Op)) (history : List Entry) : Type 0 where
  pub count : length scripts ≡ s.threads
  pub each : (t : ℕ) (operations : List Op) → slice_get scripts t ≡ Some operations → KeepsScript s t operations history

-- a history that keeps the script of a thread keeps it as other actors go on, and so does each prefix of it
abbrev pub ScriptsStayAsOthersGoOn : Type 0
ScriptsStayAsOthersGoOn = (s : Setting) (t : ℕ) (operations : List Op) (history rest : List Entry) → All (λ x. is_thread t x.actor ≡ false) rest
    → KeepsScript s t operations history → KeepsScript s t operations (history ++ rest)

abbrev pub PrefixesKeepScripts : Type 0
PrefixesKeepScripts =
    (s : Setting) (t : ℕ) (operations : List Op) (prefix rest : List Entry) → KeepsScript s t operations (prefix ++ rest) → KeepsScript s t operations prefix

-- the same of all threads: `ThreadsKeep` survives entries of others, and holds of each prefix
abbrev pub ThreadsKeepAsOthersGoOn : Type 0
ThreadsKeepAsOthersGoOn = (s : Setting) (scripts : List (List Op)) (history rest : List Entry) → All (λ x. (t : ℕ) → is_thread t x.actor ≡ false) rest
    → ThreadsKeep s scripts history → ThreadsKeep s scripts (history ++ rest)

abbrev pub PrefixesOfThreadsKeep : Type 0
PrefixesOfThreadsKeep =
    (s : Setting) (scripts : List (List Op)) (prefix rest : List Entry) → ThreadsKeep s scripts (prefix ++ rest) → ThreadsKeep s scripts prefix

-- in every run to its end each thread has come to its end: none of its calls is left to speak of
abbrev pub ThreadsComeToTheirEnd : Type 0
ThreadsComeToTheirEnd = (s : Setting) (bs : List Ask) (xs : List Entry) (t : ℕ) (calls : List Call) → t < s.threads → EndsBy s bs xs
    → left_along t (Some calls) xs ≡ None
