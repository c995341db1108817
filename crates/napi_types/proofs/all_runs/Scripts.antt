-- A history that keeps a thread's script keeps it as others go on, and so does each prefix of it.
use Rattle.std.proofs.Common.{ℕ, ◌+◌, cond, List, [], ◌∷◌, ◌++◌, Option, Some}
use Rattle.napi_types.specs.declared.call.Call.{Call}
use Rattle.napi_types.specs.declared.entry.Entry.{Entry}
use Rattle.napi_types.specs.hub.Actors.{is_thread, thread_calls, left_after, KeepsScriptFrom}
use Rattle.napi_types.specs.hub.Hub.{Hub}
use Rattle.napi_types.specs.hub.HubSteps.{hub_step}
use Rattle.napi_types.specs.runs.Setting.{opening_of}
use Rattle.napi_types.specs.all_runs.HubLaws.{ScriptsStayAsOthersGoOn, PrefixesKeepScripts}
use Rattle.napi_types.proofs.hub.ActorsGoOn.{more-keep}

prefix-keeps : (limit t : ℕ) (h : Hub) (n made : ℕ) (left : Option (List Call)) (xs rest : List Entry) → KeepsScriptFrom limit t h n made left (xs ++ rest)
    → KeepsScriptFrom limit t h n made left xs
prefix-keeps limit t h n made left [] rest keeps = tt
prefix-keeps limit t h n made left (x ∷ xs) rest keeps = (
  keeps.0,
  prefix-keeps limit t (hub_step h x).after (n + 1) (cond (is_thread t x.actor) (made + 1) made)
      (cond (is_thread t x.actor) (left_after left x.what) left) xs rest keeps.1,
)

pub scripts-stay : ScriptsStayAsOthersGoOn
scripts-stay s t operations history rest others keeps = more-keep s.limits.history t (opening_of s).hub 0 0 (Some (thread_calls operations)) history rest others keeps

pub prefixes-keep : PrefixesKeepScripts
prefixes-keep s t operations prefix rest keeps = prefix-keeps s.limits.history t (opening_of s).hub 0 0 (Some (thread_calls operations)) prefix rest keeps
