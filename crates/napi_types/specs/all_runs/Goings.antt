-- That a run goes on: where no frame stands the environment's next event may come, and where it has none another actor goes on.
use Rattle.std.specs.Prelude.{◌≡◌, ◌≢◌, ℕ, false, List, [], Some, None, IsTrue}
use Rattle.napi_types.specs.declared.call.Ask.{Ask}
use Rattle.napi_types.specs.declared.call.Ask.TheVariants as ask
use Rattle.napi_types.specs.declared.entry.Entry.{Entry}
use Rattle.napi_types.specs.declared.entry.Phase.TheVariants as phase
use Rattle.napi_types.specs.plain.Entries.{is_environment}
use Rattle.napi_types.specs.hub.HistoryLaws.{LeadsTo}
use Rattle.napi_types.specs.hub.Hub.{Hub, Final}
use Rattle.napi_types.specs.hub.Waits.{SomebodyGoesOn}
use Rattle.napi_types.specs.runs.Choice.{hub_choice, choice}
use Rattle.napi_types.specs.runs.Loop.{Event}
use Rattle.napi_types.specs.runs.Machine.{Machine}
use Rattle.napi_types.specs.runs.Run.{IsNext, IsRunBy}
use Rattle.napi_types.specs.runs.Setting.{Setting, opening_of, final_of}
use Rattle.napi_types.specs.runs.Step.{event_step}

-- at every moment of a run where no frame stands the event that is next may come
abbrev pub NextEventsMayCome : Type 0
NextEventsMayCome = (s : Setting) (bs : List Ask) (xs : List Entry) (event : Event) → IsRunBy (opening_of s) bs xs → (final_of s bs xs).env.frames ≡ []
    → choice (final_of s bs xs) ≡ Some event → IsTrue (event_step (final_of s bs xs) event).may

-- until `finals`, where the hub has no event, a thread or a worker goes on: not all that are left wait, neither in the loop nor after the drain
abbrev pub SomebodyAlwaysGoesOn : Type 0
SomebodyAlwaysGoesOn = (limit threads workers : ℕ) (history : List Entry) (h : Hub) (waiting : ℕ) → LeadsTo limit threads workers history h
    → h.stage ≢ Final → hub_choice h waiting ≡ None → SomebodyGoesOn h

-- an entry of a thread or a worker that may come next
pub record AnotherGoesOn (m : Machine) : Type 0 where
  pub entry : Entry
  pub other : is_environment entry.actor ≡ false
  pub next : IsNext m (ask.Leave None) entry

-- until the environment is gone, where no frame stands and the environment has no event, a thread or a worker goes on, and there is such an entry
abbrev pub RunsNeverStandStill : Type 0
RunsNeverStandStill = (s : Setting) (bs : List Ask) (xs : List Entry) → IsRunBy (opening_of s) bs xs
    → (final_of s bs xs).env.phase ≢ phase.Gone → (final_of s bs xs).env.frames ≡ []
    → choice (final_of s bs xs) ≡ None → SomebodyGoesOn (final_of s bs xs).hub × AnotherGoesOn (final_of s bs xs)
