-- The hub's step at each entry: the entry that must stand next in the history, what it leaves, and whether it may stand there.
use Rattle.std.specs.Prelude.{◌≡◌, List, [], ◌∷◌, IsTrue}
use Rattle.napi_types.specs.declared.entry.Actor.{Actor}
use Rattle.napi_types.specs.declared.entry.Actor.TheVariants as actor
use Rattle.napi_types.specs.declared.entry.Entry.{Entry}
use Rattle.napi_types.specs.declared.entry.What.{What}
use Rattle.napi_types.specs.declared.entry.What.TheVariants as what
use Rattle.napi_types.specs.hub.Hub.{Hub}
use Rattle.napi_types.specs.hub.HubStep.{HubStep}
use Rattle.napi_types.specs.hub.GivenSteps.{given_step}
use Rattle.napi_types.specs.hub.HubEvents.{environment_event}
use Rattle.napi_types.specs.hub.ThreadSteps.{thread_step}
use Rattle.napi_types.specs.hub.WorkerSteps.{worker_step}

abbrev pub environment_step : Hub → Entry → What → HubStep
environment_step h x (what.Call c) = given_step h x c x.given
environment_step h x (what.Host event) = environment_event h x event

-- by the actor
abbrev pub hub_step_of : Hub → Entry → Actor → HubStep
hub_step_of h x actor.Env = environment_step h x x.what
hub_step_of h x (actor.Thread t) = thread_step h t x x.what
hub_step_of h x (actor.Worker w) = worker_step h w x x.what

-- the step at which the entry must stand. Of the entry are read who made it, what it is, and where a call stands in its frame or thread; what the environment
-- handed over; a work's number that it newly gives; why the loop ends; and how a frame or a thread ends
abbrev pub hub_step : Hub → Entry → HubStep
hub_step h x = hub_step_of h x x.actor

-- the entry may come next in the history
pub record IsHubNext (h : Hub) (x : Entry) : Type 0 where
  pub entry : x ≡ (hub_step h x).entry
  pub may : IsTrue (hub_step h x).may

-- the hub after the entries
abbrev pub hub_along : Hub → List Entry → Hub
hub_along h [] = h
hub_along h (x ∷ xs) = hub_along (hub_step h x).after xs
