-- How far the hub has come, as the code has it.
use Rattle.std.specs.Prelude.{◌≡◌, ℕ, ◌+◌, ◌-◌, Bool, true, nat_lt, None}
use Rattle.napi_types.specs.declared.entry.Actor.{Actor}
use Rattle.napi_types.specs.declared.entry.Actor.TheVariants as actor
use Rattle.napi_types.specs.plain.Room.{one_if}
use Rattle.napi_types.specs.hub.Hub.{Hub, Stage, Before, Live, LoopEnded, HooksAbandoned, Drained, Final, stage_places}
use Rattle.shared_hub.specs.declared.progress.HubProgress.{HubProgress}
use Rattle.shared_hub.specs.declared.progress.HubStage.{HubStage}
use Rattle.shared_hub.specs.declared.progress.HubStage.TheVariants as code

-- the stage that it is
abbrev pub hub_stage : HubStage → Stage
hub_stage code.Before = Before
hub_stage code.Live = Live
hub_stage code.LoopEnded = LoopEnded
hub_stage code.HooksAbandoned = HooksAbandoned
hub_stage code.Drained = Drained
hub_stage code.Final = Final

-- the hub is at this stage, and no frame of its own stands
abbrev pub IsAtStage : Stage → Hub → Type 0
IsAtStage s h = (h.stage ≡ s) × (h.standing ≡ None)

-- the places of the history that the hub owes beside those of works and functions
abbrev pub progress_places : HubProgress → ℕ
progress_places p = stage_places (hub_stage p.stage) + p.threads_left + p.workers_left + one_if p.stands

-- an actor of this kind is left
abbrev pub is_left : Actor → HubProgress → Bool
is_left actor.Env p = true
is_left (actor.Thread t) p = nat_lt 0 p.threads_left
is_left (actor.Worker w) p = nat_lt 0 p.workers_left

-- one less of this kind is left
abbrev pub without_actor : Actor → HubProgress → HubProgress
without_actor actor.Env p = p
without_actor (actor.Thread t) p = record p { threads_left = p.threads_left - 1 }
without_actor (actor.Worker w) p = record p { workers_left = p.workers_left - 1 }
