-- The entries of a worker say where it stands, as the hub does.
use Rattle.std.proofs.Common.{◌≡◌, ◌∙◌, ◌<◌, ℕ, ◌+◌, not, cond, List, [], ◌∷◌, refl, ap, sym, subst, Some, is_some}
use Rattle.napi_types.specs.declared.entry.Entry.{Entry}
use Rattle.napi_types.specs.plain.Lists.{has_number}
use Rattle.napi_types.specs.parts.Pool.{executed_by}
use Rattle.napi_types.specs.hub.ActorLaws.{worker_at, WorkersStandAsTheHubSays}
use Rattle.napi_types.specs.hub.Actors.{WorkerState, Free, Working, Over, worker_along}
use Rattle.napi_types.specs.hub.Hub.{Hub, new_hub}
use Rattle.napi_types.specs.hub.HubSteps.{hub_step, hub_along}
use Rattle.napi_types.specs.hub.Replays.{HubReplays}
use Rattle.napi_types.specs.hub.WorkerSteps.{is_worker_there}
use Rattle.napi_types.proofs.hub.WhoIsLeft.{left-unless}
use Rattle.napi_types.proofs.all_runs.WorkerEnds.{step-ended, TurnsAt, TurnsTo, hub-turns}

-- WHERE IT STANDS
stands-at : (w : ℕ) (h : Hub) (s : WorkerState) → is_worker_there h w ≡ not (has_number w h.ended_workers) → TurnsAt w h s → worker_at h w ≡ s
stands-at w h Free there k =
    ap (λ b. cond b (cond (is_some (executed_by h.pool w)) Working Free) Over) (there ∙ ap not k.over) ∙ ap (λ o. cond (is_some o) Working Free) k.stands
stands-at w h Working there k =
    ap (λ b. cond b (cond (is_some (executed_by h.pool w)) Working Free) Over) (there ∙ ap not k.over) ∙ ap (λ b. cond b Working Free) k.stands
stands-at w h Over there k = ap (λ b. cond b (cond (is_some (executed_by h.pool w)) Working Free) Over) (there ∙ ap not k.over)

along-stands : (limit w n count : ℕ) (h : Hub) (s : WorkerState) (xs : List Entry) → w < count → h.workers ≡ count → TurnsAt w h s → HubReplays limit h n xs
    → worker_along w (Some s) xs ≡ Some (worker_at (hub_along h xs) w)
along-stands limit w n count h s [] below same k replays =
    ap Some (sym (stands-at w h s (left-unless h.workers w h.ended_workers (subst (λ c. w < c) (sym same) below)) k))
along-stands limit w n count h s (x ∷ xs) below same k replays =
    let t : TurnsTo w x s (hub_step h x).after = hub-turns w h x s replays.0.may k in
    ap (λ o. worker_along w o xs) t.is
    ∙ along-stands limit w (n + 1) count (hub_step h x).after t.state xs below ((step-ended w h x replays.0.may).workers ∙ same) t.turns replays.2

pub workers-stand-as-the-hub-says : WorkersStandAsTheHubSays
workers-stand-as-the-hub-says limit threads workers w history h led below =
    along-stands limit w 0 workers (new_hub threads workers) Free history below refl (record { stands = refl; over = refl }) led.replays
    ∙ ap (λ g. Some (worker_at g w)) led.hub
