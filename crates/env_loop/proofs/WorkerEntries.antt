-- What a worker does next, by what it holds and by the hub.
use Rattle.std.proofs.Common.{◌≡◌, ◌∙◌, ℕ, Bool, true, false, not, cond, ◌&&◌, List, [], ◌∷◌, IsTrue, refl, ap, sym, subst, Option, Some, None, is_some, is_none, option_map}
use Rattle.std.specs.Option.{option_and_then, option_map_or}
use Rattle.napi_types.specs.declared.entry.Actor.TheVariants as actor
use Rattle.napi_types.specs.declared.entry.Duty.TheVariants as duty
use Rattle.napi_types.specs.declared.entry.Entry.{Entry}
use Rattle.napi_types.specs.declared.entry.HostStep.TheVariants as host
use Rattle.napi_types.specs.declared.entry.Out.TheVariants as out
use Rattle.napi_types.specs.plain.Lists.{head, is_empty}
use Rattle.napi_types.specs.parts.Jobs.{job_value}
use Rattle.napi_types.specs.parts.Pool.{WorkPool, executed_by, value_of_work, work_numbered, started_from}
use Rattle.napi_types.specs.parts.Works.{Work}
use Rattle.napi_types.specs.hub.ActorLaws.{worker_at}
use Rattle.napi_types.specs.hub.Actors.{WorkerState, Free, Working, Over, is_worker, worker_after, worker_along}
use Rattle.napi_types.specs.hub.Hub.{Hub}
use Rattle.napi_types.specs.hub.HubStep.{HubStep, actor_told}
use Rattle.napi_types.specs.hub.HubSteps.{hub_step}
use Rattle.napi_types.specs.hub.Waits.{worker_waits}
use Rattle.napi_types.specs.hub.WorkerSteps.{is_worker_there, start_step}
use Rattle.napi_types.proofs.plain.Found.{same-self}
use Rattle.napi_types.proofs.hub.ActorsGoOn.{workers-go-on}
use Rattle.napi_types.proofs.hub.WorkerTurns.{started-executes}
use Rattle.napi_types.proofs.all_runs.WorkersStand.{workers-stand-as-the-hub-says}
use Rattle.async_work.specs.Executing.{StartedWork, ExecutedWork}
use Rattle.async_work.specs.Picking.{work_to_start, first_to_start}
use Rattle.shared_hub.specs.HubStates.{HubSeen, AddsEntry}
use Rattle.shared_hub.specs.KeptHubs.{IsLedHub}
use Rattle.shared_hub.specs.declared.naming.Numbers.{Numbers}
use Rattle.env_loop.specs.ActorRuns.{HeldWork, NoWork, Started, Executed, WorkerSeen, held_state, IsHeld, IsWorkerOf}

-- WHERE IT STANDS
there-by : (b : Bool) (o : Option ℕ) (held : HeldWork) → cond b (cond (is_some o) Working Free) Over ≡ held_state held → b ≡ true
there-by true o held is = refl
there-by false o NoWork is = cc
there-by false o (Started s) is = cc
there-by false o (Executed r) is = cc

free-by : (b : Bool) (o : Option ℕ) → b ≡ true → cond b (cond (is_some o) Working Free) Over ≡ Free → o ≡ None
free-by true None there is = refl
free-by true (Some n) there is = cc
free-by false o there is = cc

module _ (n : Numbers) (s : HubSeen) (w : WorkerSeen) (k : IsLedHub n s) (of : IsWorkerOf n s w) (here : w.over ≡ false) where
  at : worker_at s.hub w.number ≡ held_state w.held
  at =
      let both : Some (worker_at s.hub w.number) ≡ Some (held_state w.held) =
      sym (workers-stand-as-the-hub-says n.limits.history n.threads n.workers w.number s.history s.hub k.led of.there) ∙ of.stands
      ∙ ap (λ b. Some (cond b Over (held_state w.held))) here in
      cc

  pub worker-there : IsTrue (is_worker_there s.hub w.number)
  worker-there = there-by (is_worker_there s.hub w.number) (executed_by s.hub.pool w.number) w.held at

  pub worker-free : w.held ≡ NoWork → executed_by s.hub.pool w.number ≡ None
  worker-free free = free-by (is_worker_there s.hub w.number) (executed_by s.hub.pool w.number) worker-there (at ∙ ap held_state free)

-- it waits where none is queued and the pool is not closing
pub waits-so : (h : Hub) (w : ℕ) → executed_by h.pool w ≡ None → true ≡ (not h.pool.closing && is_empty h.pool.queued) → worker_waits h w ≡ true
waits-so h w free nothing = ap (λ o. is_none o && is_empty h.pool.queued && not h.pool.closing) free ∙ by (not h.pool.closing) (is_empty h.pool.queued) nothing
  where
    by : (a b : Bool) → true ≡ (a && b) → (true && b && a) ≡ true
    by true true is = refl
    by true false is = sym is
    by false b is = let no : true ≡ false = is in cc

-- ITS ENTRIES
module _ (n : Numbers) (s new : HubSeen) (number : ℕ) where
  along : (st : WorkerState) (x : Entry) → worker_along number (Some Free) s.history ≡ Some st → x.actor ≡ actor.Worker number → AddsEntry s x new
      → worker_along number (Some Free) new.history ≡ worker_after st x.what
  along st x stands by adds =
      ap (worker_along number (Some Free)) adds.history
      ∙ workers-go-on number st s.history x stands (ap (is_worker number) by ∙ same-self number)

  -- the finish of the work that it executed
  pub makes-finish : (r : ExecutedWork) (value : ℕ) → IsWorkerOf n s (record { number = number; held = Executed r; over = false })
      → AddsEntry s (actor_told (actor.Worker number) host.Finish (out.Unsigned value)) new
      → IsWorkerOf n new (record { number = number; held = NoWork; over = false })
  makes-finish r value of adds = record { there = of.there; stands = along Working _ of.stands refl adds; held = tt }

  -- its end
  pub makes-end : IsWorkerOf n s (record { number = number; held = NoWork; over = false })
      → AddsEntry s (actor_told (actor.Worker number) host.ActorEnd out.Nothing) new
      → IsWorkerOf n new (record { number = number; held = NoWork; over = true })
  makes-end of adds = record { there = of.there; stands = along Free _ of.stands refl adds; held = tt }

  -- the start of the work that was queued first
  pub makes-start : (t : StartedWork) → IsWorkerOf n s (record { number = number; held = NoWork; over = false }) → Some t ≡ first_to_start s.hub.pool
      → AddsEntry s (actor_told (actor.Worker number) host.Start (out.Duty (duty.Work t.number))) new
      → IsWorkerOf n new (record { number = number; held = Started t; over = false })
  makes-start t of first adds = record { there = of.there; stands = along Free x of.stands refl adds; held = subst (λ (h : Hub). IsHeld h.pool number (Started t)) (sym adds.hub) (by s.hub.pool.queued refl first) }
    where
      x : Entry
      x = actor_told (actor.Worker number) host.Start (out.Duty (duty.Work t.number))

      told : (m : ℕ) (o : Option Work) → work_numbered s.hub.pool m ≡ o → Some t ≡ option_map (λ (v : Work). record { number = m; spec = v.spec }) o
          → (m ≡ t.number) × (job_value t.spec ≡ value_of_work s.hub.pool m)
      told m None numbered is = cc
      told m (Some v) numbered is =
          let same : t ≡ record { number = m; spec = v.spec } = cc in (
            sym (ap (λ (u : StartedWork). u.number) same),
            ap (λ (u : StartedWork). job_value u.spec) same ∙ sym (ap (λ o. option_map_or (λ (u : Work). job_value u.spec) o 0) numbered),
          )

      by : (queued : List ℕ) → s.hub.pool.queued ≡ queued → Some t ≡ option_and_then (work_to_start s.hub.pool) (head queued)
          → IsHeld (hub_step s.hub x).after.pool number (Started t)
      by [] waits is = cc
      by (m ∷ later) waits is =
          let work : (m ≡ t.number) × (job_value t.spec ≡ value_of_work s.hub.pool m) = told m (work_numbered s.hub.pool m) refl is in
          subst (λ (u : HubStep). IsHeld u.after.pool number (Started t)) (sym (ap (start_step s.hub number x) waits))
          (subst (λ (p : WorkPool). IsHeld p number (Started t)) (sym (ap (λ ns. started_from ns number s.hub.pool) waits)) (
            started-executes number m number (record (s.hub.pool) { queued = later }) ∙ ap (λ b. cond b (Some m) (executed_by s.hub.pool number)) (same-self number)
                ∙ ap (λ k. Some k) work.0,
            work.1 ∙ ap (value_of_work s.hub.pool) work.0,
          ))
