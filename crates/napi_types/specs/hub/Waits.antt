-- Who waits: a thread at a call that the hub does not answer yet, and a worker that has nothing to do. Who has not ended and does not wait goes on.
use Rattle.std.specs.Prelude.{◌≡◌, ◌⊎◌, ℕ, Bool, true, false, not, ◌&&◌, is_none}
use Rattle.napi_types.specs.declared.call.Call.{Call}
use Rattle.napi_types.specs.declared.entry.Actor.TheVariants as actor
use Rattle.napi_types.specs.plain.Lists.{is_empty}
use Rattle.napi_types.specs.parts.Pool.{executed_by}
use Rattle.napi_types.specs.hub.Hub.{Hub}
use Rattle.napi_types.specs.hub.HubCalls.{hub_answer, is_thread_call}
use Rattle.napi_types.specs.hub.ThreadSteps.{is_thread_there, nothing_given}
use Rattle.napi_types.specs.hub.WorkerSteps.{is_worker_there}

-- a thread waits at one of its calls while the hub does not answer it
abbrev pub waits_at : Hub → ℕ → Call → Bool
waits_at h t c = is_thread_call c && is_none (hub_answer h (actor.Thread t) nothing_given c 0)

-- a worker waits while it executes no work, none is queued, and the pool is not closing
abbrev pub worker_waits : Hub → ℕ → Bool
worker_waits h w = is_none (executed_by h.pool w) && is_empty h.pool.queued && not h.pool.closing

-- a thread that may make entries and waits at no call
pub record ThreadGoesOn (h : Hub) (t : ℕ) : Type 0 where
  pub there : is_thread_there h t ≡ true
  pub answered : (c : Call) → waits_at h t c ≡ false

-- a worker that has not ended and does not wait
pub record WorkerGoesOn (h : Hub) (w : ℕ) : Type 0 where
  pub there : is_worker_there h w ≡ true
  pub busy : worker_waits h w ≡ false

-- there is such a thread, or such a worker
abbrev pub SomebodyGoesOn : Hub → Type 0
SomebodyGoesOn h = ((t : ℕ) × ThreadGoesOn h t) ⊎ ((w : ℕ) × WorkerGoesOn h w)
