-- Before the drain no worker has ended.
use Rattle.std.proofs.Common.{◌≡◌, ◌∙◌, ℕ, ◌+◌, true, false, List, [], ◌∷◌, IsTrue, refl, ap, sym, subst, is_none}
use Rattle.napi_types.specs.declared.entry.Actor.{Actor}
use Rattle.napi_types.specs.declared.entry.Actor.TheVariants as actor
use Rattle.napi_types.specs.declared.entry.Duty.{Duty}
use Rattle.napi_types.specs.declared.entry.Duty.TheVariants as duty
use Rattle.napi_types.specs.declared.entry.Entry.{Entry}
use Rattle.napi_types.specs.declared.entry.HostStep.TheVariants as host
use Rattle.napi_types.specs.declared.entry.Out.{Out}
use Rattle.napi_types.specs.declared.entry.What.{What}
use Rattle.napi_types.specs.declared.entry.What.TheVariants as what
use Rattle.napi_types.specs.parts.Pool.{executed_by, number_of_work}
use Rattle.napi_types.specs.hub.HistoryLaws.{LeadsTo, WorkersEndAfterTheDrain}
use Rattle.napi_types.specs.hub.Hub.{Hub, new_hub}
use Rattle.napi_types.specs.hub.HubMoves.{without_duty}
use Rattle.napi_types.specs.hub.HubSteps.{hub_step, hub_step_of, hub_along, environment_step}
use Rattle.napi_types.specs.hub.Replays.{HubReplays}
use Rattle.napi_types.specs.hub.ThreadSteps.{thread_step}
use Rattle.napi_types.specs.hub.WorkerSteps.{is_worker_there, worker_step}
use Rattle.napi_types.proofs.plain.Conditions.{and-left, and-right}
use Rattle.napi_types.proofs.hub.ClosingPools.{cancelled-closing, started-closing, finished-closing, pools-close-at-the-drain}
use Rattle.napi_types.proofs.hub.HubCases.{HubCase, cancels_work, drains, delivers, worker_ends, starts, finishes_work, hub-case}
use Rattle.napi_types.proofs.hub.ThreadEnds.{is_end, is-no-end}

-- while the pool is not closing no worker has ended
abbrev pub IsStaffed : Hub → Type 0
IsStaffed h = h.pool.closing ≡ false → h.ended_workers ≡ []

-- WHAT IS NO END
duty-staffed : (d : Duty) (h : Hub) → IsStaffed h → IsStaffed (without_duty d h)
duty-staffed (duty.Work n) h s = s
duty-staffed _ h s = s

case-staffed : (h : Hub) (x : Entry) (told : Out) (n : Hub) → is_end x.what ≡ false → HubCase h x told n → IsStaffed h → IsStaffed n
case-staffed h x told _ none (cancels_work w is free) s = λ opened. s (sym (cancelled-closing (number_of_work h.pool w.0) h.pool) ∙ opened)
case-staffed h x told _ none (drains is may) s = λ opened. let no : true ≡ false = opened in cc
case-staffed h x told _ none (delivers d is next alone) s = duty-staffed d.duty h s
case-staffed h x told _ none (worker_ends w is there) s = absurd (is-no-end x is none)
case-staffed h x told _ none (starts w n later is waits free) s = λ opened. s (sym (started-closing h.pool.queued w h.pool) ∙ opened)
case-staffed h x told _ none (finishes_work w n is runs) s = λ opened. s (sym (finished-closing w (executed_by h.pool w) h.pool) ∙ opened)
case-staffed h x told _ none _ s = s

-- EACH ENTRY
environment-staffed : (h : Hub) (x : Entry) (it : What) → x.what ≡ it → IsTrue (environment_step h x it).may
    → HubCase h x (environment_step h x it).entry.reply.out (environment_step h x it).after → IsStaffed h → IsStaffed (environment_step h x it).after
environment-staffed h x (what.Host host.ActorEnd) is may case s = cc
environment-staffed h x it is may case s = case-staffed h x _ _ (ap is_end is) case s

thread-staffed : (h : Hub) (t : ℕ) (x : Entry) (it : What) → x.what ≡ it → HubCase h x (thread_step h t x it).entry.reply.out (thread_step h t x it).after
    → IsStaffed h → IsStaffed (thread_step h t x it).after
thread-staffed h t x (what.Host host.ActorEnd) is case s = s
thread-staffed h t x it is case s = case-staffed h x _ _ (ap is_end is) case s

-- a worker ends only where the pool is closing
worker-staffed : (h : Hub) (w : ℕ) (x : Entry) (it : What) → x.what ≡ it → IsTrue (worker_step h w x it).may
    → HubCase h x (worker_step h w x it).entry.reply.out (worker_step h w x it).after → IsStaffed h → IsStaffed (worker_step h w x it).after
worker-staffed h w x (what.Host host.ActorEnd) is may case s = λ opened. (
    let closing : h.pool.closing ≡ true = and-right (is_worker_there h w) h.pool.closing (and-left _ (is_none (executed_by h.pool w)) may) in
    let no : true ≡ false = sym closing ∙ opened in cc)
worker-staffed h w x it is may case s = case-staffed h x _ _ (ap is_end is) case s

pub step-staffed : (h : Hub) (x : Entry) → IsTrue (hub_step h x).may → IsStaffed h → IsStaffed (hub_step h x).after
step-staffed h x may s = by x.actor may (hub-case h x may)
  where
    by : (who : Actor) → IsTrue (hub_step_of h x who).may → HubCase h x (hub_step_of h x who).entry.reply.out (hub_step_of h x who).after
        → IsStaffed (hub_step_of h x who).after
    by actor.Env may case = environment-staffed h x x.what refl may case s
    by (actor.Thread t) may case = thread-staffed h t x x.what refl case s
    by (actor.Worker w) may case = worker-staffed h w x x.what refl may case s

-- ALONG A HISTORY
along-staffed : (limit n : ℕ) (h : Hub) (xs : List Entry) → IsStaffed h → HubReplays limit h n xs → IsStaffed (hub_along h xs)
along-staffed limit n h [] s replays = s
along-staffed limit n h (x ∷ xs) s replays = along-staffed limit (n + 1) (hub_step h x).after xs (step-staffed h x replays.0.may s) replays.2

led-staffed : (limit threads workers : ℕ) (history : List Entry) (h : Hub) → LeadsTo limit threads workers history h → IsStaffed h
led-staffed limit threads workers history h led =
    subst IsStaffed led.hub (along-staffed limit 0 (new_hub threads workers) history (λ opened. refl) led.replays)

pub workers-end-after-the-drain : WorkersEndAfterTheDrain
workers-end-after-the-drain limit threads workers history h led early =
    led-staffed limit threads workers history h led (pools-close-at-the-drain limit threads workers history h led ∙ early)
