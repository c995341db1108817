-- A thread has ended exactly where none of its calls is left to speak of.
use Rattle.std.proofs.Common.{◌≡◌, ◌∙◌, ℕ, ◌+◌, ◌==◌, Bool, true, false, cond, ◌||◌, List, [], ◌∷◌, IsTrue, refl, ap, sym, subst, Option, Some, None, is_none}
use Rattle.napi_types.specs.declared.call.Call.{Call}
use Rattle.napi_types.specs.declared.entry.Actor.{Actor}
use Rattle.napi_types.specs.declared.entry.Actor.TheVariants as actor
use Rattle.napi_types.specs.declared.entry.Duty.{Duty}
use Rattle.napi_types.specs.declared.entry.Duty.TheVariants as duty
use Rattle.napi_types.specs.declared.entry.Entry.{Entry}
use Rattle.napi_types.specs.declared.entry.HostStep.TheVariants as host
use Rattle.napi_types.specs.declared.entry.Out.{Out}
use Rattle.napi_types.specs.declared.entry.What.{What}
use Rattle.napi_types.specs.declared.entry.What.TheVariants as what
use Rattle.napi_types.specs.plain.Lists.{has_number}
use Rattle.napi_types.specs.hub.Actors.{is_thread, left_after, left_along}
use Rattle.napi_types.specs.hub.HistoryLaws.{EndedThreadsHaveNoneLeft}
use Rattle.napi_types.specs.hub.Hub.{Hub, new_hub}
use Rattle.napi_types.specs.hub.HubMoves.{without_duty}
use Rattle.napi_types.specs.hub.HubSteps.{hub_step, hub_step_of, hub_along, environment_step}
use Rattle.napi_types.specs.hub.Replays.{HubReplays}
use Rattle.napi_types.specs.hub.ThreadSteps.{thread_step}
use Rattle.napi_types.specs.hub.WorkerSteps.{worker_step}
use Rattle.napi_types.proofs.plain.Found.{has-with_number}
use Rattle.napi_types.proofs.hub.HubCases.{HubCase, delivers, thread_ends, hub-case}

-- WHICH THREADS HAVE ENDED
abbrev pub is_end : What → Bool
is_end (what.Host host.ActorEnd) = true
is_end _ = false

duty-ends-none : (d : Duty) (h : Hub) → (without_duty d h).ended_threads ≡ h.ended_threads
duty-ends-none (duty.Work n) h = refl
duty-ends-none _ h = refl

pub is-no-end : (x : Entry) → x.what ≡ what.Host host.ActorEnd → is_end x.what ≡ false → ⊥
is-no-end x is none = let no : true ≡ false = sym (ap is_end is) ∙ none in cc

-- what is no actor's end leaves them
case-ends-none : (h : Hub) (x : Entry) (told : Out) (n : Hub) → is_end x.what ≡ false → HubCase h x told n → n.ended_threads ≡ h.ended_threads
case-ends-none h x told _ none (delivers d is next alone) = duty-ends-none d.duty h
case-ends-none h x told _ none (thread_ends t is there) = absurd (is-no-end x is none)
case-ends-none h x told _ none _ = refl

-- nor does the environment's entry end one, nor a worker's
environment-ends-none : (h : Hub) (x : Entry) (it : What) → x.what ≡ it → IsTrue (environment_step h x it).may
    → HubCase h x (environment_step h x it).entry.reply.out (environment_step h x it).after → (environment_step h x it).after.ended_threads ≡ h.ended_threads
environment-ends-none h x (what.Host host.ActorEnd) is may case = cc
environment-ends-none h x it is may case = case-ends-none h x _ _ (ap is_end is) case

worker-ends-none : (h : Hub) (w : ℕ) (x : Entry) (it : What) → x.what ≡ it → HubCase h x (worker_step h w x it).entry.reply.out (worker_step h w x it).after
    → (worker_step h w x it).after.ended_threads ≡ h.ended_threads
worker-ends-none h w x (what.Host host.ActorEnd) is case = refl
worker-ends-none h w x it is case = case-ends-none h x _ _ (ap is_end is) case

-- HOW MANY THREADS THERE ARE
duty-threads : (d : Duty) (h : Hub) → (without_duty d h).threads ≡ h.threads
duty-threads (duty.Work n) h = refl
duty-threads _ h = refl

-- no entry changes it
case-threads : (h : Hub) (x : Entry) (told : Out) (n : Hub) → HubCase h x told n → n.threads ≡ h.threads
case-threads h x told _ (delivers d is next alone) = duty-threads d.duty h
case-threads h x told _ _ = refl

pub step-threads : (h : Hub) (x : Entry) → IsTrue (hub_step h x).may → (hub_step h x).after.threads ≡ h.threads
step-threads h x may = case-threads h x _ _ (hub-case h x may)

-- ONE ENTRY
-- one of another actor leaves which threads have ended; one of this thread leaves none of its calls where it is its end
abbrev pub LeftSo : ℕ → Hub → Option (List Call) → Type 0
LeftSo t h left = is_none left ≡ has_number t h.ended_threads

called-left : (left : Option (List Call)) (c : Call) → is_none (left_after left (what.Call c)) ≡ is_none left
called-left None c = refl
called-left (Some calls) c = refl

ended-left : (left : Option (List Call)) → is_none (left_after left (what.Host host.ActorEnd)) ≡ true
ended-left None = refl
ended-left (Some calls) = refl

either-left : (b : Bool) (left later : Option (List Call)) → is_none later ≡ is_none left → is_none (cond b later left) ≡ is_none left
either-left true left later same = same
either-left false left later same = refl

thread-left : (t : ℕ) (h : Hub) (u : ℕ) (x : Entry) (it : What) (left : Option (List Call)) → x.what ≡ it → IsTrue (thread_step h u x it).may
    → HubCase h x (thread_step h u x it).entry.reply.out (thread_step h u x it).after → LeftSo t h left
    → LeftSo t (thread_step h u x it).after (cond (u == t) (left_after left it) left)
thread-left t h u x (what.Call c) left is may case so =
    either-left (u == t) left (left_after left (what.Call c)) (called-left left c) ∙ so ∙ ap (has_number t) (sym (case-ends-none h x _ _ (ap is_end is) case))
thread-left t h u x (what.Host host.ActorEnd) left is may case so = by (u == t) ∙ sym (has-with_number t u h.ended_threads)
  where
    by : (b : Bool) → is_none (cond b (left_after left (what.Host host.ActorEnd)) left) ≡ (b || has_number t h.ended_threads)
    by true = ended-left left
    by false = so
thread-left t h u x (what.Host _) left is may case so = cc

pub step-left : (t : ℕ) (h : Hub) (x : Entry) (left : Option (List Call)) → IsTrue (hub_step h x).may → LeftSo t h left
    → LeftSo t (hub_step h x).after (cond (is_thread t x.actor) (left_after left x.what) left)
step-left t h x left may so = by x.actor may (hub-case h x may)
  where
    by : (who : Actor) → IsTrue (hub_step_of h x who).may → HubCase h x (hub_step_of h x who).entry.reply.out (hub_step_of h x who).after
        → LeftSo t (hub_step_of h x who).after (cond (is_thread t who) (left_after left x.what) left)
    by actor.Env may case = so ∙ ap (has_number t) (sym (environment-ends-none h x x.what refl may case))
    by (actor.Thread u) may case = thread-left t h u x x.what left refl may case so
    by (actor.Worker w) may case = so ∙ ap (has_number t) (sym (worker-ends-none h w x x.what refl case))

-- ALONG A HISTORY
along-left : (limit t : ℕ) (h : Hub) (n : ℕ) (left : Option (List Call)) (xs : List Entry) → HubReplays limit h n xs → LeftSo t h left → LeftSo t (hub_along h xs) (left_along t left xs)
along-left limit t h n left [] replays so = so
along-left limit t h n left (x ∷ xs) replays so =
    along-left limit t (hub_step h x).after (n + 1) (cond (is_thread t x.actor) (left_after left x.what) left) xs replays.2 (step-left t h x left replays.0.may so)

pub ended-threads-left : EndedThreadsHaveNoneLeft
ended-threads-left limit threads workers t calls history h led =
    subst (λ g. LeftSo t g (left_along t (Some calls) history)) led.hub (along-left limit t (new_hub threads workers) 0 (Some calls) history led.replays refl)
