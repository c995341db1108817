-- The runs of threads and workers stay the hub's while others go on.
use Rattle.std.proofs.Common.{◌≡◌, ◌∙◌, Bool, false, cond, [], refl, ap, sym, subst, Some}
use Rattle.std.proofs.lemmas.List.Elements.{All-cons, All-nil}
use Rattle.napi_types.specs.declared.entry.Entry.{Entry}
use Rattle.napi_types.specs.plain.Lists.{singleton}
use Rattle.napi_types.specs.hub.ActorLaws.{ThreadStands}
use Rattle.napi_types.specs.hub.Actors.{thread_calls, is_thread, is_worker, Free, Over, worker_along}
use Rattle.napi_types.specs.hub.HistoryLaws.{StaysRunning}
use Rattle.napi_types.specs.hub.Hub.{Hub}
use Rattle.napi_types.specs.hub.HubSteps.{hub_step}
use Rattle.napi_types.proofs.hub.ActorsGoOn.{threads-stand, workers-stand}
use Rattle.napi_types.proofs.hub.RunningWorks.{running-stays-running}
use Rattle.env_loop.specs.ActorRuns.{entries_made, calls_left, HeldWork, NoWork, Started, Executed, held_state, held_executed, IsHeld, ThreadRunsStand, WorkerRunsStand, ExecutedWorksStand}

pub thread-runs-stand : ThreadRunsStand
thread-runs-stand n s new t x k of adds other = record {
  there = of.there;
  stands =
      subst (λ xs. ThreadStands n.limits.history n.threads n.workers t.number (thread_calls t.operations) xs (entries_made t) (calls_left t)) (sym adds.history)
      (threads-stand n.limits.history n.threads n.workers t.number (entries_made t) (thread_calls t.operations) (calls_left t) s.history (singleton x) of.stands
      (All-cons (λ (y : Entry). is_thread t.number y.actor ≡ false) x [] other (All-nil (λ (y : Entry). is_thread t.number y.actor ≡ false))));
}

pub worker-runs-stand : WorkerRunsStand
worker-runs-stand n s new w x k of adds other = record {
  there = of.there;
  stands =
      ap (worker_along w.number (Some Free)) adds.history
      ∙ workers-stand w.number s.history (singleton x)
      (All-cons (λ (y : Entry). is_worker w.number y.actor ≡ false) x [] other (All-nil (λ (y : Entry). is_worker w.number y.actor ≡ false)))
      ∙ of.stands;
  held = subst (λ (h : Hub). IsHeld h.pool w.number w.held) (sym adds.hub) (by w.held of.held);
}
  where
    by : (held : HeldWork) → IsHeld s.hub.pool w.number held → IsHeld (hub_step s.hub x).after.pool w.number held
    by NoWork is = tt
    by (Started t) is =
        let stays : StaysRunning w.number t.number s.hub (hub_step s.hub x).after =
        running-stays-running n.limits.history n.threads n.workers w.number t.number s.history s.hub x k.led adds.next other is.0 in
        (stays.executed, is.1 ∙ sym stays.value)
    by (Executed r) is =
        let stays : StaysRunning w.number r.number s.hub (hub_step s.hub x).after =
        running-stays-running n.limits.history n.threads n.workers w.number r.number s.history s.hub x k.led adds.next other is.0 in
        (stays.executed, is.1 ∙ sym stays.value)

pub executed-works-stand : ExecutedWorksStand
executed-works-stand n s w of = record {
  there = of.there;
  stands = of.stands ∙ ap (λ st. Some st) (state w.over w.held);
  held = by w.held of.held;
}
  where
    same : (held : HeldWork) → held_state held ≡ held_state (held_executed held)
    same NoWork = refl
    same (Started t) = refl
    same (Executed r) = refl

    state : (b : Bool) (held : HeldWork) → cond b Over (held_state held) ≡ cond b Over (held_state (held_executed held))
    state b held = ap (cond b Over) (same held)

    by : (held : HeldWork) → IsHeld s.hub.pool w.number held → IsHeld s.hub.pool w.number (held_executed held)
    by NoWork is = is
    by (Started t) is = is
    by (Executed r) is = is
