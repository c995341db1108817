-- What the runs of actors and of the environment keep as rows come that others made.
use Rattle.std.proofs.Common.{◌≡◌, ◌≢◌, ◌∙◌, ℕ, ◌+◌, Bool, true, false, List, [], ◌∷◌, ◌++◌, length, Some, refl, ap, sym, subst, arith, length-append, append_assoc}
use Rattle.std.specs.List.{All}
use Rattle.std.proofs.lemmas.Bool.Decides.{nat_tests}
use Rattle.std.proofs.lemmas.List.{append-nil}
use Rattle.std.proofs.lemmas.List.Elements.{All-nil, All-cons, All-head, All-tail, All-weaker}
use Rattle.napi_types.specs.declared.entry.Actor.{Actor}
use Rattle.napi_types.specs.declared.entry.Actor.TheVariants as actor
use Rattle.napi_types.specs.declared.entry.Entry.{Entry}
use Rattle.napi_types.specs.plain.Entries.{is_environment}
use Rattle.napi_types.specs.plain.Lists.{singleton}
use Rattle.napi_types.specs.parts.Pool.{executed_by, value_of_work}
use Rattle.napi_types.specs.hub.ActorLaws.{ThreadStands}
use Rattle.napi_types.specs.hub.Actors.{thread_calls, is_thread, is_worker, Free, worker_along}
use Rattle.napi_types.specs.hub.HistoryLaws.{LeadsTo, GoesOnBehind, StaysRunning}
use Rattle.napi_types.specs.hub.Hub.{Hub, new_hub}
use Rattle.napi_types.specs.hub.HubSteps.{hub_step, hub_along}
use Rattle.napi_types.specs.hub.Replays.{HubReplays}
use Rattle.napi_types.proofs.hub.ActorsGoOn.{threads-stand, workers-stand}
use Rattle.napi_types.proofs.hub.GrowingHistories.{prefixes-replay, leads-more}
use Rattle.napi_types.proofs.hub.RunningWorks.{running-stays-running}
use Rattle.shared_hub.proofs.RowsOfHistories.{other-actor}
use Rattle.shared_hub.specs.HubRows.{pass_of, row_of, rows_of}
use Rattle.shared_hub.specs.HubStates.{HubSeen}
use Rattle.shared_hub.specs.declared.naming.Numbers.{Numbers}
use Rattle.env_loop.specs.ActorRuns.{entries_made, calls_left, HeldWork, NoWork, Started, Executed, IsHeld}
use Rattle.env_loop.specs.ActorTurns.{actor_of}
use Rattle.env_loop.specs.FollowedRuns.{IsFollowed}
use Rattle.env_loop.specs.RecordedRuns.{Run, FitsHub}
use Rattle.env_loop.specs.RunsOverRows.{OthersCame, ThreadRunsStandOverRows, WorkerRunsStandOverRows, ActorRunsStandOverRows, RunsAreFollowedOverRows, FittingRunsStandOverRows}
use Rattle.env_loop.specs.declared.actor.ActorRun.{ActorRun}
use Rattle.env_loop.specs.declared.actor.ActorRun.TheVariants as run
use Rattle.env_loop.proofs.FollowedRuns.{others-may-add, fitting-runs-stand}

-- ENTRIES OF OTHERS BY THEIR ROWS
thread-apart : (threads t : ℕ) (who : Actor) → pass_of threads who ≢ pass_of threads (actor.Thread t) → is_thread t who ≡ false
thread-apart threads t actor.Env apart = refl
thread-apart threads t (actor.Worker w) apart = refl
thread-apart threads t (actor.Thread u) apart = by (is_thread t (actor.Thread u)) refl
  where
    alike : is_thread t (actor.Thread u) ≡ true → u ≡ t
    alike is = grind (arith, nat_tests)

    by : (b : Bool) → is_thread t (actor.Thread u) ≡ b → is_thread t (actor.Thread u) ≡ false
    by true is = absurd (apart (ap (λ k. pass_of threads (actor.Thread k)) (alike is)))
    by false is = is

worker-apart : (threads w : ℕ) (who : Actor) → pass_of threads who ≢ pass_of threads (actor.Worker w) → is_worker w who ≡ false
worker-apart threads w actor.Env apart = refl
worker-apart threads w (actor.Thread t) apart = refl
worker-apart threads w (actor.Worker u) apart = by (is_worker w (actor.Worker u)) refl
  where
    alike : is_worker w (actor.Worker u) ≡ true → u ≡ w
    alike is = grind (arith, nat_tests)

    by : (b : Bool) → is_worker w (actor.Worker u) ≡ b → is_worker w (actor.Worker u) ≡ false
    by true is = absurd (apart (ap (λ k. pass_of threads (actor.Worker k)) (alike is)))
    by false is = is

entry-passes : (threads pass : ℕ) (rest : List Entry) → All (λ r. r.pass ≢ pass) (rows_of threads rest) → All (λ (x : Entry). pass_of threads x.actor ≢ pass) rest
entry-passes threads pass [] others = All-nil (λ (x : Entry). pass_of threads x.actor ≢ pass)
entry-passes threads pass (x ∷ rest) others =
    All-cons (λ (y : Entry). pass_of threads y.actor ≢ pass) x rest (All-head (λ r. r.pass ≢ pass) (row_of threads x) (rows_of threads rest) others)
    (entry-passes threads pass rest (All-tail (λ r. r.pass ≢ pass) (row_of threads x) (rows_of threads rest) others))

-- the entries that came
record Came (threads pass : ℕ) (before after : List Entry) : Type 0 where
  rest : List Entry
  goes_on : after ≡ before ++ rest
  others : All (λ (x : Entry). pass_of threads x.actor ≢ pass) rest

came : (threads pass : ℕ) (before after : List Entry) → OthersCame threads pass before after → Came threads pass before after
came threads pass before after o = record { rest = o.rest; goes_on = o.goes_on; others = entry-passes threads pass o.rest o.others }

all-apart : (threads pass : ℕ) (test : Actor → Bool) → ((who : Actor) → pass_of threads who ≢ pass → test who ≡ false) → (rest : List Entry)
    → All (λ (x : Entry). pass_of threads x.actor ≢ pass) rest → All (λ (x : Entry). test x.actor ≡ false) rest
all-apart threads pass test apart rest others =
    All-weaker (λ (x : Entry). pass_of threads x.actor ≢ pass) (λ (x : Entry). test x.actor ≡ false) (λ x other. apart x.actor other) rest others

-- A WORK THAT IS EXECUTED
-- the worker still executes it, and it has its value
record StillRuns (w k : ℕ) (old new : Hub) : Type 0 where
  executed : executed_by new.pool w ≡ Some k
  value : value_of_work new.pool k ≡ value_of_work old.pool k

still-runs : (limit threads workers w k : ℕ) (prefix rest : List Entry) (h : Hub) → LeadsTo limit threads workers prefix h
    → HubReplays limit h (length prefix) rest
    → All (λ (x : Entry). is_worker w x.actor ≡ false) rest → executed_by h.pool w ≡ Some k → StillRuns w k h (hub_along h rest)
still-runs limit threads workers w k prefix [] h led replays others runs = record { executed = runs; value = refl }
still-runs limit threads workers w k prefix (x ∷ rest) h led replays others runs =
    let stays : StaysRunning w k h (hub_step h x).after =
    running-stays-running limit threads workers w k prefix h x led replays.0 (All-head (λ (y : Entry). is_worker w y.actor ≡ false) x rest others) runs in
    let later : StillRuns w k (hub_step h x).after (hub_along (hub_step h x).after rest) =
    still-runs limit threads workers w k (prefix ++ singleton x) rest (hub_step h x).after (leads-more limit threads workers prefix h x led replays.0 replays.1)
    (subst (λ m. HubReplays limit (hub_step h x).after m rest) (sym (length-append prefix (singleton x))) replays.2)
    (All-tail (λ (y : Entry). is_worker w y.actor ≡ false) x rest others) stays.executed in
    record { executed = later.executed; value = later.value ∙ stays.value }

-- THE LAWS
pub thread-runs-stand-over : ThreadRunsStandOverRows
thread-runs-stand-over n s new t led after of o =
    let c : Came n.threads (pass_of n.threads (actor.Thread t.number)) s.history new.history = came n.threads (pass_of n.threads (actor.Thread t.number)) s.history new.history o in
    record {
      there = of.there;
      stands =
          subst (λ xs. ThreadStands n.limits.history n.threads n.workers t.number (thread_calls t.operations) xs (entries_made t) (calls_left t)) (sym c.goes_on)
          (threads-stand n.limits.history n.threads n.workers t.number (entries_made t) (thread_calls t.operations) (calls_left t) s.history c.rest of.stands
          (all-apart n.threads (pass_of n.threads (actor.Thread t.number)) (is_thread t.number) (thread-apart n.threads t.number) c.rest c.others));
    }

pub worker-runs-stand-over : WorkerRunsStandOverRows
worker-runs-stand-over n s new w led after of o = record {
  there = of.there;
  stands = ap (worker_along w.number (Some Free)) c.goes_on ∙ workers-stand w.number s.history c.rest others ∙ of.stands;
  held = subst (λ (h : Hub). IsHeld h.pool w.number w.held) last (by w.held of.held);
}
  where
    c : Came n.threads (pass_of n.threads (actor.Worker w.number)) s.history new.history
    c = came n.threads (pass_of n.threads (actor.Worker w.number)) s.history new.history o

    others : All (λ (x : Entry). is_worker w.number x.actor ≡ false) c.rest
    others = all-apart n.threads (pass_of n.threads (actor.Worker w.number)) (is_worker w.number) (worker-apart n.threads w.number) c.rest c.others

    behind : GoesOnBehind n.limits.history n.threads n.workers s.history c.rest new.hub
    behind = prefixes-replay n.limits.history n.threads n.workers s.history c.rest new.hub
        (subst (λ xs. LeadsTo n.limits.history n.threads n.workers xs new.hub) c.goes_on after)

    replays : HubReplays n.limits.history s.hub (length s.history) c.rest
    replays = subst (λ h. HubReplays n.limits.history h (length s.history) c.rest) led.hub behind.replays

    last : hub_along s.hub c.rest ≡ new.hub
    last = ap (λ h. hub_along h c.rest) (sym led.hub) ∙ behind.hub

    runs : (k : ℕ) → executed_by s.hub.pool w.number ≡ Some k → StillRuns w.number k s.hub (hub_along s.hub c.rest)
    runs k is = still-runs n.limits.history n.threads n.workers w.number k s.history c.rest s.hub led replays others is

    by : (held : HeldWork) → IsHeld s.hub.pool w.number held → IsHeld (hub_along s.hub c.rest).pool w.number held
    by NoWork is = tt
    by (Started t) is = ((runs t.number is.0).executed, is.1 ∙ sym (runs t.number is.0).value)
    by (Executed r) is = ((runs r.number is.0).executed, is.1 ∙ sym (runs r.number is.0).value)

pub actor-runs-stand-over : (J : Type 0) → ActorRunsStandOverRows J
actor-runs-stand-over J n s new (run.OfThread t) led after of o = thread-runs-stand-over n s new t led after of o
actor-runs-stand-over J n s new (run.OfWorker w) led after of o = worker-runs-stand-over n s new w led after of o

pub runs-followed-over : RunsAreFollowedOverRows
runs-followed-over s r threads before after all firsts followed o =
    let c : Came threads 0 before after = came threads 0 before after o in
    subst (λ xs. IsFollowed s r xs all firsts) (sym c.goes_on)
    (others-may-add s r before c.rest all firsts followed (all-apart threads 0 is_environment (other-actor threads) c.rest c.others))

-- the run fits on along the entries of others
fits-along : (run : Run) (limit : ℕ) (prefix rest : List Entry) (h : Hub) → HubReplays limit h (length prefix) rest
    → All (λ (x : Entry). is_environment x.actor ≡ false) rest → FitsHub run (record { hub = h; history = prefix })
    → FitsHub run (record { hub = hub_along h rest; history = prefix ++ rest })
fits-along run limit prefix [] h replays others fits = subst (λ xs. FitsHub run (record { hub = h; history = xs })) (sym (append-nil prefix)) fits
fits-along run limit prefix (x ∷ rest) h replays others fits =
    subst (λ xs. FitsHub run (record { hub = hub_along (hub_step h x).after rest; history = xs })) (append_assoc prefix (singleton x) rest)
    (fits-along run limit (prefix ++ singleton x) rest (hub_step h x).after
    (subst (λ m. HubReplays limit (hub_step h x).after m rest) (sym (length-append prefix (singleton x))) replays.2)
    (All-tail (λ (y : Entry). is_environment y.actor ≡ false) x rest others)
    (fitting-runs-stand run (record { hub = h; history = prefix }) (record { hub = (hub_step h x).after; history = prefix ++ singleton x }) x fits
    (All-head (λ (y : Entry). is_environment y.actor ≡ false) x rest others) (record { next = replays.0; hub = refl; history = refl })))

pub fitting-runs-stand-over : FittingRunsStandOverRows
fitting-runs-stand-over n r s new led after fits o =
    let c : Came n.threads 0 s.history new.history = came n.threads 0 s.history new.history o in
    let behind : GoesOnBehind n.limits.history n.threads n.workers s.history c.rest new.hub =
    prefixes-replay n.limits.history n.threads n.workers s.history c.rest new.hub
    (subst (λ xs. LeadsTo n.limits.history n.threads n.workers xs new.hub) c.goes_on after) in
    let replays : HubReplays n.limits.history s.hub (length s.history) c.rest = subst (λ h. HubReplays n.limits.history h (length s.history) c.rest) led.hub behind.replays in
    let last : hub_along s.hub c.rest ≡ new.hub = ap (λ h. hub_along h c.rest) (sym led.hub) ∙ behind.hub in
    let there : FitsHub r (record { hub = hub_along s.hub c.rest; history = s.history ++ c.rest }) =
    fits-along r n.limits.history s.history c.rest s.hub replays (all-apart n.threads 0 is_environment (other-actor n.threads) c.rest c.others) fits in
    subst (λ (h : Hub). FitsHub r (record { hub = h; history = new.history })) last
    (subst (λ xs. FitsHub r (record { hub = hub_along s.hub c.rest; history = xs })) (sym c.goes_on) there)
