-- How threads and workers end at the lock.
use Rattle.std.specs.Prelude.{◌≡◌, ◌≢◌, ℕ, ◌⊎◌, Bool, true, false, cond, nat_lt, Option, Some, None}
use Rattle.napi_types.specs.declared.entry.Actor.{Actor}
use Rattle.napi_types.specs.declared.entry.Actor.TheVariants as actor
use Rattle.napi_types.specs.declared.entry.Entry.{Entry}
use Rattle.napi_types.specs.declared.entry.HostStep.TheVariants as host
use Rattle.napi_types.specs.declared.entry.Why.{Why}
use Rattle.napi_types.specs.declared.entry.Why.TheVariants as why
use Rattle.napi_types.specs.hub.Actors.{Free}
use Rattle.napi_types.specs.hub.HubStep.{actor_told}
use Rattle.turn_lock.specs.Passes.{PassState}
use Rattle.shared_hub.specs.declared.naming.Numbers.{Numbers}
use Rattle.shared_hub.specs.HubStates.{HubSeen, AddsEntry}
use Rattle.shared_hub.specs.SharedTries.{actor_end_told}
use Rattle.hub_lock.specs.SeenTurns.{IsOfThread, HasNoEnd, thread_of, Looked, Anything, Added}
use Rattle.hub_lock.specs.Working.{IsOfWorker, worker_of, StandsAs, HasSeenThat}

-- the thread or the worker that has the pass of a number
abbrev pub actor_of : Numbers → ℕ → Actor
actor_of n number = cond (nat_lt n.threads number) (actor.Worker (worker_of n number)) (actor.Thread (thread_of number))

abbrev pub actor_end_entry : Actor → Option Why → Entry
actor_end_entry who cut = actor_told who host.ActorEnd (actor_end_told cut)

abbrev pub pass_end_entry : Numbers → ℕ → Option Why → Entry
pass_end_entry n number cut = actor_end_entry (actor_of n number) cut

-- a thread that has not ended may end, cut or not, and not because it asks to
abbrev pub MayEndThread : Numbers → PassState → Option Why → Type 0
MayEndThread n p cut = IsOfThread n p × HasNoEnd p.own × (cut ≢ Some why.Asks)

-- a worker may, that is free and has seen the drain
abbrev pub MayEndWorker : Numbers → PassState → Option Why → Type 0
MayEndWorker n p cut = IsOfWorker n p × StandsAs n Free p × HasSeenThat n p (λ h. h.pool.closing ≡ true) × (cut ≡ None)

abbrev pub MayEndBy : Numbers → PassState → Option Why → Type 0
MayEndBy n p cut = MayEndThread n p cut ⊎ MayEndWorker n p cut

-- an end at the hub
abbrev pub AfterEnd : Actor → Option Why → HubSeen → Bool → HubSeen → Type 0
AfterEnd who cut old true new = AddsEntry old (actor_end_entry who cut) new
AfterEnd who cut old false new = new ≡ old

-- one turn of it at the lock
abbrev pub TriedEnd : Numbers → PassState → Option Why → Bool → PassState → Type 0
TriedEnd n old cut true new = Added n old new (pass_end_entry n old.number cut)
TriedEnd n old cut false new = Looked n old new Anything
