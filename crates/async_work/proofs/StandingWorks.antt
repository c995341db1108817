-- What a pool says of a work is what its place and the queue say.
use Rattle.std.proofs.Common.{◌≡◌, ◌∙◌, ℕ, ◌==◌, ◌||◌, Bool, true, false, cond, List, [], ◌∷◌, map, Option, Some, None, IfSome, is_some, option_map, refl, ap, sym, subst}
use Rattle.std.specs.List.{list_any}
use Rattle.std.specs.Option.{option_and_then, option_map_or, is_none}
use Rattle.std.proofs.lemmas.Option.{same_Some}
use Rattle.napi_types.specs.declared.call.JobSpec.{JobSpec}
use Rattle.napi_types.specs.declared.status.Status.{Status}
use Rattle.napi_types.specs.declared.status.Status.TheVariants as status
use Rattle.generation_slab.specs.HeldPlaces.{HeldValue}
use Rattle.napi_types.specs.plain.Lists.{has, unless}
use Rattle.napi_types.specs.parts.Pool.{WorkPool, work_at, work_numbered, number_of_work, standing_at, work_state, state_refusal, work_refusal}
use Rattle.napi_types.specs.parts.Works.{Work, WorkState, Created, Queued, Running, Finished, Completed, Outcome, is_created, is_deletable}
use Rattle.napi_types.proofs.plain.Found.{IsRising}
use Rattle.async_work.specs.WorkPlaces.{Placed, place_at, work_of}
use Rattle.async_work.specs.Queue.{QueueStage, StillQueued, Runs, Ended, Done, NumberedWork, EndedWorkSeen, outcome_of, outcome_status, waiting_job, runner, has_ended, is_done_in_queue, stage_state, queue_work_at, queue_stage_at, queue_id_at, queued_at, ended_at}
use Rattle.async_work.specs.KeptPool.{pool_of, StandsInQueue, IsNumberOf, IsKeptPool}
use Rattle.async_work.specs.declared.pool.WorkProgress.{WorkProgress}
use Rattle.async_work.specs.declared.pool.WorkProgress.TheVariants as state
use Rattle.async_work.specs.Picking.{unspent_spec}
use Rattle.async_work.specs.WorkStates.{state_seen, numbered_state, place_state}
use Rattle.async_work.proofs.CountingWorks.{any-counted}
use Rattle.async_work.proofs.Ids.{found-works, numbered-work}
use Rattle.async_work.proofs.Queueing.{has-waiting}
use Rattle.async_work.proofs.PoolExecutions.{has-work}
use Rattle.async_work.proofs.Linking.{if-some, stage-of}

-- a call on the work of an id, by how far it has come
abbrev pub refused : (WorkState → Bool) → Option WorkState → Option Status
refused test None = Some status.InvalidArg
refused test (Some s) = unless (test s) status.GenericFailure

pub refusal-of : (p : WorkPool) (test : WorkState → Bool) (id : ℕ) (o : Option WorkState) → o ≡ option_map (work_state p) (work_at p id)
    → refused test o ≡ work_refusal test p id
refusal-of p test id o is = ap (refused test) is ∙ by (work_at p id)
  where
    by : (q : Option Work) → refused test (option_map (work_state p) q) ≡ state_refusal test p q
    by None = refl
    by (Some w) = refl

has-outcome : (finished : List EndedWorkSeen) (n : ℕ)
    → has (λ (o : Outcome). o.work) n (map outcome_of finished) ≡ list_any (λ (o : EndedWorkSeen). o.number == n) finished
has-outcome [] n = refl
has-outcome (o ∷ os) n = ap (λ b. (o.number == n) || b) (has-outcome os n)

module _ (places : List (HeldValue Placed)) (issued : List ℕ) (line : List NumberedWork) (finished : List EndedWorkSeen) (first created queued running : ℕ)
    (closing : Bool)
    (spare finished_places : ℕ)
    (kept : IsKeptPool places issued line finished first created queued running closing spare finished_places) where
  abbrev pool : WorkPool
  pool = pool_of places issued line finished closing

  pub stands-at : (n : ℕ) → standing_at pool n ≡ numbered_state line n
  stands-at n =
      by (queue_stage_at line n) _ _ _ (has-waiting line n) (has-work line kept.numbered_work.apart n) (has-outcome finished n
      ∙ any-counted (λ (o : EndedWorkSeen). o.number == n) finished (ended_at line n) (kept.ended_once.once n))
    where
      by : (s : QueueStage) (a b c : Bool) → a ≡ is_some (waiting_job s) → b ≡ is_some (runner s) → c ≡ has_ended s
          → cond a Queued (cond b Running (cond c Finished Completed)) ≡ stage_state s
      by (StillQueued spec) a b c is_a is_b is_c = rw is_a refl
      by (Runs w) a b c is_a is_b is_c = rw (is_a, is_b) refl
      by Ended a b c is_a is_b is_c = rw (is_a, is_b, is_c) refl
      by Done a b c is_a is_b is_c = rw (is_a, is_b, is_c) refl

  pub work-at : (id : ℕ) → work_at pool id ≡ option_map (work_of id) (place_at places id)
  work-at id = found-works places id

  state-at : (id : ℕ) (p : Placed) → work_state pool (work_of id p) ≡ place_state line p
  state-at id p = by p.number
    where
      by : (o : Option ℕ) → option_map_or (standing_at pool) o Created ≡ option_map_or (numbered_state line) o Created
      by None = refl
      by (Some n) = stands-at n

  -- how far the work of an id has come
  pub states-at : (id : ℕ) → option_map (work_state pool) (work_at pool id) ≡ option_map (place_state line) (place_at places id)
  states-at id = ap (option_map (work_state pool)) (work-at id) ∙ by (place_at places id)
    where
      by : (q : Option Placed) → option_map (work_state pool) (option_map (work_of id) q) ≡ option_map (place_state line) q
      by None = refl
      by (Some p) = ap (λ s. Some s) (state-at id p)

  pub states-of : (p : WorkPool) → pool ≡ p → (id : ℕ) → option_map (work_state p) (work_at p id) ≡ option_map (place_state line) (place_at places id)
  states-of p view id = subst (λ (q : WorkPool). option_map (work_state q) (work_at q id) ≡ option_map (place_state line) (place_at places id)) view
      (states-at id)

  pub number-at : (id : ℕ) → number_of_work pool id ≡ option_and_then (λ (p : Placed). p.number) (place_at places id)
  number-at id = ap (option_and_then (λ (w : Work). w.number)) (work-at id) ∙ by (place_at places id)
    where
      by : (q : Option Placed) → option_and_then (λ (w : Work). w.number) (option_map (work_of id) q) ≡ option_and_then (λ (p : Placed). p.number) q
      by None = refl
      by (Some p) = refl

  -- the work of a number stands at the place of its id
  pub numbered-at : (n : ℕ) (e : NumberedWork) → IsRising (λ h. h.number) places → queue_work_at line n ≡ Some e → is_done_in_queue e.stage ≡ false
      → (stands : StandsInQueue places n e) → work_numbered pool n ≡ Some (work_of e.id stands.place)
  numbered-at n e rises at unfinished stands = numbered-work places e.id n stands.place rises stands.there stands.numbered only
    where
      only : (m : ℕ) (q : Placed) → place_at places m ≡ Some q → q.number ≡ Some n → m ≡ e.id
      only m q there is =
          let number = if-some (λ k. IsNumberOf line m k) q.number n is (kept.linked.named m q there) in
          let named : queue_id_at line n ≡ Some m = number.1 (ap is_done_in_queue (stage-of line n e at) ∙ unfinished) in
          same_Some m e.id (sym named ∙ ap (option_map (λ (x : NumberedWork). x.id)) at)

-- by the state that is told of the place of an id
module _ (places : List (HeldValue Placed)) (line : List NumberedWork) (id : ℕ) (s : WorkState) (is : Some s ≡ option_map (place_state line)
    (place_at places id)) where
  pub state-place : (p : Placed) × (place_at places id ≡ Some p) × (place_state line p ≡ s)
  state-place = by (place_at places id) refl is
    where
      by : (q : Option Placed) → place_at places id ≡ q → Some s ≡ option_map (place_state line) q
          → (p : Placed) × (place_at places id ≡ Some p) × (place_state line p ≡ s)
      by None at told = let no : ⊥ = cc in absurd no
      by (Some p) at told = (p, at, sym (same_Some s (place_state line p) told))

pub created-none : (line : List NumberedWork) (p : Placed) → place_state line p ≡ Created → p.number ≡ None
created-none line p is = by p.number is
  where
    never : (s : QueueStage) → stage_state s ≡ Created → ⊥
    never (StillQueued spec) told = cc
    never (Runs w) told = cc
    never Ended told = cc
    never Done told = cc

    by : (o : Option ℕ) → option_map_or (numbered_state line) o Created ≡ Created → o ≡ None
    by None told = refl
    by (Some n) told = absurd (never (queue_stage_at line n) told)

-- where it is created or completed it is not underway
pub created-done : (line : List NumberedWork) (p : Placed) → place_state line p ≡ Created → (n : ℕ) → p.number ≡ Some n
    → is_done_in_queue (queue_stage_at line n) ≡ true
created-done line p is n number = let no : ⊥ = let none = created-none line p is in cc in absurd no

pub completed-done : (line : List NumberedWork) (p : Placed) → place_state line p ≡ Completed → (n : ℕ) → p.number ≡ Some n
    → is_done_in_queue (queue_stage_at line n) ≡ true
completed-done line p is n number = over (queue_stage_at line n) (sym (ap (λ o. option_map_or (numbered_state line) o Created) number) ∙ is)
  where
    over : (s : QueueStage) → stage_state s ≡ Completed → is_done_in_queue s ≡ true
    over (StillQueued spec) told = let no : ⊥ = cc in absurd no
    over (Runs w) told = let no : ⊥ = cc in absurd no
    over Ended told = let no : ⊥ = cc in absurd no
    over Done told = refl

pub queued-waits : (line : List NumberedWork) (p : Placed) (n : ℕ) → place_state line p ≡ Queued → p.number ≡ Some n → queued_at line n ≡ true
queued-waits line p n is number = here (queue_stage_at line n) (sym (ap (λ o. option_map_or (numbered_state line) o Created) number) ∙ is)
  where
    here : (s : QueueStage) → stage_state s ≡ Queued → is_some (waiting_job s) ≡ true
    here (StillQueued spec) told = refl
    here (Runs w) told = let no : ⊥ = cc in absurd no
    here Ended told = let no : ⊥ = cc in absurd no
    here Done told = let no : ⊥ = cc in absurd no

pub deletable-done : (line : List NumberedWork) (p : Placed) (s : WorkState) → place_state line p ≡ s → is_deletable s ≡ true → (n : ℕ) → p.number ≡ Some n
    → is_done_in_queue (queue_stage_at line n) ≡ true
deletable-done line p Created is passes = created-done line p is
deletable-done line p Queued is passes = let no : ⊥ = cc in absurd no
deletable-done line p Running is passes = let no : ⊥ = cc in absurd no
deletable-done line p Finished is passes = let no : ⊥ = cc in absurd no
deletable-done line p Completed is passes = completed-done line p is

-- a work was not queued where it is created
pub unqueued-created : (line : List NumberedWork) (p : Placed) (s : WorkState) → place_state line p ≡ s → is_none p.number ≡ is_created s
unqueued-created line p s is = by p.number ∙ ap is_created is
  where
    staged : (t : QueueStage) → false ≡ is_created (stage_state t)
    staged (StillQueued spec) = refl
    staged (Runs w) = refl
    staged Ended = refl
    staged Done = refl

    by : (o : Option ℕ) → is_none o ≡ is_created (option_map_or (numbered_state line) o Created)
    by None = refl
    by (Some n) = staged (queue_stage_at line n)

-- another state than this one
pub not-created : (s : WorkProgress) → (s ≡ state.Created → ⊥) → is_created (state_seen s) ≡ false
not-created state.Created other = absurd (other refl)
not-created (state.Queued n) other = refl
not-created state.Running other = refl
not-created state.Finished other = refl
not-created state.Completed other = refl

-- the job that did not run computes what the work was to compute
pub unspent-of : (p : WorkPool) (n : ℕ) (w : Work) (u : Option JobSpec) → work_numbered p n ≡ Some w → IfSome u (λ s. w.spec ≡ s)
    → u ≡ unspent_spec p n (outcome_status u)
unspent-of p n w None is same = refl
unspent-of p n w (Some s) is same = ap (λ t. Some t) (sym same) ∙ ap (option_map (λ (v : Work). v.spec)) (sym is)
