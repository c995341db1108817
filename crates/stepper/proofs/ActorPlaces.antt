-- The order of the actors: who stands at which place.
use Rattle.std.proofs.Common.{◌≡◌, ◌∙◌, ◌<◌, ℕ, ◌+◌, ◌-◌, List, map, length, get_or, refl, ap, sym, subst, arith, ⊎_elim, length-append}
use Rattle.std.specs.List.{range_with_len}
use Rattle.std.proofs.lemmas.List.{get_or_append_left, get_or-append_right, length-map}
use Rattle.std.proofs.lemmas.Bool.{cases_lt}
use Rattle.std.proofs.lemmas.List.FromFn.{length-map-range_with_len, get_or-map-range_with_len}
use Rattle.napi_types.specs.declared.entry.Actor.{Actor}
use Rattle.napi_types.specs.declared.entry.Actor.TheVariants as actor
use Rattle.shared_hub.specs.declared.naming.Numbers.{Numbers}
use Rattle.env_loop.specs.ActorTurns.{actor_of, IsActorAt}
use Rattle.env_loop.specs.declared.actor.ActorRun.{ActorRun}
use Rattle.stepper.specs.TakingPart.{actors_of, actor_place}

-- it is a thread or a worker
abbrev pub IsOther : Actor → Type 0
IsOther actor.Env = ⊥
IsOther _ = Unit {0}

module _ (n : Numbers) where
  threads : List Actor
  threads = map (λ t. actor.Thread t) (range_with_len 0 n.threads)

  workers : List Actor
  workers = map (λ w. actor.Worker w) (range_with_len 0 n.workers)

  pub actors-length : length (actors_of n) ≡ n.threads + n.workers
  actors-length =
      length-append (map (λ t. actor.Thread t) (range_with_len 0 n.threads)) (map (λ w. actor.Worker w) (range_with_len 0 n.workers))
      ∙ omega (arith, length-map-range_with_len (λ t. actor.Thread t) 0 n.threads, length-map-range_with_len (λ w. actor.Worker w) 0 n.workers)

  -- who stands at a place
  pub at-thread : (t : ℕ) → t < n.threads → get_or (actors_of n) t actor.Env ≡ actor.Thread t
  at-thread t below =
      get_or_append_left (map (λ t. actor.Thread t) (range_with_len 0 n.threads)) (map (λ w. actor.Worker w) (range_with_len 0 n.workers)) actor.Env t
      (omega (arith, below, length-map-range_with_len (λ t. actor.Thread t) 0 n.threads))
      ∙ get_or-map-range_with_len (λ t. actor.Thread t) 0 n.threads t t actor.Env below (omega arith)

  pub at-worker : (w : ℕ) → w < n.workers → get_or (actors_of n) (n.threads + w) actor.Env ≡ actor.Worker w
  at-worker w below =
      get_or-append_right (map (λ t. actor.Thread t) (range_with_len 0 n.threads)) (map (λ w. actor.Worker w) (range_with_len 0 n.workers)) n.threads (n.threads + w) actor.Env
      (length-map-range_with_len (λ t. actor.Thread t) 0 n.threads) (omega arith)
      ∙ get_or-map-range_with_len (λ w. actor.Worker w) 0 n.workers (n.threads + w - n.threads) w actor.Env (omega (arith, below)) (omega arith)

  pub at-place : (who : Actor) → IsOther who → IsActorAt n who → get_or (actors_of n) (actor_place n.threads who) actor.Env ≡ who
  at-place actor.Env other at = absurd other
  at-place (actor.Thread t) other at = at-thread t at
  at-place (actor.Worker w) other at = at-worker w at

  pub place-inside : (who : Actor) → IsOther who → IsActorAt n who → actor_place n.threads who < length (actors_of n)
  place-inside actor.Env other at = absurd other
  place-inside (actor.Thread t) other at = omega (arith, at, actors-length)
  place-inside (actor.Worker w) other at = omega (arith, at, actors-length)

  -- who stands at a place is a thread or a worker, which has that place
  pub record StandsThere (i : ℕ) (who : Actor) : Type 0 where
    pub other : IsOther who
    pub at : IsActorAt n who
    pub place : actor_place n.threads who ≡ i

  pub stands-there : (i : ℕ) → i < length (actors_of n) → StandsThere i (get_or (actors_of n) i actor.Env)
  stands-there i inside =
      ⊎_elim (λ below. subst (StandsThere i) (sym (at-thread i below)) (record { other = tt; at = below; place = refl }))
      (λ above.
      let last : i - n.threads < n.workers = omega (arith, inside, above, actors-length) in
      let same : n.threads + (i - n.threads) ≡ i = omega (arith, above) in
      subst (StandsThere i) (sym (ap (λ k. get_or (actors_of n) k actor.Env) (sym same) ∙ at-worker (i - n.threads) last))
      (record { other = tt; at = last; place = same }))
      (cases_lt i n.threads)

-- so many actors take part
pub actors-count : {J : Type 0} (n : Numbers) (xs : List (ActorRun J)) → map actor_of xs ≡ actors_of n → length xs ≡ n.threads + n.workers
actors-count n xs order = sym (length-map xs actor_of) ∙ ap length order ∙ actors-length n
