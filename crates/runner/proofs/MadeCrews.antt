-- How a crew is made: its actors stand with their passes, in the order of their numbers.
use Rattle.std.proofs.Common.{◌≡◌, ◌∙◌, ℕ, zero, suc, ◌+◌, ◌*◌, ◌≤◌, List, [], ◌∷◌, ◌++◌, length, map, refl, ap, sym, subst, arith, append_assoc}
use Rattle.std.specs.List.{All, range_with_len}
use Rattle.std.proofs.lemmas.List.{map-append, length-append, length-map}
use Rattle.std.proofs.lemmas.List.Elements.{All-head, All-tail, All-weaker}
use Rattle.std.proofs.lemmas.List.FromFn.{length-map-range_with_len}
use Rattle.napi_types.specs.declared.entry.Actor.{Actor}
use Rattle.napi_types.specs.declared.entry.Actor.TheVariants as actor
use Rattle.napi_types.specs.plain.Room.{most_entries}
use Rattle.napi_types.specs.hub.HistoryRoom.{reserved_history}
use Rattle.napi_types.specs.hub.Hub.{left_of}
use Rattle.turn_lock.specs.Passes.{PassState, TurnState, new_pass}
use Rattle.shared_hub.specs.declared.naming.Numbers.{Numbers}
use Rattle.shared_hub.specs.HubRows.{pass_of}
use Rattle.shared_hub.specs.HubStates.{HubSeen, led_by}
use Rattle.shared_hub.specs.KeptHubs.{IsLedHub}
use Rattle.shared_hub.proofs.ActorsLeft.{all-are-left}
use Rattle.env_loop.specs.ActorRuns.{IsHandsFree}
use Rattle.env_loop.specs.ActorTurns.{actor_of, actors_of, unstarted_run, HoldsNoWork, IsActorAt, IsUnstartedActor}
use Rattle.env_loop.specs.declared.actor.ActorRun.{ActorRun}
use Rattle.env_loop.specs.declared.actor.ActorRun.TheVariants as run
use Rattle.env_loop.specs.declared.actor.unstarted.UnstartedActor.{UnstartedActor}
use Rattle.runner.specs.declared.unstarted.Unstarted.{Unstarted}
use Rattle.runner.specs.Crews.{runs_of, IsCrew}
use Rattle.runner.specs.StartRoom.{AreUnstarted}

-- a list that is made one by one of another
pub made-more : {A B : Type 0} (f : A → B) (done done' : List A) (x : A) (y : B) (left left' all : List B) → done' ≡ done ++ x ∷ [] → f x ≡ y → left ≡ y ∷ left'
    → map f done ++ left ≡ all → map f done' ++ left' ≡ all
made-more f done done' x y left left' all grown is next e =
    ap (λ xs. map f xs ++ left') grown ∙ ap (λ ys. ys ++ left') (map-append f done (x ∷ [])) ∙ append_assoc (map f done) (f x ∷ []) left'
    ∙ ap (λ z. map f done ++ z ∷ left') is ∙ ap (λ ys. map f done ++ ys) (sym next) ∙ e

-- an actor of which no turn was made holds no work
pub unstarted_hold_no_work : {J : Type 0} (actors : List (ActorRun J)) → All IsUnstartedActor actors → All HoldsNoWork actors
unstarted_hold_no_work {J} actors fresh = All-weaker IsUnstartedActor HoldsNoWork one actors fresh
  where
    one : (a : ActorRun J) → IsUnstartedActor a → HoldsNoWork a
    one (run.OfThread t) f = tt
    one (run.OfWorker w) f = subst (λ v. IsHandsFree v.held) (sym f) tt

-- a hub that opens has few threads and workers
fits-within : (a b t w bound most : ℕ) → a ≡ t → b ≡ w → 0 + (5 + a + b + (4 * 0 + 3 * 0 + 2 * 0) + 0 + 0) ≤ bound → bound ≤ most → t + w ≤ most
fits-within a b t w bound most p q fits small = omega arith

pub few_actors : (n : Numbers) (s : HubSeen) → IsLedHub n s → s.history ≡ [] → n.threads + n.workers ≤ most_entries
few_actors n s k none =
    fits-within (length (left_of n.threads [])) (length (left_of n.workers [])) n.threads n.workers n.limits.history most_entries (all-are-left n.threads)
    (all-are-left n.workers) at k.small
  where
    at : 0 + reserved_history (led_by n []) ≤ n.limits.history
    at = subst (λ xs. length xs + reserved_history (led_by n xs) ≤ n.limits.history) none
        (subst (λ h. length s.history + reserved_history h ≤ n.limits.history) (sym k.led.hub) k.within)

-- these actors are the hub's, and their passes have the numbers from this one on
abbrev AreThere : Numbers → ℕ → List Actor → Type 0
AreThere n k [] = Unit {0}
AreThere n k (a ∷ later) = (k ≡ pass_of n.threads a) × IsActorAt n a × AreThere n (k + 1) later

threads-there : (n : Numbers) (i k m : ℕ) → i ≡ 1 + k → k + m ≤ n.threads → AreThere n i (map (λ t. actor.Thread t) (range_with_len k m))
threads-there n i k zero e within = tt
threads-there n i k (suc m) e within = (e, omega arith, threads-there n (i + 1) (k + 1) m (omega arith) (omega arith))

workers-there : (n : Numbers) (i k m : ℕ) → i ≡ 1 + n.threads + k → k + m ≤ n.workers → AreThere n i (map (λ w. actor.Worker w) (range_with_len k m))
workers-there n i k zero e within = tt
workers-there n i k (suc m) e within = (e, omega arith, workers-there n (i + 1) (k + 1) m (omega arith) (omega arith))

there-append : (n : Numbers) (i j : ℕ) (xs ys : List Actor) → j ≡ i + length xs → AreThere n i xs → AreThere n j ys → AreThere n i (xs ++ ys)
there-append n i j [] ys e p q = subst (λ m. AreThere n m ys) (omega arith) q
there-append n i j (x ∷ xs) ys e p q = (p.0, p.1, there-append n (i + 1) j xs ys (omega arith) p.2 q)

all-there : (n : Numbers) → AreThere n 1 (actors_of n)
all-there n = there-append n 1 (1 + n.threads + 0) (map (λ t. actor.Thread t) (range_with_len 0 n.threads))
    (map (λ w. actor.Worker w) (range_with_len 0 n.workers))
    (omega (arith, length-map-range_with_len (λ t. actor.Thread t) 0 n.threads)) (threads-there n 1 0 n.threads (omega arith) (omega arith))
    (workers-there n (1 + n.threads + 0) 0 n.workers (omega arith) (omega arith))

actors-many : (n : Numbers) → length (actors_of n) ≡ n.threads + n.workers
actors-many n =
    let all : length (actors_of n) ≡ length threads + length workers = length-append threads workers in
    omega (arith, all, length-map-range_with_len (λ t. actor.Thread t) 0 n.threads, length-map-range_with_len (λ w. actor.Worker w) 0 n.workers)
  where
    threads : List Actor
    threads = map (λ t. actor.Thread t) (range_with_len 0 n.threads)

    workers : List Actor
    workers = map (λ w. actor.Worker w) (range_with_len 0 n.workers)

-- who waits is as many as there were
pub unstarted-many : (crew : List Unstarted) (idle : List UnstartedActor) → map (λ w. w.actor) crew ≡ idle → length crew ≡ length idle
unstarted-many crew idle is = sym (length-map crew (λ w. w.actor)) ∙ ap length is

module _ {J : Type 0} where
  -- the runs of a crew are those of which its actors were made
  pub runs-are : (crew : List Unstarted) (idle : List UnstartedActor) (actors : List (ActorRun J)) → map (λ w. w.actor) crew ≡ idle
      → map (λ i. unstarted_run i) idle ≡ actors → runs_of J crew ≡ actors
  runs-are crew idle actors p q = both crew ∙ ap (λ is. map (λ i. unstarted_run i) is) p ∙ q
    where
      both : (ws : List Unstarted) → runs_of J ws ≡ map (λ i. unstarted_run {J = J} i) (map (λ w. w.actor) ws)
      both [] = refl
      both (w ∷ ws) = ap (λ xs. unstarted_run w.actor ∷ xs) (both ws)

  -- there is one actor for each thread and each worker
  pub all-actors-many : (n : Numbers) (actors : List (ActorRun J)) → map (λ a. actor_of a) actors ≡ actors_of n → length actors ≡ n.threads + n.workers
  all-actors-many n actors order = sym (length-map actors (λ a. actor_of a)) ∙ ap length order ∙ actors-many n

  -- and so is there one that waits
  pub idle-many : (n : Numbers) (idle : List UnstartedActor) (actors : List (ActorRun J)) → map (λ i. unstarted_run i) idle ≡ actors
      → map (λ a. actor_of a) actors ≡ actors_of n → length idle ≡ n.threads + n.workers
  idle-many n idle actors is order =
      let runs : length idle ≡ length actors = sym (length-map idle (λ i. unstarted_run {J = J} i)) ∙ ap length is in
      runs ∙ all-actors-many n actors order

  all-wait : (n : Numbers) (h : TurnState) (k : ℕ) (crew : List Unstarted) → AreThere n k (map (λ a. actor_of a) (runs_of J crew))
      → All IsUnstartedActor (runs_of J crew) → map (λ w. w.pass) crew ≡ map (new_pass h.lock) (range_with_len k (length crew)) → AreUnstarted J n h k crew
  all-wait n h k [] there fresh passes = tt
  all-wait n h k (w ∷ ws) there fresh passes =
      let own : w.pass ≡ new_pass h.lock k = cc passes in
      let others : map (λ w. w.pass) ws ≡ map (new_pass h.lock) (range_with_len (k + 1) (length ws)) = cc passes in
      let first : IsUnstartedActor (unstarted_run {J = J} w.actor) = All-head IsUnstartedActor (unstarted_run w.actor) (runs_of J ws) fresh in (
        ap (λ p. p.number) own,
        record {
          lock = ap (λ p. p.lock) own;
          free = ap (λ p. p.holds) own;
          fresh = record { number = ap (λ p. p.number) own ∙ there.0; own = ap (λ p. p.own) own; there = there.1; fresh = first };
        },
        all-wait n h (k + 1) ws there.2 (All-tail IsUnstartedActor (unstarted_run w.actor) (runs_of J ws) fresh) others,
      )

  -- the environment's pass is the first, and the others are those of the actors
  pub members-are : (n : Numbers) (h : TurnState) (first : PassState) (crew : List Unstarted) (actors : List (ActorRun J)) → runs_of J crew ≡ actors
      → map (λ a. actor_of a) actors ≡ actors_of n → All IsUnstartedActor actors
      → first ∷ map (λ w. w.pass) crew ≡ map (new_pass h.lock) (range_with_len 0 h.passes) → IsCrew J n h first crew
  members-are n h first crew actors is order fresh passes = record {
    all = omega (arith, many);
    numbered = record { lock = ap (λ p. p.lock) own; number = ap (λ p. p.number) own; free = ap (λ p. p.holds) own };
    unseen = ap (λ p. p.own) own;
    unstarted = all-wait n h 1 crew there (subst (λ xs. All IsUnstartedActor xs) (sym is) fresh) others;
  }
    where
      many : h.passes ≡ suc (length crew)
      many = sym (length-map-range_with_len (new_pass h.lock) 0 h.passes) ∙ ap length (sym passes) ∙ ap suc (length-map crew (λ w. w.pass))

      each : first ∷ map (λ w. w.pass) crew ≡ new_pass h.lock 0 ∷ map (new_pass h.lock) (range_with_len 1 (length crew))
      each = passes ∙ ap (λ m. map (new_pass h.lock) (range_with_len 0 m)) many

      own : first ≡ new_pass h.lock 0
      own = cc each

      others : map (λ w. w.pass) crew ≡ map (new_pass h.lock) (range_with_len 1 (length crew))
      others = cc each

      there : AreThere n 1 (map (λ a. actor_of a) (runs_of J crew))
      there = subst (λ xs. AreThere n 1 xs) (sym order ∙ ap (λ xs. map (λ a. actor_of a) xs) (sym is)) (all-there n)
