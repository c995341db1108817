-- The threads and the workers of a run: how they begin, and what they have done once they have ended.
use Rattle.std.proofs.Common.{◌≡◌, ◌<◌, ◌∙◌, ℕ, zero, suc, ◌+◌, true, List, [], ◌∷◌, ◌++◌, length, map, slice_get, append_assoc, Some, None, refl, ap, sym, subst, arith}
use Rattle.std.specs.List.{All, AllZip, range_with_len}
use Rattle.std.proofs.lemmas.List.{map-append}
use Rattle.std.proofs.lemmas.List.FromFn.{map-range_with_len_more}
use Rattle.std.proofs.lemmas.List.Elements.{All-append, All-nil, All-cons, All-head, All-tail}
use Rattle.napi_types.specs.declared.entry.Actor.TheVariants as actor
use Rattle.napi_types.specs.declared.entry.Entry.{Entry}
use Rattle.napi_types.specs.declared.op.Op.{Op}
use Rattle.napi_types.specs.scripts.Plans.{Plan}
use Rattle.napi_types.specs.hub.Actors.{Free, Over, worker_along}
use Rattle.shared_hub.specs.HubStates.{HubSeen}
use Rattle.shared_hub.specs.KeptHubs.{IsLedHub}
use Rattle.shared_hub.specs.declared.naming.Numbers.{Numbers}
use Rattle.env_loop.specs.ActorRuns.{ThreadSeen, new_thread, calls_left, WorkerSeen, new_worker, worker_state}
use Rattle.env_loop.specs.ActorTurns.{actor_of, is_over, IsActorOf, IsUnstartedActor, HoldsNoWork, IsSameActor}
use Rattle.env_loop.proofs.UnstartedAndEnded.{ended-actors-hold-none}
use Rattle.env_loop.specs.declared.actor.ActorRun.{ActorRun}
use Rattle.env_loop.specs.declared.actor.ActorRun.TheVariants as run
use Rattle.stepper.specs.ListTurns.{HasScript}
use Rattle.stepper.specs.TakingPart.{actors_of}
use Rattle.script_run.specs.Loading.{hub_numbers, setting_with}
use Rattle.script_run.specs.ScriptActors.{thread_runs, worker_runs, MadeItsScript}

module _ (J : Type 0) where
  -- HOW THEY BEGIN
  abbrev unstarted_thread : ℕ → List Op → ActorRun J
  unstarted_thread t operations = run.OfThread (new_thread t operations)

  abbrev unstarted_worker : ℕ → ActorRun J
  unstarted_worker w = run.OfWorker (new_worker w)

  -- the threads and then the workers, in the order of a round
  threads-named : (t : ℕ) (threads : List (List Op)) → map actor_of (thread_runs {J = J} t threads) ≡ map (λ n. actor.Thread n) (range_with_len t (length threads))
  threads-named t [] = refl
  threads-named t (operations ∷ threads) = ap (λ l. actor.Thread t ∷ l) (threads-named (t + 1) threads)

  workers-named : (numbers : List ℕ) → map actor_of (map unstarted_worker numbers) ≡ map (λ w. actor.Worker w) numbers
  workers-named [] = refl
  workers-named (w ∷ numbers) = ap (λ l. actor.Worker w ∷ l) (workers-named numbers)

  pub in-order : (threads : List (List Op)) (workers : ℕ) (actors : List (ActorRun J)) → actors ≡ thread_runs 0 threads ++ worker_runs workers
      → (n : Numbers) → n ≡ hub_numbers (length threads) workers → map actor_of actors ≡ actors_of n
  in-order threads workers actors made n named =
      ap (map actor_of) made ∙ map-append actor_of (thread_runs 0 threads) (worker_runs workers)
      ∙ ap (λ l. l ++ map actor_of (worker_runs {J = J} workers)) (threads-named 0 threads)
      ∙ ap (λ l. map (λ t. actor.Thread t) (range_with_len 0 (length threads)) ++ l) (workers-named (range_with_len 0 workers))
      ∙ sym (ap actors_of named)

  threads-unstarted : (t : ℕ) (threads : List (List Op)) → All IsUnstartedActor (thread_runs {J = J} t threads)
  threads-unstarted t [] = All-nil IsUnstartedActor
  threads-unstarted t (operations ∷ threads) = All-cons IsUnstartedActor (unstarted_thread t operations) (thread_runs (t + 1) threads) refl
      (threads-unstarted (t + 1) threads)

  workers-unstarted : (numbers : List ℕ) → All IsUnstartedActor (map unstarted_worker numbers)
  workers-unstarted [] = All-nil IsUnstartedActor
  workers-unstarted (w ∷ numbers) = All-cons IsUnstartedActor (unstarted_worker w) (map unstarted_worker numbers) refl (workers-unstarted numbers)

  -- each thread has the script of its number
  threads-have : (scripts : List (List Op)) (t : ℕ) (later : List (List Op))
      → ((i : ℕ) (operations : List Op) → slice_get later i ≡ Some operations → slice_get scripts (t + i) ≡ Some operations)
      → All (HasScript scripts) (thread_runs {J = J} t later)
  threads-have scripts t [] at = All-nil (HasScript scripts)
  threads-have scripts t (operations ∷ later) at =
      let here : t + 0 ≡ t = omega arith in
      All-cons (HasScript scripts) (unstarted_thread t operations) (thread_runs (t + 1) later)
      (subst (λ k. slice_get scripts k ≡ Some operations) here (at 0 operations refl))
      (threads-have scripts (t + 1) later (λ i os is. subst (λ k. slice_get scripts k ≡ Some os) (next t i) (at (suc i) os is)))
    where
      next : (t i : ℕ) → t + suc i ≡ t + 1 + i
      next t i = omega arith

  workers-have : (scripts : List (List Op)) (numbers : List ℕ) → All (HasScript scripts) (map unstarted_worker numbers)
  workers-have scripts [] = All-nil (HasScript scripts)
  workers-have scripts (w ∷ numbers) = All-cons (HasScript scripts) (unstarted_worker w) (map unstarted_worker numbers) tt (workers-have scripts numbers)

  pub scripts-have : (threads : List (List Op)) (workers : ℕ) (actors : List (ActorRun J)) → actors ≡ thread_runs 0 threads ++ worker_runs workers
      → All (HasScript threads) actors
  scripts-have threads workers actors made =
      subst (All (HasScript threads)) (sym made)
      (All-append (HasScript threads) (thread_runs 0 threads) (worker_runs workers)
      (threads-have threads 0 threads (λ i operations is. subst (λ k. slice_get threads k ≡ Some operations) (same i) is))
      (workers-have threads (range_with_len 0 workers)))
    where
      same : (i : ℕ) → i ≡ 0 + i
      same i = omega arith

  pub all-unstarted : (threads : List (List Op)) (workers : ℕ) (actors : List (ActorRun J)) → actors ≡ thread_runs 0 threads ++ worker_runs workers
      → All IsUnstartedActor actors
  all-unstarted threads workers actors made =
      subst (All IsUnstartedActor) (sym made)
      (All-append IsUnstartedActor (thread_runs 0 threads) (worker_runs workers) (threads-unstarted 0 threads) (workers-unstarted (range_with_len 0 workers)))

  -- one thread more
  threads-more : (t : ℕ) (threads : List (List Op)) (operations : List Op) (number : ℕ) → number ≡ t + length threads
      → thread_runs t (threads ++ operations ∷ []) ≡ thread_runs t threads ++ unstarted_thread number operations ∷ []
  threads-more t [] operations number place =
      let e : t ≡ number = omega (arith, place) in
      ap (λ n. unstarted_thread n operations ∷ []) e
  threads-more t (first ∷ threads) operations number place =
      let e : number ≡ t + 1 + length threads = omega (arith, place) in
      ap (λ l. unstarted_thread t first ∷ l) (threads-more (t + 1) threads operations number e)

  pub thread-pushed : (done more : List (List Op)) (operations : List Op) (number : ℕ) (first items now : List (ActorRun J)) (pushed : ActorRun J)
      → items ≡ first ++ thread_runs 0 done → number ≡ length done → pushed ≡ unstarted_thread number operations → now ≡ items ++ pushed ∷ []
      → more ≡ done ++ operations ∷ [] → now ≡ first ++ thread_runs 0 more
  thread-pushed done more operations number first items now pushed before place is grown longer =
      let e : number ≡ 0 + length done = omega (arith, place) in
      grown ∙ ap (λ a. items ++ a ∷ []) is ∙ ap (λ l. l ++ unstarted_thread number operations ∷ []) before
      ∙ append_assoc first (thread_runs 0 done) (unstarted_thread number operations ∷ [])
      ∙ ap (λ l. first ++ l) (sym (threads-more 0 done operations number e)) ∙ ap (λ m. first ++ thread_runs 0 m) (sym longer)

  -- one worker more
  pub worker-pushed : (number : ℕ) (first items now : List (ActorRun J)) (pushed : ActorRun J) → items ≡ first ++ worker_runs number
      → pushed ≡ unstarted_worker number
      → now ≡ items ++ pushed ∷ [] → now ≡ first ++ worker_runs (number + 1)
  worker-pushed number first items now pushed before is grown =
      let e : 0 + number ≡ number = omega arith in
      grown ∙ ap (λ a. items ++ a ∷ []) is ∙ ap (λ l. l ++ unstarted_worker number ∷ []) before ∙ append_assoc first (worker_runs number)
      (unstarted_worker number ∷ [])
      ∙ ap (λ l. first ++ l) (sym (map-range_with_len_more unstarted_worker 0 number number e))

-- AT THE END
module _ {J : Type 0} (version : ℕ) (plans : List Plan) (texts threads workers : ℕ) (hub : HubSeen) where
  abbrev Stands : ActorRun J → Type 0
  Stands a = IsActorOf (hub_numbers threads workers) hub a

  abbrev IsOver : ActorRun J → Type 0
  IsOver a = is_over a ≡ true

  -- a thread that has ended
  thread-made : (t : ℕ) (operations : List Op) (new : ActorRun J) → IsSameActor (run.OfThread (new_thread t operations)) new
      → IsActorOf (hub_numbers threads workers) hub new → is_over new ≡ true
      → MadeItsScript (setting_with version plans texts threads workers) t operations hub.history
  thread-made t operations (run.OfThread u) same stands over =
      let M : ℕ → List Op → Type 0 = λ k os. MadeItsScript (setting_with version plans texts threads workers) k os hub.history in
      let here : M u.number u.operations = record { keeps = stands.stands.keeps; ended = stands.stands.left_is ∙ none u over } in
      subst (M t) same.operations (subst (λ k. M k u.operations) same.number here)
    where
      none : (x : ThreadSeen) → x.over ≡ true → calls_left x ≡ None
      none x e = cc
  thread-made t operations (run.OfWorker v) same stands over = absurd same

  threads-made : (t : ℕ) (scripts : List (List Op)) (others new : List (ActorRun J)) → AllZip IsSameActor (thread_runs t scripts ++ others) new
      → All Stands new → All IsOver new
      → (i : ℕ) (operations : List Op) → slice_get scripts i ≡ Some operations
      → MadeItsScript (setting_with version plans texts threads workers) (t + i) operations hub.history
  threads-made t [] others new same stands over i operations at = absurd (cc)
  threads-made t (first ∷ scripts) others [] same stands over i operations at = absurd same
  threads-made t (first ∷ scripts) others (x ∷ new) same stands over zero operations at =
      let e : first ≡ operations = cc in
      let z : t ≡ t + zero = omega arith in
      let M : ℕ → List Op → Type 0 = λ k os. MadeItsScript (setting_with version plans texts threads workers) k os hub.history in
      subst (λ k. M k operations) z (subst (M t) e (thread-made t first x same.0 (All-head Stands x new stands) (All-head IsOver x new over)))
  threads-made t (first ∷ scripts) others (x ∷ new) same stands over (suc i) operations at =
      let z : t + 1 + i ≡ t + suc i = omega arith in
      let M : ℕ → Type 0 = λ k. MadeItsScript (setting_with version plans texts threads workers) k operations hub.history in
      subst M z (threads-made (t + 1) scripts others new same.1 (All-tail Stands x new stands) (All-tail IsOver x new over) i operations at)

  -- a worker that has ended
  worker-ended : (w : ℕ) (new : ActorRun J) → IsSameActor (run.OfWorker (new_worker w)) new → IsActorOf (hub_numbers threads workers) hub new → is_over new ≡ true
      → worker_along w (Some Free) hub.history ≡ Some Over
  worker-ended w (run.OfThread u) same stands over = absurd same
  worker-ended w (run.OfWorker v) same stands over =
      subst (λ k. worker_along k (Some Free) hub.history ≡ Some Over) same (stands.stands ∙ ended v over)
    where
      ended : (x : WorkerSeen) → x.over ≡ true → Some (worker_state x) ≡ Some Over
      ended x e = cc

  workers-ended : (first count : ℕ) (new : List (ActorRun J)) → AllZip IsSameActor (map (λ w. run.OfWorker (new_worker w)) (range_with_len first count)) new
      → All Stands new → All IsOver new
      → (i : ℕ) → i < count → worker_along (first + i) (Some Free) hub.history ≡ Some Over
  workers-ended first zero new same stands over i below = absurd (omega arith)
  workers-ended first (suc count) [] same stands over i below = absurd same
  workers-ended first (suc count) (x ∷ new) same stands over zero below =
      let z : first ≡ first + zero = omega arith in
      subst (λ k. worker_along k (Some Free) hub.history ≡ Some Over) z (worker-ended first x same.0 (All-head Stands x new stands) (All-head IsOver x new over))
  workers-ended first (suc count) (x ∷ new) same stands over (suc i) below =
      let z : first + 1 + i ≡ first + suc i = omega arith in
      let less : i < count = omega arith in
      subst (λ k. worker_along k (Some Free) hub.history ≡ Some Over) z (workers-ended (first + 1) count new same.1 (All-tail Stands x new stands) (All-tail IsOver x new over) i less)

  workers-made : (t : ℕ) (scripts : List (List Op)) (count : ℕ) (new : List (ActorRun J)) → AllZip IsSameActor (thread_runs t scripts ++ worker_runs count) new
      → All Stands new → All IsOver new
      → (i : ℕ) → i < count → worker_along i (Some Free) hub.history ≡ Some Over
  workers-made t [] count new same stands over i below =
      let z : 0 + i ≡ i = omega arith in
      subst (λ k. worker_along k (Some Free) hub.history ≡ Some Over) z (workers-ended 0 count new same stands over i below)
  workers-made t (first ∷ scripts) count [] same stands over i below = absurd same
  workers-made t (first ∷ scripts) count (x ∷ new) same stands over i below = workers-made (t + 1) scripts count new same.1 (All-tail Stands x new stands) (All-tail IsOver x new over) i below

  pub hold-none : (new : List (ActorRun J)) → IsLedHub (hub_numbers threads workers) hub → All Stands new → All IsOver new → All HoldsNoWork new
  hold-none [] led stands over = All-nil HoldsNoWork
  hold-none (x ∷ new) led stands over =
      All-cons HoldsNoWork x new (ended-actors-hold-none J (hub_numbers threads workers) hub x led.led (All-head Stands x new stands) (All-head IsOver x new over))
      (hold-none new led (All-tail Stands x new stands) (All-tail IsOver x new over))

-- what all of them did, by the contract of the turns
module _ {J : Type 0} (version : ℕ) (plans : List Plan) (texts : ℕ) (scripts : List (List Op)) (workers : ℕ) (n : Numbers) (named : n ≡ hub_numbers (length scripts) workers)
    (hub : HubSeen) (old new : List (ActorRun J)) (made : old ≡ thread_runs 0 scripts ++ worker_runs workers) (same : AllZip IsSameActor old new)
    (stands : All (IsActorOf n hub) new) (over : All (λ a. is_over a ≡ true) new) where
  all-stand : All (IsActorOf (hub_numbers (length scripts) workers) hub) new
  all-stand = subst (λ m. All (IsActorOf m hub) new) named stands

  all-same : AllZip IsSameActor (thread_runs 0 scripts ++ worker_runs workers) new
  all-same = subst (λ l. AllZip IsSameActor l new) made same

  pub threads-did : (left : List Entry) → left ≡ hub.history → (t : ℕ) (operations : List Op) → slice_get scripts t ≡ Some operations
      → MadeItsScript (setting_with version plans texts (length scripts) workers) t operations left
  threads-did left is t operations at =
      let z : 0 + t ≡ t = omega arith in
      let M : ℕ → List Entry → Type 0 = λ k xs. MadeItsScript (setting_with version plans texts (length scripts) workers) k operations xs in
      subst (M t) (sym is) (subst (λ k. M k hub.history) z (threads-made version plans texts (length scripts) workers hub 0 scripts (worker_runs workers) new all-same all-stand over t operations at))

  pub workers-did : (left : List Entry) → left ≡ hub.history → (w : ℕ) → w < workers → worker_along w (Some Free) left ≡ Some Over
  workers-did left is w below = ap (λ xs. worker_along w (Some Free) xs) is ∙ workers-made version plans texts (length scripts) workers hub 0 scripts workers new all-same all-stand over w below

  pub all-free : IsLedHub n hub → All HoldsNoWork new
  all-free led = hold-none version plans texts (length scripts) workers hub new (subst (λ m. IsLedHub m hub) named led) all-stand over
