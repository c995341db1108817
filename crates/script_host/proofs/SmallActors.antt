-- A script has sixteen threads and eight workers at most, the operations of its threads are such as threads make, and the words of its schedule are its actors.
use Rattle.std.proofs.Common.{◌≡◌, ◌≤◌, ◌<◌, ◌^◌, ◌+◌, ◌==◌, ℕ, suc, Bool, true, false, nat_lt, cond, List, [], ◌∷◌, length, Option, Some, None, option_map, Ok, refl, ap, sym, subst, ◌∙◌, arith}
use Rattle.std.specs.List.{All}
use Rattle.std.proofs.lemmas.List.Elements.{All-nil, All-cons}
use Rattle.std.specs.Prelude.{codes, bytes_eq, option_and_then, IfSome}
use Rattle.serde_json.specs.Data.{Data, string, array, Items, item, no_items}
use Rattle.serde_json.specs.Events.{items_len}
use Rattle.serde_json.specs.Find.{get}
use Rattle.napi_types.specs.declared.entry.Actor.{Actor}
use Rattle.napi_types.specs.declared.entry.Actor.TheVariants as actor
use Rattle.napi_types.specs.declared.op.Op.{Op}
use Rattle.napi_types.specs.declared.op.Op.TheVariants as op
use Rattle.napi_types.specs.declared.script.LimitName.TheVariants as limit
use Rattle.napi_types.specs.declared.script.ScriptPart.{ScriptPart}
use Rattle.napi_types.specs.declared.script.ScriptPart.TheVariants as place
use Rattle.napi_types.specs.declared.script.Script.{Script}
use Rattle.napi_types.specs.plain.Numbers.{is_supported}
use Rattle.napi_types.specs.scripts.Script.{version_in, workers_in, threads_in}
use Rattle.napi_types.specs.scripts.ScriptArguments.{whole, mode_number, release_number, text_argument}
use Rattle.napi_types.specs.scripts.ScriptOperations.{named, operation_name, thread_acquire, thread_release, thread_call, thread_operation_named, thread_operation}
use Rattle.napi_types.specs.scripts.ScriptReading.{Reading, formed, list_at, every, when_formed, within_limit}
use Rattle.napi_types.specs.scripts.ScriptSchedule.{small_number, number_below, lettered, actor_named, actor_in}
use Rattle.napi_types.specs.scripts.ScriptThreads.{thread_operation_at, thread_at, word_at, schedule_in}
use Rattle.env_loop.specs.ActorRuns.{IsOperationOfThread}
use Rattle.env_loop.specs.ActorTurns.{IsActorAt}
use Rattle.outside.specs.Ends.{Input}
use Rattle.outside.specs.Given.{GaveDemanded}
use Rattle.outside.specs.declared.scripts.Demand.{Demand}
use Rattle.script_run.specs.Loading.{hub_numbers}
use Rattle.script_run.specs.Runs.{IsSmall}
use Rattle.script_run.specs.ScriptActors.{IsThreadScript}
use Rattle.script_host.proofs.Small.{Both, both, within_limit-limit, list-short, ScriptParts, parts-of}

-- LISTS
-- a list that was read has as many members as its array, and what holds of all that is read holds of each
every-length : {A : Type 0} (f : ℕ → Data → Reading A) (n : ℕ) (ds : Items) (found : List A) → every f n ds ≡ Ok found → length found ≡ items_len ds
unfolding every
every-length f n no_items found e = let same : [] ≡ found = cc in ap length (sym same)
every-length {A} f n (item d ds) found e =
    let one : Both (f n d) _ found = both (f n d) _ found e in
    let rest : Both (every f (n + 1) ds) _ found = both (every f (n + 1) ds) _ found one.then in
    let same : one.first ∷ rest.first ≡ found = cc in
    ap length (sym same) ∙ ap suc (every-length f (n + 1) ds rest.first rest.was)

every-all : {A : Type 0} (P : A → Type 0) (f : ℕ → Data → Reading A) → ((n : ℕ) (d : Data) (a : A) → f n d ≡ Ok a → P a)
    → (n : ℕ) (ds : Items) (found : List A) → every f n ds ≡ Ok found → All P found
unfolding every
every-all P f holds n no_items found e = let same : [] ≡ found = cc in subst (All P) same (All-nil P)
every-all {A} P f holds n (item d ds) found e =
    let one : Both (f n d) _ found = both (f n d) _ found e in
    let rest : Both (every f (n + 1) ds) _ found = both (every f (n + 1) ds) _ found one.then in
    let same : one.first ∷ rest.first ≡ found = cc in
    subst (All P) same (All-cons P one.first rest.first (holds n d one.first one.was) (every-all P f holds (n + 1) ds rest.first rest.was))

-- what has its form is there
formed-some : {A : Type 0} (p : ScriptPart) (o : Option A) (a : A) → formed p o ≡ Ok a → o ≡ Some a
formed-some p (Some b) a e = cc
formed-some p None a e = cc

-- what follows an option was made of what is there
record BothThere {A B : Type 0} (o : Option A) (f : A → Option B) (b : B) : Type 0 where
  pub first : A
  pub was : o ≡ Some first
  pub then : f first ≡ Some b

both-there : {A B : Type 0} (o : Option A) (f : A → Option B) (b : B) → option_and_then f o ≡ Some b → BothThere o f b
both-there (Some a) f b e = record { first = a; was = refl; then = e }
both-there None f b e = cc

-- THREADS
-- the operation that one name finds is that one
only-named : (name : List ℕ) (o p : Op) → named name (o ∷ []) ≡ Some p → o ≡ p
unfolding named
only-named name o p e = by (bytes_eq (operation_name o) name) refl
  where
    by : (b : Bool) → bytes_eq (operation_name o) name ≡ b → o ≡ p
    by true found = cc
    by false missed = cc

acquires : (name : List ℕ) (a : Data) (o : Op) → thread_acquire name a ≡ Some o → IsOperationOfThread o
unfolding thread_acquire
acquires name a o e =
    let x : BothThere (whole a) _ o = both-there (whole a) _ o e in
    subst IsOperationOfThread (only-named name (op.ThreadAcquire x.first) o x.then) tt

releases : (name : List ℕ) (a b : Data) (o : Op) → thread_release name a b ≡ Some o → IsOperationOfThread o
unfolding thread_release
releases name a b o e =
    let x : BothThere (whole a) _ o = both-there (whole a) _ o e in
    let y : BothThere (release_number b) _ o = both-there (release_number b) _ o x.then in
    subst IsOperationOfThread (only-named name (op.ThreadRelease x.first y.first) o y.then) tt

calls : (name : List ℕ) (a b c : Data) (o : Op) → thread_call name a b c ≡ Some o → IsOperationOfThread o
unfolding thread_call
calls name a b c o e =
    let x : BothThere (whole a) _ o = both-there (whole a) _ o e in
    let y : BothThere (whole b) _ o = both-there (whole b) _ o x.then in
    let z : BothThere (mode_number c) _ o = both-there (mode_number c) _ o y.then in
    subst IsOperationOfThread (only-named name (op.ThreadCall x.first y.first z.first) o z.then) tt

of-thread-named : (name : List ℕ) (args : Items) (o : Op) → thread_operation_named name args ≡ Some o → IsOperationOfThread o
unfolding thread_operation_named
of-thread-named name no_items o e = absurd (cc)
of-thread-named name (item a no_items) o e = acquires name a o e
of-thread-named name (item a (item b no_items)) o e = releases name a b o e
of-thread-named name (item a (item b (item c no_items))) o e = calls name a b c o e
of-thread-named name (item a (item b (item c (item d more)))) o e = absurd (cc)

of-thread : (d : Data) (o : Op) → thread_operation d ≡ Some o → IsOperationOfThread o
unfolding thread_operation
of-thread (array (item (string name) args)) o e = of-thread-named name args o e
of-thread _ o e = absurd (cc)

of-thread-at : (t n : ℕ) (d : Data) (o : Op) → thread_operation_at t n d ≡ Ok o → IsOperationOfThread o
unfolding thread_operation_at
of-thread-at t n d o e = of-thread d o (formed-some (place.ThreadOperation t n) (thread_operation d) o e)

is-thread-script : (t : ℕ) (d : Data) (operations : List Op) → thread_at t d ≡ Ok operations → IsThreadScript operations
unfolding thread_at
is-thread-script t d operations e =
    let items : Both (list_at (place.Thread t) limit.Operations 16384 (Some d)) _ operations = both (list_at (place.Thread t) limit.Operations 16384 (Some d)) _ operations e in
    let short : items_len items.first ≤ 16384 = list-short (place.Thread t) limit.Operations 16384 (Some d) items.first items.was in
    let long : length operations ≡ items_len items.first = every-length (thread_operation_at t) 0 items.first operations items.then in
    record { few = omega (arith, short, long); kinds = every-all IsOperationOfThread (thread_operation_at t) (of-thread-at t) 0 items.first operations items.then }

record AreThreads (threads : List (List Op)) : Type 0 where
  pub few : length threads ≤ 16
  pub scripts : All IsThreadScript threads

are-threads : (found : Option Data) (threads : List (List Op)) → threads_in found ≡ Ok threads → AreThreads threads
unfolding threads_in
are-threads found threads e =
    let items : Both (list_at place.Threads limit.Threads 16 found) _ threads = both (list_at place.Threads limit.Threads 16 found) _ threads e in
    let short : items_len items.first ≤ 16 = list-short place.Threads limit.Threads 16 found items.first items.was in
    let long : length threads ≡ items_len items.first = every-length thread_at 0 items.first threads items.then in
    record { few = omega (arith, short, long); scripts = every-all IsThreadScript thread_at is-thread-script 0 items.first threads items.then }

-- WORKERS
few-workers : (found : Option Data) (n : ℕ) → workers_in found ≡ Ok n → n ≤ 8
unfolding workers_in
few-workers found n e =
    let first : Both (formed place.Workers (option_and_then whole found)) _ n = both (formed place.Workers (option_and_then whole found)) _ n e in
    let short : Both (within_limit limit.Workers 8 first.first) (λ _. Ok first.first) n = both (within_limit limit.Workers 8 first.first) (λ _. Ok first.first) n first.then in
    let made : Ok first.first ≡ Ok n = short.then in
    let same : first.first ≡ n = cc in
    subst (λ k. k ≤ 8) same (within_limit-limit limit.Workers 8 first.first short.first short.was)

-- THE SCHEDULE
below-bound : (bound : ℕ) (written : List ℕ) (n : ℕ) → number_below bound written ≡ Some n → n < bound
unfolding number_below
below-bound bound written n e =
    let x : BothThere (small_number written) _ n = both-there (small_number written) _ n e in
    by x.first (nat_lt x.first bound) refl x.then
  where
    by : (k : ℕ) (b : Bool) → nat_lt k bound ≡ b → cond b (Some k) None ≡ Some n → n < bound
    by k true less same = let e : k ≡ n = cc in subst (λ m. m < bound) e (grind arith)
    by k false more same = absurd (cc)

actor-made : {A : Type 0} (make : ℕ → A) (o : Option ℕ) (a : A) → option_map make o ≡ Some a → BothThere o (λ n. Some (make n)) a
actor-made make (Some n) a e = record { first = n; was = refl; then = e }
actor-made make None a e = cc

by-letter : (threads workers : ℕ) (word : List ℕ) (a : Actor) → lettered threads workers word ≡ Some a → IsActorAt (hub_numbers threads workers) a
unfolding lettered
by-letter threads workers [] a e = absurd (cc)
by-letter threads workers (letter ∷ written) a e = by-thread (letter == 116) e
  where
    by-worker : (b : Bool) → cond b (option_map actor.Worker (number_below workers written)) None ≡ Some a → IsActorAt (hub_numbers threads workers) a
    by-worker true found =
        let x : BothThere (number_below workers written) _ a = actor-made actor.Worker (number_below workers written) a found in
        let same : actor.Worker x.first ≡ a = cc in
        subst (IsActorAt (hub_numbers threads workers)) same (below-bound workers written x.first x.was)
    by-worker false found = absurd (cc)

    by-thread : (b : Bool) → cond b (option_map actor.Thread (number_below threads written)) (cond (letter == 119) (option_map actor.Worker (number_below workers written)) None) ≡ Some a
        → IsActorAt (hub_numbers threads workers) a
    by-thread true found =
        let x : BothThere (number_below threads written) _ a = actor-made actor.Thread (number_below threads written) a found in
        let same : actor.Thread x.first ≡ a = cc in
        subst (IsActorAt (hub_numbers threads workers)) same (below-bound threads written x.first x.was)
    by-thread false found = by-worker (letter == 119) found

by-name : (threads workers : ℕ) (word : List ℕ) (a : Actor) → actor_named threads workers word ≡ Some a → IsActorAt (hub_numbers threads workers) a
unfolding actor_named
by-name threads workers word a e = by (bytes_eq word (codes "env")) e
  where
    by : (b : Bool) → cond b (Some actor.Env) (lettered threads workers word) ≡ Some a → IsActorAt (hub_numbers threads workers) a
    by true found = let same : actor.Env ≡ a = cc in subst (IsActorAt (hub_numbers threads workers)) same tt
    by false found = by-letter threads workers word a found

of-text : (threads workers : ℕ) (d : Data) (a : Actor) → actor_in threads workers d ≡ Some a → IsActorAt (hub_numbers threads workers) a
unfolding actor_in
of-text threads workers d a e =
    let text : BothThere (text_argument d) (actor_named threads workers) a = both-there (text_argument d) (actor_named threads workers) a e in
    by-name threads workers text.first a text.then

of-word : (threads workers n : ℕ) (d : Data) (a : Actor) → word_at threads workers n d ≡ Ok a → IsActorAt (hub_numbers threads workers) a
unfolding word_at
of-word threads workers n d a e = of-text threads workers d a (formed-some (place.Word n) (actor_in threads workers d) a e)

are-words : (threads workers : ℕ) (found : Option Data) (schedule : Option (List Actor)) → schedule_in threads workers found ≡ Ok schedule
    → IfSome schedule (All (IsActorAt (hub_numbers threads workers)))
unfolding schedule_in
are-words threads workers None schedule e = let same : None ≡ schedule = cc in subst (λ o. IfSome o (All (IsActorAt (hub_numbers threads workers)))) same tt
are-words threads workers (Some d) schedule e =
    let items : Both (list_at place.Schedule limit.Schedule 65536 (Some d)) _ schedule = both (list_at place.Schedule limit.Schedule 65536 (Some d)) _ schedule e in
    let words : Both (every (word_at threads workers) 0 items.first) _ schedule = both (every (word_at threads workers) 0 items.first) _ schedule items.then in
    let same : Some words.first ≡ schedule = cc in
    subst (λ o. IfSome o (All (IsActorAt (hub_numbers threads workers)))) same
    (every-all (IsActorAt (hub_numbers threads workers)) (word_at threads workers) (of-word threads workers) 0 items.first words.first words.was)

-- the version of a script is one that is supported
is-formed : (p : ScriptPart) (b : Bool) (u : Unit {0}) → when_formed p b ≡ Ok u → b ≡ true
is-formed p true u e = refl
is-formed p false u e = cc

of-version : (found : Option Data) (n : ℕ) → version_in found ≡ Ok n → is_supported n ≡ true
unfolding version_in
of-version found n e =
    let read : Both (formed place.Version (option_and_then whole found)) _ n = both (formed place.Version (option_and_then whole found)) _ n e in
    let supported : Both (when_formed place.Version (is_supported read.first)) _ n = both (when_formed place.Version (is_supported read.first)) _ n read.then in
    let same : read.first ≡ n = cc in
    ap is_supported (sym same) ∙ is-formed place.Version (is_supported read.first) supported.first supported.was

-- so a script that was read is one that the host can run, where its texts can be counted
small-script : (d : Data) (s : Script) → ScriptParts d s → length s.texts < 2 ^ 32 → IsSmall s
small-script d s parts texts =
    let threads : AreThreads s.threads = are-threads (get (codes "threads") d) s.threads parts.threads in
    record {
      version = of-version (get (codes "version") d) s.version parts.version;
      few = parts.few;
      texts = texts;
      actors = record {
        threads_few = threads.few;
        scripts = threads.scripts;
        workers_few = few-workers (get (codes "workers") d) s.workers parts.workers;
        words = are-words (length s.threads) s.workers (get (codes "schedule") d) s.schedule parts.schedule;
      };
    }

-- and so is one that a source gave
pub small-given : (d : Demand) (input : Input) (handed : ℕ) (s : Script) → GaveDemanded d input handed s → IsSmall s
small-given d input handed s given =
    let is = given.gave.is_script in
    small-script is.0 s (parts-of is.0 s is.2) given.texts
