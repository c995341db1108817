-- The works by their numbers, and those that wait.
use Rattle.std.proofs.Common.{◌≡◌, ◌∙◌, ℕ, zero, suc, ◌+◌, ◌-◌, ◌<◌, ◌==◌, nat_lt, ◌||◌, Bool, true, false, not, cond, List, [], ◌∷◌, ◌++◌, length, filter, set, Option, Some, None, IsSome, is_some, option_map, slice_index_or, refl, ap, sym, arith}
use Rattle.std.specs.List.{cons_option}
use Rattle.std.specs.Option.{option_and_then, option_map_or}
use Rattle.std.proofs.lemmas.List.{length-set, map-append}
use Rattle.std.proofs.lemmas.Option.{get_or_from_slice_get}
use Rattle.std.proofs.lemmas.Bool.{ltb-true}
use Rattle.napi_types.specs.declared.call.JobSpec.{JobSpec}
use Rattle.napi_types.specs.plain.Lists.{found, has_number, singleton}
use Rattle.napi_types.proofs.plain.Found.{IsRising, same-self, same-tells, found-same, found-filter, rising-filter, has-found, turned}
use Rattle.napi_types.proofs.plain.Maps.{all-among}
use Rattle.async_work.specs.declared.queue.EndedWork as code
use Rattle.async_work.specs.Queue.{QueueStage, StillQueued, Runs, Ended, Done, NumberedWork, numbered_work, outcome_seen, outcomes_seen, waiting_job, is_done_in_queue, with_stage, with_stage_at, queue_work_at, queue_stage_at, queue_id_at, queued_at, listed_number, waiting_works}
use Rattle.napi_types.proofs.plain.Counted.{element-set, element-push, element-past, listed-push, listed-rising, found-listed}
use Rattle.async_work.proofs.CountingWorks.{length-without}

-- a work in the queue has its stage, and its id as long as its completion has not begun
pub stage-in_line : (id : ℕ) (s : QueueStage) → (numbered_work id s).stage ≡ s
stage-in_line id (StillQueued job) = refl
stage-in_line id (Runs w) = refl
stage-in_line id Ended = refl
stage-in_line id Done = refl

pub id-in_line : (id : ℕ) (s : QueueStage) → is_done_in_queue s ≡ false → (numbered_work id s).id ≡ id
id-in_line id (StillQueued job) unfinished = refl
id-in_line id (Runs w) unfinished = refl
id-in_line id Ended unfinished = refl
id-in_line id Done unfinished = let no : ⊥ = cc in absurd no

-- the queue is the same but for how far the work of one number has come
pub record Restaged (line others : List NumberedWork) (n : ℕ) (e : NumberedWork) (s : QueueStage) : Type 0 where
  pub there : queue_work_at line n ≡ Some e
  pub at : (m : ℕ) → queue_work_at others m ≡ cond (n == m) (Some (with_stage s e)) (queue_work_at line m)
  pub long : length others ≡ length line

pub restaged : (line : List NumberedWork) (n : ℕ) (e : NumberedWork) (s : QueueStage) → queue_work_at line n ≡ Some e
    → Restaged line (set line (n - 1) (with_stage s e)) n e s
restaged line n e s there = record { there = there; at = element-set line n e (with_stage s e) there; long = length-set line (n - 1) (with_stage s e) }

module _ (line others : List NumberedWork) (n : ℕ) (e : NumberedWork) (s : QueueStage) (change : Restaged line others n e s) where
  pub stage-restaged : {B : Type 0} (f : QueueStage → B) (m : ℕ) → f (queue_stage_at others m) ≡ cond (n == m) (f s) (f (queue_stage_at line m))
  stage-restaged {B} f m = ap (λ o. f (option_map_or (λ (x : NumberedWork). x.stage) o Done)) (change.at m) ∙ by (n == m)
    where
      by : (b : Bool) → f (option_map_or (λ (x : NumberedWork). x.stage) (cond b (Some (with_stage s e)) (queue_work_at line m)) Done) ≡ cond b (f s)
          (f (queue_stage_at line m))
      by true = ap f (stage-in_line e.id s)
      by false = refl

  pub id-restaged : is_done_in_queue s ≡ false → (m : ℕ) → queue_id_at others m ≡ queue_id_at line m
  id-restaged unfinished m = ap (option_map (λ (x : NumberedWork). x.id)) (change.at m) ∙ by (n == m) refl
    where
      by : (b : Bool) → (n == m) ≡ b → option_map (λ (x : NumberedWork). x.id) (cond b (Some (with_stage s e)) (queue_work_at line m)) ≡ queue_id_at line m
      by true same =
          ap (λ i. Some i) (id-in_line e.id s unfinished)
          ∙ sym (ap (λ k. queue_id_at line k) (sym (same-tells n m same)) ∙ ap (option_map (λ (x : NumberedWork). x.id)) change.there)
      by false same = refl

  pub id-other : (m : ℕ) → (n == m) ≡ false → queue_id_at others m ≡ queue_id_at line m
  id-other m apart = ap (option_map (λ (x : NumberedWork). x.id)) (change.at m ∙ ap (λ b. cond b (Some (with_stage s e)) (queue_work_at line m)) apart)

  pub stage-before : queue_stage_at line n ≡ e.stage
  stage-before = ap (λ o. option_map_or (λ (x : NumberedWork). x.stage) o Done) change.there

pub entry-push : (line : List NumberedWork) (e : NumberedWork) (m : ℕ)
    → queue_work_at (line ++ e ∷ []) m ≡ cond (length line + 1 == m) (Some e) (queue_work_at line m)
entry-push line e m = element-push line e m

pub stage-push : {B : Type 0} (f : QueueStage → B) (line : List NumberedWork) (e : NumberedWork) (m : ℕ)
    → f (queue_stage_at (line ++ e ∷ []) m) ≡ cond (length line + 1 == m) (f e.stage) (f (queue_stage_at line m))
stage-push {B} f line e m = ap (λ o. f (option_map_or (λ (x : NumberedWork). x.stage) o Done)) (element-push line e m) ∙ by (length line + 1 == m)
  where
    by : (b : Bool) → f (option_map_or (λ (x : NumberedWork). x.stage) (cond b (Some e) (queue_work_at line m)) Done) ≡ cond b (f e.stage)
        (f (queue_stage_at line m))
    by true = refl
    by false = refl

-- what no work has whose completion has begun is had within the queue
pub stage-past : {B : Type 0} (f : QueueStage → B) (line : List NumberedWork) (m : ℕ) → length line < m → f (queue_stage_at line m) ≡ f Done
stage-past f line m past = ap (λ o. f (option_map_or (λ (x : NumberedWork). x.stage) o Done)) (element-past line m past)

pub waits-within : (line : List NumberedWork) (n : ℕ) → queued_at line n ≡ true → (e : NumberedWork) × (s : JobSpec) × (queue_work_at line n ≡ Some e) ×
    (waiting_job e.stage ≡ Some s)
waits-within line n is = by (queue_work_at line n) refl is
  where
    job : (e : NumberedWork) (o : Option JobSpec) → queue_work_at line n ≡ Some e → waiting_job e.stage ≡ o → is_some o ≡ true
        → (x : NumberedWork) × (s : JobSpec) × (queue_work_at line n ≡ Some x) × (waiting_job x.stage ≡ Some s)
    job e None there told passes = let no : ⊥ = cc in absurd no
    job e (Some s) there told passes = (e, s, there, told)

    by : (o : Option NumberedWork) → queue_work_at line n ≡ o → is_some (waiting_job (option_map_or (λ (x : NumberedWork). x.stage) o Done)) ≡ true
        → (x : NumberedWork) × (s : JobSpec) × (queue_work_at line n ≡ Some x) × (waiting_job x.stage ≡ Some s)
    by None there passes = let no : ⊥ = cc in absurd no
    by (Some e) there passes = job e (waiting_job e.stage) there refl passes

-- THOSE THAT WAIT
keeps-number : (n : ℕ) (e : NumberedWork) (m : ℕ) → listed_number n e ≡ Some m → m ≡ n
keeps-number n e m is = by (waiting_job e.stage) is
  where
    by : (o : Option JobSpec) → option_map (λ _. n) o ≡ Some m → m ≡ n
    by None told = let no : ⊥ = cc in absurd no
    by (Some s) told = cc

pub rising-waiting : (line : List NumberedWork) → IsRising (λ (m : ℕ). m) (waiting_works line)
rising-waiting line = listed-rising listed_number (λ m. m) keeps-number 1 line

pub found-waiting : (line : List NumberedWork) (n : ℕ) → found (λ m. m) n (waiting_works line) ≡ cond (queued_at line n) (Some n) None
found-waiting line n = found-listed listed_number (λ m. m) keeps-number n line ∙ by (queue_work_at line n)
  where
    job : (o : Option JobSpec) → option_map (λ _. n) o ≡ cond (is_some o) (Some n) None
    job None = refl
    job (Some s) = refl

    by : (o : Option NumberedWork) → option_and_then (listed_number n) o ≡ cond (is_some (waiting_job (option_map_or (λ (x : NumberedWork). x.stage) o Done)))
        (Some n) None
    by None = refl
    by (Some e) = job (waiting_job e.stage)

pub has-waiting : (line : List NumberedWork) (n : ℕ) → has_number n (waiting_works line) ≡ queued_at line n
has-waiting line n = has-found (λ m. m) n (waiting_works line) ∙ ap is_some (found-waiting line n) ∙ by (queued_at line n)
  where
    by : (b : Bool) → is_some (cond b (Some n) None) ≡ b
    by true = refl
    by false = refl

pub waiting-same : (line others : List NumberedWork) → ((m : ℕ) → queued_at others m ≡ queued_at line m) → waiting_works others ≡ waiting_works line
waiting-same line others same =
    found-same (λ m. m) (waiting_works others) (waiting_works line) (rising-waiting others) (rising-waiting line)
    (λ m. found-waiting others m ∙ ap (λ b. cond b (Some m) None) (same m) ∙ sym (found-waiting line m))

-- one waits no longer
pub waiting-less : (line others : List NumberedWork) (n : ℕ) → ((m : ℕ) → queued_at others m ≡ cond (n == m) false (queued_at line m))
    → waiting_works others ≡ filter (λ m. not (m == n)) (waiting_works line)
waiting-less line others n less =
    found-same (λ m. m) (waiting_works others) (filter (λ m. not (m == n)) (waiting_works line)) (rising-waiting others) (rising-filter (λ m. m) (λ m. not (m == n))
    (waiting_works line) (rising-waiting line))
    (λ m. found-waiting others m ∙ ap (λ b. cond b (Some m) None) (less m ∙ ap (λ b. cond b false (queued_at line m)) (turned n m)) ∙ by m (m == n)
    ∙ ap (λ o. cond (not (m == n)) o None) (sym (found-waiting line m)) ∙ sym (found-filter (λ m. m) (λ k. not (k == n)) m (waiting_works line)))
  where
    by : (m : ℕ) (b : Bool) → cond (cond b false (queued_at line m)) (Some m) None ≡ cond (not b) (cond (queued_at line m) (Some m) None) None
    by m true = refl
    by m false = refl

-- one more waits
pub waiting-more : (line : List NumberedWork) (e : NumberedWork) (s : JobSpec) → waiting_job e.stage ≡ Some s
    → waiting_works (line ++ e ∷ []) ≡ waiting_works line ++ singleton (length line + 1)
waiting-more line e s is = listed-push listed_number 1 line e ∙ ap (λ o. waiting_works line ++ cons_option (option_map (λ _. 1 + length line) o) []) is
    ∙ ap (λ n. waiting_works line ++ n ∷ []) (next (length line))
  where
    next : (n : ℕ) → 1 + n ≡ n + 1
    next n = omega arith

pub waiting-none : (line : List NumberedWork) → ((m : ℕ) → queued_at line m ≡ false) → waiting_works line ≡ []
waiting-none line none = found-same (λ m. m) (waiting_works line) [] (rising-waiting line) tt (λ m. found-waiting line m ∙ ap (λ b. cond b (Some m) None) (none m))

upper : (m n : ℕ) → (m == n) ≡ false → nat_lt m n ≡ false → n < m
upper m n h k = grind arith

-- the first that waits
pub waiting-first : (line : List NumberedWork) (n : ℕ) → queued_at line n ≡ true → ((m : ℕ) → m < n → queued_at line m ≡ false)
    → waiting_works line ≡ n ∷ filter (λ m. not (m == n)) (waiting_works line)
waiting-first line n here passed =
    found-same (λ m. m) (waiting_works line) (n ∷ rest) (rising-waiting line) (
      all-among (λ m. n < m) rest later,
      rising-filter (λ m. m) (λ m. not (m == n)) (waiting_works line) (rising-waiting line),
    )
    (λ m. found-waiting line m ∙ by m (n == m) refl)
  where
    rest : List ℕ
    rest = filter (λ m. not (m == n)) (waiting_works line)

    found-rest : (m : ℕ) → found (λ m. m) m rest ≡ cond (not (m == n)) (cond (queued_at line m) (Some m) None) None
    found-rest m = found-filter (λ m. m) (λ k. not (k == n)) m (waiting_works line) ∙ ap (λ o. cond (not (m == n)) o None) (found-waiting line m)

    later : (m : ℕ) → has_number m rest ≡ true → n < m
    later m is = case (m == n) (queued_at line m) (nat_lt m n) refl refl refl (sym (ap is_some (found-rest m)) ∙ sym (has-found (λ m. m) m rest) ∙ is)
      where
        case : (a b c : Bool) → (m == n) ≡ a → queued_at line m ≡ b → nat_lt m n ≡ c → is_some (cond (not a) (cond b (Some m) None) None) ≡ true → n < m
        case true b c same waiting_is before passes = let no : ⊥ = cc in absurd no
        case false false c same waiting_is before passes = let no : ⊥ = cc in absurd no
        case false true true same waiting_is before passes = let no : ⊥ = let it : queued_at line m ≡ false = passed m (ltb-true m n before) in cc in absurd no
        case false true false same waiting_is before passes = upper m n same before

    by : (m : ℕ) (b : Bool) → (n == m) ≡ b → cond (queued_at line m) (Some m) None ≡ cond b (Some n) (found (λ m. m) m rest)
    by m true same = let one : n ≡ m = same-tells n m same in ap (λ k. cond (queued_at line k) (Some k) None) (sym one) ∙ ap (λ b. cond b (Some n) None) here
    by m false same = ap (λ b. cond (not b) (cond (queued_at line m) (Some m) None) None) (sym (turned m n ∙ same)) ∙ sym (found-rest m)

pub head-first : (line : List NumberedWork) (n : ℕ) (ns : List ℕ) → waiting_works line ≡ n ∷ ns → queued_at line n ≡ true
head-first line n ns is = sym (has-waiting line n) ∙ ap (has_number n) is ∙ by (n == n) (same-self n)
  where
    by : (b : Bool) → b ≡ true → (b || has_number n ns) ≡ true
    by true h = refl
    by false h = let no : ⊥ = cc in absurd no

-- a work waits that the pool says to
pub waits-of : (line : List NumberedWork) (ns : List ℕ) (n : ℕ) → waiting_works line ≡ ns → has_number n ns ≡ true → queued_at line n ≡ true
waits-of line ns n are here = sym (has-waiting line n) ∙ ap (has_number n) are ∙ here

-- how many wait where one waits no longer
pub length-less : (line : List NumberedWork) (n : ℕ) → queued_at line n ≡ true
    → length (filter (λ m. not (m == n)) (waiting_works line)) + 1 ≡ length (waiting_works line)
length-less line n is = length-without (λ m. m) n (waiting_works line) n (rising-waiting line) (found-waiting line n ∙ ap (λ b. cond b (Some n) None) is)

-- the work that stands there comes further
pub with_stage_at-there : (line : List NumberedWork) (n : ℕ) (s : QueueStage) (e : NumberedWork) → queue_work_at line n ≡ Some e
    → with_stage_at n s line ≡ set line (n - 1) (with_stage s e)
with_stage_at-there line zero s e is = let no : ⊥ = cc in absurd no
with_stage_at-there line (suc at) s e is =
    let place : suc at - 1 ≡ at = omega arith in
    ap (λ k. set line (suc at - 1) (with_stage s (slice_index_or line k (numbered_work 0 Done)))) place
    ∙ ap (λ x. set line (suc at - 1) (with_stage s x)) (get_or_from_slice_get line at e (numbered_work 0 Done) is)

-- the work of which this is known
pub some-is : {A : Type 0} (o : Option A) (x : A) → o ≡ Some x → IsSome o
some-is None x is = let no : ⊥ = cc in absurd no
some-is (Some y) x is = refl

pub outcomes-push : {J : Type 0} (spec : J → JobSpec) (outcomes others : List (code.EndedWork J)) (o : code.EndedWork J) → others ≡ outcomes ++ o ∷ []
    → outcomes_seen spec others ≡ outcomes_seen spec outcomes ++ outcome_seen spec o ∷ []
outcomes-push spec outcomes others o is = ap (outcomes_seen spec) is ∙ map-append (outcome_seen spec) outcomes (o ∷ [])
