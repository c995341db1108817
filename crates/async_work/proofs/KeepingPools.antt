-- Places, queue and what came out go on standing for a pool.
use Rattle.std.proofs.Common.{◌≡◌, ◌∙◌, ℕ, zero, suc, ◌+◌, ◌-◌, ◌^◌, ◌<◌, ◌≤◌, ◌==◌, Bool, true, false, not, cond, List, [], ◌∷◌, ◌++◌, length, filter, set, get_or, Option, Some, None, IfSome, is_some, option_map, ◌⊎◌, refl, ap, sym, subst, arith, length-append, inl, inr}
use Rattle.std.specs.List.{count_by}
use Rattle.std.specs.Option.{option_map_or, is_none}
use Rattle.generation_slab.specs.HeldPlaces.{HeldValue, with_held, without_held, with_value}
use Rattle.std.proofs.lemmas.Bool.{cases_lt}
use Rattle.std.proofs.lemmas.List.Elements.{All-nil}
use Rattle.napi_types.specs.declared.call.JobSpec.{JobSpec}
use Rattle.napi_types.specs.plain.Lists.{found, has_number, with_record, with_number, singleton, head, tail}
use Rattle.napi_types.proofs.plain.Found.{IsRising, same-self, same-tells, apart-above}
use Rattle.napi_types.proofs.plain.Maps.{filter_all}
use Rattle.async_work.specs.WorkPlaces.{Placed, place_at, is_unqueued, with_place_number, with_number_at}
use Rattle.async_work.specs.Queue.{QueueStage, StillQueued, Runs, Ended, Done, NumberedWork, EndedWorkSeen, waiting_job, runner, has_ended, is_done_in_queue, with_stage, queue_work_at, queue_stage_at, queued_at, runner_at, ended_at, waiting_works, executions}
use Rattle.async_work.specs.KeptPool.{KeepsJob, IsQueue, EndedOnce, IsKeptPool}
use Rattle.async_work.proofs.Ids.{ReplacedPlace, replaced-made, replaced-freed, replaced-numbered, held-at, none-held, new-absent, issued-made, issued-freed, issued-kept, length-issued}
use Rattle.async_work.proofs.Mapped.{count-less, count-more, count-changed}
use Rattle.async_work.proofs.Queueing.{Restaged, restaged, stage-restaged, stage-push, stage-past, waiting-same, waiting-less, waiting-more, waiting-none, waiting-first, has-waiting, length-less}
use Rattle.async_work.proofs.PoolExecutions.{AreApart, apart-less, apart-started, executions-same, executions-started, executions-finished, length-finished, idle-worker}
use Rattle.async_work.proofs.Linking.{linked-created, linked-deleted, linked-queued, linked-restaged, out-created, out-deleted, out-queued, out-started, out-ended, out-completed, keeps-job, keeps-none, first-ended}

-- STAGES
pub record OnlyWaits (s : QueueStage) : Type 0 where
  pub idle : runner s ≡ None
  pub lives : has_ended s ≡ false
  pub unfinished : is_done_in_queue s ≡ false

pub only-waits : (s : QueueStage) (job : JobSpec) → waiting_job s ≡ Some job → OnlyWaits s
only-waits (StillQueued spec) job is = record { idle = refl; lives = refl; unfinished = refl }
only-waits (Runs w) job is = let no : ⊥ = cc in absurd no
only-waits Ended job is = let no : ⊥ = cc in absurd no
only-waits Done job is = let no : ⊥ = cc in absurd no

pub record OnlyRuns (s : QueueStage) : Type 0 where
  pub started : waiting_job s ≡ None
  pub lives : has_ended s ≡ false
  pub unfinished : is_done_in_queue s ≡ false

pub only-runs : (s : QueueStage) (w : ℕ) → runner s ≡ Some w → OnlyRuns s
only-runs (StillQueued spec) w is = let no : ⊥ = cc in absurd no
only-runs (Runs v) w is = record { started = refl; lives = refl; unfinished = refl }
only-runs Ended w is = let no : ⊥ = cc in absurd no
only-runs Done w is = let no : ⊥ = cc in absurd no

pub record OnlyEnded (s : QueueStage) : Type 0 where
  pub started : waiting_job s ≡ None
  pub idle : runner s ≡ None
  pub unfinished : is_done_in_queue s ≡ false

pub only-ended : (s : QueueStage) → has_ended s ≡ true → OnlyEnded s
only-ended (StillQueued spec) is = let no : ⊥ = cc in absurd no
only-ended (Runs v) is = let no : ⊥ = cc in absurd no
only-ended Ended is = record { started = refl; idle = refl; unfinished = refl }
only-ended Done is = let no : ⊥ = cc in absurd no

-- a work of which something is known stands in the queue
pub entry-live : (line : List NumberedWork) (n : ℕ) → is_done_in_queue (queue_stage_at line n) ≡ false → (e : NumberedWork) × (queue_work_at line n ≡ Some e)
entry-live line n unfinished = by (queue_work_at line n) refl unfinished
  where
    by : (o : Option NumberedWork) → queue_work_at line n ≡ o → is_done_in_queue (option_map_or (λ (e : NumberedWork). e.stage) o Done) ≡ false
        → (e : NumberedWork) × (queue_work_at line n ≡ Some e)
    by None at told = let no : ⊥ = cc in absurd no
    by (Some e) at told = (e, at)

-- one more that waits runs no more than those before
pub runner-queued : (line : List NumberedWork) (e : NumberedWork) (job : JobSpec) → waiting_job e.stage ≡ Some job → (m : ℕ)
    → runner_at (line ++ e ∷ []) m ≡ runner_at line m
runner-queued line e job waits_for m = stage-push runner line e m ∙ by (length line + 1 == m) refl
  where
    by : (b : Bool) → (length line + 1 == m) ≡ b → cond b (runner e.stage) (runner_at line m) ≡ runner_at line m
    by true same = let at : length line + 1 ≡ m = same-tells (length line + 1) m same in (only-waits e.stage job waits_for).idle
        ∙ sym (stage-past runner line m (omega (arith, at)))
    by false same = refl

-- ROOM
module _ (places : List (HeldValue Placed)) (issued : List ℕ) (line : List NumberedWork) (finished : List EndedWorkSeen) (first created queued running : ℕ)
    (closing : Bool)
    (spare finished_places : ℕ)
    (kept : IsKeptPool places issued line finished first created queued running closing spare finished_places) where
  -- a work that was not queued is counted
  pub counted-within : (id : ℕ) (p : Placed) → IsRising (λ h. h.number) places → place_at places id ≡ Some p → cond (is_none p.number) 1 0 ≤ created
  counted-within id p rises is =
      let less = count-less (λ (h : HeldValue Placed). h.number) is_unqueued id places (record { number = id; value = p }) rises (held-at places id p is) in
      omega (arith, less, kept.room.created_are)

  pub created-some : (id : ℕ) (p : Placed) → IsRising (λ h. h.number) places → place_at places id ≡ Some p → p.number ≡ None → 1 ≤ created
  created-some id p rises is none = subst (λ o. cond (is_none o) 1 0 ≤ created) none (counted-within id p rises is)

  pub room-to-queue : (id : ℕ) (p : Placed) → IsRising (λ h. h.number) places → place_at places id ≡ Some p → p.number ≡ None → 0 < spare
  room-to-queue id p rises is none =
      let some = created-some id p rises is none in
      omega (arith, some, kept.room.queue_room)

  pub queued-some : (n : ℕ) → queued_at line n ≡ true → 1 ≤ queued
  queued-some n is = let less = length-less line n is in omega (arith, less, kept.room.queued_are)

  pub room-to-cancel : (n : ℕ) → queued_at line n ≡ true → length finished < finished_places
  room-to-cancel n is =
      let some = queued-some n is in
      omega (arith, some, kept.room.finished_room)

  pub running-some : (n w : ℕ) → runner_at line n ≡ Some w → 1 ≤ running
  running-some n w is =
      let live = entry-live line n (only-runs (queue_stage_at line n) w is).unfinished in
      let change = restaged line n live.0 Done live.1 in
      let less = length-finished line (set line (n - 1) (with_stage Done live.0)) n w kept.numbered_work.apart is (stage-restaged line (set line (n - 1)
      (with_stage Done live.0)) n live.0 Done change runner) in
      omega (arith, less, kept.room.running_are)

  pub room-to-finish : (n w : ℕ) → runner_at line n ≡ Some w → length finished < finished_places
  room-to-finish n w is =
      let some = running-some n w is in
      omega (arith, some, kept.room.finished_room)

  -- MEMORY WAS TAKEN
  pub kept-more : (more_line more_finished : ℕ) → spare ≤ more_line → finished_places ≤ more_finished
      → IsKeptPool places issued line finished first created queued running closing more_line more_finished
  kept-more more_line more_finished a b = record {
    known = kept.known;
    linked = kept.linked;
    numbered_work = kept.numbered_work;
    ended_once = kept.ended_once;
    room = record {
      created_are = kept.room.created_are;
      queued_are = kept.room.queued_are;
      numbers = kept.room.numbers;
      few = kept.room.few;
      running_are = kept.room.running_are;
      queue_room = omega (arith, kept.room.queue_room, a);
      finished_room = omega (arith, kept.room.finished_room, b);
    };
    shut = kept.shut;
  }

  -- A WORK IS CREATED
  pub kept-created : (others : List (HeldValue Placed)) (id : ℕ) (p : Placed) (more more_line more_finished : ℕ) → IsRising (λ h. h.number) places
      → length issued + 2 < 2 ^ 48 → has_number id (0 ∷ issued) ≡ false → others ≡ with_held id p places → p.number ≡ None → p.job ≡ Some p.spec → more ≡ created + 1
      → more ≤ more_line → length finished + more + queued + running ≤ more_finished
      → IsKeptPool others (with_number id issued) line finished first more queued running closing more_line more_finished
  kept-created others id p more more_line more_finished rises few new is none held more_is a b = rw is (record {
    known = issued-made places (with_held id p places) issued id p change kept.known;
    linked = linked-created places (with_held id p places) line id p kept.linked absent change none held;
    numbered_work = kept.numbered_work;
    ended_once = out-created places (with_held id p places) line finished id p none change kept.ended_once;
    room = record {
      created_are = omega (arith, kept.room.created_are, more_is, counted, counts);
      queued_are = kept.room.queued_are;
      numbers = omega (arith, kept.room.numbers, more_is, length-issued issued id new);
      few = omega (arith, length-issued issued id new, few);
      running_are = kept.room.running_are;
      queue_room = a;
      finished_room = b;
    };
    shut = kept.shut;
  })
    where
      change : ReplacedPlace places (with_held id p places) id (Some p)
      change = replaced-made places id p

      absent : place_at places id ≡ None
      absent = new-absent places issued id kept.known new

      counts : cond {A = ℕ} (is_none p.number) 1 0 ≡ 1
      counts = ap (λ o. cond (is_none o) 1 0) none

      counted : count_by is_unqueued (with_held id p places) ≡ count_by is_unqueued places + cond (is_none p.number) 1 0
      counted = count-more (λ (h : HeldValue Placed). h.number) is_unqueued (record { number = id; value = p }) places rises (none-held places id absent)

  -- A WORK IS DELETED
  pub kept-deleted : (others : List (HeldValue Placed)) (id : ℕ) (p : Placed) (fewer : ℕ) → IsRising (λ h. h.number) places → others ≡ without_held id places
      → place_at places id ≡ Some p → ((n : ℕ) → p.number ≡ Some n → is_done_in_queue (queue_stage_at line n) ≡ true)
      → fewer + cond (is_none p.number) 1 0 ≡ created
      → IsKeptPool others issued line finished first fewer queued running closing spare finished_places
  kept-deleted others id p fewer rises same is done fewer_is = rw same (record {
    known = issued-freed places (without_held id places) issued id change kept.known;
    linked = linked-deleted places (without_held id places) line id p kept.linked is change done;
    numbered_work = kept.numbered_work;
    ended_once = out-deleted places (without_held id places) line finished id kept.ended_once change;
    room = record {
      created_are = omega (arith, kept.room.created_are, fewer_is, counted);
      queued_are = kept.room.queued_are;
      numbers = omega (arith, kept.room.numbers, fewer_is);
      few = kept.room.few;
      running_are = kept.room.running_are;
      queue_room = omega (arith, kept.room.queue_room, fewer_is);
      finished_room = omega (arith, kept.room.finished_room, fewer_is);
    };
    shut = kept.shut;
  })
    where
      change : ReplacedPlace places (without_held id places) id None
      change = replaced-freed places id

      counted : count_by is_unqueued (without_held id places) + cond (is_none p.number) 1 0 ≡ count_by is_unqueued places
      counted = count-less (λ (h : HeldValue Placed). h.number) is_unqueued id places (record { number = id; value = p }) rises (held-at places id p is)

  -- A WORK IS QUEUED
  pub kept-queued : (others : List (HeldValue Placed)) (lines : List NumberedWork) (id n fewer more left : ℕ) (p : Placed) (e : NumberedWork) → IsRising
      (λ h. h.number) places
      → others ≡ with_number_at id n places → lines ≡ line ++ e ∷ [] → closing ≡ false
      → n ≡ length line + 1 → place_at places id ≡ Some p → p.number ≡ None → e.id ≡ id → waiting_job e.stage ≡ Some p.spec → fewer ≡ created - 1 → more ≡ queued + 1 → left + 1 ≡ spare
      → IsKeptPool others issued lines finished first fewer more running closing left finished_places
  kept-queued others lines id n fewer more left p e rises places_are line_is still_open number is none its waits_for fewer_is more_is left_is = rw (places_are, line_is) (record {
    known = issued-kept places (with_number_at id n places) issued id p (with_place_number n p) is change kept.known;
    linked = linked-queued places (with_number_at id n places) line id n p e kept.linked number is none change its waits_for;
    numbered_work = record {
      apart = λ a b w here there. kept.numbered_work.apart a b w (sym (same_runner a) ∙ here) (sym (same_runner b) ∙ there);
      within = omega (arith, longer, kept.numbered_work.within);
      passed = λ m before. still m before;
    };
    ended_once = out-queued places (with_number_at id n places) line finished id n p e kept.ended_once number change only.lives;
    room = record {
      created_are = omega (arith, kept.room.created_are, fewer_is, counted, counts);
      queued_are = omega (
        arith,
        more_is,
        kept.room.queued_are,
        ap length (waiting-more line e p.spec waits_for),
        length-append (waiting_works line) (singleton (length line + 1)),
      );
      numbers = omega (arith, kept.room.numbers, longer, fewer_is, some);
      few = kept.room.few;
      running_are = kept.room.running_are ∙ ap length (sym (executions-same line (line ++ e ∷ []) same_runner));
      queue_room = omega (arith, kept.room.queue_room, fewer_is, left_is, some);
      finished_room = omega (arith, kept.room.finished_room, fewer_is, more_is, some);
    };
    shut = λ shut. let no : ⊥ = cc in absurd no;
  })
    where
      change : ReplacedPlace places (with_number_at id n places) id (Some (with_place_number n p))
      change = replaced-numbered places id n p is

      only : OnlyWaits e.stage
      only = only-waits e.stage p.spec waits_for

      some : 1 ≤ created
      some = created-some id p rises is none

      longer : length (line ++ e ∷ []) ≡ length line + 1
      longer = length-append line (e ∷ [])

      counts : cond {A = ℕ} (is_none p.number) 1 0 ≡ 1
      counts = ap (λ o. cond (is_none o) 1 0) none

      counted : count_by is_unqueued (with_number_at id n places) + cond (is_none p.number) 1 0 ≡ count_by is_unqueued places + 0
      counted = count-changed (λ (h : HeldValue Placed). h.number) is_unqueued id (λ h. with_value (with_place_number n h.value) h) (λ h. refl)
          (record { number = id; value = p }) places rises (held-at places id p is)

      same_runner : (m : ℕ) → runner_at (line ++ e ∷ []) m ≡ runner_at line m
      same_runner = runner-queued line e p.spec waits_for

      still : (m : ℕ) → m ≤ first → queued_at (line ++ e ∷ []) m ≡ false
      still m before = stage-push (λ s. is_some (waiting_job s)) line e m ∙ by (length line + 1 == m) refl
        where
          by : (b : Bool) → (length line + 1 == m) ≡ b → cond b (is_some (waiting_job e.stage)) (queued_at line m) ≡ false
          by true same = let at : length line + 1 ≡ m = same-tells (length line + 1) m same in absurd (omega (arith, at, before, kept.numbered_work.within))
          by false same = kept.numbered_work.passed m before

  -- WORKS ARE PASSED OVER THAT DO NOT WAIT
  pub kept-passed : (next : ℕ) → next ≤ length line → ((m : ℕ) → first < m → m ≤ next → queued_at line m ≡ false)
      → IsKeptPool places issued line finished next created queued running closing spare finished_places
  kept-passed next within passed = record {
    known = kept.known;
    linked = kept.linked;
    numbered_work = record { apart = kept.numbered_work.apart; within = within; passed = λ m before. by m before (cases_lt first m) };
    ended_once = kept.ended_once;
    room = kept.room;
    shut = kept.shut;
  }
    where
      by : (m : ℕ) → m ≤ next → (first < m) ⊎ (m ≤ first) → queued_at line m ≡ false
      by m before (inl later) = passed m later before
      by m before (inr sooner) = kept.numbered_work.passed m sooner

  -- A WORK IN LINE COMES FURTHER
  module _ (lines : List NumberedWork) (n : ℕ) (e : NumberedWork) (there : queue_work_at line n ≡ Some e) where
    at-stage : queue_stage_at line n ≡ e.stage
    at-stage = ap (λ o. option_map_or (λ (x : NumberedWork). x.stage) o Done) there

    -- where it does not wait any more
    pub passed-over : (s : QueueStage) → waiting_job s ≡ None → (m : ℕ) → queued_at (set line (n - 1) (with_stage s e)) m ≡ cond (n == m) false
        (queued_at line m)
    passed-over s none m =
        stage-restaged line (set line (n - 1) (with_stage s e)) n e s (restaged line n e s there) (λ t. is_some (waiting_job t)) m
        ∙ ap (λ o. cond (n == m) (is_some o) (queued_at line m)) none

    still-passed : (s : QueueStage) → waiting_job s ≡ None → (m : ℕ) → m ≤ first → queued_at (set line (n - 1) (with_stage s e)) m ≡ false
    still-passed s none m before = passed-over s none m ∙ by (n == m)
      where
        by : (b : Bool) → cond b false (queued_at line m) ≡ false
        by true = refl
        by false = kept.numbered_work.passed m before

    pub waiting-still : (s : QueueStage) → waiting_job s ≡ None → waiting_job e.stage ≡ None → waiting_works
        (set line (n - 1) (with_stage s e)) ≡ waiting_works line
    waiting-still s none none_before = waiting-same line (set line (n - 1) (with_stage s e)) (λ m. passed-over s none m ∙ by m (n == m) refl)
      where
        by : (m : ℕ) (b : Bool) → (n == m) ≡ b → cond b false (queued_at line m) ≡ queued_at line m
        by m true same = sym (ap (queued_at line) (sym (same-tells n m same)) ∙ ap (λ t. is_some (waiting_job t)) at-stage ∙ ap is_some none_before)
        by m false same = refl

    -- where it does not run any more
    pub fewer-run : (s : QueueStage) → runner s ≡ None → (m : ℕ) → runner_at (set line (n - 1) (with_stage s e)) m ≡ cond (n == m) None (runner_at line m)
    fewer-run s none m =
        stage-restaged line (set line (n - 1) (with_stage s e)) n e s (restaged line n e s there) runner m
        ∙ ap (λ o. cond (n == m) o (runner_at line m)) none

    pub executions-still : (s : QueueStage) → runner s ≡ None → runner e.stage ≡ None → executions (set line (n - 1) (with_stage s e)) ≡ executions line
    executions-still s none none_before = executions-same line (set line (n - 1) (with_stage s e)) (λ m. fewer-run s none m ∙ by m (n == m) refl)
      where
        by : (m : ℕ) (b : Bool) → (n == m) ≡ b → cond b None (runner_at line m) ≡ runner_at line m
        by m true same = sym (ap (runner_at line) (sym (same-tells n m same)) ∙ ap runner at-stage ∙ none_before)
        by m false same = refl

    waits-here : (job : JobSpec) → waiting_job e.stage ≡ Some job → queued_at line n ≡ true
    waits-here job is = ap (λ t. is_some (waiting_job t)) at-stage ∙ ap is_some is

    fewer-wait : (s : QueueStage) (job : JobSpec) → waiting_job s ≡ None → waiting_job e.stage ≡ Some job
        → length (waiting_works (set line (n - 1) (with_stage s e))) + 1 ≡ length (waiting_works line)
    fewer-wait s job none waits_for =
        ap (λ ns. length ns + 1) (waiting-less line (set line (n - 1) (with_stage s e)) n (passed-over s none)) ∙ length-less line n (waits-here job waits_for)

    -- it starts
    module _ (w : ℕ) (job : JobSpec) (waits_for : waiting_job e.stage ≡ Some job) (free : option_map (λ x. x.work) (found (λ x. x.worker) w
        (executions line)) ≡ None) where
      runs-now : (m : ℕ) → runner_at (set line (n - 1) (with_stage (Runs w) e)) m ≡ cond (n == m) (Some w) (runner_at line m)
      runs-now m = stage-restaged line (set line (n - 1) (with_stage (Runs w) e)) n e (Runs w) (restaged line n e (Runs w) there) runner m

      idle : (m : ℕ) → runner_at line m ≡ Some w → ⊥
      idle = idle-worker line w kept.numbered_work.apart free

      waited : runner_at line n ≡ None
      waited = ap runner at-stage ∙ (only-waits e.stage job waits_for).idle

      apart-now : AreApart (set line (n - 1) (with_stage (Runs w) e))
      apart-now = apart-started line (set line (n - 1) (with_stage (Runs w) e)) n w kept.numbered_work.apart idle waited runs-now

      pub executions-now : executions (set line (n - 1) (with_stage (Runs w) e)) ≡ with_record (λ x. x.worker) (record { worker = w; work = n })
          (executions line)
      executions-now = executions-started line (set line (n - 1) (with_stage (Runs w) e)) n w kept.numbered_work.apart idle waited runs-now

      more-run : length (executions line) + 1 ≡ length (executions (set line (n - 1) (with_stage (Runs w) e)))
      more-run =
          ap (λ xs. length xs + 1) (executions-finished (set line (n - 1) (with_stage (Runs w) e)) line n w apart-now its back)
          ∙ length-finished (set line (n - 1) (with_stage (Runs w) e)) line n w apart-now its back
        where
          its : runner_at (set line (n - 1) (with_stage (Runs w) e)) n ≡ Some w
          its = runs-now n ∙ ap (λ b. cond b (Some w) (runner_at line n)) (same-self n)

          back : (m : ℕ) → runner_at line m ≡ cond (n == m) None (runner_at (set line (n - 1) (with_stage (Runs w) e)) m)
          back m = by (n == m) refl ∙ ap (cond (n == m) None) (sym (runs-now m))
            where
              by : (b : Bool) → (n == m) ≡ b → runner_at line m ≡ cond b None (cond b (Some w) (runner_at line m))
              by true same = ap (runner_at line) (sym (same-tells n m same)) ∙ waited
              by false same = refl

      pub kept-started : (fewer more : ℕ) → lines ≡ set line (n - 1) (with_stage (Runs w) e) → closing ≡ false → fewer ≡ queued - 1 → more ≡ running + 1
          → IsKeptPool places issued lines finished first created fewer more closing spare finished_places
      kept-started fewer more is still_open fewer_is more_is = rw is (record {
        known = kept.known;
        linked = linked-restaged places line (set line (n - 1) (with_stage (Runs w) e)) n e (Runs w) kept.linked change refl (λ _. only.unfinished);
        numbered_work = record { apart = apart-now; within = omega (arith, change.long, kept.numbered_work.within); passed = still-passed (Runs w) refl };
        ended_once = out-started places line (set line (n - 1) (with_stage (Runs w) e)) finished n e (Runs w) kept.ended_once change refl only.lives;
        room = record {
          created_are = kept.room.created_are;
          queued_are = omega (arith, fewer_is, kept.room.queued_are, fewer-wait (Runs w) job refl waits_for);
          numbers = omega (arith, change.long, kept.room.numbers);
          few = kept.room.few;
          running_are = omega (arith, more_is, kept.room.running_are, more-run);
          queue_room = kept.room.queue_room;
          finished_room = omega (arith, kept.room.finished_room, fewer_is, more_is, queued-some n (waits-here job waits_for));
        };
        shut = λ shut. let no : ⊥ = cc in absurd no;
      })
        where
          change : Restaged line (set line (n - 1) (with_stage (Runs w) e)) n e (Runs w)
          change = restaged line n e (Runs w) there

          only : OnlyWaits e.stage
          only = only-waits e.stage job waits_for

    -- it is cancelled
    pub kept-cancelled : (outcomes : List EndedWorkSeen) (o : EndedWorkSeen) (fewer : ℕ) (job : JobSpec) → lines ≡ set line (n - 1) (with_stage Ended e)
        → outcomes ≡ finished ++ o ∷ [] → waiting_job e.stage ≡ Some job
        → o.number ≡ n → o.unspent ≡ Some job → fewer ≡ queued - 1 → IsKeptPool places issued lines outcomes first created fewer running closing spare finished_places
    kept-cancelled outcomes o fewer job is out_is waits_for its unspent fewer_is = rw (is, out_is) (record {
      known = kept.known;
      linked = linked-restaged places line (set line (n - 1) (with_stage Ended e)) n e Ended kept.linked change refl (λ _. only.unfinished);
      numbered_work = record {
        apart = apart-less line (set line (n - 1) (with_stage Ended e)) n kept.numbered_work.apart (fewer-run Ended refl);
        within = omega (arith, change.long, kept.numbered_work.within);
        passed = still-passed Ended refl;
      };
      ended_once = out-ended places line (set line (n - 1) (with_stage Ended e)) finished n e Ended kept.ended_once change o refl only.lives its told;
      room = record {
        created_are = kept.room.created_are;
        queued_are = omega (arith, fewer_is, kept.room.queued_are, fewer-wait Ended job refl waits_for);
        numbers = omega (arith, change.long, kept.room.numbers);
        few = kept.room.few;
        running_are = kept.room.running_are ∙ ap length (sym (executions-still Ended refl only.idle));
        queue_room = kept.room.queue_room;
        finished_room = omega (arith, kept.room.finished_room, fewer_is, queued-some n (waits-here job waits_for), length-append finished (o ∷ []));
      };
      shut = λ shut. let none : queued_at line n ≡ false = sym (has-waiting line n) ∙ ap (has_number n)
          (kept.shut shut) in let here = waits-here job waits_for in let no : ⊥ = cc in absurd no;
    })
      where
        change : Restaged line (set line (n - 1) (with_stage Ended e)) n e Ended
        change = restaged line n e Ended there

        only : OnlyWaits e.stage
        only = only-waits e.stage job waits_for

        told : KeepsJob places o
        told = keeps-job places line n e kept.linked there only.unfinished (kept.linked.placed n e there only.unfinished) o its (unspent ∙ sym waits_for)

    -- it finishes
    pub kept-finished : (outcomes : List EndedWorkSeen) (o : EndedWorkSeen) (w fewer : ℕ) → lines ≡ set line (n - 1) (with_stage Ended e)
        → outcomes ≡ finished ++ o ∷ [] → runner e.stage ≡ Some w
        → o.number ≡ n → o.unspent ≡ None → fewer ≡ running - 1 → IsKeptPool places issued lines outcomes first created queued fewer closing spare finished_places
    kept-finished outcomes o w fewer is out_is runs its unspent fewer_is = rw (is, out_is) (record {
      known = kept.known;
      linked = linked-restaged places line (set line (n - 1) (with_stage Ended e)) n e Ended kept.linked change refl (λ _. only.unfinished);
      numbered_work = record {
        apart = apart-less line (set line (n - 1) (with_stage Ended e)) n kept.numbered_work.apart (fewer-run Ended refl);
        within = omega (arith, change.long, kept.numbered_work.within);
        passed = still-passed Ended refl;
      };
      ended_once = out-ended places line (set line (n - 1) (with_stage Ended e)) finished n e Ended kept.ended_once change o refl only.lives its
          (keeps-none places o unspent);
      room = record {
        created_are = kept.room.created_are;
        queued_are = kept.room.queued_are ∙ ap length (sym (waiting-still Ended refl only.started));
        numbers = omega (arith, change.long, kept.room.numbers);
        few = kept.room.few;
        running_are = omega (arith, fewer_is, kept.room.running_are, less);
        queue_room = kept.room.queue_room;
        finished_room = omega (arith, kept.room.finished_room, fewer_is, running-some n w runs_here, length-append finished (o ∷ []));
      };
      shut = λ shut. waiting-still Ended refl only.started ∙ kept.shut shut;
    })
      where
        change : Restaged line (set line (n - 1) (with_stage Ended e)) n e Ended
        change = restaged line n e Ended there

        only : OnlyRuns e.stage
        only = only-runs e.stage w runs

        runs_here : runner_at line n ≡ Some w
        runs_here = ap runner at-stage ∙ runs

        less : length (executions (set line (n - 1) (with_stage Ended e))) + 1 ≡ length (executions line)
        less =
            ap (λ xs. length xs + 1)
            (executions-finished line (set line (n - 1) (with_stage Ended e)) n w kept.numbered_work.apart runs_here (fewer-run Ended refl))
            ∙ length-finished line (set line (n - 1) (with_stage Ended e)) n w kept.numbered_work.apart runs_here (fewer-run Ended refl)

-- its completion begins
pub kept-completed : (places : List (HeldValue Placed)) (issued : List ℕ) (line lines : List NumberedWork) (finished outcomes : List EndedWorkSeen) (o : EndedWorkSeen) (first created queued running : ℕ)
    (closing : Bool) (spare finished_places more : ℕ) (e : NumberedWork)
    → IsKeptPool places issued line finished first created queued running closing spare finished_places → finished ≡ o ∷ outcomes
    → queue_work_at line o.number ≡ Some e
    → lines ≡ set line (o.number - 1) (with_stage Done e)
    → spare ≤ more → IsKeptPool places issued lines outcomes first created queued running closing more finished_places
kept-completed places issued line lines finished outcomes o first created queued running closing spare finished_places more e kept out_is there is a = rw is (record {
  known = kept.known;
  linked = linked-restaged places line (set line (o.number - 1) (with_stage Done e)) o.number e Done kept.linked change refl
      (λ no. let not_so : ⊥ = cc in absurd not_so);
  numbered_work = record {
    apart = apart-less line (set line (o.number - 1) (with_stage Done e)) o.number kept.numbered_work.apart
        (fewer-run places issued line finished first created queued running closing spare finished_places kept lines o.number e there Done refl);
    within = omega (arith, change.long, kept.numbered_work.within);
    passed = still-passed places issued line finished first created queued running closing spare finished_places kept lines o.number e there Done refl;
  };
  ended_once = out-completed places line (set line (o.number - 1) (with_stage Done e)) o outcomes e Done out change refl;
  room = record {
    created_are = kept.room.created_are;
    queued_are = kept.room.queued_are ∙ ap length (sym waiting_same);
    numbers = omega (arith, change.long, kept.room.numbers);
    few = kept.room.few;
    running_are = kept.room.running_are ∙ ap length (sym
        (executions-still places issued line finished first created queued running closing spare finished_places kept lines o.number e there Done refl only.idle));
    queue_room = omega (arith, kept.room.queue_room, a);
    finished_room = omega (arith, kept.room.finished_room, ap length out_is);
  };
  shut = λ shut. waiting_same ∙ kept.shut shut;
})
  where
    change : Restaged line (set line (o.number - 1) (with_stage Done e)) o.number e Done
    change = restaged line o.number e Done there

    out : EndedOnce places line (o ∷ outcomes)
    out = rw (← out_is) kept.ended_once

    only : OnlyEnded e.stage
    only = only-ended e.stage
        (ap has_ended (sym (ap (λ x. option_map_or (λ (y : NumberedWork). y.stage) x Done) there)) ∙ first-ended places line o outcomes out)

    waiting_same : waiting_works (set line (o.number - 1) (with_stage Done e)) ≡ waiting_works line
    waiting_same = waiting-still places issued line finished first created queued running closing spare finished_places kept lines o.number e there Done refl only.started

-- where none waits, any work may start or none
pub kept-closed : (places : List (HeldValue Placed)) (issued : List ℕ) (line : List NumberedWork) (finished : List EndedWorkSeen) (first created queued running : ℕ) (closing now : Bool)
    (spare finished_places : ℕ)
    → IsKeptPool places issued line finished first created queued running closing spare finished_places → waiting_works line ≡ []
    → IsKeptPool places issued line finished first created queued running now spare finished_places
kept-closed places issued line finished first created queued running closing now spare finished_places kept none = record {
  known = kept.known;
  linked = kept.linked;
  numbered_work = kept.numbered_work;
  ended_once = kept.ended_once;
  room = kept.room;
  shut = λ _. none;
}

-- before the first work is created
pub kept-new : (places : List (HeldValue Placed)) (issued : List ℕ) (line : List NumberedWork) (finished : List EndedWorkSeen) (spare finished_places : ℕ)
    → places ≡ [] → issued ≡ [] → line ≡ []
    → finished ≡ [] → IsKeptPool places issued line finished 0 0 0 0 false spare finished_places
kept-new places issued line finished spare finished_places no_places no_issued no_line no_finished = rw (no_places, no_issued, no_line, no_finished) (record {
  known = λ id p is. absurd (nowhere id p is);
  linked = record {
    named = λ id p is. absurd (nowhere id p is);
    held = λ id p is. absurd (nowhere id p is);
    placed = λ n e is. absurd (no_entry n e is);
  };
  numbered_work = record {
    apart = λ n m w here. absurd (nobody n w here);
    within = omega arith;
    passed = λ n before. nothing n;
  };
  ended_once = record {
    once = λ n. sym (ap (λ b. cond b 1 0) (unended n));
    told = All-nil (KeepsJob []);
  };
  room = record {
    created_are = refl;
    queued_are = refl;
    numbers = omega arith;
    few = omega arith;
    running_are = refl;
    queue_room = omega arith;
    finished_room = omega arith;
  };
  shut = λ _. refl;
})
  where
    nowhere : (id : ℕ) (p : Placed) → place_at [] id ≡ Some p → ⊥
    nowhere id p is = cc

    no_entry : (n : ℕ) (e : NumberedWork) → queue_work_at [] n ≡ Some e → ⊥
    no_entry zero e is = cc
    no_entry (suc k) e is = cc

    nobody : (n w : ℕ) → runner_at [] n ≡ Some w → ⊥
    nobody zero w is = cc
    nobody (suc k) w is = cc

    nothing : (n : ℕ) → queued_at [] n ≡ false
    nothing zero = refl
    nothing (suc k) = refl

    unended : (n : ℕ) → ended_at [] n ≡ false
    unended zero = refl
    unended (suc k) = refl

-- where the first work that waits would stand
module _ (line : List NumberedWork) (first next : ℕ) (numbered_work : IsQueue line first) (within : next ≤ length line) (passed : (m : ℕ) → first < m → m ≤ next
    → queued_at line m ≡ false) where
  before-next : (m : ℕ) → m ≤ next → queued_at line m ≡ false
  before-next m before = by (cases_lt first m)
    where
      by : (first < m) ⊎ (m ≤ first) → queued_at line m ≡ false
      by (inl later) = passed m later before
      by (inr sooner) = numbered_work.passed m sooner

  pub none-waits : next ≡ length line → waiting_works line ≡ []
  none-waits at_end = waiting-none line (λ m. by m (cases_lt next m))
    where
      by : (m : ℕ) → (next < m) ⊎ (m ≤ next) → queued_at line m ≡ false
      by m (inl past) = stage-past (λ s. is_some (waiting_job s)) line m (omega (arith, at_end, past))
      by m (inr before) = before-next m before

  pub next-waits : queued_at line (next + 1) ≡ true → waiting_works line ≡ (next + 1) ∷ filter (λ m. not (m == next + 1)) (waiting_works line)
  next-waits here = waiting-first line (next + 1) here (λ m before. before-next m (omega (arith, before)))

-- the others wait behind the first
pub rest-waits : (ns : List ℕ) → IsRising (λ m. m) ns → IfSome (head ns) (λ n. filter (λ m. not (m == n)) ns ≡ tail ns)
rest-waits [] rises = tt
rest-waits (n ∷ ns) rises = ap (λ b. cond (not b) (n ∷ filter (λ m. not (m == n)) ns) (filter (λ m. not (m == n)) ns)) (same-self n)
    ∙ filter_all (λ m. not (m == n)) ns (λ k d inside. ap not (apart-above n (get_or ns k d) (rises.0 k d inside)))
