-- The queue as it is kept: without those in front whose completion has begun.
use Rattle.std.proofs.Common.{◌≡◌, ◌∙◌, ℕ, zero, suc, ◌+◌, ◌-◌, ◌<◌, ◌≤◌, Bool, true, false, List, [], ◌∷◌, ◌++◌, length, drop, map, set, get_or, Option, Some, None, IsSome, IfSome, is_some, option_map, slice_index_or, refl, ap, sym, arith, inl, inr, Bor}
use Rattle.std.specs.List.{slice_get}
use Rattle.std.specs.Option.{option_map_or}
use Rattle.std.proofs.lemmas.List.{length-map, map-set, map-append}
use Rattle.std.proofs.lemmas.Option.{slice_get-get_or, slice_get-map, get_or_from_slice_get}
use Rattle.std.proofs.lemmas.Bool.{cases_lt}
use Rattle.napi_types.specs.declared.call.JobSpec.{JobSpec}
use Rattle.async_work.specs.declared.queue.Numbered.{Numbered}
use Rattle.async_work.specs.Queue.{QueueStage, StillQueued, Runs, Ended, Done, NumberedWork, numbered_work, behind, stage_seen, entry_seen, queue_seen, waiting_job, runner, is_done_in_queue, queued_at, with_stage, with_stage_at, queue_work_at, queue_stage_at, queue_id_at}
use Rattle.async_work.proofs.Queueing.{stage-in_line, id-in_line, stage-past}

-- what stands behind those that are not kept
pub behind-more : (dropped : ℕ) (line : List NumberedWork) → behind (suc dropped) line ≡ behind dropped (numbered_work 0 Done ∷ line)
behind-more zero line = refl
behind-more (suc n) line = ap (λ xs. numbered_work 0 Done ∷ xs) (behind-more n line)

pub length-behind : (dropped : ℕ) (line : List NumberedWork) → length (behind dropped line) ≡ dropped + length line
length-behind zero line = omega arith
length-behind (suc n) line = let rest = length-behind n line in omega (arith, rest)

pub behind-push : (dropped : ℕ) (line : List NumberedWork) (e : NumberedWork) → behind dropped (line ++ e ∷ []) ≡ behind dropped line ++ e ∷ []
behind-push zero line e = refl
behind-push (suc n) line e = ap (λ xs. numbered_work 0 Done ∷ xs) (behind-push n line e)

-- a place behind none, and behind one more
behind-none : (at : ℕ) → at ≡ 0 + at
behind-none at = omega arith

behind-one : (n at : ℕ) → suc (n + at) ≡ suc n + at
behind-one n at = omega arith

pub behind-set : (dropped : ℕ) (line : List NumberedWork) (at : ℕ) (e : NumberedWork)
    → behind dropped (set line at e) ≡ set (behind dropped line) (dropped + at) e
behind-set zero line at e = ap (λ k. set line k e) (behind-none at)
behind-set (suc n) line at e =
    ap (λ xs. numbered_work 0 Done ∷ xs) (behind-set n line at e) ∙ ap (λ k. set (behind (suc n) line) k e) (behind-one n at)

behind-get : (dropped : ℕ) (line : List NumberedWork) (at : ℕ) → slice_get (behind dropped line) (dropped + at) ≡ slice_get line at
behind-get zero line at = ap (slice_get line) (sym (behind-none at))
behind-get (suc n) line at = ap (slice_get (behind (suc n) line)) (sym (behind-one n at)) ∙ behind-get n line at

behind-in : (dropped : ℕ) (line : List NumberedWork) (at : ℕ) → at < dropped → slice_get (behind dropped line) at ≡ Some (numbered_work 0 Done)
behind-in zero line at within = absurd (omega (arith, within))
behind-in (suc n) line zero within = refl
behind-in (suc n) line (suc at) within = behind-in n line at (omega (arith, within))

-- the work of a number that is not kept any more has begun its completion
pub stage-behind : (dropped : ℕ) (line : List NumberedWork) (n : ℕ) → n ≤ dropped → queue_stage_at (behind dropped line) n ≡ Done
stage-behind dropped line zero within = refl
stage-behind dropped line (suc at) within =
    ap (λ o. option_map_or (λ (x : NumberedWork). x.stage) o Done) (behind-in dropped line at (omega (arith, within)))

-- the others stand in their order
pub work-behind : (dropped : ℕ) (line : List NumberedWork) (at n : ℕ) → n ≡ dropped + at + 1 → queue_work_at (behind dropped line) n ≡ slice_get line at
work-behind dropped line at zero is = absurd (omega (arith, is))
work-behind dropped line at (suc k) is =
    let place : k ≡ dropped + at = omega (arith, is) in
    ap (slice_get (behind dropped line)) place ∙ behind-get dropped line at

module _ {J : Type 0} (spec : J → JobSpec) (dropped : ℕ) (line : List (Numbered J)) where
  pub length-line : length (queue_seen spec dropped line) ≡ dropped + length line
  length-line = length-behind dropped (map (entry_seen spec) line) ∙ ap (λ k. dropped + k) (length-map line (entry_seen spec))

  -- what is read at a place is the work of its number
  pub work-read : (at n : ℕ) (d : Numbered J) → n ≡ dropped + at + 1 → at < length line → queue_work_at (queue_seen spec dropped line) n ≡ Some
      (entry_seen spec (get_or line at d))
  work-read at n d is within =
      work-behind dropped (map (entry_seen spec) line) at n is ∙ slice_get-map (entry_seen spec) line at
      ∙ ap (option_map (entry_seen spec)) (slice_get-get_or line at d within)

  pub stage-read : (at n : ℕ) (d : Numbered J) → n ≡ dropped + at + 1 → at < length line
      → queue_stage_at (queue_seen spec dropped line) n ≡ stage_seen spec (get_or line at d).stage
  stage-read at n d is within =
      ap (λ o. option_map_or (λ (x : NumberedWork). x.stage) o Done) (work-read at n d is within)
      ∙ stage-in_line (get_or line at d).id (stage_seen spec (get_or line at d).stage)

  -- a work that is there, and has not begun its completion, is kept
  pub bounds-live : (n : ℕ) → is_done_in_queue (queue_stage_at (queue_seen spec dropped line) n) ≡ false → (dropped + 1 ≤ n) × (n ≤ dropped + length line)
  bounds-live n unfinished = (
    elim (cases_lt dropped n) [
      | inl above ↦ omega (arith, above)
      | inr below ↦ let no : ⊥ = let done = stage-behind dropped (map (entry_seen spec) line) n below in let it : true ≡ false = ap is_done_in_queue (sym done) ∙ unfinished in cc in absurd no
    ],
    elim (cases_lt (dropped + length line) n) [
      | inr within ↦ within
      | inl past ↦ let no : ⊥ = let it : true ≡ false = sym (stage-past is_done_in_queue (queue_seen spec dropped line) n (omega (arith, past, length-line))) ∙ unfinished in cc in absurd no
    ],
  )

  -- it comes further
  pub line-set : (at n : ℕ) (x : Numbered J) (s : QueueStage) (d : Numbered J) → n ≡ dropped + at + 1 → at < length line
      → entry_seen spec x ≡ with_stage s (entry_seen spec (get_or line at d)) → queue_seen spec dropped (set line at x) ≡ with_stage_at n s
      (queue_seen spec dropped line)
  line-set at n x s d is within same =
      let place : n - 1 ≡ dropped + at = omega (arith, is) in
      ap (behind dropped) (map-set (entry_seen spec) line at x) ∙ behind-set dropped (map (entry_seen spec) line) at (entry_seen spec x)
      ∙ ap (set (queue_seen spec dropped line) (dropped + at)) (same ∙ ap (with_stage s) (sym (there place)))
      ∙ ap (λ k. set (queue_seen spec dropped line) k (with_stage s (slice_index_or (queue_seen spec dropped line) k (numbered_work 0 Done)))) (sym place)
    where
      there : n - 1 ≡ dropped + at → slice_index_or (queue_seen spec dropped line) (dropped + at) (numbered_work 0 Done) ≡ entry_seen spec (get_or line at d)
      there place =
          get_or_from_slice_get (queue_seen spec dropped line) (dropped + at) (entry_seen spec (get_or line at d)) (numbered_work 0 Done)
          (behind-get dropped (map (entry_seen spec) line) at ∙ slice_get-map (entry_seen spec) line at
          ∙ ap (option_map (entry_seen spec)) (slice_get-get_or line at d within))

  -- A WORK THAT HAS NOT BEGUN ITS COMPLETION
  module _ (n at : ℕ) (unfinished : is_done_in_queue (queue_stage_at (queue_seen spec dropped line) n) ≡ false) (place : at ≡ n - 1 - dropped) where
    number-is : n ≡ dropped + at + 1
    number-is = let bounds = bounds-live n unfinished in omega (arith, bounds.0, place)

    pub place-within : at < length line
    place-within = let bounds = bounds-live n unfinished in omega (arith, bounds.0, bounds.1, place)

    pub stage-kept : (x : Numbered J) → x ≡ get_or line at x → queue_stage_at (queue_seen spec dropped line) n ≡ stage_seen spec x.stage
    stage-kept x here = stage-read at n x number-is place-within ∙ ap (λ (y : Numbered J). stage_seen spec y.stage) (sym here)

    unfinished-there : (x : Numbered J) → x ≡ get_or line at x → is_done_in_queue (stage_seen spec x.stage) ≡ false
    unfinished-there x here = ap is_done_in_queue (sym (stage-kept x here)) ∙ unfinished

    pub id-kept : (x : Numbered J) → x ≡ get_or line at x → queue_id_at (queue_seen spec dropped line) n ≡ Some x.id
    id-kept x here =
        ap (option_map (λ (y : NumberedWork). y.id)) (work-read at n x number-is place-within ∙ ap (λ (y : Numbered J). Some (entry_seen spec y)) (sym here))
        ∙ ap (λ i. Some i) (id-in_line x.id (stage_seen spec x.stage) (unfinished-there x here))

    pub kept-set : (x old : Numbered J) (s : QueueStage) → old ≡ get_or line at old → x.id ≡ old.id → stage_seen spec x.stage ≡ s
        → queue_seen spec dropped (set line at x) ≡ with_stage_at n s (queue_seen spec dropped line)
    kept-set x old s here same is =
        line-set at n x s old number-is place-within
        (ap (numbered_work x.id) is ∙ ap (λ i. numbered_work i s) (same ∙ sym (id-in_line old.id (stage_seen spec old.stage) (unfinished-there old here)))
        ∙ ap (λ (y : Numbered J). with_stage s (entry_seen spec y)) here)

-- WHAT A STAGE RULES OUT
pub waits-unfinished : (s : QueueStage) → IsSome (waiting_job s) → is_done_in_queue s ≡ false
waits-unfinished (StillQueued job) is = refl
waits-unfinished (Runs w) is = let no : ⊥ = cc in absurd no
waits-unfinished Ended is = let no : ⊥ = cc in absurd no
waits-unfinished Done is = let no : ⊥ = cc in absurd no

pub runs-unfinished : (s : QueueStage) → IsSome (runner s) → is_done_in_queue s ≡ false
runs-unfinished (StillQueued job) is = let no : ⊥ = cc in absurd no
runs-unfinished (Runs w) is = refl
runs-unfinished Ended is = let no : ⊥ = cc in absurd no
runs-unfinished Done is = let no : ⊥ = cc in absurd no

done-entry : (id : ℕ) (s : QueueStage) → is_done_in_queue s ≡ true → numbered_work id s ≡ numbered_work 0 Done
done-entry id (StillQueued job) is = let no : ⊥ = cc in absurd no
done-entry id (Runs w) is = let no : ⊥ = cc in absurd no
done-entry id Ended is = let no : ⊥ = cc in absurd no
done-entry id Done is = refl

-- which of them wait
pub waits-behind : (dropped : ℕ) (line : List NumberedWork) (n : ℕ) → dropped < n → queued_at (behind dropped line) n ≡ queued_at line (n - dropped)
waits-behind dropped line n above = by (n - dropped) refl
  where
    by : (k : ℕ) → n - dropped ≡ k → queued_at (behind dropped line) n ≡ queued_at line k
    by zero is = absurd (omega (arith, is, above))
    by (suc at) is =
        ap (λ o. is_some (waiting_job (option_map_or (λ (x : NumberedWork). x.stage) o Done))) (work-behind dropped line at n (omega (arith, is, above)))

module _ {J : Type 0} (spec : J → JobSpec) where
  pub waits-kept : (line : List (Numbered J)) (at : ℕ) (x : Numbered J) (b : Bool) → x ≡ get_or line at x → at < length line
      → b ≡ is_some (waiting_job (stage_seen spec x.stage)) → queued_at (queue_seen spec 0 line) (at + 1) ≡ b
  waits-kept line at x b here within is =
      ap (λ s. is_some (waiting_job s))
      (stage-read spec 0 line at (at + 1) x (first at) within ∙ ap (λ (y : Numbered J). stage_seen spec y.stage) (sym here)) ∙ sym is
    where
      first : (k : ℕ) → k + 1 ≡ 0 + k + 1
      first k = omega arith

  -- one more works is queued
  pub line-push : (dropped : ℕ) (line : List (Numbered J)) (x : Numbered J) → queue_seen spec dropped (line ++ x ∷ []) ≡ queue_seen spec dropped line
      ++ entry_seen spec x ∷ []
  line-push dropped line x =
      ap (behind dropped) (map-append (entry_seen spec) line (x ∷ [])) ∙ behind-push dropped (map (entry_seen spec) line) (entry_seen spec x)

  -- the stages of works that are not there
  pub stage-before : (dropped : ℕ) (line : List (Numbered J)) (n : ℕ) → (dropped + 1 ≤ n → ⊥) → queue_stage_at (queue_seen spec dropped line) n ≡ Done
  stage-before dropped line n below = elim (cases_lt dropped n) [
    | inl above ↦ absurd (below (omega (arith, above)))
    | inr within ↦ stage-behind dropped (map (entry_seen spec) line) n within
  ]

  pub stage-beyond : (dropped : ℕ) (line : List (Numbered J)) (n at : ℕ) → dropped + 1 ≤ n → at ≡ n - (dropped + 1) → (at < length line → ⊥)
      → queue_stage_at (queue_seen spec dropped line) n ≡ Done
  stage-beyond dropped line n at above place past = elim (cases_lt at (length line)) [
    | inl within ↦ absurd (past within)
    | inr beyond ↦ stage-past (λ s. s) (queue_seen spec dropped line) n (omega (arith, above, place, beyond, length-line spec dropped line))
  ]

  pub stage-at : (dropped : ℕ) (line : List (Numbered J)) (n at : ℕ) (x : Numbered J) → dropped + 1 ≤ n → at ≡ n - (dropped + 1) → at < length line → x ≡ get_or line at x
      → queue_stage_at (queue_seen spec dropped line) n ≡ stage_seen spec x.stage
  stage-at dropped line n at x above place within here =
      stage-read spec dropped line at n x (omega (arith, above, place)) within ∙ ap (λ (y : Numbered J). stage_seen spec y.stage) (sym here)

  -- the first goes, whose completion has begun
  pub front-dropped : (gone : ℕ) (line lines : List (Numbered J)) (o : Option (Bor (Numbered J))) → IfSome o (λ x. x.now ≡ get_or line 0 x.now)
      → (IsSome o → 0 < length line) → option_map_or (λ n. is_done_in_queue (stage_seen spec n.now.stage)) o false ≡ true → lines ≡ drop 1 line
      → (queue_seen spec (gone + 1) lines ≡ queue_seen spec gone line) × (length lines + 1 ≡ length line)
  front-dropped gone line lines None here there done is = let no : ⊥ = cc in absurd no
  front-dropped gone [] lines (Some x) here there done is = absurd (omega (arith, there refl))
  front-dropped gone (y ∷ ys) lines (Some x) here there done is =
      let rest : lines ≡ ys = is in (
        ap (queue_seen spec (gone + 1)) rest ∙ ap (λ k. queue_seen spec k ys) (next gone) ∙ behind-more gone (map (entry_seen spec) ys)
            ∙ ap (λ e. behind gone (e ∷ map (entry_seen spec) ys))
            (sym (done-entry y.id (stage_seen spec y.stage) (ap (λ (z : Numbered J). is_done_in_queue (stage_seen spec z.stage)) (sym here) ∙ done))),
        omega (arith, ap length rest),
      )
    where
      next : (n : ℕ) → n + 1 ≡ suc n
      next n = omega arith
