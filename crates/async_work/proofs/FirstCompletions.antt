-- Where a work has ended the first completion is there.
use Rattle.std.proofs.Common.{◌≡◌, ◌∙◌, ◌==◌, true, ℕ, suc, length, Bool, List, [], ◌∷◌, map, refl, ap, sym, subst, Option, Some, None, is_some, option_map, not, false, arith}
use Rattle.std.specs.Option.{option_and_then, option_map_or}
use Rattle.generation_slab.specs.HeldPlaces.{HeldValue}
use Rattle.napi_types.specs.plain.Lists.{head}
use Rattle.napi_types.specs.parts.Pool.{work_numbered, completion_info, first_completion}
use Rattle.napi_types.specs.parts.Works.{Work, Outcome}
use Rattle.napi_types.proofs.plain.Found.{IsRising}
use Rattle.async_work.specs.KeptPool.{pool_of, IsKeptPool, StandsInQueue, EndedOnce}
use Rattle.async_work.specs.Queue.{NumberedWork, EndedWorkSeen, Done, outcome_of, has_ended, is_done_in_queue, ended_at, queue_work_at, queue_stage_at}
use Rattle.async_work.specs.WorkPlaces.{Placed}
use Rattle.async_work.proofs.Linking.{ended-unfinished, first-ended, stage-of}
use Rattle.async_work.proofs.StandingWorks.{numbered-at}

module _ (places : List (HeldValue Placed)) (issued : List ℕ) (line : List NumberedWork) (finished : List EndedWorkSeen) (first created queued running : ℕ)
    (closing : Bool)
    (spare finished_places : ℕ) (rises : IsRising (λ h. h.number) places)
    (kept : IsKeptPool places issued line finished first created queued running closing spare finished_places) where
  completion-of : (o : EndedWorkSeen) → ended_at line o.number ≡ true → is_some (work_numbered (pool_of places issued line finished closing) o.number) ≡ true
  completion-of o ended = by (queue_work_at line o.number) refl
    where
      by : (e : Option NumberedWork) → queue_work_at line o.number ≡ e → is_some (work_numbered (pool_of places issued line finished closing) o.number) ≡ true
      by None at = let no : false ≡ true = sym (ap (λ (w : Option NumberedWork). has_ended (option_map_or (λ (x : NumberedWork). x.stage) w Done)) at)
          ∙ ended in cc
      by (Some e) at =
          let unfinished : is_done_in_queue e.stage ≡ false = ap is_done_in_queue (sym (stage-of line o.number e at)) ∙ ended-unfinished
          (queue_stage_at line o.number) ended in
          let stands : StandsInQueue places o.number e = kept.linked.placed o.number e at unfinished in
          ap is_some (numbered-at places issued line finished first created queued running closing spare finished_places kept o.number e rises at unfinished stands)

  pub completion-there : is_some (first_completion (pool_of places issued line finished closing)) ≡ not (length finished == 0)
  completion-there = by finished refl
    where
      some : (n : ℕ) → (suc n == 0) ≡ false
      some n = grind arith

      told : (o : EndedWorkSeen) (w : Option Work) → is_some w ≡ true → is_some (option_map (λ w. completion_info w (outcome_of o)) w) ≡ true
      told o None there = there
      told o (Some w) there = refl

      by : (os : List EndedWorkSeen) → finished ≡ os
          → is_some (option_and_then (λ (x : Outcome). option_map (λ w. completion_info w x) (work_numbered (pool_of places issued line finished closing) x.work)) (head (map outcome_of os)))
          ≡ not (length os == 0)
      by [] are = refl
      by (o ∷ os) are =
          told o (work_numbered (pool_of places issued line finished closing) o.number)
          (completion-of o (first-ended places line o os (subst (EndedOnce places line) are kept.ended_once)))
          ∙ ap not (sym (some (length os)))
