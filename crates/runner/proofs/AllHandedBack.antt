-- All passes of a run on threads, once they came back.
use Rattle.std.proofs.Common.{◌≡◌, ◌∙◌, ℕ, suc, ◌+◌, List, [], ◌∷◌, ◌++◌, length, map, true, refl, ap, sym, subst, arith}
use Rattle.std.specs.List.{All, AllZip, range_with_len}
use Rattle.std.proofs.lemmas.List.Elements.{All-nil, All-cons, All-head, All-tail}
use Rattle.napi_types.specs.scripts.Plans.{Plan}
use Rattle.turn_lock.specs.Passes.{PassState, TurnState}
use Rattle.shared_hub.specs.declared.naming.Numbers.{Numbers}
use Rattle.shared_hub.specs.HubStates.{HubSeen}
use Rattle.env_loop.specs.ActorTurns.{is_over, IsActorOf, IsSameActor}
use Rattle.env_loop.specs.RecordedRuns.{Run}
use Rattle.env_loop.specs.Recording.{AddonStates}
use Rattle.env_loop.specs.declared.actor.ActorRun.{ActorRun}
use Rattle.runner.specs.declared.unstarted.Unstarted.{Unstarted}
use Rattle.runner.specs.AtPasses.{IsAtPass}
use Rattle.runner.specs.Crews.{runs_of}
use Rattle.runner.specs.Environments.{HasFollowedOnAtPass, OfFirst}
use Rattle.runner.specs.StartRoom.{IsNumberedPass, AreBack, ComeBehind, AreAllBack}

-- a run that is of the opened one
pub ran-from : (n : Numbers) (plans : List Plan) (r s : Run) (before : AddonStates) (p : PassState) (env : Run) (after : AddonStates) → r ≡ s
    → HasFollowedOnAtPass n plans r before p env after → HasFollowedOnAtPass n plans s before p env after
ran-from n plans r s before p env after e = subst (λ q. HasFollowedOnAtPass n plans q before p env after) e

-- what the actor of a pass did stands at the hub
abbrev pub StandsThere : Type 0 → Numbers → HubSeen → PassState → Type 0
StandsThere J n s p = (a : ActorRun J) → IsAtPass n p a → IsActorOf n s a

-- there are as many runs as there are that wait
pub length-runs : (J : Type 0) (crew : List Unstarted) → length (runs_of J crew) ≡ length crew
length-runs J [] = refl
length-runs J (w ∷ crew) = ap suc (length-runs J crew)

module _ {J : Type 0} where
  pub all-back : (n : Numbers) (h : TurnState) (actors : List (ActorRun J)) (first : PassState) (old new : List PassState) → IsNumberedPass h 0 first → old ≡ first ∷ []
      → ComeBehind n h actors old new → AreAllBack n h actors new
  all-back n h actors first old new i is b = subst (AreAllBack n h actors) (sym (b.1 ∙ ap (λ ps. ps ++ b.0) is)) (i, b.2)

  pub of-first : (P : PassState → Type 0) (n : Numbers) (h : TurnState) (actors : List (ActorRun J)) (first : PassState) (old new : List PassState) → old ≡ first ∷ []
      → ComeBehind n h actors old new → P first → OfFirst new P
  of-first P n h actors first old new is b holds = subst (λ ps. OfFirst ps P) (sym (b.1 ∙ ap (λ ps. ps ++ b.0) is)) holds

  -- CLOSING
  pub numbers-back : (n : Numbers) (h : TurnState) (k : ℕ) (actors : List (ActorRun J)) (ps : List PassState) → AreBack n h k actors ps
      → map (λ p. p.number) ps ≡ range_with_len k (length actors)
  numbers-back n h k [] [] b = refl
  numbers-back n h k [] (p ∷ ps) b = absurd b
  numbers-back n h k (a ∷ actors) [] b = absurd b
  numbers-back n h k (a ∷ actors) (p ∷ ps) b =
      ap (λ m. m ∷ map (λ q. q.number) ps) b.0.pass.number ∙ ap (λ ms. k ∷ ms) (numbers-back n h (k + 1) actors ps b.1)

  -- each pass that came back is a pass of this lock, and does not hold
  pub passes-back : (n : Numbers) (h : TurnState) (k : ℕ) (actors : List (ActorRun J)) (ps : List PassState) (P : PassState → Type 0)
      → ((j : ℕ) (p : PassState) → IsNumberedPass h j p → P p) → AreBack n h k actors ps → All P ps
  passes-back n h k [] [] P from b = All-nil P
  passes-back n h k [] (p ∷ ps) P from b = absurd b
  passes-back n h k (a ∷ actors) [] P from b = absurd b
  passes-back n h k (a ∷ actors) (p ∷ ps) P from b = All-cons P p ps (from k p b.0.pass) (passes-back n h (k + 1) actors ps P from b.1)

  pub all-numbers : (n : Numbers) (h : TurnState) (actors : List (ActorRun J)) (ps : List PassState) (count : ℕ) → AreAllBack n h actors ps → count ≡ 1 + length actors
      → map (λ p. p.number) ps ≡ range_with_len 0 count
  all-numbers n h actors [] count b is = absurd b
  all-numbers n h actors (p ∷ ps) count b is =
      let e : suc (length actors) ≡ count = omega (arith, is) in
      subst (λ m. map (λ q. q.number) (p ∷ ps) ≡ range_with_len 0 m) e
      (ap (λ m. m ∷ map (λ q. q.number) ps) b.0.number ∙ ap (λ ms. 0 ∷ ms) (numbers-back n h 1 actors ps b.1))

  pub all-passes : (n : Numbers) (h : TurnState) (actors : List (ActorRun J)) (ps : List PassState) (P : PassState → Type 0)
      → ((j : ℕ) (p : PassState) → IsNumberedPass h j p → P p) → AreAllBack n h actors ps → All P ps
  all-passes n h actors [] P from b = absurd b
  all-passes n h actors (p ∷ ps) P from b = All-cons P p ps (from 0 p b.0) (passes-back n h 1 actors ps P from b.1)

  -- where what each of them did stands at the hub, all of them have ended there
  abbrev pub HaveEnded : Numbers → HubSeen → List (ActorRun J) → Type 0
  HaveEnded n s actors = (last : List (ActorRun J)) × AllZip IsSameActor actors last × All (IsActorOf n s) last × All (λ a. is_over a ≡ true) last

  pub actors-back : (n : Numbers) (h : TurnState) (s : HubSeen) (k : ℕ) (actors : List (ActorRun J)) (ps : List PassState) → AreBack n h k actors ps
      → All (StandsThere J n s) ps → HaveEnded n s actors
  actors-back n h s k [] [] b all = ([], tt, All-nil _, All-nil _)
  actors-back n h s k [] (p ∷ ps) b all = absurd b
  actors-back n h s k (a ∷ actors) [] b all = absurd b
  actors-back n h s k (a ∷ actors) (p ∷ ps) b all =
      let ended = b.0.ended in
      let rest = actors-back n h s (k + 1) actors ps b.1 (All-tail (StandsThere J n s) p ps all) in (
        ended.last ∷ rest.0,
        (ended.same, rest.1),
        All-cons (IsActorOf n s) ended.last rest.0 (All-head (StandsThere J n s) p ps all ended.last ended.at) rest.2,
        All-cons (λ b. is_over b ≡ true) ended.last rest.0 ended.over rest.3,
      )

  pub all-actors : (n : Numbers) (h : TurnState) (s : HubSeen) (actors : List (ActorRun J)) (ps : List PassState) → AreAllBack n h actors ps
      → All (StandsThere J n s) ps → HaveEnded n s actors
  all-actors n h s actors [] b all = absurd b
  all-actors n h s actors (p ∷ ps) b all = actors-back n h s 1 actors ps b.1 (All-tail (StandsThere J n s) p ps all)
