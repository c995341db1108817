-- Strays that take their turns one after another.
use Rattle.std.proofs.Common.{◌≡◌, ℕ, zero, suc, ◌+◌, ◌<◌, List, [], ◌∷◌, length, get_or, set, subst, sym, arith}
use Rattle.std.specs.List.{All, AllZip}
use Rattle.std.proofs.lemmas.List.Elements.{All-head, All-tail}
use Rattle.turn_lock.specs.Passes.{TurnState}
use Rattle.shared_hub.specs.declared.naming.Numbers.{Numbers}
use Rattle.runner.specs.declared.strays.Stray.{Stray}
use Rattle.runner.specs.ActorsAtTheLock.{IsStray, IsSameStray, HasEndedStray}
use Rattle.runner.proofs.SameStrays.{same-stray-then}

module _ {J : Type 0} where
  -- one of them took a turn
  pub same-strays-set : (us vs : List (Stray J)) (k : ℕ) (d w : Stray J) → AllZip IsSameStray us vs → k < length vs → IsSameStray (get_or vs k d) w
      → AllZip IsSameStray us (set vs k w)
  same-strays-set us [] k d w all within same = let no : ⊥ = omega arith in absurd no
  same-strays-set [] (v ∷ vs) k d w all within same = absurd all
  same-strays-set (u ∷ us) (v ∷ vs) zero d w all within same = (same-stray-then u v w all.0 same, all.1)
  same-strays-set (u ∷ us) (v ∷ vs) (suc k) d w all within same = (all.0, same-strays-set us vs k d w all.1 (omega arith) same)

  -- so many of them have ended, and the others are as they were
  abbrev pub EndedSoFar : Numbers → ℕ → List (Stray J) → List (Stray J) → Type 0
  EndedSoFar n zero us vs = vs ≡ us
  EndedSoFar n (suc k) [] vs = ⊥
  EndedSoFar n (suc k) (u ∷ us) [] = ⊥
  EndedSoFar n (suc k) (u ∷ us) (v ∷ vs) = HasEndedStray n u v × EndedSoFar n k us vs

  next-ended : (n : Numbers) (us vs : List (Stray J)) (k : ℕ) (d w : Stray J) → EndedSoFar n k us vs → k < length vs → HasEndedStray n (get_or vs k d) w
      → EndedSoFar n (suc k) us (set vs k w)
  next-ended n us [] k d w so within ended = let no : ⊥ = omega arith in absurd no
  next-ended n [] (v ∷ vs) zero d w so within ended = absurd (cc so)
  next-ended n [] (v ∷ vs) (suc k) d w so within ended = absurd so
  next-ended n (u ∷ us) (v ∷ vs) zero d w so within ended =
      let first : v ≡ u = cc so in
      let others : vs ≡ us = cc so in
      (subst (λ s. HasEndedStray n s w) first ended, others)
  next-ended n (u ∷ us) (v ∷ vs) (suc k) d w so within ended = (so.0, next-ended n us vs k d w so.1 (omega arith) ended)

  pub one-more-ended : (n : Numbers) (us vs : List (Stray J)) (k : ℕ) (d w : Stray J) → EndedSoFar n k us vs → k < length vs → HasEndedStray n (get_or vs k d) w
      → EndedSoFar n (k + 1) us (set vs k w)
  one-more-ended n us vs k d w so within ended =
      let e : suc k ≡ k + 1 = omega arith in
      subst (λ m. EndedSoFar n m us (set vs k w)) e (next-ended n us vs k d w so within ended)

  all-ended : (n : Numbers) (us vs : List (Stray J)) → EndedSoFar n (length us) us vs → AllZip (HasEndedStray n) us vs
  all-ended n [] vs so = subst (λ xs. AllZip (HasEndedStray n) [] xs) (sym so) tt
  all-ended n (u ∷ us) [] so = absurd so
  all-ended n (u ∷ us) (v ∷ vs) so = (so.0, all-ended n us vs so.1)

  pub ended-at-last : (n : Numbers) (us vs : List (Stray J)) (k : ℕ) → k ≡ length us → EndedSoFar n k us vs → AllZip (HasEndedStray n) us vs
  ended-at-last n us vs k is so = all-ended n us vs (subst (λ m. EndedSoFar n m us vs) is so)

  -- those that are left are strays
  pub stray-left : (n : Numbers) (h : TurnState) (us vs : List (Stray J)) (k : ℕ) (d : Stray J) → All (IsStray n h) us → EndedSoFar n k us vs → k < length vs
      → IsStray n h (get_or vs k d)
  stray-left n h us [] k d all so within = let no : ⊥ = omega arith in absurd no
  stray-left n h [] (v ∷ vs) zero d all so within = absurd (cc so)
  stray-left n h [] (v ∷ vs) (suc k) d all so within = absurd so
  stray-left n h (u ∷ us) (v ∷ vs) zero d all so within =
      let first : u ≡ v = cc so in
      subst (IsStray n h) first (All-head (IsStray n h) u us all)
  stray-left n h (u ∷ us) (v ∷ vs) (suc k) d all so within = stray-left n h us vs k d (All-tail (IsStray n h) u us all) so.1 (omega arith)
