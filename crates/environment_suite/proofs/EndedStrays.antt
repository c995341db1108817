-- Strays that have ended: they hold no work, and their passes are those that were given.
use Rattle.std.proofs.Common.{◌≡◌, ◌∙◌, ℕ, true, false, List, [], ◌∷◌, map, refl}
use Rattle.std.specs.List.{All, AllZip}
use Rattle.std.proofs.lemmas.List.Elements.{All-nil, All-cons, All-head, All-tail}
use Rattle.turn_lock.specs.Passes.{PassState, TurnState}
use Rattle.shared_hub.specs.HubStates.{hub_seen}
use Rattle.shared_hub.specs.declared.naming.Numbers.{Numbers}
use Rattle.hub_lock.specs.SeenTurns.{SamePass}
use Rattle.env_loop.specs.ActorTurns.{is_over, HoldsNoWork}
use Rattle.env_loop.specs.declared.actor.ActorRun.{ActorRun}
use Rattle.runner.specs.declared.strays.Stray.{Stray}
use Rattle.runner.specs.AtPasses.{IsAtPass}
use Rattle.runner.specs.ActorsAtTheLock.{IsUnstartedStray, HasEndedStray}
use Rattle.env_loop.proofs.UnstartedAndEnded.{ended-actors-hold-none}

module _ {J : Type 0} where
  abbrev HasNone : Stray J → Type 0
  HasNone s = HoldsNoWork s.actor

  none : (n : Numbers) (a : ActorRun J) (p : PassState) → IsAtPass n p a → is_over a ≡ true → HoldsNoWork a
  none n a p at over = ended-actors-hold-none J n (hub_seen n at.stands.history) a at.stands.led at.stands.holds over

  pub hold-none : (n : Numbers) (us vs : List (Stray J)) → AllZip (HasEndedStray n) us vs → All HasNone vs
  hold-none n [] [] x = All-nil HasNone
  hold-none n (u ∷ us) (v ∷ vs) x = All-cons HasNone v vs (none n v.actor v.pass x.0.at x.0.over) (hold-none n us vs x.1)
  hold-none n [] (v ∷ vs) x = absurd x
  hold-none n (u ∷ us) [] x = absurd x

  same-numbers : (n : Numbers) (us vs : List (Stray J)) → AllZip (HasEndedStray n) us vs → map (λ p. p.number) (map (λ s. s.pass) vs) ≡ map (λ s. s.pass.number) us
  same-numbers n [] [] x = refl
  same-numbers n (u ∷ us) (v ∷ vs) x = rw x.0.same.pass.number (rw (same-numbers n us vs x.1) refl)
  same-numbers n [] (v ∷ vs) x = absurd x
  same-numbers n (u ∷ us) [] x = absurd x

  still-free : (n : Numbers) (us vs : List (Stray J)) → AllZip (HasEndedStray n) us vs → All (λ p. p.holds ≡ false) (map (λ s. s.pass) vs)
  still-free n [] [] x = All-nil (λ p. p.holds ≡ false)
  still-free n (u ∷ us) (v ∷ vs) x = All-cons (λ p. p.holds ≡ false) v.pass (map (λ s. s.pass) vs) x.0.same.pass.free (still-free n us vs x.1)
  still-free n [] (v ∷ vs) x = absurd x
  still-free n (u ∷ us) [] x = absurd x

  still-locked : (n : Numbers) (h : TurnState) (us vs : List (Stray J)) → All (IsUnstartedStray n h) us → AllZip (HasEndedStray n) us vs → All
      (λ p. p.lock ≡ h.lock) (map (λ s. s.pass) vs)
  still-locked n h [] [] fresh x = All-nil (λ p. p.lock ≡ h.lock)
  still-locked n h (u ∷ us) (v ∷ vs) fresh x = All-cons (λ p. p.lock ≡ h.lock) v.pass (map (λ s. s.pass) vs)
      (x.0.same.pass.lock ∙ (All-head (IsUnstartedStray n h) u us fresh).lock)
      (still-locked n h us vs (All-tail (IsUnstartedStray n h) u us fresh) x.1)
  still-locked n h [] (v ∷ vs) fresh x = absurd x
  still-locked n h (u ∷ us) [] fresh x = absurd x

  -- the passes of the environment and of three strays
  module _ (n : Numbers) (h : TurnState) (first back : PassState) (us vs : List (Stray J)) (same : SamePass first back) (ended : AllZip (HasEndedStray n) us vs) where
    pub numbers-back : first.number ≡ 0 → map (λ s. s.pass.number) us ≡ 1 ∷ 2 ∷ 3 ∷ [] → map (λ p. p.number) (back ∷ map (λ s. s.pass) vs) ≡ 0 ∷ 1 ∷ 2 ∷ 3 ∷ []
    numbers-back zero numbers = rw same.number (rw zero (rw (same-numbers n us vs ended) (rw numbers refl)))

    pub free-back : All (λ p. p.holds ≡ false) (back ∷ map (λ s. s.pass) vs)
    free-back = All-cons (λ p. p.holds ≡ false) back (map (λ s. s.pass) vs) same.free (still-free n us vs ended)

    pub locked-back : first.lock ≡ h.lock → All (IsUnstartedStray n h) us → All (λ p. p.lock ≡ h.lock) (back ∷ map (λ s. s.pass) vs)
    locked-back of-h fresh = All-cons (λ p. p.lock ≡ h.lock) back (map (λ s. s.pass) vs) (same.lock ∙ of-h) (still-locked n h us vs fresh ended)
