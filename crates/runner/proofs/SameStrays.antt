-- Actors and strays stay the same from turn to turn.
use Rattle.std.proofs.Common.{◌≡◌, ◌∙◌, false, List, [], ◌∷◌, refl}
use Rattle.std.specs.List.{All, AllZip}
use Rattle.std.proofs.lemmas.List.Elements.{All-head, All-tail, All-weaker}
use Rattle.turn_lock.specs.Passes.{PassState, TurnState}
use Rattle.shared_hub.specs.declared.naming.Numbers.{Numbers}
use Rattle.hub_lock.specs.SeenTurns.{SamePass}
use Rattle.env_loop.proofs.SameActors.{same-actor-none, same-actor-then}
use Rattle.runner.specs.declared.strays.Stray.{Stray}
use Rattle.runner.specs.ActorsAtTheLock.{IsStray, IsUnstartedStray, IsSameStray, HasEndedStray}
use Rattle.runner.proofs.TakenTurns.{unstarted-is-at}

-- PASSES
pub same-pass-none : (p : PassState) → p.holds ≡ false → SamePass p p
same-pass-none p free = record { lock = refl; number = refl; free = free }

pub same-pass-then : (a b c : PassState) → SamePass a b → SamePass b c → SamePass a c
same-pass-then a b c x y = record { lock = y.lock ∙ x.lock; number = y.number ∙ x.number; free = y.free }

module _ {J : Type 0} where
  -- STRAYS
  pub same-stray-none : (s : Stray J) → s.pass.holds ≡ false → IsSameStray s s
  same-stray-none s free = record { actor = same-actor-none s.actor; pass = same-pass-none s.pass free }

  pub same-stray-then : (a b c : Stray J) → IsSameStray a b → IsSameStray b c → IsSameStray a c
  same-stray-then a b c x y = record { actor = same-actor-then a.actor b.actor c.actor x.actor y.actor; pass = same-pass-then a.pass b.pass c.pass x.pass y.pass }

  pub same-strays-none : (n : Numbers) (h : TurnState) (ss : List (Stray J)) → All (IsStray n h) ss → AllZip IsSameStray ss ss
  same-strays-none n h [] all = tt
  same-strays-none n h (s ∷ ss) all = (same-stray-none s (All-head (IsStray n h) s ss all).free, same-strays-none n h ss (All-tail (IsStray n h) s ss all))

  pub same-strays-then : (us vs ws : List (Stray J)) → AllZip IsSameStray us vs → AllZip IsSameStray vs ws → AllZip IsSameStray us ws
  same-strays-then [] [] [] x y = tt
  same-strays-then (a ∷ us) (b ∷ vs) (c ∷ ws) x y = (same-stray-then a b c x.0 y.0, same-strays-then us vs ws x.1 y.1)
  same-strays-then [] [] (c ∷ ws) x y = absurd y
  same-strays-then [] (b ∷ vs) ws x y = absurd x
  same-strays-then (a ∷ us) [] ws x y = absurd x
  same-strays-then (a ∷ us) (b ∷ vs) [] x y = absurd y

  -- those that are the same and have ended then
  pub ended-stray-then : (n : Numbers) (a b c : Stray J) → IsSameStray a b → HasEndedStray n b c → HasEndedStray n a c
  ended-stray-then n a b c x y = record { same = same-stray-then a b c x y.same; over = y.over; at = y.at }

  pub ended-strays-then : (n : Numbers) (us vs ws : List (Stray J)) → AllZip IsSameStray us vs → AllZip (HasEndedStray n) vs ws → AllZip (HasEndedStray n) us ws
  ended-strays-then n [] [] [] x y = tt
  ended-strays-then n (a ∷ us) (b ∷ vs) (c ∷ ws) x y = (ended-stray-then n a b c x.0 y.0, ended-strays-then n us vs ws x.1 y.1)
  ended-strays-then n [] [] (c ∷ ws) x y = absurd y
  ended-strays-then n [] (b ∷ vs) ws x y = absurd x
  ended-strays-then n (a ∷ us) [] ws x y = absurd x
  ended-strays-then n (a ∷ us) (b ∷ vs) [] x y = absurd y

  -- BEFORE THEIR FIRST TURNS
  unstarted-stray-is : (n : Numbers) (h : TurnState) (s : Stray J) → IsUnstartedStray n h s → IsStray n h s
  unstarted-stray-is n h s f = record { lock = f.lock; free = f.free; at = unstarted-is-at n s.pass s.actor f.at }

  pub unstarted-strays-are : (n : Numbers) (h : TurnState) (ss : List (Stray J)) → All (IsUnstartedStray n h) ss → All (IsStray n h) ss
  unstarted-strays-are n h ss all = All-weaker (IsUnstartedStray n h) (IsStray n h) (unstarted-stray-is n h) ss all
