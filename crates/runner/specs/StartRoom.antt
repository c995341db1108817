-- The places of all actors: what became of their starts, and the passes that come back.
use Rattle.std.specs.Prelude.{◌≡◌, ℕ, ◌+◌, true, false, List, [], ◌∷◌, ◌++◌}
use Rattle.turn_lock.specs.Passes.{PassState, TurnState}
use Rattle.shared_hub.specs.declared.naming.Numbers.{Numbers}
use Rattle.env_loop.specs.ActorTurns.{is_over, unstarted_run, IsSameActor}
use Rattle.env_loop.specs.declared.actor.ActorRun.{ActorRun}
use Rattle.runner.specs.declared.start.Child.{Child}
use Rattle.runner.specs.declared.start.Child.TheVariants as child
use Rattle.runner.specs.declared.strays.Stray.{Stray}
use Rattle.runner.specs.declared.unstarted.Unstarted.{Unstarted}
use Rattle.runner.specs.AtPasses.{IsAtPass, HasEndedAt}
use Rattle.runner.specs.HandedBack.{IsUnstartedAt}
use Rattle.runner.specs.ActorsAtTheLock.{IsUnstartedStray}

-- the pass of a number of this lock, which does not hold
pub record IsNumberedPass (h : TurnState) (k : ℕ) (p : PassState) : Type 0 where
  pub lock : p.lock ≡ h.lock
  pub number : p.number ≡ k
  pub free : p.holds ≡ false

-- actors before their first turns. Their passes are numbered from a number on
abbrev pub AreUnstarted : Type 0 → Numbers → TurnState → ℕ → List Unstarted → Type 0
AreUnstarted J n h k [] = Unit {0}
AreUnstarted J n h k (w ∷ ws) = (w.pass.number ≡ k) × IsUnstartedAt J n h w × AreUnstarted J n h (k + 1) ws

module _ {J : Type 0} where
  -- this actor waits with the pass of this number
  pub record IsGiven (n : Numbers) (h : TurnState) (k : ℕ) (a : ActorRun J) (w : Unstarted) : Type 0 where
    pub actor : unstarted_run w.actor ≡ a
    pub number : w.pass.number ≡ k
    pub waits : IsUnstartedAt J n h w

  -- this actor has ended, and the pass of this number is its own
  pub record IsBack (n : Numbers) (h : TurnState) (k : ℕ) (a : ActorRun J) (p : PassState) : Type 0 where
    pub pass : IsNumberedPass h k p
    pub ended : HasEndedAt n p a

  -- the stray is this actor, before its first turn ..
  pub record IsUnstartedStrayAt (n : Numbers) (h : TurnState) (k : ℕ) (a : ActorRun J) (s : Stray J) : Type 0 where
    pub actor : s.actor ≡ a
    pub number : s.pass.number ≡ k
    pub fresh : IsUnstartedStray n h s

  -- .. or after its last one
  pub record IsEndedAt (n : Numbers) (h : TurnState) (k : ℕ) (a : ActorRun J) (s : Stray J) : Type 0 where
    pub pass : IsNumberedPass h k s.pass
    pub same : IsSameActor a s.actor
    pub over : is_over s.actor ≡ true
    pub at : IsAtPass n s.pass s.actor

  -- the passes that came back, one for each actor, from a number on
  abbrev pub AreBack : Numbers → TurnState → ℕ → List (ActorRun J) → List PassState → Type 0
  AreBack n h k [] [] = Unit {0}
  AreBack n h k (a ∷ later) (p ∷ ps) = IsBack n h k a p × AreBack n h (k + 1) later ps
  AreBack n h k _ _ = ⊥

  -- behind these passes come those that came back, one for each actor
  abbrev pub ComeBehind : Numbers → TurnState → List (ActorRun J) → List PassState → List PassState → Type 0
  ComeBehind n h actors old new = (backs : List PassState) × (new ≡ old ++ backs) × AreBack n h 1 actors backs

  -- all passes: the environment's, which does not hold, and theirs
  abbrev pub AreAllBack : Numbers → TurnState → List (ActorRun J) → List PassState → Type 0
  AreAllBack n h actors [] = ⊥
  AreAllBack n h actors (p ∷ ps) = IsNumberedPass h 0 p × AreBack n h 1 actors ps

module _ {J N : Type 0} where
  -- what became of the start of each actor, from a number on. Strays stand in the same order, and this holds of them
  abbrev pub Fills : (ℕ → ActorRun J → Stray J → Type 0) → Numbers → TurnState → ℕ → List (ActorRun J) → List (Child J N) → List (Stray J) → Type 0
  Fills Holds n h k [] [] [] = Unit {0}
  Fills Holds n h k (a ∷ later) (child.Runs c ∷ cs) ss = IsGiven n h k a c.promise.given.value × Fills Holds n h (k + 1) later cs ss
  Fills Holds n h k (a ∷ later) (child.Done p ∷ cs) ss = IsBack n h k a p × Fills Holds n h (k + 1) later cs ss
  Fills Holds n h k (a ∷ later) (child.Stray ∷ cs) (s ∷ ss) = Holds k a s × Fills Holds n h (k + 1) later cs ss
  Fills Holds n h k _ _ _ = ⊥

  -- one place more, of the actor that waits so, and one stray more where it has no thread
  pub record AddsPlace (n : Numbers) (h : TurnState) (w : Unstarted) (cs : List (Child J N)) (ss : List (Stray J)) (cs' : List (Child J N)) (ss' : List (Stray J)) : Type 0 where
    pub child : Child J N
    pub more : List (Stray J)
    pub children : cs' ≡ cs ++ child ∷ []
    pub strays : ss' ≡ ss ++ more
    pub fills : Fills (IsUnstartedStrayAt n h) n h w.pass.number (unstarted_run w.actor ∷ []) (child ∷ []) more
