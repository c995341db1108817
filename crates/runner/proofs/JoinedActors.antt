-- Actors that are joined one after another, in the order of their numbers.
use Rattle.std.proofs.Common.{◌≡◌, ◌∙◌, ℕ, ◌+◌, List, [], ◌∷◌, ◌++◌, refl, ap, sym, subst, append_assoc}
use Rattle.std.proofs.lemmas.List.{append-nil}
use Rattle.turn_lock.specs.Passes.{PassState, TurnState}
use Rattle.shared_hub.specs.declared.naming.Numbers.{Numbers}
use Rattle.shared_hub.specs.HubStates.{hub_seen}
use Rattle.env_loop.specs.ActorTurns.{unstarted_run, HoldsNoWork}
use Rattle.env_loop.specs.declared.actor.ActorRun.{ActorRun}
use Rattle.env_loop.proofs.UnstartedAndEnded.{ended-actors-hold-none}
use Rattle.runner.specs.declared.start.Child.{Child}
use Rattle.runner.specs.declared.start.Child.TheVariants as child
use Rattle.runner.specs.declared.strays.Stray.{Stray}
use Rattle.runner.specs.declared.unstarted.HandedBack.TheVariants as back
use Rattle.runner.specs.declared.unstarted.Unstarted.{Unstarted}
use Rattle.runner.specs.HandedBack.{KeepsActor}
use Rattle.runner.specs.StartRoom.{IsGiven, IsEndedAt, IsBack, Fills, AreBack, ComeBehind}
use Rattle.runner.proofs.FilledPlaces.{back-is}

module _ {J : Type 0} where
  -- the pass of a given actor that was run comes back as its own
  pub given-back : (n : Numbers) (h : TurnState) (k : ℕ) (a : ActorRun J) (w : Unstarted) (p : PassState) → IsGiven n h k a w → KeepsActor J n w (back.Ran p) → IsBack n h k a p
  given-back n h k a w p i keeps = subst (λ b. IsBack n h k b p) i.actor
      (subst (λ m. IsBack n h m (unstarted_run {J = J} w.actor) p) i.number (back-is n h w p i.waits keeps))

  -- a stray that has ended holds no work, and its pass comes back as its own
  pub stray-holds-none : (n : Numbers) (h : TurnState) (k : ℕ) (a : ActorRun J) (s : Stray J) → IsEndedAt n h k a s → HoldsNoWork s.actor
  stray-holds-none n h k a s e = ended-actors-hold-none J n (hub_seen n e.at.stands.history) s.actor e.at.stands.led e.at.stands.holds e.over

  pub stray-back : (n : Numbers) (h : TurnState) (k : ℕ) (a : ActorRun J) (s : Stray J) → IsEndedAt n h k a s → IsBack n h k a s.pass
  stray-back n h k a s e = record { pass = e.pass; ended = record { last = s.actor; same = e.same; over = e.over; at = e.at } }

module _ {J N : Type 0} where
  -- a place of an actor that a thread runs
  pub given-runs : (n : Numbers) (h : TurnState) (k : ℕ) (actors : List (ActorRun J)) (r : _) (later : List (Child J N)) (ss : List (Stray J))
      → Fills (IsEndedAt n h) n h k actors (child.Runs r ∷ later) ss → (a : ActorRun J) × IsGiven n h k a r.promise.given.value
  given-runs n h k [] r later ss f = absurd f
  given-runs n h k (a ∷ actors) r later ss f = (a, f.0)

  -- a place that the next stray fills
  pub record NextStray (n : Numbers) (h : TurnState) (k : ℕ) (later : List (Child J N)) (ss : List (Stray J)) : Type 0 where
    pub actor : ActorRun J
    pub stray : Stray J
    pub rest : List (Stray J)
    pub strays : ss ≡ stray ∷ rest
    pub ended : IsEndedAt n h k actor stray

  pub next-stray : (n : Numbers) (h : TurnState) (k : ℕ) (actors : List (ActorRun J)) (later : List (Child J N)) (ss : List (Stray J))
      → Fills (IsEndedAt n h) n h k actors (child.Stray ∷ later) ss → NextStray n h k later ss
  next-stray n h k [] later ss f = absurd f
  next-stray n h k (a ∷ actors) later [] f = absurd f
  next-stray n h k (a ∷ actors) later (s ∷ ss) f = record { actor = a; stray = s; rest = ss; strays = refl; ended = f.0 }

  -- so far these came back: whoever brings those that are left brings all
  pub record Joining (n : Numbers) (h : TurnState) (actors : List (ActorRun J)) (old : List PassState) (cs : List (Child J N)) (ss : List (Stray J)) (now : List PassState) : Type 0 where
    pub next : ℕ
    pub later : List (ActorRun J)
    pub done : List PassState
    pub now_is : now ≡ old ++ done
    pub fills : Fills (IsEndedAt n h) n h next later cs ss
    pub goes : (backs : List PassState) → AreBack n h next later backs → AreBack n h 1 actors (done ++ backs)

  pub joining-none : (n : Numbers) (h : TurnState) (actors : List (ActorRun J)) (old : List PassState) (cs : List (Child J N)) (ss : List (Stray J))
      → Fills (IsEndedAt n h) n h 1 actors cs ss → Joining n h actors old cs ss old
  joining-none n h actors old cs ss f = record { next = 1; later = actors; done = []; now_is = sym (append-nil old); fills = f; goes = λ backs b. b }

  -- what the join of one place gives
  abbrev pub JoinsOne : Numbers → TurnState → Child J N → List (Stray J) → PassState → List (Stray J) → Type 0
  JoinsOne n h c ss p ss' = (k : ℕ) (a : ActorRun J) (actors : List (ActorRun J)) (later : List (Child J N)) → Fills (IsEndedAt n h) n h k (a ∷ actors) (c ∷ later) ss
      → IsBack n h k a p × Fills (IsEndedAt n h) n h (k + 1) actors later ss'

  pub joining-more : (n : Numbers) (h : TurnState) (actors : List (ActorRun J)) (old : List PassState) (c : Child J N) (cs : List (Child J N)) (ss ss' : List (Stray J))
      (now : List PassState) (p : PassState) → Joining n h actors old (c ∷ cs) ss now → JoinsOne n h c ss p ss' → Joining n h actors old cs ss' (now ++ p ∷ [])
  joining-more n h actors old c cs ss ss' now p j one = by j.later j.fills j.goes
    where
      by : (later : List (ActorRun J)) → Fills (IsEndedAt n h) n h j.next later (c ∷ cs) ss
          → ((backs : List PassState) → AreBack n h j.next later backs → AreBack n h 1 actors (j.done ++ backs)) → Joining n h actors old cs ss' (now ++ p ∷ [])
      by [] f goes = absurd f
      by (a ∷ later) f goes =
          let both = one j.next a later cs f in record {
            next = j.next + 1;
            later = later;
            done = j.done ++ p ∷ [];
            now_is = ap (λ xs. xs ++ p ∷ []) j.now_is ∙ append_assoc old j.done (p ∷ []);
            fills = both.1;
            goes = λ backs b. subst (AreBack n h 1 actors) (sym (append_assoc j.done (p ∷ []) backs)) (goes (p ∷ backs) (both.0, b));
          }

  -- in the end all did, and no stray is left
  pub joining-all : (n : Numbers) (h : TurnState) (actors : List (ActorRun J)) (old : List PassState) (ss : List (Stray J)) (now : List PassState)
      → Joining n h actors old [] ss now → ComeBehind n h actors old now
  joining-all n h actors old ss now j = by j.later j.fills j.goes
    where
      by : (later : List (ActorRun J)) → Fills {J = J} {N = N} (IsEndedAt n h) n h j.next later [] ss
          → ((backs : List PassState) → AreBack n h j.next later backs → AreBack n h 1 actors (j.done ++ backs)) → ComeBehind n h actors old now
      by [] f goes = (j.done, j.now_is, subst (AreBack n h 1 actors) (append-nil j.done) (goes [] tt))
      by (a ∷ later) f goes = absurd f

  pub joining-none-left : (n : Numbers) (h : TurnState) (actors : List (ActorRun J)) (old : List PassState) (ss : List (Stray J)) (now : List PassState)
      → Joining n h actors old [] ss now → ss ≡ []
  joining-none-left n h actors old ss now j = by j.later ss j.fills
    where
      by : (later : List (ActorRun J)) (us : List (Stray J)) → Fills {J = J} {N = N} (IsEndedAt n h) n h j.next later [] us → us ≡ []
      by [] [] f = refl
      by [] (u ∷ us) f = absurd f
      by (a ∷ later) us f = absurd f
