-- Places of actors, from the start of each to the pass that comes back.
use Rattle.std.proofs.Common.{◌≡◌, ◌∙◌, ℕ, ◌+◌, List, [], ◌∷◌, ◌++◌, refl, ap, sym, subst, append_assoc}
use Rattle.std.specs.List.{All, AllZip}
use Rattle.std.proofs.lemmas.List.{append-nil}
use Rattle.std.proofs.lemmas.List.Elements.{All-nil, All-cons}
use Rattle.turn_lock.specs.Passes.{PassState, TurnState}
use Rattle.shared_hub.specs.declared.naming.Numbers.{Numbers}
use Rattle.env_loop.specs.ActorTurns.{unstarted_run, IsSameActor}
use Rattle.env_loop.specs.declared.actor.ActorRun.{ActorRun}
use Rattle.runner.specs.declared.start.Child.{Child}
use Rattle.runner.specs.declared.start.Child.TheVariants as child
use Rattle.runner.specs.declared.strays.Stray.{Stray}
use Rattle.runner.specs.declared.unstarted.HandedBack.TheVariants as back
use Rattle.runner.specs.declared.unstarted.Unstarted.{Unstarted}
use Rattle.runner.specs.HandedBack.{IsUnstartedAt, KeepsActor}
use Rattle.runner.specs.Crews.{runs_of}
use Rattle.runner.specs.StartRoom.{IsGiven, IsBack, IsUnstartedStrayAt, IsEndedAt, Fills, AddsPlace}
use Rattle.runner.specs.ActorsAtTheLock.{IsUnstartedStray, HasEndedStray}

module _ {J : Type 0} where
  -- who waits is given as it is
  pub given-is : (n : Numbers) (h : TurnState) (w v : Unstarted) → v ≡ w → IsUnstartedAt J n h w → IsGiven n h w.pass.number (unstarted_run {J = J} w.actor) v
  given-is n h w v e waits = subst (IsGiven n h w.pass.number (unstarted_run w.actor)) (sym e) (record { actor = refl; number = refl; waits = waits })

  -- the pass of one that was run comes back
  pub back-is : (n : Numbers) (h : TurnState) (w : Unstarted) (p : PassState) → IsUnstartedAt J n h w → KeepsActor J n w (back.Ran p)
      → IsBack n h w.pass.number (unstarted_run {J = J} w.actor) p
  back-is n h w p waits keeps = record {
    pass = record { lock = keeps.0.lock ∙ waits.lock; number = keeps.0.number; free = keeps.0.free };
    ended = keeps.1;
  }

  -- a stray that has ended since
  pub ended-at : (n : Numbers) (h : TurnState) (k : ℕ) (a : ActorRun J) (s t : Stray J) → IsUnstartedStrayAt n h k a s → HasEndedStray n s t
      → IsEndedAt n h k a t
  ended-at n h k a s t f e = record {
    pass = record { lock = e.same.pass.lock ∙ f.fresh.lock; number = e.same.pass.number ∙ f.number; free = e.same.pass.free };
    same = subst (λ b. IsSameActor b t.actor) f.actor e.same.actor;
    over = e.over;
    at = e.at;
  }

module _ {J N : Type 0} where
  -- one place, and those behind it
  pub fills-one : (Holds : ℕ → ActorRun J → Stray J → Type 0) (n : Numbers) (h : TurnState) (k : ℕ) (a : ActorRun J) (c : Child J N) (more : List (Stray J))
      (later : List (ActorRun J)) (cs : List (Child J N)) (ss : List (Stray J)) → Fills Holds n h k (a ∷ []) (c ∷ []) more → Fills Holds n h (k + 1) later cs ss
      → Fills Holds n h k (a ∷ later) (c ∷ cs) (more ++ ss)
  fills-one Holds n h k a (child.Runs c) [] later cs ss f g = (f.0, g)
  fills-one Holds n h k a (child.Runs c) (s ∷ more) later cs ss f g = absurd f.1
  fills-one Holds n h k a (child.Done p) [] later cs ss f g = (f.0, g)
  fills-one Holds n h k a (child.Done p) (s ∷ more) later cs ss f g = absurd f.1
  fills-one Holds n h k a child.Stray [] later cs ss f g = absurd f
  fills-one Holds n h k a child.Stray (s ∷ []) later cs ss f g = (f.0, g)
  fills-one Holds n h k a child.Stray (s ∷ t ∷ more) later cs ss f g = absurd f.1

  -- whoever fills the places behind these fills all of them
  pub record FillsBehind (n : Numbers) (h : TurnState) (k : ℕ) (left : List Unstarted) (crew : List Unstarted) (cs : List (Child J N)) (ss : List (Stray J)) : Type 0 where
    pub fills : (cs' : List (Child J N)) (ss' : List (Stray J)) → Fills (IsUnstartedStrayAt n h) n h k (runs_of J left) cs' ss'
        → Fills (IsUnstartedStrayAt n h) n h 1 (runs_of J crew) (cs ++ cs') (ss ++ ss')

  -- at first there is none, ..
  pub behind-none : (n : Numbers) (h : TurnState) (crew : List Unstarted) → FillsBehind n h 1 crew crew [] []
  behind-none n h crew = record { fills = λ cs' ss' f. f }

  -- .. with each start there is one more, ..
  pub behind-more : (n : Numbers) (h : TurnState) (w : Unstarted) (left crew : List Unstarted) (cs : List (Child J N)) (ss : List (Stray J)) (cs' : List (Child J N))
      (ss' : List (Stray J)) → FillsBehind n h w.pass.number (w ∷ left) crew cs ss → AddsPlace n h w cs ss cs' ss'
      → FillsBehind n h (w.pass.number + 1) left crew cs' ss'
  behind-more n h w left crew cs ss cs' ss' b a = record {
    fills = λ ds us f. subst2 (ap (λ xs. xs ++ ds) (sym a.children)) (ap (λ xs. xs ++ us) (sym a.strays))
        (subst2 (sym (append_assoc cs (a.child ∷ []) ds)) (sym (append_assoc ss a.more us))
        (b.fills (a.child ∷ ds) (a.more ++ us)
        (fills-one (IsUnstartedStrayAt n h) n h w.pass.number (unstarted_run w.actor) a.child a.more (runs_of J left) ds us a.fills f)));
  }
    where
      subst2 : {xs ys : List (Child J N)} {us vs : List (Stray J)} → xs ≡ ys → us ≡ vs → Fills (IsUnstartedStrayAt n h) n h 1 (runs_of J crew) xs us
          → Fills (IsUnstartedStrayAt n h) n h 1 (runs_of J crew) ys vs
      subst2 {ys = ys} {us = us} p q f = subst (Fills (IsUnstartedStrayAt n h) n h 1 (runs_of J crew) ys) q
          (subst (λ zs. Fills (IsUnstartedStrayAt n h) n h 1 (runs_of J crew) zs us) p f)

  -- .. and in the end all are filled
  pub behind-all : (n : Numbers) (h : TurnState) (k : ℕ) (crew : List Unstarted) (cs : List (Child J N)) (ss : List (Stray J)) → FillsBehind n h k [] crew cs ss
      → Fills (IsUnstartedStrayAt n h) n h 1 (runs_of J crew) cs ss
  behind-all n h k crew cs ss b = subst (Fills (IsUnstartedStrayAt n h) n h 1 (runs_of J crew) cs) (append-nil ss)
      (subst (λ zs. Fills (IsUnstartedStrayAt n h) n h 1 (runs_of J crew) zs (ss ++ [])) (append-nil cs) (b.fills [] [] tt))

  -- strays are as they were made, before their first turns ..
  pub unstarted-strays : (n : Numbers) (h : TurnState) (k : ℕ) (actors : List (ActorRun J)) (cs : List (Child J N)) (ss : List (Stray J))
      → Fills (IsUnstartedStrayAt n h) n h k actors cs ss → All (IsUnstartedStray n h) ss
  unstarted-strays n h k [] [] [] f = All-nil _
  unstarted-strays n h k [] [] (s ∷ ss) f = absurd f
  unstarted-strays n h k [] (c ∷ cs) ss f = absurd f
  unstarted-strays n h k (a ∷ actors) [] ss f = absurd f
  unstarted-strays n h k (a ∷ actors) (child.Runs c ∷ cs) ss f = unstarted-strays n h (k + 1) actors cs ss f.1
  unstarted-strays n h k (a ∷ actors) (child.Done p ∷ cs) ss f = unstarted-strays n h (k + 1) actors cs ss f.1
  unstarted-strays n h k (a ∷ actors) (child.Stray ∷ cs) [] f = absurd f
  unstarted-strays n h k (a ∷ actors) (child.Stray ∷ cs) (s ∷ ss) f = All-cons (IsUnstartedStray n h) s ss f.0.fresh
      (unstarted-strays n h (k + 1) actors cs ss f.1)

  -- .. and once they have ended they fill the same places
  pub ended-places : (n : Numbers) (h : TurnState) (k : ℕ) (actors : List (ActorRun J)) (cs : List (Child J N)) (ss ts : List (Stray J))
      → Fills (IsUnstartedStrayAt n h) n h k actors cs ss → AllZip (HasEndedStray n) ss ts → Fills (IsEndedAt n h) n h k actors cs ts
  ended-places n h k [] [] [] [] f z = tt
  ended-places n h k [] [] [] (t ∷ ts) f z = absurd z
  ended-places n h k [] [] (s ∷ ss) ts f z = absurd f
  ended-places n h k [] (c ∷ cs) ss ts f z = absurd f
  ended-places n h k (a ∷ actors) [] ss ts f z = absurd f
  ended-places n h k (a ∷ actors) (child.Runs c ∷ cs) ss ts f z = (f.0, ended-places n h (k + 1) actors cs ss ts f.1 z)
  ended-places n h k (a ∷ actors) (child.Done p ∷ cs) ss ts f z = (f.0, ended-places n h (k + 1) actors cs ss ts f.1 z)
  ended-places n h k (a ∷ actors) (child.Stray ∷ cs) [] ts f z = absurd f
  ended-places n h k (a ∷ actors) (child.Stray ∷ cs) (s ∷ ss) [] f z = absurd z
  ended-places n h k (a ∷ actors) (child.Stray ∷ cs) (s ∷ ss) (t ∷ ts) f z = (ended-at n h k a s t f.0 z.0, ended-places n h (k + 1) actors cs ss ts f.1 z.1)
