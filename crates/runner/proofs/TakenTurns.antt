-- What stands beside a pass as turns of the lock are taken and given back.
use Rattle.std.proofs.Common.{◌≡◌, ◌∙◌, ℕ, true, List, [], ◌∷◌, ◌++◌, refl, ap, sym, subst, append_assoc}
use Rattle.std.specs.List.{All}
use Rattle.std.proofs.lemmas.List.{append-nil}
use Rattle.std.proofs.lemmas.List.Elements.{All-nil, All-cons, All-head, All-tail}
use mathlib.Core.List.{IsPrefix}
use Rattle.napi_types.specs.declared.entry.Actor.{Actor}
use Rattle.napi_types.specs.declared.entry.Entry.{Entry}
use Rattle.napi_types.specs.scripts.Plans.{Plan}
use Rattle.turn_lock.specs.declared.told.Row.{Row}
use Rattle.turn_lock.specs.Passes.{PassState}
use Rattle.turn_lock.specs.Rows.{own_rows, GoesOn}
use Rattle.turn_lock.proofs.Histories.{others_only}
use Rattle.shared_hub.specs.declared.naming.Numbers.{Numbers}
use Rattle.shared_hub.specs.HubRows.{pass_of, row_of, rows_of}
use Rattle.shared_hub.specs.HubStates.{HubSeen, hub_seen}
use Rattle.shared_hub.specs.KeptHubs.{IsLedHub}
use Rattle.shared_hub.proofs.RowsOfHistories.{rows-go-on, histories-go-on}
use Rattle.hub_lock.specs.SeenTurns.{SamePass}
use Rattle.hub_lock.proofs.LookingTurns.{back, shown}
use Rattle.env_loop.specs.ActorTurns.{IsActorOf}
use Rattle.env_loop.specs.RecordedRuns.{Run, FitsHub}
use Rattle.env_loop.specs.Recording.{AddonStates}
use Rattle.env_loop.specs.RunsOverRows.{IsReplayed, OthersCame}
use Rattle.env_loop.specs.declared.actor.ActorRun.{ActorRun}
use Rattle.env_loop.proofs.UnstartedAndEnded.{unstarted-actors-stand}
use Rattle.env_loop.proofs.RunsOverRows.{actor-runs-stand-over, runs-followed-over, fitting-runs-stand-over}
use Rattle.runner.specs.AtPasses.{HoldsAtPass, IsAtPass, IsUnstartedAtPass}
use Rattle.runner.specs.Environments.{HasFollowedOn}
use Rattle.runner.specs.ActorsAtTheLock.{GrewByEntries}

prefix-twice : {A : Type 0} (xs ys zs : List A) → IsPrefix xs ys → IsPrefix ys zs → IsPrefix xs zs
prefix-twice xs ys zs p q = (p.0 ++ q.0, sym (append_assoc xs p.0 q.0) ∙ (ap (λ l. l ++ q.0) p.1 ∙ q.1))

-- TAKING A TURN
-- the history that is taken, or that is there once the lock is closed: the pass has seen a prefix of its rows, and has all its own rows
module _ (n : Numbers) (p : PassState) (history : List Entry) (before : IsPrefix p.seen (rows_of n.threads history)) (own : p.own ≡ own_rows p.number (rows_of n.threads history)) where
  -- behind what the pass stood for came others alone
  pub others-came : (Holds : HubSeen → Type 0) (at : HoldsAtPass n p Holds) → OthersCame n.threads p.number at.history history
  others-came Holds at =
      let seen = rows_of n.threads at.history in
      let rows = rows_of n.threads history in
      let came = others_only p.number rows seen p.own at.own (prefix-twice seen p.seen rows at.seen before) own in
      let more = histories-go-on n.threads at.history history came.0 came.1 in
      record { rest = more.0; goes_on = more.1; others = rw more.2 came.2 }

  -- so an actor is one of the hub's still
  pub actor-at-take : {J : Type 0} → (a : ActorRun J) (s : HubSeen) → s.history ≡ history → IsReplayed n s → IsAtPass n p a → IsActorOf n s a
  actor-at-take a s is led at =
      let came = others-came (λ h. IsActorOf n h a) at.stands in
      actor-runs-stand-over _ n (hub_seen n at.stands.history) s a at.stands.led led at.stands.holds
      (subst (λ m. OthersCame n.threads m at.stands.history s.history) at.number (subst (λ h. OthersCame n.threads p.number at.stands.history h) (sym is) came))

  -- and the environment's run fits with it, ..
  pub run-fits-at-take : (run : Run) (s : HubSeen) → s.history ≡ history → IsReplayed n s → p.number ≡ 0 → HoldsAtPass n p (FitsHub run) → FitsHub run s
  run-fits-at-take run s is led number at =
      fitting-runs-stand-over n run (hub_seen n at.history) s at.led led at.holds
      (subst (λ m. OthersCame n.threads m at.history s.history) number (subst (λ h. OthersCame n.threads p.number at.history h) (sym is) (others-came (FitsHub run) at)))

  -- .. and is followed over it
  pub run-at-take : (plans : List Plan) (first : Run) (start : AddonStates) (run : Run) (now : AddonStates) (s : HubSeen) → s.history ≡ history → IsReplayed n s → p.number ≡ 0
      → HoldsAtPass n p (HasFollowedOn n plans first start run now) → HasFollowedOn n plans first start run now s
  run-at-take plans first start run now s is led number at =
      let Holds = HasFollowedOn n plans first start run now in
      let came : OthersCame n.threads 0 at.history s.history =
      subst (λ m. OthersCame n.threads m at.history s.history) number (subst (λ h. OthersCame n.threads p.number at.history h) (sym is) (others-came Holds at)) in
      record {
        fits = fitting-runs-stand-over n run (hub_seen n at.history) s at.led led at.holds.fits came;
        goes = λ t firsts numbers of followed. runs-followed-over t run n.threads at.history s.history now firsts (at.holds.goes t firsts numbers of followed) came;
      }

-- GIVING IT BACK
-- the entries of a burst are the actor's
entry-rows : (number threads : ℕ) (who : Actor) → pass_of threads who ≡ number → (xs : List Entry) → All (λ (x : Entry). x.actor ≡ who) xs
    → All (λ (r : Row). r.pass ≡ number) (rows_of threads xs)
entry-rows number threads who is [] own = All-nil (λ (r : Row). r.pass ≡ number)
entry-rows number threads who is (x ∷ xs) own =
    All-cons (λ (r : Row). r.pass ≡ number) (row_of threads x) (rows_of threads xs) (ap (pass_of threads) (All-head (λ (y : Entry). y.actor ≡ who) x xs own) ∙ is)
    (entry-rows number threads who is xs (All-tail (λ (y : Entry). y.actor ≡ who) x xs own))

pub grew-on : (number threads : ℕ) (who : Actor) (s0 s1 : HubSeen) → pass_of threads who ≡ number → GrewByEntries who s0 s1
    → GoesOn number (rows_of threads s0.history) (rows_of threads s1.history)
grew-on number threads who s0 s1 is grew = (
  rows_of threads grew.1.entries,
  ap (rows_of threads) grew.1.history ∙ rows-go-on threads s0.history grew.1.entries,
  entry-rows number threads who is grew.1.entries grew.1.by,
)

-- it is the same pass that comes back
pub same-pass-back : (old new h : PassState) (taken rows : List Row) → h ≡ record old { holds = true } → new ≡ back h taken rows → SamePass old new
same-pass-back old new h taken rows is e = record {
  lock = ap (λ (q : PassState). q.lock) e ∙ ap (λ (q : PassState). q.lock) is;
  number = ap (λ (q : PassState). q.number) e ∙ ap (λ (q : PassState). q.number) is;
  free = ap (λ (q : PassState). q.holds) e;
}

-- what holds of the hub's state as it is given back stands beside the pass
pub stands-after : (n : Numbers) (new : PassState) (s1 : HubSeen) (Holds : HubSeen → Type 0) → IsLedHub n s1 → new.seen ≡ rows_of n.threads s1.history
    → new.own ≡ own_rows new.number (rows_of n.threads s1.history) → Holds s1 → HoldsAtPass n new Holds
stands-after n new s1 Holds k seen own holds = record {
  history = s1.history;
  led = subst (λ s. IsReplayed n s) (sym (shown n s1 k)) k.led;
  seen = ([], prefix-nil (rows_of n.threads s1.history) new.seen seen);
  own = own;
  holds = subst Holds (sym (shown n s1 k)) holds;
}
  where
    prefix-nil : (xs ys : List Row) → ys ≡ xs → xs ++ [] ≡ ys
    prefix-nil xs ys is = append-nil xs ∙ sym is

-- BEFORE THE FIRST TURN
-- what a pass without rows of its own stands for
pub stands-at-first : (n : Numbers) (p : PassState) (Holds : HubSeen → Type 0) → p.own ≡ [] → Holds (hub_seen n []) → HoldsAtPass n p Holds
stands-at-first n p Holds own holds = record { history = []; led = record { replays = tt; hub = refl }; seen = (p.seen, refl); own = own; holds = holds }

pub unstarted-is-at : {J : Type 0} → (n : Numbers) (p : PassState) (a : ActorRun J) → IsUnstartedAtPass n p a → IsAtPass n p a
unstarted-is-at n p a f = record { number = f.number; stands = stands-at-first n p (λ s. IsActorOf n s a) f.own (unstarted-actors-stand _ n a f.there f.fresh) }
