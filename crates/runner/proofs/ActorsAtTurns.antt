-- Turns of actors at the lock.
use Rattle.std.proofs.Common.{◌≡◌, ◌∙◌, ◌+◌, ℕ, true, refl, ap, sym, subst}
use Rattle.napi_types.specs.declared.entry.Actor.TheVariants as actor
use Rattle.turn_lock.specs.Passes.{PassState}
use Rattle.turn_lock.specs.Rows.{own_rows, GoesOn}
use Rattle.shared_hub.specs.declared.naming.Numbers.{Numbers}
use Rattle.shared_hub.specs.HubRows.{pass_of, rows_of}
use Rattle.shared_hub.specs.HubStates.{HubSeen}
use Rattle.shared_hub.specs.KeptHubs.{IsLedHub}
use Rattle.env_loop.specs.ActorTurns.{actor_of, is_over, IsActorOf, IsSameActor}
use Rattle.env_loop.specs.Bursts.{AddsEntriesOf}
use Rattle.env_loop.specs.declared.actor.ActorRun.{ActorRun}
use Rattle.env_loop.specs.declared.actor.ActorRun.TheVariants as run
use Rattle.env_loop.specs.declared.actor.ActorTurn.{ActorTurn}
use Rattle.env_loop.specs.declared.actor.ActorTurn.TheVariants as turn
use Rattle.env_loop.proofs.Bursts.{no-entries, one-entry, entries-then}
use Rattle.env_loop.proofs.UnstartedAndEnded.{ended-actors-hold-none}
use Rattle.env_loop.proofs.SameActors.{same-actor-then}
use Rattle.runner.specs.AtPasses.{IsAtPass}
use Rattle.runner.specs.ActorsAtTheLock.{GrewByEntries, AfterTurn, AfterBurst}
use Rattle.runner.proofs.TakenTurns.{grew-on, stands-after}

module _ {J : Type 0} where
  after-turn-grew : (n : Numbers) (old new : ActorRun J) (s0 s1 : HubSeen) (t : ActorTurn) → AfterTurn n old s0 t new s1 → GrewByEntries (actor_of old) s0 s1
  after-turn-grew n old new s0 s1 turn.Made a = (1, one-entry (actor_of old) s0 s1 a)
  after-turn-grew n old new s0 s1 turn.Blocked a = (0, subst (λ s. AddsEntriesOf (actor_of old) 0 s0 s) (sym a.0) (no-entries (actor_of old) s0))
  after-turn-grew n old new s0 s1 turn.Ended a = (0, subst (λ s. AddsEntriesOf (actor_of old) 0 s0 s) (sym a.0) (no-entries (actor_of old) s0))

  pub same-actor-of : (old new : ActorRun J) → IsSameActor old new → actor_of new ≡ actor_of old
  same-actor-of (run.OfThread s) (run.OfThread t) same = ap (λ k. actor.Thread k) same.number
  same-actor-of (run.OfWorker s) (run.OfWorker t) same = ap (λ k. actor.Worker k) same
  same-actor-of (run.OfThread s) (run.OfWorker t) same = absurd same
  same-actor-of (run.OfWorker s) (run.OfThread t) same = absurd same

  -- the actor stands beside its pass as it comes back
  pub actor-after : (n : Numbers) (pass back : PassState) (old new : ActorRun J) (s1 : HubSeen) → IsAtPass n pass old → IsSameActor old new → back.number ≡ pass.number → IsLedHub n s1
      → back.seen ≡ rows_of n.threads s1.history → back.own ≡ own_rows back.number (rows_of n.threads s1.history) → IsActorOf n s1 new → IsAtPass n back new
  actor-after n pass back old new s1 at same number known seen own stands = record {
    number = number ∙ at.number ∙ ap (pass_of n.threads) (sym (same-actor-of old new same));
    stands = stands-after n back s1 (λ s. IsActorOf n s new) known seen own stands;
  }

  -- where it says that the actor has ended, it has, and holds no work
  ended-over : (n : Numbers) (old new : ActorRun J) (s0 s1 : HubSeen) (t : ActorTurn) → AfterTurn n old s0 t new s1 → t ≡ turn.Ended → is_over new ≡ true
  ended-over n old new s0 s1 turn.Made a is = absurd (cc is)
  ended-over n old new s0 s1 turn.Blocked a is = absurd (cc is)
  ended-over n old new s0 s1 turn.Ended a is = ap is_over a.1 ∙ a.2

  -- A BURST
  -- one turn
  pub burst-of-one : (n : Numbers) (old new : ActorRun J) (s0 s1 : HubSeen) (t : ActorTurn) → AfterTurn n old s0 t new s1 → IsActorOf n s1 new → IsSameActor old new → IsLedHub n s1
      → AfterBurst n old s0 t new s1
  burst-of-one n old new s0 s1 t a stands same known = record {
    grew = after-turn-grew n old new s0 s1 t a;
    stands = stands;
    same = same;
    known = known;
    over = ended-over n old new s0 s1 t a;
    idle = λ is. ended-actors-hold-none J n s1 new known.led stands (ended-over n old new s0 s1 t a is);
  }

  -- and one more
  pub burst-then : (n : Numbers) (old mid new : ActorRun J) (s0 s1 s2 : HubSeen) (t u : ActorTurn) → AfterBurst n old s0 t mid s1 → AfterBurst n mid s1 u new s2 → AfterBurst n old s0 u new s2
  burst-then n old mid new s0 s1 s2 t u first more =
      let who = same-actor-of old mid first.same in
      record {
        grew = (
          first.grew.0 + more.grew.0,
          entries-then (actor_of old) first.grew.0 more.grew.0 (first.grew.0 + more.grew.0) s0 s1 s2 refl first.grew.1 (subst (λ w. AddsEntriesOf w more.grew.0 s1 s2) who more.grew.1),
        );
        stands = more.stands;
        same = same-actor-then old mid new first.same more.same;
        known = more.known;
        over = more.over;
        idle = more.idle;
      }

  -- the rows that a burst added are of the actor's pass
  pub burst-goes-on : (n : Numbers) (number : ℕ) (old new : ActorRun J) (s0 s1 : HubSeen) (t : ActorTurn) → AfterBurst n old s0 t new s1 → number ≡ pass_of n.threads (actor_of old)
      → GoesOn number (rows_of n.threads s0.history) (rows_of n.threads s1.history)
  burst-goes-on n number old new s0 s1 t burst is = grew-on number n.threads (actor_of old) s0 s1 (sym is) burst.grew
