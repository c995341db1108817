-- What stood beside the passes stands over the whole history, once the lock is closed.
use Rattle.std.proofs.Common.{◌≡◌, ℕ, zero, suc, List, [], ◌∷◌, map, refl, sym, subst}
use Rattle.std.specs.List.{All, range_with_len}
use Rattle.std.proofs.lemmas.List.Elements.{All-nil, All-cons, All-head, All-tail}
use mathlib.Core.List.{IsPrefix}
use Rattle.napi_types.specs.declared.entry.Phase.TheVariants as phase
use Rattle.napi_types.specs.declared.lists.Record.{Record}
use Rattle.napi_types.specs.scripts.Plans.{Plan}
use Rattle.turn_lock.specs.declared.told.Row.{Row}
use Rattle.turn_lock.specs.Passes.{PassState}
use Rattle.turn_lock.specs.Rows.{own_rows}
use Rattle.shared_hub.specs.declared.naming.Numbers.{Numbers}
use Rattle.shared_hub.specs.HubRows.{rows_of}
use Rattle.shared_hub.specs.HubStates.{HubSeen, hub_seen}
use Rattle.shared_hub.specs.KeptHubs.{IsLedHub}
use Rattle.hub_lock.proofs.LookingTurns.{shown}
use Rattle.env_loop.specs.ActorTurns.{IsActorOf}
use Rattle.env_loop.specs.OpenedAndGone.{EndsWhole}
use Rattle.env_loop.specs.RecordedRuns.{Run}
use Rattle.env_loop.specs.Recording.{AddonStates, IsEnded}
use Rattle.env_loop.specs.RunsOverRows.{IsReplayed}
use Rattle.env_loop.specs.declared.actor.ActorRun.{ActorRun}
use Rattle.env_loop.proofs.HubGoing.{replays-in, gone-ended}
use Rattle.runner.specs.AtPasses.{IsAtPass}
use Rattle.runner.specs.Environments.{HasFollowedOn, HasFollowedOnAtPass, OfFirst}
use Rattle.runner.proofs.TakenTurns.{actor-at-take, run-at-take}

-- the history that is left has led to the hub
pub led-whole : (n : Numbers) (s : HubSeen) (left : Record) → IsLedHub n s → left.history ≡ s.history → IsReplayed n (hub_seen n left.history)
led-whole n s left k is = subst (λ xs. IsReplayed n (hub_seen n xs)) (sym is) (subst (IsReplayed n) (sym (shown n s k)) k.led)

-- the first of all passes has the number 0
first-number : (number count : ℕ) (numbers : List ℕ) → number ∷ numbers ≡ range_with_len 0 count → number ≡ 0
first-number number zero numbers is = cc
first-number number (suc count) numbers is = cc

-- THE ENVIRONMENT
module _ (n : Numbers) (s : HubSeen) (k : IsLedHub n s) (left : Record) (run : Run) (history : left.history ≡ s.history) (journal : left.journal ≡ run.core.journal)
    (gone : run.core.env.phase ≡ phase.Gone) where
  ends : (plans : List Plan) (first : Run) (before after : AddonStates) → HasFollowedOn n plans first before run after s
      → EndsWhole n plans first before left after
  ends plans first before after has = λ t firsts numbers of followed.
      subst (λ xs. IsEnded t xs left.history after firsts) (sym journal)
      (subst (λ xs. IsEnded t run.core.journal xs after firsts) (sym history)
      (gone-ended t run s.history after firsts (replays-in n t s k numbers) (has.goes t firsts numbers of followed) gone))

  pub ended-whole : (count : ℕ) (ps : List PassState) → map (λ p. p.number) ps ≡ range_with_len 0 count → All (λ p. IsPrefix p.seen (rows_of n.threads s.history)) ps
      → All (λ p. p.own ≡ own_rows p.number (rows_of n.threads s.history)) ps → (plans : List Plan) (first : Run) (before after : AddonStates)
      → OfFirst ps (λ p. HasFollowedOnAtPass n plans first before p run after) → EndsWhole n plans first before left after
  ended-whole count [] every seen own plans first before after at = absurd at
  ended-whole count (p ∷ ps) every seen own plans first before after at =
      ends plans first before after
      (run-at-take n p s.history (All-head (λ (q : PassState). IsPrefix q.seen (rows_of n.threads s.history)) p ps seen)
      (All-head (λ (q : PassState). q.own ≡ own_rows q.number (rows_of n.threads s.history)) p ps own) plans first before run after s refl k.led
      (first-number p.number count (map (λ (q : PassState). q.number) ps) every) at)

-- THE OTHERS
module _ {J : Type 0} (n : Numbers) (s : HubSeen) (k : IsLedHub n s) (left : Record) (history : left.history ≡ s.history) where
  stays : (p : PassState) → IsPrefix p.seen (rows_of n.threads s.history) → p.own ≡ own_rows p.number (rows_of n.threads s.history) → (a : ActorRun J)
      → IsAtPass n p a → IsActorOf n (hub_seen n left.history) a
  stays p seen own a at =
      subst (λ xs. IsActorOf n (hub_seen n xs) a) (sym history)
      (subst (λ t. IsActorOf n t a) (sym (shown n s k)) (actor-at-take n p s.history seen own a s refl k.led at))

  pub all-stay : (ps : List PassState) → All (λ p. IsPrefix p.seen (rows_of n.threads s.history)) ps → All (λ p. p.own ≡ own_rows p.number (rows_of n.threads s.history)) ps
      → All (λ p. (a : ActorRun J) → IsAtPass n p a → IsActorOf n (hub_seen n left.history) a) ps
  all-stay [] seen own = All-nil (λ (p : PassState). (a : ActorRun J) → IsAtPass n p a → IsActorOf n (hub_seen n left.history) a)
  all-stay (p ∷ ps) seen own =
      All-cons (λ (q : PassState). (a : ActorRun J) → IsAtPass n q a → IsActorOf n (hub_seen n left.history) a) p ps
      (stays p (All-head (λ (q : PassState). IsPrefix q.seen (rows_of n.threads s.history)) p ps seen)
      (All-head (λ (q : PassState). q.own ≡ own_rows q.number (rows_of n.threads s.history)) p ps own))
      (all-stay ps (All-tail (λ (q : PassState). IsPrefix q.seen (rows_of n.threads s.history)) p ps seen)
      (All-tail (λ (q : PassState). q.own ≡ own_rows q.number (rows_of n.threads s.history)) p ps own))

-- PASSES
-- what a pass had seen, and its own rows, in what is left
pub passes-left : (n : Numbers) (s : HubSeen) (left : Record) → left.history ≡ s.history → (P : PassState → List Row → Type 0) (ps : List PassState)
    → All (λ p. P p (rows_of n.threads s.history)) ps → All (λ p. P p (rows_of n.threads left.history)) ps
passes-left n s left history P ps all = subst (λ xs. All (λ (p : PassState). P p (rows_of n.threads xs)) ps) (sym history) all
