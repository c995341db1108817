-- The environment's run beside its pass, from one turn of the lock to the next.
use Rattle.std.proofs.Common.{◌≡◌, ◌∙◌, ℕ, Bool, true, false, cond, List, [], ◌∷◌, drop, Option, None, Some, refl, sym, subst}
use mathlib.Core.List.{IsPrefix}
use Rattle.napi_types.specs.declared.entry.Actor.{Actor}
use Rattle.napi_types.specs.declared.entry.Entry.{Entry}
use Rattle.napi_types.specs.declared.entry.Phase.{Phase}
use Rattle.napi_types.specs.declared.entry.Phase.TheVariants as phase
use Rattle.napi_types.specs.parts.Frames.{Frame}
use Rattle.napi_types.specs.scripts.Plans.{Plan, Registers}
use Rattle.napi_types.specs.environment.Environment.{Environment}
use Rattle.napi_types.specs.runs.Choice.{local_choice}
use Rattle.napi_types.specs.runs.Loop.{Event, Opens, Inits, Tickets, Moves, Goes, EndsLoop, Abandons, Drains, FinalsCome, IsGone}
use Rattle.turn_lock.specs.Passes.{PassState}
use Rattle.turn_lock.specs.Rows.{own_rows}
use Rattle.shared_hub.specs.declared.naming.Numbers.{Numbers}
use Rattle.shared_hub.specs.HubRows.{rows_of}
use Rattle.shared_hub.specs.HubStates.{HubSeen, hub_seen}
use Rattle.shared_hub.specs.KeptHubs.{IsLedHub}
use Rattle.env_loop.specs.declared.turn.LocalTurn.TheVariants as local
use Rattle.env_loop.specs.Bursts.{AddsEntriesOf}
use Rattle.env_loop.specs.FollowedRuns.{IsFollowed, FollowsOn, FollowsOnAt}
use Rattle.env_loop.specs.OpenedAndGone.{IsOpenedRun}
use Rattle.env_loop.specs.RecordedRuns.{Run, FitsHub, pending_at_hub}
use Rattle.env_loop.specs.Recording.{AddonStates}
use Rattle.env_loop.specs.Turns.{event_turn, turn_at, turn_of, turn_after, OnlyPendingChanged}
use Rattle.env_loop.proofs.UnstartedAndEnded.{opened-runs-fit}
use Rattle.runner.specs.AtPasses.{HoldsAtPass}
use Rattle.runner.specs.ActorsAtTheLock.{GrewByEntries}
use Rattle.runner.specs.Environments.{HasFollowedOn, HasFollowedOnAtPass}
use Rattle.runner.proofs.TakenTurns.{run-at-take, stands-after, stands-at-first}

-- GOING ON
-- a run goes on, and then on
pub goes-then : (n : Numbers) (plans : List Plan) (first run new : Run) (prefix history later : List Entry) (start before after : AddonStates)
    → first.core.env.addons ≡ run.core.env.addons → FollowsOnAt n plans first prefix start run history before
    → FollowsOnAt n plans run history before new later after
    → FollowsOnAt n plans first prefix start new later after
goes-then n plans first run new prefix history later start before after same was is = λ s firsts numbers of f.
    is s firsts numbers (record { count = of.count ∙ same; first = of.first }) (was s firsts numbers of f)

-- what a run was followed from, before its first turn
pub opened-has-run : (n : Numbers) (plans : List Plan) (p : PassState) (run : Run) (all : AddonStates) → IsOpenedRun run → p.own ≡ []
    → HasFollowedOnAtPass n plans run all p run all
opened-has-run n plans p run all opened own =
    stands-at-first n p (HasFollowedOn n plans run all run all) own (record { fits = opened-runs-fit n run opened; goes = λ s firsts numbers of f. f })

-- it goes on by a turn without the hub
pub has-run-alone : (n : Numbers) (plans : List Plan) (first run new : Run) (p : PassState) (start before after : AddonStates) → first.core.env.addons ≡ run.core.env.addons
    → HasFollowedOnAtPass n plans first start p run before → ((history : List Entry) → FollowsOn plans run history before new history after)
    → ((hub : HubSeen) → FitsHub run hub → FitsHub new hub) → HasFollowedOnAtPass n plans first start p new after
has-run-alone n plans first run new p start before after same at goes fits = record {
  history = at.history;
  led = at.led;
  seen = at.seen;
  own = at.own;
  holds = record {
    fits = fits (hub_seen n at.history) at.holds.fits;
    goes = goes-then n plans first run new [] at.history at.history start before after same at.holds.goes (λ s firsts numbers of f. goes at.history s firsts of f);
  };
}

-- and by a turn of the lock
pub has-run-locked : (n : Numbers) (plans : List Plan) (first run new : Run) (p q : PassState) (start before after : AddonStates) (s0 s1 : HubSeen)
    → first.core.env.addons ≡ run.core.env.addons → p.number ≡ 0 → IsPrefix p.seen (rows_of n.threads s0.history) → p.own ≡ own_rows p.number (rows_of n.threads s0.history)
    → IsLedHub n s0 → IsLedHub n s1 → q.seen ≡ rows_of n.threads s1.history → q.own ≡ own_rows q.number (rows_of n.threads s1.history) → FitsHub new s1
    → FollowsOnAt n plans run s0.history before new s1.history after → HasFollowedOnAtPass n plans first start p run before
    → HasFollowedOnAtPass n plans first start q new after
has-run-locked n plans first run new p q start before after s0 s1 same number seen own led0 led1 q_seen q_own fits goes at =
    let taken : HasFollowedOn n plans first start run before s0 = run-at-take n p s0.history seen own plans first start run before s0 refl led0.led number at in
    stands-after n q s1 (HasFollowedOn n plans first start new after) led1 q_seen q_own
    (record { fits = fits; goes = goes-then n plans first run new [] s0.history s1.history start before after same taken.goes goes })

-- what it keeps of the hub
pub has-run-fits : (n : Numbers) (plans : List Plan) (first run : Run) (p : PassState) (start now : AddonStates)
    → HasFollowedOnAtPass n plans first start p run now → HoldsAtPass n p (FitsHub run)
has-run-fits n plans first run p start now at = record { history = at.history; led = at.led; seen = at.seen; own = at.own; holds = at.holds.fits }

-- A TURN WITHOUT THE HUB
gone-event : (o : Option Event) (p : Phase) → event_turn o p ≡ local.Gone → p ≡ phase.Gone
gone-event None phase.Gone is = refl
gone-event None phase.Init is = cc
gone-event None phase.Live is = cc
gone-event None phase.Hooks is = cc
gone-event None phase.Drain is = cc
gone-event None phase.Finals is = cc
gone-event (Some Opens) p is = cc
gone-event (Some (Inits k)) p is = cc
gone-event (Some (Tickets k)) p is = cc
gone-event (Some (Moves m)) p is = cc
gone-event (Some Goes) p is = cc
gone-event (Some (EndsLoop why)) p is = cc
gone-event (Some Abandons) p is = cc
gone-event (Some Drains) p is = cc
gone-event (Some FinalsCome) p is = cc
gone-event (Some IsGone) p is = cc

gone-at : (frames : List Frame) (e : Environment) → turn_at frames e ≡ local.Gone → e.phase ≡ phase.Gone
gone-at [] e is = gone-event (local_choice e) e.phase is
gone-at (f ∷ fs) e is = cc

-- where the turn finds the environment gone, it is
pub gone-then : (old new : Run) → OnlyPendingChanged old new → local.Gone ≡ turn_after new old.core.env → new.core.env.phase ≡ phase.Gone
gone-then old new owes is = (λ i. (owes i).core.env.phase) ∙ by (pending_at_hub new) (sym is)
  where
    by : (b : Bool) → cond b local.NeedsHub (turn_of old.core.env) ≡ local.Gone → old.core.env.phase ≡ phase.Gone
    by true gone = cc
    by false gone = gone-at old.core.env.frames old.core.env gone

-- A TURN AT THE HUB
-- the hub of the turn is the one under the lock
pub grew-there : (who : Actor) (s0 t0 t1 : HubSeen) (count : ℕ) → t0 ≡ s0 → AddsEntriesOf who count t0 t1 → GrewByEntries who s0 t1
grew-there who s0 t0 t1 count first grew = (count, subst (λ s. AddsEntriesOf who count s t1) first grew)

pub goes-there : (n : Numbers) (plans : List Plan) (old new : Run) (before after : AddonStates) (s0 t0 t1 : HubSeen) → t0 ≡ s0
    → FollowsOnAt n plans old t0.history before new t1.history after → FollowsOnAt n plans old s0.history before new t1.history after
goes-there n plans old new before after s0 t0 t1 first goes = λ s firsts numbers of f.
    goes s firsts numbers of (subst (λ (h : HubSeen). IsFollowed s old h.history before firsts) (sym first) f)

-- TURN AFTER TURN
-- what is said of a turn with the plans that the addons tell then, which are those that they told first
pub has-run-then : (n : Numbers) (plans later : List Plan) (first run new : Run) (p q : PassState) (start before after : AddonStates) → later ≡ plans
    → first.core.env.addons ≡ run.core.env.addons
    → ((first : Run) (start : AddonStates) → first.core.env.addons ≡ run.core.env.addons → HasFollowedOnAtPass n later first start p run before
    → HasFollowedOnAtPass n later first start q new after)
    → HasFollowedOnAtPass n plans first start p run before → HasFollowedOnAtPass n plans first start q new after
has-run-then n plans later first run new p q start before after planned same ran at =
    subst (λ ps. HasFollowedOnAtPass n ps first start q new after) planned
    (ran first start same (subst (λ ps. HasFollowedOnAtPass n ps first start p run before) (sym planned) at))

-- the run fits still where it fits with each hub as before
pub fits-alone : (n : Numbers) (p : PassState) (run new : Run) → HoldsAtPass n p (FitsHub run) → ((hub : HubSeen) → FitsHub run hub → FitsHub new hub)
    → HoldsAtPass n p (FitsHub new)
fits-alone n p run new at fits = record { history = at.history; led = at.led; seen = at.seen; own = at.own; holds = fits (hub_seen n at.history) at.holds }

-- the addons that are no addons of the script keep what they have
pub others-then : (k m : ℕ) (first was now : Registers) → m ≡ k → drop k was ≡ drop k first → drop m now ≡ drop m was → drop k now ≡ drop k first
others-then k m first was now same before after = subst (λ j. drop j now ≡ drop j was) same after ∙ before
