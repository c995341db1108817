-- The hub's events after the loop.
use Rattle.std.proofs.Common.{◌≡◌, ◌≢◌, ◌⊎◌, inl, inr, ℕ, true, false, cond, [], length, refl, ap, subst, sym, ◌∙◌, Option, Some, None, IfSome, is_some, option_map}
use Rattle.napi_types.specs.declared.duties.DueInfo.{DueInfo}
use Rattle.napi_types.specs.declared.entry.HostStep.TheVariants as host
use Rattle.napi_types.specs.declared.entry.Limits.{Limits}
use Rattle.napi_types.specs.declared.entry.Out.TheVariants as out
use Rattle.napi_types.specs.declared.entry.Phase.{Phase}
use Rattle.napi_types.specs.declared.entry.Phase.TheVariants as phase
use Rattle.napi_types.specs.plain.Entries.{host_entry}
use Rattle.napi_types.specs.parts.Hooks.{Hook, last_hook}
use Rattle.napi_types.specs.environment.Changes.{in_phase, with_none_waiting}
use Rattle.napi_types.specs.environment.Environment.{Environment}
use Rattle.napi_types.specs.environment.Tickets.{ticket_in, next_ticket}
use Rattle.napi_types.specs.hub.Hub.{Hub, Stage, LoopEnded, HooksAbandoned, Drained, is_of_hooks}
use Rattle.napi_types.specs.hub.HubEvents.{delivery_entry}
use Rattle.napi_types.specs.hub.HubMoves.{HubMove, Delivers, Closes, Finishes, hub_move}
use Rattle.napi_types.specs.runs.Choice.{local_choice_in, hub_choice, waiting_hooks}
use Rattle.napi_types.specs.runs.Loop.{Event, Moves, Abandons, Drains, FinalsCome}
use Rattle.napi_types.proofs.runs.Chosen.{NoChoice, begun, waits, unhooked, drained, gone, no-choice, HubChoice, goes, idles, quiets, abandons, drains, drains_later, finals, moves_in_loop, moves_in_hooks, moves_at_end, hub-choice, chosen-move}
use Rattle.env_core.specs.Core.{Core, after_phase, after_abandon, at_position}
use Rattle.env_core.specs.Sharing.{after_finish}
use Rattle.shared_hub.specs.HubStates.{HubSeen, AddsEntry}
use Rattle.shared_hub.specs.declared.naming.Numbers.{Numbers}
use Rattle.env_teardown.specs.TeardownSteps.{is_local_turn, tear_event, AddsEvent, IsStepOf}
use Rattle.env_teardown.specs.declared.step.TearStep.TheVariants as tear
use Rattle.env_loop.specs.RecordedRuns.{Run}
use Rattle.env_loop.specs.Recording.{machine_of}
use Rattle.env_loop.specs.Turns.{event_turn, hub_event}
use Rattle.env_loop.specs.declared.turn.LocalTurn.TheVariants as turn
use Rattle.env_loop.proofs.Deliveries.{DeliversNext}
use Rattle.env_loop.proofs.EventTurns.{none-local, of-hub, AtHub, far-in}
use Rattle.env_loop.proofs.PlainEvents.{abandon-event, drain-event, finals-event, MovesPlainly, closed-moves, finished-moves}

-- WHICH EVENT IS NEXT
-- a run at the hub whose loop has ended
pub record TearsAt (n : Numbers) (run : Run) (before : HubSeen) : Type 0 where
  pub at : AtHub n run before
  pub not_init : run.core.env.phase ≢ phase.Init
  pub not_live : run.core.env.phase ≢ phase.Live

pub tears-at : (n : Numbers) (run old : Run) (before : HubSeen) → run ≡ old → AtHub n run before
    → (old.core.env.phase ≢ phase.Init) × (old.core.env.phase ≢ phase.Live) → TearsAt n run before
tears-at n run old before same at later = record {
  at = at;
  not_init = λ here. later.0 (ap (λ (r : Run). r.core.env.phase) (sym same) ∙ here);
  not_live = λ here. later.1 (ap (λ (r : Run). r.core.env.phase) (sym same) ∙ here);
}

-- it is at the hooks, none of which is left, or behind the drain
abbrev IsTearing : Environment → Type 0
IsTearing e = ((e.phase ≡ phase.Hooks) × (next_ticket e ≡ None)) ⊎ (e.phase ≡ phase.Drain)

-- the hub is then as far
abbrev StageTears : Stage → Environment → Type 0
StageTears s e = ((is_of_hooks s ≡ true) × (e.phase ≡ phase.Hooks)) ⊎ ((s ≡ Drained) × (e.phase ≡ phase.Drain))

-- the event that a step of the teardown makes
abbrev pub step_event : Environment → Hub → Option Event
step_event e h = tear_event e.phase (is_some (next_ticket e)) (waiting_hooks e) h

tearing : (n : Numbers) (run : Run) (before : HubSeen) → TearsAt n run before → IsTearing run.core.env
tearing n run before t = by run.core.env.phase refl (no-choice run.core.env run.core.env.phase (none-local run.core.env t.at.needs t.not_live))
  where
    e : Environment
    e = run.core.env

    by : (p : Phase) → e.phase ≡ p → NoChoice e p → IsTearing e
    by _ here (begun opened left) = absurd (t.not_init here)
    by _ here (waits unasked empty) = absurd (t.not_live here)
    by _ here (unhooked no_hooks) = inl (here, ap (ticket_in e) here ∙ ap (λ hs. option_map (λ (h : Hook). h.ticket) (last_hook hs)) no_hooks)
    by _ here drained = inr here
    by _ here gone = let no_hub : turn.Gone ≡ turn.NeedsHub = sym (ap (λ p. event_turn (local_choice_in e p) p) here) ∙ t.at.needs in cc

-- so the environment's turn is not next, and the next event is the hub's choice
torn-hub : (n : Numbers) (run : Run) (before : HubSeen) → TearsAt n run before
    → hub_event run.core.env before.hub ≡ hub_choice before.hub (waiting_hooks run.core.env)
torn-hub n run before t = of-hub run.core.env before.hub (none-local run.core.env t.at.needs t.not_live)

pub torn-local : (n : Numbers) (run : Run) (before : HubSeen) → TearsAt n run before
    → is_local_turn run.core.env.phase (is_some (next_ticket run.core.env)) ≡ false
torn-local n run before t = by (tearing n run before t)
  where
    e : Environment
    e = run.core.env

    by : IsTearing e → is_local_turn e.phase (is_some (next_ticket e)) ≡ false
    by (inl hooks) = ap (λ p. is_local_turn p (is_some (next_ticket e))) hooks.0 ∙ ap (λ (o : Option ℕ). is_some o) hooks.1
    by (inr drain) = ap (λ p. is_local_turn p (is_some (next_ticket e))) drain

-- and the environment is not gone
pub torn-open : (n : Numbers) (run : Run) (before : HubSeen) → TearsAt n run before → run.core.env.phase ≢ phase.Gone
torn-open n run before t = λ late. by late (tearing n run before t)
  where
    by : run.core.env.phase ≡ phase.Gone → IsTearing run.core.env → ⊥
    by late (inl hooks) = let no_hooks : phase.Gone ≡ phase.Hooks = sym late ∙ hooks.0 in cc
    by late (inr drain) = let no_drain : phase.Gone ≡ phase.Drain = sym late ∙ drain in cc

-- THE STEP
-- what it says of the core and the hub, where it has moved
pub record Torn (core : Core) (before : HubSeen) (new : Core) (after : HubSeen) (next : Option Event) : Type 0 where
  pub event : IfSome next (λ v. AddsEvent (waiting_hooks core.env) before v after)
  pub abandoned : next ≡ Some Abandons → new ≡ after_abandon (length after.history) core
  pub drained : next ≡ Some Drains → new ≡ after_phase phase.Drain (length after.history) core
  pub finals : next ≡ Some FinalsCome → new ≡ after_phase phase.Finals (length after.history) core
  pub closed : (k : ℕ) → next ≡ Some (Moves (Closes k)) → new ≡ at_position (length after.history) core
  pub finished : (k : ℕ) → next ≡ Some (Moves (Finishes k)) → new ≡ after_finish k (length after.history) core

module _ (J : Type 0) (n : Numbers) (run : Run) (before after : HubSeen) (new : Core) (t : TearsAt n run before) where
  -- the drain, in either stage of the hooks
  torn-drain : {s : Stage} → hub_event run.core.env before.hub ≡ Some Drains → Torn run.core before new after (Some Drains) → before.hub.stage ≡ s
      → (is_of_hooks s ≡ true) × (run.core.env.phase ≡ phase.Hooks) → MovesPlainly run.core before new after
  torn-drain next told far here = record {
    event = Drains;
    entry = host_entry host.Drain (out.Unsigned (length before.hub.pool.queued));
    env = in_phase phase.Drain run.core.env;
    plain = drain-event run.core before.hub next here.1 (ap is_of_hooks far ∙ here.0) t.at.fits.owned;
    adds = told.event;
    made = told.drained refl;
  }

  torn-by : (v : Event) → hub_event run.core.env before.hub ≡ Some v → IsStepOf {J = J} v tear.Moved → Torn run.core before new after (Some v)
      → (s : Stage) → HubChoice before.hub (waiting_hooks run.core.env) s v → before.hub.stage ≡ s → StageTears s run.core.env
      → MovesPlainly run.core before new after
  torn-by v next moved told _ (abandons some none quiet) far (inl here) = record {
    event = Abandons;
    entry = host_entry host.Abandon (out.Unsigned (waiting_hooks run.core.env));
    env = with_none_waiting run.core.env;
    plain = abandon-event run.core before.hub next here.1 far t.at.fits.owned;
    adds = told.event;
    made = told.abandoned refl;
  }
  torn-by v next moved told _ (drains unwaited) far (inl here) = torn-drain next told far here
  torn-by v next moved told _ drains_later far (inl here) = torn-drain next told far here
  torn-by v next moved told _ (finals none spent) far (inr here) = record {
    event = FinalsCome;
    entry = host_entry host.Finals out.Nothing;
    env = in_phase phase.Finals run.core.env;
    plain = finals-event run.core before.hub next here.1 far spent t.at.fits.owned;
    adds = told.event;
    made = told.finals refl;
  }
  torn-by v next moved told _ (moves_in_hooks some (Closes k) move) far here =
      closed-moves n run before after new k t.at next move told.event (told.closed k refl)
  torn-by v next moved told _ (moves_in_hooks some (Finishes k) move) far here =
      finished-moves n run before after new k t.at next move told.event (told.finished k refl)
  torn-by v next moved told _ (moves_in_hooks some (Delivers d) move) far here = absurd moved
  torn-by v next moved told _ (moves_at_end (Closes k) move) far here =
      closed-moves n run before after new k t.at next move told.event (told.closed k refl)
  torn-by v next moved told _ (moves_at_end (Finishes k) move) far here =
      finished-moves n run before after new k t.at next move told.event (told.finished k refl)
  torn-by v next moved told _ (moves_at_end (Delivers d) move) far here = absurd moved
  torn-by v next moved told _ goes far (inl here) = cc
  torn-by v next moved told _ goes far (inr here) = cc
  torn-by v next moved told _ (abandons some none quiet) far (inr here) = cc
  torn-by v next moved told _ (drains unwaited) far (inr here) = cc
  torn-by v next moved told _ drains_later far (inr here) = cc
  torn-by v next moved told _ (finals none spent) far (inl here) = cc
  torn-by v next moved told _ (idles none idle) far (inl here) = cc
  torn-by v next moved told _ (idles none idle) far (inr here) = cc
  torn-by v next moved told _ (quiets none idle quiet) far (inl here) = cc
  torn-by v next moved told _ (quiets none idle quiet) far (inr here) = cc
  torn-by v next moved told _ (moves_in_loop move is) far (inl here) = cc
  torn-by v next moved told _ (moves_in_loop move is) far (inr here) = cc

  stages : IsTearing run.core.env → StageTears before.hub.stage run.core.env
  stages (inl hooks) = inl (far-in n run before phase.Hooks t.at hooks.0, hooks.0)
  stages (inr drain) = inr (far-in n run before phase.Drain t.at drain, drain)

  torn-of : (o : Option Event) → o ≡ hub_choice before.hub (waiting_hooks run.core.env) → hub_choice before.hub (waiting_hooks run.core.env) ≢ None
      → IfSome o (λ v. IsStepOf {J = J} v tear.Moved) → Torn run.core before new after o → MovesPlainly run.core before new after
  torn-of None is some moved told = absurd (some (sym is))
  torn-of (Some v) is some moved told =
      torn-by v (torn-hub n run before t ∙ sym is) moved told before.hub.stage
      (hub-choice before.hub (waiting_hooks run.core.env) before.hub.stage v (sym is)) refl (stages (tearing n run before t))

  pub torn-moves : hub_choice before.hub (waiting_hooks run.core.env) ≢ None → IfSome (step_event run.core.env before.hub) (λ v. IsStepOf {J = J} v tear.Moved)
      → Torn run.core before new after (step_event run.core.env before.hub) → MovesPlainly run.core before new after
  torn-moves some moved told =
      torn-of (step_event run.core.env before.hub) (ap (λ b. cond b None (hub_choice before.hub (waiting_hooks run.core.env))) (torn-local n run before t)) some
      moved told

move-next : (l : Limits) (core : Core) (h : Hub) (move : HubMove) → hub_event core.env h ≡ Some (Moves move) → hub_move h ≡ Some move
move-next l core h move next = chosen-move (machine_of l core h []) move next

-- where a frame begins, it is that of the hub's next duty
pub torn-begins : (J : Type 0) (n : Numbers) (run : Run) (before after : HubSeen) (d : DueInfo) (job : Option J) → TearsAt n run before
    → hub_choice before.hub (waiting_hooks run.core.env) ≢ None → IfSome (step_event run.core.env before.hub) (λ v. IsStepOf v (tear.Begin d job))
    → IfSome (step_event run.core.env before.hub) (λ v. AddsEvent (waiting_hooks run.core.env) before v after) → DeliversNext run before after d
torn-begins J n run before after d job t some begins adds =
    by (step_event run.core.env before.hub) (ap (λ b. cond b None (hub_choice before.hub (waiting_hooks run.core.env))) (torn-local n run before t)) begins adds
  where
    with_duty : (e : DueInfo) → hub_choice before.hub (waiting_hooks run.core.env) ≡ Some (Moves (Delivers e)) → AddsEntry before (delivery_entry e) after
        → DeliversNext run before after e
    with_duty e is adds =
        let next : hub_event run.core.env before.hub ≡ Some (Moves (Delivers e)) = torn-hub n run before t ∙ is in
        record { next = next; move = move-next n.limits run.core before.hub (Delivers e) next; adds = adds }

    by : (o : Option Event) → o ≡ hub_choice before.hub (waiting_hooks run.core.env) → IfSome o (λ v. IsStepOf v (tear.Begin d job))
        → IfSome o (λ v. AddsEvent (waiting_hooks run.core.env) before v after) → DeliversNext run before after d
    by None is begins adds = absurd (some (sym is))
    by (Some (Moves (Delivers e))) is begins adds = subst (λ i. DeliversNext run before after i) (sym begins) (with_duty e (sym is) adds)
    by (Some (Moves (Closes k))) is begins adds = cc
    by (Some (Moves (Finishes k))) is begins adds = cc
    by (Some _) is begins adds = cc
