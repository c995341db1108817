-- The hub's events that begin no frame: the great ones, and a function that closes or finishes.
use Rattle.std.proofs.Common.{◌≡◌, ◌≢◌, ◌≤◌, ℕ, true, List, length, refl, ap, subst, sym, ◌∙◌, arith, Some, None}
use Rattle.std.specs.Option.{unwrap_or}
use Rattle.napi_types.specs.declared.entry.Entry.{Entry}
use Rattle.napi_types.specs.declared.entry.HostStep.TheVariants as host
use Rattle.napi_types.specs.declared.entry.LoopEnd.{LoopEnd}
use Rattle.napi_types.specs.declared.entry.Out.TheVariants as out
use Rattle.napi_types.specs.declared.entry.Phase.{Phase}
use Rattle.napi_types.specs.declared.entry.Phase.TheVariants as phase
use Rattle.napi_types.specs.plain.Entries.{host_entry}
use Rattle.napi_types.specs.plain.Phases.{next_phase}
use Rattle.napi_types.specs.parts.Duties.{duties_of}
use Rattle.napi_types.specs.scripts.Plans.{Plan}
use Rattle.napi_types.specs.environment.Changes.{in_phase, with_none_waiting}
use Rattle.napi_types.specs.environment.Environment.{Environment}
use Rattle.napi_types.specs.environment.SharedCalls.{without_root}
use Rattle.napi_types.specs.hub.Hub.{Hub, Before, Live, LoopEnded, Drained, stage_after, is_of_hooks, IsStageOf}
use Rattle.napi_types.specs.hub.HubEvents.{close_step, finish_step}
use Rattle.napi_types.specs.hub.HubMoves.{Closes, Finishes, hub_move, is_spent}
use Rattle.napi_types.specs.hub.HubOwners.{IsOwnedHub}
use Rattle.napi_types.specs.hub.HubSteps.{hub_step}
use Rattle.napi_types.specs.runs.Choice.{local_choice, hub_choice_at, waiting_hooks}
use Rattle.napi_types.specs.runs.Loop.{Event, Moves, Goes, EndsLoop, Abandons, Drains, FinalsCome}
use Rattle.napi_types.proofs.environment.HookedSteps.{hooked-phase, hooked-abandoned}
use Rattle.napi_types.proofs.environment.Owners.{owned-phase}
use Rattle.napi_types.proofs.environment.Registrations.{uncalled-phase}
use Rattle.napi_types.proofs.hub.HubOwners.{event-owned}
use Rattle.env_core.specs.Core.{Core, after_phase, at_position}
use Rattle.env_core.specs.Sharing.{after_finish}
use Rattle.shared_hub.specs.HubStates.{HubSeen, AddsEntry}
use Rattle.shared_hub.specs.declared.naming.Numbers.{Numbers}
use Rattle.shared_hub.proofs.EventSteps.{drain-follows}
use Rattle.env_loop.specs.HubTurns.{IsMadeHubTurn}
use Rattle.env_loop.specs.RecordedRuns.{Run, IsSoundEnvironment, IsRunning, FitsHub}
use Rattle.env_loop.specs.Recording.{AddonStates}
use Rattle.env_loop.specs.Turns.{hub_event, OnlyInnermostChanges}
use Rattle.env_loop.proofs.EventTurns.{none-local, of-hub, AtHub, far-in, IsEvent, takes-none, after_hub_event, event-turn}
use Rattle.env_loop.proofs.MadeTurns.{running-idle}

-- an event that begins no frame: it leaves the frames and the addons, the hub is then as far as the phase shows, and its works and functions stay the script's
pub record IsPlainEvent (core : Core) (h : Hub) (v : Event) (x : Entry) (e : Environment) : Type 0 where
  pub event : IsEvent core h v x e None
  pub addons : e.addons ≡ core.env.addons
  pub frames : e.frames ≡ core.env.frames
  pub shown : IsStageOf e.phase (hub_step h x).after.stage
  pub stands : (hub_step h x).after.standing ≡ h.standing
  pub owned : IsOwnedHub core.env.addons (hub_step h x).after
  pub sound : IsSoundEnvironment core.env → IsSoundEnvironment e

-- the environment stays sound in the phase that starts
sound-phase : (e : Environment) (p q : Phase) → e.phase ≡ q → next_phase q ≡ Some p → p ≢ phase.Gone → IsSoundEnvironment e
    → IsSoundEnvironment (in_phase p e)
sound-phase e p q here next other s = record {
  opened = s.opened;
  owned = owned-phase e.addons e p s.owned;
  asks = s.asks;
  nested = s.nested;
  uncalled = uncalled-phase p e.book s.uncalled;
  hooked = hooked-phase p e (ap next_phase here ∙ next) s.hooked;
  gone = λ g. absurd (other g);
}

sound-unrooted : (n : ℕ) (e : Environment) → IsSoundEnvironment e → IsSoundEnvironment (without_root n e)
sound-unrooted n e s = record {
  opened = s.opened;
  owned = record { frames = s.owned.frames; functions = s.owned.functions; tickets = s.owned.tickets };
  asks = s.asks;
  nested = s.nested;
  uncalled = s.uncalled;
  hooked = record {
    rise = s.hooked.rise;
    hooks = s.hooked.hooks;
    others = s.hooked.others;
    attached = s.hooked.attached;
    instances = s.hooked.instances;
    reactions = s.hooked.reactions;
    async = s.hooked.async;
  };
  gone = s.gone;
}

-- the great events, ..
pub go-event : (core : Core) (h : Hub) → hub_event core.env h ≡ Some Goes → core.env.phase ≡ phase.Init → h.stage ≡ Before → IsOwnedHub core.env.addons h
    → IsPlainEvent core h Goes (host_entry host.Go out.Nothing) (in_phase phase.Live core.env)
go-event core h next here far owned = record {
  event = record {
    next = next;
    by = refl;
    made = λ l history. refl;
    tells = λ l history. refl;
    given = λ l history ps rss. refl;
    begins = refl;
    spent = λ z. cc;
  };
  addons = refl;
  frames = refl;
  shown = ap (λ s. unwrap_or (stage_after s host.Go) s) far;
  stands = refl;
  owned = event-owned core.env.addons h (host_entry host.Go out.Nothing) host.Go owned;
  sound = sound-phase core.env phase.Live phase.Init here refl (λ z. cc);
}

pub end-event : (core : Core) (h : Hub) (w : LoopEnd) → hub_event core.env h ≡ Some (EndsLoop w) → core.env.phase ≡ phase.Live → h.stage ≡ Live
    → IsOwnedHub core.env.addons h
    → IsPlainEvent core h (EndsLoop w) (host_entry host.LoopEnd (out.Ended w)) (in_phase phase.Hooks core.env)
end-event core h w next here far owned = record {
  event = record {
    next = next;
    by = refl;
    made = λ l history. refl;
    tells = λ l history. refl;
    given = λ l history ps rss. refl;
    begins = refl;
    spent = λ z. cc;
  };
  addons = refl;
  frames = refl;
  shown = ap is_of_hooks (ap (λ s. unwrap_or (stage_after s host.LoopEnd) s) far);
  stands = refl;
  owned = event-owned core.env.addons h (host_entry host.LoopEnd (out.Ended w)) host.LoopEnd owned;
  sound = sound-phase core.env phase.Hooks phase.Live here refl (λ z. cc);
}

-- the environment stays sound where the hooks that wait are abandoned
sound-abandoned : (e : Environment) → IsSoundEnvironment e → IsSoundEnvironment (with_none_waiting e)
sound-abandoned e s = record {
  opened = s.opened;
  owned = record { frames = s.owned.frames; functions = s.owned.functions; tickets = s.owned.tickets };
  asks = s.asks;
  nested = s.nested;
  uncalled = s.uncalled;
  hooked = hooked-abandoned e s.hooked;
  gone = s.gone;
}

pub abandon-event : (core : Core) (h : Hub) → hub_event core.env h ≡ Some Abandons → core.env.phase ≡ phase.Hooks → h.stage ≡ LoopEnded
    → IsOwnedHub core.env.addons h
    → IsPlainEvent core h Abandons (host_entry host.Abandon (out.Unsigned (waiting_hooks core.env))) (with_none_waiting core.env)
abandon-event core h next here far owned = record {
  event = record {
    next = next;
    by = refl;
    made = λ l history. refl;
    tells = λ l history. refl;
    given = λ l history ps rss. refl;
    begins = refl;
    spent = λ z. cc;
  };
  addons = refl;
  frames = refl;
  shown = subst (λ p. IsStageOf p (unwrap_or (stage_after h.stage host.Abandon) h.stage)) (sym here)
      (ap is_of_hooks (ap (λ s. unwrap_or (stage_after s host.Abandon) s) far));
  stands = refl;
  owned = event-owned core.env.addons h (host_entry host.Abandon (out.Unsigned (waiting_hooks core.env))) host.Abandon owned;
  sound = sound-abandoned core.env;
}

pub drain-event : (core : Core) (h : Hub) → hub_event core.env h ≡ Some Drains → core.env.phase ≡ phase.Hooks → is_of_hooks h.stage ≡ true
    → IsOwnedHub core.env.addons h
    → IsPlainEvent core h Drains (host_entry host.Drain (out.Unsigned (length h.pool.queued))) (in_phase phase.Drain core.env)
drain-event core h next here far owned = record {
  event = record {
    next = next;
    by = refl;
    made = λ l history. refl;
    tells = λ l history. refl;
    given = λ l history ps rss. refl;
    begins = refl;
    spent = λ z. cc;
  };
  addons = refl;
  frames = refl;
  shown = ap (λ o. unwrap_or o h.stage) (drain-follows h.stage far);
  stands = refl;
  owned = event-owned core.env.addons h (host_entry host.Drain (out.Unsigned (length h.pool.queued))) host.Drain owned;
  sound = sound-phase core.env phase.Drain phase.Hooks here refl (λ z. cc);
}

pub finals-event : (core : Core) (h : Hub) → hub_event core.env h ≡ Some FinalsCome → core.env.phase ≡ phase.Drain → h.stage ≡ Drained
    → is_spent h ≡ true → IsOwnedHub core.env.addons h
    → IsPlainEvent core h FinalsCome (host_entry host.Finals out.Nothing) (in_phase phase.Finals core.env)
finals-event core h next here far spent owned = record {
  event = record {
    next = next;
    by = refl;
    made = λ l history. refl;
    tells = λ l history. refl;
    given = λ l history ps rss. refl;
    begins = refl;
    spent = λ z. spent;
  };
  addons = refl;
  frames = refl;
  shown = ap (λ s. unwrap_or (stage_after s host.Finals) s) far;
  stands = refl;
  owned = event-owned core.env.addons h (host_entry host.Finals out.Nothing) host.Finals owned;
  sound = sound-phase core.env phase.Finals phase.Drain here refl (λ z. cc);
}

-- .. and a function that begins to close, or finishes
pub close-event : (core : Core) (h : Hub) (k : ℕ) → hub_event core.env h ≡ Some (Moves (Closes k)) → hub_move h ≡ Some (Closes k)
    → IsStageOf core.env.phase h.stage → IsOwnedHub core.env.addons h
    → IsPlainEvent core h (Moves (Closes k)) (host_entry host.CloseTsfn (out.Function (record { 0 = k }))) core.env
close-event core h k next move shown owned =
    let x : Entry = host_entry host.CloseTsfn (out.Function (record { 0 = k })) in
    record {
      event = record {
        next = next;
        by = refl;
        made = λ l history. refl;
        tells = λ l history. refl;
        given = λ l history ps rss. refl;
        begins = refl;
        spent = λ z. cc;
      };
      addons = refl;
      frames = refl;
      shown = subst (IsStageOf core.env.phase) (sym (ap (λ o. (close_step h x o).after.stage) move)) shown;
      stands = ap (λ o. (close_step h x o).after.standing) move;
      owned = event-owned core.env.addons h x host.CloseTsfn owned;
      sound = λ s. s;
    }

pub finish-event : (core : Core) (h : Hub) (k : ℕ) → hub_event core.env h ≡ Some (Moves (Finishes k)) → hub_move h ≡ Some (Finishes k)
    → IsStageOf core.env.phase h.stage → IsOwnedHub core.env.addons h
    → IsPlainEvent core h (Moves (Finishes k)) (host_entry host.FinishTsfn (out.Function (record { 0 = k }))) (without_root k core.env)
finish-event core h k next move shown owned =
    let x : Entry = host_entry host.FinishTsfn (out.Function (record { 0 = k })) in
    record {
      event = record {
        next = next;
        by = refl;
        made = λ l history. refl;
        tells = λ l history. refl;
        given = λ l history ps rss. refl;
        begins = refl;
        spent = λ z. cc;
      };
      addons = refl;
      frames = refl;
      shown = subst (IsStageOf core.env.phase) (sym (ap (λ o. (finish_step h x o).after.stage) move)) shown;
      stands = ap (λ o. (finish_step h x o).after.standing) move;
      owned = event-owned core.env.addons h x host.FinishTsfn owned;
      sound = sound-unrooted k core.env;
    }

-- the hub made one of them, and the core took it in
pub record MovesPlainly (core : Core) (before : HubSeen) (new : Core) (after : HubSeen) : Type 0 where
  pub event : Event
  pub entry : Entry
  pub env : Environment
  pub plain : IsPlainEvent core before.hub event entry env
  pub adds : AddsEntry before entry after
  pub made : new ≡ record core { env = env; position = length after.history }

same-length : (n : ℕ) → n ≤ n
same-length n = omega arith

module _ (n : Numbers) (run : Run) (before after : HubSeen) (new : Core) (at : AtHub n run before) (m : MovesPlainly run.core before new after) where
  plain-fits : FitsHub (after_hub_event run m.env (length after.history) run.begun) after
  plain-fits = record {
    stage = subst (λ (h : Hub). IsStageOf m.env.phase h.stage) (sym m.adds.hub) m.plain.shown;
    standing = ap (λ (h : Hub). h.standing) m.adds.hub ∙ m.plain.stands ∙ at.fits.standing;
    owned = subst (λ k. IsOwnedHub k after.hub) (sym m.plain.addons) (subst (λ h. IsOwnedHub run.core.env.addons h) (sym m.adds.hub) m.plain.owned);
    noted = same-length (length after.history);
  }

  -- it is a turn at the hub, ..
  plain-turn : (plans : List Plan) (all : AddonStates) → IsMadeHubTurn n plans run before all (record run { core = new }) after all
  plain-turn plans all =
      subst (λ c. IsMadeHubTurn n plans run before all (record run { core = c }) after all) (sym m.made)
      (event-turn n run before after all all m.event m.entry m.env None run.begun at.rest at.led m.adds m.plain.event (takes-none run.core.env.addons all) plans
      m.plain.addons plain-fits
      (subst (λ fs. OnlyInnermostChanges run.core.env.frames fs all.registers all.registers) (sym (m.plain.frames ∙ at.rest.frames)) refl))

  -- .. and the run is running after it
  pub plain-running : IsRunning new run.begun run.ending
  plain-running = subst (λ c. IsRunning c run.begun run.ending) (sym m.made)
      (running-idle (record run.core { env = m.env; position = length after.history }) run.begun run.ending (m.plain.sound at.running.sound)
      (ap duties_of m.plain.frames ∙ at.running.held) at.rest.awaited at.rest.ending)

-- the same, where the run is known as its parts
pub moved-turn : (n : Numbers) (plans : List Plan) (run old : Run) (before after : HubSeen) (all : AddonStates) (new : Core) → run ≡ old → AtHub n run before
    → MovesPlainly run.core before new after → IsMadeHubTurn n plans old before all (record run { core = new }) after all
moved-turn n plans run old before after all new same at m =
    subst (λ r. IsMadeHubTurn n plans r before all (record run { core = new }) after all) same (plain-turn n run before after new at m plans all)

-- `go`, once every init frame has begun
pub go-moves : (n : Numbers) (run : Run) (before after : HubSeen) (new : Core) (position : ℕ) → AtHub n run before → run.core.env.phase ≡ phase.Init
    → AddsEntry before (host_entry host.Go out.Nothing) after → position ≡ length after.history → new ≡ after_phase phase.Live position run.core
    → MovesPlainly run.core before new after
go-moves n run before after new position at here adds noted made =
    let far : before.hub.stage ≡ Before = far-in n run before phase.Init at here in
    let none : local_choice run.core.env ≡ None = none-local run.core.env at.needs (λ live. let no : phase.Init ≡ phase.Live = sym here ∙ live in cc) in
    let next : hub_event run.core.env before.hub ≡ Some Goes =
    of-hub run.core.env before.hub none ∙ ap (hub_choice_at before.hub (waiting_hooks run.core.env)) far in
    record {
      event = Goes;
      entry = host_entry host.Go out.Nothing;
      env = in_phase phase.Live run.core.env;
      plain = go-event run.core before.hub next here far at.fits.owned;
      adds = adds;
      made = made ∙ ap (λ k. record run.core { env = in_phase phase.Live run.core.env; position = k }) noted;
    }

-- a function begins to close, or finishes
pub closed-moves : (n : Numbers) (run : Run) (before after : HubSeen) (new : Core) (k : ℕ) → AtHub n run before
    → hub_event run.core.env before.hub ≡ Some (Moves (Closes k)) → hub_move before.hub ≡ Some (Closes k)
    → AddsEntry before (host_entry host.CloseTsfn (out.Function (record { 0 = k }))) after
    → new ≡ at_position (length after.history) run.core → MovesPlainly run.core before new after
closed-moves n run before after new k at next move adds made = record {
  event = Moves (Closes k);
  entry = host_entry host.CloseTsfn (out.Function (record { 0 = k }));
  env = run.core.env;
  plain = close-event run.core before.hub k next move at.fits.stage at.fits.owned;
  adds = adds;
  made = made;
}

pub finished-moves : (n : Numbers) (run : Run) (before after : HubSeen) (new : Core) (k : ℕ) → AtHub n run before
    → hub_event run.core.env before.hub ≡ Some (Moves (Finishes k)) → hub_move before.hub ≡ Some (Finishes k)
    → AddsEntry before (host_entry host.FinishTsfn (out.Function (record { 0 = k }))) after
    → new ≡ after_finish k (length after.history) run.core → MovesPlainly run.core before new after
finished-moves n run before after new k at next move adds made = record {
  event = Moves (Finishes k);
  entry = host_entry host.FinishTsfn (out.Function (record { 0 = k }));
  env = without_root k run.core.env;
  plain = finish-event run.core before.hub k next move at.fits.stage at.fits.owned;
  adds = adds;
  made = made;
}
