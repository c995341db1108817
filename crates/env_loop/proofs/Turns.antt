-- A turn where no frame stands, and the events that the environment makes alone.
use Rattle.std.proofs.Common.{◌≡◌, ◌<◌, ℕ, nat_lt, Bool, true, false, cond, List, [], ◌∷◌, refl, ap, subst, sym, ◌∙◌, arith, Option, Some, None, option_map, IfSome}
use Rattle.std.specs.Option.{option_or}
use Rattle.std.proofs.lemmas.Bool.{ltb-true}
use Rattle.napi_types.specs.declared.duties.DueInfo.{DueInfo}
use Rattle.napi_types.specs.declared.entry.LoopEnd.TheVariants as loop_end
use Rattle.napi_types.specs.declared.entry.Phase.{Phase}
use Rattle.napi_types.specs.declared.entry.Phase.TheVariants as phase
use Rattle.napi_types.specs.parts.Book.{lowest_due}
use Rattle.napi_types.specs.parts.Duties.{duties_of}
use Rattle.napi_types.specs.parts.Frames.{Frame, duty_of}
use Rattle.napi_types.specs.scripts.Plans.{Plan}
use Rattle.napi_types.specs.environment.Changes.{Change, init_change, gone_change}
use Rattle.napi_types.specs.environment.Environment.{Environment}
use Rattle.napi_types.specs.environment.Tickets.{ticket_in}
use Rattle.napi_types.specs.runs.Choice.{local_choice, local_choice_in}
use Rattle.napi_types.specs.runs.Loop.{Event, Opens, Inits, Tickets, IsGone, EndsLoop}
use Rattle.napi_types.proofs.environment.HookedSteps.{hooked-init, hooked-gone}
use Rattle.napi_types.proofs.environment.Owners.{owned-init, within-init}
use Rattle.napi_types.proofs.environment.StandingFrames.{nested-init}
use Rattle.env_core.specs.Core.{Core, after_change}
use Rattle.env_loop.specs.declared.run.FrameEnd.{FrameEnd}
use Rattle.env_loop.specs.Recording.{AddonStates, KeepsRecord}
use Rattle.env_loop.specs.RecordedRuns.{Run, IsSoundEnvironment, IsPendingEnd, HoldsDuty, IsRunning, hub_begun, pending_at_hub}
use Rattle.env_loop.specs.Turns.{ticket_info_of, IsMadeTurn}
use Rattle.env_loop.proofs.LocalGoing.{local-goes, KeepsStages, stages-same}
use Rattle.env_loop.proofs.MadeTurns.{unowed-idle, made-turn}
use Rattle.env_loop.proofs.RegisterTurns.{none-touched}
use Rattle.env_loop.proofs.Recordings.{init-grown, gone_change-grown}
use Rattle.env_loop.proofs.SeenLists.{begins-chosen, seen-stays}

-- WHERE NO FRAME STANDS
-- no duty has begun that has not ended
pub none-held : (fs : List Frame) (begun : Option DueInfo) → HoldsDuty fs begun → fs ≡ [] → begun ≡ None
none-held fs None held alone = refl
none-held fs (Some d) held alone = let no : [] ≡ d.duty ∷ [] = sym (ap duties_of alone) ∙ held in cc

-- a run of which no frame stands, and which has nothing pending
pub record IsIdleRun (core : Core) (begun : Option DueInfo) (ending : Option FrameEnd) : Type 0 where
  pub sound : IsSoundEnvironment core.env
  pub alone : core.env.frames ≡ []
  pub awaited : core.awaited ≡ None
  pub ended : ending ≡ None
  pub none : begun ≡ None

none-ending : (e : Environment) (o : Option FrameEnd) → IfSome o (IsPendingEnd e) → e.frames ≡ [] → o ≡ None
none-ending e None owed alone = refl
none-ending e (Some how) owed alone = absurd (owed.stands alone)

pub idle-run : (run : Run) → IsRunning run.core run.begun run.ending → pending_at_hub run ≡ false → run.core.env.frames ≡ []
    → IsIdleRun run.core run.begun run.ending
idle-run run runs unowed alone = record {
  sound = runs.sound;
  alone = alone;
  awaited = unowed-idle run unowed;
  ended = none-ending run.core.env run.ending runs.ends alone;
  none = none-held run.core.env.frames run.begun runs.held alone;
}

-- the same of a run as it is seen
pub idle-seen : (inside old : Run) → inside ≡ old → IsRunning inside.core inside.begun inside.ending → pending_at_hub old ≡ false → old.core.env.frames ≡ []
    → IsIdleRun inside.core inside.begun inside.ending
idle-seen inside old same runs unowed alone = idle-run inside runs (ap pending_at_hub same ∙ unowed) (ap (λ (r : Run). r.core.env.frames) same ∙ alone)

-- WHICH EVENT IS NEXT
-- the init frame of an addon is, in the first phase, where one is to come
pub record NextInit (e : Environment) (i : ℕ) : Type 0 where
  pub here : e.phase ≡ phase.Init
  pub opened : e.opened ≡ true
  pub more : nat_lt e.inits e.addons ≡ true
  pub next : i ≡ e.inits

first-init : (e : Environment) (opened more : Bool) (i : ℕ) → e.phase ≡ phase.Init → e.opened ≡ opened → nat_lt e.inits e.addons ≡ more
    → cond opened (cond more (Some (Inits e.inits)) None) (Some Opens) ≡ Some (Inits i) → NextInit e i
first-init e true true i here opened more is = record { here = here; opened = opened; more = more; next = cc }
first-init e true false i here opened more is = cc
first-init e false more i here opened same is = cc

no-init-asked : (asked : Bool) (o : Option ℕ) (i : ℕ) → cond asked (Some (EndsLoop loop_end.Exit)) (option_map Tickets o) ≡ Some (Inits i) → ⊥
no-init-asked true o i is = cc
no-init-asked false None i is = cc
no-init-asked false (Some n) i is = cc

no-init-last : (o : Option ℕ) (i : ℕ) → option_or (option_map Tickets o) (Some IsGone) ≡ Some (Inits i) → ⊥
no-init-last None i is = cc
no-init-last (Some n) i is = cc

init-in : (e : Environment) (p : Phase) (i : ℕ) → e.phase ≡ p → local_choice_in e p ≡ Some (Inits i) → NextInit e i
init-in e phase.Init i here is = first-init e e.opened (nat_lt e.inits e.addons) i here refl refl is
init-in e phase.Live i here is = absurd (no-init-asked e.exit_asked (lowest_due e.book) i is)
init-in e phase.Hooks i here is = absurd (no-init-asked false (ticket_in e phase.Hooks) i is)
init-in e phase.Drain i here is = cc
init-in e phase.Finals i here is = absurd (no-init-last (lowest_due e.book) i is)
init-in e phase.Gone i here is = cc

pub next-init-is : (e : Environment) (i : ℕ) → local_choice e ≡ Some (Inits i) → NextInit e i
next-init-is e i is = init-in e e.phase i refl is

pub next-init-there : (e : Environment) (i : ℕ) → NextInit e i → i < e.addons
next-init-there e i n = omega (arith, ltb-true e.inits e.addons n.more, n.next)

-- the environment is gone after `finals`, where no ticket is due
gone-opened : (opened more : Bool) (k : ℕ) → cond opened (cond more (Some (Inits k)) None) (Some Opens) ≡ Some IsGone → ⊥
gone-opened true true k is = cc
gone-opened true false k is = cc
gone-opened false more k is = cc

gone-asked : (asked : Bool) (o : Option ℕ) → cond asked (Some (EndsLoop loop_end.Exit)) (option_map Tickets o) ≡ Some IsGone → ⊥
gone-asked true o is = cc
gone-asked false None is = cc
gone-asked false (Some n) is = cc

gone-last : (o : Option ℕ) → option_or (option_map Tickets o) (Some IsGone) ≡ Some IsGone → o ≡ None
gone-last None is = refl
gone-last (Some n) is = cc

pub record NextGone (e : Environment) : Type 0 where
  pub here : e.phase ≡ phase.Finals
  pub none : lowest_due e.book ≡ None

gone-in : (e : Environment) (p : Phase) → e.phase ≡ p → local_choice_in e p ≡ Some IsGone → NextGone e
gone-in e phase.Init here is = absurd (gone-opened e.opened (nat_lt e.inits e.addons) e.inits is)
gone-in e phase.Live here is = absurd (gone-asked e.exit_asked (lowest_due e.book) is)
gone-in e phase.Hooks here is = absurd (gone-asked false (ticket_in e phase.Hooks) is)
gone-in e phase.Drain here is = cc
gone-in e phase.Finals here is = record { here = here; none = gone-last (lowest_due e.book) is }
gone-in e phase.Gone here is = cc

pub next-gone-is : (e : Environment) → local_choice e ≡ Some IsGone → NextGone e
next-gone-is e is = gone-in e e.phase refl is

-- ITS TURN
-- a turn that writes down a change which begins no duty's frame
module _ (ps : List Plan) (old : Run) (all : AddonStates) (idle : IsIdleRun old.core old.begun old.ending) where
  alone-turn : (new : Run) (change : Change) (o : Option Event) → local_choice old.core.env ≡ o → ticket_info_of old.core.env o ≡ None
      → new ≡ record old { core = after_change change old.core }
      → duty_of change.after.frames ≡ None → change.after.addons ≡ old.core.env.addons → KeepsStages old.core.env.phase change.after.phase
      → KeepsRecord ps old.core all (after_change change old.core) all
      → IsMadeTurn ps old all new all
  alone-turn new change o chosen silent made plain addons stages goes =
      let is : new.core ≡ after_change change old.core = ap (λ (r : Run). r.core) made in
      let unended : new.ending ≡ None = ap (λ (r : Run). r.ending) made ∙ idle.ended in
      let C : Core → Type 0 = λ c. KeepsRecord ps old.core all c all in
      made-turn ps old new all all change is idle.awaited unended (ap (λ (r : Run). hub_begun r.begun) made) addons stages refl
      (none-touched old.core.env.frames change.after.frames all.registers idle.alone plain)
      (seen-stays old.core.env all.seen all.seen (begins-chosen old.core.env o idle.alone chosen ∙ silent) refl)
      (local-goes ps old new all all (subst C (sym is) goes) idle.ended (ap (λ (c : Core). c.awaited) is ∙ idle.awaited) unended)

  -- the next init frame begins
  pub init-turn : (new : Run) (i : ℕ) → local_choice old.core.env ≡ Some (Inits i)
      → new ≡ record old { core = after_change (init_change i old.core.env) old.core }
      → IsMadeTurn ps old all new all
  init-turn new i chosen made =
      let n : NextInit old.core.env i = next-init-is old.core.env i chosen in
      let R : ℕ → Type 0 = λ k. KeepsRecord ps old.core all (after_change (init_change k old.core.env) old.core) all in
      alone-turn new (init_change i old.core.env) (Some (Inits i)) chosen refl made refl refl (λ s is. is)
      (subst R (sym n.next) (λ s hub history firsts of r. init-grown s old.core hub history all firsts r idle.alone n.here n.opened n.more))

  -- the environment is gone
  pub gone_change-turn : (new : Run) → local_choice old.core.env ≡ Some IsGone → new ≡ record old { core = after_change (gone_change old.core.env) old.core }
      → IsMadeTurn ps old all new all
  gone_change-turn new chosen made =
      let n : NextGone old.core.env = next-gone-is old.core.env chosen in
      alone-turn new (gone_change old.core.env) (Some IsGone) chosen refl made (ap duty_of idle.alone) refl
      (stages-same old.core.env.phase phase.Finals (sym n.here))
      (λ s hub history firsts of r. gone_change-grown s old.core hub history all firsts r idle.alone n.here n.none)

-- WHAT IT KEEPS
pub sound-init : (e : Environment) (i : ℕ) → IsSoundEnvironment e → e.frames ≡ [] → NextInit e i → IsSoundEnvironment (init_change i e).after
sound-init e i sound alone n = record {
  opened = sound.opened;
  owned = owned-init e.addons e i (next-init-there e i n) sound.owned;
  asks = within-init e i sound.asks;
  nested = nested-init i e alone;
  uncalled = sound.uncalled;
  hooked = hooked-init i e sound.hooked;
  gone = λ g. let z : phase.Init ≡ phase.Gone = sym n.here ∙ g in cc;
}

pub sound-gone : (e : Environment) → IsSoundEnvironment e → e.frames ≡ [] → IsSoundEnvironment (gone_change e).after
sound-gone e sound alone = record {
  opened = sound.opened;
  owned = record { frames = sound.owned.frames; functions = sound.owned.functions; tickets = sound.owned.tickets };
  asks = sound.asks;
  nested = sound.nested;
  uncalled = sound.uncalled;
  hooked = hooked-gone e sound.hooked;
  gone = λ g. alone;
}

-- AS IT IS SEEN
-- the turn of a run as it is seen
pub turn-seen : (ps : List Plan) (all now : AddonStates) (inside old new : Run) → inside ≡ old → IsMadeTurn ps inside all new now
    → IsMadeTurn ps old all new now
turn-seen ps all now inside old new same turn = let P : Run → Type 0 = λ r. IsMadeTurn ps r all new now in subst P same turn
