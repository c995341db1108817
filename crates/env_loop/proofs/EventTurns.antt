-- The hub's events: which one is next where nothing is pending at the hub, and what it makes of a run.
use Rattle.std.proofs.Common.{◌≡◌, ◌≢◌, ◌⊎◌, inl, inr, ℕ, ◌+◌, true, false, cond, ◌&&◌, ◌||◌, List, [], ◌∷◌, ◌++◌, length, drop, refl, ap, subst, sym, ◌∙◌, Option, Some, None, is_some, length-append}
use Rattle.std.specs.Option.{option_or, option_to_list}
use Rattle.napi_types.specs.declared.call.Ask.TheVariants as ask
use Rattle.napi_types.specs.declared.duties.DueInfo.{DueInfo}
use Rattle.napi_types.specs.declared.entry.Actor.TheVariants as actor
use Rattle.napi_types.specs.declared.entry.Entry.{Entry}
use Rattle.napi_types.specs.declared.entry.HostStep.TheVariants as host
use Rattle.napi_types.specs.declared.entry.Limits.{Limits}
use Rattle.napi_types.specs.declared.entry.LoopEnd.{LoopEnd}
use Rattle.napi_types.specs.declared.entry.LoopEnd.TheVariants as loop_end
use Rattle.napi_types.specs.declared.entry.Phase.{Phase}
use Rattle.napi_types.specs.declared.entry.Phase.TheVariants as phase
use Rattle.napi_types.specs.declared.entry.What.TheVariants as what
use Rattle.napi_types.specs.parts.Frames.{Frame, duty_of, is_hub_duty}
use Rattle.napi_types.specs.scripts.Plans.{Plan, Registers}
use Rattle.napi_types.specs.environment.Environment.{Environment}
use Rattle.napi_types.specs.hub.Hub.{Hub, IsStageOf}
use Rattle.napi_types.specs.hub.HubMoves.{is_spent}
use Rattle.napi_types.specs.hub.HubSteps.{IsHubNext, hub_step, hub_along}
use Rattle.napi_types.specs.runs.Begins.{told_at}
use Rattle.napi_types.specs.runs.Choice.{local_choice, hub_choice, waiting_hooks}
use Rattle.napi_types.specs.runs.Loop.{Event, EndsLoop}
use Rattle.napi_types.specs.runs.Machine.{Machine}
use Rattle.napi_types.specs.runs.Plan.{frames_ask, after_event, with_addon_gifts}
use Rattle.napi_types.specs.runs.Setting.{Setting, opening_of}
use Rattle.napi_types.specs.runs.Step.{step, step_of, env_step, chosen, event_step, shared}
use Rattle.napi_types.proofs.hub.GrowingHistories.{along-more}
use Rattle.napi_types.proofs.runs.Chosen.{OwnChoice, exits, own-choice}
use Rattle.env_core.specs.Core.{Core}
use Rattle.shared_hub.specs.HubStates.{HubSeen, AddsEntry}
use Rattle.shared_hub.specs.KeptHubs.{IsLedHub}
use Rattle.shared_hub.specs.declared.naming.Numbers.{Numbers}
use Rattle.env_loop.specs.FollowedRuns.{IsRecordedWithPending, IsFollowed, taken_in, HasNumbers, FollowsOnAt}
use Rattle.env_loop.specs.HubTurns.{SpentAtFinals, IsMadeHubTurn, HubTurnCameTo}
use Rattle.env_loop.specs.RecordedRuns.{Run, pending_at_hub, IsRunning, FitsHub}
use Rattle.env_loop.specs.Recording.{AddonStates, machine_of, AgreesWith, HasSeen, IsOf, IsRecorded, RecordsOwn}
use Rattle.env_loop.specs.SharedEntries.{shared_step}
use Rattle.env_loop.specs.Turns.{event_turn, turn_at, turn_of, needs_hub, hub_event, hub_duty_info_of, begins_at_hub, OnlyInnermostChanges}
use Rattle.env_loop.specs.declared.run.FrameEnd.{FrameEnd}
use Rattle.env_loop.specs.declared.run.HubTurn.{HubTurn}
use Rattle.env_loop.specs.declared.run.HubTurn.TheVariants as hub_turn
use Rattle.env_loop.specs.declared.turn.LocalTurn.TheVariants as turn
use Rattle.env_loop.proofs.Finals.{spent-unless}
use Rattle.env_loop.proofs.HubGoing.{hub-is, IsRecordedAtHub, goes-at-hub}
use Rattle.env_loop.proofs.LocalGoing.{if_some-none}
use Rattle.env_loop.proofs.RegisterTurns.{Kept}
use Rattle.env_loop.proofs.SeenLists.{seen-same}
use Rattle.env_loop.proofs.SharedEntries.{entries-recorded}
use Rattle.env_loop.proofs.Turns.{IsIdleRun, idle-run}

-- WHERE NOTHING IS OWED
-- the run rests: no frame stands, no call is awaited, and no frame is to end
pub record AtRest (run : Run) : Type 0 where
  pub frames : run.core.env.frames ≡ []
  pub awaited : run.core.awaited ≡ None
  pub ending : run.ending ≡ None
  pub unowed : pending_at_hub run ≡ false

pub needs-none : (fs : List Frame) (e : Environment) → turn_at fs e ≡ turn.NeedsHub → fs ≡ []
needs-none [] e h = refl
needs-none (f ∷ fs) e h = cc

unowed-needs : (run : Run) → pending_at_hub run ≡ false → needs_hub run → turn_of run.core.env ≡ turn.NeedsHub
unowed-needs run unowed needs = sym (ap (λ b. cond b turn.NeedsHub (turn_of run.core.env)) unowed) ∙ needs

pub rests : (run : Run) → IsRunning run.core run.begun run.ending → pending_at_hub run ≡ false → run.core.env.frames ≡ [] → AtRest run
rests run running unowed alone =
    let idle : IsIdleRun run.core run.begun run.ending = idle-run run running unowed alone in
    record { frames = alone; awaited = idle.awaited; ending = idle.ended; unowed = unowed }

-- where no call is awaited and no frame is to end, nothing is pending
pub owes-nothing : (run : Run) → run.core.awaited ≡ None → run.ending ≡ None → pending_at_hub run ≡ false
owes-nothing run awaited ending =
    ap (λ o. is_some o || (is_some run.ending && is_hub_duty (duty_of run.core.env.frames))) awaited
    ∙ ap (λ (o : Option FrameEnd). is_some o && is_hub_duty (duty_of run.core.env.frames)) ending

-- WHICH EVENT IS NEXT
-- the environment decides none, or that the loop ends
event-needs : (o : Option Event) (p : Phase) → event_turn o p ≡ turn.NeedsHub → (o ≡ None) ⊎ ((w : LoopEnd) × (o ≡ Some (EndsLoop w)))
event-needs None p h = inl refl
event-needs (Some (EndsLoop w)) p h = inr (w, refl)
event-needs (Some _) p h = cc

local-needs : (run : Run) → AtRest run → needs_hub run → event_turn (local_choice run.core.env) run.core.env.phase ≡ turn.NeedsHub
local-needs run rest needs = sym (ap (λ fs. turn_at fs run.core.env) rest.frames) ∙ unowed-needs run rest.unowed needs

-- it ends the loop in the loop alone, and then because exit was asked
ends-live : (e : Environment) (p : Phase) (w : LoopEnd) → OwnChoice e p (EndsLoop w) → (p ≡ phase.Live) × (w ≡ loop_end.Exit)
ends-live e _ _ (exits asked) = (refl, refl)

pub none-local : (e : Environment) → event_turn (local_choice e) e.phase ≡ turn.NeedsHub → e.phase ≢ phase.Live → local_choice e ≡ None
none-local e needs other = by (event-needs (local_choice e) e.phase needs)
  where
    by : (local_choice e ≡ None) ⊎ ((w : LoopEnd) × (local_choice e ≡ Some (EndsLoop w))) → local_choice e ≡ None
    by (inl none) = none
    by (inr ends) = absurd (other (ends-live e e.phase ends.0 (own-choice e e.phase (EndsLoop ends.0) ends.1)).0)

pub none-unasked : (e : Environment) → event_turn (local_choice e) e.phase ≡ turn.NeedsHub → local_choice e ≢ Some (EndsLoop loop_end.Exit)
    → local_choice e ≡ None
none-unasked e needs unasked = by (event-needs (local_choice e) e.phase needs)
  where
    by : (local_choice e ≡ None) ⊎ ((w : LoopEnd) × (local_choice e ≡ Some (EndsLoop w))) → local_choice e ≡ None
    by (inl none) = none
    by (inr ends) =
        absurd (unasked (ends.1 ∙ ap (λ w. Some (EndsLoop w)) (ends-live e e.phase ends.0 (own-choice e e.phase (EndsLoop ends.0) ends.1)).1))

-- where it decides none, the next event is the hub's choice
pub of-hub : (e : Environment) (h : Hub) → local_choice e ≡ None → hub_event e h ≡ hub_choice h (waiting_hooks e)
of-hub e h none = ap (λ o. option_or o (hub_choice h (waiting_hooks e))) none

-- A TURN AT THE HUB
-- what is known of a run and its hub where nothing is pending and the hub is needed
pub record AtHub (n : Numbers) (run : Run) (seen : HubSeen) : Type 0 where
  pub running : IsRunning run.core run.begun run.ending
  pub rest : AtRest run
  pub needs : event_turn (local_choice run.core.env) run.core.env.phase ≡ turn.NeedsHub
  pub led : IsLedHub n seen
  pub fits : FitsHub run seen

pub at-hub : (n : Numbers) (run old : Run) (seen : HubSeen) → run ≡ old → IsRunning run.core run.begun run.ending → pending_at_hub old ≡ false → needs_hub old
    → IsLedHub n seen → FitsHub old seen → AtHub n run seen
at-hub n run old seen same running unowed needs led fits =
    let fits_here : FitsHub run seen = subst (λ (r : Run). FitsHub r seen) (sym same) fits in
    let needs_here : needs_hub run = subst (λ (r : Run). needs_hub r) (sym same) needs in
    let unowed_here : pending_at_hub run ≡ false = ap pending_at_hub same ∙ unowed in
    let rest : AtRest run = rests run running unowed_here (needs-none run.core.env.frames run.core.env (unowed-needs run unowed_here needs_here)) in
    record { running = running; rest = rest; needs = local-needs run rest needs_here; led = led; fits = fits_here }

pub far-in : (n : Numbers) (run : Run) (seen : HubSeen) (p : Phase) → AtHub n run seen → run.core.env.phase ≡ p → IsStageOf p seen.hub.stage
far-in n run seen p at here = subst (λ q. IsStageOf q seen.hub.stage) here at.fits.stage

-- WHAT AN EVENT IS
-- the registers after it: the gifts of the duty go to the addon whose frame it begins, where it begins one
abbrev pub given_to : Registers → Option DueInfo → Registers
given_to rss None = rss
given_to rss (Some d) = with_addon_gifts rss d.addon d.gifts

-- an event of the hub where no frame stands: it is the next one, the environment makes its entry, it leaves this environment, and it begins the frame of
-- this duty, or of none
pub record IsEvent (core : Core) (h : Hub) (v : Event) (x : Entry) (e : Environment) (told : Option DueInfo) : Type 0 where
  pub next : hub_event core.env h ≡ Some v
  pub by : x.actor ≡ actor.Env
  pub made : (l : Limits) (history : List Entry) → event_step (machine_of l core h history) v ≡ shared (machine_of l core h history) (hub_step h x) e true
  pub tells : (l : Limits) (history : List Entry) → told_at (machine_of l core h history) x.reply.out ≡ told
  pub given : (l : Limits) (history : List Entry) (ps : List Plan) (rss : Registers)
      → after_event ps rss (machine_of l core h history) (ask.Leave None) x.reply x.what ≡ given_to rss told
  pub begins : hub_duty_info_of (Some v) ≡ told
  pub spent : x.what ≡ what.Host host.Finals → is_spent h ≡ true

-- what the addons keep and see where the frame of this duty begins, or of none
pub record TakesIn (addons : ℕ) (all : AddonStates) (told : Option DueInfo) (now : AddonStates) : Type 0 where
  pub kept : (ps : List Plan) (own : Registers) → length ps ≡ addons → length own ≡ length ps → AgreesWith ps all.registers own
      → Kept ps now.registers (given_to own told)
  pub seen : HasSeen all.seen (option_to_list told) now.seen
  pub others : drop addons now.registers ≡ drop addons all.registers

pub takes-none : (addons : ℕ) (all : AddonStates) → TakesIn addons all None all
takes-none addons all = record {
  kept = λ ps own many count agrees. record { count = count; agrees = agrees };
  seen = seen-same all.seen all.seen refl;
  others = refl;
}

-- the run after it
abbrev pub after_hub_event : Run → Environment → ℕ → Option DueInfo → Run
after_hub_event old e position begun = record old { core = record old.core { env = e; position = position }; begun = begun }

shared-is : (m : Machine) (x : Entry) (e : Environment) → IsHubNext m.hub x → shared m (hub_step m.hub x) e true ≡ shared_step m x (hub_step m.hub x).after e
shared-is m x e next =
    ap (λ y. record (shared_step m x (hub_step m.hub x).after e) { entry = y; may = (hub_step m.hub x).may }) (sym next.entry)
    ∙ ap (λ b. record (shared_step m x (hub_step m.hub x).after e) { may = b }) next.may

-- WHAT IT MAKES OF A RUN
module _ (n : Numbers) (old : Run) (before after : HubSeen) (all now : AddonStates) (v : Event) (x : Entry) (e : Environment) (told begun : Option DueInfo)
    (rest : AtRest old) (led : IsLedHub n before) (adds : AddsEntry before x after) (event : IsEvent old.core before.hub v x e told)
    (takes : TakesIn old.core.env.addons all told now) where
  event-step : (l : Limits) → step (machine_of l old.core before.hub before.history) (ask.Leave None) x
      ≡ shared_step (machine_of l old.core before.hub before.history) x (hub_step before.hub x).after e
  event-step l =
      let m : Machine = machine_of l old.core before.hub before.history in
      ap (step_of m (ask.Leave None) x) event.by ∙ ap (env_step m (ask.Leave None) x.reply.out) rest.frames ∙ ap (chosen m) event.next
      ∙ event.made l before.history ∙ shared-is m x e adds.next

  event-grown : (s : Setting) (firsts : List (List DueInfo)) → IsOf s s.plans old.core
      → IsRecorded s (taken_in before.history old).core before.hub before.history all firsts
      → RecordsOwn s (record old.core { env = e; position = length before.history + 1 }) (hub_step before.hub x).after (before.history ++ x ∷ []) now firsts
  event-grown s firsts of r =
      let kept : Kept s.plans now.registers (given_to r.own told) = takes.kept s.plans r.own of.count r.count r.agrees in
      let seen : HasSeen all.seen (option_to_list (told_at (machine_of s.limits old.core before.hub before.history) x.reply.out)) now.seen =
      subst (λ d. HasSeen all.seen (option_to_list d) now.seen) (sym (event.tells s.limits before.history)) takes.seen in
      entries-recorded s (taken_in before.history old).core before.hub (hub_step before.hub x).after before.history all now firsts r (ask.Leave None) x e
      (given_to r.own told) (event-step s.limits) event.by (sym (ap (λ fs. frames_ask s.plans r.own fs (ask.Leave None)) rest.frames))
      (event.given s.limits before.history s.plans r.own) kept.count kept.agrees seen

  -- the core is then this one, where the history has this length
  abbrev core_at : ℕ → Core
  core_at position = record old.core { env = e; position = position }

  event-recorded : (s : Setting) (firsts : List (List DueInfo)) → HasNumbers s n → IsOf s s.plans old.core
      → IsRecordedWithPending s (taken_in before.history old) before.history all firsts
      → IsRecordedAtHub s (after_hub_event old e (length after.history) begun) after.history now firsts
  event-recorded s firsts numbers of r =
      let start : Hub = (opening_of s).hub in
      let xs : List Entry = before.history ++ x ∷ [] in
      let led_to : hub_along start before.history ≡ before.hub = hub-is n s before led numbers in
      let longer : length before.history + 1 ≡ length after.history = sym (length-append before.history (x ∷ [])) ∙ sym (ap length adds.history) in
      let here : (hub_step before.hub x).after ≡ hub_along start xs = sym (along-more start before.history x ∙ ap (λ h. (hub_step h x).after) led_to) in
      let grown : RecordsOwn s (core_at (length before.history + 1)) (hub_step before.hub x).after xs now firsts =
      event-grown s firsts of (subst (λ h. IsRecorded s (taken_in before.history old).core h before.history all firsts) led_to r.recorded) in
      let whole : RecordsOwn s (core_at (length after.history)) (hub_along start after.history) after.history now firsts =
      subst (λ ys. RecordsOwn s (core_at (length after.history)) (hub_along start ys) ys now firsts) (sym adds.history)
      (subst (λ h. RecordsOwn s (core_at (length after.history)) h xs now firsts) here
      (subst (λ k. RecordsOwn s (core_at k) (hub_step before.hub x).after xs now firsts) longer grown)) in
      record {
        joined = record { recorded = whole.recorded; owed = record { call = if_some-none _ rest.awaited; end = if_some-none _ rest.ending } };
        own = λ none. whole.own;
      }

  pub event-turn : (plans : List Plan) → e.addons ≡ old.core.env.addons → FitsHub (after_hub_event old e (length after.history) begun) after
      → OnlyInnermostChanges old.core.env.frames e.frames all.registers now.registers
      → IsMadeHubTurn n plans old before all (after_hub_event old e (length after.history) begun) after now
  event-turn plans addons fits untouched =
      let next : begins_at_hub old before.hub ≡ told =
      ap (λ b. cond b None (hub_duty_info_of (hub_event old.core.env before.hub))) rest.unowed ∙ ap hub_duty_info_of event.next ∙ event.begins in
      record {
        made = record { entry = x; by = event.by; adds = adds };
        answered = rest.awaited;
        ended = rest.ending;
        someone = inr (λ none. let same : Some v ≡ None = sym event.next ∙ none in cc);
        kept = record { journal = refl; addons = addons; limit = refl };
        fits = fits;
        others = takes.others;
        untouched = untouched;
        seen = subst (λ d. HasSeen all.seen (option_to_list d) now.seen) (sym next) takes.seen;
        fitted = if_some-none _ rest.awaited;
        spent = subst (λ h. SpentAtFinals before.hub h) (sym adds.hub) (spent-unless before.hub x adds.next event.spent);
        goes = goes-at-hub n plans old (after_hub_event old e (length after.history) begun) before after all now led
            (λ s firsts numbers of r. event-recorded s firsts numbers (record { count = of.count; first = λ addon below. refl }) r);
      }

-- WHATEVER THE TURN COMES TO
-- a run that was followed goes on
pub turn-goes : (n : Numbers) (t : HubTurn) (plans : List Plan) (old : Run) (before : HubSeen) (all : AddonStates) (new : Run) (after : HubSeen)
    (now : AddonStates)
    → HubTurnCameTo n t plans old before all new after now → FollowsOnAt n plans old before.history all new after.history now
turn-goes n hub_turn.Made plans old before all new after now m = m.goes
turn-goes n (hub_turn.Cut w) plans old before all new after now m = m.goes
turn-goes n hub_turn.Nothing plans old before all new after now m = λ s firsts numbers of f.
    subst (λ r. IsFollowed s r after.history now firsts) (sym m.run)
    (subst (λ (h : HubSeen). IsFollowed s old h.history now firsts) (sym m.hub) (subst (λ a. IsFollowed s old before.history a firsts) (sym m.addons) f))
