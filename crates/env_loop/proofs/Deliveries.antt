-- The frame of a duty of the hub begins: what that makes of a run.
use Rattle.std.proofs.Common.{◌≡◌, ◌≢◌, ◌<◌, ◌≤◌, ℕ, true, false, cond, List, [], ◌∷◌, length, refl, ap, subst, sym, ◌∙◌, arith, Option, Some, None}
use Rattle.std.proofs.lemmas.List.Elements.{All-cons}
use Rattle.napi_types.specs.declared.call.Ask.TheVariants as ask
use Rattle.napi_types.specs.declared.duties.DueInfo.{DueInfo}
use Rattle.napi_types.specs.declared.entry.Entry.{Entry}
use Rattle.napi_types.specs.declared.entry.HostStep.TheVariants as host
use Rattle.napi_types.specs.declared.entry.Limits.{Limits}
use Rattle.napi_types.specs.declared.entry.Phase.TheVariants as phase
use Rattle.napi_types.specs.parts.Duties.{duties_of}
use Rattle.napi_types.specs.parts.Frames.{Frame, is_hub_duty, frame_of_duty, begin_told, most_asks}
use Rattle.napi_types.specs.scripts.Plans.{Plan}
use Rattle.napi_types.specs.environment.Environment.{Environment}
use Rattle.napi_types.specs.environment.SharedCalls.{after_delivery}
use Rattle.napi_types.specs.hub.Hub.{Hub, IsStageOf}
use Rattle.napi_types.specs.hub.HubEvents.{delivery_entry, begin_step}
use Rattle.napi_types.specs.hub.HubMoves.{Delivers, hub_move}
use Rattle.napi_types.specs.hub.HubOwners.{IsOwnedHub}
use Rattle.napi_types.specs.runs.Begins.{told_at, duty_info, delivered_info}
use Rattle.napi_types.specs.runs.Loop.{Moves}
use Rattle.napi_types.specs.runs.Machine.{Machine}
use Rattle.napi_types.specs.runs.Plan.{with_begun_gifts}
use Rattle.napi_types.specs.declared.entry.Cause.TheVariants as cause
use Rattle.napi_types.specs.declared.entry.Duty.{Duty}
use Rattle.napi_types.specs.declared.entry.Duty.TheVariants as duty
use Rattle.napi_types.proofs.environment.Owners.{Below}
use Rattle.napi_types.proofs.hub.HubOwners.{event-owned, MoveOwned, move-owned}
use Rattle.napi_types.proofs.environment.StandingFrames.{nested-first}
use Rattle.napi_types.proofs.hub.HubDuties.{delivery-of_hub}
use Rattle.napi_types.proofs.hub.HubHolds.{duty-stage}
use Rattle.env_core.specs.Core.{Core}
use Rattle.env_core.specs.Sharing.{after_hub_begin}
use Rattle.shared_hub.specs.HubStates.{HubSeen, AddsEntry}
use Rattle.shared_hub.specs.declared.naming.Numbers.{Numbers}
use Rattle.env_loop.specs.HubTurns.{IsMadeHubTurn, DeliversAt}
use Rattle.env_loop.specs.RecordedRuns.{Run, pending_at_hub, IsSoundEnvironment, IsRunning, FitsHub}
use Rattle.env_loop.specs.Recording.{AddonStates, machine_of}
use Rattle.env_loop.specs.Turns.{hub_event}
use Rattle.env_loop.proofs.EventTurns.{AtRest, rests, AtHub, IsEvent, TakesIn, after_hub_event, event-turn}
use Rattle.env_loop.proofs.MadeTurns.{running-idle}
use Rattle.env_loop.proofs.RegisterTurns.{given-kept, given-others, others-given, begun-touched}
use Rattle.env_loop.proofs.SeenLists.{seen-begun}

-- WHICH DUTY
-- its addon is one of the script
pub delivered-there : (addons : ℕ) (h : Hub) (d : DueInfo) → IsOwnedHub addons h → hub_move h ≡ Some (Delivers d) → d.addon < addons
delivered-there addons h d owned next = subst (λ o. MoveOwned addons o) next (move-owned addons h owned)

-- the machine tells it as the one that begins
duty-told : (m : Machine) (d : Duty) → is_hub_duty (Some d) ≡ true → duty_info m (Some d) ≡ delivered_info (hub_move m.hub)
duty-told m (duty.Ticket t) ours = cc
duty-told m _ ours = refl

-- WHAT BEGINS
pub delivery-event : (core : Core) (h : Hub) (d : DueInfo) → hub_event core.env h ≡ Some (Moves (Delivers d)) → hub_move h ≡ Some (Delivers d)
    → IsEvent core h (Moves (Delivers d)) (delivery_entry d) (after_delivery d core.env) (Some d)
delivery-event core h d next move =
    let tells : (l : Limits) (history : List Entry) → told_at (machine_of l core h history) (begin_told (frame_of_duty d)) ≡ Some d =
    λ l history. duty-told (machine_of l core h history) d.duty (delivery-of_hub h d move).ours ∙ ap delivered_info move in
    record {
      next = next;
      by = refl;
      made = λ l history. refl;
      tells = tells;
      given = λ l history ps rss. ap (with_begun_gifts rss core.env.heap (ask.Leave None)) (tells l history);
      begins = refl;
      spent = λ z. cc;
    }

-- the addons that are there are given what it tells
pub delivery-takes : (addons position : ℕ) (old new : Run) (all now : AddonStates) (d : DueInfo) → d.addon < addons
    → addons ≤ length all.registers → addons ≤ length all.seen → DeliversAt d position old all new now → TakesIn addons all (Some d) now
delivery-takes addons position old new all now d there registers seen delivers =
    let inside : d.addon < length all.registers = omega (arith, there, registers) in
    record {
      kept = λ ps own many count agrees.
          given-kept ps all.registers own now.registers d.addon d.gifts count agrees (omega (arith, there, many)) inside delivers.registers;
      seen = seen-begun all.seen now.seen d (omega (arith, there, seen)) delivers.seen;
      others = given-others addons all.registers now.registers d.addon d.gifts there delivers.registers;
    }

-- the environment stays sound
sound-delivery : (e : Environment) (d : DueInfo) → e.frames ≡ [] → d.cause ≢ cause.Call → d.addon < e.addons → e.phase ≢ phase.Gone → IsSoundEnvironment e
    → IsSoundEnvironment (after_delivery d e)
sound-delivery e d alone uncalled there lasts s = record {
  opened = s.opened;
  owned = record {
    frames = All-cons (Below e.addons) (frame_of_duty d) e.frames there s.owned.frames;
    functions = s.owned.functions;
    tickets = s.owned.tickets;
  };
  asks = All-cons (λ (f : Frame). f.asks ≤ most_asks) (frame_of_duty d) e.frames (omega arith) s.asks;
  nested = nested-first (frame_of_duty d) e.frames alone uncalled;
  uncalled = s.uncalled;
  hooked = record {
    rise = s.hooked.rise;
    hooks = s.hooked.hooks;
    others = s.hooked.others;
    attached = s.hooked.attached;
    instances = s.hooked.instances;
    reactions = s.hooked.reactions;
    async = s.hooked.async;
  };
  gone = λ g. absurd (lasts g);
}

-- and the run is running
pub delivered-running : (run old : Run) (new : Core) (begun : Option DueInfo) (d info started : DueInfo) (position : ℕ) → run ≡ old
    → IsRunning run.core run.begun run.ending → pending_at_hub old ≡ false → old.core.env.frames ≡ [] → d.cause ≢ cause.Call → d.addon < old.core.env.addons
    → old.core.env.phase ≢ phase.Gone → new ≡ after_hub_begin info position run.core → info ≡ d → begun ≡ Some started → started ≡ d
    → IsRunning new begun run.ending
delivered-running run old new begun d info started position same running unowed alone uncalled there lasts made told is begins =
    let rest : AtRest run = rests run running (ap pending_at_hub same ∙ unowed) (ap (λ (r : Run). r.core.env.frames) same ∙ alone) in
    let there_here : d.addon < run.core.env.addons = subst (λ (r : Run). d.addon < r.core.env.addons) (sym same) there in
    let lasts_here : run.core.env.phase ≢ phase.Gone = λ gone. lasts (ap (λ (r : Run). r.core.env.phase) (sym same) ∙ gone) in
    let moved : new ≡ after_hub_begin d position run.core = made ∙ ap (λ i. after_hub_begin i position run.core) told in
    subst (λ c. IsRunning c begun run.ending) (sym moved) (subst (λ b. IsRunning (after_hub_begin d position run.core) b run.ending) (sym (is ∙ ap Some begins))
    (running-idle (after_hub_begin d position run.core) (Some d) run.ending
    (sound-delivery run.core.env d rest.frames uncalled there_here lasts_here running.sound) (ap (λ fs. d.duty ∷ duties_of fs) rest.frames)
    rest.awaited rest.ending))

-- A TURN
-- the hub made the begin of the frame of this duty
pub record DeliversNext (run : Run) (before after : HubSeen) (d : DueInfo) : Type 0 where
  pub next : hub_event run.core.env before.hub ≡ Some (Moves (Delivers d))
  pub move : hub_move before.hub ≡ Some (Delivers d)
  pub adds : AddsEntry before (delivery_entry d) after

turn-of_delivery : (n : Numbers) (plans : List Plan) (run new : Run) (before after : HubSeen) (all now : AddonStates) (d : DueInfo) → AtHub n run before
    → hub_event run.core.env before.hub ≡ Some (Moves (Delivers d)) → hub_move before.hub ≡ Some (Delivers d) → AddsEntry before (delivery_entry d) after
    → run.core.env.addons ≤ length all.registers → run.core.env.addons ≤ length all.seen → DeliversAt d (length after.history) run all new now
    → IsMadeHubTurn n plans run before all new after now
turn-of_delivery n plans run new before after all now d at next move adds registers seen delivers =
    let h : Hub = before.hub in
    let x : Entry = delivery_entry d in
    let there : d.addon < run.core.env.addons = delivered-there run.core.env.addons h d at.fits.owned move in
    let ours : is_hub_duty (Some d.duty) ≡ true = (delivery-of_hub h d move).ours in
    let fits : FitsHub (after_hub_event run (after_delivery d run.core.env) (length after.history) (Some d)) after = record {
      stage =
          subst (IsStageOf run.core.env.phase) (sym (ap (λ (k : Hub). k.stage) adds.hub ∙ ap (λ o. (begin_step h x o).after.stage) move ∙ duty-stage d.duty h))
          at.fits.stage;
      standing = ap (λ (k : Hub). k.standing) adds.hub ∙ ap (λ o. (begin_step h x o).after.standing) move ∙ sym (ap (λ b. cond b (Some d) None) ours);
      owned = subst (λ k. IsOwnedHub run.core.env.addons k) (sym adds.hub) (event-owned run.core.env.addons h x host.Begin at.fits.owned);
      noted = omega arith;
    } in
    subst (λ r. IsMadeHubTurn n plans run before all r after now) (sym delivers.run)
    (event-turn n run before after all now (Moves (Delivers d)) x (after_delivery d run.core.env) (Some d) (Some d) at.rest at.led adds
    (delivery-event run.core h d next move)
    (delivery-takes run.core.env.addons (length after.history) run new all now d there registers seen delivers) plans refl fits
    (begun-touched run.core.env.frames run.core.env.frames (frame_of_duty d) d.duty all.registers now.registers at.rest.frames refl
    (others-given all.registers now.registers d.addon d.gifts (omega (arith, there, registers)) delivers.registers)))

-- the same, where the run is known as its parts
pub delivery-turn : (n : Numbers) (plans : List Plan) (run mid old new : Run) (before after : HubSeen) (all now : AddonStates) (d : DueInfo)
    → run ≡ old → AtHub n run before → DeliversNext run before after d → old.core.env.addons ≤ length all.registers → old.core.env.addons ≤ length all.seen
    → mid ≡ old → DeliversAt d (length after.history) mid all new now → IsMadeHubTurn n plans old before all new after now
delivery-turn n plans run mid old new before after all now d same at b registers seen still delivers =
    let began : DeliversAt d (length after.history) old all new now = subst (λ r. DeliversAt d (length after.history) r all new now) still delivers in
    subst (λ r. IsMadeHubTurn n plans r before all new after now) same
    (turn-of_delivery n plans run new before after all now d at b.next b.move b.adds
    (subst (λ (r : Run). r.core.env.addons ≤ length all.registers) (sym same) registers)
    (subst (λ (r : Run). r.core.env.addons ≤ length all.seen) (sym same) seen)
    (subst (λ r. DeliversAt d (length after.history) r all new now) (sym same) began))
