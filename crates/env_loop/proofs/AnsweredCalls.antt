-- The hub answers the call that is awaited: a run that was recorded goes on.
use Rattle.std.proofs.Common.{◌≡◌, ◌<◌, ◌≤◌, ◌+◌, inl, ℕ, Bool, true, false, cond, IsTrue, List, [], ◌∷◌, ◌++◌, length, refl, ap, subst, sym, ◌∙◌, arith, Some, None, Ok, Err, IfSome, length-append}
use Rattle.std.specs.List.{All}
use Rattle.std.specs.declared.result.Result.{Result}
use Rattle.std.specs.Option.{option_to_list}
use Rattle.std.proofs.lemmas.List.Elements.{All-tail, All-cons}
use Rattle.napi_types.specs.declared.call.Ask.TheVariants as ask
use Rattle.napi_types.specs.declared.call.Call.{Call}
use Rattle.napi_types.specs.declared.duties.DueInfo.{DueInfo}
use Rattle.napi_types.specs.declared.entry.Entry.{Entry}
use Rattle.napi_types.specs.declared.entry.Phase.{Phase}
use Rattle.napi_types.specs.declared.entry.Reply.{Reply}
use Rattle.napi_types.specs.declared.entry.SharedCall.{SharedCall}
use Rattle.napi_types.specs.declared.status.Status.{Status}
use Rattle.napi_types.specs.plain.Lists.{singleton, head}
use Rattle.napi_types.specs.plain.Room.{Room, is_full}
use Rattle.napi_types.specs.parts.Duties.{duties_of}
use Rattle.napi_types.specs.parts.Frames.{Frame, ask_counted, asks_made, most_asks}
use Rattle.napi_types.specs.scripts.Plans.{Plan, plan_of, Registers, registers_of}
use Rattle.napi_types.specs.scripts.Registers.{registers_after_reply}
use Rattle.napi_types.specs.environment.Environment.{Environment}
use Rattle.napi_types.specs.environment.SharedCalls.{handed_entry, after_shared}
use Rattle.napi_types.specs.hub.HistoryLaws.{KeepsStanding}
use Rattle.napi_types.specs.hub.HistoryRoom.{history_room}
use Rattle.napi_types.specs.hub.Hub.{Hub, Stage, IsStageOf}
use Rattle.napi_types.specs.hub.HubOwners.{IsOwnedHub}
use Rattle.napi_types.specs.hub.HubSteps.{IsHubNext, hub_step, hub_along}
use Rattle.napi_types.specs.runs.CallRoom.{room_of}
use Rattle.napi_types.specs.runs.Machine.{Machine}
use Rattle.napi_types.specs.runs.Plan.{caller_after_reply}
use Rattle.napi_types.specs.runs.Setting.{Setting, opening_of}
use Rattle.napi_types.proofs.environment.HookedSteps.{unchanged}
use Rattle.napi_types.proofs.environment.Owners.{counted-owned}
use Rattle.napi_types.proofs.environment.StandingFrames.{counted-nested, counted-duties}
use Rattle.napi_types.proofs.hub.GrowingHistories.{along-more}
use Rattle.napi_types.proofs.hub.HubOwners.{given-owned}
use Rattle.napi_types.proofs.runs.CallRooms.{shared-room}
use Rattle.napi_types.proofs.runs.SharedSteps.{after_shared-alone}
use Rattle.addon_trait.specs.Addons.{OthersStay}
use Rattle.env_core.specs.Core.{Core}
use Rattle.env_core.specs.Sharing.{after_answer}
use Rattle.shared_hub.specs.declared.naming.Numbers.{Numbers}
use Rattle.shared_hub.specs.HubStates.{HubSeen, AddsEntry, hub_room}
use Rattle.shared_hub.specs.KeptHubs.{IsLedHub}
use Rattle.shared_hub.specs.SharedTries.{given_by}
use Rattle.env_loop.specs.FollowedRuns.{Asks, IsRecordedWithPending, taken_in, HasNumbers}
use Rattle.env_loop.specs.HubTurns.{IsMadeHubTurn}
use Rattle.env_loop.specs.Recording.{AddonStates, machine_of, HasSeen, IsOf, IsRecorded, RecordsOwn}
use Rattle.env_loop.specs.RecordedRuns.{Run, IsSoundEnvironment, IsAwaited, IsPendingEnd, IsRunning, pending_at_hub, FitsHub}
use Rattle.env_loop.specs.Turns.{ReplyIsNoted, OnlyInnermostChanges, hub_duty_info_of, hub_event}
use Rattle.env_loop.proofs.FrameTurns.{HasTopFrame, head-stands, stands-so}
use Rattle.env_loop.proofs.HandedOver.{hands-owned}
use Rattle.env_loop.proofs.HubGoing.{hub-is, IsRecordedAtHub, goes-at-hub}
use Rattle.env_loop.proofs.RegisterTurns.{Kept, asks-of-run, told-others, asking-touched, registers_after_reply-in}
use Rattle.env_loop.proofs.SeenLists.{seen-same}
use Rattle.env_loop.proofs.SharedEntries.{entries-recorded}
use Rattle.env_loop.proofs.TurnSteps.{TellsNoFrame, no-frame, by-env}
use Rattle.env_loop.proofs.AwaitedCalls.{awaited-calls, settled, awaited-stands, awaited-none-ending, owes-call}
use Rattle.env_loop.proofs.SharedReplies.{reply-unframed, answered-next}

-- THE RUN
-- one that is recorded goes on with the call's entry
module _ (s : Setting) (plans : List Plan) (core : Core) (hub : Hub) (history : List Entry) (all now : AddonStates) (firsts : List (List DueInfo))
    (c : SharedCall) (r : Reply)
    (of : IsOf s plans core) (sound : IsSoundEnvironment core.env) (w : IsAwaited core.env c) (next : IsHubNext hub (handed_entry c r))
    (fits : is_full (history_room hub (length history) s.limits.history) c.call ≡ false)
    (told : ReplyIsNoted plans all.registers core.env.frames r now.registers) (unseen : now.seen ≡ all.seen) where
  answered-recorded : Asks s all.registers core.env.frames (ask.Do c.call)
      → IsRecorded s core hub history all firsts
      → RecordsOwn s (after_answer c r (length history + 1) core) (hub_step hub (handed_entry c r)).after (history ++ singleton (handed_entry c r)) now firsts
  answered-recorded asks recorded =
      let idle : Core = record core { awaited = None } in
      let rec : IsRecorded s idle hub history all firsts = settled s core hub history all firsts recorded in
      let m : Machine = machine_of s.limits idle hub history in
      let x : Entry = handed_entry c r in
      let tells : TellsNoFrame r.out = no-frame r.out (reply-unframed hub c r next) in
      let f : HasTopFrame core.env.frames = stands-so core.env.frames w.stands in
      let here : IsOf s plans idle = record { count = of.count; first = of.first } in
      let room : is_full (room_of m c.call) c.call ≡ false = ap (λ (q : Room). is_full q c.call) (shared-room m c.call w.shared) ∙ fits in
      let kept : Kept s.plans now.registers (caller_after_reply s.plans rec.own core.env.frames r) =
      registers_after_reply-in s plans idle hub history all firsts now.registers core.env.frames r here rec sound.owned.frames told in
      entries-recorded s idle hub (hub_step hub x).after history all now firsts rec (ask.Do c.call) x (after_shared c.call r core.env)
      (caller_after_reply s.plans rec.own core.env.frames r)
      (by-env m (ask.Do c.call) x _ refl (answered-next m c r f.top f.rest f.is w next tells.uncut (awaited-calls s all.registers core.env c w asks) room))
      refl
      (asks-of-run s here sound rec (ask.Do c.call) asks)
      refl kept.count kept.agrees
      (subst (λ d. HasSeen all.seen (option_to_list d) now.seen) (sym (tells.untold m)) (seen-same all.seen now.seen unseen))

-- so it does over the history of the hub
answered-run : (s : Setting) (n : Numbers) (plans : List Plan) (old : Run) (c : SharedCall) (r : Reply) (before after : HubSeen) (all now : AddonStates)
    (firsts : List (List DueInfo))
    → IsLedHub n before → HasNumbers s n → IsOf s plans old.core → IsSoundEnvironment old.core.env → IsAwaited old.core.env c → old.core.awaited ≡ Some c
    → AddsEntry before (handed_entry c r) after → is_full (hub_room n before) c.call ≡ false
    → ReplyIsNoted plans all.registers old.core.env.frames r now.registers → now.seen ≡ all.seen
    → IsRecordedWithPending s (taken_in before.history old) before.history all firsts
    → IsRecordedAtHub s (record { core = after_answer c r (length after.history) old.core; begun = old.begun; ending = None }) after.history now firsts
answered-run s n plans old c r before after all now firsts led numbers of sound w awaited adds fits told unseen joined =
    let x : Entry = handed_entry c r in
    let h : Hub = hub_along (opening_of s).hub before.history in
    let same : before.hub ≡ h = sym (hub-is n s before led numbers) in
    let core : Core = record old.core { position = length before.history } in
    let room : is_full (history_room h (length before.history) s.limits.history) c.call ≡ false =
    ap (λ k. is_full (history_room h (length before.history) k) c.call) numbers.limit
    ∙ ap (λ (g : Hub). is_full (history_room g (length before.history) n.limits.history) c.call) (sym same) ∙ fits in
    let asks : Asks s all.registers old.core.env.frames (ask.Do c.call) =
    subst (λ o. IfSome o (λ (d : SharedCall). Asks s all.registers old.core.env.frames (ask.Do d.call))) awaited joined.owed.call in
    let recorded : RecordsOwn s (after_answer c r (length before.history + 1) old.core) (hub_step h x).after (before.history ++ singleton x) now firsts =
    answered-recorded s plans core h before.history all now firsts c r (record { count = of.count; first = of.first }) sound w
    (subst (λ (g : Hub). IsHubNext g x) same adds.next) room told unseen
    asks joined.recorded in
    let P : ℕ → Hub → Type 0 = λ k g. RecordsOwn s (after_answer c r k old.core) g (before.history ++ singleton x) now firsts in
    let Q : List Entry → Type 0 = λ ks. RecordsOwn s (after_answer c r (length ks) old.core) (hub_along (opening_of s).hub ks) ks now firsts in
    let whole : Q after.history =
    subst Q (sym adds.history)
    (subst (λ (k : ℕ). P k (hub_along (opening_of s).hub (before.history ++ singleton x))) (sym (length-append before.history (singleton x)))
    (subst (λ (g : Hub). P (length before.history + 1) g) (sym (along-more (opening_of s).hub before.history x)) recorded)) in
    record { joined = record { recorded = whole.recorded; owed = record { call = tt; end = tt } }; own = λ none. whole.own }

-- the environment stays sound
counted-within : (fs : List Frame) → asks_made fs < most_asks → All (λ f. f.asks ≤ most_asks) fs → All (λ f. f.asks ≤ most_asks) (ask_counted fs)
counted-within [] below all = all
counted-within (f ∷ fs) below all =
    All-cons (λ (x : Frame). x.asks ≤ most_asks) (record f { asks = f.asks + 1 }) fs (omega (arith, below))
    (All-tail (λ (x : Frame). x.asks ≤ most_asks) f fs all)

answered-sound : (e : Environment) (c : SharedCall) (r : Reply) → IsAwaited e c → IsSoundEnvironment e → IsSoundEnvironment (after_shared c.call r e)
answered-sound e c r w s = subst (λ (x : Environment). IsSoundEnvironment x) (sym (after_shared-alone c.call r e)) (record {
  opened = s.opened;
  owned = record { frames = counted-owned e.addons e.frames s.owned.frames; functions = s.owned.functions; tickets = s.owned.tickets };
  asks = counted-within e.frames w.within s.asks;
  nested = counted-nested e.frames s.nested;
  uncalled = s.uncalled;
  hooked = unchanged e _ refl refl s.hooked;
  gone = λ g. absurd (w.stands (s.gone g));
})

answered-frames : (e : Environment) (c : Call) (r : Reply) → (after_shared c r e).frames ≡ ask_counted e.frames
answered-frames e c r = ap (λ (x : Environment). x.frames) (after_shared-alone c r e)

-- and the run keeps running
pub answered-running : (run old : Run) (core : Core) (c : SharedCall) (r : Reply) (position : ℕ) → run ≡ old → IsRunning run.core run.begun run.ending
    → old.core.awaited ≡ Some c → IfSome run.core.awaited (λ x. core ≡ after_answer x r position run.core) → IsRunning core run.begun run.ending
answered-running run old core c r position view running awaited settled =
    let here : run.core.awaited ≡ Some c = ap (λ (x : Run). x.core.awaited) view ∙ awaited in
    let w : IsAwaited run.core.env c = awaited-stands run c running here in
    let is : core ≡ after_answer c r position run.core = subst (λ o. IfSome o (λ x. core ≡ after_answer x r position run.core)) here settled in
    let none : run.ending ≡ None = awaited-none-ending run c running here in
    subst (λ (x : Core). IsRunning x run.begun run.ending) (sym is) (record {
      sound = answered-sound run.core.env c r w running.sound;
      held = ap duties_of (answered-frames run.core.env c.call r) ∙ counted-duties run.core.env.frames ∙ running.held;
      awaited = tt;
      ends = subst (λ o. IfSome o (IsPendingEnd (after_shared c.call r run.core.env))) (sym none) tt;
      one = λ some. absurd (some refl);
    })

-- THE TURN
-- the run fits with the hub
answered-fits : (run : Run) (c : SharedCall) (r : Reply) (before after : HubSeen) → IsRunning run.core run.begun run.ending → IsAwaited run.core.env c
    → FitsHub run before
    → AddsEntry before (handed_entry c r) after → KeepsStanding before.hub after.hub
    → FitsHub (record { core = after_answer c r (length after.history) run.core; begun = run.begun; ending = None }) after
answered-fits run c r before after running w fits adds keeps =
    let e : Environment = run.core.env in
    let alone = after_shared-alone c.call r e in
    record {
      stage = subst (λ (p : Phase). IsStageOf p after.hub.stage) (sym (ap (λ (x : Environment). x.phase) alone))
          (subst (λ (s : Stage). IsStageOf e.phase s) (sym keeps.stage) fits.stage);
      standing = keeps.standing ∙ fits.standing;
      owned = subst (λ (k : ℕ). IsOwnedHub k after.hub) (sym (ap (λ (x : Environment). x.addons) alone))
          (subst (λ (h : Hub). IsOwnedHub e.addons h) (sym adds.hub)
          (given-owned e.addons before.hub (handed_entry c r) c.call (given_by c) (hands-owned e.addons e c running.sound.owned w) fits.owned));
      noted = omega arith;
    }

turn-answered : (n : Numbers) (plans : List Plan) (run : Run) (c : SharedCall) (r : Reply) (before after : HubSeen) (all now : AddonStates) → IsLedHub n before
    → IsRunning run.core run.begun run.ending → FitsHub run before → run.core.awaited ≡ Some c → AddsEntry before (handed_entry c r) after
    → KeepsStanding before.hub after.hub
    → is_full (hub_room n before) c.call ≡ false → ReplyIsNoted plans all.registers run.core.env.frames r now.registers → now.seen ≡ all.seen
    → IsMadeHubTurn n plans run before all (record { core = after_answer c r (length after.history) run.core; begun = run.begun; ending = None }) after now
turn-answered n plans run c r before after all now led running fits awaited adds keeps room told unseen =
    let w : IsAwaited run.core.env c = awaited-stands run c running awaited in
    let new : Run = record { core = after_answer c r (length after.history) run.core; begun = run.begun; ending = None } in
    let owes : pending_at_hub run ≡ true = owes-call run c awaited in
    record {
      made = record { entry = handed_entry c r; by = refl; adds = adds };
      answered = refl;
      ended = refl;
      someone = inl owes;
      kept = record { journal = refl; addons = ap (λ (x : Environment). x.addons) (after_shared-alone c.call r run.core.env); limit = refl };
      fits = answered-fits run c r before after running w fits adds keeps;
      others = told-others run.core.env.addons plans all.registers now.registers run.core.env.frames r running.sound.owned.frames told;
      untouched = subst (λ fs. OnlyInnermostChanges run.core.env.frames fs all.registers now.registers) (sym (answered-frames run.core.env c.call r))
          (asking-touched plans all.registers now.registers run.core.env.frames run.core.env.frames r w.stands told);
      seen = subst (λ b. HasSeen all.seen (option_to_list (cond b None (hub_duty_info_of (hub_event run.core.env before.hub)))) now.seen) (sym owes)
          (seen-same all.seen now.seen unseen);
      spent = λ final. inl (sym keeps.stage ∙ final);
      fitted = subst (λ o. IfSome o (λ (d : SharedCall). is_full (hub_room n before) d.call ≡ false)) (sym awaited) room;
      goes = goes-at-hub n plans run new before after all now led (λ s firsts numbers of joined.
          answered-run s n plans run c r before after all now firsts led numbers of running.sound w awaited adds room told unseen joined);
    }

abbrev answered_so : Reply → Result Reply Status
answered_so r = Ok r

-- as the function has it: it answered, so the history had room, ..
pub had-room : (full : Bool) (r : Reply) (s : Status) → (IsTrue full → answered_so r ≡ Err s) → full ≡ false
had-room true r s stops = let no = stops refl in cc
had-room false r s stops = refl

-- .. the innermost frame's addon was told the reply, ..
pub told-innermost : (ps : List Plan) (all now : Registers) (fs : List Frame) (f : Frame) (r : Reply) → Some f ≡ head fs → OthersStay all now f.addon
    → IfSome (plan_of ps f.addon) (λ p. registers_of now f.addon ≡ registers_after_reply p (registers_of all f.addon) f.entry f.asks r)
    → ReplyIsNoted ps all fs r now
told-innermost ps all now fs f r top others kept = subst (λ (gs : List Frame). ReplyIsNoted ps all gs r now) (sym (head-stands fs f (sym top))) (others, kept)

-- .. and the turn was made
pub answered-turn : (n : Numbers) (plans : List Plan) (run old : Run) (core : Core) (c : SharedCall) (r : Reply) (before after : HubSeen)
    (all now : AddonStates) (position : ℕ)
    → run ≡ old → IsRunning run.core run.begun run.ending → IsLedHub n before → FitsHub old before → old.core.awaited ≡ Some c
    → AddsEntry before (handed_entry c r) after → KeepsStanding before.hub after.hub → is_full (hub_room n before) c.call ≡ false
    → IfSome run.core.awaited (λ x. core ≡ after_answer x r position run.core) → position ≡ length after.history
    → ReplyIsNoted plans all.registers run.core.env.frames r now.registers → now.seen ≡ all.seen
    → IsMadeHubTurn n plans old before all (record { core = core; begun = run.begun; ending = run.ending }) after now
answered-turn n plans run old core c r before after all now position view running led fits awaited adds keeps room settled noted told unseen =
    let here : run.core.awaited ≡ Some c = ap (λ (x : Run). x.core.awaited) view ∙ awaited in
    let is : core ≡ after_answer c r position run.core = subst (λ o. IfSome o (λ x. core ≡ after_answer x r position run.core)) here settled in
    let new : record { core = after_answer c r (length after.history) run.core; begun = run.begun; ending = None }
    ≡ record { core = core; begun = run.begun; ending = run.ending } =
    ap (λ k. record { core = after_answer c r k run.core; begun = run.begun; ending = None }) (sym noted)
    ∙ ap (λ k. record { core = k; begun = run.begun; ending = None }) (sym is)
    ∙ ap (λ o. record { core = core; begun = run.begun; ending = o }) (sym (awaited-none-ending run c running here)) in
    subst (λ (x : Run). IsMadeHubTurn n plans x before all (record { core = core; begun = run.begun; ending = run.ending }) after now) view
    (subst (λ (x : Run). IsMadeHubTurn n plans run before all x after now) new
    (turn-answered n plans run c r before after all now led running (subst (λ (x : Run). FitsHub x before) (sym view) fits) here adds keeps room told unseen))
