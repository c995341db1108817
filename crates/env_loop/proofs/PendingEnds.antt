-- The frame of a duty of the hub ends: a run that was recorded goes on.
use Rattle.std.proofs.Common.{◌≡◌, ◌≢◌, ◌+◌, ◌&&◌, ◌||◌, inl, ℕ, Bool, true, false, cond, IsTrue, List, [], ◌∷◌, ◌++◌, length, refl, ap, subst, sym, ◌∙◌, arith, Option, Some, None, is_some, IfSome, length-append}
use Rattle.std.specs.Option.{option_to_list}
use Rattle.napi_types.specs.declared.call.Ask.{Ask}
use Rattle.napi_types.specs.declared.call.Ask.TheVariants as ask
use Rattle.napi_types.specs.declared.duties.DueInfo.{DueInfo}
use Rattle.napi_types.specs.declared.entry.Cause.{Cause}
use Rattle.napi_types.specs.declared.entry.Cause.TheVariants as cause
use Rattle.napi_types.specs.declared.entry.Duty.{Duty}
use Rattle.napi_types.specs.declared.entry.Entry.{Entry}
use Rattle.napi_types.specs.declared.entry.HostStep.TheVariants as host
use Rattle.napi_types.specs.declared.entry.Out.{Out}
use Rattle.napi_types.specs.declared.entry.SharedCall.{SharedCall}
use Rattle.napi_types.specs.declared.entry.Why.{Why}
use Rattle.napi_types.specs.declared.ids.HandleId.{HandleId}
use Rattle.napi_types.specs.plain.Entries.{host_entry, cut_of}
use Rattle.napi_types.specs.plain.Lists.{singleton, tail}
use Rattle.napi_types.specs.parts.Duties.{duties_of}
use Rattle.napi_types.specs.parts.Frames.{Frame, cause_of, duty_of, is_hub_duty, at_last_ask}
use Rattle.napi_types.specs.scripts.Plans.{Plan, Registers}
use Rattle.napi_types.specs.environment.Changes.{Change, may_ask}
use Rattle.napi_types.specs.environment.Ends.{end_out, outermost_end_change, end_change_by, end_change}
use Rattle.napi_types.specs.environment.Environment.{Environment}
use Rattle.napi_types.specs.hub.Hub.{Hub, Stage, IsStageOf}
use Rattle.napi_types.specs.hub.HubEvents.{is_frame_end}
use Rattle.napi_types.specs.hub.HubOwners.{IsOwnedHub}
use Rattle.napi_types.specs.hub.HubSteps.{IsHubNext, hub_step, hub_along}
use Rattle.napi_types.specs.runs.Begins.{told_at}
use Rattle.napi_types.specs.runs.Machine.{Machine}
use Rattle.napi_types.specs.runs.Plan.{caller_after_reply}
use Rattle.napi_types.specs.runs.Setting.{Setting, opening_of}
use Rattle.napi_types.specs.runs.Step.{shared, env_step, frame_step, end_step, end_step_on, may_cut}
use Rattle.napi_types.proofs.environment.FrameEnds.{ended-ends}
use Rattle.napi_types.proofs.environment.StandingFrames.{duty-alone, duty-uncalled}
use Rattle.napi_types.proofs.hub.GrowingHistories.{along-more}
use Rattle.napi_types.proofs.hub.HubOwners.{event-owned}
use Rattle.env_core.specs.Core.{Core}
use Rattle.env_core.specs.Sharing.{after_hub_end}
use Rattle.shared_hub.specs.declared.naming.Numbers.{Numbers}
use Rattle.shared_hub.specs.HubStates.{HubSeen, KeepsStage, AddsEntry}
use Rattle.shared_hub.specs.KeptHubs.{IsLedHub}
use Rattle.env_loop.specs.declared.run.FrameEnd.{FrameEnd}
use Rattle.env_loop.specs.declared.run.FrameEnd.TheVariants as end
use Rattle.env_loop.specs.FollowedRuns.{Asks, MayEndSo, IsRecordedWithPending, taken_in, HasNumbers}
use Rattle.env_loop.specs.HubTurns.{IsMadeHubTurn}
use Rattle.env_loop.specs.Recording.{AddonStates, machine_of, HasSeen, IsOf, IsRecorded, RecordsOwn}
use Rattle.env_loop.specs.RecordedRuns.{Run, IsSoundEnvironment, IsRunning, cut_at, pending_at_hub, FitsHub}
use Rattle.env_loop.specs.SharedEntries.{shared_step}
use Rattle.env_loop.specs.Turns.{OnlyInnermostChanges, hub_duty_info_of, hub_event}
use Rattle.env_loop.proofs.FrameTurns.{HasTopFrame, stands-so, sound-ended}
use Rattle.env_loop.proofs.SharedReplies.{taken-step}
use Rattle.env_loop.proofs.HubGoing.{hub-is, IsRecordedAtHub, goes-at-hub}
use Rattle.env_loop.proofs.LocalGoing.{if_some-none}
use Rattle.env_loop.proofs.RegisterTurns.{asks-of-run}
use Rattle.env_loop.proofs.SeenLists.{seen-same}
use Rattle.env_loop.proofs.SharedEntries.{entries-recorded}
use Rattle.env_loop.proofs.TurnSteps.{by-env, ended-untold}

-- THE FRAME
-- the frame of a duty of the hub stands alone, and no call began it
record IsHubFrame (fs : List Frame) : Type 0 where
  alone : tail fs ≡ []
  stands : fs ≢ []
  uncalled : cause_of fs ≢ cause.Call
  ours : is_hub_duty (duty_of fs) ≡ true

hub-frame : (e : Environment) → IsSoundEnvironment e → is_hub_duty (duty_of e.frames) ≡ true → IsHubFrame e.frames
hub-frame e sound ours = by (duty_of e.frames) refl
  where
    stands : (fs : List Frame) → is_hub_duty (duty_of fs) ≡ true → fs ≢ []
    stands [] h = cc
    stands (f ∷ fs) h = λ none. cc

    by : (d : Option Duty) → duty_of e.frames ≡ d → IsHubFrame e.frames
    by None is = let no : false ≡ true = sym (ap is_hub_duty is) ∙ ours in cc
    by (Some d) is = record {
      alone = duty-alone e.frames d sound.nested is;
      stands = stands e.frames ours;
      uncalled = duty-uncalled e.frames d sound.nested is;
      ours = ours;
    }

-- so it ends as an outermost frame does
outermost : (v : Option HandleId) (cut : Option Why) (e : Environment) → IsHubFrame e.frames → end_change v cut e ≡ outermost_end_change cut e
outermost v cut e f = by (cause_of e.frames) f.uncalled
  where
    by : (c : Cause) → c ≢ cause.Call → end_change_by v cut e c ≡ outermost_end_change cut e
    by cause.Call uncalled = absurd (uncalled refl)
    by _ uncalled = refl

-- what it tells is how a frame of the hub's ends
told-end : (cut : Option Why) (pending : Option ℕ) → IsTrue (is_frame_end (end_out cut pending))
told-end (Some w) pending = refl
told-end None None = refl
told-end None (Some v) = refl

pub ends-so : (e : Environment) (cut : Option Why) (told : Out) → IsSoundEnvironment e → is_hub_duty (duty_of e.frames) ≡ true
    → told ≡ (end_change None cut e).entry.reply.out → IsTrue (is_frame_end told)
ends-so e cut told sound ours is =
    ap is_frame_end (is ∙ ap (λ (c : Change). c.entry.reply.out) (outermost None cut e (hub-frame e sound ours))) ∙ told-end cut e.pending

-- THE STEP
-- the end comes next, where the frame may end so
end-next : (m : Machine) (a : Ask) (v : Option HandleId) (cut : Option Why) (may : Bool) → IsHubFrame m.env.frames → may ≡ true
    → ((o : Out) → frame_step m a o cut ≡ end_step m (end_change v cut m.env) may)
    → IsHubNext m.hub (outermost_end_change cut m.env).entry
    → env_step m a (end_out cut m.env.pending) m.env.frames
    ≡ shared_step m (outermost_end_change cut m.env).entry (hub_step m.hub (outermost_end_change cut m.env).entry).after (outermost_end_change cut m.env).after
end-next m a v cut may f is ends next =
    let o : Out = end_out cut m.env.pending in
    let ended : Change = outermost_end_change cut m.env in
    let s : HasTopFrame m.env.frames = stands-so m.env.frames f.stands in
    let out : end_change v cut m.env ≡ ended = outermost v cut m.env f in
    let told : cut_of o ≡ cut = ap (λ (c : Change). cut_of c.entry.reply.out) (sym out) ∙ (ended-ends v cut m.env).told in
    ap (env_step m a o) s.is
    ∙ ap (frame_step m a o) told
    ∙ ends o
    ∙ ap (λ b. end_step_on b m (end_change v cut m.env) may) f.ours
    ∙ ap (λ (c : Change). shared m (hub_step m.hub c.entry) c.after may) out
    ∙ taken-step m ended.entry (λ x. ended.after) may is next

-- THE RUN
-- it is recorded over the history with the end
module _ (s : Setting) (plans : List Plan) (core : Core) (hub : Hub) (history : List Entry) (all : AddonStates) (firsts : List (List DueInfo))
    (of : IsOf s plans core)
    (sound : IsSoundEnvironment core.env) (f : IsHubFrame core.env.frames) (rec : IsRecorded s core hub history all firsts) where
  asked-end : (a : Ask) (v : Option HandleId) (cut : Option Why) (may : Bool) → may ≡ true
      → ((o : Out) → frame_step (machine_of s.limits core hub history) a o cut
      ≡ end_step (machine_of s.limits core hub history) (end_change v cut core.env) may)
      → Asks s all.registers core.env.frames a → IsHubNext hub (host_entry host.End (end_out cut core.env.pending))
      → RecordsOwn s (record core { env = (outermost_end_change cut core.env).after; position = length history + 1 })
      (hub_step hub (host_entry host.End (end_out cut core.env.pending))).after
      (history ++ singleton (host_entry host.End (end_out cut core.env.pending))) all firsts
  asked-end a v cut may is ends asks next =
      let m : Machine = machine_of s.limits core hub history in
      let x : Entry = host_entry host.End (end_out cut core.env.pending) in
      let none : told_at m x.reply.out ≡ None =
      ap (λ (c : Change). told_at m c.entry.reply.out) (sym (outermost v cut core.env f)) ∙ ended-untold m v cut core.env in
      entries-recorded s core hub (hub_step hub x).after history all all firsts rec a x (outermost_end_change cut core.env).after rec.own
      (by-env m a x _ refl (end-next m a v cut may f is ends next)) refl
      (asks-of-run s of sound rec a asks)
      (ap (λ fs. caller_after_reply s.plans rec.own (at_last_ask fs) x.reply) f.alone) rec.count rec.agrees
      (subst (λ d. HasSeen all.seen (option_to_list d) all.seen) (sym none) (seen-same all.seen all.seen refl))

  end-recorded : (how : FrameEnd) → MayEndSo s all.registers (machine_of s.limits core hub history) how
      → IsHubNext hub (host_entry host.End (end_out (cut_at how) core.env.pending))
      → RecordsOwn s (record core { env = (outermost_end_change (cut_at how) core.env).after; position = length history + 1 })
      (hub_step hub (host_entry host.End (end_out (cut_at how) core.env.pending))).after
      (history ++ singleton (host_entry host.End (end_out (cut_at how) core.env.pending))) all firsts
  end-recorded end.Leaves may next = asked-end (ask.Leave may.0) may.0 None (may_ask core.env) may.2 (λ o. refl) may.1 next
  end-recorded (end.Cut w) may next =
      asked-end may.0 None (Some w) (may_cut (machine_of s.limits core hub history) may.0 w) may.2 (λ o. refl) may.1 next

abbrev end_entry : FrameEnd → Environment → Entry
end_entry how e = host_entry host.End (end_out (cut_at how) e.pending)

abbrev ended_run : Run → FrameEnd → ℕ → Run
ended_run run how position = record {
  core = record run.core { env = (outermost_end_change (cut_at how) run.core.env).after; position = position };
  begun = None;
  ending = None;
}

ended-run : (s : Setting) (n : Numbers) (plans : List Plan) (old : Run) (how : FrameEnd) (before after : HubSeen) (all : AddonStates)
    (firsts : List (List DueInfo))
    → IsLedHub n before → HasNumbers s n → IsOf s plans old.core → IsSoundEnvironment old.core.env → IsHubFrame old.core.env.frames → old.core.awaited ≡ None
    → old.ending ≡ Some how
    → AddsEntry before (end_entry how old.core.env) after → IsRecordedWithPending s (taken_in before.history old) before.history all firsts
    → IsRecordedAtHub s (ended_run old how (length after.history)) after.history all firsts
ended-run s n plans old how before after all firsts led numbers of sound f idle owed adds joined =
    let x : Entry = end_entry how old.core.env in
    let h : Hub = hub_along (opening_of s).hub before.history in
    let same : before.hub ≡ h = sym (hub-is n s before led numbers) in
    let core : Core = record old.core { position = length before.history } in
    let may : MayEndSo s all.registers (machine_of s.limits core h before.history) how =
    subst (λ o. IfSome o (MayEndSo s all.registers (machine_of s.limits core h before.history))) owed joined.owed.end in
    let recorded = end-recorded s plans core h before.history all firsts (record { count = of.count; first = of.first }) sound f joined.recorded how may
    (subst (λ (g : Hub). IsHubNext g x) same adds.next) in
    let P : ℕ → Hub → Type 0 = λ k g. RecordsOwn s (ended_run old how k).core g (before.history ++ singleton x) all firsts in
    let Q : List Entry → Type 0 = λ ks. RecordsOwn s (ended_run old how (length ks)).core (hub_along (opening_of s).hub ks) ks all firsts in
    let whole : Q after.history =
    subst Q (sym adds.history)
    (subst (λ (k : ℕ). P k (hub_along (opening_of s).hub (before.history ++ singleton x))) (sym (length-append before.history (singleton x)))
    (subst (λ (g : Hub). P (length before.history + 1) g) (sym (along-more (opening_of s).hub before.history x)) recorded)) in
    record { joined = record { recorded = whole.recorded; owed = record { call = if_some-none _ idle; end = tt } }; own = λ none. whole.own }

-- the run keeps running
ended-running : (run : Run) (how : FrameEnd) (position : ℕ) → IsSoundEnvironment run.core.env → IsHubFrame run.core.env.frames → run.core.awaited ≡ None
    → IsRunning (ended_run run how position).core None None
ended-running run how position sound f idle =
    let out = outermost None (cut_at how) run.core.env f in
    record {
      sound = subst (λ (c : Change). IsSoundEnvironment c.after) out (sound-ended run.core.env sound f.stands None (cut_at how));
      held = ap duties_of f.alone;
      awaited = if_some-none _ idle;
      ends = tt;
      one = λ some. refl;
    }

-- the turn
ended-fits : (run : Run) (how : FrameEnd) (before after : HubSeen) → FitsHub run before → AddsEntry before (end_entry how run.core.env) after
    → KeepsStage before.hub after.hub
    → after.hub.standing ≡ None → FitsHub (ended_run run how (length after.history)) after
ended-fits run how before after fits adds keeps alone = record {
  stage = subst (λ (t : Stage). IsStageOf run.core.env.phase t) (sym keeps.stage) fits.stage;
  standing = alone;
  owned = subst (λ (h : Hub). IsOwnedHub run.core.env.addons h) (sym adds.hub)
      (event-owned run.core.env.addons before.hub (end_entry how run.core.env) host.End fits.owned);
  noted = omega arith;
}

turn-ended : (n : Numbers) (plans : List Plan) (run : Run) (how : FrameEnd) (before after : HubSeen) (all : AddonStates) → IsLedHub n before
    → IsSoundEnvironment run.core.env → IsHubFrame run.core.env.frames → FitsHub run before → run.core.awaited ≡ None → run.ending ≡ Some how
    → AddsEntry before (end_entry how run.core.env) after → KeepsStage before.hub after.hub → after.hub.standing ≡ None
    → IsMadeHubTurn n plans run before all (ended_run run how (length after.history)) after all
turn-ended n plans run how before after all led sound f fits idle owed adds keeps alone =
    let new : Run = ended_run run how (length after.history) in
    let owes : pending_at_hub run ≡ true = ends-owed run.core.awaited run.ending (is_hub_duty (duty_of run.core.env.frames)) how owed f.ours in
    record {
      made = record { entry = end_entry how run.core.env; by = refl; adds = adds };
      answered = idle;
      ended = refl;
      someone = inl owes;
      kept = record { journal = refl; addons = refl; limit = refl };
      fits = ended-fits run how before after fits adds keeps alone;
      others = refl;
      untouched = subst (λ fs. OnlyInnermostChanges run.core.env.frames fs all.registers all.registers) (sym f.alone)
          (none-left run.core.env.frames all.registers);
      seen = subst (λ b. HasSeen all.seen (option_to_list (cond b None (hub_duty_info_of (hub_event run.core.env before.hub)))) all.seen) (sym owes)
          (seen-same all.seen all.seen refl);
      spent = λ final. inl (sym keeps.stage ∙ final);
      fitted = if_some-none _ idle;
      goes = goes-at-hub n plans run new before after all all led (λ s firsts numbers of joined.
          ended-run s n plans run how before after all firsts led numbers of sound f idle owed adds joined);
    }
  where
    ends-owed : (o : Option SharedCall) (p : Option FrameEnd) (b : Bool) (h : FrameEnd) → p ≡ Some h → b ≡ true → (is_some o || (is_some p && b)) ≡ true
    ends-owed None p b h is ours = rw (is, ours) refl
    ends-owed (Some c) p b h is ours = refl

    none-left : (fs : List Frame) (rss : Registers) → OnlyInnermostChanges fs [] rss rss
    none-left [] rss = refl
    none-left (g ∷ gs) rss = refl

-- as the function has it
module _ (run old : Run) (how : FrameEnd) (core : Core) (begun : Option DueInfo) (cut : Option Why) (position : ℕ) (view : run ≡ old)
    (running : IsRunning run.core run.begun run.ending)
    (owed : old.ending ≡ Some how) (idle : old.core.awaited ≡ None) (ours : is_hub_duty (duty_of old.core.env.frames) ≡ true)
    (reason : cut ≡ cut_at how) (left : core ≡ after_hub_end cut position run.core) (taken : begun ≡ None) where
  frame : IsHubFrame run.core.env.frames
  frame = hub-frame run.core.env running.sound (ap (λ (x : Run). is_hub_duty (duty_of x.core.env.frames)) view ∙ ours)

  here : run.core.awaited ≡ None
  here = ap (λ (x : Run). x.core.awaited) view ∙ idle

  is : (ended_run run how position).core ≡ core
  is =
      ap (λ (c : Change). record run.core { env = c.after; position = position }) (sym (outermost None (cut_at how) run.core.env frame))
      ∙ ap (λ c. after_hub_end c position run.core) (sym reason) ∙ sym left

  pub ended-runs : IsRunning core begun None
  ended-runs =
      subst (λ (x : Core). IsRunning x begun None) is (subst (λ b. IsRunning (ended_run run how position).core b None) (sym taken)
      (ended-running run how position running.sound frame here))

  pub ended-turn : (n : Numbers) (told : Out) (before after : HubSeen) → IsLedHub n before → FitsHub old before
      → told ≡ (end_change None cut run.core.env).entry.reply.out
      → AddsEntry before (host_entry host.End told) after → KeepsStage before.hub after.hub → after.hub.standing ≡ None → position ≡ length before.history + 1
      → (plans : List Plan) (all : AddonStates) → IsMadeHubTurn n plans old before all (record { core = core; begun = begun; ending = None }) after all
  ended-turn n told before after led fits tells adds keeps alone noted plans all =
      let longer : position ≡ length after.history = noted ∙ sym
      (ap length adds.history ∙ length-append before.history (singleton (host_entry host.End told))) in
      let same : told ≡ end_out (cut_at how) run.core.env.pending =
      tells
      ∙ ap (λ c. (end_change None c run.core.env).entry.reply.out) reason
      ∙ ap (λ (c : Change). c.entry.reply.out) (outermost None (cut_at how) run.core.env frame) in
      let new : ended_run run how (length after.history) ≡ record { core = core; begun = begun; ending = None } =
      ap (λ k. ended_run run how k) (sym longer)
      ∙ ap (λ k. record { core = k; begun = None; ending = None }) is
      ∙ ap (λ b. record { core = core; begun = b; ending = None }) (sym taken) in
      subst (λ (x : Run). IsMadeHubTurn n plans x before all (record { core = core; begun = begun; ending = None }) after all) view
      (subst (λ (x : Run). IsMadeHubTurn n plans run before all x after all) new
      (turn-ended n plans run how before after all led running.sound frame (subst (λ (x : Run). FitsHub x before) (sym view) fits) here
      (ap (λ (x : Run). x.ending) view ∙ owed)
      (subst (λ o. AddsEntry before (host_entry host.End o) after) same adds) keeps alone))
