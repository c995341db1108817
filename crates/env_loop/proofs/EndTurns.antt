-- A turn in which the innermost frame ends, or in which its end is pending at the hub.
use Rattle.std.proofs.Common.{◌≡◌, ◌≢◌, ◌<◌, ℕ, ◌-◌, ◌&&◌, ◌||◌, inl, Bool, true, false, List, [], ◌∷◌, refl, ap, subst, sym, ◌∙◌, Option, Some, None, IfSome, IsTrue, is_some}
use Rattle.std.specs.List.{All}
use Rattle.std.specs.Option.{option_to_list}
use Rattle.napi_types.specs.declared.call.Ask.{Ask}
use Rattle.napi_types.specs.declared.call.Ask.TheVariants as ask
use Rattle.napi_types.specs.declared.duties.DueInfo.{DueInfo}
use Rattle.napi_types.specs.declared.entry.Actor.{Actor}
use Rattle.napi_types.specs.declared.entry.Duty.{Duty}
use Rattle.napi_types.specs.declared.entry.Entry.{Entry}
use Rattle.napi_types.specs.declared.entry.Out.{Out}
use Rattle.napi_types.specs.declared.entry.Out.TheVariants as out
use Rattle.napi_types.specs.declared.entry.Reply.{Reply}
use Rattle.napi_types.specs.declared.entry.Why.{Why}
use Rattle.napi_types.specs.declared.ids.HandleId.{HandleId}
use Rattle.napi_types.specs.plain.Entries.{cut_of}
use Rattle.napi_types.specs.plain.Lists.{head, tail}
use Rattle.napi_types.specs.plain.Weave.{Journal, weave}
use Rattle.napi_types.specs.parts.Duties.{duties_of, AreNested}
use Rattle.napi_types.specs.parts.Frames.{Frame, duty_of, is_hub_duty, at_last_ask, most_asks}
use Rattle.napi_types.specs.scripts.Plans.{Plan, plan_of, Registers, registers_of}
use Rattle.napi_types.specs.scripts.Registers.{registers_after_reply}
use Rattle.napi_types.specs.environment.Changes.{Change, may_ask}
use Rattle.napi_types.specs.environment.Ends.{end_change}
use Rattle.napi_types.specs.environment.Environment.{Environment}
use Rattle.napi_types.specs.hub.Hub.{Hub}
use Rattle.napi_types.specs.hub.HubSteps.{hub_along}
use Rattle.napi_types.specs.runs.InPlace.{is_behind_own, asks_hub, is_stopped, stands_in_place, last_actor}
use Rattle.napi_types.specs.runs.Machine.{Machine}
use Rattle.napi_types.specs.runs.Plan.{caller_after_reply, after_event}
use Rattle.napi_types.specs.runs.Setting.{Setting, opening_of}
use Rattle.napi_types.specs.runs.Step.{locally, env_step, may_cut}
use Rattle.napi_types.proofs.plain.Options.{none-of}
use Rattle.napi_types.proofs.environment.AnswersKeep.{course-parts}
use Rattle.napi_types.proofs.environment.FrameChanges.{KeepsButFrame, ended-keeps}
use Rattle.napi_types.proofs.environment.FrameEnds.{Ends, ended-ends}
use Rattle.napi_types.proofs.environment.Owners.{owned-ended}
use Rattle.napi_types.proofs.environment.StandingFrames.{duties-plain, duty-alone}
use Rattle.napi_types.proofs.runs.InPlace.{own-placed, stopped-placed}
use Rattle.addon_trait.specs.Addons.{OthersStay}
use Rattle.env_core.specs.Core.{Core, after_change}
use Rattle.env_loop.specs.declared.run.FrameEnd.{FrameEnd}
use Rattle.env_loop.specs.declared.run.FrameEnd.TheVariants as end
use Rattle.env_loop.specs.declared.turn.LocalTurn.{LocalTurn}
use Rattle.env_loop.specs.declared.turn.LocalTurn.TheVariants as turn
use Rattle.env_loop.specs.FollowedRuns.{Asks, StoppedAtHub, MayEndSo, IsRecordedWithPending}
use Rattle.env_loop.specs.Recording.{AddonStates, machine_of, HasSeen, IsOf, IsRecorded, RecordsOwn}
use Rattle.env_loop.specs.RecordedRuns.{Run, IsSoundEnvironment, HoldsDuty, IsRunning, cut_at}
use Rattle.env_loop.specs.Turns.{ReplyIsNoted, OnlyInnermostChanges, IsMadeTurn, BecamePending, TurnCameTo, turn_after, EndedNow, EndedOrPending}
use Rattle.env_loop.proofs.LocalGoing.{if_some-none, stages-same}
use Rattle.env_loop.proofs.MadeTurns.{running-idle, states-same, turn-made, turn-owes, made-turn}
use Rattle.env_loop.proofs.Recordings.{local-grown}
use Rattle.env_loop.proofs.TurnSteps.{leave-next, cut-next, by-env, ended-untold}
use Rattle.env_loop.proofs.FrameTurns.{head-stands, head-below, tail-below, HasTopFrame, stands-so, InFrame, in-some, in-asks, sound-ended}
use Rattle.env_loop.proofs.RegisterTurns.{Kept, told-others, caller-touched, asks-in, asks-of-run, registers_after_reply-in}
use Rattle.env_loop.proofs.SeenLists.{begins-none, seen-same}

-- the frame around the innermost one, whose addon is told the reply to the ask that it made last
abbrev pub callers_of : Environment → List Frame
callers_of e = at_last_ask (tail e.frames)

-- its addon is told how the innermost frame ended
abbrev pub IsToldEnd : List Plan → Registers → Environment → Option HandleId → Option Why → Registers → Type 0
IsToldEnd ps all e v cut now = ReplyIsNoted ps all (callers_of e) (end_change v cut e).entry.reply now

-- WHY IT MAY END
-- the innermost frame may end so: it asks to leave this, where no end was pending, or it may be cut at what it asks, and leaves nothing. Where an end was
-- pending the hub had stopped it
abbrev pub MayEndAs : Setting → Registers → Machine → Option FrameEnd → Option HandleId → FrameEnd → Type 0
MayEndAs s rss m owed v end.Leaves = Asks s rss m.env.frames (ask.Leave v) × (may_ask m.env ≡ true) × (owed ≡ None)
MayEndAs s rss m owed v (end.Cut w) = (v ≡ None) × (a : Ask) × Asks s rss m.env.frames a × (may_cut m a w ≡ true) × (owed ≢ None → StoppedAtHub a w)

may-end : (s : Setting) (rss : Registers) (m : Machine) (owed : Option FrameEnd) (v : Option HandleId) (how : FrameEnd) → is_hub_duty (duty_of m.env.frames) ≡ true
    → MayEndAs s rss m owed v how → MayEndSo s rss m how
may-end s rss m owed v end.Leaves hub may = (v, may.0, may.1)
may-end s rss m owed v (end.Cut w) hub may = (may.1, may.2, may.3, λ local. (let no : true ≡ false = sym hub ∙ local in cc))

-- its end is the step that comes where this is asked, in its place behind this actor
record EndsNext (s : Setting) (rss : Registers) (m : Machine) (before : Option Actor) (v : Option HandleId) (cut : Option Why) : Type 0 where
  pub ask : Ask
  pub asked : Asks s rss m.env.frames ask
  pub next : env_step m ask (end_change v cut m.env).entry.reply.out m.env.frames ≡ locally m (end_change v cut m.env) true
  pub placed : IsTrue (stands_in_place Journal before ask (end_change v cut m.env).entry.reply.out)

-- a frame that is cut so was stopped so
stopped-so : (o : Out) (w : Why) → cut_of o ≡ Some w → is_stopped o ≡ is_stopped (out.Cut w)
stopped-so (out.Cut v) w is = let same : v ≡ w = cc in ap (λ x. is_stopped (out.Cut x)) same
stopped-so _ w is = cc

-- the end of a frame that is cut stands in its place
cut-placed : (owed : Option FrameEnd) (before : Option Actor) (a : Ask) (w : Why) (o : Out) → cut_of o ≡ Some w → (owed ≡ None → IsTrue (is_behind_own before))
    → (owed ≢ None → StoppedAtHub a w) → IsTrue (stands_in_place Journal before a o)
cut-placed None before a w o told own stopped = own-placed Journal before a o (own refl)
cut-placed (Some how) before a w o told own stopped =
    stopped-placed Journal before a o (ap (λ b. asks_hub a && b) (stopped-so o w told) ∙ stopped (λ none. cc))

ends-next : (s : Setting) (rss : Registers) (m : Machine) (before : Option Actor) (owed : Option FrameEnd) (v : Option HandleId) (how : FrameEnd) → m.env.frames ≢ []
    → is_hub_duty (duty_of m.env.frames) ≡ false → (owed ≡ None → IsTrue (is_behind_own before))
    → MayEndAs s rss m owed v how → EndsNext s rss m before v (cut_at how)
ends-next s rss m before owed v end.Leaves some local own may =
    let st : HasTopFrame m.env.frames = stands-so m.env.frames some in
    record {
      ask = ask.Leave v;
      asked = may.0;
      next = leave-next m (ask.Leave v) v (end_change v None m.env).entry.reply.out st.top st.rest st.is local refl (ended-ends v None m.env).told may.1;
      placed = own-placed Journal before (ask.Leave v) (end_change v None m.env).entry.reply.out (own may.2);
    }
ends-next s rss m before owed v (end.Cut w) some local own may =
    let st : HasTopFrame m.env.frames = stands-so m.env.frames some in
    let told : cut_of (end_change None (Some w) m.env).entry.reply.out ≡ Some w = (ended-ends None (Some w) m.env).told in
    let P : Option HandleId → Type 0 = λ x. EndsNext s rss m before x (Some w) in
    subst P (sym may.0) (record {
      ask = may.1;
      asked = may.2;
      next = cut-next m may.1 w (end_change None (Some w) m.env).entry.reply.out st.top st.rest st.is local told may.3;
      placed = cut-placed owed before may.1 w (end_change None (Some w) m.env).entry.reply.out told own may.4;
    })

-- THE RUN GOES ON
ended-goes : {ps : List Plan} {core : Core} {all : AddonStates} → IsSoundEnvironment core.env → (v : Option HandleId) (cut : Option Why) (now : AddonStates)
    → IsToldEnd ps all.registers core.env v cut now.registers → now.seen ≡ all.seen
    → (s : Setting) (hub : Hub) (history : List Entry) (firsts : List (List DueInfo)) → IsOf s ps core
    → IsRecorded s core hub history all firsts → EndsNext s all.registers (machine_of s.limits core hub history) (last_actor None (weave core.journal history)) v cut
    → RecordsOwn s (after_change (end_change v cut core.env) core) hub history now firsts
ended-goes {ps} {core} {all} sound v cut now told same s hub history firsts of rec n =
    let change : Change = end_change v cut core.env in
    let m : Machine = machine_of s.limits core hub history in
    let x : Entry = change.entry in
    let e : Ends cut x = ended-ends v cut core.env in
    let callers : List Frame = callers_of core.env in
    let keeps : Kept s.plans now.registers (caller_after_reply s.plans rec.own callers x.reply) =
    registers_after_reply-in s ps core hub history all firsts now.registers callers x.reply of rec
    (tail-below core.env.addons core.env.frames sound.owned.frames) told in
    local-grown s core hub history all firsts rec n.ask change (caller_after_reply s.plans rec.own callers x.reply) now
    (by-env m n.ask x (locally m change true) e.who n.next) n.placed
    e.who (asks-of-run s of sound rec n.ask n.asked)
    (ap (λ w. after_event s.plans rec.own m n.ask x.reply w) e.is)
    keeps.count keeps.agrees
    (let P : Option DueInfo → Type 0 = λ d. HasSeen all.seen (option_to_list d) now.seen in
    subst P (sym (ended-untold m v cut core.env)) (seen-same all.seen now.seen same))

-- the innermost frame of a run may end so in every script of these addons
pub record MayEndInScripts (ps : List Plan) (old : Run) (all : AddonStates) (v : Option HandleId) (how : FrameEnd) : Type 0 where
  pub sound : IsSoundEnvironment old.core.env
  pub some : old.core.env.frames ≢ []
  pub idle : old.core.awaited ≡ None
  pub free : is_hub_duty (duty_of old.core.env.frames) ≡ true → old.ending ≡ None
  pub may : (s : Setting) (prefix : List Entry) (firsts : List (List DueInfo)) → IsOf s ps old.core → IsRecordedWithPending s old prefix all firsts
      → MayEndAs s all.registers (machine_of s.limits old.core (hub_along (opening_of s).hub prefix) prefix) old.ending v how

-- IT ENDS
ended-turn : (ps : List Plan) (old new : Run) (all now : AddonStates) (v : Option HandleId) (how : FrameEnd) → MayEndInScripts ps old all v how
    → is_hub_duty (duty_of old.core.env.frames) ≡ false → EndedNow ps all.registers old v how new now.registers → now.seen ≡ all.seen
    → IsMadeTurn ps old all new now
ended-turn ps old new all now v how i local here same =
    let cut : Option Why = cut_at how in
    let e : Environment = old.core.env in
    let change : Change = end_change v cut e in
    let k : KeepsButFrame e change.after = ended-keeps v cut e in
    let course = course-parts e change.after k.course in
    let there : All (λ g. g.addon < e.addons) (callers_of e) = tail-below e.addons e.frames i.sound.owned.frames in
    let U : List Frame → Type 0 = λ l. OnlyInnermostChanges e.frames l all.registers now.registers in
    let P : Option DueInfo → Type 0 = λ d. HasSeen all.seen (option_to_list d) now.seen in
    made-turn ps old new all now change here.ended i.idle here.ending here.begun course.addons (stages-same e.phase change.after.phase course.phase)
    (told-others e.addons ps all.registers now.registers (callers_of e) change.entry.reply there here.told)
    (subst U (sym k.frames) (caller-touched ps all.registers now.registers e.frames (tail e.frames) change.entry.reply i.some here.told))
    (subst P (sym (begins-none e i.some)) (seen-same all.seen now.seen same))
    (λ history s firsts of f.
    let R : Core → Type 0 = λ c. RecordsOwn s c (hub_along (opening_of s).hub f.prefix) f.prefix now firsts in
    let ended : R new.core =
    subst R (sym here.ended) (ended-goes i.sound v cut now here.told same s (hub_along (opening_of s).hub f.prefix) f.prefix firsts of f.joined.recorded
    (ends-next s all.registers (machine_of s.limits old.core (hub_along (opening_of s).hub f.prefix) f.prefix)
    (last_actor None (weave old.core.journal f.prefix)) old.ending v how
    i.some local f.own (i.may s f.prefix firsts of f.joined))) in
    record {
      prefix = f.prefix;
      rest = f.rest;
      history_is = f.history_is;
      others = f.others;
      joined = record {
        recorded = ended.recorded;
        owed = record {
          call = if_some-none _ (ap (λ (c : Core). c.awaited) here.ended ∙ i.idle);
          end = if_some-none _ here.ending;
        };
      };
      own = λ none. ended.own;
    })

-- ITS END IS OWED
pub owed-end : (ps : List Plan) (old : Run) (all : AddonStates) (v : Option HandleId) (how : FrameEnd) → MayEndInScripts ps old all v how
    → is_hub_duty (duty_of old.core.env.frames) ≡ true
    → BecamePending ps old all (record old { ending = Some how }) all
owed-end ps old all v how i hub = record {
  core = refl;
  begun = refl;
  free = i.free hub;
  owes = ap (λ b. is_some old.core.awaited || b) hub ∙ either (is_some old.core.awaited);
  same = refl;
  goes = λ history s firsts of f. record {
    prefix = f.prefix;
    rest = f.rest;
    history_is = f.history_is;
    others = f.others;
    joined = record {
      recorded = f.joined.recorded;
      owed = record {
        call = f.joined.owed.call;
        end = may-end s all.registers (machine_of s.limits old.core (hub_along (opening_of s).hub f.prefix) f.prefix) old.ending v how hub
            (i.may s f.prefix firsts of f.joined);
      };
    };
    own = λ none. (let no : Some how ≡ None = none in cc);
  };
}
  where
    either : (b : Bool) → (b || true) ≡ true
    either true = refl
    either false = refl

-- EITHER
-- a turn at which the innermost frame ends, or its end is pending, whichever it is
pub ends-turn : (b : Bool) (ps : List Plan) (old new : Run) (all now : AddonStates) (v : Option HandleId) (how : FrameEnd) (r : LocalTurn)
    → MayEndInScripts ps old all v how
    → b ≡ is_hub_duty (duty_of old.core.env.frames) → EndedOrPending b ps all.registers old v how new now.registers → now.seen ≡ all.seen
    → r ≡ turn_after new old.core.env
    → TurnCameTo r ps old all new now
ends-turn false ps old new all now v how r i local here same is =
    let made : r ≡ turn.Made = is ∙ turn-made new old.core.env (ap (λ (c : Core). c.awaited) here.ended ∙ i.idle) here.ending i.some in
    let P : LocalTurn → Type 0 = λ x. TurnCameTo x ps old all new now in
    subst P (sym made) (ended-turn ps old new all now v how i (sym local) here same)
ends-turn true ps old new all now v how r i hub owed same is =
    let states : now ≡ all = states-same all now owed.1 same in
    let made : BecamePending ps old all (record old { ending = Some how }) all = owed-end ps old all v how i (sym hub) in
    let N : Run → Type 0 = λ x. BecamePending ps old all x now in
    let A : AddonStates → Type 0 = λ x. BecamePending ps old all (record old { ending = Some how }) x in
    let more : BecamePending ps old all new now = subst N (sym owed.0) (subst A (sym states) made) in
    let P : LocalTurn → Type 0 = λ x. TurnCameTo x ps old all new now in
    subst P (sym (is ∙ turn-owes new old.core.env more.owes)) (inl more)

-- the same where the run, the plans and the registers are those of before
pub ends-turn-at : (b : Bool) (ps qs : List Plan) (old mid new : Run) (all : AddonStates) (regs : Registers) (now : AddonStates) (v : Option HandleId)
    (how : FrameEnd) (r : LocalTurn)
    → MayEndInScripts ps old all v how → b ≡ is_hub_duty (duty_of old.core.env.frames) → mid ≡ old → qs ≡ ps → regs ≡ all.registers
    → EndedOrPending b qs regs mid v how new now.registers
    → now.seen ≡ all.seen → r ≡ turn_after new mid.core.env → TurnCameTo r ps old all new now
ends-turn-at b ps qs old mid new all regs now v how r i is same plans registers here unseen result =
    let M : Run → Type 0 = λ x. EndedOrPending b ps all.registers x v how new now.registers in
    let Q : List Plan → Type 0 = λ x. EndedOrPending b x all.registers mid v how new now.registers in
    let R : Registers → Type 0 = λ x. EndedOrPending b qs x mid v how new now.registers in
    ends-turn b ps old new all now v how r i is (subst M same (subst Q plans (subst R registers here))) unseen
    (result ∙ ap (λ (x : Run). turn_after new x.core.env) same)

-- it leaves what it asked
pub left-may : {ps : List Plan} {old : Run} {all : AddonStates} {f : Frame} (v : Option HandleId) → InFrame ps old.core.env all.registers f (ask.Leave v)
    → old.core.awaited ≡ None
    → old.ending ≡ None → f.asks < most_asks → MayEndInScripts ps old all v end.Leaves
left-may {ps} {old} {all} {f} v i idle unended below = record {
  sound = i.sound;
  some = in-some i;
  idle = idle;
  free = λ hub. unended;
  may = λ s prefix firsts of rec. (asks-in i s of, in-asks i below, unended);
}

-- WHAT ENDED
frames-left : (core new : Core) (v : Option HandleId) (cut : Option Why) → new ≡ after_change (end_change v cut core.env) core
    → new.env.frames ≡ tail core.env.frames
frames-left core new v cut made = ap (λ (c : Core). c.env.frames) made ∙ (ended-keeps v cut core.env).frames

-- a frame that no duty began takes none away
plain-left : (core new : Core) (v : Option HandleId) (cut : Option Why) (begun : Option DueInfo) → duty_of core.env.frames ≡ None
    → new ≡ after_change (end_change v cut core.env) core → HoldsDuty core.env.frames begun → HoldsDuty new.env.frames begun
plain-left core new v cut begun plain made held =
    ap duties_of (frames-left core new v cut made) ∙ duties-plain core.env.frames plain ∙ held

pub plain-running : (core new : Core) (v : Option HandleId) (cut : Option Why) (begun : Option DueInfo) (ending : Option FrameEnd) → IsSoundEnvironment core.env
    → core.env.frames ≢ []
    → core.awaited ≡ None → is_some (duty_of core.env.frames) ≡ false → new ≡ after_change (end_change v cut core.env) core → HoldsDuty core.env.frames begun
    → ending ≡ None
    → IsRunning new begun ending
plain-running core new v cut begun ending sound some idle plain made held unended =
    let S : Core → Type 0 = λ c. IsSoundEnvironment c.env in
    running-idle new begun ending (subst S (sym made) (sound-ended core.env sound some v cut))
    (plain-left core new v cut begun (none-of (duty_of core.env.frames) plain) made held)
    (ap (λ (c : Core). c.awaited) made ∙ idle) unended

-- the frame of a duty takes it away, which stood alone
left-alone : (fs : List Frame) (d : Option Duty) → duty_of fs ≡ d → is_some d ≡ true → AreNested fs → tail fs ≡ []
left-alone fs None has some nested = cc
left-alone fs (Some d) has some nested = duty-alone fs d nested has

pub duty-running : (core new : Core) (cut : Option Why) (begun : Option DueInfo) (ending : Option FrameEnd) → IsSoundEnvironment core.env → core.env.frames ≢ []
    → core.awaited ≡ None
    → is_some (duty_of core.env.frames) ≡ true → new ≡ after_change (end_change None cut core.env) core → begun ≡ None → ending ≡ None
    → IsRunning new begun ending
duty-running core new cut begun ending sound some idle has made spent unended =
    let S : Core → Type 0 = λ c. IsSoundEnvironment c.env in
    let H : Option DueInfo → Type 0 = λ o. HoldsDuty new.env.frames o in
    let none : duties_of new.env.frames ≡ [] =
    ap duties_of (frames-left core new None cut made ∙ left-alone core.env.frames (duty_of core.env.frames) refl has sound.nested) in
    running-idle new begun ending (subst S (sym made) (sound-ended core.env sound some None cut)) (subst H (sym spent) none)
    (ap (λ (c : Core). c.awaited) made ∙ idle) unended

-- THE CALLER IS TOLD
-- the caller's addon is there
pub caller-there : (core new : Core) (v : Option HandleId) (cut : Option Why) (f : Frame) → IsSoundEnvironment core.env
    → new ≡ after_change (end_change v cut core.env) core
    → Some f ≡ head new.env.frames
    → f.addon < core.env.addons
caller-there core new v cut f sound made top =
    let all : All (λ x. x.addon < core.env.addons) (end_change v cut core.env).after.frames = (owned-ended core.env.addons core.env v cut sound.owned).frames in
    let P : List Frame → Type 0 = λ l. All (λ x. x.addon < core.env.addons) l in
    head-below core.env.addons new.env.frames f (sym top) (subst P (ap (λ (c : Core). c.env.frames) (sym made)) all)

-- it is told the reply to the ask that it made last
pub told-caller : (ps : List Plan) (all now : Registers) (core new : Core) (v : Option HandleId) (cut : Option Why) (f : Frame) (n : ℕ) (r : Reply)
    → new ≡ after_change (end_change v cut core.env) core → Some f ≡ head new.env.frames → n ≡ f.asks - 1 → r ≡ (end_change v cut core.env).entry.reply
    → OthersStay all now f.addon → IfSome (plan_of ps f.addon) (λ p. registers_of now f.addon ≡ registers_after_reply p (registers_of all f.addon) f.entry n r)
    → ReplyIsNoted ps all (at_last_ask (tail core.env.frames)) (end_change v cut core.env).entry.reply now
told-caller ps all now core new v cut f n r made top counted answer others keeps =
    let callers : tail core.env.frames ≡ f ∷ tail new.env.frames = sym (frames-left core new v cut made) ∙ head-stands new.env.frames f (sym top) in
    let P : List Frame → Type 0 = λ l. ReplyIsNoted ps all (at_last_ask l) (end_change v cut core.env).entry.reply now in
    let K : ℕ → Reply → Type 0 = λ k x.
    IfSome (plan_of ps f.addon) (λ p. registers_of now f.addon ≡ registers_after_reply p (registers_of all f.addon) f.entry k x) in
    subst P (sym callers) (others, subst (λ (x : Reply). K (f.asks - 1) x) answer (subst (λ (k : ℕ). K k r) counted keeps))
