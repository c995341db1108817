-- A turn in which a call of the innermost frame is replied to, enters a frame, or is handed to the hub.
use Rattle.std.proofs.Common.{◌≡◌, ◌<◌, ◌≤◌, ℕ, Bool, true, false, List, length, drop, refl, ap, subst, sym, ◌∙◌, arith, Option, Some, None, IfSome, MatchOption, IsTrue}
use Rattle.std.specs.Option.{option_to_list}
use Rattle.napi_types.proofs.environment.HookedSteps.{GivesNew}
use Rattle.napi_types.specs.declared.call.Args.{Args}
use Rattle.napi_types.specs.declared.call.Ask.{Ask}
use Rattle.napi_types.specs.declared.call.Ask.TheVariants as ask
use Rattle.napi_types.specs.declared.call.Call.{Call}
use Rattle.napi_types.specs.declared.call.Call.TheVariants as call
use Rattle.napi_types.specs.declared.duties.DueInfo.{DueInfo}
use Rattle.napi_types.specs.declared.entry.Reply.{Reply}
use Rattle.napi_types.specs.declared.entry.SharedCall.{SharedCall}
use Rattle.napi_types.specs.declared.entry.Target.{Target}
use Rattle.napi_types.specs.declared.entry.Out.{Out}
use Rattle.napi_types.specs.declared.ids.HandleId.{HandleId}
use Rattle.napi_types.specs.plain.Guards.{is_shared}
use Rattle.napi_types.specs.plain.Lists.{tail}
use Rattle.napi_types.specs.plain.Room.{is_full, need}
use Rattle.napi_types.specs.parts.Duties.{duties_of}
use Rattle.napi_types.specs.parts.Frames.{Frame, ask_counted, most_asks}
use Rattle.napi_types.specs.parts.FunctionCalls.{callee_of, call_gifts}
use Rattle.napi_types.specs.scripts.Plans.{Plan, plan_of, Registers, registers_of}
use Rattle.napi_types.specs.scripts.Registers.{registers_after_reply}
use Rattle.napi_types.specs.environment.Changes.{Change, issued_number, is_fresh_result, call_change}
use Rattle.napi_types.specs.environment.Entering.{enter_change, asked_change}
use Rattle.napi_types.specs.environment.SharedCalls.{shared_call_of}
use Rattle.napi_types.specs.runs.CallRoom.{room_of}
use Rattle.napi_types.specs.runs.Machine.{Machine}
use Rattle.napi_types.specs.runs.Plan.{caller_after_reply, with_addon_gifts, with_callee_gifts}
use Rattle.napi_types.specs.runs.Step.{locally}
use Rattle.napi_types.proofs.environment.AnswersKeep.{course-parts, answer-keeps}
use Rattle.napi_types.proofs.environment.FrameChanges.{enter_change-keeps, asked_change-call_change, asked_change-enter_change, KeepsButFrames, asked_change-fits}
use Rattle.napi_types.proofs.environment.Owners.{callee-owned}
use Rattle.napi_types.proofs.environment.StandingFrames.{duties-asked}
use Rattle.addon_trait.specs.Addons.{OthersStay}
use Rattle.env_core.specs.Core.{Core, after_change}
use Rattle.env_core.specs.CoreSteps.{Replies, EntersBy, Enters, OnLastReply}
use Rattle.env_core.specs.Journal.{last_reply}
use Rattle.env_core.specs.Sharing.{awaiting}
use Rattle.env_loop.specs.declared.run.FrameEnd.{FrameEnd}
use Rattle.env_loop.specs.FollowedRuns.{Asks}
use Rattle.env_loop.specs.Recording.{AddonStates, machine_of, HasSeen, IsRecorded, KeepsRecord}
use Rattle.env_loop.specs.RecordedRuns.{Run, IsSoundEnvironment, HoldsDuty, IsRunning}
use Rattle.env_loop.specs.Turns.{ReplyIsNoted, OnlyInnermostChanges, IsMadeTurn, BecamePending}
use Rattle.env_loop.proofs.LocalGoing.{if_some-none, local-goes, stages-same}
use Rattle.env_loop.proofs.MadeTurns.{running-idle, states-same, made-turn}
use Rattle.env_loop.proofs.Recordings.{own-grown}
use Rattle.env_loop.proofs.TurnSteps.{TellsNoFrame, reply-tells, call-next, same-room}
use Rattle.env_loop.proofs.FrameTurns.{InFrame, in-stands, in-some, in-calls, in-spare, sound-asked}
use Rattle.env_loop.proofs.RegisterTurns.{others-given, given-others, given-kept, Kept, told-others, asking-touched, callee-touched, asks-in, asked-in, registers_after_reply-in}
use Rattle.env_loop.proofs.SeenLists.{begins-none, seen-same}

-- A REPLY
-- the reply of the journal's last entry is the answer
pub on-last : (old new : Core) (c : Call) (r : Reply) → Some r ≡ last_reply new.journal → OnLastReply new.journal (λ q. Replies old c q new) → Replies old c r new
on-last old new c r e p = let Q : Option Reply → Type 0 = λ q. MatchOption q ⊥ (λ s. Replies old c s new) in subst Q (sym e) p

call_change-goes : {ps : List Plan} {core : Core} {all : AddonStates} {f : Frame} {a : Ask} → InFrame ps core.env all.registers f a
    → (c : Call) (r : Reply) (new : Core) (now : AddonStates) → f.asks < most_asks
    → ask.Do c ≡ a → is_shared c ≡ false → Replies core c r new → ReplyIsNoted ps all.registers core.env.frames r now.registers → now.seen ≡ all.seen
    → KeepsRecord ps core all (after_change (call_change core.env c (issued_number r.out)) core) now
call_change-goes {ps} {core} {all} {f} {a} i c r new now below is local reply told same = λ s hub history firsts of own.
    let rec : IsRecorded s core hub history all firsts = own.recorded in
    let k : ℕ = issued_number r.out in
    let change : Change = call_change core.env c k in
    let m : Machine = machine_of s.limits core hub history in
    let o : Out = change.entry.reply.out in
    let same_out : r.out ≡ o = ap (λ (x : Reply). x.out) reply.answer in
    let number : issued_number o ≡ k = ap issued_number (sym same_out) in
    let fresh_o : is_fresh_result core.env o ≡ true = ap (is_fresh_result core.env) (sym same_out) ∙ reply.fresh in
    let room : is_full (room_of m c) c ≡ false = ap (λ x. is_full x c) (sym (same-room s core hub history c local rec.limit)) ∙ reply.fits in
    let told_here : ReplyIsNoted ps all.registers core.env.frames change.entry.reply now.registers =
    subst (λ (x : Reply). ReplyIsNoted ps all.registers core.env.frames x now.registers) reply.answer told in
    let tells : TellsNoFrame o = reply-tells core.env c k in
    let next : Kept s.plans now.registers (caller_after_reply s.plans rec.own core.env.frames change.entry.reply) =
    registers_after_reply-in s ps core hub history all firsts now.registers core.env.frames change.entry.reply of rec i.sound.owned.frames told_here in
    own-grown s core hub history all firsts own a change (caller_after_reply s.plans rec.own core.env.frames change.entry.reply) now
    (call-next m a c o k f (tail core.env.frames) (in-stands i) is local tells.uncut number
    (in-calls i c is below) fresh_o room
    ∙ ap (λ x. locally m x true) (asked_change-call_change core.env c k reply.at_once))
    refl (asked-in i s hub history firsts of rec) refl next.count next.agrees
    (let P : Option DueInfo → Type 0 = λ d. HasSeen all.seen (option_to_list d) now.seen in subst P (sym (tells.untold m)) (seen-same all.seen now.seen same))

-- a turn of a call, which comes to this change
asked-turn : {ps : List Plan} {old : Run} {all : AddonStates} {f : Frame} {a : Ask} → InFrame ps old.core.env all.registers f a
    → (c : Call) (n : ℕ) (change : Change) (new : Core) (now : AddonStates)
    → old.core.awaited ≡ None → old.ending ≡ None → asked_change old.core.env c n ≡ change → new ≡ after_change change old.core
    → drop old.core.env.addons now.registers ≡ drop old.core.env.addons all.registers
    → OnlyInnermostChanges old.core.env.frames change.after.frames all.registers now.registers → now.seen ≡ all.seen
    → KeepsRecord ps old.core all (after_change change old.core) now
    → IsMadeTurn ps old all (record old { core = new }) now
asked-turn {ps} {old} {all} {f} {a} i c n change new now idle unended same made others untouched unseen goes =
    let e = old.core.env in
    let k : KeepsButFrames e (asked_change e c n).after (need c) = asked_change-fits e c n in
    let course = course-parts e (asked_change e c n).after k.course in
    let Q : Core → Type 0 = λ x. KeepsRecord ps old.core all x now in
    let P : Option DueInfo → Type 0 = λ d. HasSeen all.seen (option_to_list d) now.seen in
    made-turn ps old (record old { core = new }) all now change made idle unended refl
    (ap (λ (x : Change). x.after.addons) (sym same) ∙ course.addons)
    (stages-same e.phase change.after.phase (ap (λ (x : Change). x.after.phase) (sym same) ∙ course.phase))
    others untouched
    (subst P (sym (begins-none e (in-some i))) (seen-same all.seen now.seen unseen))
    (local-goes ps old (record old { core = new }) all now (subst Q (sym made) goes) unended (ap (λ (x : Core). x.awaited) made ∙ idle) unended)

pub replied-turn : {ps : List Plan} {old : Run} {all : AddonStates} {f : Frame} {a : Ask} → InFrame ps old.core.env all.registers f a
    → (c : Call) (r : Reply) (new : Core) (now : AddonStates) → old.core.awaited ≡ None → old.ending ≡ None
    → f.asks < most_asks → ask.Do c ≡ a → is_shared c ≡ false → Replies old.core c r new → OthersStay all.registers now.registers f.addon
    → IfSome (plan_of ps f.addon) (λ p. registers_of now.registers f.addon ≡ registers_after_reply p (registers_of all.registers f.addon) f.entry f.asks r)
    → now.seen ≡ all.seen → IsMadeTurn ps old all (record old { core = new }) now
replied-turn {ps} {old} {all} {f} {a} i c r new now idle unended below is local reply others keeps same =
    let e = old.core.env in
    let k : ℕ = issued_number r.out in
    let told : ReplyIsNoted ps all.registers e.frames r now.registers =
    subst (λ (l : List Frame). ReplyIsNoted ps all.registers l r now.registers) (sym (in-stands i)) (others, keeps) in
    let U : List Frame → Type 0 = λ l. OnlyInnermostChanges e.frames (ask_counted l) all.registers now.registers in
    asked-turn i c k (call_change e c k) new now idle unended (asked_change-call_change e c k reply.at_once) reply.after
    (told-others e.addons ps all.registers now.registers e.frames r i.sound.owned.frames told)
    (subst U (sym (answer-keeps e c k).frames) (asking-touched ps all.registers now.registers e.frames e.frames r (in-some i) told)) same
    (call_change-goes i c r new now below is local reply told same)

-- what a call leaves is kept by the run
asked-running : (core : Core) {ps : List Plan} {all : Registers} {f : Frame} {a : Ask} → InFrame ps core.env all f a
    → (c : Call) (n : ℕ) (change : Change) (new : Core) (begun : Option DueInfo) (ending : Option FrameEnd) → core.awaited ≡ None → ending ≡ None
    → f.asks < most_asks
    → asked_change core.env c n ≡ change → GivesNew core.env change.entry → new ≡ after_change change core → HoldsDuty core.env.frames begun
    → IsRunning new begun ending
asked-running core {ps} {all} {f} {a} i c n change new begun ending idle unended below same fresh made held =
    let here : new ≡ after_change (asked_change core.env c n) core = made ∙ ap (λ x. after_change x core) (sym same) in
    let S : Core → Type 0 = λ x. IsSoundEnvironment x.env in
    running-idle new begun ending (subst S (sym here) (sound-asked i below c n (subst (λ (x : Change). GivesNew core.env x.entry) (sym same) fresh)))
    (ap (λ (x : Core). duties_of x.env.frames) here ∙ duties-asked core.env c n ∙ held) (ap (λ (x : Core). x.awaited) here ∙ idle) unended

pub replied-running : (core : Core) {ps : List Plan} {all : Registers} {f : Frame} {a : Ask} → InFrame ps core.env all f a
    → (c : Call) (r : Reply) (new : Core) (begun : Option DueInfo) (ending : Option FrameEnd) → core.awaited ≡ None → ending ≡ None → f.asks < most_asks
    → Replies core c r new → HoldsDuty core.env.frames begun → IsRunning new begun ending
replied-running core {ps} {all} {f} {a} i c r new begun ending idle unended below reply held =
    let k : ℕ = issued_number r.out in
    asked-running core i c k (call_change core.env c k) new begun ending idle unended below
    (asked_change-call_change core.env c k reply.at_once) (subst (λ (q : Reply). IsTrue (is_fresh_result core.env q.out)) reply.answer reply.fresh) reply.after held

-- A FRAME IS ENTERED
enter_change-goes : {ps : List Plan} {core : Core} {all : AddonStates} {f : Frame} {a : Ask} → InFrame ps core.env all.registers f a
    → (receiver : Option HandleId) (g : HandleId) (args : Args) (target : Target)
    (gifts : List ℕ) (new : Core) (now : AddonStates) → f.asks < most_asks → ask.Do (call.CallFunction receiver g args) ≡ a
    → EntersBy core receiver g args target gifts new
    → core.env.addons ≤ length all.registers
    → now.registers ≡ with_addon_gifts all.registers (callee_of core.env.heap g).addon (call_gifts core.env.heap receiver g args)
    → now.seen ≡ all.seen
    → KeepsRecord ps core all (after_change (enter_change receiver g args core.env) core) now
enter_change-goes {ps} {core} {all} {f} {a} e receiver g args target given_gifts new now below is enters enough given same = λ s hub history firsts of own.
    let rec : IsRecorded s core hub history all firsts = own.recorded in
    let c : Call = call.CallFunction receiver g args in
    let change : Change = enter_change receiver g args core.env in
    let m : Machine = machine_of s.limits core hub history in
    let room : is_full (room_of m c) c ≡ false = ap (λ x. is_full x c) (sym (same-room s core hub history c refl rec.limit)) ∙ enters.fits in
    let i : ℕ = (callee_of core.env.heap g).addon in
    let gifts : List ℕ = call_gifts core.env.heap receiver g args in
    let callee : i < core.env.addons = callee-owned core.env.addons core.env receiver g args enters.called.accepted e.sound.owned in
    let inside : i < length s.plans = omega (arith, of.count, callee) in
    let there : i < length all.registers = omega (arith, callee, enough) in
    let kept : Kept s.plans now.registers (with_addon_gifts rec.own i gifts) =
    given-kept s.plans all.registers rec.own now.registers i gifts rec.count rec.agrees inside there given in
    own-grown s core hub history all firsts own a change (with_addon_gifts rec.own i gifts) now
    (call-next m a c change.entry.reply.out 0 f (tail core.env.frames) (in-stands e) is refl refl refl (in-calls e c is below) refl room
    ∙ ap (λ x. locally m x true) (asked_change-enter_change core.env receiver g args 0 enters.called.accepted))
    refl (asked-in e s hub history firsts of rec)
    (ap (λ b. with_callee_gifts rec.own core.env.heap b) (sym is))
    kept.count kept.agrees (seen-same all.seen now.seen same)

entering-turn : {ps : List Plan} {old : Run} {all : AddonStates} {f : Frame} {a : Ask} → InFrame ps old.core.env all.registers f a
    → (receiver : Option HandleId) (g : HandleId) (args : Args) (target : Target)
    (gifts : List ℕ) (new : Core) (now : AddonStates) → old.core.awaited ≡ None → old.ending ≡ None → f.asks < most_asks
    → ask.Do (call.CallFunction receiver g args) ≡ a
    → EntersBy old.core receiver g args target gifts new
    → old.core.env.addons ≤ length all.registers → now.registers ≡ with_addon_gifts all.registers target.addon gifts → now.seen ≡ all.seen
    → IsMadeTurn ps old all (record old { core = new }) now
entering-turn {ps} {old} {all} {f} {a} i receiver g args target gifts new now idle unended below is enters enough given same =
    let e = old.core.env in
    let at : ℕ = (callee_of e.heap g).addon in
    let own : List ℕ = call_gifts e.heap receiver g args in
    let callee : at < e.addons = callee-owned e.addons e receiver g args enters.called.accepted i.sound.owned in
    let given_there : now.registers ≡ with_addon_gifts all.registers at own = given ∙ ap (λ n. with_addon_gifts all.registers n gifts) enters.called.addon
    ∙ ap (λ l. with_addon_gifts all.registers at l) enters.called.gifts_are in
    let U : List Frame → Type 0 = λ l. OnlyInnermostChanges e.frames l all.registers now.registers in
    asked-turn i (call.CallFunction receiver g args) 0 (enter_change receiver g args e) new now idle unended
    (asked_change-enter_change e receiver g args 0 enters.called.accepted) enters.after
    (given-others e.addons all.registers now.registers at own callee given_there)
    (subst U (sym (enter_change-keeps receiver g args e).frames)
    (callee-touched all.registers now.registers e.frames (ask_counted e.frames) (callee_of e.heap g) (in-some i)
    (others-given all.registers now.registers at own (omega (arith, callee, enough)) given_there))) same
    (enter_change-goes i receiver g args target gifts new now below is enters enough given_there same)

pub entered-turn : {ps : List Plan} {old : Run} {all : AddonStates} {f : Frame} {a : Ask} → InFrame ps old.core.env all.registers f a
    → (c : Call) (target : Target) (gifts : List ℕ) (new : Core) (now : AddonStates) → old.core.awaited ≡ None → old.ending ≡ None
    → f.asks < most_asks → ask.Do c ≡ a → Enters old.core c target gifts new → old.core.env.addons ≤ length all.registers
    → now.registers ≡ with_addon_gifts all.registers target.addon gifts → now.seen ≡ all.seen → IsMadeTurn ps old all (record old { core = new }) now
entered-turn i (call.CallFunction receiver g args) target gifts new now idle unended below is enters enough given same =
    entering-turn i receiver g args target gifts new now idle unended below is enters enough given same
entered-turn i c target gifts new now idle unended below is enters enough given same = absurd enters

pub entered-running : (core : Core) {ps : List Plan} {all : Registers} {f : Frame} {a : Ask} → InFrame ps core.env all f a
    → (c : Call) (target : Target) (gifts : List ℕ) (new : Core) (begun : Option DueInfo) (ending : Option FrameEnd) → core.awaited ≡ None → ending ≡ None
    → f.asks < most_asks
    → Enters core c target gifts new → HoldsDuty core.env.frames begun → IsRunning new begun ending
entered-running core {ps} {all} {f} {a} i (call.CallFunction receiver g args) target gifts new begun ending idle unended below enters held =
    asked-running core i (call.CallFunction receiver g args) 0 (enter_change receiver g args core.env) new begun ending idle unended below
    (asked_change-enter_change core.env receiver g args 0 enters.called.accepted) refl enters.after held
entered-running core i c target gifts new begun ending idle unended below enters held = absurd enters

-- the addon whose frame a call enters is there
pub target-there : (core : Core) (c : Call) (target : Target) (gifts : List ℕ) (new : Core) → IsSoundEnvironment core.env → Enters core c target gifts new
    → target.addon < core.env.addons
target-there core (call.CallFunction receiver g args) target gifts new sound enters =
    let callee : (callee_of core.env.heap g).addon < core.env.addons =
    callee-owned core.env.addons core.env receiver g args enters.called.accepted sound.owned in
    omega (arith, callee, enters.called.addon)
target-there core c target gifts new sound enters = absurd enters

pub entered-idle : (core : Core) (c : Call) (target : Target) (gifts : List ℕ) (new : Core) → core.awaited ≡ None → Enters core c target gifts new
    → new.awaited ≡ None
entered-idle core (call.CallFunction receiver g args) target gifts new idle enters = ap (λ (x : Core). x.awaited) enters.after ∙ idle
entered-idle core c target gifts new idle enters = absurd enters

-- A CALL IS HANDED OVER
-- a call is shared, or it is not
pub is-true : (b : Bool) → (b ≡ false → ⊥) → b ≡ true
is-true true never = refl
is-true false never = absurd (never refl)

pub not-shared : (c : Call) → (is_shared c ≡ true → ⊥) → is_shared c ≡ false
not-shared c never = by (is_shared c) refl
  where
    by : (b : Bool) → is_shared c ≡ b → is_shared c ≡ false
    by true shared = absurd (never shared)
    by false local = local

-- the hub is to answer what the innermost frame asks
shared-owes : {ps : List Plan} {old : Run} {all : AddonStates} {f : Frame} {a : Ask} → InFrame ps old.core.env all.registers f a → (c : Call)
    → old.ending ≡ None → ask.Do c ≡ a
    → BecamePending ps old all (record old { core = awaiting (shared_call_of old.core.env c) old.core }) all
shared-owes {ps} {old} {all} {f} {a} i c unended is = record {
  core = refl;
  begun = refl;
  free = unended;
  owes = refl;
  same = refl;
  goes = λ history s firsts of x.
      let r = x.joined.recorded in
      let D : Ask → Type 0 = λ b. Asks s all.registers old.core.env.frames b in
      record {
        prefix = x.prefix;
        rest = x.rest;
        history_is = x.history_is;
        others = x.others;
        joined = record {
          recorded = record {
            asks = r.asks;
            own = r.own;
            run = r.run;
            final = r.final;
            registers = r.registers;
            count = r.count;
            agrees = r.agrees;
            seen = r.seen;
            limit = r.limit;
            position = r.position;
            rises = r.rises;
            parted = r.parted;
            placed = r.placed;
          };
          owed = record { call = subst D (sym is) (asks-in i s of); end = if_some-none _ unended };
        };
        own = x.own;
      };
}

pub shared-more : {ps : List Plan} {old : Run} {all : AddonStates} {f : Frame} {a : Ask} → InFrame ps old.core.env all.registers f a
    → (c : Call) (h : SharedCall) (new : Core) (now : AddonStates) → old.ending ≡ None → ask.Do c ≡ a
    → (h ≡ shared_call_of old.core.env c) × (new ≡ awaiting h old.core)
    → now.registers ≡ all.registers → now.seen ≡ all.seen → BecamePending ps old all (record old { core = new }) now
shared-more {ps} {old} {all} {f} {a} i c h new now unended is handed registers seen =
    let made : new ≡ awaiting (shared_call_of old.core.env c) old.core = handed.1 ∙ ap (λ x. awaiting x old.core) handed.0 in
    let N : Core → Type 0 = λ x. BecamePending ps old all (record old { core = x }) now in
    let A : AddonStates → Type 0 = λ x. BecamePending ps old all (record old { core = awaiting (shared_call_of old.core.env c) old.core }) x in
    subst N (sym made) (subst A (sym (states-same all now registers seen)) (shared-owes i c unended is))

-- the run keeps that it awaits the answer
shared-awaits : (core : Core) {ps : List Plan} {all : Registers} {f : Frame} {a : Ask} → InFrame ps core.env all f a → (c : Call) (begun : Option DueInfo)
    (ending : Option FrameEnd) → f.asks < most_asks → is_shared c ≡ true → ending ≡ None → HoldsDuty core.env.frames begun
    → IsRunning (awaiting (shared_call_of core.env c) core) begun ending
shared-awaits core {ps} {all} {f} {a} i c begun ending below shared unended held = record {
  sound = i.sound;
  held = held;
  awaited = record { stands = in-some i; within = in-spare i below; shared = shared; handed = refl };
  ends = if_some-none _ unended;
  one = λ asked. unended;
}

pub shared-running : (core : Core) {ps : List Plan} {all : Registers} {f : Frame} {a : Ask} → InFrame ps core.env all f a
    → (c : Call) (h : SharedCall) (new : Core) (begun : Option DueInfo) (ending : Option FrameEnd) → f.asks < most_asks → is_shared c ≡ true → ending ≡ None
    → (h ≡ shared_call_of core.env c) × (new ≡ awaiting h core) → HoldsDuty core.env.frames begun → IsRunning new begun ending
shared-running core {ps} {all} {f} {a} i c h new begun ending below shared unended handed held =
    let N : Core → Type 0 = λ x. IsRunning x begun ending in
    subst N (sym (handed.1 ∙ ap (λ x. awaiting x core) handed.0)) (shared-awaits core i c begun ending below shared unended held)
