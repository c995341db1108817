-- A turn that leaves one entry in the journal, and one after which something is pending at the hub.
use Rattle.std.proofs.Common.{◌≡◌, ◌≢◌, ◌&&◌, ◌||◌, Bool, true, false, cond, List, [], ◌∷◌, drop, refl, ap, subst, sym, ◌∙◌, Option, None, is_some}
use Rattle.std.specs.Option.{option_to_list}
use Rattle.napi_types.specs.declared.duties.DueInfo.{DueInfo}
use Rattle.napi_types.specs.declared.entry.Entry.{Entry}
use Rattle.napi_types.specs.declared.entry.SharedCall.{SharedCall}
use Rattle.napi_types.specs.parts.Frames.{Frame, duty_of, is_hub_duty}
use Rattle.napi_types.specs.scripts.Plans.{Plan}
use Rattle.napi_types.specs.environment.Changes.{Change}
use Rattle.napi_types.specs.environment.Environment.{Environment}
use Rattle.napi_types.proofs.plain.Options.{none-of}
use Rattle.env_core.specs.Core.{Core, after_change}
use Rattle.env_loop.specs.declared.run.FrameEnd.{FrameEnd}
use Rattle.env_loop.specs.declared.turn.LocalTurn.TheVariants as turn
use Rattle.env_loop.specs.FollowedRuns.{FollowsOn}
use Rattle.env_loop.specs.Recording.{AddonStates, HasSeen}
use Rattle.env_loop.specs.RecordedRuns.{Run, IsSoundEnvironment, HoldsDuty, IsRunning, hub_begun, pending_at_hub}
use Rattle.env_loop.specs.Turns.{turn_of, turn_after, next_ticket_info, OnlyInnermostChanges, IsMadeTurn}
use Rattle.env_loop.proofs.LocalGoing.{if_some-none, KeepsStages, fits-local}

-- a run that has nothing pending at the hub awaits no answer
first-none : (a b : Bool) → (a || b) ≡ false → a ≡ false
first-none true b none = cc
first-none false b none = refl

pub unowed-idle : (run : Run) → pending_at_hub run ≡ false → run.core.awaited ≡ None
unowed-idle run unowed = none-of run.core.awaited (first-none (is_some run.core.awaited) _ unowed)

-- WHAT IS KEPT
-- a run keeps what it has to, where nothing is pending
pub running-idle : (core : Core) (begun : Option DueInfo) (ending : Option FrameEnd) → IsSoundEnvironment core.env → HoldsDuty core.env.frames begun
    → core.awaited ≡ None → ending ≡ None
    → IsRunning core begun ending
running-idle core begun ending sound held idle unended = record {
  sound = sound;
  held = held;
  awaited = if_some-none _ idle;
  ends = if_some-none _ unended;
  one = λ asked. unended;
}

-- addons that have the same registers and have seen the same are the same
pub states-same : (all now : AddonStates) → now.registers ≡ all.registers → now.seen ≡ all.seen → now ≡ all
states-same all now registers seen = ap (λ r. record now { registers = r }) registers ∙ ap (λ t. record all { seen = t }) seen

-- ITS RESULT
-- a turn that leaves nothing pending made its entry, where a frame stood
unowed : (o : Option SharedCall) (q : Option FrameEnd) (b : Bool) → o ≡ None → q ≡ None → (is_some o || is_some q && b) ≡ false
unowed o q b idle unended = rw (idle, unended) refl

stood : (fs : List Frame) (e : Environment) → fs ≡ e.frames → fs ≢ [] → turn_of e ≡ turn.Made
stood [] e is some = absurd (some refl)
stood (f ∷ fs) e is some = rw (sym is) refl

pub turn-made : (new : Run) (e : Environment) → new.core.awaited ≡ None → new.ending ≡ None → e.frames ≢ [] → turn_after new e ≡ turn.Made
turn-made new e idle unended some =
    ap (λ b. cond b turn.NeedsHub (turn_of e)) (unowed new.core.awaited new.ending (is_hub_duty (duty_of new.core.env.frames)) idle unended)
    ∙ stood e.frames e refl some

-- where something is pending the hub has to make its turn
pub turn-owes : (new : Run) (e : Environment) → pending_at_hub new ≡ true → turn_after new e ≡ turn.NeedsHub
turn-owes new e owes = ap (λ b. cond b turn.NeedsHub (turn_of e)) owes

-- ONE ENTRY MORE
-- a turn that writes down a change
pub made-turn : (ps : List Plan) (old new : Run) (all now : AddonStates) (change : Change) → new.core ≡ after_change change old.core → old.core.awaited ≡ None
    → new.ending ≡ None
    → hub_begun new.begun ≡ hub_begun old.begun → change.after.addons ≡ old.core.env.addons → KeepsStages old.core.env.phase change.after.phase
    → drop old.core.env.addons now.registers ≡ drop old.core.env.addons all.registers
    → OnlyInnermostChanges old.core.env.frames change.after.frames all.registers now.registers
    → HasSeen all.seen (option_to_list (next_ticket_info old.core.env)) now.seen
    → ((history : List Entry) → FollowsOn ps old history all new history now)
    → IsMadeTurn ps old all new now
made-turn ps old new all now change made idle unended begun addons stages others untouched seen goes =
    let U : Core → Type 0 = λ c. OnlyInnermostChanges old.core.env.frames c.env.frames all.registers now.registers in
    let K : Core → Type 0 = λ c. KeepsStages old.core.env.phase c.env.phase in
    record {
      others = others;
      untouched = subst U (sym made) untouched;
      seen = seen;
      kept = record {
        addons = ap (λ (c : Core). c.env.addons) made ∙ addons;
        fits = fits-local old new (subst K (sym made) stages) begun (ap (λ (c : Core). c.env.addons) made ∙ addons)
            (ap (λ (c : Core). c.position) made);
        limit = ap (λ (c : Core). c.limit) made;
        position = ap (λ (c : Core). c.position) made;
        awaited = ap (λ (c : Core). c.awaited) made ∙ idle;
        ending = unended;
        one = record { entry = record { at = old.core.position; entry = change.entry }; last = ap (λ (c : Core). c.journal) made };
      };
      goes = goes;
    }
