-- The call that is awaited: that it is asked, and that it is pending.
use Rattle.std.proofs.Common.{◌≡◌, ◌<◌, ◌&&◌, ◌||◌, ℕ, nat_lt, Bool, true, false, cond, List, [], ◌∷◌, refl, ap, subst, ◌∙◌, arith, Option, Some, None, is_some, IfSome}
use Rattle.napi_types.specs.declared.call.Ask.TheVariants as ask
use Rattle.napi_types.specs.declared.call.Call.{Call}
use Rattle.napi_types.specs.declared.duties.DueInfo.{DueInfo}
use Rattle.napi_types.specs.declared.entry.Entry.{Entry}
use Rattle.napi_types.specs.declared.entry.SharedCall.{SharedCall}
use Rattle.napi_types.specs.parts.Frames.{Frame, is_asking, asks_made, duty_of, is_hub_duty, most_asks}
use Rattle.napi_types.specs.scripts.Plans.{plan_of, Registers, registers_of}
use Rattle.napi_types.specs.environment.Changes.{may_ask, may_call}
use Rattle.napi_types.specs.environment.Environment.{Environment}
use Rattle.napi_types.specs.hub.Hub.{Hub}
use Rattle.napi_types.specs.runs.Plan.{frame_ask}
use Rattle.napi_types.specs.runs.Setting.{Setting}
use Rattle.env_core.specs.Core.{Core}
use Rattle.env_loop.specs.FollowedRuns.{Asks}
use Rattle.env_loop.specs.Recording.{AddonStates, IsRecorded}
use Rattle.env_loop.specs.RecordedRuns.{Run, IsAwaited, IsRunning, pending_at_hub}
use Rattle.env_loop.proofs.TurnSteps.{two_may}

-- WHAT IS ASKED
-- only a frame that makes asks makes a call
asks-calls : (s : Setting) (rss : Registers) (fs : List Frame) (c : Call) → Asks s rss fs (ask.Do c) → is_asking fs ≡ true
asks-calls s rss [] c is = cc
asks-calls s rss (f ∷ fs) c is = by f.makes_asks refl is
  where
    by : (b : Bool) → f.makes_asks ≡ b → ask.Do c ≡ cond b (frame_ask (plan_of s.plans f.addon) (registers_of rss f.addon) f (ask.Do c)) (ask.Leave None)
        → f.makes_asks ≡ true
    by true makes asked = makes
    by false makes asked = cc

pub awaited-calls : (s : Setting) (rss : Registers) (e : Environment) (c : SharedCall) → IsAwaited e c → Asks s rss e.frames (ask.Do c.call) → may_call e ≡ true
awaited-calls s rss e c w asks =
    two_may (may_ask e) (is_asking e.frames) (below (asks_made e.frames) most_asks w.within) (asks-calls s rss e.frames c.call asks)
  where
    below : (a b : ℕ) → a < b → nat_lt a b ≡ true
    below a b h = grind arith

-- WHAT IS AWAITED
-- no part of a recorded run speaks of it
pub settled : (s : Setting) (core : Core) (hub : Hub) (history : List Entry) (all : AddonStates) (firsts : List (List DueInfo))
    → IsRecorded s core hub history all firsts
    → IsRecorded s (record core { awaited = None }) hub history all firsts
settled s core hub history all firsts r = record {
  asks = r.asks;
  own = r.own;
  run = r.run;
  final = r.final;
  registers = r.registers;
  count = r.count;
  agrees = r.agrees;
  seen = r.seen;
  limit = r.limit;
  position = r.position;
  rises = r.rises;
  parted = r.parted;
  placed = r.placed;
}

-- it is a call of the innermost frame, ..
pub awaited-stands : (run : Run) (c : SharedCall) → IsRunning run.core run.begun run.ending → run.core.awaited ≡ Some c → IsAwaited run.core.env c
awaited-stands run c running awaited = subst (λ o. IfSome o (IsAwaited run.core.env)) awaited running.awaited

pub awaits : (run old : Run) (c : SharedCall) → run ≡ old → IsRunning run.core run.begun run.ending → old.core.awaited ≡ Some c → IsAwaited old.core.env c
awaits run old c view running awaited =
    subst (λ (x : Run). IsAwaited x.core.env c) view (awaited-stands run c running (ap (λ (x : Run). x.core.awaited) view ∙ awaited))

-- .. and it is pending
pub owes-call : (run : Run) (c : SharedCall) → run.core.awaited ≡ Some c → pending_at_hub run ≡ true
owes-call run c awaited = ap (λ o. is_some o || (is_some run.ending && is_hub_duty (duty_of run.core.env.frames))) awaited

-- then no end is
pub awaited-none-ending : (run : Run) (c : SharedCall) → IsRunning run.core run.begun run.ending → run.core.awaited ≡ Some c → run.ending ≡ None
awaited-none-ending run c running awaited = running.one (λ none. some-none run.core.awaited awaited none)
  where
    some-none : (o : Option SharedCall) → o ≡ Some c → o ≡ None → ⊥
    some-none o is none = cc
