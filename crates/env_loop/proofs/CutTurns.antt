-- A frame that may be cut: its call stopped, it has made all its asks, or its cut is pending.
use Rattle.std.proofs.Common.{◌≡◌, ℕ, ◌+◌, ◌<◌, ◌==◌, ◌&&◌, ◌||◌, not, ◌⊎◌, inl, inr, nat_lt, min, Bool, true, false, List, refl, ap, subst, sym, ◌∙◌, Option, Some, None, IfSome, is_some, arith}
use Rattle.napi_types.specs.declared.call.Ask.{Ask}
use Rattle.napi_types.specs.declared.call.Ask.TheVariants as ask
use Rattle.napi_types.specs.declared.call.Call.{Call}
use Rattle.napi_types.specs.declared.call.Call.TheVariants as call
use Rattle.napi_types.specs.declared.entry.Entry.{Entry}
use Rattle.napi_types.specs.declared.entry.Why.{Why}
use Rattle.napi_types.specs.declared.entry.Why.TheVariants as why
use Rattle.napi_types.specs.declared.status.Status.{Status}
use Rattle.napi_types.specs.declared.status.Status.TheVariants as status
use Rattle.napi_types.specs.plain.Guards.{is_growing, is_shared}
use Rattle.napi_types.specs.plain.Lists.{head}
use Rattle.napi_types.specs.plain.Room.{Room, is_full, need, first_places, may_want_memory}
use Rattle.napi_types.specs.parts.Frames.{Frame, asks_made, duty_of, is_hub_duty, most_asks}
use Rattle.napi_types.specs.scripts.Plans.{Plan, plan_of, Registers, registers_of}
use Rattle.napi_types.specs.scripts.Registers.{plan_ask}
use Rattle.napi_types.specs.environment.Changes.{may_call}
use Rattle.napi_types.specs.environment.Environment.{Environment}
use Rattle.napi_types.specs.environment.SharedCalls.{shared_call_of}
use Rattle.napi_types.specs.hub.Hub.{Hub}
use Rattle.napi_types.specs.hub.HubSteps.{hub_along}
use Rattle.napi_types.specs.runs.CallRoom.{room_of}
use Rattle.napi_types.specs.runs.Machine.{Machine}
use Rattle.napi_types.specs.runs.Setting.{Setting, opening_of}
use Rattle.napi_types.specs.runs.Step.{may_cut}
use Rattle.env_core.specs.declared.env.Stepped.TheVariants as stepped
use Rattle.env_core.specs.Core.{Core, room_in}
use Rattle.env_core.specs.CoreSteps.{IsHandedOver, GrowsUnrefused, PassesFirstPlaces, StopsBy}
use Rattle.env_core.specs.Sharing.{names_function, wants_root}
use Rattle.env_loop.specs.declared.run.FrameEnd.{FrameEnd}
use Rattle.env_loop.specs.declared.run.FrameEnd.TheVariants as end
use Rattle.env_loop.specs.FollowedRuns.{MayEndSo}
use Rattle.env_loop.specs.Recording.{AddonStates, machine_of, why_stopped}
use Rattle.env_loop.specs.RecordedRuns.{Run, IsSoundEnvironment, IsPendingEnd, IsRunning, pending_at_hub}
use Rattle.env_loop.specs.Turns.{IsAskIn, IsAskOf}
use Rattle.env_loop.proofs.MadeTurns.{unowed-idle}
use Rattle.env_loop.proofs.TurnSteps.{two_may, both_may, same-room}
use Rattle.env_loop.proofs.FrameTurns.{InFrame, in-stands, in-some, in-calls}
use Rattle.env_loop.proofs.RegisterTurns.{asks-in}
use Rattle.env_loop.proofs.EndTurns.{MayEndAs, MayEndInScripts}

-- ITS CALL STOPPED
-- a call that grows, or passes the first places, may want memory
wants_memory : (e : Environment) (r : Room) (c : Call) → GrowsUnrefused e c ⊎ PassesFirstPlaces r c → may_want_memory r c ≡ true
wants_memory e r c (inl grows) = ap (λ b. b || nat_lt (min first_places r.limit) (r.occupied + need c)) grows.grows
wants_memory e r c (inr passes) = by (min first_places r.limit) (r.occupied + need c) passes (is_growing c)
  where
    by : (a b : ℕ) → a < b → (grows : Bool) → (grows || nat_lt a b) ≡ true
    by a b h true = refl
    by a b h false = grind arith

-- a local call stopped, for the reason that the status gives, ..
stopped-local : (m : Machine) (c : Call) (t : Status) → is_shared c ≡ false → may_call m.env ≡ true → StopsBy m.env (room_of m c) c t
    → may_cut m (ask.Do c) (why_stopped t) ≡ true
stopped-local m c status.TraceFull local may stops = two_may (may_call m.env) (is_full (room_of m c) c) may stops
stopped-local m c status.NoMemory local may stops =
    ap (λ shared. may_call m.env && may_want_memory (room_of m c) c && (shared || not (is_full (room_of m c) c))) local
    ∙ both_may (may_call m.env) (may_want_memory (room_of m c) c) (is_full (room_of m c) c) may (wants_memory m.env (room_of m c) c stops.0) stops.1
stopped-local m c _ local may stops = absurd stops

-- .. and a shared one, which found no memory for the root that it wants
rooting-grows : (c : Call) → names_function c ≡ true → is_growing c ≡ true
rooting-grows (call.CreateThreadsafeFunction (Some f) b d x y z) names = refl
rooting-grows _ names = cc

pub both-first : (a b : Bool) → (a && b) ≡ true → a ≡ true
both-first true b both = refl
both-first false b both = cc

three-may : (a b c d e : Bool) → a ≡ true → b ≡ true → d ≡ true → (a && (b || c) && (d || e)) ≡ true
three-may a b c d e p q r = rw (p, q, r) refl

stopped-shared : (m : Machine) (c : Call) (t : Status) → is_shared c ≡ true → may_call m.env ≡ true
    → (t ≡ status.NoMemory) × (wants_root (shared_call_of m.env c) ≡ true)
    → may_cut m (ask.Do c) (why_stopped t) ≡ true
stopped-shared m c t shared may stops =
    let r : Room = room_of m c in
    ap (λ x. may_cut m (ask.Do c) (why_stopped x)) stops.0
    ∙ three-may (may_call m.env) (is_growing c) (nat_lt (min first_places r.limit) (r.occupied + need c)) (is_shared c) (not (is_full r c)) may
    (rooting-grows c (both-first (names_function c) _ stops.1)) shared

-- a call that stopped, as the step of the core tells it
pub record HasStopped (core : Core) (c : Call) (t : Status) (new : Core) : Type 0 where
  pub local : is_shared c ≡ false → StopsBy core.env (room_in core) c t
  pub shared : is_shared c ≡ true → IsHandedOver core c (stepped.Stop t) new

pub stopped-local-so : (core : Core) (c : Call) (t : Status) (new : Core) → is_shared c ≡ false → StopsBy core.env (room_in core) c t → HasStopped core c t new
stopped-local-so core c t new local stops = record { local = λ _. stops; shared = λ shared. let no : true ≡ false = sym shared ∙ local in cc }

stopped-may : (s : Setting) (core new : Core) (hub : Hub) (history : List Entry) (c : Call) (t : Status) → core.limit ≡ s.limits.journal
    → may_call core.env ≡ true
    → HasStopped core c t new → may_cut (machine_of s.limits core hub history) (ask.Do c) (why_stopped t) ≡ true
stopped-may s core new hub history c t limit may stops = by (is_shared c) refl
  where
    m : Machine
    m = machine_of s.limits core hub history

    by : (b : Bool) → is_shared c ≡ b → may_cut (machine_of s.limits core hub history) (ask.Do c) (why_stopped t) ≡ true
    by true shared = stopped-shared (machine_of s.limits core hub history) c t shared may (stops.shared shared)
    by false local =
        let P : Room → Type 0 = λ r. StopsBy core.env r c t in
        stopped-local (machine_of s.limits core hub history) c t local may (subst P (same-room s core hub history c local limit) (stops.local local))

pub stopped-ends : {ps : List Plan} {old : Run} {all : AddonStates} {f : Frame} {a : Ask} → InFrame ps old.core.env all.registers f a → old.core.awaited ≡ None
    → old.ending ≡ None → f.asks < most_asks
    → (c : Call) (t : Status) (w : Why) (new : Core) → ask.Do c ≡ a → w ≡ why_stopped t → HasStopped old.core c t new → MayEndInScripts ps old all None (end.Cut w)
stopped-ends {ps} {old} {all} {f} {a} i idle unended below c t w new is reason stops = record {
  sound = i.sound;
  some = in-some i;
  idle = idle;
  free = λ hub. unended;
  may = λ s prefix firsts of rec.
      let m : Machine = machine_of s.limits old.core (hub_along (opening_of s).hub prefix) prefix in (
        refl,
        a,
        asks-in i s of,
        ap (λ x. may_cut m a x) reason ∙ ap (λ b. may_cut m b (why_stopped t)) (sym is)
            ∙ stopped-may s old.core new (hub_along (opening_of s).hub prefix) prefix c t rec.recorded.limit (in-calls i c is below) stops,
        λ owed. absurd (owed unended),
      );
}

-- IT HAS MADE ALL ITS ASKS
-- an ask that the plan gives, where one is told and where it makes asks
some-ask : (ps : List Plan) (all : Registers) (f : Frame) → (a : Ask) × IsAskOf ps all f a
some-ask ps all f = by f.makes_asks (plan_of ps f.addon) refl
  where
    planned : (p q : Plan) → p ≡ q → (a : Ask) × IfSome p (λ t. a ≡ plan_ask t (registers_of all f.addon) f.entry f.asks)
    planned None q is = (ask.Leave None, tt)
    planned (Some p) q is = (plan_ask p (registers_of all f.addon) f.entry f.asks, refl)

    by : (makes : Bool) (p : Plan) → plan_of ps f.addon ≡ p → (a : Ask) × IsAskIn makes ps all f a
    by true p is = planned (plan_of ps f.addon) p is
    by false p is = (ask.Leave None, refl)

pub spent-ends : (ps : List Plan) (old : Run) (all : AddonStates) (f : Frame) → IsSoundEnvironment old.core.env → old.core.awaited ≡ None → old.ending ≡ None
    → head old.core.env.frames ≡ Some f
    → f.asks ≡ most_asks → MayEndInScripts ps old all None (end.Cut why.Asks)
spent-ends ps old all f sound idle unended top spent =
    let would = some-ask ps all.registers f in
    let i : InFrame ps old.core.env all.registers f would.0 = record { sound = sound; top = top; asked = would.1 } in
    let all_made : (asks_made old.core.env.frames == most_asks) ≡ true = ap (λ gs. asks_made gs == most_asks) (in-stands i) ∙ ap (λ k. k == most_asks) spent in
    record {
      sound = sound;
      some = in-some i;
      idle = idle;
      free = λ hub. unended;
      may = λ s prefix firsts of rec.
          (refl, would.0, asks-in i s of, all_made, λ owed. absurd (owed unended));
    }

-- ITS CUT IS OWED
-- a run that has nothing pending at the hub has no end pending of the frame of a duty of the hub
second-none : (a b : Bool) → (a || b) ≡ false → b ≡ false
second-none true b none = cc
second-none false b none = none

pub unowed-local : (run : Run) (how : FrameEnd) → pending_at_hub run ≡ false → run.ending ≡ Some how → is_hub_duty (duty_of run.core.env.frames) ≡ false
unowed-local run how unowed owed =
    let hub : Bool = is_hub_duty (duty_of run.core.env.frames) in
    ap (λ (o : Option FrameEnd). is_some o && hub) (sym owed) ∙ second-none (is_some run.core.awaited) _ unowed

pub owed-ends : (ps : List Plan) (old : Run) (all : AddonStates) (how : FrameEnd) → IsRunning old.core old.begun old.ending → pending_at_hub old ≡ false
    → old.ending ≡ Some how
    → MayEndInScripts ps old all None how
owed-ends ps old all how runs unowed owed =
    let E : Option FrameEnd → Type 0 = λ o. IfSome o (IsPendingEnd old.core.env) in
    let ends : IsPendingEnd old.core.env how = subst E owed runs.ends in
    record {
      sound = runs.sound;
      some = ends.stands;
      idle = unowed-idle old unowed;
      free = λ hub. let no : true ≡ false = sym hub ∙ unowed-local old how unowed owed in cc;
      may = λ s prefix firsts of rec.
          let m : Machine = machine_of s.limits old.core (hub_along (opening_of s).hub prefix) prefix in
          let O : Option FrameEnd → Type 0 = λ o. IfSome o (MayEndSo s all.registers m) in
          by s all.registers m how (unowed-local old how unowed owed) ends.leaves (subst O owed rec.owed.end);
    }
  where
    by : (s : Setting) (rss : Registers) (m : Machine) (h : FrameEnd) → is_hub_duty (duty_of m.env.frames) ≡ false
        → (h ≡ end.Leaves → is_hub_duty (duty_of m.env.frames) ≡ true) → MayEndSo s rss m h
        → MayEndAs s rss m old.ending None h
    by s rss m end.Leaves local leaves may =
        let no : true ≡ false = sym (leaves refl) ∙ local in
        cc
    by s rss m (end.Cut w) local leaves may = (refl, may.0, may.1, may.2, λ some. may.3 local)
