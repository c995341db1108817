-- What a turn tells, by what it comes to.
use Rattle.std.proofs.Common.{◌≡◌, ◌≢◌, ◌<◌, ◌≤◌, ◌&&◌, ◌||◌, Bool, true, false, cond, List, [], ◌∷◌, drop, length, refl, ap, subst, sym, ◌∙◌, arith, inl, inr, Option, Some, None, is_some, IfSome}
use Rattle.std.specs.Option.{option_to_list}
use Rattle.napi_types.specs.declared.duties.DueInfo.{DueInfo}
use Rattle.napi_types.specs.declared.entry.Entry.{Entry}
use Rattle.napi_types.specs.declared.entry.Phase.{Phase}
use Rattle.napi_types.specs.declared.entry.Phase.TheVariants as phase
use Rattle.napi_types.specs.declared.entry.SharedCall.{SharedCall}
use Rattle.napi_types.specs.parts.Frames.{Frame, duty_of, is_hub_duty}
use Rattle.napi_types.specs.scripts.Plans.{Plan, Registers}
use Rattle.napi_types.specs.environment.Environment.{Environment}
use Rattle.napi_types.specs.environment.JournalRoom.{gone_place}
use Rattle.napi_types.specs.runs.Choice.{local_choice_in}
use Rattle.env_core.specs.Core.{Core, room_in}
use Rattle.shared_hub.specs.HubStates.{HubSeen}
use Rattle.env_loop.specs.declared.run.FrameEnd.{FrameEnd}
use Rattle.env_loop.specs.declared.turn.LocalTurn.{LocalTurn}
use Rattle.env_loop.specs.declared.turn.LocalTurn.TheVariants as turn
use Rattle.env_loop.specs.Recording.{AddonStates, HasSeen}
use Rattle.env_loop.specs.RecordedRuns.{Run, IsSoundEnvironment, IsAwaited, IsPendingEnd, IsRunning, hub_begun, pending_at_hub, FitsHub, OneMore}
use Rattle.env_loop.specs.FollowedRuns.{IsFollowed, FollowsOn}
use Rattle.env_loop.specs.Turns.{event_turn, turn_at, turn_after, next_ticket_info, OnlyInnermostChanges, IsMadeTurn, OnlyPendingChanged, BecamePending, ChangedNothing, TurnCameTo, EndedBy, EndedOrPending}
use Rattle.env_loop.proofs.CutTurns.{unowed-local}
use Rattle.env_loop.proofs.LocalGoing.{stages-same, fits-local}
use Rattle.env_loop.proofs.SeenLists.{begins-none, seen-stays}

-- WHERE SOMETHING IS OWED
-- a frame stands
owed-stands : (e : Environment) (o : Option SharedCall) (q : Option FrameEnd) (b : Bool) → IfSome o (IsAwaited e) → IfSome q (IsPendingEnd e)
    → (is_some o || (is_some q && b)) ≡ true → e.frames ≢ []
owed-stands e (Some c) q b a w owes = a.stands
owed-stands e None (Some how) b a w owes = w.stands
owed-stands e None None b a w owes = cc

pub owes-stands : (run : Run) → IsRunning run.core run.begun run.ending → pending_at_hub run ≡ true → run.core.env.frames ≢ []
owes-stands run runs owes = owed-stands run.core.env run.core.awaited run.ending _ runs.awaited runs.ends owes

-- so no ticket begins
pub owes-unbegun : (inside old : Run) → inside ≡ old → IsRunning inside.core inside.begun inside.ending → pending_at_hub old ≡ true
    → next_ticket_info old.core.env ≡ None
owes-unbegun inside old same runs owes =
    ap (λ (r : Run). next_ticket_info r.core.env) (sym same) ∙ begins-none inside.core.env (owes-stands inside runs (ap pending_at_hub same ∙ owes))

-- THE ROOM
-- the journal of an environment that is not gone has a place left, since it owes the entry of its end
gone-owed : (p : Phase) → p ≢ phase.Gone → 1 ≤ gone_place p
gone-owed phase.Gone there = absurd (there refl)
gone-owed _ there = omega arith

none-made : (owes : Bool) (e : Environment) (fs : List Frame) → fs ≡ e.frames → e.phase ≡ phase.Gone → fs ≡ []
    → cond owes turn.NeedsHub (turn_at fs e) ≡ turn.Made → ⊥
none-made true e fs is gone alone made = cc
none-made false e (f ∷ fs) is gone alone made = cc
none-made false e [] is gone alone made = let no : turn.Gone ≡ turn.Made = sym (at-end e.phase gone) ∙ made in cc
  where
    at-end : (p : Phase) → p ≡ phase.Gone → event_turn (local_choice_in e p) p ≡ turn.Gone
    at-end phase.Gone is = refl
    at-end _ is = cc

pub room-left : (new : Run) (core : Core) → IsSoundEnvironment core.env → turn_after new core.env ≡ turn.Made → (room_in core).occupied ≤ core.limit
    → length core.journal < core.limit
room-left new core sound made room =
    let there : core.env.phase ≢ phase.Gone = λ gone. none-made (pending_at_hub new) core.env core.env.frames refl gone (sound.gone gone) made in
    let owed : 1 ≤ gone_place core.env.phase = gone-owed core.env.phase there in
    omega (arith, owed, room)

-- the same of a run as it is seen
pub room-seen : (new inside old : Run) → inside ≡ old → IsSoundEnvironment inside.core.env → turn_after new old.core.env ≡ turn.Made
    → (room_in inside.core).occupied ≤ inside.core.limit → length old.core.journal < old.core.limit
room-seen new inside old same sound made room =
    let P : Run → Type 0 = λ r. length r.core.journal < r.core.limit in
    subst P same (room-left new inside.core sound (ap (λ (r : Run). turn_after new r.core.env) same ∙ made) room)

-- WHERE AN END IS OWED
ends-here : (b : Bool) (ps : List Plan) (all now : Registers) (old new : Run) (how : FrameEnd) → b ≡ false → EndedOrPending b ps all old None how new now
    → EndedBy how old.core new.core
ends-here true ps all now old new how h e = cc
ends-here false ps all now old new how h e = e.ended

-- so it ended here
pub ends-owed : (ps : List Plan) (all now : Registers) (inside old new : Run) (how : FrameEnd) (b : Bool) → inside ≡ old → b ≡ is_hub_duty (duty_of inside.core.env.frames)
    → Some how ≡ inside.ending → pending_at_hub old ≡ false → EndedOrPending b ps all old None how new now → IfSome old.ending
    (λ h. EndedBy h old.core new.core)
ends-owed ps all now inside old new how b same duty is unowed e =
    let Q : Option FrameEnd → Type 0 = λ o. IfSome o (λ h. EndedBy h old.core new.core) in
    subst Q (is ∙ ap (λ (r : Run). r.ending) same)
    (ends-here b ps all now old new how (duty ∙ unowed-local inside how (ap pending_at_hub same ∙ unowed) (sym is)) e)

-- none is owed where none is kept, ..
pub ends-none : (inside old : Run) (new : Core) → inside ≡ old → inside.ending ≡ None → IfSome old.ending (λ h. EndedBy h old.core new)
ends-none inside old new same none =
    let P : Run → Type 0 = λ r. IfSome r.ending (λ h. EndedBy h r.core new) in
    let Q : Option FrameEnd → Type 0 = λ o. IfSome o (λ h. EndedBy h inside.core new) in
    subst P same (subst Q (sym none) tt)

-- .. nor where no frame stands
ends-unstood : (e : Environment) (o : Option FrameEnd) (P : FrameEnd → Type 0) → IfSome o (IsPendingEnd e) → e.frames ≡ [] → IfSome o P
ends-unstood e None P owed alone = tt
ends-unstood e (Some how) P owed alone = absurd (owed.stands alone)

pub ends-alone : (inside old : Run) (new : Core) → inside ≡ old → IsRunning inside.core inside.begun inside.ending → inside.core.env.frames ≡ []
    → IfSome old.ending (λ h. pending_at_hub old ≡ false → EndedBy h old.core new)
ends-alone inside old new same runs alone =
    let P : Run → Type 0 = λ r. IfSome r.ending (λ h. pending_at_hub r ≡ false → EndedBy h r.core new) in
    subst P same (ends-unstood inside.core.env inside.ending (λ h. pending_at_hub inside ≡ false → EndedBy h inside.core new) runs.ends alone)

-- WHAT IT TELLS
pub record TurnTells (t : LocalTurn) (ps : List Plan) (old : Run) (all : AddonStates) (new : Run) (now : AddonStates) : Type 0 where
  pub made : t ≡ turn.Made → OneMore old.core.journal new.core.journal
  pub paid : t ≡ turn.Made → new.ending ≡ None
  pub stays : t ≢ turn.Made → pending_at_hub new ≡ false → new ≡ old
  pub owes : t ≢ turn.Made → OnlyPendingChanged old new
  pub free : pending_at_hub old ≡ false → pending_at_hub new ≡ true → old.ending ≡ None
  pub same : t ≢ turn.Made → now ≡ all
  pub goes : (history : List Entry) → FollowsOn ps old history all new history now
  pub fits : (hub : HubSeen) → FitsHub old hub → FitsHub new hub
  pub others : drop old.core.env.addons now.registers ≡ drop old.core.env.addons all.registers
  pub addons : new.core.env.addons ≡ old.core.env.addons
  pub limit : new.core.limit ≡ old.core.limit
  pub seen : HasSeen all.seen (option_to_list (next_ticket_info old.core.env)) now.seen
  pub untouched : t ≡ turn.Made → OnlyInnermostChanges old.core.env.frames new.core.env.frames all.registers now.registers

unowed-made : (o : Option SharedCall) (q : Option FrameEnd) (b : Bool) → o ≡ None → q ≡ None → (is_some o || (is_some q && b)) ≡ false
unowed-made o q b idle unended = rw (idle, unended) refl

tells-made : (ps : List Plan) (old new : Run) (all now : AddonStates) → IsMadeTurn ps old all new now → TurnTells turn.Made ps old all new now
tells-made ps old new all now m =
    let unowed : pending_at_hub new ≡ false = unowed-made new.core.awaited new.ending _ m.kept.awaited m.kept.ending in
    record {
      made = λ is. m.kept.one;
      paid = λ is. m.kept.ending;
      stays = λ un. absurd (un refl);
      owes = λ un. absurd (un refl);
      free = λ before owes. let no : false ≡ true = sym unowed ∙ owes in cc;
      same = λ un. absurd (un refl);
      goes = m.goes;
      fits = m.kept.fits;
      others = m.others;
      addons = m.kept.addons;
      limit = m.kept.limit;
      seen = m.seen;
      untouched = λ is. m.untouched;
    }

module _ (t : LocalTurn) (ps : List Plan) (old new : Run) (all now : AddonStates) (unmade : t ≢ turn.Made) (none : next_ticket_info old.core.env ≡ None) where
  tells-owing : BecamePending ps old all new now → TurnTells t ps old all new now
  tells-owing o = record {
    made = λ is. absurd (unmade is);
    paid = λ is. absurd (unmade is);
    stays = λ un unowed. let no : true ≡ false = sym o.owes ∙ unowed in cc;
    owes = λ un. ap (λ (c : Core). record new { core = c }) o.core ∙ ap (λ (d : Option DueInfo). record new { core = record old.core { awaited = new.core.awaited }; begun = d }) o.begun;
    free = λ before owes. o.free;
    same = λ un. o.same;
    goes = o.goes;
    fits = fits-local old new (stages-same old.core.env.phase new.core.env.phase (ap (λ (c : Core). c.env.phase) o.core)) (ap hub_begun o.begun)
        (ap (λ (c : Core). c.env.addons) o.core) (ap (λ (c : Core). c.position) o.core);
    others = ap (λ (x : AddonStates). drop old.core.env.addons x.registers) o.same;
    addons = ap (λ (c : Core). c.env.addons) o.core;
    limit = ap (λ (c : Core). c.limit) o.core;
    seen = seen-stays old.core.env all.seen now.seen none (ap (λ (x : AddonStates). x.seen) o.same);
    untouched = λ is. absurd (unmade is);
  }

  tells-same : ChangedNothing old all new now → TurnTells t ps old all new now
  tells-same s =
      let F : HubSeen → Run → Type 0 = λ h r. FitsHub r h in
      record {
        made = λ is. absurd (unmade is);
        paid = λ is. absurd (unmade is);
        stays = λ un unowed. s.run;
        owes = λ un. subst (OnlyPendingChanged old) (sym s.run) refl;
        free = λ before owes. let no : false ≡ true = sym before ∙ ap pending_at_hub (sym s.run) ∙ owes in cc;
        same = λ un. s.addons;
        goes = λ history setting firsts of f.
            let N : AddonStates → Type 0 = λ x. IsFollowed setting old history x firsts in
            let R : Run → Type 0 = λ r. IsFollowed setting r history now firsts in
            subst R (sym s.run) (subst N (sym s.addons) f);
        fits = λ hub f. subst (F hub) (sym s.run) f;
        others = ap (λ (x : AddonStates). drop old.core.env.addons x.registers) s.addons;
        addons = ap (λ (r : Run). r.core.env.addons) s.run;
        limit = ap (λ (r : Run). r.core.limit) s.run;
        seen = seen-stays old.core.env all.seen now.seen none (ap (λ (x : AddonStates). x.seen) s.addons);
        untouched = λ is. absurd (unmade is);
      }

pub turn-tells : (t : LocalTurn) (ps : List Plan) (old new : Run) (all now : AddonStates) → TurnCameTo t ps old all new now
    → (t ≢ turn.Made → next_ticket_info old.core.env ≡ None)
    → TurnTells t ps old all new now
turn-tells turn.Made ps old new all now m unbegun = tells-made ps old new all now m
turn-tells turn.NeedsHub ps old new all now m unbegun =
    let un : turn.NeedsHub ≢ turn.Made = λ is. cc in
    elim m [
      | inl o ↦ tells-owing turn.NeedsHub ps old new all now un (unbegun un) o
      | inr s ↦ tells-same turn.NeedsHub ps old new all now un (unbegun un) s
    ]
turn-tells turn.Gone ps old new all now m unbegun =
    let un : turn.Gone ≢ turn.Made = λ is. cc in
    tells-same turn.Gone ps old new all now un (unbegun un) m
