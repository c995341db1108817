-- Several turns at the hub: what they add up to, and where the next event is the hub's.
use Rattle.std.proofs.Common.{◌≡◌, ◌≢◌, ◌∙◌, ◌↔◌, ℕ, zero, suc, add-one, ◌+◌, ◌≤◌, nat_lt, arith, Bool, true, false, not, ◌&&◌, ◌||◌, cond, List, [], ◌∷◌, ◌++◌, drop, length, refl, ap, sym, subst, Option, Some, None, is_some, append-nil, append_assoc, length-append}
use Rattle.std.proofs.lemmas.Bool.{ltb-true}
use Rattle.std.proofs.lemmas.List.Elements.{All-nil, All-cons, All-append}
use Rattle.napi_types.specs.declared.call.Ask.TheVariants as ask
use Rattle.napi_types.specs.declared.entry.Actor.{Actor}
use Rattle.napi_types.specs.declared.entry.Actor.TheVariants as actor
use Rattle.napi_types.specs.declared.entry.Entry.{Entry}
use Rattle.napi_types.specs.declared.entry.SharedCall.{SharedCall}
use Rattle.napi_types.specs.declared.entry.Why.{Why}
use Rattle.napi_types.specs.declared.entry.Why.TheVariants as why
use Rattle.napi_types.specs.plain.Lists.{singleton, head}
use Rattle.napi_types.specs.parts.Frames.{Frame, asks_made, duty_of, is_hub_duty, most_asks}
use Rattle.napi_types.specs.scripts.Plans.{Plan}
use Rattle.napi_types.specs.environment.Environment.{Environment}
use Rattle.napi_types.specs.hub.Hub.{Hub}
use Rattle.napi_types.specs.hub.HubSteps.{hub_step, hub_along}
use Rattle.napi_types.specs.runs.Choice.{local_choice}
use Rattle.napi_types.proofs.hub.GrowingHistories.{along-parts}
use Rattle.shared_hub.specs.HubStates.{HubSeen}
use Rattle.shared_hub.specs.declared.naming.Numbers.{Numbers}
use Rattle.env_loop.specs.declared.run.FrameEnd.{FrameEnd}
use Rattle.env_loop.specs.declared.run.FrameEnd.TheVariants as end
use Rattle.env_loop.specs.declared.run.HubTurn.{HubTurn}
use Rattle.env_loop.specs.declared.run.HubTurn.TheVariants as hub_turn
use Rattle.env_loop.specs.declared.turn.LocalTurn.{LocalTurn}
use Rattle.env_loop.specs.declared.turn.LocalTurn.TheVariants as turn
use Rattle.env_loop.specs.ActorRuns.{AddsEntryOf}
use Rattle.env_loop.specs.Bursts.{asks_no_more, silent_end, is_of_hub, hub_is_next_at, hub_is_next, made_by, AreHubNext, AddsEntriesOf, NothingPending, IsBurst, RunAtHub, BurstBetween, TurnsOn, StopsAtAsks}
use Rattle.env_loop.specs.FollowedRuns.{FollowsOn, FollowsOnAt}
use Rattle.env_loop.specs.Recording.{AddonStates}
use Rattle.env_loop.specs.RecordedRuns.{Run, IsSoundEnvironment, IsRunning, pending_at_hub, FitsHub}
use Rattle.env_loop.specs.Turns.{event_turn, turn_at, turn_of, needs_hub, hub_event, IfCut, Awaits, IsAskIn}
use Rattle.env_loop.proofs.CutTurns.{both-first, spent-ends}
use Rattle.env_loop.proofs.EndTurns.{MayEndInScripts, left-may, owed-end}
use Rattle.env_loop.proofs.MadeTurns.{turn-owes}
use Rattle.env_loop.proofs.FrameTurns.{InFrame, head-stands, head-within, stands-some}

-- ENTRIES AFTER ENTRIES
next-append : (h : Hub) (xs ys : List Entry) → AreHubNext h xs → AreHubNext (hub_along h xs) ys → AreHubNext h (xs ++ ys)
next-append h [] ys first later = later
next-append h (x ∷ xs) ys first later = (first.0, next-append (hub_step h x).after xs ys first.1 later)

pub no-entries : (who : Actor) (s : HubSeen) → AddsEntriesOf who 0 s s
no-entries who s = record {
  entries = [];
  as_many = refl;
  by = All-nil (λ (x : Entry). x.actor ≡ who);
  next = tt;
  hub = refl;
  history = sym (append-nil s.history);
}

pub one-entry : (who : Actor) (old new : HubSeen) → AddsEntryOf who old new → AddsEntriesOf who 1 old new
one-entry who old new a = record {
  entries = singleton a.entry;
  as_many = refl;
  by = All-cons (λ (x : Entry). x.actor ≡ who) a.entry [] a.by (All-nil (λ (x : Entry). x.actor ≡ who));
  next = (a.adds.next, tt);
  hub = a.adds.hub;
  history = a.adds.history;
}

pub entries-then : (who : Actor) (j k m : ℕ) (a b c : HubSeen) → j + k ≡ m → AddsEntriesOf who j a b → AddsEntriesOf who k b c → AddsEntriesOf who m a c
entries-then who j k m a b c is x y = record {
  entries = x.entries ++ y.entries;
  as_many = length-append x.entries y.entries ∙ (ap (λ n. n + length y.entries) x.as_many ∙ (ap (λ n. j + n) y.as_many ∙ is));
  by = All-append (λ (e : Entry). e.actor ≡ who) x.entries y.entries x.by y.by;
  next = next-append a.hub x.entries y.entries x.next (subst (λ h. AreHubNext h y.entries) x.hub y.next);
  hub = y.hub ∙ (ap (λ h. hub_along h y.entries) x.hub ∙ sym (along-parts a.hub x.entries y.entries));
  history = y.history ∙ (ap (λ l. l ++ y.entries) x.history ∙ append_assoc a.history x.entries y.entries);
}

-- TURNS AFTER TURNS
-- a run of which another end is pending fits with each hub still
pub owed-fits : (old new : Run) (s : HubSeen) → new.core ≡ old.core → new.begun ≡ old.begun → FitsHub old s → FitsHub new s
owed-fits old new s core begun fits =
    subst (λ (r : Run). FitsHub r s)
    (ap (λ c. record { core = c; begun = old.begun; ending = new.ending }) (sym core) ∙ ap (λ b. record { core = new.core; begun = b; ending = new.ending }) (sym begun))
    (record { stage = fits.stage; standing = fits.standing; owned = fits.owned; noted = fits.noted })

-- no turn, and another end that is pending
pub no-turn : (n : Numbers) (plans : List Plan) (old new : Run) (s : HubSeen) (all : AddonStates) → new.core ≡ old.core → new.begun ≡ old.begun → FitsHub old s
    → FollowsOn plans old s.history all new s.history all → IsBurst n plans 0 old s all new s all
no-turn n plans old new s all core begun fits goes = record {
  grew = no-entries actor.Env s;
  kept = record { journal = ap (λ c. c.journal) core; addons = ap (λ c. c.env.addons) core; limit = ap (λ c. c.limit) core };
  fits = owed-fits old new s core begun fits;
  others = refl;
  goes = λ t firsts numbers of f. goes t firsts of f;
}

-- a turn
turn-grew : (t : HubTurn) (before after : HubSeen) → (t ≡ hub_turn.Made → AddsEntryOf actor.Env before after) → (t ≢ hub_turn.Made → after ≡ before)
    → AddsEntriesOf actor.Env (made_by t) before after
turn-grew hub_turn.Made before after made stays = one-entry actor.Env before after (made refl)
turn-grew hub_turn.Nothing before after made stays = subst (λ s. AddsEntriesOf actor.Env 0 before s) (sym (stays (λ e. cc))) (no-entries actor.Env before)
turn-grew (hub_turn.Cut w) before after made stays = subst (λ s. AddsEntriesOf actor.Env 0 before s) (sym (stays (λ e. cc))) (no-entries actor.Env before)

pub one-turn : (n : Numbers) (t : HubTurn) (plans : List Plan) (old : Run) (before : HubSeen) (all : AddonStates) (new : Run) (after : HubSeen) (now : AddonStates)
    → (t ≡ hub_turn.Made → AddsEntryOf actor.Env before after) → (t ≢ hub_turn.Made → after ≡ before)
    → new.core.journal ≡ old.core.journal → new.core.env.addons ≡ old.core.env.addons → new.core.limit ≡ old.core.limit → FitsHub new after
    → drop old.core.env.addons now.registers ≡ drop old.core.env.addons all.registers → FollowsOnAt n plans old before.history all new after.history now
    → IsBurst n plans (made_by t) old before all new after now
one-turn n t plans old before all new after now made stays journal addons limit fits others goes = record {
  grew = turn-grew t before after made stays;
  kept = record { journal = journal; addons = addons; limit = limit };
  fits = fits;
  others = others;
  goes = goes;
}

pub zero-first : (k : ℕ) → 0 + k ≡ k
zero-first k = omega arith

pub none-more : (t : HubTurn) (k : ℕ) → t ≢ hub_turn.Made → k + made_by t ≡ k
none-more hub_turn.Made k other = absurd (other refl)
none-more hub_turn.Nothing k other = omega arith
none-more (hub_turn.Cut w) k other = omega arith

-- so many turns, and then so many. The plans that the addons tell then are those that they told first
pub turns-then : (n : Numbers) (plans later : List Plan) (j k m : ℕ) (a b c : Run) (s t u : HubSeen) (x y z : AddonStates) → later ≡ plans → j + k ≡ m
    → IsBurst n plans j a s x b t y → IsBurst n later k b t y c u z → IsBurst n plans m a s x c u z
turns-then n plans later j k m a b c s t u x y z planned is first last =
    let on : FollowsOnAt n plans b t.history y c u.history z = subst (λ ps. FollowsOnAt n ps b t.history y c u.history z) planned last.goes in
    record {
      grew = entries-then actor.Env j k m s t u is first.grew last.grew;
      kept = record {
        journal = last.kept.journal ∙ first.kept.journal;
        addons = last.kept.addons ∙ first.kept.addons;
        limit = last.kept.limit ∙ first.kept.limit;
      };
      fits = last.fits;
      others = subst (λ i. drop i z.registers ≡ drop i y.registers) first.kept.addons last.others ∙ first.others;
      goes = λ v firsts numbers of f.
          on v firsts numbers (record { count = of.count ∙ sym first.kept.addons; first = of.first }) (first.goes v firsts numbers of f);
    }

-- TURN BY TURN
-- a turn that made an entry, where the next event was the hub's
pub on-more : (n : Numbers) (plans later : List Plan) (t : HubTurn) (k m : ℕ) (old mid new : RunAtHub) → later ≡ plans → k + 1 ≡ m → t ≡ hub_turn.Made → TurnsOn n plans k old mid
    → hub_is_next mid.run ≡ true → BurstBetween n later (made_by t) mid new → TurnsOn n plans m old new
on-more n plans later t k m old mid new planned is made on comes last =
    let one_made : BurstBetween n later 1 mid new = subst (λ (u : HubTurn). BurstBetween n later (made_by u) mid new) made last in
    subst (λ (j : ℕ). TurnsOn n plans j old new) (sym (add-one k) ∙ is) (mid, on, comes, subst (λ ps. BurstBetween n ps 1 mid new) planned one_made)

-- and one that made none
pub on-idle : (n : Numbers) (plans later : List Plan) (t : HubTurn) (k : ℕ) (old mid new : RunAtHub) → later ≡ plans → t ≢ hub_turn.Made → TurnsOn n plans k old mid
    → BurstBetween n later (made_by t) mid new → TurnsOn n plans k old new
on-idle n plans later t zero old mid new planned none on last =
    turns-then n plans later 0 (made_by t) 0 old.run mid.run new.run old.hub mid.hub new.hub old.addons mid.addons new.addons planned (none-more t 0 none) on last
on-idle n plans later t (suc k) old mid new planned none on last =
    let at = on.0 in (
      at,
      on.1,
      on.2,
      turns-then n plans later 1 (made_by t) 1 at.run mid.run new.run at.hub mid.hub new.hub at.addons mid.addons new.addons planned (none-more t 1 none) on.3 last,
    )

-- the first turn, and those behind it
pub stops-at-asks : (n : Numbers) (plans later : List Plan) (t : HubTurn) (k : ℕ) (old first new : RunAtHub) → later ≡ plans → t ≡ hub_turn.Made → TurnsOn n later k first new
    → BurstBetween n plans (made_by t) old first → StopsAtAsks n plans (k + 1) old new
stops-at-asks n plans later t k old first new planned made on one_made =
    subst (λ (j : ℕ). StopsAtAsks n plans j old new) (sym (add-one k))
    (first, subst (λ (u : HubTurn). BurstBetween n plans (made_by u) old first) made one_made, subst (λ ps. TurnsOn n ps k first new) planned on)

-- WHERE THE NEXT EVENT IS THE HUB'S
-- the turn that is to be made where nothing is pending, and no frame stands
over-none : (fs : List Frame) (e : Environment) → turn_at fs e ≡ turn.NeedsHub → hub_is_next_at fs e ≡ true
over-none [] e needs = ap is_of_hub needs
over-none (f ∷ fs) e needs = cc

pub needed-comes : (run : Run) → needs_hub run → hub_is_next run ≡ true
needed-comes run needs = by (pending_at_hub run) refl
  where
    by : (b : Bool) → pending_at_hub run ≡ b → hub_is_next run ≡ true
    by true owes = ap (λ b. b || hub_is_next_at run.core.env.frames run.core.env) owes
    by false owes =
        ap (λ b. b || hub_is_next_at run.core.env.frames run.core.env) owes
        ∙ over-none run.core.env.frames run.core.env (sym (ap (λ b. cond b turn.NeedsHub (turn_of run.core.env)) owes) ∙ needs)

-- where nothing was done nothing is pending, and the next event, which would be the hub's, is none
pub nothing-done : (old new : Run) (before after : HubSeen) → new ≡ old → after ≡ before → pending_at_hub old ≡ false → hub_event old.core.env before.hub ≡ None
    → hub_is_next old ≡ true → (pending_at_hub new ≡ false) × (hub_is_next new ≡ true) × (hub_event new.core.env after.hub ≡ None)
nothing-done old new before after same still owes none next = (
  ap pending_at_hub same ∙ owes,
  ap hub_is_next same ∙ next,
  ap (λ (r : Run). hub_event r.core.env after.hub) same ∙ ap (λ (h : HubSeen). hub_event old.core.env h.hub) still ∙ none,
)

-- what comes next where nothing is pending
pub comes-unowed : (run : Run) → NothingPending run → hub_is_next run ≡ true → hub_is_next_at run.core.env.frames run.core.env ≡ true
comes-unowed run paid comes =
    sym (ap (λ b. b || hub_is_next_at run.core.env.frames run.core.env)
    (ap (λ o. is_some o || (is_some run.ending && is_hub_duty (duty_of run.core.env.frames))) paid.answered
    ∙ ap (λ (o : Option FrameEnd). is_some o && is_hub_duty (duty_of run.core.env.frames)) paid.ended)) ∙ comes

-- WHERE A FRAME MAKES NO ASK MORE
both-last : (a b : Bool) → (a && b) ≡ true → b ≡ true
both-last true b both = both
both-last false b both = cc

at-top : (fs : List Frame) (e : Environment) (f : Frame) → head fs ≡ Some f → hub_is_next_at fs e ≡ true
    → (is_hub_duty (duty_of fs) ≡ true) × (asks_no_more f ≡ true)
at-top [] e f top comes = cc
at-top (g ∷ gs) e f top comes =
    let same : g ≡ f = cc in
    (both-first (is_hub_duty g.duty) (asks_no_more g) comes, ap asks_no_more (sym same) ∙ both-last (is_hub_duty g.duty) (asks_no_more g) comes)

-- it may end so in every script
makes-none : (makes : Bool) → not (makes && true) ≡ true → makes ≡ false
makes-none true none = cc
makes-none false none = refl

silent-may : (plans : List Plan) (old : Run) (all : AddonStates) (f : Frame) → IsSoundEnvironment old.core.env → NothingPending old
    → head old.core.env.frames ≡ Some f
    → asks_no_more f ≡ true → MayEndInScripts plans old all None (silent_end f)
silent-may plans old all f sound paid top silent = by (nat_lt f.asks most_asks) refl
  where
    spent : (a m : ℕ) → nat_lt a m ≡ false → a ≤ m → a ≡ m
    spent a m over within = grind arith

    by : (b : Bool) → nat_lt f.asks most_asks ≡ b → MayEndInScripts plans old all None (silent_end f)
    by true below =
        let none : f.makes_asks ≡ false = makes-none f.makes_asks (sym (ap (λ b. not (f.makes_asks && b)) below) ∙ silent) in
        let i : InFrame plans old.core.env all.registers f (ask.Leave None) = record {
          sound = sound;
          top = top;
          asked = subst (λ b. IsAskIn b plans all.registers f (ask.Leave None)) (sym none) refl;
        } in
        subst (λ b. MayEndInScripts plans old all None (cond b end.Leaves (end.Cut why.Asks))) (sym below)
        (left-may None i paid.answered paid.ended (ltb-true f.asks most_asks below))
    by false below =
        subst (λ b. MayEndInScripts plans old all None (cond b end.Leaves (end.Cut why.Asks))) (sym below)
        (spent-ends plans old all f sound paid.answered paid.ended top (spent f.asks most_asks below (head-within old.core.env.frames f top sound.asks)))

-- so its end comes to be pending
pub silent-owed : (inside old : Run) (f : Frame) → inside ≡ old → IsRunning inside.core inside.begun inside.ending → NothingPending old
    → hub_is_next old ≡ true
    → head inside.core.env.frames ≡ Some f → (plans : List Plan) (all : AddonStates) (history : List Entry)
    → FollowsOn plans old history all (record inside { ending = Some (silent_end f) }) history all
silent-owed inside old f same runs paid comes top plans all history =
    let R : Run → Type 0 = λ r. FollowsOn plans r history all (record inside { ending = Some (silent_end f) }) history all in
    let paid_here : NothingPending inside = subst NothingPending (sym same) paid in
    let over = at-top inside.core.env.frames inside.core.env f top (comes-unowed inside paid_here (ap hub_is_next same ∙ comes)) in
    subst R same ((owed-end plans inside all None (silent_end f) (silent-may plans inside all f runs.sound paid_here top over.1) over.0).goes history)

-- and the run keeps what it has to
spent-asks : (fs : List Frame) (f : Frame) → head fs ≡ Some f → f.asks ≤ most_asks → silent_end f ≡ end.Cut why.Asks → asks_made fs ≡ most_asks
spent-asks fs f top within is = ap asks_made (head-stands fs f top) ∙ by (nat_lt f.asks most_asks) refl
  where
    spent : (a m : ℕ) → nat_lt a m ≡ false → a ≤ m → a ≡ m
    spent a m over small = grind arith

    by : (b : Bool) → nat_lt f.asks most_asks ≡ b → f.asks ≡ most_asks
    by true below = let no : end.Leaves ≡ end.Cut why.Asks = sym (ap (λ b. cond b end.Leaves (end.Cut why.Asks)) below) ∙ is in cc
    by false below = spent f.asks most_asks below within

pub silent-running : (inside old : Run) (f : Frame) → inside ≡ old → IsRunning inside.core inside.begun inside.ending → NothingPending old
    → hub_is_next old ≡ true
    → head inside.core.env.frames ≡ Some f → IsRunning inside.core inside.begun (Some (silent_end f))
silent-running inside old f same runs paid comes top =
    let paid_here : NothingPending inside = subst NothingPending (sym same) paid in
    let over = at-top inside.core.env.frames inside.core.env f top (comes-unowed inside paid_here (ap hub_is_next same ∙ comes)) in
    record {
      sound = runs.sound;
      held = runs.held;
      awaited = runs.awaited;
      ends = record {
        stands = stands-some inside.core.env.frames f top;
        leaves = λ leaves. over.0;
        asks = spent-asks inside.core.env.frames f top (head-within inside.core.env.frames f top runs.sound.asks);
      };
      one = λ asked. absurd (asked paid_here.answered);
    }

-- the hub has to make its turn then, ..
pub silent-needs : (inside old : Run) (f : Frame) → inside ≡ old → NothingPending old → hub_is_next old ≡ true → head inside.core.env.frames ≡ Some f
    → needs_hub (record inside { ending = Some (silent_end f) })
silent-needs inside old f same paid comes top =
    let paid_here : NothingPending inside = subst NothingPending (sym same) paid in
    let over = at-top inside.core.env.frames inside.core.env f top (comes-unowed inside paid_here (ap hub_is_next same ∙ comes)) in
    turn-owes (record inside { ending = Some (silent_end f) }) inside.core.env (either (is_some inside.core.awaited) (is_hub_duty (duty_of inside.core.env.frames)) over.0)
  where
    either : (a b : Bool) → b ≡ true → (a || (true && b)) ≡ true
    either true b is = refl
    either false b is = is

-- .. and where no frame stands
is-needing : (t : LocalTurn) → is_of_hub t ≡ true → t ≡ turn.NeedsHub
is-needing turn.NeedsHub is = refl
is-needing turn.Made is = cc
is-needing turn.Gone is = cc

none-over : (fs : List Frame) (e : Environment) → head fs ≡ None → hub_is_next_at fs e ≡ true → turn_at fs e ≡ turn.NeedsHub
none-over [] e none comes = is-needing (event_turn (local_choice e) e.phase) comes
none-over (f ∷ fs) e none comes = cc

pub comes-needs : (inside old : Run) → inside ≡ old → NothingPending old → hub_is_next old ≡ true → head inside.core.env.frames ≡ None → needs_hub inside
comes-needs inside old same paid comes none = by (pending_at_hub inside)
  where
    turns : turn_of inside.core.env ≡ turn.NeedsHub
    turns = none-over inside.core.env.frames inside.core.env none (comes-unowed inside (subst NothingPending (sym same) paid) (ap hub_is_next same ∙ comes))

    by : (b : Bool) → cond b turn.NeedsHub (turn_of inside.core.env) ≡ turn.NeedsHub
    by true = refl
    by false = turns

-- WHAT THE LAST TURN CAME TO
-- it cut no call where none was awaited
pub uncut : (t : HubTurn) (o : Option SharedCall) (F M : SharedCall → Type 0) (C : Why → Type 0) → o ≡ None → ((t ≡ hub_turn.Cut why.Full) ↔ Awaits o F)
    → (t ≡ hub_turn.Cut why.Memory → Awaits o M) → IfCut t (λ w. (w ≢ why.Asks) × C w) → IfCut t (λ w. ⊥)
uncut hub_turn.Made o F M C none full memory cut = tt
uncut hub_turn.Nothing o F M C none full memory cut = tt
uncut (hub_turn.Cut why.Full) o F M C none full memory cut = subst (λ p. Awaits p F) none (full.0 refl)
uncut (hub_turn.Cut why.Memory) o F M C none full memory cut = subst (λ p. Awaits p M) none (memory refl)
uncut (hub_turn.Cut why.Asks) o F M C none full memory cut = cut.0 refl

-- so whatever is said of a cut holds
pub if-uncut : (t : HubTurn) (P : Why → Type 0) → IfCut t (λ w. ⊥) → IfCut t P
if-uncut hub_turn.Made P none = tt
if-uncut hub_turn.Nothing P none = tt
if-uncut (hub_turn.Cut w) P none = absurd none

pub no-cut : (t : HubTurn) (w : Why) → IfCut t (λ w. ⊥) → t ≢ hub_turn.Cut w
no-cut hub_turn.Made w none = λ is. cc
no-cut hub_turn.Nothing w none = λ is. cc
no-cut (hub_turn.Cut v) w none = absurd none

-- there was nothing to do
pub nothing-next : (mid new : Run) (s t : HubSeen) → needs_hub mid → (pending_at_hub mid ≡ false) × (hub_event mid.core.env s.hub ≡ None) → new ≡ mid → t ≡ s
    → (pending_at_hub new ≡ false) × (hub_is_next new ≡ true) × (hub_event new.core.env t.hub ≡ None)
nothing-next mid new s t needs none same stays = (
  ap pending_at_hub same ∙ none.0,
  ap hub_is_next same ∙ needed-comes mid needs,
  ap (λ (r : Run). hub_event r.core.env t.hub) same ∙ (ap (λ (h : HubSeen). hub_event mid.core.env h.hub) stays ∙ none.1),
)
