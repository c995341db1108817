-- The turns of a run as its two lists show them.
use Rattle.std.proofs.Common.{◌≡◌, ◌≢◌, ◌∙◌, ◌⊎◌, inl, inr, ℕ, Bool, true, false, cond, List, [], ◌∷◌, ◌++◌, length, slice_get, ◌<◌, Option, Some, None, is_some, option_map, IfSome, refl, ap, sym, subst}
use Rattle.std.specs.List.{All, AllZip}
use Rattle.std.specs.Option.{option_or}
use Rattle.std.proofs.lemmas.List.Elements.{All-cons, All-nil, All-head, All-tail}
use Rattle.napi_types.specs.declared.call.Call.{Call}
use Rattle.napi_types.specs.declared.duties.DueInfo.{DueInfo}
use Rattle.napi_types.specs.declared.entry.Actor.{Actor}
use Rattle.napi_types.specs.declared.entry.Actor.TheVariants as actor
use Rattle.napi_types.specs.declared.entry.Entry.{Entry}
use Rattle.napi_types.specs.declared.entry.Local.{Local}
use Rattle.napi_types.specs.declared.entry.Phase.TheVariants as phase
use Rattle.napi_types.specs.declared.entry.Why.{Why}
use Rattle.napi_types.specs.declared.entry.Why.TheVariants as why
use Rattle.napi_types.specs.declared.op.Op.{Op}
use Rattle.napi_types.specs.plain.Room.{Room}
use Rattle.napi_types.specs.plain.Weave.{weave}
use Rattle.napi_types.specs.scripts.Plans.{Plan, Registers}
use Rattle.napi_types.specs.environment.Environment.{Environment}
use Rattle.napi_types.specs.hub.Actors.{thread_calls, left_along, Over}
use Rattle.napi_types.specs.hub.HistoryRoom.{history_room}
use Rattle.napi_types.specs.hub.Hub.{Hub}
use Rattle.napi_types.specs.hub.HubSteps.{hub_along}
use Rattle.napi_types.specs.runs.Choice.{local_choice, hub_choice, choice, waiting_hooks}
use Rattle.napi_types.specs.runs.Loop.{Event}
use Rattle.napi_types.specs.runs.Machine.{Machine}
use Rattle.napi_types.specs.runs.Plan.{frames_ask}
use Rattle.napi_types.specs.runs.Setting.{Setting, opening_of, final_of, final_registers}
use Rattle.napi_types.specs.runs.Step.{may_cut}
use Rattle.napi_types.specs.all_runs.TurnsInOrder.{BothLists, IsAtRest, MayBeStopped, next_waits, ThreadIsStill, WorkerIsStill, IsStill, EnvironmentTakesTurn, TurnsLead}
use Rattle.napi_types.proofs.all_runs.FrameAddons.{addons-are-the-scripts}
use Rattle.shared_hub.specs.HubStates.{HubSeen}
use Rattle.shared_hub.specs.KeptHubs.{IsLedHub}
use Rattle.shared_hub.specs.declared.naming.Numbers.{Numbers}
use Rattle.env_loop.specs.declared.actor.ActorRun.{ActorRun}
use Rattle.env_loop.specs.declared.actor.ActorRun.TheVariants as run
use Rattle.env_loop.specs.declared.run.FrameEnd.{FrameEnd}
use Rattle.env_loop.specs.declared.run.FrameEnd.TheVariants as end
use Rattle.env_loop.specs.declared.turn.LocalTurn.{LocalTurn}
use Rattle.env_loop.specs.declared.turn.LocalTurn.TheVariants as turn
use Rattle.env_loop.specs.ActorRuns.{NextWaits, calls_left, worker_state}
use Rattle.env_loop.specs.ActorTurns.{actor_of, is_over, IsActorOf, IsSameActor, IsBlocked}
use Rattle.env_loop.specs.FollowedRuns.{MayEndSo, IsFollowed, IsRecordedWithPending, HasNumbers, taken_in}
use Rattle.env_loop.specs.Recording.{AddonStates, machine_of}
use Rattle.env_loop.specs.RecordedRuns.{Run, pending_at_hub}
use Rattle.env_loop.specs.Turns.{turn_at}
use Rattle.env_loop.proofs.EventTurns.{needs-none}
use Rattle.env_loop.proofs.FollowedRuns.{others-taken-in}
use Rattle.env_loop.proofs.HubGoing.{hub-is, replays-in}
use Rattle.env_loop.proofs.RegisterTurns.{own-asks}
use Rattle.stepper.specs.GivenTurns.{RunAtHub, Moment, EnvironmentTurns}
use Rattle.stepper.specs.ListTurns.{HasScript}

-- BOTH LISTS
abbrev pub both : List Local → List Entry → Bool → BothLists
both journal history stopped = record { journal = journal; history = history; stopped = stopped }

-- they are the same where their parts are
pub both-same : (js ls : List Local) (hs ks : List Entry) (a b : Bool) → js ≡ ls → hs ≡ ks → a ≡ b → both js hs a ≡ both ls ks b
both-same js ls hs ks a b is at so = ap (λ x. both x hs a) is ∙ ap (λ x. both ls x a) at ∙ ap (both ls ks) so

-- turns and turns
pub turns-then : (s : Setting) (scripts : List (List Op)) (xs ys : List Actor) (old mid new : BothLists) → TurnsLead s scripts xs old mid → TurnsLead s scripts ys mid new
    → TurnsLead s scripts (xs ++ ys) old new
turns-then s scripts [] ys old mid new first second = subst (λ (l : BothLists). TurnsLead s scripts ys l new) first second
turns-then s scripts (who ∷ xs) ys old mid new first second = (first.0, first.1, turns-then s scripts xs ys first.0 mid new first.2 second)

-- WHERE THE ENVIRONMENT ADDS NOTHING
-- why it is at rest
abbrev Rests : Machine → Type 0
Rests m = (m.env.phase ≡ phase.Gone) ⊎ ((m.env.frames ≡ []) × (choice m ≡ None))

at-rest : (s : Setting) (r : Run) (history : List Entry) (all : AddonStates) (firsts : List (List DueInfo)) (stopped : Bool)
    → IsRecordedWithPending s (taken_in history r) history all firsts → Rests
    (machine_of s.limits (taken_in history r).core (hub_along (opening_of s).hub history) history)
    → IsAtRest s (both r.core.journal history stopped)
at-rest s r history all firsts stopped k rests =
    record { so_far = record { asks = k.recorded.asks; run = k.recorded.run }; rest = subst Rests (sym k.recorded.final) rests }

-- a frame that is to be cut at a call was stopped there
was-stopped : (s : Setting) (r : Run) (history : List Entry) (all : AddonStates) (firsts : List (List DueInfo)) (stopped : Bool) (w : Why)
    → IsRecordedWithPending s (taken_in history r) history all firsts → r.ending ≡ Some (end.Cut w) → w ≢ why.Asks
    → MayBeStopped s (both r.core.journal history stopped)
was-stopped s r history all firsts stopped w k owed unspent =
    let m : Machine = machine_of s.limits (taken_in history r).core (hub_along (opening_of s).hub history) history in
    let xs : List Entry = weave r.core.journal history in
    let may : MayEndSo s all.registers m (end.Cut w) = subst (λ (o : Option FrameEnd). IfSome o (MayEndSo s all.registers m)) owed k.owed.end in
    let there : All (λ f. f.addon < length s.plans) m.env.frames =
    subst (λ (n : Machine). All (λ f. f.addon < length s.plans) n.env.frames) k.recorded.final (addons-are-the-scripts s k.recorded.asks xs k.recorded.run.steps).env.frames in
    let own : may.0 ≡ frames_ask s.plans k.recorded.own m.env.frames may.0 =
    own-asks s all.registers k.recorded.own m.env.frames may.0 there k.recorded.agrees may.1 in
    record {
      so_far = record { asks = k.recorded.asks; run = k.recorded.run };
      ask = may.0;
      asked = subst (λ (n : Machine). may.0 ≡ frames_ask s.plans (final_registers s k.recorded.asks xs) n.env.frames may.0) (sym k.recorded.final)
          (subst (λ (rss : Registers). may.0 ≡ frames_ask s.plans rss m.env.frames may.0) (sym k.recorded.registers) own);
      cause = w;
      may = subst (λ (n : Machine). may_cut n may.0 w ≡ true) (sym k.recorded.final) may.2;
      no_asks = unspent;
    }

-- ITS TURN
pub unowed-turn : (b : Bool) (t : LocalTurn) → b ≡ false → cond b turn.NeedsHub t ≡ turn.NeedsHub → t ≡ turn.NeedsHub
unowed-turn true t unowed needs = cc
unowed-turn false t unowed needs = needs

module _ (n : Numbers) (plans : List Plan) (old new : RunAtHub) (s : Setting) (firsts : List (List DueInfo)) (numbers : HasNumbers s n) (led : IsLedHub n old.hub)
    (before : IsFollowed s old.run old.hub.history old.addons firsts) (after : IsFollowed s new.run new.hub.history new.addons firsts) where
  abbrev lists : RunAtHub → BothLists
  lists m = both m.run.core.journal m.hub.history (is_some m.run.ending)

  here : IsRecordedWithPending s (taken_in old.hub.history old.run) old.hub.history old.addons firsts
  here = others-taken-in s old.run old.hub.history old.addons firsts (replays-in n s old.hub led numbers) before

  hub : hub_along (opening_of s).hub old.hub.history ≡ old.hub.hub
  hub = hub-is n s old.hub led numbers

  pub lists-turn : EnvironmentTurns n plans old new → EnvironmentTakesTurn s (lists old) (lists new)
  lists-turn (inl m) =
      inl (inl (record { entry = m.one.entry; journal = m.one.last; history = ap (λ (u : HubSeen). u.history) m.hub }), ap (λ (o : Option FrameEnd). is_some o) m.paid)
  lists-turn (inr (inl m)) =
      inl (inr (record { entry = m.one.entry; by = m.one.by; journal = m.journal; history = m.one.adds.history }), ap (λ (o : Option FrameEnd). is_some o) m.paid)
  lists-turn (inr (inr (inl m))) =
      let same : new.run.core.journal ≡ old.run.core.journal = ap (λ (r : Run). r.core.journal) m.run ∙ ap (λ (r : Run). r.core.journal) m.comes.owes in
      let ends : new.run.ending ≡ Some (end.Cut m.cause) = ap (λ (r : Run). r.ending) m.run in
      let at : new.hub.history ≡ old.hub.history = ap (λ (u : HubSeen). u.history) m.hub in
      let there : IsLedHub n new.hub = subst (IsLedHub n) (sym m.hub) led in
      let stopped : MayBeStopped s (both new.run.core.journal new.hub.history (is_some old.run.ending)) =
      was-stopped s new.run new.hub.history new.addons firsts (is_some old.run.ending) m.cause
      (others-taken-in s new.run new.hub.history new.addons firsts (replays-in n s new.hub there numbers) after) ends m.no_asks in
      inr (inr (
        subst (λ (l : BothLists). MayBeStopped s l) (both-same new.run.core.journal old.run.core.journal new.hub.history old.hub.history _ _ same at refl) stopped,
        ap (λ (o : Option FrameEnd). is_some o) m.free,
        both-same new.run.core.journal old.run.core.journal new.hub.history old.hub.history (is_some new.run.ending) true same at (ap (λ (o : Option FrameEnd). is_some o) ends),
      ))
  lists-turn (inr (inr (inr (inl m)))) =
      let e : Environment = old.run.core.env in
      let needs : turn_at e.frames e ≡ turn.NeedsHub = unowed-turn (pending_at_hub old.run) (turn_at e.frames e) m.unowed m.needs in
      let none : option_or (local_choice e) (hub_choice (hub_along (opening_of s).hub old.hub.history) (waiting_hooks e)) ≡ None =
      ap (λ (h : Hub). option_or (local_choice e) (hub_choice h (waiting_hooks e))) hub ∙ m.none in
      inr (inl (
        at-rest s old.run old.hub.history old.addons firsts (is_some old.run.ending) here (inr (needs-none e.frames e needs, none)),
        both-same new.run.core.journal old.run.core.journal new.hub.history old.hub.history (is_some new.run.ending) (is_some old.run.ending)
            (ap (λ (r : Run). r.core.journal) m.run) (ap (λ (u : HubSeen). u.history) m.hub) (ap (λ (r : Run). is_some r.ending) m.run),
      ))
  lists-turn (inr (inr (inr (inr m)))) =
      inr (inl (at-rest s old.run old.hub.history old.addons firsts (is_some old.run.ending) here (inl m.gone), ap lists m.same))

-- THREADS AND WORKERS
next-waits : (r : Room) (h : Hub) (t : ℕ) (left : Option (List Call)) → NextWaits r h t left → next_waits r h t left ≡ true
next-waits r h t (Some (c ∷ later)) waits = rw (waits.0, waits.1) refl
next-waits r h t (Some []) waits = absurd waits
next-waits r h t None waits = absurd waits

module _ {J : Type 0} where
  pub has-same : (scripts : List (List Op)) (a b : ActorRun J) → IsSameActor a b → HasScript scripts a → HasScript scripts b
  has-same scripts (run.OfThread t) (run.OfThread u) same has =
      ap (slice_get scripts) same.number ∙ has ∙ ap (λ (os : List Op). Some os) (sym same.operations)
  has-same scripts (run.OfWorker v) (run.OfWorker w) same has = tt
  has-same scripts (run.OfThread t) (run.OfWorker w) same has = absurd same
  has-same scripts (run.OfWorker w) (run.OfThread t) same has = absurd same

  pub all-have : (scripts : List (List Op)) (xs ys : List (ActorRun J)) → AllZip IsSameActor xs ys → All (HasScript scripts) xs → All (HasScript scripts) ys
  all-have scripts [] [] same has = has
  all-have scripts [] (y ∷ ys) same has = absurd same
  all-have scripts (x ∷ xs) [] same has = absurd same
  all-have scripts (x ∷ xs) (y ∷ ys) same has =
      All-cons (HasScript scripts) y ys (has-same scripts x y same.0 (All-head (HasScript scripts) x xs has)) (all-have scripts xs ys same.1 (All-tail (HasScript scripts) x xs has))

  -- one that has ended or waits could not go on
  pub is-still : (n : Numbers) (s : Setting) (scripts : List (List Op)) (u : HubSeen) (a : ActorRun J) → IsLedHub n u → HasNumbers s n → IsActorOf n u a → HasScript scripts a
      → (is_over a ≡ true) ⊎ IsBlocked n u a → IsStill s scripts (actor_of a) u.history
  is-still n s scripts u (run.OfThread t) led numbers of has still =
      let left : left_along t.number (option_map thread_calls (slice_get scripts t.number)) u.history ≡ calls_left t =
      ap (λ (o : Option (List Op)). left_along t.number (option_map thread_calls o) u.history) has ∙ of.stands.left_is in
      let Still : Hub → ℕ → Option (List Call) → Type 0 = λ h limit o. ThreadIsStill (history_room h (length u.history) limit) h t.number o in
      subst (λ (h : Hub). Still h s.limits.history (left_along t.number (option_map thread_calls (slice_get scripts t.number)) u.history)) (sym (hub-is n s u led numbers))
      (subst (λ (limit : ℕ). Still u.hub limit (left_along t.number (option_map thread_calls (slice_get scripts t.number)) u.history)) (sym numbers.limit)
      (subst (λ (o : Option (List Call)). Still u.hub n.limits.history o) (sym left) (by still)))
    where
      by : (t.over ≡ true) ⊎ IsBlocked {J = J} n u (run.OfThread t) → ThreadIsStill (history_room u.hub (length u.history) n.limits.history) u.hub t.number (calls_left t)
      by (inl over) = inl (ap (λ b. cond b None (calls_left (record t { over = false }))) over)
      by (inr (inl early)) = inr (inl early)
      by (inr (inr waits)) = inr (inr (next-waits (history_room u.hub (length u.history) n.limits.history) u.hub t.number (calls_left t) waits))
  is-still n s scripts u (run.OfWorker w) led numbers of has still =
      subst (λ (h : Hub). WorkerIsStill h w.number u.history) (sym (hub-is n s u led numbers)) (by still)
    where
      by : (w.over ≡ true) ⊎ IsBlocked {J = J} n u (run.OfWorker w) → WorkerIsStill u.hub w.number u.history
      by (inl over) = inl (of.stands ∙ ap (λ b. Some (cond b Over (worker_state (record w { over = false })))) over)
      by (inr waits) = inr waits
