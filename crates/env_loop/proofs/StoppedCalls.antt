-- The hub stops the call that is awaited: its frame is to be cut.
use Rattle.std.proofs.Common.{◌≡◌, ◌<◌, ◌+◌, ◌&&◌, ◌||◌, not, ◌⊎◌, inl, inr, ℕ, nat_lt, min, Bool, true, false, IsTrue, List, length, refl, ap, subst, sym, ◌∙◌, arith, Option, Some, None, Err, IfSome}
use Rattle.std.specs.declared.result.Result.{Result}
use Rattle.napi_types.specs.declared.call.Ask.TheVariants as ask
use Rattle.napi_types.specs.declared.call.Call.{Call}
use Rattle.napi_types.specs.declared.duties.DueInfo.{DueInfo}
use Rattle.napi_types.specs.declared.entry.Actor.TheVariants as actor
use Rattle.napi_types.specs.declared.entry.Given.{Given}
use Rattle.napi_types.specs.declared.entry.Reply.{Reply}
use Rattle.napi_types.specs.declared.entry.SharedCall.{SharedCall}
use Rattle.napi_types.specs.declared.entry.Why.{Why}
use Rattle.napi_types.specs.declared.entry.Why.TheVariants as why
use Rattle.napi_types.specs.declared.status.Status.{Status}
use Rattle.napi_types.specs.declared.status.Status.TheVariants as status
use Rattle.napi_types.specs.plain.Guards.{is_shared, is_growing}
use Rattle.napi_types.specs.plain.Room.{Room, is_full, need, first_places, may_want_memory}
use Rattle.napi_types.specs.scripts.Plans.{Plan}
use Rattle.napi_types.specs.environment.Changes.{may_call}
use Rattle.napi_types.specs.hub.HistoryRoom.{history_room}
use Rattle.napi_types.specs.hub.Hub.{Hub}
use Rattle.napi_types.specs.hub.HubSteps.{hub_along}
use Rattle.napi_types.specs.runs.CallRoom.{room_of}
use Rattle.napi_types.specs.runs.Machine.{Machine}
use Rattle.napi_types.specs.runs.Setting.{Setting, opening_of}
use Rattle.napi_types.specs.runs.Step.{shared, may_cut}
use Rattle.napi_types.proofs.runs.CallRooms.{shared-room}
use Rattle.env_core.specs.Core.{Core}
use Rattle.env_core.specs.Sharing.{after_no_answer}
use Rattle.shared_hub.specs.declared.naming.Numbers.{Numbers}
use Rattle.shared_hub.specs.HubStates.{HubSeen, hub_room}
use Rattle.shared_hub.specs.KeptHubs.{IsLedHub}
use Rattle.shared_hub.specs.SharedTries.{given_by, GrowsAccepted, MayFindNoMemory}
use Rattle.env_loop.specs.declared.run.FrameEnd.TheVariants as end
use Rattle.env_loop.specs.FollowedRuns.{Asks, StoppedAtHub, IsRecordedWithPending, taken_in, HasNumbers}
use Rattle.env_loop.specs.HubTurns.{IsCutTurn, StopsAs}
use Rattle.env_loop.specs.Recording.{AddonStates, machine_of, why_stopped}
use Rattle.env_loop.specs.RecordedRuns.{Run, IsAwaited, IsRunning, FitsHub}
use Rattle.env_loop.proofs.HubGoing.{hub-is, IsRecordedAtHub, goes-at-hub}
use Rattle.env_loop.proofs.TurnSteps.{two_may}
use Rattle.env_loop.proofs.AwaitedCalls.{awaited-calls, settled, awaited-stands}

-- a call that may find no memory may want some
wants-memory : (q : Room) (h : Hub) (g : Given) (c : Call) → GrowsAccepted h actor.Env g c ⊎ (min first_places q.limit < q.occupied + need c)
    → may_want_memory q c ≡ true
wants-memory q h g c (inl grows) = ap (λ b. b || nat_lt (min first_places q.limit) (q.occupied + need c)) grows.grows
wants-memory q h g c (inr passes) = by (min first_places q.limit) (q.occupied + need c) passes (is_growing c)
  where
    by : (a b : ℕ) → a < b → (grows : Bool) → (grows || nat_lt a b) ≡ true
    by a b less true = refl
    by a b less false = grind arith

-- the hub may stop a call so, in this room
abbrev StopsIn : Room → Hub → SharedCall → Why → Type 0
StopsIn q h c why.Full = IsTrue (is_full q c.call)
StopsIn q h c why.Memory = MayFindNoMemory q h actor.Env (given_by c) c.call
StopsIn q h c why.Asks = ⊥

stops-in : (n : Numbers) (seen : HubSeen) (o : Option SharedCall) (c : SharedCall) (w : Why) → o ≡ Some c → StopsIn (hub_room n seen) seen.hub c w
    → StopsAs n seen o w
stops-in n seen o c why.Full is stops = subst (λ (p : Option SharedCall). StopsAs n seen p why.Full) (sym is) stops
stops-in n seen o c why.Memory is stops = subst (λ (p : Option SharedCall). StopsAs n seen p why.Memory) (sym is) stops
stops-in n seen o c why.Asks is stops = absurd stops

-- so its frame may be cut
stopped-may : (m : Machine) (h : Hub) (c : SharedCall) (w : Why) → may_call m.env ≡ true → is_shared c.call ≡ true
    → StopsIn (history_room m.hub m.history_length m.limits.history) h c w → may_cut m (ask.Do c.call) w ≡ true
stopped-may m h c why.Full may shared stops =
    two_may (may_call m.env) (is_full (room_of m c.call) c.call) may (ap (λ (q : Room). is_full q c.call) (shared-room m c.call shared) ∙ stops)
stopped-may m h c why.Memory may shared stops =
    let room = shared-room m c.call shared in
    two_may (may_call m.env && may_want_memory (room_of m c.call) c.call) (is_shared c.call || not (is_full (room_of m c.call) c.call))
    (two_may (may_call m.env) (may_want_memory (room_of m c.call) c.call) may
    (ap (λ (q : Room). may_want_memory q c.call) room ∙ wants-memory (history_room m.hub m.history_length m.limits.history) h (given_by c) c.call stops.wants))
    (ap (λ b. b || not (is_full (room_of m c.call) c.call)) shared)
stopped-may m h c why.Asks may shared stops = absurd stops

-- the call stopped at the hub
stopped-there : (q : Room) (h : Hub) (c : SharedCall) (w : Why) → is_shared c.call ≡ true → StopsIn q h c w → StoppedAtHub (ask.Do c.call) w
stopped-there q h c why.Full shared stops = ap (λ b. b && true) shared
stopped-there q h c why.Memory shared stops = ap (λ b. b && true) shared
stopped-there q h c why.Asks shared stops = absurd stops

-- the cut is pending
stopped-run : (s : Setting) (n : Numbers) (old : Run) (c : SharedCall) (w : Why) (before : HubSeen) (all : AddonStates) (firsts : List (List DueInfo))
    → IsLedHub n before → HasNumbers s n
    → IsAwaited old.core.env c → old.core.awaited ≡ Some c → StopsIn (hub_room n before) before.hub c w
    → IsRecordedWithPending s (taken_in before.history old) before.history all firsts
    → IsRecordedAtHub s
    (record { core = after_no_answer (length before.history) old.core; begun = old.begun; ending = Some (end.Cut w) }) before.history all firsts
stopped-run s n old c w before all firsts led numbers stands awaited stops joined =
    let h : Hub = hub_along (opening_of s).hub before.history in
    let core : Core = after_no_answer (length before.history) old.core in
    let asks : Asks s all.registers old.core.env.frames (ask.Do c.call) =
    subst (λ o. IfSome o (λ (d : SharedCall). Asks s all.registers old.core.env.frames (ask.Do d.call))) awaited joined.owed.call in
    let here : StopsIn (history_room h (length before.history) s.limits.history) before.hub c w =
    subst (λ (k : ℕ). StopsIn (history_room h (length before.history) k) before.hub c w) (sym numbers.limit)
    (subst (λ (g : Hub). StopsIn (history_room g (length before.history) n.limits.history) before.hub c w) (sym (hub-is n s before led numbers)) stops) in
    record {
      joined = record {
        recorded = settled s (record old.core { position = length before.history }) h before.history all firsts joined.recorded;
        owed = record {
          call = tt;
          end = (
            ask.Do c.call,
            asks,
            stopped-may (machine_of s.limits core h before.history) before.hub c w (awaited-calls s all.registers old.core.env c stands asks) stands.shared here,
            λ local. stopped-there (history_room h (length before.history) s.limits.history) before.hub c w stands.shared here,
          );
        };
      };
      own = λ none. (let no : Some (end.Cut w) ≡ None = none in cc);
    }

-- it stops for one of two reasons
abbrev stopped : Status → Result Reply Status
stopped t = Err t

stops-for : (n : Numbers) (before : HubSeen) (c : SharedCall) (t : Status) → (t ≡ status.TraceFull) ⊎ (t ≡ status.NoMemory)
    → (stopped t ≡ Err status.TraceFull → IsTrue (is_full (hub_room n before) c.call))
    → (stopped t ≡ Err status.NoMemory → MayFindNoMemory (hub_room n before) before.hub actor.Env (given_by c) c.call)
    → StopsIn (hub_room n before) before.hub c (why_stopped t)
stops-for n before c t (inl is) full memory = subst (λ (x : Status). StopsIn (hub_room n before) before.hub c (why_stopped x)) (sym is) (full (ap stopped is))
stops-for n before c t (inr is) full memory = subst (λ (x : Status). StopsIn (hub_room n before) before.hub c (why_stopped x)) (sym is) (memory (ap stopped is))

turn-stopped : (n : Numbers) (plans : List Plan) (run : Run) (c : SharedCall) (w : Why) (before : HubSeen) (all : AddonStates) → IsLedHub n before
    → IsRunning run.core run.begun run.ending
    → FitsHub run before → run.core.awaited ≡ Some c → StopsIn (hub_room n before) before.hub c w
    → IsCutTurn n plans w run before all
    (record { core = after_no_answer (length before.history) run.core; begun = run.begun; ending = Some (end.Cut w) }) before all
turn-stopped n plans run c w before all led running fits awaited stops =
    let new : Run = record { core = after_no_answer (length before.history) run.core; begun = run.begun; ending = Some (end.Cut w) } in
    record {
      cause = stops-in n before run.core.awaited c w awaited stops;
      hub = refl;
      run = refl;
      addons = refl;
      fits = record { stage = fits.stage; standing = fits.standing; owned = fits.owned; noted = omega arith };
      goes = goes-at-hub n plans run new before before all all led (λ s firsts numbers of joined.
          stopped-run s n run c w before all firsts led numbers (awaited-stands run c running awaited) awaited stops joined);
    }

-- as the function has it
pub stopped-turn : (n : Numbers) (plans : List Plan) (run old : Run) (core : Core) (c : SharedCall) (t : Status) (w : Why) (before after : HubSeen)
    (all : AddonStates) (position : ℕ) → run ≡ old → IsRunning run.core run.begun run.ending → IsLedHub n before → FitsHub old before
    → old.core.awaited ≡ Some c → (t ≡ status.TraceFull) ⊎ (t ≡ status.NoMemory)
    → (stopped t ≡ Err status.TraceFull → IsTrue (is_full (hub_room n before) c.call))
    → (stopped t ≡ Err status.NoMemory → MayFindNoMemory (hub_room n before) before.hub actor.Env (given_by c) c.call)
    → after ≡ before → w ≡ why_stopped t → core ≡ after_no_answer position run.core → position ≡ length after.history
    → IsCutTurn n plans w old before all (record { core = core; begun = run.begun; ending = Some (end.Cut w) }) after all
stopped-turn n plans run old core c t w before after all position view running led fits awaited two full memory same reason given_up noted =
    let here : run.core.awaited ≡ Some c = ap (λ (x : Run). x.core.awaited) view ∙ awaited in
    let at : position ≡ length before.history = noted ∙ ap (λ (x : HubSeen). length x.history) same in
    let is : core ≡ after_no_answer (length before.history) run.core = given_up ∙ ap (λ k. after_no_answer k run.core) at in
    let stops : StopsIn (hub_room n before) before.hub c w =
    subst (λ (x : Why). StopsIn (hub_room n before) before.hub c x) (sym reason) (stops-for n before c t two full memory) in
    let new : Core → Run = λ k. record { core = k; begun = run.begun; ending = Some (end.Cut w) } in
    subst (λ (x : Run). IsCutTurn n plans w x before all (new core) after all) view
    (subst (λ (x : HubSeen). IsCutTurn n plans w run before all (new core) x all) (sym same)
    (subst (λ (x : Core). IsCutTurn n plans w run before all (new x) before all) (sym is)
    (turn-stopped n plans run c w before all led running (subst (λ (x : Run). FitsHub x before) (sym view) fits) here stops)))
