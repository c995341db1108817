-- What holds of the hub at every moment.
use Rattle.std.proofs.Common.{◌≡◌, ◌∙◌, ℕ, suc, ◌+◌, ◌&&◌, Bool, true, false, List, [], ◌∷◌, length, refl, ap, sym, subst, arith, Option, Some, None, is_some, is_none, inl, inr, ◌⊎◌, option_map, ◌≤◌, ◌*◌}
use Rattle.std.proofs.lemmas.List.Elements.{All-nil}
use Rattle.std.proofs.lemmas.List.Sums.{sum_by-cons}
use Rattle.std.specs.List.{sum_by}
use Rattle.std.specs.Option.{option_or, unwrap_or, option_and_then}
use Rattle.napi_types.specs.declared.call.Call.{Call}
use Rattle.napi_types.specs.declared.call.Call.TheVariants as call
use Rattle.napi_types.specs.declared.duties.DueInfo.{DueInfo}
use Rattle.napi_types.specs.declared.entry.Duty.{Duty}
use Rattle.napi_types.specs.declared.entry.Duty.TheVariants as duty
use Rattle.napi_types.specs.declared.entry.Entry.{Entry}
use Rattle.napi_types.specs.declared.entry.HostStep.{HostStep}
use Rattle.napi_types.specs.declared.entry.HostStep.TheVariants as host
use Rattle.napi_types.specs.declared.entry.Out.{Out}
use Rattle.napi_types.specs.declared.entry.Out.TheVariants as out
use Rattle.napi_types.specs.declared.entry.What.TheVariants as what
use Rattle.napi_types.specs.declared.entry.TsfnState.{TsfnState}
use Rattle.napi_types.specs.declared.entry.TsfnState.TheVariants.{Open, Closing, Finished, Done}
use Rattle.napi_types.specs.plain.Lists.{has_number, is_empty, head}
use Rattle.napi_types.specs.plain.Room.{one_if}
use Rattle.napi_types.specs.parts.Functions.{FunctionState, is_open, new_function, first_taken, closed, finished, done}
use Rattle.napi_types.specs.parts.Pool.{work_numbered, completion_info, first_completion}
use Rattle.napi_types.specs.parts.Works.{Work, Outcome}
use Rattle.napi_types.specs.hub.HistoryLaws.{LeadsTo}
use Rattle.napi_types.specs.hub.HistoryRoom.{function_places, reserved_history}
use Rattle.napi_types.specs.hub.Hub.{stage_places, Hub, Stage, Before, Live, LoopEnded, Drained, Final, new_hub, stage_after, is_past_drain, threads_left, workers_left, HooksAbandoned}
use Rattle.napi_types.specs.hub.HubCalls.{new_function_number}
use Rattle.napi_types.specs.hub.HubMoves.{HubMove, Delivers, Closes, Finishes, tsfn_move_in, tsfn_move, first_move, hub_move, in_tsfn, without_duty, with_delivered, is_spent}
use Rattle.napi_types.specs.hub.GivenSteps.{has_loop_ended, is_fresh_work, work_number}
use Rattle.napi_types.specs.hub.HubEvents.{staged}
use Rattle.napi_types.specs.hub.HubSteps.{IsHubNext, hub_step, hub_along}
use Rattle.napi_types.specs.hub.Replays.{HubReplays}
use Rattle.napi_types.proofs.plain.Conditions.{and-left, and-right}
use Rattle.napi_types.proofs.hub.HubCases.{HubCase, hub-case, creates_work, deletes_work, cancels_work, queues_work, creates_function, alters, goes, ends_loop, drains, comes_to_finals, delivers, closes, finishes, starts, finishes_work, abandons}
use Rattle.napi_types.proofs.hub.HubFunctions.{is_over, IsSound, AreSoundFrom, fewer-sound, more-sound, IsAmong, found-among, FunctionGrows, alters-grows, all_closed-sound, DutyFalls, Moves, first-moves}
use Rattle.napi_types.proofs.hub.HubPools.{PoolSound, created-sound, deleted-sound, cancelled-sound, queued-sound, started-sound, worked-sound, completed-sound, drained-sound, fewer-late, finished-there}
use Rattle.napi_types.proofs.hub.HubRooms.{WhatMoves, what-moves, move-of_function, completion-completes, late-room}

drained-looped : (s : Stage) → has_loop_ended s ≡ false → is_past_drain s ≡ true → ⊥
drained-looped Before early late = cc
drained-looped _ early late = cc

-- THE FUNCTIONS
abbrev pub AreSound : Hub → Type 0
AreSound h = AreSoundFrom (is_past_drain h.stage) 1 h.functions

abbrev is_draining : HostStep → Bool
is_draining host.Drain = true
is_draining _ = false

-- no other great event is the drain
still-late : (s : Stage) (event : HostStep) → is_draining event ≡ false → is_some (stage_after s event) ≡ true → is_past_drain (unwrap_or (stage_after s event) s) ≡ true → is_past_drain s ≡ true
still-late Before host.Go other comes late = cc
still-late Live host.LoopEnd other comes late = cc
still-late LoopEnded host.Abandon other comes late = cc
still-late LoopEnded host.Drain other comes late = cc
still-late HooksAbandoned host.Drain other comes late = cc
still-late Drained host.Finals other comes late = refl
still-late _ _ other comes late = cc

staged-sound : (h : Hub) (event : HostStep) → is_draining event ≡ false → is_some (stage_after h.stage event) ≡ true → AreSound h → AreSound (staged event h)
staged-sound h event other comes sound =
    fewer-sound (is_past_drain h.stage) (is_past_drain (staged event h).stage) 1 h.functions (still-late h.stage event other comes) sound

duty-sound : (late : Bool) (h : Hub) (f : FunctionState) (d : Duty) → IsAmong late 1 h.functions f → DutyFalls late f d → AreSoundFrom late 1 (without_duty d h).functions
duty-sound late h f (duty.Item g n) among falls = rw falls.0 (among.kept first_taken falls.1.id (falls.1.sound among.sound))
duty-sound late h f (duty.Function g) among falls = rw falls.0 (among.kept done falls.1.id (falls.1.sound among.sound))
duty-sound late h f _ among falls = absurd falls

pub duty-stage : (d : Duty) (h : Hub) → (without_duty d h).stage ≡ h.stage
duty-stage (duty.Ticket t) h = refl
duty-stage _ h = refl

delivered-sound : (h : Hub) (d : DueInfo) → AreSound h → hub_move h ≡ Some (Delivers d) → AreSound (with_delivered d h)
delivered-sound h d sound next =
    subst (λ s. AreSoundFrom (is_past_drain s) 1 (without_duty d.duty h).functions) (sym (duty-stage d.duty h)) (by (what-moves h d next))
  where
    by : WhatMoves h d → AreSoundFrom (is_past_drain h.stage) 1 (without_duty d.duty h).functions
    by (inl first) = subst (λ y. AreSoundFrom (is_past_drain h.stage) 1 (without_duty y h).functions) (sym (completion-completes h.pool d first).duty) sound
    by (inr first) =
        let k : Moves (is_past_drain h.stage) 1 h.functions (Delivers d) = first-moves (is_past_drain h.stage) 1 h.functions (Delivers d) sound first in
        duty-sound (is_past_drain h.stage) h k.function d.duty k.among k.falls

closes-sound : (h : Hub) (n : ℕ) → AreSound h → hub_move h ≡ Some (Closes n) → AreSound (in_tsfn n closed h)
closes-sound h n sound next =
    let k : Moves (is_past_drain h.stage) 1 h.functions (Closes n) =
    first-moves (is_past_drain h.stage) 1 h.functions (Closes n) sound (move-of_function h (first_completion h.pool) (Closes n) refl next (λ d first is. cc)) in
    rw k.falls.0 (k.among.kept closed k.falls.1.id (k.falls.1.sound k.among.sound))

finishes-sound : (h : Hub) (n : ℕ) → AreSound h → hub_move h ≡ Some (Finishes n) → AreSound (in_tsfn n finished h)
finishes-sound h n sound next =
    let k : Moves (is_past_drain h.stage) 1 h.functions (Finishes n) =
    first-moves (is_past_drain h.stage) 1 h.functions (Finishes n) sound (move-of_function h (first_completion h.pool) (Finishes n) refl next (λ d first is. cc)) in
    rw k.falls.0 (k.among.kept finished k.falls.1.id (k.falls.1.sound k.among.sound))

next-id : (n : ℕ) → n + 1 ≡ 1 + n
next-id n = omega arith

pub functions-sound : (h : Hub) (x : Entry) (told : Out) (n : Hub) → AreSound h → HubCase h x told n → AreSound n
functions-sound h x told _ sound (creates_function f entry maximum count finalizer context addon target is early) =
    more-sound (is_past_drain h.stage) 1 h.functions (new_function (new_function_number h) addon target maximum count finalizer context) (next-id (length h.functions))
    (record { settled = λ over. cc; shut = λ late. absurd (drained-looped h.stage early late) }) sound
functions-sound h x told _ sound (alters c k f change is there how) =
    let among : IsAmong (is_past_drain h.stage) 1 h.functions f = found-among (is_past_drain h.stage) 1 k h.functions f sound there in
    let grows : FunctionGrows (is_past_drain h.stage) _ f (change f) = alters-grows (is_past_drain h.stage) f c change how in
    among.kept change grows.id (grows.sound among.sound)
functions-sound h x told _ sound (goes is may) = staged-sound h host.Go refl (and-left _ (is_none h.standing) may) sound
functions-sound h x told _ sound (abandons is may still) = staged-sound h host.Abandon refl (and-left _ (is_none h.standing) may) sound
functions-sound h x told _ sound (ends_loop is may) = staged-sound h host.LoopEnd refl (and-left _ (is_none h.standing) may) sound
functions-sound h x told _ sound (drains is may) = all_closed-sound (is_past_drain h.stage) _ 1 h.functions sound
functions-sound h x told _ sound (comes_to_finals is may) = staged-sound h host.Finals refl (and-left _ (is_none h.standing) may) sound
functions-sound h x told _ sound (delivers d is next alone) = delivered-sound h d sound next
functions-sound h x told _ sound (closes n is next) = closes-sound h n sound next
functions-sound h x told _ sound (finishes n is next) = finishes-sound h n sound next
functions-sound h x told _ sound _ = sound

-- THE POOL
pub record HubSound (h : Hub) : Type 0 where
  pub functions : AreSound h
  pub pool : PoolSound (is_past_drain h.stage) h.pool

staged-pool : (h : Hub) (event : HostStep) → is_draining event ≡ false → is_some (stage_after h.stage event) ≡ true → PoolSound (is_past_drain h.stage) h.pool
    → PoolSound (is_past_drain (staged event h).stage) h.pool
staged-pool h event other comes s = fewer-late (is_past_drain h.stage) (is_past_drain (staged event h).stage) h.pool (still-late h.stage event other comes) s

duty-pool : (late : Bool) (h : Hub) (f : FunctionState) (d : Duty) → DutyFalls late f d → (without_duty d h).pool ≡ h.pool
duty-pool late h f (duty.Work n) falls = absurd falls
duty-pool late h f (duty.Ticket t) falls = absurd falls
duty-pool late h f _ falls = refl

delivered-pool : (h : Hub) (d : DueInfo) → HubSound h → hub_move h ≡ Some (Delivers d) → PoolSound (is_past_drain (with_delivered d h).stage) (with_delivered d h).pool
delivered-pool h d s next =
    subst (λ t. PoolSound (is_past_drain t) (without_duty d.duty h).pool) (sym (duty-stage d.duty h)) (by (what-moves h d next))
  where
    by : WhatMoves h d → PoolSound (is_past_drain h.stage) (without_duty d.duty h).pool
    by (inl first) =
        subst (λ y. PoolSound (is_past_drain h.stage) (without_duty y h).pool) (sym (completion-completes h.pool d first).duty) (completed-sound (is_past_drain h.stage) h.pool s.pool)
    by (inr first) =
        let k : Moves (is_past_drain h.stage) 1 h.functions (Delivers d) = first-moves (is_past_drain h.stage) 1 h.functions (Delivers d) s.functions first in
        subst (PoolSound (is_past_drain h.stage)) (sym (duty-pool (is_past_drain h.stage) h k.function d.duty k.falls)) s.pool

pub opening-sound : (threads workers : ℕ) → HubSound (new_hub threads workers)
opening-sound threads workers = record {
  functions = tt;
  pool = record {
    none = λ late. refl;
    rising = tt;
    issued = All-nil (λ (w : Work). has_number w.id [] ≡ true);
    there = λ n stands. let no : false ≡ true = stands in cc;
    given = λ n stands. let no : false ≡ true = stands in cc;
    executes = tt;
  };
}

-- where a call's entry tells what it is given to tell
pool-sound : (h : Hub) (x : Entry) (told : Out) (n : Hub) → ((c : Call) → x.what ≡ what.Call c → told ≡ x.reply.out) → HubSound h → HubCase h x told n
    → PoolSound (is_past_drain n.stage) n.pool
pool-sound h x told _ given s (creates_work job entry payload addon is fresh tells) =
    let work : out.Work (record { 0 = work_number x.reply.out }) ≡ x.reply.out = sym tells ∙ given (call.CreateAsyncWork job entry payload) is in
    created-sound (is_past_drain h.stage) h.pool (work_number x.reply.out) job addon entry payload (ap (is_fresh_work h) work ∙ fresh) s.pool
pool-sound h x told _ given s (deletes_work w is none) = deleted-sound (is_past_drain h.stage) h.pool w.0 none s.pool
pool-sound h x told _ given s (cancels_work w is none) = cancelled-sound (is_past_drain h.stage) h.pool w.0 none s.pool
pool-sound h x told _ given s (queues_work w is none early) = queued-sound (is_past_drain h.stage) h.pool w.0 none (drained-looped h.stage early) s.pool
pool-sound h x told _ given s (goes is may) = staged-pool h host.Go refl (and-left _ (is_none h.standing) may) s.pool
pool-sound h x told _ given s (abandons is may still) = staged-pool h host.Abandon refl (and-left _ (is_none h.standing) may) s.pool
pool-sound h x told _ given s (ends_loop is may) = staged-pool h host.LoopEnd refl (and-left _ (is_none h.standing) may) s.pool
pool-sound h x told _ given s (drains is may) = drained-sound (is_past_drain h.stage) _ h.pool s.pool
pool-sound h x told _ given s (comes_to_finals is may) = staged-pool h host.Finals refl (and-left _ (is_none h.standing) may) s.pool
pool-sound h x told _ given s (delivers d is next alone) = delivered-pool h d s next
pool-sound h x told _ given s (starts w n later is waits free) = started-sound (is_past_drain h.stage) h.pool w n later waits free s.pool
pool-sound h x told _ given s (finishes_work w n is runs) = worked-sound (is_past_drain h.stage) h.pool w n runs s.pool
pool-sound h x told _ given s _ = s.pool

pub hub-sound : (h : Hub) (x : Entry) (told : Out) (n : Hub) → ((c : Call) → x.what ≡ what.Call c → told ≡ x.reply.out) → HubSound h → HubCase h x told n → HubSound n
hub-sound h x told n given s case = record { functions = functions-sound h x told n s.functions case; pool = pool-sound h x told n given s case }

-- ALONG A HISTORY
-- the entry that comes next tells what the step tells
pub next-told : (h : Hub) (x : Entry) → IsHubNext h x → (c : Call) → x.what ≡ what.Call c → (hub_step h x).entry.reply.out ≡ x.reply.out
next-told h x next c is = sym (ap (λ (y : Entry). y.reply.out) next.entry)

pub step-sound : (h : Hub) (x : Entry) → IsHubNext h x → HubSound h → HubSound (hub_step h x).after
step-sound h x next s = hub-sound h x (hub_step h x).entry.reply.out (hub_step h x).after (next-told h x next) s (hub-case h x next.may)

along-sound : (limit : ℕ) (h : Hub) (n : ℕ) (xs : List Entry) → HubReplays limit h n xs → HubSound h → HubSound (hub_along h xs)
along-sound limit h n [] replays s = s
along-sound limit h n (x ∷ xs) replays s = along-sound limit (hub_step h x).after (n + 1) xs replays.2 (step-sound h x replays.0 s)

-- every hub to which a history leads
pub led-sound : (limit threads workers : ℕ) (history : List Entry) (h : Hub) → LeadsTo limit threads workers history h → HubSound h
led-sound limit threads workers history h led =
    subst HubSound led.hub (along-sound limit (new_hub threads workers) 0 history led.replays (opening-sound threads workers))

-- ONCE FINALS HAS COME
-- nothing is left where nothing moves and nobody is left
empty-none : {A : Type 0} (xs : List A) → is_empty xs ≡ true → length xs ≡ 0
empty-none [] is = refl
empty-none (x ∷ xs) is = cc

idle-places : (f : FunctionState) (s : TsfnState) (items : List ℕ) → f.state ≡ s → f.items ≡ items → IsSound true f → tsfn_move_in f s items ≡ None
    → function_places f ≡ 0
idle-places f Open items is same sound none = let no : true ≡ false = sym (ap is_open is) ∙ sound.shut refl in cc
idle-places f Closing [] is same sound none = let no : ⊥ = cc in absurd no
idle-places f Closing (payload ∷ later) is same sound none = let no : ⊥ = cc in absurd no
idle-places f Finished items is same sound none = let no : ⊥ = cc in absurd no
idle-places f Done items is same sound none =
    let length : length f.items ≡ 0 = ap length (sound.settled (ap is_over is)) in
    rw is (omega (arith, length))

no-places : (k : ℕ) (fs : List FunctionState) → AreSoundFrom true k fs → first_move fs ≡ None → sum_by function_places fs ≡ 0
no-places k [] sound none = refl
no-places k (f ∷ fs) sound none = by (tsfn_move f) refl none (no-places (suc k) fs sound.2)
  where
    by : (o : Option HubMove) → tsfn_move f ≡ o → option_or o (first_move fs) ≡ None → (first_move fs ≡ None → sum_by function_places fs ≡ 0)
        → sum_by function_places (f ∷ fs) ≡ 0
    by None idle none rest = omega (arith, sum_by-cons function_places f fs, idle-places f f.state f.items refl refl sound.1 idle, rest none)
    by (Some move) idle none rest = let no : ⊥ = cc in absurd no

none-finished : (h : Hub) → HubSound h → hub_move h ≡ None → h.pool.finished ≡ []
none-finished h s none = by h.pool.finished refl
  where
    told : (o : Outcome) (w : Option Work) → is_some w ≡ true → option_or (option_map Delivers (option_map (λ v. completion_info v o) w)) (first_move h.functions) ≡ None → ⊥
    told o None there none = cc
    told o (Some w) there none = cc

    by : (os : List Outcome) → h.pool.finished ≡ os → h.pool.finished ≡ []
    by [] is = is
    by (o ∷ os) is =
        absurd (told o (work_numbered h.pool o.work) (finished-there (is_past_drain h.stage) h.pool o os is s.pool)
        (sym (ap (λ l. option_or (option_map Delivers (option_and_then (λ (o : Outcome). option_map (λ w. completion_info w o) (work_numbered h.pool o.work)) (head l))) (first_move h.functions)) is) ∙ none))

no-move : (o : Option DueInfo) (m : Option HubMove) → option_or (option_map Delivers o) m ≡ None → m ≡ None
no-move None m none = none
no-move (Some d) m none = let no : ⊥ = cc in absurd no

spent-parts : (h : Hub) → is_spent h ≡ true → (length (threads_left h) ≡ 0) × (length (workers_left h) ≡ 0) × (length h.pool.executions ≡ 0)
spent-parts h spent =
    let both : is_empty (threads_left h) && is_empty (workers_left h) ≡ true = and-left (is_empty (threads_left h) && is_empty (workers_left h)) (is_empty h.pool.executions) spent in (
      empty-none (threads_left h) (and-left (is_empty (threads_left h)) (is_empty (workers_left h)) both),
      empty-none (workers_left h) (and-right (is_empty (threads_left h)) (is_empty (workers_left h)) both),
      empty-none h.pool.executions (and-right (is_empty (threads_left h) && is_empty (workers_left h)) (is_empty h.pool.executions) spent),
    )

finals-drained : (s : Stage) → is_some (stage_after s host.Finals) ≡ true → s ≡ Drained
finals-drained Drained comes = refl
finals-drained _ comes = cc

all-none : (s t w q e f p o : ℕ) → s ≡ 0 → t ≡ 0 → w ≡ 0 → q ≡ 0 → e ≡ 0 → f ≡ 0 → p ≡ 0 → o ≡ 0 → s + t + w + (4 * q + 3 * e + 2 * f) + p + o ≡ 0
all-none s t w q e f p o a b c d g i j k = omega (arith, a, b, c, d, g, i, j, k)

finals-places : (h : Hub) → HubSound h → hub_move h ≡ None → is_spent h ≡ true → is_some (stage_after h.stage host.Finals) && is_none h.standing ≡ true
    → reserved_history (staged host.Finals h) ≡ 0
finals-places h s none spent may =
    let here : h.stage ≡ Drained = finals-drained h.stage (and-left _ (is_none h.standing) may) in
    let late : is_past_drain h.stage ≡ true = ap is_past_drain here in
    let left = spent-parts h spent in
    all-none (stage_places (staged host.Finals h).stage) (length (threads_left h)) (length (workers_left h)) (length h.pool.queued) (length h.pool.executions) (length h.pool.finished)
    (sum_by function_places h.functions) (one_if (is_some h.standing))
    (ap (λ t. stage_places (unwrap_or (stage_after t host.Finals) t)) here) left.0 left.1 (ap length (s.pool.none late)) left.2 (ap length (none-finished h s none))
    (no-places 1 h.functions (subst (λ b. AreSoundFrom b 1 h.functions) late s.functions) (no-move (first_completion h.pool) (first_move h.functions) none))
    (alone h.standing (and-right (is_some (stage_after h.stage host.Finals)) (is_none h.standing) may))
  where
    alone : (o : Option DueInfo) → is_none o ≡ true → one_if (is_some o) ≡ 0
    alone None is = refl
    alone (Some d) is = cc

-- so it is from then on
record FinalsCame (h : Hub) (x : Entry) (n : Hub) : Type 0 where
  pub is : x.what ≡ what.Host host.Finals
  pub hub : n ≡ staged host.Finals h
  pub may : is_some (stage_after h.stage host.Finals) && is_none h.standing ≡ true

abbrev is_ending : HostStep → Bool
is_ending host.Finals = true
is_ending _ = false

not-final : (s : Stage) (event : HostStep) → is_ending event ≡ false → is_some (stage_after s event) ≡ true → unwrap_or (stage_after s event) s ≡ Final → ⊥
not-final Before host.Go other comes final = cc
not-final Live host.LoopEnd other comes final = cc
not-final LoopEnded host.Abandon other comes final = cc
not-final LoopEnded host.Drain other comes final = cc
not-final HooksAbandoned host.Drain other comes final = cc
not-final Drained host.Finals other comes final = cc
not-final _ _ other comes final = cc

kept-final : (h : Hub) (x : Entry) (told : Out) (n : Hub) → HubCase h x told n → n.stage ≡ Final → (h.stage ≡ Final) ⊎ FinalsCame h x n
kept-final h x told _ (comes_to_finals is may) final = inr (record { is = is; hub = refl; may = may })
kept-final h x told _ (goes is may) final = absurd (not-final h.stage host.Go refl (and-left _ (is_none h.standing) may) final)
kept-final h x told _ (abandons is may still) final = absurd (not-final h.stage host.Abandon refl (and-left _ (is_none h.standing) may) final)
kept-final h x told _ (ends_loop is may) final = absurd (not-final h.stage host.LoopEnd refl (and-left _ (is_none h.standing) may) final)
kept-final h x told _ (drains is may) final = absurd (not-final h.stage host.Drain refl (and-left _ (is_none h.standing) may) final)
kept-final h x told _ (delivers d is next alone) final = inl (sym (duty-stage d.duty h) ∙ final)
kept-final h x told _ _ final = inl final

pub spent-holds : (h : Hub) (x : Entry) (told : Out) (n : Hub) → HubSound h → (x.what ≡ what.Host host.Finals → (hub_move h ≡ None) × (is_spent h ≡ true))
    → (h.stage ≡ Final → reserved_history h ≡ 0) → HubCase h x told n → n.stage ≡ Final → reserved_history n ≡ 0
spent-holds h x told n s finals before case final =
    elim (kept-final h x told n case final) [
      | inl here ↦ no-more (reserved_history n) (reserved_history h)
          (late-room (is_past_drain h.stage) h x told n (ap is_past_drain here) (ap has_loop_ended here) s.functions case) (before here)
      | inr came ↦ let spent = finals came.is in ap reserved_history came.hub ∙ finals-places h s spent.0 spent.1 came.may
    ]
  where
    no-more : (a b : ℕ) → a ≤ b → b ≡ 0 → a ≡ 0
    no-more a b le none = omega (arith, le, none)
