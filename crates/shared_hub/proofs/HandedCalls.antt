-- What a shared call of the environment and a call of a thread leave of the fields.
use Rattle.std.proofs.Common.{◌≡◌, ◌∙◌, ◌≤◌, inl, ℕ, ◌+◌, ◌==◌, ◌&&◌, ◌||◌, Bool, true, false, not, IsTrue, nat_lt, List, length, refl, ap, sym, subst, arith, Option, Some, None, is_some, is_none, option_map}
use Rattle.napi_types.specs.declared.call.Call.{Call}
use Rattle.napi_types.specs.declared.call.Call.TheVariants as call
use Rattle.napi_types.specs.declared.call.Mode.{Mode}
use Rattle.napi_types.specs.declared.call.Mode.TheVariants as mode
use Rattle.napi_types.specs.declared.entry.Actor.{Actor}
use Rattle.napi_types.specs.declared.entry.Actor.TheVariants as actor
use Rattle.napi_types.specs.declared.entry.Entry.{Entry}
use Rattle.napi_types.specs.declared.entry.Given.{Given}
use Rattle.napi_types.specs.declared.entry.Out.TheVariants as out
use Rattle.napi_types.specs.declared.entry.Reply.{Reply}
use Rattle.napi_types.specs.declared.entry.SharedCall.{SharedCall}
use Rattle.napi_types.specs.declared.status.Status.{Status}
use Rattle.napi_types.specs.environment.SharedCalls.{handed_entry}
use Rattle.napi_types.specs.plain.Guards.{is_shared, is_growing}
use Rattle.napi_types.specs.plain.Replies.{plain}
use Rattle.napi_types.specs.plain.Room.{need}
use Rattle.napi_types.specs.parts.Functions.{FunctionState, is_open, is_full_queue, call_status}
use Rattle.napi_types.specs.parts.Pool.{WorkPool}
use Rattle.napi_types.specs.hub.GivenSteps.{has_loop_ended, fits_stage, is_fresh_work, work_number, answer_unless_given}
use Rattle.napi_types.specs.hub.HistoryRoom.{reserved_history}
use Rattle.napi_types.specs.hub.Hub.{Hub, Stage, Before, Live, LoopEnded, HooksAbandoned, Drained, Final, new_hub, is_past_drain}
use Rattle.napi_types.specs.hub.HubCalls.{hub_answer, tsfn_at, call_answer, called_answer, is_thread_call}
use Rattle.napi_types.specs.hub.HubStep.{answered_step}
use Rattle.napi_types.specs.hub.ThreadSteps.{is_thread_there, nothing_given}
use Rattle.napi_types.proofs.plain.Conditions.{and-both}
use Rattle.napi_types.proofs.hub.ClosingPools.{pools-close-at-the-drain}
use Rattle.shared_hub.specs.declared.naming.Numbers.{Numbers}
use Rattle.shared_hub.specs.declared.progress.HubProgress.{HubProgress}
use Rattle.shared_hub.specs.HubParts.{HubParts, hub_with, AnswersWith, MustWait, MayQueue, IsMakeable, WouldAccept}
use Rattle.shared_hub.specs.HubStates.{led_by, hub_seen, hub_room}
use Rattle.shared_hub.specs.KeptHubs.{IsKeptHistory, AreFieldsOf}
use Rattle.shared_hub.specs.SharedTries.{given_by, is_making_function, NamesTarget, IsHeldAtFirst, RepliesBy, RepliesTo, thread_entry, MayFindNoMemory}
use Rattle.shared_hub.proofs.EventSteps.{hub-of_fields}
use Rattle.shared_hub.proofs.HubHistories.{ComesNext, comes-by, leads}

-- THE ENVIRONMENT
-- a call that the environment refuses leaves the hub as it was
refused-comes : (h : Hub) (s : SharedCall) (r : Status) → IsTrue (is_shared s.call) → IsTrue (fits_stage h.stage s.call s.refused) → s.refused ≡ Some r
    → ComesNext h (handed_entry s (plain r out.Nothing)) h
refused-comes h s r shared timely is =
    let x : Entry = handed_entry s (plain r out.Nothing) in
    comes-by h x (record { entry = x; after = h; may = is_shared s.call && fits_stage h.stage s.call s.refused && true })
    (ap (λ o. answered_step h x (is_shared s.call && fits_stage h.stage s.call s.refused && true) (answer_unless_given h (given_by s) s.call 0 o)) is)
    refl (and-both _ true (and-both _ _ shared timely) refl)

-- one that it does not refuse is answered
answered-comes : (h : Hub) (s : SharedCall) (r : Reply) (left : Hub) → IsTrue (is_shared s.call) → IsTrue (fits_stage h.stage s.call s.refused)
    → s.refused ≡ None
    → hub_answer h actor.Env (given_by s) s.call (work_number r.out) ≡ Some (record { reply = r; after = left }) → is_fresh_work h r.out ≡ true
    → ComesNext h (handed_entry s r) left
answered-comes h s r left shared timely is told fresh =
    let x : Entry = handed_entry s r in
    let may : Bool = is_shared s.call && fits_stage h.stage s.call s.refused && is_fresh_work h r.out in
    comes-by h x (record { entry = x; after = left; may = may })
    (ap (λ o. answered_step h x may (answer_unless_given h (given_by s) s.call (work_number r.out) o)) is ∙ ap (answered_step h x may) told)
    refl (and-both _ _ (and-both _ _ shared timely) fresh)

-- the hub that has the works and functions before the call has those after it
pub shared-comes : (h : Hub) (s : SharedCall) (r : Reply) (parts new : HubParts) (p : HubProgress) → AreFieldsOf h parts p → IsTrue (is_shared s.call)
    → IsTrue (fits_stage h.stage s.call s.refused) → RepliesTo parts s r new → ComesNext h (handed_entry s r) (hub_with new h)
shared-comes h s r parts new p f shared timely replies = by s.refused refl replies
  where
    same : hub_with parts h ≡ h
    same = hub-of_fields h parts p f

    by : (o : Option Status) → s.refused ≡ o → RepliesBy o parts s r new → ComesNext h (handed_entry s r) (hub_with new h)
    by None is answers =
        answered-comes h s r (hub_with new h) shared timely is
        (subst (λ (g : Hub). hub_answer g actor.Env (given_by s) s.call (work_number r.out) ≡ Some (record { reply = r; after = hub_with new h })) same (answers.answer h))
        (subst (λ (g : Hub). is_fresh_work g r.out ≡ true) same (answers.fresh h))
    by (Some status) is refuses =
        subst (λ q. ComesNext h (handed_entry s q) (hub_with new h)) (sym refuses.0)
        (subst (λ (g : Hub). ComesNext h (handed_entry s (plain status out.Nothing)) g) (sym (ap (λ q. hub_with q h) refuses.1 ∙ same)) (refused-comes h s status shared timely is))

-- THREADS
-- the number that a call newly gives is not read by the calls of threads
no-number : (h : Hub) (who : Actor) (g : Given) (c : Call) (n : ℕ) → is_thread_call c ≡ true → hub_answer h who g c n ≡ hub_answer h who g c 0
no-number h who g (call.CallThreadsafeFunction f payload m) n is = refl
no-number h who g (call.AcquireThreadsafeFunction f) n is = refl
no-number h who g (call.ReleaseThreadsafeFunction f m) n is = refl
no-number h who g _ n is = cc

pub thread-comes : (h : Hub) (t step : ℕ) (c : Call) (r : Reply) (parts new : HubParts) (p : HubProgress) → AreFieldsOf h parts p → IsTrue (is_thread_call c)
    → IsTrue (is_thread_there h t) → AnswersWith parts (actor.Thread t) nothing_given c r new → ComesNext h (thread_entry t step c r) (hub_with new h)
thread-comes h t step c r parts new p f calls there answers =
    let x : Entry = thread_entry t step c r in
    let told : hub_answer h (actor.Thread t) nothing_given c 0 ≡ Some (record { reply = r; after = hub_with new h }) =
    sym (no-number h (actor.Thread t) nothing_given c (work_number r.out) calls)
    ∙ subst (λ (g : Hub). hub_answer g (actor.Thread t) nothing_given c (work_number r.out) ≡ Some (record { reply = r; after = hub_with new h })) (hub-of_fields h parts p f) (answers.answer h) in
    comes-by h x (record { entry = x; after = hub_with new h; may = is_thread_there h t && is_thread_call c })
    (ap (answered_step h x (is_thread_there h t && is_thread_call c)) told) refl (and-both _ _ there calls)

pub thread-waits : (h : Hub) (t : ℕ) (c : Call) (parts new : HubParts) (p : HubProgress) → AreFieldsOf h parts p → MustWait parts (actor.Thread t) nothing_given c new
    → hub_answer h (actor.Thread t) nothing_given c 0 ≡ None
thread-waits h t c parts new p f waits =
    subst (λ (g : Hub). hub_answer g (actor.Thread t) nothing_given c 0 ≡ None) (hub-of_fields h parts p f) (waits.none h)

-- the calls of threads queue no work and make no function
pub thread-queues-none : (c : Call) (p : HubParts) → is_thread_call c ≡ true → MayQueue c p
thread-queues-none (call.CallThreadsafeFunction f payload m) p is = tt
thread-queues-none (call.AcquireThreadsafeFunction f) p is = tt
thread-queues-none (call.ReleaseThreadsafeFunction f m) p is = tt
thread-queues-none _ p is = cc

pub thread-makes-none : (g : Given) (c : Call) → is_thread_call c ≡ true → IsMakeable g c
thread-makes-none g (call.CallThreadsafeFunction f payload m) is = tt
thread-makes-none g (call.AcquireThreadsafeFunction f) is = tt
thread-makes-none g (call.ReleaseThreadsafeFunction f m) is = tt
thread-makes-none g _ is = cc

-- THE ENVIRONMENT NEVER WAITS
never-waits : (h : Hub) (payload : ℕ) (m : Mode) (o : Option FunctionState) → call_answer h actor.Env payload m o ≡ None → ⊥
never-waits h payload m None none = cc
never-waits h payload m (Some f) none = by (f.count == 0) (is_open f.state) (is_full_queue f) m refl refl refl none
  where
    by : (a b c : Bool) (m : Mode) → (f.count == 0) ≡ a → is_open f.state ≡ b → is_full_queue f ≡ c → option_map (called_answer h payload f) (call_status actor.Env m f) ≡ None → ⊥
    by true b c m zero opened full none = let no = rw zero at none in cc
    by false false c m zero opened full none = let no = rw (zero, opened) at none in cc
    by false true false m zero opened full none = let no = rw (zero, opened, full) at none in cc
    by false true true mode.Blocking zero opened full none = let no = rw (zero, opened, full) at none in cc
    by false true true mode.Nonblocking zero opened full none = let no = rw (zero, opened, full) at none in cc

pub env-never-waits : (old new : HubParts) (g : Given) (c : Call) → is_shared c ≡ true → MustWait old actor.Env g c new → ⊥
env-never-waits old new g c shared waits = by c shared (waits.none (new_hub 0 0))
  where
    by : (c : Call) → is_shared c ≡ true → hub_answer (hub_with old (new_hub 0 0)) actor.Env g c 0 ≡ None → ⊥
    by (call.CreateAsyncWork job entry payload) shared none = cc
    by (call.DeleteAsyncWork w) shared none = cc
    by (call.CancelAsyncWork w) shared none = cc
    by (call.QueueAsyncWork w) shared none = cc
    by (call.CreateThreadsafeFunction f entry maximum count finalizer context) shared none = cc
    by (call.CallThreadsafeFunction f payload m) shared none = never-waits (hub_with old (new_hub 0 0)) payload m
        (tsfn_at (hub_with old (new_hub 0 0)) f.0) none
    by (call.AcquireThreadsafeFunction f) shared none = cc
    by (call.ReleaseThreadsafeFunction f m) shared none = cc
    by (call.RefThreadsafeFunction f) shared none = cc
    by (call.UnrefThreadsafeFunction f) shared none = cc
    by (call.GetThreadsafeFunctionContext f) shared none = cc
    by _ shared none = cc

-- WHAT IS HANDED OVER
-- a work is queued only before the loop ends, and so only while works may start
pub timely-queues : (stage : Stage) (c : Call) (p : HubParts) → p.pool.closing ≡ is_past_drain stage → IsTrue (fits_stage stage c None) → MayQueue c p
timely-queues stage (call.QueueAsyncWork w) p closes timely = closes ∙ by stage timely
  where
    by : (s : Stage) → IsTrue (not (has_loop_ended s && true) || false) → is_past_drain s ≡ false
    by Before t = refl
    by Live t = refl
    by LoopEnded t = refl
    by HooksAbandoned t = refl
    by Drained t = cc
    by Final t = cc
timely-queues stage (call.CreateAsyncWork job entry payload) p closes timely = tt
timely-queues stage (call.DeleteAsyncWork w) p closes timely = tt
timely-queues stage (call.CancelAsyncWork w) p closes timely = tt
timely-queues stage _ p closes timely = tt

pub handed-makeable : (s : SharedCall) → NamesTarget s → s.refused ≡ None → (s.refused ≡ None → IsHeldAtFirst s.call) → IsMakeable (given_by s) s.call
handed-makeable s names none held = by s.call (names ∙ ap (λ o. is_making_function s.call && is_none o) none) (held none)
  where
    by : (c : Call) → is_some s.target ≡ (is_making_function c && true) → IsHeldAtFirst c → IsMakeable (given_by s) c
    by (call.CreateThreadsafeFunction f entry maximum count finalizer context) target first = (target, first)
    by _ target first = tt

pub led-queues : (n : Numbers) (history : List Entry) (limit capacity : ℕ) (parts : HubParts) (p : HubProgress) (s : SharedCall) → IsKeptHistory n history limit capacity
    → AreFieldsOf (led_by n history) parts p → s.refused ≡ None → IsTrue (fits_stage (led_by n history).stage s.call s.refused) → MayQueue s.call parts
led-queues n history limit capacity parts p s k f none timely =
    let h : Hub = led_by n history in
    timely-queues h.stage s.call parts
    (sym (ap (λ (q : WorkPool). q.closing) f.pool) ∙ pools-close-at-the-drain n.limits.history n.threads n.workers history h (leads n history limit capacity k))
    (subst (λ o. IsTrue (fits_stage h.stage s.call o)) none timely)

-- WHERE NO MEMORY IS FOUND
not-full : (limit a b : ℕ) → a + b ≤ limit → nat_lt limit (a + b) ≡ false
not-full limit a b le = grind arith

pub finds-none : (n : Numbers) (history : List Entry) (limit capacity : ℕ) (parts : HubParts) (p : HubProgress) (who : Actor) (g : Given) (c : Call) → IsKeptHistory n history limit capacity
    → AreFieldsOf (led_by n history) parts p → length history + reserved_history (led_by n history) + need c ≤ limit → is_growing c ≡ true → g.refused ≡ None
    → ((h : Hub) → WouldAccept (hub_with parts h) who g c) → MayFindNoMemory (hub_room n (hub_seen n history)) (led_by n history) who g c
finds-none n history limit capacity parts p who g c k f fits grows unrefused accepted = record {
  fits = not-full n.limits.history (length history + reserved_history (led_by n history)) (need c) (subst (λ b. length history + reserved_history (led_by n history) + need c ≤ b) k.limit_is fits);
  wants = inl (record {
    grows = grows;
    unrefused = unrefused;
    accepted = subst (λ (h : Hub). WouldAccept h who g c) (hub-of_fields (led_by n history) parts p f) (accepted (led_by n history));
  });
}
