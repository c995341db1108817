-- What a thread does next, by its script and by the hub.
use Rattle.std.proofs.Common.{◌≡◌, ◌∙◌, ◌⊎◌, inl, inr, ◌<◌, ◌≤◌, ℕ, zero, suc, ◌+◌, true, false, not, Bool, cond, ◌&&◌, nat_lt, min, List, [], ◌∷◌, length, drop, get_or, slice_get, IsTrue, refl, ap, sym, subst, arith, Option, Some, None, is_none}
use Rattle.std.specs.List.{All, cons_option}
use Rattle.std.proofs.lemmas.Bool.Decides.{nat_tests}
use Rattle.std.proofs.lemmas.Bool.{or_left, or_right}
use Rattle.std.proofs.lemmas.List.Elements.{All-head, All-tail}
use Rattle.std.proofs.lemmas.Option.{slice_get-get_or}
use Rattle.napi_types.specs.declared.call.Ask.TheVariants as ask
use Rattle.napi_types.specs.declared.call.Call.{Call}
use Rattle.napi_types.specs.declared.call.Call.TheVariants as call
use Rattle.napi_types.specs.declared.entry.Actor.{Actor}
use Rattle.napi_types.specs.declared.entry.Actor.TheVariants as actor
use Rattle.napi_types.specs.declared.entry.Entry.{Entry}
use Rattle.napi_types.specs.declared.entry.Given.{Given}
use Rattle.napi_types.specs.declared.entry.HostStep.TheVariants as host
use Rattle.napi_types.specs.declared.entry.Out.TheVariants as out
use Rattle.napi_types.specs.declared.entry.Reply.{Reply}
use Rattle.napi_types.specs.declared.entry.What.TheVariants as what
use Rattle.napi_types.specs.declared.entry.Why.{Why}
use Rattle.napi_types.specs.declared.entry.Why.TheVariants as why
use Rattle.napi_types.specs.declared.op.Op.{Op}
use Rattle.napi_types.specs.declared.op.Op.TheVariants as op
use Rattle.napi_types.specs.declared.status.Status.{Status}
use Rattle.napi_types.specs.declared.status.Status.TheVariants as status
use Rattle.napi_types.specs.plain.Guards.{is_growing}
use Rattle.napi_types.specs.plain.Lists.{has_number, tail}
use Rattle.napi_types.specs.plain.Room.{Room, need, first_places, is_full, may_want_memory}
use Rattle.napi_types.specs.scripts.Registers.{operation_ask, blank_registers}
use Rattle.napi_types.specs.hub.ActorLaws.{ThreadStands}
use Rattle.napi_types.specs.hub.Actors.{is_thread, asked_call, thread_calls, EndsThread, IsNextOfThread, left_after}
use Rattle.napi_types.specs.hub.HistoryRoom.{history_room}
use Rattle.napi_types.specs.hub.Hub.{Hub, new_hub, threads_left}
use Rattle.napi_types.specs.hub.HubStep.{actor_told}
use Rattle.napi_types.specs.hub.HubSteps.{hub_step, hub_along}
use Rattle.napi_types.specs.hub.Replays.{HubReplays}
use Rattle.napi_types.specs.hub.HubCalls.{hub_answer, is_thread_call}
use Rattle.napi_types.specs.hub.ThreadSteps.{is_gone_on, is_thread_there, nothing_given}
use Rattle.napi_types.proofs.plain.Conditions.{and-both}
use Rattle.napi_types.proofs.plain.Found.{same-self}
use Rattle.napi_types.proofs.hub.ActorsGoOn.{threads-go-on}
use Rattle.napi_types.proofs.hub.ThreadEnds.{step-threads, ended-threads-left}
use Rattle.napi_types.proofs.hub.WhoIsLeft.{left-unless}
use Rattle.shared_hub.specs.HubStates.{HubSeen, AddsEntry, hub_room}
use Rattle.shared_hub.specs.KeptHubs.{IsLedHub}
use Rattle.shared_hub.specs.SharedTries.{thread_entry, actor_end_told, MayFindNoMemory, GrowsAccepted}
use Rattle.shared_hub.specs.declared.naming.Numbers.{Numbers}
use Rattle.env_loop.specs.ActorRuns.{IsOperationOfThread, ThreadSeen, calls_left, IsThreadOf, NextWaits, ThreadBlocked, StoppedAt}

-- THE SCRIPT
-- an operation of a thread asks for its call
of-thread : (o : Op) → IsOperationOfThread o → (c : Call) × (operation_ask o blank_registers ≡ ask.Do c)
of-thread (op.ThreadCall f payload m) is = (call.CallThreadsafeFunction (record { 0 = f }) payload m, refl)
of-thread (op.ThreadAcquire f) is = (call.AcquireThreadsafeFunction (record { 0 = f }), refl)
of-thread (op.ThreadRelease f m) is = (call.ReleaseThreadsafeFunction (record { 0 = f }) m, refl)
of-thread _ is = absurd is

calls-cons : (o : Op) (ops : List Op) (c : Call) → operation_ask o blank_registers ≡ ask.Do c → thread_calls (o ∷ ops) ≡ c ∷ thread_calls ops
calls-cons o ops c is = ap (λ a. cons_option (asked_call a) (thread_calls ops)) is

-- the call of the operation at a place is the next one there
call-at : (ops : List Op) (k : ℕ) (o : Op) (c : Call) → All IsOperationOfThread ops → slice_get ops k ≡ Some o → operation_ask o blank_registers ≡ ask.Do c
    → drop k (thread_calls ops) ≡ c ∷ drop (suc k) (thread_calls ops)
call-at [] k o c all at is = cc
call-at (p ∷ ops) zero o c all at is =
    let same : p ≡ o = cc in
    let prefix : thread_calls (p ∷ ops) ≡ c ∷ thread_calls ops = calls-cons p ops c (ap (λ q. operation_ask q blank_registers) same ∙ is) in
    prefix ∙ sym (ap (λ cs. c ∷ drop 1 cs) prefix)
call-at (p ∷ ops) (suc k) o c all at is =
    let t : (d : Call) × (operation_ask p blank_registers ≡ ask.Do d) = of-thread p (All-head IsOperationOfThread p ops all) in
    let prefix : thread_calls (p ∷ ops) ≡ t.0 ∷ thread_calls ops = calls-cons p ops t.0 t.1 in
    ap (drop (suc k)) prefix ∙ call-at ops k o c (All-tail IsOperationOfThread p ops all) at is ∙ sym (ap (λ cs. c ∷ drop (suc (suc k)) cs) prefix)

pub next-call : (ops : List Op) (k : ℕ) (o : Op) (c : Call) → All IsOperationOfThread ops → k < length ops → o ≡ get_or ops k o
    → operation_ask o blank_registers ≡ ask.Do c → drop k (thread_calls ops) ≡ c ∷ drop (k + 1) (thread_calls ops)
next-call ops k o c all inside at is =
    call-at ops k o c all (slice_get-get_or ops k o inside ∙ ap (λ q. Some q) (sym at)) is ∙ ap (λ m. c ∷ drop m (thread_calls ops)) (next k)
  where
    next : (k : ℕ) → suc k ≡ k + 1
    next k = omega arith

-- none is left past the last operation
pub no-call : (ops : List Op) (k : ℕ) → All IsOperationOfThread ops → length ops ≤ k → drop k (thread_calls ops) ≡ []
no-call [] zero all past = refl
no-call [] (suc k) all past = refl
no-call (p ∷ ops) zero all past = absurd (omega (arith, past))
no-call (p ∷ ops) (suc k) all past =
    let t : (d : Call) × (operation_ask p blank_registers ≡ ask.Do d) = of-thread p (All-head IsOperationOfThread p ops all) in
    ap (drop (suc k)) (calls-cons p ops t.0 t.1) ∙ no-call ops k (All-tail IsOperationOfThread p ops all) (omega (arith, past))

-- THE HUB
pub along-threads : (limit n : ℕ) (h : Hub) (xs : List Entry) → HubReplays limit h n xs → (hub_along h xs).threads ≡ h.threads
along-threads limit n h [] replays = refl
along-threads limit n h (x ∷ xs) replays = along-threads limit (n + 1) (hub_step h x).after xs replays.2 ∙ step-threads h x replays.0.may

-- a thread that has not ended is left after `go`
pub thread-there : (n : Numbers) (s : HubSeen) (t : ThreadSeen) → IsLedHub n s → IsThreadOf n s t → t.over ≡ false → is_gone_on s.hub.stage ≡ true
    → IsTrue (is_thread_there s.hub t.number)
thread-there n s t k of here live =
    and-both (is_gone_on s.hub.stage) (has_number t.number (threads_left s.hub)) live
    (left-unless s.hub.threads t.number s.hub.ended_threads (subst (λ c. t.number < c) (sym count) of.there) ∙ ap not unended)
  where
    count : s.hub.threads ≡ n.threads
    count = ap (λ (h : Hub). h.threads) (sym k.led.hub) ∙ along-threads n.limits.history 0 (new_hub n.threads n.workers) s.history k.led.replays

    left : is_none (calls_left t) ≡ false
    left = ap (λ b. is_none (cond b None (Some (drop t.made (thread_calls t.operations))))) here

    unended : has_number t.number s.hub.ended_threads ≡ false
    unended = sym (ended-threads-left n.limits.history n.threads n.workers t.number (thread_calls t.operations) s.history s.hub k.led)
        ∙ ap is_none of.stands.left_is ∙ left

-- ITS ENTRIES
module _ (n : Numbers) (s new : HubSeen) (number made : ℕ) (ops : List Op) (k : IsLedHub n s)
    (of : IsThreadOf n s (record { number = number; operations = ops; made = made; over = false })) where
  goes-on : (x : Entry) → AddsEntry s x new → x.actor ≡ actor.Thread number
      → IsNextOfThread (hub_room n s) (made + 0) (Some (drop made (thread_calls ops))) x x.what
      → ThreadStands n.limits.history n.threads n.workers number (thread_calls ops) new.history (made + 0 + 1) (left_after (Some (drop made (thread_calls ops))) x.what)
  goes-on x adds by next =
      subst (λ xs. ThreadStands n.limits.history n.threads n.workers number (thread_calls ops) xs (made + 0 + 1) (left_after (Some (drop made (thread_calls ops))) x.what)) (sym adds.history)
      (threads-go-on n.limits.history n.threads n.workers number (made + 0) (thread_calls ops) (Some (drop made (thread_calls ops))) s.history x of.stands
      (ap (is_thread number) by ∙ same-self number)
      (subst (λ (h : Hub). IsNextOfThread (history_room h (length s.history) n.limits.history) (made + 0) (Some (drop made (thread_calls ops))) x x.what) (sym k.led.hub) next))

  -- its next call
  pub makes-call : (c : Call) (r : Reply) → drop made (thread_calls ops) ≡ c ∷ drop (made + 1) (thread_calls ops) → AddsEntry s (thread_entry number made c r) new
      → IsThreadOf n new (record { number = number; operations = ops; made = made + 1; over = false })
  makes-call c r next adds =
      let x : Entry = thread_entry number made c r in
      let stands : ThreadStands n.limits.history n.threads n.workers number (thread_calls ops) new.history (made + 0 + 1) (Some (tail (drop made (thread_calls ops)))) =
      goes-on x adds refl
      (subst (λ cs. IsNextOfThread (hub_room n s) (made + 0) (Some cs) x (what.Call c)) (sym next) (refl, plus made)) in
      record {
        there = of.there;
        stands = record {
          keeps = stands.keeps;
          made_is = stands.made_is ∙ turn made;
          left_is = stands.left_is ∙ ap (λ cs. Some (tail cs)) next;
        };
      }
    where
      plus : (m : ℕ) → m ≡ m + 0
      plus m = omega arith

      turn : (m : ℕ) → m + 0 + 1 ≡ m + 1 + 0
      turn m = omega arith

  -- its end
  ends-next : (left : List Call) (x : Entry) → EndsThread (hub_room n s) left x.reply.out → IsNextOfThread (hub_room n s) (made + 0) (Some left) x (what.Host host.ActorEnd)
  ends-next [] x ends = ends
  ends-next (c ∷ later) x ends = ends

  pub makes-end : (cut : Option Why) → EndsThread (hub_room n s) (drop made (thread_calls ops)) (actor_end_told cut)
      → AddsEntry s (actor_told (actor.Thread number) host.ActorEnd (actor_end_told cut)) new
      → IsThreadOf n new (record { number = number; operations = ops; made = made; over = true })
  makes-end cut ends adds =
      let x : Entry = actor_told (actor.Thread number) host.ActorEnd (actor_end_told cut) in
      let stands : ThreadStands n.limits.history n.threads n.workers number (thread_calls ops) new.history (made + 0 + 1) None =
      goes-on x adds refl (ends-next (drop made (thread_calls ops)) x ends) in
      record { there = of.there; stands = record { keeps = stands.keeps; made_is = stands.made_is ∙ turn made; left_is = stands.left_is } }
    where
      turn : (m : ℕ) → m + 0 + 1 ≡ m + 1
      turn m = omega arith

-- A CALL THAT STOPS
wants : (r : Room) (h : Hub) (who : Actor) (g : Given) (c : Call) → MayFindNoMemory r h who g c → may_want_memory r c ≡ true
wants r h who g c m = by m.wants
  where
    past : (a b : ℕ) → a < b → nat_lt a b ≡ true
    past a b lt = grind (arith, nat_tests)

    by : GrowsAccepted h who g c ⊎ (min first_places r.limit < r.occupied + need c) → may_want_memory r c ≡ true
    by (inl grows) = or_left (is_growing c) _ grows.grows
    by (inr lt) = or_right (is_growing c) _ (past (min first_places r.limit) (r.occupied + need c) lt)

-- it is cut with the cause for which the call stopped
pub stops-so : (r : Room) (h : Hub) (who : Actor) (g : Given) (c : Call) (later : List Call) (s : Status) (w : Why) → (s ≡ status.TraceFull) ⊎ (s ≡ status.NoMemory)
    → (s ≡ status.TraceFull → IsTrue (is_full r c)) → (s ≡ status.NoMemory → MayFindNoMemory r h who g c)
    → (s ≡ status.TraceFull → w ≡ why.Full) → (s ≡ status.NoMemory → w ≡ why.Memory) → EndsThread r (c ∷ later) (actor_end_told (Some w))
stops-so r h who g c later s w (inl is) full memory cut_full cut_memory =
    (ap (λ v. out.Cut v) (cut_full is ∙ sym (ap (λ b. cond b why.Full why.Memory) (full is))), or_left (is_full r c) _ (full is))
stops-so r h who g c later s w (inr is) full memory cut_full cut_memory =
    (ap (λ v. out.Cut v) (cut_memory is ∙ sym (ap (λ b. cond b why.Full why.Memory) (memory is).fits)), or_right (is_full r c) _ (wants r h who g c (memory is)))

-- A CALL THAT WAITS
pub waits-here : (r : Room) (h : Hub) (t : ThreadSeen) (c : Call) (later : List Call) → t.over ≡ false → drop t.made (thread_calls t.operations) ≡ c ∷ later
    → is_thread_call c ≡ true → (is_full r c ≡ true → ⊥) → hub_answer h (actor.Thread t.number) nothing_given c 0 ≡ None → ThreadBlocked r h t
waits-here r h t c later here next kind room none =
    inr (subst (λ b. NextWaits r h t.number (cond b None (Some (drop t.made (thread_calls t.operations))))) (sym here)
    (subst (λ cs. NextWaits r h t.number (Some cs)) (sym next)
    (not-true (is_full r c) room, ap (λ b. b && is_none (hub_answer h (actor.Thread t.number) nothing_given c 0)) kind ∙ ap is_none none)))
  where
    not-true : (b : Bool) → (b ≡ true → ⊥) → b ≡ false
    not-true true never = absurd (never refl)
    not-true false never = refl

-- WHY IT WAS STOPPED
-- where no call was left it was stopped at none, ..
pub none-stopped : (r : Room) (h : Hub) (t : ThreadSeen) → t.over ≡ false → drop t.made (thread_calls t.operations) ≡ [] → StoppedAt r h t.number (calls_left t)
none-stopped r h t here none =
    subst (λ b. StoppedAt r h t.number (cond b None (Some (drop t.made (thread_calls t.operations))))) (sym here)
    (subst (λ cs. StoppedAt r h t.number (Some cs)) (sym none) tt)

-- .. and else at the next one, as the hub says
pub stopped-at : (r : Room) (h : Hub) (t : ThreadSeen) (c : Call) (later : List Call) (s : Status) → t.over ≡ false → drop t.made (thread_calls t.operations) ≡ c ∷ later
    → (s ≡ status.TraceFull) ⊎ (s ≡ status.NoMemory) → (s ≡ status.TraceFull → IsTrue (is_full r c))
    → (s ≡ status.NoMemory → MayFindNoMemory r h (actor.Thread t.number) nothing_given c) → StoppedAt r h t.number (calls_left t)
stopped-at r h t c later s here next cause full memory =
    subst (λ b. StoppedAt r h t.number (cond b None (Some (drop t.made (thread_calls t.operations))))) (sym here)
    (subst (λ cs. StoppedAt r h t.number (Some cs)) (sym next) (by cause))
  where
    by : (s ≡ status.TraceFull) ⊎ (s ≡ status.NoMemory) → IsTrue (is_full r c) ⊎ MayFindNoMemory r h (actor.Thread t.number) nothing_given c
    by (inl is) = inl (full is)
    by (inr is) = inr (memory is)
