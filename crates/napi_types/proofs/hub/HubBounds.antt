-- How much a hub holds after so many entries.
use Rattle.std.proofs.Common.{◌≡◌, ◌≤◌, ◌<◌, ℕ, ◌+◌, suc, ◌==◌, nat_lt, Bool, true, false, cond, List, [], ◌∷◌, length, length-append, ltb-true, filter, map, refl, ap, subst, arith, Option, Some, None}
use Rattle.std.proofs.lemmas.List.Elements.{All-nil, All-cons, All-head, All-tail, All-append}
use Rattle.std.proofs.lemmas.List.{length-map}
use Rattle.std.specs.List.{All}
use Rattle.napi_types.specs.declared.call.Call.{Call}
use Rattle.napi_types.specs.declared.call.Release.{Release}
use Rattle.napi_types.specs.declared.call.Release.TheVariants as release
use Rattle.napi_types.specs.declared.entry.Duty.{Duty}
use Rattle.napi_types.specs.declared.entry.Duty.TheVariants as duty
use Rattle.napi_types.specs.declared.entry.Entry.{Entry}
use Rattle.napi_types.specs.declared.entry.Out.{Out}
use Rattle.napi_types.specs.declared.status.Status.{Status}
use Rattle.napi_types.specs.declared.status.Status.TheVariants as status
use Rattle.napi_types.specs.plain.Lists.{with_number, singleton}
use Rattle.napi_types.specs.parts.Functions.{FunctionState, new_function, accepted_items, called, acquired, released, closed, finished, done, first_taken, acquire_status, release_status}
use Rattle.napi_types.specs.parts.Pool.{WorkPool, cancelled_at, number_of_work, started_from, finished_at, executed_by}
use Rattle.napi_types.specs.hub.GivenSteps.{work_number}
use Rattle.napi_types.specs.hub.HistoryLaws.{IsHubWithin, HubsAreWithin}
use Rattle.napi_types.specs.hub.Hub.{Hub, new_hub}
use Rattle.napi_types.specs.hub.HubCalls.{new_function_number}
use Rattle.napi_types.specs.hub.HubMoves.{in_tsfn, without_duty}
use Rattle.napi_types.specs.hub.HubSteps.{hub_step, hub_along}
use Rattle.napi_types.specs.hub.Replays.{HubReplays}
use Rattle.napi_types.proofs.hub.HubCases.{Alters, calls, acquires, releases, references, unreferences, HubCase, asks, creates_work, deletes_work, cancels_work, queues_work, creates_function, alters, goes, ends_loop, drains, comes_to_finals, delivers, closes, finishes, ends, thread_ends, worker_ends, starts, finishes_work, hub-case, abandons}

-- LISTS
parts-le : (n : ℕ) (ms : List ℕ) → length (filter (λ m. nat_lt m n) ms) + length (filter (λ m. nat_lt n m) ms) ≤ length ms
parts-le n [] = omega arith
parts-le n (m ∷ ms) = by (nat_lt m n) (nat_lt n m) refl refl (parts-le n ms)
  where
    by : (a b : Bool) → nat_lt m n ≡ a → nat_lt n m ≡ b → length (filter (λ k. nat_lt k n) ms) + length (filter (λ k. nat_lt n k) ms) ≤ length ms
        → length (cond a (m ∷ filter (λ k. nat_lt k n) ms) (filter (λ k. nat_lt k n) ms)) + length (cond b (m ∷ filter (λ k. nat_lt n k) ms) (filter (λ k. nat_lt n k) ms))
        ≤ suc (length ms)
    by true true p q le = let below : m < n = ltb-true m n p in let above : n < m = ltb-true n m q in omega (arith, below, above)
    by true false p q le = omega (arith, le)
    by false true p q le = omega (arith, le)
    by false false p q le = omega (arith, le)

with_number-le : (n : ℕ) (ms : List ℕ) → length (with_number n ms) ≤ length ms + 1
with_number-le n ms = omega (arith, length-append (filter (λ m. nat_lt m n) ms) (n ∷ filter (λ m. nat_lt n m) ms), parts-le n ms)

-- FUNCTIONS
abbrev AreFew : ℕ → List FunctionState → Type 0
AreFew n fs = All (λ f. accepted_items f ≤ n) fs

more-few : (n k : ℕ) → n ≤ k → (fs : List FunctionState) → AreFew n fs → AreFew k fs
more-few n k le [] few = All-nil (λ (f : FunctionState). accepted_items f ≤ k)
more-few n k le (f ∷ fs) few =
    let here : accepted_items f ≤ n = All-head (λ (g : FunctionState). accepted_items g ≤ n) f fs few in
    All-cons (λ (g : FunctionState). accepted_items g ≤ k) f fs (omega (arith, here, le)) (more-few n k le fs (All-tail (λ (g : FunctionState). accepted_items g ≤ n) f fs few))

-- a change that adds one at most
changed-few : (n k : ℕ) (change : FunctionState → FunctionState) → ((f : FunctionState) → accepted_items (change f) ≤ accepted_items f + 1) → (fs : List FunctionState) → AreFew n fs
    → AreFew (n + 1) (map (λ (f : FunctionState). cond (f.id == k) (change f) f) fs)
changed-few n k change adds [] few = All-nil (λ (f : FunctionState). accepted_items f ≤ n + 1)
changed-few n k change adds (f ∷ fs) few =
    let here : accepted_items f ≤ n = All-head (λ (g : FunctionState). accepted_items g ≤ n) f fs few in
    All-cons (λ (g : FunctionState). accepted_items g ≤ n + 1) (cond (f.id == k) (change f) f) (map (λ (g : FunctionState). cond (g.id == k) (change g) g) fs)
    (by (f.id == k) here) (changed-few n k change adds fs (All-tail (λ (g : FunctionState). accepted_items g ≤ n) f fs few))
  where
    by : (b : Bool) → accepted_items f ≤ n → accepted_items (cond b (change f) f) ≤ n + 1
    by true here = let most = adds f in omega (arith, most, here)
    by false here = omega (arith, here)

called-adds : (s : Status) (payload : ℕ) (f : FunctionState) → accepted_items (called (Some s) payload f) ≤ accepted_items f + 1
called-adds status.Ok payload f = omega (arith, length-append f.items (singleton payload))
called-adds status.Closing payload f = omega arith
called-adds _ payload f = omega arith

acquired-adds : (s : Status) (f : FunctionState) → accepted_items (acquired s f) ≤ accepted_items f + 1
acquired-adds status.Ok f = omega arith
acquired-adds _ f = omega arith

released-adds : (s : Status) (m : Release) (f : FunctionState) → accepted_items (released s m f) ≤ accepted_items f + 1
released-adds status.Ok release.Abort f = omega arith
released-adds status.Ok release.Release f = omega arith
released-adds _ m f = omega arith

alters-adds : (f g : FunctionState) (c : Call) (change : FunctionState → FunctionState) → Alters f c change → accepted_items (change g) ≤ accepted_items g + 1
alters-adds f g c _ (calls n payload m who s is) = called-adds s payload g
alters-adds f g c _ (acquires n) = acquired-adds (acquire_status f) g
alters-adds f g c _ (releases n m) = released-adds (release_status f) m g
alters-adds f g c _ (references n) = omega arith
alters-adds f g c _ (unreferences n) = omega arith

taken-adds : (f : FunctionState) → accepted_items (first_taken f) ≤ accepted_items f + 1
taken-adds f = by f.items refl
  where
    by : (items : List ℕ) → f.items ≡ items → accepted_items (first_taken f) ≤ accepted_items f + 1
    by [] is = rw is (omega arith)
    by (payload ∷ later) is = rw is (omega arith)

all_closed-few : (n : ℕ) (fs : List FunctionState) → AreFew n fs → AreFew n (map closed fs)
all_closed-few n [] few = All-nil (λ (f : FunctionState). accepted_items f ≤ n)
all_closed-few n (f ∷ fs) few =
    All-cons (λ (g : FunctionState). accepted_items g ≤ n) (closed f) (map closed fs) (All-head (λ (g : FunctionState). accepted_items g ≤ n) f fs few)
    (all_closed-few n fs (All-tail (λ (g : FunctionState). accepted_items g ≤ n) f fs few))

-- ONE ENTRY
more-within : (n : ℕ) (h : Hub) → IsHubWithin n h → IsHubWithin (n + 1) h
more-within n h w = record {
  issued = let le = w.issued in omega (arith, le);
  numbered = let le = w.numbered in omega (arith, le);
  functions = let le = w.functions in omega (arith, le);
  items = more-few n (n + 1) (omega arith) h.functions w.items;
}

-- the pool has as many ids and numbers, and the functions are as they were
same-within : (n : ℕ) (h : Hub) (p : WorkPool) → p.issued ≡ h.pool.issued → p.numbered ≡ h.pool.numbered → IsHubWithin n h → IsHubWithin (n + 1) (record h { pool = p })
same-within n h p ids numbers w = record {
  issued = let le = w.issued in omega (arith, le, ap length ids);
  numbered = let le = w.numbered in omega (arith, le, numbers);
  functions = let le = w.functions in omega (arith, le);
  items = more-few n (n + 1) (omega arith) h.functions w.items;
}

-- one function is changed
changed-within : (n k : ℕ) (h : Hub) (change : FunctionState → FunctionState) → ((f : FunctionState) → accepted_items (change f) ≤ accepted_items f + 1) → IsHubWithin n h
    → IsHubWithin (n + 1) (in_tsfn k change h)
changed-within n k h change adds w = record {
  issued = let le = w.issued in omega (arith, le);
  numbered = let le = w.numbered in omega (arith, le);
  functions = let le = w.functions in omega (arith, le, length-map h.functions (λ (f : FunctionState). cond (f.id == k) (change f) f));
  items = changed-few n k change adds h.functions w.items;
}

cancelled-ids : (o : Option ℕ) (p : WorkPool) → (cancelled_at o p).issued ≡ p.issued
cancelled-ids None p = refl
cancelled-ids (Some n) p = refl

cancelled-numbers : (o : Option ℕ) (p : WorkPool) → (cancelled_at o p).numbered ≡ p.numbered
cancelled-numbers None p = refl
cancelled-numbers (Some n) p = refl

started-ids : (ns : List ℕ) (w : ℕ) (p : WorkPool) → (started_from ns w p).issued ≡ p.issued
started-ids [] w p = refl
started-ids (n ∷ ns) w p = refl

started-numbers : (ns : List ℕ) (w : ℕ) (p : WorkPool) → (started_from ns w p).numbered ≡ p.numbered
started-numbers [] w p = refl
started-numbers (n ∷ ns) w p = refl

finished-ids : (w : ℕ) (o : Option ℕ) (p : WorkPool) → (finished_at w o p).issued ≡ p.issued
finished-ids w None p = refl
finished-ids w (Some n) p = refl

finished-numbers : (w : ℕ) (o : Option ℕ) (p : WorkPool) → (finished_at w o p).numbered ≡ p.numbered
finished-numbers w None p = refl
finished-numbers w (Some n) p = refl

duty-within : (n : ℕ) (h : Hub) (d : Duty) → IsHubWithin n h → IsHubWithin (n + 1) (without_duty d h)
duty-within n h (duty.Ticket t) w = more-within n h w
duty-within n h (duty.Work k) w = same-within n h _ refl refl w
duty-within n h (duty.Item f k) w = changed-within n f.0 h first_taken taken-adds w
duty-within n h (duty.Function f) w = changed-within n f.0 h done (λ g. omega arith) w

case-within : (n : ℕ) (h : Hub) (x : Entry) (told : Out) (g : Hub) → IsHubWithin n h → HubCase h x told g → IsHubWithin (n + 1) g
case-within n h x told _ w (asks c is shared) = more-within n h w
case-within n h x told _ w (creates_work job entry payload addon is fresh tells) = record {
  issued = let le = w.issued in let more = with_number-le (work_number x.reply.out) h.pool.issued in omega (arith, le, more);
  numbered = let le = w.numbered in omega (arith, le);
  functions = let le = w.functions in omega (arith, le);
  items = more-few n (n + 1) (omega arith) h.functions w.items;
}
case-within n h x told _ w (deletes_work k is none) = same-within n h _ refl refl w
case-within n h x told _ w (cancels_work k is none) = same-within n h _ (cancelled-ids (number_of_work h.pool k.0) h.pool) (cancelled-numbers (number_of_work h.pool k.0) h.pool) w
case-within n h x told _ w (queues_work k is none early) = record {
  issued = let le = w.issued in omega (arith, le);
  numbered = let le = w.numbered in omega (arith, le);
  functions = let le = w.functions in omega (arith, le);
  items = more-few n (n + 1) (omega arith) h.functions w.items;
}
case-within n h x told _ w (creates_function f entry maximum count finalizer context addon target is early) =
    let made : FunctionState = new_function (new_function_number h) addon target maximum count finalizer context in
    record {
      issued = let le = w.issued in omega (arith, le);
      numbered = let le = w.numbered in omega (arith, le);
      functions = let le = w.functions in omega (arith, le, length-append h.functions (singleton made));
      items = All-append (λ (f : FunctionState). accepted_items f ≤ n + 1) h.functions (singleton made) (more-few n (n + 1) (omega arith) h.functions w.items)
          (All-cons (λ (f : FunctionState). accepted_items f ≤ n + 1) made [] (omega arith) (All-nil (λ (f : FunctionState). accepted_items f ≤ n + 1)));
    }
case-within n h x told _ w (alters c k f change is there how) = changed-within n f.id h change (λ g. alters-adds f g c change how) w
case-within n h x told _ w (goes is may) = let k = more-within n h w in record { issued = k.issued; numbered = k.numbered; functions = k.functions; items = k.items }
case-within n h x told _ w (abandons is may still) = let k = more-within n h w in record { issued = k.issued; numbered = k.numbered; functions = k.functions; items = k.items }
case-within n h x told _ w (ends_loop is may) = let k = more-within n h w in record { issued = k.issued; numbered = k.numbered; functions = k.functions; items = k.items }
case-within n h x told _ w (drains is may) = record {
  issued = let le = w.issued in omega (arith, le);
  numbered = let le = w.numbered in omega (arith, le);
  functions = let le = w.functions in omega (arith, le, length-map h.functions closed);
  items = more-few n (n + 1) (omega arith) (map closed h.functions) (all_closed-few n h.functions w.items);
}
case-within n h x told _ w (comes_to_finals is may) = let k = more-within n h w in record { issued = k.issued; numbered = k.numbered; functions = k.functions; items = k.items }
case-within n h x told _ w (delivers d is next alone) = let k = duty-within n h d.duty w in record { issued = k.issued; numbered = k.numbered; functions = k.functions; items = k.items }
case-within n h x told _ w (closes k is next) = changed-within n k h closed (λ g. omega arith) w
case-within n h x told _ w (finishes k is next) = changed-within n k h finished (λ g. omega arith) w
case-within n h x told _ w (ends d is stands) = let k = more-within n h w in record { issued = k.issued; numbered = k.numbered; functions = k.functions; items = k.items }
case-within n h x told _ w (thread_ends t is there) = let k = more-within n h w in record { issued = k.issued; numbered = k.numbered; functions = k.functions; items = k.items }
case-within n h x told _ w (worker_ends t is there) = let k = more-within n h w in record { issued = k.issued; numbered = k.numbered; functions = k.functions; items = k.items }
case-within n h x told _ w (starts t k later is waits free) =
    same-within n h _ (started-ids h.pool.queued t h.pool) (started-numbers h.pool.queued t h.pool) w
case-within n h x told _ w (finishes_work t k is runs) =
    same-within n h _ (finished-ids t (executed_by h.pool t) h.pool) (finished-numbers t (executed_by h.pool t) h.pool) w

-- ALONG A HISTORY
along-within : (limit n : ℕ) (h : Hub) (xs : List Entry) → IsHubWithin n h → HubReplays limit h n xs → IsHubWithin (n + length xs) (hub_along h xs)
along-within limit n h [] w replays = subst (λ k. IsHubWithin k h) (zero-right n) w
  where
    zero-right : (n : ℕ) → n ≡ n + 0
    zero-right n = omega arith
along-within limit n h (x ∷ xs) w replays =
    subst (λ k. IsHubWithin k (hub_along (hub_step h x).after xs)) (right n (length xs))
    (along-within limit (n + 1) (hub_step h x).after xs
    (case-within n h x (hub_step h x).entry.reply.out (hub_step h x).after w (hub-case h x replays.0.may)) replays.2)
  where
    right : (n k : ℕ) → n + 1 + k ≡ n + suc k
    right n k = omega arith

pub hubs-are-within : HubsAreWithin
hubs-are-within limit threads workers history h led =
    subst (IsHubWithin (length history)) led.hub
    (subst (λ k. IsHubWithin k (hub_along (new_hub threads workers) history)) (zero-left (length history))
    (along-within limit 0 (new_hub threads workers) history
    (record { issued = omega arith; numbered = omega arith; functions = omega arith; items = All-nil (λ (f : FunctionState). accepted_items f ≤ 0) }) led.replays))
  where
    zero-left : (n : ℕ) → 0 + n ≡ n
    zero-left n = omega arith
