-- Where the hub has no move no call of a thread waits, and somebody goes on who has not ended.
use Rattle.std.proofs.Common.{◌≡◌, ◌∙◌, inl, inr, ℕ, zero, suc, ◌==◌, nat_lt, Bool, true, false, not, cond, ◌&&◌, ◌||◌, List, [], ◌∷◌, length, arith, refl, ap, sym, subst, Option, Some, None, is_some, is_none, option_map}
use Rattle.std.proofs.lemmas.Bool.Decides.{nat_tests}
use Rattle.napi_types.specs.declared.call.Call.{Call}
use Rattle.napi_types.specs.declared.call.Call.TheVariants as call
use Rattle.napi_types.specs.declared.call.Mode.{Mode}
use Rattle.napi_types.specs.declared.entry.Actor.{Actor}
use Rattle.napi_types.specs.declared.entry.Actor.TheVariants as actor
use Rattle.napi_types.specs.declared.entry.TsfnState.{TsfnState}
use Rattle.napi_types.specs.declared.entry.TsfnState.TheVariants.{Open, Closing, Finished, Done}
use Rattle.napi_types.specs.declared.status.Status.TheVariants as status
use Rattle.napi_types.specs.plain.Lists.{is_empty, has_number, found}
use Rattle.napi_types.specs.parts.Functions.{FunctionState, is_open, is_full_queue, full_status, call_status}
use Rattle.napi_types.specs.parts.Pool.{executed_by, first_completion}
use Rattle.napi_types.specs.parts.Works.{Execution}
use Rattle.napi_types.specs.hub.Hub.{Hub, left_of, threads_left, workers_left}
use Rattle.napi_types.specs.hub.HubCalls.{tsfn_at, call_answer}
use Rattle.napi_types.specs.hub.HubMoves.{Delivers, tsfn_move_in, tsfn_move, first_move, hub_move, is_quiet, is_spent}
use Rattle.napi_types.specs.hub.ThreadSteps.{is_gone_on}
use Rattle.napi_types.specs.hub.Waits.{waits_at, SomebodyGoesOn}
use Rattle.napi_types.proofs.plain.Found.{same-self, found-first}
use Rattle.napi_types.proofs.plain.Lists.{none-first, none-last}
use Rattle.napi_types.proofs.hub.EarlyWorkers.{IsStaffed}
use Rattle.napi_types.proofs.hub.CallsAfterTheDrain.{told-answer}
use Rattle.napi_types.proofs.hub.ServingWorkers.{IsServing}

-- NO CALL WAITS
-- where no function has a move, the one of this number has none
none-moves : (n : ℕ) (fs : List FunctionState) (f : FunctionState) → found (λ (g : FunctionState). g.id) n fs ≡ Some f → first_move fs ≡ None
    → tsfn_move f ≡ None
none-moves n [] f there none = cc
none-moves n (g ∷ fs) f there none = by (g.id == n) there (λ is. none-moves n fs f is (none-last (tsfn_move g) (first_move fs) none))
  where
    same : (a b : FunctionState) → Some a ≡ Some b → a ≡ b
    same a b e = cc

    by : (b : Bool) → cond b (Some g) (found (λ (x : FunctionState). x.id) n fs) ≡ Some f
        → (found (λ (x : FunctionState). x.id) n fs ≡ Some f → tsfn_move f ≡ None) → tsfn_move f ≡ None
    by true is rest = subst (λ (x : FunctionState). tsfn_move x ≡ None) (same g f is) (none-first (tsfn_move g) (first_move fs) none)
    by false is rest = rest is

open-state : (s : TsfnState) → is_open s ≡ true → s ≡ Open
open-state Open is = refl
open-state Closing is = cc
open-state Finished is = cc
open-state Done is = cc

-- an open function whose queue is full has an item to deliver
full-moves : (f : FunctionState) → is_open f.state ≡ true → tsfn_move f ≡ None → is_full_queue f ≡ false
full-moves f opened none = by f.items refl
  where
    empty : (m : ℕ) → (nat_lt 0 m && (0 == m)) ≡ false
    empty m = grind (arith, nat_tests)

    by : (items : List ℕ) → f.items ≡ items → is_full_queue f ≡ false
    by [] is = ap (λ (l : List ℕ). nat_lt 0 f.maximum && (length l == f.maximum)) is ∙ empty f.maximum
    by (payload ∷ later) is =
        let moves : Some (Delivers _) ≡ None =
        sym (ap (tsfn_move_in f f.state) is ∙ ap (λ (s : TsfnState). tsfn_move_in f s (payload ∷ later)) (open-state f.state opened)) ∙ none in
        cc

-- so one that has no move answers each call at once
still-answers : (who : Actor) (m : Mode) (f : FunctionState) → tsfn_move f ≡ None → is_some (call_status who m f) ≡ true
still-answers who m f none = by (f.count == 0) (is_open f.state) refl
  where
    at : (b : Bool) → b ≡ false → is_some (cond b (full_status who m) (Some status.Ok)) ≡ true
    at true is = cc
    at false is = refl

    by : (nobody opened : Bool) → is_open f.state ≡ opened
        → is_some (cond nobody (Some status.InvalidArg) (cond (not opened) (Some status.Closing) (cond (is_full_queue f) (full_status who m) (Some status.Ok))))
        ≡ true
    by true opened is = refl
    by false false is = refl
    by false true is = at (is_full_queue f) (full-moves f is none)

call-answered : (h : Hub) (who : Actor) (k payload : ℕ) (m : Mode) (o : Option FunctionState) → tsfn_at h k ≡ o → first_move h.functions ≡ None
    → is_some (call_answer h who payload m o) ≡ true
call-answered h who k payload m None there none = refl
call-answered h who k payload m (Some f) there none =
    told-answer h payload f (call_status who m f) (still-answers who m f (none-moves k h.functions f there none))

some-is : {A : Type 0} (o : Option A) → is_some o ≡ true → is_none o ≡ false
some-is None some = cc
some-is (Some x) some = refl

pub none-waits : (h : Hub) (t : ℕ) (c : Call) → hub_move h ≡ None → waits_at h t c ≡ false
none-waits h t (call.CallThreadsafeFunction f payload m) none =
    some-is (call_answer h (actor.Thread t) payload m (tsfn_at h f.0))
    (call-answered h (actor.Thread t) f.0 payload m (tsfn_at h f.0) refl
    (none-last (option_map Delivers (first_completion h.pool)) (first_move h.functions) none))
none-waits h t _ none = refl

-- WHO GOES ON
module _ (h : Hub) (still : hub_move h ≡ None) where
  -- a thread that is left, once `go` has come
  thread-on : is_gone_on h.stage ≡ true → (t : ℕ) (ts : List ℕ) → threads_left h ≡ t ∷ ts → SomebodyGoesOn h
  thread-on gone t ts left = inl (t, record { there = rw (gone, listed) refl; answered = λ c. none-waits h t c still })
    where
      listed : has_number t (threads_left h) ≡ true
      listed = ap (has_number t) left ∙ ap (λ b. b || has_number t ts) (same-self t)

  -- a worker that executes a work
  executing-on : ((w : ℕ) → IsServing w h) → (x : Execution) (later : List Execution) → h.pool.executions ≡ x ∷ later → SomebodyGoesOn h
  executing-on serving x later runs = inr (
    x.worker,
    record {
      there = serving x.worker (ap is_some executes);
      busy = ap (λ o. is_none o && is_empty h.pool.queued && not h.pool.closing) executes;
    },
  )
    where
      executes : executed_by h.pool x.worker ≡ Some x.work
      executes =
          ap (λ xs. option_map (λ (e : Execution). e.work) (found (λ (e : Execution). e.worker) x.worker xs)) runs
          ∙ ap (λ o. option_map (λ (e : Execution). e.work) o) (found-first (λ (e : Execution). e.worker) x later)

  -- one that may start a work: before the drain, the first of them
  starting-on : IsStaffed h → h.pool.closing ≡ false → (n : ℕ) (later : List ℕ) → h.pool.queued ≡ n ∷ later → (h.workers == 0) ≡ false → SomebodyGoesOn h
  starting-on staffed opened n later queued some = inr (
    0,
    record {
      there = ap (λ ended. has_number 0 (left_of h.workers ended)) (staffed opened) ∙ first-left h.workers some;
      busy = ap (λ ns. is_none (executed_by h.pool 0) && is_empty ns && not h.pool.closing) queued ∙ by (is_none (executed_by h.pool 0));
    },
  )
    where
      first-left : (k : ℕ) → (k == 0) ≡ false → has_number 0 (left_of k []) ≡ true
      first-left zero some = cc
      first-left (suc k) some = refl

      by : (b : Bool) → (b && false && not h.pool.closing) ≡ false
      by true = refl
      by false = refl

  -- one that may end
  ending-on : h.pool.closing ≡ true → (w : ℕ) (ws : List ℕ) → workers_left h ≡ w ∷ ws → SomebodyGoesOn h
  ending-on closing w ws left = inr (
    w,
    record {
      there = ap (has_number w) left ∙ ap (λ b. b || has_number w ws) (same-self w);
      busy = ap (λ b. is_none (executed_by h.pool w) && is_empty h.pool.queued && not b) closing
          ∙ by (is_none (executed_by h.pool w) && is_empty h.pool.queued);
    },
  )
    where
      by : (b : Bool) → (b && false) ≡ false
      by true = refl
      by false = refl

  -- in the loop, where it is not quiet
  pub loop-goes-on : is_gone_on h.stage ≡ true → h.pool.closing ≡ false → IsStaffed h → ((w : ℕ) → IsServing w h) → is_quiet h ≡ false → SomebodyGoesOn h
  loop-goes-on gone opened staffed serving loud = by (threads_left h) refl h.pool.executions refl h.pool.queued refl (h.workers == 0) refl loud
    where
      by : (ts : List ℕ) → threads_left h ≡ ts → (xs : List Execution) → h.pool.executions ≡ xs → (ns : List ℕ) → h.pool.queued ≡ ns
          → (b : Bool) → (h.workers == 0) ≡ b → (is_empty ts && is_empty xs && (is_empty ns || b)) ≡ false → SomebodyGoesOn h
      by (t ∷ ts) threads xs runs ns queued b some loud = thread-on gone t ts threads
      by [] threads (x ∷ later) runs ns queued b some loud = executing-on serving x later runs
      by [] threads [] runs [] queued b some loud = cc
      by [] threads [] runs (n ∷ later) queued true some loud = cc
      by [] threads [] runs (n ∷ later) queued false some loud = starting-on staffed opened n later queued some

  -- after the drain, where it is not spent
  pub drained-goes-on : is_gone_on h.stage ≡ true → h.pool.closing ≡ true → ((w : ℕ) → IsServing w h) → is_spent h ≡ false → SomebodyGoesOn h
  drained-goes-on gone closing serving unspent = by (threads_left h) refl (workers_left h) refl h.pool.executions refl unspent
    where
      by : (ts : List ℕ) → threads_left h ≡ ts → (ws : List ℕ) → workers_left h ≡ ws → (xs : List Execution) → h.pool.executions ≡ xs
          → (is_empty ts && is_empty ws && is_empty xs) ≡ false → SomebodyGoesOn h
      by (t ∷ ts) threads ws workers xs runs unspent = thread-on gone t ts threads
      by [] threads (w ∷ ws) workers xs runs unspent = ending-on closing w ws workers
      by [] threads [] workers (x ∷ later) runs unspent = executing-on serving x later runs
      by [] threads [] workers [] runs unspent = cc
