-- The account of a work: it is given a number, has one place until its completion begins, and starts or not.
use Rattle.std.proofs.Common.{◌≡◌, ◌∙◌, ℕ, ◌+◌, ◌<◌, ◌≤◌, ◌==◌, Bool, true, false, not, nat_lt, ◌&&◌, List, ◌∷◌, ◌++◌, map, filter, refl, ap, sym, subst, arith, Option, Some, None, option_map, is_some, is_none}
use Rattle.std.specs.List.{count_by}
use Rattle.std.proofs.lemmas.Bool.Decides.{nat_tests}
use Rattle.napi_types.specs.declared.entry.Duty.{Duty}
use Rattle.napi_types.specs.declared.entry.Duty.TheVariants as duty
use Rattle.napi_types.specs.declared.status.Status.{Status}
use Rattle.napi_types.specs.declared.status.Status.TheVariants as status
use Rattle.napi_types.specs.plain.Lists.{found, has, has_number, with_record, tail, singleton}
use Rattle.napi_types.specs.plain.Room.{one_if}
use Rattle.napi_types.specs.parts.Functions.{FunctionState}
use Rattle.napi_types.specs.parts.Pool.{WorkPool, new_number, with_queued, cancelled_at, started_from, with_started, finished_at, with_finished, with_completed, drained, executed_by, value_of_work}
use Rattle.napi_types.specs.parts.Works.{Execution, Outcome, cancelled_outcome, is_cancelled}
use Rattle.napi_types.specs.hub.Hub.{Hub}
use Rattle.napi_types.specs.hub.HubCalls.{item_made, finalizer_duty, new_function_number}
use Rattle.napi_types.specs.all_runs.Counts.{is_duty}
use Rattle.napi_types.specs.all_runs.DutyPlaces.{places_in_pool}
use Rattle.napi_types.proofs.plain.Found.{has-found, same-tells}
use Rattle.napi_types.proofs.plain.Tallies.{tally-cons, tally-append, tally-one, tally-map, tally-never, tally-without, tally-gone, tally-there, tally-with_record, tally-lost}
use Rattle.napi_types.proofs.plain.Conditions.{and-false}
use Rattle.napi_types.proofs.hub.Executions.{ExecutesOne}
use Rattle.napi_types.proofs.hub.HubDutySteps.{ChangesFunction, calls, acquires, releases, refers, closes, finishes, delivers, owes, HubDutyStep, keeps, queues, cancels, starts, works, drains, creates, changes, completes}

-- TESTS
-- the number was given
abbrev pub given_in_pool : ℕ → WorkPool → ℕ
given_in_pool k p = one_if (nat_lt 0 k && not (nat_lt p.numbered k))

-- the work of this number runs, or has run and is finished
abbrev pub ran_in_pool : ℕ → WorkPool → ℕ
ran_in_pool k p = count_by (λ x. k == x.work) p.executions + count_by (λ o. (k == o.work) && not (is_cancelled o.status)) p.finished

-- how a step changes them
pub record WorkAccount (k : ℕ) (h : Hub) (made begun started : Option Duty) (s : Status) (n : Hub) : Type 0 where
  pub given : given_in_pool k n.pool ≡ given_in_pool k h.pool + one_if (is_duty (duty.Work k) made)
  pub placed : places_in_pool k n.pool + one_if (is_duty (duty.Work k) begun) ≡ places_in_pool k h.pool + one_if (is_duty (duty.Work k) made)
  pub ran : ran_in_pool k n.pool + one_if (is_duty (duty.Work k) begun && not (is_cancelled s)) ≡ ran_in_pool k h.pool + one_if (is_duty (duty.Work k) started)

-- SPANS OF NUMBERS
-- a span that grows at its end, and one that loses its first number
pub span-more : (t n k : ℕ) → t ≤ n → one_if (nat_lt t k && not (nat_lt (n + 1) k)) ≡ one_if (nat_lt t k && not (nat_lt n k)) + one_if (k == n + 1)
span-more t n k le = by (nat_lt t k) (nat_lt (n + 1) k) (nat_lt n k) (k == n + 1) (grind (arith, nat_tests)) (grind (arith, nat_tests)) (grind (arith, nat_tests)) (grind (arith, nat_tests))
  where
    by : (a b c e : Bool) → (e ≡ true → (a ≡ true) × (b ≡ false) × (c ≡ true)) → (b ≡ true → c ≡ true) → (e ≡ false → b ≡ c) → (c ≡ false → b ≡ false)
        → one_if (a && not b) ≡ one_if (a && not c) + one_if e
    by a b c e x y z w = grind (arith)

pub span-less : (t n k : ℕ) → t < n → one_if (nat_lt (t + 1) k && not (nat_lt n k)) + one_if (k == t + 1) ≡ one_if (nat_lt t k && not (nat_lt n k))
span-less t n k lt = grind (arith, nat_tests)

and-true : (b : Bool) → (b && true) ≡ b
and-true true = refl
and-true false = refl

same : (n : ℕ) → n + 0 ≡ n + 0
same n = refl

plus : (n : ℕ) → n ≡ n + 0
plus n = omega arith

-- WHERE NOTHING IS SAID OF WORKS
-- a duty that is no work
pub is-no_item : (k : ℕ) (s : Status) (f : FunctionState) → is_duty (duty.Work k) (item_made s f) ≡ false
is-no_item k status.Ok f = refl
is-no_item k _ f = refl

is-no_finalizer : (k n : ℕ) (entry : Option ℕ) → is_duty (duty.Work k) (finalizer_duty n entry) ≡ false
is-no_finalizer k n None = refl
is-no_finalizer k n (Some entry) = refl

kept-account : (k : ℕ) (h n : Hub) (made begun : Option Duty) (s : Status) → n.pool.numbered ≡ h.pool.numbered → n.pool.queued ≡ h.pool.queued
    → n.pool.executions ≡ h.pool.executions → n.pool.finished ≡ h.pool.finished → is_duty (duty.Work k) made ≡ false → is_duty (duty.Work k) begun ≡ false
    → WorkAccount k h made begun None s n
kept-account k h n made begun s numbered queued executions finished unmade unbegun =
    record {
      given = rw (numbered, unmade) (plus (given_in_pool k h.pool));
      placed = rw (queued, executions, finished, unmade, unbegun) refl;
      ran = rw (executions, finished, unbegun) refl;
    }

unmade : (k : ℕ) (f : FunctionState) (change : FunctionState → FunctionState) (made begun : Option Duty) → ChangesFunction f change made begun
    → is_duty (duty.Work k) made ≡ false
unmade k f _ _ _ (calls payload s) = is-no_item k s f
unmade k f _ _ _ (acquires s) = refl
unmade k f _ _ _ (releases s m) = refl
unmade k f _ _ _ (refers b) = refl
unmade k f _ _ _ closes = refl
unmade k f _ _ _ (finishes is) = refl
unmade k f _ _ _ (delivers payload later is) = refl
unmade k f _ _ _ (owes is) = refl

unbegun : (k : ℕ) (f : FunctionState) (change : FunctionState → FunctionState) (made begun : Option Duty) → ChangesFunction f change made begun
    → is_duty (duty.Work k) begun ≡ false
unbegun k f _ _ _ (calls payload s) = refl
unbegun k f _ _ _ (acquires s) = refl
unbegun k f _ _ _ (releases s m) = refl
unbegun k f _ _ _ (refers b) = refl
unbegun k f _ _ _ closes = refl
unbegun k f _ _ _ (finishes is) = refl
unbegun k f _ _ _ (delivers payload later is) = refl
unbegun k f _ _ _ (owes is) = refl

-- WORKS MOVE
record PoolAccount (k : ℕ) (p : WorkPool) (made begun started : Option Duty) (s : Status) (q : WorkPool) : Type 0 where
  pub given : given_in_pool k q ≡ given_in_pool k p + one_if (is_duty (duty.Work k) made)
  pub placed : places_in_pool k q + one_if (is_duty (duty.Work k) begun) ≡ places_in_pool k p + one_if (is_duty (duty.Work k) made)
  pub ran : ran_in_pool k q + one_if (is_duty (duty.Work k) begun && not (is_cancelled s)) ≡ ran_in_pool k p + one_if (is_duty (duty.Work k) started)

queued-account : (k id : ℕ) (p : WorkPool) (s : Status) → PoolAccount k p (Some (duty.Work (new_number p))) None None s (with_queued id p)
queued-account k id p s = record {
  given = span-more 0 p.numbered k (omega arith);
  placed =
      by (count_by (λ m. k == m) p.queued) (count_by (λ m. k == m) (p.queued ++ singleton (new_number p)))
      (count_by (λ (x : Execution). k == x.work) p.executions)
      (count_by (λ (o : Outcome). k == o.work) p.finished) (one_if (k == new_number p))
      (tally-append (λ m. k == m) p.queued (singleton (new_number p)) ∙ ap (λ c. count_by (λ m. k == m) p.queued + c) (tally-one (λ m. k == m) (new_number p)));
  ran = refl;
}
  where
    by : (q q' e f o : ℕ) → q' ≡ q + o → q' + e + f + 0 ≡ q + e + f + o
    by q q' e f o more = omega (arith, more)

-- what was cancelled has not run
uncancelled : (k m : ℕ) → (k == m) && not (is_cancelled (cancelled_outcome m).status) ≡ false
uncancelled k m = and-false (k == m)

cancelled-account : (k m : ℕ) (p : WorkPool) (s : Status) → has_number m p.queued ≡ true → places_in_pool k p ≤ 1
    → PoolAccount k p None None None s (cancelled_at (Some m) p)
cancelled-account k m p s waits single = record {
  given = plus (given_in_pool k p);
  placed =
      by (k == m) refl;
  ran =
      ap (λ c. count_by (λ (x : Execution). k == x.work) p.executions + c + 0)
      (tally-append ran p.finished (singleton (cancelled_outcome m))
      ∙ ap (λ c. count_by ran p.finished + c) (tally-one ran (cancelled_outcome m) ∙ ap one_if (uncancelled k m)) ∙ sym (plus (count_by ran p.finished)));
}
  where
    ran : Outcome → Bool
    ran o = (k == o.work) && not (is_cancelled o.status)

    finished : count_by (λ (o : Outcome). k == o.work) (p.finished ++ singleton (cancelled_outcome m)) ≡ count_by
        (λ (o : Outcome). k == o.work) p.finished + one_if (k == m)
    finished = tally-append (λ (o : Outcome). k == o.work) p.finished (singleton (cancelled_outcome m))
        ∙ ap (λ c. count_by (λ (o : Outcome). k == o.work) p.finished + c) (tally-one (λ (o : Outcome). k == o.work) (cancelled_outcome m))

    waits-once : 1 ≤ count_by (λ j. m == j) p.queued
    waits-once = tally-there m p.queued waits

    by : (b : Bool) → (k == m) ≡ b
        → count_by (λ j. k == j) (filter (λ j. not (j == m)) p.queued) + count_by (λ (x : Execution). k == x.work) p.executions
        + count_by (λ (o : Outcome). k == o.work) (p.finished ++ singleton (cancelled_outcome m)) + 0 ≡ places_in_pool k p + 0
    by true is =
        let it : k ≡ m = same-tells k m is in
        let none : count_by (λ j. k == j) (filter (λ j. not (j == m)) p.queued) ≡ 0 =
        ap (λ i. count_by (λ j. k == j) (filter (λ j. not (j == i)) p.queued)) (sym it) ∙ tally-gone k p.queued in
        let some : 1 ≤ count_by (λ j. k == j) p.queued = subst (λ i. 1 ≤ count_by (λ j. i == j) p.queued) (sym it) waits-once in
        once (count_by (λ j. k == j) p.queued) (count_by (λ j. k == j) (filter (λ j. not (j == m)) p.queued)) (count_by (λ (x : Execution). k == x.work) p.executions)
        (count_by (λ (o : Outcome). k == o.work) p.finished) (count_by (λ (o : Outcome). k == o.work) (p.finished ++ singleton (cancelled_outcome m)))
        none some single (finished ∙ ap (λ b. count_by (λ (o : Outcome). k == o.work) p.finished + one_if b) is)
      where
        once : (q q' e f f' : ℕ) → q' ≡ 0 → 1 ≤ q → q + e + f ≤ 1 → f' ≡ f + 1 → q' + e + f' + 0 ≡ q + e + f + 0
        once q q' e f f' none some single more = omega (arith, none, some, single, more)
    by false is =
        never (count_by (λ j. k == j) p.queued) (count_by (λ j. k == j) (filter (λ j. not (j == m)) p.queued)) (count_by (λ (x : Execution). k == x.work) p.executions)
        (count_by (λ (o : Outcome). k == o.work) p.finished) (count_by (λ (o : Outcome). k == o.work) (p.finished ++ singleton (cancelled_outcome m)))
        (tally-without m k p.queued is) (finished ∙ ap (λ b. count_by (λ (o : Outcome). k == o.work) p.finished + one_if b) is)
      where
        never : (q q' e f f' : ℕ) → q' ≡ q → f' ≡ f + 0 → q' + e + f' + 0 ≡ q + e + f + 0
        never q q' e f f' kept more = omega (arith, kept, more)

started-account : (k w m : ℕ) (later : List ℕ) (p : WorkPool) (s : Status) → p.queued ≡ m ∷ later → is_none (executed_by p w) ≡ true
    → PoolAccount k p None None (Some (duty.Work m)) s (with_started w p)
started-account k w m later p s waits free =
    subst (λ ns. PoolAccount k p None None (Some (duty.Work m)) s (started_from ns w p)) (sym waits)
    (record {
      given = plus (given_in_pool k p);
      placed =
          by (count_by (λ j. k == j) p.queued) (count_by (λ j. k == j) later) (count_by (λ (x : Execution). k == x.work) p.executions)
          (count_by (λ (x : Execution). k == x.work) (with_record (λ (x : Execution). x.worker) new p.executions)) (count_by (λ (o : Outcome). k == o.work) p.finished) (one_if (k == m))
          (ap (λ ns. count_by (λ j. k == j) ns) waits ∙ tally-cons (λ j. k == j) m later) runs;
      ran = more (count_by (λ (x : Execution). k == x.work) p.executions)
          (count_by (λ (x : Execution). k == x.work) (with_record (λ (x : Execution). x.worker) new p.executions))
          (count_by (λ (o : Outcome). (k == o.work) && not (is_cancelled o.status)) p.finished) (one_if (k == m)) runs;
    })
  where
    new : Execution
    new = record { worker = w; work = m }

    unfound : (o : Option Execution) → is_none (option_map (λ (x : Execution). x.work) o) ≡ true → is_some o ≡ false
    unfound None h = refl
    unfound (Some x) h = cc

    absent : has (λ (x : Execution). x.worker) w p.executions ≡ false
    absent = has-found (λ (x : Execution). x.worker) w p.executions ∙ unfound (found (λ (x : Execution). x.worker) w p.executions) free

    runs : count_by (λ (x : Execution). k == x.work) (with_record (λ (x : Execution). x.worker) new p.executions) ≡ one_if (k == m) + count_by (λ (x : Execution). k == x.work) p.executions
    runs = tally-with_record (λ (x : Execution). x.worker) (λ (x : Execution). k == x.work) new p.executions absent

    by : (q q' e e' f o : ℕ) → q ≡ o + q' → e' ≡ o + e → q' + e' + f + 0 ≡ q + e + f + 0
    by q q' e e' f o left more = omega (arith, left, more)

    more : (e e' f o : ℕ) → e' ≡ o + e → e' + f + 0 ≡ e + f + o
    more e e' f o one = omega (arith, one)

worked-account : (k w m : ℕ) (p : WorkPool) (s : Status) → executed_by p w ≡ Some m → ExecutesOne p → PoolAccount k p None None None s (with_finished w p)
worked-account k w m p s runs rises =
    subst (λ o. PoolAccount k p None None None s (finished_at w o p)) (sym runs) (by (found (λ (x : Execution). x.worker) w p.executions) refl runs)
  where
    last : Outcome
    last = record { work = m; status = status.Ok; value = value_of_work p m }

    ran : Outcome → Bool
    ran o = (k == o.work) && not (is_cancelled o.status)

    placed : (q e e' f f' o : ℕ) → e' + o ≡ e → f' ≡ f + o → q + e' + f' + 0 ≡ q + e + f + 0
    placed q e e' f f' o left more = omega (arith, left, more)

    kept : (e e' f f' o : ℕ) → e' + o ≡ e → f' ≡ f + o → e' + f' + 0 ≡ e + f + 0
    kept e e' f f' o left more = omega (arith, left, more)

    by : (o : Option Execution) → found (λ (x : Execution). x.worker) w p.executions ≡ o → option_map (λ (x : Execution). x.work) o ≡ Some m
        → PoolAccount k p None None None s (finished_at w (Some m) p)
    by None there is = let no : ⊥ = cc in absurd no
    by (Some x) there is =
        let work : x.work ≡ m = cc in
        let left : count_by (λ (y : Execution). k == y.work) (filter (λ (y : Execution). not (y.worker == w)) p.executions) + one_if (k == m) ≡ count_by (λ (y : Execution). k == y.work) p.executions =
        ap (λ j. count_by (λ (y : Execution). k == y.work) (filter (λ (y : Execution). not (y.worker == w)) p.executions) + one_if (k == j)) (sym work)
        ∙ tally-lost (λ (y : Execution). y.worker) (λ (y : Execution). k == y.work) w x p.executions rises there in
        let more : count_by (λ (o : Outcome). k == o.work) (p.finished ++ singleton last) ≡ count_by (λ (o : Outcome). k == o.work) p.finished + one_if
        (k == m) =
        tally-append (λ (o : Outcome). k == o.work) p.finished (singleton last) ∙ ap (λ c. count_by (λ (o : Outcome). k == o.work) p.finished + c)
        (tally-one (λ (o : Outcome). k == o.work) last) in
        let uncancelled : count_by ran (p.finished ++ singleton last) ≡ count_by ran p.finished + one_if (k == m) =
        tally-append ran p.finished (singleton last) ∙ ap (λ c. count_by ran p.finished + c) (tally-one ran last ∙ ap one_if (and-true (k == m))) in
        record {
          given = plus (given_in_pool k p);
          placed = placed (count_by (λ j. k == j) p.queued) (count_by (λ (y : Execution). k == y.work) p.executions)
              (count_by (λ (y : Execution). k == y.work) (filter (λ (y : Execution). not (y.worker == w)) p.executions))
              (count_by (λ (o : Outcome). k == o.work) p.finished) (count_by (λ (o : Outcome). k == o.work) (p.finished ++ singleton last))
              (one_if (k == m)) left more;
          ran = kept (count_by (λ (y : Execution). k == y.work) p.executions)
              (count_by (λ (y : Execution). k == y.work) (filter (λ (y : Execution). not (y.worker == w)) p.executions))
              (count_by ran p.finished) (count_by ran (p.finished ++ singleton last)) (one_if (k == m)) left uncancelled;
        }

drained-account : (k : ℕ) (p : WorkPool) (s : Status) → PoolAccount k p None None None s (drained p)
drained-account k p s = record {
  given = plus (given_in_pool k p);
  placed = placed (count_by (λ j. k == j) p.queued) (count_by (λ (x : Execution). k == x.work) p.executions) (count_by (λ (o : Outcome). k == o.work) p.finished)
      (count_by (λ (o : Outcome). k == o.work) (p.finished ++ map cancelled_outcome p.queued))
      (tally-append (λ (o : Outcome). k == o.work) p.finished (map cancelled_outcome p.queued)
      ∙ ap (λ c. count_by (λ (o : Outcome). k == o.work) p.finished + c) (tally-map (λ (o : Outcome). k == o.work) cancelled_outcome p.queued));
  ran = kept (count_by (λ (x : Execution). k == x.work) p.executions) (count_by ran p.finished) (count_by ran (p.finished ++ map cancelled_outcome p.queued))
      (tally-append ran p.finished (map cancelled_outcome p.queued)
      ∙ ap (λ c. count_by ran p.finished + c) (tally-map ran cancelled_outcome p.queued ∙ tally-never (λ m. ran (cancelled_outcome m)) (uncancelled k) p.queued));
}
  where
    ran : Outcome → Bool
    ran o = (k == o.work) && not (is_cancelled o.status)

    placed : (q e f f' : ℕ) → f' ≡ f + q → 0 + e + f' + 0 ≡ q + e + f + 0
    placed q e f f' more = omega (arith, more)

    kept : (e f f' : ℕ) → f' ≡ f + 0 → e + f' + 0 ≡ e + f + 0
    kept e f f' more = omega (arith, more)

completed-account : (k : ℕ) (o : Outcome) (os : List Outcome) (p : WorkPool) → p.finished ≡ o ∷ os
    → PoolAccount k p None (Some (duty.Work o.work)) None o.status (with_completed p)
completed-account k o os p first = record {
  given = plus (given_in_pool k p);
  placed = placed (count_by (λ j. k == j) p.queued) (count_by (λ (x : Execution). k == x.work) p.executions) (count_by (λ (y : Outcome). k == y.work) p.finished)
      (count_by (λ (y : Outcome). k == y.work) (tail p.finished)) (one_if (k == o.work)) (less (λ (y : Outcome). k == y.work));
  ran = kept (count_by (λ (x : Execution). k == x.work) p.executions) (count_by ran p.finished) (count_by ran (tail p.finished)) (one_if (ran o)) (less ran);
}
  where
    ran : Outcome → Bool
    ran y = (k == y.work) && not (is_cancelled y.status)

    less : (t : Outcome → Bool) → count_by t p.finished ≡ one_if (t o) + count_by t (tail p.finished)
    less t = ap (λ l. count_by t l) first ∙ tally-cons t o os ∙ ap (λ l. one_if (t o) + count_by t (tail l)) (sym first)

    placed : (q e f f' b : ℕ) → f ≡ b + f' → q + e + f' + b ≡ q + e + f + 0
    placed q e f f' b left = omega (arith, left)

    kept : (e f f' b : ℕ) → f ≡ b + f' → e + f' + b ≡ e + f + 0
    kept e f f' b left = omega (arith, left)

of-pool : (k : ℕ) (h n : Hub) (made begun started : Option Duty) (s : Status) (q : WorkPool) → n.pool ≡ q → PoolAccount k h.pool made begun started s q
    → WorkAccount k h made begun started s n
of-pool k h n made begun started s q is a =
    subst (λ (p : WorkPool). WorkAccount k h made begun started s (record n { pool = p })) (sym is) (record { given = a.given; placed = a.placed; ran = a.ran })

-- EACH STEP
pub work-account : (k : ℕ) (h : Hub) (made begun started : Option Duty) (s : Status) (n : Hub) → ExecutesOne h.pool → places_in_pool k h.pool ≤ 1
    → HubDutyStep h made begun started s n → WorkAccount k h made begun started s n
work-account k h _ _ _ _ _ rises single (keeps s n e) = kept-account k h n None None s e.numbered e.queued e.executions e.finished refl refl
work-account k h _ _ _ _ _ rises single (creates s addon target maximum count finalizer context) =
    kept-account k h _ _ None s refl refl refl refl (is-no_finalizer k (new_function_number h) finalizer) refl
work-account k h _ _ _ _ _ rises single (changes s f change made begun n there how pool functions) =
    kept-account k h n made begun s (ap (λ (p : WorkPool). p.numbered) pool) (ap (λ (p : WorkPool). p.queued) pool) (ap (λ (p : WorkPool). p.executions) pool)
    (ap (λ (p : WorkPool). p.finished) pool) (unmade k f change made begun how) (unbegun k f change made begun how)
work-account k h _ _ _ _ _ rises single (queues s id) = of-pool k h _ _ _ _ s (with_queued id h.pool) refl (queued-account k id h.pool s)
work-account k h _ _ _ _ _ rises single (cancels s m n waits is) =
    of-pool k h n _ _ _ s (cancelled_at (Some m) h.pool) (ap (λ (g : Hub). g.pool) is) (cancelled-account k m h.pool s waits single)
work-account k h _ _ _ _ _ rises single (starts s w m later waits free) =
    of-pool k h _ _ _ _ s (with_started w h.pool) refl (started-account k w m later h.pool s waits free)
work-account k h _ _ _ _ _ rises single (works s w m runs) = of-pool k h _ _ _ _ s (with_finished w h.pool) refl (worked-account k w m h.pool s runs rises)
work-account k h _ _ _ _ _ rises single (drains s n pool functions) = of-pool k h n _ _ _ s (drained h.pool) pool (drained-account k h.pool s)
work-account k h _ _ _ _ _ rises single (completes o os n first pool functions) =
    of-pool k h n _ _ _ o.status (with_completed h.pool) pool (completed-account k o os h.pool first)
