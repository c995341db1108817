-- The pool of works at every moment: each work that waits, runs or is finished is there under its number, none waits once the drain has come, and each worker
-- executes one at most.
use Rattle.std.proofs.Common.{◌≡◌, ◌∙◌, ℕ, ◌≤◌, ◌==◌, ◌||◌, Bool, true, false, not, cond, List, [], ◌∷◌, ◌++◌, map, filter, inl, inr, ◌⊎◌, refl, ap, sym, subst, arith, Option, Some, None, is_some, is_none, option_map}
use Rattle.std.specs.List.{All, find, list_any}
use Rattle.std.specs.Option.{option_map_or, option_and_then}
use Rattle.std.proofs.lemmas.Bool.{eq-eqb, or_cases, or_left, or_right, or_parts}
use Rattle.std.proofs.lemmas.List.Elements.{All-head, All-tail, All-cons, All-nil, All-filter, All-map}
use Rattle.std.proofs.lemmas.List.Folds.{list_any-append, list_any_none}
use Rattle.napi_types.specs.declared.call.JobSpec.{JobSpec}
use Rattle.napi_types.specs.plain.Lists.{found, has, has_number, with_number, with_record, tail, singleton}
use Rattle.napi_types.specs.parts.Pool.{WorkPool, work_numbered, standing_at, work_state, work_refusal, number_of_work, executed_by, with_work, without_work, new_number, with_queued, cancelled_at, with_cancelled, started_from, with_started, finished_at, with_finished, with_completed, drained}
use Rattle.napi_types.specs.parts.Works.{Work, Created, Queued, Running, Finished, Completed, Execution, Outcome, is_created, is_queued, is_deletable, is_this_number, has_work_number, cancelled_outcome}
use Rattle.napi_types.proofs.plain.Found.{IsRising, same-tells, apart-above, same-self, found-number, has-found, rising-filter, rising-with_record, rising-changed, has-with_number}
use Rattle.napi_types.proofs.plain.Maps.{list_any-with_record, All-with_record}
use Rattle.napi_types.proofs.plain.Lists.{any-map}
use Rattle.napi_types.proofs.hub.Executions.{ExecutesOne}
use Rattle.napi_types.proofs.hub.HubRooms.{IsWork, not-refused, WorkWaits, queued-waits}

-- TESTS ON LISTS
any-filter : {A : Type 0} (test keep : A → Bool) (xs : List A) → All (λ x. keep x ≡ false → test x ≡ false) xs → list_any test xs ≡ true → list_any test (filter keep xs) ≡ true
any-filter test keep [] all there = there
any-filter test keep (x ∷ xs) all there =
    by (keep x) (All-head (λ y. keep y ≡ false → test y ≡ false) x xs all) refl there (any-filter test keep xs (All-tail (λ y. keep y ≡ false → test y ≡ false) x xs all))
  where
    by : (b : Bool) → (keep x ≡ false → test x ≡ false) → keep x ≡ b → (test x || list_any test xs) ≡ true → (list_any test xs ≡ true → list_any test (filter keep xs) ≡ true)
        → list_any test (cond b (x ∷ filter keep xs) (filter keep xs)) ≡ true
    by true fails is there rest =
        elim (or_cases (test x) (list_any test xs) there) [
          | inl here ↦ or_left (test x) (list_any test (filter keep xs)) here
          | inr later ↦ or_right (test x) (list_any test (filter keep xs)) (rest later)
        ]
    by false fails is there rest = rest (sym (ap (λ b. b || list_any test xs) (fails is)) ∙ there)

any-of_filter : {A : Type 0} (test keep : A → Bool) (xs : List A) → list_any test (filter keep xs) ≡ true → list_any test xs ≡ true
any-of_filter test keep [] there = there
any-of_filter test keep (x ∷ xs) there = by (keep x) there (any-of_filter test keep xs)
  where
    by : (b : Bool) → list_any test (cond b (x ∷ filter keep xs) (filter keep xs)) ≡ true → (list_any test (filter keep xs) ≡ true → list_any test xs ≡ true)
        → (test x || list_any test xs) ≡ true
    by true there rest =
        elim (or_cases (test x) (list_any test (filter keep xs)) there) [
          | inl here ↦ or_left (test x) (list_any test xs) here
          | inr later ↦ or_right (test x) (list_any test xs) (rest later)
        ]
    by false there rest = or_right (test x) (list_any test xs) (rest there)

any-mapped : {A : Type 0} (test : A → Bool) (f : A → A) (xs : List A) → All (λ x. test x ≡ true → test (f x) ≡ true) xs → list_any test xs ≡ true → list_any test (map f xs) ≡ true
any-mapped test f [] all there = there
any-mapped test f (x ∷ xs) all there =
    elim (or_cases (test x) (list_any test xs) there) [
      | inl here ↦ or_left (test (f x)) (list_any test (map f xs)) (All-head (λ y. test y ≡ true → test (f y) ≡ true) x xs all here)
      | inr later ↦ or_right (test (f x)) (list_any test (map f xs)) (any-mapped test f xs (All-tail (λ y. test y ≡ true → test (f y) ≡ true) x xs all) later)
    ]

-- the one that is found passes a test
found-any : {A : Type 0} (number : A → ℕ) (test : A → Bool) (n : ℕ) (xs : List A) (x : A) → found number n xs ≡ Some x → test x ≡ true → list_any test xs ≡ true
found-any number test n [] x is passes = let no : ⊥ = cc in absurd no
found-any number test n (y ∷ ys) x is passes = by (number y == n) is (found-any number test n ys x)
  where
    by : (b : Bool) → cond b (Some y) (found number n ys) ≡ Some x → (found number n ys ≡ Some x → test x ≡ true → list_any test ys ≡ true) → (test y || list_any test ys) ≡ true
    by true here rest = let it : y ≡ x = cc in or_left (test y) (list_any test ys) (ap test it ∙ passes)
    by false later rest = or_right (test y) (list_any test ys) (rest later passes)

-- of rising records it is the only one of its number
pub found-only : {A : Type 0} (number : A → ℕ) (n : ℕ) (xs : List A) (x : A) → IsRising number xs → found number n xs ≡ Some x
    → All (λ y. (number y == n) ≡ true → y ≡ x) xs
found-only number n [] x rises is = All-nil (λ y. (number y == n) ≡ true → y ≡ x)
found-only number n (y ∷ ys) x rises is = by (number y == n) refl is (found-only number n ys x rises.1)
  where
    by : (b : Bool) → (number y == n) ≡ b → cond b (Some y) (found number n ys) ≡ Some x → (found number n ys ≡ Some x → All (λ y. (number y == n) ≡ true → y ≡ x) ys)
        → All (λ y. (number y == n) ≡ true → y ≡ x) (y ∷ ys)
    by true same is rest =
        let it : y ≡ x = cc in
        let here : number y ≡ n = same-tells (number y) n same in
        All-cons (λ z. (number z == n) ≡ true → z ≡ x) y ys (λ z. it)
        (λ k d inside tells. let no : false ≡ true = sym (apart-above n _ (omega (arith, here, rises.0 k d inside))) ∙ tells in cc)
    by false apart is rest = All-cons (λ z. (number z == n) ≡ true → z ≡ x) y ys (λ tells. let no : false ≡ true = sym apart ∙ tells in cc) (rest is)

-- WHAT HOLDS
-- the work of this number waits, runs or is finished
abbrev pub stands : WorkPool → ℕ → Bool
stands p n = has_number n p.queued || (has (λ (x : Execution). x.work) n p.executions || has (λ (o : Outcome). o.work) n p.finished)

pub record PoolSound (late : Bool) (p : WorkPool) : Type 0 where
  pub none : late ≡ true → p.queued ≡ []
  pub rising : IsRising (λ (w : Work). w.id) p.works
  pub issued : All (λ (w : Work). has_number w.id p.issued ≡ true) p.works
  pub there : (n : ℕ) → stands p n ≡ true → list_any (has_work_number n) p.works ≡ true
  pub given : (n : ℕ) → stands p n ≡ true → n ≤ p.numbered
  pub executes : ExecutesOne p

-- no more works stand, of the same ones
abbrev WorksStandIn : WorkPool → WorkPool → Type 0
WorksStandIn p q = (n : ℕ) → stands q n ≡ true → stands p n ≡ true

waits-stands : (p : WorkPool) (n : ℕ) → has_number n p.queued ≡ true → stands p n ≡ true
waits-stands p n is = or_left (has_number n p.queued) _ is

pub runs-stands : (p : WorkPool) (n : ℕ) → has (λ (x : Execution). x.work) n p.executions ≡ true → stands p n ≡ true
runs-stands p n is = or_right (has_number n p.queued) _ (or_left (has (λ (x : Execution). x.work) n p.executions) _ is)

finished-stands : (p : WorkPool) (n : ℕ) → has (λ (o : Outcome). o.work) n p.finished ≡ true → stands p n ≡ true
finished-stands p n is = or_right (has_number n p.queued) _ (or_right (has (λ (x : Execution). x.work) n p.executions) _ is)

-- each of the three ways
by-standing : (q : WorkPool) (n : ℕ) (P : Type 0) → (has_number n q.queued ≡ true → P) → (has (λ (x : Execution). x.work) n q.executions ≡ true → P)
    → (has (λ (o : Outcome). o.work) n q.finished ≡ true → P) → stands q n ≡ true → P
by-standing q n P waits runs finishes is =
    elim (or_cases (has_number n q.queued) _ is) [
      | inl w ↦ waits w
      | inr other ↦ elim (or_cases (has (λ (x : Execution). x.work) n q.executions) (has (λ (o : Outcome). o.work) n q.finished) other) [ inl r ↦ runs r | inr f ↦ finishes f ]
    ]

-- what moves between the three leaves all works there
kept-sound : (late after : Bool) (p : WorkPool) (queued : List ℕ) (executions : List Execution) (finished : List Outcome) (closing : Bool) → (after ≡ true → queued ≡ [])
    → WorksStandIn p (record p { queued = queued; executions = executions; finished = finished; closing = closing })
    → IsRising (λ (x : Execution). x.worker) executions → PoolSound late p
    → PoolSound after (record p { queued = queued; executions = executions; finished = finished; closing = closing })
kept-sound late after p queued executions finished closing none stood one s =
    record { none = none; rising = s.rising; issued = s.issued; there = λ n is. s.there n (stood n is); given = λ n is. s.given n (stood n is); executes = one }

or_false : (b : Bool) → (b || false) ≡ true → b ≡ true
or_false true h = refl
or_false false h = h

-- one more that is finished
last-finished : (os : List Outcome) (o : Outcome) (n : ℕ) → has (λ (x : Outcome). x.work) n (os ++ singleton o) ≡ true
    → (has (λ (x : Outcome). x.work) n os ≡ true) ⊎ (o.work ≡ n)
last-finished os o n is =
    elim (or_cases (has (λ (x : Outcome). x.work) n os) ((o.work == n) || false) (sym (list_any-append (λ (x : Outcome). x.work == n) os (singleton o)) ∙ is)) [
      | inl before ↦ inl before
      | inr last ↦ inr (same-tells o.work n (or_false (o.work == n) last))
    ]

-- CALLS
-- the id of a work that is created is that of no work
pub created-absent : (late : Bool) (p : WorkPool) (id : ℕ) → not (has_number id (0 ∷ p.issued)) ≡ true → PoolSound late p
    → has (λ (w : Work). w.id) id p.works ≡ false
created-absent late p id fresh s = list_any_none (λ (w : Work). w.id == id) p.works (λ k d inside. apart _ (s.issued k d inside))
  where
    negated : (b : Bool) → not b ≡ true → b ≡ false
    negated true h = cc
    negated false h = refl

    unissued : has_number id p.issued ≡ false
    unissued = (or_parts (0 == id) (has_number id p.issued) (negated (has_number id (0 ∷ p.issued)) fresh)).1

    apart : (m : ℕ) → has_number m p.issued ≡ true → (m == id) ≡ false
    apart m is = by (m == id) refl
      where
        by : (b : Bool) → (m == id) ≡ b → b ≡ false
        by true same = let no : true ≡ false = sym is ∙ ap (λ k. has_number k p.issued) (same-tells m id same) ∙ unissued in cc
        by false other = refl

pub created-sound : (late : Bool) (p : WorkPool) (id : ℕ) (job : JobSpec) (addon entry payload : ℕ) → not (has_number id (0 ∷ p.issued)) ≡ true
    → PoolSound late p
    → PoolSound late (with_work id job addon entry payload p)
created-sound late p id job addon entry payload fresh s = record {
  none = s.none;
  rising = rising-with_record (λ (w : Work). w.id) new p.works s.rising;
  issued =
      All-with_record (λ (w : Work). w.id) new (λ (w : Work). has_number w.id (with_number id p.issued) ≡ true) p.works
      (has-with_number id id p.issued ∙ or_left (id == id) _ (same-self id))
      (λ k d inside. has-with_number _ id p.issued ∙ or_right (id == _) _ (s.issued k d inside));
  there = λ n stood. list_any-with_record (λ (w : Work). w.id) new (has_work_number n) p.works (created-absent late p id fresh s) ∙ s.there n stood;
  given = s.given;
  executes = s.executes;
}
  where
    new : Work
    new = record { id = id; spec = job; addon = addon; entry = entry; payload = payload; number = None }

-- a work that may be deleted stands nowhere
standing-deletable : (q x f : Bool) → (q || (x || f)) ≡ true → is_deletable (cond q Queued (cond x Running (cond f Finished Completed))) ≡ false
standing-deletable true x f is = refl
standing-deletable false true f is = refl
standing-deletable false false true is = refl
standing-deletable false false false is = cc

pub deletable-apart : (p : WorkPool) (w : Work) (n : ℕ) → is_deletable (work_state p w) ≡ true → stands p n ≡ true → has_work_number n w ≡ false
deletable-apart p w n deletable is = by w.number refl deletable
  where
    numbered : (m : ℕ) (b : Bool) → (m == n) ≡ b → is_deletable (standing_at p m) ≡ true → b ≡ false
    numbered m false apart deletable = refl
    numbered m true same deletable =
        let here : stands p m ≡ true = ap (stands p) (same-tells m n same) ∙ is in
        sym deletable ∙ standing-deletable (has_number m p.queued) (has (λ (x : Execution). x.work) m p.executions) (has (λ (o : Outcome). o.work) m p.finished) here

    by : (o : Option ℕ) → w.number ≡ o → is_deletable (option_map_or (standing_at p) o Created) ≡ true → is_this_number n o ≡ false
    by None is deletable = refl
    by (Some m) is deletable = numbered m (m == n) refl deletable

pub deleted-sound : (late : Bool) (p : WorkPool) (id : ℕ) → work_refusal is_deletable p id ≡ None → PoolSound late p → PoolSound late (without_work id p)
deleted-sound late p id none s =
    let w : IsWork is_deletable p id = not-refused is_deletable p id none in
    let only : All (λ (y : Work). (y.id == id) ≡ true → y ≡ w.work) p.works = found-only (λ (y : Work). y.id) id p.works w.work s.rising w.there in
    record {
      none = s.none;
      rising = rising-filter (λ (y : Work). y.id) (λ y. not (y.id == id)) p.works s.rising;
      issued = All-filter (λ (y : Work). not (y.id == id)) (λ (y : Work). has_number y.id p.issued ≡ true) p.works s.issued;
      there =
          λ n stood. any-filter (has_work_number n) (λ (y : Work). not (y.id == id)) p.works
          (λ k d inside left. ap (has_work_number n) (only k d inside (negated _ left)) ∙ deletable-apart p w.work n w.state stood) (s.there n stood);
      given = s.given;
      executes = s.executes;
    }
  where
    negated : (b : Bool) → not b ≡ false → b ≡ true
    negated true h = refl
    negated false h = cc

pub cancelled-sound : (late : Bool) (p : WorkPool) (id : ℕ) → work_refusal is_queued p id ≡ None → PoolSound late p → PoolSound late (with_cancelled id p)
cancelled-sound late p id none s =
    let w : IsWork is_queued p id = not-refused is_queued p id none in
    let k : WorkWaits p w.work = queued-waits p w.work w.state in
    let number : number_of_work p id ≡ Some k.number = ap (λ o. option_and_then (λ (v : Work). v.number) o) w.there ∙ k.is in
    subst (λ o. PoolSound late (cancelled_at o p)) (sym number)
    (kept-sound late late p (filter (λ m. not (m == k.number)) p.queued) p.executions (p.finished ++ singleton (cancelled_outcome k.number)) p.closing
    (λ l. ap (λ ns. filter (λ m. not (m == k.number)) ns) (s.none l)) (stood k.number k.waits) s.executes s)
  where
    stood : (k : ℕ) → has_number k p.queued ≡ true → WorksStandIn p (cancelled_at (Some k) p)
    stood k waits n =
        by-standing (cancelled_at (Some k) p) n (stands p n ≡ true) (λ h. waits-stands p n (any-of_filter (λ m. m == n) (λ m. not (m == k)) p.queued h)) (runs-stands p n)
        (λ h. elim (last-finished p.finished (cancelled_outcome k) n h) [
          | inl before ↦ finished-stands p n before
          | inr same ↦ waits-stands p n (sym (ap (λ m. has_number m p.queued) same) ∙ waits)
        ])

-- a work that is not queued yet has no number
pub created-none : (p : WorkPool) (w : Work) → is_created (work_state p w) ≡ true → w.number ≡ None
created-none p w is = by w.number refl is
  where
    never : (q x f : Bool) → is_created (cond q Queued (cond x Running (cond f Finished Completed))) ≡ false
    never true x f = refl
    never false true f = refl
    never false false true = refl
    never false false false = refl

    by : (o : Option ℕ) → w.number ≡ o → is_created (option_map_or (standing_at p) o Created) ≡ true → w.number ≡ None
    by None numbered is = numbered
    by (Some n) numbered is =
        let no : false ≡ true = sym (never (has_number n p.queued) (has (λ (x : Execution). x.work) n p.executions) (has (λ (o : Outcome). o.work) n p.finished)) ∙ is in cc

-- one number more stands
queued-standing : (p : WorkPool) (id n : ℕ) (P : Type 0) → (stands p n ≡ true → P) → (new_number p ≡ n → P) → stands (with_queued id p) n ≡ true → P
queued-standing p id n P old new =
    by-standing (with_queued id p) n P
    (λ h. elim (or_cases (has_number n p.queued) ((new_number p == n) || false) (sym (list_any-append (λ m. m == n) p.queued (singleton (new_number p))) ∙ h)) [
      | inl before ↦ old (waits-stands p n before)
      | inr last ↦ new (same-tells (new_number p) n (or_false (new_number p == n) last))
    ])
    (λ h. old (runs-stands p n h)) (λ h. old (finished-stands p n h))

pub queued-sound : (late : Bool) (p : WorkPool) (id : ℕ) → work_refusal is_created p id ≡ None → (late ≡ true → ⊥) → PoolSound late p → PoolSound late (with_queued id p)
queued-sound late p id none early s =
    let w : IsWork is_created p id = not-refused is_created p id none in
    let only : All (λ (y : Work). (y.id == id) ≡ true → y ≡ w.work) p.works = found-only (λ (y : Work). y.id) id p.works w.work s.rising w.there in
    record {
      none = λ l. absurd (early l);
      rising = rising-changed (λ (y : Work). y.id) numbered same-id p.works s.rising;
      issued = All-map (λ (y : Work). has_number y.id p.issued ≡ true) numbered p.works (λ k d inside. ap (λ m. has_number m p.issued) (same-id _) ∙ s.issued k d inside);
      there = λ n.
          let old : stands p n ≡ true → list_any (has_work_number n) (map numbered p.works) ≡ true =
          λ stood. any-mapped (has_work_number n) numbered p.works (λ k d inside. unnumbered n _ w.work (created-none p w.work w.state) (only k d inside)) (s.there n stood) in
          queued-standing p id n (list_any (has_work_number n) (map numbered p.works) ≡ true) old
          (λ same. any-map (has_work_number n) numbered p.works
          ∙ found-any (λ (y : Work). y.id) (λ y. has_work_number n (numbered y)) id p.works w.work w.there
          (passes n w.work w.there (eq-eqb (new_number p) n same)));
      given = λ n. queued-standing p id n (n ≤ new_number p) (λ stood. omega (arith, s.given n stood)) (λ same. omega (arith, same));
      executes = s.executes;
    }
  where
    numbered : Work → Work
    numbered y = cond (y.id == id) (record y { number = Some (new_number p) }) y

    same-id : (y : Work) → (numbered y).id ≡ y.id
    same-id y = by (y.id == id)
      where
        by : (b : Bool) → (cond b (record y { number = Some (new_number p) }) y).id ≡ y.id
        by true = refl
        by false = refl

    unnumbered : (n : ℕ) (y v : Work) → v.number ≡ None → ((y.id == id) ≡ true → y ≡ v) → has_work_number n y ≡ true → has_work_number n (numbered y) ≡ true
    unnumbered n y v none same is = by (y.id == id) refl
      where
        by : (b : Bool) → (y.id == id) ≡ b → has_work_number n (cond b (record y { number = Some (new_number p) }) y) ≡ true
        by true here = let no : false ≡ true = sym (ap (has_work_number n) (same here) ∙ ap (is_this_number n) none) ∙ is in cc
        by false other = is

    passes : (n : ℕ) (v : Work) → found (λ (y : Work). y.id) id p.works ≡ Some v → (new_number p == n) ≡ true → has_work_number n (numbered v) ≡ true
    passes n v there is =
        ap (λ b. has_work_number n (cond b (record v { number = Some (new_number p) }) v))
        (ap (λ m. m == id) (found-number (λ (y : Work). y.id) id p.works v there) ∙ same-self id) ∙ is

-- WORKERS
-- a worker that executes nothing is not there
pub executes-none : (p : WorkPool) (w : ℕ) → is_none (executed_by p w) ≡ true → has (λ (x : Execution). x.worker) w p.executions ≡ false
executes-none p w free = has-found (λ (x : Execution). x.worker) w p.executions ∙ by (found (λ (x : Execution). x.worker) w p.executions) free
  where
    by : (o : Option Execution) → is_none (option_map (λ (x : Execution). x.work) o) ≡ true → is_some o ≡ false
    by None free = refl
    by (Some x) free = cc

pub started-sound : (late : Bool) (p : WorkPool) (w n : ℕ) (later : List ℕ) → p.queued ≡ n ∷ later → is_none (executed_by p w) ≡ true → PoolSound late p → PoolSound late (with_started w p)
started-sound late p w n later waits free s =
    subst (λ ns. PoolSound late (started_from ns w p)) (sym waits)
    (kept-sound late late p later (with_record (λ (x : Execution). x.worker) (record { worker = w; work = n }) p.executions) p.finished p.closing
    (λ l. let no : n ∷ later ≡ [] = sym waits ∙ s.none l in cc) stood
    (rising-with_record (λ (x : Execution). x.worker) (record { worker = w; work = n }) p.executions s.executes) s)
  where
    stood : WorksStandIn p (started_from (n ∷ later) w p)
    stood m =
        by-standing (started_from (n ∷ later) w p) m (stands p m ≡ true) (λ h. waits-stands p m (ap (has_number m) waits ∙ or_right (n == m) (has_number m later) h))
        (λ h. elim (or_cases (n == m) (has (λ (x : Execution). x.work) m p.executions)
        (sym (list_any-with_record (λ (x : Execution). x.worker) (record { worker = w; work = n }) (λ (x : Execution). x.work == m) p.executions (executes-none p w free)) ∙ h)) [
          | inl same ↦ waits-stands p m (ap (has_number m) waits ∙ or_left (n == m) (has_number m later) same)
          | inr before ↦ runs-stands p m before
        ]) (finished-stands p m)

-- the work that a worker executes is one that runs
pub executes-work : (p : WorkPool) (w n : ℕ) → executed_by p w ≡ Some n → has (λ (x : Execution). x.work) n p.executions ≡ true
executes-work p w n runs = by (found (λ (x : Execution). x.worker) w p.executions) refl runs
  where
    by : (o : Option Execution) → found (λ (x : Execution). x.worker) w p.executions ≡ o → option_map (λ (x : Execution). x.work) o ≡ Some n
        → has (λ (x : Execution). x.work) n p.executions ≡ true
    by None is none = let no : ⊥ = cc in absurd no
    by (Some x) is some =
        let work : x.work ≡ n = cc in
        found-any (λ (y : Execution). y.worker) (λ (y : Execution). y.work == n) w p.executions x is (ap (λ m. m == n) work ∙ same-self n)

pub worked-sound : (late : Bool) (p : WorkPool) (w n : ℕ) → executed_by p w ≡ Some n → PoolSound late p → PoolSound late (with_finished w p)
worked-sound late p w n runs s =
    subst (λ o. PoolSound late (finished_at w o p)) (sym runs)
    (kept-sound late late p p.queued (filter (λ (x : Execution). not (x.worker == w)) p.executions) (finished_at w (Some n) p).finished p.closing s.none stood
    (rising-filter (λ (x : Execution). x.worker) (λ x. not (x.worker == w)) p.executions s.executes) s)
  where
    stood : WorksStandIn p (finished_at w (Some n) p)
    stood m =
        by-standing (finished_at w (Some n) p) m (stands p m ≡ true) (waits-stands p m)
        (λ h. runs-stands p m (any-of_filter (λ (x : Execution). x.work == m) (λ (x : Execution). not (x.worker == w)) p.executions h))
        (λ h. elim (last-finished p.finished _ m h) [
          | inl before ↦ finished-stands p m before
          | inr same ↦ runs-stands p m (sym (ap (λ k. has (λ (x : Execution). x.work) k p.executions) same) ∙ executes-work p w n runs)
        ])

-- COMPLETION, AND THE DRAIN
pub completed-sound : (late : Bool) (p : WorkPool) → PoolSound late p → PoolSound late (with_completed p)
completed-sound late p s =
    kept-sound late late p p.queued p.executions (tail p.finished) p.closing s.none
    (λ m. by-standing (with_completed p) m (stands p m ≡ true) (waits-stands p m) (runs-stands p m) (λ h. finished-stands p m (rest (λ (o : Outcome). o.work == m) p.finished h))) s.executes s
  where
    rest : (test : Outcome → Bool) (os : List Outcome) → list_any test (tail os) ≡ true → list_any test os ≡ true
    rest test [] h = h
    rest test (o ∷ os) h = or_right (test o) (list_any test os) h

pub drained-sound : (late after : Bool) (p : WorkPool) → PoolSound late p → PoolSound after (drained p)
drained-sound late after p s =
    kept-sound late after p [] p.executions (p.finished ++ map cancelled_outcome p.queued) true (λ l. refl)
    (λ m. by-standing (drained p) m (stands p m ≡ true) (λ h. let no : false ≡ true = h in cc) (runs-stands p m)
    (λ h. elim (or_cases (has (λ (o : Outcome). o.work) m p.finished) (has (λ (o : Outcome). o.work) m (map cancelled_outcome p.queued))
    (sym (list_any-append (λ (o : Outcome). o.work == m) p.finished (map cancelled_outcome p.queued)) ∙ h)) [
      | inl before ↦ finished-stands p m before
      | inr cancelled ↦ waits-stands p m (sym (any-map (λ (o : Outcome). o.work == m) cancelled_outcome p.queued) ∙ cancelled)
    ])) s.executes s

pub fewer-late : (late early : Bool) (p : WorkPool) → (early ≡ true → late ≡ true) → PoolSound late p → PoolSound early p
fewer-late late early p implies s =
    record { none = λ e. s.none (implies e); rising = s.rising; issued = s.issued; there = s.there; given = s.given; executes = s.executes }

-- a work that stands is there
pub stands-there : (late : Bool) (p : WorkPool) (n : ℕ) → stands p n ≡ true → PoolSound late p → is_some (work_numbered p n) ≡ true
stands-there late p n stood s = any-find (has_work_number n) p.works (s.there n stood)
  where
    any-find : (test : Work → Bool) (ws : List Work) → list_any test ws ≡ true → is_some (find test ws) ≡ true
    any-find test [] there = there
    any-find test (w ∷ ws) there = by (test w) there (any-find test ws)
      where
        by : (b : Bool) → (b || list_any test ws) ≡ true → (list_any test ws ≡ true → is_some (find test ws) ≡ true) → is_some (cond b (Some w) (find test ws)) ≡ true
        by true there rest = refl
        by false there rest = rest there

-- as is one that is finished
pub finished-there : (late : Bool) (p : WorkPool) (o : Outcome) (os : List Outcome) → p.finished ≡ o ∷ os → PoolSound late p
    → is_some (work_numbered p o.work) ≡ true
finished-there late p o os first s =
    stands-there late p o.work
    (finished-stands p o.work (ap (has (λ (x : Outcome). x.work) o.work) first ∙ or_left (o.work == o.work) (has (λ (x : Outcome). x.work) o.work os) (same-self o.work))) s
