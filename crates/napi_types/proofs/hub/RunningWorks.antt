-- While a worker executes a work, no entry of another actor changes that: over every history that replays.
use Rattle.std.proofs.Common.{◌≡◌, ◌∙◌, ◌≤◌, ℕ, ◌+◌, ◌==◌, nat_lt, Bool, true, false, not, cond, List, [], ◌∷◌, ◌++◌, map, filter, refl, ap, sym, arith, Option, Some, None, is_some}
use Rattle.std.specs.List.{All, find}
use Rattle.std.specs.Option.{option_map_or}
use Rattle.std.proofs.lemmas.Bool.Decides.{nat_tests}
use Rattle.std.proofs.lemmas.List.Elements.{All-head, All-tail}
use Rattle.napi_types.specs.declared.call.Call.{Call}
use Rattle.napi_types.specs.declared.call.Call.TheVariants as call
use Rattle.napi_types.specs.declared.call.JobSpec.{JobSpec}
use Rattle.napi_types.specs.declared.entry.Duty.{Duty}
use Rattle.napi_types.specs.declared.entry.Duty.TheVariants as duty
use Rattle.napi_types.specs.declared.entry.Entry.{Entry}
use Rattle.napi_types.specs.declared.entry.Out.{Out}
use Rattle.napi_types.specs.declared.entry.Out.TheVariants as out
use Rattle.napi_types.specs.declared.entry.What.TheVariants as what
use Rattle.napi_types.specs.plain.Lists.{has_number}
use Rattle.napi_types.specs.parts.Jobs.{job_value}
use Rattle.napi_types.specs.parts.Pool.{WorkPool, work_numbered, work_refusal, executed_by, number_of_work, with_work, without_work, new_number, with_queued, cancelled_at, started_from, finished_at}
use Rattle.napi_types.specs.parts.Works.{Work, is_created, is_deletable, is_this_number, has_work_number}
use Rattle.napi_types.specs.hub.Actors.{is_worker}
use Rattle.napi_types.specs.hub.GivenSteps.{is_fresh_work, work_number}
use Rattle.napi_types.specs.hub.HistoryLaws.{StaysRunning, RunningStaysRunning}
use Rattle.napi_types.specs.hub.Hub.{Hub, is_past_drain}
use Rattle.napi_types.specs.hub.HubMoves.{without_duty}
use Rattle.napi_types.specs.hub.HubSteps.{IsHubNext, hub_step}
use Rattle.napi_types.proofs.plain.Found.{parts-rising}
use Rattle.napi_types.proofs.hub.HubCases.{HubCase, creates_work, deletes_work, cancels_work, queues_work, delivers, starts, finishes_work, hub-case}
use Rattle.napi_types.proofs.hub.HubHolds.{HubSound, next-told, led-sound}
use Rattle.napi_types.proofs.hub.HubPools.{PoolSound, stands, found-only, runs-stands, created-absent, deletable-apart, created-none, executes-work, stands-there}
use Rattle.napi_types.proofs.hub.HubRooms.{IsWork, not-refused}
use Rattle.napi_types.proofs.hub.WorkerTurns.{others-leave}

-- LISTS
-- where none but those that pass are looked for, the others may be left out
find-kept : {A : Type 0} (q p : A → Bool) (xs : List A) → All (λ x. q x ≡ true → p x ≡ true) xs → find q (filter p xs) ≡ find q xs
find-kept q p [] all = refl
find-kept q p (x ∷ xs) all =
    by (q x) refl (All-head (λ y. q y ≡ true → p y ≡ true) x xs all) (find-kept q p xs (All-tail (λ y. q y ≡ true → p y ≡ true) x xs all))
  where
    by : (a : Bool) → q x ≡ a → (q x ≡ true → p x ≡ true) → find q (filter p xs) ≡ find q xs
        → find q (cond (p x) (x ∷ filter p xs) (filter p xs)) ≡ cond a (Some x) (find q xs)
    by true is passes rest = ap (λ c. find q (cond c (x ∷ filter p xs) (filter p xs))) (passes is) ∙ ap (λ c. cond c (Some x) (find q (filter p xs))) is
    by false is passes rest = either (p x) is ∙ rest
      where
        either : (c : Bool) → q x ≡ false → find q (cond c (x ∷ filter p xs) (filter p xs)) ≡ find q (filter p xs)
        either true is = ap (λ d. cond d (Some x) (find q (filter p xs))) is
        either false is = refl

-- the same is found where what is changed is not looked for, before or after
find-changed : {A : Type 0} (q : A → Bool) (f : A → A) (xs : List A) → All (λ x. (q (f x) ≡ q x) × (q x ≡ true → f x ≡ x)) xs → find q (map f xs) ≡ find q xs
find-changed q f [] all = refl
find-changed q f (x ∷ xs) all =
    let here = All-head (λ y. (q (f y) ≡ q y) × (q y ≡ true → f y ≡ y)) x xs all in
    by (q x) refl here.0 here.1 (find-changed q f xs (All-tail (λ y. (q (f y) ≡ q y) × (q y ≡ true → f y ≡ y)) x xs all))
  where
    by : (a : Bool) → q x ≡ a → q (f x) ≡ q x → (q x ≡ true → f x ≡ x) → find q (map f xs) ≡ find q xs
        → cond (q (f x)) (Some (f x)) (find q (map f xs)) ≡ cond a (Some x) (find q xs)
    by true is same stays rest = ap (λ c. cond c (Some (f x)) (find q (map f xs))) (same ∙ is) ∙ ap (λ y. Some y) (stays is)
    by false is same stays rest = ap (λ c. cond c (Some (f x)) (find q (map f xs))) (same ∙ is) ∙ rest

-- nor is one found that is put among them and does not pass
find-among : {A : Type 0} (q : A → Bool) (x : A) (xs ys : List A) → q x ≡ false → find q (xs ++ x ∷ ys) ≡ find q (xs ++ ys)
find-among q x [] ys fails = ap (λ c. cond c (Some x) (find q ys)) fails
find-among q x (y ∷ xs) ys fails = ap (λ o. cond (q y) (Some y) o) (find-among q x xs ys fails)

-- A WORK THAT STANDS STAYS AS IT IS
-- its number finds what it found
abbrev FindsSame : ℕ → WorkPool → WorkPool → Type 0
FindsSame n old new = work_numbered new n ≡ work_numbered old n

-- a work that is created has no number
created-same : (late : Bool) (p : WorkPool) (id : ℕ) (spec : JobSpec) (addon entry payload n : ℕ) → not (has_number id (0 ∷ p.issued)) ≡ true → PoolSound late p
    → FindsSame n p (with_work id spec addon entry payload p)
created-same late p id spec addon entry payload n fresh s =
    find-among (has_work_number n) (record { id = id; spec = spec; addon = addon; entry = entry; payload = payload; number = None })
    (filter (λ (w : Work). nat_lt w.id id) p.works) (filter (λ (w : Work). nat_lt id w.id) p.works) refl
    ∙ ap (find (has_work_number n)) (parts-rising (λ (w : Work). w.id) id p.works s.rising (created-absent late p id fresh s))

-- one that is deleted does not stand
deleted-same : (late : Bool) (p : WorkPool) (id n : ℕ) → work_refusal is_deletable p id ≡ None → stands p n ≡ true → PoolSound late p
    → FindsSame n p (without_work id p)
deleted-same late p id n none stood s = find-kept (has_work_number n) (λ (w : Work). not (w.id == id)) p.works (λ i d inside. other _ (only i d inside))
  where
    k : IsWork is_deletable p id
    k = not-refused is_deletable p id none

    only : All (λ (w : Work). (w.id == id) ≡ true → w ≡ k.work) p.works
    only = found-only (λ (w : Work). w.id) id p.works k.work s.rising k.there

    other : (w : Work) → ((w.id == id) ≡ true → w ≡ k.work) → has_work_number n w ≡ true → not (w.id == id) ≡ true
    other w same is = by (w.id == id) same
      where
        by : (b : Bool) → (b ≡ true → w ≡ k.work) → not b ≡ true
        by true same = let no : false ≡ true = sym (deletable-apart p k.work n k.state stood) ∙ sym (ap (has_work_number n) (same refl)) ∙ is in cc
        by false same = refl

-- and one that is queued gets a number that does not stand
queued-same : (late : Bool) (p : WorkPool) (id n : ℕ) → work_refusal is_created p id ≡ None → stands p n ≡ true → PoolSound late p
    → FindsSame n p (with_queued id p)
queued-same late p id n none stood s =
    find-changed (has_work_number n) (λ (w : Work). cond (w.id == id) (record w { number = Some (new_number p) }) w) p.works
    (λ i d inside. unchanged _ (only i d inside))
  where
    k : IsWork is_created p id
    k = not-refused is_created p id none

    only : All (λ (w : Work). (w.id == id) ≡ true → w ≡ k.work) p.works
    only = found-only (λ (w : Work). w.id) id p.works k.work s.rising k.there

    above : (m n : ℕ) → n ≤ m → (m + 1 == n) ≡ false
    above m n below = grind (arith, nat_tests)

    unchanged : (w : Work) → ((w.id == id) ≡ true → w ≡ k.work)
        → (has_work_number n (cond (w.id == id) (record w { number = Some (new_number p) }) w) ≡ has_work_number n w)
        × (has_work_number n w ≡ true → cond (w.id == id) (record w { number = Some (new_number p) }) w ≡ w)
    unchanged w same = by (w.id == id) same
      where
        by : (b : Bool) → (b ≡ true → w ≡ k.work)
            → (has_work_number n (cond b (record w { number = Some (new_number p) }) w) ≡ has_work_number n w)
            × (has_work_number n w ≡ true → cond b (record w { number = Some (new_number p) }) w ≡ w)
        by true same =
            let not-it : has_work_number n w ≡ false = ap (has_work_number n) (same refl) ∙ ap (is_this_number n) (created-none p k.work k.state) in
            (above p.numbered n (s.given n stood) ∙ sym not-it, λ its. (let no : true ≡ false = sym its ∙ not-it in cc))
        by false same = (refl, λ its. refl)

-- whatever else happens leaves the works
cancelled-works : (p : WorkPool) (o : Option ℕ) → (cancelled_at o p).works ≡ p.works
cancelled-works p None = refl
cancelled-works p (Some n) = refl

started-works : (w : ℕ) (p : WorkPool) (ns : List ℕ) → (started_from ns w p).works ≡ p.works
started-works w p [] = refl
started-works w p (n ∷ ns) = refl

finished-works : (w : ℕ) (p : WorkPool) (o : Option ℕ) → (finished_at w o p).works ≡ p.works
finished-works w p None = refl
finished-works w p (Some n) = refl

delivered-works : (d : Duty) (h : Hub) → (without_duty d h).pool.works ≡ h.pool.works
delivered-works (duty.Work n) h = refl
delivered-works _ h = refl

-- EACH ENTRY
case-same : (h : Hub) (x : Entry) (told : Out) (n : Hub) (m : ℕ) → ((c : Call) → x.what ≡ what.Call c → told ≡ x.reply.out) → HubSound h
    → stands h.pool m ≡ true
    → HubCase h x told n → FindsSame m h.pool n.pool
case-same h x told _ m given s stood (creates_work job entry payload addon is fresh tells) =
    let work : out.Work (record { 0 = work_number x.reply.out }) ≡ x.reply.out = sym tells ∙ given (call.CreateAsyncWork job entry payload) is in
    created-same (is_past_drain h.stage) h.pool (work_number x.reply.out) job addon entry payload m (ap (is_fresh_work h) work ∙ fresh) s.pool
case-same h x told _ m given s stood (deletes_work w is none) = deleted-same (is_past_drain h.stage) h.pool w.0 m none stood s.pool
case-same h x told _ m given s stood (queues_work w is none early) = queued-same (is_past_drain h.stage) h.pool w.0 m none stood s.pool
case-same h x told _ m given s stood (cancels_work w is none) = ap (find (has_work_number m)) (cancelled-works h.pool (number_of_work h.pool w.0))
case-same h x told _ m given s stood (delivers d is next alone) = ap (find (has_work_number m)) (delivered-works d.duty h)
case-same h x told _ m given s stood (starts w k later is waits free) = ap (find (has_work_number m)) (started-works w h.pool h.pool.queued)
case-same h x told _ m given s stood (finishes_work w k is runs) = ap (find (has_work_number m)) (finished-works w h.pool (executed_by h.pool w))
case-same h x told _ m given s stood _ = refl

-- A WORK THAT IS EXECUTED
stays-running : (h : Hub) (w n : ℕ) (x : Entry) → HubSound h → IsHubNext h x → is_worker w x.actor ≡ false → executed_by h.pool w ≡ Some n
    → StaysRunning w n h (hub_step h x).after
stays-running h w n x s next other runs =
    let stood : stands h.pool n ≡ true = runs-stands h.pool n (executes-work h.pool w n runs) in
    let same : work_numbered (hub_step h x).after.pool n ≡ work_numbered h.pool n =
    case-same h x (hub_step h x).entry.reply.out (hub_step h x).after n (next-told h x next) s stood (hub-case h x next.may) in
    record {
      executed = (others-leave w h x other next.may).executed ∙ runs;
      there = ap is_some same ∙ stands-there (is_past_drain h.stage) h.pool n stood s.pool;
      work = same;
      value = ap (λ o. option_map_or (λ (v : Work). job_value v.spec) o 0) same;
    }

pub running-stays-running : RunningStaysRunning
running-stays-running limit threads workers w n history h x leads next other runs =
    stays-running h w n x (led-sound limit threads workers history h leads) next other runs
