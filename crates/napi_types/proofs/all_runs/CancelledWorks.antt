-- A work that was cancelled stays so until its completion begins, and never starts.
use Rattle.std.proofs.Common.{◌≡◌, ◌∙◌, ℕ, ◌+◌, ◌-◌, ◌≤◌, ◌==◌, Bool, true, false, ◌&&◌, ◌||◌, List, [], ◌∷◌, ◌++◌, map, refl, ap, sym, subst, arith, Option}
use Rattle.std.specs.List.{count_by, list_any}
use Rattle.napi_types.specs.declared.call.Ask.{Ask}
use Rattle.napi_types.specs.declared.entry.Duty.{Duty}
use Rattle.napi_types.specs.declared.entry.Duty.TheVariants as duty
use Rattle.napi_types.specs.declared.entry.Entry.{Entry}
use Rattle.napi_types.specs.declared.entry.Limits.{Limits}
use Rattle.napi_types.specs.declared.status.Status.{Status}
use Rattle.napi_types.specs.declared.status.Status.TheVariants as status
use Rattle.napi_types.specs.plain.Entries.{begun_duty}
use Rattle.napi_types.specs.plain.Lists.{tail, singleton}
use Rattle.napi_types.specs.plain.Room.{one_if}
use Rattle.napi_types.specs.parts.Pool.{WorkPool, started_from, finished_at, value_of_work}
use Rattle.napi_types.specs.parts.Works.{Outcome, cancelled_outcome, is_cancelled}
use Rattle.napi_types.specs.hub.Hub.{Hub}
use Rattle.napi_types.specs.runs.Machine.{Machine}
use Rattle.napi_types.specs.runs.Run.{IsRunBy, after, final}
use Rattle.napi_types.specs.runs.Setting.{opening_of, final_of}
use Rattle.napi_types.specs.all_runs.Counts.{is_duty, made, begun, started, begun_cancelled, begun_uncancelled, TellsStarts}
use Rattle.napi_types.specs.all_runs.OnceLaws.{CancelledWorksNeverStart}
use Rattle.napi_types.proofs.plain.Tallies.{tally-cons, tally-append}
use Rattle.napi_types.proofs.hub.HubDutySteps.{HubDutyStep, keeps, queues, cancels, starts, works, drains, creates, changes, completes}
use Rattle.napi_types.proofs.runs.Runs.{along-entries}
use Rattle.napi_types.proofs.all_runs.DutySides.{HubSide, in_journal, in_history}
use Rattle.napi_types.proofs.all_runs.HubAccounts.{Accountable, along-accountable, opens-accountable, run-accountable}
use Rattle.napi_types.proofs.all_runs.OncePlaces.{both, each-place, final-empty, none-counted, starts-told}

abbrev is_cancelled_work : ℕ → Outcome → Bool
is_cancelled_work k o = (k == o.work) && is_cancelled o.status

abbrev cancelled_in : ℕ → WorkPool → ℕ
cancelled_in k p = count_by (is_cancelled_work k) p.finished

-- 1 where the completion begins as one that was cancelled
abbrev leaving : ℕ → Option Duty → Status → ℕ
leaving k begun s = one_if (is_duty (duty.Work k) begun && is_cancelled s)

-- A STEP
at-least : (k : ℕ) (os more : List Outcome) (n : ℕ) → count_by (is_cancelled_work k) os ≤ count_by (is_cancelled_work k) (os ++ more) + n
at-least k os more n =
    let sum : count_by (is_cancelled_work k) (os ++ more) ≡ count_by (is_cancelled_work k) os + count_by (is_cancelled_work k) more = tally-append (is_cancelled_work k) os more in
    by (count_by (is_cancelled_work k) os) (count_by (is_cancelled_work k) more) (count_by (is_cancelled_work k) (os ++ more)) sum
  where
    by : (a b c : ℕ) → c ≡ a + b → a ≤ c + n
    by a b c h = omega (arith, h)

stays : (k : ℕ) (p q : WorkPool) (n : ℕ) → q.finished ≡ p.finished → cancelled_in k p ≤ cancelled_in k q + n
stays k p q n same = by (cancelled_in k p) (cancelled_in k q) (ap (count_by (is_cancelled_work k)) same)
  where
    by : (a b : ℕ) → b ≡ a → a ≤ b + n
    by a b h = omega (arith, h)

step-keeps : (k : ℕ) (h : Hub) (made begun started : Option Duty) (s : Status) (n : Hub) → HubDutyStep h made begun started s n
    → cancelled_in k h.pool ≤ cancelled_in k n.pool + leaving k begun s
step-keeps k h _ _ _ _ _ (keeps s n e) = stays k h.pool n.pool _ e.finished
step-keeps k h _ _ _ _ _ (queues s id) = stays k h.pool h.pool _ refl
step-keeps k h _ _ _ _ _ (cancels s m n waits is) =
    subst (λ (g : Hub). cancelled_in k h.pool ≤ cancelled_in k g.pool + 0) (sym is) (at-least k h.pool.finished (singleton (cancelled_outcome m)) 0)
step-keeps k h _ _ _ _ _ (starts s w m later waits free) =
    subst (λ ns. cancelled_in k h.pool ≤ cancelled_in k (started_from ns w h.pool) + 0) (sym waits) (stays k h.pool h.pool 0 refl)
step-keeps k h _ _ _ _ _ (works s w m runs) =
    subst (λ o. cancelled_in k h.pool ≤ cancelled_in k (finished_at w o h.pool) + 0) (sym runs)
    (at-least k h.pool.finished (singleton (record { work = m; status = status.Ok; value = value_of_work h.pool m })) 0)
step-keeps k h _ _ _ _ _ (drains s n pool functions) =
    subst (λ (p : WorkPool). cancelled_in k h.pool ≤ cancelled_in k p + 0) (sym pool) (at-least k h.pool.finished (map cancelled_outcome h.pool.queued) 0)
step-keeps k h _ _ _ _ _ (creates s addon target maximum count finalizer context) = stays k h.pool h.pool _ refl
step-keeps k h _ _ _ _ _ (changes s f change made begun n there how pool functions) = stays k h.pool n.pool _ (ap (λ (p : WorkPool). p.finished) pool)
step-keeps k h _ _ _ _ _ (completes o os n first pool functions) =
    subst (λ (p : WorkPool). cancelled_in k h.pool ≤ cancelled_in k p + one_if (is_cancelled_work k o)) (sym pool)
    (by (cancelled_in k h.pool) (one_if (is_cancelled_work k o)) (count_by (is_cancelled_work k) os) (count_by (is_cancelled_work k) (tail h.pool.finished))
    (ap (count_by (is_cancelled_work k)) first ∙ tally-cons (is_cancelled_work k) o os) (ap (λ l. count_by (is_cancelled_work k) (tail l)) first))
  where
    by : (a b c d : ℕ) → a ≡ b + c → d ≡ c → a ≤ d + b
    by a b c d h j = omega (arith, h, j)

abbrev begins_cancelled : ℕ → Entry → Bool
begins_cancelled k x = is_duty (duty.Work k) (begun_duty x.what x.reply.out) && is_cancelled x.reply.status

side-keeps : (k : ℕ) (h : Hub) (x : Entry) (n : Hub) → HubSide h x n → cancelled_in k h.pool ≤ cancelled_in k n.pool + one_if (begins_cancelled k x)
side-keeps k h x _ (in_journal n same spares) = stays k h.pool n.pool _ (ap (λ (g : Hub). g.pool.finished) same)
side-keeps k h x _ (in_history n undropped step) = step-keeps k h _ _ _ _ n step

-- A RUN
run-keeps : (k : ℕ) (l : Limits) (m : Machine) (bs : List Ask) (xs : List Entry) → Accountable l m → IsRunBy m bs xs
    → cancelled_in k m.hub.pool ≤ cancelled_in k (final m bs xs).hub.pool + begun_cancelled (duty.Work k) xs
run-keeps k l =
    along-accountable l (λ m bs xs. cancelled_in k m.hub.pool ≤ cancelled_in k (final m bs xs).hub.pool + begun_cancelled (duty.Work k) xs)
    (λ m. stays k m.hub.pool m.hub.pool 0 refl)
    (λ m b bs x xs a next side later.
    let first : cancelled_in k m.hub.pool ≤ cancelled_in k (after m b x).hub.pool + one_if (begins_cancelled k x) = side-keeps k m.hub x (after m b x).hub side in
    by (cancelled_in k m.hub.pool) (cancelled_in k (after m b x).hub.pool) (cancelled_in k (final (after m b x) bs xs).hub.pool) (one_if (begins_cancelled k x))
    (begun_cancelled (duty.Work k) xs) (begun_cancelled (duty.Work k) (x ∷ xs)) first later (tally-cons (begins_cancelled k) x xs))
  where
    by : (a b c d e f : ℕ) → a ≤ b + d → b ≤ c + e → f ≡ d + e → a ≤ c + f
    by a b c d e f h j i = omega (arith, h, j, i)

-- a run that goes on
pub later-run : (m : Machine) (bs cs : List Ask) (xs ys : List Entry) → IsRunBy m bs xs → IsRunBy m (bs ++ cs) (xs ++ ys) → IsRunBy (final m bs xs) cs ys
later-run m bs cs xs ys first whole =
    along-entries (λ m bs xs. IsRunBy m (bs ++ cs) (xs ++ ys) → IsRunBy (final m bs xs) cs ys) (λ m whole. whole)
    (λ m b bs x xs next rest whole. rest whole.1) m bs xs first whole

pub later-final : (m : Machine) (bs cs : List Ask) (xs ys : List Entry) → IsRunBy m bs xs → final m (bs ++ cs) (xs ++ ys) ≡ final (final m bs xs) cs ys
later-final m bs cs xs ys first =
    along-entries (λ m bs xs. final m (bs ++ cs) (xs ++ ys) ≡ final (final m bs xs) cs ys) (λ m. refl) (λ m b bs x xs next rest. rest) m bs xs first

counted-once : (p : Outcome → Bool) (os : List Outcome) → list_any p os ≡ true → 1 ≤ count_by p os
counted-once p [] is = let no : false ≡ true = is in cc
counted-once p (o ∷ os) is = by (p o) refl is (counted-once p os)
  where
    by : (b : Bool) → p o ≡ b → (b || list_any p os) ≡ true → (list_any p os ≡ true → 1 ≤ count_by p os) → 1 ≤ count_by p (o ∷ os)
    by true here is rest =
        let first : count_by p (o ∷ os) ≡ 1 + count_by p os = tally-cons p o os ∙ ap (λ c. one_if c + count_by p os) here in omega (arith, first)
    by false here is rest =
        let first : count_by p (o ∷ os) ≡ 0 + count_by p os = tally-cons p o os ∙ ap (λ c. one_if c + count_by p os) here in
        let later : 1 ≤ count_by p os = rest is in
        omega (arith, first, later)

pub cancelled-once : CancelledWorksNeverStart
cancelled-once s bs cs xs ys n prefix whole stands =
    let m : Machine = final_of s bs xs in
    let a : Accountable s.limits m = run-accountable s.limits (opening_of s) bs xs (opens-accountable s) prefix in
    let some : 1 ≤ cancelled_in n m.hub.pool = counted-once (is_cancelled_work n) m.hub.pool.finished stands in
    let kept : cancelled_in n m.hub.pool ≤ cancelled_in n (final m cs ys).hub.pool + begun_cancelled (duty.Work n) ys =
    run-keeps n s.limits m cs ys a (later-run (opening_of s) bs cs xs ys prefix whole.run.steps) in
    let none : cancelled_in n (final m cs ys).hub.pool ≡ 0 =
    ap (λ (k : Machine). cancelled_in n k.hub.pool) (sym (later-final (opening_of s) bs cs xs ys prefix))
    ∙ none-counted (is_cancelled_work n) (final_of s (bs ++ cs) (xs ++ ys)).hub.pool.finished (final-empty s (bs ++ cs) (xs ++ ys) whole).finished in
    let sum : begun_cancelled (duty.Work n) (xs ++ ys) ≡ begun_cancelled (duty.Work n) xs + begun_cancelled (duty.Work n) ys = tally-append (begins_cancelled n) xs ys in
    let told : TellsStarts (duty.Work n) (xs ++ ys) = starts-told s (bs ++ cs) (xs ++ ys) n whole in
    let one-made : made (duty.Work n) (xs ++ ys) ≤ 1 = (each-place s (bs ++ cs) (xs ++ ys) (duty.Work n) whole.run).singly in
    let split : begun_cancelled (duty.Work n) (xs ++ ys) + begun_uncancelled (duty.Work n) (xs ++ ys) ≡ begun (duty.Work n) (xs ++ ys) = both (duty.Work n) (xs ++ ys) in
    record {
      never = never (cancelled_in n m.hub.pool) (cancelled_in n (final m cs ys).hub.pool) (begun_cancelled (duty.Work n) ys) (begun_cancelled (duty.Work n) xs)
          (begun_cancelled (duty.Work n) (xs ++ ys)) (started (duty.Work n) (xs ++ ys)) (made (duty.Work n) (xs ++ ys)) some kept none sum told.cancelled one-made;
      cancelled = once (cancelled_in n m.hub.pool) (cancelled_in n (final m cs ys).hub.pool) (begun_cancelled (duty.Work n) ys) (begun_cancelled (duty.Work n) xs)
          (begun_cancelled (duty.Work n) (xs ++ ys)) (started (duty.Work n) (xs ++ ys)) (made (duty.Work n) (xs ++ ys)) some kept none sum told.cancelled one-made;
    }
  where
    never : (c f y x t st mm : ℕ) → 1 ≤ c → c ≤ f + y → f ≡ 0 → t ≡ x + y → t ≡ mm - st → mm ≤ 1 → st ≡ 0
    never c f y x t st mm some kept none sum told one = omega (arith, some, kept, none, sum, told, one)

    once : (c f y x t st mm : ℕ) → 1 ≤ c → c ≤ f + y → f ≡ 0 → t ≡ x + y → t ≡ mm - st → mm ≤ 1 → t ≡ 1
    once c f y x t st mm some kept none sum told one = omega (arith, some, kept, none, sum, told, one)
