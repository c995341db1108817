-- The number under which a work was queued, told by the entries alone.
use Rattle.std.proofs.Common.{◌≡◌, ◌∙◌, ℕ, ◌+◌, ◌==◌, Bool, true, false, not, cond, nat_lt, ◌&&◌, List, [], ◌∷◌, ◌++◌, map, refl, ap, sym, subst, arith, Option, Some, None, option_map}
use Rattle.std.specs.Option.{option_or, option_and_then}
use Rattle.std.proofs.lemmas.Bool.Decides.{nat_tests}
use Rattle.napi_types.specs.declared.call.Ask.{Ask}
use Rattle.napi_types.specs.declared.call.Call.TheVariants as call
use Rattle.napi_types.specs.declared.entry.Duty.{Duty}
use Rattle.napi_types.specs.declared.entry.Duty.TheVariants as duty
use Rattle.napi_types.specs.declared.entry.Entry.{Entry}
use Rattle.napi_types.specs.declared.entry.Out.{Out}
use Rattle.napi_types.specs.declared.entry.What.{What}
use Rattle.napi_types.specs.declared.entry.What.TheVariants as what
use Rattle.napi_types.specs.declared.ids.WorkId.{WorkId}
use Rattle.napi_types.specs.declared.status.Status.TheVariants as status
use Rattle.napi_types.specs.plain.Lists.{found}
use Rattle.napi_types.specs.plain.Room.{one_if}
use Rattle.napi_types.specs.parts.Pool.{WorkPool, new_number, number_of_work, with_queued, cancelled_at, started_from, finished_at, executed_by}
use Rattle.napi_types.specs.parts.Works.{Work}
use Rattle.napi_types.specs.hub.Hub.{Hub}
use Rattle.napi_types.specs.hub.HubMoves.{in_pool, without_duty}
use Rattle.napi_types.specs.hub.HubSteps.{hub_step}
use Rattle.napi_types.specs.runs.Machine.{Machine}
use Rattle.napi_types.specs.runs.Run.{IsRunBy, after, final}
use Rattle.napi_types.specs.runs.Setting.{Setting, EndsBy, opening_of, final_of}
use Rattle.napi_types.specs.runs.Step.{step}
use Rattle.napi_types.specs.all_runs.Cancels.{queued_now, queued_from, CancelsLastQueued}
use Rattle.napi_types.specs.all_runs.Counts.{is_duty}
use Rattle.napi_types.specs.all_runs.OnceLaws.{LeadsToCancelled, CancelsAreTold}
use Rattle.napi_types.proofs.plain.Found.{found-filter, found-map, found-number, found-with_record, same-self, same-tells}
use Rattle.napi_types.proofs.hub.HubCases.{HubCase, hub-case, creates_work, deletes_work, cancels_work, queues_work, drains, delivers, starts, finishes_work}
use Rattle.napi_types.proofs.hub.HubKeeps.{hub_step-what}
use Rattle.napi_types.proofs.runs.HubEntries.{EntryOf, leaves_hub, steps_hub, case-of}
use Rattle.napi_types.proofs.all_runs.AcceptedCancels.{accepted-cancels}
use Rattle.napi_types.proofs.all_runs.HubAccounts.{side-account, along-accountable, opens-accountable}
use Rattle.napi_types.proofs.all_runs.Orderly.{next-case}
use Rattle.napi_types.proofs.all_runs.WorkAccounts.{given_in_pool}

-- where the work of this id has a number in the hub, it is the one that is told
abbrev TellsNumber : ℕ → Hub → Option ℕ → Type 0
TellsNumber w h told = (n : ℕ) → number_of_work h.pool w ≡ Some n → told ≡ Some n

-- WHAT IS MADE
-- each number that is given is that of a work that is made
abbrev GivesNumbers : Hub → Option Duty → Hub → Type 0
GivesNumbers h made n = (k : ℕ) → given_in_pool k n.pool ≡ given_in_pool k h.pool + one_if (is_duty (duty.Work k) made)

no-more : (g g' : ℕ) (b : Bool) → g' ≡ g + one_if b → g' ≡ g → b ≡ false
no-more g g' true given same = absurd (omega (arith, given, same))
no-more g g' false given same = refl

one-more : (g g' : ℕ) (b : Bool) → g' ≡ g + one_if b → g ≡ 0 → g' ≡ 1 → b ≡ true
one-more g g' true given before now = refl
one-more g g' false given before now = absurd (omega (arith, given, before, now))

made-is : (k : ℕ) (made : Option Duty) → is_duty (duty.Work k) made ≡ true → made ≡ Some (duty.Work k)
made-is k (Some (duty.Work n)) is = ap (λ m. Some (duty.Work m)) (sym (same-tells k n is))
made-is k _ is = cc

unqueued : (w : ℕ) (it : What) (made : Option Duty) → ((k : ℕ) → is_duty (duty.Work k) made ≡ false) → queued_now w it made ≡ None
unqueued w (what.Call (call.QueueAsyncWork v)) (Some (duty.Work n)) none = let no : true ≡ false = sym (same-self n) ∙ none n in cc
unqueued w it made none = refl

-- the next number is given as a work is queued
before-queued : (n : ℕ) → one_if (nat_lt 0 (n + 1) && not (nat_lt n (n + 1))) ≡ 0
before-queued n = grind (arith, nat_tests)

after-queued : (n : ℕ) → one_if (nat_lt 0 (n + 1) && not (nat_lt (n + 1) (n + 1))) ≡ 1
after-queued n = grind (arith, nat_tests)

-- A STEP OF THE HUB
-- one that gives no number, and no work another one
silent-told : (w : ℕ) (h n : Hub) (it : What) (made : Option Duty) (before : Option ℕ) → n.pool.numbered ≡ h.pool.numbered → GivesNumbers h made n
    → ((m : ℕ) → number_of_work n.pool w ≡ Some m → number_of_work h.pool w ≡ Some m) → TellsNumber w h before → TellsNumber w n (option_or (queued_now w it made) before)
silent-told w h n it made before same gives was k =
    let none : queued_now w it made ≡ None =
    unqueued w it made (λ j. no-more (given_in_pool j h.pool) (given_in_pool j n.pool) (is_duty (duty.Work j) made) (gives j)
    (ap (λ m. one_if (nat_lt 0 j && not (nat_lt m j))) same)) in
    subst (λ o. TellsNumber w n (option_or o before)) (sym none) (λ m is. k m (was m is))

-- the works and the count of numbers are as they were
record KeepsWorks (p q : WorkPool) : Type 0 where
  pub works : q.works ≡ p.works
  pub numbered : q.numbered ≡ p.numbered

kept-told : (w : ℕ) (h n : Hub) (it : What) (made : Option Duty) (before : Option ℕ) → KeepsWorks h.pool n.pool → GivesNumbers h made n → TellsNumber w h before
    → TellsNumber w n (option_or (queued_now w it made) before)
kept-told w h n it made before kept gives =
    silent-told w h n it made before kept.numbered gives
    (λ m is. ap (λ ws. option_and_then (λ (v : Work). v.number) (found (λ (v : Work). v.id) w ws)) (sym kept.works) ∙ is)

cancelled-works : (o : Option ℕ) (p : WorkPool) → KeepsWorks p (cancelled_at o p)
cancelled-works None p = record { works = refl; numbered = refl }
cancelled-works (Some n) p = record { works = refl; numbered = refl }

started-works : (ns : List ℕ) (w : ℕ) (p : WorkPool) → KeepsWorks p (started_from ns w p)
started-works [] w p = record { works = refl; numbered = refl }
started-works (n ∷ ns) w p = record { works = refl; numbered = refl }

finished-works : (w : ℕ) (o : Option ℕ) (p : WorkPool) → KeepsWorks p (finished_at w o p)
finished-works w None p = record { works = refl; numbered = refl }
finished-works w (Some n) p = record { works = refl; numbered = refl }

duty-works : (d : Duty) (h : Hub) → KeepsWorks h.pool (without_duty d h).pool
duty-works (duty.Work n) h = record { works = refl; numbered = refl }
duty-works _ h = record { works = refl; numbered = refl }

-- a work is queued
queued-id : (n id : ℕ) (w : Work) → (cond (w.id == id) (record w { number = Some n }) w).id ≡ w.id
queued-id n id w = by (w.id == id)
  where
    by : (b : Bool) → (cond b (record w { number = Some n }) w).id ≡ w.id
    by true = refl
    by false = refl

queued-told : (w : ℕ) (v : WorkId) (h : Hub) (made : Option Duty) (before : Option ℕ) → made ≡ Some (duty.Work (new_number h.pool)) → TellsNumber w h before
    → TellsNumber w (in_pool (with_queued v.0) h) (option_or (queued_now w (what.Call (call.QueueAsyncWork v)) made) before)
queued-told w v h made before new k =
    subst (λ d. TellsNumber w (in_pool (with_queued v.0) h) (option_or (queued_now w (what.Call (call.QueueAsyncWork v)) d) before)) (sym new)
    (λ m is. by (v.0 == w) refl (found (λ (u : Work). u.id) w h.pool.works) refl m (sym (ap (option_and_then (λ (u : Work). u.number)) now) ∙ is))
  where
    now : found (λ (u : Work). u.id) w (map (λ (u : Work). cond (u.id == v.0) (record u { number = Some (new_number h.pool) }) u) h.pool.works)
        ≡ option_map (λ (u : Work). cond (u.id == v.0) (record u { number = Some (new_number h.pool) }) u) (found (λ (u : Work). u.id) w h.pool.works)
    now =
        found-map (λ (u : Work). u.id) (λ (u : Work). cond (u.id == v.0) (record u { number = Some (new_number h.pool) }) u) (queued-id (new_number h.pool) v.0) w h.pool.works

    by : (b : Bool) → (v.0 == w) ≡ b → (o : Option Work) → found (λ (u : Work). u.id) w h.pool.works ≡ o → (m : ℕ)
        → option_and_then (λ (u : Work). u.number) (option_map (λ (u : Work). cond (u.id == v.0) (record u { number = Some (new_number h.pool) }) u) o) ≡ Some m
        → option_or (cond b (Some (new_number h.pool)) None) before ≡ Some m
    by b here None there m is = let no : None ≡ Some m = is in cc
    by true here (Some u) there m is =
        let its : (u.id == v.0) ≡ true = ap (λ i. i == v.0) (found-number (λ (u : Work). u.id) w h.pool.works u there ∙ sym (same-tells v.0 w here)) ∙ same-self v.0 in
        sym (ap (λ b. (cond b (record u { number = Some (new_number h.pool) }) u).number) its) ∙ is
    by false other (Some u) there m is =
        let apart : (u.id == v.0) ≡ false = ap (λ i. i == v.0) (found-number (λ (u : Work). u.id) w h.pool.works u there) ∙ turn v.0 w other in
        k m (ap (option_and_then (λ (u : Work). u.number)) there ∙ sym (ap (λ b. (cond b (record u { number = Some (new_number h.pool) }) u).number) apart) ∙ is)
      where
        turn : (a b : ℕ) → (a == b) ≡ false → (b == a) ≡ false
        turn a b is = grind (arith, nat_tests)

-- a work is created, or deleted
created-told : (id w : ℕ) (new : Work) (ws : List Work) (o : Option Work) → new.number ≡ None → o ≡ cond (id == w) (Some new) (found (λ (u : Work). u.id) w ws)
    → (m : ℕ) → option_and_then (λ (u : Work). u.number) o ≡ Some m → option_and_then (λ (u : Work). u.number) (found (λ (u : Work). u.id) w ws) ≡ Some m
created-told id w new ws o none now m is = by (id == w) (sym (ap (option_and_then (λ (u : Work). u.number)) now) ∙ is)
  where
    by : (b : Bool) → option_and_then (λ (u : Work). u.number) (cond b (Some new) (found (λ (u : Work). u.id) w ws)) ≡ Some m
        → option_and_then (λ (u : Work). u.number) (found (λ (u : Work). u.id) w ws) ≡ Some m
    by true is = let no : None ≡ Some m = sym none ∙ is in cc
    by false is = is

deleted-told : (b : Bool) (o p : Option Work) → p ≡ cond b o None → (m : ℕ) → option_and_then (λ (u : Work). u.number) p ≡ Some m
    → option_and_then (λ (u : Work). u.number) o ≡ Some m
deleted-told b o p now m is = by b (sym (ap (option_and_then (λ (u : Work). u.number)) now) ∙ is)
  where
    by : (b : Bool) → option_and_then (λ (u : Work). u.number) (cond b o None) ≡ Some m → option_and_then (λ (u : Work). u.number) o ≡ Some m
    by true is = is
    by false is = let no : None ≡ Some m = is in cc

case-told : (w : ℕ) (h : Hub) (y : Entry) (o : Out) (n : Hub) (made : Option Duty) (before : Option ℕ) → HubCase h y o n → GivesNumbers h made n → TellsNumber w h before
    → TellsNumber w n (option_or (queued_now w y.what made) before)
case-told w h y o _ made before (queues_work v is free early) gives k =
    let k' : ℕ = new_number h.pool in
    let new : made ≡ Some (duty.Work k') =
    made-is k' made (one-more (given_in_pool k' h.pool) (given_in_pool k' (with_queued v.0 h.pool)) (is_duty (duty.Work k') made) (gives k')
    (before-queued h.pool.numbered) (after-queued h.pool.numbered)) in
    subst (λ it. TellsNumber w (in_pool (with_queued v.0) h) (option_or (queued_now w it made) before)) (sym is) (queued-told w v h made before new k)
case-told w h y o n made before (creates_work job entry payload addon is fresh tells) gives k =
    silent-told w h n y.what made before refl gives
    (created-told _ w _ h.pool.works _ refl (found-with_record (λ (u : Work). u.id) w _ h.pool.works)) k
case-told w h y o n made before (deletes_work v is free) gives k =
    silent-told w h n y.what made before refl gives
    (deleted-told (not (w == v.0)) (found (λ (u : Work). u.id) w h.pool.works) _ (found-filter (λ (u : Work). u.id) (λ i. not (i == v.0)) w h.pool.works)) k
case-told w h y o n made before (cancels_work v is free) gives k =
    kept-told w h n y.what made before (cancelled-works (number_of_work h.pool v.0) h.pool) gives k
case-told w h y o n made before (drains is may) gives k = kept-told w h n y.what made before (record { works = refl; numbered = refl }) gives k
case-told w h y o n made before (delivers d is next alone) gives k =
    let d' : KeepsWorks h.pool (without_duty d.duty h).pool = duty-works d.duty h in
    kept-told w h n y.what made before (record { works = d'.works; numbered = d'.numbered }) gives k
case-told w h y o n made before (starts v j later is waits free) gives k = kept-told w h n y.what made before (started-works h.pool.queued v h.pool) gives k
case-told w h y o n made before (finishes_work v j is runs) gives k =
    kept-told w h n y.what made before (finished-works v (executed_by h.pool v) h.pool) gives k
case-told w h y o n made before _ gives k = kept-told w h n y.what made before (record { works = refl; numbered = refl }) gives k

-- AN ENTRY OF A RUN
entry-told : (w : ℕ) (h : Hub) (x : Entry) (n : Hub) (before : Option ℕ) → EntryOf h x n → GivesNumbers h x.reply.made n → TellsNumber w h before
    → TellsNumber w n (option_or (queued_now w x.what x.reply.made) before)
entry-told w h x _ before (leaves_hub n same env) gives k =
    kept-told w h n x.what x.reply.made before (record { works = ap (λ (g : Hub). g.pool.works) same; numbered = ap (λ (g : Hub). g.pool.numbered) same }) gives k
entry-told w h x _ before (steps_hub y is may) gives k =
    let same : x.what ≡ y.what = ap (λ (z : Entry). z.what) is ∙ hub_step-what h y in
    subst (λ it. TellsNumber w (hub_step h y).after (option_or (queued_now w it x.reply.made) before)) (sym same)
    (case-told w h y _ (hub_step h y).after x.reply.made before (hub-case h y may) gives k)

-- OVER A RUN
run-told : (w : ℕ) (s : Setting) (bs : List Ask) (xs : List Entry) → IsRunBy (opening_of s) bs xs → TellsNumber w (final_of s bs xs).hub (queued_from w None xs)
run-told w s bs xs run =
    along-accountable s.limits (λ m bs xs. (before : Option ℕ) → TellsNumber w m.hub before → TellsNumber w (final m bs xs).hub (queued_from w before xs))
    (λ m before k. k)
    (λ m a bs x xs k next side later before told.
    let of : EntryOf m.hub x (after m a x).hub = subst (λ (z : Entry). EntryOf m.hub z (after m a x).hub) (sym next.0) (case-of m (step m a x) (next-case m a x k.orderly next) next.1) in
    let gives : GivesNumbers m.hub x.reply.made (after m a x).hub =
    λ j. (side-account (duty.Work j) m.hub x (after m a x).hub refl k.roomy.sound k.facts side).moves.given in
    later (option_or (queued_now w x.what x.reply.made) before) (entry-told w m.hub x (after m a x).hub before of gives told))
    (opening_of s) bs xs (opens-accountable s) run None (λ n is. let no : None ≡ Some n = is in cc)

-- a run of entries that stand behind others is in two parts
pub record InTwoParts (m : Machine) (bs : List Ask) (xs ys : List Entry) : Type 0 where
  pub prefix : List Ask
  pub rest : List Ask
  pub whole : prefix ++ rest ≡ bs
  pub run : IsRunBy m prefix xs
  pub later : IsRunBy (final m prefix xs) rest ys

pub parts-of : (m : Machine) (bs : List Ask) (xs ys : List Entry) → IsRunBy m bs (xs ++ ys) → InTwoParts m bs xs ys
parts-of m bs [] ys run = record { prefix = []; rest = bs; whole = refl; run = tt; later = run }
parts-of m [] (x ∷ xs) ys run = absurd run
parts-of m (b ∷ bs) (x ∷ xs) ys run =
    let k : InTwoParts (after m b x) bs xs ys = parts-of (after m b x) bs xs ys run.1 in
    record { prefix = b ∷ k.prefix; rest = k.rest; whole = ap (λ l. b ∷ l) k.whole; run = (run.0, k.run); later = k.later }

-- one cancel ..
cancel-told : (s : Setting) (bs : List Ask) (xs ys : List Entry) (x : Entry) (w : WorkId) → EndsBy s bs (xs ++ x ∷ ys)
    → x.what ≡ what.Call (call.CancelAsyncWork w) → x.reply.status ≡ status.Ok → CancelsLastQueued w xs (xs ++ x ∷ ys)
cancel-told s bs xs ys x w whole is accepted = by k.rest k.whole k.later
  where
    k : InTwoParts (opening_of s) bs xs (x ∷ ys)
    k = parts-of (opening_of s) bs xs (x ∷ ys) whole.run.steps

    by : (rest : List Ask) → k.prefix ++ rest ≡ bs → IsRunBy (final (opening_of s) k.prefix xs) rest (x ∷ ys)
        → CancelsLastQueued w xs (xs ++ x ∷ ys)
    by [] split later = absurd later
    by (a ∷ cs) split later =
        let c : LeadsToCancelled s k.prefix xs w (xs ++ x ∷ ys) =
        accepted-cancels s k.prefix cs a xs ys x w k.run (subst (λ l. EndsBy s l (xs ++ x ∷ ys)) (sym split) whole) is accepted in
        record { number = c.number; queued = run-told w.0 s k.prefix xs k.run c.number c.queued; once = c.once }

-- .. and all of them
pub cancels-told : CancelsAreTold
cancels-told s bs whole ended before later x w parts is accepted =
    subst (CancelsLastQueued w before) (sym parts) (cancel-told s bs before later x w (subst (EndsBy s bs) parts ended) is accepted)
