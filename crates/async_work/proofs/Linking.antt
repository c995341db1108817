-- Places and queue go on naming each other, and what came out stays as it was told.
use Rattle.std.proofs.Common.{◌≡◌, ◌∙◌, ℕ, ◌+◌, ◌<◌, ◌≤◌, ◌==◌, Bool, true, false, cond, List, [], ◌∷◌, ◌++◌, length, get_or, Option, Some, None, IfSome, option_map, refl, ap, sym, subst, arith, length-append}
use Rattle.std.specs.List.{All, count_by}
use Rattle.std.specs.Option.{option_map_or}
use Rattle.generation_slab.specs.HeldPlaces.{HeldValue}
use Rattle.std.proofs.lemmas.List.Sums.{sum_by-cons, sum_by-append, get_or-le-sum_by}
use Rattle.std.proofs.lemmas.List.Elements.{All-append, All-cons, All-nil, All-head, All-tail}
use Rattle.std.proofs.lemmas.Option.{same_Some}
use Rattle.napi_types.proofs.plain.Found.{same-self, same-tells, apart-above}
use Rattle.async_work.specs.WorkPlaces.{Placed, place_at, with_place_number}
use Rattle.async_work.specs.Queue.{QueueStage, StillQueued, Runs, Ended, Done, NumberedWork, EndedWorkSeen, waiting_job, has_ended, is_done_in_queue, with_stage, queue_work_at, queue_stage_at, queue_id_at, ended_at}
use Rattle.async_work.specs.KeptPool.{StandsInQueue, KeepsJob, IsNumberOf, AreLinked, EndedOnce}
use Rattle.async_work.proofs.Ids.{ReplacedPlace}
use Rattle.async_work.proofs.Queueing.{Restaged, stage-restaged, id-restaged, id-other, entry-push, stage-push, stage-past, stage-in_line, id-in_line}

if-none : {A : Type 0} (P : A → Type 0) (o : Option A) → o ≡ None → IfSome o P
if-none P None is = tt
if-none P (Some x) is = let no : ⊥ = cc in absurd no

pub if-some : {A : Type 0} (P : A → Type 0) (o : Option A) (x : A) → o ≡ Some x → IfSome o P → P x
if-some P None x is holds = let no : ⊥ = cc in absurd no
if-some P (Some y) x is holds = subst P (same_Some y x is) holds

pub if-more : {A : Type 0} (P Q : A → Type 0) (o : Option A) → ((x : A) → P x → Q x) → IfSome o P → IfSome o Q
if-more P Q None more holds = tt
if-more P Q (Some x) more holds = more x holds

apart-of : (m n : ℕ) → (m ≡ n → ⊥) → (m == n) ≡ false
apart-of m n apart = by (m == n) refl
  where
    by : (b : Bool) → (m == n) ≡ b → b ≡ false
    by true is = absurd (apart (same-tells m n is))
    by false is = refl

-- a work that was there still is once another is created
pub place_at-old : (places others : List (HeldValue Placed)) (id : ℕ) (p : Placed) (m : ℕ) (q : Placed) → place_at places id ≡ None → ReplacedPlace places others id (Some p)
    → place_at places m ≡ Some q → place_at others m ≡ Some q
place_at-old places others id p m q absent change is = change.at m ∙ ap (λ b. cond b (Some p) (place_at places m)) (apart-of id m other) ∙ is
  where
    other : id ≡ m → ⊥
    other same = let it : None ≡ Some q = sym absent ∙ ap (place_at places) same ∙ is in cc

pub stage-of : (line : List NumberedWork) (n : ℕ) (e : NumberedWork) → queue_work_at line n ≡ Some e → queue_stage_at line n ≡ e.stage
stage-of line n e is = ap (λ o. option_map_or (λ (x : NumberedWork). x.stage) o Done) is

-- A WORK IS CREATED
pub linked-created : (places others : List (HeldValue Placed)) (line : List NumberedWork) (id : ℕ) (p : Placed) → AreLinked places line
    → place_at places id ≡ None
    → ReplacedPlace places others id (Some p) → p.number ≡ None → p.job ≡ Some p.spec → AreLinked others line
linked-created places others line id p linked absent change none held = record {
  named = λ m q is. named m q (id == m) (sym (change.at m) ∙ is);
  held = λ m q is. keeps m q (id == m) (sym (change.at m) ∙ is);
  placed = λ n e is unfinished. stands n e (linked.placed n e is unfinished);
}
  where
    named : (m : ℕ) (q : Placed) (b : Bool) → cond b (Some p) (place_at places m) ≡ Some q → IfSome q.number (λ n. IsNumberOf line m n)
    named m q true told = if-none (λ n. IsNumberOf line m n) q.number (ap (λ (r : Placed). r.number) (sym (same_Some p q told)) ∙ none)
    named m q false told = linked.named m q told

    keeps : (m : ℕ) (q : Placed) (b : Bool) → cond b (Some p) (place_at places m) ≡ Some q → q.number ≡ None → q.job ≡ Some q.spec
    keeps m q true told empty = let same : p ≡ q = same_Some p q told in subst (λ (r : Placed). r.job ≡ Some r.spec) same held
    keeps m q false told empty = linked.held m q told empty

    stands : (n : ℕ) (e : NumberedWork) → StandsInQueue places n e → StandsInQueue others n e
    stands n e old = record { place = old.place; there = place_at-old places others id p e.id old.place absent change old.there; numbered = old.numbered; job = old.job }

-- A WORK IS DELETED
pub linked-deleted : (places others : List (HeldValue Placed)) (line : List NumberedWork) (id : ℕ) (p : Placed) → AreLinked places line
    → place_at places id ≡ Some p → ReplacedPlace places others id None
    → ((n : ℕ) → p.number ≡ Some n → is_done_in_queue (queue_stage_at line n) ≡ true) → AreLinked others line
linked-deleted places others line id p linked is change done = record {
  named = λ m q told. linked.named m q (before m q (id == m) (sym (change.at m) ∙ told));
  held = λ m q told. linked.held m q (before m q (id == m) (sym (change.at m) ∙ told));
  placed = λ n e at unfinished. stands n e at unfinished (linked.placed n e at unfinished);
}
  where
    before : (m : ℕ) (q : Placed) (b : Bool) → cond b None (place_at places m) ≡ Some q → place_at places m ≡ Some q
    before m q true told = let no : ⊥ = cc in absurd no
    before m q false told = told

    stands : (n : ℕ) (e : NumberedWork) → queue_work_at line n ≡ Some e → is_done_in_queue e.stage ≡ false → StandsInQueue places n e → StandsInQueue others n e
    stands n e at unfinished old = record {
      place = old.place;
      there = change.at e.id ∙ ap (λ b. cond b None (place_at places e.id)) (apart-of id e.id other) ∙ old.there;
      numbered = old.numbered;
      job = old.job;
    }
      where
        other : id ≡ e.id → ⊥
        other same =
            let one : p ≡ old.place = same_Some p old.place (sym is ∙ ap (place_at places) same ∙ old.there) in
            let its : p.number ≡ Some n = ap (λ (r : Placed). r.number) one ∙ old.numbered in
            let over : is_done_in_queue e.stage ≡ true = ap is_done_in_queue (sym (stage-of line n e at)) ∙ done n its in
            cc

-- A WORK IS QUEUED
pub linked-queued : (places others : List (HeldValue Placed)) (line : List NumberedWork) (id n : ℕ) (p : Placed) (e : NumberedWork) → AreLinked places line
    → n ≡ length line + 1 → place_at places id ≡ Some p → p.number ≡ None
    → ReplacedPlace places others id (Some (with_place_number n p)) → e.id ≡ id → waiting_job e.stage ≡ Some p.spec → AreLinked others (line ++ e ∷ [])
linked-queued places others line id n p e linked new is none change its waits_for = record {
  named = λ m q told. named m q (id == m) refl (sym (change.at m) ∙ told);
  held = λ m q told. keeps m q (id == m) (sym (change.at m) ∙ told);
  placed = λ m x at unfinished. placed m x unfinished (length line + 1 == m) refl (sym (entry-push line e m) ∙ at);
}
  where
    longer : length (line ++ e ∷ []) ≡ length line + 1
    longer = length-append line (e ∷ [])

    here : queue_id_at (line ++ e ∷ []) n ≡ Some id
    here = ap (option_map (λ (x : NumberedWork). x.id))
        (entry-push line e n ∙ ap (λ b. cond b (Some e) (queue_work_at line n)) (ap (λ k. length line + 1 == k) new
        ∙ same-self (length line + 1))) ∙ ap (λ k. Some k) its

    -- a number within the queue stays that of its work
    still : (m k : ℕ) → IsNumberOf line m k → IsNumberOf (line ++ e ∷ []) m k
    still m k old = (
      omega (arith, longer, old.0),
      λ unfinished.
          ap (option_map (λ (x : NumberedWork). x.id)) (entry-push line e k ∙ ap (λ b. cond b (Some e) (queue_work_at line k)) apart)
          ∙ old.1 (sym (stage-push is_done_in_queue line e k ∙ ap (λ b. cond b (is_done_in_queue e.stage) (is_done_in_queue (queue_stage_at line k))) apart)
          ∙ unfinished),
    )
      where
        apart : (length line + 1 == k) ≡ false
        apart = apart-above k (length line + 1) (omega (arith, old.0))

    named : (m : ℕ) (q : Placed) (b : Bool) → (id == m) ≡ b → cond b (Some (with_place_number n p)) (place_at places m) ≡ Some q
        → IfSome q.number (λ k. IsNumberOf (line ++ e ∷ []) m k)
    named m q true same told =
        let one : with_place_number n p ≡ q = same_Some (with_place_number n p) q told in
        subst (λ (r : Placed). IfSome r.number (λ k. IsNumberOf (line ++ e ∷ []) m k)) one
        (omega (arith, new, longer), λ _. here ∙ ap (λ k. Some k) (same-tells id m same))
    named m q false same told = if-more (λ k. IsNumberOf line m k) (λ k. IsNumberOf (line ++ e ∷ []) m k) q.number (still m) (linked.named m q told)

    keeps : (m : ℕ) (q : Placed) (b : Bool) → cond b (Some (with_place_number n p)) (place_at places m) ≡ Some q → q.number ≡ None → q.job ≡ Some q.spec
    keeps m q true told empty =
        let one : with_place_number n p ≡ q = same_Some (with_place_number n p) q told in
        let no : ⊥ = let number : Some n ≡ None = ap (λ (r : Placed). r.number) one ∙ empty in cc in absurd no
    keeps m q false told empty = linked.held m q told empty

    placed : (m : ℕ) (x : NumberedWork) → is_done_in_queue x.stage ≡ false → (b : Bool) → (length line + 1 == m) ≡ b → cond b (Some e)
        (queue_work_at line m) ≡ Some x
        → StandsInQueue others m x
    placed m x unfinished true same told = subst (λ (y : NumberedWork). StandsInQueue others m y) (same_Some e x told) (record {
      place = with_place_number n p;
      there = change.at e.id ∙ ap (λ b. cond b (Some (with_place_number n p)) (place_at places e.id)) (ap (λ k. id == k) its ∙ same-self id);
      numbered = ap (λ k. Some k) (new ∙ same-tells (length line + 1) m same);
      job = subst (λ o. IfSome o (λ s. s ≡ p.spec)) (sym waits_for) refl;
    })
    placed m x unfinished false same told = stands (linked.placed m x told unfinished)
      where
        other : (old : StandsInQueue places m x) → id ≡ x.id → ⊥
        other old one =
            let first : p ≡ old.place = same_Some p old.place (sym is ∙ ap (place_at places) one ∙ old.there) in
            let no : None ≡ Some m = sym none ∙ ap (λ (r : Placed). r.number) first ∙ old.numbered in
            cc

        stands : StandsInQueue places m x → StandsInQueue others m x
        stands old = record {
          place = old.place;
          there = change.at x.id ∙ ap (λ b. cond b (Some (with_place_number n p)) (place_at places x.id)) (apart-of id x.id (other old)) ∙ old.there;
          numbered = old.numbered;
          job = old.job;
        }

-- A WORK COMES FURTHER
pub linked-restaged : (places : List (HeldValue Placed)) (line others : List NumberedWork) (n : ℕ) (e : NumberedWork) (s : QueueStage) → AreLinked places line
    → Restaged line others n e s
    → waiting_job s ≡ None → (is_done_in_queue s ≡ false → is_done_in_queue e.stage ≡ false) → AreLinked places others
linked-restaged places line others n e s linked change no_job before_open = record {
  named = λ id q is. if-more (λ k. IsNumberOf line id k) (λ k. IsNumberOf others id k) q.number (still id) (linked.named id q is);
  held = linked.held;
  placed = λ m x at unfinished. placed m x unfinished (n == m) refl (sym (change.at m) ∙ at);
}
  where
    still : (id k : ℕ) → IsNumberOf line id k → IsNumberOf others id k
    still id k old = (omega (arith, change.long, old.0), λ unfinished. by (n == k) refl unfinished)
      where
        at-stage : (b : Bool) → (n == k) ≡ b → is_done_in_queue (queue_stage_at others k) ≡ cond b (is_done_in_queue s)
            (is_done_in_queue (queue_stage_at line k))
        at-stage b same = stage-restaged line others n e s change is_done_in_queue k ∙ ap
            (λ c. cond c (is_done_in_queue s) (is_done_in_queue (queue_stage_at line k))) same

        by : (b : Bool) → (n == k) ≡ b → is_done_in_queue (queue_stage_at others k) ≡ false → queue_id_at others k ≡ Some id
        by true same unfinished =
            let open_still : is_done_in_queue s ≡ false = sym (at-stage true same) ∙ unfinished in
            let was : is_done_in_queue (queue_stage_at line k) ≡ false =
            ap (λ m. is_done_in_queue (queue_stage_at line m)) (sym (same-tells n k same)) ∙ ap is_done_in_queue (stage-of line n e change.there)
            ∙ before_open open_still in
            id-restaged line others n e s change open_still k ∙ old.1 was
        by false same unfinished = id-other line others n e s change k same ∙ old.1 (sym (at-stage false same) ∙ unfinished)

    placed : (m : ℕ) (x : NumberedWork) → is_done_in_queue x.stage ≡ false → (b : Bool) → (n == m) ≡ b → cond b (Some (with_stage s e))
        (queue_work_at line m) ≡ Some x
        → StandsInQueue places m x
    placed m x unfinished true same told =
        let one : with_stage s e ≡ x = same_Some (with_stage s e) x told in
        let stays : is_done_in_queue s ≡ false = ap is_done_in_queue (sym (stage-in_line e.id s)) ∙ ap (λ (y : NumberedWork). is_done_in_queue y.stage) one
        ∙ unfinished in
        let old : StandsInQueue places n e = linked.placed n e change.there (before_open stays) in
        subst (λ (y : NumberedWork). StandsInQueue places m y) one (record {
          place = old.place;
          there = ap (place_at places) (id-in_line e.id s stays) ∙ old.there;
          numbered = old.numbered ∙ ap (λ k. Some k) (same-tells n m same);
          job = subst (λ o. IfSome o (λ t. t ≡ old.place.spec)) (sym (ap waiting_job (stage-in_line e.id s) ∙ no_job)) tt;
        })
    placed m x unfinished false same told = linked.placed m x told unfinished

-- WHAT CAME OUT
pub ended-unfinished : (s : QueueStage) → has_ended s ≡ true → is_done_in_queue s ≡ false
ended-unfinished (StillQueued spec) is = refl
ended-unfinished (Runs w) is = refl
ended-unfinished Ended is = refl
ended-unfinished Done is = let no : ⊥ = cc in absurd no

-- what is in the list has ended
among-ended : (places : List (HeldValue Placed)) (line : List NumberedWork) (finished : List EndedWorkSeen) (k : ℕ) (d : EndedWorkSeen)
    → EndedOnce places line finished
    → k < length finished → ended_at line (get_or finished k d).number ≡ true
among-ended places line finished k d out inside =
    let o : EndedWorkSeen = get_or finished k d in
    let least = get_or-le-sum_by (λ (x : EndedWorkSeen). cond (x.number == o.number) 1 0) finished k d inside in
    by (ended_at line o.number) (o.number == o.number) (same-self o.number) (out.once o.number) least
  where
    by : (b c : Bool) → c ≡ true → count_by (λ (x : EndedWorkSeen). x.number == (get_or finished k d).number) finished ≡ cond b 1 0
        → cond c 1 0 ≤ count_by (λ (x : EndedWorkSeen). x.number == (get_or finished k d).number) finished → b ≡ true
    by true c same count least = refl
    by false true same count least = absurd (omega (arith, count, least))
    by false false same count least = let no : ⊥ = cc in absurd no

-- a job that is kept stays so where each work that has its number was there before, and computed the same
told-all : (places others : List (HeldValue Placed)) (line : List NumberedWork) (finished : List EndedWorkSeen) → EndedOnce places line finished
    → ((n : ℕ) → ended_at line n ≡ true → (id : ℕ) (q : Placed) → place_at others id ≡ Some q → q.number ≡ Some n
    → (r : Placed) × (place_at places id ≡ Some r) × (r.number ≡ Some n) × (r.spec ≡ q.spec))
    → All (KeepsJob others) finished
told-all places others line finished out before k d inside =
    let o : EndedWorkSeen = get_or finished k d in
    if-more (λ s. (id : ℕ) (p : Placed) → place_at places id ≡ Some p → p.number ≡ Some o.number → p.spec ≡ s)
    (λ s. (id : ℕ) (p : Placed) → place_at others id ≡ Some p → p.number ≡ Some o.number → p.spec ≡ s) o.unspent
    (λ s told id q at number. let r = before o.number (among-ended places line finished k d out inside) id q at number in sym r.3 ∙ told id r.0 r.1 r.2)
    (out.told k d inside)

pub out-created : (places others : List (HeldValue Placed)) (line : List NumberedWork) (finished : List EndedWorkSeen) (id : ℕ) (p : Placed) → p.number ≡ None
    → ReplacedPlace places others id (Some p) → EndedOnce places line finished → EndedOnce others line finished
out-created places others line finished id p none change out = record {
  once = out.once;
  told = told-all places others line finished out (λ n ended m q at number. by n m q (id == m) (sym (change.at m) ∙ at) number);
}
  where
    by : (n m : ℕ) (q : Placed) (b : Bool) → cond b (Some p) (place_at places m) ≡ Some q → q.number ≡ Some n
        → (r : Placed) × (place_at places m ≡ Some r) × (r.number ≡ Some n) × (r.spec ≡ q.spec)
    by n m q true told number =
        let it : None ≡ Some n = sym none ∙ ap (λ (r : Placed). r.number) (same_Some p q told) ∙ number in
        let no : ⊥ = cc in absurd no
    by n m q false told number = (q, told, number, refl)

pub out-deleted : (places others : List (HeldValue Placed)) (line : List NumberedWork) (finished : List EndedWorkSeen) (id : ℕ)
    → EndedOnce places line finished → ReplacedPlace places others id None → EndedOnce others line finished
out-deleted places others line finished id out change = record {
  once = out.once;
  told = told-all places others line finished out (λ n ended m q at number. by n m q (id == m) (sym (change.at m) ∙ at) number);
}
  where
    by : (n m : ℕ) (q : Placed) (b : Bool) → cond b None (place_at places m) ≡ Some q → q.number ≡ Some n
        → (r : Placed) × (place_at places m ≡ Some r) × (r.number ≡ Some n) × (r.spec ≡ q.spec)
    by n m q true told number = let no : ⊥ = cc in absurd no
    by n m q false told number = (q, told, number, refl)

pub out-queued : (places others : List (HeldValue Placed)) (line : List NumberedWork) (finished : List EndedWorkSeen) (id n : ℕ) (p : Placed) (e : NumberedWork)
    → EndedOnce places line finished → n ≡ length line + 1
    → ReplacedPlace places others id (Some (with_place_number n p)) → has_ended e.stage ≡ false → EndedOnce others (line ++ e ∷ []) finished
out-queued places others line finished id n p e out new change waits_still = record {
  once = λ m. out.once m ∙ ap (λ b. cond b 1 0) (sym (same m (length line + 1 == m) refl));
  told = told-all places others line finished out (λ k ended m q at number. by k m q ended (id == m) (sym (change.at m) ∙ at) number);
}
  where
    same : (m : ℕ) (b : Bool) → (length line + 1 == m) ≡ b → ended_at (line ++ e ∷ []) m ≡ ended_at line m
    same m true here =
        let at : length line + 1 ≡ m = same-tells (length line + 1) m here in
        stage-push has_ended line e m ∙ ap (λ b. cond b (has_ended e.stage) (ended_at line m)) here ∙ waits_still
        ∙ sym (stage-past has_ended line m (omega (arith, at)))
    same m false here = stage-push has_ended line e m ∙ ap (λ b. cond b (has_ended e.stage) (ended_at line m)) here

    by : (k m : ℕ) (q : Placed) → ended_at line k ≡ true → (b : Bool) → cond b (Some (with_place_number n p)) (place_at places m) ≡ Some q → q.number ≡ Some k
        → (r : Placed) × (place_at places m ≡ Some r) × (r.number ≡ Some k) × (r.spec ≡ q.spec)
    by k m q ended true told number =
        let it : Some n ≡ Some k = ap (λ (r : Placed). r.number) (same_Some (with_place_number n p) q told) ∙ number in
        let here : n ≡ k = same_Some n k it in
        let over : ended_at line k ≡ false = stage-past has_ended line k (omega (arith, new, here)) in
        let no : ⊥ = cc in absurd no
    by k m q ended false told number = (q, told, number, refl)

module _ (places : List (HeldValue Placed)) (line others : List NumberedWork) (finished : List EndedWorkSeen) (n : ℕ) (e : NumberedWork) (s : QueueStage)
    (out : EndedOnce places line finished) (change : Restaged line others n e s) where
  -- it starts
  pub out-started : has_ended s ≡ false → has_ended e.stage ≡ false → EndedOnce places others finished
  out-started not_after not_before = record {
    once = λ m. out.once m ∙ ap (λ b. cond b 1 0) (sym (stage-restaged line others n e s change has_ended m ∙ by m (n == m) refl));
    told = out.told;
  }
    where
      by : (m : ℕ) (b : Bool) → (n == m) ≡ b → cond b (has_ended s) (ended_at line m) ≡ ended_at line m
      by m true same = not_after ∙ sym (ap (λ k. ended_at line k) (sym (same-tells n m same)) ∙ ap has_ended (stage-of line n e change.there) ∙ not_before)
      by m false same = refl

  -- it ends
  pub out-ended : (o : EndedWorkSeen) → has_ended s ≡ true → has_ended e.stage ≡ false → o.number ≡ n → KeepsJob places o → EndedOnce places others
      (finished ++ o ∷ [])
  out-ended o after not_before its told = record {
    once = λ m. sum_by-append (λ (x : EndedWorkSeen). cond (x.number == m) 1 0) finished (o ∷ []) ∙ by m (n == m) refl (out.once m);
    told = All-append (KeepsJob places) finished (o ∷ []) out.told (All-cons (KeepsJob places) o [] told (All-nil (KeepsJob places)));
  }
    where
      count-one : (m : ℕ) (b : Bool) → (n == m) ≡ b → count_by (λ (x : EndedWorkSeen). x.number == m) (o ∷ []) ≡ cond b 1 0
      count-one m b same = sum_by-cons (λ (x : EndedWorkSeen). cond (x.number == m) 1 0) o [] ∙ ap (λ k. cond (k == m) 1 0 + 0) its
          ∙ ap (λ c. cond c 1 0 + 0) same ∙ plain (cond b 1 0)
        where
          plain : (k : ℕ) → k + 0 ≡ k
          plain k = omega arith

      by : (m : ℕ) (b : Bool) → (n == m) ≡ b → count_by (λ (x : EndedWorkSeen). x.number == m) finished ≡ cond (ended_at line m) 1 0
          → count_by (λ (x : EndedWorkSeen). x.number == m) finished + count_by (λ (x : EndedWorkSeen). x.number == m) (o ∷ []) ≡ cond (ended_at others m) 1 0
      by m true same count =
          let was : ended_at line m ≡ false = ap (λ k. ended_at line k) (sym (same-tells n m same)) ∙ ap has_ended (stage-of line n e change.there)
          ∙ not_before in
          let none : count_by (λ (x : EndedWorkSeen). x.number == m) finished ≡ 0 = count ∙ ap (λ b. cond b 1 0) was in
          let is : ended_at others m ≡ true = stage-restaged line others n e s change has_ended m ∙ ap (λ b. cond b (has_ended s) (ended_at line m)) same
          ∙ after in
          ap (λ b. count_by (λ (x : EndedWorkSeen). x.number == m) finished + b) (count-one m true same) ∙ ap (λ k. k + 1) none ∙ ap (λ b. cond b 1 0) (sym is)
      by m false same count =
          let is : ended_at others m ≡ ended_at line m = stage-restaged line others n e s change has_ended m
          ∙ ap (λ b. cond b (has_ended s) (ended_at line m)) same in
          ap (λ b. count_by (λ (x : EndedWorkSeen). x.number == m) finished + b) (count-one m false same)
          ∙ plain (count_by (λ (x : EndedWorkSeen). x.number == m) finished) ∙ count ∙ ap (λ b. cond b 1 0) (sym is)
        where
          plain : (k : ℕ) → k + 0 ≡ k
          plain k = omega arith

-- its completion begins
pub out-completed : (places : List (HeldValue Placed)) (line others : List NumberedWork) (o : EndedWorkSeen) (finished : List EndedWorkSeen) (e : NumberedWork) (s : QueueStage)
    → EndedOnce places line (o ∷ finished)
    → Restaged line others o.number e s → has_ended s ≡ false → EndedOnce places others finished
out-completed places line others o finished e s out change after = record {
  once = λ m. by m (o.number == m) refl (sym (sum_by-cons (λ (x : EndedWorkSeen). cond (x.number == m) 1 0) o finished) ∙ out.once m);
  told = All-tail (KeepsJob places) o finished out.told;
}
  where
    by : (m : ℕ) (b : Bool) → (o.number == m) ≡ b → cond (o.number == m) 1 0 + count_by (λ (x : EndedWorkSeen). x.number == m) finished ≡ cond
        (ended_at line m) 1 0
        → count_by (λ (x : EndedWorkSeen). x.number == m) finished ≡ cond (ended_at others m) 1 0
    by m true same count =
        let is : ended_at others m ≡ false = stage-restaged line others o.number e s change has_ended m
        ∙ ap (λ b. cond b (has_ended s) (ended_at line m)) same ∙ after in
        no_more (ended_at line m) (ap (λ b. cond b 1 0 + count_by (λ (x : EndedWorkSeen). x.number == m) finished) (sym same) ∙ count) ∙ ap (λ b. cond b 1 0)
        (sym is)
      where
        no_more : (c : Bool) → 1 + count_by (λ (x : EndedWorkSeen). x.number == m) finished ≡ cond c 1 0 → count_by
            (λ (x : EndedWorkSeen). x.number == m) finished ≡ 0
        no_more true told = omega arith
        no_more false told = absurd (omega (arith, told))
    by m false same count =
        let is : ended_at others m ≡ ended_at line m = stage-restaged line others o.number e s change has_ended m
        ∙ ap (λ b. cond b (has_ended s) (ended_at line m)) same in
        plain (count_by (λ (x : EndedWorkSeen). x.number == m) finished) ∙ ap (λ b. cond b 1 0 + count_by (λ (x : EndedWorkSeen). x.number == m) finished)
        (sym same)
        ∙ count ∙ ap (λ b. cond b 1 0) (sym is)
      where
        plain : (k : ℕ) → k ≡ 0 + k
        plain k = omega arith

-- the first of them has the job that it should have
pub first-told : (places : List (HeldValue Placed)) (line : List NumberedWork) (o : EndedWorkSeen) (finished : List EndedWorkSeen) (e : NumberedWork) (stands : StandsInQueue places o.number e)
    → EndedOnce places line (o ∷ finished) → IfSome o.unspent (λ s. stands.place.spec ≡ s)
first-told places line o finished e stands out =
    if-more (λ s. (id : ℕ) (p : Placed) → place_at places id ≡ Some p → p.number ≡ Some o.number → p.spec ≡ s) (λ s. stands.place.spec ≡ s) o.unspent
    (λ s told. told e.id stands.place stands.there stands.numbered) (All-head (KeepsJob places) o finished out.told)

pub keeps-none : (places : List (HeldValue Placed)) (o : EndedWorkSeen) → o.unspent ≡ None → KeepsJob places o
keeps-none places o is = if-none (λ s. (id : ℕ) (p : Placed) → place_at places id ≡ Some p → p.number ≡ Some o.number → p.spec ≡ s) o.unspent is

-- the job of a work that stands in the queue is the one that it should be
pub keeps-job : (places : List (HeldValue Placed)) (line : List NumberedWork) (n : ℕ) (e : NumberedWork) → AreLinked places line → queue_work_at line n ≡ Some e
    → is_done_in_queue e.stage ≡ false → (stands : StandsInQueue places n e) (o : EndedWorkSeen) → o.number ≡ n → o.unspent ≡ waiting_job e.stage
    → KeepsJob places o
keeps-job places line n e linked at unfinished stands o number is =
    subst (λ u. IfSome u (λ s. (id : ℕ) (p : Placed) → place_at places id ≡ Some p → p.number ≡ Some o.number → p.spec ≡ s)) (sym is)
    (if-more (λ s. s ≡ stands.place.spec) (λ s. (id : ℕ) (p : Placed) → place_at places id ≡ Some p → p.number ≡ Some o.number → p.spec ≡ s) (waiting_job e.stage)
    (λ s its id p there its_number. ap (λ (q : Placed). q.spec) (same id p there (its_number ∙ ap (λ k. Some k) number)) ∙ sym its) stands.job)
  where
    same : (id : ℕ) (p : Placed) → place_at places id ≡ Some p → p.number ≡ Some n → p ≡ stands.place
    same id p there its =
        let named = if-some (λ k. IsNumberOf line id k) p.number n its (linked.named id p there) in
        let its_id : queue_id_at line n ≡ Some id = named.1 (ap is_done_in_queue (stage-of line n e at) ∙ unfinished) in
        let one : id ≡ e.id = same_Some id e.id (sym its_id ∙ ap (option_map (λ (x : NumberedWork). x.id)) at) in
        same_Some p stands.place (sym there ∙ ap (place_at places) one ∙ stands.there)

-- what stands in the list of ended works has ended
pub first-ended : (places : List (HeldValue Placed)) (line : List NumberedWork) (o : EndedWorkSeen) (finished : List EndedWorkSeen)
    → EndedOnce places line (o ∷ finished)
    → ended_at line o.number ≡ true
first-ended places line o finished out = among-ended places line (o ∷ finished) 0 o out (omega arith)
