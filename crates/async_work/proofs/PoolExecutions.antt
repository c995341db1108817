-- Which worker executes which work.
use Rattle.std.proofs.Common.{◌≡◌, ◌∙◌, ℕ, suc, ◌+◌, ◌==◌, Bool, true, false, not, cond, List, length, filter, Option, Some, None, is_some, option_map, refl, ap, sym, arith}
use Rattle.std.specs.List.{All, slice_get}
use Rattle.std.specs.Option.{option_and_then, option_map_or}
use Rattle.napi_types.specs.plain.Lists.{found, has, with_record, as_map}
use Rattle.napi_types.specs.parts.Works.{Execution}
use Rattle.napi_types.proofs.plain.Found.{same-self, same-tells, found-same, found-with_record, found-as_map, found-filter, found-number, found-All, rising-with_record, rising-as_map, rising-filter, has-found}
use Rattle.async_work.specs.Queue.{Done, NumberedWork, runner, queue_work_at, runner_at, listed_execution, executions_listed, executions}
use Rattle.napi_types.proofs.plain.Counted.{listed-All, listed-rising, found-listed}
use Rattle.napi_types.proofs.plain.Options.{some-of}
use Rattle.async_work.proofs.CountingWorks.{found-other, has-as_map, length-without}

abbrev worker : Execution → ℕ
worker x = x.worker

abbrev executed_work : Execution → ℕ
executed_work x = x.work

abbrev execution : ℕ → ℕ → Execution
execution w n = record { worker = w; work = n }

-- no worker executes two works
abbrev pub AreApart : List NumberedWork → Type 0
AreApart line = (n m w : ℕ) → runner_at line n ≡ Some w → runner_at line m ≡ Some w → n ≡ m

keeps-work : (n : ℕ) (e : NumberedWork) (x : Execution) → listed_execution n e ≡ Some x → x.work ≡ n
keeps-work n e x is = by (runner e.stage) is
  where
    by : (o : Option ℕ) → option_map (λ w. execution w n) o ≡ Some x → x.work ≡ n
    by None told = let no : ⊥ = cc in absurd no
    by (Some w) told = let same : execution w n ≡ x = cc in ap executed_work (sym same)

-- BY THE WORK
found-work : (line : List NumberedWork) (n : ℕ) → found executed_work n (executions_listed line) ≡ option_map (λ w. execution w n) (runner_at line n)
found-work line n = found-listed listed_execution executed_work keeps-work n line ∙ by (queue_work_at line n)
  where
    by : (o : Option NumberedWork) → option_and_then (listed_execution n) o ≡ option_map (λ w. execution w n) (runner (option_map_or (λ
        (x : NumberedWork). x.stage) o Done))
    by None = refl
    by (Some e) = refl

listed-same : (line others : List NumberedWork) → ((m : ℕ) → runner_at others m ≡ runner_at line m) → executions_listed others ≡ executions_listed line
listed-same line others same =
    found-same executed_work (executions_listed others) (executions_listed line) (listed-rising listed_execution executed_work keeps-work 1 others)
    (listed-rising listed_execution executed_work keeps-work 1 line)
    (λ m. found-work others m ∙ ap (option_map (λ w. execution w m)) (same m) ∙ sym (found-work line m))

pub executions-same : (line others : List NumberedWork) → ((m : ℕ) → runner_at others m ≡ runner_at line m) → executions others ≡ executions line
executions-same line others same = ap (as_map worker) (listed-same line others same)

-- BY THE WORKER
runs : (line : List NumberedWork) → All (λ x. runner_at line x.work ≡ Some x.worker) (executions_listed line)
runs line = listed-All listed_execution (λ x. runner_at line x.work ≡ Some x.worker) 1 line each
  where
    by : (i : ℕ) (e : NumberedWork) (x : Execution) (o : Option ℕ) → slice_get line i ≡ Some e → runner e.stage ≡ o
        → option_map (λ w. execution w (1 + i)) o ≡ Some x → runner_at line x.work ≡ Some x.worker
    by i e x None at told is = let no : ⊥ = cc in absurd no
    by i e x (Some w) at told is =
        let same : execution w (1 + i) ≡ x = cc in
        ap (λ (y : Execution). runner_at line y.work) (sym same) ∙ ap (runner_at line) (next i)
        ∙ ap (λ o. runner (option_map_or (λ (y : NumberedWork). y.stage) o Done)) at ∙ told ∙ ap (λ (y : Execution). Some y.worker) same
      where
        next : (i : ℕ) → 1 + i ≡ suc i
        next i = omega arith

    each : (i : ℕ) (e : NumberedWork) (x : Execution) → slice_get line i ≡ Some e → listed_execution (1 + i) e ≡ Some x → runner_at line x.work ≡ Some x.worker
    each i e x at is = by i e x (runner e.stage) at refl is

-- what is found for a worker
told-worker : (line : List NumberedWork) (w : ℕ) (x : Execution) → found worker w (executions_listed line) ≡ Some x
    → (x.worker ≡ w) × (runner_at line x.work ≡ Some w)
told-worker line w x is =
    let its : x.worker ≡ w = found-number worker w (executions_listed line) x is in
    (its, found-All worker (λ y. runner_at line y.work ≡ Some y.worker) w (executions_listed line) x (runs line) is ∙ ap (λ v. Some v) its)

pub found-worker : (line : List NumberedWork) → AreApart line → (n w : ℕ) → runner_at line n ≡ Some w
    → found worker w (executions_listed line) ≡ Some (execution w n)
found-worker line apart n w is =
    let here : found executed_work n (executions_listed line) ≡ Some (execution w n) = found-work line n ∙ ap (option_map (λ v. execution v n)) is in
    let there = some-of (found worker w (executions_listed line)) (found-other executed_work worker n (executions_listed line) (execution w n) here) in
    let told = told-worker line w there.0 there.1 in
    let one : there.0.work ≡ n = apart there.0.work n w told.1 is in
    there.1 ∙ ap (λ v. Some (execution v there.0.work)) told.0 ∙ ap (λ k. Some (execution w k)) one

-- a worker that executes nothing
pub no-worker : (line : List NumberedWork) (w : ℕ) → found worker w (executions_listed line) ≡ None → AreApart line → (n : ℕ) → runner_at line n ≡ Some w → ⊥
no-worker line w none apart n is = let here = found-worker line apart n w is in cc

found-none : (line : List NumberedWork) (w : ℕ) → ((n : ℕ) → runner_at line n ≡ Some w → ⊥) → found worker w (executions_listed line) ≡ None
found-none line w idle = by (found worker w (executions_listed line)) refl
  where
    by : (o : Option Execution) → found worker w (executions_listed line) ≡ o → o ≡ None
    by None is = refl
    by (Some x) is = absurd (idle x.work (told-worker line w x is).1)

-- BOTH
pub has-work : (line : List NumberedWork) → AreApart line → (n : ℕ) → has executed_work n (executions line) ≡ is_some (runner_at line n)
has-work line apart n = has-as_map executed_work worker n (executions_listed line) each ∙ has-found executed_work n (executions_listed line) ∙ ap is_some (found-work line n)
    ∙ by (runner_at line n)
  where
    by : (o : Option ℕ) → is_some (option_map (λ w. execution w n) o) ≡ is_some o
    by None = refl
    by (Some w) = refl

    each : (m : ℕ) (x : Execution) → found executed_work m (executions_listed line) ≡ Some x → found worker x.worker (executions_listed line) ≡ Some x
    each m x is = found-worker line apart x.work x.worker (found-All executed_work (λ y. runner_at line y.work ≡ Some y.worker) m (executions_listed line) x
        (runs line) is)

-- a worker executes the work of the number n, where its number is told
pub executed : (line : List NumberedWork) (w n : ℕ) → option_map executed_work (found worker w (executions line)) ≡ Some n → runner_at line n ≡ Some w
executed line w n is = by (found worker w (executions_listed line)) refl (sym (ap (option_map executed_work) (found-as_map worker w (executions_listed line))) ∙ is)
  where
    by : (o : Option Execution) → found worker w (executions_listed line) ≡ o → option_map executed_work o ≡ Some n → runner_at line n ≡ Some w
    by None here told = let no : ⊥ = cc in absurd no
    by (Some x) here told = let one : x.work ≡ n = cc in ap (runner_at line) (sym one) ∙ (told-worker line w x here).1

pub idle-worker : (line : List NumberedWork) (w : ℕ) → AreApart line → option_map executed_work (found worker w (executions line)) ≡ None → (n : ℕ)
    → runner_at line n ≡ Some w → ⊥
idle-worker line w apart is = by (found worker w (executions_listed line)) refl (sym (ap (option_map executed_work) (found-as_map worker w
    (executions_listed line))) ∙ is)
  where
    by : (o : Option Execution) → found worker w (executions_listed line) ≡ o → option_map executed_work o ≡ None → (n : ℕ) → runner_at line n ≡ Some w → ⊥
    by None here told = no-worker line w here apart
    by (Some x) here told = let no : ⊥ = cc in absurd no

-- A WORKER STARTS
module _ (line others : List NumberedWork) (n w : ℕ) (apart : AreApart line) (idle : (m : ℕ) → runner_at line m ≡ Some w
    → ⊥) (waited : runner_at line n ≡ None) (at : (m : ℕ) → runner_at others m ≡ cond (n == m) (Some w) (runner_at line m)) where
  pub apart-started : AreApart others
  apart-started a b v here there = by (n == a) (n == b) refl refl (sym (at a) ∙ here) (sym (at b) ∙ there)
    where
      by : (p q : Bool) → (n == a) ≡ p → (n == b) ≡ q → cond p (Some w) (runner_at line a) ≡ Some v → cond q (Some w) (runner_at line b) ≡ Some v → a ≡ b
      by true true one two first second = sym (same-tells n a one) ∙ same-tells n b two
      by true false one two first second = absurd (idle b (second ∙ sym first))
      by false true one two first second = absurd (idle a (first ∙ sym second))
      by false false one two first second = apart a b v first second

  pub executions-started : executions others ≡ with_record worker (execution w n) (executions line)
  executions-started =
      found-same worker (executions others) (with_record worker (execution w n) (executions line)) (rising-as_map worker (executions_listed others))
      (rising-with_record worker (execution w n) (executions line) (rising-as_map worker (executions_listed line)))
      (λ v. found-as_map worker v (executions_listed others) ∙ by v (w == v) refl ∙ ap (cond (w == v) (Some (execution w n))) (sym (found-as_map worker v
      (executions_listed line)))
      ∙ sym (found-with_record worker v (execution w n) (executions line)))
    where
      case : (v : ℕ) (o : Option Execution) → (w == v) ≡ false → found worker v (executions_listed line) ≡ o → found worker v (executions_listed others) ≡ o
      case v None other is = found-none others v (λ m here. not_here m (n == m) refl (sym (at m) ∙ here))
        where
          not_here : (m : ℕ) (b : Bool) → (n == m) ≡ b → cond b (Some w) (runner_at line m) ≡ Some v → ⊥
          not_here m true same told = let one : w ≡ v = cc in let it : (w == v) ≡ true = ap (λ k. w == k) (sym one) ∙ same-self w in cc
          not_here m false same told = no-worker line v is apart m told
      case v (Some x) other is =
          let told = told-worker line v x is in
          found-worker others apart-started x.work v (at x.work ∙ still (n == x.work) refl told.1) ∙ ap (λ k. Some (execution k x.work)) (sym told.0)
        where
          still : (b : Bool) → (n == x.work) ≡ b → runner_at line x.work ≡ Some v → cond b (Some w) (runner_at line x.work) ≡ Some v
          still true same told = let no : ⊥ = let it : None ≡ Some v = sym waited ∙ ap (runner_at line) (same-tells n x.work same) ∙ told in cc in absurd no
          still false same told = told

      by : (v : ℕ) (b : Bool) → (w == v) ≡ b → found worker v (executions_listed others) ≡ cond b (Some (execution w n)) (found worker v
          (executions_listed line))
      by v true same = let one : w ≡ v = same-tells w v same in ap (λ k. found worker k (executions_listed others)) (sym one)
          ∙ found-worker others apart-started n w (at n ∙ ap (λ b. cond b (Some w) (runner_at line n)) (same-self n))
      by v false same = case v (found worker v (executions_listed line)) same refl

-- A WORKER FINISHES
-- one work fewer runs
pub apart-less : (line others : List NumberedWork) (n : ℕ) → AreApart line → ((m : ℕ) → runner_at others m ≡ cond (n == m) None (runner_at line m))
    → AreApart others
apart-less line others n apart at a b v here there = by (n == a) (n == b) (sym (at a) ∙ here) (sym (at b) ∙ there)
  where
    by : (p q : Bool) → cond p None (runner_at line a) ≡ Some v → cond q None (runner_at line b) ≡ Some v → a ≡ b
    by true q first second = let no : ⊥ = cc in absurd no
    by false true first second = let no : ⊥ = cc in absurd no
    by false false first second = apart a b v first second

module _ (line others : List NumberedWork) (n w : ℕ) (apart : AreApart line) (is : runner_at line n ≡ Some w) (at : (m : ℕ)
    → runner_at others m ≡ cond (n == m) None (runner_at line m)) where
  pub executions-finished : executions others ≡ filter (λ x. not (x.worker == w)) (executions line)
  executions-finished =
      found-same worker (executions others) (filter (λ x. not (x.worker == w)) (executions line)) (rising-as_map worker (executions_listed others))
      (rising-filter worker (λ x. not (x.worker == w)) (executions line) (rising-as_map worker (executions_listed line)))
      (λ v. found-as_map worker v (executions_listed others) ∙ by v (v == w) refl ∙ ap (λ o. cond (not (v == w)) o None) (sym (found-as_map worker v
      (executions_listed line)))
      ∙ sym (found-filter worker (λ k. not (k == w)) v (executions line)))
    where
      gone : (v : ℕ) → w ≡ v → (m : ℕ) → runner_at others m ≡ Some v → ⊥
      gone v one m here = case (n == m) refl (sym (at m) ∙ here)
        where
          case : (b : Bool) → (n == m) ≡ b → cond b None (runner_at line m) ≡ Some v → ⊥
          case true same told = cc
          case false same told = let its : n ≡ m = apart n m w is (told ∙ ap (λ k. Some k) (sym one)) in let it : (n == m) ≡ true = ap (λ k. n == k)
              (sym its) ∙ same-self n in cc

      case : (v : ℕ) (o : Option Execution) → (v == w) ≡ false → found worker v (executions_listed line) ≡ o → found worker v (executions_listed others) ≡ o
      case v None other none = found-none others v (λ m here. not_here m (n == m) (sym (at m) ∙ here))
        where
          not_here : (m : ℕ) (b : Bool) → cond b None (runner_at line m) ≡ Some v → ⊥
          not_here m true told = cc
          not_here m false told = no-worker line v none apart m told
      case v (Some x) other found_is =
          let told = told-worker line v x found_is in
          found-worker others (apart-less line others n apart at) x.work v (at x.work ∙ still (n == x.work) refl told.1)
          ∙ ap (λ k. Some (execution k x.work)) (sym told.0)
        where
          still : (b : Bool) → (n == x.work) ≡ b → runner_at line x.work ≡ Some v → cond b None (runner_at line x.work) ≡ Some v
          still true same told =
              let one : Some w ≡ Some v = sym is ∙ ap (runner_at line) (same-tells n x.work same) ∙ told in
              let no : ⊥ = let its : v ≡ w = cc in let it : (v == w) ≡ true = ap (λ k. k == w) its ∙ same-self w in cc in absurd no
          still false same told = told

      by : (v : ℕ) (b : Bool) → (v == w) ≡ b → found worker v (executions_listed others) ≡ cond (not b) (found worker v (executions_listed line)) None
      by v true same = found-none others v (gone v (sym (same-tells v w same)))
      by v false same = case v (found worker v (executions_listed line)) same refl

  pub length-finished : length (filter (λ x. not (x.worker == w)) (executions line)) + 1 ≡ length (executions line)
  length-finished = length-without worker w (executions line) (execution w n) (rising-as_map worker (executions_listed line)) (found-as_map worker w
      (executions_listed line) ∙ found-worker line apart n w is)
