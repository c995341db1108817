-- The heap of the places that are busy, of which the lowest is at the top.
use Rattle.std.proofs.Common.{◌≡◌, ◌≢◌, ◌∙◌, ℕ, zero, suc, ◌+◌, ◌-◌, ◌<◌, ◌≤◌, ◌==◌, Bool, true, false, not, cond, List, [], ◌∷◌, ◌++◌, length, set, count_by, refl, ap, sym, arith, IsPermutation, nat_cmp, get_or, inl, inr}
use Rattle.std.proofs.HeapSift.{at_most}
use Rattle.std.proofs.lemmas.Bool.{cases_lt}
use Rattle.std.proofs.lemmas.Bool.Decides.{nat_tests}
use Rattle.std.proofs.lemmas.List.{get_or-set_same, get_or-set_other, length-set, length_push, get_or_past, get_or_append_left, get_or-append_right}
use Rattle.std.proofs.lemmas.List.Sums.{sum_by-cons, sum_by-set, sum_by-append, get_or-le-sum_by}
use Rattle.std.proofs.lemmas.List.Sorted.{sum_by-IsPermutation}
use Rattle.std.specs.BinaryHeap.{IsHeap, IsUpperBound}
use Rattle.std.specs.declared.cmp.Reverse.{Reverse}
use Rattle.tsfn.specs.BusyPlaces.{is_busy_at, IsLowestBusy, NoneIsBusy, IsInHeap}

-- HOW OFTEN A PLACE IS IN A HEAP
abbrev pub times_at : ℕ → List (Reverse ℕ) → ℕ
times_at n ts = count_by (λ t. t.0 == n) ts

pub times-pushed : (n : ℕ) (t : Reverse ℕ) (ts us : List (Reverse ℕ)) → IsPermutation (t ∷ ts) us → times_at n us ≡ cond (t.0 == n) 1 0 + times_at n ts
times-pushed n t ts us moved = sum_by-IsPermutation (λ (u : Reverse ℕ). cond (u.0 == n) 1 0) (t ∷ ts) us moved ∙ sum_by-cons (λ (u : Reverse ℕ). cond (u.0 == n) 1 0) t ts

pub times-popped : (n : ℕ) (t : Reverse ℕ) (ts us : List (Reverse ℕ)) → IsPermutation ts (t ∷ us) → times_at n ts ≡ cond (t.0 == n) 1 0 + times_at n us
times-popped n t ts us moved =
    sym (sum_by-IsPermutation (λ (u : Reverse ℕ). cond (u.0 == n) 1 0) ts (t ∷ us) moved) ∙ sum_by-cons (λ (u : Reverse ℕ). cond (u.0 == n) 1 0) t us

own-place : (t : Reverse ℕ) → ◌≡◌ {A = ℕ} (cond (t.0 == t.0) 1 0) 1
own-place t = grind arith

-- what is in the heap is not below one that nothing is below
pub not-below : (x : Reverse ℕ) (ts : List (Reverse ℕ)) (n : ℕ) → IsUpperBound (λ (a b : Reverse ℕ). nat_cmp b.0 a.0) x ts → 1 ≤ times_at n ts → x.0 ≤ n
not-below x [] n bound some = absurd (omega (arith, some))
not-below x (t ∷ ts) n bound some =
    by (t.0 == n) refl (omega (arith, some, sum_by-cons (λ (u : Reverse ℕ). cond (u.0 == n) 1 0) t ts)) (not-below x ts n bound.1)
  where
    by : (b : Bool) → (t.0 == n) ≡ b → 1 ≤ cond b 1 0 + times_at n ts → (1 ≤ times_at n ts → x.0 ≤ n) → x.0 ≤ n
    by true here some rest = let same : t.0 ≡ n = grind (arith, nat_tests, here) in omega (arith, at_most t.0 x.0 bound.0, same)
    by false here some rest = rest (omega (arith, some))

top-times : (x : Reverse ℕ) (ts : List (Reverse ℕ)) → x ≡ get_or ts 0 x → 0 < length ts → 1 ≤ times_at x.0 ts
top-times x [] is some = absurd (omega (arith, some))
top-times x (t ∷ ts) is some =
    let one : cond (t.0 == x.0) 1 0 ≡ 1 = ap (λ (r : Reverse ℕ). cond (t.0 == r.0) 1 0) is ∙ own-place t in
    omega (arith, one, sum_by-cons (λ (u : Reverse ℕ). cond (u.0 == x.0) 1 0) t ts)

some-length : (n : ℕ) (ts : List (Reverse ℕ)) → 1 ≤ times_at n ts → 0 < length ts
some-length n [] some = absurd (omega (arith, some))
some-length n (t ∷ ts) some = omega arith

-- PLACES
pub busy-within : (busy : List Bool) (n : ℕ) → is_busy_at busy n ≡ true → n < length busy
busy-within busy n is = elim (cases_lt n (length busy)) [
  | inl within ↦ within
  | inr past ↦ let no : true ≡ false = sym is ∙ get_or_past busy n false past in absurd (cc)
]

-- how often each place is to be in the heap, once one of them is busy or not
once-set : (busy : List Bool) (n m : ℕ) (b : Bool) → n < length busy
    → ◌≡◌ {A = ℕ} (cond (m == n) (cond b 1 0) (cond (is_busy_at busy m) 1 0)) (cond (is_busy_at (set busy n b) m) 1 0)
once-set busy n m b within = by (m == n) refl
  where
    by : (e : Bool) → (m == n) ≡ e → ◌≡◌ {A = ℕ} (cond e (cond b 1 0) (cond (is_busy_at busy m) 1 0)) (cond (is_busy_at (set busy n b) m) 1 0)
    by true here =
        let same : m ≡ n = grind (arith, nat_tests, here) in
        ap (λ c. cond c 1 0) (sym (ap (is_busy_at (set busy n b)) same ∙ get_or-set_same busy n b false within))
    by false here = ap (λ c. cond c 1 0) (sym (get_or-set_other busy n m b false (apart here)))
      where
        apart : (m == n) ≡ false → m ≢ n
        apart here = grind (arith, nat_tests, here)

module _ (busy : List Bool) (ts : List (Reverse ℕ)) (count room : ℕ) (kept : IsInHeap busy ts count room) where
  pub busy-there : (n : ℕ) → is_busy_at busy n ≡ true → 1 ≤ times_at n ts
  busy-there n is = let one : times_at n ts ≡ 1 = kept.once n ∙ ap (λ b. cond b 1 0) is in omega (arith, one)

  pub there-busy : (n : ℕ) → 1 ≤ times_at n ts → is_busy_at busy n ≡ true
  there-busy n some = by (is_busy_at busy n) (omega (arith, some, kept.once n))
    where
      by : (b : Bool) → 1 ≤ cond b 1 0 → b ≡ true
      by true h = refl
      by false h = absurd (omega (arith, h))

  -- THE LOWEST
  pub top-lowest : (x : Reverse ℕ) → x ≡ get_or ts 0 x → 0 < length ts → IsUpperBound (λ (a b : Reverse ℕ). nat_cmp b.0 a.0) x ts → IsLowestBusy busy x.0
  top-lowest x top some bound =
      let is = there-busy x.0 (top-times x ts top some) in
      record { within = busy-within busy x.0 is; is = is; lowest = λ n here. not-below x ts n bound (busy-there n here) }

  pub none-busy : length ts ≡ 0 → NoneIsBusy busy
  none-busy empty n = by (is_busy_at busy n) refl
    where
      by : (b : Bool) → is_busy_at busy n ≡ b → is_busy_at busy n ≡ false
      by true is = absurd (omega (arith, empty, some-length n ts (busy-there n is)))
      by false is = is

  -- one that is popped is the lowest
  pub popped-same : (x : Reverse ℕ) (us : List (Reverse ℕ)) (place : ℕ) → IsPermutation ts (x ∷ us) → IsUpperBound (λ (a b : Reverse ℕ). nat_cmp b.0 a.0) x ts
      → IsLowestBusy busy place → x.0 ≡ place
  popped-same x us place moved bound lowest =
      let is = there-busy x.0 (omega (arith, own-place x, times-popped x.0 x ts us moved)) in
      omega (arith, lowest.lowest x.0 is, not-below x ts place bound (busy-there place lowest.is))

  pub some-there : (place : ℕ) → IsLowestBusy busy place → 0 < length ts
  some-there place lowest = some-length place ts (busy-there place lowest.is)

  -- A PLACE CHANGES
  idle-count : (n : ℕ) (b : Bool) → n < length busy → count_by not (set busy n b) + cond (not (is_busy_at busy n)) 1 0 ≡ count_by not busy + cond (not b) 1 0
  idle-count n b within = sum_by-set (λ (c : Bool). cond (not c) 1 0) busy n b false within

  -- there is room for one that gets busy
  pub room-free : (n : ℕ) → n < length busy → is_busy_at busy n ≡ false → count < room
  room-free n within idle =
      let part : cond (not (is_busy_at busy n)) 1 0 ≤ count_by not busy = get_or-le-sum_by (λ (c : Bool). cond (not c) 1 0) busy n false within in
      let one : ◌≡◌ {A = ℕ} (cond (not (is_busy_at busy n)) 1 0) 1 = ap (λ b. cond (not b) 1 0) idle in
      omega (arith, part, one, kept.fits, kept.enough)

  pub kept-marked : (n : ℕ) (t : Reverse ℕ) (us : List (Reverse ℕ)) (count_after room_after : ℕ) → n < length busy → is_busy_at busy n ≡ false → t.0 ≡ n
      → IsPermutation (t ∷ ts) us → IsHeap (λ (a b : Reverse ℕ). nat_cmp b.0 a.0) us → count_after ≡ count + 1 → room ≤ room_after → IsInHeap (set busy n true) us count_after room_after
  kept-marked n t us count_after room_after within idle named moved order more wider = record {
    order = order;
    once = λ m. times-pushed m t ts us moved ∙ by m (m == n) refl ∙ once-set busy n m true within;
    fits = omega (arith, idle-count n true within, one, long, kept.fits, more);
    enough = omega (arith, long, kept.enough, wider);
  }
    where
      long : length (set busy n true) ≡ length busy
      long = length-set busy n true

      one : ◌≡◌ {A = ℕ} (cond (not (is_busy_at busy n)) 1 0) 1
      one = ap (λ b. cond (not b) 1 0) idle

      other : (m : ℕ) → (m == n) ≡ false → ◌≡◌ {A = ℕ} (cond (n == m) 1 0) 0
      other m here = grind (arith, nat_tests, here)

      none : times_at n ts ≡ 0
      none = kept.once n ∙ ap (λ b. cond b 1 0) idle

      by : (m : ℕ) (e : Bool) → (m == n) ≡ e → cond (t.0 == m) 1 0 + times_at m ts ≡ cond e (cond true 1 0) (cond (is_busy_at busy m) 1 0)
      by m true here =
          let same : m ≡ n = grind (arith, nat_tests, here) in
          let is : ◌≡◌ {A = ℕ} (cond (t.0 == m) 1 0) 1 = ap (λ k. cond (t.0 == k) 1 0) (same ∙ sym named) ∙ own-place t in
          let zero_times : times_at m ts ≡ 0 = ap (λ k. times_at k ts) same ∙ none in
          omega (arith, is, zero_times)
      by m false here =
          let is : ◌≡◌ {A = ℕ} (cond (t.0 == m) 1 0) 0 = ap (λ k. cond (k == m) 1 0) named ∙ other m here in
          omega (arith, is, kept.once m)

  pub kept-settled : (n : ℕ) (t : Reverse ℕ) (us : List (Reverse ℕ)) (count_after room_after : ℕ) → n < length busy → is_busy_at busy n ≡ true → t.0 ≡ n
      → IsPermutation ts (t ∷ us) → IsHeap (λ (a b : Reverse ℕ). nat_cmp b.0 a.0) us → count_after + 1 ≡ count → room_after ≡ room → IsInHeap (set busy n false) us count_after room_after
  kept-settled n t us count_after room_after within is named moved order fewer same_room = record {
    order = order;
    once = λ m. by m (m == n) refl (times-popped m t ts us moved) ∙ once-set busy n m false within;
    fits = omega (arith, idle-count n false within, none, long, kept.fits, fewer);
    enough = omega (arith, long, kept.enough, same_room);
  }
    where
      long : length (set busy n false) ≡ length busy
      long = length-set busy n false

      none : ◌≡◌ {A = ℕ} (cond (not (is_busy_at busy n)) 1 0) 0
      none = ap (λ b. cond (not b) 1 0) is

      other : (m : ℕ) → (m == n) ≡ false → ◌≡◌ {A = ℕ} (cond (n == m) 1 0) 0
      other m here = grind (arith, nat_tests, here)

      once : times_at n ts ≡ 1
      once = kept.once n ∙ ap (λ b. cond b 1 0) is

      by : (m : ℕ) (e : Bool) → (m == n) ≡ e → times_at m ts ≡ cond (t.0 == m) 1 0 + times_at m us → times_at m us ≡ cond e (cond false 1 0) (cond (is_busy_at busy m) 1 0)
      by m true here sums =
          let same : m ≡ n = grind (arith, nat_tests, here) in
          let one : ◌≡◌ {A = ℕ} (cond (t.0 == m) 1 0) 1 = ap (λ k. cond (t.0 == k) 1 0) (same ∙ sym named) ∙ own-place t in
          let all : times_at m ts ≡ 1 = ap (λ k. times_at k ts) same ∙ once in
          omega (arith, one, all, sums)
      by m false here sums =
          let zero_more : ◌≡◌ {A = ℕ} (cond (t.0 == m) 1 0) 0 = ap (λ k. cond (k == m) 1 0) named ∙ other m here in
          omega (arith, zero_more, sums, kept.once m)

  -- one place more, which is not busy
  pub kept-more : (room_after : ℕ) → length busy + 1 ≤ room_after → IsInHeap (busy ++ false ∷ []) ts count room_after
  kept-more room_after wider = record {
    order = kept.order;
    once = λ n. kept.once n ∙ ap (λ b. cond b 1 0) (sym (pushed n));
    fits = omega (arith, kept.fits, length_push busy false, sum_by-append (λ (c : Bool). cond (not c) 1 0) busy (false ∷ []));
    enough = omega (arith, length_push busy false, wider);
  }
    where
      alone : (m : ℕ) → is_busy_at (false ∷ []) m ≡ false
      alone zero = refl
      alone (suc m) = refl

      pushed : (n : ℕ) → is_busy_at (busy ++ false ∷ []) n ≡ is_busy_at busy n
      pushed n = elim (cases_lt n (length busy)) [
        | inl within ↦ get_or_append_left busy (false ∷ []) false n within
        | inr past ↦ get_or-append_right busy (false ∷ []) (length busy) n false refl past ∙ alone (n - length busy) ∙ sym (get_or_past busy n false past)
      ]
