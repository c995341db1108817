-- Lists whose numbers rise, and what a binary search finds in them.
use Rattle.std.proofs.Common.{◌≡◌, ◌≢◌, ◌∙◌, ℕ, zero, suc, ◌+◌, ◌-◌, ◌<◌, ◌≤◌, ◌==◌, Bool, true, false, cond, List, [], ◌∷◌, ◌++◌, length, map, reverse, get_or, take, drop, refl, ap, sym, arith, Result, Ok, Err, inl, inr, is_ok, All}
use Rattle.std.specs.List.{list_any, filter}
use Rattle.std.specs.List.Sorted.{IsSearchInRange, IsBinarySearchResult, IsNonDecreasingBy}
use Rattle.std.specs.Ordering.{nat_cmp, ordering_index}
use Rattle.std.proofs.lemmas.Cmp.{ranked}
use Rattle.std.proofs.lemmas.Bool.{cases_lt}
use Rattle.std.proofs.lemmas.Bool.Decides.{nat_tests}
use Rattle.std.proofs.lemmas.List.{get_or-drop, get_or-take, get_or_append_left, get_or-append-add, get_or-map, get_or-reverse, length-append, length-drop, length-take, length-map, length-reverse}
use Rattle.std.proofs.lemmas.List.Elements.{All-get_or, All-filter}
use Rattle.handle_scope.specs.Marks.{Rises, AreAtMost}

-- A LIST THAT GROWS AND SHRINKS
pub Rises-drop : {A : Type 0} (number : A → ℕ) (k : ℕ) (xs : List A) → Rises number xs → Rises number (drop k xs)
Rises-drop number k xs r = record {
  rise = λ i j d lt in_range.
      let here : j < length xs - k = omega (arith, length-drop k xs, in_range) in
      rw (get_or-drop k xs i d, get_or-drop k xs j d) (r.rise (k + i) (k + j) d (omega arith) (omega arith));
}

pub Rises-take : {A : Type 0} (number : A → ℕ) (k : ℕ) (xs : List A) → Rises number xs → Rises number (take k xs)
Rises-take number k xs r = record {
  rise = λ i j d lt in_range.
      let here : j < k = omega (arith, length-take k xs, in_range) in
      let first : i < k = omega arith in
      rw (get_or-take k xs i d first, get_or-take k xs j d here) (r.rise i j d lt (omega (arith, length-take k xs, in_range)));
}

pub AreAtMost-take : {A : Type 0} (number : A → ℕ) (k : ℕ) (xs : List A) (most : ℕ) → AreAtMost number xs most → AreAtMost number (take k xs) most
AreAtMost-take number k xs most a = record {
  at = λ i d in_range.
      let here : i < k = omega (arith, length-take k xs, in_range) in
      rw (get_or-take k xs i d here) (a.at i d (omega (arith, length-take k xs, in_range)));
}

pub Rises-front : {A : Type 0} (number : A → ℕ) (xs ys : List A) → Rises number (xs ++ ys) → Rises number xs
Rises-front number xs ys r = record {
  rise = λ i j d lt in_range.
      let first : i < length xs = omega arith in
      rw (← get_or_append_left xs ys d i first, ← get_or_append_left xs ys d j in_range) (r.rise i j d lt (omega (arith, length-append xs ys)));
}

pub AreAtMost-front : {A : Type 0} (number : A → ℕ) (xs ys : List A) (most : ℕ) → AreAtMost number (xs ++ ys) most → AreAtMost number xs most
AreAtMost-front number xs ys most a = record {
  at = λ i d in_range.
      rw (← get_or_append_left xs ys d i in_range) (a.at i d (omega (arith, length-append xs ys)));
}

pub Rises-push : {A : Type 0} (number : A → ℕ) (xs : List A) (x : A) (most : ℕ) → Rises number xs → AreAtMost number xs most → most < number x
    → Rises number (xs ++ x ∷ [])
Rises-push number xs x most r a above = record {
  rise = λ i j d lt in_range.
      let len : length (xs ++ x ∷ []) ≡ length xs + 1 = length-append xs (x ∷ []) in
      let i_in : i < length xs = omega arith in
      elim (cases_lt j (length xs)) [
        | inl inside ↦ rw (get_or_append_left xs (x ∷ []) d i i_in, get_or_append_left xs (x ∷ []) d j inside) (r.rise i j d lt inside)
        | inr past ↦
            let here : j ≡ length xs + 0 = omega arith in
            rw (here, get_or_append_left xs (x ∷ []) d i i_in, get_or-append-add xs (x ∷ []) 0 d) (let low : number (get_or xs i d) ≤ most = a.at i d i_in in omega arith)
      ];
}

pub AreAtMost-push : {A : Type 0} (number : A → ℕ) (xs : List A) (x : A) (most more : ℕ) → AreAtMost number xs most → most ≤ more → number x ≤ more
    → AreAtMost number (xs ++ x ∷ []) more
AreAtMost-push number xs x most more a le here = record {
  at = λ i d in_range.
      let len : length (xs ++ x ∷ []) ≡ length xs + 1 = length-append xs (x ∷ []) in
      elim (cases_lt i (length xs)) [
        | inl inside ↦ rw (get_or_append_left xs (x ∷ []) d i inside) (let low : number (get_or xs i d) ≤ most = a.at i d inside in omega arith)
        | inr past ↦
            let last : i ≡ length xs + 0 = omega arith in
            rw (last, get_or-append-add xs (x ∷ []) 0 d) here
      ];
}

-- A SEARCH BY NUMBER
rising-comparisons : {A : Type 0} (number : A → ℕ) (xs : List A) (k : ℕ) → Rises number xs → IsNonDecreasingBy (λ x. ordering_index (nat_cmp (number x) k)) xs
rising-comparisons number xs k r = λ i j d le in_range.
    let up : number (get_or xs i d) ≤ number (get_or xs j d) = grind (arith, r.rise i j d, λ (same : i ≡ j). ap (λ n. number (get_or xs n d)) same) in
    grind (arith, nat_tests)

-- no element has the number
pub record Lacks {A : Type 0} (number : A → ℕ) (xs : List A) (k : ℕ) : Type 0 where
  pub at : (i : ℕ) (d : A) → i < length xs → number (get_or xs i d) ≢ k

-- the element at a place has the number
pub record HasAt {A : Type 0} (number : A → ℕ) (xs : List A) (k at : ℕ) : Type 0 where
  pub inside : at < length xs
  pub same : (d : A) → number (get_or xs at d) ≡ k

-- what a binary search for a number finds
pub search-found : {A : Type 0} (number : A → ℕ) (xs : List A) (k at : ℕ) → IsSearchInRange (Ok at) (length xs)
    → IsBinarySearchResult (λ x. nat_cmp (number x) k) xs (Ok at) → HasAt number xs k at
search-found number xs k at in_range equal = record { inside = in_range; same = λ d. ranked _ k _ (sym (equal d)) }

-- the numbers before a place are below the one that is looked for, and those from it on are above
pub record IsGap {A : Type 0} (number : A → ℕ) (xs : List A) (k gap : ℕ) : Type 0 where
  pub inside : gap ≤ length xs
  pub below : (i : ℕ) (d : A) → i < gap → number (get_or xs i d) < k
  pub above : (i : ℕ) (d : A) → gap ≤ i → i < length xs → k < number (get_or xs i d)

pub search-gap : {A : Type 0} (number : A → ℕ) (xs : List A) (k gap : ℕ) → Rises number xs → IsSearchInRange (Err gap) (length xs)
    → IsBinarySearchResult (λ x. nat_cmp (number x) k) xs (Err gap) → IsGap number xs k gap
search-gap number xs k gap r in_range parted =
    let comparisons = rising-comparisons number xs k r in
    record {
      inside = in_range;
      below = λ i d below. ranked _ k _ (sym ((parted comparisons).0 i d (omega arith) below));
      above = λ i d above inside. ranked _ k _ (sym ((parted comparisons).1 i d above inside));
    }

gap-lacks : {A : Type 0} (number : A → ℕ) (xs : List A) (k gap : ℕ) → IsGap number xs k gap → Lacks number xs k
gap-lacks number xs k gap g = record {
  at = λ i d inside same. elim (cases_lt i gap) [
    | inl below ↦ let less : number (get_or xs i d) < k = g.below i d below in omega arith
    | inr above ↦ let more : k < number (get_or xs i d) = g.above i d above inside in omega arith
  ];
}

pub search-lacks : {A : Type 0} (number : A → ℕ) (xs : List A) (k gap : ℕ) → Rises number xs → IsSearchInRange (Err gap) (length xs)
    → IsBinarySearchResult (λ x. nat_cmp (number x) k) xs (Err gap) → Lacks number xs k
search-lacks number xs k gap r in_range parted = gap-lacks number xs k gap (search-gap number xs k gap r in_range parted)

pub Lacks-reverse : {A : Type 0} (number : A → ℕ) (xs : List A) (k : ℕ) → Lacks number xs k → Lacks number (reverse xs) k
Lacks-reverse number xs k l = record {
  at = λ i d inside same.
      let here : i < length xs = omega (arith, inside, length-reverse xs) in
      l.at (length xs - 1 - i) d (omega arith) (ap number (sym (get_or-reverse xs i d here)) ∙ same);
}

-- the numbers before and after a place of a list that rises are not the one that stands there
pub Lacks-before : {A : Type 0} (number : A → ℕ) (xs : List A) (k at : ℕ) → Rises number xs → HasAt number xs k at → Lacks number (take at xs) k
Lacks-before number xs k at r h = record {
  at = λ i d inside same.
      let first : i < at = omega (arith, inside, length-take at xs) in
      let less : number (get_or xs i d) < number (get_or xs at d) = r.rise i at d first h.inside in
      let here : number (get_or xs at d) ≡ k = h.same d in
      let there : number (get_or xs i d) ≡ k = ap number (sym (get_or-take at xs i d first)) ∙ same in
      omega arith;
}

pub Lacks-after : {A : Type 0} (number : A → ℕ) (xs : List A) (k at : ℕ) → Rises number xs → HasAt number xs k at → Lacks number (drop (suc at) xs) k
Lacks-after number xs k at r h = record {
  at = λ i d inside same.
      let last : suc at + i < length xs = omega (arith, inside, length-drop (suc at) xs) in
      let more : number (get_or xs at d) < number (get_or xs (suc at + i) d) = r.rise at (suc at + i) d (omega arith) last in
      let here : number (get_or xs at d) ≡ k = h.same d in
      let there : number (get_or xs (suc at + i) d) ≡ k = ap number (sym (get_or-drop (suc at) xs i d)) ∙ same in
      omega arith;
}

pub HasAt-tail : {A : Type 0} (number : A → ℕ) (x : A) (xs : List A) (k at : ℕ) → HasAt number (x ∷ xs) k (suc at) → HasAt number xs k at
HasAt-tail number x xs k at h = record { inside = omega (arith, h.inside); same = h.same }

pub Lacks-tail : {A : Type 0} (number : A → ℕ) (x : A) (xs : List A) (k : ℕ) → Lacks number (x ∷ xs) k → Lacks number xs k
Lacks-tail number x xs k l = record { at = λ i d inside. l.at (suc i) d (omega arith) }

pub Rises-tail : {A : Type 0} (number : A → ℕ) (x : A) (xs : List A) → Rises number (x ∷ xs) → Rises number xs
Rises-tail number x xs r = record { rise = λ i j d lt inside. r.rise (suc i) (suc j) d (omega arith) (omega arith) }

any-found : {A : Type 0} (number : A → ℕ) (xs : List A) (k at : ℕ) → HasAt number xs k at → list_any (λ x. number x == k) xs ≡ true
any-found number [] k at h = absurd (omega (arith, h.inside))
any-found number (x ∷ xs) k zero h = grind (arith, nat_tests, h.same x)
any-found number (x ∷ xs) k (suc at) h = grind (arith, nat_tests, any-found number xs k at (HasAt-tail number x xs k at h))

any-lacks : {A : Type 0} (number : A → ℕ) (xs : List A) (k : ℕ) → Lacks number xs k → list_any (λ x. number x == k) xs ≡ false
any-lacks number [] k l = refl
any-lacks number (x ∷ xs) k l = grind (arith, nat_tests, l.at 0 x (omega arith), any-lacks number xs k (Lacks-tail number x xs k l))

-- a binary search for a number finds an element exactly where one has it
pub any-search : {A : Type 0} (number : A → ℕ) (xs : List A) (k : ℕ) (r : Result ℕ ℕ) → Rises number xs → IsSearchInRange r (length xs)
    → IsBinarySearchResult (λ x. nat_cmp (number x) k) xs r → is_ok r ≡ list_any (λ x. number x == k) xs
any-search number xs k (Ok at) r in_range position = sym (any-found number xs k at (search-found number xs k at in_range position))
any-search number xs k (Err gap) r in_range position = sym (any-lacks number xs k (search-lacks number xs k gap r in_range position))

pub AreAtMost-more : {A : Type 0} (number : A → ℕ) (xs : List A) (most more : ℕ) → most ≤ more → AreAtMost number xs most → AreAtMost number xs more
AreAtMost-more number xs most more le a = record {
  at = λ i d in_range. let low : number (get_or xs i d) ≤ most = a.at i d in_range in omega arith;
}

-- A LIST OF THE SAME NUMBERS
same-length : {A : Type 0} (number : A → ℕ) (xs ys : List A) → map number xs ≡ map number ys → length xs ≡ length ys
same-length number xs ys e = sym (length-map xs number) ∙ ap length e ∙ length-map ys number

same-at : {A : Type 0} (number : A → ℕ) (xs ys : List A) (k : ℕ) (d : A) → map number xs ≡ map number ys → k < length ys → number (get_or xs k d) ≡ number (get_or ys k d)
same-at number xs ys k d e inside =
    let here : k < length xs = omega (arith, same-length number xs ys e) in
    sym (get_or-map number xs k d 0 here) ∙ ap (λ l. get_or l k 0) e ∙ get_or-map number ys k d 0 inside

pub Rises-same : {A : Type 0} (number : A → ℕ) (xs ys : List A) → map number xs ≡ map number ys → Rises number xs → Rises number ys
Rises-same number xs ys e r = record {
  rise = λ i j d lt in_range.
      let first : i < length ys = omega arith in
      let len : length xs ≡ length ys = same-length number xs ys e in
      rw (← same-at number xs ys i d e first, ← same-at number xs ys j d e in_range) (r.rise i j d lt (omega arith));
}

pub AreAtMost-same : {A : Type 0} (number : A → ℕ) (xs ys : List A) (most : ℕ) → map number xs ≡ map number ys → AreAtMost number xs most → AreAtMost number ys most
AreAtMost-same number xs ys most e a = record {
  at = λ i d in_range.
      let len : length xs ≡ length ys = same-length number xs ys e in
      rw (← same-at number xs ys i d e in_range) (a.at i d (omega arith));
}

-- A PART OF A LIST
All-at-most : {A : Type 0} (number : A → ℕ) (xs : List A) (most : ℕ) → AreAtMost number xs most → All (λ x. number x ≤ most) xs
All-at-most number xs most a = a.at

pub AreAtMost-filter : {A : Type 0} (number : A → ℕ) (p : A → Bool) (xs : List A) (most : ℕ) → AreAtMost number xs most → AreAtMost number (filter p xs) most
AreAtMost-filter number p xs most a = record {
  at = λ i d in_range. All-get_or (λ x. number x ≤ most) (filter p xs) i d in_range (All-filter p (λ x. number x ≤ most) xs (All-at-most number xs most a));
}

-- the first number is below the others
Rises-first : {A : Type 0} (number : A → ℕ) (x : A) (xs : List A) → Rises number (x ∷ xs) → All (λ y. number x < number y) xs
Rises-first number x xs r = (λ i d in_range. r.rise 0 (suc i) d (omega arith) (omega arith))

rise_cons : {A : Type 0} (number : A → ℕ) (x : A) (xs : List A) → All (λ y. number x < number y) xs → Rises number xs
    → (i j : ℕ) (d : A) → i < j → j < length (x ∷ xs) → number (get_or (x ∷ xs) i d) < number (get_or (x ∷ xs) j d)
rise_cons number x xs above r i zero d lt in_range = absurd (omega arith)
rise_cons number x xs above r zero (suc j) d lt in_range = All-get_or (λ y. number x < number y) xs j d (omega arith) above
rise_cons number x xs above r (suc i) (suc j) d lt in_range = r.rise i j d (omega arith) (omega arith)

Rises-cons : {A : Type 0} (number : A → ℕ) (x : A) (xs : List A) → All (λ y. number x < number y) xs → Rises number xs → Rises number (x ∷ xs)
Rises-cons number x xs above r = record {
  rise = λ i j d lt in_range. rise_cons number x xs above r i j d lt in_range;
}

filter-cons : {A : Type 0} (number : A → ℕ) (p : A → Bool) (x : A) (xs : List A) (b : Bool) → Rises number (x ∷ xs) → Rises number (filter p xs)
    → Rises number (cond b (x ∷ filter p xs) (filter p xs))
filter-cons number p x xs true r rest = Rises-cons number x (filter p xs) (All-filter p (λ y. number x < number y) xs (Rises-first number x xs r)) rest
filter-cons number p x xs false r rest = rest

pub Rises-filter : {A : Type 0} (number : A → ℕ) (p : A → Bool) (xs : List A) → Rises number xs → Rises number (filter p xs)
Rises-filter number p [] r = r
Rises-filter number p (x ∷ xs) r = filter-cons number p x xs (p x) r (Rises-filter number p xs (Rises-tail number x xs r))
