-- Values are freed, and with each what it was as a promise.
use Rattle.std.proofs.Common.{◌≡◌, ◌∙◌, ℕ, ◌+◌, ◌==◌, ◌||◌, Bool, true, false, not, cond, List, [], ◌∷◌, ◌++◌, map, filter, refl, ap, sym}
use Rattle.std.proofs.lemmas.List.{map-append}
use Rattle.std.proofs.lemmas.List.Folds.{list_any-append}
use Rattle.napi_types.specs.declared.ids.ValueId.{ValueId}
use Rattle.napi_types.specs.plain.Lists.{has_number}
use Rattle.napi_types.specs.parts.Promises.{Promise, Deferred, Promises, without_promise, promises_left}
use Rattle.napi_types.proofs.plain.Found.{turned}
use Rattle.wrap_tag.specs.Wraps.{is_one_of}

one-more : (vs : List ValueId) (x : ValueId) (n : ℕ) → is_one_of (vs ++ x ∷ []) n ≡ (is_one_of vs n || (n == x.0))
one-more vs x n =
    ap (has_number n) (map-append (λ (f : ValueId). f.0) vs (x ∷ [])) ∙ list_any-append (λ m. m == n) (map (λ (f : ValueId). f.0) vs) (x.0 ∷ [])
    ∙ ap (λ b. is_one_of vs n || b) (last (x.0 == n) ∙ turned x.0 n)
  where
    last : (b : Bool) → (b || false) ≡ b
    last true = refl
    last false = refl

pub filter-none : {A : Type 0} (xs : List A) → filter (λ x. true) xs ≡ xs
filter-none [] = refl
filter-none (x ∷ xs) = ap (λ ys. x ∷ ys) (filter-none xs)

pub filter-more : {A : Type 0} (number : A → ℕ) (vs : List ValueId) (x : ValueId) (xs : List A)
    → filter (λ r. not (number r == x.0)) (filter (λ r. not (is_one_of vs (number r))) xs) ≡ filter (λ r. not (is_one_of (vs ++ x ∷ []) (number r))) xs
filter-more number vs x [] = refl
filter-more {A} number vs x (r ∷ rs) =
    by (is_one_of vs (number r)) (number r == x.0) refl (filter-more number vs x rs)
    ∙ ap (λ c. cond (not c) (r ∷ after) after) (sym (one-more vs x (number r)))
  where
    before : List A
    before = filter (λ q. not (is_one_of vs (number q))) rs

    after : List A
    after = filter (λ q. not (is_one_of (vs ++ x ∷ []) (number q))) rs

    kept : List A
    kept = filter (λ q. not (number q == x.0)) before

    by : (a b : Bool) → (number r == x.0) ≡ b → kept ≡ after → filter (λ q. not (number q == x.0)) (cond (not a) (r ∷ before) before) ≡ cond (not (a || b)) (r ∷ after) after
    by true b is rest = rest
    by false true is rest = ap (λ c. cond (not c) (r ∷ kept) kept) is ∙ rest
    by false false is rest = ap (λ c. cond (not c) (r ∷ kept) kept) is ∙ ap (λ ys. r ∷ ys) rest

-- two with other promises and deferreds are equal where these are
same-left : (p : Promises) (qs rs : List Promise) (ds es : List Deferred) → qs ≡ rs → ds ≡ es → record p { promises = qs; deferreds = ds } ≡ record p { promises = rs; deferreds = es }
same-left p qs rs ds es e f = cc

pub left-none : (p : Promises) → promises_left (is_one_of []) p ≡ p
left-none p = same-left p _ p.promises _ p.deferreds (filter-none p.promises) (filter-none p.deferreds)

pub left-more : (vs : List ValueId) (x : ValueId) (p now new : Promises) → now ≡ promises_left (is_one_of vs) p → new ≡ without_promise x.0 now
    → new ≡ promises_left (is_one_of (vs ++ x ∷ [])) p
left-more vs x p now new was is =
    is ∙ ap (without_promise x.0) was
    ∙ same-left p _ _ _ _ (filter-more (λ (r : Promise). r.value) vs x p.promises) (filter-more (λ (d : Deferred). d.promise) vs x p.deferreds)
