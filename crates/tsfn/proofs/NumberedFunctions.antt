-- Functions whose numbers count up: where that of a number stands, and what is changed there.
use Rattle.std.proofs.Common.{◌≡◌, ◌∙◌, ◌<◌, ◌≤◌, ◌⊎◌, inl, inr, ℕ, zero, suc, ◌+◌, ◌==◌, cond, List, [], ◌∷◌, ◌++◌, length, set, refl, ap, arith, Some, None, get_or}
use Rattle.napi_types.specs.parts.Functions.{FunctionState}
use Rattle.napi_types.proofs.plain.Found.{apart-above, apart-below, same-self}
use Rattle.tsfn.specs.FunctionList.{function_numbered, with_function_changed}
use Rattle.tsfn.specs.KeptFunctions.{AreNumberedFrom}

-- WHERE IT STANDS
pub numbered-none : (k n : ℕ) (fs : List FunctionState) → AreNumberedFrom k fs → (n < k) ⊎ (k + length fs ≤ n) → function_numbered n fs ≡ None
numbered-none k n [] numbered out = refl
numbered-none k n (f ∷ fs) numbered (inl below) =
    ap (λ b. cond b (Some f) (function_numbered n fs)) (apart-above n f.id (omega (arith, below, numbered.0)))
    ∙ numbered-none (suc k) n fs numbered.1 (inl (omega (arith, below)))
numbered-none k n (f ∷ fs) numbered (inr above) =
    ap (λ b. cond b (Some f) (function_numbered n fs)) (apart-below f.id n (first (length fs) above))
    ∙ numbered-none (suc k) n fs numbered.1 (inr (later (length fs) above))
  where
    first : (l : ℕ) → k + suc l ≤ n → f.id < n
    first l above = omega (arith, above, numbered.0)

    later : (l : ℕ) → k + suc l ≤ n → suc k + l ≤ n
    later l above = omega (arith, above)

less : (i l : ℕ) → suc i < suc l → i < l
less i l within = omega (arith, within)

pub numbered-at : (k i n : ℕ) (fs : List FunctionState) (d : FunctionState) → AreNumberedFrom k fs → i < length fs → k + i ≡ n → function_numbered n fs ≡ Some (get_or fs i d)
numbered-at k i n [] d numbered within is = absurd (omega (arith, within))
numbered-at k zero n (f ∷ fs) d numbered within is =
    ap (λ b. cond b (Some f) (function_numbered n fs)) (ap (λ m. f.id == m) here ∙ same-self f.id)
  where
    here : n ≡ f.id
    here = omega (arith, is, numbered.0)
numbered-at k (suc i) n (f ∷ fs) d numbered within is =
    ap (λ b. cond b (Some f) (function_numbered n fs)) (apart-below f.id n (omega (arith, is, numbered.0)))
    ∙ numbered-at (suc k) i n fs d numbered.1 (less i (length fs) within) (omega (arith, is))

pub id-at : (k i : ℕ) (fs : List FunctionState) (d : FunctionState) → AreNumberedFrom k fs → i < length fs → (get_or fs i d).id ≡ k + i
id-at k i [] d numbered within = absurd (omega (arith, within))
id-at k zero (f ∷ fs) d numbered within = omega (arith, numbered.0)
id-at k (suc i) (f ∷ fs) d numbered within = id-at (suc k) i fs d numbered.1 (less i (length fs) within) ∙ omega arith

-- ONE CHANGED, AND ONE MORE
pub numbered-set : (k i : ℕ) (g : FunctionState) (fs : List FunctionState) → AreNumberedFrom k fs → g.id ≡ k + i → AreNumberedFrom k (set fs i g)
numbered-set k i g [] numbered is = tt
numbered-set k zero g (f ∷ fs) numbered is = (omega (arith, is), numbered.1)
numbered-set k (suc i) g (f ∷ fs) numbered is = (numbered.0, numbered-set (suc k) i g fs numbered.1 (omega (arith, is)))

pub numbered-more : (k : ℕ) (g : FunctionState) (fs : List FunctionState) → AreNumberedFrom k fs → g.id ≡ k + length fs → AreNumberedFrom k (fs ++ g ∷ [])
numbered-more k g [] numbered is = (first is, tt)
  where
    first : g.id ≡ k + 0 → g.id ≡ k
    first is = omega (arith, is)
numbered-more k g (f ∷ fs) numbered is = (numbered.0, numbered-more (suc k) g fs numbered.1 (next (length fs) is))
  where
    next : (l : ℕ) → g.id ≡ k + suc l → g.id ≡ suc k + l
    next l is = omega (arith, is)

module _ (change : FunctionState → FunctionState) where
  others-stay : (k n : ℕ) (fs : List FunctionState) → AreNumberedFrom k fs → n < k → with_function_changed n change fs ≡ fs
  others-stay k n [] numbered below = refl
  others-stay k n (f ∷ fs) numbered below =
      ap (λ b. cond b (change f) f ∷ with_function_changed n change fs) (apart-above n f.id (omega (arith, below, numbered.0)))
      ∙ ap (λ gs. f ∷ gs) (others-stay (suc k) n fs numbered.1 (omega (arith, below)))

  pub changed-at : (k i n : ℕ) (fs : List FunctionState) (d : FunctionState) → AreNumberedFrom k fs → i < length fs → k + i ≡ n
      → with_function_changed n change fs ≡ set fs i (change (get_or fs i d))
  changed-at k i n [] d numbered within is = refl
  changed-at k zero n (f ∷ fs) d numbered within is =
      ap (λ b. cond b (change f) f ∷ with_function_changed n change fs) (ap (λ m. f.id == m) here ∙ same-self f.id)
      ∙ ap (λ gs. change f ∷ gs) (others-stay (suc k) n fs numbered.1 (omega (arith, is)))
    where
      here : n ≡ f.id
      here = omega (arith, is, numbered.0)
  changed-at k (suc i) n (f ∷ fs) d numbered within is =
      ap (λ b. cond b (change f) f ∷ with_function_changed n change fs) (apart-below f.id n (omega (arith, is, numbered.0)))
      ∙ ap (λ gs. f ∷ gs) (changed-at (suc k) i n fs d numbered.1 (less i (length fs) within) (omega (arith, is)))
