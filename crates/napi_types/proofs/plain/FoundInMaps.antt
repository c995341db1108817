-- What is found in the finite map of what the entries of a table stand for.
use Rattle.std.proofs.Common.{◌≡◌, ◌∙◌, ℕ, ◌==◌, nat_eq, Bool, true, false, cond, List, [], ◌∷◌, map, Some, option_map, refl, ap, sym}
use Rattle.std.specs.Map.{lookup}
use Rattle.napi_types.specs.plain.Lists.{found, as_map}
use Rattle.napi_types.proofs.plain.Found.{same-from, equal-tests, found-as_map}

module _ {X R : Type 0} (number : R → ℕ) (made : ℕ → X → R) (by : (n : ℕ) (x : X) → number (made n x) ≡ n) where
  found-made : (n : ℕ) (es : List (ℕ × X)) → found number n (map (λ e. made e.0 e.1) es) ≡ option_map (made n) (lookup (nat_eq n) es)
  found-made n [] = refl
  found-made n (e ∷ es) = case (nat_eq n e.0) refl (found-made n es)
    where
      here : (b : Bool) → nat_eq n e.0 ≡ b → (number (made e.0 e.1) == n) ≡ b
      here b is = ap (λ k. k == n) (by e.0 e.1) ∙ equal-tests e.0 n ∙ is

      case : (b : Bool) → nat_eq n e.0 ≡ b → found number n (map (λ d. made d.0 d.1) es) ≡ option_map (made n) (lookup (nat_eq n) es)
          → cond (number (made e.0 e.1) == n) (Some (made e.0 e.1)) (found number n (map (λ d. made d.0 d.1) es)) ≡ option_map (made n) (cond b (Some e.1) (lookup (nat_eq n) es))
      case true is rest =
          ap (λ c. cond c (Some (made e.0 e.1)) (found number n (map (λ d. made d.0 d.1) es))) (here true is) ∙ ap (λ k. Some (made k e.1)) (sym (same-from n e.0 is))
      case false is rest = ap (λ c. cond c (Some (made e.0 e.1)) (found number n (map (λ d. made d.0 d.1) es))) (here false is) ∙ rest

  pub found-in-map : (n : ℕ) (es : List (ℕ × X)) → found number n (as_map number (map (λ e. made e.0 e.1) es)) ≡ option_map (made n) (lookup (nat_eq n) es)
  found-in-map n es = found-as_map number n (map (λ e. made e.0 e.1) es) ∙ found-made n es
