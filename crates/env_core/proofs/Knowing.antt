-- The handles that a call of a function names.
use Rattle.std.proofs.Common.{◌≡◌, ℕ, Bool, true, false, ◌&&◌, List, [], ◌∷◌, map, take, min, refl, ap, sym, ◌∙◌, Option, Some, None, is_some}
use Rattle.std.specs.List.{list_all}
use Rattle.napi_types.specs.declared.call.Args.{Args}
use Rattle.napi_types.specs.declared.call.Call.TheVariants as call
use Rattle.napi_types.specs.declared.ids.HandleId.{HandleId}
use Rattle.napi_types.specs.plain.CallFacts.{handle_if}
use Rattle.napi_types.specs.parts.Heap.{Heap}
use Rattle.napi_types.specs.parts.NamedNumbers.{is_known}
use Rattle.napi_types.specs.parts.Scopes.{gives}

and-true : (a : Bool) → a && true ≡ a
and-true true = refl
and-true false = refl

all-map : {A B : Type 0} (p : B → Bool) (f : A → B) (xs : List A) → list_all p (map f xs) ≡ list_all (λ x. p (f x)) xs
all-map p f [] = refl
all-map p f (x ∷ xs) = ap (λ b. p (f x) && b) (all-map p f xs)

-- all that it names are known where each of them is
pub known-call : (texts : ℕ) (heap : Heap) (r : Option HandleId) (f : HandleId) (a : Args)
    → (list_all (λ h. is_some (gives heap.scopes h)) (handle_if r) && is_some (gives heap.scopes f.0)) && list_all (λ (h : HandleId). is_some (gives heap.scopes h.0)) (take (min a.count 4) a.handles)
    ≡ is_known texts heap (call.CallFunction r f a)
known-call texts heap None f a =
    let p : ℕ → Bool = λ h. is_some (gives heap.scopes h) in
    ap (λ b. p f.0 && b) (sym (all-map p (λ (h : HandleId). h.0) (take (min a.count 4) a.handles))) ∙ sym (and-true (list_all p (f.0 ∷ map (λ (h : HandleId). h.0) (take (min a.count 4) a.handles))))
known-call texts heap (Some h) f a =
    let p : ℕ → Bool = λ h. is_some (gives heap.scopes h) in
    let given : List ℕ = map (λ (h : HandleId). h.0) (take (min a.count 4) a.handles) in
    ap (λ b. ((p h.0 && true) && p f.0) && b) (sym (all-map p (λ (h : HandleId). h.0) (take (min a.count 4) a.handles)))
    ∙ regroup (p h.0) (p f.0) (list_all p given)
    ∙ sym (and-true (list_all p (h.0 ∷ f.0 ∷ given)))
  where
    regroup : (a b c : Bool) → ((a && true) && b) && c ≡ a && (b && c)
    regroup true b c = refl
    regroup false b c = refl

all-known : (a b c : Bool) → a ≡ true → b ≡ true → c ≡ (a && b) && c
all-known true true c p q = refl
all-known false b c p q = cc
all-known true false c p q = cc

pub all-told : (a b c x y : Bool) → a ≡ x → b ≡ y → (a ≡ true) × (b ≡ true) → c ≡ (x && y) && c
all-told a b c x y p q (r, t) = all-known x y c (sym p ∙ r) (sym q ∙ t)
