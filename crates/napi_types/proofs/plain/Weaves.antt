-- The weave grows at its end.
use Rattle.std.proofs.Common.{◌≡◌, ◌≤◌, ℕ, ◌+◌, suc, ◌==◌, true, false, List, [], ◌∷◌, ◌++◌, length, filter, refl, ap, ◌∙◌, sym, arith, append_assoc}
use Rattle.std.proofs.lemmas.List.{append-nil, map-append}
use Rattle.std.proofs.lemmas.List.Elements.{filter-append}
use Rattle.napi_types.specs.declared.entry.Entry.{Entry}
use Rattle.napi_types.specs.declared.entry.Local.{Local}
use Rattle.napi_types.specs.plain.Weave.{Journal, History, put_at, weave_by, weave, sides, RisesBetween}

-- the places between which a journal rises do not fall
pub bounds-rise : (least last : ℕ) (ls : List Local) → RisesBetween least last ls → least ≤ last
bounds-rise least last [] rises = rises
bounds-rise least last (l ∷ ls) rises = let from = rises.0 in let to = bounds-rise l.at last ls rises.1 in omega arith

-- a journal rises within a longer history
pub rises-more : (least m n : ℕ) (ls : List Local) → m ≤ n → RisesBetween least m ls → RisesBetween least n ls
rises-more least m n [] h rises = omega arith
rises-more least m n (l ∷ ls) h rises = (rises.0, rises-more l.at m n ls h rises.1)

-- an entry more at the last place
pub rises-append : (least last : ℕ) (ls : List Local) (l : Local) → l.at ≡ last → RisesBetween least last ls → RisesBetween least last (ls ++ l ∷ [])
rises-append least last [] l here rises = (omega arith, omega arith)
rises-append least last (k ∷ ls) l here rises = (rises.0, rises-append k.at last ls l here rises.1)

-- one more entry of the journal
put_at-append : {A : Type 0} (f : Local → A) (p : ℕ) (ls : List Local) (l : Local) → put_at f p (ls ++ l ∷ []) ≡ put_at f p ls ++ put_at f p (l ∷ [])
put_at-append f p ls l = rw (filter-append _ ls (l ∷ []), map-append _ (filter (λ x. x.at == p) ls) (filter (λ x. x.at == p) (l ∷ []))) refl

-- at its place or elsewhere
put_at-here : {A : Type 0} (f : Local → A) (p : ℕ) (ls : List Local) (l : Local) → (l.at == p) ≡ true → put_at f p (ls ++ l ∷ []) ≡ put_at f p ls ++ f l ∷ []
put_at-here f p ls l h = put_at-append f p ls l ∙ rw h refl

put_at-there : {A : Type 0} (f : Local → A) (p : ℕ) (ls : List Local) (l : Local) → (l.at == p) ≡ false → put_at f p (ls ++ l ∷ []) ≡ put_at f p ls
put_at-there f p ls l h = put_at-append f p ls l ∙ rw h (append-nil (put_at f p ls))

local-from : {A : Type 0} (f : Local → A) (g : Entry → A) (p : ℕ) (ls : List Local) (ks : List Entry) (l : Local) → l.at ≡ p + length ks
    → weave_by f g p (ls ++ l ∷ []) ks ≡ weave_by f g p ls ks ++ f l ∷ []
local-from f g p ls [] l h = put_at-here f p ls l (grind arith)
local-from f g p ls (k ∷ ks) l h =
    ap (λ xs. xs ++ g k ∷ weave_by f g (p + 1) (ls ++ l ∷ []) ks) (put_at-there f p ls l (grind arith))
    ∙ ap (λ xs. put_at f p ls ++ g k ∷ xs) (local-from f g (p + 1) ls ks l (omega arith))
    ∙ sym (append_assoc (put_at f p ls) (g k ∷ weave_by f g (p + 1) ls ks) (f l ∷ []))

-- an entry of the journal that stands at the history's end is the weave's last
pub weave-local : (ls : List Local) (ks : List Entry) (x : Entry) → weave (ls ++ record { at = length ks; entry = x } ∷ []) ks ≡ weave ls ks ++ x ∷ []
weave-local ls ks x = local-from (λ l. l.entry) (λ k. k) 0 ls ks (record { at = length ks; entry = x }) (omega arith)

pub sides-local : (ls : List Local) (ks : List Entry) (x : Entry) → sides (ls ++ record { at = length ks; entry = x } ∷ []) ks ≡ sides ls ks ++ Journal ∷ []
sides-local ls ks x = local-from (λ l. Journal) (λ k. History) 0 ls ks (record { at = length ks; entry = x }) (omega arith)

none-past : {A : Type 0} (f : Local → A) (least p : ℕ) (ls : List Local) → RisesBetween least p ls → put_at f (p + 1) ls ≡ []
none-past f least p [] w = refl
none-past f least p (l ∷ ls) w = rw (apart (bounds-rise l.at p ls w.1)) (none-past f l.at p ls w.1)
  where
    apart : l.at ≤ p → (l.at == p + 1) ≡ false
    apart h = grind arith

shared-from : {A : Type 0} (f : Local → A) (g : Entry → A) (p : ℕ) (ls : List Local) (ks : List Entry) (x : Entry) → RisesBetween 0 (p + length ks) ls
    → weave_by f g p ls (ks ++ x ∷ []) ≡ weave_by f g p ls ks ++ g x ∷ []
shared-from f g p ls [] x w = ap (λ xs. put_at f p ls ++ g x ∷ xs) (none-past f 0 p ls (rises-more 0 (p + 0) p ls (omega arith) w))
shared-from f g p ls (k ∷ ks) x w =
    ap (λ xs. put_at f p ls ++ g k ∷ xs) (shared-from f g (p + 1) ls ks x (rises-more 0 (p + suc (length ks)) (p + 1 + length ks) ls (omega arith) w))
    ∙ sym (append_assoc (put_at f p ls) (g k ∷ weave_by f g (p + 1) ls ks) (g x ∷ []))

-- an entry of the history is the weave's last
pub weave-shared : (ls : List Local) (ks : List Entry) (x : Entry) → RisesBetween 0 (length ks) ls → weave ls (ks ++ x ∷ []) ≡ weave ls ks ++ x ∷ []
weave-shared ls ks x w = shared-from (λ l. l.entry) (λ k. k) 0 ls ks x (rises-more 0 (length ks) (0 + length ks) ls (omega arith) w)

pub sides-shared : (ls : List Local) (ks : List Entry) (x : Entry) → RisesBetween 0 (length ks) ls → sides ls (ks ++ x ∷ []) ≡ sides ls ks ++ History ∷ []
sides-shared ls ks x w = shared-from (λ l. Journal) (λ k. History) 0 ls ks x (rises-more 0 (length ks) (0 + length ks) ls (omega arith) w)
