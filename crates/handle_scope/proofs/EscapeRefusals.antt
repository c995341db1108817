-- Why a scope cannot be closed, and why no handle can escape from it, by the marks of the innermost frame's scopes.
use Rattle.std.proofs.Common.{◌≡◌, ◌∙◌, ℕ, suc, ◌==◌, ◌||◌, ◌&&◌, Bool, true, false, not, cond, List, [], ◌∷◌, ◌++◌, reverse, take, drop, get_or, refl, ap, sym, arith, Option, Some, None, find}
use Rattle.std.specs.List.{list_any}
use Rattle.std.specs.Option.{is_some, option_or}
use Rattle.std.proofs.lemmas.Bool.Decides.{nat_tests}
use Rattle.std.proofs.lemmas.List.{get_or_default}
use Rattle.std.proofs.lemmas.List.Sorted.{list_any-IsPermutation, IsPermutation-reverse}
use Rattle.napi_types.specs.declared.ids.ScopeKind.{ScopeKind}
use Rattle.napi_types.specs.declared.ids.ScopeKind.TheVariants as scope_kind
use Rattle.napi_types.specs.declared.status.Status.{Status}
use Rattle.napi_types.specs.declared.status.Status.TheVariants as status
use Rattle.napi_types.specs.plain.Lists.{when, head}
use Rattle.napi_types.specs.parts.ScopeRefusals.{has_scope, is_kind, closing, escapable_scope, escaping, refuses_escape}
use Rattle.napi_types.specs.parts.Scopes.{OpenHandle, Scope}
use Rattle.handle_scope.specs.declared.scopes.HeldHandle.{HeldHandle}
use Rattle.handle_scope.specs.declared.scopes.ScopeMark.{ScopeMark}
use Rattle.handle_scope.specs.Marks.{waiting_handle, scopes_above, Rises, IsEscapable}
use Rattle.handle_scope.proofs.HandleNumbers.{Lacks, Lacks-tail, HasAt, Lacks-before, Lacks-after, Lacks-reverse}
use Rattle.handle_scope.proofs.Marks.{reverse-at}

-- CLOSING
has-scopes : (n start : ℕ) (ss : List ScopeMark) (hs : List OpenHandle) → has_scope n (scopes_above start ss hs).opened ≡ list_any (λ s. s.number == n) ss
has-scopes n start [] hs = refl
has-scopes n start (s ∷ ss) hs = ap (λ b. (s.number == n) || b) (has-scopes n start ss (take s.start hs ++ waiting_handle s))

-- why a scope cannot be closed depends on the numbers and kinds alone
pub closing-scopes : (n : ℕ) (kind : ScopeKind) (start other : ℕ) (ss : List ScopeMark) (hs gs : List OpenHandle)
    → closing n kind (scopes_above start ss hs).opened ≡ closing n kind (scopes_above other ss gs).opened
closing-scopes n kind start other [] hs gs = refl
closing-scopes n kind start other (s ∷ ss) hs gs =
    ap (λ b. option_or (when (not ((s.number == n) || b)) status.InvalidArg) (when (not ((s.number == n) && is_kind s.kind kind)) status.HandleScopeMismatch))
    (has-scopes n start ss (take s.start hs ++ waiting_handle s) ∙ sym (has-scopes n other ss (take s.start gs ++ waiting_handle s)))

any-reverse : (n : ℕ) (ss : List ScopeMark) → list_any (λ s. s.number == n) (reverse ss) ≡ list_any (λ s. s.number == n) ss
any-reverse n ss = sym (list_any-IsPermutation (λ (s : ScopeMark). s.number == n) ss (reverse ss) (IsPermutation-reverse ss))

-- why a scope that is not the innermost, or not of that kind, cannot be closed
closing-outer : (n : ℕ) (kind : ScopeKind) (ms : List ScopeMark) (m : ScopeMark) → head ms ≡ Some m → ((m.number == n) && is_kind m.kind kind) ≡ false
    → closing n kind (scopes_above 0 ms []).opened ≡ option_or (when (not (list_any (λ s. s.number == n) ms)) status.InvalidArg) (Some status.HandleScopeMismatch)
closing-outer n kind [] m e other = cc
closing-outer n kind (x ∷ ms) m e other =
    let same : x ≡ m = cc in
    let differs : ((x.number == n) && is_kind x.kind kind) ≡ false = ap (λ s. (s.number == n) && is_kind s.kind kind) same ∙ other in
    ap (λ b. option_or (when (not ((x.number == n) || b)) status.InvalidArg) (when (not ((x.number == n) && is_kind x.kind kind)) status.HandleScopeMismatch))
    (has-scopes n 0 ms (take x.start [] ++ waiting_handle x))
    ∙ ap (λ b. option_or (when (not ((x.number == n) || list_any (λ s. s.number == n) ms)) status.InvalidArg) (when (not b) status.HandleScopeMismatch)) differs

pub closing-there : (n : ℕ) (kind : ScopeKind) (ss : List ScopeMark) (m : ScopeMark) → head (reverse ss) ≡ Some m → ((m.number == n) && is_kind m.kind kind) ≡ false
    → list_any (λ s. s.number == n) ss ≡ true → closing n kind (scopes_above 0 (reverse ss) []).opened ≡ Some status.HandleScopeMismatch
closing-there n kind ss m e other there =
    closing-outer n kind (reverse ss) m e other
    ∙ ap (λ b. option_or (when (not b) status.InvalidArg) (Some status.HandleScopeMismatch)) (any-reverse n ss ∙ there)

pub closing-absent : (n : ℕ) (kind : ScopeKind) (ss : List ScopeMark) (m : ScopeMark) → head (reverse ss) ≡ Some m → ((m.number == n) && is_kind m.kind kind) ≡ false
    → list_any (λ s. s.number == n) ss ≡ false → closing n kind (scopes_above 0 (reverse ss) []).opened ≡ Some status.InvalidArg
closing-absent n kind ss m e other there =
    closing-outer n kind (reverse ss) m e other
    ∙ ap (λ b. option_or (when (not b) status.InvalidArg) (Some status.HandleScopeMismatch)) (any-reverse n ss ∙ there)

-- ESCAPING
-- a mark is that of the escapable scope of the number
abbrev is_escapable : ℕ → ScopeMark → Bool
is_escapable n s = (s.number == n) && is_kind s.kind scope_kind.Escapable

-- why no handle can escape from the scope of a mark
abbrev escape_refused : Option ScopeMark → Option Status
escape_refused None = Some status.InvalidArg
escape_refused (Some s) = when (is_some s.escaped) status.EscapeCalledTwice

refuses-first : (n : ℕ) (s : ScopeMark) (ss : List ScopeMark) (hs : List OpenHandle) (rest : List Scope) (b : Bool) → is_escapable n s ≡ b
    → refuses_escape (escapable_scope n rest) ≡ escape_refused (find (is_escapable n) ss)
    → escaping n (record { number = s.number; kind = s.kind; used = is_some s.escaped; held = hs } ∷ rest) ≡ escape_refused (find (is_escapable n) (s ∷ ss))
refuses-first n s ss hs rest true e r = rw e refl
refuses-first n s ss hs rest false e r = rw e r

-- why no handle can escape is told by the marks alone
escaping-marks : (n start : ℕ) (ss : List ScopeMark) (hs : List OpenHandle) → escaping n (scopes_above start ss hs).opened ≡ escape_refused (find (is_escapable n) ss)
escaping-marks n start [] hs = refl
escaping-marks n start (s ∷ ss) hs =
    let closed : List OpenHandle = take s.start hs ++ waiting_handle s in
    refuses-first n s ss (drop s.start hs) (scopes_above start ss closed).opened (is_escapable n s) refl (escaping-marks n start ss closed)

pub escaping-scopes : (n start other : ℕ) (ss : List ScopeMark) (hs gs : List OpenHandle) → escaping n (scopes_above start ss hs).opened ≡ escaping n (scopes_above other ss gs).opened
escaping-scopes n start other ss hs gs = escaping-marks n start ss hs ∙ sym (escaping-marks n other ss gs)

-- the marks of other numbers are passed by
find-first : (n : ℕ) (s : ScopeMark) (ss : List ScopeMark) (b : Bool) → is_escapable n s ≡ b → find (is_escapable n) (s ∷ ss) ≡ cond b (Some s) (find (is_escapable n) ss)
find-first n s ss true e = rw e refl
find-first n s ss false e = rw e refl

find-past : (n : ℕ) (xs ys : List ScopeMark) → Lacks (λ s. s.number) xs n → find (is_escapable n) (xs ++ ys) ≡ find (is_escapable n) ys
find-past n [] ys l = refl
find-past n (x ∷ xs) ys l =
    let other : (x.number == n) ≡ false = grind (arith, nat_tests, l.at 0 x (omega arith)) in
    find-first n x (xs ++ ys) false (ap (λ b. b && is_kind x.kind scope_kind.Escapable) other) ∙ find-past n xs ys (Lacks-tail (λ (s : ScopeMark). s.number) x xs n l)

find-none : (n : ℕ) (xs : List ScopeMark) → Lacks (λ s. s.number) xs n → find (is_escapable n) xs ≡ None
find-none n [] l = refl
find-none n (x ∷ xs) l =
    let other : (x.number == n) ≡ false = grind (arith, nat_tests, l.at 0 x (omega arith)) in
    find-first n x xs false (ap (λ b. b && is_kind x.kind scope_kind.Escapable) other) ∙ find-none n xs (Lacks-tail (λ (s : ScopeMark). s.number) x xs n l)

-- the mark of the number, where it is that of an escapable scope
find-sole : (n : ℕ) (ss : List ScopeMark) (at : ℕ) (d : ScopeMark) (b : Bool) → Rises (λ s. s.number) ss → HasAt (λ s. s.number) ss n at
    → is_kind (get_or ss at d).kind scope_kind.Escapable ≡ b → find (is_escapable n) (reverse ss) ≡ cond b (Some (get_or ss at d)) None
find-sole n ss at d b r h e =
    let m : ScopeMark = get_or ss at d in
    let xs : List ScopeMark = reverse (drop (suc at) ss) in
    let ys : List ScopeMark = reverse (take at ss) in
    let here : (m.number == n) ≡ true = grind (arith, nat_tests, h.same d) in
    let test : is_escapable n m ≡ b = ap (λ t. t && is_kind m.kind scope_kind.Escapable) here ∙ e in
    let none : find (is_escapable n) ys ≡ None = find-none n ys (Lacks-reverse (λ (s : ScopeMark). s.number) (take at ss) n (Lacks-before (λ (s : ScopeMark). s.number) ss n at r h)) in
    ap (find (is_escapable n)) (reverse-at ss at d h.inside)
    ∙ find-past n xs (m ∷ ys) (Lacks-reverse (λ (s : ScopeMark). s.number) (drop (suc at) ss) n (Lacks-after (λ (s : ScopeMark). s.number) ss n at r h))
    ∙ find-first n m ys b test
    ∙ ap (λ o. cond b (Some m) o) none

pub escaping-at : (n : ℕ) (ss : List ScopeMark) (at : ℕ) (d : ScopeMark) (b : Bool) → Rises (λ s. s.number) ss → HasAt (λ s. s.number) ss n at
    → is_kind (get_or ss at d).kind scope_kind.Escapable ≡ b
    → escaping n (scopes_above 0 (reverse ss) []).opened ≡ cond b (when (is_some (get_or ss at d).escaped) status.EscapeCalledTwice) (Some status.InvalidArg)
escaping-at n ss at d true r h e = escaping-marks n 0 (reverse ss) [] ∙ ap escape_refused (find-sole n ss at d true r h e)
escaping-at n ss at d false r h e = escaping-marks n 0 (reverse ss) [] ∙ ap escape_refused (find-sole n ss at d false r h e)

pub escaping-absent : (n : ℕ) (ss : List ScopeMark) → Lacks (λ s. s.number) ss n → escaping n (scopes_above 0 (reverse ss) []).opened ≡ Some status.InvalidArg
escaping-absent n ss l =
    escaping-marks n 0 (reverse ss) [] ∙ ap escape_refused (find-none n (reverse ss) (Lacks-reverse (λ (s : ScopeMark). s.number) ss n l))

none-of : (o : Option HeldHandle) → is_some o ≡ false → o ≡ None
none-of None e = refl
none-of (Some h) e = absurd cc

-- a scope that is found, and from which no handle escaped
pub escapable-at : (n : ℕ) (ss : List ScopeMark) (at : ℕ) (d : ScopeMark) → HasAt (λ s. s.number) ss n at → is_some (get_or ss at d).escaped ≡ false → IsEscapable ss n at
escapable-at n ss at d h e = record {
  inside = h.inside;
  same = h.same;
  free = λ x. ap (λ (s : ScopeMark). s.escaped) (get_or_default ss at x d h.inside) ∙ none-of (get_or ss at d).escaped e;
}
