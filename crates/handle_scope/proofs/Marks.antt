-- What each change of the stack and its marks does to the scopes that they stand for.
use Rattle.std.proofs.Common.{◌≡◌, ◌≢◌, ◌∙◌, ℕ, suc, ◌+◌, ◌<◌, ◌≤◌, ◌==◌, true, false, List, [], ◌∷◌, ◌++◌, length, reverse, take, drop, get_or, refl, ap, sym, subst, arith, inl, inr, append_assoc, append-nil, Some, None}
use Rattle.std.proofs.lemmas.Bool.{cases_lt}
use Rattle.std.proofs.lemmas.Bool.Decides.{nat_tests}
use Rattle.std.proofs.lemmas.List.{take-append-le, drop-append-le, take-take, take-append-drop, drop_all, reverse-append, length-append, length-take-le, length-reverse}
use Rattle.std.proofs.Math.ListN.{set}
use Rattle.std.proofs.lemmas.List.{set_split, set-get_or, drop-set-add, take-set-le, length-set}
use Rattle.std.proofs.Math.Seq.{drop-length, take-length}
use Rattle.napi_types.specs.declared.ids.ScopeKind.{ScopeKind}
use Rattle.napi_types.specs.plain.Lists.{first_changed}
use Rattle.napi_types.specs.parts.ScopeChanges.{hold_in, open_in, close_in, escape_in, inside}
use Rattle.napi_types.specs.parts.Scopes.{OpenHandle, FrameScopes, opened_scopes}
use Rattle.handle_scope.specs.declared.scopes.HeldHandle.{HeldHandle}
use Rattle.handle_scope.specs.declared.scopes.ScopeMark.{ScopeMark}
use Rattle.handle_scope.specs.declared.scopes.FrameMark.{FrameMark}
use Rattle.handle_scope.specs.Marks.{held_of, waiting_handle, with_marked_scope, scopes_above, frames_marked, AreScopesWithin, AreFramesWithin, ArePlaced, Rises, AreInOrder, AreScopesInOrder, AreFramesInOrder}
use Rattle.handle_scope.proofs.HandleNumbers.{Rises-push, AreAtMost-push, AreAtMost-more, Lacks, Lacks-tail, HasAt, Lacks-after, Lacks-reverse}

-- A FRAME'S SCOPES
-- the frame begins within the stack
pub start-le : (start : ℕ) (ss : List ScopeMark) (end : ℕ) → AreScopesWithin start ss end → start ≤ end
start-le start [] end w = w
start-le start (s ∷ ss) end w = let below : start ≤ s.start = start-le start ss s.start w.1 in omega (arith, w.0)

within-more : (start : ℕ) (ss : List ScopeMark) (end more : ℕ) → end ≤ more → AreScopesWithin start ss end → AreScopesWithin start ss more
within-more start [] end more le w = omega arith
within-more start (s ∷ ss) end more le w = (omega (arith, w.0), w.1)

-- once the innermost scope is closed, the stack reaches as far as that scope's mark at least
closed-end : (s : ScopeMark) (hs : List OpenHandle) → s.start ≤ length hs → s.start ≤ length (take s.start hs ++ waiting_handle s)
closed-end s hs le = omega (arith, length-append (take s.start hs) (waiting_handle s), length-take-le s.start hs le)

pub within-closed : (start : ℕ) (s : ScopeMark) (ss : List ScopeMark) (hs : List OpenHandle) → AreScopesWithin start (s ∷ ss) (length hs)
    → AreScopesWithin start ss (length (take s.start hs ++ waiting_handle s))
within-closed start s ss hs w = within-more start ss s.start (length (take s.start hs ++ waiting_handle s)) (closed-end s hs w.0) w.1

-- what stands below the mark of a scope is the same after its close
pub take-closed : (n : ℕ) (s : ScopeMark) (hs : List OpenHandle) → n ≤ s.start → s.start ≤ length hs → take n (take s.start hs ++ waiting_handle s) ≡ take n hs
take-closed n s hs le within =
    take-append-le n (take s.start hs) (waiting_handle s) (omega (arith, length-take-le s.start hs within)) ∙ take-take n s.start hs le

scopes-hold : (p : OpenHandle) (start : ℕ) (ss : List ScopeMark) (hs : List OpenHandle) → AreScopesWithin start ss (length hs)
    → scopes_above start ss (hs ++ p ∷ []) ≡ hold_in p (scopes_above start ss hs)
scopes-hold p start [] hs w = ap (λ own. record { own = own; opened = [] }) (drop-append-le start hs (p ∷ []) w)
scopes-hold p start (s ∷ ss) hs w =
    ap (λ held. with_marked_scope s held (scopes_above start ss (take s.start (hs ++ p ∷ []) ++ waiting_handle s))) (drop-append-le s.start hs (p ∷ []) w.0)
    ∙ ap (λ rest. with_marked_scope s (drop s.start hs ++ p ∷ []) (scopes_above start ss (rest ++ waiting_handle s))) (take-append-le s.start hs (p ∷ []) w.0)

-- ORDER
order-push : (p : OpenHandle) (hs : List OpenHandle) (most more : ℕ) → AreInOrder hs most → most < p.handle → p.handle ≤ more → AreInOrder (hs ++ p ∷ []) more
order-push p hs most more o above le = record {
  rise = Rises-push (λ (q : OpenHandle). q.handle) hs p most o.rise o.issued above;
  issued = AreAtMost-push (λ (q : OpenHandle). q.handle) hs p most more o.issued (omega arith) le;
}

order-more : (hs : List OpenHandle) (most more : ℕ) → most ≤ more → AreInOrder hs most → AreInOrder hs more
order-more hs most more le o = record { rise = o.rise; issued = AreAtMost-more (λ (q : OpenHandle). q.handle) hs most more le o.issued }

scopes-order-more : (ss : List ScopeMark) (hs : List OpenHandle) (most more : ℕ) → most ≤ more → AreScopesInOrder ss hs most → AreScopesInOrder ss hs more
scopes-order-more [] hs most more le o = order-more hs most more le o
scopes-order-more (s ∷ ss) hs most more le o =
    (order-more hs most more le o.0, scopes-order-more ss (take s.start hs ++ waiting_handle s) most more le o.1)

frames-order-more : (fs : List FrameMark) (ss : List ScopeMark) (hs : List OpenHandle) (most more : ℕ) → most ≤ more → AreFramesInOrder fs ss hs most → AreFramesInOrder fs ss hs more
frames-order-more [] ss hs most more le o = order-more hs most more le o
frames-order-more (f ∷ fs) ss hs most more le o =
    (scopes-order-more (reverse (drop f.scopes ss)) hs most more le o.0, frames-order-more fs (take f.scopes ss) (take f.start hs) most more le o.1)

scopes-order-first : (ss : List ScopeMark) (hs : List OpenHandle) (most : ℕ) → AreScopesInOrder ss hs most → AreInOrder hs most
scopes-order-first [] hs most o = o
scopes-order-first (s ∷ ss) hs most o = o.0

-- the handles of the whole stack are in order
pub frames-order-first : (fs : List FrameMark) (ss : List ScopeMark) (hs : List OpenHandle) (most : ℕ) → AreFramesInOrder fs ss hs most → AreInOrder hs most
frames-order-first [] ss hs most o = o
frames-order-first (f ∷ fs) ss hs most o = scopes-order-first (reverse (drop f.scopes ss)) hs most o.0

scopes-order-hold : (p : OpenHandle) (start : ℕ) (ss : List ScopeMark) (hs : List OpenHandle) (most more : ℕ) → AreScopesWithin start ss (length hs) → most < p.handle → p.handle ≤ more
    → AreScopesInOrder ss hs most → AreScopesInOrder ss (hs ++ p ∷ []) more
scopes-order-hold p start [] hs most more w above le o = order-push p hs most more o above le
scopes-order-hold p start (s ∷ ss) hs most more w above le o =
    let S : List OpenHandle → Type 0 = λ x. AreScopesInOrder ss (x ++ waiting_handle s) more in (
      order-push p hs most more o.0 above le,
      subst S (sym (take-append-le s.start hs (p ∷ []) w.0)) (scopes-order-more ss (take s.start hs ++ waiting_handle s) most more (omega arith) o.1),
    )

-- MARKS
pub reverse-push : {A : Type 0} (xs : List A) (x : A) → reverse (xs ++ x ∷ []) ≡ x ∷ reverse xs
reverse-push xs x = reverse-append xs (x ∷ [])

-- the marks of a frame's scopes with one more
marks-push : (k : ℕ) (ss : List ScopeMark) (m : ScopeMark) → k ≤ length ss → reverse (drop k (ss ++ m ∷ [])) ≡ m ∷ reverse (drop k ss)
marks-push k ss m le = ap reverse (drop-append-le k ss (m ∷ []) le) ∙ reverse-push (drop k ss) m

-- ISSUE
pub frames-hold : (p : OpenHandle) (fs : List FrameMark) (ss : List ScopeMark) (hs : List OpenHandle) → AreFramesWithin fs ss (length hs)
    → frames_marked fs ss (hs ++ p ∷ []) ≡ first_changed (hold_in p) (frames_marked fs ss hs)
frames-hold p [] ss hs w = refl
frames-hold p (f ∷ fs) ss hs w =
    let ms : List ScopeMark = reverse (drop f.scopes ss) in
    let within : f.start ≤ length hs = start-le f.start ms (length hs) w.1 in
    ap (λ x. x ∷ frames_marked fs (take f.scopes ss) (take f.start (hs ++ p ∷ []))) (scopes-hold p f.start ms hs w.1)
    ∙ ap (λ x. hold_in p (scopes_above f.start ms hs) ∷ frames_marked fs (take f.scopes ss) x) (take-append-le f.start hs (p ∷ []) within)

pub within-hold : (fs : List FrameMark) (ss : List ScopeMark) (n m : ℕ) → fs ≢ [] → n ≤ m → AreFramesWithin fs ss n → AreFramesWithin fs ss m
within-hold [] ss n m some le w = absurd (some refl)
within-hold (f ∷ fs) ss n m some le w = (w.0, within-more f.start (reverse (drop f.scopes ss)) n m le w.1, w.2)

pub order-hold : (p : OpenHandle) (fs : List FrameMark) (ss : List ScopeMark) (hs : List OpenHandle) (most more : ℕ) → AreFramesWithin fs ss (length hs) → most < p.handle → p.handle ≤ more
    → AreFramesInOrder fs ss hs most → AreFramesInOrder fs ss (hs ++ p ∷ []) more
order-hold p [] ss hs most more w above le o = order-push p hs most more o above le
order-hold p (f ∷ fs) ss hs most more w above le o =
    let ms : List ScopeMark = reverse (drop f.scopes ss) in
    let within : f.start ≤ length hs = start-le f.start ms (length hs) w.1 in
    let F : List OpenHandle → Type 0 = λ x. AreFramesInOrder fs (take f.scopes ss) x more in (
      scopes-order-hold p f.start ms hs most more w.1 above le o.0,
      subst F (sym (take-append-le f.start hs (p ∷ []) within)) (frames-order-more fs (take f.scopes ss) (take f.start hs) most more (omega arith) o.1),
    )

-- OPEN
-- the mark of a scope that opens
abbrev pub opened_mark : ℕ → ScopeKind → ℕ → ℕ → ScopeMark
opened_mark n kind start place = record { number = n; kind = kind; start = start; place = place; escaped = None }

-- all that stands before the end
all-taken : (hs : List OpenHandle) (n : ℕ) → n ≡ length hs → take n hs ++ [] ≡ hs
all-taken hs n e = append-nil (take n hs) ∙ ap (λ k. take k hs) e ∙ take-length hs

pub frames-open : (n : ℕ) (kind : ScopeKind) (at place : ℕ) (fs : List FrameMark) (ss : List ScopeMark) (hs : List OpenHandle) → AreFramesWithin fs ss (length hs) → at ≡ length hs
    → frames_marked fs (ss ++ opened_mark n kind at place ∷ []) hs ≡ first_changed (open_in kind n) (frames_marked fs ss hs)
frames-open n kind at place [] ss hs w e = refl
frames-open n kind at place (f ∷ fs) ss hs w e =
    let m : ScopeMark = opened_mark n kind at place in
    let ms : List ScopeMark = reverse (drop f.scopes ss) in
    let rest : List ScopeMark → List FrameScopes = λ x. frames_marked fs x (take f.start hs) in
    ap (λ x. scopes_above f.start x hs ∷ rest (take f.scopes (ss ++ m ∷ []))) (marks-push f.scopes ss m w.0)
    ∙ ap (λ x. scopes_above f.start (m ∷ ms) hs ∷ rest x) (take-append-le f.scopes ss (m ∷ []) w.0)
    ∙ ap (λ x. with_marked_scope m x (scopes_above f.start ms (take at hs ++ [])) ∷ rest (take f.scopes ss)) (ap (λ k. drop k hs) e ∙ drop-length hs)
    ∙ ap (λ x. with_marked_scope m [] (scopes_above f.start ms x) ∷ rest (take f.scopes ss)) (all-taken hs at e)

pub within-open : (m : ScopeMark) (fs : List FrameMark) (ss : List ScopeMark) (n : ℕ) → fs ≢ [] → AreFramesWithin fs ss n → m.start ≡ n
    → AreFramesWithin fs (ss ++ m ∷ []) n
within-open m [] ss n some w e = absurd (some refl)
within-open m (f ∷ fs) ss n some w e =
    let S : List ScopeMark → Type 0 = λ x. AreScopesWithin f.start x n in
    let F : List ScopeMark → Type 0 = λ x. AreFramesWithin fs x f.start in
    let N : ℕ → Type 0 = λ x. AreScopesWithin f.start (reverse (drop f.scopes ss)) x in (
      omega (arith, w.0, length-append ss (m ∷ [])),
      subst S (sym (marks-push f.scopes ss m w.0)) (omega arith, subst N (sym e) w.1),
      subst F (sym (take-append-le f.scopes ss (m ∷ []) w.0)) w.2,
    )

pub order-open : (n : ℕ) (kind : ScopeKind) (at place : ℕ) (fs : List FrameMark) (ss : List ScopeMark) (hs : List OpenHandle) (most : ℕ) → AreFramesWithin fs ss (length hs)
    → at ≡ length hs → AreFramesInOrder fs ss hs most → AreFramesInOrder fs (ss ++ opened_mark n kind at place ∷ []) hs most
order-open n kind at place [] ss hs most w e o = o
order-open n kind at place (f ∷ fs) ss hs most w e o =
    let m : ScopeMark = opened_mark n kind at place in
    let ms : List ScopeMark = reverse (drop f.scopes ss) in
    let S : List ScopeMark → Type 0 = λ x. AreScopesInOrder x hs most in
    let H : List OpenHandle → Type 0 = λ x. AreScopesInOrder ms x most in
    let F : List ScopeMark → Type 0 = λ x. AreFramesInOrder fs x (take f.start hs) most in (
      subst S (sym (marks-push f.scopes ss m w.0)) (scopes-order-first ms hs most o.0, subst H (sym (all-taken hs at e)) o.0),
      subst F (sym (take-append-le f.scopes ss (m ∷ []) w.0)) o.1,
    )

pub placed-open : (m : ScopeMark) (ss : List ScopeMark) → m.place ≡ m.start + length ss → ArePlaced (reverse ss) → ArePlaced (reverse (ss ++ m ∷ []))
placed-open m ss e p =
    let P : List ScopeMark → Type 0 = λ x. ArePlaced x in
    subst P (sym (reverse-push ss m)) (omega (arith, e, length-reverse ss), p)

-- CLOSE
pub none-opened : (fs : List FrameMark) (hs : List OpenHandle) → opened_scopes (frames_marked fs [] hs) ≡ []
none-opened [] hs = refl
none-opened (f ∷ fs) hs = ap (λ x. (scopes_above f.start (reverse x) hs).opened) (drop_all f.scopes [] (omega arith))

-- the innermost mark is one of the innermost frame's, where a scope is open there
mark-inside : (f : FrameMark) (fs : List FrameMark) (ss : List ScopeMark) (m : ScopeMark) (hs : List OpenHandle)
    → opened_scopes (frames_marked (f ∷ fs) (ss ++ m ∷ []) hs) ≢ [] → f.scopes ≤ length ss
mark-inside f fs ss m hs some = elim (cases_lt (length ss) f.scopes) [
  | inl above ↦ absurd (some (ap (λ x. (scopes_above f.start (reverse x) hs).opened) (drop_all f.scopes (ss ++ m ∷ []) (omega (arith, length-append ss (m ∷ []))))))
  | inr le ↦ le
]

pub record ClosesScope (fs : List FrameMark) (ss : List ScopeMark) (m : ScopeMark) (hs : List OpenHandle) : Type 0 where
  pub inside : m.start ≤ length hs
  pub frames : frames_marked fs ss (take m.start hs ++ waiting_handle m) ≡ first_changed close_in (frames_marked fs (ss ++ m ∷ []) hs)
  pub within : AreFramesWithin fs ss (length (take m.start hs ++ waiting_handle m))
  pub in_order : (most : ℕ) → AreFramesInOrder fs (ss ++ m ∷ []) hs most → AreFramesInOrder fs ss (take m.start hs ++ waiting_handle m) most

pub frames-close : (fs : List FrameMark) (ss : List ScopeMark) (m : ScopeMark) (hs : List OpenHandle)
    → opened_scopes (frames_marked fs (ss ++ m ∷ []) hs) ≢ [] → AreFramesWithin fs (ss ++ m ∷ []) (length hs) → ClosesScope fs ss m hs
frames-close [] ss m hs some w = absurd (some refl)
frames-close (f ∷ fs) ss m hs some w =
    let le : f.scopes ≤ length ss = mark-inside f fs ss m hs some in
    let ms : List ScopeMark = reverse (drop f.scopes ss) in
    let S : List ScopeMark → Type 0 = λ x. AreScopesWithin f.start x (length hs) in
    let scopes : AreScopesWithin f.start (m ∷ ms) (length hs) = subst S (marks-push f.scopes ss m le) w.1 in
    let begins : f.start ≤ m.start = start-le f.start ms m.start scopes.1 in
    let outer : take f.scopes (ss ++ m ∷ []) ≡ take f.scopes ss = take-append-le f.scopes ss (m ∷ []) le in
    let below : take f.start (take m.start hs ++ waiting_handle m) ≡ take f.start hs = take-closed f.start m hs begins scopes.0 in
    let F : List ScopeMark → Type 0 = λ x. AreFramesWithin fs x f.start in
    let closed : List OpenHandle = take m.start hs ++ waiting_handle m in
    record {
      inside = scopes.0;
      within = (le, within-closed f.start m ms hs scopes, subst F outer w.2);
      frames =
          ap (λ x. scopes_above f.start ms closed ∷ frames_marked fs (take f.scopes ss) x) below
          ∙ sym (ap (λ x. close_in (scopes_above f.start x hs) ∷ frames_marked fs (take f.scopes (ss ++ m ∷ [])) (take f.start hs)) (marks-push f.scopes ss m le)
          ∙ ap (λ x. scopes_above f.start ms closed ∷ frames_marked fs x (take f.start hs)) outer);
      in_order = λ most o.
          let O : List ScopeMark → Type 0 = λ x. AreScopesInOrder x hs most in
          let G : List ScopeMark → Type 0 = λ x. AreFramesInOrder fs x (take f.start hs) most in
          let H : List OpenHandle → Type 0 = λ x. AreFramesInOrder fs (take f.scopes ss) x most in
          let here : AreScopesInOrder (m ∷ ms) hs most = subst O (marks-push f.scopes ss m le) o.0 in
          (here.1, subst H (sym below) (subst G outer o.1));
    }

-- ENTER AND LEAVE
pub within-enter : (f : FrameMark) (fs : List FrameMark) (ss : List ScopeMark) (n : ℕ) → f.start ≡ n → f.scopes ≡ length ss
    → AreFramesWithin fs ss n → AreFramesWithin (f ∷ fs) ss n
within-enter f fs ss n e g w = rw (e, g, drop-length ss, take-length ss) (omega arith, omega arith, w)

pub order-enter : (f : FrameMark) (fs : List FrameMark) (ss : List ScopeMark) (hs : List OpenHandle) (most : ℕ) → f.start ≡ length hs → f.scopes ≡ length ss
    → AreFramesInOrder fs ss hs most → AreFramesInOrder (f ∷ fs) ss hs most
order-enter f fs ss hs most e g o = rw (e, g, drop-length ss, take-length ss, take-length hs) (frames-order-first fs ss hs most o, o)

-- the marks of an inner part are placed, and so are those outside it
pub placed-outer : (ms rs : List ScopeMark) → ArePlaced (ms ++ rs) → ArePlaced rs
placed-outer [] rs p = p
placed-outer (s ∷ ms) rs p = placed-outer ms rs p.1

-- the marks, the innermost first, where those from a place on are a frame's
pub reverse-parts : {A : Type 0} (k : ℕ) (xs : List A) → reverse (drop k xs) ++ reverse (take k xs) ≡ reverse xs
reverse-parts k xs = sym (reverse-append (take k xs) (drop k xs)) ∙ ap reverse (take-append-drop k xs)

pub placed-left : (k : ℕ) (ss : List ScopeMark) → ArePlaced (reverse ss) → ArePlaced (reverse (take k ss))
placed-left k ss p =
    let P : List ScopeMark → Type 0 = λ x. ArePlaced x in
    placed-outer (reverse (drop k ss)) (reverse (take k ss)) (subst P (sym (reverse-parts k ss)) p)

-- ESCAPE
-- a list that has one element changed, with the innermost first
reverse-middle : {A : Type 0} (xs ys : List A) (x : A) → reverse (xs ++ x ∷ ys) ≡ reverse ys ++ x ∷ reverse xs
reverse-middle xs ys x =
    reverse-append xs (x ∷ ys) ∙ ap (λ l. l ++ reverse xs) (reverse-append (x ∷ []) ys) ∙ append_assoc (reverse ys) (x ∷ []) (reverse xs)

reverse-set : {A : Type 0} (xs : List A) (i : ℕ) (y : A) → i < length xs → reverse (set xs i y) ≡ reverse (drop (suc i) xs) ++ y ∷ reverse (take i xs)
reverse-set xs i y inside = ap reverse (set_split xs i y inside) ∙ reverse-middle (take i xs) (drop (suc i) xs) y

pub reverse-at : {A : Type 0} (xs : List A) (i : ℕ) (d : A) → i < length xs → reverse xs ≡ reverse (drop (suc i) xs) ++ get_or xs i d ∷ reverse (take i xs)
reverse-at xs i d inside = ap reverse (sym (set-get_or xs i d)) ∙ reverse-set xs i (get_or xs i d) inside

-- a mark after a handle escaped from its scope
abbrev pub escaped_mark : ScopeMark → HeldHandle → ScopeMark
escaped_mark m x = record m { escaped = Some x }

-- a scope that is not the one that is looked for stays as it is
passed-by : (n : ℕ) (s : ScopeMark) (hs : List OpenHandle) (p : OpenHandle) (f : FrameScopes) → (s.number == n) ≡ false
    → with_marked_scope s hs (escape_in n p f) ≡ escape_in n p (with_marked_scope s hs f)
passed-by n s hs p f e = rw e refl

found-here : (n : ℕ) (m : ScopeMark) (x : HeldHandle) (hs : List OpenHandle) (f : FrameScopes) → (m.number == n) ≡ true → m.escaped ≡ None
    → with_marked_scope (escaped_mark m x) hs (hold_in (held_of x) f) ≡ escape_in n (held_of x) (with_marked_scope m hs f)
found-here n m x hs f e none = rw e refl

scopes-escape : (n start : ℕ) (ys : List ScopeMark) (m : ScopeMark) (xs : List ScopeMark) (x : HeldHandle) (hs : List OpenHandle) → Lacks (λ s. s.number) ys n → m.number ≡ n → m.escaped ≡ None
    → AreScopesWithin start (ys ++ m ∷ xs) (length hs)
    → scopes_above start (ys ++ escaped_mark m x ∷ xs) hs ≡ escape_in n (held_of x) (scopes_above start (ys ++ m ∷ xs) hs)
scopes-escape n start [] m xs x hs l e none w =
    let P : ℕ → Type 0 = λ k. AreScopesWithin start xs k in
    let below : List OpenHandle = take m.start hs in
    let within : AreScopesWithin start xs (length below) = subst P (sym (length-take-le m.start hs w.0)) w.1 in
    let before : scopes_above start xs below ≡ scopes_above start xs (below ++ waiting_handle m) = ap (scopes_above start xs) (sym (append-nil below) ∙ ap (λ o. below ++ waiting_handle (record m { escaped = o })) (sym none)) in
    ap (with_marked_scope (escaped_mark m x) (drop m.start hs)) (scopes-hold (held_of x) start xs below within)
    ∙ found-here n m x (drop m.start hs) (scopes_above start xs below) (grind (arith, nat_tests)) none
    ∙ ap (λ f. escape_in n (held_of x) (with_marked_scope m (drop m.start hs) f)) before
scopes-escape n start (y ∷ ys) m xs x hs l e none w =
    let below : List OpenHandle = take y.start hs ++ waiting_handle y in
    let other : (y.number == n) ≡ false = grind (arith, nat_tests, l.at 0 y (omega arith)) in
    ap (with_marked_scope y (drop y.start hs)) (scopes-escape n start ys m xs x below (Lacks-tail (λ (s : ScopeMark). s.number) y ys n l) e none (within-closed start y (ys ++ m ∷ xs) hs w))
    ∙ passed-by n y (drop y.start hs) (held_of x) (scopes_above start (ys ++ m ∷ xs) below) other

scopes-within-escape : (start : ℕ) (ys : List ScopeMark) (m : ScopeMark) (xs : List ScopeMark) (x : HeldHandle) (end : ℕ)
    → AreScopesWithin start (ys ++ m ∷ xs) end → AreScopesWithin start (ys ++ escaped_mark m x ∷ xs) end
scopes-within-escape start [] m xs x end w = w
scopes-within-escape start (y ∷ ys) m xs x end w = (w.0, scopes-within-escape start ys m xs x y.start w.1)

scopes-order-escape : (start : ℕ) (ys : List ScopeMark) (m : ScopeMark) (xs : List ScopeMark) (x : HeldHandle) (hs : List OpenHandle) (most more : ℕ) → m.escaped ≡ None
    → AreScopesWithin start (ys ++ m ∷ xs) (length hs) → most < x.handle → x.handle ≤ more
    → AreScopesInOrder (ys ++ m ∷ xs) hs most → AreScopesInOrder (ys ++ escaped_mark m x ∷ xs) hs more
scopes-order-escape start [] m xs x hs most more none w above le o =
    let P : ℕ → Type 0 = λ k. AreScopesWithin start xs k in
    let below : List OpenHandle = take m.start hs in
    let within : AreScopesWithin start xs (length below) = subst P (sym (length-take-le m.start hs w.0)) w.1 in
    let nothing : below ++ waiting_handle m ≡ below = ap (λ o. below ++ waiting_handle (record m { escaped = o })) none ∙ append-nil below in
    let H : List OpenHandle → Type 0 = λ l. AreScopesInOrder xs l most in
    (order-more hs most more (omega arith) o.0, scopes-order-hold (held_of x) start xs below most more within above le (subst H nothing o.1))
scopes-order-escape start (y ∷ ys) m xs x hs most more none w above le o =
    (order-more hs most more (omega arith) o.0, scopes-order-escape start ys m xs x (take y.start hs ++ waiting_handle y) most more none (within-closed start y (ys ++ m ∷ xs) hs w) above le o.1)

same-count : (ys : List ScopeMark) (m z : ScopeMark) (xs : List ScopeMark) → length (ys ++ z ∷ xs) ≡ length (ys ++ m ∷ xs)
same-count ys m z xs = length-append ys (z ∷ xs) ∙ sym (length-append ys (m ∷ xs))

placed-middle : (ys : List ScopeMark) (m : ScopeMark) (xs : List ScopeMark) (x : HeldHandle) → ArePlaced (ys ++ m ∷ xs) → ArePlaced (ys ++ escaped_mark m x ∷ xs)
placed-middle [] m xs x p = p
placed-middle (y ∷ ys) m xs x p = (p.0 ∙ ap (λ k. y.start + k) (sym (same-count ys m (escaped_mark m x) xs)), placed-middle ys m xs x p.1)

pub placed-escape : (ss : List ScopeMark) (i : ℕ) (d : ScopeMark) (x : HeldHandle) → i < length ss → ArePlaced (reverse ss) → ArePlaced (reverse (set ss i (escaped_mark (get_or ss i d) x)))
placed-escape ss i d x inside p =
    let m : ScopeMark = get_or ss i d in
    let P : List ScopeMark → Type 0 = λ l. ArePlaced l in
    subst P (sym (reverse-set ss i (escaped_mark m x) inside)) (placed-middle (reverse (drop (suc i) ss)) m (reverse (take i ss)) x (subst P (reverse-at ss i d inside) p))

-- what an escape from the i-th scope of the innermost frame does
pub record Escapes (n : ℕ) (fs : List FrameMark) (ss : List ScopeMark) (at : ℕ) (x : HeldHandle) (d : ScopeMark) (hs : List OpenHandle) : Type 0 where
  pub frames : frames_marked fs (set ss at (escaped_mark (get_or ss at d) x)) hs ≡ first_changed (escape_in n (held_of x)) (frames_marked fs ss hs)
  pub within : AreFramesWithin fs (set ss at (escaped_mark (get_or ss at d) x)) (length hs)
  pub in_order : (most more : ℕ) → most < x.handle → x.handle ≤ more → AreFramesInOrder fs ss hs most → AreFramesInOrder fs (set ss at (escaped_mark (get_or ss at d) x)) hs more

pub frames-escape : (n : ℕ) (f : FrameMark) (fs : List FrameMark) (ss : List ScopeMark) (i : ℕ) (x : HeldHandle) (d : ScopeMark) (hs : List OpenHandle) → AreFramesWithin (f ∷ fs) ss (length hs)
    → Rises (λ s. s.number) (drop f.scopes ss) → HasAt (λ s. s.number) (drop f.scopes ss) n i → (get_or (drop f.scopes ss) i d).escaped ≡ None
    → get_or (drop f.scopes ss) i d ≡ get_or ss (f.scopes + i) d → Escapes n (f ∷ fs) ss (f.scopes + i) x d hs
frames-escape n f fs ss i x d hs w r h none there =
    let of_frame : List ScopeMark = drop f.scopes ss in
    let m : ScopeMark = get_or of_frame i d in
    let z : ScopeMark = escaped_mark m x in
    let ys : List ScopeMark = reverse (drop (suc i) of_frame) in
    let xs : List ScopeMark = reverse (take i of_frame) in
    let written : escaped_mark (get_or ss (f.scopes + i) d) x ≡ z = ap (λ s. escaped_mark s x) (sym there) in
    let after : List ScopeMark = set ss (f.scopes + i) (escaped_mark (get_or ss (f.scopes + i) d) x) in
    let old : reverse of_frame ≡ ys ++ m ∷ xs = reverse-at of_frame i d h.inside in
    let new : reverse (drop f.scopes after) ≡ ys ++ z ∷ xs =
    ap (λ s. reverse (drop f.scopes (set ss (f.scopes + i) s))) written ∙ ap reverse (drop-set-add f.scopes ss i z) ∙ reverse-set of_frame i z h.inside in
    let outer : take f.scopes after ≡ take f.scopes ss = take-set-le f.scopes ss (f.scopes + i) (escaped_mark (get_or ss (f.scopes + i) d) x) (omega arith) in
    let lacks : Lacks (λ s. s.number) ys n = Lacks-reverse (λ (s : ScopeMark). s.number) (drop (suc i) of_frame) n (Lacks-after (λ (s : ScopeMark). s.number) of_frame n i r h) in
    let W : List ScopeMark → Type 0 = λ l. AreScopesWithin f.start l (length hs) in
    let F : List ScopeMark → Type 0 = λ l. AreFramesWithin fs l f.start in
    let scopes : AreScopesWithin f.start (ys ++ m ∷ xs) (length hs) = subst W old w.1 in
    record {
      frames =
          ap (λ l. scopes_above f.start l hs ∷ frames_marked fs (take f.scopes after) (take f.start hs)) new
          ∙ ap (λ l. scopes_above f.start (ys ++ z ∷ xs) hs ∷ frames_marked fs l (take f.start hs)) outer
          ∙ ap (λ l. l ∷ frames_marked fs (take f.scopes ss) (take f.start hs)) (scopes-escape n f.start ys m xs x hs lacks (h.same d) none scopes)
          ∙ ap (λ l. escape_in n (held_of x) (scopes_above f.start l hs) ∷ frames_marked fs (take f.scopes ss) (take f.start hs)) (sym old);
      within = (
        omega (arith, w.0, length-set ss (f.scopes + i) (escaped_mark (get_or ss (f.scopes + i) d) x)),
        subst W (sym new) (scopes-within-escape f.start ys m xs x (length hs) scopes),
        subst F (sym outer) w.2,
      );
      in_order = λ most more above le o.
          let O : List ScopeMark → Type 0 = λ l. AreScopesInOrder l hs most in
          let N : List ScopeMark → Type 0 = λ l. AreScopesInOrder l hs more in
          let G : List ScopeMark → Type 0 = λ l. AreFramesInOrder fs l (take f.start hs) more in (
            subst N (sym new) (scopes-order-escape f.start ys m xs x hs most more none scopes above le (subst O old o.0)),
            subst G (sym outer) (frames-order-more fs (take f.scopes ss) (take f.start hs) most more (omega arith) o.1),
          );
    }
