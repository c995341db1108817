-- Reactions that get a state and fall due, one after another.
use Rattle.std.proofs.Common.{◌≡◌, ◌∙◌, ℕ, zero, suc, ◌+◌, ◌<◌, ◌≤◌, ◌==◌, ◌||◌, Bool, true, false, cond, List, [], ◌∷◌, ◌++◌, length, get_or, take, slice_get, Some, add-one, refl, ap, sym, arith}
use Rattle.std.proofs.Math.Seq.{take-suc}
use Rattle.napi_types.specs.plain.Lists.{has_number}
use Rattle.napi_types.specs.parts.Book.{Book, Registration, is_registered, is_at, made_due, moved, moved_at, with_hint, changed_from, changed_at, registration_at, new_ticket}
use Rattle.napi_types.specs.parts.Promises.{made_settled, reactions_settled}
use Rattle.napi_types.proofs.plain.Found.{same-tells, turned}
use Rattle.napi_types.proofs.parts.Books.{due-registers-none}
use Rattle.napi_types.proofs.parts.Moved.{IsUnder, PassesTest, under-ticket, registration-within, at-state}
use Rattle.napi_types.proofs.parts.Moves.{changed_where-both}
use Rattle.deferred.proofs.Numbers.{has-behind}

-- ONE REACTION
-- a change of the registration of one ticket is another one, where the two make the same of it
from-there : (f g : Registration → Registration) (k n : ℕ) (rs : List Registration)
    → ((p : ℕ) (r : Registration) → slice_get rs p ≡ Some r → (k + p == n) ≡ true → f r ≡ g r)
    → changed_from k f (λ m. m == n) rs ≡ changed_from k g (λ m. m == n) rs
from-there f g k n [] each = refl
from-there f g k n (r ∷ rs) each =
    ap (λ q. q ∷ changed_from (suc k) f (λ m. m == n) rs) (by (k == n) refl)
    ∙ ap (λ qs. cond (k == n) (g r) r ∷ qs)
    (from-there f g (suc k) n rs (λ p q there same. each (suc p) q there (ap (λ m. m == n) (next k p) ∙ same)))
  where
    next : (k p : ℕ) → k + suc p ≡ suc k + p
    next k p = omega arith

    last : (k : ℕ) → k + 0 ≡ k
    last k = omega arith

    by : (b : Bool) → (k == n) ≡ b → cond b (f r) r ≡ cond b (g r) r
    by true same = each 0 r refl (ap (λ m. m == n) (last k) ∙ same)
    by false other = refl

same-there : (f g : Registration → Registration) (n : ℕ) (book : Book) → ((r : Registration) → registration_at book n ≡ Some r → f r ≡ g r)
    → changed_at f n book ≡ changed_at g n book
same-there f g n book each =
    from-there f g 1 n book (λ p r there same. each r (ap (registration_at book) (sym (same-tells (1 + p) n same) ∙ first p) ∙ there))
  where
    first : (p : ℕ) → 1 + p ≡ suc p
    first p = omega arith

from-itself : (n k : ℕ) (rs : List Registration) → changed_from k (λ r. r) (λ m. m == n) rs ≡ rs
from-itself n k [] = refl
from-itself n k (r ∷ rs) = ap (λ q. q ∷ changed_from (suc k) (λ x. x) (λ m. m == n) rs) (by (k == n)) ∙ ap (λ qs. r ∷ qs) (from-itself n (suc k) rs)
  where
    by : (b : Bool) → cond b r r ≡ r
    by true = refl
    by false = refl

-- one that is registered gets its hint, and then falls due
pub settled-registered : (state n : ℕ) (book : Book) → is_at is_registered book n ≡ true
    → moved_at made_due n (changed_at (with_hint state) n book) ≡ changed_at (made_settled state) n book
settled-registered state n book is =
    changed_where-both (with_hint state) (moved made_due) (λ m. m == n) book
    ∙ same-there (λ r. moved made_due (with_hint state r)) (made_settled state) n book
    (λ r there. sym (ap (λ b. cond b (moved made_due (with_hint state r)) r) (sym (at-state is_registered book n r there) ∙ is)))

-- and one that is not stays as it is
pub settled-unregistered : (state n : ℕ) (book : Book) → is_at is_registered book n ≡ false → book ≡ changed_at (made_settled state) n book
settled-unregistered state n book is =
    sym
    (same-there (made_settled state) (λ r. r) n book
    (λ r there. ap (λ b. cond b (moved made_due (with_hint state r)) r) (sym (at-state is_registered book n r there) ∙ is)) ∙ from-itself n 1 book)

twice : (state : ℕ) (r : Registration) → made_settled state (made_settled state r) ≡ made_settled state r
twice state r = by (is_registered r.state) refl
  where
    by : (b : Bool) → is_registered r.state ≡ b → made_settled state (cond b (moved made_due (with_hint state r)) r) ≡ cond b (moved made_due (with_hint state r)) r
    by true is = ap (λ b. cond b (moved made_due (with_hint state (moved made_due (with_hint state r)))) (moved made_due (with_hint state r))) (due-registers-none r.state)
    by false is = ap (λ b. cond b (moved made_due (with_hint state r)) r) is

from-from : (state k : ℕ) (p q : ℕ → Bool) (rs : List Registration)
    → changed_from k (made_settled state) q (changed_from k (made_settled state) p rs) ≡ changed_from k (made_settled state) (λ m. p m || q m) rs
from-from state k p q [] = refl
from-from state k p q (r ∷ rs) = by (p k) (q k) _ _ (from-from state (suc k) p q rs)
  where
    f : Registration → Registration
    f = made_settled state

    by : (a b : Bool) (before after : List Registration) → before ≡ after → cond b (f (cond a (f r) r)) (cond a (f r) r) ∷ before ≡ cond (a || b) (f r) r ∷ after
    by true true before after rest = ap (λ x. x ∷ before) (twice state r) ∙ ap (λ xs. f r ∷ xs) rest
    by true false before after rest = ap (λ xs. f r ∷ xs) rest
    by false true before after rest = ap (λ xs. f r ∷ xs) rest
    by false false before after rest = ap (λ xs. r ∷ xs) rest

from-same : (state k : ℕ) (p q : ℕ → Bool) (rs : List Registration) → ((m : ℕ) → p m ≡ q m)
    → changed_from k (made_settled state) p rs ≡ changed_from k (made_settled state) q rs
from-same state k p q [] same = refl
from-same state k p q (r ∷ rs) same =
    ap (λ b. cond b (made_settled state r) r ∷ changed_from (suc k) (made_settled state) p rs) (same k)
    ∙ ap (λ xs. cond (q k) (made_settled state r) r ∷ xs) (from-same state (suc k) p q rs same)

from-none : (state k : ℕ) (rs : List Registration) → changed_from k (made_settled state) (λ m. false) rs ≡ rs
from-none state k [] = refl
from-none state k (r ∷ rs) = ap (λ xs. r ∷ xs) (from-none state (suc k) rs)

-- none
pub settled-none : (state : ℕ) (book : Book) → book ≡ reactions_settled state [] book
settled-none state book = sym (from-none state 1 book)

-- one more
pub settled-more : (state n : ℕ) (ns : List ℕ) (book : Book) → changed_at (made_settled state) n (reactions_settled state ns book) ≡ reactions_settled state (ns ++ n ∷ []) book
settled-more state n ns book =
    from-from state 1 (λ m. has_number m ns) (λ m. m == n) book
    ∙ from-same state 1 (λ m. has_number m ns || (m == n)) (λ m. has_number m (ns ++ n ∷ [])) book
    (λ m. ap (λ b. has_number m ns || b) (turned m n) ∙ sym (has-behind m n ns))

-- PLACES
pub take-next : (ns : List ℕ) (i : ℕ) → i < length ns → take (i + 1) ns ≡ take i ns ++ get_or ns i 0 ∷ []
take-next ns i within = rw add-one (take-suc ns i 0 within)

-- a registered ticket was given
pub given-registered : (book : Book) (n : ℕ) → is_at is_registered book n ≡ true → (1 ≤ n) × (n ≤ length book)
given-registered book zero is = let never : ⊥ = cc in absurd never
given-registered book (suc p) is =
    let under : IsUnder (PassesTest is_registered) book (suc p) = under-ticket is_registered book (suc p) is in
    let within : suc p < new_ticket book = registration-within book (suc p) under.registration under.there in
    (omega arith, omega (arith, within))

-- THE NEXT ONE
place-read : (ns : List ℕ) (i x : ℕ) → i < length ns → x ≡ get_or ns i x → x ≡ get_or ns i 0
place-read [] i x within here = absurd (omega (arith, within))
place-read (n ∷ ns) zero x within here = here
place-read (n ∷ ns) (suc i) x within here = place-read ns i x (omega (arith, within)) here

-- and then one more is settled
pub next-settled : (state : ℕ) (ns : List ℕ) (i x : ℕ) (book now after : Book) → now ≡ reactions_settled state (take i ns) book
    → after ≡ changed_at (made_settled state) x now → i < length ns → x ≡ get_or ns i x → after ≡ reactions_settled state (take (i + 1) ns) book
next-settled state ns i x book now after settled is within here =
    is ∙ ap (changed_at (made_settled state) x) settled ∙ settled-more state x (take i ns) book
    ∙ ap (λ ks. reactions_settled state ks book) (ap (λ k. take i ns ++ k ∷ []) (place-read ns i x within here) ∙ sym (take-next ns i within))
