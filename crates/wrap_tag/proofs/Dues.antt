-- Tickets that fall due one after another.
use Rattle.std.proofs.Common.{◌≡◌, ◌∙◌, ℕ, suc, ◌≤◌, ◌==◌, nat_eq, ◌||◌, Bool, true, false, cond, List, [], ◌∷◌, ◌++◌, length, get_or, Option, refl, ap, sym, subst, arith}
use Rattle.std.specs.Cmp.{nat_eq_equiv}
use Rattle.std.specs.List.{list_any}
use Rattle.std.specs.Option.{option_to_list}
use Rattle.std.proofs.lemmas.Bool.Decides.{nat_tests}
use Rattle.std.proofs.lemmas.List.Elements.{All-head, All-tail}
use Rattle.std.proofs.lemmas.List.Folds.{list_any-append}
use Rattle.std.proofs.lemmas.Map.Views.{All-from_any}
use Rattle.std.proofs.lemmas.Bool.{or_right}
use Rattle.napi_types.specs.plain.Lists.{has_number}
use Rattle.napi_types.specs.parts.Book.{TicketState, Registered, Registration, Book, made_due, changed_from, moved, due_where}
use Rattle.napi_types.proofs.plain.Found.{same-tells, turned}
use Rattle.finalizer_queue.proofs.RowMoves.{length-due_where}
use Rattle.wrap_tag.specs.Wraps.{AreGiven}

-- a registration that was due stays so
due-due : (s : TicketState) → made_due (made_due s) ≡ made_due s
due-due Registered = refl
due-due _ = refl

due-moved : (r : Registration) → moved made_due (moved made_due r) ≡ moved made_due r
due-moved r = ap (λ s. record r { state = s }) (due-due r.state)

-- those that pass one test fall due, and then those that pass another
from-from : (n : ℕ) (p q : ℕ → Bool) (rs : List Registration)
    → changed_from n (moved made_due) q (changed_from n (moved made_due) p rs) ≡ changed_from n (moved made_due) (λ m. p m || q m) rs
from-from n p q [] = refl
from-from n p q (r ∷ rs) = by (p n) (q n) _ _ (from-from (suc n) p q rs)
  where
    by : (a b : Bool) (before after : List Registration) → before ≡ after → cond b (moved made_due (cond a (moved made_due r) r)) (cond a (moved made_due r) r) ∷ before ≡ cond (a || b) (moved made_due r) r ∷ after
    by true true before after rest = ap (λ x. x ∷ before) (due-moved r) ∙ ap (λ xs. moved made_due r ∷ xs) rest
    by true false before after rest = ap (λ xs. moved made_due r ∷ xs) rest
    by false true before after rest = ap (λ xs. moved made_due r ∷ xs) rest
    by false false before after rest = ap (λ xs. r ∷ xs) rest

pub due_where-due_where : (p q : ℕ → Bool) (book : Book) → due_where q (due_where p book) ≡ due_where (λ n. p n || q n) book
due_where-due_where p q book = from-from 1 p q book

-- tests that pass the same tickets
from-same : (n : ℕ) (p q : ℕ → Bool) (rs : List Registration) → ((m : ℕ) → p m ≡ q m)
    → changed_from n (moved made_due) p rs ≡ changed_from n (moved made_due) q rs
from-same n p q [] same = refl
from-same n p q (r ∷ rs) same =
    ap (λ b. cond b (moved made_due r) r ∷ changed_from (suc n) (moved made_due) p rs) (same n)
    ∙ ap (λ xs. cond (q n) (moved made_due r) r ∷ xs) (from-same (suc n) p q rs same)

pub due_where-same : (p q : ℕ → Bool) (book : Book) → ((m : ℕ) → p m ≡ q m) → due_where p book ≡ due_where q book
due_where-same p q book same = from-same 1 p q book same

-- a test that no ticket passes
from-none : (n : ℕ) (rs : List Registration) → changed_from n (moved made_due) (λ m. false) rs ≡ rs
from-none n [] = refl
from-none n (r ∷ rs) = ap (λ xs. r ∷ xs) (from-none (suc n) rs)

pub due_where-none : (p : ℕ → Bool) (book : Book) → ((m : ℕ) → p m ≡ false) → due_where p book ≡ book
due_where-none p book none = due_where-same p (λ m. false) book none ∙ from-none 1 book

-- a ticket falls due, and then those of a list
pub due_where-next : (t : ℕ) (ts : List ℕ) (book : Book) → due_where (λ n. has_number n ts) (due_where (λ n. n == t) book) ≡ due_where (λ n. has_number n (t ∷ ts)) book
due_where-next t ts book =
    due_where-due_where (λ n. n == t) (λ n. has_number n ts) book
    ∙ due_where-same (λ n. (n == t) || has_number n ts) (λ n. has_number n (t ∷ ts)) book (λ n. ap (λ b. b || has_number n ts) (turned n t))

-- the book gave them, and so it did once some are due
pub given-due : (ts : List ℕ) (p : ℕ → Bool) (book : Book) → AreGiven ts book → AreGiven ts (due_where p book)
given-due ts p book given = λ k d within. let it : (1 ≤ get_or ts k d) × (get_or ts k d ≤ length book) = given k d within in (it.0, omega (arith, it.1, length-due_where p book))

-- one list is among the other
pub given-among : (ts us : List ℕ) (book : Book) → ((n : ℕ) → has_number n us ≡ true → has_number n ts ≡ true) → AreGiven ts book → AreGiven us book
given-among ts us book among given = All-from_any nat_eq_equiv (λ n. (1 ≤ n) × (n ≤ length book)) us (λ q any. each q ts (among q (flip q us ∙ any)) given)
  where
    flip : (q : ℕ) (ns : List ℕ) → has_number q ns ≡ list_any (nat_eq q) ns
    flip q [] = refl
    flip q (n ∷ ns) = cong (n == q) (nat_eq q n) (grind (arith, nat_tests)) (flip q ns)
      where
        cong : (a b : Bool) → a ≡ b → has_number q ns ≡ list_any (nat_eq q) ns → (a || has_number q ns) ≡ (b || list_any (nat_eq q) ns)
        cong a b same rest = ap (λ c. c || has_number q ns) same ∙ ap (λ c. b || c) rest

    each : (q : ℕ) (ns : List ℕ) → has_number q ns ≡ true → AreGiven ns book → (1 ≤ q) × (q ≤ length book)
    each q [] none all = let wrong : ⊥ = cc in absurd wrong
    each q (n ∷ ns) has all = by (n == q) (λ same. same-tells n q same) has (All-head (λ m. (1 ≤ m) × (m ≤ length book)) n ns all) (λ later. each q ns later (All-tail (λ m. (1 ≤ m) × (m ≤ length book)) n ns all))
      where
        by : (b : Bool) → (b ≡ true → n ≡ q) → (b || has_number q ns) ≡ true → (1 ≤ n) × (n ≤ length book) → (has_number q ns ≡ true → (1 ≤ q) × (q ≤ length book)) → (1 ≤ q) × (q ≤ length book)
        by true same here holds rest = let is : n ≡ q = same refl in (omega (arith, is, holds.0), omega (arith, is, holds.1))
        by false same later holds rest = rest later

-- those after the first, as it is due
pub given-next : (ts : List ℕ) (t : ℕ) (rest : List ℕ) → ts ≡ t ∷ rest → (book after : Book) → after ≡ due_where (λ n. n == t) book → AreGiven ts book → AreGiven rest after
given-next ts t rest is book after due given =
    let P : List ℕ → Type 0 = λ us. AreGiven us book in
    let Q : Book → Type 0 = AreGiven rest in
    subst Q (sym due) (given-due rest (λ n. n == t) book (All-tail (λ n. (1 ≤ n) × (n ≤ length book)) t rest (subst P is given)))

-- one that is there or is not, and then those of a list
pub due_where-row : (t : Option ℕ) (ts : List ℕ) (book between : Book) → between ≡ due_where (λ n. has_number n (option_to_list t)) book
    → due_where (λ n. has_number n ts) between ≡ due_where (λ n. has_number n (option_to_list t ++ ts)) book
due_where-row t ts book between due =
    ap (due_where (λ n. has_number n ts)) due ∙ due_where-due_where (λ n. has_number n (option_to_list t)) (λ n. has_number n ts) book
    ∙ due_where-same (λ n. has_number n (option_to_list t) || has_number n ts) (λ n. has_number n (option_to_list t ++ ts)) book (λ n. sym (list_any-append (λ m. m == n) (option_to_list t) ts))

pub given-row : (t : Option ℕ) (ts : List ℕ) (book between : Book) → between ≡ due_where (λ n. has_number n (option_to_list t)) book → AreGiven (option_to_list t ++ ts) book → AreGiven ts between
given-row t ts book between due given =
    let P : Book → Type 0 = AreGiven ts in
    subst P (sym due) (given-due ts (λ n. has_number n (option_to_list t)) book
    (given-among (option_to_list t ++ ts) ts book (λ n is. list_any-append (λ m. m == n) (option_to_list t) ts ∙ ap (λ b. has_number n (option_to_list t) || b) is ∙ or_right (has_number n (option_to_list t)) true refl) given))

-- a ticket alone
pub due_where-one : (t : ℕ) (book : Book) → due_where (λ n. n == t) book ≡ due_where (λ n. has_number n (t ∷ [])) book
due_where-one t book = sym (due_where-none (λ n. has_number n []) (due_where (λ n. n == t) book) (λ n. refl)) ∙ due_where-next t [] book
