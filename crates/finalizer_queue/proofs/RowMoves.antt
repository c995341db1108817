-- What a change of a registration makes of the book, and how a row that is written in its place is one.
use Rattle.std.proofs.Common.{◌≡◌, ◌∙◌, ℕ, zero, suc, ◌+◌, ◌-◌, ◌<◌, ◌≤◌, ◌==◌, ◌∷◌, nat_lt, Bool, true, false, cond, List, [], length, set, get_or, slice_get, Option, Some, None, option_map, refl, ap, sym, arith}
use Rattle.std.specs.Option.{unwrap_or}
use Rattle.std.proofs.lemmas.List.{map-set, length-map}
use Rattle.std.proofs.lemmas.Option.{slice_get-map, slice_get_read, slice_get_within, slice_get_past}
use Rattle.std.proofs.lemmas.Bool.{eq-eqb, le-ltb, lt-ltb}
use Rattle.napi_types.specs.parts.Book.{Book, Registration, TicketState, made_due, changed_from, changed_at, moved, moved_at, due_where, all_due, registration_at, is_at}
use Rattle.napi_types.proofs.plain.Counted.{slice_get-set}
use Rattle.napi_types.proofs.plain.Found.{apart-below, next-same, turned}
use Rattle.napi_types.proofs.parts.Books.{changed_from-below, length-changed_where}
use Rattle.finalizer_queue.specs.declared.rows.TicketRow.{TicketRow}
use Rattle.finalizer_queue.specs.TicketRows.{row_registration, row_state, book_of}

-- A REGISTRATION IS CHANGED
changed_from-at : (change : Registration → Registration) (k p n : ℕ) (rs : List Registration) (x y : Registration) → n ≡ k + p → slice_get rs p ≡ Some x
    → y ≡ change x → set rs p y ≡ changed_from k change (λ m. m == n) rs
changed_from-at change k p n [] x y at here is = let no : ⊥ = cc in absurd no
changed_from-at change k zero n (r ∷ rs) x y at here is =
    let same : r ≡ x = cc in
    rw (eq-eqb k n (omega arith), changed_from-below change (suc k) n rs (omega arith), same, is) refl
changed_from-at change k (suc p) n (r ∷ rs) x y at here is =
    rw (apart-below k n (omega arith)) (ap (λ qs. r ∷ qs) (changed_from-at change (suc k) p n rs x y (omega arith) here is))

-- x is the row of the ticket n
pub record IsTicketRow (rows : List TicketRow) (n : ℕ) (x : TicketRow) : Type 0 where
  pub here : x ≡ get_or rows (n - 1) x
  pub above : 1 ≤ n
  pub within : n ≤ length rows

-- a row that is written in the place of the ticket n, as x was changed there
pub book_of-changed : (change : Registration → Registration) (rows : List TicketRow) (n : ℕ) (x y : TicketRow) → IsTicketRow rows n x
    → row_registration y ≡ change (row_registration x) → book_of (set rows (n - 1) y) ≡ changed_at change n (book_of rows)
book_of-changed change rows n x y row is =
    let read : slice_get (book_of rows) (n - 1) ≡ Some (row_registration x) =
    slice_get-map row_registration rows (n - 1)
    ∙ ap (option_map row_registration) (slice_get_read rows (length rows) (n - 1) x refl (omega (arith, row.above, row.within)) row.here) in
    map-set row_registration rows (n - 1) y
    ∙ changed_from-at change 1 (n - 1) n (book_of rows) (row_registration x) (row_registration y) (omega (arith, row.above)) read is

-- WHAT IS UNDER A TICKET
state-read : (test : TicketState → Bool) (b : Bool) (y : TicketRow) (o : Option TicketRow)
    → unwrap_or (option_map (λ (r : Registration). test r.state) (option_map row_registration (cond b (Some y) o))) false
    ≡ cond b (test (row_state y.state)) (unwrap_or (option_map (λ (r : Registration). test r.state) (option_map row_registration o)) false)
state-read test true y o = refl
state-read test false y o = refl

-- what a ticket is, where a row was written in the place of the ticket n
pub is_at-set : (test : TicketState → Bool) (rows : List TicketRow) (n m : ℕ) (y : TicketRow) → 1 ≤ n → n ≤ length rows
    → is_at test (book_of (set rows (n - 1) y)) m ≡ cond (m == n) (test (row_state y.state)) (is_at test (book_of rows) m)
is_at-set test rows zero m y above within = absurd (omega arith)
is_at-set test rows (suc p) zero y above within = rw (apart-below 0 (suc p) (omega arith)) refl
is_at-set test rows (suc p) (suc q) y above within =
    let place : suc p - 1 ≡ p = omega arith in
    let tells : Option Registration → Bool = λ o. unwrap_or (option_map (λ r. test r.state) o) false in
    rw (place, next-same q p) (
    ap tells (slice_get-map row_registration (set rows p y) q ∙ ap (option_map row_registration) (slice_get-set rows p y q (omega arith) ∙ ap (λ b. cond b (Some y) (slice_get rows q)) (turned p q)))
    ∙ state-read test (q == p) y (slice_get rows q)
    ∙ ap (λ o. cond (q == p) (test (row_state y.state)) (tells o)) (sym (slice_get-map row_registration rows q)))

-- the row of a ticket has what was registered under it
pub registration_at-row : (rows : List TicketRow) (n : ℕ) (x : TicketRow) → IsTicketRow rows n x → registration_at (book_of rows) n ≡ Some (row_registration x)
registration_at-row rows zero x row = absurd (omega (arith, row.above))
registration_at-row rows (suc p) x row =
    let place : suc p - 1 ≡ p = omega arith in
    let read : x ≡ get_or rows p x = rw place at row.here in
    slice_get-map row_registration rows p ∙ ap (option_map row_registration) (slice_get_read rows (length rows) p x refl (omega (arith, row.within)) read)

pub is_at-row : (test : TicketState → Bool) (rows : List TicketRow) (n : ℕ) (x : TicketRow) → IsTicketRow rows n x → is_at test (book_of rows) n ≡ test (row_state x.state)
is_at-row test rows n x row = ap (λ o. unwrap_or (option_map (λ (r : Registration). test r.state) o) false) (registration_at-row rows n x row)

-- a ticket that passes a test was given
pub is_at-within : (test : TicketState → Bool) (rows : List TicketRow) (n : ℕ) → is_at test (book_of rows) n ≡ true → (1 ≤ n) × (n ≤ length rows)
is_at-within test rows zero h = let no : ⊥ = cc in absurd no
is_at-within test rows (suc p) h = by (slice_get (book_of rows) p) refl h
  where
    by : (o : Option Registration) → slice_get (book_of rows) p ≡ o → unwrap_or (option_map (λ (r : Registration). test r.state) o) false ≡ true → (1 ≤ suc p) × (suc p ≤ length rows)
    by None is told = let no : ⊥ = cc in absurd no
    by (Some r) is told = (omega arith, omega (arith, slice_get_within (book_of rows) p r is, length-map rows row_registration))

-- one past the last was not
pub is_at-past : (test : TicketState → Bool) (rows : List TicketRow) (n : ℕ) → length rows < n → is_at test (book_of rows) n ≡ false
is_at-past test rows zero past = absurd (omega (arith, past))
is_at-past test rows (suc p) past =
    ap (λ o. unwrap_or (option_map (λ (r : Registration). test r.state) o) false) (slice_get_past (book_of rows) p (omega (arith, past, length-map rows row_registration)))

-- so its row is there, and passes the test
pub row-passes : (test : TicketState → Bool) (rows : List TicketRow) (book : Book) (n : ℕ) (x : TicketRow) → book_of rows ≡ book → is_at test book n ≡ true → x ≡ get_or rows (n - 1) x
    → IsTicketRow rows n x × (test (row_state x.state) ≡ true)
row-passes test rows book n x view is here =
    let at_rows : is_at test (book_of rows) n ≡ true = ap (λ b. is_at test b n) view ∙ is in
    let given = is_at-within test rows n at_rows in
    let row : IsTicketRow rows n x = record { here = here; above = given.0; within = given.1 } in
    (row, sym (is_at-row test rows n x row) ∙ at_rows)

-- ALL TICKETS FALL DUE, ONE AFTER THE OTHER
-- no ticket is below 1
due-none : (k : ℕ) (rs : List Registration) → 1 ≤ k → changed_from k (moved made_due) (λ m. nat_lt m 1) rs ≡ rs
due-none k [] h = refl
due-none k (r ∷ rs) h = rw (le-ltb k 1 h) (ap (λ qs. r ∷ qs) (due-none (suc k) rs (omega arith)))

pub due_where-none : (book : Book) → book ≡ due_where (λ m. nat_lt m 1) book
due_where-none book = sym (due-none 1 book (omega arith))

one_more : (k n : ℕ) (r : Registration) → cond (k == n) (moved made_due (cond (nat_lt k n) (moved made_due r) r)) (cond (nat_lt k n) (moved made_due r) r) ≡ cond (nat_lt k (n + 1)) (moved made_due r) r
one_more k n r = grind arith

due-more : (k n : ℕ) (rs : List Registration)
    → changed_from k (moved made_due) (λ m. m == n) (changed_from k (moved made_due) (λ m. nat_lt m n) rs) ≡ changed_from k (moved made_due) (λ m. nat_lt m (n + 1)) rs
due-more k n [] = refl
due-more k n (r ∷ rs) = rw (one_more k n r, due-more (suc k) n rs) refl

-- one ticket more is due after those below it
pub due_where-more : (book : Book) (n : ℕ) → moved_at made_due n (due_where (λ m. nat_lt m n) book) ≡ due_where (λ m. nat_lt m (n + 1)) book
due_where-more book n = due-more 1 n book

due-all : (k n : ℕ) (rs : List Registration) → k + length rs ≤ n
    → changed_from k (moved made_due) (λ m. nat_lt m n) rs ≡ changed_from k (moved made_due) (λ m. true) rs
due-all k n [] h = refl
due-all k n (r ∷ rs) h = rw (lt-ltb k n (omega arith)) (ap (λ qs. moved made_due r ∷ qs) (due-all (suc k) n rs (omega arith)))

-- and all are, once the last is
pub due_where-all : (book : Book) (n : ℕ) → length book < n → due_where (λ m. nat_lt m n) book ≡ all_due book
due_where-all book n h = due-all 1 n book (omega arith)

pub length-due_where : (test : ℕ → Bool) (book : Book) → length (due_where test book) ≡ length book
length-due_where test book = length-changed_where (moved made_due) test book
