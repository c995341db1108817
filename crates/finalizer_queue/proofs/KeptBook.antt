-- What keeps the heap in step with the rows.
use Rattle.std.proofs.Common.{◌≡◌, ◌∙◌, ℕ, zero, suc, ◌+◌, ◌-◌, ◌<◌, ◌≤◌, ◌==◌, ◌++◌, ◌||◌, Bool, true, false, cond, List, [], ◌∷◌, length, set, get_or, slice_get, Option, Some, None, option_map, refl, sym, ap, arith, IsPermutation, nat_cmp, not, Result, Ok, Err, IsOk, true≢false}
use Rattle.std.specs.BinaryHeap.{IsHeap, IsUpperBound}
use Rattle.std.specs.declared.cmp.Reverse.{Reverse}
use Rattle.std.specs.List.{sum_by}
use Rattle.std.specs.Option.{unwrap_or, is_some}
use Rattle.std.proofs.lemmas.List.{length-set, length-append, length-map}
use Rattle.std.proofs.lemmas.List.Sums.{sum_by-set, sum_by-append, sum_by-cons, get_or-le-sum_by}
use Rattle.std.proofs.lemmas.Bool.{or_parts}
use Rattle.std.proofs.lemmas.Bool.Decides.{nat_tests}
use Rattle.napi_types.specs.declared.duties.Slip.{Slip}
use Rattle.napi_types.specs.parts.Book.{Registration, lowest_due, TicketState, Registered, Due, Begun, is_registered, is_due, is_begun, is_owed, is_at, moved, made_due, made_begun, made_due_and_begun}
use Rattle.napi_types.proofs.plain.Found.{apart-above}
use Rattle.finalizer_queue.specs.declared.rows.TicketRow.{TicketRow}
use Rattle.finalizer_queue.specs.declared.rows.RowState.{RowState}
use Rattle.finalizer_queue.specs.declared.rows.RowState.TheVariants as state
use Rattle.finalizer_queue.specs.TicketRows.{registration_in, row_registration, row_state, book_of, registered_count, IsKeptBook}
use Rattle.finalizer_queue.proofs.TicketHeaps.{times_in_heap, times-moved, times-more, bound-times}
use Rattle.finalizer_queue.proofs.Lowest.{lowest-is, lowest-none, lowest-some}
use Rattle.finalizer_queue.proofs.RowMoves.{IsTicketRow, is_at-row, is_at-set, is_at-within}

-- STATES
pub registered-undue : (s : TicketState) → is_registered s ≡ true → is_due s ≡ false
registered-undue Registered some = refl
registered-undue _ some = cc

pub begun-unowed : (s : TicketState) → is_begun s ≡ true → is_owed s ≡ false
begun-unowed Begun is = refl
begun-unowed _ is = cc

-- THE HEAP
itself : (n : ℕ) → ◌≡◌ {A = ℕ} (cond (n == n) 1 0) 1
itself n = grind arith

one_if-cond : (b p q : Bool) → ◌≡◌ {A = ℕ} (cond b (cond p 1 0) (cond q 1 0)) (cond (cond b p q) 1 0)
one_if-cond true p q = refl
one_if-cond false p q = refl

-- a row is written in the place of the ticket n, and the heap then has that ticket once if it is due, and the others as before
pub kept-set : (rows : List TicketRow) (spare row_places count places count_after places_after : ℕ) (ts us : List (Reverse ℕ))
    → IsKeptBook rows spare row_places ts count places
    → (n : ℕ) (x y : TicketRow) → IsTicketRow rows n x
    → IsHeap (λ a b. nat_cmp b.0 a.0) us → ((m : ℕ) → times_in_heap m us ≡ cond (m == n) (cond (is_due (row_state y.state)) 1 0) (times_in_heap m ts))
    → count_after + cond (is_registered (row_state y.state)) 1 0 ≤ count + cond (is_registered (row_state x.state)) 1 0 → places ≤ places_after
    → IsKeptBook (set rows (n - 1) y) spare row_places us count_after places_after
kept-set rows spare row_places count places count_after places_after ts us kept n x y row heap has fewer wider =
    let waits : TicketRow → ℕ = λ row. cond (is_registered (row_state row.state)) 1 0 in
    let sums : registered_count (set rows (n - 1) y) + waits (get_or rows (n - 1) x) ≡ registered_count rows + waits y = sum_by-set waits rows (n - 1) y x (omega (arith, row.above, row.within)) in
    let was : waits (get_or rows (n - 1) x) ≡ waits x = ap waits (sym row.here) in
    let long : length (set rows (n - 1) y) ≡ length rows = length-set rows (n - 1) y in
    record {
      order = heap;
      once = λ m. has m ∙ ap (λ k. cond (m == n) (cond (is_due (row_state y.state)) 1 0) k) (kept.once m)
          ∙ one_if-cond (m == n) (is_due (row_state y.state)) (is_at is_due (book_of rows) m)
          ∙ ap (λ b. cond b 1 0) (sym (is_at-set is_due rows n m y row.above row.within));
      fits = omega (arith, sums, was, long, kept.fits, fewer);
      heap_room = omega (arith, long, kept.heap_room, wider);
      row_room = omega (arith, long, kept.row_room);
    }

-- the count of the ticket that is moved, where the heap stays
same-times : (m n k : ℕ) (ts : List (Reverse ℕ)) → times_in_heap n ts ≡ k → times_in_heap m ts ≡ cond (m == n) k (times_in_heap m ts)
same-times m n k ts is = by (m == n) refl
  where
    by : (b : Bool) → (m == n) ≡ b → times_in_heap m ts ≡ cond b k (times_in_heap m ts)
    by true here = let same : m ≡ n = grind (arith, nat_tests, here) in ap (λ i. times_in_heap i ts) same ∙ is
    by false here = refl

-- a row is moved whose ticket is as due as before
pub kept-beside : (rows : List TicketRow) (spare row_places count places : ℕ) (ts : List (Reverse ℕ)) → IsKeptBook rows spare row_places ts count places
    → (n : ℕ) (x y : TicketRow) → IsTicketRow rows n x
    → is_due (row_state y.state) ≡ is_due (row_state x.state) → is_registered (row_state y.state) ≡ false
    → IsKeptBook (set rows (n - 1) y) spare row_places ts count places
kept-beside rows spare row_places count places ts kept n x y row as_due waits =
    let is : times_in_heap n ts ≡ cond (is_due (row_state y.state)) 1 0 =
    kept.once n ∙ ap (λ b. cond b 1 0) (is_at-row is_due rows n x row ∙ sym as_due) in
    let none : ◌≡◌ {A = ℕ} (cond (is_registered (row_state y.state)) 1 0) 0 = rw waits refl in
    kept-set rows spare row_places count places count places ts ts kept n x y row kept.order (λ m. same-times m n _ ts is) (omega (arith, none)) (omega arith)

-- a row keeps its state
pub kept-same : (rows : List TicketRow) (spare row_places count places : ℕ) (ts : List (Reverse ℕ)) → IsKeptBook rows spare row_places ts count places
    → (n : ℕ) (x y : TicketRow) → IsTicketRow rows n x → row_state y.state ≡ row_state x.state → IsKeptBook (set rows (n - 1) y) spare row_places ts count places
kept-same rows spare row_places count places ts kept n x y row same =
    let is : times_in_heap n ts ≡ cond (is_due (row_state y.state)) 1 0 =
    kept.once n ∙ ap (λ b. cond b 1 0) (is_at-row is_due rows n x row ∙ ap is_due (sym same)) in
    let waits : ◌≡◌ {A = ℕ} (cond (is_registered (row_state y.state)) 1 0) (cond (is_registered (row_state x.state)) 1 0) = ap (λ s. cond (is_registered s) 1 0) same in
    kept-set rows spare row_places count places count places ts ts kept n x y row kept.order (λ m. same-times m n _ ts is) (omega (arith, waits)) (omega arith)

-- the state of a row that was moved
state-moved : (move : TicketState → TicketState) (x y : TicketRow) → row_registration y ≡ moved move (row_registration x) → row_state y.state ≡ move (row_state x.state)
state-moved move x y is = ap (λ r. r.state) is

-- a ticket that is not due is moved, and is then neither registered nor due
pub kept-spent : (rows : List TicketRow) (spare row_places count places : ℕ) (ts : List (Reverse ℕ)) → IsKeptBook rows spare row_places ts count places
    → (n : ℕ) (x y : TicketRow) → IsTicketRow rows n x → (move : TicketState → TicketState) → row_registration y ≡ moved move (row_registration x)
    → is_due (row_state x.state) ≡ false → is_owed (move (row_state x.state)) ≡ false → IsKeptBook (set rows (n - 1) y) spare row_places ts count places
kept-spent rows spare row_places count places ts kept n x y row move is undue after =
    let spent = or_parts (is_registered (row_state y.state)) (is_due (row_state y.state)) (ap is_owed (state-moved move x y is) ∙ after) in
    kept-beside rows spare row_places count places ts kept n x y row (spent.1 ∙ sym undue) spent.0

-- a ticket that is not registered does not fall due
pub kept-stays : (rows : List TicketRow) (spare row_places count places : ℕ) (ts : List (Reverse ℕ)) → IsKeptBook rows spare row_places ts count places
    → (n : ℕ) (x y : TicketRow) → IsTicketRow rows n x → is_registered (row_state x.state) ≡ false
    → row_registration y ≡ moved made_due (row_registration x) → IsKeptBook (set rows (n - 1) y) spare row_places ts count places
kept-stays rows spare row_places count places ts kept n x y row none is =
    let same : made_due (row_state x.state) ≡ row_state x.state = stays (row_state x.state) none in
    kept-beside rows spare row_places count places ts kept n x y row
    (ap is_due (state-moved made_due x y is ∙ same))
    (ap is_registered (state-moved made_due x y is ∙ same) ∙ none)
  where
    stays : (s : TicketState) → is_registered s ≡ false → made_due s ≡ s
    stays Registered none = cc
    stays _ none = refl

-- the heap has a ticket more, which was not there
pushed-times : (m n : ℕ) (t : Reverse ℕ) (ts us : List (Reverse ℕ)) → t.0 ≡ n → IsPermutation (t ∷ ts) us → times_in_heap n ts ≡ 0 → times_in_heap m us ≡ cond (m == n) 1 (times_in_heap m ts)
pushed-times m n t ts us is perm none = times-moved m (t ∷ ts) us perm ∙ times-more m t ts ∙ by (m == n) refl
  where
    by : (b : Bool) → (m == n) ≡ b → cond (t.0 == m) 1 0 + times_in_heap m ts ≡ cond b 1 (times_in_heap m ts)
    by true here = let same : m ≡ n = grind (arith, nat_tests, here) in rw (is, same, none) (omega (arith, itself n))
    by false here = rw is (other m n here)
      where
        other : (m n : ℕ) → (m == n) ≡ false → cond (n == m) 1 0 + times_in_heap m ts ≡ times_in_heap m ts
        other m n here = grind (arith, here)

-- a ticket that is registered falls due, and the heap has it then
pub kept-due : (rows : List TicketRow) (spare row_places count places count_after places_after : ℕ) (ts us : List (Reverse ℕ))
    → IsKeptBook rows spare row_places ts count places
    → (n : ℕ) (x y : TicketRow) → IsTicketRow rows n x → is_registered (row_state x.state) ≡ true
    → row_registration y ≡ moved made_due (row_registration x)
    → (t : Reverse ℕ) → t.0 ≡ n → IsPermutation (t ∷ ts) us → IsHeap (λ a b. nat_cmp b.0 a.0) us → count_after ≡ count + 1 → places ≤ places_after
    → IsKeptBook (set rows (n - 1) y) spare row_places us count_after places_after
kept-due rows spare row_places count places count_after places_after ts us kept n x y row some is t named perm heap more wider =
    let due : row_state y.state ≡ Due = state-moved made_due x y is ∙ falls (row_state x.state) some in
    let none : times_in_heap n ts ≡ 0 = kept.once n ∙ ap (λ b. cond b 1 0) (is_at-row is_due rows n x row ∙ registered-undue (row_state x.state) some) in
    let has : (m : ℕ) → times_in_heap m us ≡ cond (m == n) (cond (is_due (row_state y.state)) 1 0) (times_in_heap m ts) =
    λ m. pushed-times m n t ts us named perm none ∙ ap (λ s. cond (m == n) (cond (is_due s) 1 0) (times_in_heap m ts)) (sym due) in
    let after : ◌≡◌ {A = ℕ} (cond (is_registered (row_state y.state)) 1 0) 0 = ap (λ s. cond (is_registered s) 1 0) due in
    let was : ◌≡◌ {A = ℕ} (cond (is_registered (row_state x.state)) 1 0) 1 = ap (λ b. cond b 1 0) some in
    kept-set rows spare row_places count places count_after places_after ts us kept n x y row heap has (omega (arith, after, was, more)) wider
  where
    falls : (s : TicketState) → is_registered s ≡ true → made_due s ≡ Due
    falls Registered some = refl
    falls _ some = cc

-- the heap has a ticket less, which was there once
popped-times : (m n : ℕ) (t : Reverse ℕ) (ts us : List (Reverse ℕ)) → t.0 ≡ n → IsPermutation ts (t ∷ us) → times_in_heap n ts ≡ 1 → times_in_heap m us ≡ cond (m == n) 0 (times_in_heap m ts)
popped-times m n t ts us is perm once = by (m == n) refl (sym (times-moved m ts (t ∷ us) perm) ∙ times-more m t us)
  where
    by : (b : Bool) → (m == n) ≡ b → times_in_heap m ts ≡ cond (t.0 == m) 1 0 + times_in_heap m us → times_in_heap m us ≡ cond b 0 (times_in_heap m ts)
    by true here sums =
        let same : m ≡ n = grind (arith, nat_tests, here) in
        let one : ◌≡◌ {A = ℕ} (cond (t.0 == m) 1 0) 1 = rw (is, same) (itself n) in
        let all : times_in_heap m ts ≡ 1 = ap (λ i. times_in_heap i ts) same ∙ once in
        omega (arith, sums, one, all)
    by false here sums = let zero_more : ◌≡◌ {A = ℕ} (cond (t.0 == m) 1 0) 0 = rw is (other m n here) in omega (arith, sums, zero_more)
      where
        other : (m n : ℕ) → (m == n) ≡ false → ◌≡◌ {A = ℕ} (cond (n == m) 1 0) 0
        other m n here = grind (arith, here)

-- a ticket that is due begins, and the heap has it no more
pub kept-taken : (rows : List TicketRow) (spare row_places count places count_after places_after : ℕ) (ts us : List (Reverse ℕ))
    → IsKeptBook rows spare row_places ts count places
    → (n : ℕ) (x y : TicketRow) → IsTicketRow rows n x → is_due (row_state x.state) ≡ true
    → row_registration y ≡ moved made_due_and_begun (row_registration x)
    → (t : Reverse ℕ) → t.0 ≡ n → IsPermutation ts (t ∷ us) → IsHeap (λ a b. nat_cmp b.0 a.0) us → count_after + 1 ≡ count → places_after ≡ places
    → IsKeptBook (set rows (n - 1) y) spare row_places us count_after places_after
kept-taken rows spare row_places count places count_after places_after ts us kept n x y row some is t named perm heap fewer same =
    let begun : row_state y.state ≡ Begun = state-moved made_due_and_begun x y is ∙ begins (row_state x.state) some in
    let once : times_in_heap n ts ≡ 1 = kept.once n ∙ ap (λ b. cond b 1 0) (is_at-row is_due rows n x row ∙ some) in
    let has : (m : ℕ) → times_in_heap m us ≡ cond (m == n) (cond (is_due (row_state y.state)) 1 0) (times_in_heap m ts) =
    λ m. popped-times m n t ts us named perm once ∙ ap (λ s. cond (m == n) (cond (is_due s) 1 0) (times_in_heap m ts)) (sym begun) in
    let after : ◌≡◌ {A = ℕ} (cond (is_registered (row_state y.state)) 1 0) 0 = ap (λ s. cond (is_registered s) 1 0) begun in
    kept-set rows spare row_places count places count_after places_after ts us kept n x y row heap has (omega (arith, after, fewer)) (omega (arith, same))
  where
    begins : (s : TicketState) → is_due s ≡ true → made_due_and_begun s ≡ Begun
    begins Registered some = refl
    begins Due some = refl
    begins _ some = cc

-- A ROW MORE
is_at-more : (test : TicketState → Bool) (rows : List TicketRow) (m : ℕ) (y : TicketRow) → test (row_state y.state) ≡ false → is_at test (book_of (rows ++ y ∷ [])) m ≡ is_at test (book_of rows) m
is_at-more test rows zero y none = refl
is_at-more test rows (suc p) y none = by rows p
  where
    tells : Option Registration → Bool
    tells o = unwrap_or (option_map (λ (r : Registration). test r.state) o) false

    by : (rows : List TicketRow) (p : ℕ) → tells (slice_get (book_of (rows ++ y ∷ [])) p) ≡ tells (slice_get (book_of rows) p)
    by [] zero = none
    by [] (suc p) = refl
    by (row ∷ rows) zero = refl
    by (row ∷ rows) (suc p) = by rows p

-- a ticket is registered, in the room that was spare
pub kept-registered : (rows : List TicketRow) (spare row_places count places : ℕ) (ts : List (Reverse ℕ)) → IsKeptBook rows (spare + 1) row_places ts count places
    → (y : TicketRow) → row_state y.state ≡ Registered → IsKeptBook (rows ++ y ∷ []) spare row_places ts count places
kept-registered rows spare row_places count places ts kept y is =
    let long : length (rows ++ y ∷ []) ≡ length rows + 1 = length-append rows (y ∷ []) in
    let waits : TicketRow → ℕ = λ row. cond (is_registered (row_state row.state)) 1 0 in
    let one : waits y ≡ 1 = ap (λ s. cond (is_registered s) 1 0) is in
    let sums : registered_count (rows ++ y ∷ []) ≡ registered_count rows + sum_by waits (y ∷ []) = sum_by-append waits rows (y ∷ []) in
    let last : sum_by waits (y ∷ []) ≡ waits y + 0 = sum_by-cons waits y [] in
    record {
      order = kept.order;
      once = λ m. kept.once m ∙ ap (λ b. cond b 1 0) (sym (is_at-more is_due rows m y (ap is_due is)));
      fits = omega (arith, long, one, sums, last, kept.fits);
      heap_room = omega (arith, long, kept.heap_room);
      row_room = omega (arith, long, kept.row_room);
    }

-- WHAT IS DUE
-- each ticket in the heap is due, so it was given
pub times-due : (rows : List TicketRow) (spare row_places count places : ℕ) (ts : List (Reverse ℕ)) → IsKeptBook rows spare row_places ts count places
    → (n : ℕ) → 1 ≤ times_in_heap n ts → is_at is_due (book_of rows) n ≡ true
times-due rows spare row_places count places ts kept n some = by (is_at is_due (book_of rows) n) (omega (arith, some, kept.once n))
  where
    by : (b : Bool) → 1 ≤ cond b 1 0 → b ≡ true
    by true h = refl
    by false h = absurd (omega (arith, h))

-- and each that is due is in it
pub due-times : (rows : List TicketRow) (spare row_places count places : ℕ) (ts : List (Reverse ℕ)) → IsKeptBook rows spare row_places ts count places
    → (n : ℕ) → is_at is_due (book_of rows) n ≡ true → 1 ≤ times_in_heap n ts
due-times rows spare row_places count places ts kept n is = let one : times_in_heap n ts ≡ 1 = kept.once n ∙ ap (λ b. cond b 1 0) is in omega (arith, one)

-- the top of the heap, once it is taken, is due
pub popped-due : (rows : List TicketRow) (spare row_places count places : ℕ) (ts us : List (Reverse ℕ)) (t : Reverse ℕ) → IsKeptBook rows spare row_places ts count places
    → IsPermutation ts (t ∷ us) → is_at is_due (book_of rows) t.0 ≡ true
popped-due rows spare row_places count places ts us t kept perm =
    times-due rows spare row_places count places ts kept t.0 (omega (arith, itself t.0, times-moved t.0 ts (t ∷ us) perm, times-more t.0 t us))

-- and is the lowest that is
pub popped-lowest : (rows : List TicketRow) (spare row_places count places : ℕ) (ts us : List (Reverse ℕ)) (t : Reverse ℕ) → IsKeptBook rows spare row_places ts count places
    → IsPermutation ts (t ∷ us) → IsUpperBound (λ (a b : Reverse ℕ). nat_cmp b.0 a.0) t ts → lowest_due (book_of rows) ≡ Some t.0
popped-lowest rows spare row_places count places ts us t kept perm bound =
    let is = popped-due rows spare row_places count places ts us t kept perm in
    let given = is_at-within is_due rows t.0 is in
    lowest-is (book_of rows) t.0 given.0 (omega (arith, given.1, length-map rows row_registration)) is
    (λ m due. bound-times t ts m bound (due-times rows spare row_places count places ts kept m due))

-- where the heap is empty none is due
pub empty-lowest : (rows : List TicketRow) (spare row_places count places : ℕ) (ts : List (Reverse ℕ)) → IsKeptBook rows spare row_places ts count places
    → ts ≡ [] → lowest_due (book_of rows) ≡ None
empty-lowest rows spare row_places count places ts kept empty =
    lowest-none (book_of rows) (λ m. by (is_at is_due (book_of rows) m) (sym (kept.once m) ∙ ap (times_in_heap m) empty))
  where
    by : (b : Bool) → ◌≡◌ {A = ℕ} (cond b 1 0) 0 → b ≡ false
    by true h = absurd (omega (arith, h))
    by false h = refl

pub nil-length : {X : Type 0} (xs : List X) → length xs ≡ 0 → xs ≡ []
nil-length [] h = refl
nil-length (x ∷ xs) h = absurd (omega (arith, h))

-- and where it is not one is
pub filled-lowest : (rows : List TicketRow) (spare row_places count places : ℕ) (ts : List (Reverse ℕ)) → IsKeptBook rows spare row_places ts count places
    → length ts ≡ count → not (count == 0) ≡ is_some (lowest_due (book_of rows))
filled-lowest rows spare row_places count places [] kept long =
    let none : count ≡ 0 = sym long in
    rw (none, empty-lowest rows spare row_places count places [] kept refl) refl
filled-lowest rows spare row_places count places (t ∷ ts) kept long =
    let is = times-due rows spare row_places count places (t ∷ ts) kept t.0 (omega (arith, itself t.0, times-more t.0 t ts)) in
    let given = is_at-within is_due rows t.0 is in
    let filled : (count == 0) ≡ false = apart-above 0 count (omega (arith, long)) in
    ap not filled ∙ sym (lowest-some (book_of rows) t.0 given.0 (omega (arith, given.1, length-map rows row_registration)) is)

-- a place in the heap is free for a ticket that is registered
pub room-free : (rows : List TicketRow) (spare row_places count places : ℕ) (ts : List (Reverse ℕ)) → IsKeptBook rows spare row_places ts count places
    → (n : ℕ) (x : TicketRow) → IsTicketRow rows n x → is_registered (row_state x.state) ≡ true → count < places
room-free rows spare row_places count places ts kept n x row some =
    let waits : TicketRow → ℕ = λ row. cond (is_registered (row_state row.state)) 1 0 in
    let one : waits (get_or rows (n - 1) x) ≡ 1 = ap waits (sym row.here) ∙ ap (λ b. cond b 1 0) some in
    omega (arith, one, get_or-le-sum_by waits rows (n - 1) x (omega (arith, row.above, row.within)), kept.fits, kept.heap_room)

-- a push that has room is not refused
pub never_refused : {V E : Type 0} (r : Result V E) (e : E) → r ≡ Err e → IsOk r → ⊥
never_refused (Ok v) e is ok = let no : ⊥ = cc in absurd no
never_refused (Err f) e is ok = true≢false (sym ok)

-- A TICKET THAT MAY BEGIN
pub other-state : (s : RowState) → ((slip : Slip) → s ≡ state.Registered slip → ⊥) → is_registered (row_state s) ≡ false
other-state (state.Registered slip) other = absurd (other slip refl)
other-state (state.Due slip) other = refl
other-state state.Begun other = refl
other-state state.Ended other = refl
other-state state.Withdrawn other = refl

pub registered-waits : (s : TicketState) → is_registered s ≡ true → (is_registered s || is_due s) ≡ true
registered-waits s is = rw is refl

pub due-waits : (s : TicketState) → is_due s ≡ true → (is_registered s || is_due s) ≡ true
due-waits Registered is = refl
due-waits Due is = refl
due-waits _ is = cc

-- a ticket that is due begins, as one does that falls due and begins
pub moved-begun : (x y : TicketRow) → is_due (row_state x.state) ≡ true → row_registration y ≡ moved made_due_and_begun (row_registration x) → row_registration y ≡ moved made_begun (row_registration x)
moved-begun x y some is = is ∙ ap (λ s. registration_in s x.duty) (same (row_state x.state) some)
  where
    same : (s : TicketState) → is_due s ≡ true → made_due_and_begun s ≡ made_begun s
    same Registered some = cc
    same _ some = refl
