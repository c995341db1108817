-- How many tickets have their frame still to come, as the book changes.
use Rattle.std.proofs.Common.{◌≡◌, ◌∙◌, ℕ, zero, suc, ◌+◌, ◌<◌, ◌≤◌, ◌==◌, ◌||◌, Bool, true, false, cond, List, [], ◌∷◌, length, filter, slice_get, Option, Some, None, option_map, refl, ap, sym, arith}
use Rattle.std.specs.List.{All, find}
use Rattle.std.specs.Option.{unwrap_or}
use Rattle.std.proofs.lemmas.Bool.{eqb-true, eq-eqb}
use Rattle.std.proofs.lemmas.List.Elements.{All-head, All-tail, All-cons, All-nil}
use Rattle.std.proofs.lemmas.Option.{slice_get-get_or}
use Rattle.napi_types.specs.declared.entry.Phase.{Phase}
use Rattle.napi_types.specs.declared.entry.Phase.TheVariants as phase
use Rattle.napi_types.specs.plain.Lists.{has_number, up_to}
use Rattle.napi_types.specs.plain.Room.{one_if}
use Rattle.napi_types.specs.parts.Promises.{made_settled, reactions_settled}
use Rattle.napi_types.specs.parts.Book.{Book, Registration, TicketState, Registered, Due, is_registered, is_due, is_owed, is_at, made_due, made_withdrawn, made_begun, made_due_and_begun, made_ended, changed_from, changed_where, moved, moved_at, due_where, all_due, registration_at, lowest_due, owed_tickets, with_registration, begun_in, may_begin_in}
use Rattle.napi_types.proofs.plain.Issued.{has-up_to}
use Rattle.napi_types.proofs.plain.Found.{apart-below, apart-above}
use Rattle.napi_types.proofs.plain.Lists.{find-passes, find-first}
use Rattle.napi_types.proofs.parts.Moved.{IsUnder, PassesTest, under-ticket}

-- ONE MORE
pub owed-cons : (r : Registration) (rs : Book) → owed_tickets (r ∷ rs) ≡ one_if (is_owed r.state) + owed_tickets rs
owed-cons r rs = by (is_owed r.state)
  where
    by : (b : Bool) → length (cond b (r ∷ filter (λ (q : Registration). is_owed q.state) rs) (filter (λ (q : Registration). is_owed q.state) rs)) ≡ one_if b + owed_tickets rs
    by true = omega arith
    by false = omega arith

pub owed-more : (r : Registration) (book : Book) → is_owed r.state ≡ true → owed_tickets (with_registration r book) ≡ owed_tickets book + 1
owed-more r [] new = owed-cons r [] ∙ ap (λ b. one_if b + 0) new
owed-more r (q ∷ book) new =
    let later : owed_tickets (with_registration r book) ≡ owed_tickets book + 1 = owed-more r book new in
    let before : owed_tickets (q ∷ with_registration r book) ≡ one_if (is_owed q.state) + owed_tickets (with_registration r book) = owed-cons q (with_registration r book) in
    let now : owed_tickets (q ∷ book) ≡ one_if (is_owed q.state) + owed_tickets book = owed-cons q book in
    omega (arith, later, before, now)

-- CHANGES THAT KEEP IT
-- a change of a registration that keeps whether its frame is to come
abbrev KeepsOwed : (Registration → Registration) → Type 0
KeepsOwed change = (r : Registration) → is_owed (change r).state ≡ is_owed r.state

pub due-keeps : (s : TicketState) → is_owed (made_due s) ≡ is_owed s
due-keeps Registered = refl
due-keeps _ = refl

pub ended-keeps : (s : TicketState) → is_owed (made_ended s) ≡ is_owed s
ended-keeps Registered = refl
ended-keeps _ = refl

changed-state : (change : Registration → Registration) → KeepsOwed change → (b : Bool) (r : Registration)
    → is_owed (cond b (change r) r).state ≡ is_owed r.state
changed-state change keeps true r = keeps r
changed-state change keeps false r = refl

changed_from-keeps : (change : Registration → Registration) → KeepsOwed change → (test : ℕ → Bool) (k : ℕ) (rs : Book)
    → owed_tickets (changed_from k change test rs) ≡ owed_tickets rs
changed_from-keeps change keeps test k [] = refl
changed_from-keeps change keeps test k (r ∷ rs) =
    let first : Registration = cond (test k) (change r) r in
    owed-cons first (changed_from (suc k) change test rs)
    ∙ ap (λ b. one_if b + owed_tickets (changed_from (suc k) change test rs)) (changed-state change keeps (test k) r)
    ∙ ap (λ n. one_if (is_owed r.state) + n) (changed_from-keeps change keeps test (suc k) rs)
    ∙ sym (owed-cons r rs)

pub owed-due_where : (test : ℕ → Bool) (book : Book) → owed_tickets (due_where test book) ≡ owed_tickets book
owed-due_where test book = changed_from-keeps (moved made_due) (λ r. due-keeps r.state) test 1 book

pub settled-keeps : (state : ℕ) (r : Registration) → is_owed (made_settled state r).state ≡ is_owed r.state
settled-keeps state r = by (is_registered r.state) refl
  where
    by : (b : Bool) → is_registered r.state ≡ b → is_owed (cond b (moved made_due (record r { hint = state })) r).state ≡ is_owed r.state
    by true is = due-keeps r.state
    by false is = refl

pub owed-settled : (state : ℕ) (tickets : List ℕ) (book : Book) → owed_tickets (reactions_settled state tickets book) ≡ owed_tickets book
owed-settled state tickets book = changed_from-keeps (made_settled state) (settled-keeps state) (λ n. has_number n tickets) 1 book

pub owed-ended : (n : ℕ) (book : Book) → owed_tickets (moved_at made_ended n book) ≡ owed_tickets book
owed-ended n book = changed_from-keeps (moved made_ended) (λ r. ended-keeps r.state) (λ m. m == n) 1 book

-- MOVES THAT TAKE ONE AWAY
-- where a ticket below them is changed, they stay
pub changed_from-below : (change : Registration → Registration) (k n : ℕ) (rs : Book) → n < k → changed_from k change (λ m. m == n) rs ≡ rs
changed_from-below change k n [] h = refl
changed_from-below change k n (r ∷ rs) h = rw (apart-above n k h) (ap (λ qs. r ∷ qs) (changed_from-below change (suc k) n rs (omega arith)))

-- a state that passes the test is one before whose frame it stands, and the move takes it from there
pub record Leaves (test : TicketState → Bool) (move : TicketState → TicketState) : Type 0 where
  pub before : (s : TicketState) → test s ≡ true → is_owed s ≡ true
  pub after : (s : TicketState) → test s ≡ true → is_owed (move s) ≡ false

changed_from-leaves : (test : TicketState → Bool) (move : TicketState → TicketState) → Leaves test move → (k p n : ℕ) (rs : Book) (r : Registration)
    → n ≡ k + p → slice_get rs p ≡ Some r → test r.state ≡ true → owed_tickets (changed_from k (moved move) (λ m. m == n) rs) + 1 ≡ owed_tickets rs
changed_from-leaves test move leaves k p n [] r at here is = let no : ⊥ = cc in absurd no
changed_from-leaves test move leaves k zero n (q ∷ rs) r at here is =
    let same : q ≡ r = cc in
    let here_is : test q.state ≡ true = ap (λ (x : Registration). test x.state) same ∙ is in
    let stands : owed_tickets (q ∷ rs) ≡ 1 + owed_tickets rs = owed-cons q rs ∙ ap (λ b. one_if b + owed_tickets rs) (leaves.before q.state here_is) in
    let gone : owed_tickets (moved move q ∷ rs) ≡ 0 + owed_tickets rs = owed-cons (moved move q) rs ∙ ap (λ b. one_if b + owed_tickets rs) (leaves.after q.state here_is) in
    rw (eq-eqb k n (omega arith), changed_from-below (moved move) (suc k) n rs (omega arith)) (omega (arith, stands, gone))
changed_from-leaves test move leaves k (suc p) n (q ∷ rs) r at here is =
    let left : Book = changed_from (suc k) (moved move) (λ m. m == n) rs in
    let later : owed_tickets left + 1 ≡ owed_tickets rs = changed_from-leaves test move leaves (suc k) p n rs r (omega arith) here is in
    let now : owed_tickets (q ∷ rs) ≡ one_if (is_owed q.state) + owed_tickets rs = owed-cons q rs in
    let then : owed_tickets (q ∷ left) ≡ one_if (is_owed q.state) + owed_tickets left = owed-cons q left in
    rw (apart-below k n (omega arith)) (omega (arith, later, now, then))

moved_at-leaves : (test : TicketState → Bool) (move : TicketState → TicketState) → Leaves test move → (n : ℕ) (book : Book) (o : Option Registration)
    → registration_at book n ≡ o → unwrap_or (option_map (λ (r : Registration). test r.state) o) false ≡ true → owed_tickets (moved_at move n book) + 1 ≡ owed_tickets book
moved_at-leaves test move leaves n book None there is = let no : ⊥ = cc in absurd no
moved_at-leaves test move leaves zero book (Some r) there is = let no : ⊥ = cc in absurd no
moved_at-leaves test move leaves (suc p) book (Some r) there is = changed_from-leaves test move leaves 1 p (suc p) book r (omega arith) there is

pub withdrawn-leaves : Leaves is_registered made_withdrawn
withdrawn-leaves = record { before = before; after = after }
  where
    before : (s : TicketState) → is_registered s ≡ true → is_owed s ≡ true
    before Registered is = refl
    before Due is = refl
    before _ is = cc

    after : (s : TicketState) → is_registered s ≡ true → is_owed (made_withdrawn s) ≡ false
    after Registered is = refl
    after _ is = cc

begun-leaves : Leaves is_due made_begun
begun-leaves = record { before = before; after = after }
  where
    before : (s : TicketState) → is_due s ≡ true → is_owed s ≡ true
    before Due is = refl
    before _ is = cc

    after : (s : TicketState) → is_due s ≡ true → is_owed (made_begun s) ≡ false
    after Due is = refl
    after _ is = cc

pub hook-leaves : Leaves is_registered made_due_and_begun
hook-leaves = record { before = withdrawn-leaves.before; after = after }
  where
    after : (s : TicketState) → is_registered s ≡ true → is_owed (made_due_and_begun s) ≡ false
    after Registered is = refl
    after _ is = cc

pub leaves-in : (p : Phase) → Leaves (may_begin_in p) (begun_in p)
leaves-in phase.Hooks = hook-leaves
leaves-in _ = begun-leaves

-- a registered ticket that is withdrawn, and a ticket that begins as it may in its phase, is one less
pub owed-withdrawn : (n : ℕ) (book : Book) → is_at is_registered book n ≡ true → owed_tickets (moved_at made_withdrawn n book) + 1 ≡ owed_tickets book
owed-withdrawn n book is = moved_at-leaves is_registered made_withdrawn withdrawn-leaves n book (registration_at book n) refl is

pub owed-begun : (p : Phase) (n : ℕ) (book : Book) (r : Registration) → registration_at book n ≡ Some r → may_begin_in p r.state ≡ true
    → owed_tickets (moved_at (begun_in p) n book) + 1 ≡ owed_tickets book
owed-begun p n book r there is = moved_at-leaves (may_begin_in p) (begun_in p) (leaves-in p) n book (Some r) there is

-- THE LOWEST
-- the lowest due ticket was given, and is due
pub lowest-due : (book : Book) (n : ℕ) → lowest_due book ≡ Some n → IsUnder (PassesTest is_due) book n
lowest-due book n lowest = under-ticket is_due book n (find-passes (is_at is_due book) (up_to (length book)) n lowest)

-- none below it is
pub lowest-below : (book : Book) (n k : ℕ) → lowest_due book ≡ Some n → k < n → is_at is_due book k ≡ false
lowest-below book n zero lowest below = refl
lowest-below book n (suc k) lowest below = find-first (is_at is_due book) 1 (length book) n (suc k) lowest (omega arith) below

-- ALL OF THEM
-- what holds of every registration, and is kept by a change
All-changed_from : (P : Registration → Type 0) (change : Registration → Registration) → ((r : Registration) → P r → P (change r)) → (test : ℕ → Bool) (k : ℕ)
    (rs : Book) → All P rs → All P (changed_from k change test rs)
All-changed_from P change keeps test k [] all = All-nil P
All-changed_from P change keeps test k (r ∷ rs) all =
    All-cons P (cond (test k) (change r) r) (changed_from (suc k) change test rs) (first (test k))
    (All-changed_from P change keeps test (suc k) rs (All-tail P r rs all))
  where
    first : (b : Bool) → P (cond b (change r) r)
    first true = keeps r (All-head P r rs all)
    first false = All-head P r rs all

pub All-changed_where : (P : Registration → Type 0) (change : Registration → Registration) → ((r : Registration) → P r → P (change r)) → (test : ℕ → Bool)
    (book : Book) → All P book → All P (changed_where change test book)
All-changed_where P change keeps test book all = All-changed_from P change keeps test 1 book all

-- NOTHING LEFT TO BEGIN
abbrev pub NoneRegistered : Book → Type 0
NoneRegistered book = All (λ r. is_registered r.state ≡ false) book

-- where all fall due none is registered
pub due-registers-none : (s : TicketState) → is_registered (made_due s) ≡ false
due-registers-none Registered = refl
due-registers-none _ = refl

due_from-none : (k : ℕ) (rs : Book) → NoneRegistered (changed_from k (moved made_due) (λ n. true) rs)
due_from-none k [] = All-nil (λ (r : Registration). is_registered r.state ≡ false)
due_from-none k (r ∷ rs) =
    All-cons (λ (q : Registration). is_registered q.state ≡ false) (moved made_due r) (changed_from (suc k) (moved made_due) (λ n. true) rs) (due-registers-none r.state) (due_from-none (suc k) rs)

pub all_due-none : (book : Book) → NoneRegistered (all_due book)
all_due-none book = due_from-none 1 book

find-none : (test : ℕ → Bool) (xs : List ℕ) (n : ℕ) → find test xs ≡ None → has_number n xs ≡ true → test n ≡ false
find-none test [] n is there = cc
find-none test (x ∷ xs) n is there = by (test x) refl is (find-none test xs n)
  where
    at_x : (b : Bool) → test x ≡ false → (x == n) ≡ b → (b || has_number n xs) ≡ true → (has_number n xs ≡ true → test n ≡ false) → test n ≡ false
    at_x true fails same among later = ap test (sym (eqb-true x n same)) ∙ fails
    at_x false fails apart among later = later among

    by : (b : Bool) → test x ≡ b → cond b (Some x) (find test xs) ≡ None → (find test xs ≡ None → has_number n xs ≡ true → test n ≡ false) → test n ≡ false
    by true here none later = cc
    by false here none later = at_x (x == n) here refl there (later none)

within-up_to : (n m : ℕ) → 1 ≤ m → m ≤ n → has_number m (up_to n) ≡ true
within-up_to zero m above within = absurd (omega (arith, above, within))
within-up_to (suc n) m above within = has-up_to m n ∙ by (suc n == m) refl (within-up_to n m above)
  where
    below : (n m : ℕ) → (suc n == m) ≡ false → m ≤ suc n → m ≤ n
    below n m apart within = grind arith

    by : (b : Bool) → (suc n == m) ≡ b → (m ≤ n → has_number m (up_to n) ≡ true) → (b || has_number m (up_to n)) ≡ true
    by true same later = refl
    by false apart later = later (below n m apart within)

-- where none is due, none is
none-due : (book : Book) → lowest_due book ≡ None → All (λ r. is_due r.state ≡ false) book
none-due book none k d inside =
    let no : is_at is_due book (suc k) ≡ false = find-none (is_at is_due book) (up_to (length book)) (suc k) none (within-up_to (length book) (suc k) (omega arith) (omega (arith, inside))) in
    sym (ap (λ o. unwrap_or (option_map (λ (r : Registration). is_due r.state) o) false) (slice_get-get_or book k d inside)) ∙ no

none-waits : (book : Book) → NoneRegistered book → All (λ r. is_due r.state ≡ false) book → owed_tickets book ≡ 0
none-waits [] registered due = refl
none-waits (r ∷ book) registered due =
    let P : Registration → Type 0 = λ q. is_registered q.state ≡ false in
    let Q : Registration → Type 0 = λ q. is_due q.state ≡ false in
    let first : is_owed r.state ≡ false = rw (All-head P r book registered, All-head Q r book due) refl in
    let later : owed_tickets book ≡ 0 = none-waits book (All-tail P r book registered) (All-tail Q r book due) in
    let now : owed_tickets (r ∷ book) ≡ 0 + owed_tickets book = owed-cons r book ∙ ap (λ b. one_if b + owed_tickets book) first in
    omega (arith, later, now)

-- no ticket has its frame still to come where none is registered and none is due
pub none-owed_tickets : (book : Book) → NoneRegistered book → lowest_due book ≡ None → owed_tickets book ≡ 0
none-owed_tickets book registered none = none-waits book registered (none-due book none)

-- no change gives or takes a ticket
length-changed_from : (change : Registration → Registration) (test : ℕ → Bool) (k : ℕ) (rs : Book) → length (changed_from k change test rs) ≡ length rs
length-changed_from change test k [] = refl
length-changed_from change test k (r ∷ rs) = ap suc (length-changed_from change test (suc k) rs)

pub length-changed_where : (change : Registration → Registration) (test : ℕ → Bool) (book : Book) → length (changed_where change test book) ≡ length book
length-changed_where change test book = length-changed_from change test 1 book

-- equal changes change the same
changed_from-same : (f g : Registration → Registration) → ((r : Registration) → f r ≡ g r) → (test : ℕ → Bool) (k : ℕ) (rs : Book)
    → changed_from k f test rs ≡ changed_from k g test rs
changed_from-same f g same test k [] = refl
changed_from-same f g same test k (r ∷ rs) =
    ap (λ q. cond (test k) q r ∷ changed_from (suc k) f test rs) (same r) ∙ ap (λ qs. cond (test k) (g r) r ∷ qs) (changed_from-same f g same test (suc k) rs)

pub changed_where-same : (f g : Registration → Registration) → ((r : Registration) → f r ≡ g r) → (test : ℕ → Bool) (book : Book)
    → changed_where f test book ≡ changed_where g test book
changed_where-same f g same test book = changed_from-same f g same test 1 book
