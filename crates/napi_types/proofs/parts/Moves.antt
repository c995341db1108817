-- The moves of a ticket, as one list, and what they keep.
use Rattle.std.proofs.Common.{◌≡◌, ◌≢◌, ℕ, suc, Bool, true, false, cond, List, ◌∷◌, [], refl, ◌∙◌, sym, ap}
use Rattle.std.specs.List.{All}
use Rattle.std.proofs.lemmas.Bool.{true_from_ne_false}
use Rattle.napi_types.specs.plain.Lists.{has_number}
use Rattle.napi_types.specs.parts.Book.{Registration, TicketState, Registered, Due, Begun, Ended, Withdrawn, Book, is_registered, is_due, is_begun, is_owed, made_due, made_withdrawn, made_begun, made_ended, changed_from, changed_where, moved}
use Rattle.napi_types.specs.parts.Promises.{made_settled, reactions_settled}
use Rattle.napi_types.proofs.parts.Books.{All-changed_where, changed_where-same}

-- a ticket falls due, is withdrawn, begins or ends; or it is that of a reaction whose promise is settled, and falls due with the new state
pub data Move : Type 0 where
  Falls : Move
  Settles : ℕ → Move
  Withdraws : Move
  Begins : Move
  Ends : Move

abbrev pub next : Move → TicketState → TicketState
next Falls s = made_due s
next (Settles state) s = made_due s
next Withdraws s = made_withdrawn s
next Begins s = made_begun s
next Ends s = made_ended s

-- the hint of its frame then
abbrev pub hint_by : Move → Registration → ℕ
hint_by (Settles state) r = cond (is_registered r.state) state r.hint
hint_by _ r = r.hint

-- the registration after a move
abbrev pub registration_after : Move → Registration → Registration
registration_after move r = record r { hint = hint_by move r; state = next move r.state }

-- a fact of registrations that every move keeps
abbrev pub KeptByMoves : (Registration → Type 0) → Type 0
KeptByMoves P = (move : Move) (r : Registration) → P r → P (registration_after move r)

-- a statement on books that every move of tickets keeps
abbrev pub MovesKeep : (Book → Type 0) → Type 0
MovesKeep Q = (move : Move) (test : ℕ → Bool) (book : Book) → Q book → Q (changed_where (registration_after move) test book)

-- as is what holds of every registration
pub each-kept : (P : Registration → Type 0) → KeptByMoves P → MovesKeep (λ book. All P book)
each-kept P moves move test book all = All-changed_where P (registration_after move) (moves move) test book all

-- two changes of registrations, one after the other, are one
changed_from-both : (first second : Registration → Registration) (test : ℕ → Bool) (k : ℕ) (rs : Book)
    → changed_from k second test (changed_from k first test rs) ≡ changed_from k (λ r. second (first r)) test rs
changed_from-both first second test k [] = refl
changed_from-both first second test k (r ∷ rs) =
    ap (λ q. q ∷ changed_from (suc k) second test (changed_from (suc k) first test rs)) (by (test k))
    ∙ ap (λ qs. cond (test k) (second (first r)) r ∷ qs) (changed_from-both first second test (suc k) rs)
  where
    by : (b : Bool) → cond b (second (cond b (first r) r)) (cond b (first r) r) ≡ cond b (second (first r)) r
    by true = refl
    by false = refl

pub changed_where-both : (first second : Registration → Registration) (test : ℕ → Bool) (book : Book)
    → changed_where second test (changed_where first test book) ≡ changed_where (λ r. second (first r)) test book
changed_where-both first second test book = changed_from-both first second test 1 book

-- reactions whose promise is settled make this move
settled-move : (state : ℕ) (r : Registration) → made_settled state r ≡ registration_after (Settles state) r
settled-move state r = by r.state refl
  where
    by : (s : TicketState) → r.state ≡ s → cond (is_registered r.state) (moved made_due (record r { hint = state })) r
        ≡ record r { hint = cond (is_registered r.state) state r.hint; state = made_due r.state }
    by Registered is = rw is refl
    by Due is = rw (ap is_registered is) (ap (λ s. record r { state = s }) (is ∙ sym (ap made_due is)))
    by Begun is = rw (ap is_registered is) (ap (λ s. record r { state = s }) (is ∙ sym (ap made_due is)))
    by Ended is = rw (ap is_registered is) (ap (λ s. record r { state = s }) (is ∙ sym (ap made_due is)))
    by Withdrawn is = rw (ap is_registered is) (ap (λ s. record r { state = s }) (is ∙ sym (ap made_due is)))

pub settled-moves : (state : ℕ) (tickets : List ℕ) (book : Book)
    → reactions_settled state tickets book ≡ changed_where (registration_after (Settles state)) (λ n. has_number n tickets) book
settled-moves state tickets book = changed_where-same (made_settled state) (registration_after (Settles state)) (settled-move state) (λ n. has_number n tickets) book

-- WHAT EVERY MOVE KEEPS
-- none is registered that was not
pub unregistered-moved : (move : Move) (s : TicketState) → is_registered s ≡ false → is_registered (next move s) ≡ false
unregistered-moved move Registered none = cc
unregistered-moved Falls _ none = refl
unregistered-moved (Settles state) _ none = refl
unregistered-moved Withdraws _ none = refl
unregistered-moved Begins _ none = refl
unregistered-moved Ends _ none = refl

pub registered-before : (move : Move) (s : TicketState) → is_registered (next move s) ≡ true → is_registered s ≡ true
registered-before move s now = true_from_ne_false (is_registered s) (λ none. let no : true ≡ false = sym now ∙ unregistered-moved move s none in cc)

-- nor registered or due
pub unowed-moved : (move : Move) (s : TicketState) → is_owed s ≡ false → is_owed (next move s) ≡ false
unowed-moved move Registered none = cc
unowed-moved move Due none = cc
unowed-moved Falls _ none = refl
unowed-moved (Settles state) _ none = refl
unowed-moved Withdraws _ none = refl
unowed-moved Begins _ none = refl
unowed-moved Ends _ none = refl

-- a ticket that has begun is one that has until it ends
pub begun-moved : (move : Move) → move ≢ Ends → (s : TicketState) → is_begun s ≡ true → is_begun (next move s) ≡ true
begun-moved Ends goes s is = absurd (goes refl)
begun-moved Falls goes Begun is = refl
begun-moved (Settles state) goes Begun is = refl
begun-moved Withdraws goes Begun is = refl
begun-moved Begins goes Begun is = refl
begun-moved move goes s is = cc

-- and where it was not registered, none is due that was not
pub due-moved : (move : Move) (s : TicketState) → is_registered s ≡ false → is_due (next move s) ≡ true → is_due s ≡ true
due-moved move Registered none due = cc
due-moved move Due none due = refl
due-moved Falls _ none due = due
due-moved (Settles state) _ none due = due
due-moved Withdraws _ none due = due
due-moved Begins _ none due = due
due-moved Ends Begun none due = cc
due-moved Ends _ none due = due
