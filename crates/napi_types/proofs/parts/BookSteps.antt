-- The ways in which a call changes the book.
use Rattle.std.proofs.Common.{◌≡◌, ◌≢◌, ◌≤◌, ℕ, ◌+◌, ◌==◌, Bool, true, List, [], ◌∷◌, length, length-append, Option, Some, None, is_some, refl, ap, arith}
use Rattle.napi_types.specs.declared.entry.Cause.TheVariants as cause
use Rattle.napi_types.specs.declared.entry.Duty.{Duty}
use Rattle.napi_types.specs.plain.Lists.{has_number}
use Rattle.napi_types.specs.plain.Room.{one_if}
use Rattle.napi_types.specs.parts.Book.{Book, Registration, is_registered, is_owed, is_at, made_due, made_withdrawn, moved, moved_at, due_where, owed_tickets, ticket_duty, new_ticket, with_registration}
use Rattle.napi_types.specs.parts.Promises.{made_settled, reactions_settled}
use Rattle.napi_types.proofs.parts.Books.{owed-more, owed-withdrawn, owed-due_where, owed-settled, length-changed_where}

-- from a book, with the duties that a call of this addon makes and withdraws, to a book
pub data BookStep (addon : ℕ) (b : Book) : Option Duty → Option Duty → Book → Type 0 where
  stays : (c : Book) → c ≡ b → BookStep addon b None None c
  adds : (r : Registration) (c : Book) → is_owed r.state ≡ true → r.addon ≡ addon → r.cause ≢ cause.Call → c ≡ with_registration r b → BookStep addon b (Some (ticket_duty (new_ticket b))) None c
  drops : (n : ℕ) (c : Book) → is_at is_registered b n ≡ true → c ≡ moved_at made_withdrawn n b → BookStep addon b None (Some (ticket_duty n)) c
  collects : (test : ℕ → Bool) (c : Book) → c ≡ due_where test b → BookStep addon b None None c
  settles : (state : ℕ) (tickets : List ℕ) (c : Book) → c ≡ reactions_settled state tickets b → BookStep addon b None None c
  swaps : (n : ℕ) (r : Registration) (c : Book) → is_at is_registered b n ≡ true → is_owed r.state ≡ true → r.addon ≡ addon → r.cause ≢ cause.Call
      → c ≡ with_registration r (moved_at made_withdrawn n b) → BookStep addon b (Some (ticket_duty (new_ticket (moved_at made_withdrawn n b)))) (Some (ticket_duty n)) c

-- each that is made waits, and each that is withdrawn does not
pub step-owed : (addon : ℕ) (b : Book) (made dropped : Option Duty) (c : Book) → BookStep addon b made dropped c → owed_tickets c + one_if (is_some dropped) ≡ owed_tickets b + one_if (is_some made)
step-owed addon b _ _ _ (stays c e) = rw e refl
step-owed addon b _ _ _ (adds r c s who why e) = let more : owed_tickets (with_registration r b) ≡ owed_tickets b + 1 = owed-more r b s in rw e (omega (arith, more))
step-owed addon b _ _ _ (drops n c h e) = let less : owed_tickets (moved_at made_withdrawn n b) + 1 ≡ owed_tickets b = owed-withdrawn n b h in rw e (omega (arith, less))
step-owed addon b _ _ _ (collects test c e) = rw e (ap (λ n. n + 0) (owed-due_where test b))
step-owed addon b _ _ _ (settles state tickets c e) = rw e (ap (λ n. n + 0) (owed-settled state tickets b))
step-owed addon b _ _ _ (swaps n r c h s who why e) =
    let left : Book = moved_at made_withdrawn n b in
    let less : owed_tickets left + 1 ≡ owed_tickets b = owed-withdrawn n b h in
    let more : owed_tickets (with_registration r left) ≡ owed_tickets left + 1 = owed-more r left s in
    rw e (omega (arith, less, more))

-- a call registers one at most
pub step-length : (addon : ℕ) (b : Book) (made dropped : Option Duty) (c : Book) → BookStep addon b made dropped c → length c ≤ length b + 1
step-length addon b _ _ _ (stays c e) = omega (arith, ap length e)
step-length addon b _ _ _ (adds r c s who why e) = omega (arith, ap length e, length-append b (r ∷ []))
step-length addon b _ _ _ (drops n c h e) = omega (arith, ap length e, length-changed_where (moved made_withdrawn) (λ m. m == n) b)
step-length addon b _ _ _ (collects test c e) = omega (arith, ap length e, length-changed_where (moved made_due) test b)
step-length addon b _ _ _ (settles state tickets c e) = omega (arith, ap length e, length-changed_where (made_settled state) (λ n. has_number n tickets) b)
step-length addon b _ _ _ (swaps n r c h s who why e) =
    let left : Book = moved_at made_withdrawn n b in
    omega (arith, ap length e, length-append left (r ∷ []), length-changed_where (moved made_withdrawn) (λ m. m == n) b)
