-- The book as a finalizer is registered, or withdrawn.
use Rattle.std.proofs.Common.{◌≡◌, ◌∙◌, ℕ, ◌+◌, ◌==◌, ◌≤◌, [], ◌∷◌, length, Option, Some, None, refl, ap, arith, length-append}
use Rattle.napi_types.specs.parts.Book.{Book, Registration, made_withdrawn, moved, new_ticket, with_registration}
use Rattle.napi_types.specs.environment.Registering.{registered_only}
use Rattle.napi_types.proofs.parts.Books.{length-changed_where}
use Rattle.env_registry.specs.KeptRegistry.{IsGiven}
use Rattle.env_registry.specs.Registering.{ticket_for, withdrawn_if}

pub longer : (r : Registration) (book : Book) → length book ≤ length (with_registration r book)
longer r book = omega (arith, length-append book (r ∷ []))

-- the next ticket is given with its registration
pub given-new : (r : Registration) (book : Book) → IsGiven (with_registration r book) (new_ticket book)
given-new r book = (omega arith, omega (arith, length-append book (r ∷ [])))

pub length-withdrawn : (t : Option ℕ) (book : Book) → length (withdrawn_if t book) ≡ length book
length-withdrawn None book = refl
length-withdrawn (Some n) book = length-changed_where (moved made_withdrawn) (λ m. m == n) book

-- what is withdrawn leaves the next ticket as it is
pub ticket-withdrawn : (t : Option ℕ) (book : Book) (f : Option Registration) → ticket_for (withdrawn_if t book) f ≡ ticket_for book f
ticket-withdrawn t book None = refl
ticket-withdrawn t book (Some r) = ap (λ n. Some (n + 1)) (length-withdrawn t book)

-- the book without a ticket, where there was one, after a reservation that left it as it was
pub gone-is : (old mid new : Book) (ticket : Option ℕ) → mid ≡ old → new ≡ withdrawn_if (registered_only mid ticket) mid → new ≡ withdrawn_if (registered_only old ticket) old
gone-is old mid new ticket same is = is ∙ ap (λ (b : Book). withdrawn_if (registered_only b ticket) b) same

-- and the ticket that the next registration then gets
pub next-is : (old new : Book) (t made : Option ℕ) (f : Option Registration) → new ≡ withdrawn_if t old → made ≡ ticket_for new f → made ≡ ticket_for old f
next-is old new t made f gone is = is ∙ ap (λ (b : Book). ticket_for b f) gone ∙ ticket-withdrawn t old f
