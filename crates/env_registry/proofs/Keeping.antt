-- What holds of every registry stays so.
use Rattle.std.proofs.Common.{◌≡◌, ◌≢◌, ◌∙◌, ℕ, ◌≤◌, ◌==◌, Bool, true, false, not, cond, List, [], ◌∷◌, length, get_or, Option, Some, None, option_map, IfSome, refl, ap, sym, subst, arith}
use Rattle.std.specs.List.{All}
use Rattle.std.proofs.lemmas.Bool.{or_from}
use Rattle.std.proofs.lemmas.Option.{same_Some}
use Rattle.std.proofs.lemmas.List.Elements.{All-head, All-tail, All-nil, All-filter, All-push}
use Rattle.napi_types.specs.declared.duties.DueInfo.{DueInfo}
use Rattle.napi_types.specs.declared.entry.Cause.TheVariants as cause
use Rattle.napi_types.specs.declared.entry.Duty.{Duty}
use Rattle.napi_types.specs.declared.entry.Duty.TheVariants as duty
use Rattle.napi_types.specs.plain.Lists.{has, has_number}
use Rattle.napi_types.specs.parts.Attachments.{Wrapped, Tagged, Attached, Attachments, no_attachments, with_wrap, without_wrap, with_tag, attached_where, left_on, tickets_where}
use Rattle.napi_types.specs.parts.Book.{Book, Registration, TicketState, is_registered, is_at, made_due, made_withdrawn, made_begun, made_ended, changed_where, moved, with_hint, new_ticket, registration_at, due_info, with_registration}
use Rattle.napi_types.specs.parts.Hooks.{Hook}
use Rattle.napi_types.specs.parts.Promises.{made_settled, reactions_settled}
use Rattle.napi_types.specs.environment.Ends.{duty_ended}
use Rattle.napi_types.specs.environment.ExternalCalls.{attached_if}
use Rattle.napi_types.proofs.plain.Found.{apart-below, as_map-with_record, as_map-kept}
use Rattle.napi_types.proofs.plain.Maps.{All-with_record}
use Rattle.napi_types.proofs.parts.AttachedTickets.{HoldsAttached, All-tickets_in, HoldsAttached-where}
use Rattle.napi_types.proofs.parts.Books.{length-changed_where, All-changed_where}
use Rattle.napi_types.proofs.parts.Moved.{IsUnder, PassesTest, under-ticket}
use Rattle.napi_types.proofs.environment.Registrations.{registered-holds}
use Rattle.finalizer_queue.specs.KeptBook.{LowestBegins}
use Rattle.wrap_tag.specs.Wraps.{AreGiven}
use Rattle.env_registry.specs.KeptRegistry.{IsGiven, IsKeptRegistry}
use Rattle.env_registry.specs.Registering.{finalizer_registration, ticket_for, with_registration_if, withdrawn_if}
use Rattle.env_registry.specs.declared.finalizer.Finalizer.{Finalizer}
use Rattle.env_registry.proofs.Withdrawn.{longer, given-new}

pub kept-new : IsKeptRegistry no_attachments []
kept-new = record {
  once = record { wraps = refl; tags = refl };
  given_with_wraps = All-nil (λ (w : Wrapped). IfSome w.ticket (IsGiven []));
  given = All-nil (λ (t : Attached). IsGiven [] t.ticket);
  uncalled = All-nil (λ (r : Registration). r.cause ≢ cause.Call);
}

-- THE BOOK CHANGES
given-longer : (book more : Book) → length book ≤ length more → (o : Option ℕ) → IfSome o (IsGiven book) → IfSome o (IsGiven more)
given-longer book more h None g = tt
given-longer book more h (Some n) g = (g.0, omega (arith, h, g.1))

kept-longer : (a : Attachments) (book more : Book) → length book ≤ length more → All (λ r. r.cause ≢ cause.Call) more → IsKeptRegistry a book → IsKeptRegistry a more
kept-longer a book more h uncalled k = record {
  once = k.once;
  given_with_wraps = λ i w inside. given-longer book more h (get_or a.wraps i w).ticket (k.given_with_wraps i w inside);
  given = λ i t inside. given-longer book more h (Some (get_or a.tickets i t).ticket) (k.given i t inside);
  uncalled = uncalled;
}

-- one registration more
pub kept-registered : (a : Attachments) (book : Book) (r : Registration) → r.cause ≢ cause.Call → IsKeptRegistry a book → IsKeptRegistry a (with_registration r book)
kept-registered a book r uncalled k =
    kept-longer a book (with_registration r book) (longer r book) (All-push (λ (q : Registration). q.cause ≢ cause.Call) book r k.uncalled uncalled) k

pub kept-asked : (a : Attachments) (book : Book) (f : Option Finalizer) → IsKeptRegistry a book → IsKeptRegistry a (with_registration_if (option_map finalizer_registration f) book)
kept-asked a book None k = k
kept-asked a book (Some f) k = kept-registered a book (finalizer_registration f) (λ h. cc) k

-- tickets move
pub kept-moved : (a : Attachments) (book : Book) (move : TicketState → TicketState) (test : ℕ → Bool) → IsKeptRegistry a book → IsKeptRegistry a (changed_where (moved move) test book)
kept-moved a book move test k =
    kept-longer a book (changed_where (moved move) test book) (omega (arith, length-changed_where (moved move) test book))
    (All-changed_where (λ (r : Registration). r.cause ≢ cause.Call) (moved move) (λ r uncalled. uncalled) test book k.uncalled) k

pub kept-dropped : (a : Attachments) (book : Book) (t : Option ℕ) → IsKeptRegistry a book → IsKeptRegistry a (withdrawn_if t book)
kept-dropped a book None k = k
kept-dropped a book (Some n) k = kept-moved a book made_withdrawn (λ m. m == n) k

pub kept-ended : (a : Attachments) (book : Book) (d : Duty) → IsKeptRegistry a book → IsKeptRegistry a (duty_ended (Some d) book)
kept-ended a book (duty.Ticket t) k = kept-moved a book made_ended (λ m. m == t.0) k
kept-ended a book (duty.Work n) k = k
kept-ended a book (duty.Item f n) k = k
kept-ended a book (duty.Function f) k = k

-- reactions are settled
settled-uncalled : (state : ℕ) (r : Registration) → r.cause ≢ cause.Call → (made_settled state r).cause ≢ cause.Call
settled-uncalled state r uncalled = by (is_registered r.state)
  where
    by : (b : Bool) → (cond b (moved made_due (with_hint state r)) r).cause ≢ cause.Call
    by true = uncalled
    by false = uncalled

pub kept-settled : (a : Attachments) (book : Book) (state : ℕ) (tickets : List ℕ) → IsKeptRegistry a book → IsKeptRegistry a (reactions_settled state tickets book)
kept-settled a book state tickets k =
    kept-longer a book (reactions_settled state tickets book) (omega (arith, length-changed_where (made_settled state) (λ n. has_number n tickets) book))
    (All-changed_where (λ (r : Registration). r.cause ≢ cause.Call) (made_settled state) (settled-uncalled state) (λ n. has_number n tickets) book k.uncalled) k

-- WHAT IS ATTACHED CHANGES
-- a wrap with its finalizer, where it has one
given-if : (book : Book) (f : Option Registration) → IfSome (ticket_for book f) (IsGiven (with_registration_if f book))
given-if book None = tt
given-if book (Some r) = given-new r book

pub kept-wrapped : (a : Attachments) (book : Book) (v payload : ℕ) (f : Option Finalizer) → let asked = option_map finalizer_registration f in
    IsKeptRegistry a book → IsKeptRegistry (with_wrap v payload (ticket_for book asked) a) (with_registration_if asked book)
kept-wrapped a book v payload f k =
    let asked : Option Registration = option_map finalizer_registration f in
    let new : Book = with_registration_if asked book in
    let more : IsKeptRegistry a new = kept-asked a book f k in
    let wrap : Wrapped = record { value = v; payload = payload; ticket = ticket_for book asked } in
    record {
      once = record { wraps = as_map-with_record (λ (w : Wrapped). w.value) wrap a.wraps k.once.wraps; tags = k.once.tags };
      given_with_wraps = All-with_record (λ (w : Wrapped). w.value) wrap (λ w. IfSome w.ticket (IsGiven new)) a.wraps (given-if book asked) more.given_with_wraps;
      given = more.given;
      uncalled = more.uncalled;
    }

pub kept-without_wrap : (a : Attachments) (book : Book) (v : ℕ) → IsKeptRegistry a book → IsKeptRegistry (without_wrap v a) book
kept-without_wrap a book v k = record {
  once = record { wraps = as_map-kept (λ (w : Wrapped). w.value) (λ w. not (w.value == v)) a.wraps k.once.wraps; tags = k.once.tags };
  given_with_wraps = All-filter (λ (w : Wrapped). not (w.value == v)) (λ w. IfSome w.ticket (IsGiven book)) a.wraps k.given_with_wraps;
  given = k.given;
  uncalled = k.uncalled;
}

pub kept-tagged : (a : Attachments) (book : Book) (v lower upper : ℕ) → IsKeptRegistry a book → IsKeptRegistry (with_tag v lower upper a) book
kept-tagged a book v lower upper k =
    let tag : Tagged = record { value = v; lower = lower; upper = upper } in
    record {
      once = record { wraps = k.once.wraps; tags = as_map-with_record (λ (t : Tagged). t.value) tag a.tags k.once.tags };
      given_with_wraps = k.given_with_wraps;
      given = k.given;
      uncalled = k.uncalled;
    }

-- a finalizer beside the wrap
pub kept-attached : (a : Attachments) (book : Book) (v : ℕ) (f : Option Finalizer) → let asked = option_map finalizer_registration f in
    IsKeptRegistry a book → IsKeptRegistry (attached_if v (ticket_for book asked) a) (with_registration_if asked book)
kept-attached a book v None k = k
kept-attached a book v (Some f) k =
    let new : Book = with_registration (finalizer_registration f) book in
    let more : IsKeptRegistry a new = kept-asked a book (Some f) k in
    let x : Attached = record { value = v; ticket = new_ticket book } in
    record {
      once = record { wraps = more.once.wraps; tags = more.once.tags };
      given_with_wraps = more.given_with_wraps;
      given = All-with_record (λ (t : Attached). t.ticket) x (λ t. IsGiven new t.ticket) a.tickets (given-new (finalizer_registration f) book) more.given;
      uncalled = more.uncalled;
    }

-- before, its ticket is attached to no value
ticket-free : (book : Book) (xs : List Attached) → All (λ t. IsGiven book t.ticket) xs → has (λ t. t.ticket) (new_ticket book) xs ≡ false
ticket-free book [] all = refl
ticket-free book (t ∷ ts) all =
    let P : Attached → Type 0 = λ x. IsGiven book x.ticket in
    or_from (t.ticket == new_ticket book) (has (λ x. x.ticket) (new_ticket book) ts)
    (apart-below t.ticket (new_ticket book) (omega (arith, (All-head P t ts all).1))) (ticket-free book ts (All-tail P t ts all))

pub next-free : (a : Attachments) (book : Book) (f : Option Registration) (n : ℕ) → IsKeptRegistry a book → Some n ≡ ticket_for book f → has (λ x. x.ticket) n a.tickets ≡ false
next-free a book None n k is = let no : ⊥ = cc in absurd no
next-free a book (Some r) n k is =
    let same : n ≡ new_ticket book = cc in
    ap (λ m. has (λ (x : Attached). x.ticket) m a.tickets) same ∙ ticket-free book a.tickets k.given

-- VALUES ARE FREED
-- the book gave each of their tickets
pub given-freed : (a : Attachments) (book : Book) (freed : ℕ → Bool) → IsKeptRegistry a book → AreGiven (tickets_where freed a) book
given-freed a book freed k =
    let all : HoldsAttached (IsGiven book) a = record { wraps = k.given_with_wraps; tickets = k.given } in
    All-tickets_in (IsGiven book) (attached_where freed a) (HoldsAttached-where (IsGiven book) freed a all)

pub kept-left : (a : Attachments) (book : Book) (freed : ℕ → Bool) → IsKeptRegistry a book → IsKeptRegistry (left_on freed a) book
kept-left a book freed k = record {
  once = record {
    wraps = as_map-kept (λ (w : Wrapped). w.value) (λ w. not (freed w.value)) a.wraps k.once.wraps;
    tags = as_map-kept (λ (t : Tagged). t.value) (λ t. not (freed t.value)) a.tags k.once.tags;
  };
  given_with_wraps = All-filter (λ (w : Wrapped). not (freed w.value)) (λ w. IfSome w.ticket (IsGiven book)) a.wraps k.given_with_wraps;
  given = All-filter (λ (t : Attached). not (freed t.value)) (λ t. IsGiven book t.ticket) a.tickets k.given;
  uncalled = k.uncalled;
}

-- TICKETS BEGIN
-- no call began the frame of what is registered
pub told-uncalled : (a : Attachments) (book : Book) (n : ℕ) (r : Registration) (due : DueInfo) → IsKeptRegistry a book → registration_at book n ≡ Some r → due ≡ due_info n r → due.cause ≢ cause.Call
told-uncalled a book n r due k there told called =
    registered-holds (λ (q : Registration). q.cause ≢ cause.Call) n book r there k.uncalled (sym (ap (λ (d : DueInfo). d.cause) told) ∙ called)

-- the lowest that is due
pub due-uncalled : (a : Attachments) (old new : Book) (o : Option DueInfo) → IfSome o (λ due. LowestBegins old due new) → IsKeptRegistry a old → IfSome o (λ due. due.cause ≢ cause.Call)
due-uncalled a old new None begins k = tt
due-uncalled a old new (Some due) begins k = told-uncalled a old begins.ticket begins.registration due k begins.registered begins.told

pub kept-begun : (a : Attachments) (old new : Book) (o : Option DueInfo) → (o ≡ None → new ≡ old) → IfSome o (λ due. LowestBegins old due new) → IsKeptRegistry a old → IsKeptRegistry a new
kept-begun a old new None stays begins k = subst (IsKeptRegistry a) (sym (stays refl)) k
kept-begun a old new (Some due) stays begins k = subst (IsKeptRegistry a) (sym begins.begun) (kept-moved a old made_begun (λ m. m == begins.ticket) k)

-- a hook
pub if-told-uncalled : (a : Attachments) (book : Book) (n : ℕ) (due : DueInfo) → IsKeptRegistry a book → is_at is_registered book n ≡ true → IfSome (registration_at book n) (λ r. due ≡ due_info n r)
    → due.cause ≢ cause.Call
if-told-uncalled a book n due k registered tells =
    let u : IsUnder (PassesTest is_registered) book n = under-ticket is_registered book n registered in
    told-uncalled a book n u.registration due k u.there (subst (λ (o : Option Registration). IfSome o (λ r. due ≡ due_info n r)) u.there tells)

pub last-waits : (book : Book) (o : Option Hook) (n : ℕ) → Some n ≡ option_map (λ h. h.ticket) o → IfSome o (λ h. is_at is_registered book h.ticket ≡ true) → is_at is_registered book n ≡ true
last-waits book None n is waits = let no : ⊥ = cc in absurd no
last-waits book (Some h) n is waits = ap (is_at is_registered book) (same_Some n h.ticket is) ∙ waits
