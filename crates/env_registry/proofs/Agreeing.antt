-- The tickets of external buffers are among those that are attached to their values, and stay so.
use Rattle.std.proofs.Common.{◌≡◌, ◌∙◌, ◌≤◌, ℕ, ◌==◌, ◌&&◌, ◌||◌, Bool, true, false, not, cond, List, [], ◌∷◌, ◌++◌, map, filter, filter_map, length, Option, Some, None, IfSome, option_map, refl, ap, sym, subst, arith}
use Rattle.std.specs.List.{All, list_any}
use Rattle.std.specs.Option.{option_and_then}
use Rattle.std.proofs.lemmas.Bool.{or_left, or_right}
use Rattle.std.proofs.lemmas.List.Elements.{All-nil, All-head, All-tail, All-cons, All-map, All-weaker}
use Rattle.napi_types.specs.declared.view.ViewInfo.{ViewInfo}
use Rattle.napi_types.specs.plain.Lists.{found, has, has_number}
use Rattle.napi_types.specs.parts.Attachments.{Attached, Attachments, no_attachments, with_attached, left_on, is_attached_to}
use Rattle.napi_types.specs.parts.Book.{Book, made_due, moved, due_where}
use Rattle.napi_types.specs.parts.Buffers.{ArrayBuffer, Buffers, no_buffers, view_at, buffer_ticket, with_element_in, with_buffer, buffer_changed_at, with_detached, with_element_written, buffers_left}
use Rattle.napi_types.proofs.plain.Found.{same-self, same-tells, found-All, found-number}
use Rattle.napi_types.proofs.plain.Maps.{All-with_record, list_any-with_record, has-right}
use Rattle.napi_types.proofs.parts.Books.{length-changed_where}
use Rattle.wrap_tag.proofs.Dues.{due_where-due_where, due_where-same}
use Rattle.env_registry.specs.KeptRegistry.{IsGiven, IsKeptRegistry, has_ticket_on, AgreeOnTickets, IsDueAlready}

-- a buffer agrees with what is attached
abbrev Agrees : Attachments → ArrayBuffer → Type 0
Agrees a r = IfSome r.ticket (λ t. has_ticket_on a r.value t ≡ true)

pub agree-new : AgreeOnTickets no_attachments no_buffers
agree-new = All-nil (Agrees no_attachments)

-- WHAT IS ATTACHED GROWS
-- a finalizer with this ticket, which no other has
module _ (a : Attachments) (v t : ℕ) (absent : has (λ x. x.ticket) t a.tickets ≡ false) where
  on-either : (n m : ℕ) → has_ticket_on (with_attached v t a) n m ≡ (((v == n) && (t == m)) || has_ticket_on a n m)
  on-either n m = list_any-with_record (λ (x : Attached). x.ticket) (record { value = v; ticket = t }) (λ (x : Attached). (x.value == n) && (x.ticket == m)) a.tickets absent

  still-agrees : (r : ArrayBuffer) → Agrees a r → Agrees (with_attached v t a) r
  still-agrees r = by r.ticket
    where
      by : (o : Option ℕ) → IfSome o (λ m. has_ticket_on a r.value m ≡ true) → IfSome o (λ m. has_ticket_on (with_attached v t a) r.value m ≡ true)
      by None is = tt
      by (Some m) is = on-either r.value m ∙ or_right ((v == r.value) && (t == m)) (has_ticket_on a r.value m) is

  pub agree-attached : (b : Buffers) → AgreeOnTickets a b → AgreeOnTickets (with_attached v t a) b
  agree-attached b all = All-weaker (Agrees a) (Agrees (with_attached v t a)) still-agrees b.buffers all

  -- that of a new buffer
  own : has_ticket_on (with_attached v t a) v t ≡ true
  own = on-either v t ∙ or_left ((v == v) && (t == t)) (has_ticket_on a v t) (ap (λ c. c && (t == t)) (same-self v) ∙ same-self t)

  pub agree-external : (size : ℕ) (b : Buffers) → AgreeOnTickets a b → AgreeOnTickets (with_attached v t a) (with_buffer v size (Some t) b)
  agree-external size b all =
      All-with_record (λ (r : ArrayBuffer). r.value) _ (Agrees (with_attached v t a)) b.buffers own (agree-attached b all)

-- BUFFERS CHANGE
pub agree-plain : (a : Attachments) (v size : ℕ) (b : Buffers) → AgreeOnTickets a b → AgreeOnTickets a (with_buffer v size None b)
agree-plain a v size b all = All-with_record (λ (r : ArrayBuffer). r.value) _ (Agrees a) b.buffers tt all

pub agree-changed : (a : Attachments) (change : Option (List ℕ) → Option (List ℕ)) (v : ℕ) (b : Buffers) → AgreeOnTickets a b → AgreeOnTickets a (buffer_changed_at change v b)
agree-changed a change v b all =
    All-map (Agrees a) (λ (r : ArrayBuffer). cond (r.value == v) (record r { bytes = change r.bytes }) r) b.buffers
    (All-weaker (Agrees a) (λ (r : ArrayBuffer). Agrees a (cond (r.value == v) (record r { bytes = change r.bytes }) r)) (λ r is. by r (r.value == v) is) b.buffers all)
  where
    by : (r : ArrayBuffer) (c : Bool) → Agrees a r → Agrees a (cond c (record r { bytes = change r.bytes }) r)
    by r true is = is
    by r false is = is

pub agree-written : (a : Attachments) (v at number : ℕ) (b : Buffers) → AgreeOnTickets a b → AgreeOnTickets a (with_element_written v at number b)
agree-written a v at number b all = by (view_at b v) refl
  where
    by : (o : Option ViewInfo) → view_at b v ≡ o → AgreeOnTickets a (with_element_written v at number b)
    by None is = rw is all
    by (Some about) is = rw is (agree-changed a (λ bytes. option_map (with_element_in about at number) bytes) about.buffer.0 b all)

-- VALUES ARE FREED
module _ (freed : ℕ → Bool) (a : Attachments) where
  -- a ticket on a value that stays is left, and one on a value that is freed falls due
  on-kept : (v t : ℕ) → freed v ≡ false → (xs : List Attached) → list_any (λ x. (x.value == v) && (x.ticket == t)) xs ≡ true
      → list_any (λ x. (x.value == v) && (x.ticket == t)) (filter (λ x. not (freed x.value)) xs) ≡ true
  on-kept v t stays [] is = is
  on-kept v t stays (x ∷ xs) is = by (freed x.value) (x.value == v) refl refl is (on-kept v t stays xs)
    where
      rest : List Attached
      rest = filter (λ y. not (freed y.value)) xs

      by : (b c : Bool) → freed x.value ≡ b → (x.value == v) ≡ c → ((c && (x.ticket == t)) || list_any (λ y. (y.value == v) && (y.ticket == t)) xs) ≡ true
          → (list_any (λ y. (y.value == v) && (y.ticket == t)) xs ≡ true → list_any (λ y. (y.value == v) && (y.ticket == t)) rest ≡ true)
          → list_any (λ y. (y.value == v) && (y.ticket == t)) (cond (not b) (x ∷ rest) rest) ≡ true
      by true true goes own is later = let no : true ≡ false = sym goes ∙ ap freed (same-tells x.value v own) ∙ stays in cc
      by true false goes other is later = later is
      by false c goes own is later = first c own is
        where
          first : (d : Bool) → (x.value == v) ≡ d → ((d && (x.ticket == t)) || list_any (λ y. (y.value == v) && (y.ticket == t)) xs) ≡ true
              → (((x.value == v) && (x.ticket == t)) || list_any (λ y. (y.value == v) && (y.ticket == t)) rest) ≡ true
          first false at here = ap (λ e. (e && (x.ticket == t)) || list_any (λ y. (y.value == v) && (y.ticket == t)) rest) at ∙ later here
          first true at here = ap (λ e. (e && (x.ticket == t)) || list_any (λ y. (y.value == v) && (y.ticket == t)) rest) at ∙ second (x.ticket == t) here
            where
              second : (e : Bool) → (e || list_any (λ y. (y.value == v) && (y.ticket == t)) xs) ≡ true → (e || list_any (λ y. (y.value == v) && (y.ticket == t)) rest) ≡ true
              second true some = refl
              second false some = later some

  agrees-left : (r : ArrayBuffer) → freed r.value ≡ false → Agrees a r → Agrees (left_on freed a) r
  agrees-left r stays = by r.ticket
    where
      by : (o : Option ℕ) → IfSome o (λ t. has_ticket_on a r.value t ≡ true) → IfSome o (λ t. has_ticket_on (left_on freed a) r.value t ≡ true)
      by None is = tt
      by (Some t) is = on-kept r.value t stays a.tickets is

  rows-left : (rs : List ArrayBuffer) → All (Agrees a) rs → All (Agrees (left_on freed a)) (filter (λ r. not (freed r.value)) rs)
  rows-left [] all = All-nil (Agrees (left_on freed a))
  rows-left (r ∷ rs) all = by (freed r.value) refl (rows-left rs (All-tail (Agrees a) r rs all))
    where
      rest : List ArrayBuffer
      rest = filter (λ q. not (freed q.value)) rs

      by : (b : Bool) → freed r.value ≡ b → All (Agrees (left_on freed a)) rest → All (Agrees (left_on freed a)) (cond (not b) (r ∷ rest) rest)
      by true is later = later
      by false is later = All-cons (Agrees (left_on freed a)) r rest (agrees-left r is (All-head (Agrees a) r rs all)) later

  pub agree-left : (b : Buffers) → AgreeOnTickets a b → AgreeOnTickets (left_on freed a) (buffers_left freed b)
  agree-left b all = rows-left b.buffers all

  on-freed : (v t : ℕ) → freed v ≡ true → (xs : List Attached) → list_any (λ x. (x.value == v) && (x.ticket == t)) xs ≡ true
      → has_number t (map (λ x. x.ticket) (filter (λ x. freed x.value) xs)) ≡ true
  on-freed v t goes [] is = let no : ⊥ = cc in absurd no
  on-freed v t goes (x ∷ xs) is = by (freed x.value) (x.value == v) (x.ticket == t) refl refl refl is (on-freed v t goes xs)
    where
      rest : List Attached
      rest = filter (λ y. freed y.value) xs

      by : (b c d : Bool) → freed x.value ≡ b → (x.value == v) ≡ c → (x.ticket == t) ≡ d → ((c && d) || list_any (λ y. (y.value == v) && (y.ticket == t)) xs) ≡ true
          → (list_any (λ y. (y.value == v) && (y.ticket == t)) xs ≡ true → has_number t (map (λ y. y.ticket) rest) ≡ true)
          → has_number t (map (λ y. y.ticket) (cond b (x ∷ rest) rest)) ≡ true
      by true true true here own at is later = or_left (x.ticket == t) (has_number t (map (λ (y : Attached). y.ticket) rest)) at
      by true true false here own at is later = or_right (x.ticket == t) (has_number t (map (λ (y : Attached). y.ticket) rest)) (later is)
      by true false d here own at is later = or_right (x.ticket == t) (has_number t (map (λ (y : Attached). y.ticket) rest)) (later is)
      by false true d here own at is later = let no : true ≡ false = sym goes ∙ ap freed (sym (same-tells x.value v own)) ∙ here in cc
      by false false d here own at is later = later is

  falls-due : (v t : ℕ) → freed v ≡ true → has_ticket_on a v t ≡ true → is_attached_to freed a t ≡ true
  falls-due v t goes on =
      has-right t (filter_map (λ w. w.ticket) (filter (λ w. freed w.value) a.wraps)) (map (λ (x : Attached). x.ticket) (filter (λ x. freed x.value) a.tickets))
      (on-freed v t goes a.tickets on)

-- the ticket of a buffer is on its value
buffer-on : (a : Attachments) (b : Buffers) → AgreeOnTickets a b → (v t : ℕ) → buffer_ticket b v ≡ Some t → has_ticket_on a v t ≡ true
buffer-on a b all v t is = by (found (λ (r : ArrayBuffer). r.value) v b.buffers) refl is
  where
    told : (r : ArrayBuffer) (o : Option ℕ) → r.ticket ≡ o → o ≡ Some t → Agrees a r → has_ticket_on a r.value t ≡ true
    told r None at some agrees = let no : ⊥ = cc in absurd no
    told r (Some m) at some agrees =
        let same : m ≡ t = cc in
        subst (λ n. has_ticket_on a r.value n ≡ true) same (subst (λ o. IfSome o (λ n. has_ticket_on a r.value n ≡ true)) at agrees)

    by : (o : Option ArrayBuffer) → found (λ r. r.value) v b.buffers ≡ o → option_and_then (λ r. r.ticket) o ≡ Some t → has_ticket_on a v t ≡ true
    by None at some = let no : ⊥ = cc in absurd no
    by (Some r) at some =
        subst (λ n. has_ticket_on a n t ≡ true) (found-number (λ (q : ArrayBuffer). q.value) v b.buffers r at)
        (told r r.ticket refl some (found-All (λ (q : ArrayBuffer). q.value) (Agrees a) v b.buffers r all at))

-- the book gave it
given-on : (book : Book) (v t : ℕ) (xs : List Attached) → All (λ x. IsGiven book x.ticket) xs → list_any (λ x. (x.value == v) && (x.ticket == t)) xs ≡ true → IsGiven book t
given-on book v t [] all is = let no : ⊥ = cc in absurd no
given-on book v t (x ∷ xs) all is =
    by (x.value == v) (x.ticket == t) refl is (given-on book v t xs (All-tail (λ (y : Attached). IsGiven book y.ticket) x xs all))
  where
    by : (c d : Bool) → (x.ticket == t) ≡ d → ((c && d) || list_any (λ y. (y.value == v) && (y.ticket == t)) xs) ≡ true
        → (list_any (λ y. (y.value == v) && (y.ticket == t)) xs ≡ true → IsGiven book t) → IsGiven book t
    by true true at some later = subst (IsGiven book) (same-tells x.ticket t at) (All-head (λ (y : Attached). IsGiven book y.ticket) x xs all)
    by true false at some later = later some
    by false d at some later = later some

-- as what is attached to values falls due, so do the tickets of their buffers
pub due-already : (a : Attachments) (book new : Book) (b : Buffers) (freed : ℕ → Bool) → IsKeptRegistry a book → AgreeOnTickets a b
    → new ≡ due_where (is_attached_to freed a) book → (v t : ℕ) → freed v ≡ true → buffer_ticket b v ≡ Some t → IsDueAlready new t
due-already a book new b freed kept all is v t goes some = subst (λ x. IsDueAlready x t) (sym is) (record { given = given; same = same })
  where
    test : ℕ → Bool
    test = is_attached_to freed a

    on : has_ticket_on a v t ≡ true
    on = buffer-on a b all v t some

    given : IsGiven (due_where test book) t
    given =
        let g : IsGiven book t = given-on book v t a.tickets kept.given on in
        (g.0, omega (arith, g.1, length-changed_where (moved made_due) test book))

    either : (n : ℕ) → (test n || (n == t)) ≡ test n
    either n = by (test n) (n == t) refl refl
      where
        by : (c d : Bool) → test n ≡ c → (n == t) ≡ d → (c || d) ≡ c
        by true d is at = refl
        by false false is at = refl
        by false true is at = let no : true ≡ false = sym (falls-due freed a v t goes on) ∙ ap test (sym (same-tells n t at)) ∙ is in cc

    same : due_where (λ n. n == t) (due_where test book) ≡ due_where test book
    same = due_where-due_where test (λ n. n == t) book ∙ due_where-same (λ n. test n || (n == t)) test book either
