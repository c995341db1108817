-- The tickets of values that are freed.
use Rattle.std.proofs.Common.{◌≡◌, ◌∙◌, ℕ, ◌+◌, ◌<◌, ◌==◌, ◌||◌, ◌&&◌, Bool, true, false, not, cond, List, [], ◌∷◌, ◌++◌, length, get_or, take, drop, add-one, map, filter, Option, Some, None, option_map, is_some, refl, ap, sym, subst, arith}
use Rattle.std.specs.List.{All, filter_map, cons_option, list_any}
use Rattle.std.specs.Option.{option_and_then, option_to_list, unwrap_or}
use Rattle.std.proofs.lemmas.List.Elements.{All-head, All-tail}
use Rattle.std.proofs.lemmas.List.Folds.{list_any-append}
use Rattle.std.proofs.lemmas.List.{map-append, take-append-drop}
use Rattle.std.proofs.Math.Seq.{take-suc}
use Rattle.std.proofs.lemmas.Bool.Decides.{nat_tests}
use Rattle.std.proofs.lemmas.Bool.{or_right}
use Rattle.napi_types.specs.declared.ids.ValueId.{ValueId}
use Rattle.napi_types.specs.plain.Lists.{found, has, has_number, as_map}
use Rattle.napi_types.specs.parts.Attachments.{Attachments, Wrapped, Tagged, Attached, tickets_of, tickets_where, is_attached_to, left_on}
use Rattle.napi_types.specs.parts.Book.{Book, due_where}
use Rattle.napi_types.proofs.plain.Found.{IsRising, same-tells, same-self, apart-above, has-found, found-kept, rising-as_map}
use Rattle.napi_types.proofs.plain.Maps.{swapped, joined}
use Rattle.wrap_tag.specs.declared.row.ValueRow.{ValueRow}
use Rattle.wrap_tag.specs.declared.row.Wrap.{Wrap}
use Rattle.wrap_tag.specs.ValueRows.{tickets_of_chain, tickets_of_row, ticket_of_wrap, tickets_beside, blank_row, wrapped_as, wrap_in, value_row, is_attached, attachments_of, AreRows}
use Rattle.wrap_tag.specs.Wraps.{AreGiven, is_one_of}
use Rattle.wrap_tag.proofs.ByValue.{listed}
use Rattle.wrap_tag.proofs.ByTicket.{attached_ticket, attached, IsOwner, owner-mapped}
use Rattle.wrap_tag.proofs.AttachingRows.{wrap_of-rows}
use Rattle.wrap_tag.proofs.Dues.{due_where-none, due_where-due_where, due_where-same, given-among, given-due}

-- OF ONE VALUE
-- its wrap
wraps-none : (v : ℕ) (ws : List Wrapped) → All (λ w. v < w.value) ws → filter (λ w. w.value == v) ws ≡ []
wraps-none v [] above = refl
wraps-none v (w ∷ ws) above =
    ap (λ b. cond b (w ∷ filter (λ u. u.value == v) ws) (filter (λ u. u.value == v) ws)) (apart-above v w.value (All-head (λ u. v < u.value) w ws above))
    ∙ wraps-none v ws (All-tail (λ u. v < u.value) w ws above)

wraps-one : (v : ℕ) (ws : List Wrapped) → IsRising (λ w. w.value) ws → filter (λ w. w.value == v) ws ≡ option_to_list (found (λ w. w.value) v ws)
wraps-one v [] rises = refl
wraps-one v (w ∷ ws) rises = by (w.value == v) (same-tells w.value v) (wraps-one v ws rises.1)
  where
    by : (b : Bool) → (b ≡ true → w.value ≡ v) → filter (λ u. u.value == v) ws ≡ option_to_list (found (λ u. u.value) v ws)
        → cond b (w ∷ filter (λ u. u.value == v) ws) (filter (λ u. u.value == v) ws) ≡ option_to_list (cond b (Some w) (found (λ u. u.value) v ws))
    by true same rest =
        let is : w.value ≡ v = same refl in
        let above : All (λ u. v < u.value) ws = λ k d within. omega (arith, is, rises.0 k d within) in
        ap (λ us. w ∷ us) (wraps-none v ws above)
    by false same rest = rest

-- the ticket of its wrap
wrap_tickets : (v : ℕ) (ws : List Wrapped) → IsRising (λ w. w.value) ws
    → filter_map (λ w. w.ticket) (filter (λ w. w.value == v) ws) ≡ option_to_list (option_and_then (λ w. w.ticket) (found (λ w. w.value) v ws))
wrap_tickets v ws rises = ap (filter_map (λ (w : Wrapped). w.ticket)) (wraps-one v ws rises) ∙ by (found (λ w. w.value) v ws)
  where
    here : (o : Option ℕ) → cons_option o [] ≡ option_to_list o
    here None = refl
    here (Some t) = refl

    by : (o : Option Wrapped) → filter_map (λ w. w.ticket) (option_to_list o) ≡ option_to_list (option_and_then (λ w. w.ticket) o)
    by None = refl
    by (Some w) = here w.ticket

-- those beside it
beside_tickets : (n v : ℕ) (rows : List (ℕ × ValueRow)) → AreRows rows → has attached_ticket n (filter (λ t. t.value == v) (as_map attached_ticket (attached rows))) ≡ is_attached n v rows
beside_tickets n v rows are =
    has-found attached_ticket n (filter (λ t. t.value == v) (as_map attached_ticket (attached rows)))
    ∙ ap is_some (found-kept attached_ticket (λ t. t.value == v) n (as_map attached_ticket (attached rows)) (rising-as_map attached_ticket (attached rows)))
    ∙ by (found attached_ticket n (as_map attached_ticket (attached rows))) (owner-mapped n rows are.values)
  where
    by : (o : Option Attached) → IsOwner n rows o → is_some (option_and_then (λ t. cond (t.value == v) (Some t) None) o) ≡ is_attached n v rows
    by None none = sym (none v)
    by (Some t) owns = case (t.value == v) (is_attached n v rows) refl refl
      where
        case : (a b : Bool) → (t.value == v) ≡ a → is_attached n v rows ≡ b → is_some (cond a (Some t) None) ≡ b
        case true true is there = refl
        case false false is there = refl
        case true false is there = let wrong : ⊥ = let yes : is_attached n v rows ≡ true = ap (λ u. is_attached n u rows) (sym (same-tells t.value v is)) ∙ owns.1 in cc in absurd wrong
        case false true is there =
            let one : t.value ≡ v = are.tickets n t.value v owns.1 there in
            let wrong : ⊥ = let yes : (t.value == v) ≡ true = ap (λ u. u == v) one ∙ same-self v in cc in absurd wrong

has-map : {A : Type 0} (number : A → ℕ) (n : ℕ) (xs : List A) → has_number n (map number xs) ≡ has number n xs
has-map number n [] = refl
has-map number n (x ∷ xs) = ap (λ b. (number x == n) || b) (has-map number n xs)

-- all of them are those of its row
pub has-tickets_of : (n v : ℕ) (rows : List (ℕ × ValueRow)) → AreRows rows → has_number n (tickets_of (attachments_of rows) v) ≡ has_number n (tickets_of_row (unwrap_or (value_row v rows) blank_row))
unfolding attachments_of
has-tickets_of n v rows are =
    list_any-append (λ m. m == n) (filter_map (λ w. w.ticket) (filter (λ w. w.value == v) (attachments_of rows).wraps)) (map attached_ticket (filter (λ t. t.value == v) (attachments_of rows).tickets))
    ∙ ap (λ ns. has_number n ns || has_number n (map attached_ticket (filter (λ t. t.value == v) (attachments_of rows).tickets)))
    (wrap_tickets v (attachments_of rows).wraps (rising-as_map (λ w. w.value) (listed (λ w. w.value) wrap_in rows)) ∙ ap (λ (o : Option Wrapped). option_to_list (option_and_then (λ w. w.ticket) o)) (wrap_of-rows v rows are))
    ∙ ap (λ b. has_number n (option_to_list (option_and_then (λ (w : Wrapped). w.ticket) (option_and_then (wrap_in v) (value_row v rows)))) || b)
    (has-map attached_ticket n (filter (λ t. t.value == v) (attachments_of rows).tickets) ∙ beside_tickets n v rows are)
    ∙ by (value_row v rows)
  where
    told : (o : Option Wrap) → option_and_then (λ (w : Wrapped). w.ticket) (option_map (wrapped_as v) o) ≡ option_map (λ t. t.0) (ticket_of_wrap o)
    told None = refl
    told (Some w) = refl

    by : (o : Option ValueRow) → (has_number n (option_to_list (option_and_then (λ (w : Wrapped). w.ticket) (option_and_then (wrap_in v) o))) || has_number n (tickets_beside o)) ≡ has_number n (tickets_of_row (unwrap_or o blank_row))
    by None = refl
    by (Some row) =
        ap (λ o. has_number n (option_to_list o) || has_number n (tickets_of_chain row.tickets)) (told row.wrap)
        ∙ sym (list_any-append (λ m. m == n) (option_to_list (option_map (λ t. t.0) (ticket_of_wrap row.wrap))) (tickets_of_chain row.tickets))

-- OF SEVERAL, ONE AFTER ANOTHER
-- what is left by one and then by another
filter-filter : {A : Type 0} (p q : A → Bool) (xs : List A) → filter (λ x. not (q x)) (filter (λ x. not (p x)) xs) ≡ filter (λ x. not (p x || q x)) xs
filter-filter p q [] = refl
filter-filter p q (x ∷ xs) = by (p x) (q x) refl (filter-filter p q xs)
  where
    by : (a b : Bool) → q x ≡ b → filter (λ y. not (q y)) (filter (λ y. not (p y)) xs) ≡ filter (λ y. not (p y || q y)) xs
        → filter (λ y. not (q y)) (cond (not a) (x ∷ filter (λ y. not (p y)) xs) (filter (λ y. not (p y)) xs)) ≡ cond (not (a || b)) (x ∷ filter (λ y. not (p y || q y)) xs) (filter (λ y. not (p y || q y)) xs)
    by true b is rest = rest
    by false true is rest = ap (λ c. cond (not c) (x ∷ filter (λ y. not (q y)) (filter (λ y. not (p y)) xs)) (filter (λ y. not (q y)) (filter (λ y. not (p y)) xs))) is ∙ rest
    by false false is rest = ap (λ c. cond (not c) (x ∷ filter (λ y. not (q y)) (filter (λ y. not (p y)) xs)) (filter (λ y. not (q y)) (filter (λ y. not (p y)) xs))) is ∙ ap (λ ys. x ∷ ys) rest

filter-same : {A : Type 0} (p q : A → Bool) → ((x : A) → p x ≡ q x) → (xs : List A) → filter p xs ≡ filter q xs
filter-same p q same [] = refl
filter-same p q same (x ∷ xs) = ap (λ b. cond b (x ∷ filter p xs) (filter p xs)) (same x) ∙ ap (λ ys. cond (q x) (x ∷ ys) ys) (filter-same p q same xs)

left_on-parts : (a b : Attachments) → a.wraps ≡ b.wraps → a.tags ≡ b.tags → a.tickets ≡ b.tickets → a ≡ b
left_on-parts a b wraps tags tickets = parts a.wraps b.wraps a.tags b.tags a.tickets b.tickets wraps tags tickets
  where
    parts : (ws vs : List Wrapped) (ts us : List Tagged) (ks js : List Attached) → ws ≡ vs → ts ≡ us → ks ≡ js
        → let c : Attachments = record { wraps = ws; tags = ts; tickets = ks } in c ≡ record { wraps = vs; tags = us; tickets = js }
    parts ws vs ts us ks js e f g = cc

pub left_on-same : (p q : ℕ → Bool) → ((v : ℕ) → p v ≡ q v) → (a : Attachments) → left_on p a ≡ left_on q a
left_on-same p q same a =
    left_on-parts (left_on p a) (left_on q a)
    (filter-same (λ w. not (p w.value)) (λ w. not (q w.value)) (λ w. ap not (same w.value)) a.wraps)
    (filter-same (λ t. not (p t.value)) (λ t. not (q t.value)) (λ t. ap not (same t.value)) a.tags)
    (filter-same (λ t. not (p t.value)) (λ t. not (q t.value)) (λ t. ap not (same t.value)) a.tickets)

pub left_on-left_on : (p q : ℕ → Bool) (a : Attachments) → left_on q (left_on p a) ≡ left_on (λ v. p v || q v) a
left_on-left_on p q a =
    left_on-parts (left_on q (left_on p a)) (left_on (λ v. p v || q v) a)
    (filter-filter (λ w. p w.value) (λ w. q w.value) a.wraps) (filter-filter (λ t. p t.value) (λ t. q t.value) a.tags) (filter-filter (λ t. p t.value) (λ t. q t.value) a.tickets)

-- a ticket of those that one test passes, and then of those of the rest that another passes
any-parted : {A : Type 0} (p q c : A → Bool) (xs : List A)
    → list_any (λ x. (p x || q x) && c x) xs ≡ (list_any (λ x. p x && c x) xs || list_any (λ x. q x && c x) (filter (λ x. not (p x)) xs))
any-parted p q c [] = refl
any-parted p q c (x ∷ xs) = by (p x) (q x && c x) (c x) refl (any-parted p q c xs)
  where
    by : (a b d : Bool) → (q x && c x) ≡ b
        → list_any (λ y. (p y || q y) && c y) xs ≡ (list_any (λ y. p y && c y) xs || list_any (λ y. q y && c y) (filter (λ y. not (p y)) xs))
        → (((a || q x) && c x) || list_any (λ y. (p y || q y) && c y) xs)
        ≡ (((a && c x) || list_any (λ y. p y && c y) xs) || list_any (λ y. q y && c y) (cond (not a) (x ∷ filter (λ y. not (p y)) xs) (filter (λ y. not (p y)) xs)))
    by true b d is rest = ap (λ r. c x || r) rest ∙ joined (c x) (list_any (λ y. p y && c y) xs) (list_any (λ y. q y && c y) (filter (λ y. not (p y)) xs))
    by false b d is rest =
        ap (λ r. (q x && c x) || r) rest ∙ swapped (q x && c x) (list_any (λ y. p y && c y) xs) (list_any (λ y. q y && c y) (filter (λ y. not (p y)) xs))

-- the same, of the tickets of values
in_wraps : (n : ℕ) (test : ℕ → Bool) (ws : List Wrapped)
    → has_number n (filter_map (λ w. w.ticket) (filter (λ w. test w.value) ws)) ≡ list_any (λ w. test w.value && has_number n (option_to_list w.ticket)) ws
in_wraps n test [] = refl
in_wraps n test (w ∷ ws) = by (test w.value) ∙ ap (λ b. (test w.value && has_number n (option_to_list w.ticket)) || b) (in_wraps n test ws)
  where
    rest : List Wrapped
    rest = filter (λ u. test u.value) ws

    first : (o : Option ℕ) → has_number n (cons_option o (filter_map (λ u. u.ticket) rest))
        ≡ (has_number n (option_to_list o) || has_number n (filter_map (λ u. u.ticket) rest))
    first None = refl
    first (Some t) = alone (t == n)
      where
        alone : (c : Bool) → (c || has_number n (filter_map (λ u. u.ticket) rest)) ≡ ((c || false) || has_number n (filter_map (λ u. u.ticket) rest))
        alone true = refl
        alone false = refl

    by : (b : Bool) → has_number n (filter_map (λ u. u.ticket) (cond b (w ∷ rest) rest))
        ≡ ((b && has_number n (option_to_list w.ticket)) || has_number n (filter_map (λ u. u.ticket) rest))
    by true = first w.ticket
    by false = refl

in_tickets : (n : ℕ) (test : ℕ → Bool) (ts : List Attached) → has_number n (map (λ t. t.ticket) (filter (λ t. test t.value) ts)) ≡ list_any (λ t. test t.value && (t.ticket == n)) ts
in_tickets n test [] = refl
in_tickets n test (t ∷ ts) = by (test t.value) ∙ ap (λ b. (test t.value && (t.ticket == n)) || b) (in_tickets n test ts)
  where
    by : (b : Bool) → has_number n (map (λ u. u.ticket) (cond b (t ∷ filter (λ u. test u.value) ts) (filter (λ u. test u.value) ts))) ≡ ((b && (t.ticket == n)) || has_number n (map (λ u. u.ticket) (filter (λ u. test u.value) ts)))
    by true = refl
    by false = refl

in_both : (n : ℕ) (test : ℕ → Bool) (a : Attachments)
    → has_number n (tickets_where test a) ≡ (list_any (λ w. test w.value && has_number n (option_to_list w.ticket)) a.wraps || list_any (λ t. test t.value && (t.ticket == n)) a.tickets)
in_both n test a =
    list_any-append (λ m. m == n) (filter_map (λ w. w.ticket) (filter (λ w. test w.value) a.wraps)) (map (λ t. t.ticket) (filter (λ t. test t.value) a.tickets))
    ∙ ap (λ b. b || has_number n (map (λ t. t.ticket) (filter (λ t. test t.value) a.tickets))) (in_wraps n test a.wraps)
    ∙ ap (λ b. list_any (λ w. test w.value && has_number n (option_to_list w.ticket)) a.wraps || b) (in_tickets n test a.tickets)

pub is_attached_to-left_on : (n : ℕ) (p q : ℕ → Bool) (a : Attachments)
    → is_attached_to (λ v. p v || q v) a n ≡ (is_attached_to p a n || is_attached_to q (left_on p a) n)
is_attached_to-left_on n p q a =
    in_both n (λ v. p v || q v) a
    ∙ ap (λ b. b || list_any (λ t. (p t.value || q t.value) && (t.ticket == n)) a.tickets) (any-parted (λ w. p w.value) (λ w. q w.value) (λ w. has_number n (option_to_list w.ticket)) a.wraps)
    ∙ ap (λ b. (list_any (λ w. p w.value && has_number n (option_to_list w.ticket)) a.wraps || list_any (λ w. q w.value && has_number n (option_to_list w.ticket)) (left_on p a).wraps) || b)
    (any-parted (λ t. p t.value) (λ t. q t.value) (λ t. t.ticket == n) a.tickets)
    ∙ crossed (list_any (λ w. p w.value && has_number n (option_to_list w.ticket)) a.wraps) (list_any (λ w. q w.value && has_number n (option_to_list w.ticket)) (left_on p a).wraps)
    (list_any (λ t. p t.value && (t.ticket == n)) a.tickets) (list_any (λ t. q t.value && (t.ticket == n)) (left_on p a).tickets)
    ∙ sym (ap (λ b. b || is_attached_to q (left_on p a) n) (in_both n p a) ∙ ap (λ b. (list_any (λ w. p w.value && has_number n (option_to_list w.ticket)) a.wraps || list_any (λ t. p t.value && (t.ticket == n)) a.tickets) || b) (in_both n q (left_on p a)))
  where
    crossed : (b c d e : Bool) → ((b || c) || (d || e)) ≡ ((b || d) || (c || e))
    crossed true c d e = refl
    crossed false true true e = refl
    crossed false true false e = refl
    crossed false false d e = refl

pub is_attached_to-same : (n : ℕ) (p q : ℕ → Bool) → ((v : ℕ) → p v ≡ q v) → (a : Attachments) → is_attached_to p a n ≡ is_attached_to q a n
is_attached_to-same n p q same a = in_both n p a ∙ ap (λ b. b || list_any (λ t. p t.value && (t.ticket == n)) a.tickets) (any-same (λ w. p w.value && has_number n (option_to_list w.ticket)) _ (λ w. ap (λ b. b && has_number n (option_to_list w.ticket)) (same w.value)) a.wraps)
    ∙ ap (λ b. list_any (λ w. q w.value && has_number n (option_to_list w.ticket)) a.wraps || b) (any-same (λ t. p t.value && (t.ticket == n)) _ (λ t. ap (λ b. b && (t.ticket == n)) (same t.value)) a.tickets) ∙ sym (in_both n q a)
  where
    any-same : {A : Type 0} (f g : A → Bool) → ((x : A) → f x ≡ g x) → (xs : List A) → list_any f xs ≡ list_any g xs
    any-same f g is [] = refl
    any-same f g is (x ∷ xs) = ap (λ b. b || list_any f xs) (is x) ∙ ap (λ b. g x || b) (any-same f g is xs)

-- A LOOP OVER VALUES
among-more : (values : List ValueId) (x : ValueId) (v : ℕ) → (is_one_of values v || (v == x.0)) ≡ is_one_of (values ++ x ∷ []) v
among-more values x v = sym (ap (λ ns. has_number v ns) (map-append (λ f. f.0) values (x ∷ [])) ∙ list_any-append (λ m. m == v) (map (λ f. f.0) values) (x.0 ∷ []) ∙ ap (λ b. is_one_of values v || b) (last x.0))
  where
    flipped : (m : ℕ) → (m == v) ≡ (v == m)
    flipped m = grind (arith, nat_tests)

    last : (m : ℕ) → ((m == v) || false) ≡ (v == m)
    last m = or_false (m == v) ∙ flipped m
      where
        or_false : (b : Bool) → (b || false) ≡ b
        or_false true = refl
        or_false false = refl

pub left-more : (values : List ValueId) (x : ValueId) (a now new : Attachments) → now ≡ left_on (is_one_of values) a → new ≡ left_on (λ v. v == x.0) now → new ≡ left_on (is_one_of (values ++ x ∷ [])) a
left-more values x a now new was is =
    is ∙ ap (left_on (λ v. v == x.0)) was ∙ left_on-left_on (is_one_of values) (λ v. v == x.0) a ∙ left_on-same (λ v. is_one_of values v || (v == x.0)) (is_one_of (values ++ x ∷ [])) (among-more values x) a

pub hangs-more : (n : ℕ) (values : List ValueId) (x : ValueId) (a now : Attachments) → now ≡ left_on (is_one_of values) a
    → (is_attached_to (is_one_of values) a n || has_number n (tickets_of now x.0)) ≡ is_attached_to (is_one_of (values ++ x ∷ [])) a n
hangs-more n values x a now was =
    ap (λ b. is_attached_to (is_one_of values) a n || has_number n (tickets_of b x.0)) was ∙ sym (is_attached_to-left_on n (is_one_of values) (λ v. v == x.0) a)
    ∙ is_attached_to-same n (λ v. is_one_of values v || (v == x.0)) (is_one_of (values ++ x ∷ [])) (among-more values x) a

pub due-more : (values : List ValueId) (x : ValueId) (a now : Attachments) (book between after : Book) → now ≡ left_on (is_one_of values) a
    → between ≡ due_where (is_attached_to (is_one_of values) a) book
    → after ≡ due_where (λ n. has_number n (tickets_of now x.0)) between → after ≡ due_where (is_attached_to (is_one_of (values ++ x ∷ [])) a) book
due-more values x a now book between after was due is =
    is ∙ ap (due_where (λ n. has_number n (tickets_of now x.0))) due ∙ due_where-due_where (is_attached_to (is_one_of values) a)
    (λ n. has_number n (tickets_of now x.0)) book
    ∙ due_where-same (λ n. is_attached_to (is_one_of values) a n || has_number n (tickets_of now x.0)) (is_attached_to (is_one_of (values ++ x ∷ [])) a) book (λ n. hangs-more n values x a now was)

-- before the first
pub left_on-none : (a : Attachments) → left_on (is_one_of []) a ≡ a
left_on-none a = left_on-parts (left_on (is_one_of []) a) a (all a.wraps) (all a.tags) (all a.tickets)
  where
    all : {A : Type 0} (xs : List A) → filter (λ x. true) xs ≡ xs
    all [] = refl
    all (x ∷ xs) = ap (λ ys. x ∷ ys) (all xs)

pub due-none : (a : Attachments) (book : Book) → due_where (is_attached_to (is_one_of []) a) book ≡ book
due-none a book = due_where-none (is_attached_to (is_one_of []) a) book (λ n. in_both n (is_one_of []) a ∙ ap (λ b. b || list_any (λ t. false) a.tickets) (none a.wraps) ∙ none a.tickets)
  where
    none : {A : Type 0} (xs : List A) → list_any (λ x. false) xs ≡ false
    none [] = refl
    none (x ∷ xs) = none xs

-- the next one
pub take-next : (values : List ValueId) (i : ℕ) (d : ValueId) → i < length values → take (i + 1) values ≡ take i values ++ get_or values i d ∷ []
take-next values i d within = rw add-one (take-suc values i d within)

-- the tickets of some of the values are among those of all
hangs-all : (n : ℕ) (ys zs values : List ValueId) (a : Attachments) → ys ++ zs ≡ values → is_attached_to (is_one_of ys) a n ≡ true
    → is_attached_to (is_one_of values) a n ≡ true
hangs-all n ys zs values a all is =
    is_attached_to-same n (is_one_of values) (λ v. is_one_of ys v || is_one_of zs v) parted a ∙ is_attached_to-left_on n (is_one_of ys) (is_one_of zs) a ∙ ap (λ b. b || is_attached_to (is_one_of zs) (left_on (is_one_of ys) a) n) is
  where
    parted : (v : ℕ) → is_one_of values v ≡ (is_one_of ys v || is_one_of zs v)
    parted v = ap (λ vs. is_one_of vs v) (sym all) ∙ ap (λ ns. has_number v ns) (map-append (λ f. f.0) ys zs) ∙ list_any-append (λ m. m == v) (map (λ f. f.0) ys) (map (λ f. f.0) zs)

pub given-value : (values : List ValueId) (i : ℕ) (d : ValueId) → i < length values → (a now : Attachments) (book between : Book) → now ≡ left_on (is_one_of (take i values)) a
    → between ≡ due_where (is_attached_to (is_one_of (take i values)) a) book → AreGiven (tickets_where (is_one_of values) a) book → AreGiven
    (tickets_of now (get_or values i d).0) between
given-value values i d within a now book between was due given =
    let P : Book → Type 0 = AreGiven (tickets_of now (get_or values i d).0) in
    subst P (sym due) (given-due (tickets_of now (get_or values i d).0) (is_attached_to (is_one_of (take i values)) a) book
    (given-among (tickets_where (is_one_of values) a) (tickets_of now (get_or values i d).0) book (λ n is. one n is) given))
  where
    one : (n : ℕ) → has_number n (tickets_of now (get_or values i d).0) ≡ true → is_attached_to (is_one_of values) a n ≡ true
    one n is =
        hangs-all n (take (i + 1) values) (drop (i + 1) values) values a (take-append-drop (i + 1) values)
        (ap (λ vs. is_attached_to (is_one_of vs) a n) (take-next values i d within) ∙ sym (hangs-more n (take i values) (get_or values i d) a now was) ∙ ap (λ b. is_attached_to (is_one_of (take i values)) a n || b) is ∙ or_right (is_attached_to (is_one_of (take i values)) a n) true refl)
