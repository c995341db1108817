-- What was told of the lives of buffers is what an environment holds of them: every change keeps it.
use Rattle.std.proofs.Common.{◌≡◌, ◌∙◌, ◌<◌, ◌≤◌, ◌⊎◌, ℕ, suc, ◌+◌, ◌==◌, Bool, true, false, not, ◌&&◌, ◌||◌, cond, List, [], ◌∷◌, ◌++◌, map, filter, length, slice_index_or, Option, Some, None, is_some, option_map, IfSome, inl, inr, ⊎_elim, refl, ap, sym, subst, arith}
use Rattle.std.specs.List.{All}
use Rattle.std.specs.Option.{option_and_then}
use Rattle.std.proofs.lemmas.Bool.{or_left, or_right}
use Rattle.std.proofs.lemmas.List.Elements.{All-nil, All-cons, All-push, All-weaker, All-filter, filter_passes}
use Rattle.std.proofs.lemmas.Option.{IfSome_then}
use Rattle.napi_types.specs.declared.entry.Cause.TheVariants as cause
use Rattle.napi_types.specs.declared.entry.Phase.{Phase}
use Rattle.napi_types.specs.declared.entry.Phase.TheVariants as phase
use Rattle.napi_types.specs.plain.Lists.{has_number, with_record}
use Rattle.napi_types.specs.parts.Attachments.{Wrapped, Attached, Attachments, attached_where, tickets_in, is_attached_to, left_on, with_wrap, without_wrap, with_attached}
use Rattle.napi_types.specs.parts.Book.{Book, Registration, TicketState, Registered, Due, Begun, Ended, Withdrawn, made_due, made_withdrawn, made_begun, made_ended, all_due, changed_where, due_where, moved, registration_at, with_registration}
use Rattle.napi_types.specs.parts.Buffers.{ArrayBuffer}
use Rattle.napi_types.specs.parts.Promises.{Deferred}
use Rattle.napi_types.specs.parts.Values.{Value, value_at, link_of, those_of}
use Rattle.napi_types.specs.environment.Environment.{Environment}
use Rattle.napi_types.specs.environment.Hooked.{is_from_finals_on}
use Rattle.napi_types.specs.all_runs.BufferLives.{ExternalBuffer, ViewOfBuffer}
use Rattle.napi_types.proofs.plain.Conditions.{and-false, not-true}
use Rattle.napi_types.proofs.plain.Found.{apart-above, found-filter, same-self}
use Rattle.napi_types.proofs.plain.Maps.{All-with_record, among-holds}
use Rattle.napi_types.proofs.parts.AttachedTickets.{HoldsAttached, tickets_in-holds}
use Rattle.napi_types.proofs.parts.Moved.{KeepsCause, registration_at-changed_where, registration_at-before, registration-within}
use Rattle.napi_types.proofs.parts.Reaching.{has_number-filter}
use Rattle.napi_types.proofs.all_runs.LifeHistory.{LifeHistory}
use Rattle.napi_types.proofs.all_runs.PromiseBooks.{KeepsEachLink}

-- WHAT IS HELD
-- what of an environment has to do with it
pub record LifeView : Type 0 where
  pub phase : Phase
  pub made : ℕ
  pub values : List Value
  pub book : Book
  pub attachments : Attachments
  pub buffers : List ArrayBuffer
  pub deferreds : List Deferred

abbrev pub life_view : Environment → LifeView
life_view e = record {
  phase = e.phase;
  made = e.heap.made;
  values = e.heap.values;
  book = e.book;
  attachments = e.attachments;
  buffers = e.buffers.buffers;
  deferreds = e.promises.deferreds;
}

-- the finalizer of an external buffer is due only where the buffer lives no more, or after `finals`
pub record IsWaiting (h : LifeHistory) (made : ℕ) (book : Book) (x : ExternalBuffer) : Type 0 where
  pub registration : Registration
  pub there : registration_at book x.ticket ≡ Some registration
  pub cause : registration.cause ≡ cause.Finalize
  pub old : x.buffer ≤ made
  pub due : registration.state ≡ Due → (has_number x.buffer h.living ≡ false) ⊎ (h.finals ≡ true)

-- a ticket that is attached to a value is of no external buffer but that value
abbrev pub IsOfNoOther : List ExternalBuffer → ℕ → ℕ → Type 0
IsOfNoOther xs t v = All (λ x. x.ticket ≡ t → x.buffer ≡ v) xs

pub record Owns (xs : List ExternalBuffer) (a : Attachments) : Type 0 where
  pub wraps : All (λ w. IfSome w.ticket (λ t. IsOfNoOther xs t w.value)) a.wraps
  pub tickets : All (λ y. IsOfNoOther xs y.ticket y.value) a.tickets

-- a view that lives has its buffer as its child, and that lives too
pub record IsWindow (alive : List ℕ) (made : ℕ) (values : List Value) (w : ViewOfBuffer) : Type 0 where
  pub below : w.view ≤ made
  pub linked : has_number w.view alive ≡ true → link_of values w.view ≡ Some w.buffer
  pub living : has_number w.view alive ≡ true → has_number w.buffer alive ≡ true

-- no promise that may be settled is a view
pub record IsNoView (windows : List ViewOfBuffer) (made : ℕ) (d : Deferred) : Type 0 where
  pub below : d.promise ≤ made
  pub apart : All (λ w. (w.view == d.promise) ≡ false) windows

pub record IsLifeOf (h : LifeHistory) (v : LifeView) : Type 0 where
  pub late : h.finals ≡ is_from_finals_on v.phase
  pub waiting : All (IsWaiting h v.made v.book) h.external
  pub owned : Owns h.external v.attachments
  -- what lives is there, and above what was made nothing is
  pub alive : All (λ n. is_some (value_at v.values n) ≡ true) h.living
  pub above : (n : ℕ) → v.made < n → value_at v.values n ≡ None
  pub windows : All (IsWindow h.living v.made v.values) h.windows
  pub rows : All (λ r. has_number r.value h.living ≡ true) v.buffers
  pub apart : All (IsNoView h.windows v.made) v.deferreds

-- THE BOOK
-- the ticket of a finalizer is still that of one, and is due only where it was
pub record StaysWaiting (c : Book) (t : ℕ) (r : Registration) : Type 0 where
  pub registration : Registration
  pub there : registration_at c t ≡ Some registration
  pub cause : registration.cause ≡ cause.Finalize
  pub due : registration.state ≡ Due → r.state ≡ Due

abbrev pub NoneFalls : Book → Book → Type 0
NoneFalls b c = (t : ℕ) (r : Registration) → registration_at b t ≡ Some r → r.cause ≡ cause.Finalize → StaysWaiting c t r

pub none-falls : (b : Book) → NoneFalls b b
none-falls b t r there why = record { registration = r; there = there; cause = why; due = λ is. is }

pub falls-then : (b c d : Book) → NoneFalls b c → NoneFalls c d → NoneFalls b d
falls-then b c d first second t r there why =
    let s : StaysWaiting c t r = first t r there why in
    let u : StaysWaiting d t s.registration = second t s.registration s.there s.cause in
    record { registration = u.registration; there = u.there; cause = u.cause; due = λ is. s.due (u.due is) }

pub push-falls : (r : Registration) (b : Book) → NoneFalls b (with_registration r b)
push-falls r b t q there why = record { registration = q; there = registration_at-before b r t q there; cause = why; due = λ is. is }

pub changed-falls : (change : Registration → Registration) → KeepsCause change → (test : ℕ → Bool) (b : Book)
    → ((n : ℕ) (r : Registration) → registration_at b n ≡ Some r → r.cause ≡ cause.Finalize → test n ≡ true → (change r).state ≡ Due → r.state ≡ Due)
    → NoneFalls b (changed_where change test b)
changed-falls change keeps test b each t r there why =
    by (test t) (each t r there why) (registration_at-changed_where change test b t ∙ ap (option_map (λ (q : Registration). cond (test t) (change q) q)) there)
  where
    by : (p : Bool) → (p ≡ true → (change r).state ≡ Due → r.state ≡ Due) → registration_at (changed_where change test b) t ≡ Some (cond p (change r) r)
        → StaysWaiting (changed_where change test b) t r
    by true its now = record { registration = change r; there = now; cause = keeps r ∙ why; due = its refl }
    by false its now = record { registration = r; there = now; cause = why; due = λ is. is }

pub withdrawn-due : (s : TicketState) → made_withdrawn s ≡ Due → s ≡ Due
withdrawn-due Registered is = cc
withdrawn-due s is = is

pub ended-due : (s : TicketState) → made_ended s ≡ Due → s ≡ Due
ended-due Begun is = cc
ended-due s is = is

pub begun-due : (s : TicketState) → made_begun s ≡ Due → s ≡ Due
begun-due Due is = refl
begun-due s is = is

pub both-due : (s : TicketState) → made_begun (made_due s) ≡ Due → s ≡ Due
both-due Registered is = cc
both-due Due is = refl
both-due Begun is = cc
both-due Ended is = cc
both-due Withdrawn is = cc

-- WHAT IS ATTACHED
abbrev pub WereIssued : Book → List ExternalBuffer → Type 0
WereIssued book xs = All (λ x. x.ticket ≤ length book) xs

pub owner-new : (xs : List ExternalBuffer) (n v : ℕ) → All (λ x. x.ticket ≤ n) xs → IsOfNoOther xs (n + 1) v
owner-new xs n v all =
    All-weaker (λ (x : ExternalBuffer). x.ticket ≤ n) (λ x. x.ticket ≡ n + 1 → x.buffer ≡ v) (λ x below is. absurd (omega (arith, below, is))) xs all

pub owns-wrap : (xs : List ExternalBuffer) (v payload : ℕ) (t : Option ℕ) (a : Attachments) → IfSome t (λ n. IsOfNoOther xs n v) → Owns xs a → Owns xs (with_wrap v payload t a)
owns-wrap xs v payload t a here o = record {
  wraps = All-with_record (λ (w : Wrapped). w.value) (record { value = v; payload = payload; ticket = t }) (λ w. IfSome w.ticket (λ n. IsOfNoOther xs n w.value)) a.wraps here o.wraps;
  tickets = o.tickets;
}

pub owns-attached : (xs : List ExternalBuffer) (v t : ℕ) (a : Attachments) → IsOfNoOther xs t v → Owns xs a → Owns xs (with_attached v t a)
owns-attached xs v t a here o = record {
  wraps = o.wraps;
  tickets = All-with_record (λ (y : Attached). y.ticket) (record { value = v; ticket = t }) (λ y. IsOfNoOther xs y.ticket y.value) a.tickets here o.tickets;
}

pub owns-where : (xs : List ExternalBuffer) (test : ℕ → Bool) (a : Attachments) → Owns xs a → Owns xs (attached_where test a)
owns-where xs test a o = record {
  wraps = All-filter (λ (w : Wrapped). test w.value) (λ w. IfSome w.ticket (λ n. IsOfNoOther xs n w.value)) a.wraps o.wraps;
  tickets = All-filter (λ (y : Attached). test y.value) (λ y. IsOfNoOther xs y.ticket y.value) a.tickets o.tickets;
}

pub owns-unwrapped : (xs : List ExternalBuffer) (v : ℕ) (a : Attachments) → Owns xs a → Owns xs (without_wrap v a)
owns-unwrapped xs v a o = record {
  wraps = All-filter (λ (w : Wrapped). not (w.value == v)) (λ w. IfSome w.ticket (λ n. IsOfNoOther xs n w.value)) a.wraps o.wraps;
  tickets = o.tickets;
}

-- the ticket of an external buffer hangs on a value that is freed only where the buffer is freed
pub freed-with : (xs : List ExternalBuffer) (freed : ℕ → Bool) (a : Attachments) → Owns xs a → All (λ x. is_attached_to freed a x.ticket ≡ true → freed x.buffer ≡ true) xs
freed-with xs freed a o i d inside here = tickets_in-holds Frees (attached_where freed a) holds x.ticket here refl
  where
    x : ExternalBuffer
    x = slice_index_or xs i d

    Frees : ℕ → Type 0
    Frees t = x.ticket ≡ t → freed x.buffer ≡ true

    of : (t v : ℕ) → freed v ≡ true → IsOfNoOther xs t v → Frees t
    of t v passes owner is = ap freed (owner i d inside is) ∙ passes

    holds : HoldsAttached Frees (attached_where freed a)
    holds = record {
      wraps = λ j c within.
          IfSome_then _ (All-filter (λ (w : Wrapped). freed w.value) (λ w. IfSome w.ticket (λ n. IsOfNoOther xs n w.value)) a.wraps o.wraps j c within)
          (λ t owner. of t _ (filter_passes (λ (w : Wrapped). freed w.value) a.wraps j c within) owner);
      tickets = λ j c within.
          of _ _ (filter_passes (λ (y : Attached). freed y.value) a.tickets j c within)
          (All-filter (λ (y : Attached). freed y.value) (λ y. IsOfNoOther xs y.ticket y.value) a.tickets o.tickets j c within);
    }

-- NOTHING IS TOLD
pub record QuietLife (old new : LifeView) : Type 0 where
  pub late : is_from_finals_on new.phase ≡ is_from_finals_on old.phase
  pub grows : old.made ≤ new.made
  pub links : KeepsEachLink old.made new.made old.values new.values
  pub above : (n : ℕ) → new.made < n → value_at old.values n ≡ None → value_at new.values n ≡ None
  pub book : NoneFalls old.book new.book
  pub owns : (xs : List ExternalBuffer) → WereIssued old.book xs → Owns xs old.attachments → Owns xs new.attachments
  pub buffers : new.buffers ≡ old.buffers
  pub deferreds : new.deferreds ≡ old.deferreds

pub given-tickets : (h : LifeHistory) (v : LifeView) → IsLifeOf h v → WereIssued v.book h.external
given-tickets h v k =
    All-weaker (IsWaiting h v.made v.book) (λ x. x.ticket ≤ length v.book) (λ x is. omega (arith, registration-within v.book x.ticket is.registration is.there)) h.external k.waiting

pub life-quiet : (h : LifeHistory) (v w : LifeView) → QuietLife v w → IsLifeOf h v → IsLifeOf h w
life-quiet h v w q k = record {
  late = k.late ∙ sym q.late;
  waiting = All-weaker (IsWaiting h v.made v.book) (IsWaiting h w.made w.book) (λ x is.
      let s : StaysWaiting w.book x.ticket is.registration = q.book x.ticket is.registration is.there is.cause in
      record { registration = s.registration; there = s.there; cause = s.cause; old = omega (arith, is.old, q.grows); due = λ its. is.due (s.due its) }) h.external k.waiting;
  owned = q.owns h.external (given-tickets h v k) k.owned;
  alive = All-weaker (λ (n : ℕ). is_some (value_at v.values n) ≡ true) (λ n. is_some (value_at w.values n) ≡ true) (λ n is. q.links.stays n is) h.living k.alive;
  above = λ n far. q.above n far (k.above n (omega (arith, far, q.grows)));
  windows = All-weaker (IsWindow h.living v.made v.values) (IsWindow h.living w.made w.values) (λ x is.
      record { below = omega (arith, is.below, q.grows); linked = λ its. q.links.links x.view (inl is.below) ∙ is.linked its; living = is.living }) h.windows k.windows;
  rows = subst (λ rs. All (λ (r : ArrayBuffer). has_number r.value h.living ≡ true) rs) (sym q.buffers) k.rows;
  apart = subst (λ ds. All (IsNoView h.windows w.made) ds) (sym q.deferreds)
      (All-weaker (IsNoView h.windows v.made) (IsNoView h.windows w.made) (λ d is. record { below = omega (arith, is.below, q.grows); apart = is.apart }) v.deferreds k.apart);
}

-- A VALUE IS BORN
module _ (h : LifeHistory) (v w : LifeView) (k : IsLifeOf h v) (q : QuietLife v w) (one : w.made ≡ v.made + 1) (there : is_some (value_at w.values w.made) ≡ true) where
  abbrev with_born : LifeHistory
  with_born = record h { living = w.made ∷ h.living }

  after-quiet : IsLifeOf h w
  after-quiet = life-quiet h v w q k

  -- whether an older one lives is as before
  older : (n : ℕ) → n ≤ v.made → has_number n (w.made ∷ h.living) ≡ has_number n h.living
  older n below = ap (λ b. b || has_number n h.living) (apart-above n w.made (omega (arith, below, one)))

  pub life-born : IsLifeOf with_born w
  life-born = record {
    late = after-quiet.late;
    waiting = λ i d inside.
        let old : IsWaiting h v.made v.book (slice_index_or h.external i d) = k.waiting i d inside in
        let now : IsWaiting h w.made w.book (slice_index_or h.external i d) = after-quiet.waiting i d inside in
        record {
          registration = now.registration;
          there = now.there;
          cause = now.cause;
          old = now.old;
          due = λ is. ⊎_elim (λ gone. inl (older (slice_index_or h.external i d).buffer old.old ∙ gone)) (λ late. inr late) (now.due is);
        };
    owned = after-quiet.owned;
    alive = All-cons (λ (n : ℕ). is_some (value_at w.values n) ≡ true) w.made h.living there after-quiet.alive;
    above = after-quiet.above;
    windows = λ i d inside.
        let old : IsWindow h.living v.made v.values (slice_index_or h.windows i d) = k.windows i d inside in
        let now : IsWindow h.living w.made w.values (slice_index_or h.windows i d) = after-quiet.windows i d inside in
        record {
          below = now.below;
          linked = λ its. now.linked (sym (older (slice_index_or h.windows i d).view old.below) ∙ its);
          living = λ its. or_right (w.made == (slice_index_or h.windows i d).buffer) _ (now.living (sym (older (slice_index_or h.windows i d).view old.below) ∙ its));
        };
    rows = All-weaker (λ (r : ArrayBuffer). has_number r.value h.living ≡ true) (λ r. has_number r.value with_born.living ≡ true)
        (λ r is. or_right (w.made == r.value) (has_number r.value h.living) is) w.buffers after-quiet.rows;
    apart = after-quiet.apart;
  }

  -- as a buffer, ..
  pub born-row : (r : ArrayBuffer) → r.value ≡ w.made → IsLifeOf with_born (record w { buffers = with_record (λ (x : ArrayBuffer). x.value) r w.buffers })
  born-row r here = record {
    late = life-born.late;
    waiting = life-born.waiting;
    owned = life-born.owned;
    alive = life-born.alive;
    above = life-born.above;
    windows = life-born.windows;
    rows = All-with_record (λ (x : ArrayBuffer). x.value) r (λ x. has_number x.value with_born.living ≡ true) w.buffers
        (or_left (w.made == r.value) (has_number r.value h.living) (ap (λ m. w.made == m) here ∙ same-self w.made)) life-born.rows;
    apart = life-born.apart;
  }

  -- .. or as a view of a buffer that lives
  pub born-window : (b : ℕ) → link_of w.values w.made ≡ Some b → has_number b h.living ≡ true
      → IsLifeOf (record with_born { windows = h.windows ++ record { view = w.made; buffer = b } ∷ [] }) w
  born-window b linked lives =
      let window : ViewOfBuffer = record { view = w.made; buffer = b } in
      record {
        late = life-born.late;
        waiting = All-weaker (IsWaiting with_born w.made w.book) (IsWaiting (record with_born { windows = h.windows ++ window ∷ [] }) w.made w.book) (λ x is.
            record { registration = is.registration; there = is.there; cause = is.cause; old = is.old; due = is.due }) h.external life-born.waiting;
        owned = life-born.owned;
        alive = life-born.alive;
        above = life-born.above;
        windows = All-push (IsWindow with_born.living w.made w.values) h.windows window life-born.windows
            (record { below = omega arith; linked = λ its. linked; living = λ its. or_right (w.made == b) (has_number b h.living) lives });
        rows = life-born.rows;
        apart = subst (λ ds. All (IsNoView (h.windows ++ window ∷ []) w.made) ds) (sym q.deferreds)
            (All-weaker (IsNoView h.windows v.made) (IsNoView (h.windows ++ window ∷ []) w.made) (λ d is. record {
              below = omega (arith, is.below, q.grows);
              apart = All-push (λ (x : ViewOfBuffer). (x.view == d.promise) ≡ false) h.windows window is.apart (apart-below-turned d.promise is.below);
            }) v.deferreds k.apart);
      }
    where
      apart-below-turned : (n : ℕ) → n ≤ v.made → (w.made == n) ≡ false
      apart-below-turned n below = apart-above n w.made (omega (arith, below, one))

-- the buffer that was born is external, and has this ticket
pub born-external : (h : LifeHistory) (v : LifeView) (x : ExternalBuffer) (r : Registration) → IsLifeOf h v → registration_at v.book x.ticket ≡ Some r → r.cause ≡ cause.Finalize
    → r.state ≡ Registered → x.buffer ≤ v.made → Owns (h.external ++ x ∷ []) v.attachments → IsLifeOf (record h { external = h.external ++ x ∷ [] }) v
born-external h v x r k there why far below owns = record {
  late = k.late;
  waiting = All-push (IsWaiting (record h { external = h.external ++ x ∷ [] }) v.made v.book) h.external x
      (All-weaker (IsWaiting h v.made v.book) (IsWaiting (record h { external = h.external ++ x ∷ [] }) v.made v.book) (λ y is.
      record { registration = is.registration; there = is.there; cause = is.cause; old = is.old; due = is.due }) h.external k.waiting)
      (record { registration = r; there = there; cause = why; old = below; due = λ is. let no : Registered ≡ Due = sym far ∙ is in cc });
  owned = owns;
  alive = k.alive;
  above = k.above;
  windows = k.windows;
  rows = k.rows;
  apart = k.apart;
}

-- what hangs on values that are there hangs on none of a new ticket
pub owns-one-more : (xs : List ExternalBuffer) (x : ExternalBuffer) (a : Attachments) → HoldsAttached (λ t. t < x.ticket) a → Owns xs a → Owns (xs ++ x ∷ []) a
owns-one-more xs x a low o = record {
  wraps = λ i d inside. each-some _ _ (o.wraps i d inside) (low.wraps i d inside);
  tickets = λ i d inside. more _ _ (low.tickets i d inside) (o.tickets i d inside);
}
  where
    more : (t v : ℕ) → t < x.ticket → IsOfNoOther xs t v → IsOfNoOther (xs ++ x ∷ []) t v
    more t v below owner = All-push (λ (y : ExternalBuffer). y.ticket ≡ t → y.buffer ≡ v) xs x owner (λ is. absurd (omega (arith, below, is)))

    each-some : (t : Option ℕ) (v : ℕ) → IfSome t (λ n. IsOfNoOther xs n v) → IfSome t (λ n. n < x.ticket) → IfSome t (λ n. IsOfNoOther (xs ++ x ∷ []) n v)
    each-some None v owner below = tt
    each-some (Some t) v owner below = more t v below owner

-- `finals` COMES
pub life-finals : (h : LifeHistory) (v : LifeView) → IsLifeOf h v → IsLifeOf (record h { finals = true }) (record v { phase = phase.Finals; book = all_due v.book })
life-finals h v k = record {
  late = refl;
  waiting = All-weaker (IsWaiting h v.made v.book) (IsWaiting (record h { finals = true }) v.made (all_due v.book)) (λ x is. record {
    registration = moved made_due is.registration;
    there = registration_at-changed_where (moved made_due) (λ n. true) v.book x.ticket ∙ ap (option_map (moved made_due)) is.there;
    cause = is.cause;
    old = is.old;
    due = λ its. inr refl;
  }) h.external k.waiting;
  owned = k.owned;
  alive = k.alive;
  above = k.above;
  windows = k.windows;
  rows = k.rows;
  apart = k.apart;
}

-- VALUES ARE COLLECTED
module _ (h : LifeHistory) (v : LifeView) (alive : List ℕ) (k : IsLifeOf h v) where
  abbrev freed : ℕ → Bool
  freed n = not (has_number n alive)

  abbrev left_living : List ℕ
  left_living = filter (λ n. has_number n alive) h.living

  abbrev history_left : LifeHistory
  history_left = record h { living = left_living }

  abbrev view_left : LifeView
  view_left = record v {
    values = those_of alive v.values;
    attachments = left_on freed v.attachments;
    buffers = filter (λ (r : ArrayBuffer). not (freed r.value)) v.buffers;
    deferreds = filter (λ (d : Deferred). not (freed d.promise)) v.deferreds;
    book = due_where (is_attached_to freed v.attachments) v.book;
  }

  lives-left : (n : ℕ) → has_number n left_living ≡ (has_number n alive && has_number n h.living)
  lives-left n = has_number-filter n (λ m. has_number m alive) h.living

  value-left : (n : ℕ) → value_at view_left.values n ≡ cond (has_number n alive) (value_at v.values n) None
  value-left n = found-filter (λ (x : Value). x.number) (λ m. has_number m alive) n v.values

  parts-left : (n : ℕ) → has_number n left_living ≡ true → (has_number n alive ≡ true) × (has_number n h.living ≡ true)
  parts-left n is = both (has_number n alive) (has_number n h.living) (sym (lives-left n) ∙ is)
    where
      both : (a b : Bool) → (a && b) ≡ true → (a ≡ true) × (b ≡ true)
      both true true is = (refl, refl)
      both true false is = cc
      both false b is = cc

  waits-left : (x : ExternalBuffer) → (is_attached_to freed v.attachments x.ticket ≡ true → freed x.buffer ≡ true) → IsWaiting h v.made v.book x
      → IsWaiting history_left v.made view_left.book x
  waits-left x with_it is =
      by (is_attached_to freed v.attachments x.ticket) with_it
      (registration_at-changed_where (moved made_due) (is_attached_to freed v.attachments) v.book x.ticket
      ∙ ap (option_map (λ (q : Registration). cond (is_attached_to freed v.attachments x.ticket) (moved made_due q) q)) is.there)
    where
      gone : has_number x.buffer h.living ≡ false → has_number x.buffer left_living ≡ false
      gone none = lives-left x.buffer ∙ ap (λ b. has_number x.buffer alive && b) none ∙ and-false (has_number x.buffer alive)

      out : freed x.buffer ≡ true → has_number x.buffer left_living ≡ false
      out is = lives-left x.buffer ∙ ap (λ b. b && has_number x.buffer h.living) (not-true (has_number x.buffer alive) is)

      by : (b : Bool) → (b ≡ true → freed x.buffer ≡ true) → registration_at view_left.book x.ticket ≡ Some (cond b (moved made_due is.registration) is.registration)
          → IsWaiting history_left v.made view_left.book x
      by true frees now = record { registration = moved made_due is.registration; there = now; cause = is.cause; old = is.old; due = λ its. inl (out (frees refl)) }
      by false frees now = record {
        registration = is.registration;
        there = now;
        cause = is.cause;
        old = is.old;
        due = λ its. ⊎_elim (λ none. inl (gone none)) (λ late. inr late) (is.due its);
      }

  -- each view that is left has its buffer left
  pub life-left : ((n m : ℕ) → has_number n alive ≡ true → link_of v.values n ≡ Some m → is_some (value_at v.values m) ≡ true → has_number m alive ≡ true)
      → IsLifeOf history_left view_left
  life-left closed = record {
    late = k.late;
    waiting = λ i d inside. waits-left (slice_index_or h.external i d) (freed-with h.external freed v.attachments k.owned i d inside) (k.waiting i d inside);
    owned = owns-where h.external (λ n. not (freed n)) v.attachments k.owned;
    alive = λ i d inside.
        let n : ℕ = slice_index_or left_living i d in
        ap is_some (value-left n ∙ ap (λ b. cond b (value_at v.values n) None) (filter_passes (λ m. has_number m alive) h.living i d inside))
        ∙ All-filter (λ m. has_number m alive) (λ m. is_some (value_at v.values m) ≡ true) h.living k.alive i d inside;
    above = λ n far. value-left n ∙ none (has_number n alive) (value_at v.values n) (k.above n far);
    windows = All-weaker (IsWindow h.living v.made v.values) (IsWindow left_living v.made view_left.values) (λ w is. record {
      below = is.below;
      linked = λ its.
          let parts = parts-left w.view its in
          ap (option_and_then (λ (x : Value). x.link)) (value-left w.view ∙ ap (λ b. cond b (value_at v.values w.view) None) parts.0) ∙ is.linked parts.1;
      living = λ its.
          let parts = parts-left w.view its in
          let lives : has_number w.buffer h.living ≡ true = is.living parts.1 in
          let stays : has_number w.buffer alive ≡ true =
          closed w.view w.buffer parts.0 (is.linked parts.1) (among-holds (λ m. is_some (value_at v.values m) ≡ true) h.living w.buffer k.alive lives) in
          lives-left w.buffer ∙ ap (λ b. b && has_number w.buffer h.living) stays ∙ lives;
    }) h.windows k.windows;
    rows = λ i d inside.
        let test : ArrayBuffer → Bool = λ r. not (freed r.value) in
        lives-left _ ∙ both _ _ (twice _ (filter_passes test v.buffers i d inside))
        (All-filter test (λ (r : ArrayBuffer). has_number r.value h.living ≡ true) v.buffers k.rows i d inside);
    apart = All-filter (λ (d : Deferred). not (freed d.promise)) (IsNoView h.windows v.made) v.deferreds k.apart;
  }
    where
      none : (b : Bool) (o : Option Value) → o ≡ None → cond b o None ≡ None
      none true o is = is
      none false o is = refl

      both : (a b : Bool) → a ≡ true → b ≡ true → (a && b) ≡ true
      both a b one two = rw (one, two) refl

      twice : (b : Bool) → not (not b) ≡ true → b ≡ true
      twice true is = refl
      twice false is = is
