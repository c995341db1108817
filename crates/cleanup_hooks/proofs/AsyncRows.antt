-- What is read of the rows of asynchronous hooks, and what a change of one row makes of the hooks.
use Rattle.std.proofs.Common.{◌≡◌, ◌∙◌, ℕ, zero, suc, ◌+◌, ◌-◌, ◌<◌, ◌≤◌, ◌==◌, Bool, true, false, cond, List, [], ◌∷◌, ◌++◌, length, filter, map, set, take, drop, slice_get, get_or, Option, Some, None, IfSome, is_some, option_map, ltb, Bor, refl, ap, sym, subst, arith, rules}
use Rattle.std.specs.List.{All}
use Rattle.std.specs.Option.{option_copied}
use Rattle.std.proofs.lemmas.Bool.{eq-eqb, ltb-true, ltb-false}
use Rattle.std.proofs.lemmas.List.{map-append, length-set, append-nil, take-append-le, take_all, drop_all, get_or_default}
use Rattle.std.proofs.lemmas.List.Edits.{map_over_more}
use Rattle.std.proofs.lemmas.Option.{get_or_from_slice_get, slice_get_past, slice_get_read}
use Rattle.std.proofs.lemmas.List.Elements.{All-head, All-tail, All-map}
use Rattle.napi_types.specs.declared.ids.Ticket.{Ticket}
use Rattle.napi_types.specs.plain.Lists.{has_number}
use Rattle.napi_types.specs.plain.Room.{one_if}
use Rattle.napi_types.specs.parts.AsyncHooks.{AsyncHook, Waiting, Abandoned, Removed, async_hook, is_waiting, in_state, count_waiting, with_removed, with_begun, with_abandoned}
use Rattle.napi_types.specs.parts.Book.{TicketsRise}
use Rattle.napi_types.proofs.plain.Found.{apart-below, apart-above, same-self}
use Rattle.napi_types.proofs.plain.Tallies.{at-most-one}
use Rattle.napi_types.proofs.environment.AsyncHooked.{none-waiting}
use Rattle.napi_types.proofs.environment.HookedBooks.{rise-push}
use Rattle.cleanup_hooks.specs.declared.asynchronous.AsyncState.{AsyncState}
use Rattle.cleanup_hooks.specs.declared.asynchronous.AsyncState.TheVariants as kept
use Rattle.cleanup_hooks.specs.declared.asynchronous.AsyncRow.{AsyncRow}
use Rattle.cleanup_hooks.specs.AsyncRows.{hook_state_seen, abandoned_state, async_hook_of, async_hooks_from, async_hooks_of, IsKeptTable}

-- the tickets of hooks
abbrev pub hook_tickets : List AsyncHook → List ℕ
hook_tickets hooks = map (λ h. h.ticket) hooks

-- READ
pub length_from : (k : ℕ) (rows : List AsyncRow) → length (async_hooks_from k rows) ≡ length rows
length_from k [] = refl
length_from k (r ∷ rs) = ap suc (length_from (suc k) rs)

-- the hook of a number stands at its place
pub hook-at : (k p n : ℕ) (rows : List AsyncRow) (x : AsyncRow) → n ≡ k + p → slice_get rows p ≡ Some x → async_hook n (async_hooks_from k rows) ≡ Some (async_hook_of n x)
hook-at k p n [] x at here = let no : ⊥ = cc in absurd no
hook-at k zero n (r ∷ rs) x at here =
    let same : r ≡ x = cc in
    let number : k ≡ n = omega arith in
    rw (eq-eqb k n number, same, number) refl
hook-at k (suc p) n (r ∷ rs) x at here = rw (apart-below k n (omega arith)) (hook-at (suc k) p n rs x (omega arith) here)

-- none has a number below the first one, or past the last one
pub hook-below : (k n : ℕ) (rows : List AsyncRow) → n < k → async_hook n (async_hooks_from k rows) ≡ None
hook-below k n [] below = refl
hook-below k n (r ∷ rs) below = rw (apart-above n k below) (hook-below (suc k) n rs (omega arith))

pub hook-past : (k n : ℕ) (rows : List AsyncRow) → k + length rows ≤ n → async_hook n (async_hooks_from k rows) ≡ None
hook-past k n [] past = refl
hook-past k n (r ∷ rs) past = rw (apart-below k n (omega arith)) (hook-past (suc k) n rs (omega arith))

numbers-past : (k n : ℕ) (rows : List AsyncRow) → k + length rows ≤ n → has_number n (map (λ h. h.number) (async_hooks_from k rows)) ≡ false
numbers-past k n [] past = refl
numbers-past k n (r ∷ rs) past = rw (apart-below k n (omega arith)) (numbers-past (suc k) n rs (omega arith))

-- the next number is in no row, and is not 0
pub number_fresh : (rows : List AsyncRow) (n : ℕ) → n ≡ length rows + 1 → has_number n (0 ∷ map (λ h. h.number) (async_hooks_of rows)) ≡ false
number_fresh rows n is = rw (apart-below 0 n (omega arith)) (numbers-past 1 n rows (omega arith))

-- ONE ROW MORE
pub from_push : (k n : ℕ) (rows : List AsyncRow) (x : AsyncRow) → n ≡ k + length rows → async_hooks_from k (rows ++ x ∷ []) ≡ async_hooks_from k rows ++ async_hook_of n x ∷ []
from_push k n [] x is = let number : k ≡ n = omega arith in rw number refl
from_push k n (r ∷ rs) x is = ap (λ hs. async_hook_of k r ∷ hs) (from_push (suc k) n rs x (omega arith))

-- A ROW CHANGES
-- a row that keeps its ticket leaves all tickets
tickets-set : (k p : ℕ) (rows : List AsyncRow) (x y : AsyncRow) → slice_get rows p ≡ Some x → y.ticket.0 ≡ x.ticket.0
    → hook_tickets (async_hooks_from k (set rows p y)) ≡ hook_tickets (async_hooks_from k rows)
tickets-set k p [] x y here is = refl
tickets-set k zero (r ∷ rs) x y here is =
    let same : r ≡ x = cc in
    ap (λ t. t ∷ hook_tickets (async_hooks_from (suc k) rs)) (is ∙ ap (λ (q : AsyncRow). q.ticket.0) (sym same))
tickets-set k (suc p) (r ∷ rs) x y here is = ap (λ ts. r.ticket.0 ∷ ts) (tickets-set (suc k) p rs x y here is)

pub rising-set : (p : ℕ) (rows : List AsyncRow) (x y : AsyncRow) → slice_get rows p ≡ Some x → y.ticket.0 ≡ x.ticket.0
    → TicketsRise (hook_tickets (async_hooks_of rows)) → TicketsRise (hook_tickets (async_hooks_of (set rows p y)))
rising-set p rows x y here is rise = subst TicketsRise (sym (tickets-set 1 p rows x y here is)) rise

counted-first : (h : AsyncHook) (hs : List AsyncHook) → count_waiting (h ∷ hs) ≡ one_if (is_waiting h.state) + count_waiting hs
counted-first h hs = by (is_waiting h.state) refl
  where
    by : (b : Bool) → is_waiting h.state ≡ b → length (cond b (h ∷ filter (λ (x : AsyncHook). is_waiting x.state) hs) (filter (λ (x : AsyncHook). is_waiting x.state) hs)) ≡ one_if b + count_waiting hs
    by true is = omega arith
    by false is = omega arith

pub counted-set : (k p : ℕ) (rows : List AsyncRow) (x y : AsyncRow) → slice_get rows p ≡ Some x
    → count_waiting (async_hooks_from k (set rows p y)) + one_if (is_waiting (hook_state_seen x.state)) ≡ count_waiting (async_hooks_from k rows) + one_if (is_waiting (hook_state_seen y.state))
counted-set k p [] x y here = let no : ⊥ = cc in absurd no
counted-set k zero (r ∷ rs) x y here =
    let same : r ≡ x = cc in
    let before = counted-first (async_hook_of k r) (async_hooks_from (suc k) rs) in
    let after = counted-first (async_hook_of k y) (async_hooks_from (suc k) rs) in
    let read : one_if (is_waiting (hook_state_seen r.state)) ≡ one_if (is_waiting (hook_state_seen x.state)) = ap (λ (q : AsyncRow). one_if (is_waiting (hook_state_seen q.state))) same in
    omega (arith, before, after, read)
counted-set k (suc p) (r ∷ rs) x y here =
    let before = counted-first (async_hook_of k r) (async_hooks_from (suc k) rs) in
    let after = counted-first (async_hook_of k r) (async_hooks_from (suc k) (set rs p y)) in
    omega (arith, before, after, counted-set (suc k) p rs x y here)

-- REMOVED
removed-below : (k n : ℕ) (rows : List AsyncRow) → n < k → with_removed n (async_hooks_from k rows) ≡ async_hooks_from k rows
removed-below k n [] below = refl
removed-below k n (r ∷ rs) below = rw (apart-above n k below) (ap (λ hs. async_hook_of k r ∷ hs) (removed-below (suc k) n rs (omega arith)))

-- the row of a number is written as that of a hook that was removed
pub removed-at : (k p n : ℕ) (rows : List AsyncRow) (x y : AsyncRow) → n ≡ k + p → slice_get rows p ≡ Some x → y ≡ record { ticket = x.ticket; state = kept.Removed }
    → async_hooks_from k (set rows p y) ≡ with_removed n (async_hooks_from k rows)
removed-at k p n [] x y at here is = let no : ⊥ = cc in absurd no
removed-at k zero n (r ∷ rs) x y at here is =
    let same : r ≡ x = cc in
    rw (eq-eqb k n (omega arith), removed-below (suc k) n rs (omega arith), same, is) refl
removed-at k (suc p) n (r ∷ rs) x y at here is =
    rw (apart-below k n (omega arith)) (ap (λ hs. async_hook_of k r ∷ hs) (removed-at (suc k) p n rs x y (omega arith) here is))

-- BEGUN
-- the ticket of a row is among those of the hooks
ticket-above : (k p n : ℕ) (rows : List AsyncRow) (x : AsyncRow) → slice_get rows p ≡ Some x → All (λ m. n < m) (hook_tickets (async_hooks_from k rows)) → n < x.ticket.0
ticket-above k p n [] x here above = let no : ⊥ = cc in absurd no
ticket-above k zero n (r ∷ rs) x here above =
    let same : r ≡ x = cc in
    subst (λ (q : AsyncRow). n < q.ticket.0) same (All-head (λ m. n < m) r.ticket.0 (hook_tickets (async_hooks_from (suc k) rs)) above)
ticket-above k (suc p) n (r ∷ rs) x here above =
    ticket-above (suc k) p n rs x here (All-tail (λ m. n < m) r.ticket.0 (hook_tickets (async_hooks_from (suc k) rs)) above)

begun-above : (k t : ℕ) (rows : List AsyncRow) → All (λ m. t < m) (hook_tickets (async_hooks_from k rows)) → with_begun t (async_hooks_from k rows) ≡ async_hooks_from k rows
begun-above k t [] above = refl
begun-above k t (r ∷ rs) above =
    rw (apart-above t r.ticket.0 (All-head (λ m. t < m) r.ticket.0 (hook_tickets (async_hooks_from (suc k) rs)) above))
    (ap (λ hs. async_hook_of k r ∷ hs) (begun-above (suc k) t rs (All-tail (λ m. t < m) r.ticket.0 (hook_tickets (async_hooks_from (suc k) rs)) above)))

-- a row is written as that of a hook that waits
pub begun-at : (k p : ℕ) (rows : List AsyncRow) (x y : AsyncRow) → TicketsRise (hook_tickets (async_hooks_from k rows)) → slice_get rows p ≡ Some x → y ≡ record { ticket = x.ticket; state = kept.Waiting }
    → async_hooks_from k (set rows p y) ≡ with_begun x.ticket.0 (async_hooks_from k rows)
begun-at k p [] x y rise here is = let no : ⊥ = cc in absurd no
begun-at k zero (r ∷ rs) x y rise here is =
    let same : r ≡ x = cc in
    let own : (r.ticket.0 == x.ticket.0) ≡ true = ap (λ (q : AsyncRow). r.ticket.0 == q.ticket.0) (sym same) ∙ same-self r.ticket.0 in
    let rest : with_begun x.ticket.0 (async_hooks_from (suc k) rs) ≡ async_hooks_from (suc k) rs =
    ap (λ (q : AsyncRow). with_begun q.ticket.0 (async_hooks_from (suc k) rs)) (sym same) ∙ begun-above (suc k) r.ticket.0 rs rise.0 in
    rw (own, rest, same, is) refl
begun-at k (suc p) (r ∷ rs) x y rise here is =
    rw (apart-below r.ticket.0 x.ticket.0 (ticket-above (suc k) p r.ticket.0 rs x here rise.0)) (ap (λ hs. async_hook_of k r ∷ hs) (begun-at (suc k) p rs x y rise.1 here is))

-- ABANDONED
-- a row that waits is abandoned
abbrev pub abandoned_row : AsyncRow → AsyncRow
abandoned_row r = record { ticket = r.ticket; state = abandoned_state r.state }

abandoned-hook : (k : ℕ) (t : Ticket) (s : AsyncState) → async_hook_of k (record { ticket = t; state = abandoned_state s })
    ≡ cond (is_waiting (hook_state_seen s)) (in_state Abandoned (async_hook_of k (record { ticket = t; state = s }))) (async_hook_of k (record { ticket = t; state = s }))
abandoned-hook k t kept.Set = refl
abandoned-hook k t kept.Waiting = refl
abandoned-hook k t kept.Abandoned = refl
abandoned-hook k t kept.Removed = refl

pub abandoned-all : (k : ℕ) (rows : List AsyncRow) → async_hooks_from k (map abandoned_row rows) ≡ with_abandoned (async_hooks_from k rows)
abandoned-all k [] = refl
abandoned-all k (r ∷ rs) =
    ap (λ hs. async_hook_of k (abandoned_row r) ∷ hs) (abandoned-all (suc k) rs)
    ∙ ap (λ h. h ∷ with_abandoned (async_hooks_from (suc k) rs)) (abandoned-hook k r.ticket r.state)

tickets-abandoned : (hooks : List AsyncHook) → hook_tickets (with_abandoned hooks) ≡ hook_tickets hooks
tickets-abandoned [] = refl
tickets-abandoned (h ∷ hs) = by (is_waiting h.state) (tickets-abandoned hs)
  where
    by : (b : Bool) → hook_tickets (with_abandoned hs) ≡ hook_tickets hs → (cond b (in_state Abandoned h) h).ticket ∷ hook_tickets (with_abandoned hs) ≡ h.ticket ∷ hook_tickets hs
    by true later = ap (λ ts. h.ticket ∷ ts) later
    by false later = ap (λ ts. h.ticket ∷ ts) later

pub table-abandoned : (rows new : List AsyncRow) (waiting : ℕ) → new ≡ map abandoned_row rows → IsKeptTable rows waiting → IsKeptTable new 0
table-abandoned rows new waiting is k =
    let whole : async_hooks_of new ≡ with_abandoned (async_hooks_of rows) = ap (λ rs. async_hooks_of rs) is ∙ abandoned-all 1 rows in
    record {
      rising = subst TicketsRise (sym (ap hook_tickets whole ∙ tickets-abandoned (async_hooks_of rows))) k.rising;
      counted = sym (ap count_waiting whole ∙ none-waiting (async_hooks_of rows));
    }

-- THE TABLE IS KEPT
pub table-pushed : (rows : List AsyncRow) (waiting : ℕ) (x : AsyncRow) → x.state ≡ kept.Set → All (λ h. h.ticket < x.ticket.0) (async_hooks_of rows)
    → IsKeptTable rows waiting → IsKeptTable (rows ++ x ∷ []) waiting
table-pushed rows waiting x set below k =
    let n : ℕ = length rows + 1 in
    let h : AsyncHook = async_hook_of n x in
    let whole : async_hooks_of (rows ++ x ∷ []) ≡ async_hooks_of rows ++ h ∷ [] = from_push 1 n rows x (omega arith) in
    let unseen : is_waiting (hook_state_seen x.state) ≡ false = ap (λ (s : AsyncState). is_waiting (hook_state_seen s)) set in
    record {
      rising = subst TicketsRise (sym (ap hook_tickets whole ∙ map-append (λ (q : AsyncHook). q.ticket) (async_hooks_of rows) (h ∷ [])))
          (rise-push (hook_tickets (async_hooks_of rows)) x.ticket.0 (All-map (λ m. m < x.ticket.0) (λ (q : AsyncHook). q.ticket) (async_hooks_of rows) below) k.rising);
      counted = k.counted ∙ sym (ap count_waiting whole ∙ unchanged (async_hooks_of rows) h unseen);
    }
  where
    unchanged : (hs : List AsyncHook) (h : AsyncHook) → is_waiting h.state ≡ false → count_waiting (hs ++ h ∷ []) ≡ count_waiting hs
    unchanged [] h is = rw is refl
    unchanged (g ∷ hs) h is =
        let before = counted-first g hs in
        let after = counted-first g (hs ++ h ∷ []) in
        omega (arith, before, after, unchanged hs h is)

pub table-set : (rows : List AsyncRow) (waiting new_waiting p : ℕ) (x y : AsyncRow) → slice_get rows p ≡ Some x → y.ticket.0 ≡ x.ticket.0
    → new_waiting + one_if (is_waiting (hook_state_seen x.state)) ≡ waiting + one_if (is_waiting (hook_state_seen y.state))
    → IsKeptTable rows waiting → IsKeptTable (set rows p y) new_waiting
table-set rows waiting new_waiting p x y here is counts k = record {
  rising = rising-set p rows x y here is k.rising;
  counted = omega (arith, counts, k.counted, counted-set 1 p rows x y here);
}

-- a hook that waits is counted
pub waits-counted : (rows : List AsyncRow) (waiting p n : ℕ) (x : AsyncRow) → slice_get rows p ≡ Some x → n ≡ one_if (is_waiting (hook_state_seen x.state))
    → IsKeptTable rows waiting → n ≤ waiting
waits-counted rows waiting p n x here is k =
    let y : AsyncRow = record { ticket = x.ticket; state = kept.Removed } in
    omega (arith, is, k.counted, counted-set 1 p rows x y here)

-- and no more hooks are counted than there are
pub counted_most : (hooks : List AsyncHook) → count_waiting hooks ≤ length hooks
counted_most [] = omega arith
counted_most (h ∷ hs) = by (is_waiting h.state) (counted-first h hs) (counted_most hs)
  where
    by : (b : Bool) → count_waiting (h ∷ hs) ≡ one_if b + count_waiting hs → count_waiting hs ≤ length hs → count_waiting (h ∷ hs) ≤ suc (length hs)
    by true is later = omega (arith, is, later)
    by false is later = omega (arith, is, later)

-- the row that is read in the place of a number
same-row : (rows : List AsyncRow) (p : ℕ) (x y : AsyncRow) → slice_get rows p ≡ Some x → y ≡ get_or rows p y → y ≡ x
same-row rows p x y here is = is ∙ get_or_from_slice_get rows p x y here

-- and as it is written in another state
pub written-row : (s : AsyncState) (rows : List AsyncRow) (p : ℕ) (x y : AsyncRow) → slice_get rows p ≡ Some x → y ≡ get_or rows p y
    → ◌≡◌ {A = AsyncRow} (record { ticket = y.ticket; state = s }) (record { ticket = x.ticket; state = s })
written-row s rows p x y here is = ap (λ (r : AsyncRow). record { ticket = r.ticket; state = s }) (same-row rows p x y here is)

-- a row is written as that of a hook that was removed
pub table-removed : (rows : List AsyncRow) (waiting p n : ℕ) (x y : AsyncRow) → slice_get rows p ≡ Some x → n ≡ one_if (is_waiting (hook_state_seen x.state)) → y ≡ record { ticket = x.ticket; state = kept.Removed }
    → IsKeptTable rows waiting → IsKeptTable (set rows p y) (waiting - n)
table-removed rows waiting p n x y here counts is k =
    let least = waits-counted rows waiting p n x here counts k in
    let none : one_if (is_waiting (hook_state_seen y.state)) ≡ 0 = ap (λ (q : AsyncRow). one_if (is_waiting (hook_state_seen q.state))) is in
    table-set rows waiting (waiting - n) p x y here (ap (λ (q : AsyncRow). q.ticket.0) is) (omega (arith, least, none, counts)) k

-- or as that of one that waits
pub table-begun : (rows : List AsyncRow) (waiting p n : ℕ) (x y : AsyncRow) → slice_get rows p ≡ Some x → n ≡ one_if (is_waiting (hook_state_seen x.state)) → y ≡ record { ticket = x.ticket; state = kept.Waiting }
    → IsKeptTable rows waiting → IsKeptTable (set rows p y) (waiting + (1 - n))
table-begun rows waiting p n x y here counts is k =
    let most = at-most-one (is_waiting (hook_state_seen x.state)) in
    let one : one_if (is_waiting (hook_state_seen y.state)) ≡ 1 = ap (λ (q : AsyncRow). one_if (is_waiting (hook_state_seen q.state))) is in
    table-set rows waiting (waiting + (1 - n)) p x y here (ap (λ (q : AsyncRow). q.ticket.0) is) (omega (arith, most, one, counts)) k

-- so many then wait at most
pub begun-most : (rows : List AsyncRow) (waiting p n : ℕ) (x : AsyncRow) → slice_get rows p ≡ Some x → n ≡ one_if (is_waiting (hook_state_seen x.state)) → IsKeptTable rows waiting
    → waiting + (1 - n) ≤ length rows
begun-most rows waiting p n x here counts k =
    let y : AsyncRow = record { ticket = x.ticket; state = kept.Waiting } in
    let after = table-begun rows waiting p n x y here counts refl k in
    let most = counted_most (async_hooks_of (set rows p y)) in
    omega (arith, after.counted, most, length_from 1 (set rows p y), length-set rows p y)

slice_get_none : (rows : List AsyncRow) (p : ℕ) → slice_get rows p ≡ None → length rows ≤ p
slice_get_none [] p none = omega arith
slice_get_none (r ∷ rs) zero none = let no : ⊥ = cc in absurd no
slice_get_none (r ∷ rs) (suc p) none = omega (arith, slice_get_none rs p none)

-- what a row tells of the hook of its number
pub told-at : (rows : List AsyncRow) (n p : ℕ) → n ≡ p + 1 → option_map (async_hook_of n) (slice_get rows p) ≡ async_hook n (async_hooks_of rows)
told-at rows n p is = by (slice_get rows p) refl
  where
    by : (o : Option AsyncRow) → slice_get rows p ≡ o → option_map (async_hook_of n) o ≡ async_hook n (async_hooks_of rows)
    by (Some x) here = sym (hook-at 1 p n rows x (omega (arith, is)) here)
    by None here = sym (hook-past 1 n rows (omega (arith, is, slice_get_none rows p here)))

-- what a slice gives at a place
pub read-at : (rows : List AsyncRow) (p : ℕ) (o : Option (Bor AsyncRow)) → is_some o ≡ ltb p (length rows) → IfSome o (λ x. x.now ≡ get_or rows p x.now) → option_copied o ≡ slice_get rows p
read-at rows p None there is = sym (slice_get_past rows p (ltb-false p (length rows) (sym there)))
read-at rows p (Some x) there is = sym (slice_get_read rows (length rows) p x.now refl (ltb-true p (length rows) (sym there)) is)

pub place-of : (rows : List AsyncRow) (p n : ℕ) (o : Option AsyncRow) → o ≡ slice_get rows p → 1 ≤ n → p ≡ n - 1 → IfSome o (λ r. (1 ≤ n) × (slice_get rows (n - 1) ≡ Some r))
place-of rows p n None is above at = search rules
place-of rows p n (Some r) is above at = (above, ap (slice_get rows) (sym at) ∙ sym is)

-- the loop over the rows passes one
pub row-passed : (xs ys : List AsyncRow) (i : ℕ) (d : AsyncRow) (s : AsyncState) → i < length xs → length ys ≡ length xs → ys ≡ map abandoned_row (take i xs) ++ drop i xs
    → s ≡ abandoned_state (get_or ys i d).state → set ys i (record { ticket = (get_or ys i d).ticket; state = s }) ≡ map abandoned_row (take (i + 1) xs) ++ drop (i + 1) xs
row-passed xs ys i d s within long is written =
    ap (λ (t : AsyncState). set ys i (record { ticket = (get_or ys i d).ticket; state = t })) written
    ∙ map_over_more abandoned_row xs ys i (get_or ys i d) within is (get_or_default ys i d (get_or ys i d) (omega (arith, within, long)))

-- and has passed all
pub rows-passed : (n i : ℕ) (xs ys zs : List AsyncRow) → length xs ≡ n → length ys ≡ n → length xs ≤ i → ys ≡ map abandoned_row (take i xs) ++ drop i xs → take n (ys ++ zs) ≡ map abandoned_row xs
rows-passed n i xs ys zs long same past is =
    take-append-le n ys zs (omega (arith, same)) ∙ take_all n ys (omega (arith, same)) ∙ is ∙ rw (take_all i xs past, drop_all i xs past) (append-nil (map abandoned_row xs))
