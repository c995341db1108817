-- What the asynchronous hooks, the list of hooks and the book say of each other, as each of them changes.
use Rattle.std.proofs.Common.{◌≡◌, ◌∙◌, ℕ, ◌<◌, ◌==◌, nat_eq, Bool, true, false, not, ◌&&◌, ◌||◌, cond, List, [], ◌∷◌, ◌++◌, map, filter, find, Option, Some, None, option_map, slice_index_or, IfSome, refl, ap, sym, subst, arith}
use Rattle.std.specs.List.{All, AllByRecursion, IsDistinct}
use Rattle.std.specs.Option.{option_or, option_and_then}
use Rattle.std.proofs.lemmas.Bool.{eqb-true, eq-eqb, or_left, or_right, or_parts}
use Rattle.std.proofs.lemmas.Bool.Decides.{nat_tests}
use Rattle.std.proofs.lemmas.List.{map-append}
use Rattle.std.proofs.lemmas.List.Elements.{All-nil, All-head, All-tail, All-cons, All-push, All-map, All-weaker, All-filter}
use Rattle.std.proofs.lemmas.List.Folds.{list_any-append, find-append}
use Rattle.std.proofs.lemmas.Map.Keys.{IsDistinct-head, IsDistinct-tail, IsDistinct-cons}
use Rattle.std.proofs.lemmas.Map.Views.{any-filter_same}
use Rattle.napi_types.specs.declared.entry.Cause.TheVariants as cause
use Rattle.napi_types.specs.plain.Lists.{has, has_number}
use Rattle.napi_types.specs.parts.AsyncHooks.{AsyncHook, HookState, Set, Waiting, Abandoned, Removed, is_set, is_waiting, in_state, number_under, ticket_of_set, set_ticket, with_async_hook, with_removed, with_begun, with_abandoned, count_waiting}
use Rattle.napi_types.specs.parts.Book.{Book, Registration, cause_at, new_ticket, with_registration, TicketsRise}
use Rattle.napi_types.specs.parts.Hooks.{Hook, without_hook}
use Rattle.napi_types.specs.environment.Hooked.{IsForHook, StandsWhileSet, HasItsNumber, AsyncHooksAgree}
use Rattle.napi_types.specs.environment.HookCalls.{unhooked}
use Rattle.napi_types.proofs.plain.Lists.{of-map, option_or-none}
use Rattle.napi_types.proofs.plain.Found.{apart-below, apart-above, same-self}
use Rattle.napi_types.proofs.parts.Moved.{IsUnder, BeginsFor, under, at-cause, registration-within, registration_at-new}
use Rattle.napi_types.proofs.environment.HookedBooks.{KeepsCauses, rise-push, push-causes}

-- THEIR TICKETS
-- they were given
pub async-below : (book : Book) (others : List AsyncHook) → All (IsForHook book) others → All (λ h. h.ticket < new_ticket book) others
async-below book others all = All-weaker (IsForHook book) (λ h. h.ticket < new_ticket book) within others all
  where
    within : (h : AsyncHook) → IsForHook book h → h.ticket < new_ticket book
    within h is =
        let u : IsUnder (BeginsFor cause.Hook) book h.ticket = under book h.ticket cause.Hook is in
        registration-within book h.ticket u.registration u.there

-- none has a ticket that is above them all
none-found : (n : ℕ) (others : List AsyncHook) → All (λ h. h.ticket < n) others → find (λ h. h.ticket == n) others ≡ None
none-found n [] all = refl
none-found n (h ∷ others) all =
    ap (λ b. cond b (Some h) (find (λ (x : AsyncHook). x.ticket == n) others))
    (apart-below h.ticket n (All-head (λ (x : AsyncHook). x.ticket < n) h others all))
    ∙ none-found n others (All-tail (λ (x : AsyncHook). x.ticket < n) h others all)

-- where none has a ticket, each has another one
apart-from : (n : ℕ) (others : List AsyncHook) → number_under n others ≡ None → All (λ h. (h.ticket == n) ≡ false) others
apart-from n [] none = All-nil (λ h. (h.ticket == n) ≡ false)
apart-from n (h ∷ others) none = by (h.ticket == n) refl none (apart-from n others)
  where
    by : (b : Bool) → (h.ticket == n) ≡ b → option_map (λ (x : AsyncHook). x.number) (cond b (Some h) (find (λ (x : AsyncHook). x.ticket == n) others)) ≡ None
        → (number_under n others ≡ None → All (λ (x : AsyncHook). (x.ticket == n) ≡ false) others)
        → All (λ (x : AsyncHook). (x.ticket == n) ≡ false) (h ∷ others)
    by true is none later = let no : ⊥ = cc in absurd no
    by false is none later = All-cons (λ (x : AsyncHook). (x.ticket == n) ≡ false) h others is (later none)

-- THE BOOK CHANGES
pub async-book : (old new : Book) (hooks : List Hook) (others : List AsyncHook) → KeepsCauses old new → AsyncHooksAgree old hooks others
    → AsyncHooksAgree new hooks others
async-book old new hooks others causes a = record {
  rise = a.rise;
  given = All-weaker (IsForHook old) (IsForHook new) (λ h is. causes h.ticket cause.Hook is) others a.given;
  apart = a.apart;
  set = a.set;
  numbered = a.numbered;
}

-- STATES CHANGE
-- how far a hook has come changes, and neither its number nor its ticket
pub record KeepsNames (change : AsyncHook → AsyncHook) : Type 0 where
  pub number : (h : AsyncHook) → (change h).number ≡ h.number
  pub ticket : (h : AsyncHook) → (change h).ticket ≡ h.ticket

-- those stay set whose tickets stay in the list
abbrev pub StaysSet : (ℕ → Bool) → (AsyncHook → AsyncHook) → AsyncHook → Type 0
StaysSet stays change h = is_set (change h).state ≡ (stays h.ticket && is_set h.state)

module _ (change : AsyncHook → AsyncHook) (keeps : KeepsNames change) where
  pub same-told : {A : Type 0} (f : AsyncHook → A) → ((h : AsyncHook) → f (change h) ≡ f h) → (others : List AsyncHook)
      → map f (map change others) ≡ map f others
  same-told f same [] = refl
  same-told f same (h ∷ others) = ap (λ n. n ∷ map f (map change others)) (same h) ∙ ap (λ ns. f h ∷ ns) (same-told f same others)

  same-under : (n : ℕ) (others : List AsyncHook) → number_under n (map change others) ≡ number_under n others
  same-under n [] = refl
  same-under n (h ∷ others) =
      ap (λ t. option_map (λ (x : AsyncHook). x.number) (cond (t == n) (Some (change h)) (find (λ (x : AsyncHook). x.ticket == n) (map change others))))
      (keeps.ticket h)
      ∙ by (h.ticket == n) (same-under n others)
    where
      by : (b : Bool) → number_under n (map change others) ≡ number_under n others
          → option_map (λ (x : AsyncHook). x.number) (cond b (Some (change h)) (find (λ (x : AsyncHook). x.ticket == n) (map change others)))
          ≡ option_map (λ (x : AsyncHook). x.number) (cond b (Some h) (find (λ (x : AsyncHook). x.ticket == n) others))
      by true later = ap Some (keeps.number h)
      by false later = later

  -- the hooks stay whose tickets pass
  pub async-goes : (stays : ℕ → Bool) (old new : Book) (hooks : List Hook) (others : List AsyncHook) → KeepsCauses old new → All (StaysSet stays change) others
      → AsyncHooksAgree old hooks others → AsyncHooksAgree new (filter (λ h. stays h.ticket) hooks) (map change others)
  async-goes stays old new hooks others causes set a = record {
    rise = subst TicketsRise (sym (same-told (λ h. h.ticket) keeps.ticket others)) a.rise;
    given = All-map (IsForHook new) change others (All-weaker (IsForHook old) (λ h. IsForHook new (change h)) for-hook others a.given);
    apart = subst (IsDistinct nat_eq) (sym (same-told (λ h. h.number) keeps.number others)) a.apart;
    set = All-map (StandsWhileSet left) change others (λ k d inside. stands (slice_index_or others k d) (set k d inside) (a.set k d inside));
    numbered = All-filter (λ h. stays h.ticket) (HasItsNumber (map change others)) hooks
        (All-weaker (HasItsNumber others) (HasItsNumber (map change others)) (λ h is. same-under h.ticket others ∙ is) hooks a.numbered);
  }
    where
      left : List Hook
      left = filter (λ h. stays h.ticket) hooks

      for-hook : (h : AsyncHook) → IsForHook old h → IsForHook new (change h)
      for-hook h is = ap (cause_at new) (keeps.ticket h) ∙ causes h.ticket cause.Hook is

      stands : (h : AsyncHook) → StaysSet stays change h → StandsWhileSet hooks h → StandsWhileSet left (change h)
      stands h stay was =
          stay ∙ ap (λ b. stays h.ticket && b) was
          ∙ sym (any-filter_same (λ (x : Hook). x.ticket == h.ticket) (λ x. stays x.ticket) (stays h.ticket)
          (λ x same. ap stays (eqb-true x.ticket h.ticket same)) hooks)
          ∙ ap (λ n. has (λ (x : Hook). x.ticket) n left) (sym (keeps.ticket h))

-- a plain hook is taken off the list
pub same-rows : (others : List AsyncHook) → map (λ h. h) others ≡ others
same-rows [] = refl
same-rows (h ∷ others) = ap (λ hs. h ∷ hs) (same-rows others)

stays-apart : (stays set : Bool) → stays ≡ true → set ≡ (stays && set)
stays-apart true set is = refl
stays-apart false set is = cc

pub async-unhooked : (t : ℕ) (book : Book) (hooks : List Hook) (others : List AsyncHook) → number_under t others ≡ None → AsyncHooksAgree book hooks others
    → AsyncHooksAgree book (without_hook t hooks) others
async-unhooked t book hooks others none a =
    subst (AsyncHooksAgree book (without_hook t hooks)) (same-rows others)
    (async-goes (λ h. h) (record { number = λ h. refl; ticket = λ h. refl }) (λ n. not (n == t)) book book hooks others (λ n why is. is)
    (All-weaker (λ (h : AsyncHook). (h.ticket == t) ≡ false) (StaysSet (λ n. not (n == t)) (λ h. h))
    (λ h is. stays-apart (not (h.ticket == t)) (is_set h.state) (ap not is)) others
    (apart-from t others none)) a)

-- a hook begins
pub begun-keeps : (t : ℕ) → KeepsNames (λ h. cond (h.ticket == t) (in_state Waiting h) h)
begun-keeps t = record { number = λ h. by h (h.ticket == t); ticket = λ h. on h (h.ticket == t) }
  where
    by : (h : AsyncHook) (b : Bool) → (cond b (in_state Waiting h) h).number ≡ h.number
    by h true = refl
    by h false = refl

    on : (h : AsyncHook) (b : Bool) → (cond b (in_state Waiting h) h).ticket ≡ h.ticket
    on h true = refl
    on h false = refl

pub async-begun : (t : ℕ) (old new : Book) (hooks : List Hook) (others : List AsyncHook) → KeepsCauses old new → AsyncHooksAgree old hooks others
    → AsyncHooksAgree new (without_hook t hooks) (with_begun t others)
async-begun t old new hooks others causes a =
    async-goes (λ h. cond (h.ticket == t) (in_state Waiting h) h) (begun-keeps t) (λ n. not (n == t)) old new hooks others causes
    (λ k d inside. by (slice_index_or others k d) ((slice_index_or others k d).ticket == t)) a
  where
    by : (h : AsyncHook) (b : Bool) → is_set (cond b (in_state Waiting h) h).state ≡ (not b && is_set h.state)
    by h true = refl
    by h false = refl

-- those that wait are abandoned
pub abandoned-keeps : KeepsNames (λ h. cond (is_waiting h.state) (in_state Abandoned h) h)
abandoned-keeps = record { number = λ h. by h (is_waiting h.state); ticket = λ h. on h (is_waiting h.state) }
  where
    by : (h : AsyncHook) (b : Bool) → (cond b (in_state Abandoned h) h).number ≡ h.number
    by h true = refl
    by h false = refl

    on : (h : AsyncHook) (b : Bool) → (cond b (in_state Abandoned h) h).ticket ≡ h.ticket
    on h true = refl
    on h false = refl

every-stays : (hooks : List Hook) → filter (λ h. true) hooks ≡ hooks
every-stays [] = refl
every-stays (h ∷ hooks) = ap (λ hs. h ∷ hs) (every-stays hooks)

waiting-unset : (s : HookState) → is_waiting s ≡ true → is_set s ≡ false
waiting-unset Set is = sym is
waiting-unset _ is = refl

pub async-abandoned : (book : Book) (hooks : List Hook) (others : List AsyncHook) → AsyncHooksAgree book hooks others
    → AsyncHooksAgree book hooks (with_abandoned others)
async-abandoned book hooks others a =
    subst (λ hs. AsyncHooksAgree book hs (with_abandoned others)) (every-stays hooks)
    (async-goes (λ h. cond (is_waiting h.state) (in_state Abandoned h) h) abandoned-keeps (λ n. true) book book hooks others (λ n why is. is)
    (λ k d inside. by (slice_index_or others k d)) a)
  where
    by : (h : AsyncHook) → is_set (cond (is_waiting h.state) (in_state Abandoned h) h).state ≡ is_set h.state
    by h = on (is_waiting h.state) (waiting-unset h.state)
      where
        on : (b : Bool) → (b ≡ true → is_set h.state ≡ false) → is_set (cond b (in_state Abandoned h) h).state ≡ is_set h.state
        on true unset = sym (unset refl)
        on false unset = refl

-- one is removed
pub removed-keeps : (n : ℕ) → KeepsNames (λ h. cond (h.number == n) (in_state Removed h) h)
removed-keeps n = record { number = λ h. by h (h.number == n); ticket = λ h. on h (h.number == n) }
  where
    by : (h : AsyncHook) (b : Bool) → (cond b (in_state Removed h) h).number ≡ h.number
    by h true = refl
    by h false = refl

    on : (h : AsyncHook) (b : Bool) → (cond b (in_state Removed h) h).ticket ≡ h.ticket
    on h true = refl
    on h false = refl

-- the tickets of the hooks that stay in the list where one is taken off it
abbrev stays_without : Option ℕ → ℕ → Bool
stays_without None n = true
stays_without (Some t) n = not (n == t)

-- a ticket of a hook that is set is that of a hook
set-above : (n m : ℕ) (others : List AsyncHook) → All (λ k. m < k) (map (λ (h : AsyncHook). h.ticket) others) → IfSome (set_ticket n others) (λ t. m < t)
set-above n m [] all = tt
set-above n m (h ∷ others) all = by (h.number == n) (set-above n m others (All-tail (λ k. m < k) h.ticket (map (λ (x : AsyncHook). x.ticket) others) all))
  where
    P : ℕ → Type 0
    P k = m < k

    on : (s : HookState) → IfSome (ticket_of_set h s) P
    on Set = All-head P h.ticket (map (λ (x : AsyncHook). x.ticket) others) all
    on Waiting = tt
    on Abandoned = tt
    on Removed = tt

    by : (b : Bool) → IfSome (set_ticket n others) P → IfSome
        (option_and_then (λ (x : AsyncHook). ticket_of_set x x.state) (cond b (Some h) (find (λ (x : AsyncHook). x.number == n) others))) P
    by true later = on h.state
    by false later = later

-- those after one have other numbers and higher tickets
others-apart : (n : ℕ) (h : AsyncHook) (others : List AsyncHook) → h.number ≡ n
    → AllByRecursion (λ m. nat_eq h.number m ≡ false) (map (λ (x : AsyncHook). x.number) others)
    → All (λ x. (x.number == n) ≡ false) others
others-apart n h [] is all = All-nil (λ (x : AsyncHook). (x.number == n) ≡ false)
others-apart n h (x ∷ others) is all =
    All-cons (λ (y : AsyncHook). (y.number == n) ≡ false) x others (other h.number x.number n is all.0) (others-apart n h others is all.1)
  where
    other : (a b n : ℕ) → a ≡ n → nat_eq a b ≡ false → (b == n) ≡ false
    other a b n same apart = grind (arith, nat_tests)

abbrev removed : ℕ → AsyncHook → AsyncHook
removed n h = cond (h.number == n) (in_state Removed h) h

-- whatever the number, one stays set whose number is another
other-stays : (stays : ℕ → Bool) (n : ℕ) (h : AsyncHook) → (h.number == n) ≡ false → stays h.ticket ≡ true → StaysSet stays (removed n) h
other-stays stays n h other passes = ap (λ b. is_set (cond b (in_state Removed h) h).state) other ∙ stays-apart (stays h.ticket) (is_set h.state) passes

removed-set : (n : ℕ) (others : List AsyncHook) → TicketsRise (map (λ h. h.ticket) others) → IsDistinct nat_eq (map (λ h. h.number) others)
    → All (StaysSet (stays_without (set_ticket n others)) (removed n)) others
removed-set n [] rise apart = All-nil (StaysSet (stays_without None) (removed n))
removed-set n (h ∷ others) rise apart =
    by (h.number == n) refl (removed-set n others rise.1 (IsDistinct-tail nat_eq h.number (map (λ (x : AsyncHook). x.number) others) apart))
  where
    numbers : List ℕ
    numbers = map (λ (x : AsyncHook). x.number) others

    after : HookState → ℕ → Bool
    after s = stays_without (ticket_of_set h s)

    here : (s : HookState) → false ≡ (after s h.ticket && is_set s)
    here Set = sym (ap (λ b. not b && true) (same-self h.ticket))
    here Waiting = refl
    here Abandoned = refl
    here Removed = refl

    above : (s : HookState) (x : AsyncHook) → h.ticket < x.ticket → after s x.ticket ≡ true
    above Set x less = ap not (apart-above h.ticket x.ticket less)
    above Waiting x less = refl
    above Abandoned x less = refl
    above Removed x less = refl

    below : (t : Option ℕ) → IfSome t (λ k. h.ticket < k) → stays_without t h.ticket ≡ true
    below None less = refl
    below (Some k) less = ap not (apart-below h.ticket k less)

    by : (b : Bool) → (h.number == n) ≡ b → All (StaysSet (stays_without (set_ticket n others)) (removed n)) others
        → All (StaysSet (stays_without
        (option_and_then (λ (x : AsyncHook). ticket_of_set x x.state) (cond b (Some h) (find (λ (x : AsyncHook). x.number == n) others)))) (removed n))
        (h ∷ others)
    by true is later =
        let differ : All (λ (x : AsyncHook). (x.number == n) ≡ false) others =
        others-apart n h others (eqb-true h.number n is) (IsDistinct-head nat_eq h.number numbers apart) in
        let rising : All (λ (x : AsyncHook). h.ticket < x.ticket) others = of-map (λ m. h.ticket < m) (λ (x : AsyncHook). x.ticket) others rise.0 in
        All-cons (StaysSet (after h.state) (removed n)) h others (ap (λ b. is_set (cond b (in_state Removed h) h).state) is ∙ here h.state)
        (λ k d inside. other-stays (after h.state) n (slice_index_or others k d) (differ k d inside)
        (above h.state (slice_index_or others k d) (rising k d inside)))
    by false is later =
        All-cons (StaysSet (stays_without (set_ticket n others)) (removed n)) h others
        (other-stays (stays_without (set_ticket n others)) n h is (below (set_ticket n others) (set-above n h.ticket others rise.0))) later

unhooked-filter : (t : Option ℕ) (hooks : List Hook) → filter (λ h. stays_without t h.ticket) hooks ≡ unhooked t hooks
unhooked-filter None hooks = every-stays hooks
unhooked-filter (Some t) hooks = refl

pub async-removed : (n : ℕ) (book : Book) (hooks : List Hook) (others : List AsyncHook) → AsyncHooksAgree book hooks others
    → AsyncHooksAgree book (unhooked (set_ticket n others) hooks) (with_removed n others)
async-removed n book hooks others a =
    subst (λ hs. AsyncHooksAgree book hs (with_removed n others)) (unhooked-filter (set_ticket n others) hooks)
    (async-goes (removed n) (removed-keeps n) (stays_without (set_ticket n others)) book book hooks others (λ n why is. is)
    (removed-set n others a.rise a.apart) a)

-- ONE MORE
pub distinct-none : IsDistinct nat_eq []
unfolding IsDistinct
distinct-none = tt

apart-push : (m n : ℕ) (ns : List ℕ) → AllByRecursion (λ k. nat_eq m k ≡ false) ns → nat_eq m n ≡ false
    → AllByRecursion (λ k. nat_eq m k ≡ false) (ns ++ n ∷ [])
apart-push m n [] all apart = (apart, tt)
apart-push m n (k ∷ ns) all apart = (all.0, apart-push m n ns all.1 apart)

distinct-push : (ns : List ℕ) (n : ℕ) → IsDistinct nat_eq ns → has_number n ns ≡ false → IsDistinct nat_eq (ns ++ n ∷ [])
distinct-push [] n apart fresh = IsDistinct-cons nat_eq n [] tt distinct-none
distinct-push (m ∷ ns) n apart fresh =
    let parts = or_parts (m == n) (has_number n ns) fresh in
    IsDistinct-cons nat_eq m (ns ++ n ∷ []) (apart-push m n ns (IsDistinct-head nat_eq m ns apart) parts.0)
    (distinct-push ns n (IsDistinct-tail nat_eq m ns apart) parts.1)

beside : (a b : Bool) → b ≡ false → a ≡ (a || (b || false))
beside true b is = refl
beside false true is = cc
beside false false is = refl

module _ (book : Book) (r : Registration) (hooks : List Hook) (others : List AsyncHook) (a : AsyncHooksAgree book hooks others) where
  -- a hook more in the list, of a new ticket, leaves those that were there
  module _ (h : Hook) (new : h.ticket ≡ new_ticket book) where
    more-given : All (IsForHook (with_registration r book)) others
    more-given = All-weaker (IsForHook book) (IsForHook (with_registration r book)) (λ x is. push-causes r book x.ticket cause.Hook is) others a.given

    more-set : All (StandsWhileSet (hooks ++ h ∷ [])) others
    more-set = λ k d inside. stands (slice_index_or others k d) (async-below book others a.given k d inside) (a.set k d inside)
      where
        stands : (x : AsyncHook) → x.ticket < new_ticket book → StandsWhileSet hooks x → StandsWhileSet (hooks ++ h ∷ []) x
        stands x below was =
            was ∙ beside (has (λ (y : Hook). y.ticket) x.ticket hooks) (h.ticket == x.ticket)
            (ap (λ n. n == x.ticket) new ∙ apart-above x.ticket (new_ticket book) below)
            ∙ sym (list_any-append (λ (y : Hook). y.ticket == x.ticket) hooks (h ∷ []))

    -- a plain one
    pub async-plain : h.number ≡ None → AsyncHooksAgree (with_registration r book) (hooks ++ h ∷ []) others
    async-plain plain = record {
      rise = a.rise;
      given = more-given;
      apart = a.apart;
      set = more-set;
      numbered = All-push (HasItsNumber others) hooks h a.numbered (ap (λ n. number_under n others) new
          ∙ ap (λ o. option_map (λ (x : AsyncHook). x.number) o) (none-found (new_ticket book) others (async-below book others a.given)) ∙ sym plain);
    }

    -- an asynchronous one
    pub async-added : (n : ℕ) → h.number ≡ Some n → r.cause ≡ cause.Hook → has_number n (map (λ (x : AsyncHook). x.number) others) ≡ false
        → All (λ x. x.ticket < new_ticket book) hooks → AsyncHooksAgree (with_registration r book) (hooks ++ h ∷ [])
        (with_async_hook n (new_ticket book) others)
    async-added n number why fresh within = record {
      rise = subst TicketsRise (sym (map-append (λ (x : AsyncHook). x.ticket) others (row ∷ [])))
          (rise-push (map (λ (x : AsyncHook). x.ticket) others) (new_ticket book)
          (All-map (λ m. m < new_ticket book) (λ (x : AsyncHook). x.ticket) others below) a.rise);
      given = All-push (IsForHook (with_registration r book)) others row more-given
          (at-cause (with_registration r book) (new_ticket book) r (registration_at-new book r) ∙ ap Some why);
      apart = subst (IsDistinct nat_eq) (sym (map-append (λ (x : AsyncHook). x.number) others (row ∷ [])))
          (distinct-push (map (λ (x : AsyncHook). x.number) others) n a.apart fresh);
      set = All-push (StandsWhileSet (hooks ++ h ∷ [])) others row more-set
          (sym (list_any-append (λ (y : Hook). y.ticket == new_ticket book) hooks (h ∷ [])
          ∙ or_right (has (λ (y : Hook). y.ticket) (new_ticket book) hooks) _
          (or_left (h.ticket == new_ticket book) false (eq-eqb h.ticket (new_ticket book) new))));
      numbered = All-push (HasItsNumber (with_async_hook n (new_ticket book) others)) hooks h
          (λ k d inside. old-number (slice_index_or hooks k d) (within k d inside) (a.numbered k d inside)) new-number;
    }
      where
        row : AsyncHook
        row = record { number = n; ticket = new_ticket book; state = Set }

        below : All (λ (x : AsyncHook). x.ticket < new_ticket book) others
        below = async-below book others a.given

        old-number : (x : Hook) → x.ticket < new_ticket book → HasItsNumber others x → HasItsNumber (with_async_hook n (new_ticket book) others) x
        old-number x less is =
            ap (λ o. option_map (λ (y : AsyncHook). y.number) o)
            (find-append (λ (y : AsyncHook). y.ticket == x.ticket) others (row ∷ [])
            ∙ ap (λ b. option_or (find (λ (y : AsyncHook). y.ticket == x.ticket) others) (cond b (Some row) None)) (apart-above x.ticket (new_ticket book) less)
            ∙ option_or-none (find (λ (y : AsyncHook). y.ticket == x.ticket) others))
            ∙ is

        new-number : HasItsNumber (with_async_hook n (new_ticket book) others) h
        new-number =
            ap (λ m. number_under m (with_async_hook n (new_ticket book) others)) new
            ∙ ap (λ o. option_map (λ (y : AsyncHook). y.number) o)
            (find-append (λ (y : AsyncHook). y.ticket == new_ticket book) others (row ∷ [])
            ∙ ap (λ o. option_or o (cond (new_ticket book == new_ticket book) (Some row) None)) (none-found (new_ticket book) others below)
            ∙ ap (λ b. cond b (Some row) None) (same-self (new_ticket book)))
            ∙ sym number

-- once they are abandoned none waits
pub none-waiting : (hooks : List AsyncHook) → count_waiting (with_abandoned hooks) ≡ 0
none-waiting [] = refl
none-waiting (h ∷ hs) = by (is_waiting h.state) refl (none-waiting hs)
  where
    by : (b : Bool) → is_waiting h.state ≡ b → count_waiting (with_abandoned hs) ≡ 0 → count_waiting (cond b (in_state Abandoned h) h ∷ with_abandoned hs) ≡ 0
    by true is later = later
    by false is later = rw is later
