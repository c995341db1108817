-- Promises and their deferreds stay finite maps, and fit the values, as promises are made, settled, given reactions and collected.
use Rattle.std.proofs.Common.{◌≡◌, ◌≢◌, ◌≤◌, ◌∙◌, arith, ℕ, ◌+◌, ◌==◌, nat_eq, nat_lt, Bool, true, false, not, cond, List, [], ◌∷◌, map, filter, refl, ap, sym, subst, Option, Some, None, IsSome, is_some, option_map, slice_index_or, inl, inr}
use Rattle.std.specs.List.{All, IsDistinct, count_by}
use Rattle.std.proofs.lemmas.Bool.{eq-eqb, ne_eqb, cases_eq, le-ltb, ltb-true, or_left, or_right}
use Rattle.std.proofs.lemmas.List.Elements.{All-nil, All-cons, All-filter, All-map, All-weaker, filter_passes}
use Rattle.std.proofs.lemmas.Map.Keys.{IsDistinct-head, IsDistinct-tail}
use Rattle.napi_types.specs.declared.entry.Duty.{Duty}
use Rattle.napi_types.specs.declared.entry.Duty.TheVariants as duty
use Rattle.napi_types.specs.plain.Lists.{found, has_number, with_record, with_number}
use Rattle.napi_types.specs.parts.Promises.{Promise, Deferred, Promises, no_promises, deferred_promise, with_promise, with_settled, with_reaction, promises_left}
use Rattle.napi_types.specs.parts.Values.{Value, link_of, value_changed, with_link}
use Rattle.napi_types.specs.environment.Collection.{is_freed}
use Rattle.napi_types.specs.environment.Ends.{reaction_ended}
use Rattle.napi_types.specs.environment.Environment.{Environment}
use Rattle.napi_types.specs.environment.Roots.{reach}
use Rattle.napi_types.proofs.plain.Found.{found-All, found-changed, found-filter, found-number, found-with_record, has-with_number, rising-changed, rising-filter, rising-with_record, same-self, same-tells, turned}
use Rattle.napi_types.proofs.plain.Maps.{All-with_record}
use Rattle.napi_types.proofs.plain.Tallies.{tally-append}
use Rattle.machine_laws.specs.Consistency.{ArePromisesOf, IsLiveAmong, IsPromiseMap, reactions_in}
use Rattle.machine_laws.proofs.Collected.{kept, live-reached, of-each, passes-stay, within-filter}
use Rattle.machine_laws.proofs.KeptLinks.{KeepsLinks, link-other, link-set, link-stays}
use Rattle.machine_laws.proofs.Counting.{Within, count-cons, distinct-from, distinct-times, one_when, times, within-map}
use Rattle.machine_laws.proofs.Reactions.{AreBelow, RiseIn, ended_promise, fewer-ended, reacting_promise, rise-ended, rise-reacting, times-left, times-made, times-reacting, times-remade, times_in}

-- the value of a promise, and the number and the promise of a deferred
abbrev pub promised_value : Promise → ℕ
promised_value r = r.value

abbrev pub deferred_number : Deferred → ℕ
deferred_number d = d.number

abbrev pub deferred_value : Deferred → ℕ
deferred_value d = d.promise

-- TESTS
passes-not : (b : Bool) → not b ≡ true → b ≡ false
passes-not false is = refl
passes-not true is = cc

-- LISTS
-- a finite map with one record more has no more of anything than the others and this one
module _ {A : Type 0} (number : A → ℕ) (x : A) (p : A → Bool) where
  parts-fewer : (xs : List A)
      → count_by p (filter (λ y. nat_lt (number y) (number x)) xs) + count_by p (filter (λ y. nat_lt (number x) (number y)) xs) ≤ count_by p xs
  parts-fewer [] = omega arith
  parts-fewer (y ∷ ys) =
      by (nat_lt (number y) (number x)) (nat_lt (number x) (number y))
      (λ below. le-ltb (number x) (number y) (omega (arith, ltb-true (number y) (number x) below))) (parts-fewer ys)
    where
      lower : List A
      lower = filter (λ z. nat_lt (number z) (number x)) ys

      higher : List A
      higher = filter (λ z. nat_lt (number x) (number z)) ys

      by : (a b : Bool) → (a ≡ true → b ≡ false) → count_by p lower + count_by p higher ≤ count_by p ys
          → count_by p (cond a (y ∷ lower) lower) + count_by p (cond b (y ∷ higher) higher) ≤ count_by p (y ∷ ys)
      by true true apart rest = let no = apart refl in cc
      by true false apart rest = omega (arith, rest, count-cons p y lower, count-cons p y ys)
      by false true apart rest = omega (arith, rest, count-cons p y higher, count-cons p y ys)
      by false false apart rest = omega (arith, rest, count-cons p y ys)

within-with_record : {A : Type 0} (number : A → ℕ) (x : A) (xs : List A) → Within (with_record number x xs) xs (x ∷ [])
within-with_record number x xs p =
    let higher = filter (λ y. nat_lt (number x) (number y)) xs in
    omega (
      arith,
      tally-append p (filter (λ y. nat_lt (number y) (number x)) xs) (x ∷ higher),
      count-cons p x higher,
      count-cons p x [],
      parts-fewer number x p xs,
    )

-- PROMISES THAT ARE PENDING
-- the state of the promise of a value
abbrev state_among : List Promise → ℕ → Option ℕ
state_among rs v = option_map (λ (r : Promise). r.state) (found promised_value v rs)

abbrev IsPendingAmong : List Promise → Deferred → Type 0
IsPendingAmong rs d = state_among rs d.promise ≡ Some 0

-- a new one is pending, and the others are as they were
abbrev pending_promise : ℕ → Promise
pending_promise v = record { value = v; state = 0; reactions = [] }

new-state : (v : ℕ) (rs : List Promise) → state_among (with_record promised_value (pending_promise v) rs) v ≡ Some 0
new-state v rs =
    ap (option_map (λ (r : Promise). r.state))
    (found-with_record promised_value v (pending_promise v) rs ∙ ap (λ b. cond b (Some (pending_promise v)) (found promised_value v rs)) (same-self v))

old-state : (v m : ℕ) (rs : List Promise) → (m == v) ≡ false → state_among (with_record promised_value (pending_promise v) rs) m ≡ state_among rs m
old-state v m rs other =
    ap (option_map (λ (r : Promise). r.state))
    (found-with_record promised_value m (pending_promise v) rs
    ∙ ap (λ b. cond b (Some (pending_promise v)) (found promised_value m rs)) (turned v m ∙ other))

-- so are all but the one that is settled
same-value : (v state : ℕ) (r : Promise) (b : Bool) → (cond b (record r { state = state }) r).value ≡ r.value
same-value v state r true = refl
same-value v state r false = refl

abbrev pub settled_promise : ℕ → ℕ → Promise → Promise
settled_promise v state r = cond (r.value == v) (record r { state = state }) r

kept-value : (v state : ℕ) (r : Promise) → (settled_promise v state r).value ≡ r.value
kept-value v state r = same-value v state r (r.value == v)

other-state : (v state m : ℕ) (rs : List Promise) → (m == v) ≡ false → state_among (map (settled_promise v state) rs) m ≡ state_among rs m
other-state v state m rs other =
    ap (option_map (λ (r : Promise). r.state)) (found-changed promised_value (settled_promise v state) (kept-value v state) m rs)
    ∙ by (found promised_value m rs) refl
  where
    by : (o : Option Promise) → found promised_value m rs ≡ o
        → option_map (λ (r : Promise). r.state) (option_map (settled_promise v state) o) ≡ option_map (λ (r : Promise). r.state) o
    by None is = refl
    by (Some r) is =
        ap (λ b. Some (cond b (record r { state = state }) r).state) (ap (λ k. k == v) (found-number promised_value m rs r is) ∙ other)

-- DEFERREDS OF DIFFERENT PROMISES
abbrev AreOfOwnPromises : List Deferred → Type 0
AreOfOwnPromises ds = IsDistinct nat_eq (map deferred_value ds)

apart-fewer : (test : Deferred → Bool) (ds : List Deferred) → AreOfOwnPromises ds → AreOfOwnPromises (filter test ds)
apart-fewer test ds apart =
    distinct-from (map deferred_value (filter test ds))
    (λ m. omega (arith, within-map deferred_value (filter test ds) ds [] (within-filter test ds) (λ k. k == m), distinct-times m (map deferred_value ds) apart))

-- without those of a promise none is
abbrev of_others : ℕ → List Deferred → List Deferred
of_others v ds = filter (λ d. not (d.promise == v)) ds

gone-times : (v : ℕ) (ds : List Deferred) → times v (map deferred_value (of_others v ds)) ≡ 0
gone-times v [] = refl
gone-times v (d ∷ ds) = by (d.promise == v) refl (gone-times v ds)
  where
    by : (b : Bool) → (d.promise == v) ≡ b → times v (map deferred_value (of_others v ds)) ≡ 0
        → times v (map deferred_value (cond (not b) (d ∷ of_others v ds) (of_others v ds))) ≡ 0
    by true is later = later
    by false is later = omega (arith, later, count-cons (λ k. k == v) d.promise (map deferred_value (of_others v ds)), ap one_when is)

apart-more : (v n : ℕ) (ds : List Deferred) → AreOfOwnPromises ds
    → AreOfOwnPromises (with_record deferred_number (record { number = n; promise = v }) (of_others v ds))
apart-more v n ds apart = distinct-from (map deferred_value new) at-most
  where
    x : Deferred
    x = record { number = n; promise = v }

    new : List Deferred
    new = with_record deferred_number x (of_others v ds)

    within : Within (map deferred_value new) (map deferred_value (of_others v ds)) (v ∷ [])
    within = within-map deferred_value new (of_others v ds) (x ∷ []) (within-with_record deferred_number x (of_others v ds))

    itself : times v (map deferred_value new) ≤ 1
    itself = omega (arith, within (λ k. k == v), count-cons (λ k. k == v) v [], ap one_when (eq-eqb v v refl), gone-times v ds)

    at-most : (m : ℕ) → times m (map deferred_value new) ≤ 1
    at-most m =
        elim (cases_eq v m) [
          | inl same ↦ subst (λ k. times k (map deferred_value new) ≤ 1) same itself
          | inr other ↦
              let fewer : times m (map deferred_value (of_others v ds)) ≤ 1 =
              distinct-times m (map deferred_value (of_others v ds)) (apart-fewer (λ d. not (d.promise == v)) ds apart) in
              omega (arith, within (λ k. k == m), count-cons (λ k. k == m) v [], ap one_when (ne_eqb v m other), fewer)
        ]

-- no deferred but that of a number is of its promise
abbrev pub of_other_numbers : ℕ → List Deferred → List Deferred
of_other_numbers n ds = filter (λ d. not (d.number == n)) ds

pub others-apart : (n v : ℕ) (ds : List Deferred) → AreOfOwnPromises ds → option_map deferred_value (found deferred_number n ds) ≡ Some v
    → All (λ d. (d.promise == v) ≡ false) (of_other_numbers n ds)
others-apart n v [] apart is = All-nil (λ d. (d.promise == v) ≡ false)
others-apart n v (d ∷ ds) apart is = by (d.number == n) is (others-apart n v ds (IsDistinct-tail nat_eq d.promise (map deferred_value ds) apart))
  where
    P : Deferred → Type 0
    P x = (x.promise == v) ≡ false

    heads : All (λ x. nat_eq d.promise x.promise ≡ false) ds
    heads = of-each (λ m. nat_eq d.promise m ≡ false) deferred_value ds (IsDistinct-head nat_eq d.promise (map deferred_value ds) apart)

    first : (o : Option Deferred) → found deferred_number n ds ≡ o → option_map deferred_value o ≡ Some v → (d.promise == v) ≡ false
    first None is told = cc
    first (Some x) is told =
        let it : x.promise ≡ v = cc in
        subst (λ k. (d.promise == k) ≡ false) it (found-All deferred_number (λ y. nat_eq d.promise y.promise ≡ false) n ds x heads is)

    by : (b : Bool) → option_map deferred_value (cond b (Some d) (found deferred_number n ds)) ≡ Some v
        → (option_map deferred_value (found deferred_number n ds) ≡ Some v → All P (of_other_numbers n ds))
        → All P (cond (not b) (d ∷ of_other_numbers n ds) (of_other_numbers n ds))
    by true told later =
        let it : d.promise ≡ v = cc in
        All-filter (λ x. not (x.number == n)) P ds
        (All-weaker (λ x. nat_eq d.promise x.promise ≡ false) P (λ x other. turned x.promise v ∙ subst (λ k. (k == x.promise) ≡ false) it other) ds heads)
    by false told later = All-cons P d (of_other_numbers n ds) (first (found deferred_number n ds) refl told) (later told)

-- LINKS
-- what settled it is the link of a promise that is settled, and that of a deferred has none
abbrev IsLinkedAmong : List Value → Promise → Type 0
IsLinkedAmong vs r = r.state ≢ 0 → IsSome (link_of vs r.value)

abbrev IsUnlinkedAmong : List Value → Deferred → Type 0
IsUnlinkedAmong vs d = link_of vs d.promise ≡ None

-- so has the promise of a deferred
pub unsettled-link : (n v : ℕ) (vs : List Value) (p : Promises) → deferred_promise p n ≡ Some v → ArePromisesOf vs p → link_of vs v ≡ None
unsettled-link n v vs p is h = by (found deferred_number n p.deferreds) refl is
  where
    by : (o : Option Deferred) → found deferred_number n p.deferreds ≡ o → option_map deferred_value o ≡ Some v → link_of vs v ≡ None
    by None here told = cc
    by (Some d) here told =
        let it : d.promise ≡ v = cc in
        subst (λ m. link_of vs m ≡ None) it (found-All deferred_number (IsUnlinkedAmong vs) n p.deferreds d h.unsettled here)

-- THE MAPS
pub none-promised : (vs : List Value) → ArePromisesOf vs no_promises
none-promised vs = record {
  rows = record {
    promises = tt;
    deferreds = tt;
    numbers = tt;
    issued = All-nil (λ (d : Deferred). has_number d.number [] ≡ true);
    pending = All-nil (IsPendingAmong []);
    apart = distinct-from [] (λ m. omega arith);
    reactions = All-nil RiseIn;
    once = distinct-from [] (λ m. omega arith);
  };
  live = All-nil (λ (r : Promise). IsLiveAmong vs r.value);
  deferred = All-nil (λ (d : Deferred). IsLiveAmong vs d.promise);
  unsettled = All-nil (IsUnlinkedAmong vs);
  settled = All-nil (IsLinkedAmong vs);
}

-- more values are live, and no link changes
pub wider-promised : (vs ws : List Value) (p : Promises) → ((n : ℕ) → IsLiveAmong vs n → IsLiveAmong ws n) → KeepsLinks vs ws → ArePromisesOf vs p
    → ArePromisesOf ws p
wider-promised vs ws p live links h = record {
  rows = h.rows;
  live = All-weaker (λ (r : Promise). IsLiveAmong vs r.value) (λ r. IsLiveAmong ws r.value) (λ r. live r.value) p.promises h.live;
  deferred = All-weaker (λ (d : Deferred). IsLiveAmong vs d.promise) (λ d. IsLiveAmong ws d.promise) (λ d. live d.promise) p.deferreds h.deferred;
  unsettled = λ k d below. links _ (h.deferred k d below) ∙ h.unsettled k d below;
  settled = λ k d below some. subst IsSome (sym (links _ (h.live k d below))) (h.settled k d below some);
}

-- a value becomes a promise
more-map : (v n : ℕ) (p : Promises) → IsPromiseMap p → IsPromiseMap (with_promise v n p)
more-map v n p h =
    let test : Deferred → Bool = λ d. not (d.promise == v) in
    let x : Deferred = record { number = n; promise = v } in
    let rs : List Promise = with_record promised_value (pending_promise v) p.promises in
    let P : Deferred → Type 0 = λ d. has_number d.number p.issued ≡ true in
    let Q : Deferred → Type 0 = λ d. has_number d.number (with_number n p.issued) ≡ true in
    let wider : All Q p.deferreds =
    All-weaker P Q (λ d there. has-with_number d.number n p.issued ∙ or_right (n == d.number) (has_number d.number p.issued) there) p.deferreds h.issued in
    let before : All (IsPendingAmong p.promises) (of_others v p.deferreds) = All-filter test (IsPendingAmong p.promises) p.deferreds h.pending in
    let other : All (λ d. test d ≡ true) (of_others v p.deferreds) = filter_passes test p.deferreds in
    let still : All (IsPendingAmong rs) (of_others v p.deferreds) =
    λ k d below. old-state v _ p.promises (passes-not _ (other k d below)) ∙ before k d below in
    record {
      promises = rising-with_record promised_value (pending_promise v) p.promises h.promises;
      deferreds = rising-with_record deferred_number x (of_others v p.deferreds) (rising-filter deferred_number test p.deferreds h.deferreds);
      numbers = rising-with_record (λ k. k) n p.issued h.numbers;
      issued = All-with_record deferred_number x Q (of_others v p.deferreds)
          (has-with_number n n p.issued ∙ or_left (n == n) (has_number n p.issued) (same-self n)) (All-filter test Q p.deferreds wider);
      pending = All-with_record deferred_number x (IsPendingAmong rs) (of_others v p.deferreds) (new-state v p.promises) still;
      apart = apart-more v n p.deferreds h.apart;
      reactions = All-with_record promised_value (pending_promise v) RiseIn p.promises tt h.reactions;
      once = distinct-from (reactions_in rs) (λ m. omega (arith, times-made m v p.promises, distinct-times m (reactions_in p.promises) h.once));
    }

-- a live value without a link becomes a promise
pub more-promised : (v n : ℕ) (vs : List Value) (p : Promises) → IsLiveAmong vs v → link_of vs v ≡ None → ArePromisesOf vs p
    → ArePromisesOf vs (with_promise v n p)
more-promised v n vs p live none h = record {
  rows = more-map v n p h.rows;
  live = All-with_record promised_value (pending_promise v) (λ r. IsLiveAmong vs r.value) p.promises live h.live;
  deferred = All-with_record deferred_number (record { number = n; promise = v }) (λ d. IsLiveAmong vs d.promise) (of_others v p.deferreds) live
      (All-filter (λ d. not (d.promise == v)) (λ d. IsLiveAmong vs d.promise) p.deferreds h.deferred);
  unsettled = All-with_record deferred_number (record { number = n; promise = v }) (IsUnlinkedAmong vs) (of_others v p.deferreds) none
      (All-filter (λ d. not (d.promise == v)) (IsUnlinkedAmong vs) p.deferreds h.unsettled);
  settled = All-with_record promised_value (pending_promise v) (IsLinkedAmong vs) p.promises (λ some. absurd (some refl)) h.settled;
}

-- a deferred is settled
settled-map : (n v state : ℕ) (p : Promises) → deferred_promise p n ≡ Some v → IsPromiseMap p → IsPromiseMap (with_settled n v state p)
settled-map n v state p is h =
    let test : Deferred → Bool = λ d. not (d.number == n) in
    let rs : List Promise = map (settled_promise v state) p.promises in
    let other : All (λ d. (d.promise == v) ≡ false) (of_other_numbers n p.deferreds) = others-apart n v p.deferreds h.apart is in
    let before : All (IsPendingAmong p.promises) (of_other_numbers n p.deferreds) = All-filter test (IsPendingAmong p.promises) p.deferreds h.pending in
    record {
      promises = rising-changed promised_value (settled_promise v state) (kept-value v state) p.promises h.promises;
      deferreds = rising-filter deferred_number test p.deferreds h.deferreds;
      numbers = h.numbers;
      issued = All-filter test (λ d. has_number d.number p.issued ≡ true) p.deferreds h.issued;
      pending = λ k d below. other-state v state _ p.promises (other k d below) ∙ before k d below;
      apart = apart-fewer test p.deferreds h.apart;
      reactions = All-map RiseIn (settled_promise v state) p.promises
          (λ k d below. same-rise (slice_index_or p.promises k d) (_ == v) (h.reactions k d below));
      once = distinct-from (reactions_in rs)
          (λ m. omega (
            arith,
            times-remade m (settled_promise v state) (λ r. same-times m r (r.value == v)) p.promises,
            distinct-times m (reactions_in p.promises) h.once,
          ));
    }
  where
    same-rise : (r : Promise) (b : Bool) → RiseIn r → RiseIn (cond b (record r { state = state }) r)
    same-rise r true rise = rise
    same-rise r false rise = rise

    same-times : (m : ℕ) (r : Promise) (b : Bool) → times m (cond b (record r { state = state }) r).reactions ≤ times m r.reactions
    same-times m r true = omega arith
    same-times m r false = omega arith

-- .. with a value, which is then the link of its promise
pub settled-promised : (n v state to : ℕ) (vs : List Value) (p : Promises) → deferred_promise p n ≡ Some v
    → ((m : ℕ) → IsLiveAmong vs m → IsLiveAmong (value_changed v (with_link to) vs) m) → ArePromisesOf vs p
    → ArePromisesOf (value_changed v (with_link to) vs) (with_settled n v state p)
settled-promised n v state to vs p is live h =
    let P : Promise → Type 0 = λ r. IsLiveAmong ws r.value in
    let other : All (λ d. (d.promise == v) ≡ false) (of_other_numbers n p.deferreds) = others-apart n v p.deferreds h.rows.apart is in
    let before : All (IsUnlinkedAmong vs) (of_other_numbers n p.deferreds) =
    All-filter (λ d. not (d.number == n)) (IsUnlinkedAmong vs) p.deferreds h.unsettled in
    record {
      rows = settled-map n v state p is h.rows;
      live = All-map P (settled_promise v state) p.promises
          (λ k d below. rw (kept-value v state (slice_index_or p.promises k d)) (live _ (h.live k d below)));
      deferred = All-filter (λ d. not (d.number == n)) (λ d. IsLiveAmong ws d.promise) p.deferreds (λ k d below. live _ (h.deferred k d below));
      unsettled = λ k d below. link-other v to _ vs (other k d below) ∙ before k d below;
      settled = All-map (IsLinkedAmong ws) (settled_promise v state) p.promises
          (λ k d below. by (slice_index_or p.promises k d) _ refl (h.live k d below) (h.settled k d below));
    }
  where
    ws : List Value
    ws = value_changed v (with_link to) vs

    by : (r : Promise) (b : Bool) → (r.value == v) ≡ b → IsLiveAmong vs r.value → IsLinkedAmong vs r
        → IsLinkedAmong ws (cond b (record r { state = state }) r)
    by r true same there linked some =
        let at : r.value ≡ v = same-tells r.value v same in
        subst (λ m. IsSome (link_of ws m)) (sym at) (ap is_some (link-set v to vs (subst (IsLiveAmong vs) at there)))
    by r false other there linked some = subst IsSome (sym (link-other v to r.value vs other)) (linked some)

-- promises change, but for their values and their states
module _ (change : Promise → Promise) (value : (r : Promise) → (change r).value ≡ r.value) (state : (r : Promise) → (change r).state ≡ r.state) where
  remade-state : (m : ℕ) (rs : List Promise) → state_among (map change rs) m ≡ state_among rs m
  remade-state m rs = ap (option_map (λ (r : Promise). r.state)) (found-changed promised_value change value m rs) ∙ by (found promised_value m rs)
    where
      by : (o : Option Promise) → option_map (λ (r : Promise). r.state) (option_map change o) ≡ option_map (λ (r : Promise). r.state) o
      by None = refl
      by (Some r) = ap Some (state r)

  remade-map : (p : Promises) → All RiseIn (map change p.promises) → ((m : ℕ) → times_in m (map change p.promises) ≤ 1) → IsPromiseMap p
      → IsPromiseMap (record p { promises = map change p.promises })
  remade-map p rise once h = record {
    promises = rising-changed promised_value change value p.promises h.promises;
    deferreds = h.deferreds;
    numbers = h.numbers;
    issued = h.issued;
    pending = λ k d below. remade-state (slice_index_or p.deferreds k d).promise p.promises ∙ h.pending k d below;
    apart = h.apart;
    reactions = rise;
    once = distinct-from (reactions_in (map change p.promises)) once;
  }

  remade-promised : (vs : List Value) (p : Promises) → All RiseIn (map change p.promises) → ((m : ℕ) → times_in m (map change p.promises) ≤ 1)
      → ArePromisesOf vs p → ArePromisesOf vs (record p { promises = map change p.promises })
  remade-promised vs p rise once h = record {
    rows = remade-map p rise once h.rows;
    live = All-map (λ (r : Promise). IsLiveAmong vs r.value) change p.promises (λ k d below. rw (value (slice_index_or p.promises k d)) (h.live k d below));
    deferred = h.deferred;
    unsettled = h.unsettled;
    settled = All-map (IsLinkedAmong vs) change p.promises (λ k d below. by (slice_index_or p.promises k d) (h.settled k d below));
  }
    where
      by : (r : Promise) → IsLinkedAmong vs r → IsLinkedAmong vs (change r)
      by r linked some = rw (value r) (linked (λ none. some (state r ∙ none)))

-- a promise has a reaction more, of a ticket above those of all others
pub reacted-promised : (v ticket : ℕ) (vs : List Value) (p : Promises) → All (AreBelow ticket) p.promises → ArePromisesOf vs p
    → ArePromisesOf vs (with_reaction v ticket p)
reacted-promised v ticket vs p below h =
    remade-promised _ (λ r. value r (r.value == v)) (λ r. state r (r.value == v)) vs p (rise-reacting v ticket p.promises below h.rows.reactions)
    (λ m. times-reacting v ticket m p.promises h.rows.promises below (distinct-times m (reactions_in p.promises) h.rows.once)) h
  where
    value : (r : Promise) (b : Bool) → (cond b (reacting_promise ticket r) r).value ≡ r.value
    value r true = refl
    value r false = refl

    state : (r : Promise) (b : Bool) → (cond b (reacting_promise ticket r) r).state ≡ r.state
    state r true = refl
    state r false = refl

-- a frame ends, and with it its reaction, where it is that of one
pub ended-promised : (d : Option Duty) (vs : List Value) (p : Promises) → ArePromisesOf vs p → ArePromisesOf vs (reaction_ended d p)
ended-promised (Some (duty.Ticket ticket)) vs p h =
    remade-promised (ended_promise ticket.0) (λ r. refl) (λ r. refl) vs p (rise-ended ticket.0 p.promises h.rows.reactions)
    (λ m. omega (arith, times-remade m (ended_promise ticket.0) (fewer-ended ticket.0 m) p.promises, distinct-times m (reactions_in p.promises) h.rows.once)) h
ended-promised (Some _) vs p h = h
ended-promised None vs p h = h

-- values are collected
left-map : (gone : ℕ → Bool) (p : Promises) → IsPromiseMap p → IsPromiseMap (promises_left gone p)
left-map gone p h =
    let test : Deferred → Bool = λ d. not (gone d.promise) in
    let before : All (IsPendingAmong p.promises) (filter test p.deferreds) = All-filter test (IsPendingAmong p.promises) p.deferreds h.pending in
    let stays : All (λ d. test d ≡ true) (filter test p.deferreds) = filter_passes test p.deferreds in
    record {
      promises = rising-filter promised_value (λ r. not (gone r.value)) p.promises h.promises;
      deferreds = rising-filter deferred_number test p.deferreds h.deferreds;
      numbers = h.numbers;
      issued = All-filter test (λ d. has_number d.number p.issued ≡ true) p.deferreds h.issued;
      pending = λ k d below. left-state (slice_index_or (filter test p.deferreds) k d).promise (stays k d below) ∙ before k d below;
      apart = apart-fewer test p.deferreds h.apart;
      reactions = All-filter (λ r. not (gone r.value)) RiseIn p.promises h.reactions;
      once = distinct-from (reactions_in (filter (λ r. not (gone r.value)) p.promises))
          (λ m. omega (arith, times-left m (λ r. not (gone r.value)) p.promises, distinct-times m (reactions_in p.promises) h.once));
    }
  where
    left-state : (m : ℕ) → not (gone m) ≡ true → state_among (filter (λ r. not (gone r.value)) p.promises) m ≡ state_among p.promises m
    left-state m stays =
        ap (option_map (λ (r : Promise). r.state))
        (found-filter promised_value (λ k. not (gone k)) m p.promises ∙ ap (λ b. cond b (found promised_value m p.promises) None) stays)

pub left-promised : (e : Environment) → ArePromisesOf e.heap.values e.promises → ArePromisesOf (kept e) (promises_left (is_freed (reach e)) e.promises)
left-promised e h = record {
  rows = left-map (is_freed (reach e)) e.promises h.rows;
  live = λ k d below.
      live-reached e _ (passes-stay _ (filter_passes (λ (r : Promise). not (is_freed (reach e) r.value)) e.promises.promises k d below));
  deferred = λ k d below.
      live-reached e _ (passes-stay _ (filter_passes (λ (x : Deferred). not (is_freed (reach e) x.promise)) e.promises.deferreds k d below));
  unsettled = λ k d below.
      link-stays (reach e) _ e.heap.values
      (passes-stay _ (filter_passes (λ (x : Deferred). not (is_freed (reach e) x.promise)) e.promises.deferreds k d below))
      ∙ All-filter (λ (x : Deferred). not (is_freed (reach e) x.promise)) (IsUnlinkedAmong e.heap.values) e.promises.deferreds h.unsettled k d below;
  settled = λ k d below some.
      subst IsSome
      (sym (link-stays (reach e) _ e.heap.values
      (passes-stay _ (filter_passes (λ (r : Promise). not (is_freed (reach e) r.value)) e.promises.promises k d below))))
      (All-filter (λ (r : Promise). not (is_freed (reach e) r.value)) (IsLinkedAmong e.heap.values) e.promises.promises h.settled k d below some);
}
