-- The reactions of promises: those of each rise, and none is one twice.
use Rattle.std.proofs.Common.{◌≡◌, ◌<◌, ◌≤◌, ◌∙◌, arith, ℕ, ◌+◌, ◌==◌, nat_lt, Bool, true, false, not, cond, List, [], ◌∷◌, ◌++◌, map, filter, refl, ap, subst}
use Rattle.std.specs.List.{All}
use Rattle.std.proofs.lemmas.Bool.{le-ltb, ltb-true}
use Rattle.std.proofs.lemmas.Grind.{flat_map-append}
use Rattle.std.proofs.lemmas.List.Concat.{flat_map-cons}
use Rattle.std.proofs.lemmas.List.Elements.{All-nil, All-cons, All-head, All-tail, All-append, All-map, All-weaker}
use Rattle.napi_types.specs.declared.entry.Cause.TheVariants as cause
use Rattle.napi_types.specs.plain.Lists.{with_record}
use Rattle.napi_types.specs.parts.Book.{new_ticket}
use Rattle.napi_types.specs.parts.Promises.{Promise, promise_changed}
use Rattle.napi_types.specs.environment.Environment.{Environment}
use Rattle.napi_types.specs.environment.Hooked.{HasReactions, IsHooked}
use Rattle.napi_types.proofs.parts.Moved.{IsUnder, BeginsFor, under, registration-within}
use Rattle.napi_types.proofs.plain.Found.{IsRising, apart-above, apart-below, rising-filter, same-self, same-tells}
use Rattle.napi_types.proofs.plain.Tallies.{tally-append}
use Rattle.machine_laws.specs.Consistency.{RisesBy, reactions_in}
use Rattle.machine_laws.proofs.Collected.{within-filter}
use Rattle.machine_laws.proofs.Counting.{count-cons, one_when, times}

-- each is below a ticket
abbrev pub AreBelow : ℕ → Promise → Type 0
AreBelow ticket r = All (λ n. n < ticket) r.reactions

-- the ticket that the next registration gets is no reaction yet
pub all-below : (e : Environment) → IsHooked e → All (AreBelow (new_ticket e.book)) e.promises.promises
all-below e h =
    All-weaker (HasReactions e.book) (AreBelow (new_ticket e.book))
    (λ r given. All-weaker _ (λ n. n < new_ticket e.book) (λ n why. within n (under e.book n cause.Reaction why)) r.reactions given)
    e.promises.promises h.reactions
  where
    within : (n : ℕ) → IsUnder (BeginsFor cause.Reaction) e.book n → n < new_ticket e.book
    within n u = registration-within e.book n u.registration u.there

-- THEY RISE
abbrev pub RiseIn : Promise → Type 0
RiseIn r = RisesBy (λ n. n) r.reactions

rising-more : (ticket : ℕ) (ns : List ℕ) → All (λ n. n < ticket) ns → RisesBy (λ n. n) ns → RisesBy (λ n. n) (ns ++ ticket ∷ [])
rising-more ticket [] below rises = (All-nil (λ m. ticket < m), tt)
rising-more ticket (n ∷ ns) below rises = (
  All-append (λ m. n < m) ns (ticket ∷ []) rises.0 (All-cons (λ m. n < m) ticket [] (All-head (λ m. m < ticket) n ns below) (All-nil (λ m. n < m))),
  rising-more ticket ns (All-tail (λ m. m < ticket) n ns below) rises.1,
)

-- a promise with a reaction more, and one without a reaction
abbrev pub reacting_promise : ℕ → Promise → Promise
reacting_promise ticket r = record r { reactions = r.reactions ++ ticket ∷ [] }

abbrev pub ended_promise : ℕ → Promise → Promise
ended_promise ticket r = record r { reactions = filter (λ m. not (m == ticket)) r.reactions }

pub rise-reacting : (v ticket : ℕ) (rs : List Promise) → All (AreBelow ticket) rs → All RiseIn rs → All RiseIn (promise_changed (reacting_promise ticket) v rs)
rise-reacting v ticket rs below rise = All-map RiseIn _ rs (λ k d inside. by _ (_ == v) (below k d inside) (rise k d inside))
  where
    by : (r : Promise) (b : Bool) → AreBelow ticket r → RiseIn r → RiseIn (cond b (reacting_promise ticket r) r)
    by r true under it = rising-more ticket r.reactions under it
    by r false under it = it

pub rise-ended : (ticket : ℕ) (rs : List Promise) → All RiseIn rs → All RiseIn (map (ended_promise ticket) rs)
rise-ended ticket rs rise = All-map RiseIn (ended_promise ticket) rs (λ k d inside. rising-filter (λ n. n) (λ m. not (m == ticket)) _ (rise k d inside))

-- NONE IS ONE TWICE
-- how often a ticket is one
abbrev pub times_in : ℕ → List Promise → ℕ
times_in m rs = times m (reactions_in rs)

pub times-cons : (m : ℕ) (r : Promise) (rs : List Promise) → times_in m (r ∷ rs) ≡ times m r.reactions + times_in m rs
times-cons m r rs = ap (times m) (flat_map-cons (λ (x : Promise). x.reactions) r rs) ∙ tally-append (λ k. k == m) r.reactions (reactions_in rs)

times-append : (m : ℕ) (rs qs : List Promise) → times_in m (rs ++ qs) ≡ times_in m rs + times_in m qs
times-append m rs qs = ap (times m) (flat_map-append (λ (x : Promise). x.reactions) rs qs) ∙ tally-append (λ k. k == m) (reactions_in rs) (reactions_in qs)

-- each promise has no more than it had
pub times-remade : (m : ℕ) (change : Promise → Promise) → ((r : Promise) → times m (change r).reactions ≤ times m r.reactions) → (rs : List Promise)
    → times_in m (map change rs) ≤ times_in m rs
times-remade m change fewer [] = omega arith
times-remade m change fewer (r ∷ rs) =
    omega (arith, times-cons m (change r) (map change rs), times-cons m r rs, fewer r, times-remade m change fewer rs)

-- some promises are gone
pub times-left : (m : ℕ) (test : Promise → Bool) (rs : List Promise) → times_in m (filter test rs) ≤ times_in m rs
times-left m test [] = omega arith
times-left m test (r ∷ rs) = by (test r) (times-left m test rs)
  where
    by : (b : Bool) → times_in m (filter test rs) ≤ times_in m rs → times_in m (cond b (r ∷ filter test rs) (filter test rs)) ≤ times_in m (r ∷ rs)
    by true less = omega (arith, times-cons m r (filter test rs), times-cons m r rs, less)
    by false less = omega (arith, times-cons m r rs, less)

-- a promise is made, without a reaction
module _ (m v : ℕ) where
  parts-fewer : (rs : List Promise) → times_in m (filter (λ r. nat_lt r.value v) rs) + times_in m (filter (λ r. nat_lt v r.value) rs) ≤ times_in m rs
  parts-fewer [] = omega arith
  parts-fewer (r ∷ rs) =
      by (nat_lt r.value v) (nat_lt v r.value) (λ below. le-ltb v r.value (omega (arith, ltb-true r.value v below))) (parts-fewer rs)
    where
      lower : List Promise
      lower = filter (λ x. nat_lt x.value v) rs

      higher : List Promise
      higher = filter (λ x. nat_lt v x.value) rs

      by : (a b : Bool) → (a ≡ true → b ≡ false) → times_in m lower + times_in m higher ≤ times_in m rs
          → times_in m (cond a (r ∷ lower) lower) + times_in m (cond b (r ∷ higher) higher) ≤ times_in m (r ∷ rs)
      by true true apart rest = let no = apart refl in cc
      by true false apart rest = omega (arith, rest, times-cons m r lower, times-cons m r rs)
      by false true apart rest = omega (arith, rest, times-cons m r higher, times-cons m r rs)
      by false false apart rest = omega (arith, rest, times-cons m r rs)

  pub times-made : (rs : List Promise) → times_in m (with_record (λ r. r.value) (record { value = v; state = 0; reactions = [] }) rs) ≤ times_in m rs
  times-made rs =
      let x : Promise = record { value = v; state = 0; reactions = [] } in
      let higher : List Promise = filter (λ r. nat_lt v r.value) rs in
      omega (arith, times-append m (filter (λ r. nat_lt r.value v) rs) (x ∷ higher), times-cons m x higher, parts-fewer rs)

-- one promise has a reaction more
times-below : (ticket : ℕ) (ns : List ℕ) → All (λ n. n < ticket) ns → times ticket ns ≡ 0
times-below ticket [] below = refl
times-below ticket (n ∷ ns) below =
    omega (
      arith,
      count-cons (λ k. k == ticket) n ns,
      ap one_when (apart-below n ticket (All-head (λ m. m < ticket) n ns below)),
      times-below ticket ns (All-tail (λ m. m < ticket) n ns below),
    )

module _ (v ticket : ℕ) where
  abbrev reacted : Promise → Bool → Promise
  reacted r b = cond b (reacting_promise ticket r) r

  -- of each other ticket none has more
  times-others : (m : ℕ) → (ticket == m) ≡ false → (r : Promise) (b : Bool) → times m (reacted r b).reactions ≤ times m r.reactions
  times-others m other r true =
      omega (arith, tally-append (λ k. k == m) r.reactions (ticket ∷ []), count-cons (λ k. k == m) ticket [], ap one_when other)
  times-others m other r false = omega arith

  -- no promise above the value has more of this one
  times-above : (rs : List Promise) → All (λ r. v < r.value) rs → All (AreBelow ticket) rs
      → times_in ticket (promise_changed (reacting_promise ticket) v rs) ≡ 0
  times-above [] above below = refl
  times-above (r ∷ rs) above below =
      omega (
        arith,
        times-cons ticket (reacted r (r.value == v)) (promise_changed (reacting_promise ticket) v rs),
        ap (λ b. times ticket (reacted r b).reactions) (apart-above v r.value (All-head (λ x. v < x.value) r rs above)),
        times-below ticket r.reactions (All-head (AreBelow ticket) r rs below),
        times-above rs (All-tail (λ x. v < x.value) r rs above) (All-tail (AreBelow ticket) r rs below),
      )

  times-itself : (rs : List Promise) → IsRising (λ r. r.value) rs → All (AreBelow ticket) rs
      → times_in ticket (promise_changed (reacting_promise ticket) v rs) ≤ 1
  times-itself [] rises below = omega arith
  times-itself (r ∷ rs) rises below =
      omega (arith, times-cons ticket (reacted r (r.value == v)) new, by (r.value == v) refl (times-itself rs rises.1 later))
    where
      new : List Promise
      new = promise_changed (reacting_promise ticket) v rs

      later : All (AreBelow ticket) rs
      later = All-tail (AreBelow ticket) r rs below

      none : times ticket r.reactions ≡ 0
      none = times-below ticket r.reactions (All-head (AreBelow ticket) r rs below)

      by : (b : Bool) → (r.value == v) ≡ b → times_in ticket new ≤ 1 → times ticket (reacted r b).reactions + times_in ticket new ≤ 1
      by true same rest =
          let at : r.value ≡ v = same-tells r.value v same in
          let above : All (λ x. v < x.value) rs = λ k d inside. omega (arith, at, rises.0 k d inside) in
          omega (
            arith,
            none,
            tally-append (λ k. k == ticket) r.reactions (ticket ∷ []),
            count-cons (λ k. k == ticket) ticket [],
            ap one_when (same-self ticket),
            times-above rs above later,
          )
      by false other rest = omega (arith, none, rest)

  pub times-reacting : (m : ℕ) (rs : List Promise) → IsRising (λ r. r.value) rs → All (AreBelow ticket) rs → times_in m rs ≤ 1
      → times_in m (promise_changed (reacting_promise ticket) v rs) ≤ 1
  times-reacting m rs rises below once = by (ticket == m) refl
    where
      by : (b : Bool) → (ticket == m) ≡ b → times_in m (promise_changed (reacting_promise ticket) v rs) ≤ 1
      by true same = subst (λ k. times_in k (promise_changed (reacting_promise ticket) v rs) ≤ 1) (same-tells ticket m same) (times-itself rs rises below)
      by false other = omega (arith, once, times-remade m (λ r. reacted r (r.value == v)) (λ r. times-others m other r (r.value == v)) rs)

-- one has a reaction less
pub fewer-ended : (ticket m : ℕ) (r : Promise) → times m (ended_promise ticket r).reactions ≤ times m r.reactions
fewer-ended ticket m r = omega (arith, within-filter (λ k. not (k == ticket)) r.reactions (λ k. k == m))
