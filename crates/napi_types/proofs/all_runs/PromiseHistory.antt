-- What was told of promises, as lists, and what one thing more makes of them.
use Rattle.std.proofs.Common.{◌≡◌, ◌∙◌, ℕ, ◌==◌, Bool, true, false, ◌||◌, cond, List, [], ◌∷◌, ◌++◌, flat_map, Option, Some, None, is_some, option_map, refl, ap, sym}
use Rattle.std.specs.List.{All}
use Rattle.std.specs.Option.{option_and_then, option_or, unwrap_or}
use Rattle.std.proofs.lemmas.Bool.{eqb-true}
use Rattle.std.proofs.lemmas.List.{append-nil, flat_map_more}
use Rattle.std.proofs.lemmas.List.Folds.{list_any-append}
use Rattle.std.proofs.lemmas.Option.{same_Some}
use Rattle.napi_types.specs.plain.Lists.{found, has}
use Rattle.napi_types.specs.all_runs.SettledPromises as told
use Rattle.napi_types.specs.all_runs.SettledPromises.{PromiseFact, MadeDeferred, SettledDeferred, AddedReaction, made_in_fact, settled_in_fact, added_in_fact, begun_in_fact, is_of_finals, all_made, all_settled, all_added, all_begun, finals_came}
use Rattle.napi_types.proofs.plain.Found.{found-append, found-number, found-All, has-found, same-self}
use Rattle.napi_types.proofs.plain.Lists.{option_or-none}
use Rattle.napi_types.proofs.plain.Options.{some-of, none-of}

-- what was told so far
pub record History : Type 0 where
  pub made : List MadeDeferred
  pub settled : List SettledDeferred
  pub added : List AddedReaction
  pub begun : List ℕ
  pub finals : Bool

abbrev pub history : List PromiseFact → History
history ts = record { made = all_made ts; settled = all_settled ts; added = all_added ts; begun = all_begun ts; finals = finals_came ts }

-- ONE THING MORE
abbrev of_lists : List MadeDeferred → List SettledDeferred → List AddedReaction → List ℕ → Bool → History
of_lists m s a k f = record { made = m; settled = s; added = a; begun = k; finals = f }

same-history : (m n : List MadeDeferred) (s u : List SettledDeferred) (a b : List AddedReaction) (k l : List ℕ) (f g : Bool) → m ≡ n → s ≡ u → a ≡ b → k ≡ l → f ≡ g
    → of_lists m s a k f ≡ of_lists n u b l g
same-history m n s u a b k l f g one two three four five = rw (one, two, three, four, five) refl

pub or-none : (b : Bool) → (b || false) ≡ b
or-none true = refl
or-none false = refl

pub or-some : (b : Bool) → (b || true) ≡ true
or-some true = refl
or-some false = refl

module _ (ts : List PromiseFact) where
  more : {A : Type 0} (f : PromiseFact → List A) (x : PromiseFact) → flat_map f (ts ++ x ∷ []) ≡ flat_map f ts ++ f x
  more f x = sym (flat_map_more f [] ts x)

  none : {A : Type 0} (f : PromiseFact → List A) (x : PromiseFact) → f x ≡ [] → flat_map f (ts ++ x ∷ []) ≡ flat_map f ts
  none f x is = more f x ∙ ap (λ ys. flat_map f ts ++ ys) is ∙ append-nil (flat_map f ts)

  no-finals : (x : PromiseFact) → is_of_finals x ≡ false → finals_came (ts ++ x ∷ []) ≡ finals_came ts
  no-finals x is = list_any-append is_of_finals ts (x ∷ []) ∙ ap (λ b. finals_came ts || (b || false)) is ∙ or-none (finals_came ts)

  pub history-makes : (d p : ℕ) → history (ts ++ told.Makes d p ∷ [])
      ≡ record (history ts) { made = all_made ts ++ record { deferred = d; promise = p } ∷ [] }
  history-makes d p =
      same-history _ _ _ _ _ _ _ _ _ _ (more made_in_fact (told.Makes d p)) (none settled_in_fact (told.Makes d p) refl) (none added_in_fact (told.Makes d p) refl)
      (none begun_in_fact (told.Makes d p) refl) (no-finals (told.Makes d p) refl)

  pub history-settles : (d state v : ℕ) → history (ts ++ told.Settles d state v ∷ [])
      ≡ record (history ts) { settled = all_settled ts ++ record { deferred = d; state = state; value = v } ∷ [] }
  history-settles d state v =
      same-history _ _ _ _ _ _ _ _ _ _ (none made_in_fact (told.Settles d state v) refl) (more settled_in_fact (told.Settles d state v))
      (none added_in_fact (told.Settles d state v) refl) (none begun_in_fact (told.Settles d state v) refl) (no-finals (told.Settles d state v) refl)

  pub history-adds : (p t : ℕ) → history (ts ++ told.Adds p t ∷ []) ≡ record (history ts) { added = all_added ts ++ record { ticket = t; promise = p } ∷ [] }
  history-adds p t =
      same-history _ _ _ _ _ _ _ _ _ _ (none made_in_fact (told.Adds p t) refl) (none settled_in_fact (told.Adds p t) refl) (more added_in_fact (told.Adds p t))
      (none begun_in_fact (told.Adds p t) refl) (no-finals (told.Adds p t) refl)

  pub history-finals : history (ts ++ told.FinalsCome ∷ []) ≡ record (history ts) { finals = true }
  history-finals =
      same-history _ _ _ _ _ _ _ _ _ _ (none made_in_fact told.FinalsCome refl) (none settled_in_fact told.FinalsCome refl) (none added_in_fact told.FinalsCome refl)
      (none begun_in_fact told.FinalsCome refl) (list_any-append is_of_finals ts (told.FinalsCome ∷ []) ∙ or-some (finals_came ts))

  pub history-begins : (t state : ℕ) → history (ts ++ told.Begins t state ∷ []) ≡ record (history ts) { begun = all_begun ts ++ t ∷ [] }
  history-begins t state =
      same-history _ _ _ _ _ _ _ _ _ _ (none made_in_fact (told.Begins t state) refl) (none settled_in_fact (told.Begins t state) refl)
      (none added_in_fact (told.Begins t state) refl) (more begun_in_fact (told.Begins t state)) (no-finals (told.Begins t state) refl)

  pub history-tells : (t v : ℕ) → history (ts ++ told.Tells t v ∷ []) ≡ history ts
  history-tells t v =
      same-history _ _ _ _ _ _ _ _ _ _ (none made_in_fact (told.Tells t v) refl) (none settled_in_fact (told.Tells t v) refl)
      (none added_in_fact (told.Tells t v) refl) (none begun_in_fact (told.Tells t v) refl) (no-finals (told.Tells t v) refl)

-- WHAT IS FOUND
module _ {A : Type 0} (number : A → ℕ) where
  -- what has the number is found, and what does not is not
  pub found-of : (n : ℕ) (xs : List A) → has number n xs ≡ true → (x : A) × (found number n xs ≡ Some x)
  found-of n xs is = some-of (found number n xs) (sym (has-found number n xs) ∙ is)

  pub unfound : (n : ℕ) (xs : List A) → has number n xs ≡ false → found number n xs ≡ None
  unfound n xs is = none-of (found number n xs) (sym (has-found number n xs) ∙ is)

  pub has-of : (n : ℕ) (xs : List A) (x : A) → found number n xs ≡ Some x → has number n xs ≡ true
  has-of n xs x is = has-found number n xs ∙ ap is_some is

  -- what is found is found before others
  pub found-still : (n : ℕ) (xs ys : List A) (x : A) → found number n xs ≡ Some x → found number n (xs ++ ys) ≡ Some x
  found-still n xs ys x is = found-append number n xs ys ∙ ap (λ o. option_or o (found number n ys)) is

  -- and what is new is found behind the others
  pub found-push : (xs : List A) (x : A) → has number (number x) xs ≡ false → found number (number x) (xs ++ x ∷ []) ≡ Some x
  found-push xs x new =
      found-append number (number x) xs (x ∷ []) ∙ ap (λ o. option_or o (found number (number x) (x ∷ []))) (unfound (number x) xs new)
      ∙ ap (λ b. cond b (Some x) None) (same-self (number x))

  -- one more, of another number, changes nothing of what is found
  pub found-apart : (n : ℕ) (xs : List A) (x : A) → (number x == n) ≡ false → found number n (xs ++ x ∷ []) ≡ found number n xs
  found-apart n xs x apart =
      found-append number n xs (x ∷ []) ∙ ap (λ b. option_or (found number n xs) (cond b (Some x) None)) apart ∙ option_or-none (found number n xs)

-- HOW A PROMISE WAS SETTLED
abbrev pub settlement_by : List MadeDeferred → List SettledDeferred → ℕ → Option SettledDeferred
settlement_by ms ss p = option_and_then (λ (m : MadeDeferred). found (λ (s : SettledDeferred). s.deferred) m.deferred ss) (found (λ (m : MadeDeferred). m.promise) p ms)

abbrev pub state_by : List MadeDeferred → List SettledDeferred → ℕ → ℕ
state_by ms ss p = unwrap_or (option_map (λ (s : SettledDeferred). s.state) (settlement_by ms ss p)) 0

abbrev pub value_by : List MadeDeferred → List SettledDeferred → ℕ → Option ℕ
value_by ms ss p = option_map (λ (s : SettledDeferred). s.value) (settlement_by ms ss p)

-- each that was made is found by its deferred, and by its promise
pub record IsFoundIn (ms : List MadeDeferred) (m : MadeDeferred) : Type 0 where
  pub deferred : found (λ (m : MadeDeferred). m.deferred) m.deferred ms ≡ Some m
  pub promise : found (λ (m : MadeDeferred). m.promise) m.promise ms ≡ Some m

-- the tests of a promise that was made
pub settlement-more : (ms ns : List MadeDeferred) (ss : List SettledDeferred) (p : ℕ) → has (λ (m : MadeDeferred). m.promise) p ms ≡ true
    → settlement_by (ms ++ ns) ss p ≡ settlement_by ms ss p
settlement-more ms ns ss p is =
    let there = found-of (λ (m : MadeDeferred). m.promise) p ms is in
    ap (option_and_then (λ (m : MadeDeferred). found (λ (s : SettledDeferred). s.deferred) m.deferred ss))
    (found-still (λ (m : MadeDeferred). m.promise) p ms ns there.0 there.1 ∙ sym there.1)

-- a deferred more is settled: that of the promise, ..
pub settlement-own : (ms : List MadeDeferred) (ss : List SettledDeferred) (m : MadeDeferred) (s : SettledDeferred) → IsFoundIn ms m → s.deferred ≡ m.deferred
    → has (λ (s : SettledDeferred). s.deferred) m.deferred ss ≡ false → settlement_by ms (ss ++ s ∷ []) m.promise ≡ Some s
settlement-own ms ss m s there same new =
    ap (option_and_then (λ (m : MadeDeferred). found (λ (s : SettledDeferred). s.deferred) m.deferred (ss ++ s ∷ []))) there.promise
    ∙ ap (λ n. found (λ (s : SettledDeferred). s.deferred) n (ss ++ s ∷ [])) (sym same)
    ∙ found-push (λ (s : SettledDeferred). s.deferred) ss s (ap (λ n. has (λ (s : SettledDeferred). s.deferred) n ss) same ∙ new)

-- .. or another one
pub settlement-other : (ms : List MadeDeferred) (ss : List SettledDeferred) (m : MadeDeferred) (s : SettledDeferred) (q : ℕ) → All (IsFoundIn ms) ms → IsFoundIn ms m → s.deferred ≡ m.deferred
    → has (λ (m : MadeDeferred). m.promise) q ms ≡ true → (q == m.promise) ≡ false → settlement_by ms (ss ++ s ∷ []) q ≡ settlement_by ms ss q
settlement-other ms ss m s q all there same made apart =
    let it = found-of (λ (m : MadeDeferred). m.promise) q ms made in
    let n : MadeDeferred = it.0 in
    let its : IsFoundIn ms n = found-All (λ (m : MadeDeferred). m.promise) (IsFoundIn ms) q ms n all it.1 in
    ap (option_and_then (λ (m : MadeDeferred). found (λ (s : SettledDeferred). s.deferred) m.deferred (ss ++ s ∷ []))) it.1
    ∙ found-apart (λ (s : SettledDeferred). s.deferred) n.deferred ss s (by n its (found-number (λ (m : MadeDeferred). m.promise) q ms n it.1) (s.deferred == n.deferred) refl)
    ∙ sym (ap (option_and_then (λ (m : MadeDeferred). found (λ (s : SettledDeferred). s.deferred) m.deferred ss)) it.1)
  where
    by : (n : MadeDeferred) → IsFoundIn ms n → n.promise ≡ q → (b : Bool) → (s.deferred == n.deferred) ≡ b → (s.deferred == n.deferred) ≡ false
    by n its is false tells = tells
    by n its is true tells =
        let equal : m.deferred ≡ n.deferred = sym same ∙ eqb-true s.deferred n.deferred tells in
        let one : n ≡ m = same_Some n m (sym its.deferred ∙ ap (λ k. found (λ (m : MadeDeferred). m.deferred) k ms) (sym equal) ∙ there.deferred) in
        let no : true ≡ false = sym (same-self q) ∙ ap (λ k. q == k) (sym is ∙ ap (λ (m : MadeDeferred). m.promise) one) ∙ apart in
        absurd (let z : ⊥ = cc in z)
