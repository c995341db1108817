-- What tests of promises need: that none has a reaction, or that each reaction is registered.
use Rattle.std.proofs.Common.{◌≡◌, ◌↔◌, ◌∙◌, ℕ, ◌+◌, ◌==◌, Bool, true, false, cond, List, [], ◌∷◌, ◌++◌, length, Option, Some, None, option_map, IsSome, Result, Ok, Err, IfOk, OnOk, OnErr, refl, ap, sym, subst}
use Rattle.std.specs.List.{All}
use Rattle.std.specs.Option.{unwrap_or}
use Rattle.std.proofs.lemmas.List.Elements.{All-map, All-weaker, All-append, All-cons, All-nil}
use Rattle.napi_types.specs.parts.Book.{Book, Registration, is_at, is_registered, new_ticket, with_registration}
use Rattle.napi_types.specs.parts.Promises.{Promise, Promises, promise_at, reactions_of, is_reaction_of, with_promise, with_settled, with_reaction}
use Rattle.napi_types.proofs.plain.Found.{found-All, found-number, found-with_record, found-map, same-self}
use Rattle.napi_types.proofs.plain.Maps.{All-with_record}
use Rattle.napi_types.proofs.parts.Moved.{IsUnder, PassesTest, under-ticket, at-state, registration_at-before, registration_at-new}

-- NONE HAS A REACTION
abbrev pub IsBare : Promise → Type 0
IsBare p = p.reactions ≡ []

pub bare-none : (p : Promises) (v : ℕ) → All IsBare p.promises → reactions_of p v ≡ []
bare-none p v all = by (promise_at p v) refl
  where
    by : (o : Option Promise) → promise_at p v ≡ o → unwrap_or (option_map (λ (r : Promise). r.reactions) (promise_at p v)) [] ≡ []
    by None is = ap (λ o. unwrap_or (option_map (λ (r : Promise). r.reactions) o) []) is
    by (Some r) is = ap (λ o. unwrap_or (option_map (λ (r : Promise). r.reactions) o) []) is ∙ found-All (λ (r : Promise). r.value) IsBare v p.promises r all is

pub bare-made : (p : Promises) (v n : ℕ) → All IsBare p.promises → All IsBare (with_promise v n p).promises
bare-made p v n all = All-with_record (λ (r : Promise). r.value) (record { value = v; state = 0; reactions = [] }) IsBare p.promises refl all

pub bare-settled : (p : Promises) (n v state : ℕ) → All IsBare p.promises → All IsBare (with_settled n v state p).promises
bare-settled p n v state all =
    All-map IsBare (λ (r : Promise). cond (r.value == v) (record r { state = state }) r) p.promises
    (All-weaker IsBare (λ (r : Promise). IsBare (cond (r.value == v) (record r { state = state }) r)) (λ r bare. by r (r.value == v) bare) p.promises all)
  where
    by : (r : Promise) (b : Bool) → IsBare r → IsBare (cond b (record r { state = state }) r)
    by r true bare = bare
    by r false bare = bare

-- settled or refused, none has a reaction still
pub settled-bare : {T E B : Type 0} (p q : Promises) (b d : B) (n state : ℕ) (value : T → ℕ) (r : Result T E) → IfOk r (λ v. q ≡ with_settled n (value v) state p)
    → OnErr r ((q ≡ p) × (d ≡ b)) → All IsBare p.promises → All IsBare q.promises
settled-bare p q b d n state value (Ok v) settled err all = subst (λ (s : Promises). All IsBare s.promises) (sym settled) (bare-settled p n (value v) state all)
settled-bare p q b d n state value (Err e) settled err all = subst (λ (s : Promises). All IsBare s.promises) (sym err.0) all

-- EACH REACTION IS REGISTERED
abbrev pub AreRegistered : Book → List ℕ → Type 0
AreRegistered book ns = All (λ n. is_at is_registered book n ≡ true) ns

pub still-registered : (book : Book) (r : Registration) (n : ℕ) → is_at is_registered book n ≡ true → is_at is_registered (with_registration r book) n ≡ true
still-registered book r n is =
    let under : IsUnder (PassesTest is_registered) book n = under-ticket is_registered book n is in
    at-state is_registered (with_registration r book) n under.registration (registration_at-before book r n under.registration under.there) ∙ under.holds

pub with-next : (book : Book) (r : Registration) (ns : List ℕ) → is_registered r.state ≡ true → AreRegistered book ns
    → AreRegistered (with_registration r book) (ns ++ new_ticket book ∷ [])
with-next book r ns is all =
    All-append (λ n. is_at is_registered (with_registration r book) n ≡ true) ns (new_ticket book ∷ [])
    (All-weaker (λ n. is_at is_registered book n ≡ true) (λ n. is_at is_registered (with_registration r book) n ≡ true) (λ n. still-registered book r n) ns all)
    (All-cons (λ n. is_at is_registered (with_registration r book) n ≡ true) (new_ticket book) []
    (at-state is_registered (with_registration r book) (new_ticket book) r (registration_at-new book r) ∙ is) (All-nil (λ n. is_at is_registered (with_registration r book) n ≡ true)))

-- so in the book after a registration
pub kept-registered : (b b1 b2 : Book) (r : Registration) (ns : List ℕ) → b1 ≡ b → b2 ≡ with_registration r b1 → AreRegistered b ns → AreRegistered b2 ns
kept-registered b b1 b2 r ns same noted all =
    subst (λ (k : Book). AreRegistered k ns) (sym noted)
    (subst (λ (k : Book). AreRegistered (with_registration r k) ns) (sym same)
    (All-weaker (λ n. is_at is_registered b n ≡ true) (λ n. is_at is_registered (with_registration r b) n ≡ true) (λ n. still-registered b r n) ns all))

pub next-registered : (b b1 b2 : Book) (r : Registration) (n : ℕ) (ns : List ℕ) → b1 ≡ b → b2 ≡ with_registration r b1 → n ≡ length b1 + 1 → is_registered r.state ≡ true
    → AreRegistered b ns → AreRegistered b2 (ns ++ n ∷ [])
next-registered b b1 b2 r n ns same noted new is all =
    subst (λ (k : Book). AreRegistered k (ns ++ n ∷ [])) (sym noted)
    (subst (λ (m : ℕ). AreRegistered (with_registration r b1) (ns ++ m ∷ [])) (sym new)
    (with-next b1 r ns is (subst (λ (k : Book). AreRegistered k ns) (sym same) all)))

-- what a promise has that gets a reaction
keeps-value : (v n : ℕ) (p : Promise) → (cond (p.value == v) (record p { reactions = p.reactions ++ n ∷ [] }) p).value ≡ p.value
keeps-value v n p = by (p.value == v)
  where
    by : (b : Bool) → (cond b (record p { reactions = p.reactions ++ n ∷ [] }) p).value ≡ p.value
    by true = refl
    by false = refl

found-reacted : (p : Promises) (v n : ℕ) → promise_at (with_reaction v n p) v ≡ option_map (λ (r : Promise). cond (r.value == v) (record r { reactions = r.reactions ++ n ∷ [] }) r) (promise_at p v)
found-reacted p v n = found-map (λ (r : Promise). r.value) (λ (r : Promise). cond (r.value == v) (record r { reactions = r.reactions ++ n ∷ [] }) r) (keeps-value v n) v p.promises

pub there-reacted : (p : Promises) (v n : ℕ) → IsSome (promise_at p v) → IsSome (promise_at (with_reaction v n p) v)
there-reacted p v n some = subst (λ o. IsSome o) (sym (found-reacted p v n)) (by (promise_at p v) some)
  where
    by : (o : Option Promise) → IsSome o → IsSome (option_map (λ (r : Promise). cond (r.value == v) (record r { reactions = r.reactions ++ n ∷ [] }) r) o)
    by None some = some
    by (Some r) some = refl

pub reactions-reacted : (p : Promises) (v n : ℕ) → IsSome (promise_at p v) → reactions_of (with_reaction v n p) v ≡ reactions_of p v ++ n ∷ []
reactions-reacted p v n some = ap (λ o. unwrap_or (option_map (λ (r : Promise). r.reactions) o) []) (found-reacted p v n) ∙ by (promise_at p v) refl some
  where
    by : (o : Option Promise) → promise_at p v ≡ o → IsSome o
        → unwrap_or (option_map (λ (r : Promise). r.reactions) (option_map (λ (r : Promise). cond (r.value == v) (record r { reactions = r.reactions ++ n ∷ [] }) r) (promise_at p v))) []
        ≡ unwrap_or (option_map (λ (r : Promise). r.reactions) (promise_at p v)) [] ++ n ∷ []
    by None is some = let never : ⊥ = cc in absurd never
    by (Some r) is some =
        let number : r.value ≡ v = found-number (λ (r : Promise). r.value) v p.promises r is in
        ap (λ o. unwrap_or (option_map (λ (r : Promise). r.reactions) (option_map (λ (r : Promise). cond (r.value == v) (record r { reactions = r.reactions ++ n ∷ [] }) r) o)) []) is
        ∙ ap (λ b. (cond b (record r { reactions = r.reactions ++ n ∷ [] }) r).reactions) (ap (λ k. k == v) number ∙ same-self v)
        ∙ sym (ap (λ o. unwrap_or (option_map (λ (r : Promise). r.reactions) o) [] ++ n ∷ []) is)

-- a promise that was made has no reaction
pub made-there : (p : Promises) (v n : ℕ) → promise_at (with_promise v n p) v ≡ Some (record { value = v; state = 0; reactions = [] })
made-there p v n =
    found-with_record (λ (r : Promise). r.value) v (record { value = v; state = 0; reactions = [] }) p.promises
    ∙ ap (λ b. cond b (Some (record { value = v; state = 0; reactions = [] })) (promise_at p v)) (same-self v)

-- no promise has a reaction of this ticket
pub none-reacts : (p : Promises) (n : ℕ) → ((v : ℕ) → is_reaction_of p v n ≡ true → ⊥) → (v : ℕ) → is_reaction_of p v n ≡ false
none-reacts p n never v = by (is_reaction_of p v n) refl
  where
    by : (b : Bool) → is_reaction_of p v n ≡ b → is_reaction_of p v n ≡ false
    by true is = absurd (never v is)
    by false is = is

-- what holds of the promises where nothing changes, and where a reaction is added, holds after it was asked for
pub reacted : {T U E : Type 0} (p q : Promises) (v n : ℕ) (value : T → ℕ) (o : Option T) (r : Result U E) (u : U)
    → ((w : ℕ) → (option_map value o ≡ Some w) ↔ (is_reaction_of p w n ≡ true))
    → (((w : ℕ) → is_reaction_of p w n ≡ false) → OnOk r (q ≡ with_reaction v n p))
    → ((w : ℕ) → is_reaction_of p w n ≡ true → q ≡ p) → r ≡ Ok u
    → (P : Promises → Type 0) → P p → P (with_reaction v n p) → P q
reacted {T} {U} {E} p q v n value None r u told added there ok P same more =
    let none : (w : ℕ) → is_reaction_of p w n ≡ false = none-reacts p n (λ w is. let some : None ≡ Some w = (told w).1 is in let never : ⊥ = cc in never) in
    let step : q ≡ with_reaction v n p = subst (λ (x : Result U E). OnOk x (q ≡ with_reaction v n p)) ok (added none) in
    subst P (sym step) more
reacted p q v n value (Some t) r u told added there ok P same more = subst P (sym (there (value t) ((told (value t)).0 refl))) same
