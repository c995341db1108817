-- The three tables stay tied as one promise is changed.
use Rattle.std.proofs.Common.{◌≡◌, ◌∙◌, ℕ, ◌+◌, ◌≤◌, ◌==◌, nat_eq, ◌||◌, Bool, true, false, not, cond, [], ◌∷◌, ◌++◌, filter, Option, Some, None, refl, ap, sym, subst, arith, true≢false}
use Rattle.std.specs.Option.{option_map_or}
use Rattle.std.proofs.lemmas.Bool.{false_from_ne_true}
use Rattle.std.proofs.lemmas.Bool.Decides.{nat_tests}
use Rattle.std.proofs.lemmas.Option.{same_Some}
use Rattle.napi_types.specs.plain.Lists.{has_number}
use Rattle.napi_types.proofs.plain.Found.{same-self, same-tells, same-from, equal-tests}
use Rattle.deferred.specs.PromiseRows.{RowOf, deferred_in, is_deferred_of, reactions_in_row, NoneTwice, AreTiedBy}
use Rattle.deferred.proofs.Numbers.{apart-from, has-without, once-without, has-behind, once-behind}

-- the row names this deferred
pub is-deferred : (n : ℕ) (row : Option RowOf) → deferred_in row ≡ Some n → is_deferred_of n row ≡ true
is-deferred n row is = ap (λ o. option_map_or (λ m. m == n) o false) is ∙ same-self n

pub deferred-is : (n : ℕ) (row : Option RowOf) → is_deferred_of n row ≡ true → deferred_in row ≡ Some n
deferred-is n row is = by (deferred_in row) is
  where
    by : (o : Option ℕ) → option_map_or (λ m. m == n) o false ≡ true → o ≡ Some n
    by None is = let no : ⊥ = cc in absurd no
    by (Some m) is = ap (λ k. Some k) (same-tells m n is)

-- two promises of one number are one
one-promise : (o : Option ℕ) (u v : ℕ) → o ≡ Some u → o ≡ Some v → u ≡ v
one-promise o u v this that = same_Some u v (sym this ∙ that)

module _ (R S : ℕ → Option RowOf) (D E T U : ℕ → Option ℕ) (made : ℕ) (tied : AreTiedBy R D T made) (v : ℕ) where
  -- a deferred of this promise, and of another one
  pub deferred-tells : (n u : ℕ) → D n ≡ Some u → is_deferred_of n (R v) ≡ (u == v)
  deferred-tells n u there = by (u == v) refl
    where
      by : (b : Bool) → (u == v) ≡ b → is_deferred_of n (R v) ≡ b
      by true same = is-deferred n (R v) (ap (λ w. deferred_in (R w)) (sym (same-tells u v same)) ∙ tied.promised n u there)
      by false apart = false_from_ne_true _ (λ is. let one : u ≡ v = one-promise (D n) u v there (tied.deferring n v (deferred-is n (R v) is)) in true≢false (sym (same-self v) ∙ ap (λ k. k == v) (sym one) ∙ apart))

  -- THE PROMISE IS FORGOTTEN
  pub record Forgets : Type 0 where
    pub rows : (w : ℕ) → S w ≡ cond (nat_eq v w) None (R w)
    pub deferreds : (n : ℕ) → E n ≡ cond (is_deferred_of n (R v)) None (D n)
    pub reactions : (n : ℕ) → U n ≡ cond (has_number n (reactions_in_row (R v))) None (T n)

  pub tied-forgotten : Forgets → AreTiedBy S E U made
  tied-forgotten f = record {
    promised = λ n u is. ap deferred_in (f.rows u) ∙ promised n u (is_deferred_of n (R v)) refl (nat_eq v u) refl (sym (f.deferreds n) ∙ is);
    deferring = λ n u is. f.deferreds n ∙ deferring n u (nat_eq v u) refl (sym (ap deferred_in (f.rows u)) ∙ is);
    numbered = λ n u is. numbered n u (is_deferred_of n (R v)) (sym (f.deferreds n) ∙ is);
    listed = λ n u is. ap (λ o. has_number n (reactions_in_row o)) (f.rows u) ∙ listed n u (has_number n (reactions_in_row (R v))) refl (nat_eq v u) refl (sym (f.reactions n) ∙ is);
    reacting = λ n u is. f.reactions n ∙ reacting n u (nat_eq v u) refl (sym (ap (λ o. has_number n (reactions_in_row o)) (f.rows u)) ∙ is);
    once = λ u. subst (λ o. NoneTwice (reactions_in_row o)) (sym (f.rows u)) (once u (nat_eq v u));
  }
    where
      promised : (n u : ℕ) (b : Bool) → is_deferred_of n (R v) ≡ b → (c : Bool) → nat_eq v u ≡ c → cond b None (D n) ≡ Some u → deferred_in (cond c None (R u)) ≡ Some n
      promised n u true at c same there = let no : ⊥ = cc in absurd no
      promised n u false at false apart there = tied.promised n u there
      promised n u false at true same there =
          let here : deferred_in (R v) ≡ Some n = ap (λ w. deferred_in (R w)) (same-from v u same) ∙ tied.promised n u there in
          absurd (true≢false (sym (is-deferred n (R v) here) ∙ at))

      deferring : (n u : ℕ) (c : Bool) → nat_eq v u ≡ c → deferred_in (cond c None (R u)) ≡ Some n → cond (is_deferred_of n (R v)) None (D n) ≡ Some u
      deferring n u true same is = let no : ⊥ = cc in absurd no
      deferring n u false apart is =
          let there : D n ≡ Some u = tied.deferring n u is in
          ap (λ b. cond b None (D n)) (deferred-tells n u there ∙ apart-from v u apart) ∙ there

      numbered : (n u : ℕ) (b : Bool) → cond b None (D n) ≡ Some u → n ≤ made
      numbered n u true there = let no : ⊥ = cc in absurd no
      numbered n u false there = tied.numbered n u there

      listed : (n u : ℕ) (b : Bool) → has_number n (reactions_in_row (R v)) ≡ b → (c : Bool) → nat_eq v u ≡ c → cond b None (T n) ≡ Some u
          → has_number n (reactions_in_row (cond c None (R u))) ≡ true
      listed n u true at c same there = let no : ⊥ = cc in absurd no
      listed n u false at false apart there = tied.listed n u there
      listed n u false at true same there =
          absurd (true≢false (sym (ap (λ w. has_number n (reactions_in_row (R w))) (same-from v u same) ∙ tied.listed n u there) ∙ at))

      reacting : (n u : ℕ) (c : Bool) → nat_eq v u ≡ c → has_number n (reactions_in_row (cond c None (R u))) ≡ true → cond (has_number n (reactions_in_row (R v))) None (T n) ≡ Some u
      reacting n u true same is = let no : ⊥ = cc in absurd no
      reacting n u false apart is =
          let there : T n ≡ Some u = tied.reacting n u is in
          let none : has_number n (reactions_in_row (R v)) ≡ false =
          false_from_ne_true _ (λ has. let one : u ≡ v = one-promise (T n) u v there (tied.reacting n v has) in
          true≢false (sym (same-self v) ∙ ap (λ k. k == v) (sym one) ∙ apart-from v u apart)) in
          ap (λ b. cond b None (T n)) none ∙ there

      once : (u : ℕ) (c : Bool) → NoneTwice (reactions_in_row (cond c None (R u)))
      once u true = tt
      once u false = tied.once u

  -- A PROMISE IS MADE
  pub record Makes : Type 0 where
    pub absent : R v ≡ None
    pub rows : (w : ℕ) → S w ≡ cond (nat_eq v w) (Some (record { state = 0; deferred = Some (made + 1); reactions = [] })) (R w)
    pub deferreds : (n : ℕ) → E n ≡ cond (nat_eq (made + 1) n) (Some v) (D n)

  pub tied-made : Makes → AreTiedBy S E T (made + 1)
  tied-made m = record {
    promised = λ n u is. ap deferred_in (m.rows u) ∙ promised n u (nat_eq (made + 1) n) refl (nat_eq v u) refl (sym (m.deferreds n) ∙ is);
    deferring = λ n u is. m.deferreds n ∙ deferring n u (nat_eq v u) refl (nat_eq (made + 1) n) refl (sym (ap deferred_in (m.rows u)) ∙ is);
    numbered = λ n u is. numbered n u (nat_eq (made + 1) n) refl (sym (m.deferreds n) ∙ is);
    listed = λ n u is. ap (λ o. has_number n (reactions_in_row o)) (m.rows u) ∙ listed n u (nat_eq v u) refl is;
    reacting = λ n u is. reacting n u (nat_eq v u) (sym (ap (λ o. has_number n (reactions_in_row o)) (m.rows u)) ∙ is);
    once = λ u. subst (λ o. NoneTwice (reactions_in_row o)) (sym (m.rows u)) (once u (nat_eq v u));
  }
    where
      new : RowOf
      new = record { state = 0; deferred = Some (made + 1); reactions = [] }

      self_same : (k : ℕ) → nat_eq k k ≡ true
      self_same k = grind (arith, nat_tests)

      promised : (n u : ℕ) (b : Bool) → nat_eq (made + 1) n ≡ b → (c : Bool) → nat_eq v u ≡ c → cond b (Some v) (D n) ≡ Some u → deferred_in (cond c (Some new) (R u)) ≡ Some n
      promised n u true at true same there = ap (λ k. Some k) (same-from (made + 1) n at)
      promised n u true at false apart there =
          let one : v ≡ u = same_Some v u there in
          absurd (true≢false (sym (self_same v) ∙ ap (nat_eq v) one ∙ apart))
      promised n u false at false apart there = tied.promised n u there
      promised n u false at true same there =
          let none : deferred_in (R u) ≡ None = ap (λ w. deferred_in (R w)) (sym (same-from v u same)) ∙ ap deferred_in m.absent in
          let no : ⊥ = let some = tied.promised n u there in cc in absurd no

      deferring : (n u : ℕ) (c : Bool) → nat_eq v u ≡ c → (b : Bool) → nat_eq (made + 1) n ≡ b → deferred_in (cond c (Some new) (R u)) ≡ Some n → cond b (Some v) (D n) ≡ Some u
      deferring n u true same true at is = ap (λ k. Some k) (same-from v u same)
      deferring n u true same false at is =
          let one : made + 1 ≡ n = same_Some (made + 1) n is in
          absurd (true≢false (sym (self_same (made + 1)) ∙ ap (nat_eq (made + 1)) one ∙ at))
      deferring n u false apart true at is =
          let low : n ≤ made = tied.numbered n u (tied.deferring n u is) in
          let one : made + 1 ≡ n = same-from (made + 1) n at in
          absurd (omega (arith, low, one))
      deferring n u false apart false at is = tied.deferring n u is

      numbered : (n u : ℕ) (b : Bool) → nat_eq (made + 1) n ≡ b → cond b (Some v) (D n) ≡ Some u → n ≤ made + 1
      numbered n u true at there = let one : made + 1 ≡ n = same-from (made + 1) n at in omega (arith, one)
      numbered n u false at there = let low : n ≤ made = tied.numbered n u there in omega (arith, low)

      listed : (n u : ℕ) (c : Bool) → nat_eq v u ≡ c → T n ≡ Some u → has_number n (reactions_in_row (cond c (Some new) (R u))) ≡ true
      listed n u false apart there = tied.listed n u there
      listed n u true same there =
          absurd (true≢false (sym (tied.listed n u there) ∙ ap (λ w. has_number n (reactions_in_row (R w))) (sym (same-from v u same)) ∙ ap (λ o. has_number n (reactions_in_row o)) m.absent))

      reacting : (n u : ℕ) (c : Bool) → has_number n (reactions_in_row (cond c (Some new) (R u))) ≡ true → T n ≡ Some u
      reacting n u true is = let no : ⊥ = cc in absurd no
      reacting n u false is = tied.reacting n u is

      once : (u : ℕ) (c : Bool) → NoneTwice (reactions_in_row (cond c (Some new) (R u)))
      once u true = tt
      once u false = tied.once u

  -- ITS ROW IS CHANGED
  module _ (r : RowOf) (there : R v ≡ Some r) where
    pub record Settles (n : ℕ) (state : ℕ) : Type 0 where
      pub rows : (w : ℕ) → S w ≡ cond (nat_eq v w) (Some (record r { state = state; deferred = None })) (R w)
      pub deferreds : (m : ℕ) → E m ≡ cond (nat_eq n m) None (D m)

    pub tied-settled : (n state : ℕ) → D n ≡ Some v → Settles n state → AreTiedBy S E T made
    tied-settled n state was s = record {
      promised = λ m u is. ap deferred_in (s.rows u) ∙ promised m u (nat_eq n m) refl (nat_eq v u) refl (sym (s.deferreds m) ∙ is);
      deferring = λ m u is. s.deferreds m ∙ deferring m u (nat_eq v u) refl (nat_eq n m) refl (sym (ap deferred_in (s.rows u)) ∙ is);
      numbered = λ m u is. numbered m u (nat_eq n m) (sym (s.deferreds m) ∙ is);
      listed = λ m u is. ap (has_number m) (same u) ∙ tied.listed m u is;
      reacting = λ m u is. tied.reacting m u (sym (ap (has_number m) (same u)) ∙ is);
      once = λ u. subst NoneTwice (sym (same u)) (tied.once u);
    }
      where
        settled : RowOf
        settled = record r { state = state; deferred = None }

        same : (u : ℕ) → reactions_in_row (S u) ≡ reactions_in_row (R u)
        same u = ap reactions_in_row (s.rows u) ∙ by (nat_eq v u) refl
          where
            by : (c : Bool) → nat_eq v u ≡ c → reactions_in_row (cond c (Some settled) (R u)) ≡ reactions_in_row (R u)
            by true here = sym (ap reactions_in_row there) ∙ ap (λ w. reactions_in_row (R w)) (same-from v u here)
            by false apart = refl

        promised : (m u : ℕ) (b : Bool) → nat_eq n m ≡ b → (c : Bool) → nat_eq v u ≡ c → cond b None (D m) ≡ Some u → deferred_in (cond c (Some settled) (R u)) ≡ Some m
        promised m u true at c same is = let no : ⊥ = cc in absurd no
        promised m u false at false apart is = tied.promised m u is
        promised m u false at true here is =
            let this : deferred_in (R v) ≡ Some m = ap (λ w. deferred_in (R w)) (same-from v u here) ∙ tied.promised m u is in
            let that : deferred_in (R v) ≡ Some n = tied.promised n v was in
            let one : n ≡ m = same_Some n m (sym that ∙ this) in
            let self : nat_eq m m ≡ true = grind (arith, nat_tests) in
            absurd (true≢false (sym self ∙ ap (λ k. nat_eq k m) (sym one) ∙ at))

        deferring : (m u : ℕ) (c : Bool) → nat_eq v u ≡ c → (b : Bool) → nat_eq n m ≡ b → deferred_in (cond c (Some settled) (R u)) ≡ Some m → cond b None (D m) ≡ Some u
        deferring m u true here b at is = let no : ⊥ = cc in absurd no
        deferring m u false apart false at is = tied.deferring m u is
        deferring m u false apart true at is =
            let one : v ≡ u = one-promise (D n) v u was (ap D (same-from n m at) ∙ tied.deferring m u is) in
            let self : nat_eq u u ≡ true = grind (arith, nat_tests) in
            absurd (true≢false (sym self ∙ ap (λ k. nat_eq k u) (sym one) ∙ apart))

        numbered : (m u : ℕ) (b : Bool) → cond b None (D m) ≡ Some u → m ≤ made
        numbered m u true is = let no : ⊥ = cc in absurd no
        numbered m u false is = tied.numbered m u is

    -- a reaction more
    pub record Adds (n : ℕ) : Type 0 where
      pub rows : (w : ℕ) → S w ≡ cond (nat_eq v w) (Some (record r { reactions = r.reactions ++ n ∷ [] })) (R w)
      pub reactions : (m : ℕ) → U m ≡ cond (nat_eq n m) (Some v) (T m)

    pub tied-added : (n : ℕ) → T n ≡ None → Adds n → AreTiedBy S D U made
    tied-added n absent a = record {
      promised = λ m u is. same u ∙ tied.promised m u is;
      deferring = λ m u is. tied.deferring m u (sym (same u) ∙ is);
      numbered = tied.numbered;
      listed = λ m u is. has m u ∙ listed m u (nat_eq v u) refl (nat_eq n m) refl (sym (a.reactions m) ∙ is);
      reacting = λ m u is. a.reactions m ∙ reacting m u (nat_eq v u) refl (nat_eq n m) refl (sym (has m u) ∙ is);
      once = λ u. subst (λ o. NoneTwice (reactions_in_row o)) (sym (a.rows u)) (once u (nat_eq v u));
    }
      where
        more : RowOf
        more = record r { reactions = r.reactions ++ n ∷ [] }

        was : (m : ℕ) → has_number m r.reactions ≡ has_number m (reactions_in_row (R v))
        was m = ap (λ o. has_number m (reactions_in_row o)) (sym there)

        same : (u : ℕ) → deferred_in (S u) ≡ deferred_in (R u)
        same u = ap deferred_in (a.rows u) ∙ by (nat_eq v u) refl
          where
            by : (c : Bool) → nat_eq v u ≡ c → deferred_in (cond c (Some more) (R u)) ≡ deferred_in (R u)
            by true here = sym (ap deferred_in there) ∙ ap (λ w. deferred_in (R w)) (same-from v u here)
            by false apart = refl

        has : (m u : ℕ) → has_number m (reactions_in_row (S u)) ≡ cond (nat_eq v u) (has_number m r.reactions || nat_eq n m) (has_number m (reactions_in_row (R u)))
        has m u = ap (λ o. has_number m (reactions_in_row o)) (a.rows u) ∙ by (nat_eq v u)
          where
            flipped : (n == m) ≡ nat_eq n m
            flipped = grind (arith, nat_tests)

            by : (c : Bool) → has_number m (reactions_in_row (cond c (Some more) (R u))) ≡ cond c (has_number m r.reactions || nat_eq n m) (has_number m (reactions_in_row (R u)))
            by true = has-behind m n r.reactions ∙ ap (λ b. has_number m r.reactions || b) flipped
            by false = refl

        right : (b : Bool) → (b || true) ≡ true
        right true = refl
        right false = refl

        left : (b : Bool) → (b || false) ≡ true → b ≡ true
        left true is = refl
        left false is = is

        listed : (m u : ℕ) (c : Bool) → nat_eq v u ≡ c → (b : Bool) → nat_eq n m ≡ b → cond b (Some v) (T m) ≡ Some u
            → cond c (has_number m r.reactions || b) (has_number m (reactions_in_row (R u))) ≡ true
        listed m u true here true at is = right (has_number m r.reactions)
        listed m u false apart true at is =
            let one : v ≡ u = same_Some v u is in
            let self : nat_eq u u ≡ true = grind (arith, nat_tests) in
            absurd (true≢false (sym self ∙ ap (λ k. nat_eq k u) (sym one) ∙ apart))
        listed m u false apart false at is = tied.listed m u is
        listed m u true here false at is =
            ap (λ b. b || false) (was m ∙ ap (λ w. has_number m (reactions_in_row (R w))) (same-from v u here) ∙ tied.listed m u is)

        reacting : (m u : ℕ) (c : Bool) → nat_eq v u ≡ c → (b : Bool) → nat_eq n m ≡ b
            → cond c (has_number m r.reactions || b) (has_number m (reactions_in_row (R u))) ≡ true → cond b (Some v) (T m) ≡ Some u
        reacting m u true here true at is = ap (λ k. Some k) (same-from v u here)
        reacting m u true here false at is =
            tied.reacting m v (sym (was m) ∙ left (has_number m r.reactions) is) ∙ ap (λ k. Some k) (same-from v u here)
        reacting m u false apart true at is =
            let some : T n ≡ Some u = ap T (same-from n m at) ∙ tied.reacting m u is in
            let no : ⊥ = cc in absurd no
        reacting m u false apart false at is = tied.reacting m u is

        fresh : has_number n r.reactions ≡ false
        fresh = false_from_ne_true _ (λ is. let some : T n ≡ Some v = tied.reacting n v (sym (was n) ∙ is) in let no : ⊥ = cc in no)

        once : (u : ℕ) (c : Bool) → NoneTwice (reactions_in_row (cond c (Some more) (R u)))
        once u true = once-behind n r.reactions (subst (λ o. NoneTwice (reactions_in_row o)) there (tied.once v)) fresh
        once u false = tied.once u

    -- a reaction less
    pub record Takes (n : ℕ) : Type 0 where
      pub rows : (w : ℕ) → S w ≡ cond (nat_eq v w) (Some (record r { reactions = filter (λ m. not (m == n)) r.reactions })) (R w)
      pub reactions : (m : ℕ) → U m ≡ cond (nat_eq n m) None (T m)

    pub tied-taken : (n : ℕ) → T n ≡ Some v → Takes n → AreTiedBy S D U made
    tied-taken n some a = record {
      promised = λ m u is. same u ∙ tied.promised m u is;
      deferring = λ m u is. tied.deferring m u (sym (same u) ∙ is);
      numbered = tied.numbered;
      listed = λ m u is. has m u ∙ listed m u (nat_eq v u) refl (nat_eq n m) refl (sym (a.reactions m) ∙ is);
      reacting = λ m u is. a.reactions m ∙ reacting m u (nat_eq v u) refl (nat_eq n m) refl (sym (has m u) ∙ is);
      once = λ u. subst (λ o. NoneTwice (reactions_in_row o)) (sym (a.rows u)) (once u (nat_eq v u));
    }
      where
        less : RowOf
        less = record r { reactions = filter (λ m. not (m == n)) r.reactions }

        was : (m : ℕ) → has_number m r.reactions ≡ has_number m (reactions_in_row (R v))
        was m = ap (λ o. has_number m (reactions_in_row o)) (sym there)

        same : (u : ℕ) → deferred_in (S u) ≡ deferred_in (R u)
        same u = ap deferred_in (a.rows u) ∙ by (nat_eq v u) refl
          where
            by : (c : Bool) → nat_eq v u ≡ c → deferred_in (cond c (Some less) (R u)) ≡ deferred_in (R u)
            by true here = sym (ap deferred_in there) ∙ ap (λ w. deferred_in (R w)) (same-from v u here)
            by false apart = refl

        has : (m u : ℕ) → has_number m (reactions_in_row (S u)) ≡ cond (nat_eq v u) (cond (nat_eq n m) false (has_number m r.reactions)) (has_number m (reactions_in_row (R u)))
        has m u = ap (λ o. has_number m (reactions_in_row o)) (a.rows u) ∙ by (nat_eq v u)
          where
            by : (c : Bool) → has_number m (reactions_in_row (cond c (Some less) (R u))) ≡ cond c (cond (nat_eq n m) false (has_number m r.reactions)) (has_number m (reactions_in_row (R u)))
            by true = has-without m n r.reactions ∙ ap (λ b. cond b false (has_number m r.reactions)) (equal-tests m n)
            by false = refl

        listed : (m u : ℕ) (c : Bool) → nat_eq v u ≡ c → (b : Bool) → nat_eq n m ≡ b → cond b None (T m) ≡ Some u
            → cond c (cond b false (has_number m r.reactions)) (has_number m (reactions_in_row (R u))) ≡ true
        listed m u c here true at is = let no : ⊥ = cc in absurd no
        listed m u false apart false at is = tied.listed m u is
        listed m u true here false at is = was m ∙ ap (λ w. has_number m (reactions_in_row (R w))) (same-from v u here) ∙ tied.listed m u is

        reacting : (m u : ℕ) (c : Bool) → nat_eq v u ≡ c → (b : Bool) → nat_eq n m ≡ b
            → cond c (cond b false (has_number m r.reactions)) (has_number m (reactions_in_row (R u))) ≡ true → cond b None (T m) ≡ Some u
        reacting m u true here true at is = let no : ⊥ = cc in absurd no
        reacting m u true here false at is = tied.reacting m v (sym (was m) ∙ is) ∙ ap (λ k. Some k) (same-from v u here)
        reacting m u false apart true at is =
            let one : v ≡ u = one-promise (T n) v u some (ap T (same-from n m at) ∙ tied.reacting m u is) in
            let self : nat_eq u u ≡ true = grind (arith, nat_tests) in
            absurd (true≢false (sym self ∙ ap (λ k. nat_eq k u) (sym one) ∙ apart))
        reacting m u false apart false at is = tied.reacting m u is

        once : (u : ℕ) (c : Bool) → NoneTwice (reactions_in_row (cond c (Some less) (R u)))
        once u true = once-without n r.reactions (subst (λ o. NoneTwice (reactions_in_row o)) there (tied.once v))
        once u false = tied.once u
