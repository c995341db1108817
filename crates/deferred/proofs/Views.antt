-- What the three tables stand for, and what a change of them makes of it.
use Rattle.std.proofs.Common.{◌≡◌, ◌∙◌, ℕ, suc, ◌+◌, ◌==◌, nat_eq, ◌||◌, Bool, true, false, not, cond, List, [], ◌∷◌, ◌++◌, map, filter, length, Option, Some, None, option_map, is_some, IsSome, OnOk, Result, Ok, Err, refl, ap, sym, subst, arith, true≢false}
use Rattle.std.specs.List.{list_any, IsDistinct}
use Rattle.std.specs.Cmp.{IsEquivalence}
use Rattle.std.specs.Map.{lookup, keys_of}
use Rattle.std.specs.Option.{option_and_then, unwrap_or}
use Rattle.std.proofs.lemmas.Bool.Decides.{nat_tests}
use Rattle.std.proofs.lemmas.List.Folds.{list_any-append}
use Rattle.std.proofs.lemmas.Map.Entries.{option_filter, lookup-filter-values}
use Rattle.napi_types.specs.plain.Lists.{found, has, has_number, HaveSameNumbers, is_empty, with_number, up_to}
use Rattle.napi_types.specs.parts.Promises.{Promise, Deferred, Promises, no_promises, promise_at, promise_state, reactions_of, is_reaction_of, deferred_promise, promise_roots, promise_changed, with_promise, with_settled, with_reaction, without_reaction, without_promise}
use Rattle.napi_types.proofs.plain.Found.{IsRising, same-self, same-tells, has-found, found-above, found-with_record, found-filter, found-kept, found-map, found-same, rising-with_record, rising-filter, rising-changed, rising-as_map, rising-map, same-from, equal-tests}
use Rattle.napi_types.proofs.plain.FoundInMaps.{found-in-map}
use Rattle.napi_types.proofs.plain.Issued.{length-up_to, up_to-more, fresh_number}
use Rattle.napi_types.proofs.plain.Lists.{any-map}
use Rattle.napi_types.proofs.plain.Options.{none-of}
use Rattle.deferred.specs.declared.row.PromiseRow.{PromiseRow}
use Rattle.deferred.specs.KeptPromises.{KeptPromises, AreMaps}
use Rattle.deferred.specs.PromiseRows.{RowOf, seen_row, row_at, settled_row, added_row, taken_row as taken_of, deferred_in, is_deferred_of, reactions_in_row, promise_in, deferred_as, promises_of, AreTied, is_root_row, root_values}
use Rattle.deferred.proofs.Numbers.{without-absent}
use Rattle.deferred.proofs.Tied.{Forgets, Settles, deferred-tells, tied-forgotten, tied-made, tied-settled, tied-added, tied-taken}

-- the promises of what a caller sees
pub seen : {a b : KeptPromises} → a ≡ b → a.promises ≡ b.promises
seen is = ap (λ (k : KeptPromises). k.promises) is

self-same : (n : ℕ) → nat_eq n n ≡ true
self-same n = grind (arith, nat_tests)

-- WHAT IS FOUND
mapped-twice : {A B C : Type 0} (f : A → B) (g : B → C) (o : Option A) → option_map (λ x. g (f x)) o ≡ option_map g (option_map f o)
mapped-twice f g None = refl
mapped-twice f g (Some x) = refl

pub found-promise : (rows : List (ℕ × PromiseRow)) (ds : List (ℕ × ℕ)) (made v : ℕ) → promise_at (promises_of rows ds made) v ≡ option_map (promise_in v) (row_at v rows)
unfolding promises_of
found-promise rows ds made v =
    found-in-map (λ p. p.value) (λ n row. promise_in n (seen_row row)) (λ n row. refl) v rows ∙ mapped-twice seen_row (promise_in v) (lookup (nat_eq v) rows)

pub found-deferred : (rows : List (ℕ × PromiseRow)) (ds : List (ℕ × ℕ)) (made n : ℕ)
    → found (λ d. d.number) n (promises_of rows ds made).deferreds ≡ option_map (deferred_as n) (lookup (nat_eq n) ds)
unfolding promises_of
found-deferred rows ds made n = found-in-map (λ d. d.number) deferred_as (λ n v. refl) n ds

pub rising-promises : (rows : List (ℕ × PromiseRow)) (ds : List (ℕ × ℕ)) (made : ℕ) → IsRising (λ p. p.value) (promises_of rows ds made).promises
unfolding promises_of
rising-promises rows ds made = rising-as_map (λ p. p.value) (map (λ e. promise_in e.0 (seen_row e.1)) rows)

pub rising-deferreds : (rows : List (ℕ × PromiseRow)) (ds : List (ℕ × ℕ)) (made : ℕ) → IsRising (λ d. d.number) (promises_of rows ds made).deferreds
unfolding promises_of
rising-deferreds rows ds made = rising-as_map (λ d. d.number) (map (λ e. deferred_as e.0 e.1) ds)

pub issued-up_to : (rows : List (ℕ × PromiseRow)) (ds : List (ℕ × ℕ)) (made : ℕ) → (promises_of rows ds made).issued ≡ up_to made
unfolding promises_of
issued-up_to rows ds made = refl

pub promises_of-none : promises_of [] [] 0 ≡ no_promises
unfolding promises_of
promises_of-none = refl

-- each is a finite map
pub maps-of : (rows : List (ℕ × PromiseRow)) (ds : List (ℕ × ℕ)) (made : ℕ) (p : Promises) → promises_of rows ds made ≡ p → AreMaps p
maps-of rows ds made p is = subst AreMaps is (record {
  promises = rising-map (λ r. r.value) (promises_of rows ds made).promises (rising-promises rows ds made);
  deferreds = rising-map (λ d. d.number) (promises_of rows ds made).deferreds (rising-deferreds rows ds made);
})

-- two with the same promises, deferreds and numbers are equal
same-promises : (ps qs : List Promise) (ds es : List Deferred) (ms ns : List ℕ) → ps ≡ qs → ds ≡ es → ms ≡ ns
    → let p : Promises = record { promises = ps; deferreds = ds; issued = ms } in p ≡ record { promises = qs; deferreds = es; issued = ns }
same-promises ps qs ds es ms ns e f g = cc

-- what these tables stand for
record StandsFor (rows : List (ℕ × PromiseRow)) (ds : List (ℕ × ℕ)) (made : ℕ) (p : Promises) : Type 0 where
  promises : IsRising (λ r. r.value) p.promises
  deferreds : IsRising (λ d. d.number) p.deferreds
  issued : p.issued ≡ up_to made
  each : (v : ℕ) → promise_at p v ≡ option_map (promise_in v) (row_at v rows)
  those : (n : ℕ) → found (λ d. d.number) n p.deferreds ≡ option_map (deferred_as n) (lookup (nat_eq n) ds)

stands-for : (rows : List (ℕ × PromiseRow)) (ds : List (ℕ × ℕ)) (made : ℕ) (p : Promises) → StandsFor rows ds made p → promises_of rows ds made ≡ p
stands-for rows ds made p s =
    let q : Promises = promises_of rows ds made in
    same-promises q.promises p.promises q.deferreds p.deferreds q.issued p.issued
    (found-same (λ r. r.value) q.promises p.promises (rising-promises rows ds made) s.promises (λ v. found-promise rows ds made v ∙ sym (s.each v)))
    (found-same (λ d. d.number) q.deferreds p.deferreds (rising-deferreds rows ds made) s.deferreds (λ n. found-deferred rows ds made n ∙ sym (s.those n)))
    (issued-up_to rows ds made ∙ sym s.issued)

-- CHANGES
module _ (rows rows' : List (ℕ × PromiseRow)) (ds ds' ts ts' : List (ℕ × ℕ)) (made : ℕ) (tied : AreTied rows ds ts made) (v : ℕ) where
  abbrev R : ℕ → Option RowOf
  R w = row_at w rows

  abbrev S : ℕ → Option RowOf
  S w = row_at w rows'

  abbrev D : ℕ → Option ℕ
  D n = lookup (nat_eq n) ds

  abbrev E : ℕ → Option ℕ
  E n = lookup (nat_eq n) ds'

  abbrev T : ℕ → Option ℕ
  T n = lookup (nat_eq n) ts

  abbrev U : ℕ → Option ℕ
  U n = lookup (nat_eq n) ts'

  -- nothing of the promises and the deferreds
  pub view-same : ((w : ℕ) → S w ≡ R w) → ((n : ℕ) → E n ≡ D n) → promises_of rows' ds' made ≡ promises_of rows ds made
  view-same row deferred = stands-for rows' ds' made (promises_of rows ds made) (record {
    promises = rising-promises rows ds made;
    deferreds = rising-deferreds rows ds made;
    issued = issued-up_to rows ds made;
    each = λ w. found-promise rows ds made w ∙ ap (option_map (promise_in w)) (sym (row w));
    those = λ n. found-deferred rows ds made n ∙ ap (option_map (deferred_as n)) (sym (deferred n));
  })

  -- a promise is gone
  module _ (f : Forgets R S D E T U made tied v) where
    gone-promise : (w : ℕ) → promise_at (without_promise v (promises_of rows ds made)) w ≡ option_map (promise_in w) (S w)
    gone-promise w =
        found-filter (λ r. r.value) (λ n. not (n == v)) w (promises_of rows ds made).promises
        ∙ ap (λ o. cond (not (w == v)) o None) (found-promise rows ds made w)
        ∙ ap (λ b. cond (not b) (option_map (promise_in w) (R w)) None) (equal-tests w v)
        ∙ by (nat_eq v w) ∙ ap (option_map (promise_in w)) (sym (f.rows w))
      where
        by : (b : Bool) → cond (not b) (option_map (promise_in w) (R w)) None ≡ option_map (promise_in w) (cond b None (R w))
        by true = refl
        by false = refl

    gone-deferred : (n : ℕ) → found (λ d. d.number) n (without_promise v (promises_of rows ds made)).deferreds ≡ option_map (deferred_as n) (E n)
    gone-deferred n =
        found-kept (λ d. d.number) (λ d. not (d.promise == v)) n (promises_of rows ds made).deferreds (rising-deferreds rows ds made)
        ∙ ap (option_and_then (λ d. cond (not (d.promise == v)) (Some d) None)) (found-deferred rows ds made n)
        ∙ by (D n) refl ∙ ap (option_map (deferred_as n)) (sym (f.deferreds n))
      where
        none : (b : Bool) → None ≡ option_map (deferred_as n) (cond b None None)
        none true = refl
        none false = refl

        some : (u : ℕ) (b : Bool) → cond (not b) (Some (deferred_as n u)) None ≡ option_map (deferred_as n) (cond b None (Some u))
        some u true = refl
        some u false = refl

        by : (o : Option ℕ) → D n ≡ o → option_and_then (λ (d : Deferred). cond (not (d.promise == v)) (Some d) None) (option_map (deferred_as n) o)
            ≡ option_map (deferred_as n) (cond (is_deferred_of n (R v)) None (D n))
        by None is = none (is_deferred_of n (R v)) ∙ ap (λ o. option_map (deferred_as n) (cond (is_deferred_of n (R v)) None o)) (sym is)
        by (Some u) is =
            some u (u == v) ∙ ap (λ b. option_map (deferred_as n) (cond b None (Some u))) (sym (deferred-tells R S D E T U made tied v n u is))
            ∙ ap (λ o. option_map (deferred_as n) (cond (is_deferred_of n (R v)) None o)) (sym is)

    pub view-gone : promises_of rows' ds' made ≡ without_promise v (promises_of rows ds made)
    view-gone = stands-for rows' ds' made (without_promise v (promises_of rows ds made)) (record {
      promises = rising-filter (λ r. r.value) (λ r. not (r.value == v)) (promises_of rows ds made).promises (rising-promises rows ds made);
      deferreds = rising-filter (λ d. d.number) (λ d. not (d.promise == v)) (promises_of rows ds made).deferreds (rising-deferreds rows ds made);
      issued = issued-up_to rows ds made;
      each = gone-promise;
      those = gone-deferred;
    })

  -- one is gone, and a promise is made of its value
  module _ (qs : List (ℕ × PromiseRow)) (es : List (ℕ × ℕ)) (gone : Forgets R S D E T U made tied v)
      (row : (w : ℕ) → row_at w qs ≡ cond (nat_eq v w) (Some (record { state = 0; deferred = Some (made + 1); reactions = [] })) (S w))
      (deferred : (n : ℕ) → lookup (nat_eq n) es ≡ cond (nat_eq (made + 1) n) (Some v) (E n)) where
    made-promise : (w : ℕ) → promise_at (with_promise v (made + 1) (promises_of rows ds made)) w ≡ option_map (promise_in w) (row_at w qs)
    made-promise w =
        found-with_record (λ r. r.value) w (record { value = v; state = 0; reactions = [] }) (promises_of rows ds made).promises
        ∙ ap (λ o. cond (v == w) (Some (record { value = v; state = 0; reactions = [] })) o) (found-promise rows ds made w)
        ∙ by (nat_eq v w) refl ∙ ap (option_map (promise_in w)) (sym (row w ∙ ap (cond (nat_eq v w) (Some (record { state = 0; deferred = Some (made + 1); reactions = [] }))) (gone.rows w)))
      where
        test : (b : Bool) → nat_eq v w ≡ b → (v == w) ≡ b
        test b is = grind (arith, nat_tests, is)

        by : (b : Bool) → nat_eq v w ≡ b → cond (v == w) (Some (record { value = v; state = 0; reactions = [] })) (option_map (promise_in w) (R w))
            ≡ option_map (promise_in w) (cond (nat_eq v w) (Some (record { state = 0; deferred = Some (made + 1); reactions = [] })) (cond (nat_eq v w) None (R w)))
        by true is =
            ap (λ c. cond c (Some (record { value = v; state = 0; reactions = [] })) (option_map (promise_in w) (R w))) (test true is)
            ∙ ap (λ k. Some (record { value = k; state = 0; reactions = [] })) (same-from v w is)
            ∙ sym (ap (λ c. option_map (promise_in w) (cond c (Some (record { state = 0; deferred = Some (made + 1); reactions = [] })) (cond c None (R w)))) is)
        by false is =
            ap (λ c. cond c (Some (record { value = v; state = 0; reactions = [] })) (option_map (promise_in w) (R w))) (test false is)
            ∙ sym (ap (λ c. option_map (promise_in w) (cond c (Some (record { state = 0; deferred = Some (made + 1); reactions = [] })) (cond c None (R w)))) is)

    made-deferred : (n : ℕ) → found (λ d. d.number) n (with_promise v (made + 1) (promises_of rows ds made)).deferreds ≡ option_map (deferred_as n) (lookup (nat_eq n) es)
    made-deferred n =
        found-with_record (λ d. d.number) n (deferred_as (made + 1) v) (without_promise v (promises_of rows ds made)).deferreds
        ∙ ap (λ o. cond (made + 1 == n) (Some (deferred_as (made + 1) v)) o) (gone-deferred gone n)
        ∙ by (nat_eq (made + 1) n) refl ∙ ap (option_map (deferred_as n)) (sym (deferred n))
      where
        test : (b : Bool) → nat_eq (made + 1) n ≡ b → (made + 1 == n) ≡ b
        test b is = grind (arith, nat_tests, is)

        by : (b : Bool) → nat_eq (made + 1) n ≡ b → cond (made + 1 == n) (Some (deferred_as (made + 1) v)) (option_map (deferred_as n) (E n))
            ≡ option_map (deferred_as n) (cond (nat_eq (made + 1) n) (Some v) (E n))
        by true is =
            ap (λ c. cond c (Some (deferred_as (made + 1) v)) (option_map (deferred_as n) (E n))) (test true is)
            ∙ ap (λ k. Some (deferred_as k v)) (same-from (made + 1) n is) ∙ sym (ap (λ c. option_map (deferred_as n) (cond c (Some v) (E n))) is)
        by false is =
            ap (λ c. cond c (Some (deferred_as (made + 1) v)) (option_map (deferred_as n) (E n))) (test false is)
            ∙ sym (ap (λ c. option_map (deferred_as n) (cond c (Some v) (E n))) is)

    pub view-made : promises_of qs es (made + 1) ≡ with_promise v (made + 1) (promises_of rows ds made)
    view-made = stands-for qs es (made + 1) (with_promise v (made + 1) (promises_of rows ds made)) (record {
      promises = rising-with_record (λ r. r.value) (record { value = v; state = 0; reactions = [] }) (promises_of rows ds made).promises (rising-promises rows ds made);
      deferreds = rising-with_record (λ d. d.number) (deferred_as (made + 1) v) (without_promise v (promises_of rows ds made)).deferreds
          (rising-filter (λ d. d.number) (λ d. not (d.promise == v)) (promises_of rows ds made).deferreds (rising-deferreds rows ds made));
      issued = ap (with_number (made + 1)) (issued-up_to rows ds made) ∙ up_to-more made;
      each = made-promise;
      those = made-deferred;
    })

  -- one promise is changed
  module _ (r : RowOf) (there : R v ≡ Some r) (change : Promise → Promise) (row : RowOf) (changes : change (promise_in v r) ≡ promise_in v row)
      (keeps : (p : Promise) → (change p).value ≡ p.value) (puts : (w : ℕ) → S w ≡ cond (nat_eq v w) (Some row) (R w)) where
    keeps-value : (p : Promise) → (cond (p.value == v) (change p) p).value ≡ p.value
    keeps-value p = by (p.value == v)
      where
        by : (b : Bool) → (cond b (change p) p).value ≡ p.value
        by true = keeps p
        by false = refl

    pub rising-promise : IsRising (λ p. p.value) (promise_changed change v (promises_of rows ds made).promises)
    rising-promise = rising-changed (λ p. p.value) (λ p. cond (p.value == v) (change p) p) keeps-value (promises_of rows ds made).promises (rising-promises rows ds made)

    pub changed-promise : (w : ℕ) → found (λ p. p.value) w (promise_changed change v (promises_of rows ds made).promises) ≡ option_map (promise_in w) (S w)
    changed-promise w =
        found-map (λ p. p.value) (λ p. cond (p.value == v) (change p) p) keeps-value w (promises_of rows ds made).promises
        ∙ ap (option_map (λ p. cond (p.value == v) (change p) p)) (found-promise rows ds made w)
        ∙ by (nat_eq v w) refl ∙ ap (option_map (promise_in w)) (sym (puts w))
      where
        other : (b : Bool) → (w == v) ≡ b → b ≡ false → (o : Option RowOf) → option_map (λ (p : Promise). cond (p.value == v) (change p) p) (option_map (promise_in w) o) ≡ option_map (promise_in w) o
        other b is apart None = refl
        other b is apart (Some q) = ap (λ c. Some (cond c (change (promise_in w q)) (promise_in w q))) (is ∙ apart)

        by : (b : Bool) → nat_eq v w ≡ b → option_map (λ (p : Promise). cond (p.value == v) (change p) p) (option_map (promise_in w) (R w))
            ≡ option_map (promise_in w) (cond b (Some row) (R w))
        by true is =
            let one : v ≡ w = same-from v w is in
            ap (λ k. option_map (λ (p : Promise). cond (p.value == v) (change p) p) (option_map (promise_in k) (R k))) (sym one)
            ∙ ap (λ o. option_map (λ (p : Promise). cond (p.value == v) (change p) p) (option_map (promise_in v) o)) there
            ∙ ap (λ c. Some (cond c (change (promise_in v r)) (promise_in v r))) (same-self v)
            ∙ ap (λ p. Some p) changes ∙ ap (λ k. Some (promise_in k row)) one
        by false is = other (w == v) refl (equal-tests w v ∙ is) (R w)

  -- a promise is settled
  pub view-settled : (r : RowOf) (there : R v ≡ Some r) (n state : ℕ) → Settles R S D E T U made tied v r there n state
      → promises_of rows' ds' made ≡ with_settled n v state (promises_of rows ds made)
  view-settled r there n state s =
      let changes = changed-promise r there (λ p. record p { state = state }) (record r { state = state; deferred = None }) refl (λ p. refl) s.rows in
      let rises = rising-promise r there (λ p. record p { state = state }) (record r { state = state; deferred = None }) refl (λ p. refl) s.rows in
      stands-for rows' ds' made (with_settled n v state (promises_of rows ds made)) (record {
        promises = rises;
        deferreds = rising-filter (λ d. d.number) (λ d. not (d.number == n)) (promises_of rows ds made).deferreds (rising-deferreds rows ds made);
        issued = issued-up_to rows ds made;
        each = changes;
        those = λ m. found-filter (λ d. d.number) (λ k. not (k == n)) m (promises_of rows ds made).deferreds
            ∙ ap (λ o. cond (not (m == n)) o None) (found-deferred rows ds made m)
            ∙ ap (λ b. cond (not b) (option_map (deferred_as m) (D m)) None) (equal-tests m n)
            ∙ by m (nat_eq n m) ∙ ap (option_map (deferred_as m)) (sym (s.deferreds m));
      })
    where
      by : (m : ℕ) (b : Bool) → cond (not b) (option_map (deferred_as m) (D m)) None ≡ option_map (deferred_as m) (cond b None (D m))
      by m true = refl
      by m false = refl

  -- it has a reaction more
  pub view-added : (r : RowOf) (there : R v ≡ Some r) (n : ℕ) → ((w : ℕ) → S w ≡ cond (nat_eq v w) (Some (record r { reactions = r.reactions ++ n ∷ [] })) (R w))
      → ((m : ℕ) → E m ≡ D m) → promises_of rows' ds' made ≡ with_reaction v n (promises_of rows ds made)
  view-added r there n puts same =
      let change : Promise → Promise = λ p. record p { reactions = p.reactions ++ n ∷ [] } in
      let row : RowOf = record r { reactions = r.reactions ++ n ∷ [] } in
      stands-for rows' ds' made (with_reaction v n (promises_of rows ds made)) (record {
        promises = rising-promise r there change row refl (λ p. refl) puts;
        deferreds = rising-deferreds rows ds made;
        issued = issued-up_to rows ds made;
        each = changed-promise r there change row refl (λ p. refl) puts;
        those = λ m. found-deferred rows ds made m ∙ ap (option_map (deferred_as m)) (sym (same m));
      })

-- A REACTION ENDS
module _ (rows rows' : List (ℕ × PromiseRow)) (ds : List (ℕ × ℕ)) (made n : ℕ) where
  abbrev taken : Promise → Promise
  taken p = record p { reactions = filter (λ m. not (m == n)) p.reactions }

  abbrev taken_row : RowOf → RowOf
  taken_row r = record r { reactions = filter (λ m. not (m == n)) r.reactions }

  -- each promise is without it
  pub view-ended : ((w : ℕ) → row_at w rows' ≡ option_map taken_row (row_at w rows)) → promises_of rows' ds made ≡ without_reaction n (promises_of rows ds made)
  view-ended each = stands-for rows' ds made (without_reaction n (promises_of rows ds made)) (record {
    promises = rising-changed (λ p. p.value) taken (λ p. refl) (promises_of rows ds made).promises (rising-promises rows ds made);
    deferreds = rising-deferreds rows ds made;
    issued = issued-up_to rows ds made;
    each = λ w. found-map (λ p. p.value) taken (λ p. refl) w (promises_of rows ds made).promises
        ∙ ap (option_map taken) (found-promise rows ds made w) ∙ by w (row_at w rows) ∙ ap (option_map (promise_in w)) (sym (each w));
    those = λ m. found-deferred rows ds made m;
  })
    where
      by : (w : ℕ) (o : Option RowOf) → option_map taken (option_map (promise_in w) o) ≡ option_map (promise_in w) (option_map taken_row o)
      by w None = refl
      by w (Some r) = refl

-- a promise that does not have it is as it was
pub taken-absent : (n : ℕ) (o : Option RowOf) → has_number n (reactions_in_row o) ≡ false → option_map (λ (r : RowOf). record r { reactions = filter (λ m. not (m == n)) r.reactions }) o ≡ o
taken-absent n None absent = refl
taken-absent n (Some r) absent = ap (λ ns. Some (record r { reactions = ns })) (without-absent n r.reactions absent)

-- READ
pub read-state : (rows : List (ℕ × PromiseRow)) (ds : List (ℕ × ℕ)) (made v : ℕ) → promise_state (promises_of rows ds made) v ≡ option_map (λ r. r.state) (row_at v rows)
read-state rows ds made v = ap (option_map (λ (p : Promise). p.state)) (found-promise rows ds made v) ∙ by (row_at v rows)
  where
    by : (o : Option RowOf) → option_map (λ (p : Promise). p.state) (option_map (promise_in v) o) ≡ option_map (λ r. r.state) o
    by None = refl
    by (Some r) = refl

pub read-reactions : (rows : List (ℕ × PromiseRow)) (ds : List (ℕ × ℕ)) (made v : ℕ) → reactions_of (promises_of rows ds made) v ≡ reactions_in_row (row_at v rows)
read-reactions rows ds made v = ap (λ o. unwrap_or (option_map (λ (p : Promise). p.reactions) o) []) (found-promise rows ds made v) ∙ by (row_at v rows)
  where
    by : (o : Option RowOf) → unwrap_or (option_map (λ (p : Promise). p.reactions) (option_map (promise_in v) o)) [] ≡ reactions_in_row o
    by None = refl
    by (Some r) = refl

pub read-deferred : (rows : List (ℕ × PromiseRow)) (ds : List (ℕ × ℕ)) (made n : ℕ) → deferred_promise (promises_of rows ds made) n ≡ lookup (nat_eq n) ds
read-deferred rows ds made n = ap (option_map (λ (d : Deferred). d.promise)) (found-deferred rows ds made n) ∙ by (lookup (nat_eq n) ds)
  where
    by : (o : Option ℕ) → option_map (λ (d : Deferred). d.promise) (option_map (deferred_as n) o) ≡ o
    by None = refl
    by (Some u) = refl

pub read-absent : (rows : List (ℕ × PromiseRow)) (ds : List (ℕ × ℕ)) (made v : ℕ) → row_at v rows ≡ None → promise_at (promises_of rows ds made) v ≡ None
read-absent rows ds made v none = found-promise rows ds made v ∙ ap (option_map (promise_in v)) none

pub issued-length : (rows : List (ℕ × PromiseRow)) (ds : List (ℕ × ℕ)) (made : ℕ) → length (promises_of rows ds made).issued ≡ made
issued-length rows ds made = ap length (issued-up_to rows ds made) ∙ length-up_to made

-- ROOTS
-- a deferred of a promise is in the list, or it has none
any-found : (p : Deferred → Bool) (xs : List Deferred) → IsRising (λ d. d.number) xs → (n : ℕ) (d : Deferred) → found (λ x. x.number) n xs ≡ Some d → p d ≡ true → list_any p xs ≡ true
any-found p [] rises n d is passes = let no : ⊥ = cc in absurd no
any-found p (x ∷ xs) rises n d is passes = by (x.number == n) is (λ later. any-found p xs rises.1 n d later passes)
  where
    right : (b : Bool) → (b || true) ≡ true
    right true = refl
    right false = refl

    by : (b : Bool) → cond b (Some x) (found (λ y. y.number) n xs) ≡ Some d → (found (λ y. y.number) n xs ≡ Some d → list_any p xs ≡ true) → (p x || list_any p xs) ≡ true
    by true here rest = let it : x ≡ d = cc in ap (λ y. p y || list_any p xs) it ∙ ap (λ b. b || list_any p xs) passes
    by false later rest = ap (λ b. p x || b) (rest later) ∙ right (p x)

none-passes : (p : Deferred → Bool) (xs : List Deferred) → IsRising (λ d. d.number) xs → ((n : ℕ) (d : Deferred) → found (λ x. x.number) n xs ≡ Some d → p d ≡ false) → list_any p xs ≡ false
none-passes p [] rises none = refl
none-passes p (x ∷ xs) rises none =
    ap (λ b. b || list_any p xs) (none x.number x (ap (λ b. cond b (Some x) (found (λ y. y.number) x.number xs)) (same-self x.number)))
    ∙ none-passes p xs rises.1 (λ n d is. none n d (by n d (x.number == n) refl is))
  where
    by : (n : ℕ) (d : Deferred) (b : Bool) → (x.number == n) ≡ b → found (λ y. y.number) n xs ≡ Some d → found (λ y. y.number) n (x ∷ xs) ≡ Some d
    by n d false apart is = ap (λ b. cond b (Some x) (found (λ y. y.number) n xs)) apart ∙ is
    by n d true here is =
        let one : x.number ≡ n = same-tells x.number n here in
        let nothing : found (λ y. y.number) n xs ≡ None = found-above (λ y. y.number) n xs (λ k e within. omega (arith, one, rises.0 k e within)) in
        let no : ⊥ = cc in absurd no

module _ (rows : List (ℕ × PromiseRow)) (ds ts : List (ℕ × ℕ)) (made : ℕ) (tied : AreTied rows ds ts made) (v : ℕ) where
  awaited : has_number v (map (λ d. d.promise) (promises_of rows ds made).deferreds) ≡ is_some (deferred_in (row_at v rows))
  awaited = any-map (λ m. m == v) (λ (d : Deferred). d.promise) (promises_of rows ds made).deferreds ∙ by (deferred_in (row_at v rows)) refl
    where
      by : (o : Option ℕ) → deferred_in (row_at v rows) ≡ o → list_any (λ (d : Deferred). d.promise == v) (promises_of rows ds made).deferreds ≡ is_some o
      by (Some n) is =
          any-found (λ d. d.promise == v) (promises_of rows ds made).deferreds (rising-deferreds rows ds made) n (deferred_as n v)
          (found-deferred rows ds made n ∙ ap (option_map (deferred_as n)) (tied.deferring n v is)) (same-self v)
      by None is =
          none-passes (λ d. d.promise == v) (promises_of rows ds made).deferreds (rising-deferreds rows ds made)
          (λ n d there. other n d (lookup (nat_eq n) ds) refl (sym (found-deferred rows ds made n) ∙ there))
        where
          other : (n : ℕ) (d : Deferred) (o : Option ℕ) → lookup (nat_eq n) ds ≡ o → option_map (deferred_as n) (lookup (nat_eq n) ds) ≡ Some d → (d.promise == v) ≡ false
          other n d None none there = let no : ⊥ = let it = sym (ap (option_map (deferred_as n)) none) ∙ there in cc in absurd no
          other n d (Some u) some there =
              let it : Some (deferred_as n u) ≡ Some d = sym (ap (option_map (deferred_as n)) some) ∙ there in
              let one : d.promise ≡ u = ap (λ (o : Option Deferred). unwrap_or (option_map (λ (e : Deferred). e.promise) o) u) (sym it) in
              ap (λ k. k == v) one ∙ apart (u == v) refl
            where
              apart : (b : Bool) → (u == v) ≡ b → b ≡ false
              apart false is = refl
              apart true same =
                  let none : Some n ≡ None = sym (tied.promised n u some) ∙ ap (λ w. deferred_in (row_at w rows)) (same-tells u v same) ∙ is in
                  let no : ⊥ = cc in absurd no

  reacted : has_number v (map (λ r. r.value) (filter (λ (r : Promise). not (is_empty r.reactions)) (promises_of rows ds made).promises)) ≡ not (is_empty (reactions_in_row (row_at v rows)))
  reacted =
      any-map (λ m. m == v) (λ (r : Promise). r.value) (filter (λ (r : Promise). not (is_empty r.reactions)) (promises_of rows ds made).promises)
      ∙ has-found (λ r. r.value) v (filter (λ (r : Promise). not (is_empty r.reactions)) (promises_of rows ds made).promises)
      ∙ ap is_some (found-kept (λ r. r.value) (λ (r : Promise). not (is_empty r.reactions)) v (promises_of rows ds made).promises (rising-promises rows ds made))
      ∙ ap (λ o. is_some (option_and_then (λ (r : Promise). cond (not (is_empty r.reactions)) (Some r) None) o)) (found-promise rows ds made v)
      ∙ by (row_at v rows)
    where
      there : (b : Bool) (p : Promise) → is_some (cond b (Some p) None) ≡ b
      there true p = refl
      there false p = refl

      by : (o : Option RowOf) → is_some (option_and_then (λ (r : Promise). cond (not (is_empty r.reactions)) (Some r) None) (option_map (promise_in v) o)) ≡ not (is_empty (reactions_in_row o))
      by None = refl
      by (Some r) = there (not (is_empty r.reactions)) (promise_in v r)

  pub read-root : has_number v (promise_roots (promises_of rows ds made)) ≡ (is_some (deferred_in (row_at v rows)) || not (is_empty (reactions_in_row (row_at v rows))))
  read-root =
      list_any-append (λ m. m == v) (map (λ d. d.promise) (promises_of rows ds made).deferreds)
      (map (λ r. r.value) (filter (λ (r : Promise). not (is_empty r.reactions)) (promises_of rows ds made).promises))
      ∙ ap (λ b. b || has_number v (map (λ r. r.value) (filter (λ (r : Promise). not (is_empty r.reactions)) (promises_of rows ds made).promises))) awaited
      ∙ ap (λ b. is_some (deferred_in (row_at v rows)) || b) reacted

-- THE ROOTS OF A TABLE
-- a value that stands in a table
has-key : {X : Type 0} (n : ℕ) (es : List (ℕ × X)) → has_number n (map (λ e. e.0) es) ≡ is_some (lookup (nat_eq n) es)
has-key n [] = refl
has-key n (e ∷ es) = ap (λ b. b || has_number n (map (λ d. d.0) es)) (equal-tests e.0 n) ∙ by (nat_eq n e.0) (has-key n es)
  where
    by : (b : Bool) → has_number n (map (λ d. d.0) es) ≡ is_some (lookup (nat_eq n) es) → (b || has_number n (map (λ d. d.0) es)) ≡ is_some (cond b (Some e.1) (lookup (nat_eq n) es))
    by true rest = refl
    by false rest = rest

equal-turned : (x y : ℕ) → nat_eq x y ≡ nat_eq y x
equal-turned x y = grind (arith, nat_tests)

equal-congr : (x y z : ℕ) → nat_eq x y ≡ true → nat_eq x z ≡ nat_eq y z
equal-congr x y z is = ap (λ k. nat_eq k z) (same-from x y is)

equal-laws : IsEquivalence nat_eq
equal-laws = record { refl = self-same; symm = equal-turned; congr = equal-congr }

-- the values that are roots, where none stands twice
root-listed : (n : ℕ) (rows : List (ℕ × PromiseRow)) → IsDistinct nat_eq (keys_of rows)
    → has_number n (root_values rows) ≡ (is_some (deferred_in (row_at n rows)) || not (is_empty (reactions_in_row (row_at n rows))))
root-listed n rows once =
    has-key n (filter (λ e. is_root_row (seen_row e.1)) rows)
    ∙ ap is_some (lookup-filter-values equal-laws (λ row. is_root_row (seen_row row)) n rows once) ∙ by (lookup (nat_eq n) rows)
  where
    there : (b : Bool) (row : PromiseRow) → is_some (cond b (Some row) None) ≡ b
    there true row = refl
    there false row = refl

    by : (o : Option PromiseRow) → is_some (option_filter (λ row. is_root_row (seen_row row)) o)
        ≡ (is_some (deferred_in (option_map seen_row o)) || not (is_empty (reactions_in_row (option_map seen_row o))))
    by None = refl
    by (Some row) = there (is_root_row (seen_row row)) row

-- added to others
pub roots-pushed : (rows : List (ℕ × PromiseRow)) (ds ts : List (ℕ × ℕ)) (made : ℕ) (p : Promises) → promises_of rows ds made ≡ p → AreTied rows ds ts made
    → (old new : List ℕ) {E : Type 0} (result : Result (Unit {0}) E) → OnOk result (new ≡ old ++ root_values rows) → OnOk result (IsDistinct nat_eq (keys_of rows))
    → OnOk result (HaveSameNumbers new (old ++ promise_roots p))
roots-pushed rows ds ts made p view tied old new (Err e) pushed once = tt
roots-pushed rows ds ts made p view tied old new (Ok x) pushed once = λ n.
    ap (has_number n) pushed ∙ list_any-append (λ m. m == n) old (root_values rows)
    ∙ ap (λ b. has_number n old || b) (root-listed n rows once ∙ sym (read-root rows ds ts made tied n) ∙ ap (λ q. has_number n (promise_roots q)) view)
    ∙ sym (list_any-append (λ m. m == n) old (promise_roots p))

-- OF A TABLE'S ANSWER
module _ (rows : List (ℕ × PromiseRow)) (ds ts : List (ℕ × ℕ)) (made : ℕ) (p : Promises) (view : promises_of rows ds made ≡ p) where
  pub state-of : (v : ℕ) (o : Option PromiseRow) → o ≡ lookup (nat_eq v) rows → promise_state p v ≡ option_map (λ r. r.state) (option_map seen_row o)
  state-of v o is = ap (λ q. promise_state q v) (sym view) ∙ read-state rows ds made v ∙ ap (λ k. option_map (λ (r : RowOf). r.state) (option_map seen_row k)) (sym is)

  pub reactions-read : (v : ℕ) → reactions_of p v ≡ reactions_in_row (row_at v rows)
  reactions-read v = ap (λ q. reactions_of q v) (sym view) ∙ read-reactions rows ds made v

  pub deferred-of : (n : ℕ) (o : Option ℕ) → o ≡ lookup (nat_eq n) ds → deferred_promise p n ≡ o
  deferred-of n o is = ap (λ q. deferred_promise q n) (sym view) ∙ read-deferred rows ds made n ∙ sym is

  pub promise-of : AreTied rows ds ts made → (n : ℕ) (o : Option ℕ) → o ≡ lookup (nat_eq n) ts → (v : ℕ) → (o ≡ Some v → is_reaction_of p v n ≡ true) × (is_reaction_of p v n ≡ true → o ≡ Some v)
  promise-of tied n o is v =
      let told : is_reaction_of p v n ≡ has_number n (reactions_in_row (row_at v rows)) = ap (has_number n) (ap (λ q. reactions_of q v) (sym view) ∙ read-reactions rows ds made v) in
      ((λ there. told ∙ tied.listed n v (sym is ∙ there)), (λ has. is ∙ tied.reacting n v (sym told ∙ has)))

  pub root-of : AreTied rows ds ts made → (v : ℕ) (o : Option PromiseRow) → o ≡ lookup (nat_eq v) rows
      → has_number v (promise_roots p) ≡ (is_some (deferred_in (option_map seen_row o)) || not (is_empty (reactions_in_row (option_map seen_row o))))
  root-of tied v o is =
      ap (λ q. has_number v (promise_roots q)) (sym view) ∙ read-root rows ds ts made tied v
      ∙ ap (λ k. is_some (deferred_in (option_map seen_row k)) || not (is_empty (reactions_in_row (option_map seen_row k)))) (sym is)

pub empty-length : (ns : List ℕ) (n : ℕ) → n ≡ length ns → (n == 0) ≡ is_empty ns
empty-length [] n is = ap (λ k. k == 0) is
empty-length (m ∷ ns) n is = ap (λ k. k == 0) is ∙ more (length ns)
  where
    more : (k : ℕ) → (suc k == 0) ≡ false
    more k = grind (arith, nat_tests)

-- THE CALLS
pub gone-here : (v : ℕ) (o : Option RowOf) → cond (nat_eq v v) None o ≡ None
gone-here v o = ap (λ b. cond b None o) (self-same v)

pub deferred-there : (n : ℕ) (o : Option RowOf) → deferred_in o ≡ Some n → IsSome o
deferred-there n None is = let never : ⊥ = cc in absurd never
deferred-there n (Some r) is = refl

pub reactions-there : (n : ℕ) (o : Option RowOf) → has_number n (reactions_in_row o) ≡ true → IsSome o
reactions-there n None is = let never : ⊥ = cc in absurd never
reactions-there n (Some r) is = refl

module _ (rows : List (ℕ × PromiseRow)) (ds ts : List (ℕ × ℕ)) (made : ℕ) (tied : AreTied rows ds ts made) where
  -- none is a reaction of this ticket
  pub ended-none : (n : ℕ) → lookup (nat_eq n) ts ≡ None → promises_of rows ds made ≡ without_reaction n (promises_of rows ds made)
  ended-none n none = view-ended rows rows ds made n (λ w. sym (taken-absent n (row_at w rows) (absent w (has_number n (reactions_in_row (row_at w rows))) refl)))
    where
      absent : (w : ℕ) (b : Bool) → has_number n (reactions_in_row (row_at w rows)) ≡ b → has_number n (reactions_in_row (row_at w rows)) ≡ false
      absent w true is = let some = tied.reacting n w is in let never : ⊥ = let it : Some w ≡ None = sym some ∙ none in cc in absurd never
      absent w false is = is

  -- a reaction of this promise has ended
  pub ended-one : (rows' : List (ℕ × PromiseRow)) (v n : ℕ) → lookup (nat_eq n) ts ≡ Some v
      → ((w : ℕ) → row_at w rows' ≡ cond (nat_eq v w) (option_map (taken_of n) (row_at v rows)) (row_at w rows))
      → promises_of rows' ds made ≡ without_reaction n (promises_of rows ds made)
  ended-one rows' v n some puts = view-ended rows rows' ds made n (λ w. puts w ∙ by w (nat_eq v w) refl)
    where
      absent : (w : ℕ) → nat_eq v w ≡ false → (b : Bool) → has_number n (reactions_in_row (row_at w rows)) ≡ b → has_number n (reactions_in_row (row_at w rows)) ≡ false
      absent w apart true is =
          let both : Some v ≡ Some w = sym some ∙ tied.reacting n w is in
          let one : v ≡ w = ap (λ (o : Option ℕ). unwrap_or o v) both in
          absurd (true≢false (sym (self-same v) ∙ ap (nat_eq v) one ∙ apart))
      absent w apart false is = is

      by : (w : ℕ) (b : Bool) → nat_eq v w ≡ b → cond b (option_map (taken_of n) (row_at v rows)) (row_at w rows) ≡ option_map (taken_of n) (row_at w rows)
      by w true same = ap (λ u. option_map (taken_of n) (row_at u rows)) (same-from v w same)
      by w false apart = sym (taken-absent n (row_at w rows) (absent w apart (has_number n (reactions_in_row (row_at w rows))) refl))

  pub ended-tied : (rows' : List (ℕ × PromiseRow)) (ts' : List (ℕ × ℕ)) (v n : ℕ) → lookup (nat_eq n) ts ≡ Some v
      → ((w : ℕ) → row_at w rows' ≡ cond (nat_eq v w) (option_map (taken_of n) (row_at v rows)) (row_at w rows))
      → ((m : ℕ) → lookup (nat_eq m) ts' ≡ cond (nat_eq n m) None (lookup (nat_eq m) ts)) → AreTied rows' ds ts' made
  ended-tied rows' ts' v n some puts left = by (row_at v rows) refl
    where
      by : (o : Option RowOf) → row_at v rows ≡ o → AreTied rows' ds ts' made
      by None is = let never : ⊥ = let has = sym (tied.listed n v some) ∙ ap (λ o. has_number n (reactions_in_row o)) is in cc in absurd never
      by (Some r) is =
          tied-taken (λ w. row_at w rows) (λ w. row_at w rows') (λ m. lookup (nat_eq m) ds) (λ m. lookup (nat_eq m) ds) (λ m. lookup (nat_eq m) ts) (λ m. lookup (nat_eq m) ts') made tied v r is n some
          (record { rows = λ w. puts w ∙ ap (λ o. cond (nat_eq v w) (option_map (taken_of n) o) (row_at w rows)) is; reactions = left })

  -- a deferred is settled
  module _ (rows' : List (ℕ × PromiseRow)) (ds' : List (ℕ × ℕ)) (v n state : ℕ) (some : lookup (nat_eq n) ds ≡ Some v)
      (puts : (w : ℕ) → row_at w rows' ≡ cond (nat_eq v w) (option_map (settled_row state) (row_at v rows)) (row_at w rows))
      (left : (m : ℕ) → lookup (nat_eq m) ds' ≡ cond (nat_eq n m) None (lookup (nat_eq m) ds)) where
    settles : (r : RowOf) (is : row_at v rows ≡ Some r)
        → Settles (λ w. row_at w rows) (λ w. row_at w rows') (λ m. lookup (nat_eq m) ds) (λ m. lookup (nat_eq m) ds') (λ m. lookup (nat_eq m) ts) (λ m. lookup (nat_eq m) ts) made tied v r is n state
    settles r is = record { rows = λ w. puts w ∙ ap (λ o. cond (nat_eq v w) (option_map (settled_row state) o) (row_at w rows)) is; deferreds = left }

    pub settled-tied : AreTied rows' ds' ts made
    settled-tied = by (row_at v rows) refl
      where
        by : (o : Option RowOf) → row_at v rows ≡ o → AreTied rows' ds' ts made
        by None is = let never : ⊥ = let it = sym (tied.promised n v some) ∙ ap deferred_in is in cc in absurd never
        by (Some r) is =
            tied-settled (λ w. row_at w rows) (λ w. row_at w rows') (λ m. lookup (nat_eq m) ds) (λ m. lookup (nat_eq m) ds') (λ m. lookup (nat_eq m) ts) (λ m. lookup (nat_eq m) ts) made tied v r is n state some (settles r is)

    pub settled-view : promises_of rows' ds' made ≡ with_settled n v state (promises_of rows ds made)
    settled-view = by (row_at v rows) refl
      where
        by : (o : Option RowOf) → row_at v rows ≡ o → promises_of rows' ds' made ≡ with_settled n v state (promises_of rows ds made)
        by None is = let never : ⊥ = let it = sym (tied.promised n v some) ∙ ap deferred_in is in cc in absurd never
        by (Some r) is = view-settled rows rows' ds ds' ts ts made tied v r is n state (settles r is)

  -- a reaction more
  module _ (rows' : List (ℕ × PromiseRow)) (v n : ℕ) (there : IsSome (row_at v rows))
      (puts : (w : ℕ) → row_at w rows' ≡ cond (nat_eq v w) (option_map (added_row n) (row_at v rows)) (row_at w rows)) where
    pub added-tied : (ts' : List (ℕ × ℕ)) → lookup (nat_eq n) ts ≡ None → ((m : ℕ) → lookup (nat_eq m) ts' ≡ cond (nat_eq n m) (Some v) (lookup (nat_eq m) ts)) → AreTied rows' ds ts' made
    added-tied ts' none more = by (row_at v rows) refl there
      where
        by : (o : Option RowOf) → row_at v rows ≡ o → IsSome o → AreTied rows' ds ts' made
        by None is some = let never : ⊥ = cc in absurd never
        by (Some r) is some =
            tied-added (λ w. row_at w rows) (λ w. row_at w rows') (λ m. lookup (nat_eq m) ds) (λ m. lookup (nat_eq m) ds) (λ m. lookup (nat_eq m) ts) (λ m. lookup (nat_eq m) ts') made tied v r is n none
            (record { rows = λ w. puts w ∙ ap (λ o. cond (nat_eq v w) (option_map (added_row n) o) (row_at w rows)) is; reactions = more })

    pub added-view : promises_of rows' ds made ≡ with_reaction v n (promises_of rows ds made)
    added-view = by (row_at v rows) refl there
      where
        by : (o : Option RowOf) → row_at v rows ≡ o → IsSome o → promises_of rows' ds made ≡ with_reaction v n (promises_of rows ds made)
        by None is some = let never : ⊥ = cc in absurd never
        by (Some r) is some = view-added rows rows' ds ds ts ts made tied v r is n (λ w. puts w ∙ ap (λ o. cond (nat_eq v w) (option_map (added_row n) o) (row_at w rows)) is) (λ m. refl)

  -- as its caller sees it
  module _ (p : Promises) (view : promises_of rows ds made ≡ p) where
    pub row-there : (v : ℕ) → IsSome (promise_at p v) → IsSome (row_at v rows)
    row-there v some = by (row_at v rows) (subst (λ o. IsSome o) (ap (λ q. promise_at q v) (sym view) ∙ found-promise rows ds made v) some)
      where
        by : (o : Option RowOf) → IsSome (option_map (promise_in v) o) → IsSome o
        by None is = is
        by (Some r) is = refl

    -- a ticket under which nothing is kept, and one under which something is
    pub kept-none : (ts' : List (ℕ × ℕ)) (n : ℕ) → ((m : ℕ) → lookup (nat_eq m) ts' ≡ lookup (nat_eq m) ts) → is_some (lookup (nat_eq n) ts') ≡ false → lookup (nat_eq n) ts ≡ None
    kept-none ts' n same is = none-of (lookup (nat_eq n) ts) (sym (ap is_some (same n)) ∙ is)

    pub never-both : (ts' : List (ℕ × ℕ)) (n : ℕ) → ((m : ℕ) → lookup (nat_eq m) ts' ≡ lookup (nat_eq m) ts) → is_some (lookup (nat_eq n) ts') ≡ true
        → ((v : ℕ) → is_reaction_of p v n ≡ false) → ⊥
    never-both ts' n same is none = by (lookup (nat_eq n) ts) refl (sym (ap is_some (same n)) ∙ is)
      where
        by : (o : Option ℕ) → lookup (nat_eq n) ts ≡ o → is_some o ≡ true → ⊥
        by None there some = cc
        by (Some v) there some = let it = sym ((promise-of rows ds ts made p view tied n (Some v) (sym there) v).0 refl) ∙ none v in true≢false it

    pub never-none : (ts' : List (ℕ × ℕ)) (n v : ℕ) → ((m : ℕ) → lookup (nat_eq m) ts' ≡ lookup (nat_eq m) ts) → is_some (lookup (nat_eq n) ts') ≡ false → is_reaction_of p v n ≡ true → ⊥
    never-none ts' n v same is has =
        let some : None ≡ Some v = (promise-of rows ds ts made p view tied n None (sym (kept-none ts' n same is)) v).1 has in cc

pub fresh-of : (rows : List (ℕ × PromiseRow)) (ds : List (ℕ × ℕ)) (made : ℕ) (p : Promises) → promises_of rows ds made ≡ p → has_number (made + 1) (0 ∷ p.issued) ≡ false
fresh-of rows ds made p view =
    ap (λ is. has_number (made + 1) (0 ∷ is)) (sym (ap (λ (q : Promises). q.issued) view) ∙ issued-up_to rows ds made) ∙ by (has_number (made + 1) (0 ∷ up_to made)) (fresh_number made)
  where
    by : (b : Bool) → not b ≡ true → b ≡ false
    by false is = refl
    by true is = let never : ⊥ = cc in absurd never

-- a promise is made: the tables get room, what the value was is forgotten, and then the promise and its deferred are put
module _ (rows : List (ℕ × PromiseRow)) (ds ts : List (ℕ × ℕ)) (made : ℕ) (tied : AreTied rows ds ts made) (v : ℕ)
    (rows' : List (ℕ × PromiseRow)) (ds' ts' : List (ℕ × ℕ)) (ample : List (ℕ × PromiseRow)) (roomy : List (ℕ × ℕ))
    (same : (w : ℕ) → row_at w ample ≡ row_at w rows) (alike : (n : ℕ) → lookup (nat_eq n) roomy ≡ lookup (nat_eq n) ds)
    (gone : (w : ℕ) → row_at w rows' ≡ cond (nat_eq v w) None (row_at w ample))
    (left : (n : ℕ) → lookup (nat_eq n) ds' ≡ cond (is_deferred_of n (row_at v ample)) None (lookup (nat_eq n) roomy))
    (lost : (n : ℕ) → lookup (nat_eq n) ts' ≡ cond (has_number n (reactions_in_row (row_at v ample))) None (lookup (nat_eq n) ts))
    (qs : List (ℕ × PromiseRow)) (es : List (ℕ × ℕ)) (ns : List ℕ) (empty : ns ≡ [])
    (row : (w : ℕ) → row_at w qs ≡ cond (nat_eq v w) (Some (record { state = 0; deferred = Some (made + 1); reactions = ns })) (row_at w rows'))
    (deferred : (n : ℕ) → lookup (nat_eq n) es ≡ cond (nat_eq (made + 1) n) (Some v) (lookup (nat_eq n) ds')) where
  forgets : Forgets (λ w. row_at w rows) (λ w. row_at w rows') (λ n. lookup (nat_eq n) ds) (λ n. lookup (nat_eq n) ds') (λ n. lookup (nat_eq n) ts) (λ n. lookup (nat_eq n) ts') made tied v
  forgets = record {
    rows = λ w. gone w ∙ ap (cond (nat_eq v w) None) (same w);
    deferreds = λ n. left n ∙ ap (λ o. cond (is_deferred_of n o) None (lookup (nat_eq n) roomy)) (same v) ∙ ap (cond (is_deferred_of n (row_at v rows)) None) (alike n);
    reactions = λ n. lost n ∙ ap (λ o. cond (has_number n (reactions_in_row o)) None (lookup (nat_eq n) ts)) (same v);
  }

  puts-row : (w : ℕ) → row_at w qs ≡ cond (nat_eq v w) (Some (record { state = 0; deferred = Some (made + 1); reactions = [] })) (row_at w rows')
  puts-row w = row w ∙ ap (λ ks. cond (nat_eq v w) (Some (record { state = 0; deferred = Some (made + 1); reactions = ks })) (row_at w rows')) empty

  forgotten : AreTied rows' ds' ts' made
  forgotten = tied-forgotten (λ w. row_at w rows) (λ w. row_at w rows') (λ n. lookup (nat_eq n) ds) (λ n. lookup (nat_eq n) ds') (λ n. lookup (nat_eq n) ts) (λ n. lookup (nat_eq n) ts') made tied v forgets

  pub made-then : AreTied qs es ts' (made + 1)
  made-then =
      tied-made (λ w. row_at w rows') (λ w. row_at w qs) (λ n. lookup (nat_eq n) ds') (λ n. lookup (nat_eq n) es) (λ n. lookup (nat_eq n) ts') (λ n. lookup (nat_eq n) ts') made forgotten v
      (record { absent = gone v ∙ gone-here v (row_at v ample); rows = puts-row; deferreds = deferred })

  pub forgotten-then : promises_of qs es (made + 1) ≡ with_promise v (made + 1) (promises_of rows ds made)
  forgotten-then = view-made rows rows' ds ds' ts ts' made tied v qs es forgets puts-row deferred
