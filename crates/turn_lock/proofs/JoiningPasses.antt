-- Where a pass is closed the rule stays, and where all are closed the value is at home.
use Rattle.std.proofs.Common.{◌≡◌, ◌≢◌, ◌∙◌, ◌⊎◌, ⊎_elim, inl, inr, ℕ, ◌≤◌, ◌<◌, true, false, List, [], ◌∷◌, set, refl, ap, sym, subst, arith, Option, Some}
use Rattle.std.specs.List.{All}
use Rattle.std.proofs.lemmas.List.Elements.{All-cons, All-head, All-tail}
use mathlib.Core.Option as maths
use mathlib.Core.Logic.{dite}
use native.Mathlib.Decide.{ℕ_discrete}
use lib.ListN.{get_elem?}
use Rattle.atomic_table.specs.Table.{State, Joins, Final, Seen}
use Rattle.napi_types.proofs.plain.Conditions.{true-or-false}
use Rattle.atomic_table.proofs.Lists.{at_set, set_here, set_else}
use Rattle.turn_lock.specs.declared.told.Row.{Row}
use Rattle.turn_lock.specs.declared.view.Old.{Old}
use Rattle.turn_lock.specs.declared.view.View.{View}
use Rattle.turn_lock.specs.Rule.{Each, FitsView, FitsOld, IsFree, IsTaken, HasList, IsRuled}
use Rattle.turn_lock.specs.PassMoves.{joined, closed_view, old_of}
use Rattle.turn_lock.specs.Closed.{WasClosed, AllClosed, FitsAll}
use Rattle.turn_lock.proofs.Views.{at_below, one_view}
use Rattle.turn_lock.proofs.First as first

WasClosed-not : (n : ℕ) (olds : List Old) → All (λ old. old.number ≢ n) olds → WasClosed n olds → ⊥
WasClosed-not n [] none has = has
WasClosed-not n (old ∷ olds) none has =
    ⊎_elim (λ e. All-head (λ (o : Old). o.number ≢ n) old olds none e) (λ h. WasClosed-not n olds (All-tail (λ (o : Old). o.number ≢ n) old olds none) h) has

module _ {S : Type 0} (told : S → List Row) (passes : ℕ) where
  module _ (s : State (Option S) View) (rows : List Row) (k : HasList told passes s rows) (id : ℕ) (v : View) (at : get_elem? s.views id ≡ maths.some v)
      (zeroth : v.number ≡ 0) (live : v.is_live ≡ true) (free : v.holds ≡ false) where
    same : k.first ≡ v
    same = first.same told passes s rows k id v at zeroth live

    fits : Each (λ seat u. FitsView rows v.count u) s.views
    fits = first.fits told passes s rows k id v at zeroth live

    module _ (other : ℕ) (w : View) (apart_from : other ≢ id) (there : get_elem? s.views other ≡ maths.some w) (wlive : w.is_live ≡ true) (wfree : w.holds ≡ false) where
      after : List View
      after = set (set s.views id (joined v w)) other closed_view

      made : State (Option S) View
      made = record { words = s.words; homes = s.homes; views = after }

      -- a view is that of the first pass, that of the closed one, or stood there before
      cases : (F : ℕ → View → Type 0) → F id (joined v w) → F other closed_view → ((j : ℕ) (u : View) → j ≢ id → j ≢ other → get_elem? s.views j ≡ maths.some u → F j u)
          → (j : ℕ) (u : View) → get_elem? after j ≡ maths.some u → F j u
      unfolding after
      cases F one spent others j u here =
          ⊎_elim
          (λ x. subst (λ i. F i u) (sym x.0) (subst (F other) x.1 spent))
          (λ x. ⊎_elim
          (λ y. subst (λ i. F i u) (sym y.0) (subst (F id) y.1 one))
          (λ y. others j u y.0 x.0 y.1)
          (at_set s.views id j (joined v w) u x.1))
          (at_set (set s.views id (joined v w)) other j closed_view u here)

      stays : (j : ℕ) (u : View) → j ≢ id → j ≢ other → get_elem? s.views j ≡ maths.some u → get_elem? after j ≡ maths.some u
      unfolding after
      stays j u ne ne' here = set_else (set s.views id (joined v w)) other j closed_view ne' ∙ (set_else s.views id j (joined v w) ne ∙ here)

      first_at : get_elem? after id ≡ maths.some (joined v w)
      unfolding after
      first_at = set_else (set s.views id (joined v w)) other id closed_view (λ e. apart_from (sym e)) ∙ set_here s.views id (joined v w) (at_below s.views id v at)

      free_not_holder : (h i : ℕ) (u x : View) → get_elem? s.views h ≡ maths.some u → u.holds ≡ true → get_elem? s.views i ≡ maths.some x → x.holds ≡ false → h ≢ i
      free_not_holder h i u x hu holds ix not is = true-or-false u.holds holds (ap (λ y. y.holds) (one_view s.views h u x hu (subst (λ j. get_elem? s.views j ≡ maths.some x) (sym is) ix)) ∙ not)

      turn : IsFree told made rows ⊎ IsTaken told made rows
      unfolding made
      turn =
          ⊎_elim
          (λ t. inl (t.0, t.1, cases (λ j u. u.holds ≡ false) free refl (λ j u ne ne' here. t.2 j u here)))
          (λ t.
          let h = t.1.0 in
          let u = t.1.1 in
          inr (
            t.0,
            (
              h,
              u,
              stays h u (free_not_holder h id u v t.1.2 t.1.4 at free) (free_not_holder h other u w t.1.2 t.1.4 there wfree) t.1.2,
              t.1.3,
              t.1.4,
              t.1.5,
              cases (λ j x. x.holds ≡ true → j ≡ h) (λ is. absurd (true-or-false v.holds is free)) (λ is. absurd (true-or-false false is refl)) (λ j x ne ne' here. t.1.6 j x here),
            ),
          ))
          k.turn

      apart : (i j : ℕ) (x y : View) → get_elem? after i ≡ maths.some x → get_elem? after j ≡ maths.some y → x.is_live ≡ true → y.is_live ≡ true → x.number ≡ y.number → i ≡ j
      apart i j x y xi yj =
          cases (λ i x. x.is_live ≡ true → y.is_live ≡ true → x.number ≡ y.number → i ≡ j)
          (cases (λ j y. v.is_live ≡ true → y.is_live ≡ true → v.number ≡ y.number → id ≡ j)
          (λ lx ly e. refl)
          (λ lx ly e. absurd (true-or-false false ly refl))
          (λ j y ne ne' here lx ly e. k.apart id j v y at here lx ly e)
          j y yj)
          (λ lx ly e. absurd (true-or-false false lx refl))
          (λ i x ne ne' here. cases (λ j y. x.is_live ≡ true → y.is_live ≡ true → x.number ≡ y.number → i ≡ j)
          (λ lx ly e. k.apart i id x v here at lx ly e)
          (λ lx ly e. absurd (true-or-false false ly refl))
          (λ j y nf nf' here' lx ly e. k.apart i j x y here here' lx ly e)
          j y yj)
          i x xi

      olds : All (FitsOld rows v.count) v.olds
      olds = subst (λ x. All (FitsOld rows x.count) x.olds) same k.olds

      gone : (j : ℕ) (u : View) → get_elem? s.views j ≡ maths.some u → u.is_live ≡ true → j ≢ other → All (λ old. old.number ≢ u.number) (old_of w ∷ v.olds)
      gone j u here is ne =
          All-cons (λ (old : Old). old.number ≢ u.number) (old_of w) v.olds (λ e. ne (sym (k.apart other j w u there here wlive is e)))
          (subst (λ x. All (λ old. old.number ≢ u.number) x.olds) same (k.gone j u here is))

      made_has : HasList told passes made rows
      unfolding made after
      made_has =
          record {
            words = k.words;
            turn = turn;
            place = id;
            first = joined v w;
            at = first_at;
            is_first = (zeroth, live);
            fits = cases (λ j u. FitsView rows v.count u) (λ is. fits id v at live) (λ is. absurd (true-or-false false is refl)) (λ j u ne ne' here is. fits j u here is);
            apart = apart;
            few = omega (arith, k.few, ap (λ x. x.count) same);
            below = subst (λ x. All (λ r. r.pass < x.count) rows) same k.below;
            olds = All-cons (FitsOld rows v.count) (old_of w) v.olds (fits other w there wlive) olds;
            gone =
                cases (λ j u. u.is_live ≡ true → All (λ old. old.number ≢ u.number) (old_of w ∷ v.olds))
                (λ is. gone id v at live (λ e. apart_from (sym e)))
                (λ is. absurd (true-or-false false is refl))
                (λ j u ne ne' here is. gone j u here is ne');
          }

    -- no other pass can hold
    alone : AllClosed passes v.olds → IsTaken told s rows → ⊥
    alone all t =
        let h = t.1.0 in
        let u = t.1.1 in
        let b = (fits h u t.1.2 t.1.3).1 in
        let few = subst (λ x. x.count ≤ passes) same k.few in
        dite (ℕ_discrete u.number 0)
        (λ z.
        let is = k.apart h id u v t.1.2 at t.1.3 live (z ∙ sym zeroth) in
        true-or-false u.holds t.1.4 (ap (λ y. y.holds) (one_view s.views h u v t.1.2 (subst (λ j. get_elem? s.views j ≡ maths.some v) (sym is) at)) ∙ free))
        (λ nz. WasClosed-not u.number v.olds (subst (λ x. All (λ old. old.number ≢ u.number) x.olds) same (k.gone h u t.1.2 t.1.3)) (all u.number (omega (arith, nz)) (omega (arith, b, few))))

    home : AllClosed passes v.olds → (value : S) × (get_elem? s.homes 0 ≡ maths.some (maths.some (Some value))) × (told value ≡ rows)
    home all = ⊎_elim (λ t. t.1) (λ t. absurd (alone all t)) k.turn

  pub joins : (id : ℕ) (v : View) (other : ℕ) (w : View) → v.number ≡ 0 → v.is_live ≡ true → v.holds ≡ false → w.is_live ≡ true → w.holds ≡ false
      → Joins (IsRuled told passes) id v other w (joined v w) closed_view
  unfolding made after
  joins id v other w zeroth live free wlive wfree s ruled at ne there =
      (ruled.0, made_has s ruled.0 ruled.1 id v at zeroth live free other w ne (sym (set_else s.views id other (joined v w) ne) ∙ there) wlive wfree)

  pub ends : (s : State (Option S) View) (id : ℕ) (v : View) → IsRuled told passes s → get_elem? s.views id ≡ maths.some v → v.number ≡ 0 → v.is_live ≡ true → v.holds ≡ false
      → AllClosed passes v.olds → (value : S) × (get_elem? s.homes 0 ≡ maths.some (maths.some (Some value))) × FitsAll passes v (told value)
  ends s id v ruled at zeroth live free all =
      let k = ruled.1 in
      let h = home s ruled.0 k id v at zeroth live free all in
      let is = same s ruled.0 k id v at zeroth live free in (
        h.0,
        h.1,
        subst (FitsAll passes v) (sym h.2) (
          (fits s ruled.0 k id v at zeroth live free id v at live).0,
          (λ i d lt. let o = subst (λ x. All (FitsOld ruled.0 x.count) x.olds) is k.olds in (o i d lt).0),
          (λ i d lt. let b = k.below i d lt in omega (arith, b, k.few)),
        ),
      )

  -- the value that comes out of the table
  pub final : (ws : List ℕ) (xs : List (Option S)) (id : ℕ) (v : View) → Final (Seen (IsRuled told passes) id v) ws xs → v.number ≡ 0 → v.is_live ≡ true → v.holds ≡ false
      → AllClosed passes v.olds → (value : S) × (get_elem? xs 0 ≡ maths.some (Some value)) × FitsAll passes v (told value)
  final ws xs id v f zeroth live free all =
      let e = ends f.0 id v f.1.0 f.1.1 zeroth live free all in
      (e.0, f.4 0 (Some e.0) e.1, e.2)
