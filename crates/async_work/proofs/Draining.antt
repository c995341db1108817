-- The first work that waits, and all works that wait as they are cancelled one by one.
use Rattle.std.proofs.Common.{◌≡◌, ◌∙◌, ℕ, ◌<◌, ◌==◌, ◌||◌, true, not, List, [], ◌∷◌, ◌++◌, length, map, filter, Some, None, IfSome, refl, ap, sym, arith, append_assoc, append-nil}
use Rattle.std.proofs.lemmas.Option.{same_Some}
use Rattle.napi_types.specs.plain.Lists.{has_number, head, tail, singleton}
use Rattle.napi_types.specs.parts.Pool.{WorkPool, cancelled_at, drained}
use Rattle.napi_types.specs.parts.Works.{cancelled_outcome}
use Rattle.napi_types.proofs.plain.Found.{same-self}
use Rattle.async_work.specs.Draining.{IsDraining}
use Rattle.async_work.proofs.Linking.{if-some}

pub first-of : (ns : List ℕ) (n : ℕ) → head ns ≡ Some n → ns ≡ n ∷ tail ns
first-of [] n is = let no : ⊥ = cc in absurd no
first-of (m ∷ ms) n is = ap (λ k. k ∷ ms) (same_Some m n is)

pub has-first : (ns : List ℕ) (n : ℕ) → head ns ≡ Some n → has_number n ns ≡ true
has-first [] n is = let no : ⊥ = cc in absurd no
has-first (m ∷ ms) n is = ap (λ b. b || has_number n ms) (ap (λ k. k == n) (same_Some m n is) ∙ same-self n)

pub none-first : (ns : List ℕ) → head ns ≡ None → ns ≡ []
none-first [] is = refl
none-first (m ∷ ms) is = let no : ⊥ = cc in absurd no

pub draining-start : (p : WorkPool) → IsDraining p p
draining-start p = record { others = refl; out = refl }

module _ (start p q : WorkPool) (n : ℕ) (first : head p.queued ≡ Some n) (rest : IfSome (head p.queued) (λ m. filter (λ k. not
    (k == m)) p.queued ≡ tail p.queued)) (is : q ≡ cancelled_at (Some n) p) where
  later : q.queued ≡ tail p.queued
  later = ap (λ (r : WorkPool). r.queued) is ∙ if-some (λ m. filter (λ k. not (k == m)) p.queued ≡ tail p.queued) (head p.queued) n first rest

  pub draining-more : IsDraining start p → IsDraining start q
  draining-more so_far = record {
    others = is ∙ ap (λ (r : WorkPool). record r {
      queued = filter (λ m. not (m == n)) p.queued;
      finished = p.finished ++ singleton
          (cancelled_outcome n);
    }) so_far.others ∙ same _ _ _ _ (sym (ap (λ (r : WorkPool). r.queued) is)) (sym (ap (λ (r : WorkPool). r.finished) is));
    out = ap (λ os. os ++ map cancelled_outcome q.queued) (ap (λ (r : WorkPool). r.finished) is)
        ∙ ap (λ ns. (p.finished ++ singleton (cancelled_outcome n)) ++ map cancelled_outcome ns) later
        ∙ append_assoc p.finished (singleton (cancelled_outcome n)) (map cancelled_outcome (tail p.queued))
        ∙ ap (λ ns. p.finished ++ map cancelled_outcome ns) (sym (first-of p.queued n first))
        ∙ so_far.out;
  }
    where
      same : (qs rs : List ℕ) (os us : List _) → qs ≡ rs → os ≡ us
          → let r : WorkPool = record start { queued = qs; finished = os } in r ≡ record start { queued = rs; finished = us }
      same qs rs os us a b = cc

  pub draining-less : length q.queued < length p.queued
  draining-less = omega (arith, ap length later, ap length (first-of p.queued n first))

-- all have ended
pub draining-end : (start p : WorkPool) → IsDraining start p → head p.queued ≡ None → record p { closing = true } ≡ drained start
draining-end start p so_far none =
    let empty : p.queued ≡ [] = none-first p.queued none in
    ap (λ (r : WorkPool). record r { closing = true }) so_far.others
    ∙ ap (λ os. record start { queued = p.queued; finished = os; closing = true }) (sym (append-nil p.finished)
    ∙ ap (λ ns. p.finished ++ map cancelled_outcome ns) (sym empty) ∙ so_far.out)
    ∙ ap (λ ns. record start { queued = ns; finished = start.finished ++ map cancelled_outcome start.queued; closing = true }) empty
