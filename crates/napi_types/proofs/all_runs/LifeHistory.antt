-- What was told of the lives of buffers, as lists, and what one thing more makes of them.
use Rattle.std.proofs.Common.{◌≡◌, ◌∙◌, ℕ, Bool, true, false, ◌||◌, List, [], ◌∷◌, ◌++◌, flat_map, refl, ap, sym}
use Rattle.std.proofs.lemmas.List.{append-nil, flat_map_more}
use Rattle.std.proofs.lemmas.List.Folds.{list_any-append}
use Rattle.napi_types.specs.all_runs.BufferLives as told
use Rattle.napi_types.specs.all_runs.BufferLives.{LifeFact, ExternalBuffer, ViewOfBuffer, living_after, living_from, external_in_fact, window_in_fact, is_to_finals, all_external, all_windows, finals_told}
use Rattle.napi_types.proofs.all_runs.PromiseHistory.{or-none, or-some}

-- what was told so far
pub record LifeHistory : Type 0 where
  pub external : List ExternalBuffer
  pub windows : List ViewOfBuffer
  pub living : List ℕ
  pub finals : Bool

abbrev pub life_history : List LifeFact → LifeHistory
life_history ts = record { external = all_external ts; windows = all_windows ts; living = living_from [] ts; finals = finals_told ts }

abbrev with_fact : LifeHistory → LifeFact → LifeHistory
with_fact h x = record {
  external = h.external ++ external_in_fact x;
  windows = h.windows ++ window_in_fact x;
  living = living_after h.living x;
  finals = h.finals || (is_to_finals x || false);
}

living-more : (vs : List ℕ) (ts : List LifeFact) (x : LifeFact) → living_from vs (ts ++ x ∷ []) ≡ living_after (living_from vs ts) x
living-more vs [] x = refl
living-more vs (t ∷ ts) x = living-more (living_after vs t) ts x

same-life : (a b : List ExternalBuffer) (v w : List ViewOfBuffer) (l m : List ℕ) (f g : Bool) → a ≡ b → v ≡ w → l ≡ m → f ≡ g
    → let h : LifeHistory = record { external = a; windows = v; living = l; finals = f } in h ≡ record { external = b; windows = w; living = m; finals = g }
same-life a b v w l m f g one two three four = rw (one, two, three, four) refl

pub one-more-told : (ts : List LifeFact) (x : LifeFact) → life_history (ts ++ x ∷ []) ≡ with_fact (life_history ts) x
one-more-told ts x =
    same-life _ _ _ _ _ _ _ _ (sym (flat_map_more external_in_fact [] ts x)) (sym (flat_map_more window_in_fact [] ts x)) (living-more [] ts x)
    (list_any-append is_to_finals ts (x ∷ []))

-- what each makes of it
same-but : (h g : LifeHistory) → (h.external ≡ g.external) → h.windows ≡ g.windows → h.living ≡ g.living → h.finals ≡ g.finals → h ≡ g
same-but h g one two three four = same-life _ _ _ _ _ _ _ _ one two three four

module _ (ts : List LifeFact) where
  abbrev was : LifeHistory
  was = life_history ts

  pub past-given : (b : ℕ) → life_history (ts ++ told.GivesBuffer b ∷ []) ≡ record was { living = b ∷ was.living }
  past-given b = one-more-told ts (told.GivesBuffer b) ∙ same-but _ _ (append-nil was.external) (append-nil was.windows) refl (or-none was.finals)

  pub past-external : (x : ExternalBuffer) → life_history (ts ++ told.GivesExternal x ∷ [])
      ≡ record was { external = was.external ++ x ∷ []; living = x.buffer ∷ was.living }
  past-external x = one-more-told ts (told.GivesExternal x) ∙ same-but _ _ refl (append-nil was.windows) refl (or-none was.finals)

  pub past-window : (w : ViewOfBuffer) → life_history (ts ++ told.GivesView w ∷ []) ≡ record was { windows = was.windows ++ w ∷ []; living = w.view ∷ was.living }
  past-window w = one-more-told ts (told.GivesView w) ∙ same-but _ _ (append-nil was.external) refl refl (or-none was.finals)

  pub past-left : (ns : List ℕ) → life_history (ts ++ told.Leaves ns ∷ []) ≡ record was { living = living_after was.living (told.Leaves ns) }
  past-left ns = one-more-told ts (told.Leaves ns) ∙ same-but _ _ (append-nil was.external) (append-nil was.windows) refl (or-none was.finals)

  pub past-finals : life_history (ts ++ told.ComesToFinals ∷ []) ≡ record was { finals = true }
  past-finals = one-more-told ts told.ComesToFinals ∙ same-but _ _ (append-nil was.external) (append-nil was.windows) refl (or-some was.finals)

  pub past-begun : (t : ℕ) → life_history (ts ++ told.Finalizes t ∷ []) ≡ was
  past-begun t = one-more-told ts (told.Finalizes t) ∙ same-but _ _ (append-nil was.external) (append-nil was.windows) refl (or-none was.finals)
