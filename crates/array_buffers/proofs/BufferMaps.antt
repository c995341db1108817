-- What the two tables stand for, and what a change of them makes of it.
use Rattle.std.proofs.Common.{◌≡◌, ◌∙◌, ℕ, ◌==◌, nat_eq, Bool, true, false, not, cond, List, [], ◌∷◌, map, replicate, Option, Some, None, option_map, refl, ap, sym, subst, arith}
use Rattle.std.specs.Map.{lookup}
use Rattle.std.proofs.lemmas.Bool.Decides.{nat_tests}
use Rattle.napi_types.specs.plain.Lists.{found, as_map}
use Rattle.napi_types.proofs.plain.Found.{IsRising, same-from, equal-tests, same-self, found-number, found-with_record, found-filter, found-map, found-as_map, found-same, rising-with_record, rising-filter, rising-changed, rising-as_map}
use Rattle.napi_types.proofs.plain.FoundInMaps.{found-in-map}
use Rattle.array_buffers.specs.declared.row.BufferRow.{BufferRow}
use Rattle.napi_types.specs.declared.view.ViewInfo.{ViewInfo}
use Rattle.napi_types.specs.parts.Buffers.{ArrayBuffer, BufferView, Buffers, no_buffers, buffer_at, view_at, with_buffer, with_view, buffer_changed_at, without_buffer}
use Rattle.array_buffers.specs.BufferTables.{row_bytes, buffer_row, view_row, buffer_row_at, row_changed, buffers_of}

same-tests : (m n : ℕ) → (m == n) ≡ nat_eq m n
same-tests m n = grind (arith, nat_tests)

-- WHAT THE TABLES STAND FOR
pub record Stands (rows : List (ℕ × BufferRow)) (places : List (ℕ × ViewInfo)) (b : Buffers) : Type 0 where
  pub buffers : IsRising (λ r. r.value) b.buffers
  pub views : IsRising (λ w. w.value) b.views
  pub each : (v : ℕ) → buffer_at b v ≡ buffer_row_at v rows
  pub those : (v : ℕ) → found (λ w. w.value) v b.views ≡ option_map (view_row v) (lookup (nat_eq v) places)

stands-these : (rows : List (ℕ × BufferRow)) (views : List (ℕ × ViewInfo)) → Stands rows views (buffers_of rows views)
unfolding buffers_of
stands-these rows views = record {
  buffers = rising-as_map (λ r. r.value) (map (λ e. buffer_row e.0 e.1) rows);
  views = rising-as_map (λ w. w.value) (map (λ e. view_row e.0 e.1) views);
  each = λ v. found-in-map (λ r. r.value) buffer_row (λ n x. refl) v rows;
  those = λ v. found-in-map (λ w. w.value) view_row (λ n x. refl) v views;
}

pub stands-for : (rows : List (ℕ × BufferRow)) (views : List (ℕ × ViewInfo)) (b : Buffers) → buffers_of rows views ≡ b → Stands rows views b
stands-for rows views b is = subst (Stands rows views) is (stands-these rows views)

pub same-buffers : (rs ss : List ArrayBuffer) (vs ws : List BufferView) → rs ≡ ss → vs ≡ ws → let b : Buffers = record { buffers = rs; views = vs } in b ≡ record { buffers = ss; views = ws }
same-buffers rs ss vs ws e f = cc

pub is-these : (rows : List (ℕ × BufferRow)) (views : List (ℕ × ViewInfo)) (b : Buffers) → Stands rows views b → buffers_of rows views ≡ b
is-these rows views b s =
    let c : Buffers = buffers_of rows views in
    let t = stands-these rows views in
    same-buffers c.buffers b.buffers c.views b.views
    (found-same (λ r. r.value) c.buffers b.buffers t.buffers s.buffers (λ v. t.each v ∙ sym (s.each v)))
    (found-same (λ w. w.value) c.views b.views t.views s.views (λ v. t.those v ∙ sym (s.those v)))

pub buffers_of-none : buffers_of [] [] ≡ no_buffers
unfolding buffers_of
buffers_of-none = refl

-- the view that a value is
pub view-in-table : (rows : List (ℕ × BufferRow)) (views : List (ℕ × ViewInfo)) (b : Buffers) → Stands rows views b → (v : ℕ) → view_at b v ≡ lookup (nat_eq v) views
view-in-table rows views b s v = ap (option_map (λ w. w.about)) (s.those v) ∙ by (lookup (nat_eq v) views)
  where
    by : (o : Option ViewInfo) → option_map (λ w. w.about) (option_map (view_row v) o) ≡ o
    by None = refl
    by (Some x) = refl

-- CHANGES
module _ (rows rows' : List (ℕ × BufferRow)) (views views' : List (ℕ × ViewInfo)) (b : Buffers) (s : Stands rows views b) (v : ℕ) where
  -- nothing
  pub stands-same : ((w : ℕ) → buffer_row_at w rows' ≡ buffer_row_at w rows) → ((w : ℕ) → lookup (nat_eq w) views' ≡ lookup (nat_eq w) views) → Stands rows' views' b
  stands-same same others = record {
    buffers = s.buffers;
    views = s.views;
    each = λ w. s.each w ∙ sym (same w);
    those = λ w. s.those w ∙ ap (option_map (view_row w)) (sym (others w));
  }

  -- a buffer comes
  pub stands-made : (size : ℕ) (ticket : Option ℕ) (row : BufferRow) → row_bytes row ≡ Some (replicate size 0) → option_map (λ t. t.0) row.ticket ≡ ticket
      → ((w : ℕ) → buffer_row_at w rows' ≡ cond (nat_eq v w) (Some (buffer_row w row)) (buffer_row_at w rows)) → Stands rows' views (with_buffer v size ticket b)
  stands-made size ticket row zeros told put =
      record {
        buffers = rising-with_record (λ r. r.value) new b.buffers s.buffers;
        views = s.views;
        each = λ w. found-with_record (λ r. r.value) w new b.buffers ∙ ap (λ o. cond (v == w) (Some new) o) (s.each w) ∙ by w (nat_eq v w) refl ∙ sym (put w);
        those = s.those;
      }
    where
      new : ArrayBuffer
      new = record { value = v; bytes = Some (replicate size 0); ticket = ticket }

      here : (w : ℕ) → v ≡ w → new ≡ buffer_row w row
      here w is = same v w (Some (replicate size 0)) (row_bytes row) ticket (option_map (λ t. t.0) row.ticket) is (sym zeros) (sym told)
        where
          same : (m n : ℕ) (o p : Option (List ℕ)) (t u : Option ℕ) → m ≡ n → o ≡ p → t ≡ u
              → let r : ArrayBuffer = record { value = m; bytes = o; ticket = t } in r ≡ record { value = n; bytes = p; ticket = u }
          same m n o p t u e f g = cc

      by : (w : ℕ) (c : Bool) → nat_eq v w ≡ c → cond (v == w) (Some new) (buffer_row_at w rows) ≡ cond (nat_eq v w) (Some (buffer_row w row)) (buffer_row_at w rows)
      by w true is = ap (λ c. cond c (Some new) (buffer_row_at w rows)) (same-tests v w ∙ is) ∙ ap Some (here w (same-from v w is)) ∙ sym (ap (λ c. cond c (Some (buffer_row w row)) (buffer_row_at w rows)) is)
      by w false is = ap (λ c. cond c (Some new) (buffer_row_at w rows)) (same-tests v w ∙ is) ∙ sym (ap (λ c. cond c (Some (buffer_row w row)) (buffer_row_at w rows)) is)

  -- a buffer gets other bytes
  pub stands-changed : (change : Option (List ℕ) → Option (List ℕ))
      → ((w : ℕ) → buffer_row_at w rows' ≡ cond (nat_eq v w) (option_map (row_changed change) (buffer_row_at v rows)) (buffer_row_at w rows)) → Stands rows' views (buffer_changed_at change v b)
  stands-changed change changed =
      record {
        buffers = rising-changed (λ r. r.value) at_value keeps b.buffers s.buffers;
        views = s.views;
        each = λ w. found-map (λ r. r.value) at_value keeps w b.buffers ∙ one w (buffer_at b w) refl (nat_eq v w) refl ∙ sym (changed w);
        those = s.those;
      }
    where
      at_value : ArrayBuffer → ArrayBuffer
      at_value r = cond (r.value == v) (row_changed change r) r

      keeps : (r : ArrayBuffer) → (at_value r).value ≡ r.value
      keeps r = by (r.value == v)
        where
          by : (c : Bool) → (cond c (row_changed change r) r).value ≡ r.value
          by true = refl
          by false = refl

      one : (w : ℕ) (o : Option ArrayBuffer) → buffer_at b w ≡ o → (c : Bool) → nat_eq v w ≡ c
          → option_map at_value (buffer_at b w) ≡ cond (nat_eq v w) (option_map (row_changed change) (buffer_row_at v rows)) (buffer_row_at w rows)
      one w o is true here =
          let value : v ≡ w = same-from v w here in
          ap (option_map at_value) is ∙ at o (λ r told. found-number (λ q. q.value) w b.buffers r (is ∙ told) ∙ sym value)
          ∙ ap (option_map (row_changed change)) (sym is ∙ s.each w ∙ ap (λ n. buffer_row_at n rows) (sym value))
          ∙ sym (ap (λ c. cond c (option_map (row_changed change) (buffer_row_at v rows)) (buffer_row_at w rows)) here)
        where
          at : (p : Option ArrayBuffer) → ((r : ArrayBuffer) → p ≡ Some r → r.value ≡ v) → option_map at_value p ≡ option_map (row_changed change) p
          at None value = refl
          at (Some r) value = ap (λ c. Some (cond c (row_changed change r) r)) (ap (λ n. n == v) (value r refl) ∙ same-self v)
      one w o is false here =
          ap (option_map at_value) is ∙ apart o (λ r told. found-number (λ q. q.value) w b.buffers r (is ∙ told))
          ∙ sym is ∙ s.each w ∙ sym (ap (λ c. cond c (option_map (row_changed change) (buffer_row_at v rows)) (buffer_row_at w rows)) here)
        where
          apart : (p : Option ArrayBuffer) → ((r : ArrayBuffer) → p ≡ Some r → r.value ≡ w) → option_map at_value p ≡ p
          apart None value = refl
          apart (Some r) value = ap (λ c. Some (cond c (row_changed change r) r)) (ap (λ n. n == v) (value r refl) ∙ equal-tests w v ∙ here)

  -- a view comes
  pub stands-viewed : (about : ViewInfo) → ((w : ℕ) → lookup (nat_eq w) views' ≡ cond (nat_eq v w) (Some about) (lookup (nat_eq w) views)) → Stands rows views' (with_view v about b)
  stands-viewed about put =
      record {
        buffers = s.buffers;
        views = rising-with_record (λ w. w.value) (view_row v about) b.views s.views;
        each = s.each;
        those = λ w. found-with_record (λ u. u.value) w (view_row v about) b.views ∙ ap (λ o. cond (v == w) (Some (view_row v about)) o) (s.those w) ∙ by w (nat_eq v w) refl
            ∙ sym (ap (option_map (view_row w)) (put w));
      }
    where
      by : (w : ℕ) (c : Bool) → nat_eq v w ≡ c → cond (v == w) (Some (view_row v about)) (option_map (view_row w) (lookup (nat_eq w) views))
          ≡ option_map (view_row w) (cond (nat_eq v w) (Some about) (lookup (nat_eq w) views))
      by w true is =
          ap (λ c. cond c (Some (view_row v about)) (option_map (view_row w) (lookup (nat_eq w) views))) (same-tests v w ∙ is) ∙ ap (λ n. Some (view_row n about)) (same-from v w is)
          ∙ sym (ap (λ c. option_map (view_row w) (cond c (Some about) (lookup (nat_eq w) views))) is)
      by w false is =
          ap (λ c. cond c (Some (view_row v about)) (option_map (view_row w) (lookup (nat_eq w) views))) (same-tests v w ∙ is)
          ∙ sym (ap (λ c. option_map (view_row w) (cond c (Some about) (lookup (nat_eq w) views))) is)

  -- a value goes
  pub stands-gone : ((w : ℕ) → buffer_row_at w rows' ≡ cond (nat_eq v w) None (buffer_row_at w rows)) → ((w : ℕ) → lookup (nat_eq w) views' ≡ cond (nat_eq v w) None (lookup (nat_eq w) views))
      → Stands rows' views' (without_buffer v b)
  stands-gone taken removed =
      record {
        buffers = rising-filter (λ r. r.value) (λ r. not (r.value == v)) b.buffers s.buffers;
        views = rising-filter (λ w. w.value) (λ w. not (w.value == v)) b.views s.views;
        each = λ w. found-filter (λ r. r.value) (λ n. not (n == v)) w b.buffers ∙ ap (λ o. cond (not (w == v)) o None) (s.each w)
            ∙ left w (buffer_row_at w rows) ∙ sym (taken w);
        those = λ w. found-filter (λ u. u.value) (λ n. not (n == v)) w b.views ∙ ap (λ o. cond (not (w == v)) o None) (s.those w)
            ∙ left w (option_map (view_row w) (lookup (nat_eq w) views)) ∙ inside w (nat_eq v w) ∙ sym (ap (option_map (view_row w)) (removed w));
      }
    where
      left : {A : Type 0} → (w : ℕ) (o : Option A) → cond (not (w == v)) o None ≡ cond (nat_eq v w) None o
      left w o = ap (λ c. cond (not c) o None) (equal-tests w v) ∙ by (nat_eq v w)
        where
          by : (c : Bool) → cond (not c) o None ≡ cond c None o
          by true = refl
          by false = refl

      inside : (w : ℕ) (c : Bool) → cond c None (option_map (view_row w) (lookup (nat_eq w) views)) ≡ option_map (view_row w) (cond c None (lookup (nat_eq w) views))
      inside w true = refl
      inside w false = refl
